use Rattle.np_tree.proofs.Prelude.{Inner, List, Node, after_multi, ap, state_of, sym, with_next_number, ◌∙◌, ◌≡◌}
use Rattle.np_tree.proofs.CallLemmas.{Holds-tree, IsTree-after_multi, after_multi-change, after_multi-checks}
use Rattle.np_tree.proofs.inner.Inner.multi.Goals as goal

pub returns-then-not-has_change-clause-ok : goal.returns-then-not-has_change-clause-ok
returns-then-not-has_change-clause-ok c =
    ap (λ (ns : List Node). record (state_of c.parts.new.self) { nodes = ns }) c.forget_undo.ensures.nodes
    ∙ c.in_default.ensures.ok
    ∙ after_multi-checks (state_of c.args.self.now) c.args.session c.args.ops.now (sym c.if-not-has_change.ensures)

pub returns-then-not-has_change-clause-holds : goal.returns-then-not-has_change-clause-holds
returns-then-not-has_change-clause-holds c =
    let t = state_of c.args.self.now in
    let left : Inner = record { alloc = c.parts.new.self.alloc; lists = c.forget_undo.new.self; sessions = c.parts.new.self.sessions; changes = c.parts.new.self.changes } in
    let same : state_of left ≡ after_multi t c.args.session c.args.ops.now =
    ap (λ (ns : List Node). record (state_of c.parts.new.self) { nodes = ns }) c.forget_undo.ensures.nodes
    ∙ c.in_default.ensures.ok
    ∙ after_multi-checks t c.args.session c.args.ops.now (sym c.if-not-has_change.ensures) in
    Holds-tree left (after_multi t c.args.session c.args.ops.now) (rw (c.forget_undo.ensures.nodes, c.forget_undo.ensures.marks) c.in_default.ensures.kept) same
    (IsTree-after_multi t c.args.session c.args.ops.now c.parts.new.done.items c.in_default.ensures.proper c.in_default.ensures.answer c.requires.holds.tree) c.forget_undo.ensures.undo

pub returns-clause-holds : goal.returns-clause-holds
returns-clause-holds c =
    let t = state_of c.args.self.now in
    Holds-tree c.settle.new.self (after_multi t c.args.session c.args.ops.now) c.settle.ensures.kept
    (c.settle.ensures.state ∙ ap with_next_number c.in_default.ensures.ok ∙ after_multi-change t c.args.session c.args.ops.now (sym c.if-not-has_change.ensures))
    (IsTree-after_multi t c.args.session c.args.ops.now c.parts.new.done.items c.in_default.ensures.proper c.in_default.ensures.answer c.requires.holds.tree) c.settle.ensures.undo
