use Rattle.np_tree_nodes.proofs.Prelude.{None, Some, is_owned, mark_place, slice_get, subst, sym, true, ℕ, [], ◌∙◌, ◌≡◌}
use Rattle.np_tree_nodes.proofs.KeptLemmas.{IsSplit-mark}
use Rattle.np_tree_nodes.proofs.PlanLemmas.{EndsOne-removal, TakesMark-first, mark-not_absent, mark-owner, nodes_after_end-all, session-not}
use Rattle.np_tree_nodes.proofs.lists.NodeLists.first_removal.Goals as goal

pub place-place-requires : goal.place-place-requires
place-place-requires c = record { split = IsSplit-mark c.args.session [] c.args.self.now.marks c.requires.ranked }

pub returns-in_err-mark : goal.returns-in_err-mark
returns-in_err-mark c =
    let marks = c.args.self.now.marks in
    let place : c.place-place.result ≡ mark_place c.args.session [] marks = c.place-place.ensures in
    let past : slice_get marks (mark_place c.args.session [] marks) ≡ None = rw (← place) (sym c.in_err-mark.ensures) in
    rw c.from_residual.ensures (nodes_after_end-all c.args.change c.args.session c.args.self.now.nodes marks c.requires (λ m there. absurd (let e : Some m ≡ None = sym there ∙ past in cc)))

pub returns-then-mark-session : goal.returns-then-mark-session
returns-then-mark-session c =
    let marks = c.args.self.now.marks in
    let mark = c.in_ok-mark.mark.now in
    let place : c.place-place.result ≡ mark_place c.args.session [] marks = c.place-place.ensures in
    let there : slice_get marks (mark_place c.args.session [] marks) ≡ Some mark = rw (← place) (sym c.in_ok-mark.ensures) in
    nodes_after_end-all c.args.change c.args.session c.args.self.now.nodes marks c.requires (λ m here. session-not c.args.session mark m (let e : Some mark ≡ Some m = sym there ∙ here in cc) c.if-mark-session.true)

pub unreachable-requires : goal.unreachable-requires
unreachable-requires c =
    mark-not_absent c.place-place.result c.in_ok-mark.mark.now c.args.self.now.nodes c.args.self.now.marks c.requires (sym c.in_ok-mark.ensures) (rw c.text.ensures.text at c.in_default.ensures)

pub removal_with-requires-clause-mark : goal.removal_with-requires-clause-mark
removal_with-requires-clause-mark c =
    let place = rw c.text.ensures.text at c.in-Some.ensures in
    TakesMark-first c.place-place.result c.in_ok-mark.mark.now c.in-Some.found.node.now c.args.self.now.nodes c.args.self.now.marks c.requires (sym c.in_ok-mark.ensures) place.found place.at

pub returns : goal.returns
returns c =
    let mark = c.in_ok-mark.mark.now in
    let node = c.in-Some.found.node.now in
    let place = rw c.text.ensures.text at c.in-Some.ensures in
    let owned = subst (λ (s : ℕ). is_owned s node ≡ true) c.if-mark-session.false (mark-owner c.place-place.result mark node c.args.self.now.nodes c.args.self.now.marks c.requires (sym c.in_ok-mark.ensures) place.found) in
    EndsOne-removal c.args.change c.args.session c.place-place.result c.in-Some.found.place node mark c.args.self.now.nodes c.args.self.now.marks c.removal_with.result c.requires (sym c.in_ok-mark.ensures) place.item owned
    c.removal_with.ensures.plan c.removal_with.ensures.mark
