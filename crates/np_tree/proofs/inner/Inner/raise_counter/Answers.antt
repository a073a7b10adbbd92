use Rattle.np_tree.proofs.Prelude.{after_raise, ap, change_node, refl, state_of, with_counter, ◌∙◌, ◌≡◌}
use Rattle.np_tree.proofs.CallLemmas.{Holds-of, IsTree-after_raise}
use Rattle.np_tree.proofs.inner.Inner.raise_counter.Goals as goal

pub returns-clause-holds : goal.returns-clause-holds
returns-clause-holds c =
    let path = c.in-Some.found.node.now.path in
    let nodes : c.make.new.self.nodes ≡ change_node path (with_counter c.args.to) c.args.self.now.lists.nodes = c.make.ensures.nodes ∙ c.raise-edit.ensures.made in
    Holds-of (record { alloc = c.args.self.now.alloc; lists = c.make.new.self; sessions = c.args.self.now.sessions; changes = c.args.self.now.changes }) (after_raise (state_of c.args.self.now) path c.args.to) (IsTree-after_raise (state_of c.args.self.now) path c.args.to c.requires.tree) refl nodes refl
    (rw (nodes, c.make.ensures.marks) c.raise-edit.ensures.kept) (ap (λ v. v.items) c.make.ensures.undo ∙ c.requires.undo)
