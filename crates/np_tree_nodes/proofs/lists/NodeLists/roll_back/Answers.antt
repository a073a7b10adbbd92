use Rattle.np_tree_nodes.proofs.Prelude.{ap, ◌≡◌}
use Rattle.np_tree_nodes.proofs.PlanLemmas.{CanUndo-last, CanUndo-others, marks_before-push, nodes_before-push}
use Rattle.np_tree_nodes.proofs.lists.NodeLists.roll_back.Goals as goal

pub take_back-requires : goal.take_back-requires
take_back-requires c =
    CanUndo-last c.pop.new.self.items c.in-Some.edit c.loop-edit.self.nodes c.loop-edit.self.marks
    (rw c.in-Some.ensures.items at c.loop-edit.invariant.can)

pub loop-edit-preserved : goal.loop-edit-preserved
loop-edit-preserved c =
    let edit = c.in-Some.edit in
    let left = c.pop.new.self.items in
    let nodes = c.loop-edit.self.nodes in
    let marks = c.loop-edit.self.marks in
    let before = c.loop-edit.invariant in
    let undo : c.take_back.new.self.undo.items ≡ left = ap (λ v. v.items) c.take_back.ensures.undo in
    record {
      nodes = rw (undo, c.take_back.ensures.nodes, ← nodes_before-push left edit nodes, ← c.in-Some.ensures.items) before.nodes;
      marks = rw (undo, c.take_back.ensures.marks, ← marks_before-push left edit marks, ← c.in-Some.ensures.items) before.marks;
      can = rw (undo, c.take_back.ensures.nodes, c.take_back.ensures.marks) (CanUndo-others left edit nodes marks (rw c.in-Some.ensures.items at before.can));
    }
