use Rattle.np_tree_nodes.proofs.Prelude.{CanUndo, marks_before, nodes_before, vec_len, ◌≡◌}
use Rattle.np_tree_nodes.proofs.lists.NodeLists.roll_back.Given as goal

abbrev pub invariant-loop-edit : goal.invariant-loop-edit
invariant-loop-edit l = record {
  nodes : nodes_before l.self.undo.items l.self.nodes ≡ nodes_before l.initial.self.undo.items l.initial.self.nodes;
  marks : marks_before l.self.undo.items l.self.marks ≡ marks_before l.initial.self.undo.items l.initial.self.marks;
  can : CanUndo l.self.undo.items l.self.nodes l.self.marks;
}

abbrev pub decreases-loop-edit : goal.decreases-loop-edit
decreases-loop-edit l = vec_len l.self.undo
