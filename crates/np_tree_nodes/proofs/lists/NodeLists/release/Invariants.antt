use Rattle.np_tree_nodes.proofs.Prelude.{IsKept, length, nodes_after_end, ◌≡◌}
use Rattle.np_tree_nodes.proofs.lists.NodeLists.release.Given as goal

abbrev pub invariant-loop-edit : goal.invariant-loop-edit
invariant-loop-edit l = record {
  ended : nodes_after_end l.change l.session l.self.nodes ≡ nodes_after_end l.change l.session l.initial.self.nodes;
  kept : IsKept l.self.nodes l.self.marks;
  undo : l.self.undo ≡ l.initial.self.undo;
}

abbrev pub decreases-loop-edit : goal.decreases-loop-edit
decreases-loop-edit l = length l.self.marks
