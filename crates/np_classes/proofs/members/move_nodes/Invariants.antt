use Rattle.np_classes.proofs.Prelude.{drop, groups_of_node, is_node_before, map, node_before, same_node, with_all_moved, ◌*◌, ◌+◌, ◌≡◌, ◌≤◌}
use Rattle.np_classes.proofs.members.move_nodes.Given as goal

abbrev pub invariant-loop-past : goal.invariant-loop-past
invariant-loop-past g l = record {
  members :
      with_all_moved is_node_before same_node (groups_of_node (g.R.Rows.site l.rows) (g.R.Rows.state l.rows)) (map node_before (drop l.past-index l.moved)) l.groups.members
      ≡ with_all_moved is_node_before same_node (groups_of_node (g.R.Rows.site l.rows) (g.R.Rows.state l.rows)) (map node_before l.moved) l.initial.groups.members;
  room : l.initial.groups.room ≤ l.groups.room + 5 * l.past-index;
}
