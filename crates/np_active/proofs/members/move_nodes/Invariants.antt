use Rattle.np_active.proofs.Prelude.{drop, groups_within, is_node_before, length, same_node, suc, vec_capacity, with_all_moved, ◌*◌, ◌-◌, ◌≡◌, ◌≤◌}
use Rattle.np_active.proofs.members.move_nodes.Given as goal

abbrev pub invariant-loop-past : goal.invariant-loop-past
invariant-loop-past g l = record {
  members :
      with_all_moved is_node_before same_node (groups_within (g.R.Rows.site l.rows) (g.R.Rows.state l.rows) l.most) (drop l.past-index l.moved) l.groups.members
      ≡ with_all_moved is_node_before same_node (groups_within (g.R.Rows.site l.rows) (g.R.Rows.state l.rows) l.most) l.moved l.initial.groups.members;
  room : (length l.moved - l.past-index) * suc l.most ≤ l.groups.room;
  list : suc l.most ≤ vec_capacity l.list;
}
