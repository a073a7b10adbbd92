use Rattle.np_active.proofs.Prelude.{locked_groups, node_queue, take, vec_capacity, vec_len, ◌++◌, ◌+◌, ◌≡◌, ◌≤◌}
use Rattle.np_active.proofs.past_given.list_sessions.Given as goal

abbrev pub invariant-loop-at : goal.invariant-loop-at
invariant-loop-at g l = record {
  items : l.list.items ≡ l.initial.list.items ++ locked_groups l.requester (take l.at (node_queue l.node (g.R.Rows.state l.rows).nodes));
  len : vec_len l.list ≤ vec_len l.initial.list + l.at;
  capacity : vec_capacity l.initial.list ≤ vec_capacity l.list;
}
