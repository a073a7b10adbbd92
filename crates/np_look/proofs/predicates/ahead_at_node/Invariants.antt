use Rattle.np_look.proofs.Prelude.{ahead_of, drop, length, node_queue, ◌+◌, ◌-◌, ◌≡◌, ◌≤◌}
use Rattle.np_look.proofs.predicates.ahead_at_node.Given as goal

abbrev pub invariant-loop-other : goal.invariant-loop-other
invariant-loop-other g l = record {
  within : l.ahead ≤ length (node_queue l.node (g.R.Rows.state l.rows).nodes);
  all : l.ahead + ahead_of l.session (drop l.ahead (node_queue l.node (g.R.Rows.state l.rows).nodes)) ≡ ahead_of l.session (node_queue l.node (g.R.Rows.state l.rows).nodes);
}

abbrev pub decreases-loop-other : goal.decreases-loop-other
decreases-loop-other g l = length (node_queue l.node (g.R.Rows.state l.rows).nodes) - l.ahead
