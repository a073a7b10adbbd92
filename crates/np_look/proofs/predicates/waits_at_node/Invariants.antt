use Rattle.np_look.proofs.Prelude.{drop, is_queued, length, node_queue, ◌-◌, ◌≡◌, ◌≤◌}
use Rattle.np_look.proofs.predicates.waits_at_node.Given as goal

abbrev pub invariant-loop-other : goal.invariant-loop-other
invariant-loop-other g l = record {
  within : l.at ≤ length (node_queue l.node (g.R.Rows.state l.rows).nodes);
  all : is_queued l.session (drop l.at (node_queue l.node (g.R.Rows.state l.rows).nodes)) ≡ is_queued l.session (node_queue l.node (g.R.Rows.state l.rows).nodes);
}

abbrev pub decreases-loop-other : goal.decreases-loop-other
decreases-loop-other g l = length (node_queue l.node (g.R.Rows.state l.rows).nodes) - l.at
