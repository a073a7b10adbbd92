use Rattle.np_keeper.proofs.Prelude.{length, node_queue, take, ◌-◌, ◌≡◌, ◌≤◌}
use Rattle.np_keeper.proofs.queue.node_queue_of.Given as goal

abbrev pub invariant-loop-session : goal.invariant-loop-session
invariant-loop-session g l = record {
  within : l.at ≤ length (node_queue l.node (g.R.Rows.state l.rows).nodes);
  copied : l.queue ≡ take l.at (node_queue l.node (g.R.Rows.state l.rows).nodes);
}

abbrev pub decreases-loop-session : goal.decreases-loop-session
decreases-loop-session g l = length (node_queue l.node (g.R.Rows.state l.rows).nodes) - l.at
