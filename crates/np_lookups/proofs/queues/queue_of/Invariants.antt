use Rattle.np_lookups.proofs.Prelude.{length, node_queue, take, vec_len, ◌-◌, ◌≡◌, ◌≤◌}
use Rattle.np_lookups.proofs.queues.queue_of.Given as goal

abbrev pub invariant-loop-session : goal.invariant-loop-session
invariant-loop-session g l = record {
  within : vec_len l.queue ≤ length (node_queue l.node (g.R.Rows.state l.rows).nodes);
  all : l.queue.items ≡ take (vec_len l.queue) (node_queue l.node (g.R.Rows.state l.rows).nodes);
}

abbrev pub decreases-loop-session : goal.decreases-loop-session
decreases-loop-session g l = length (node_queue l.node (g.R.Rows.state l.rows).nodes) - vec_len l.queue
