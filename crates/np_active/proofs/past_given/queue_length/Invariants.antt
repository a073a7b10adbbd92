use Rattle.np_active.proofs.Prelude.{length, node_queue, ◌-◌, ◌≤◌}
use Rattle.np_active.proofs.past_given.queue_length.Given as goal

abbrev pub invariant-loop-count : goal.invariant-loop-count
invariant-loop-count g l = l.count ≤ length (node_queue l.node (g.R.Rows.state l.rows).nodes)

abbrev pub decreases-loop-count : goal.decreases-loop-count
decreases-loop-count g l = length (node_queue l.node (g.R.Rows.state l.rows).nodes) - l.count
