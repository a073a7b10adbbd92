use Rattle.np_keeper.proofs.Prelude.{length, request_queue, take, ◌-◌, ◌≡◌, ◌≤◌}
use Rattle.np_keeper.proofs.queue.request_queue_of.Given as goal

abbrev pub invariant-loop-session : goal.invariant-loop-session
invariant-loop-session g l = record {
  within : l.at ≤ length (request_queue l.request (g.R.Rows.state l.rows).requests);
  copied : l.queue ≡ take l.at (request_queue l.request (g.R.Rows.state l.rows).requests);
}

abbrev pub decreases-loop-session : goal.decreases-loop-session
decreases-loop-session g l = length (request_queue l.request (g.R.Rows.state l.rows).requests) - l.at
