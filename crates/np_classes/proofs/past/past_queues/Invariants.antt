use Rattle.np_classes.proofs.Prelude.{drop, map, past_queue, ◌++◌, ◌≡◌}
use Rattle.np_classes.proofs.past.past_queues.Given as goal

abbrev pub invariant-loop-request : goal.invariant-loop-request
invariant-loop-request g l =
    l.list.items ++ map (past_queue (g.R.Rows.state l.rows)) (drop l.request-index l.requests) ≡ map (past_queue (g.R.Rows.state l.rows)) l.requests
