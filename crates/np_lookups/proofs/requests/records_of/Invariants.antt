use Rattle.np_lookups.proofs.Prelude.{drop, map, past_of, ◌++◌, ◌≡◌}
use Rattle.np_lookups.proofs.requests.records_of.Given as goal

abbrev pub invariant-loop-request : goal.invariant-loop-request
invariant-loop-request g l =
    l.moved.items ++ map (past_of (g.R.Rows.state l.rows)) (drop l.request-index l.requests) ≡ map (past_of (g.R.Rows.state l.rows)) l.requests
