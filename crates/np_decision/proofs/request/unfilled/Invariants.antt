use Rattle.np_decision.proofs.Prelude.{drop, unfilled, ◌+◌, ◌≡◌, ◌≤◌}
use Rattle.np_decision.proofs.request.unfilled.Given as goal

abbrev pub invariant-loop-at : goal.invariant-loop-at
invariant-loop-at g l = record {
  few : l.missing ≤ l.at;
  all : l.missing + unfilled l.pool l.session l.request (g.R.Rows.state l.rows).nodes (drop l.at l.asked.labels) (drop l.at l.asked.nodes) ≡ unfilled l.pool l.session l.request (g.R.Rows.state l.rows).nodes l.asked.labels l.asked.nodes;
}
