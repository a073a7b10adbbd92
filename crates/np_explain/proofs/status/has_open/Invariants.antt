use Rattle.np_explain.proofs.Prelude.{drop, is_open, list_any, ◌≡◌}
use Rattle.np_explain.proofs.status.has_open.Given as goal

abbrev pub invariant-loop-at : goal.invariant-loop-at
invariant-loop-at g l = list_any is_open (drop l.at (g.R.Rows.state l.rows).jobs) ≡ list_any is_open (g.R.Rows.state l.rows).jobs
