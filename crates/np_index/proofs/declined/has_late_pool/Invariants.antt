use Rattle.np_index.proofs.Prelude.{drop, is_late, list_any, ◌≡◌}
use Rattle.np_index.proofs.declined.has_late_pool.Given as goal

abbrev pub invariant-loop-at : goal.invariant-loop-at
invariant-loop-at g l = list_any is_late (drop l.at (g.R.Rows.state l.rows).registrations) ≡ list_any is_late (g.R.Rows.state l.rows).registrations
