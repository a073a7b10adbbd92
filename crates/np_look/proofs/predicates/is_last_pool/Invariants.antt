use Rattle.np_look.proofs.Prelude.{drop, is_last_pool, ◌≡◌}
use Rattle.np_look.proofs.predicates.is_last_pool.Given as goal

abbrev pub invariant-loop-at : goal.invariant-loop-at
invariant-loop-at g l = is_last_pool (drop l.at (g.R.Rows.state l.rows).registrations) l.kept l.pool ≡ is_last_pool (g.R.Rows.state l.rows).registrations l.kept l.pool
