use Rattle.np_causes.proofs.Prelude.{count_by, drop, is_near, requests_near, ◌+◌, ◌≡◌, ◌≤◌}
use Rattle.np_causes.proofs.near.requests_near.Given as goal

abbrev pub invariant-loop-at : goal.invariant-loop-at
invariant-loop-at g l = record {
  few : l.count ≤ l.at;
  all : l.count + count_by (is_near (g.R.Rows.site l.rows) (g.R.Rows.state l.rows) l.pool) (drop l.at (g.R.Rows.state l.rows).requests) ≡ requests_near (g.R.Rows.site l.rows) (g.R.Rows.state l.rows) l.pool;
}
