use Rattle.np_listing.proofs.Prelude.{drop, numbered, session_row, session_rows, ◌++◌, ◌+◌, ◌≡◌}
use Rattle.np_listing.proofs.sessions.session_rows.Given as goal

abbrev pub invariant-loop-at : goal.invariant-loop-at
invariant-loop-at g l =
    l.table.items ++ numbered (λ n facts. session_row (g.R.Rows.site l.rows) (g.R.Rows.state l.rows) (record { 0 = n }) facts) (l.at + 1) (drop l.at (g.R.Rows.state l.rows).sessions)
    ≡ session_rows (g.R.Rows.site l.rows) (g.R.Rows.state l.rows)
