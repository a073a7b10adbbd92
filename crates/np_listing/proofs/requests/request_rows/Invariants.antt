use Rattle.np_listing.proofs.Prelude.{drop, map, request_row, request_rows, request_view, ◌++◌, ◌≡◌}
use Rattle.np_listing.proofs.requests.request_rows.Given as goal

abbrev pub invariant-loop-at : goal.invariant-loop-at
invariant-loop-at g l = l.table.items ++ map (λ e. request_row (g.R.Rows.site l.rows) (request_view e)) (drop l.at (g.R.Rows.state l.rows).requests)
    ≡ request_rows (g.R.Rows.site l.rows) (g.R.Rows.state l.rows)
