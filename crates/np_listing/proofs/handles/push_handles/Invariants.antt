use Rattle.np_listing.proofs.Prelude.{drop, handle_row, handle_rows_of, handles_of, map, ◌++◌, ◌≡◌}
use Rattle.np_listing.proofs.handles.push_handles.Given as goal

abbrev pub invariant-loop-at : goal.invariant-loop-at
invariant-loop-at g l =
    l.table.items ++ map (handle_row (g.R.Rows.site l.rows) l.semaphore) (drop l.at (handles_of l.semaphore (g.R.Rows.state l.rows).handles))
    ≡ l.fn.table.items ++ handle_rows_of (g.R.Rows.site l.rows) (g.R.Rows.state l.rows) l.number
