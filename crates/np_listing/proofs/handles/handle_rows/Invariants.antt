use Rattle.np_listing.proofs.Prelude.{flat_map, handle_head, handle_rows_of, range_with_len, ◌∷◌, ◌≡◌}
use Rattle.np_listing.proofs.handles.handle_rows.Given as goal

abbrev pub invariant-loop-number : goal.invariant-loop-number
invariant-loop-number g l = l.table.items ≡ handle_head ∷ flat_map (handle_rows_of (g.R.Rows.site l.rows) (g.R.Rows.state l.rows)) (range_with_len 0 l.number)
