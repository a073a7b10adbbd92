use Rattle.np_listing.proofs.Prelude.{map, range_with_len, width, ◌≡◌}
use Rattle.np_listing.proofs.columns.widths.Given as goal

abbrev pub invariant-loop-column : goal.invariant-loop-column
invariant-loop-column l = l.widths.items ≡ map (width l.rows) (range_with_len 0 l.column)
