use Rattle.np_listing.proofs.Prelude.{cells_text, drop, ◌++◌, ◌≡◌}
use Rattle.np_listing.proofs.columns.put_cells.Given as goal

abbrev pub invariant-loop-column : goal.invariant-loop-column
invariant-loop-column l = l.out.items ++ cells_text l.widths l.column (drop l.column l.row) ≡ l.fn.out.items ++ cells_text l.widths 0 l.row
