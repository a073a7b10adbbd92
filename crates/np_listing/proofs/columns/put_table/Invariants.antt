use Rattle.np_listing.proofs.Prelude.{drop, flat_map, row_line, ◌++◌, ◌≡◌}
use Rattle.np_listing.proofs.columns.put_table.Given as goal

abbrev pub invariant-loop-row : goal.invariant-loop-row
invariant-loop-row l = l.out.items ++ flat_map (row_line l.widths.items) (drop l.row-index l.rows) ≡ l.fn.out.items ++ flat_map (row_line l.widths.items) l.rows
