use Rattle.np_listing.proofs.Prelude.{drop, max, width, ◌≡◌}
use Rattle.np_listing.proofs.columns.width.Given as goal

abbrev pub invariant-loop-row : goal.invariant-loop-row
invariant-loop-row l = max (width (drop l.row-index l.rows) l.column) l.most ≡ width l.rows l.column
