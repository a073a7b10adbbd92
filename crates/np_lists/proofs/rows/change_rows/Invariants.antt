use Rattle.np_lists.proofs.Prelude.{drop, map, take, ◌++◌, ◌≡◌}
use Rattle.np_lists.proofs.rows.change_rows.Given as goal

abbrev pub invariant-loop-row : goal.invariant-loop-row
invariant-loop-row g l = l.row-items ≡ map (g.C.RowChange.after l.change) (take l.row-index l.initial.row-items) ++ drop l.row-index l.initial.row-items
