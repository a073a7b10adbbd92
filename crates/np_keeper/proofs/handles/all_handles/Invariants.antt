use Rattle.np_keeper.proofs.Prelude.{rows_of, take, ◌≡◌}
use Rattle.np_keeper.proofs.handles.all_handles.Given as goal

abbrev pub invariant-loop-number : goal.invariant-loop-number
invariant-loop-number g l = rows_of l.tables.items ≡ take l.number (g.R.Rows.state l.rows).handles
