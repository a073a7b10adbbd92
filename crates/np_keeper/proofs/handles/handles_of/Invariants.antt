use Rattle.np_keeper.proofs.Prelude.{handles_of, take, ◌≡◌}
use Rattle.np_keeper.proofs.handles.handles_of.Given as goal

abbrev pub invariant-loop-at : goal.invariant-loop-at
invariant-loop-at g l = l.table.rows ≡ take l.at (handles_of l.semaphore (g.R.Rows.state l.rows).handles)
