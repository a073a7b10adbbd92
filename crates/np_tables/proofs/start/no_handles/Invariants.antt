use Rattle.np_tables.proofs.Prelude.{JobId, List, replicate, rows_of, [], ◌≡◌}
use Rattle.np_tables.proofs.start.no_handles.Given as goal

abbrev pub invariant-loop-at : goal.invariant-loop-at
invariant-loop-at l = rows_of l.handles.items ≡ replicate {A = List JobId} l._at []
