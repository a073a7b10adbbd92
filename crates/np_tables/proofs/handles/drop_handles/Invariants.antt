use Rattle.np_tables.proofs.Prelude.{all_without_handle, drop, rows_of, ◌≡◌}
use Rattle.np_tables.proofs.handles.drop_handles.Given as goal

abbrev pub invariant-loop-semaphore : goal.invariant-loop-semaphore
invariant-loop-semaphore l = all_without_handle l.job (drop l.semaphore-index l.semaphores) (rows_of l.handles.items) ≡ all_without_handle l.job l.semaphores (rows_of l.initial.handles.items)
