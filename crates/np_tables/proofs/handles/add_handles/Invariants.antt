use Rattle.np_tables.proofs.Prelude.{AllByRecursion, all_with_handle, drop, has_place, rows_of, true, ◌≡◌}
use Rattle.np_tables.proofs.handles.add_handles.Given as goal

abbrev pub invariant-loop-semaphore : goal.invariant-loop-semaphore
invariant-loop-semaphore l = record {
  places : AllByRecursion (λ t. has_place l.job t ≡ true) l.handles.items;
  rest : all_with_handle l.job (drop l.semaphore-index l.semaphores) (rows_of l.handles.items) ≡ all_with_handle l.job l.semaphores (rows_of l.initial.handles.items);
}
