use Rattle.np_tree_rows.proofs.Prelude.{IsStored, State, handles_of, length, slice_get, ◌-◌, ◌≡◌, ◌≤◌}
use Rattle.np_tree_rows.proofs.Registered.{from_number, number_of_job}
use Rattle.np_tree_rows.proofs.semaphores.handle_at.Given as goal

abbrev pub invariant-loop-job : goal.invariant-loop-job
invariant-loop-job l = record {
  within : l.number ≤ length l.config.jobs;
  few : length l.config.jobs ≤ 4096;
  rest : (s : State) → IsStored l.config s l.tree → slice_get (from_number number_of_job l.number (handles_of l.semaphore s.handles)) l.left ≡ slice_get (handles_of l.semaphore s.handles) l.at;
}

abbrev pub decreases-loop-job : goal.decreases-loop-job
decreases-loop-job l = length l.config.jobs - l.number
