use Rattle.np_steps.proofs.Prelude.{drop, ◌++◌, ◌≡◌}
use Rattle.np_steps.proofs.RecordRows.{handle_parts}
use Rattle.np_steps.proofs.grow.push_each_handle.Given as goal

abbrev pub invariant-loop-semaphore : goal.invariant-loop-semaphore
invariant-loop-semaphore g l =
    l.ops.items ++ handle_parts l.job (drop l.semaphore-index l.semaphores) (g.R.Rows.state l.rows).handles
    ≡ l.initial.ops.items ++ handle_parts l.job l.semaphores (g.R.Rows.state l.rows).handles
