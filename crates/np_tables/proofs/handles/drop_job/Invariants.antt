use Rattle.np_tables.proofs.Prelude.{length, without_handle, ◌≡◌}
use Rattle.np_tables.proofs.handles.drop_job.Given as goal

abbrev pub invariant-loop-job : goal.invariant-loop-job
invariant-loop-job l = without_handle l.job l.jobs.rows ≡ without_handle l.job l.initial.jobs.rows

abbrev pub decreases-loop-job : goal.decreases-loop-job
decreases-loop-job l = length l.jobs.rows
