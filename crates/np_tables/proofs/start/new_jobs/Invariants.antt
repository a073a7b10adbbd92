use Rattle.np_tables.proofs.Prelude.{new_job, replicate, ◌≡◌}
use Rattle.np_tables.proofs.start.new_jobs.Given as goal

abbrev pub invariant-loop-at : goal.invariant-loop-at
invariant-loop-at l = l.jobs.items ≡ replicate l._at new_job
