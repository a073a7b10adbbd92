use Rattle.np_check.proofs.Prelude.{filter, is_true, of_job, places, ◌++◌, ◌≡◌}
use Rattle.np_check.proofs.find.add_jobs.Given as goal

abbrev pub invariant-loop-at : goal.invariant-loop-at
invariant-loop-at l = l.out.items ≡ l.fn.out.items ++ filter (is_true l.config) (places of_job l.at)
