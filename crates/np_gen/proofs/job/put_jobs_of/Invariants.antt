use Rattle.np_gen.proofs.Prelude.{drawn_jobs, jobs_from, jobs_of, ◌++◌, ◌-◌, ◌≡◌}
use Rattle.np_gen.proofs.job.put_jobs_of.Given as goal

abbrev pub invariant-loop-number : goal.invariant-loop-number
invariant-loop-number l = l.rows.items ++ jobs_of l.requester (jobs_from (l.jobs - l.number) l.number l.state) ≡ l.initial.rows.items ++ jobs_of l.requester (drawn_jobs l.jobs)
