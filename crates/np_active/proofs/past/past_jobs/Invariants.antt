use Rattle.np_active.proofs.Prelude.{drop, map, past_job, ◌++◌, ◌≡◌}
use Rattle.np_active.proofs.past.past_jobs.Given as goal

abbrev pub invariant-loop-job : goal.invariant-loop-job
invariant-loop-job g l =
    l.list.items ++ map (past_job (g.R.Rows.site l.rows) (g.R.Rows.state l.rows) l.lines) (drop l.job-index l.jobs)
    ≡ map (past_job (g.R.Rows.site l.rows) (g.R.Rows.state l.rows) l.lines) l.jobs
