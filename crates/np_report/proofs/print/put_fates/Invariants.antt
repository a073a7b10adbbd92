use Rattle.np_report.proofs.Prelude.{drop, length, ◌++◌, ◌-◌, ◌≡◌, ◌≤◌}
use Rattle.np_report.proofs.Rows.{lines_from}
use Rattle.np_report.proofs.print.put_fates.Given as goal

abbrev pub invariant-loop-job : goal.invariant-loop-job
invariant-loop-job g l = record {
  within : l.at ≤ length l.config.jobs;
  few : length l.config.jobs ≤ 4096;
  put : l.out.items ++ lines_from l.config (g.R.Rows.state l.rows) l.at (drop l.at l.config.jobs) (drop l.at (g.R.Rows.state l.rows).jobs)
      ≡ l.fn.out.items ++ lines_from l.config (g.R.Rows.state l.rows) 0 l.config.jobs (g.R.Rows.state l.rows).jobs;
}

abbrev pub decreases-loop-job : goal.decreases-loop-job
decreases-loop-job g l = length l.config.jobs - l.at
