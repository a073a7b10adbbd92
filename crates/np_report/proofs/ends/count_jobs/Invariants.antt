use Rattle.np_report.proofs.Prelude.{length, ◌-◌, ◌≤◌}
use Rattle.np_report.proofs.ends.count_jobs.Given as goal

abbrev pub invariant-loop-at : goal.invariant-loop-at
invariant-loop-at g l = record {
  within : l.at ≤ length (g.R.Rows.state l.rows).jobs;
  few : length (g.R.Rows.state l.rows).jobs ≤ 4096;
}

abbrev pub decreases-loop-at : goal.decreases-loop-at
decreases-loop-at g l = length (g.R.Rows.state l.rows).jobs - l.at
