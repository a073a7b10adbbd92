use Rattle.np_report.proofs.Prelude.{count_by, drop, fate_of, is_end, length, map, ◌+◌, ◌-◌, ◌≡◌, ◌≤◌}
use Rattle.np_report.proofs.ends.count_ends.Given as goal

abbrev pub invariant-loop-job : goal.invariant-loop-job
invariant-loop-job g l = record {
  within : l.at ≤ length (g.R.Rows.state l.rows).jobs;
  few : length (g.R.Rows.state l.rows).jobs ≤ 4096;
  few_counted : l.count ≤ l.at;
  counted : l.count + count_by (is_end l.end) (map (fate_of (g.R.Rows.state l.rows)) (drop l.at (g.R.Rows.state l.rows).jobs)) ≡ count_by (is_end l.end) (map (fate_of (g.R.Rows.state l.rows)) (g.R.Rows.state l.rows).jobs);
}

abbrev pub decreases-loop-job : goal.decreases-loop-job
decreases-loop-job g l = length (g.R.Rows.state l.rows).jobs - l.at
