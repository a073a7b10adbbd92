use Rattle.np_top.proofs.Prelude.{drop, fate_of, length, map, some_waits, ◌-◌, ◌≡◌, ◌≤◌}
use Rattle.np_top.proofs.running.status_of.Given as goal

-- if a fate is waiting, it is one of those that were not looked at
abbrev pub invariant-loop-job : goal.invariant-loop-job
invariant-loop-job g l = record {
  within : l.at ≤ length (g.R.Rows.state l.rows).jobs;
  few : length (g.R.Rows.state l.rows).jobs ≤ 4096;
  left : some_waits (map (fate_of (g.R.Rows.state l.rows)) (drop l.at (g.R.Rows.state l.rows).jobs)) ≡ some_waits (map (fate_of (g.R.Rows.state l.rows)) (g.R.Rows.state l.rows).jobs);
}

abbrev pub decreases-loop-job : goal.decreases-loop-job
decreases-loop-job g l = length (g.R.Rows.state l.rows).jobs - l.at
