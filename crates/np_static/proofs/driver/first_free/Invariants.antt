use Rattle.np_static.proofs.Prelude.{length, slice_index, ℕ, ◌-◌, ◌<◌, ◌≤◌}
use Rattle.np_static.proofs.driver.first_free.Given as goal

abbrev pub invariant-loop-host : goal.invariant-loop-host
invariant-loop-host l = record {
  low : l.from ≤ l.host;
  high : l.host ≤ length l.hosts;
  full : (h : ℕ) → l.from ≤ h → h < l.host → slice_index l.hosts h ≤ slice_index l.loads h;
}

abbrev pub decreases-loop-host : goal.decreases-loop-host
decreases-loop-host l = length l.hosts - l.host
