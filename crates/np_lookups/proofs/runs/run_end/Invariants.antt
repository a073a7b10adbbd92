use Rattle.np_lookups.proofs.Prelude.{false, is_run, length, ranks_of, true, ◌+◌, ◌-◌, ◌<◌, ◌≡◌, ◌≤◌, ◌⊎◌}
use Rattle.np_lookups.proofs.runs.run_end.Given as goal

abbrev pub invariant-loop-low : goal.invariant-loop-low
invariant-loop-low l = record {
  some : l.place < l.low;
  order : l.low ≤ l.high;
  within : l.high ≤ length (ranks_of l.line l.groups.members);
  run : (l.low ≡ l.place + 1) ⊎ (is_run l.line l.group l.groups.members l.place l.low ≡ true);
  longest : (l.high ≡ length (ranks_of l.line l.groups.members)) ⊎ (is_run l.line l.group l.groups.members l.place (l.high + 1) ≡ false);
}

abbrev pub decreases-loop-low : goal.decreases-loop-low
decreases-loop-low l = l.high - l.low
