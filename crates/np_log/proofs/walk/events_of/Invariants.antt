use Rattle.np_log.proofs.Prelude.{drop, events_of, length, lines_of, ◌-◌, ◌≡◌, ◌≤◌}
use Rattle.np_log.proofs.Walks.{events_then}
use Rattle.np_log.proofs.walk.events_of.Given as goal

-- the events so far, and then those of the lines that are left, are those of all lines
abbrev pub invariant-loop-start : goal.invariant-loop-start
invariant-loop-start l = record {
  within : l.from ≤ length l.text;
  same : events_then l.events.items (events_of (lines_of (drop l.from l.text))) ≡ events_of (lines_of l.text);
}

abbrev pub decreases-loop-start : goal.decreases-loop-start
decreases-loop-start l = length l.text - l.from
