use Rattle.np_report.proofs.Prelude.{events_told, length, lines_of, ◌++◌, ◌≡◌, ◌≤◌}
use Rattle.np_report.proofs.entries.leading_events.Given as goal

-- the events so far, before those of what is left, are those of the whole text
abbrev pub invariant-loop-rest : goal.invariant-loop-rest
invariant-loop-rest l = record {
  few : length l.events.items ≤ 262144;
  told : l.events.items ++ events_told (lines_of l.rest) ≡ events_told (lines_of l.text);
}

abbrev pub decreases-loop-rest : goal.decreases-loop-rest
decreases-loop-rest l = length l.rest
