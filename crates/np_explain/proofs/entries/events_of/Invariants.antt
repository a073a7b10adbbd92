use Rattle.np_explain.proofs.Prelude.{length, ◌≤◌}
use Rattle.np_explain.proofs.entries.events_of.Given as goal

abbrev pub invariant-loop-at : goal.invariant-loop-at
invariant-loop-at l = length l.events.items ≤ l.at
