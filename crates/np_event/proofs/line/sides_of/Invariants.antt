use Rattle.np_event.proofs.Prelude.{behind, drop, sides_of, take, ◌≡◌}
use Rattle.np_event.proofs.line.sides_of.Given as goal

abbrev pub invariant-loop-at : goal.invariant-loop-at
invariant-loop-at l = behind (take l.at l.line) (sides_of (drop l.at l.line)) ≡ sides_of l.line
