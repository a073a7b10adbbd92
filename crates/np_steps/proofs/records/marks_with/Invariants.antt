use Rattle.np_steps.proofs.Prelude.{map, marked, take, ◌≡◌}
use Rattle.np_steps.proofs.records.marks_with.Given as goal

abbrev pub invariant-loop-mark : goal.invariant-loop-mark
invariant-loop-mark l = l.row ≡ map (marked l.node) (take l.mark-index l.marks)
