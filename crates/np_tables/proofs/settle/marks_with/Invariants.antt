use Rattle.np_tables.proofs.Prelude.{map, marked, take, ◌≡◌}
use Rattle.np_tables.proofs.settle.marks_with.Given as goal

abbrev pub invariant-loop-mark : goal.invariant-loop-mark
invariant-loop-mark l = l.row ≡ map (marked l.node) (take l.mark-index l.marks)
