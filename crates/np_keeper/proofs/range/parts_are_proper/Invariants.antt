use Rattle.np_keeper.proofs.Prelude.{AllByRecursion, IsPart, take}
use Rattle.np_keeper.proofs.range.parts_are_proper.Given as goal

abbrev pub invariant-loop-part : goal.invariant-loop-part
invariant-loop-part l = AllByRecursion IsPart (take l.part-index l.parts)
