use Rattle.np_top.proofs.Prelude.{AllByRecursion, Entry, IsTyped, take}
use Rattle.np_top.proofs.typed.numbers_are_within_their_types.Given as goal

abbrev pub invariant-loop-entry : goal.invariant-loop-entry
invariant-loop-entry l = AllByRecursion (λ (e : Entry). IsTyped e.event) (take l.entry-index l.journal)
