use Rattle.np_path.proofs.Walk.{IsWalked}
use Rattle.np_path.proofs.grammar.name_place.Given as goal

abbrev pub invariant-loop-at : goal.invariant-loop-at
invariant-loop-at l = IsWalked l.text l.start l.at
