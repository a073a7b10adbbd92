use Rattle.np_tree.proofs.CallLemmas.{SoFar}
use Rattle.np_tree.proofs.inner.Inner.parts.Given as goal

abbrev pub invariant-loop-index : goal.invariant-loop-index
invariant-loop-index l = SoFar l.initial.self l.self l.session l.ops l.index l.done.items
