use Rattle.np_decision.proofs.Prelude.{map, take, unended, ◌≡◌}
use Rattle.np_decision.proofs.semaphore.unended_marks.Given as goal

abbrev pub invariant-loop-node : goal.invariant-loop-node
invariant-loop-node l = l.row ≡ map unended (take l.node-index l.nodes)
