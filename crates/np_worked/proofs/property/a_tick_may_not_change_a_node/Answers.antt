use Rattle.np_worked.proofs.Prelude.{NodeState, arith, held_node, node, refl}
use Rattle.np_worked.proofs.property.a_tick_may_not_change_a_node.Goals as goal

pub returns : goal.returns
returns c = λ fenced. grind (arith, fenced (node 0) (held_node NodeState.Ready).kept refl)
