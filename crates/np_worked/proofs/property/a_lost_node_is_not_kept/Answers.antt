use Rattle.np_worked.proofs.Prelude.{arith, node, refl}
use Rattle.np_worked.proofs.property.a_lost_node_is_not_kept.Goals as goal

pub returns : goal.returns
returns c = λ kept. grind (arith, kept.nodes.0 (node 0) refl)
