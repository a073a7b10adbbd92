use Rattle.np_worked.proofs.Prelude.{arith, node, refl, session}
use Rattle.np_worked.proofs.property.two_holders_are_not_safe.Goals as goal

pub returns : goal.returns
returns c = λ safe. grind (arith, safe.one_holder.of_node (node 0) (session 1) (session 2) refl refl)
