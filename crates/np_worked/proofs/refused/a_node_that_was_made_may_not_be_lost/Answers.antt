use Rattle.np_worked.proofs.Prelude.{arith, node, refl}
use Rattle.np_worked.proofs.refused.a_node_that_was_made_may_not_be_lost.Goals as goal

pub returns : goal.returns
returns c = record {
  made = λ kept. grind (arith, kept.0 (node 0) refl);
  later = λ kept. grind (arith, kept.1.0 (node 0) refl);
  crash = λ kept. grind (arith, kept.0 (node 0) refl);
  expiry = λ kept. grind (arith, kept.0 (node 0) refl);
  early = λ kept. grind (arith, kept.1.0 (node 0) refl);
}
