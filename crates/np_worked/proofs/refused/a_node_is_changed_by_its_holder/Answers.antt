use Rattle.np_worked.proofs.Prelude.{arith, inl, node, refl, session, was}
use Rattle.np_worked.proofs.refused.a_node_is_changed_by_its_holder.Goals as goal

pub returns : goal.returns
returns c = record {
  deletion = λ fenced. grind (arith, fenced (node 0) was refl);
  removal = λ fenced. grind (arith, fenced (node 0) was refl);
  expiry = λ fenced. grind (arith, fenced (node 0) was refl);
  holder = record { session = session 1; makes = refl; holds = inl refl };
  every = λ site journal fenced. fenced;
}
