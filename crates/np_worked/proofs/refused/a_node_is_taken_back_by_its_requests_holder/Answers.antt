use Rattle.np_worked.proofs.Prelude.{arith, node, of_request_1, refl, session, was}
use Rattle.np_worked.proofs.refused.a_node_is_taken_back_by_its_requests_holder.Goals as goal

pub returns : goal.returns
returns c = record {
  declined = λ fenced. grind (arith, fenced (node 0) was refl);
  reset = λ fenced. grind (arith, fenced (node 0) was refl);
  other_declined = λ fenced. grind (arith, fenced (node 0) of_request_1 refl);
  other_reset = λ fenced. grind (arith, fenced (node 0) of_request_1 refl);
  kept_declined = λ fenced. grind (arith, fenced (node 0) was refl);
  kept_reset = λ fenced. grind (arith, fenced (node 0) was refl);
  holder_declines = record { session = session 1; makes = refl; holds = refl; allocated = refl; after = refl };
  holder_resets = record { session = session 1; makes = refl; holds = refl; allocated = refl; after = refl };
}
