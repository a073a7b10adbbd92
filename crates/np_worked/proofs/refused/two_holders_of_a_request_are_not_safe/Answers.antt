use Rattle.np_worked.proofs.Prelude.{arith, refl, request, session}
use Rattle.np_worked.proofs.refused.two_holders_of_a_request_are_not_safe.Goals as goal

pub returns : goal.returns
returns c = λ safe. grind (arith, safe.one_holder.of_request (request 0) (session 1) (session 2) (refl, refl) (refl, refl))
