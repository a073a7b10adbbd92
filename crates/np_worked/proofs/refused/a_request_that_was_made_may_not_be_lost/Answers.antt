use Rattle.np_worked.proofs.Prelude.{arith, refl, request}
use Rattle.np_worked.proofs.refused.a_request_that_was_made_may_not_be_lost.Goals as goal

pub returns : goal.returns
returns c = record {
  job = λ kept. grind (arith, kept.0 (request 0) refl);
  min_ready = λ kept. grind (arith, kept.0 (request 0) refl);
  later = λ kept. grind (arith, kept.1.0 (request 0) refl);
  crash = λ kept. grind (arith, kept.0 (request 0) refl);
  expiry = λ kept. grind (arith, kept.0 (request 0) refl);
  early = λ kept. grind (arith, kept.1.0 (request 0) refl);
}
