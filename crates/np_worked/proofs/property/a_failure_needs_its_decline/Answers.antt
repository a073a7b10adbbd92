use Rattle.np_worked.proofs.Prelude.{arith, pool, refl, session}
use Rattle.np_worked.specs.Site.{request}
use Rattle.np_worked.proofs.CausedLemmas.{has-declined}
use Rattle.np_worked.proofs.property.a_failure_needs_its_decline.Goals as goal

pub returns : goal.returns
returns c = λ caused.
    let cause = caused.1.1.1.1.1.0 (request 200 0) _ (record { before = refl; stands = refl; failed = refl }) in
    let by = has-declined _ _ _ (request 200 0) _ (record { pool = pool 0; session = session 1 }) (0, omega arith, refl) refl cause in
    grind (arith, by.made)
