use Rattle.np_worked.proofs.Prelude.{arith, refl}
use Rattle.np_worked.proofs.refused.a_semaphore_has_at_most_its_handles.Goals as goal

pub returns-clause-full : goal.returns-clause-full
returns-clause-full c = λ within. grind (arith, within (record { 0 = 0 }) _ refl)

pub returns-clause-twice : goal.returns-clause-twice
returns-clause-twice c = λ within. grind (arith, within (record { 0 = 0 }) _ refl)
