use Rattle.np_decision.proofs.Prelude.{arith, common_steps}
use Rattle.np_decision.proofs.decision.decide.Goals as goal

pub returns-in-UnlockRequest-clause-answer : goal.returns-in-UnlockRequest-clause-answer
returns-in-UnlockRequest-clause-answer g c = rw (← c.rows-rows.ensures.site, ← c.rows-rows.ensures.state) (grind (arith, common_steps))
