use Rattle.np_decision.proofs.Prelude.{arith, common_steps}
use Rattle.np_decision.proofs.request.decide_accept.Goals as goal

pub returns-in-Some-clause-answer : goal.returns-in-Some-clause-answer
returns-in-Some-clause-answer g c = rw (← c.rows-rows.ensures.site, ← c.rows-rows.ensures.state) (grind (arith, common_steps))
