use Rattle.np_causes.proofs.Growing.{told_there}
use Rattle.np_causes.proofs.explain.is_told.Goals as goal

pub returns-then-is_same : goal.returns-then-is_same
returns-then-is_same c always =
    told_there c.args.facts.now c.loop-fact.fact-index c.args.thing c.about.result _ c.loop-fact-test.true c.about.ensures (c.is_same.ensures c.if-is_same.true)
