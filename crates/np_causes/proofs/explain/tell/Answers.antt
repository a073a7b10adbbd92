use Rattle.np_causes.proofs.Growing.{push_grows, push_sound, push_told}
use Rattle.np_causes.proofs.explain.tell.Goals as goal

pub returns-then-is_told-clause-told : goal.returns-then-is_told-clause-told
returns-then-is_told-clause-told g c = rw c.in-Some.is (rw c.as_slice.ensures.value at (c.is_told.ensures c.if-is_told.true))

pub returns-clause-sound : goal.returns-clause-sound
returns-clause-sound g c =
    rw c.in_ok-push.ensures.items
    (push_sound (g.L.Look.site c.args.look.now) (g.L.Look.state c.args.look.now) c.args.job c.args.facts.now.items c.fact_of-fact.result c.in-Some.thing
    c.requires.sound (rw c.in-Some.is at c.requires.named) c.fact_of-fact.ensures)

pub returns-clause-grows : goal.returns-clause-grows
returns-clause-grows g c = rw c.in_ok-push.ensures.items (push_grows c.args.facts.now.items c.fact_of-fact.result)

pub returns-clause-told : goal.returns-clause-told
returns-clause-told g c =
    rw c.in-Some.is (rw c.in_ok-push.ensures.items (push_told c.args.facts.now.items c.fact_of-fact.result c.in-Some.thing c.fact_of-fact.ensures.about))
