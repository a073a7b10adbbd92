use Rattle.np_explain_lines.proofs.Prelude.{facts_of, inr}
use Rattle.np_explain_lines.proofs.Way.{again, more}
use Rattle.np_explain_lines.proofs.walk.tell.Goals as goal

pub returns-in-Some : goal.returns-in-Some
returns-in-Some g c =
    let found = rw c.as_slice.ensures.value at c.in-Some.ensures.1 in
    rw c.in_ok-push_link.ensures
    (again (g.L.Look.site c.args.look.now) (g.L.Look.state c.args.look.now) (facts_of c.args.links.now.items) c.args.pending.now.items c.args.next c.in-Some.fact found.0 found.1
    c.in-Some.ensures.0 c.requires.way)

pub returns : goal.returns
returns g c =
    rw c.in_ok-push_link-2.ensures
    (more (g.L.Look.site c.args.look.now) (g.L.Look.state c.args.look.now) (facts_of c.args.links.now.items) c.args.pending.now.items c.push_named.new.pending.items c.args.next
    c.fact_of-fact.result c.requires.way c.fact_of-fact.ensures.about c.fact_of-fact.ensures.true c.in_ok-push_named.ensures.stay (λ it names. inr (c.in_ok-push_named.ensures.all it names))
    c.in_ok-push_named.ensures.alone)
