use Rattle.np_causes.proofs.Prelude.{sym}
use Rattle.np_causes.proofs.Growing.{named_if, names_more, names_told}
use Rattle.np_causes.proofs.explain.tell_named.Goals as goal

pub returns-in_default-clause-told : goal.returns-in_default-clause-told
returns-in_default-clause-told g c =
    names_told (g.L.Look.site c.args.look.now) (g.L.Look.state c.args.look.now) c.args.job c.loop-at_place.facts.items c.args.fact.now c.loop-at_place.at_place
    (sym c.in_default.ensures) c.loop-at_place.invariant.told

pub tell-requires-clause-named : goal.tell-requires-clause-named
tell-requires-clause-named g c =
    named_if (g.L.Look.site c.args.look.now) (g.L.Look.state c.args.look.now) c.loop-at_place.facts.items c.args.at c.args.fact.now c.loop-at_place.at_place c.in-Some.place
    (c.loop-at_place.invariant.grows c.args.at c.args.fact.now c.requires.stands) c.in-Some.ensures

pub loop-at_place-preserved : goal.loop-at_place-preserved
loop-at_place-preserved g c = record {
  sound = c.in_ok-tell.ensures.sound;
  grows = λ at f is. c.in_ok-tell.ensures.grows at f (c.loop-at_place.invariant.grows at f is);
  told =
      names_more (g.L.Look.site c.args.look.now) (g.L.Look.state c.args.look.now) c.loop-at_place.facts.items c.tell.new.facts.items c.args.fact.now c.loop-at_place.at_place c.in-Some.place
      c.in-Some.ensures c.in_ok-tell.ensures.grows c.in_ok-tell.ensures.told c.loop-at_place.invariant.told;
}
