use Rattle.np_explain_lines.proofs.Prelude.{facts_of}
use Rattle.np_explain_lines.proofs.Way.{done}
use Rattle.np_explain_lines.proofs.walk.tell_all.Goals as goal

pub returns-in_default : goal.returns-in_default
returns-in_default g c =
    done (g.L.Look.site c.args.look.now) (g.L.Look.state c.args.look.now) (facts_of c.loop-round.links.items) c.loop-round.pending.items (c.take_next.ensures.none c.in_default.is) c.loop-round.invariant

pub tell-requires-clause-way : goal.tell-requires-clause-way
tell-requires-clause-way g c = rw (← c.in-Some.ensures.some) c.loop-round.invariant
