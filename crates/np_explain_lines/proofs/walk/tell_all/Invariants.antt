use Rattle.np_explain_lines.proofs.Prelude.{IsOnItsWay, facts_of}
use Rattle.np_explain_lines.proofs.walk.tell_all.Given as goal

abbrev pub invariant-loop-round : goal.invariant-loop-round
invariant-loop-round g l = IsOnItsWay (g.L.Look.site l.look) (g.L.Look.state l.look) (facts_of l.links.items) l.pending.items
