use Rattle.std.proofs.Common.{◌≡◌}
use Rattle.np_keep_tests.proofs.desks.ask_each.Given as goal

abbrev pub invariant-loop-ask : goal.invariant-loop-ask
invariant-loop-ask g l = record {
  ready : g.T.Turns.ready l.turns;
  place : g.T.Turns.place l.turns ≡ g.T.Turns.place l.initial.turns;
}
