use Rattle.std.proofs.Common.{◌≡◌}
use Rattle.np_keep_tests.proofs.desks.ask_in_series.Given as goal

abbrev pub invariant-loop-series : goal.invariant-loop-series
invariant-loop-series g l = record {
  ready : g.T.Turns.ready l.turns;
  place : g.T.Turns.place l.turns ≡ g.T.Turns.place l.initial.turns;
}
