use Rattle.np_rounds.proofs.Prelude.{HasLaps, IsRested, false, players_of, ◌≡◌}
use Rattle.np_rounds.proofs.rounds.play_site.Given as goal

abbrev pub invariant-loop : goal.invariant-loop
invariant-loop g l = let site = l.fn.board.configuration in record {
  configuration : l.board.configuration ≡ site;
  rested : IsRested l.board.journal;
  laps : HasLaps l.fn.plans site l.fn.board.journal (players_of g.D.Driver.facts g.D.Driver.plan g.D.Driver.sound g.D.Driver.room l.initial.workers.items) l.board.journal (players_of g.D.Driver.facts g.D.Driver.plan g.D.Driver.sound g.D.Driver.room l.workers.items) false;
}
