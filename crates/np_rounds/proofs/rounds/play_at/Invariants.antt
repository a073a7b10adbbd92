use Rattle.np_rounds.proofs.Prelude.{HasLaps, IsOf, IsRested, IsWhole, false, players_of}
use Rattle.np_rounds.proofs.rounds.play_at.Given as goal

abbrev pub invariant-loop : goal.invariant-loop
invariant-loop g l = record {
  own : IsOf l.pass l.desk;
  whole : IsWhole l.pass.part;
  rested : IsRested l.pass.seen;
  laps : HasLaps l.fn.plans l.desk.origin.fixed l.initial.pass.seen (players_of g.D.Driver.facts g.D.Driver.plan g.D.Driver.sound g.D.Driver.room l.initial.workers.items) l.pass.seen (players_of g.D.Driver.facts g.D.Driver.plan g.D.Driver.sound g.D.Driver.room l.workers.items) false;
}
