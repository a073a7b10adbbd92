use Rattle.np_rounds.proofs.Prelude.{AreGiven, IsOf, crew_players, length, players_of, split_pass, ◌++◌, ◌≡◌}
use Rattle.np_rounds.proofs.round.hand_out.Given as goal

abbrev pub invariant-loop-worker : goal.invariant-loop-worker
invariant-loop-worker g l = record {
  own : IsOf l.pass l.desk;
  pass : l.pass ≡ split_pass (length l.crews.items) l.initial.pass;
  given : AreGiven l.initial.pass 0 l.crews.items;
  players : crew_players g.D.Driver.facts g.D.Driver.plan g.D.Driver.sound g.D.Driver.room l.crews.items ++ players_of g.D.Driver.facts g.D.Driver.plan g.D.Driver.sound g.D.Driver.room l.workers.items ≡ players_of g.D.Driver.facts g.D.Driver.plan g.D.Driver.sound g.D.Driver.room l.initial.workers.items;
}

abbrev pub decreases-loop-worker : goal.decreases-loop-worker
decreases-loop-worker g l = length l.workers.items
