use Rattle.np_rounds.proofs.Prelude.{AreNumbered, driving, drivings_of, length, map, players_of, ◌++◌, ◌≡◌, ◌≤◌}
use Rattle.np_rounds.proofs.Players.{NoPools}
use Rattle.np_rounds.proofs.crew.workers_of.Given as goal

abbrev pub invariant-loop-id : goal.invariant-loop-id
invariant-loop-id g l = NoPools g.D.Driver.facts g.D.Driver.plan g.D.Driver.sound g.D.Driver.room l.workers.items

abbrev pub invariant-loop-driver : goal.invariant-loop-driver
invariant-loop-driver g l = record {
  few : length l.drivers.items ≤ 64;
  numbered : AreNumbered (length l.drivers.items) (players_of g.D.Driver.facts g.D.Driver.plan g.D.Driver.sound g.D.Driver.room l.workers.items);
  drivings : map (driving g.D.Driver.facts g.D.Driver.plan g.D.Driver.sound g.D.Driver.room) l.drivers.items ++ drivings_of (players_of g.D.Driver.facts g.D.Driver.plan g.D.Driver.sound g.D.Driver.room l.workers.items) ≡ map (driving g.D.Driver.facts g.D.Driver.plan g.D.Driver.sound g.D.Driver.room) l.fn.drivers.items;
}

abbrev pub decreases-loop-driver : goal.decreases-loop-driver
decreases-loop-driver g l = length l.drivers.items
