use Rattle.np_rounds.proofs.Prelude.{driving, drivings_of, length, map, players_of, ◌++◌, ◌≡◌}
use Rattle.np_rounds.proofs.crew.drivers_of.Given as goal

abbrev pub invariant-loop-worker : goal.invariant-loop-worker
invariant-loop-worker g l = map (driving g.D.Driver.facts g.D.Driver.plan g.D.Driver.sound g.D.Driver.room) l.drivers.items ++ drivings_of (players_of g.D.Driver.facts g.D.Driver.plan g.D.Driver.sound g.D.Driver.room l.workers.items) ≡ drivings_of (players_of g.D.Driver.facts g.D.Driver.plan g.D.Driver.sound g.D.Driver.room l.fn.workers.items)

abbrev pub decreases-loop-worker : goal.decreases-loop-worker
decreases-loop-worker g l = length l.workers.items
