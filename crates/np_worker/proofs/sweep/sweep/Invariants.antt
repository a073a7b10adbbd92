use Rattle.np_worker.proofs.Prelude.{Counts, Part, Some, driving, sweeps, ◌≡◌}
use Rattle.np_worker.proofs.Walks.{KeptFrom}
use Rattle.np_worker.proofs.sweep.sweep.Given as goal

abbrev pub invariant-loop-at : goal.invariant-loop-at
invariant-loop-at g l = record {
  ready : g.T.Turns.ready l.turns;
  fixed : g.T.Turns.fixed l.turns ≡ g.T.Turns.fixed l.fn.turns;
  place : g.T.Turns.place l.turns ≡ g.T.Turns.place l.fn.turns;
  part : Part g.T.Turns.answers (g.T.Turns.fixed l.fn.turns) (sweeps l.pool) (g.T.Turns.sight l.fn.turns) (g.T.Turns.sight l.turns) (Some (driving g.D.Driver.facts g.D.Driver.plan g.D.Driver.sound g.D.Driver.room l.fn.driver)) (Some (driving g.D.Driver.facts g.D.Driver.plan g.D.Driver.sound g.D.Driver.room l.driver)) (λ trace to. (to ≡ sweeps l.pool) × KeptFrom l.pool trace l.at (g.D.Driver.facts l.driver).servers);
  count : Counts l.fn.entries (g.T.Turns.sight l.fn.turns) l.entries (g.T.Turns.sight l.turns);
}
