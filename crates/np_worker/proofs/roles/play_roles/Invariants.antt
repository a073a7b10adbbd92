use Rattle.np_worker.proofs.Prelude.{Counts, IsOfWork, Part, Role, Some, acting, driving, of_pool, phase_of, steps_left, ◌+◌, ◌≡◌, ◌≤◌}
use Rattle.np_worker.proofs.roles.play_roles.Given as goal

abbrev pub invariant-loop-step : goal.invariant-loop-step
invariant-loop-step g l = record {
  ready : g.T.Turns.ready l.turns;
  fixed : g.T.Turns.fixed l.turns ≡ g.T.Turns.fixed l.fn.turns;
  place : g.T.Turns.place l.turns ≡ g.T.Turns.place l.fn.turns;
  part : Part g.T.Turns.answers (g.T.Turns.fixed l.fn.turns) (acting (Role.Launcher l.fn.pool) 16) (g.T.Turns.sight l.fn.turns) (g.T.Turns.sight l.turns) (Some (driving g.D.Driver.facts g.D.Driver.plan g.D.Driver.sound g.D.Driver.room l.fn.driver)) (Some (driving g.D.Driver.facts g.D.Driver.plan g.D.Driver.sound g.D.Driver.room l.driver)) (λ trace to. to ≡ phase_of l.stage);
  left : steps_left (phase_of l.stage) + l._step ≤ 96;
  work : IsOfWork (of_pool l.fn.pool) (phase_of l.stage);
  count : Counts l.fn.entries (g.T.Turns.sight l.fn.turns) l.entries (g.T.Turns.sight l.turns);
}
