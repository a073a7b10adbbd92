use Rattle.std.proofs.Common.{◌≡◌}
use Rattle.np_worker.specs.Prelude.{IsOf}
use Rattle.np_board_tests.proofs.plan_play.plays_on.Given as goal

abbrev pub invariant-loop-at : goal.invariant-loop-at
invariant-loop-at g l = record {
  own : IsOf l.planner.pass l.planner.desk.now;
  desk : l.planner.desk.now ≡ l.initial.planner.desk.now;
  part : l.planner.pass.part ≡ l.initial.planner.pass.part;
}
