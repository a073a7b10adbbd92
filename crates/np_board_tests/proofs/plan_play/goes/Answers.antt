use Rattle.np_worker.proofs.Journals.{Runs-legal}
use Rattle.np_board_tests.proofs.plan_play.goes.Goals as goal

pub set_up-requires : goal.set_up-requires
set_up-requires g c = record { legal = Runs-legal _ _ _ c.know_soundness.ensures.runs }
