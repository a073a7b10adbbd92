use Rattle.np_worker.proofs.Journals.{tick-have-driven}
use Rattle.np_worker.proofs.law.journals.a_tick_after_a_round_is_driven.Goals as goal

pub returns : goal.returns
returns g = λ plans c journal d e players. tick-have-driven c plans journal players d e
