use Rattle.np_worker.proofs.Prelude.{false, refl}
use Rattle.np_worker.proofs.Rounds.{numbered-after, round-driven, round-have-driven, round-no-tick}
use Rattle.np_worker.proofs.law.journals.a_round_is_driven.Goals as goal

pub returns-clause-driven : goal.returns-clause-driven
returns-clause-driven g = λ plans. round-driven {plans = plans}

pub returns-clause-whole : goal.returns-clause-whole
returns-clause-whole g = λ plans c history later players now round runs have. round-have-driven c history later players now false round runs have refl

pub returns-clause-numbered : goal.returns-clause-numbered
returns-clause-numbered g = numbered-after

pub returns-clause-no_tick : goal.returns-clause-no_tick
returns-clause-no_tick g = λ plans c history later players now is_cut round runs have before rest e. round-no-tick c history later players now is_cut round runs have before e rest
