use Rattle.np_worker.proofs.Made.{entry_of_worker, entry_of_player}
use Rattle.np_worker.proofs.law.makers.each_entry_is_of_its_makers_role.Goals as goal

pub returns-clause-worker : goal.returns-clause-worker
returns-clause-worker g = λ plans. entry_of_worker {plans = plans}

pub returns-clause-round : goal.returns-clause-round
returns-clause-round g = λ plans. entry_of_player {plans = plans}
