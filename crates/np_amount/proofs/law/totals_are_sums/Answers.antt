use Rattle.np_amount.proofs.Sums.{total-instances, total-cores, total-ram}
use Rattle.np_amount.proofs.law.totals_are_sums.Goals as goal

pub returns-clause-instances : goal.returns-clause-instances
returns-clause-instances c = total-instances

pub returns-clause-cores : goal.returns-clause-cores
returns-clause-cores c = total-cores

pub returns-clause-ram : goal.returns-clause-ram
returns-clause-ram c = total-ram
