use Rattle.np_static.proofs.Loads.{launched-distinct}
use Rattle.np_static.proofs.law.hosts_answer_no_number_twice.Goals as goal

pub returns : goal.returns
returns c = λ hosts. launched-distinct 1 hosts.inventory.answered hosts.numbered
