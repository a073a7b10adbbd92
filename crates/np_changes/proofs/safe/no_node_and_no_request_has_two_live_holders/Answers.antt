use Rattle.np_changes.proofs.Runs.{safe-Runs}
use Rattle.np_changes.proofs.safe.no_node_and_no_request_has_two_live_holders.Goals as goal

pub returns-clause-node : goal.returns-clause-node
returns-clause-node c = λ site journal s n a b runs first second. (safe-Runs site journal s runs).one_holder.of_node n a b first second

pub returns-clause-request : goal.returns-clause-request
returns-clause-request c = λ site journal s r a b runs first second. (safe-Runs site journal s runs).one_holder.of_request r a b first second
