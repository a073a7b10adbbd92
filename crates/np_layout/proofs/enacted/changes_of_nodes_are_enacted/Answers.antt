use Rattle.np_layout.proofs.ChangeParts.{nodes-enact}
use Rattle.np_layout.proofs.enacted.changes_of_nodes_are_enacted.Goals as goal

pub returns : goal.returns
returns c = nodes-enact
