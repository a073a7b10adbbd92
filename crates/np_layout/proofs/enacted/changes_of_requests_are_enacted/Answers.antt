use Rattle.np_layout.proofs.ChangeParts.{requests-enact}
use Rattle.np_layout.proofs.enacted.changes_of_requests_are_enacted.Goals as goal

pub returns : goal.returns
returns c = requests-enact
