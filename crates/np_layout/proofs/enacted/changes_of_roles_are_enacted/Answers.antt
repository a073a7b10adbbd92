use Rattle.np_layout.proofs.ChangeParts.{deeds-enact}
use Rattle.np_layout.proofs.enacted.changes_of_roles_are_enacted.Goals as goal

pub returns : goal.returns
returns c = deeds-enact
