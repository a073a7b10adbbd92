use Rattle.np_layout.proofs.ChangeParts.{sessions-enact}
use Rattle.np_layout.proofs.enacted.changes_of_sessions_are_enacted.Goals as goal

pub returns : goal.returns
returns c = sessions-enact
