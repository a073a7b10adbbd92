use Rattle.np_layout.proofs.ChangeParts.{jobs-enact}
use Rattle.np_layout.proofs.enacted.changes_of_jobs_are_enacted.Goals as goal

pub returns : goal.returns
returns c = jobs-enact
