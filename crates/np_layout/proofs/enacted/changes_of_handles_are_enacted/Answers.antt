use Rattle.np_layout.proofs.GrowthParts.{handles-enact}
use Rattle.np_layout.proofs.enacted.changes_of_handles_are_enacted.Goals as goal

pub returns : goal.returns
returns c = handles-enact
