use Rattle.np_layout.proofs.GrowthParts.{growths-enact}
use Rattle.np_layout.proofs.enacted.growths_are_enacted.Goals as goal

pub returns : goal.returns
returns c = growths-enact
