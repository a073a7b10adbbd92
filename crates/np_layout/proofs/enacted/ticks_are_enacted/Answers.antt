use Rattle.np_layout.proofs.ChangeParts.{ticks-enact}
use Rattle.np_layout.proofs.enacted.ticks_are_enacted.Goals as goal

pub returns : goal.returns
returns c = ticks-enact
