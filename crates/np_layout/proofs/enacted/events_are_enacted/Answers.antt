use Rattle.np_layout.proofs.Proved.{events}
use Rattle.np_layout.proofs.enacted.events_are_enacted.Goals as goal

pub returns : goal.returns
returns c = events
