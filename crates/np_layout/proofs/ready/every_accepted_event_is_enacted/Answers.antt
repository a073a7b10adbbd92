use Rattle.np_layout.proofs.Proved.{accepted}
use Rattle.np_layout.proofs.ready.every_accepted_event_is_enacted.Goals as goal

pub returns : goal.returns
returns c = accepted
