use Rattle.np_worker.proofs.Leaving.{stays_or_goes}
use Rattle.np_worker.proofs.moves.servers_leave_by_removals.Goals as goal

pub returns : goal.returns
returns c = stays_or_goes
