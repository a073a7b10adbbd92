use Rattle.np_planned.proofs.Accepted.{spots-decide}
use Rattle.np_planned.proofs.laws.spots_decide.Goals as goal

pub returns : goal.returns
returns c = spots-decide
