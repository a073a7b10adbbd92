use Rattle.np_planned.proofs.Fresh.{fresh-commits}
use Rattle.np_planned.proofs.laws.fresh_spots_commit.Goals as goal

pub returns : goal.returns
returns c = fresh-commits
