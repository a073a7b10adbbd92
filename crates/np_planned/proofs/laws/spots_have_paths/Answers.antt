use Rattle.np_planned.proofs.Fresh.{spots-have-parents, spots-have-paths}
use Rattle.np_planned.proofs.laws.spots_have_paths.Goals as goal

pub returns : goal.returns
returns c = record { paths = spots-have-paths; parents = spots-have-parents }
