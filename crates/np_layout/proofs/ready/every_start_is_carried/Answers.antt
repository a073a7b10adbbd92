use Rattle.np_layout.proofs.FirstTrees.{starts-are-carried}
use Rattle.np_layout.proofs.ready.every_start_is_carried.Goals as goal

pub returns : goal.returns
returns c = starts-are-carried
