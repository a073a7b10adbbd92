use Rattle.np_layout.proofs.Carried.{steps-are-carried}
use Rattle.np_layout.proofs.ready.every_step_is_carried.Goals as goal

pub returns : goal.returns
returns c = steps-are-carried
