use Rattle.np_semstep.proofs.OneGroup.{one-group}
use Rattle.np_semstep.proofs.law.each_event_is_of_one_group.Goals as goal

pub returns : goal.returns
returns c = one-group
