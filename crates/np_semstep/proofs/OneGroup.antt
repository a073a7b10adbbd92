-- each event is in one group
use Rattle.std.proofs.Common.{◌≡◌, refl}
use Rattle.np_event.specs.declared.event.Event.{Event}
use Rattle.np_semstep.specs.Groups.{groups_with}

pub one-group : (e : Event) → groups_with e ≡ 1
one-group Event.Tick = refl
one-group other = refl
