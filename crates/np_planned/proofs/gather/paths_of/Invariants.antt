use Rattle.np_planned.proofs.Prelude.{paths_at, take, ◌≡◌}
use Rattle.np_planned.proofs.gather.paths_of.Given as goal

abbrev pub invariant-loop-spot : goal.invariant-loop-spot
invariant-loop-spot l = l.paths.items ≡ paths_at (take l.spot-index l.spots)
