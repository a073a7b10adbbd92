use Rattle.np_launch.proofs.Prelude.{length, ◌-◌, ◌≤◌}
use Rattle.np_launch.proofs.computed.label_count.Given as goal

abbrev pub invariant-loop-at : goal.invariant-loop-at
invariant-loop-at l = l.at ≤ length l.config.labels

abbrev pub decreases-loop-at : goal.decreases-loop-at
decreases-loop-at l = 65536 - l.at
