use Rattle.np_keeper.proofs.Prelude.{RequesterRole, length, ◌-◌}
use Rattle.np_keeper.proofs.Enacted.{IsMade}
use Rattle.np_keeper.proofs.start.push_requesters.Given as goal

abbrev pub invariant-loop-ops : goal.invariant-loop-ops
invariant-loop-ops l = IsMade l.text (λ n. RequesterRole (record { 0 = n })) l.config.requesters l.fn.ops.items l.ops.items l.at

abbrev pub decreases-loop-ops : goal.decreases-loop-ops
decreases-loop-ops l = length l.config.requesters - l.at
