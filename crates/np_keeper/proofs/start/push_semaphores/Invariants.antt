use Rattle.np_keeper.proofs.Prelude.{Semaphore, length, [], ◌-◌}
use Rattle.np_keeper.proofs.Enacted.{IsMade}
use Rattle.np_keeper.proofs.start.push_semaphores.Given as goal

abbrev pub invariant-loop-ops : goal.invariant-loop-ops
invariant-loop-ops l = IsMade [] (λ n. Semaphore (record { 0 = n })) l.config.semaphores l.fn.ops.items l.ops.items l.at

abbrev pub decreases-loop-ops : goal.decreases-loop-ops
decreases-loop-ops l = length l.config.semaphores - l.at
