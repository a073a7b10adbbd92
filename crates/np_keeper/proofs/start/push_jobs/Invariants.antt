use Rattle.np_keeper.proofs.Prelude.{Job, length, ◌-◌}
use Rattle.np_keeper.proofs.Enacted.{IsMade}
use Rattle.np_keeper.proofs.start.push_jobs.Given as goal

abbrev pub invariant-loop-ops : goal.invariant-loop-ops
invariant-loop-ops l = IsMade l.text (λ n. Job (record { 0 = n })) l.config.jobs l.fn.ops.items l.ops.items l.at

abbrev pub decreases-loop-ops : goal.decreases-loop-ops
decreases-loop-ops l = length l.config.jobs - l.at
