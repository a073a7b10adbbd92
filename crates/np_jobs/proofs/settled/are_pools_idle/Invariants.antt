use Rattle.np_jobs.proofs.Prelude.{IsPoolIdle, ℕ, ◌<◌}
use Rattle.np_jobs.proofs.settled.are_pools_idle.Given as goal

abbrev pub invariant-loop-at : goal.invariant-loop-at
invariant-loop-at g l = (k : ℕ) → k < l.at → IsPoolIdle (g.L.Look.site l.look) (g.L.Look.state l.look) (record { 0 = k })
