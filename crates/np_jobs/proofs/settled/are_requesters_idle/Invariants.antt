use Rattle.np_jobs.proofs.Prelude.{IsIdle, Requester, ℕ, ◌<◌}
use Rattle.np_jobs.proofs.settled.are_requesters_idle.Given as goal

abbrev pub invariant-loop-at : goal.invariant-loop-at
invariant-loop-at g l = (k : ℕ) → k < l.at → IsIdle (g.L.Look.site l.look) (g.L.Look.state l.look) (Requester (record { 0 = k }))
