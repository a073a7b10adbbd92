use Rattle.np_jobs.proofs.Prelude.{JobId, NoTake, Some, job_to_take, ℕ, ◌<◌, ◌≡◌}
use Rattle.np_jobs.proofs.step.first_step_to_take.Given as goal

abbrev pub invariant-loop-at : goal.invariant-loop-at
invariant-loop-at g l = (k : ℕ) → k < l.at → (j : JobId) → job_to_take (g.L.Look.site l.look) l.rows.requester k (g.L.Look.state l.look) ≡ Some j → NoTake (g.L.Look.site l.look) (g.L.Look.state l.look) l.rows.requester l.session j
