use Rattle.np_jobs.proofs.Prelude.{Event, JobId, Requester, Some, false, job_to_finish, passes, ℕ, ◌<◌, ◌≡◌}
use Rattle.np_jobs.proofs.step.first_step_to_finish.Given as goal

abbrev pub invariant-loop-at : goal.invariant-loop-at
invariant-loop-at g l = (k : ℕ) → k < l.at → (j : JobId) → job_to_finish (g.L.Look.site l.look) l.rows.requester k (g.L.Look.state l.look) ≡ Some j → passes (g.L.Look.site l.look) (g.L.Look.state l.look) (Requester l.rows.requester) (Event.Finish l.session j) ≡ false
