use Rattle.np_janitor.proofs.Prelude.{Event, Janitor, JobId, Some, false, job_to_finish, passes, ℕ, ◌<◌, ◌≡◌}
use Rattle.np_janitor.proofs.janitor.finish_for.Given as goal

abbrev pub invariant-loop-at : goal.invariant-loop-at
invariant-loop-at g l = (k : ℕ) → k < l.at → (j : JobId) → job_to_finish (g.L.Look.site l.look) l.requester k (g.L.Look.state l.look) ≡ Some j → passes (g.L.Look.site l.look) (g.L.Look.state l.look) (Janitor l.rows.known.pool) (Event.Finish l.session j) ≡ false
