use Rattle.np_useful.proofs.Prelude.{Event, JobId, Some, false, job_to_release, passes, ℕ, ◌<◌, ◌≡◌}
use Rattle.np_useful.proofs.release.first_release.Given as goal

abbrev pub invariant-loop-at : goal.invariant-loop-at
invariant-loop-at g l =
    (k : ℕ) → k < l.at → (j : JobId) → job_to_release (g.L.Look.site l.look) l.requester k (g.L.Look.state l.look) ≡ Some j → passes (g.L.Look.site l.look) (g.L.Look.state l.look) (g.R.RoleRows.role l.rows) (Event.Release l.session j) ≡ false
