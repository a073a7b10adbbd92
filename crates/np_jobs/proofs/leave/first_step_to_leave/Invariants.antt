use Rattle.np_jobs.proofs.Prelude.{NoLeave, NodeId, Some, node_to_leave, ℕ, ◌<◌, ◌≡◌}
use Rattle.np_jobs.proofs.leave.first_step_to_leave.Given as goal

abbrev pub invariant-loop-at : goal.invariant-loop-at
invariant-loop-at g l = (k : ℕ) → k < l.at → (n : NodeId) → node_to_leave (g.L.Look.site l.look) l.rows.requester l.session k (g.L.Look.state l.look) ≡ Some n → NoLeave (g.L.Look.site l.look) (g.L.Look.state l.look) l.rows.requester l.session n
