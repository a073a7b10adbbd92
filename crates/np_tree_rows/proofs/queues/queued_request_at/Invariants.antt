use Rattle.np_tree_rows.proofs.Prelude.{Configuration, IsStored, State, queued_requests, slice_get, ◌≡◌}
use Rattle.np_tree_rows.proofs.Registered.{requests_from}
use Rattle.np_tree_rows.proofs.queues.queued_request_at.Given as goal

abbrev pub invariant-loop-place : goal.invariant-loop-place
invariant-loop-place l = (c : Configuration) (s : State) → IsStored c s l.tree → slice_get (requests_from l.session l.place s) l.left ≡ slice_get (queued_requests l.session s) l.at
