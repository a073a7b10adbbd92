-- what a state has of a kind is no more than all
use Rattle.np_rules.proofs.Prelude.{PoolId, RequestEntry, State, arith, filter, is_pending_by, length, length-filter_at_most, length-map, pending_requests, ◌≤◌}

pub few-pending : (p : PoolId) (s : State) → length (pending_requests p s) ≤ length s.requests
few-pending p s = omega (arith, length-map (filter (λ (e : RequestEntry). is_pending_by p e.kept) s.requests) (λ (e : RequestEntry). e.id), length-filter_at_most (λ (e : RequestEntry). is_pending_by p e.kept) s.requests)
