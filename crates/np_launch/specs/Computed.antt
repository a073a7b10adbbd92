-- the events of a launcher that name more than a request, a node or a job, by place
use Rattle.std.specs.Prelude.{ℕ, Bool, true, false, ◌==◌, if◌then◌else◌, Option, Some, None, length, find, slice_get, is_ok, option_and_then, ◌+◌, ◌&&◌, not, count_by, nat_lt}
use Rattle.np_launch.specs.declared.computed.ComputedKind.{ComputedKind}
use Rattle.np_launch.specs.Lower.{Configuration, Event, Janitor, LabelId, Launcher, NodeId, PoolId, Reaper, Reason, RequestEntry, RequestId, RequestRecord, Requester, Role, SessionId, State, first_unoffered, free_ready_of, holder, is_held_near, is_pending, is_pending_by, is_served_near, is_sister, is_spent, judge, never_fits, next_label, node_in, option_map, option_map_or, outcome_of, pending_requests, queued_nodes, queued_requests, registered, request_in, request_is, role_of, session_of, tenant_never_fits}

-- ## what is computed

-- the first of these reasons: a label, the pool's limits, the tenant's, a failed node (own)
abbrev pub reason_of : Option LabelId → Bool → Bool → Option NodeId → Option Reason
reason_of (Some l) never tenant spent = Some (Reason.NoLabel l)
reason_of None true tenant spent = Some Reason.NeverFits
reason_of None false true spent = Some Reason.TenantNeverFits
reason_of None false false None = None
reason_of None false false (Some n) = Some (Reason.Spent n)

-- the first reason why the pool would decline the request (own)
abbrev pub first_reason : Configuration → State → PoolId → RequestRecord → Option Reason
first_reason c s p request =
    reason_of (first_unoffered c p request) (never_fits c p request) (tenant_never_fits c p request) (find (λ m. is_spent m s) request.nodes)

-- the same reason, of the same label or node (own)
abbrev pub same_reason : Reason → Reason → Bool
same_reason (Reason.NoLabel l) (Reason.NoLabel of) = of.0 == l.0
same_reason Reason.NeverFits Reason.NeverFits = true
same_reason Reason.TenantNeverFits Reason.TenantNeverFits = true
same_reason (Reason.Spent n) (Reason.Spent of) = of.0 == n.0
same_reason _ _ = false

-- the reason is the one that was found (own)
abbrev pub is_reason : Reason → Option Reason → Bool
is_reason why None = false
is_reason why (Some other) = same_reason why other

-- the pool of a launcher (own)
abbrev pub pool_of_role : Role → Option PoolId
pool_of_role (Launcher p) = Some p
pool_of_role (Janitor p) = None
pool_of_role (Requester q) = None
pool_of_role Reaper = None

-- the pool of the launcher that the session belongs to (own)
abbrev pub pool_of : State → SessionId → Option PoolId
pool_of s session = option_and_then (λ facts. pool_of_role facts.role) (session_of session s)

-- the first ready, free and unlocked node of the pool with the request's next label (own)
abbrev pub first_free : State → RequestId → PoolId → Option NodeId
first_free s r p = option_and_then (λ k. option_and_then (λ l. free_ready_of p l 0 s) (next_label k)) (request_in r s.requests)

-- the session may allocate the node to the request (own)
abbrev pub is_takable : Configuration → State → SessionId → RequestId → NodeId → Bool
is_takable c s session r n = is_ok (judge c s (Event.TakeReady session r n))

-- the first node that the session may allocate to the request (own)
abbrev pub first_takable : Configuration → State → SessionId → RequestId → Option NodeId
first_takable c s session r =
    option_and_then (λ n. if is_takable c s session r n then Some n else None) (option_and_then (first_free s r) (pool_of s session))

-- ## the events, by place

-- the simulated cloud's report on the last attempt of the node at a place, of those in whose queues
-- the session is (own)
abbrev pub done_at : Configuration → State → PoolId → SessionId → ℕ → Option Event
done_at c s p session at =
    option_and_then (λ n. option_map (λ k. Event.Done session n k.attempts (outcome_of c p k.start)) (node_in n s.nodes)) (slice_get (queued_nodes session s) at)

-- the request at a place, of those in whose queues the session is, with its first ready node, if the
-- pool serves it (own)
abbrev pub take_ready_at : Configuration → State → PoolId → SessionId → ℕ → Option Event
take_ready_at c s p session at =
    option_and_then (λ r. option_and_then (λ k. if is_pending_by p k then option_map (λ n. Event.TakeReady session r n) (first_takable c s session r) else None) (request_in r s.requests)) (slice_get (queued_requests session s) at)

-- the request at a place, of those in whose queues the session is, with its first reason (own)
abbrev pub decline_at : Configuration → State → PoolId → SessionId → ℕ → Option Event
decline_at c s p session at =
    option_and_then (λ r. option_and_then (λ k. option_map (λ why. Event.Decline session r why) (first_reason c s p k)) (request_in r s.requests)) (slice_get (queued_requests session s) at)

-- the label at a place (own)
abbrev pub min_ready_at : Configuration → SessionId → ℕ → Option Event
min_ready_at c session at = option_map (λ _. Event.MinReady session (record { 0 = at })) (slice_get c.labels at)

-- how many places the kind has (own)
abbrev pub computed_places : Configuration → State → SessionId → ComputedKind → ℕ
computed_places c s session ComputedKind.Register = 1
computed_places c s session ComputedKind.Done = length (queued_nodes session s)
computed_places c s session ComputedKind.TakeReady = length (queued_requests session s)
computed_places c s session ComputedKind.Decline = length (queued_requests session s)
computed_places c s session ComputedKind.MinReady = length c.labels

-- the session's event of the kind at a place (own)
abbrev pub computed_at : Configuration → State → PoolId → SessionId → ComputedKind → ℕ → Option Event
computed_at c s p session ComputedKind.Register at = Some (Event.Register session)
computed_at c s p session ComputedKind.Done at = done_at c s p session at
computed_at c s p session ComputedKind.TakeReady at = take_ready_at c s p session at
computed_at c s p session ComputedKind.Decline at = decline_at c s p session at
computed_at c s p session ComputedKind.MinReady at = min_ready_at c session at

-- how many requests the launchers of a provider work on, pool by pool

-- ## what counts at each pool

-- pending, and a pool of the provider serves it (own)
abbrev pub is_served_by_sister : Configuration → PoolId → RequestRecord → Bool
is_served_by_sister c p request = is_pending request.state && option_map_or (is_sister c p) request.pool false

-- how many requests have the session in their queues and are served by no pool of the provider (own)
abbrev pub unserved_requests : Configuration → State → PoolId → SessionId → ℕ
unserved_requests c s p session = count_by (λ r. not (request_is r s (is_served_by_sister c p))) (queued_requests session s)

-- how many requests the other pool serves, plus those in whose queues its registered session is and
-- that no pool of the provider serves (own)
abbrev pub launcher_requests : Configuration → State → PoolId → PoolId → ℕ
launcher_requests c s p other = length (pending_requests other s) + option_map_or (unserved_requests c s p) (registered other s.registrations) 0

-- that, or none if the other pool is of another provider (own)
abbrev pub sister_requests : Configuration → State → PoolId → PoolId → ℕ
sister_requests c s p other = if is_sister c p other then launcher_requests c s p other else 0

-- ## each request once

-- the pool of the provider whose launcher works on the request: the one that serves it, or else that
-- of the launcher that holds it (own)
abbrev pub near_pool : Configuration → State → PoolId → RequestEntry → Option PoolId
near_pool c s p e =
    if is_served_near c p e
    then e.kept.pool
    else if is_held_near c s p e
    then option_and_then pool_of_role (option_and_then (λ session. role_of session s) (holder e.queue))
    else None

-- there is such a pool, and its number is below this one (own)
abbrev pub is_near_below : Configuration → State → PoolId → ℕ → RequestEntry → Bool
is_near_below c s p number e = option_map_or (λ other. nat_lt other.0 number) (near_pool c s p e) false
