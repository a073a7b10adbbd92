-- what each fact is about, and what it says of a state
use Rattle.std.specs.Prelude.{◌≡◌, ◌==◌, ◌-◌, true, false, Some, None, Option, find, length, nat_lt, slice_get, option_and_then}
use Rattle.np_causes.specs.declared.fact.Thing.{Thing}
use Rattle.np_causes.specs.declared.fact.Fact.{Fact}
use Rattle.np_causes.specs.Lower.{Configuration, JobId, LabelId, NodeId, NodeState, Phase, PoolId, Reason, RequestId, RequestState, RequesterId, SemId, SessionId, State, TenantId, blocking, concurrency_of, count_of, count_of_tenant, current_of, first_full, first_of, handles_of, has_handle, has_request_under_way, has_turn_left, is_request, is_stopped, is_stuck_at, next_label, node_holder, node_in, option_map, option_map_or, owner_of, registered, request_holder, request_in, same_request, session_of, unfinished_of, window_of}

abbrev pub about_of : Fact → Thing
about_of (Fact.InPhase j phase) = Thing.Job j
about_of (Fact.OfRequester j q) = Thing.Turn j
about_of (Fact.InWindow j) = Thing.Window j
about_of (Fact.PastWindow j last) = Thing.Window j
about_of (Fact.Supplied j) = Thing.Supply j
about_of (Fact.Full j x) = Thing.Supply j
about_of (Fact.Handles x count) = Thing.Semaphore x
about_of (Fact.HasHandle x j) = Thing.Handle x j
about_of (Fact.Open r) = Thing.Request r
about_of (Fact.TakenUp r session) = Thing.Request r
about_of (Fact.Served r session) = Thing.Request r
about_of (Fact.Abandoned r) = Thing.Request r
about_of (Fact.Fulfilled r) = Thing.Request r
about_of (Fact.Failed r) = Thing.Request r
about_of (Fact.Declined r p why) = Thing.Offer r p
about_of (Fact.Blocked r p t) = Thing.Offer r p
about_of (Fact.First r p) = Thing.Offer r p
about_of (Fact.Behind r p first) = Thing.Offer r p
about_of (Fact.Closed r p) = Thing.Offer r p
about_of (Fact.Complete r) = Thing.Next r
about_of (Fact.NoRoom r p l) = Thing.Next r
about_of (Fact.Lacks r l) = Thing.Next r
about_of (Fact.Registered p session) = Thing.Pool p
about_of (Fact.Unregistered p) = Thing.Pool p
about_of (Fact.Busy p) = Thing.Work p
about_of (Fact.Idle p) = Thing.Work p
about_of (Fact.HasTurn p) = Thing.Concurrency p
about_of (Fact.NoTurn p most) = Thing.Concurrency p
about_of (Fact.PoolUses p used) = Thing.Room p
about_of (Fact.TenantUses t used) = Thing.Tenant t
about_of (Fact.Stands n state attempts) = Thing.Node n
about_of (Fact.Held n session) = Thing.Lock n
about_of (Fact.Unheld n) = Thing.Lock n
about_of (Fact.Owned n j) = Thing.Owner n
about_of (Fact.Allocated n r) = Thing.Owner n
about_of (Fact.Free n) = Thing.Owner n
about_of (Fact.Known session facts) = Thing.Session session
about_of (Fact.Current role session) = Thing.Role role
about_of (Fact.Stopped role) = Thing.Role role
about_of (Fact.MayOpen role) = Thing.Role role
about_of (Fact.Missing it) = it

-- ## words of the facts

abbrev pub phase_of : JobId → State → Option Phase
phase_of j s = option_map (λ kept. kept.phase) (slice_get s.jobs j.0)

abbrev pub requester_of : Configuration → JobId → Option RequesterId
requester_of c j = option_map (λ job. job.requester) (slice_get c.jobs j.0)

-- the last of the jobs that the job's requester works on, if it works on as many as it may
abbrev pub last_in_window : Configuration → State → JobId → Option JobId
last_in_window c s j = option_and_then (λ job. unfinished_of c job.requester (window_of c job.requester - 1) s) (slice_get c.jobs j.0)

-- the first of the job's semaphores that is full and of which it has no handle
abbrev pub full_of : Configuration → State → JobId → Option SemId
full_of c s j = option_and_then (first_full c s j) (slice_get c.jobs j.0)

abbrev pub state_of : RequestId → State → Option RequestState
state_of r s = option_map (λ request. request.state) (request_in r s.requests)

-- the request is in this state, and this is who holds it
abbrev pub StandsAs : State → RequestId → RequestState → Option SessionId → Type 0
StandsAs s r state session = (state_of r s ≡ Some state) × (request_holder r s.requests ≡ session)

-- why the pool declined the request
abbrev pub reason_of : RequestId → PoolId → State → Option Reason
reason_of r p s = option_map (λ d. d.reason) (option_and_then (λ request. find (λ d. d.pool.0 == p.0) request.declined) (request_in r s.requests))

-- the tenant that blocks the request at the pool
abbrev pub blocking_of : Configuration → State → RequestId → PoolId → Option TenantId
blocking_of c s r p = option_and_then (blocking c s p) (request_in r s.requests)

abbrev pub next_of : RequestId → State → Option LabelId
next_of r s = option_and_then next_label (request_in r s.requests)

abbrev pub pool_of : RequestId → State → Option PoolId
pool_of r s = option_and_then (λ request. request.pool) (request_in r s.requests)

abbrev pub node_state_of : NodeId → State → Option NodeState
node_state_of n s = option_map (λ k. k.state) (node_in n s.nodes)

abbrev pub allocation_of : NodeId → State → Option RequestId
allocation_of n s = option_and_then (λ k. k.allocated_to) (node_in n s.nodes)

-- there is no such thing
abbrev pub IsMissing : Configuration → State → Thing → Type 0
IsMissing c s (Thing.Job j) = slice_get s.jobs j.0 ≡ None
IsMissing c s (Thing.Turn j) = slice_get c.jobs j.0 ≡ None
IsMissing c s (Thing.Handle x j) = has_handle j s.handles x ≡ false
IsMissing c s (Thing.Request r) = request_in r s.requests ≡ None
IsMissing c s (Thing.Offer r p) = request_in r s.requests ≡ None
IsMissing c s (Thing.Next r) = request_in r s.requests ≡ None
IsMissing c s (Thing.Node n) = node_in n s.nodes ≡ None
IsMissing c s (Thing.Session session) = session_of session s ≡ None
IsMissing c s _ = ⊥

-- ## what a fact says, one line for each

abbrev pub IsTrueOf : Configuration → State → Fact → Type 0
IsTrueOf c s (Fact.InPhase j phase) = phase_of j s ≡ Some phase
IsTrueOf c s (Fact.OfRequester j q) = requester_of c j ≡ Some q
IsTrueOf c s (Fact.InWindow j) = option_map_or (λ last. nat_lt last.0 j.0) (last_in_window c s j) false ≡ false
IsTrueOf c s (Fact.PastWindow j last) = (last_in_window c s j ≡ Some last) × (nat_lt last.0 j.0 ≡ true)
IsTrueOf c s (Fact.Supplied j) = full_of c s j ≡ None
IsTrueOf c s (Fact.Full j x) = full_of c s j ≡ Some x
IsTrueOf c s (Fact.Handles x count) = length (handles_of x s.handles) ≡ count
IsTrueOf c s (Fact.HasHandle x j) = has_handle j s.handles x ≡ true
IsTrueOf c s (Fact.Open r) = StandsAs s r RequestState.Requested None
IsTrueOf c s (Fact.TakenUp r session) = StandsAs s r RequestState.Requested (Some session)
IsTrueOf c s (Fact.Served r session) = StandsAs s r RequestState.Pending (Some session)
IsTrueOf c s (Fact.Abandoned r) = StandsAs s r RequestState.Pending None
IsTrueOf c s (Fact.Fulfilled r) = state_of r s ≡ Some RequestState.Fulfilled
IsTrueOf c s (Fact.Failed r) = state_of r s ≡ Some RequestState.Failed
IsTrueOf c s (Fact.Declined r p why) = reason_of r p s ≡ Some why
IsTrueOf c s (Fact.Blocked r p t) = blocking_of c s r p ≡ Some t
IsTrueOf c s (Fact.First r p) = is_request r (first_of c s p) ≡ true
IsTrueOf c s (Fact.Behind r p first) = (first_of c s p ≡ Some first) × (same_request first r ≡ false)
IsTrueOf c s (Fact.Closed r p) = first_of c s p ≡ None
IsTrueOf c s (Fact.Complete r) = next_of r s ≡ None
IsTrueOf c s (Fact.NoRoom r p l) =
    (pool_of r s ≡ Some p) × (next_of r s ≡ Some l) × (option_map_or (λ request. is_stuck_at c s p request l) (request_in r s.requests) false ≡ true)
IsTrueOf c s (Fact.Lacks r l) = next_of r s ≡ Some l
IsTrueOf c s (Fact.Registered p session) = registered p s.registrations ≡ Some session
IsTrueOf c s (Fact.Unregistered p) = registered p s.registrations ≡ None
IsTrueOf c s (Fact.Busy p) = has_request_under_way p s ≡ true
IsTrueOf c s (Fact.Idle p) = has_request_under_way p s ≡ false
IsTrueOf c s (Fact.HasTurn p) = has_turn_left c s p ≡ true
IsTrueOf c s (Fact.NoTurn p most) = (concurrency_of c p ≡ Some most) × (has_turn_left c s p ≡ false)
IsTrueOf c s (Fact.PoolUses p used) = count_of c s p ≡ used
IsTrueOf c s (Fact.TenantUses t used) = count_of_tenant c s t ≡ used
IsTrueOf c s (Fact.Stands n state attempts) = (node_state_of n s ≡ Some state) × (option_map (λ k. k.attempts) (node_in n s.nodes) ≡ Some attempts)
IsTrueOf c s (Fact.Held n session) = node_holder n s.nodes ≡ Some session
IsTrueOf c s (Fact.Unheld n) = node_holder n s.nodes ≡ None
IsTrueOf c s (Fact.Owned n j) = owner_of n s.jobs ≡ Some j
IsTrueOf c s (Fact.Allocated n r) = (owner_of n s.jobs ≡ None) × (allocation_of n s ≡ Some r)
IsTrueOf c s (Fact.Free n) = (owner_of n s.jobs ≡ None) × (allocation_of n s ≡ None)
IsTrueOf c s (Fact.Known session facts) = session_of session s ≡ Some facts
IsTrueOf c s (Fact.Current role session) = current_of role s ≡ Some session
IsTrueOf c s (Fact.Stopped role) = (current_of role s ≡ None) × (is_stopped c role s ≡ true)
IsTrueOf c s (Fact.MayOpen role) = (current_of role s ≡ None) × (is_stopped c role s ≡ false)
IsTrueOf c s (Fact.Missing it) = IsMissing c s it

-- it is about the thing, and true
pub record Tells (c : Configuration) (s : State) (it : Thing) (f : Fact) : Type 0 where
  pub about : about_of f ≡ it
  pub true : IsTrueOf c s f
