-- words that the rows of several roles use, and which events are useful for the launcher of a pool
use Rattle.std.specs.Prelude.{Bool, false, ◌==◌, is_none, slice_get, ℕ, true, ◌&&◌, ◌||◌, not, Option, is_ok, find, count_by, nat_lt, option_and_then}
use Rattle.np_useful.specs.Sessions.{may_open}
use Rattle.np_useful.specs.Lower.{Configuration, Event, Janitor, Job, JobId, Launcher, NodeId, NodeRecord, Outcome, PoolId, Reaper, Reason, RequestEntry, RequestId, RequestRecord, Requester, Role, SessionId, State, blocking, first_unoffered, has_handle, holder, is_declined_by, is_node, is_paused, is_pending, is_pending_by, is_requested, is_session_of, is_spent, judge, list_any, maker_of, may_fit, never_fits, next_label, node_in, option_map, option_map_or, outcome_of, registered, request_in, role_of, same_role, tenant_never_fits}

-- words that the rows of several roles use

-- the request exists and passes the test (own)
abbrev pub request_is : RequestId → State → (RequestRecord → Bool) → Bool
request_is r s such = option_map_or such (request_in r s.requests) false

-- the node exists and passes the test (own)
abbrev pub node_is : NodeId → State → (NodeRecord → Bool) → Bool
node_is n s such = option_map_or such (node_in n s.nodes) false

-- the configuration has the job, and the job passes the test (own)
abbrev pub job_is : JobId → Configuration → (Job → Bool) → Bool
job_is j c such = option_map_or such (slice_get c.jobs j.0) false

-- the node is in the request's list (Nodepool: a request's nodes)
abbrev pub is_listed : NodeId → RequestRecord → Bool
is_listed n request = list_any (is_node n) request.nodes

-- the request has a node for each of its labels (Nodepool)
abbrev pub is_complete : RequestRecord → Bool
is_complete request = is_none (next_label request)

-- a node of its list has no launch left (Nodepool: launch-retries)
abbrev pub has_failed_node : State → RequestRecord → Bool
has_failed_node s request = list_any (λ n. is_spent n s) request.nodes

-- the node belongs to the pool (Nodepool)
abbrev pub is_node_of : PoolId → NodeRecord → Bool
is_node_of p k = k.pool.0 == p.0

-- the job has a handle of one of its semaphores (Zuul)
abbrev pub has_some_handle : State → JobId → Job → Bool
has_some_handle s j job = list_any (has_handle j s.handles) job.semaphores

-- which events are useful for the launcher of a pool: one line per event

-- ## requests that the launcher gives back

-- the launcher can still do something with it: it is requested, the pool has not declined it, and its tenant has room (own)
abbrev pub is_worth_keeping : Configuration → State → PoolId → RequestRecord → Bool
is_worth_keeping c s p request =
    is_requested request.state && not (is_declined_by p request.declined) && is_none (blocking c s p request)

-- neither pending nor worth keeping (own)
abbrev pub is_done_with : Configuration → State → PoolId → RequestRecord → Bool
is_done_with c s p request = not (is_pending request.state) && not (is_worth_keeping c s p request)

-- the reason is the first of the pool's for the request: labels in the request's order, the pool's limits, the tenant's, failed nodes in the list's order (own)
abbrev pub is_first_reason : Configuration → State → PoolId → RequestRecord → Reason → Bool
is_first_reason c s p request (Reason.NoLabel l) = option_map_or (λ first. first.0 == l.0) (first_unoffered c p request) false
is_first_reason c s p request Reason.NeverFits = is_none (first_unoffered c p request) && never_fits c p request
is_first_reason c s p request Reason.TenantNeverFits =
    is_none (first_unoffered c p request) && not (never_fits c p request) && tenant_never_fits c p request
is_first_reason c s p request (Reason.Spent n) =
    may_fit c p request && option_map_or (is_node n) (find (λ m. is_spent m s) request.nodes) false

-- ## nodes of the request that the pool serves

-- the node is in the list of a request that the pool serves (Nodepool: pending)
abbrev pub is_wanted_by : PoolId → State → NodeId → Bool
is_wanted_by p s n = list_any (λ e. is_pending_by p e.kept && is_listed n e.kept) s.requests

-- and no node of that list failed (own)
abbrev pub is_to_launch : PoolId → State → NodeId → Bool
is_to_launch p s n = list_any (λ e. is_pending_by p e.kept && is_listed n e.kept && not (has_failed_node s e.kept)) s.requests

-- some ready node may be allocated to the request (Nodepool: ready nodes are used first)
abbrev pub may_take_ready : Configuration → State → SessionId → RequestId → Bool
may_take_ready c s session r = list_any (λ e. is_ok (judge c s (Event.TakeReady session r e.id))) s.nodes

-- the same server, or both failed (own)
abbrev pub same_outcome : Outcome → Outcome → Bool
same_outcome (Outcome.Launched x) (Outcome.Launched y) = x == y
same_outcome Outcome.Failed Outcome.Failed = true
same_outcome _ _ = false

-- the report on the node's last attempt that the simulated cloud makes (own)
abbrev pub is_as_planned : Configuration → PoolId → ℕ → Outcome → NodeRecord → Bool
is_as_planned c p attempt o k = (k.attempts == attempt) && same_outcome (outcome_of c p k.start) o

-- ## requests that the launcher takes up

-- pending by the pool, and not complete (Nodepool: a launcher completes one request after another)
abbrev pub is_under_way : PoolId → RequestEntry → Bool
is_under_way p e = is_pending_by p e.kept && not (is_complete e.kept)

-- requested, not declined by the pool, and held by the session (own)
abbrev pub is_in_hand : PoolId → SessionId → RequestEntry → Bool
is_in_hand p session e = is_requested e.kept.state && not (is_declined_by p e.kept.declined) && is_session_of session (holder e.queue)

-- the provider of the pool, by its place (Nodepool)
abbrev pub provider_of : Configuration → PoolId → Option ℕ
provider_of c p = option_map (λ pool. pool.provider) (slice_get c.pools p.0)

-- both pools belong to one provider (Nodepool)
abbrev pub is_sister : Configuration → PoolId → PoolId → Bool
is_sister c p other = option_map_or (λ a. option_map_or (λ b. b == a) (provider_of c other) false) (provider_of c p) false

-- a launcher of the pool's provider (Nodepool)
abbrev pub is_sister_launcher : Configuration → PoolId → Role → Bool
is_sister_launcher c p (Launcher other) = is_sister c p other
is_sister_launcher c p (Janitor other) = false
is_sister_launcher c p (Requester q) = false
is_sister_launcher c p Reaper = false

-- pending in a pool of the provider (Nodepool)
abbrev pub is_served_near : Configuration → PoolId → RequestEntry → Bool
is_served_near c p e = is_pending e.kept.state && option_map_or (is_sister c p) e.kept.pool false

-- held by a session of a launcher of the provider, mute or not, in whatever state the request is (own)
abbrev pub is_held_near : Configuration → State → PoolId → RequestEntry → Bool
is_held_near c s p e = option_map_or (is_sister_launcher c p) (option_and_then (λ session. role_of session s) (holder e.queue)) false

-- how many requests the provider's launchers work on, each counted once (own)
abbrev pub requests_near : Configuration → State → PoolId → ℕ
requests_near c s p = count_by (λ e. is_served_near c p e || is_held_near c s p e) s.requests

-- how many requests they may work on at the same time (Nodepool: max-concurrency)
abbrev pub concurrency_of : Configuration → PoolId → Option ℕ
concurrency_of c p = option_and_then (λ provider. provider.concurrency) (option_and_then (λ place. slice_get c.providers place) (provider_of c p))

-- the provider's launchers may take up one more request (Nodepool: max-concurrency)
abbrev pub has_turn_left : Configuration → State → PoolId → Bool
has_turn_left c s p = option_map_or (λ most. nat_lt (requests_near c s p) most) (concurrency_of c p) true

-- ## the rows

-- what a launcher that holds its pool's registration does (Nodepool, in an order of its own)
abbrev pub registered_row : Configuration → State → PoolId → Event → Bool
registered_row c s p (Event.UnlockRequest session r) = request_is r s (is_done_with c s p)
registered_row c s p (Event.UnlockNode session n) = node_is n s (λ k. not k.in_flight) && not (is_wanted_by p s n)
registered_row c s p (Event.Accept session r) = true
registered_row c s p (Event.Decline session r why) = request_is r s (λ request. is_first_reason c s p request why)
registered_row c s p (Event.TakeReady session r n) = request_is r s (λ request. not (has_failed_node s request))
registered_row c s p (Event.Create session r) =
    request_is r s (λ request. not (has_failed_node s request)) && not (may_take_ready c s session r)
registered_row c s p (Event.Start session n) = is_to_launch p s n
registered_row c s p (Event.Done session n attempt o) = node_is n s (is_as_planned c p attempt o)
registered_row c s p (Event.Fulfil session r) = true
registered_row c s p (Event.LockRequest session r) =
    not (list_any (is_under_way p) s.requests) && not (list_any (is_in_hand p session) s.requests) && has_turn_left c s p
registered_row c s p (Event.MinReady session l) = not (is_paused c s p)
registered_row c s p _ = false

-- the event's maker holds the registration of the pool (own)
abbrev pub is_by_registrant : State → PoolId → Event → Bool
is_by_registrant s p e = option_map_or (λ session. is_session_of session (registered p s.registrations)) (maker_of e) false

-- it opens its session and registers first; everything else waits for that (Nodepool: launchers
-- register)
abbrev pub launcher_row : Configuration → State → PoolId → Event → Bool
launcher_row c s p (Event.OpenSession role) = same_role role (Launcher p) && may_open c role s
launcher_row c s p (Event.Register session) = true
launcher_row c s p e = is_by_registrant s p e && registered_row c s p e
