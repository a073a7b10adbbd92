-- what the readers of a state return, beyond the machine's own definitions
use Rattle.std.specs.Prelude.{ℕ, suc, drop, Bool, true, false, ◌==◌, ◌&&◌, ◌||◌, not, if◌then◌else◌, List, [], ◌∷◌, filter, find, fold, map, Option, Some, None, is_some, is_none, option_and_then, slice_get, length, nat_lt}
use Rattle.np_look.specs.declared.asked.UnheldKind.{UnheldKind}
use Rattle.np_look.specs.Lower.{Amount, Configuration, JobId, JobRecord, LabelId, Limit, NodeEntry, NodeId, NodeRecord, NodeState, PoolId, RequestEntry, RequestId, RequestRecord, RequestState, RequesterId, Role, SessionFacts, SessionId, State, TenantId, amount_of, amount_of_all, amount_of_node, due_tick, fits, holder, is_declined_by, is_last_pool, is_over, is_pending_by, is_pending_of, is_queued, is_requested, is_spare, is_tenant, limit_of, limit_of_tenant, list_any, may_fit, next_label, nothing, option_map, option_map_or, option_or, plus, ready_age, request_in, rest_of_request, speaks_for, standing, tenant_of_request, undeclined}

-- whether the pool is among the request's declines
abbrev pub is_declined : PoolId → RequestId → State → Bool
is_declined p r s = option_map_or (λ request. is_declined_by p request.declined) (request_in r s.requests) false

abbrev pub undeclined_of : RequestId → State → ℕ
undeclined_of r s = option_map_or (undeclined s.registrations) (request_in r s.requests) 0

abbrev pub is_last_pool_of : PoolId → RequestId → State → Bool
is_last_pool_of p r s = option_map_or (λ request. is_last_pool s.registrations request p) (request_in r s.requests) false

-- the next label of the request, if the pool serves it and exceeds a limit with one more node of
-- the label
abbrev pub short_label : Configuration → PoolId → Amount → RequestRecord → Option LabelId
short_label c p used request =
    if is_pending_by p request
    then option_and_then (λ l. if not (fits (plus used (amount_of c p l)) (limit_of c p)) then Some l else None) (next_label request)
    else None

-- what the node takes, if it is the pool's
abbrev pub amount_at : Configuration → PoolId → NodeEntry → Amount
amount_at c p e = if e.kept.pool.0 == p.0 then amount_of c p e.kept.label else nothing

-- ## tenants

-- the tenant of the job, if there is one
abbrev pub tenant_of_job : Configuration → Option JobId → Option TenantId
tenant_of_job c job = option_map (λ row. row.tenant) (option_and_then (λ j. slice_get c.jobs j.0) job)

-- at least one part of it is limited
abbrev pub has_limit : Limit → Bool
has_limit limit = is_some limit.instances || is_some limit.cores || is_some limit.ram

-- the tenant of a request that is not pinned, if it has a limit and the pool may serve the request
abbrev pub limited_tenant : Configuration → PoolId → RequestRecord → Option TenantId
limited_tenant c p request =
    option_and_then (λ t. if is_none request.pinned && has_limit (limit_of_tenant c t) && may_fit c p request then Some t else None) (tenant_of_request c request)

-- what the node takes of its pool, if it is the tenant's
abbrev pub amount_for : Configuration → TenantId → NodeEntry → Amount
amount_for c t e = if is_tenant t e.kept.tenant then amount_of_node c e else nothing

-- what the labels after the last node of a request with this record take of the pool that serves it
abbrev pub rest_of : Configuration → RequestRecord → Amount
rest_of c request = option_map_or (λ p. amount_of_all c p (drop (length request.nodes) request.labels)) request.pool nothing

-- what the request still waits for, if it is pending and the tenant's
abbrev pub rest_for : Configuration → TenantId → RequestEntry → Amount
rest_for c t e = if is_pending_of c t e then rest_of_request c e else nothing

-- ## nodes and jobs by their place

-- the nodes of the pool with the label that are ready, free and unlocked, in order: the one at this place
abbrev pub free_ready_of : PoolId → LabelId → ℕ → State → Option NodeId
free_ready_of p l at s = option_map (λ e. e.id) (slice_get (filter (is_spare p l) s.nodes) at)

-- a job of the requester that is not over
abbrev pub is_unfinished_job : Configuration → RequesterId → JobId → JobRecord → Bool
is_unfinished_job c q j kept = option_map_or (λ row. row.requester.0 == q.0) (slice_get c.jobs j.0) false && not (is_over kept.phase)

-- the state of the request, if there is one
abbrev pub request_state_of : Option RequestId → State → Option RequestState
request_state_of r s = option_map (λ request. request.state) (option_and_then (λ id. request_in id s.requests) r)

-- the jobs that pass among these, the first of which has this number
abbrev pub jobs_from : (JobId → JobRecord → Bool) → ℕ → List JobRecord → List JobId
jobs_from passes number [] = []
jobs_from passes number (kept ∷ jobs) =
    if passes (record { 0 = number }) kept
    then record { 0 = number } ∷ jobs_from passes (suc number) jobs
    else jobs_from passes (suc number) jobs

abbrev pub unfinished_from : Configuration → RequesterId → ℕ → List JobRecord → List JobId
unfinished_from c q number jobs = jobs_from (is_unfinished_job c q) number jobs

-- the jobs of the requester that are not over, in order: the one at this place
abbrev pub unfinished_of : Configuration → RequesterId → ℕ → State → Option JobId
unfinished_of c q at s = slice_get (unfinished_from c q 0 s.jobs) at

-- ## sessions

-- the last of these sessions that speaks for the role, the first of which has this number
abbrev pub speaker_from : Role → ℕ → List SessionFacts → Option SessionId
speaker_from role number [] = None
speaker_from role number (facts ∷ sessions) =
    option_or (speaker_from role (suc number) sessions) (if speaks_for role facts then Some (record { 0 = number }) else None)

-- the last session that speaks for the role
abbrev pub current_of : Role → State → Option SessionId
current_of role s = speaker_from role 1 s.sessions

-- the first of these sessions that is live and mute, the first of which has this number
abbrev pub mute_from : ℕ → List SessionFacts → Option SessionId
mute_from number [] = None
mute_from number (facts ∷ sessions) = if facts.live && facts.mute then Some (record { 0 = number }) else mute_from (suc number) sessions

-- the first session that is live and mute
abbrev pub first_mute : State → Option SessionId
first_mute s = mute_from 1 s.sessions

-- ## the queues that a session is in

-- the requests in whose queues the session is, by priority and then sequence
abbrev pub queued_requests : SessionId → State → List RequestId
queued_requests session s = map (λ e. e.id) (filter (λ e. is_queued session e.queue) s.requests)

-- the nodes in whose queues the session is, by number
abbrev pub queued_nodes : SessionId → State → List NodeId
queued_nodes session s = map (λ e. e.id) (filter (λ e. is_queued session e.queue) s.nodes)

-- ## requests and nodes of a kind

-- the requests that are pending by the pool, by priority and then sequence
abbrev pub pending_requests : PoolId → State → List RequestId
pending_requests p s = map (λ e. e.id) (filter (λ e. is_pending_by p e.kept) s.requests)

-- a request that is pending by the pool and that nobody holds
abbrev pub is_unheld_pending : PoolId → RequestEntry → Bool
is_unheld_pending p e = is_pending_by p e.kept && is_none (holder e.queue)

-- the first such request, by priority and then sequence
abbrev pub first_unheld_pending : PoolId → State → Option RequestId
first_unheld_pending p s = option_map (λ e. e.id) (find (is_unheld_pending p) s.requests)

-- pending by the pool, and without a node for one of its labels
abbrev pub is_under_way_by : PoolId → RequestRecord → Bool
is_under_way_by p request = is_pending_by p request && is_some (next_label request)

-- there is such a request
abbrev pub has_request_under_way : PoolId → State → Bool
has_request_under_way p s = list_any (λ e. is_under_way_by p e.kept) s.requests

-- requested, and every registered pool declined it
abbrev pub is_declined_by_all : State → RequestRecord → Bool
is_declined_by_all s request = is_requested request.state && (undeclined s.registrations request == 0)

-- the first such request, if a pool is registered
abbrev pub first_declined_by_all : State → Option RequestId
first_declined_by_all s = if length s.registrations == 0 then None else option_map (λ e. e.id) (find (λ e. is_declined_by_all s e.kept) s.requests)

-- ## nodes that nobody holds, by kind

-- a node of the pool that nobody holds
abbrev pub is_unheld : PoolId → NodeEntry → Bool
is_unheld p e = (e.kept.pool.0 == p.0) && is_none (holder e.queue)

-- allocated to no request, or to one that is gone
abbrev pub is_unclaimed : State → NodeRecord → Bool
is_unclaimed s k = is_none (standing s k.allocated_to)

-- the kind of a node in this state, by whether it is unclaimed; a ready node that a request claims is
-- of no kind
abbrev pub unheld_kind_as : NodeState → Bool → NodeRecord → Option UnheldKind
unheld_kind_as NodeState.Building unclaimed k = Some UnheldKind.Abandoned
unheld_kind_as NodeState.Ready unclaimed k =
    if unclaimed then (if is_none k.allocated_to then Some UnheldKind.Free else Some UnheldKind.LeftOver) else None
unheld_kind_as NodeState.InUse unclaimed k = Some UnheldKind.Abandoned
unheld_kind_as NodeState.Used unclaimed k = Some UnheldKind.Abandoned
unheld_kind_as NodeState.Hold unclaimed k = Some UnheldKind.Hold
unheld_kind_as NodeState.Deleting unclaimed k = Some UnheldKind.Abandoned
unheld_kind_as NodeState.Failed unclaimed k = Some UnheldKind.Abandoned

abbrev pub unheld_kind : Bool → NodeRecord → Option UnheldKind
unheld_kind unclaimed k = unheld_kind_as k.state unclaimed k

abbrev pub same_kind : UnheldKind → UnheldKind → Bool
same_kind UnheldKind.Free UnheldKind.Free = true
same_kind UnheldKind.LeftOver UnheldKind.LeftOver = true
same_kind UnheldKind.Hold UnheldKind.Hold = true
same_kind UnheldKind.Abandoned UnheldKind.Abandoned = true
same_kind _ _ = false

-- a node of the pool that nobody holds, of this kind, by whether it is unclaimed
abbrev pub is_unheld_by : PoolId → UnheldKind → Bool → NodeEntry → Bool
is_unheld_by p kind unclaimed e = is_unheld p e && option_map_or (same_kind kind) (unheld_kind unclaimed e.kept) false

abbrev pub is_unheld_as : State → PoolId → UnheldKind → NodeEntry → Bool
is_unheld_as s p kind e = is_unheld_by p kind (is_unclaimed s e.kept) e

-- after all ticks: 2 to the 33rd, more than two numbers of 32 bits and one
abbrev pub never : ℕ
never = 8589934592

-- the first tick at which it is past the age; `never` if there is no age
abbrev pub due_after : ℕ → ℕ → ℕ
due_after age since = if age == 0 then never else due_tick age since

-- the tick at which a node of the kind is due: when it is past its age, or when its state began if no
-- age counts
abbrev pub due_of : Configuration → UnheldKind → NodeRecord → ℕ
due_of c UnheldKind.Free k = due_after (ready_age c k.label) k.since
due_of c UnheldKind.LeftOver k = k.since
due_of c UnheldKind.Hold k = due_after c.max_hold_age k.since
due_of c UnheldKind.Abandoned k = k.since

-- of two nodes the one that is due first; of two that are due at one tick the first
abbrev pub sooner : Configuration → UnheldKind → Option NodeEntry → NodeEntry → Option NodeEntry
sooner c kind None e = Some e
sooner c kind (Some best) e = if nat_lt (due_of c kind e.kept) (due_of c kind best.kept) then Some e else Some best

abbrev pub soonest : Configuration → UnheldKind → List NodeEntry → Option NodeEntry
soonest c kind rows = fold (sooner c kind) None rows

-- the node of the pool that nobody holds and that is of this kind which is due first
abbrev pub first_due : Configuration → PoolId → UnheldKind → State → Option NodeId
first_due c p kind s = option_map (λ e. e.id) (soonest c kind (filter (is_unheld_as s p kind) s.nodes))
