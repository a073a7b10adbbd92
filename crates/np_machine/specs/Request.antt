-- the rows on requests
use Rattle.std.specs.Prelude.{ℕ, ◌+◌, List, [], ◌∷◌, ◌++◌, Bool, false, ◌==◌, ◌&&◌, ◌||◌, not, if◌then◌else◌, Option, Some, None, is_some, is_none, Ok, Err, length, slice_get, count_by, nat_lt, option_and_then}
use Rattle.std.specs.Option.{option_map_or}
use Rattle.std.specs.List.{list_any, list_all}
use Rattle.np_machine.specs.Entries.{RequestEntry, NodeEntry}
use Rattle.np_machine.specs.declared.state.Registration.{Registration}
use Rattle.np_machine.specs.Kinds.{is_requested, is_pending, is_failed, is_ready, is_new, is_asked}
use Rattle.np_machine.specs.Tables.{registered, same_request, is_request, is_session_of, joined, left, holder, request_in, request_queue, put_request, put_request_queue, remove_request, node_entry, all_freed, put_job}
use Rattle.np_machine.specs.Count.{is_offered, count_of, is_short}
use Rattle.np_machine.specs.Order.{is_id_before, is_pool, is_pinned_away, is_declined_by, is_pending_by}
use Rattle.np_machine.specs.Tenants.{tenant_never_fits}
use Rattle.np_machine.specs.Reasons.{first_unoffered, never_fits, is_true}
use Rattle.np_machine.specs.First.{first_of}
use Rattle.np_machine.specs.Tests.{Answer, Check, maker, launcher, janitor, request_at, own_job, by_registrant, by_request_holder, unlocked, wrong_request, wrong_job, in_requested, in_pending, in_pending_by, not_declined, not_blocked, none_missing, quota_short, missing_handles, after_found, after_given}
use Rattle.np_lists.specs.Refusals.{◌>>=◌, ◌>>◌}
use Rattle.np_machine.specs.State.{State}
use Rattle.np_machine.specs.Lower.{Configuration, Declined, Done, Janitor, Job, JobId, JobRecord, LabelId, Launcher, NodeId, Phase, PoolId, Reason, Refusal, RequestId, RequestRecord, RequestState, Role, SessionId, found, insert_before, need, vacant}

-- the request at its place in the order of ids
abbrev pub insert_request : RequestEntry → List RequestEntry → List RequestEntry
insert_request new requests = insert_before (λ e. is_id_before new.id e.id) new requests

-- ## register: the launcher of a pool takes its registration (Nodepool: launchers register)
abbrev pub judge_register : State → SessionId → Answer
judge_register s session = do
  p ← launcher s session
  vacant (registered p s.registrations) Refusal.Taken
  Ok Done.Plain

abbrev pub registers : State → SessionId → PoolId → State
registers s session p = record s { registrations = insert_before (λ g. nat_lt p.0 g.pool.0) (record { pool = p; session = session }) s.registrations }

abbrev pub effect_register : State → SessionId → State
effect_register s session = after_given (launcher s session) s (registers s session)

-- ## submit: the requester requests the nodes of its job (Zuul: a node request)
abbrev pub next_id : ℕ → State → RequestId
next_id priority s = record { priority = priority; seq = s.next_request }

abbrev pub judge_submit : Configuration → State → SessionId → JobId → Answer
judge_submit c s session j = do
  (job, kept) ← own_job c s session j
  need (is_new kept.phase) (wrong_job kept)
  need (job.resources_first || (missing_handles s j job == 0)) (Refusal.NotAll (missing_handles s j job))
  Ok (Done.Request (next_id job.priority s))

-- the request of a job, before anybody took it up
abbrev pub asked_by : RequestId → JobId → Job → RequestEntry
asked_by r j job = record {
  id = r;
  kept = record {
    declined = [];
    job = Some j;
    labels = job.labels;
    nodes = [];
    pinned = None;
    pool = None;
    relative_priority = job.relative_priority;
    state = RequestState.Requested;
  };
  queue = [];
}

abbrev pub submitted : State → JobId → Job → JobRecord → State
submitted s j job kept = record s {
  requests = insert_request (asked_by (next_id job.priority s) j job) s.requests;
  jobs = put_job j (record kept { phase = Phase.Asked; request = Some (next_id job.priority s) }) s.jobs;
  next_request = s.next_request + 1;
}

abbrev pub submit_for : State → JobId → Job → State
submit_for s j job = after_found (slice_get s.jobs j.0) s (submitted s j job)

abbrev pub effect_submit : Configuration → State → JobId → State
effect_submit c s j = after_found (slice_get c.jobs j.0) s (submit_for s j)

-- ## revise: the requester changes the relative priority of a request that nobody has accepted (Zuul: node requests are revised)
abbrev pub judge_revise : Configuration → State → SessionId → JobId → Answer
judge_revise c s session j = do
  (_job, kept) ← own_job c s session j
  need (is_asked kept.phase) (wrong_job kept)
  r ← found kept.request Refusal.NoRequest
  request ← request_at s r
  in_requested request
  Ok Done.Plain

abbrev pub revised : State → ℕ → RequestId → RequestRecord → State
revised s relative r request = record s { requests = put_request r (record request { relative_priority = relative }) s.requests }

abbrev pub revise_request : State → ℕ → RequestId → State
revise_request s relative r = after_found (request_in r s.requests) s (revised s relative r)

-- the request of the job
abbrev pub request_of_job : JobId → State → Option RequestId
request_of_job j s = option_and_then (λ kept. kept.request) (slice_get s.jobs j.0)

abbrev pub effect_revise : State → JobId → ℕ → State
effect_revise s j relative = after_found (request_of_job j s) s (revise_request s relative)

-- ## min-ready: the launcher requests a node of a label to be kept ready (Nodepool: min-ready)

-- a min-ready request for the label
abbrev pub is_min_ready_for : LabelId → RequestRecord → Bool
is_min_ready_for l request = is_some request.pinned && option_map_or (λ other. other.0 == l.0) (slice_get request.labels 0) false

-- a failed min-ready request of the pool for the label
abbrev pub is_spent_min_ready : PoolId → LabelId → RequestEntry → Bool
is_spent_min_ready p l e = is_failed e.kept.state && is_pool p e.kept.pinned && is_min_ready_for l e.kept

-- a min-ready request for the label that is requested or pending
abbrev pub is_coming : LabelId → RequestEntry → Bool
is_coming l e = (is_requested e.kept.state || is_pending e.kept.state) && is_min_ready_for l e.kept

-- a ready node of the label that is allocated to no request
abbrev pub is_free_ready : LabelId → NodeEntry → Bool
is_free_ready l e = is_ready e.kept.state && is_none e.kept.allocated_to && (e.kept.label.0 == l.0)

-- the free ready nodes of the label in all pools, and those that are coming
abbrev pub ready_count : LabelId → State → ℕ
ready_count l s = count_by (is_free_ready l) s.nodes + count_by (is_coming l) s.requests

abbrev pub judge_min_ready : Configuration → State → SessionId → LabelId → Answer
judge_min_ready c s session l = do
  p ← launcher s session
  label ← found (slice_get c.labels l.0) (Refusal.NoLabel l)
  by_registrant s p session
  need (is_offered c p l) (Refusal.NoLabel l)
  need (not (list_any (is_spent_min_ready p l) s.requests)) Refusal.Spent
  need (nat_lt (ready_count l s) label.min_ready) (Refusal.Enough (ready_count l s))
  need (not (is_short c s p l)) (quota_short (count_of c s p))
  Ok (Done.Request (next_id 400 s))

-- a min-ready request, of priority 400 (own) and pinned to the pool that makes it
abbrev pub kept_ready_by : RequestId → PoolId → LabelId → RequestEntry
kept_ready_by r p l = record {
  id = r;
  kept = record {
    declined = [];
    job = None;
    labels = l ∷ [];
    nodes = [];
    pinned = Some p;
    pool = None;
    relative_priority = 0;
    state = RequestState.Requested;
  };
  queue = [];
}

abbrev pub kept_ready : State → LabelId → PoolId → State
kept_ready s l p = record s {
  requests = insert_request (kept_ready_by (next_id 400 s) p l) s.requests;
  next_request = s.next_request + 1;
}

abbrev pub effect_min_ready : State → SessionId → LabelId → State
effect_min_ready s session l = after_given (launcher s session) s (kept_ready s l)

-- ## lock-request: a launcher takes up the first request of its pool, a janitor one that is pending (Nodepool: a request is locked while a launcher works on it)

-- another request than this one
abbrev pub other_than : RequestId → Option RequestId → Option RequestId
other_than r None = None
other_than r (Some first) = if same_request first r then None else Some first

-- a janitor locks a request that is pending
abbrev pub lock_pending : State → RequestId → Answer
lock_pending s r = do
  request ← request_at s r
  in_pending request
  unlocked s r
  Ok Done.Held

abbrev pub lock_request_as : Configuration → State → SessionId → RequestId → Role → Answer
lock_request_as c s session r (Launcher p) = do
  request ← request_at s r
  by_registrant s p session
  in_requested request
  not_declined p request
  need (not (is_pinned_away p request)) Refusal.NotOwner
  unlocked s r
  not_blocked c s p request
  vacant (other_than r (first_of c s p)) Refusal.NotFirst
  Ok Done.Held
lock_request_as c s session r (Janitor p) = lock_pending s r
lock_request_as c s session r _ = Err Refusal.WrongRole

abbrev pub judge_lock_request : Configuration → State → SessionId → RequestId → Answer
judge_lock_request c s session r = maker s session >>= lock_request_as c s session r

abbrev pub effect_lock_request : State → SessionId → RequestId → State
effect_lock_request s session r =
    record s { requests = put_request_queue r (joined session (request_queue r s.requests)) s.requests }

-- ## unlock-request: the maker unlocks it; a launcher may not while its pool serves the request
abbrev pub unlock_request_as : State → SessionId → RequestId → Role → Answer
unlock_request_as s session r (Launcher p) = do
  request ← request_at s r
  by_request_holder s r session
  need (not (is_pending_by p request)) (wrong_request request)
  Ok Done.Plain
unlock_request_as s session r (Janitor p) = do
  request ← request_at s r
  by_request_holder s r session
  Ok Done.Plain
unlock_request_as s session r _ = Err Refusal.WrongRole

abbrev pub judge_unlock_request : State → SessionId → RequestId → Answer
judge_unlock_request s session r = maker s session >>= unlock_request_as s session r

abbrev pub effect_unlock_request : State → SessionId → RequestId → State
effect_unlock_request s session r =
    record s { requests = put_request_queue r (left session (request_queue r s.requests)) s.requests }

-- ## accept: the launcher takes the request for its pool, so that no other pool serves it (Nodepool: pending)
abbrev pub judge_accept : Configuration → State → SessionId → RequestId → Answer
judge_accept c s session r = do
  p ← launcher s session
  request ← request_at s r
  by_registrant s p session
  by_request_holder s r session
  in_requested request
  not_declined p request
  vacant (first_unoffered c p request) Refusal.NoLabel
  need (not (never_fits c p request)) Refusal.NeverFits
  need (not (tenant_never_fits c p request)) Refusal.TenantNeverFits
  not_blocked c s p request
  Ok Done.Plain

abbrev pub accepted : State → RequestId → PoolId → RequestRecord → State
accepted s r p request =
    record s { requests = put_request r (record request { state = RequestState.Pending; pool = Some p }) s.requests }

abbrev pub accept_by : State → RequestId → PoolId → State
accept_by s r p = after_found (request_in r s.requests) s (accepted s r p)

abbrev pub effect_accept : State → SessionId → RequestId → State
effect_accept s session r = after_given (launcher s session) s (accept_by s r)

-- ## decline: the launcher leaves the request to the other pools (Nodepool: declined_by)

-- a pool gives up with a failed node while it serves the request, and otherwise before it took it
abbrev pub in_state_for : PoolId → RequestRecord → Reason → Check
in_state_for p request (Reason.Spent n) = in_pending_by p request
in_state_for p request _ = in_requested request

abbrev pub judge_decline : Configuration → State → SessionId → RequestId → Reason → Answer
judge_decline c s session r why = do
  p ← launcher s session
  request ← request_at s r
  by_registrant s p session
  by_request_holder s r session
  in_state_for p request why
  not_declined p request
  need (is_true c s p request why) Refusal.FalseReason
  Ok Done.Plain

-- every registered pool is among the declines
abbrev pub all_declined : List Registration → List Declined → Bool
all_declined registrations declined = list_all (λ g. is_declined_by g.pool declined) registrations

-- failed if no pool is left that may serve it (Nodepool: a request that every launcher declined
-- fails)
abbrev pub state_after_decline : List Registration → RequestRecord → List Declined → RequestState
state_after_decline registrations request declined =
    if is_some request.pinned || all_declined registrations declined then RequestState.Failed else RequestState.Requested

abbrev pub declined_with : RequestRecord → PoolId → Reason → List Declined
declined_with request p why = request.declined ++ record { pool = p; reason = why } ∷ []

abbrev pub declined : State → RequestId → Reason → PoolId → RequestRecord → State
declined s r why p request = record s {
  requests = put_request r (record request {
    declined = declined_with request p why;
    nodes = [];
    pool = None;
    state = state_after_decline s.registrations request (declined_with request p why);
  }) s.requests;
  nodes = all_freed r s.nodes;
}

abbrev pub decline_by : State → RequestId → Reason → PoolId → State
decline_by s r why p = after_found (request_in r s.requests) s (declined s r why p)

abbrev pub effect_decline : State → SessionId → RequestId → Reason → State
effect_decline s session r why = after_given (launcher s session) s (decline_by s r why)

-- ## fulfil: the launcher hands over all the request's nodes at once (Nodepool: fulfilled)

-- the node is ready, allocated to the request, of the pool and the label, and held by the session
abbrev pub is_filled : PoolId → SessionId → RequestId → LabelId → Option NodeEntry → Bool
is_filled p session r l None = false
is_filled p session r l (Some e) =
    is_ready e.kept.state && is_request r e.kept.allocated_to && (e.kept.pool.0 == p.0) && (e.kept.label.0 == l.0) && is_session_of session (holder e.queue)

-- how many places of the labels have no such node; no request has more nodes than labels
abbrev pub unfilled : PoolId → SessionId → RequestId → List NodeEntry → List LabelId → List NodeId → ℕ
unfilled p session r nodes [] numbers = 0
unfilled p session r nodes (l ∷ labels) [] = 1 + unfilled p session r nodes labels []
unfilled p session r nodes (l ∷ labels) (n ∷ numbers) =
    (if is_filled p session r l (node_entry n nodes) then 0 else 1) + unfilled p session r nodes labels numbers

abbrev pub judge_fulfil : State → SessionId → RequestId → Answer
judge_fulfil s session r = do
  p ← launcher s session
  request ← request_at s r
  by_registrant s p session
  by_request_holder s r session
  in_pending_by p request
  none_missing (unfilled p session r s.nodes request.labels request.nodes)
  Ok Done.Plain

-- a job's request is fulfilled; a min-ready request goes, and its node is free (Nodepool)
abbrev pub fulfilled : State → RequestId → RequestRecord → State
fulfilled s r request = record s {
  requests =
      if is_some request.pinned then remove_request r s.requests
      else put_request r (record request { state = RequestState.Fulfilled }) s.requests;
  nodes = if is_some request.pinned then all_freed r s.nodes else s.nodes;
}

abbrev pub effect_fulfil : State → RequestId → State
effect_fulfil s r = after_found (request_in r s.requests) s (fulfilled s r)

-- ## reset: the janitor gives back a request whose launcher is gone (Nodepool: cleanup of lost requests)
abbrev pub judge_reset : State → SessionId → RequestId → Answer
judge_reset s session r = do
  _p ← janitor s session
  request ← request_at s r
  by_request_holder s r session
  in_pending request
  Ok Done.Plain

abbrev pub given_back : State → RequestId → RequestRecord → State
given_back s r request = record s {
  requests = put_request r (record request { nodes = []; pool = None; state = RequestState.Requested }) s.requests;
  nodes = all_freed r s.nodes;
}

abbrev pub effect_reset : State → RequestId → State
effect_reset s r = after_found (request_in r s.requests) s (given_back s r)

-- ## fail-declined: the janitor fails a request that every registered pool has declined (own)
abbrev pub undeclined : List Registration → RequestRecord → ℕ
undeclined registrations request = count_by (λ g. not (is_declined_by g.pool request.declined)) registrations

abbrev pub judge_fail_declined : State → SessionId → RequestId → Answer
judge_fail_declined s session r = do
  _p ← janitor s session
  request ← request_at s r
  in_requested request
  need (not (length s.registrations == 0)) Refusal.NotRegistered
  none_missing (undeclined s.registrations request)
  Ok Done.Plain

abbrev pub failed : State → RequestId → RequestRecord → State
failed s r request = record s { requests = put_request r (record request { state = RequestState.Failed }) s.requests }

abbrev pub effect_fail_declined : State → RequestId → State
effect_fail_declined s r = after_found (request_in r s.requests) s (failed s r)
