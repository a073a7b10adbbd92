-- the rows on semaphores and jobs
use Rattle.std.specs.Prelude.{ℕ, List, Bool, false, ◌==◌, ◌&&◌, ◌||◌, not, if◌then◌else◌, Option, Some, Ok, Err, length, map, filter, find, fold, slice_get, count_by, nat_le, nat_lt, option_and_then}
use Rattle.std.specs.Option.{option_map_or}
use Rattle.std.specs.List.{list_any, list_all}
use Rattle.np_machine.specs.Entries.{NodeEntry}
use Rattle.np_machine.specs.Kinds.{is_fulfilled, is_failed, is_in_use, is_new, is_asked, is_using, is_over}
use Rattle.np_machine.specs.Tables.{role_of, is_session_of, holder, request_in, remove_request, node_entry, node_holder, put_job, handles_of, is_among, has_handle}
use Rattle.np_machine.specs.Tests.{Answer, Check, maker, request_at, job_at, record_of, of_requester, own_job, wrong_request, wrong_job, none_missing, missing_handles, after_found}
use Rattle.np_lists.specs.Refusals.{◌>>=◌, ◌>>◌}
use Rattle.np_machine.specs.State.{State}
use Rattle.np_machine.specs.Lower.{Configuration, Done, Ending, Janitor, Job, JobId, JobRecord, Marked, NodeId, NodeState, Phase, Refusal, RequestId, RequestRecord, Requester, RequesterId, Role, SemId, SessionId, change_at, change_first, found, insert_before, need, vacant}

-- ## acquire: the job takes all its semaphores, or none (Zuul: semaphores)

abbrev pub max_of : Configuration → SemId → ℕ
max_of c x = option_map_or (λ sem. sem.max) (slice_get c.semaphores x.0) 0

-- as many jobs have a handle as may, or more, which never happens (Zuul: max)
abbrev pub is_full : Configuration → State → SemId → Bool
is_full c s x = nat_le (max_of c x) (length (handles_of x s.handles))

-- the first of the job's semaphores that is full and of which it has no handle
abbrev pub first_full : Configuration → State → JobId → Job → Option SemId
first_full c s j job = find (λ x. not (has_handle j s.handles x) && is_full c s x) job.semaphores

abbrev pub judge_acquire : Configuration → State → SessionId → JobId → Answer
judge_acquire c s session j = do
  (job, kept) ← own_job c s session j
  need (not (is_over kept.phase)) (wrong_job kept)
  vacant (first_full c s j job) Refusal.SemaphoreFull
  Ok Done.Plain

-- the job at its place among those with a handle, once
abbrev pub with_handle : JobId → List JobId → List JobId
with_handle j jobs = if is_among j jobs then jobs else insert_before (λ other. nat_lt j.0 other.0) j jobs

abbrev pub all_with_handle : JobId → List SemId → List (List JobId) → List (List JobId)
all_with_handle j semaphores handles = fold (λ hs x. change_at x.0 (with_handle j) hs) handles semaphores

abbrev pub acquired : State → JobId → Job → State
acquired s j job = record s { handles = all_with_handle j job.semaphores s.handles }

abbrev pub effect_acquire : Configuration → State → JobId → State
effect_acquire c s j = after_found (slice_get c.jobs j.0) s (acquired s j)

-- ## take: the requester takes over the nodes of its fulfilled request (Zuul)

-- how many of the nodes somebody else holds, or nobody
abbrev pub unheld : State → SessionId → List NodeId → ℕ
unheld s session numbers = count_by (λ n. not (is_session_of session (node_holder n s.nodes))) numbers

-- asked, its request fulfilled, and all its nodes and semaphores held
abbrev pub may_take : State → SessionId → JobId → Job → JobRecord → Check
may_take s session j job kept = do
  need (is_asked kept.phase) (wrong_job kept)
  r ← found kept.request Refusal.NoRequest
  request ← request_at s r
  need (is_fulfilled request.state) (wrong_request request)
  none_missing (unheld s session request.nodes)
  none_missing (missing_handles s j job)

abbrev pub judge_take : Configuration → State → SessionId → JobId → Answer
judge_take c s session j = do
  (job, kept) ← own_job c s session j
  may_take s session j job kept
  Ok Done.Plain

abbrev pub in_use : ℕ → NodeEntry → NodeEntry
in_use tick e = record e { kept = record e.kept { since = tick; state = NodeState.InUse } }

-- each of the nodes in use, from this tick
abbrev pub all_in_use : ℕ → List NodeId → List NodeEntry → List NodeEntry
all_in_use tick numbers nodes = fold (λ es n. change_first (λ e. e.id.0 == n.0) (in_use tick) es) nodes numbers

-- a node that the requester is not done with
abbrev pub unended : NodeId → Marked
unended n = record { node = n; ended = false }

abbrev pub taken : State → JobId → JobRecord → RequestId → RequestRecord → State
taken s j kept r request = record s {
  requests = remove_request r s.requests;
  nodes = all_in_use s.tick request.nodes s.nodes;
  jobs = put_job j (record kept { nodes = map unended request.nodes; phase = Phase.Using; pool = request.pool }) s.jobs;
}

abbrev pub take_from : State → JobId → JobRecord → RequestId → State
take_from s j kept r = after_found (request_in r s.requests) s (taken s j kept r)

abbrev pub take_for : State → JobId → JobRecord → State
take_for s j kept = after_found kept.request s (take_from s j kept)

abbrev pub effect_take : State → JobId → State
effect_take s j = after_found (slice_get s.jobs j.0) s (take_for s j)

-- ## finish: the job is over; a janitor finishes it if its requester has no session left (own)

-- a session of the requester
abbrev pub is_requesters : RequesterId → Option Role → Bool
is_requesters q (Some (Requester other)) = other.0 == q.0
is_requesters q _ = false

-- live, mute or not
abbrev pub has_live_session : RequesterId → State → Bool
has_live_session q s = list_any (λ f. f.live && is_requesters q (Some f.role)) s.sessions

-- in use, and held by a session of the requester; a session that holds is live
abbrev pub is_busy_with : RequesterId → State → NodeId → Bool
is_busy_with q s n =
    option_map_or (λ e. is_in_use e.kept.state && is_requesters q (option_and_then (λ session. role_of session s) (holder e.queue))) (node_entry n s.nodes) false

abbrev pub has_failed_request : State → JobRecord → Bool
has_failed_request s kept =
    option_map_or (λ request. is_failed request.state) (option_and_then (λ r. request_in r s.requests) kept.request) false

-- asked and its request failed, or using and done with each of its nodes
abbrev pub is_finishable : State → Job → JobRecord → Bool
is_finishable s job kept =
    (is_asked kept.phase && has_failed_request s kept)
    || (is_using kept.phase && not (list_any (λ m. is_busy_with job.requester s m.node) kept.nodes))

abbrev pub ending_of : JobRecord → Ending
ending_of kept =
    if is_asked kept.phase then Ending.Failed
    else (if list_all (λ m. m.ended) kept.nodes then Ending.Served else Ending.Lost)

-- the requester its own job, the janitor one that was left alone
abbrev pub may_finish : State → Job → Role → Check
may_finish s job (Janitor p) = need (not (has_live_session job.requester s)) Refusal.NotOwner
may_finish s job (Requester q) = of_requester q job
may_finish s job _ = Err Refusal.WrongRole

-- a requester or a janitor
abbrev pub requester_or_janitor : Role → Check
requester_or_janitor (Janitor p) = Ok tt
requester_or_janitor (Requester q) = Ok tt
requester_or_janitor _ = Err Refusal.WrongRole

abbrev pub judge_finish : Configuration → State → SessionId → JobId → Answer
judge_finish c s session j = do
  role ← maker s session
  requester_or_janitor role
  job ← job_at c j
  kept ← record_of s j
  may_finish s job role
  need (is_finishable s job kept) (wrong_job kept)
  Ok (Done.Ended (ending_of kept))

abbrev pub finished : State → JobId → JobRecord → State
finished s j kept = record s { jobs = put_job j (record kept { ending = Some (ending_of kept); phase = Phase.Over }) s.jobs }

abbrev pub effect_finish : State → JobId → State
effect_finish s j = after_found (slice_get s.jobs j.0) s (finished s j)

-- ## withdraw: the requester gives its job up before it has nodes (Zuul: a cancelled node request)
abbrev pub judge_withdraw : Configuration → State → SessionId → JobId → Answer
judge_withdraw c s session j = do
  (job, kept) ← own_job c s session j
  need (is_new kept.phase || is_asked kept.phase) (wrong_job kept)
  Ok Done.Plain

abbrev pub withdrawn : State → JobId → JobRecord → State
withdrawn s j kept = record s {
  requests = option_map_or (λ r. remove_request r s.requests) kept.request s.requests;
  jobs = put_job j (record kept { ending = Some Ending.Withdrawn; phase = Phase.Over }) s.jobs;
}

abbrev pub effect_withdraw : State → JobId → State
effect_withdraw s j = after_found (slice_get s.jobs j.0) s (withdrawn s j)

-- ## release: the job's handles are given back (Zuul: semaphores are released when the job is over)

-- the requester its own job, any janitor
abbrev pub may_release : Job → Role → Check
may_release job (Janitor p) = Ok tt
may_release job (Requester q) = of_requester q job
may_release job _ = Err Refusal.WrongRole

abbrev pub judge_release : Configuration → State → SessionId → JobId → Answer
judge_release c s session j = do
  role ← maker s session
  requester_or_janitor role
  job ← job_at c j
  kept ← record_of s j
  may_release job role
  need (is_over kept.phase) (wrong_job kept)
  Ok Done.Plain

abbrev pub without_handle : JobId → List JobId → List JobId
without_handle j jobs = filter (λ other. not (other.0 == j.0)) jobs

abbrev pub all_without_handle : JobId → List SemId → List (List JobId) → List (List JobId)
all_without_handle j semaphores handles = fold (λ hs x. change_at x.0 (without_handle j) hs) handles semaphores

abbrev pub released : State → JobId → Job → State
released s j job = record s { handles = all_without_handle j job.semaphores s.handles }

abbrev pub effect_release : Configuration → State → JobId → State
effect_release c s j = after_found (slice_get c.jobs j.0) s (released s j)
