-- what each accepted event changes, as data
use Rattle.std.specs.Prelude.{ℕ, [], ◌∷◌, ◌+◌, Bool, true, false, ◌||◌, if◌then◌else◌, Option, Some, None, Result, Ok, Err, is_some, map, slice_get}
use Rattle.np_changes.specs.Readers.{is_last_pool, owner_of}
use Rattle.np_changes.specs.declared.asked.Asked.{Asked}
use Rattle.np_changes.specs.declared.changes.Changes.{Changes}
use Rattle.np_changes.specs.declared.changes.RequestsChange.{RequestsChange}
use Rattle.np_changes.specs.declared.changes.NodesChange.{NodesChange}
use Rattle.np_changes.specs.declared.changes.JobsChange.{JobsChange}
use Rattle.np_changes.specs.declared.changes.Growth.{Growth}
use Rattle.np_changes.specs.declared.changes.RequestEdit.{RequestEdit}
use Rattle.np_changes.specs.declared.changes.HandlesChange.{HandlesChange}
use Rattle.np_changes.specs.declared.changes.Deed.{Deed}
use Rattle.np_changes.specs.declared.changes.SessionsChange.{SessionsChange}
use Rattle.np_changes.specs.Lower.{Configuration, EndAs, Ending, Event, Janitor, Job, JobId, JobRecord, LabelId, Launcher, NodeId, NodeRecord, NodeState, Outcome, Phase, PoolId, Reason, Refusal, RequestId, RequestRecord, RequestState, Requester, Role, SessionId, State, ended_as, ending_of, freed, is_wanted, janitor, launched, launcher, maker, next_id, next_label, node_in, request_in, request_of_job, requester, retries_of, session_of, starts_of, tenant_of_request, unended}

-- nothing at all
abbrev pub same : Changes
same = record {
  maker = None;
  grows = Growth.Nothing;
  requests = RequestsChange.Same;
  nodes = NodesChange.Same;
  jobs = JobsChange.Same;
  handles = HandlesChange.Same;
  deed = None;
  sessions = SessionsChange.Same;
  ticks = false;
}

-- with what was found, or nothing
abbrev pub with_found : {A : Type 0} → Option A → (A → Changes) → Changes
with_found None change = same
with_found (Some a) change = change a

abbrev pub with_given : {A : Type 0} → Result A Refusal → (A → Changes) → Changes
with_given (Err refusal) change = same
with_given (Ok a) change = change a

-- the session makes the event, which is one act of its role
abbrev pub made_by : SessionId → Role → Changes → Changes
made_by session role ch = record ch { maker = Some (record { session = session; role = role }); deed = Some Deed.Acts }

abbrev pub by_launcher : State → SessionId → (PoolId → Changes) → Changes
by_launcher s session change = with_given (launcher s session) (λ p. made_by session (Launcher p) (change p))

abbrev pub by_janitor : State → SessionId → Changes → Changes
by_janitor s session change = with_given (janitor s session) (λ p. made_by session (Janitor p) change)

abbrev pub by_requester : State → SessionId → Changes → Changes
by_requester s session change = with_given (requester s session) (λ q. made_by session (Requester q) change)

abbrev pub by_any : State → SessionId → Changes → Changes
by_any s session change = with_given (maker s session) (λ role. made_by session role change)

-- ## sessions and ticks

abbrev pub plan_tick : Changes
plan_tick = record same { ticks = true }

abbrev pub plan_open : Role → Changes
plan_open role = record same { grows = Growth.Session role }

abbrev pub plan_crash : State → SessionId → Changes
plan_crash s session = with_found (session_of session s) (λ facts. record same { sessions = SessionsChange.Mute session; deed = Some (Deed.Strikes facts.role false) })

abbrev pub plan_expire : State → SessionId → Changes
plan_expire s session = with_found (session_of session s) (λ facts. record same { sessions = SessionsChange.End session; deed = Some (Deed.Strikes facts.role facts.mute) })

-- ## requests

abbrev pub plan_register : State → SessionId → Changes
plan_register s session = by_launcher s session (λ p. record same { grows = Growth.Registration p })

-- what a job requests
abbrev pub asked_for : JobId → Job → Asked
asked_for j job = record {
  job = Some j;
  labels = job.labels;
  nodes = [];
  pinned = None;
  pool = None;
  relative_priority = job.relative_priority;
  state = RequestState.Requested;
}

abbrev pub submit_as : State → JobId → Job → Changes
submit_as s j job = with_found (slice_get s.jobs j.0) (λ kept.
    record same {
      grows = Growth.Request job.priority (asked_for j job);
      jobs = JobsChange.Put j (record kept { phase = Phase.Asked; request = Some (next_id job.priority s) });
    })

abbrev pub plan_submit : Configuration → State → SessionId → JobId → Changes
plan_submit c s session j = by_requester s session (with_found (slice_get c.jobs j.0) (submit_as s j))

abbrev pub revise_to : ℕ → RequestId → Changes
revise_to relative r = record same { requests = RequestsChange.Edit r (RequestEdit.Revise relative) }

abbrev pub plan_revise : State → SessionId → JobId → ℕ → Changes
plan_revise s session j relative = by_requester s session (with_found (request_of_job j s) (revise_to relative))

-- what a pool requests to keep a node of the label ready
abbrev pub asked_to_keep : PoolId → LabelId → Asked
asked_to_keep p l = record {
  job = None;
  labels = l ∷ [];
  nodes = [];
  pinned = Some p;
  pool = None;
  relative_priority = 0;
  state = RequestState.Requested;
}

abbrev pub plan_min_ready : State → SessionId → LabelId → Changes
plan_min_ready s session l = by_launcher s session (λ p. record same { grows = Growth.Request 400 (asked_to_keep p l) })

abbrev pub plan_lock_request : State → SessionId → RequestId → Changes
plan_lock_request s session r = by_any s session (record same { grows = Growth.JoinRequest r })

abbrev pub plan_unlock_request : State → SessionId → RequestId → Changes
plan_unlock_request s session r = by_any s session (record same { requests = RequestsChange.Leave r })

abbrev pub plan_accept : State → SessionId → RequestId → Changes
plan_accept s session r = by_launcher s session (λ p. record same { requests = RequestsChange.Edit r (RequestEdit.Serve p) })

abbrev pub plan_decline : State → SessionId → RequestId → Reason → Changes
plan_decline s session r why =
    by_launcher s session (λ p. with_found (request_in r s.requests) (λ request.
    record same {
      requests = RequestsChange.Edit r (RequestEdit.Decline p why (is_some request.pinned || is_last_pool s.registrations request p));
      nodes = NodesChange.FreeAll r;
    }))

-- a min-ready request goes, and its node is free
abbrev pub request_after_fulfil : RequestId → Bool → RequestsChange
request_after_fulfil r true = RequestsChange.Remove r
request_after_fulfil r false = RequestsChange.Edit r RequestEdit.Fulfil

abbrev pub nodes_after_fulfil : RequestId → Bool → NodesChange
nodes_after_fulfil r true = NodesChange.FreeAll r
nodes_after_fulfil r false = NodesChange.Same

abbrev pub plan_fulfil : State → SessionId → RequestId → Changes
plan_fulfil s session r =
    by_launcher s session (λ p. with_found (request_in r s.requests) (λ request.
    record same {
      requests = request_after_fulfil r (is_some request.pinned);
      nodes = nodes_after_fulfil r (is_some request.pinned);
    }))

abbrev pub plan_reset : State → SessionId → RequestId → Changes
plan_reset s session r =
    by_janitor s session (with_found (request_in r s.requests) (λ request.
    record same { requests = RequestsChange.Edit r RequestEdit.GiveBack; nodes = NodesChange.FreeAll r }))

abbrev pub plan_fail_declined : State → SessionId → RequestId → Changes
plan_fail_declined s session r = by_janitor s session (record same { requests = RequestsChange.Edit r RequestEdit.Fail })

-- ## nodes

abbrev pub plan_take_ready : Configuration → State → SessionId → RequestId → NodeId → Changes
plan_take_ready c s session r n =
    by_launcher s session (λ p. with_found (request_in r s.requests) (λ request.
    record same { grows = Growth.Allocate n r (tenant_of_request c request); requests = RequestsChange.Edit r (RequestEdit.AddNode n) }))

-- a node that nobody has launched yet, for the tenant of the request's job
abbrev pub new_node : Configuration → State → RequestId → PoolId → RequestRecord → LabelId → NodeRecord
new_node c s r p request l = record {
  allocated_to = Some r;
  attempts = 0;
  in_flight = false;
  label = l;
  pool = p;
  server = None;
  since = s.tick;
  start = 0;
  state = NodeState.Building;
  tenant = tenant_of_request c request;
}

abbrev pub create_for_next : Configuration → State → RequestId → PoolId → RequestRecord → Changes
create_for_next c s r p request = with_found (next_label request) (λ l.
    record same { grows = Growth.Node (new_node c s r p request l); requests = RequestsChange.Edit r (RequestEdit.AddNode (record { 0 = s.next_node })) })

abbrev pub plan_create : Configuration → State → SessionId → RequestId → Changes
plan_create c s session r = by_launcher s session (λ p. with_found (request_in r s.requests) (create_for_next c s r p))

-- a start is one more start of the pool, too
abbrev pub start_change : State → SessionId → NodeId → PoolId → NodeRecord → Changes
start_change s session n p k = record same {
  maker = Some (record { session = session; role = Launcher p });
  nodes = NodesChange.Put n (record k { attempts = k.attempts + 1; in_flight = true; start = starts_of p s + 1 });
  deed = Some (Deed.StartsAndActs p);
}

abbrev pub plan_start : State → SessionId → NodeId → Changes
plan_start s session n = with_given (launcher s session) (λ p. with_found (node_in n s.nodes) (start_change s session n p))

abbrev pub plan_done : Configuration → State → SessionId → NodeId → Outcome → Changes
plan_done c s session n o =
    by_launcher s session (λ p. with_found (node_in n s.nodes) (λ k.
    record same { nodes = NodesChange.Put n (launched (retries_of c k.pool) s.tick o k) }))

abbrev pub plan_lock_node : State → SessionId → NodeId → Changes
plan_lock_node s session n = by_any s session (record same { grows = Growth.JoinNode n })

abbrev pub plan_unlock_node : State → SessionId → NodeId → Changes
plan_unlock_node s session n = by_any s session (record same { nodes = NodesChange.Leave n })

-- the node is marked ended in the first job that has it
abbrev pub end_in : Option JobId → NodeId → JobsChange
end_in None n = JobsChange.Same
end_in (Some j) n = JobsChange.EndNode j n

abbrev pub plan_end_node : State → SessionId → NodeId → EndAs → Changes
plan_end_node s session n as_what =
    by_requester s session (with_found (node_in n s.nodes) (λ k.
    record same {
      nodes = NodesChange.Put n (record k { since = s.tick; state = ended_as as_what });
      jobs = end_in (owner_of n s.jobs) n;
    }))

abbrev pub plan_mark_deleting : State → SessionId → NodeId → Changes
plan_mark_deleting s session n =
    by_janitor s session (with_found (node_in n s.nodes) (λ k.
    record same { nodes = NodesChange.Put n (record k { in_flight = false; state = NodeState.Deleting }) }))

abbrev pub plan_gone : State → SessionId → NodeId → Changes
plan_gone s session n = by_janitor s session (record same { nodes = NodesChange.Remove n })

abbrev pub plan_free_node : State → SessionId → NodeId → Changes
plan_free_node s session n =
    by_janitor s session (with_found (node_in n s.nodes) (λ k. record same { nodes = NodesChange.Put n (freed k) }))

abbrev pub plan_sweep : State → SessionId → NodeId → ℕ → Changes
plan_sweep s session n x = by_janitor s session (record same { grows = if is_wanted s n x then Growth.Nothing else Growth.Swept n x })

-- ## semaphores and jobs

abbrev pub plan_acquire : State → SessionId → JobId → Changes
plan_acquire s session j = by_requester s session (record same { grows = Growth.Handles j })

abbrev pub take_nodes : State → JobId → JobRecord → RequestId → Changes
take_nodes s j kept r = with_found (request_in r s.requests) (λ request.
    record same {
      requests = RequestsChange.Remove r;
      nodes = NodesChange.TakeOver request.nodes;
      jobs = JobsChange.Put j (record kept { nodes = map unended request.nodes; phase = Phase.Using; pool = request.pool });
    })

abbrev pub take_as : State → JobId → JobRecord → Changes
take_as s j kept = with_found kept.request (take_nodes s j kept)

abbrev pub plan_take : State → SessionId → JobId → Changes
plan_take s session j = by_requester s session (with_found (slice_get s.jobs j.0) (take_as s j))

abbrev pub plan_finish : State → SessionId → JobId → Changes
plan_finish s session j =
    by_any s session (with_found (slice_get s.jobs j.0) (λ kept.
    record same { jobs = JobsChange.Put j (record kept { ending = Some (ending_of kept); phase = Phase.Over }) }))

-- the request goes, if there is one
abbrev pub request_after_withdraw : Option RequestId → RequestsChange
request_after_withdraw None = RequestsChange.Same
request_after_withdraw (Some r) = RequestsChange.Remove r

abbrev pub job_after_withdraw : JobId → JobRecord → JobsChange
job_after_withdraw j kept = JobsChange.Put j (record kept { ending = Some Ending.Withdrawn; phase = Phase.Over })

abbrev pub plan_withdraw : State → SessionId → JobId → Changes
plan_withdraw s session j =
    by_requester s session (with_found (slice_get s.jobs j.0) (λ kept.
    record same { requests = request_after_withdraw kept.request; jobs = job_after_withdraw j kept }))

abbrev pub plan_release : State → SessionId → JobId → Changes
plan_release s session j = by_any s session (record same { handles = HandlesChange.Release j })

-- ## all events

abbrev pub plan : Configuration → State → Event → Changes
plan c s Event.Tick = plan_tick
plan c s (Event.OpenSession role) = plan_open role
plan c s (Event.Crash session) = plan_crash s session
plan c s (Event.Expire session) = plan_expire s session
plan c s (Event.Register session) = plan_register s session
plan c s (Event.Submit session j) = plan_submit c s session j
plan c s (Event.Revise session j relative) = plan_revise s session j relative
plan c s (Event.MinReady session l) = plan_min_ready s session l
plan c s (Event.LockRequest session r) = plan_lock_request s session r
plan c s (Event.UnlockRequest session r) = plan_unlock_request s session r
plan c s (Event.Accept session r) = plan_accept s session r
plan c s (Event.Decline session r why) = plan_decline s session r why
plan c s (Event.TakeReady session r n) = plan_take_ready c s session r n
plan c s (Event.Create session r) = plan_create c s session r
plan c s (Event.Start session n) = plan_start s session n
plan c s (Event.Done session n attempt o) = plan_done c s session n o
plan c s (Event.Fulfil session r) = plan_fulfil s session r
plan c s (Event.LockNode session n) = plan_lock_node s session n
plan c s (Event.UnlockNode session n) = plan_unlock_node s session n
plan c s (Event.Acquire session j) = plan_acquire s session j
plan c s (Event.Take session j) = plan_take s session j
plan c s (Event.EndNode session n as_what) = plan_end_node s session n as_what
plan c s (Event.Finish session j) = plan_finish s session j
plan c s (Event.Withdraw session j) = plan_withdraw s session j
plan c s (Event.Release session j) = plan_release s session j
plan c s (Event.MarkDeleting session n) = plan_mark_deleting s session n
plan c s (Event.Gone session n) = plan_gone s session n
plan c s (Event.Reset session r) = plan_reset s session r
plan c s (Event.FreeNode session n) = plan_free_node s session n
plan c s (Event.FailDeclined session r) = plan_fail_declined s session r
plan c s (Event.Sweep session n x) = plan_sweep s session n x
