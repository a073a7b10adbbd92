-- tests that rows share, each with its refusal
use Rattle.std.specs.Prelude.{ℕ, ◌==◌, ◌&&◌, not, if◌then◌else◌, Option, Some, None, Result, Ok, Err, slice_get, count_by}
use Rattle.np_machine.specs.Kinds.{is_requested, is_pending, is_building}
use Rattle.np_machine.specs.Tables.{session_of, is_session_of, registered, request_in, request_holder, node_in, node_holder, has_handle}
use Rattle.np_machine.specs.Order.{is_pending_by, is_declined_by}
use Rattle.np_machine.specs.Tenants.{count_of_tenant}
use Rattle.np_machine.specs.Reasons.{next_label}
use Rattle.np_machine.specs.First.{blocking}
use Rattle.np_machine.specs.State.{State}
use Rattle.np_lists.specs.Refusals.{◌>>=◌, ◌>>◌}
use Rattle.np_machine.specs.Lower.{Amount, Configuration, Done, Found, Janitor, Job, JobId, JobRecord, LabelId, Launcher, NodeId, NodeRecord, PoolId, Refusal, RequestId, RequestRecord, Requester, RequesterId, Role, SessionId, found, need, vacant}

-- ## rows of tests: the first that fails answers

abbrev pub Answer : Type 0
Answer = Result Done Refusal

abbrev pub Check : Type 0
Check = Result (Unit {0}) Refusal

-- ## the maker

-- the role of the session that makes the event: known, not expired, not mute
abbrev pub maker : State → SessionId → Result Role Refusal
maker s session = do
  facts ← found (session_of session s) Refusal.NoSession
  need facts.live Refusal.Expired
  need (not facts.mute) Refusal.Crashed
  Ok facts.role

abbrev pub as_launcher : Role → Result PoolId Refusal
as_launcher (Launcher p) = Ok p
as_launcher _ = Err Refusal.WrongRole

abbrev pub as_janitor : Role → Result PoolId Refusal
as_janitor (Janitor p) = Ok p
as_janitor _ = Err Refusal.WrongRole

abbrev pub as_requester : Role → Result RequesterId Refusal
as_requester (Requester q) = Ok q
as_requester _ = Err Refusal.WrongRole

-- the pool whose launcher makes the event
abbrev pub launcher : State → SessionId → Result PoolId Refusal
launcher s session = maker s session >>= as_launcher

-- the pool whose janitor makes the event
abbrev pub janitor : State → SessionId → Result PoolId Refusal
janitor s session = maker s session >>= as_janitor

-- the requester that makes the event
abbrev pub requester : State → SessionId → Result RequesterId Refusal
requester s session = maker s session >>= as_requester

-- ## what the event names

abbrev pub request_at : State → RequestId → Result RequestRecord Refusal
request_at s r = found (request_in r s.requests) Refusal.NoRequest

abbrev pub node_at : State → NodeId → Result NodeRecord Refusal
node_at s n = found (node_in n s.nodes) Refusal.NoNode

-- the job as the configuration has it
abbrev pub job_at : Configuration → JobId → Result Job Refusal
job_at c j = found (slice_get c.jobs j.0) Refusal.NoJob

-- the job as the machine keeps it
abbrev pub record_of : State → JobId → Result JobRecord Refusal
record_of s j = found (slice_get s.jobs j.0) Refusal.NoJob

-- ## who may

-- the maker holds its pool's registration
abbrev pub by_registrant : State → PoolId → SessionId → Check
by_registrant s p session = need (is_session_of session (registered p s.registrations)) Refusal.NotRegistered

-- the maker is first in the request's queue
abbrev pub by_request_holder : State → RequestId → SessionId → Check
by_request_holder s r session = need (is_session_of session (request_holder r s.requests)) Refusal.NotHeld

-- the maker is first in the node's queue
abbrev pub by_node_holder : State → NodeId → SessionId → Check
by_node_holder s n session = need (is_session_of session (node_holder n s.nodes)) Refusal.NotHeld

-- the job is the maker's own
abbrev pub of_requester : RequesterId → Job → Check
of_requester q job = need (job.requester.0 == q.0) Refusal.NotOwner

-- the maker's own job, as the configuration has it and as the machine keeps it
abbrev pub own_job : Configuration → State → SessionId → JobId → Result (Job × JobRecord) Refusal
own_job c s session j = do
  q ← requester s session
  job ← job_at c j
  kept ← record_of s j
  of_requester q job
  Ok (job, kept)

-- the node is of the maker's pool
abbrev pub of_pool : PoolId → NodeRecord → Check
of_pool p k = need (k.pool.0 == p.0) Refusal.NotOwner

-- nobody holds the request
abbrev pub unlocked : State → RequestId → Check
unlocked s r = vacant (request_holder r s.requests) Refusal.Busy

-- ## states

abbrev pub wrong_request : RequestRecord → Refusal
wrong_request request = Refusal.WrongState (Found.Request request.state)

-- a building node with a launch running is found as in flight
abbrev pub found_node : NodeRecord → Found
found_node k = if is_building k.state && k.in_flight then Found.InFlight else Found.Node k.state

abbrev pub wrong_node : NodeRecord → Refusal
wrong_node k = Refusal.WrongState (found_node k)

abbrev pub wrong_job : JobRecord → Refusal
wrong_job job = Refusal.WrongState (Found.Job job.phase)

abbrev pub in_requested : RequestRecord → Check
in_requested request = need (is_requested request.state) (wrong_request request)

abbrev pub in_pending : RequestRecord → Check
in_pending request = need (is_pending request.state) (wrong_request request)

abbrev pub in_pending_by : PoolId → RequestRecord → Check
in_pending_by p request = need (is_pending_by p request) (wrong_request request)

abbrev pub not_declined : PoolId → RequestRecord → Check
not_declined p request = need (not (is_declined_by p request.declined)) Refusal.Declined

-- the label of the request's next node: refused if the request is complete
abbrev pub incomplete : RequestRecord → Result LabelId Refusal
incomplete request = found (next_label request) (wrong_request request)

-- none is missing
abbrev pub none_missing : ℕ → Check
none_missing missing = need (missing == 0) (Refusal.NotAll missing)

-- ## quota and semaphores

abbrev pub quota_short : Amount → Refusal
quota_short used = Refusal.QuotaShort used.instances used.cores used.ram

abbrev pub tenant_short : Amount → Refusal
tenant_short used = Refusal.TenantShort used.instances used.cores used.ram

-- the tenant of the request's job has room for it, at the pool
abbrev pub not_blocked : Configuration → State → PoolId → RequestRecord → Check
not_blocked c s p request = vacant (blocking c s p request) (λ t. tenant_short (count_of_tenant c s t))

-- how many of the job's semaphores it has no handle of
abbrev pub missing_handles : State → JobId → Job → ℕ
missing_handles s j job = count_by (λ x. not (has_handle j s.handles x)) job.semaphores

-- ## effects

-- with what was found, or as before
abbrev pub after_found : {A : Type 0} → Option A → State → (A → State) → State
after_found None s change = s
after_found (Some a) s change = change a

abbrev pub after_given : {A : Type 0} → Result A Refusal → State → (A → State) → State
after_given (Err refusal) s change = s
after_given (Ok a) s change = change a
