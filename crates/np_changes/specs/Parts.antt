-- what holds of every state that a run leads to, part by part
use Rattle.std.specs.Prelude.{◌≡◌, ◌<◌, ◌≤◌, ℕ, ◌==◌, true, false, List, [], ◌∷◌, Some, None, is_some, is_none, length, slice_get, nat_lt}
use Rattle.np_changes.specs.Prelude.{AllByRecursion, Configuration, JobId, JobRecord, LabelId, Launcher, NodeId, NodeRecord, Phase, PoolId, RequestId, RequestRecord, RequestState, Rises, SessionFacts, SessionId, State, is_building, is_failed_node, is_id_before, is_queued, is_request, list_any, node_in, request_in, retries_of, session_of}
use Rattle.np_changes.specs.Lower.{DistinctNodes, Ending, OwnsItsLabels, WithinMax, WithinQuota, WithinTenantQuota}

-- ## numbers

-- the requests and the nodes are in the order of their numbers, none twice, and all below the next
-- ones
pub record IsNumbered (s : State) : Type 0 where
  pub requests_rise : Rises (λ a b. is_id_before a.id b.id) s.requests
  pub nodes_rise : Rises (λ a b. nat_lt a.id.0 b.id.0) s.nodes
  pub requests_below : AllByRecursion (λ e. e.id.seq < s.next_request) s.requests
  pub nodes_below : AllByRecursion (λ e. e.id.0 < s.next_node) s.nodes

-- ## queues

-- begun, and not ended
pub record IsLive (s : State) (session : SessionId) : Type 0 where
  pub facts : SessionFacts
  pub begun : session_of session s ≡ Some facts
  pub live : facts.live ≡ true

-- no session twice
abbrev pub DistinctSessions : List SessionId → Type 0
DistinctSessions [] = Unit {0}
DistinctSessions (session ∷ queue) = (is_queued session queue ≡ false) × DistinctSessions queue

-- live sessions, none twice
pub record IsLiveQueue (s : State) (queue : List SessionId) : Type 0 where
  pub live : AllByRecursion (IsLive s) queue
  pub once : DistinctSessions queue

-- live sessions wait in the queues, none twice in one, and at most one at a request
pub record IsQueued (s : State) : Type 0 where
  pub at_requests : AllByRecursion (λ e. IsLiveQueue s e.queue) s.requests
  pub one_a_request : AllByRecursion (λ e. length e.queue ≤ 1) s.requests
  pub at_nodes : AllByRecursion (λ e. IsLiveQueue s e.queue) s.nodes

-- a live session of the pool's launcher
pub record IsLauncher (s : State) (p : PoolId) (session : SessionId) : Type 0 where
  pub facts : SessionFacts
  pub begun : session_of session s ≡ Some facts
  pub live : facts.live ≡ true
  pub role : facts.role ≡ Launcher p

-- each registration is of a live launcher of its pool, at most one per pool
pub record IsRegistered (s : State) : Type 0 where
  pub of_launcher : AllByRecursion (λ g. IsLauncher s g.pool g.session) s.registrations
  pub one_a_pool : Rises (λ a b. nat_lt a.pool.0 b.pool.0) s.registrations

-- ## limits

-- no pool, no semaphore and no tenant exceeds its limit
pub record IsWithin (c : Configuration) (s : State) : Type 0 where
  pub quota : WithinQuota c s
  pub max : WithinMax c s
  pub tenant_quota : WithinTenantQuota c s

-- ## requests and their nodes

-- no pool serves the request, and it has no node
pub record IsAtRest (request : RequestRecord) : Type 0 where
  pub no_pool : request.pool ≡ None
  pub no_nodes : request.nodes ≡ []

-- allocated to the request, of the pool and the label
pub record IsFor (r : RequestId) (p : PoolId) (l : LabelId) (node : NodeRecord) : Type 0 where
  pub allocated : is_request r node.allocated_to ≡ true
  pub of_pool : node.pool.0 ≡ p.0
  pub of_label : node.label.0 ≡ l.0

-- a pool serves the request: its nodes are distinct, no more than its labels, and each that exists
-- is for the request at its label's place
pub record IsServed (s : State) (r : RequestId) (request : RequestRecord) : Type 0 where
  pub pool : PoolId
  pub served_by : request.pool ≡ Some pool
  pub few : length request.nodes ≤ length request.labels
  pub distinct : DistinctNodes request.nodes
  pub below : AllByRecursion (λ n. n.0 < s.next_node) request.nodes
  pub each : (at : ℕ) (n : NodeId) (l : LabelId) (node : NodeRecord) → slice_get request.nodes at ≡ Some n → slice_get request.labels at ≡ Some l
      → node_in n s.nodes ≡ Some node → IsFor r pool l node

-- requested or failed: at rest; pending: served; fulfilled: it owns its labels
abbrev pub StandsIn : State → RequestId → RequestRecord → RequestState → Type 0
StandsIn s r request RequestState.Requested = IsAtRest request
StandsIn s r request RequestState.Pending = IsServed s r request
StandsIn s r request RequestState.Fulfilled = OwnsItsLabels s r request
StandsIn s r request RequestState.Failed = IsAtRest request

-- each request is as its state says
abbrev pub RequestsStand : State → Type 0
RequestsStand s = (r : RequestId) (request : RequestRecord) → request_in r s.requests ≡ Some request → StandsIn s r request request.state

-- a request has a job, or is pinned to a pool
abbrev pub JobsOrPinned : State → Type 0
JobsOrPinned s = (r : RequestId) (request : RequestRecord) → request_in r s.requests ≡ Some request → is_some request.job ≡ is_none request.pinned

-- a node that is allocated to a request: the request's number is below the next one, and if the
-- request exists the node is in its list
pub record IsListed (s : State) (n : NodeId) (r : RequestId) : Type 0 where
  pub below : r.seq < s.next_request
  pub listed : (request : RequestRecord) → request_in r s.requests ≡ Some request → list_any (λ m. m.0 == n.0) request.nodes ≡ true

-- each node that is allocated is in the list of its request
abbrev pub AllocationsListed : State → Type 0
AllocationsListed s = (n : NodeId) (node : NodeRecord) (r : RequestId) → node_in n s.nodes ≡ Some node → node.allocated_to ≡ Some r → IsListed s n r

-- a launch runs only while a node is building
abbrev pub RunsWhileBuilding : State → Type 0
RunsWhileBuilding s = (n : NodeId) (node : NodeRecord) → node_in n s.nodes ≡ Some node → node.in_flight ≡ true → is_building node.state ≡ true

-- if the provider allows at least one attempt: a building node that may be started has fewer than
-- it allows, one with a launch running no more; a failed node has as many
pub record IsAttempted (c : Configuration) (node : NodeRecord) : Type 0 where
  pub idle : is_building node.state ≡ true → node.in_flight ≡ false → 0 < retries_of c node.pool → node.attempts < retries_of c node.pool
  pub running : node.in_flight ≡ true → 0 < retries_of c node.pool → node.attempts ≤ retries_of c node.pool
  pub failed : is_failed_node node.state ≡ true → node.attempts ≡ retries_of c node.pool

-- the requests, and the nodes that they have
pub record IsOwned (s : State) : Type 0 where
  pub requests : RequestsStand s
  pub whose : JobsOrPinned s
  pub allocations : AllocationsListed s
  pub launches : RunsWhileBuilding s

-- ## jobs

-- the job's request exists and names it
pub record IsAsking (s : State) (j : JobId) (job : JobRecord) : Type 0 where
  pub id : RequestId
  pub request : RequestRecord
  pub asks : job.request ≡ Some id
  pub stands : request_in id s.requests ≡ Some request
  pub names : request.job ≡ Some j

-- new: nothing yet; asked: its request exists; using: a pool served it; over: it has an ending, and
-- a pool served it if the ending is served
abbrev pub JobIn : State → JobId → JobRecord → Phase → Type 0
JobIn s j job Phase.New = (job.request ≡ None) × ((job.ending ≡ None) × (job.pool ≡ None))
JobIn s j job Phase.Asked = IsAsking s j job × ((job.ending ≡ None) × (job.pool ≡ None))
JobIn s j job Phase.Using = (is_some job.pool ≡ true) × (job.ending ≡ None)
JobIn s j job Phase.Over = (is_some job.ending ≡ true) × (job.ending ≡ Some Ending.Served → is_some job.pool ≡ true)

-- each job is as its phase says, and a request that names a job is the only one of it
pub record JobsStand (s : State) : Type 0 where
  pub each : (j : JobId) (job : JobRecord) → slice_get s.jobs j.0 ≡ Some job → JobIn s j job job.phase
  pub of_request : (r : RequestId) (request : RequestRecord) (j : JobId) → request_in r s.requests ≡ Some request → request.job ≡ Some j
      → (job : JobRecord) × ((slice_get s.jobs j.0 ≡ Some job) × (job.request ≡ Some r))

-- ## all of them

-- what holds of every state that a run leads to
pub record Invariant (c : Configuration) (s : State) : Type 0 where
  pub numbered : IsNumbered s
  pub queued : IsQueued s
  pub registered : IsRegistered s
  pub within : IsWithin c s
  pub owned : IsOwned s
  pub attempted : AllByRecursion (λ e. IsAttempted c e.kept) s.nodes
  pub jobs : JobsStand s
