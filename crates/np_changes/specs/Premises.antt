-- what the tests of an accepted event have shown of each change that it makes: a line for each way of changing
use Rattle.std.specs.Prelude.{◌≡◌, ◌⊎◌, ℕ, ◌+◌, Bool, true, false, ◌==◌, ◌&&◌, ◌||◌, not, Option, Some, None, is_some, length, map, slice_get}
use Rattle.np_changes.specs.Readers.{owner_of, is_last_pool}
use Rattle.np_changes.specs.Plan.{asked_for, asked_to_keep, new_node, request_after_withdraw}
use Rattle.np_changes.specs.declared.asked.Asked.{Asked}
use Rattle.np_changes.specs.declared.changes.Maker.{Maker}
use Rattle.np_changes.specs.declared.changes.Changes.{Changes}
use Rattle.np_changes.specs.declared.changes.Growth.{Growth}
use Rattle.np_changes.specs.declared.changes.RequestEdit.{RequestEdit}
use Rattle.np_changes.specs.declared.changes.RequestsChange.{RequestsChange}
use Rattle.np_changes.specs.declared.changes.NodesChange.{NodesChange}
use Rattle.np_changes.specs.declared.changes.JobsChange.{JobsChange}
use Rattle.np_changes.specs.declared.changes.HandlesChange.{HandlesChange}
use Rattle.np_changes.specs.declared.changes.SessionsChange.{SessionsChange}
use Rattle.np_changes.specs.Lower.{Configuration, EndAs, Ending, Job, JobId, JobRecord, LabelId, Launcher, NodeId, NodeRecord, NodeState, Outcome, Phase, PoolId, Reason, RequestId, RequestRecord, Role, SessionFacts, SessionId, State, blocking, ended_as, ending_of, first_full, first_unoffered, freed, is_asked, is_building, is_declined_by, is_deleting, is_finishable, is_fulfilled, is_in_use, is_new, is_offered, is_over, is_pending, is_pending_by, is_queued, is_ready, is_requested, is_role, is_session_of, is_short, is_true, launched, missing_handles, never_fits, next_id, next_label, node_holder, node_in, node_queue, registered, request_holder, request_in, retries_of, session_of, standing, tenant_never_fits, tenant_of_request, undeclined, unended, unfilled, unheld}

-- ## who makes the event

-- the session was begun with this role, is live and is not mute
pub record IsHeard (s : State) (maker : Maker) : Type 0 where
  pub facts : SessionFacts
  pub begun : session_of maker.session s ≡ Some facts
  pub live : facts.live ≡ true
  pub heard : facts.mute ≡ false
  pub role : facts.role ≡ maker.role

abbrev pub MakerPremise : State → Option Maker → Type 0
MakerPremise s None = Unit {0}
MakerPremise s (Some maker) = IsHeard s maker

-- the maker is the launcher that is registered for the pool, and holds the request, which is there
pub record IsWorkedOn (s : State) (maker : Option Maker) (p : PoolId) (r : RequestId) (request : RequestRecord) : Type 0 where
  pub session : SessionId
  pub made_by : maker ≡ Some (record { session = session; role = Launcher p })
  pub stands : request_in r s.requests ≡ Some request
  pub registers : is_session_of session (registered p s.registrations) ≡ true
  pub holds : is_session_of session (request_holder r s.requests) ≡ true

-- the maker holds the node, which is there
pub record IsHeldNode (s : State) (maker : Option Maker) (n : NodeId) (k : NodeRecord) : Type 0 where
  pub session : SessionId
  pub role : Role
  pub made_by : maker ≡ Some (record { session = session; role = role })
  pub stands : node_in n s.nodes ≡ Some k
  pub holds : is_session_of session (node_holder n s.nodes) ≡ true

-- ## one more node of a request

-- a ready node of the pool that nobody has and nobody holds, of the request's next label
pub record IsTaken (c : Configuration) (s : State) (ch : Changes) (p : PoolId) (r : RequestId) (request : RequestRecord) (l : LabelId) (n : NodeId) : Type 0 where
  pub grows : ch.grows ≡ Growth.Allocate n r (tenant_of_request c request)
  pub node : NodeRecord
  pub stands : node_in n s.nodes ≡ Some node
  pub ready : is_ready node.state ≡ true
  pub free : node.allocated_to ≡ None
  pub of_pool : (node.pool.0 == p.0) ≡ true
  pub of_label : (node.label.0 == l.0) ≡ true
  pub unlocked : node_holder n s.nodes ≡ None

-- a new node of the request's next label, for which the pool has room
pub record IsMade (c : Configuration) (s : State) (ch : Changes) (p : PoolId) (r : RequestId) (request : RequestRecord) (l : LabelId) (n : NodeId) : Type 0 where
  pub grows : ch.grows ≡ Growth.Node (new_node c s r p request l)
  pub number : n ≡ record { 0 = s.next_node }
  pub room : is_short c s p l ≡ false

-- the request, pending by the maker's pool, gets the node for its next label
pub record Gains (c : Configuration) (s : State) (ch : Changes) (r : RequestId) (n : NodeId) : Type 0 where
  pub pool : PoolId
  pub request : RequestRecord
  pub label : LabelId
  pub worked_on : IsWorkedOn s ch.maker pool r request
  pub pending : is_pending_by pool request ≡ true
  pub next : next_label request ≡ Some label
  pub edits : ch.requests ≡ RequestsChange.Edit r (RequestEdit.AddNode n)
  pub from : IsTaken c s ch pool r request label n ⊎ IsMade c s ch pool r request label n

-- ## what grows

-- a job that nobody has begun makes a request
pub record AsksForJob (c : Configuration) (s : State) (ch : Changes) (priority : ℕ) (asked : Asked) : Type 0 where
  pub number : JobId
  pub job : Job
  pub kept : JobRecord
  pub row : slice_get c.jobs number.0 ≡ Some job
  pub stands : slice_get s.jobs number.0 ≡ Some kept
  pub new : is_new kept.phase ≡ true
  pub of_job : priority ≡ job.priority
  pub asks : asked ≡ asked_for number job
  pub puts : ch.jobs ≡ JobsChange.Put number (record kept { phase = Phase.Asked; request = Some (next_id job.priority s) })

-- the launcher requests a node to keep ready, of a label that its pool offers and has room for
pub record AsksToKeep (c : Configuration) (s : State) (ch : Changes) (priority : ℕ) (asked : Asked) : Type 0 where
  pub pool : PoolId
  pub label : LabelId
  pub session : SessionId
  pub made_by : ch.maker ≡ Some (record { session = session; role = Launcher pool })
  pub registers : is_session_of session (registered pool s.registrations) ≡ true
  pub of_keeping : priority ≡ 400
  pub asks : asked ≡ asked_to_keep pool label
  pub offered : is_offered c pool label ≡ true
  pub room : is_short c s pool label ≡ false
  pub same_jobs : ch.jobs ≡ JobsChange.Same

-- the launcher's pool has no registration
pub record IsUnregistered (s : State) (maker : Option Maker) (p : PoolId) : Type 0 where
  pub session : SessionId
  pub made_by : maker ≡ Some (record { session = session; role = Launcher p })
  pub free : registered p s.registrations ≡ None

-- the request is there, and nobody holds it
pub record IsUnlocked (s : State) (maker : Option Maker) (r : RequestId) : Type 0 where
  pub by : Maker
  pub made_by : maker ≡ Some by
  pub request : RequestRecord
  pub stands : request_in r s.requests ≡ Some request
  pub unlocked : request_holder r s.requests ≡ None

-- the node is there
pub record IsNode (s : State) (maker : Option Maker) (n : NodeId) : Type 0 where
  pub by : Maker
  pub made_by : maker ≡ Some by
  pub node : NodeRecord
  pub stands : node_in n s.nodes ≡ Some node

-- a node that grows is the request's next one
pub record GainsNew (c : Configuration) (s : State) (ch : Changes) (kept : NodeRecord) : Type 0 where
  pub request : RequestId
  pub gains : Gains c s ch request (record { 0 = s.next_node })

-- none of the job's semaphores is full of others
pub record HasRoom (c : Configuration) (s : State) (j : JobId) : Type 0 where
  pub job : Job
  pub row : slice_get c.jobs j.0 ≡ Some job
  pub none_full : first_full c s j job ≡ None

abbrev pub GrowthPremise : Configuration → State → Changes → Growth → Type 0
GrowthPremise c s ch Growth.Nothing = Unit {0}
GrowthPremise c s ch (Growth.Session role) = is_role c role ≡ true
GrowthPremise c s ch (Growth.Registration p) = IsUnregistered s ch.maker p
GrowthPremise c s ch (Growth.Request priority asked) = AsksForJob c s ch priority asked ⊎ AsksToKeep c s ch priority asked
GrowthPremise c s ch (Growth.Node kept) = GainsNew c s ch kept
GrowthPremise c s ch (Growth.JoinRequest r) = IsUnlocked s ch.maker r
GrowthPremise c s ch (Growth.JoinNode n) = IsNode s ch.maker n
GrowthPremise c s ch (Growth.Allocate n r tenant) = Gains c s ch r n
GrowthPremise c s ch (Growth.Handles j) = HasRoom c s j
GrowthPremise c s ch (Growth.Swept n x) = Unit {0}

-- ## what happens to requests; nothing grows beside it except a node that a request gets

-- requested, and the pool may serve it and has room for its tenant
pub record MayServe (c : Configuration) (s : State) (ch : Changes) (r : RequestId) (p : PoolId) : Type 0 where
  pub same_size : ch.grows ≡ Growth.Nothing
  pub same_nodes : ch.nodes ≡ NodesChange.Same
  pub request : RequestRecord
  pub worked_on : IsWorkedOn s ch.maker p r request
  pub requested : is_requested request.state ≡ true
  pub undeclined : is_declined_by p request.declined ≡ false
  pub offered : first_unoffered c p request ≡ None
  pub fits_pool : never_fits c p request ≡ false
  pub fits_tenant : tenant_never_fits c p request ≡ false
  pub unblocked : blocking c s p request ≡ None

-- requested, or pending by the pool, which has not declined it; the reason is true
pub record MayDecline (c : Configuration) (s : State) (ch : Changes) (r : RequestId) (p : PoolId) (why : Reason) (failed : Bool) : Type 0 where
  pub same_size : ch.grows ≡ Growth.Nothing
  pub frees : ch.nodes ≡ NodesChange.FreeAll r
  pub request : RequestRecord
  pub worked_on : IsWorkedOn s ch.maker p r request
  pub undecided : (is_requested request.state || is_pending_by p request) ≡ true
  pub undeclined : is_declined_by p request.declined ≡ false
  pub holds_true : is_true c s p request why ≡ true
  pub fails : failed ≡ (is_some request.pinned || is_last_pool s.registrations request p)

-- a job's request, pending by the pool, has the node that it needs for each label
pub record MayFulfil (s : State) (ch : Changes) (r : RequestId) : Type 0 where
  pub same_size : ch.grows ≡ Growth.Nothing
  pub pool : PoolId
  pub request : RequestRecord
  pub worked_on : IsWorkedOn s ch.maker pool r request
  pub pending : is_pending_by pool request ≡ true
  pub filled : unfilled pool worked_on.session r s.nodes request.labels request.nodes ≡ 0

-- pending, and the maker holds it
pub record MayGiveBack (s : State) (ch : Changes) (r : RequestId) : Type 0 where
  pub same_size : ch.grows ≡ Growth.Nothing
  pub frees : ch.nodes ≡ NodesChange.FreeAll r
  pub by : Maker
  pub made_by : ch.maker ≡ Some by
  pub request : RequestRecord
  pub stands : request_in r s.requests ≡ Some request
  pub holds : is_session_of by.session (request_holder r s.requests) ≡ true
  pub pending : is_pending request.state ≡ true

-- requested, and no registered pool is left that has not declined it
pub record MayFail (s : State) (ch : Changes) (r : RequestId) : Type 0 where
  pub same_size : ch.grows ≡ Growth.Nothing
  pub same_nodes : ch.nodes ≡ NodesChange.Same
  pub request : RequestRecord
  pub stands : request_in r s.requests ≡ Some request
  pub requested : is_requested request.state ≡ true
  pub some_pool : (length s.registrations == 0) ≡ false
  pub all_declined : undeclined s.registrations request ≡ 0

-- the asked job's request, requested
pub record MayRevise (s : State) (ch : Changes) (r : RequestId) : Type 0 where
  pub same_size : ch.grows ≡ Growth.Nothing
  pub same_nodes : ch.nodes ≡ NodesChange.Same
  pub request : RequestRecord
  pub stands : request_in r s.requests ≡ Some request
  pub requested : is_requested request.state ≡ true

abbrev pub EditPremise : Configuration → State → Changes → RequestId → RequestEdit → Type 0
EditPremise c s ch r (RequestEdit.Serve p) = MayServe c s ch r p
EditPremise c s ch r (RequestEdit.AddNode n) = Gains c s ch r n × (ch.nodes ≡ NodesChange.Same)
EditPremise c s ch r (RequestEdit.Decline p why failed) = MayDecline c s ch r p why failed
EditPremise c s ch r RequestEdit.Fulfil = MayFulfil s ch r × (ch.nodes ≡ NodesChange.Same)
EditPremise c s ch r RequestEdit.GiveBack = MayGiveBack s ch r
EditPremise c s ch r RequestEdit.Fail = MayFail s ch r
EditPremise c s ch r (RequestEdit.Revise relative) = MayRevise s ch r

-- a min-ready request is fulfilled, and its nodes are free
pub record GoesFulfilled (s : State) (ch : Changes) (r : RequestId) : Type 0 where
  pub fulfils : MayFulfil s ch r
  pub pinned : is_some fulfils.request.pinned ≡ true
  pub frees : ch.nodes ≡ NodesChange.FreeAll r
  pub same_jobs : ch.jobs ≡ JobsChange.Same

-- the asked job takes over all nodes of its fulfilled request, which the maker holds
pub record TakesOver (c : Configuration) (s : State) (ch : Changes) (r : RequestId) : Type 0 where
  pub same_size : ch.grows ≡ Growth.Nothing
  pub by : Maker
  pub made_by : ch.maker ≡ Some by
  pub number : JobId
  pub job : Job
  pub kept : JobRecord
  pub request : RequestRecord
  pub row : slice_get c.jobs number.0 ≡ Some job
  pub stands : slice_get s.jobs number.0 ≡ Some kept
  pub asked : is_asked kept.phase ≡ true
  pub of_job : kept.request ≡ Some r
  pub request_stands : request_in r s.requests ≡ Some request
  pub fulfilled : is_fulfilled request.state ≡ true
  pub held : unheld s by.session request.nodes ≡ 0
  pub has_handles : missing_handles s number job ≡ 0
  pub takes : ch.nodes ≡ NodesChange.TakeOver request.nodes
  pub puts : ch.jobs ≡ JobsChange.Put number (record kept { nodes = map unended request.nodes; phase = Phase.Using; pool = request.pool })

-- a job that has no nodes is given up
pub record Withdraws (s : State) (ch : Changes) (j : JobId) (kept : JobRecord) : Type 0 where
  pub same_size : ch.grows ≡ Growth.Nothing
  pub same_nodes : ch.nodes ≡ NodesChange.Same
  pub stands : slice_get s.jobs j.0 ≡ Some kept
  pub unstarted : (is_new kept.phase || is_asked kept.phase) ≡ true
  pub puts : ch.jobs ≡ JobsChange.Put j (record kept { ending = Some Ending.Withdrawn; phase = Phase.Over })

-- its request goes with it
pub record GoesWithdrawn (s : State) (ch : Changes) (r : RequestId) : Type 0 where
  pub number : JobId
  pub kept : JobRecord
  pub withdraws : Withdraws s ch number kept
  pub of_job : kept.request ≡ Some r

-- the maker holds the request
pub record LeavesRequest (s : State) (ch : Changes) (r : RequestId) : Type 0 where
  pub same_size : ch.grows ≡ Growth.Nothing
  pub by : Maker
  pub made_by : ch.maker ≡ Some by
  pub request : RequestRecord
  pub stands : request_in r s.requests ≡ Some request
  pub holds : is_session_of by.session (request_holder r s.requests) ≡ true

abbrev pub RequestsPremise : Configuration → State → Changes → RequestsChange → Type 0
RequestsPremise c s ch RequestsChange.Same = Unit {0}
RequestsPremise c s ch (RequestsChange.Edit r change) = EditPremise c s ch r change
RequestsPremise c s ch (RequestsChange.Remove r) = GoesFulfilled s ch r ⊎ (TakesOver c s ch r ⊎ GoesWithdrawn s ch r)
RequestsPremise c s ch (RequestsChange.Leave r) = LeavesRequest s ch r

-- ## what happens to nodes; nothing grows beside it

-- a building node with no launch running, and the next one begins
pub record Starts (s : State) (ch : Changes) (k kept : NodeRecord) : Type 0 where
  pub idle : (is_building k.state && not k.in_flight) ≡ true
  pub start : ℕ
  pub record_after : kept ≡ record k { attempts = k.attempts + 1; in_flight = true; start = start }
  pub same_jobs : ch.jobs ≡ JobsChange.Same

-- a running launch has ended
pub record Reports (c : Configuration) (s : State) (ch : Changes) (k kept : NodeRecord) : Type 0 where
  pub running : k.in_flight ≡ true
  pub outcome : Outcome
  pub record_after : kept ≡ launched (retries_of c k.pool) s.tick outcome k
  pub same_jobs : ch.jobs ≡ JobsChange.Same

-- a node in use is done with
pub record EndsNode (s : State) (ch : Changes) (n : NodeId) (k kept : NodeRecord) : Type 0 where
  pub in_use : is_in_use k.state ≡ true
  pub as_what : EndAs
  pub record_after : kept ≡ record k { since = s.tick; state = ended_as as_what }

-- a node that is not deleting, and not a ready one that is allocated, is given up
pub record GivesUp (s : State) (ch : Changes) (k kept : NodeRecord) : Type 0 where
  pub not_deleting : is_deleting k.state ≡ false
  pub not_given : is_ready k.state ≡ true → k.allocated_to ≡ None
  pub record_after : kept ≡ record k { in_flight = false; state = NodeState.Deleting }
  pub same_jobs : ch.jobs ≡ JobsChange.Same

-- a ready node whose request is gone is free
pub record Frees (s : State) (ch : Changes) (k kept : NodeRecord) : Type 0 where
  pub ready : is_ready k.state ≡ true
  pub allocated : is_some k.allocated_to ≡ true
  pub gone : standing s k.allocated_to ≡ None
  pub record_after : kept ≡ freed k
  pub same_jobs : ch.jobs ≡ JobsChange.Same

-- the maker holds the node, and its record changes in one of five ways
pub record PutsNode (c : Configuration) (s : State) (ch : Changes) (n : NodeId) (kept : NodeRecord) : Type 0 where
  pub same_size : ch.grows ≡ Growth.Nothing
  pub same_requests : ch.requests ≡ RequestsChange.Same
  pub node : NodeRecord
  pub held : IsHeldNode s ch.maker n node
  pub way : Starts s ch node kept ⊎ (Reports c s ch node kept ⊎ (EndsNode s ch n node kept ⊎ (GivesUp s ch node kept ⊎ Frees s ch node kept)))

-- the maker holds the node, which is deleting
pub record RemovesNode (s : State) (ch : Changes) (n : NodeId) : Type 0 where
  pub same_size : ch.grows ≡ Growth.Nothing
  pub same_requests : ch.requests ≡ RequestsChange.Same
  pub node : NodeRecord
  pub held : IsHeldNode s ch.maker n node
  pub deleting : is_deleting node.state ≡ true

-- the maker is in the node's queue
pub record LeavesNode (s : State) (ch : Changes) (n : NodeId) : Type 0 where
  pub same_size : ch.grows ≡ Growth.Nothing
  pub same_requests : ch.requests ≡ RequestsChange.Same
  pub by : Maker
  pub made_by : ch.maker ≡ Some by
  pub queued : is_queued by.session (node_queue n s.nodes) ≡ true

-- the request has no nodes after the edit, or is gone
abbrev pub EmptiesRequest : RequestId → RequestsChange → Type 0
EmptiesRequest r change =
    (change ≡ RequestsChange.Remove r)
    ⊎ ((change ≡ RequestsChange.Edit r RequestEdit.GiveBack)
    ⊎ ((p : PoolId) × (why : Reason) × (failed : Bool) × (change ≡ RequestsChange.Edit r (RequestEdit.Decline p why failed))))

abbrev pub NodesPremise : Configuration → State → Changes → NodesChange → Type 0
NodesPremise c s ch NodesChange.Same = Unit {0}
NodesPremise c s ch (NodesChange.Put n kept) = PutsNode c s ch n kept
NodesPremise c s ch (NodesChange.Remove n) = RemovesNode s ch n
NodesPremise c s ch (NodesChange.Leave n) = LeavesNode s ch n
NodesPremise c s ch (NodesChange.FreeAll r) = EmptiesRequest r ch.requests
NodesPremise c s ch (NodesChange.TakeOver numbers) = (r : RequestId) × (takes : TakesOver c s ch r) × ((ch.requests ≡ RequestsChange.Remove r) × (numbers ≡ takes.request.nodes))

-- ## what happens to jobs and handles

-- an asked job whose request failed, or one that uses nodes and is done with each, ends
pub record FinishesJob (c : Configuration) (s : State) (ch : Changes) (j : JobId) (kept later : JobRecord) : Type 0 where
  pub same_size : ch.grows ≡ Growth.Nothing
  pub same_requests : ch.requests ≡ RequestsChange.Same
  pub same_nodes : ch.nodes ≡ NodesChange.Same
  pub job : Job
  pub row : slice_get c.jobs j.0 ≡ Some job
  pub finishable : is_finishable s job kept ≡ true
  pub record_after : later ≡ record kept { ending = Some (ending_of kept); phase = Phase.Over }

-- a job's record changes in one of four ways: it asks, takes over nodes, ends, or is given up
pub record PutsJob (c : Configuration) (s : State) (ch : Changes) (j : JobId) (later : JobRecord) : Type 0 where
  pub kept : JobRecord
  pub stands : slice_get s.jobs j.0 ≡ Some kept
  pub way :
      ((priority : ℕ) × (asked : Asked) × (asks : AsksForJob c s ch priority asked) × ((ch.grows ≡ Growth.Request priority asked) × (asks.number ≡ j)))
      ⊎ (((r : RequestId) × (takes : TakesOver c s ch r) × ((ch.requests ≡ RequestsChange.Remove r) × (takes.number ≡ j)))
      ⊎ (FinishesJob c s ch j kept later
      ⊎ (Withdraws s ch j kept × (ch.requests ≡ request_after_withdraw kept.request))))

-- the node's record changes beside it
pub record MarksEnded (c : Configuration) (s : State) (ch : Changes) (j : JobId) (n : NodeId) : Type 0 where
  pub kept : NodeRecord
  pub puts : ch.nodes ≡ NodesChange.Put n kept
  pub owns : owner_of n s.jobs ≡ Some j

abbrev pub JobsPremise : Configuration → State → Changes → JobsChange → Type 0
JobsPremise c s ch JobsChange.Same = Unit {0}
JobsPremise c s ch (JobsChange.Put j later) = PutsJob c s ch j later
JobsPremise c s ch (JobsChange.EndNode j n) = MarksEnded c s ch j n

-- the job is over
pub record ReleasesJob (s : State) (j : JobId) : Type 0 where
  pub kept : JobRecord
  pub stands : slice_get s.jobs j.0 ≡ Some kept
  pub over : is_over kept.phase ≡ true

abbrev pub HandlesPremise : State → HandlesChange → Type 0
HandlesPremise s HandlesChange.Same = Unit {0}
HandlesPremise s (HandlesChange.Release j) = ReleasesJob s j

-- the session was begun and has not ended; nothing else happens except that it ends
pub record EndsSession (s : State) (ch : Changes) (session : SessionId) : Type 0 where
  pub same_size : ch.grows ≡ Growth.Nothing
  pub same_requests : ch.requests ≡ RequestsChange.Same
  pub same_nodes : ch.nodes ≡ NodesChange.Same
  pub facts : SessionFacts
  pub begun : session_of session s ≡ Some facts
  pub live : facts.live ≡ true

abbrev pub SessionsPremise : State → Changes → SessionsChange → Type 0
SessionsPremise s ch SessionsChange.Same = Unit {0}
SessionsPremise s ch (SessionsChange.Mute session) = Unit {0}
SessionsPremise s ch (SessionsChange.End session) = EndsSession s ch session

-- ## all of it

-- what the tests have shown, before anything has changed
pub record Premises (c : Configuration) (s : State) (ch : Changes) : Type 0 where
  pub maker : MakerPremise s ch.maker
  pub grows : GrowthPremise c s ch ch.grows
  pub requests : RequestsPremise c s ch ch.requests
  pub nodes : NodesPremise c s ch ch.nodes
  pub jobs : JobsPremise c s ch ch.jobs
  pub handles : HandlesPremise s ch.handles
  pub sessions : SessionsPremise s ch ch.sessions
