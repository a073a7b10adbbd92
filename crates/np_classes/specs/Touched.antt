-- what the changes of an event may change: nodes, requests, of which only the queue, jobs, and sessions
use Rattle.std.specs.Prelude.{Bool, false, ◌+◌, ◌-◌, ◌==◌, ◌||◌, ◌++◌, List, length, Option, Some, None, option_and_then, option_to_list}
use Rattle.np_classes.specs.Lower.{Changes, Growth, HandlesChange, JobId, JobsChange, NodeId, NodesChange, RequestId, RequestsChange, SessionId, SessionsChange, State, is_queued, is_request, list_any, next_id, node_in, node_queue, option_map_or, request_in, request_queue, same_job, same_request, same_session}

-- ## nodes

-- what grows is the node, its queue or its allocation
abbrev pub grows_node : Growth → State → NodeId → Bool
grows_node (Growth.Node kept) s n = s.next_node == n.0
grows_node (Growth.JoinNode m) s n = m.0 == n.0
grows_node (Growth.Allocate m r tenant) s n = m.0 == n.0
grows_node growth s n = false

abbrev pub changes_node : NodesChange → State → NodeId → Bool
changes_node NodesChange.Same s n = false
changes_node (NodesChange.Put m kept) s n = m.0 == n.0
changes_node (NodesChange.Remove m) s n = m.0 == n.0
changes_node (NodesChange.Leave m) s n = m.0 == n.0
changes_node (NodesChange.FreeAll r) s n = option_map_or (λ k. is_request r k.allocated_to) (node_in n s.nodes) false
changes_node (NodesChange.TakeOver numbers) s n = list_any (λ m. m.0 == n.0) numbers

-- a session that ends leaves the node's queue
abbrev pub ends_at_node : SessionsChange → State → NodeId → Bool
ends_at_node SessionsChange.Same s n = false
ends_at_node (SessionsChange.Mute session) s n = false
ends_at_node (SessionsChange.End session) s n = is_queued session (node_queue n s.nodes)

-- the request that the node is allocated to goes away
abbrev pub unclaims_node : RequestsChange → State → NodeId → Bool
unclaims_node RequestsChange.Same s n = false
unclaims_node (RequestsChange.Edit r edit) s n = false
unclaims_node (RequestsChange.Remove r) s n = option_map_or (λ k. is_request r k.allocated_to) (node_in n s.nodes) false
unclaims_node (RequestsChange.Leave r) s n = false

-- the record or the queue of the node may change, or whether it is unclaimed
abbrev pub touches_node : Changes → State → NodeId → Bool
touches_node ch s n = grows_node ch.grows s n || changes_node ch.nodes s n || ends_at_node ch.sessions s n || unclaims_node ch.requests s n

-- ## requests

-- what grows is the request
abbrev pub grows_request : Growth → State → RequestId → Bool
grows_request (Growth.Request priority asked) s r = same_request (next_id priority s) r
grows_request growth s r = false

abbrev pub changes_request : RequestsChange → RequestId → Bool
changes_request RequestsChange.Same r = false
changes_request (RequestsChange.Edit x edit) r = same_request x r
changes_request (RequestsChange.Remove x) r = same_request x r
changes_request (RequestsChange.Leave x) r = false

-- the record of the request may change
abbrev pub touches_request : Changes → State → RequestId → Bool
touches_request ch s r = grows_request ch.grows s r || changes_request ch.requests r

-- ## queues of requests

-- what grows is the queue of the request
abbrev pub grows_request_queue : Growth → RequestId → Bool
grows_request_queue (Growth.JoinRequest x) r = same_request x r
grows_request_queue growth r = false

abbrev pub leaves_request_queue : RequestsChange → RequestId → Bool
leaves_request_queue RequestsChange.Same r = false
leaves_request_queue (RequestsChange.Edit x edit) r = false
leaves_request_queue (RequestsChange.Remove x) r = false
leaves_request_queue (RequestsChange.Leave x) r = same_request x r

-- a session that ends leaves the request's queue
abbrev pub ends_at_request : SessionsChange → State → RequestId → Bool
ends_at_request SessionsChange.Same s r = false
ends_at_request (SessionsChange.Mute session) s r = false
ends_at_request (SessionsChange.End session) s r = is_queued session (request_queue r s.requests)

-- the queue of the request may change
abbrev pub touches_request_queue : Changes → State → RequestId → Bool
touches_request_queue ch s r = grows_request_queue ch.grows r || leaves_request_queue ch.requests r || ends_at_request ch.sessions s r

-- ## jobs

-- the job that takes handles
abbrev pub taking : Growth → Option JobId
taking (Growth.Handles j) = Some j
taking growth = None

-- the job whose record changes
abbrev pub changed_job : JobsChange → Option JobId
changed_job JobsChange.Same = None
changed_job (JobsChange.Put j kept) = Some j
changed_job (JobsChange.EndNode j n) = Some j

-- the job that gives its handles back
abbrev pub releasing : HandlesChange → Option JobId
releasing HandlesChange.Same = None
releasing (HandlesChange.Release j) = Some j

-- the job of the request, if it is there and has one
abbrev pub job_of_request : RequestId → State → Option JobId
job_of_request r s = option_and_then (λ request. request.job) (request_in r s.requests)

-- the job of the request whose record changes or that goes away
abbrev pub asker_of : RequestsChange → State → Option JobId
asker_of RequestsChange.Same s = None
asker_of (RequestsChange.Edit r edit) s = job_of_request r s
asker_of (RequestsChange.Remove r) s = job_of_request r s
asker_of (RequestsChange.Leave r) s = None

-- the jobs whose record, handles or request may change
abbrev pub touched_jobs : Changes → State → List JobId
touched_jobs ch s =
    ((option_to_list (taking ch.grows) ++ option_to_list (changed_job ch.jobs)) ++ option_to_list (releasing ch.handles)) ++ option_to_list (asker_of ch.requests s)

abbrev pub touches_job : Changes → State → JobId → Bool
touches_job ch s j = list_any (λ i. same_job i j) (touched_jobs ch s)

-- ## sessions

-- the session that begins: they count from 1
abbrev pub beginning : Growth → State → Option SessionId
beginning (Growth.Session role) s = Some (record { 0 = length s.sessions + 1 })
beginning growth s = None

-- the session whose facts a change of this session's changes: that of the place before its number
abbrev pub at_place : SessionId → SessionId
at_place x = record { 0 = (x.0 - 1) + 1 }

-- the session that is mute or over now
abbrev pub stopping : SessionsChange → Option SessionId
stopping SessionsChange.Same = None
stopping (SessionsChange.Mute x) = Some (at_place x)
stopping (SessionsChange.End x) = Some (at_place x)

-- the sessions whose facts may change
abbrev pub touched_sessions : Changes → State → List SessionId
touched_sessions ch s = option_to_list (beginning ch.grows s) ++ option_to_list (stopping ch.sessions)

abbrev pub touches_session : Changes → State → SessionId → Bool
touches_session ch s x = list_any (λ y. same_session y x) (touched_sessions ch s)
