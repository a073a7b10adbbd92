-- journals that no machine makes, a worked state, the tree that lays it out, and trees that do not
use Rattle.std.specs.Prelude.{List, [], ◌∷◌, ◌++◌, Some, None, true, false, take, ℕ, codes, map}
use Rattle.np_worked.specs.Site.{session, node, pool, request, launcher, plain_site, line, refused, job, tenant, janitor, requester}
use Rattle.np_worked.specs.Parts.{allocated, asked_for, held_node as held, held_request, asked_job}
use Rattle.np_worked.specs.Jobs.{plain_path}
use Rattle.np_worked.specs.Lower.{Declined, Done, Entry, Event, NodeEntry, NodeState, Reason, Refusal, RequestEntry, RequestState, State, Turn, start, Any, Ephemeral, EphemeralSequential, NodeRecord, Op, Persistent, PersistentSequential, RequestRecord, TreeState, after_begin, after_end, after_parts, after_set, first_directories, make, new_job, new_tree, no_deeds}

-- journals and turns that no machine makes, each against one property

-- two sessions get the reply that they hold the same node
abbrev pub two_holders : List Entry
two_holders =
    line (Event.LockNode (session 1) (node 0)) Done.Held
    ∷ line (Event.LockNode (session 2) (node 0)) Done.Held
    ∷ []

-- a node is made, and has no record afterwards
abbrev pub lost_node : List Entry
lost_node = line (Event.Create (session 1) (request 200 0)) (Done.Node (node 0)) ∷ []

-- the decline that makes the request fail is recorded as refused
abbrev pub unsaid_decline : List Entry
unsaid_decline = take 5 plain_path.journal ++ refused (Event.Decline (session 1) (request 200 0) Reason.NeverFits) Refusal.FalseReason ∷ []

-- a node that session 1 holds
abbrev pub held_node : NodeState → NodeEntry
held_node state = held (node 0) (record (allocated state) { allocated_to = None; server = Some 1 })

-- the machine before the first event, except for that node
abbrev pub with_held_node : NodeState → State
with_held_node state = record (start plain_site) { nodes = held_node state ∷ [] }

-- a tick deletes a node that a session holds
abbrev pub deleting_tick : Turn
deleting_tick = record {
  before = with_held_node NodeState.Ready;
  entry = line Event.Tick Done.Plain;
  later = with_held_node NodeState.Deleting;
}

-- a reset, by a session that holds the node too, deletes the node
abbrev pub deleting_reset : Turn
deleting_reset = record {
  before = with_held_node NodeState.Ready;
  entry = line (Event.Reset (session 1) (request 200 0)) Done.Plain;
  later = with_held_node NodeState.Deleting;
}

-- a node that is said to be gone still has its record
abbrev pub standing_gone : Turn
standing_gone = record {
  before = with_held_node NodeState.Deleting;
  entry = line (Event.Gone (session 1) (node 0)) Done.Plain;
  later = with_held_node NodeState.Deleting;
}

-- a job's request in a given state, with its declines, held by session 1
abbrev pub asked_request : RequestState → List Declined → RequestEntry
asked_request state declined = held_request (request 200 0) (record (asked_for state) { declined = declined })

-- the machine before the first event, except for that request and the pool's launcher
abbrev pub with_request : RequestState → List Declined → State
with_request state declined = record (start plain_site) {
  sessions = record { role = launcher 0; live = true; mute = false } ∷ [];
  registrations = record { pool = pool 0; session = session 1 } ∷ [];
  requests = asked_request state declined ∷ [];
}

-- a request fails by a decline whose reason is not true
abbrev pub false_decline : Turn
false_decline = record {
  before = with_request RequestState.Requested [];
  entry = line (Event.Decline (session 1) (request 200 0) Reason.NeverFits) Done.Plain;
  later = with_request RequestState.Failed (record { pool = pool 0; reason = Reason.NeverFits } ∷ []);
}

-- a request is gone after the session that held it expires
abbrev pub losing_expiry : Turn
losing_expiry = record {
  before = with_request RequestState.Requested [];
  entry = line (Event.Expire (session 1)) Done.Plain;
  later = start plain_site;
}

-- a worked state, the tree that lays it out, and trees that do not

-- ## the state

-- pending at pool 0, which is to give it node 1
abbrev pub asked : RequestRecord
asked = record (asked_for RequestState.Pending) { nodes = node 1 ∷ []; pool = Some (pool 0) }

abbrev pub in_building : NodeRecord
in_building = record (allocated NodeState.Building) { in_flight = true; server = None; since = 3; start = 2; tenant = Some (tenant 0) }

-- launcher 0 serves the request of job 0, at whose lock the requester waits; the janitor's session has
-- ended. The jobs 2 and 10 have handles, and the servers 9 and 10 of node 0 were swept: the order of
-- their names is another one. No run leads to this state: it is made up to tell the clauses apart
abbrev pub worked : State
worked = record {
  tick = 12;
  sessions =
      record { role = launcher 0; live = true; mute = false }
      ∷ record { role = janitor 0; live = false; mute = true }
      ∷ record { role = requester 0; live = true; mute = false }
      ∷ [];
  registrations = record { pool = pool 0; session = session 1 } ∷ [];
  requests = record { id = request 200 0; kept = asked; queue = session 1 ∷ session 3 ∷ [] } ∷ [];
  nodes = record { id = node 1; kept = in_building; queue = session 1 ∷ [] } ∷ [];
  handles = (job 2 ∷ job 10 ∷ []) ∷ [];
  jobs = asked_job ∷ new_job ∷ [];
  launchers = no_deeds ∷ [];
  janitors = no_deeds ∷ [];
  requesters = no_deeds ∷ [];
  swept = record { node = node 0; server = 9 } ∷ record { node = node 0; server = 10 } ∷ [];
  next_request = 1;
  next_node = 2;
}

-- ## the tree

abbrev pub file : List ℕ → List ℕ → Op
file path bytes = Op.Create path bytes Persistent

abbrev pub no_deeds_text : List ℕ
no_deeds_text = codes "{\"acts\":0,\"starts\":0,\"strikes\":0}"

-- what the tree's first session makes; node 0 was there and is gone
abbrev pub housekeeping : List Op
housekeeping =
    map (make []) first_directories
    ++ file (codes "/zuul/semaphores/0") []
    ∷ file (codes "/zuul/semaphores/0/10") []
    ∷ file (codes "/zuul/semaphores/0/2") []
    ∷ file (codes "/poolsim/jobs/0") (codes "{\"nodes\":[],\"phase\":\"asked\",\"request\":\"200-0000000000\"}")
    ∷ file (codes "/poolsim/jobs/1") (codes "{\"nodes\":[],\"phase\":\"new\"}")
    ∷ file (codes "/poolsim/roles/launcher-0") no_deeds_text
    ∷ file (codes "/poolsim/roles/janitor-0") no_deeds_text
    ∷ file (codes "/poolsim/roles/requester-0") no_deeds_text
    ∷ file (codes "/poolsim/sessions/0000000001") (codes "{\"mute\":false,\"role\":\"launcher-0\"}")
    ∷ file (codes "/poolsim/sessions/0000000002") (codes "{\"mute\":true,\"role\":\"janitor-0\"}")
    ∷ file (codes "/poolsim/sessions/0000000003") (codes "{\"mute\":false,\"role\":\"requester-0\"}")
    ∷ file (codes "/poolsim/swept/0000000000-9") []
    ∷ file (codes "/poolsim/swept/0000000000-10") []
    ∷ file (codes "/poolsim/tick") (codes "12")
    ∷ Op.CreateUnder (codes "/nodepool/nodes") [] PersistentSequential
    ∷ Op.Delete (codes "/nodepool/nodes/0000000000") Any
    ∷ []

-- the requester makes the request and its lock
abbrev pub asking_parts : List Op
asking_parts =
    Op.Create (codes "/nodepool/requests/200-") (codes "{\"declined\":[],\"job\":0,\"labels\":[0],\"nodes\":[1],\"pool\":0,\"relative-priority\":0,\"state\":\"pending\"}") PersistentSequential
    ∷ file (codes "/nodepool/requests-lock/200-0000000000") []
    ∷ []

-- a session waits at the request's lock
abbrev pub wait : Op
wait = Op.Create (codes "/nodepool/requests-lock/200-0000000000/lock-") [] EphemeralSequential

-- the launcher makes its registration, and the node with its lock, which it holds; the node is spelled
-- as before there were tenants
abbrev pub serving_parts : List Op
serving_parts =
    Op.Create (codes "/nodepool/launchers/0") [] Ephemeral
    ∷ Op.CreateUnder (codes "/nodepool/nodes") (codes "{\"allocated-to\":\"200-0000000000\",\"attempts\":1,\"in-flight\":true,\"label\":0,\"pool\":0,\"since\":3,\"start\":2,\"state\":\"building\"}") PersistentSequential
    ∷ file (codes "/nodepool/nodes/0000000001/lock") []
    ∷ Op.Create (codes "/nodepool/nodes/0000000001/lock/lock-") [] EphemeralSequential
    ∷ []

-- the tree's first session and the machine's three have begun
abbrev pub begun_tree : TreeState
begun_tree = after_begin (after_begin (after_begin (after_begin new_tree)))

abbrev pub served_tree : TreeState
served_tree = after_parts (after_parts (after_parts begun_tree 1 housekeeping) 4 asking_parts) 2 serving_parts

-- the launcher waits before the requester
abbrev pub queued_tree : TreeState
queued_tree = after_parts (after_parts served_tree 2 (wait ∷ [])) 4 (wait ∷ [])

-- and the janitor's session has ended
abbrev pub worked_tree : TreeState
worked_tree = after_end queued_tree 3

-- ## trees that do not lay it out

abbrev pub another_tick : TreeState
another_tick = after_set worked_tree (codes "/poolsim/tick") (codes "13")

-- the requester waits before the launcher
abbrev pub another_holder : TreeState
another_holder = after_end (after_parts (after_parts served_tree 4 (wait ∷ [])) 2 (wait ∷ [])) 3

abbrev pub lock_of_no_request : TreeState
lock_of_no_request = after_parts worked_tree 1 (file (codes "/nodepool/requests-lock/200-0000000001") [] ∷ [])

abbrev pub node_below_a_pair : TreeState
node_below_a_pair = after_parts worked_tree 1 (file (codes "/poolsim/swept/0000000000-9/x") [] ∷ [])
