-- turns that lose a record, that end or remove what was made, and that change a node
use Rattle.std.specs.Prelude.{[], ◌∷◌, true, false, Some, None}
use Rattle.np_worked.specs.Parts.{session, node, job, request, requester, accepted, asked_for, held_request, allocated, held_node, whole, turn_to, refused, turn_to_nothing}
use Rattle.np_worked.specs.Lower.{Done, Entry, Event, LosesNothing, NodeRecord, NodeState, Reason, RequestState, SessionId, State, Turn, new_job}

-- # states that no crash and no expiry may leave, each the whole state except for one thing

-- the session crashes
abbrev pub crash_to : State → Turn
crash_to later = turn_to later (accepted (Event.Crash (session 1)) Done.Plain)

-- the session expires
abbrev pub expiry_to : State → Turn
expiry_to later = turn_to later (accepted (Event.Expire (session 1)) Done.Plain)

-- neither a crash nor an expiry may leave this state (own)
pub record MayNotBeLeft (later : State) : Type 0 where
  pub crash : LosesNothing (crash_to later) → ⊥
  pub expiry : LosesNothing (expiry_to later) → ⊥

-- ## something is gone

-- the request is gone
abbrev pub without_request : State
without_request = record whole { requests = [] }

-- the node is gone
abbrev pub without_node : State
without_node = record whole { nodes = [] }

-- the job's record is gone
abbrev pub without_job : State
without_job = record whole { jobs = [] }

-- the job's handle of the semaphore is gone
abbrev pub without_handle : State
without_handle = record whole { handles = [] ∷ [] }

-- that the server was swept is forgotten
abbrev pub without_swept : State
without_swept = record whole { swept = [] }

-- ## something is another

-- the request has another id
abbrev pub with_other_request : State
with_other_request = record whole { requests = held_request (request 1) (asked_for RequestState.Requested) ∷ [] }

-- the request has failed
abbrev pub with_failed_request : State
with_failed_request = record whole { requests = held_request (request 0) (asked_for RequestState.Failed) ∷ [] }

-- the node has another id
abbrev pub with_other_node : State
with_other_node = record whole { nodes = held_node (node 1) (allocated NodeState.Ready) ∷ [] }

-- the node is being deleted
abbrev pub with_deleting_node : State
with_deleting_node = record whole { nodes = held_node (node 0) (allocated NodeState.Deleting) ∷ [] }

-- the job is as before it asked
abbrev pub with_new_job : State
with_new_job = record whole { jobs = new_job ∷ [] }

-- another job has the handle
abbrev pub with_other_handle : State
with_other_handle = record whole { handles = (job 1 ∷ []) ∷ [] }

-- ## a number is given again

-- the session has no facts, and the next one gets its number
abbrev pub with_session_again : State
with_session_again = record whole { sessions = [] }

-- the next request gets the number of the one that is there
abbrev pub with_request_again : State
with_request_again = record whole { next_request = 0 }

-- the next node gets the number of the one that is there
abbrev pub with_node_again : State
with_node_again = record whole { next_node = 0 }

-- ## nothing is lost

-- the session is mute, and in no queue
abbrev pub without_session : State
without_session = record whole {
  sessions = record { role = requester; live = false; mute = true } ∷ [];
  requests = record (held_request (request 0) (asked_for RequestState.Requested)) { queue = [] } ∷ [];
  nodes = record (held_node (node 0) (allocated NodeState.Ready)) { queue = [] } ∷ [];
}

-- # turns that make a request or a node, turns that are no end of it, and turns that are

-- the event is accepted, and nothing of the whole state is left
abbrev pub clearing : Event → Turn
clearing event = turn_to_nothing (accepted event Done.Plain)

-- the whole state, but request 0 is a min-ready request of the first pool
abbrev pub with_pinned_request : State
with_pinned_request = record whole {
  requests = held_request (request 0) (record (asked_for RequestState.Pending) { job = None; pinned = Some (record { 0 = 0 }) }) ∷ [];
}

-- ## what is made

-- request 0 is made for job 0, and is not in the state that is left
abbrev pub submitting : Turn
submitting = turn_to_nothing (accepted (Event.Submit (session 1) (job 0)) (Done.Request (request 0)))

-- request 0 is made for a label that is kept ready, and is not in the state that is left
abbrev pub stocking : Turn
stocking = turn_to_nothing (accepted (Event.MinReady (session 1) (record { 0 = 0 })) (Done.Request (request 0)))

-- node 0 is made, and is not in the state that is left
abbrev pub creating : Turn
creating = turn_to_nothing (accepted (Event.Create (session 1) (request 0)) (Done.Node (node 0)))

-- ## what is no end of request 0, which is job 0's

-- it is lost at a tick
abbrev pub ticking : Turn
ticking = clearing Event.Tick

-- it is lost when the session that holds it expires
abbrev pub expiring : Turn
expiring = clearing (Event.Expire (session 1))

-- it is lost when the session that holds it crashes
abbrev pub crashing : Turn
crashing = clearing (Event.Crash (session 1))

-- another job takes its nodes
abbrev pub other_take : Turn
other_take = clearing (Event.Take (session 1) (job 1))

-- another job is withdrawn
abbrev pub other_withdrawal : Turn
other_withdrawal = clearing (Event.Withdraw (session 1) (job 1))

-- another request is fulfilled, and it is a min-ready request
abbrev pub other_fulfilment : Turn
other_fulfilment = record (clearing (Event.Fulfil (session 1) (request 1))) { before = with_pinned_request }

-- it is fulfilled, as the request of its job
abbrev pub fulfilment : Turn
fulfilment = clearing (Event.Fulfil (session 1) (request 0))

-- its job's withdrawal is refused
abbrev pub refused_withdrawal : Turn
refused_withdrawal = turn_to_nothing (refused (Event.Withdraw (session 1) (job 0)))

-- its job is withdrawn, and it is still there
abbrev pub standing_withdrawal : Turn
standing_withdrawal = turn_to whole (accepted (Event.Withdraw (session 1) (job 0)) Done.Plain)

-- ## what is an end of it

-- its job is withdrawn
abbrev pub withdrawal : Turn
withdrawal = clearing (Event.Withdraw (session 1) (job 0))

-- its job takes its nodes
abbrev pub taking : Turn
taking = clearing (Event.Take (session 1) (job 0))

-- a min-ready request is fulfilled
abbrev pub pinned_fulfilment : Turn
pinned_fulfilment = record (clearing (Event.Fulfil (session 1) (request 0))) { before = with_pinned_request }

-- ## what does not remove node 0

-- another node is gone
abbrev pub other_gone : Turn
other_gone = clearing (Event.Gone (session 1) (node 1))

-- that it is gone is refused
abbrev pub refused_gone : Turn
refused_gone = turn_to_nothing (refused (Event.Gone (session 1) (node 0)))

-- it is gone, and still has its record
abbrev pub standing_gone : Turn
standing_gone = turn_to whole (accepted (Event.Gone (session 1) (node 0)) Done.Plain)

-- ## what removes it

-- it is gone
abbrev pub removal : Turn
removal = clearing (Event.Gone (session 1) (node 0))

-- ## entries that the machine never answers so at the start

-- a request is said to be made, and the machine has made none
abbrev pub unmade_request : Entry
unmade_request = accepted (Event.Submit (session 1) (job 0)) (Done.Request (request 0))

-- a node is said to be made, and the machine has made none
abbrev pub unmade_node : Entry
unmade_node = accepted (Event.Create (session 1) (request 0)) (Done.Node (node 0))

-- # turns in which a node is changed by who may not change it; session 1 holds the node and its request

-- the record of node 0 before each of these turns
abbrev pub was : NodeRecord
was = allocated NodeState.Ready

-- the whole state with this record of node 0
abbrev pub with_node : NodeRecord → State
with_node kept = record whole { nodes = held_node (node 0) kept ∷ [] }

-- the event, which is accepted, leaves this record of node 0
abbrev pub changing : Event → NodeRecord → Turn
changing event kept = turn_to (with_node kept) (accepted event Done.Plain)

-- ## by an event that is no decline and no reset

-- a session deletes the node
abbrev pub deletion_by : SessionId → Turn
deletion_by by = changing (Event.MarkDeleting by (node 0)) (allocated NodeState.Deleting)

-- a session removes the node
abbrev pub removal_by : SessionId → Turn
removal_by by = turn_to (record whole { nodes = [] }) (accepted (Event.Gone by (node 0)) Done.Plain)

-- the expiry of session 1 deletes the node
abbrev pub deleting_expiry : Turn
deleting_expiry = changing (Event.Expire (session 1)) (allocated NodeState.Deleting)

-- ## by an event that gives a request back

-- the node's record without its allocation
abbrev pub free : NodeRecord
free = record was { allocated_to = None }

-- the same, and the node is being deleted
abbrev pub deleted : NodeRecord
deleted = record free { state = NodeState.Deleting }

-- a session declines the request, and leaves this record
abbrev pub declining : SessionId → NodeRecord → Turn
declining by kept = changing (Event.Decline by (request 0) Reason.NeverFits) kept

-- a session gives the request back, and leaves this record
abbrev pub resetting : SessionId → NodeRecord → Turn
resetting by kept = changing (Event.Reset by (request 0)) kept

-- the node's record before the turn, if it is allocated to another request
abbrev pub of_request_1 : NodeRecord
of_request_1 = record was { allocated_to = Some (request 1) }

-- the turn, but the node was allocated to another request before it
abbrev pub of_another : Turn → Turn
of_another turn = record turn { before = with_node of_request_1 }
