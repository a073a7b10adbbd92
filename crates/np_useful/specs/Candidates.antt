-- the candidates of a kind, by place
use Rattle.std.specs.Prelude.{ℕ, Bool, true, false, if◌then◌else◌, Option, length, slice_get}
use Rattle.np_useful.specs.declared.kind.EventKind.{EventKind}
use Rattle.np_useful.specs.declared.kind.RequestKind.{RequestKind}
use Rattle.np_useful.specs.declared.kind.NodeKind.{NodeKind}
use Rattle.np_useful.specs.Kinds.{request_event, node_event, job_event}
use Rattle.np_useful.specs.Lower.{Event, NodeId, RequestId, SessionId, State, option_map, queued_nodes, queued_requests}

-- whether the machine accepts the event only from a session in the request's queue
abbrev pub is_from_request_queue : RequestKind → Bool
is_from_request_queue RequestKind.Lock = false
is_from_request_queue RequestKind.FailDeclined = false
is_from_request_queue _ = true

-- whether the machine accepts the event only from a session in the node's queue
abbrev pub is_from_node_queue : NodeKind → Bool
is_from_node_queue NodeKind.Lock = false
is_from_node_queue _ = true

-- the request at a place: of those in whose queues the session is, if the machine accepts the event
-- from no other session, else of all
abbrev pub request_named : State → SessionId → RequestKind → ℕ → Option RequestId
request_named s session kind at = if is_from_request_queue kind then slice_get (queued_requests session s) at else option_map (λ e. e.id) (slice_get s.requests at)

-- the node at a place, of those in whose queues the session is or of all
abbrev pub node_named : State → SessionId → NodeKind → ℕ → Option NodeId
node_named s session kind at = if is_from_node_queue kind then slice_get (queued_nodes session s) at else option_map (λ e. e.id) (slice_get s.nodes at)

-- how many places there are
abbrev pub places : State → SessionId → EventKind → ℕ
places s session (EventKind.Request kind) = if is_from_request_queue kind then length (queued_requests session s) else length s.requests
places s session (EventKind.Node kind) = if is_from_node_queue kind then length (queued_nodes session s) else length s.nodes
places s session (EventKind.Job kind) = length s.jobs

-- the session's event of the kind that names what is at the place
abbrev pub candidate : State → SessionId → EventKind → ℕ → Option Event
candidate s session (EventKind.Request kind) at = option_map (request_event kind session) (request_named s session kind at)
candidate s session (EventKind.Node kind) at = option_map (node_event kind session) (node_named s session kind at)
candidate s session (EventKind.Job kind) at = option_map (λ _. job_event kind session (record { 0 = at })) (slice_get s.jobs at)
