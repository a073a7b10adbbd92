-- which nodes were given to a requester, which of them its session has yet to lock, and which others it is to leave
use Rattle.std.specs.Prelude.{ℕ, Bool, false, ◌==◌, ◌&&◌, not, if◌then◌else◌, filter, find, map, Option, None, option_and_then, slice_get}
use Rattle.np_look.specs.Lower.{Configuration, JobId, NodeEntry, NodeId, NodeRecord, RequestState, RequesterId, SessionId, State, is_asked, is_fulfilled, is_queued, node_queue, option_map, option_map_or, request_in}

-- ## given

-- the requester of the job, if the job has asked for its nodes
abbrev pub asker : Configuration → State → JobId → Option RequesterId
asker c s j =
    option_and_then (λ kept. if is_asked kept.phase then option_map (λ row. row.requester) (slice_get c.jobs j.0) else None) (slice_get s.jobs j.0)

-- the requester that a request in this state and of this job is handed over to: it is fulfilled, and its job
-- has asked (Nodepool: fulfilled)
abbrev pub handed_to : Configuration → State → RequestState → Option JobId → Option RequesterId
handed_to c s state job = if is_fulfilled state then option_and_then (asker c s) job else None

-- the requester that a node with this record was given to: its request is handed over to it
abbrev pub given_to : Configuration → State → NodeRecord → Option RequesterId
given_to c s k = option_and_then (λ request. handed_to c s request.state request.job) (option_and_then (λ r. request_in r s.requests) k.allocated_to)

abbrev pub is_given_to : Configuration → State → RequesterId → NodeRecord → Bool
is_given_to c s q k = option_map_or (λ p. p.0 == q.0) (given_to c s k) false

-- ## to lock and to leave

-- given to the requester, and the session does not wait at it
abbrev pub is_to_lock : Configuration → State → RequesterId → SessionId → NodeEntry → Bool
is_to_lock c s q session e = is_given_to c s q e.kept && not (is_queued session (node_queue e.id s.nodes))

-- the first of these nodes, by number
abbrev pub node_to_lock : Configuration → RequesterId → SessionId → State → Option NodeId
node_to_lock c q session s = option_map (λ e. e.id) (find (is_to_lock c s q session) s.nodes)

-- the session waits at it or holds it, and it was not given to the requester
abbrev pub is_to_leave : Configuration → State → RequesterId → SessionId → NodeEntry → Bool
is_to_leave c s q session e = is_queued session (node_queue e.id s.nodes) && not (is_given_to c s q e.kept)

-- these nodes by number: the one at this place
abbrev pub node_to_leave : Configuration → RequesterId → SessionId → ℕ → State → Option NodeId
node_to_leave c q session at s = slice_get (map (λ e. e.id) (filter (is_to_leave c s q session) s.nodes)) at
