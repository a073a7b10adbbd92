-- what the changes of an event touch, listed before it
use Rattle.std.specs.Prelude.{◌≡◌, ◌≤◌, List, [], ◌∷◌, ◌++◌, true, length, ◌+◌, ◌*◌, map}
use Rattle.np_classes.specs.Touched.{touched_jobs, touched_sessions, touches_node, touches_request, touches_request_queue}
use Rattle.np_classes.specs.Lower.{Changes, Growth, JobId, NodeId, NodesChange, RequestId, RequestsChange, SessionId, SessionsChange, State, list_any, next_id, option_map_or, request_in, same_node, same_request, Configuration}
use Rattle.np_classes.specs.Classes.{ClassesOf}
use Rattle.np_classes.specs.declared.past.PastNode.{PastNode}
use Rattle.np_classes.specs.declared.past.PastQueue.{PastQueue}
use Rattle.np_classes.specs.declared.past.PastRequest.{PastRequest}
use Rattle.np_classes.specs.Placed.{past_node, past_queue, past_request}

-- those in whose queues the session is that ends, if one does
abbrev pub ended : {K : Type 0} → SessionsChange → List K → List K
ended SessionsChange.Same queued = []
ended (SessionsChange.Mute session) queued = []
ended (SessionsChange.End session) queued = queued

-- ## nodes

abbrev pub grown_nodes : Growth → State → List NodeId
grown_nodes (Growth.Node kept) s = record { 0 = s.next_node } ∷ []
grown_nodes (Growth.JoinNode n) s = n ∷ []
grown_nodes (Growth.Allocate n r tenant) s = n ∷ []
grown_nodes growth s = []

-- the nodes that are freed are in their request's list
abbrev pub changed_nodes : NodesChange → State → List NodeId
changed_nodes NodesChange.Same s = []
changed_nodes (NodesChange.Put n kept) s = n ∷ []
changed_nodes (NodesChange.Remove n) s = n ∷ []
changed_nodes (NodesChange.Leave n) s = n ∷ []
changed_nodes (NodesChange.FreeAll r) s = option_map_or (λ k. k.nodes) (request_in r s.requests) []
changed_nodes (NodesChange.TakeOver numbers) s = numbers

-- the nodes in the list of the request that goes away
abbrev pub unclaimed_nodes : RequestsChange → State → List NodeId
unclaimed_nodes RequestsChange.Same s = []
unclaimed_nodes (RequestsChange.Edit r edit) s = []
unclaimed_nodes (RequestsChange.Remove r) s = option_map_or (λ k. k.nodes) (request_in r s.requests) []
unclaimed_nodes (RequestsChange.Leave r) s = []

-- a node that is freed by a request that goes away is listed twice
abbrev pub touched_nodes : Changes → List NodeId → State → List NodeId
touched_nodes ch queued s = ((grown_nodes ch.grows s ++ changed_nodes ch.nodes s) ++ ended ch.sessions queued) ++ unclaimed_nodes ch.requests s

-- ## requests

abbrev pub grown_requests : Growth → State → List RequestId
grown_requests (Growth.Request priority asked) s = next_id priority s ∷ []
grown_requests growth s = []

abbrev pub changed_requests : RequestsChange → List RequestId
changed_requests RequestsChange.Same = []
changed_requests (RequestsChange.Edit r edit) = r ∷ []
changed_requests (RequestsChange.Remove r) = r ∷ []
changed_requests (RequestsChange.Leave r) = []

abbrev pub touched_requests : Changes → State → List RequestId
touched_requests ch s = grown_requests ch.grows s ++ changed_requests ch.requests

-- ## queues of requests

abbrev pub grown_queues : Growth → List RequestId
grown_queues (Growth.JoinRequest r) = r ∷ []
grown_queues growth = []

abbrev pub left_queues : RequestsChange → List RequestId
left_queues RequestsChange.Same = []
left_queues (RequestsChange.Edit r edit) = []
left_queues (RequestsChange.Remove r) = []
left_queues (RequestsChange.Leave r) = r ∷ []

abbrev pub touched_queues : Changes → List RequestId → List RequestId
touched_queues ch queued = (grown_queues ch.grows ++ left_queues ch.requests) ++ ended ch.sessions queued

-- ## all of it

-- the nodes, the requests whose records may change, those whose queues alone may, the jobs and the
-- sessions that changes touch (own)
pub record TouchedOf : Type 0 where
  pub nodes : List NodeId
  pub requests : List RequestId
  pub queues : List RequestId
  pub jobs : List JobId
  pub sessions : List SessionId

-- all that the changes touch in the state is listed; they touch one request at most
pub record IsTouched (s : State) (ch : Changes) (touched : TouchedOf) : Type 0 where
  pub nodes : (n : NodeId) → touches_node ch s n ≡ true → list_any (λ m. same_node m n) touched.nodes ≡ true
  pub requests : (r : RequestId) → touches_request ch s r ≡ true → list_any (λ x. same_request x r) touched.requests ≡ true
  pub queues : (r : RequestId) → touches_request_queue ch s r ≡ true → list_any (λ x. same_request x r) touched.queues ≡ true
  pub jobs : touched.jobs ≡ touched_jobs ch s
  pub sessions : touched.sessions ≡ touched_sessions ch s
  pub once : length touched.requests ≤ 1

-- what is prepared for a change: what it touches, with the groups that this is in before it

-- the nodes, the requests, and those of which the queue alone is touched, with their groups (own)
pub record PastOf : Type 0 where
  pub nodes : List PastNode
  pub requests : List PastRequest
  pub queues : List PastQueue

-- all that is touched, with the groups that it is in in the state
pub record IsPast (c : Configuration) (s : State) (touched : TouchedOf) (past : PastOf) : Type 0 where
  pub nodes : past.nodes ≡ map (past_node c s) touched.nodes
  pub requests : past.requests ≡ map (past_request s) touched.requests
  pub queues : past.queues ≡ map (past_queue s) touched.queues

-- there is room for each node in the five groups that it may be in, for each request in its seven, and
-- for each queue in its one
pub record HasRoom (past : PastOf) (classes : ClassesOf) : Type 0 where
  pub nodes : 5 * length past.nodes ≤ classes.node_room
  pub requests : 7 * length past.requests + length past.queues ≤ classes.request_room
