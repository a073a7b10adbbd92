-- what no crash and no expiry loses
use Rattle.std.specs.Prelude.{◌≡◌, Bool, true, false, ◌==◌, ◌&&◌, List, [], ◌∷◌, Option, Some, None, is_some, ◌⊎◌, length, map}
use Rattle.std.specs.Option.{option_map_or}
use Rattle.np_machine.specs.Tables.{same_request, request_in, node_in}
use Rattle.np_machine.specs.Turns.{Turn, turns, SomeTurn, EachTurn, IsAccepted}
use Rattle.np_machine.specs.History.{after}
use Rattle.np_machine.specs.State.{State}
use Rattle.np_machine.specs.Lower.{Configuration, Done, Entry, Event, JobId, NodeId, Reply, RequestId, RequestRecord}

-- ## a crash or an expiry changes no record

-- a crash, or the end of a session
abbrev pub is_loss : Event → Bool
is_loss (Event.Crash session) = true
is_loss (Event.Expire session) = true
is_loss _ = false

-- the same requests, nodes, jobs, handles, swept pairs and next numbers; queues, registrations, sessions and what roles did may differ
pub record SameRecords (s t : State) : Type 0 where
  pub request_ids : map (λ e. e.id) t.requests ≡ map (λ e. e.id) s.requests
  pub requests : map (λ e. e.kept) t.requests ≡ map (λ e. e.kept) s.requests
  pub node_ids : map (λ e. e.id) t.nodes ≡ map (λ e. e.id) s.nodes
  pub nodes : map (λ e. e.kept) t.nodes ≡ map (λ e. e.kept) s.nodes
  pub jobs : t.jobs ≡ s.jobs
  pub handles : t.handles ≡ s.handles
  pub swept : t.swept ≡ s.swept
  pub next_session : length t.sessions ≡ length s.sessions
  pub next_request : t.next_request ≡ s.next_request
  pub next_node : t.next_node ≡ s.next_node

abbrev pub LosesNothing : Turn → Type 0
LosesNothing t = is_loss t.entry.event ≡ true → IsAccepted t → SameRecords t.before t.later

-- ## a request that was made is still there, or its end is in the journal

-- the reply names the request that was made
abbrev pub is_request_made : RequestId → Event → Reply → Bool
is_request_made r (Event.Submit session j) (Reply.Done (Done.Request made)) = same_request made r
is_request_made r (Event.MinReady session l) (Reply.Done (Done.Request made)) = same_request made r
is_request_made r _ _ = false

-- the request is the job's
abbrev pub is_request_of : JobId → Option RequestRecord → Bool
is_request_of j None = false
is_request_of j (Some request) = option_map_or (λ other. other.0 == j.0) request.job false

abbrev pub is_pinned : Option RequestRecord → Bool
is_pinned None = false
is_pinned (Some request) = is_some request.pinned

-- the request's job took its nodes or was withdrawn, or a min-ready request was fulfilled
abbrev pub is_request_end : RequestId → Option RequestRecord → Event → Bool
is_request_end r request (Event.Take session j) = is_request_of j request
is_request_end r request (Event.Withdraw session j) = is_request_of j request
is_request_end r request (Event.Fulfil session other) = same_request other r && is_pinned request
is_request_end r request _ = false

-- that happened, and the request is gone
pub record EndsRequest (r : RequestId) (t : Turn) : Type 0 where
  pub ends : is_request_end r (request_in r t.before.requests) t.entry.event ≡ true
  pub accepted : IsAccepted t
  pub gone : request_in r t.later.requests ≡ None

abbrev pub RequestsKept : State → List Turn → Type 0
RequestsKept final [] = Unit {0}
RequestsKept final (t ∷ ts) =
    ((r : RequestId) → is_request_made r t.entry.event t.entry.reply ≡ true
    → (is_some (request_in r final.requests) ≡ true) ⊎ SomeTurn (EndsRequest r) ts)
    × RequestsKept final ts

-- ## a node that was made is still there, or it is gone by an entry

abbrev pub is_node_made : NodeId → Event → Reply → Bool
is_node_made n (Event.Create session r) (Reply.Done (Done.Node made)) = made.0 == n.0
is_node_made n _ _ = false

abbrev pub is_gone : NodeId → Event → Bool
is_gone n (Event.Gone session other) = other.0 == n.0
is_gone n _ = false

-- that happened, and the node's record is gone
pub record RemovesNode (n : NodeId) (t : Turn) : Type 0 where
  pub removes : is_gone n t.entry.event ≡ true
  pub accepted : IsAccepted t
  pub gone : node_in n t.later.nodes ≡ None

abbrev pub NodesKept : State → List Turn → Type 0
NodesKept final [] = Unit {0}
NodesKept final (t ∷ ts) =
    ((n : NodeId) → is_node_made n t.entry.event t.entry.reply ≡ true
    → (is_some (node_in n final.nodes) ≡ true) ⊎ SomeTurn (RemovesNode n) ts)
    × NodesKept final ts

-- no crash and no expiry lost a record (own)
pub record Kept (c : Configuration) (journal : List Entry) : Type 0 where
  pub losses : EachTurn LosesNothing (turns c journal)
  pub requests : RequestsKept (after c journal) (turns c journal)
  pub nodes : NodesKept (after c journal) (turns c journal)
