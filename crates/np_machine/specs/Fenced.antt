-- who may change a node
use Rattle.std.specs.Prelude.{◌≡◌, true, List, Option, Some, None, ◌⊎◌}
use Rattle.np_machine.specs.Tables.{is_session_of, is_request, request_holder, node_in, node_holder, freed}
use Rattle.np_machine.specs.Step.{maker_of}
use Rattle.np_machine.specs.Turns.{Turn, turns, EachTurn}
use Rattle.np_machine.specs.Lower.{Configuration, Entry, Event, NodeId, NodeRecord, RequestId, SessionId}

-- the turn's maker holds the node before it or after it
pub record ByHolder (t : Turn) (n : NodeId) : Type 0 where
  pub session : SessionId
  pub makes : maker_of t.entry.event ≡ Some session
  pub holds : (is_session_of session (node_holder n t.before.nodes) ≡ true) ⊎ (is_session_of session (node_holder n t.later.nodes) ≡ true)

-- the request that the event gives back, by a decline or a reset
abbrev pub given_back_by : Event → Option RequestId
given_back_by (Event.Decline session r why) = Some r
given_back_by (Event.Reset session r) = Some r
given_back_by _ = None

-- the holder of the request's lock took the node's allocation to it and its tenant away, and changed nothing else of the node
pub record TakenBack (t : Turn) (n : NodeId) (node : NodeRecord) (r : RequestId) : Type 0 where
  pub session : SessionId
  pub makes : maker_of t.entry.event ≡ Some session
  pub holds : is_session_of session (request_holder r t.before.requests) ≡ true
  pub allocated : is_request r node.allocated_to ≡ true
  pub after : node_in n t.later.nodes ≡ Some (freed node)

-- who may change the node: its holder, but in a decline or a reset the holder of the request
abbrev pub IsRightful : Turn → NodeId → NodeRecord → Option RequestId → Type 0
IsRightful t n node None = ByHolder t n
IsRightful t n node (Some r) = TakenBack t n node r

-- a node that was there before the turn is as it was, or was changed by someone who may change it
abbrev pub IsFenced : Turn → Type 0
IsFenced t = (n : NodeId) (node : NodeRecord) → node_in n t.before.nodes ≡ Some node
    → (node_in n t.later.nodes ≡ Some node) ⊎ IsRightful t n node (given_back_by t.entry.event)

-- each change of a node is its holder's, except for allocations that are given back (own)
abbrev pub Fenced : Configuration → List Entry → Type 0
Fenced c journal = EachTurn IsFenced (turns c journal)
