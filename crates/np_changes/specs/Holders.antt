-- who holds nodes and requests, by a journal and in the state that it leads to
use Rattle.std.specs.Prelude.{◌≡◌, ◌<◌, true, false, List, is_some}
use Rattle.np_changes.specs.Prelude.{Configuration, Entry, NodeId, RequestId, SessionId, State, is_session_of, node_holder, request_holder, request_in}
use Rattle.np_changes.specs.Lower.{IsLiveHolder, locks_from}

-- a session that holds a node by the journal is the first of its queue; a request that a session
-- has locked by the journal was made before, and if it exists the session is the first of its queue
pub record HoldersHold (c : Configuration) (journal : List Entry) (s : State) : Type 0 where
  pub of_node : (session : SessionId) (n : NodeId) → IsLiveHolder c journal session n → is_session_of session (node_holder n s.nodes) ≡ true
  pub of_request : (session : SessionId) (r : RequestId) → locks_from session r false journal ≡ true
      → (r.seq < s.next_request) × (is_some (request_in r s.requests) ≡ true → is_session_of session (request_holder r s.requests) ≡ true)
