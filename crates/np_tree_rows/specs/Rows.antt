-- what the rows of a tree are seen as, and what is always true of the tree
use Rattle.std.specs.Prelude.{Option, Some, None, if◌then◌else◌, ◌<◌, ◌^◌}
use Rattle.np_tree_rows.specs.Lower.{NodeEntry, NodeId, RequestEntry, RequestId, SessionId, is_queued, Configuration, IsStored, State, TreeState, decoded}

-- the requests and the nodes in whose queues a session is

-- the request, if the session is in its queue
abbrev pub request_if_queued : SessionId → RequestEntry → Option RequestId
request_if_queued session e = if is_queued session e.queue then Some e.id else None

-- the node, if the session is in its queue
abbrev pub node_if_queued : SessionId → NodeEntry → Option NodeId
node_if_queued session e = if is_queued session e.queue then Some e.id else None

-- what the rows of a tree are seen as, and what is always true of the tree

-- a configuration and a state of its machine
pub record SiteState : Type 0 where
  pub configuration : Configuration
  pub state : State

-- the tree stores the state that is read from it, and its last session has a number of 32 bits
pub record IsReadable (c : Configuration) (t : TreeState) : Type 0 where
  pub stored : IsStored c (decoded c t) t
  pub begun : t.begun < 2 ^ 32
