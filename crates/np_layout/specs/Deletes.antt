-- what grows and what goes: each create and each delete lays out the state that the machine has after it
use Rattle.std.specs.Prelude.{◌≡◌, ◌<◌, ◌≤◌, ◌+◌, ◌^◌, ℕ, true, false, List, [], ◌∷◌, ◌++◌, codes, length, Some, None, not, filter, map, slice_get, IsOk}
use Rattle.std.specs.Fmt.{decimal}
use Rattle.np_layout.specs.Place.{IsGood, path_of}
use Rattle.np_layout.specs.declared.place.Place.{Place}
use Rattle.np_layout.specs.declared.place.Place.TheVariants.{Requests, Request, RequestLock, Nodes, NodeLock, Launcher, Handle, Session, Swept, Node, NodeWait, RequestWait}
use Rattle.np_layout.specs.Rows.{make, tree_session, wait_row}
use Rattle.np_layout.specs.Layout.{LaysOut, under}
use Rattle.np_layout.specs.Sets.{HasGoodIds}
use Rattle.np_layout.specs.Lower.{AllByRecursion, Any, Ephemeral, EphemeralSequential, Goes, HasRoomFor, IsWhole, JobId, NodeEntry, NodeId, NodeRecord, Op, PersistentSequential, PoolId, RequestEntry, RequestId, RequestRecord, Role, SemId, SessionId, SpellsNode, State, TreeState, after_begin, after_end, after_part, after_parts, below, change_at, change_session, delete_parts, ended, has_handle, insert_request, is_in, is_queued, is_session, is_swept, joined, left, next_id, node_entry, node_left, node_queue, part_answer, put_node_queue, put_request_queue, registered, registers, remove_node, remove_request, request_entry, request_left, request_queue, request_record_text, session_text, with_handle, with_pair, without_handle}

-- what grows: if a tree lays a state out, the creates of a record, a lock or a mark lay out the state in
-- which it is, and each of them is accepted

-- the parts are accepted one after another from the session, and what they leave lays out the state
pub record PartsLayOut (s : State) (t : TreeState) (w : ℕ) (parts : List Op) : Type 0 where
  pub goes : Goes t w parts (after_parts t w parts)
  pub lays : LaysOut s (after_parts t w parts)

-- a wait in the queue of a lock, by its session (ZooKeeper Recipes, Locks)
abbrev pub wait_at : Place → Op
wait_at lock = Op.Create (below (path_of lock) (codes "lock-")) [] EphemeralSequential

-- what a request's name begins with: its number follows (Nodepool developer guide: `200-0000000000`)
abbrev pub request_prefix : RequestId → List ℕ
request_prefix r = decimal r.priority ++ codes "-"

-- a request's record and its lock
abbrev pub request_parts : RequestId → List ℕ → List Op
request_parts r bytes = Op.Create (below (path_of Requests) (request_prefix r)) bytes PersistentSequential ∷ make [] (RequestLock r) ∷ []

-- a node's record, its lock, and the wait of its maker
abbrev pub node_parts : NodeId → List ℕ → List Op
node_parts n bytes = Op.CreateUnder (path_of Nodes) bytes PersistentSequential ∷ make [] (NodeLock n) ∷ wait_at (NodeLock n) ∷ []

-- ## the laws

-- a job has a handle of a semaphore, whichever session makes it
abbrev pub HandlesLayOut : Type 0
HandlesLayOut = (s : State) (t : TreeState) (w : ℕ) (x : SemId) (j : JobId) → IsWhole t.nodes → HasGoodIds s → LaysOut s t → is_in t.live w ≡ true → HasRoomFor 1 t → x.0 < length s.handles → j.0 < 2 ^ 32 → has_handle j s.handles x ≡ false →
    PartsLayOut (record s { handles = change_at x.0 (with_handle j) s.handles }) t w (make [] (Handle x j) ∷ [])

-- a pair is swept, whichever session marks it
abbrev pub SweptPairsLayOut : Type 0
SweptPairsLayOut = (s : State) (t : TreeState) (w : ℕ) (n : NodeId) (server : ℕ) → IsWhole t.nodes → HasGoodIds s → LaysOut s t → is_in t.live w ≡ true → HasRoomFor 1 t → IsGood (Swept n server) → is_swept n server s.swept ≡ false →
    PartsLayOut (record s { swept = with_pair n server s.swept }) t w (make [] (Swept n server) ∷ [])

-- a launcher registers for a pool that nobody is registered for
abbrev pub RegistrationsLayOut : Type 0
RegistrationsLayOut = (s : State) (t : TreeState) (session : SessionId) (p : PoolId) → IsWhole t.nodes → HasGoodIds s → LaysOut s t → is_in t.live (tree_session session) ≡ true → HasRoomFor 1 t → IsGood (Launcher p) → registered p s.registrations ≡ None →
    PartsLayOut (registers s session p) t (tree_session session) (Op.Create (path_of (Launcher p)) [] Ephemeral ∷ [])

-- a session waits at a request's lock, and was not in its queue
abbrev pub RequestWaitsLayOut : Type 0
RequestWaitsLayOut = (s : State) (t : TreeState) (session : SessionId) (r : RequestId) (e : RequestEntry) → IsWhole t.nodes → HasGoodIds s → LaysOut s t → is_in t.live (tree_session session) ≡ true → HasRoomFor 1 t →
    request_entry r s.requests ≡ Some e → is_queued session e.queue ≡ false →
    PartsLayOut (record s { requests = put_request_queue r (joined session (request_queue r s.requests)) s.requests }) t (tree_session session) (wait_at (RequestLock r) ∷ [])

-- a session waits at a node's lock, and was not in its queue
abbrev pub NodeWaitsLayOut : Type 0
NodeWaitsLayOut = (s : State) (t : TreeState) (session : SessionId) (n : NodeId) (e : NodeEntry) → IsWhole t.nodes → HasGoodIds s → LaysOut s t → is_in t.live (tree_session session) ≡ true → HasRoomFor 1 t →
    node_entry n s.nodes ≡ Some e → is_queued session e.queue ≡ false →
    PartsLayOut (record s { nodes = put_node_queue n (joined session (node_queue n s.nodes)) s.nodes }) t (tree_session session) (wait_at (NodeLock n) ∷ [])

-- a session begins, and the tree's first session makes its record
abbrev pub SessionsLayOut : Type 0
SessionsLayOut = (s : State) (t : TreeState) (role : Role) → IsWhole t.nodes → HasGoodIds s → LaysOut s t → HasRoomFor 1 t → length s.sessions + 1 < 2 ^ 32 → length (session_text (record { mute = false; role = role })) ≤ 65_536 →
    PartsLayOut (record s { sessions = s.sessions ++ record { role = role; live = true; mute = false } ∷ [] }) (after_begin t) 1 (make (session_text (record { mute = false; role = role })) (Session (record { 0 = length s.sessions + 1 })) ∷ [])

-- a request is made under the next number, whichever session makes it: its lock's queue is empty
abbrev pub GrownRequestsLayOut : Type 0
GrownRequestsLayOut = (s : State) (t : TreeState) (w priority : ℕ) (kept : RequestRecord) → IsWhole t.nodes → HasGoodIds s → LaysOut s t → is_in t.live w ≡ true → HasRoomFor 2 t →
    IsGood (Request (next_id priority s)) → length (request_record_text kept) ≤ 65_536 → request_entry (next_id priority s) s.requests ≡ None →
    PartsLayOut (record s { requests = insert_request (record { id = next_id priority s; kept = kept; queue = [] }) s.requests; next_request = s.next_request + 1 }) t w (request_parts (next_id priority s) (request_record_text kept))

-- a node is made under the next number, whichever way the bytes spell its record: its maker holds it
abbrev pub GrownNodesLayOut : Type 0
GrownNodesLayOut = (s : State) (t : TreeState) (session : SessionId) (kept : NodeRecord) (bytes : List ℕ) → IsWhole t.nodes → HasGoodIds s → LaysOut s t → is_in t.live (tree_session session) ≡ true → HasRoomFor 3 t →
    SpellsNode kept bytes → length bytes ≤ 65_536 → AllByRecursion (λ e. e.id.0 < s.next_node) s.nodes →
    PartsLayOut (record s { nodes = s.nodes ++ record { id = record { 0 = s.next_node }; kept = kept; queue = session ∷ [] } ∷ []; next_node = s.next_node + 1 }) t (tree_session session) (node_parts (record { 0 = s.next_node }) bytes)

-- what goes: if a tree lays a state out, the delete of the node of what goes lays out the state
-- without it, and the delete is accepted

-- the node of a place is deleted, whatever its version
abbrev pub delete : Place → Op
delete p = Op.Delete (path_of p) Any

-- the tree lays the state out, and the session may make one part more
pub record MayDelete (s : State) (t : TreeState) (w : ℕ) : Type 0 where
  pub whole : IsWhole t.nodes
  pub good : HasGoodIds s
  pub lays : LaysOut s t
  pub live : is_in t.live w ≡ true
  pub room : HasRoomFor 1 t

-- the delete is accepted, and what it leaves lays out the state
pub record DeleteLaysOut (s : State) (t : TreeState) (w : ℕ) (p : Place) : Type 0 where
  pub goes : IsOk (part_answer t w (delete p))
  pub lays : LaysOut s (after_part t w (delete p))

-- ## the laws

-- a job gives its handle of a semaphore back
abbrev pub HandlesGoLayOut : Type 0
HandlesGoLayOut = (s : State) (t : TreeState) (w : ℕ) (x : SemId) (j : JobId) → MayDelete s t w → has_handle j s.handles x ≡ true →
    DeleteLaysOut (record s { handles = change_at x.0 (without_handle j) s.handles }) t w (Handle x j)

-- ## waits

-- each session is in the queue once
abbrev pub AreDistinct : List SessionId → Type 0
AreDistinct [] = Unit {0}
AreDistinct (session ∷ queue) = (is_queued session queue ≡ false) × AreDistinct queue

-- a session leaves a request's queue: its wait is one of the lock's
abbrev pub RequestWaitsGoLayOut : Type 0
RequestWaitsGoLayOut = (s : State) (t : TreeState) (w : ℕ) (r : RequestId) (e : RequestEntry) (session : SessionId) (number at : ℕ) → MayDelete s t w → IsGood (RequestWait r number) → request_entry r s.requests ≡ Some e → AreDistinct (request_queue r s.requests) → slice_get (under (RequestLock r) t) at ≡ Some (wait_row number session) →
    DeleteLaysOut (record s { requests = put_request_queue r (left session (request_queue r s.requests)) s.requests }) t w (RequestWait r number)

-- a session leaves a node's queue
abbrev pub NodeWaitsGoLayOut : Type 0
NodeWaitsGoLayOut = (s : State) (t : TreeState) (w : ℕ) (n : NodeId) (e : NodeEntry) (session : SessionId) (number at : ℕ) → MayDelete s t w → IsGood (NodeWait n number) → node_entry n s.nodes ≡ Some e → AreDistinct (node_queue n s.nodes) → slice_get (under (NodeLock n) t) at ≡ Some (wait_row number session) →
    DeleteLaysOut (record s { nodes = put_node_queue n (left session (node_queue n s.nodes)) s.nodes }) t w (NodeWait n number)

-- ## sessions

-- a session ends and leaves its registration and every queue
abbrev pub without_session : SessionId → State → State
without_session session s = record s {
  sessions = change_session session ended s.sessions;
  registrations = filter (λ g. not (is_session g.session session)) s.registrations;
  requests = map (request_left session) s.requests;
  nodes = map (node_left session) s.nodes;
}

-- the end of the tree's session of that number; sessions count from one
abbrev pub SessionEndsLayOut : Type 0
SessionEndsLayOut = (s : State) (t : TreeState) (session : SessionId) → IsWhole t.nodes → HasGoodIds s → LaysOut s t → 1 ≤ session.0 → LaysOut (without_session session s) (after_end t (tree_session session))

-- ## requests and nodes

-- the deletes of a request's waits, of its lock and of its record
abbrev pub request_deletes : RequestId → TreeState → List Op
request_deletes r t = delete_parts (path_of (RequestLock r)) (under (RequestLock r) t) ++ delete (RequestLock r) ∷ delete (Request r) ∷ []

-- a request goes, whoever waits for it
abbrev pub RequestsGoLayOut : Type 0
RequestsGoLayOut = (s : State) (t : TreeState) (w : ℕ) (r : RequestId) (e : RequestEntry) → MayDelete s t w → request_entry r s.requests ≡ Some e →
    PartsLayOut (record s { requests = remove_request r s.requests }) t w (request_deletes r t)

-- the deletes of a node's waits, of its lock and of its record
abbrev pub node_deletes : NodeId → TreeState → List Op
node_deletes n t = delete_parts (path_of (NodeLock n)) (under (NodeLock n) t) ++ delete (NodeLock n) ∷ delete (Node n) ∷ []

-- a node goes, whoever waits for it
abbrev pub NodesGoLayOut : Type 0
NodesGoLayOut = (s : State) (t : TreeState) (w : ℕ) (n : NodeId) (e : NodeEntry) → MayDelete s t w → node_entry n s.nodes ≡ Some e →
    PartsLayOut (record s { nodes = remove_node n s.nodes }) t w (node_deletes n t)
