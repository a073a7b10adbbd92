-- what the vectors need of a state to grow and to settle (only this code needs it)
use Rattle.std.specs.Prelude.{◌≡◌, ◌<◌, ◌≤◌, List, Bool, true, length, nat_lt, if◌then◌else◌, Some, ℕ, ◌^◌, [], ◌||◌, Option, map}
use Rattle.np_tables.specs.Lower.{AllByRecursion, Changes, Configuration, Growth, JobId, Maker, NodeId, RequestEdit, RequestEntry, RequestId, RequestRecord, RequestsChange, Rises, RoleFits, Roomy, SessionId, SessionsChange, State, by_maker, edited, grown, is_among, is_id_before, is_node_before, joined, most, node_queue, nodes_changed, nodes_left, queued_nodes, queued_requests, request_entry, request_queue, requests_changed, requests_left, settled}

-- ## growing

-- the next request has a number of its own
pub record TakesRequest (s : State) : Type 0 where
  pub number : s.next_request ≤ most
  pub fresh : AllByRecursion (λ e. e.id.seq < s.next_request) s.requests

-- the next node has a number of its own, past all others
pub record TakesNode (s : State) : Type 0 where
  pub number : s.next_node ≤ most
  pub fresh : AllByRecursion (λ e. e.id.0 < s.next_node) s.nodes

abbrev pub CanGrow : Growth → State → Type 0
CanGrow Growth.Nothing s = Unit {0}
CanGrow (Growth.Session role) s = Unit {0}
CanGrow (Growth.Registration p) s = Unit {0}
CanGrow (Growth.Request priority asked) s = TakesRequest s
CanGrow (Growth.Node kept) s = TakesNode s
CanGrow (Growth.JoinRequest r) s = Unit {0}
CanGrow (Growth.JoinNode n) s = Unit {0}
CanGrow (Growth.Allocate n r tenant) s = Unit {0}
CanGrow (Growth.Handles j) s = Unit {0}
CanGrow (Growth.Swept n x) s = Unit {0}

-- ## settling

-- the record's rows have room for the edit: for 32 nodes, and for 64 declines
abbrev pub has_room : RequestEdit → RequestRecord → Bool
has_room (RequestEdit.Serve p) k = true
has_room (RequestEdit.AddNode n) k = nat_lt (length k.nodes) 32
has_room (RequestEdit.Decline p why failed) k = nat_lt (length k.declined) 64
has_room RequestEdit.Fulfil k = true
has_room RequestEdit.GiveBack k = true
has_room RequestEdit.Fail k = true
has_room (RequestEdit.Revise relative) k = true

-- edited if there is room
abbrev pub edited_in_room : RequestEdit → RequestRecord → RequestRecord
edited_in_room change k = if has_room change k then edited change k else k

abbrev pub TakesEdit : RequestsChange → List RequestEntry → Type 0
TakesEdit RequestsChange.Same rows = Unit {0}
TakesEdit (RequestsChange.Edit r change) rows = (e : RequestEntry) → request_entry r rows ≡ Some e → has_room change e.kept ≡ true
TakesEdit (RequestsChange.Remove r) rows = Unit {0}
TakesEdit (RequestsChange.Leave r) rows = Unit {0}

-- no count of a role is at its end
pub record RolesFit (s : State) : Type 0 where
  pub launchers : AllByRecursion RoleFits s.launchers
  pub janitors : AllByRecursion RoleFits s.janitors
  pub requesters : AllByRecursion RoleFits s.requesters

pub record CanSettle (ch : Changes) (s : State) : Type 0 where
  pub tick : s.tick ≤ most
  pub roles : RolesFit s
  pub edit : TakesEdit ch.requests s.requests

-- what the tables keep, and what bounds their lists

-- how many more rows each table takes without memory (own)
pub record Room : Type 0 where
  pub sessions : ℕ
  pub registrations : ℕ
  pub requests : ℕ
  pub nodes : ℕ
  -- for each semaphore, how many more jobs
  pub handles : List ℕ
  pub swept : ℕ

-- a state in vectors, and what room these have
pub record Stored : Type 0 where
  pub state : State
  pub room : Room

-- a configuration, a state of its machine, and what room there is
pub record Kept : Type 0 where
  pub configuration : Configuration
  pub state : State
  pub room : Room

-- the length of each list is a number of 32 bits
pub record IsCountable (s : State) : Type 0 where
  pub sessions : length s.sessions < 2 ^ 32
  pub registrations : length s.registrations < 2 ^ 32
  pub requests : length s.requests < 2 ^ 32
  pub nodes : length s.nodes < 2 ^ 32
  pub jobs : length s.jobs < 2 ^ 32
  pub handles : AllByRecursion (λ jobs. length jobs < 2 ^ 32) s.handles

-- a session that ends leaves its queues last (only this code needs it)

-- settled, but a session that ends is still in its queues
abbrev pub settled_in_queues : Configuration → Changes → State → State
settled_in_queues c ch s = record (settled c ch s) {
  requests = requests_changed ch.maker ch.requests s.requests;
  nodes = nodes_changed ch.maker s.tick ch.nodes s.nodes;
}

-- all of the changes, but a session that ends is still in its queues
abbrev pub changed_in_queues : Configuration → Changes → State → State
changed_in_queues c ch s = settled_in_queues c ch (grown c ch.maker ch.grows s)

-- a session that ends leaves its queues
abbrev pub queues_left : SessionsChange → State → State
queues_left change s = record s { requests = requests_left change s.requests; nodes = nodes_left change s.nodes }

-- the session is in the queues of these requests and nodes and no others, and the rows rise by their ids
pub record CanLeave (session : SessionId) (s : State) (requests : List RequestId) (nodes : List NodeId) : Type 0 where
  pub at_requests : requests ≡ queued_requests session s
  pub at_nodes : nodes ≡ queued_nodes session s
  pub requests_rise : Rises (λ a b. is_id_before a.id b.id) s.requests
  pub nodes_rise : Rises (λ a b. is_node_before a.id b.id) s.nodes

abbrev pub CanEnd : SessionsChange → State → List RequestId → List NodeId → Type 0
CanEnd SessionsChange.Same s requests nodes = Unit {0}
CanEnd (SessionsChange.Mute session) s requests nodes = Unit {0}
CanEnd (SessionsChange.End session) s requests nodes = CanLeave session s requests nodes

-- in whose queues a session is that ends

-- if the changes end a session, these are the requests and the nodes in whose queues it is
pub record AreQueuesOf (s : State) (ch : Changes) (requests : List RequestId) (nodes : List NodeId) : Type 0 where
  pub at_requests : (session : SessionId) → ch.sessions ≡ SessionsChange.End session → requests ≡ queued_requests session s
  pub at_nodes : (session : SessionId) → ch.sessions ≡ SessionsChange.End session → nodes ≡ queued_nodes session s

-- what room an event needs in the tables

-- the table that grows takes one more row; if handles are taken, that of each semaphore
abbrev pub IsRoomFor : Growth → Room → Type 0
IsRoomFor Growth.Nothing room = Unit {0}
IsRoomFor (Growth.Session role) room = 0 < room.sessions
IsRoomFor (Growth.Registration p) room = 0 < room.registrations
IsRoomFor (Growth.Request priority asked) room = 0 < room.requests
IsRoomFor (Growth.Node kept) room = 0 < room.nodes
IsRoomFor (Growth.JoinRequest r) room = Unit {0}
IsRoomFor (Growth.JoinNode n) room = Unit {0}
IsRoomFor (Growth.Allocate n r tenant) room = Unit {0}
IsRoomFor (Growth.Handles j) room = AllByRecursion (λ more. 0 < more) room.handles
IsRoomFor (Growth.Swept n x) room = 0 < room.swept

-- the queue that the maker joins, with the maker at its end; none if no queue grows
abbrev pub queue_after : Option Maker → Growth → State → List SessionId
queue_after maker Growth.Nothing s = []
queue_after maker (Growth.Session role) s = []
queue_after maker (Growth.Registration p) s = []
queue_after maker (Growth.Request priority asked) s = []
queue_after maker (Growth.Node kept) s = by_maker maker joined []
queue_after maker (Growth.JoinRequest r) s = by_maker maker joined (request_queue r s.requests)
queue_after maker (Growth.JoinNode n) s = by_maker maker joined (node_queue n s.nodes)
queue_after maker (Growth.Allocate n r tenant) s = by_maker maker joined (node_queue n s.nodes)
queue_after maker (Growth.Handles j) s = []
queue_after maker (Growth.Swept n x) s = []

-- there is room for what grows, and the queue that was made beforehand is the one that it needs
pub record HasRoomFor (ch : Changes) (ready : List SessionId) (kept : Kept) : Type 0 where
  pub room : IsRoomFor ch.grows kept.room
  pub queue : ready ≡ queue_after ch.maker ch.grows kept.state

-- ## the handles of the semaphores

-- the rows of each table
abbrev pub rows_of : List (Roomy JobId) → List (List JobId)
rows_of tables = map (λ t. t.rows) tables

-- how many more rows each table takes
abbrev pub rooms_of : List (Roomy JobId) → List ℕ
rooms_of tables = map (λ t. t.room) tables

-- the job has a handle of the semaphore, or its table takes one more
abbrev pub has_place : JobId → Roomy JobId → Bool
has_place j jobs = is_among j jobs.rows || nat_lt 0 jobs.room
