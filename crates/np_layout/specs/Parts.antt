-- what a tree is asked to do for the changes of an event: the parts of one call, in the order of the
-- changes, and the session that makes it
use Rattle.std.specs.Prelude.{ℕ, ◌+◌, Bool, true, false, ◌==◌, if◌then◌else◌, List, [], ◌∷◌, ◌++◌, find, length, slice_get, Option, Some, None, ◌≡◌}
use Rattle.std.specs.Fmt.{decimal}
use Rattle.np_layout.specs.Prelude.{Any, Ephemeral, Op, TreeState, after_begin, after_end, after_multi, below, delete, is_owner, job_text, make, node_deletes, node_parts, node_text, path_of, place_of_role, request_deletes, request_parts, request_record_text, role_text, session_text, set, tree_session, under, wait_at, Goes, HasGoodIds, HasRoomFor, IsWhole, LaysOut, after_parts, is_in}
use Rattle.np_layout.specs.declared.place.Place.{Place}
use Rattle.np_layout.specs.declared.place.Place.TheVariants.{Request, RequestLock, Node, NodeLock, Launcher, Handle, Job, Session, Swept, Tick}
use Rattle.np_layout.specs.Lower.{Changes, Configuration, Deed, Growth, HandlesChange, JobId, JobRecord, JobsChange, LauncherOf, Maker, NodeEntry, NodeId, NodesChange, RequestEntry, RequestId, RequestsChange, Role, RoleRecord, SemId, SessionId, SessionsChange, State, TenantId, allocated, change_at, change_first, edited, freed_from, has_handle, in_use, is_queued, is_swept, new_record, next_id, node_entry, node_queue, one_more_act, one_more_start, option_map_or, request_in, request_queue, role_in, semaphores_of, session_of, struck_unless, with_handle, with_mark, without_handle}

-- the maker's session makes the call; the tree's first session makes what no party makes (own)
abbrev pub writer : Option Maker → ℕ
writer None = 1
writer (Some maker) = tree_session maker.session

-- the parts that the maker's session makes; none if there is no maker
abbrev pub by_session : Option Maker → (SessionId → List Op) → List Op
by_session maker parts = option_map_or (λ m. parts m.session) maker []

-- the parts for what is there; none if it is not
abbrev pub where_there : {A : Type 0} → Option A → (A → List Op) → List Op
where_there there parts = option_map_or parts there []

-- ## what grows

-- a wait at a lock, by a session that does not wait there yet (ZooKeeper Recipes, Locks)
abbrev pub join_parts : Place → List SessionId → SessionId → List Op
join_parts lock queue session = if is_queued session queue then [] else wait_at lock ∷ []

-- a handle of each semaphore of which the job has none
abbrev pub acquire_parts : JobId → List SemId → List (List JobId) → List Op
acquire_parts j [] handles = []
acquire_parts j (x ∷ semaphores) handles = (if has_handle j handles x then [] else make [] (Handle x j) ∷ []) ++ acquire_parts j semaphores (change_at x.0 (with_handle j) handles)

-- the node's record with its request and tenant, and then a wait at its lock
abbrev pub allocate_parts : RequestId → Option TenantId → SessionId → NodeEntry → List Op
allocate_parts r tenant session e = set (node_text (allocated r tenant session e).kept) (Node e.id) ∷ join_parts (NodeLock e.id) e.queue session

abbrev pub grown_parts : Configuration → Option Maker → Growth → State → List Op
grown_parts c maker Growth.Nothing s = []
grown_parts c maker (Growth.Session role) s = make (session_text (record { mute = false; role = role })) (Session (record { 0 = length s.sessions + 1 })) ∷ []
grown_parts c maker (Growth.Registration p) s = by_session maker (λ session. Op.Create (path_of (Launcher p)) [] Ephemeral ∷ [])
grown_parts c maker (Growth.Request priority asked) s = request_parts (next_id priority s) (request_record_text (new_record asked))
grown_parts c maker (Growth.Node kept) s = node_parts (record { 0 = s.next_node }) (node_text kept)
grown_parts c maker (Growth.JoinRequest r) s = by_session maker (join_parts (RequestLock r) (request_queue r s.requests))
grown_parts c maker (Growth.JoinNode n) s = by_session maker (join_parts (NodeLock n) (node_queue n s.nodes))
grown_parts c maker (Growth.Allocate n r tenant) s = by_session maker (λ session. where_there (node_entry n s.nodes) (allocate_parts r tenant session))
grown_parts c maker (Growth.Handles j) s = acquire_parts j (semaphores_of c j) s.handles
grown_parts c maker (Growth.Swept n x) s = if is_swept n x s.swept then [] else make [] (Swept n x) ∷ []

-- ## what happens to requests and nodes

-- the session's wait at a lock goes, if it has one
abbrev pub leave_parts : Place → TreeState → SessionId → List Op
leave_parts lock t session = where_there (find (λ row. is_owner (tree_session session) row.owner) (under lock t)) (λ row. Op.Delete (below (path_of lock) row.name) Any ∷ [])

abbrev pub requests_parts : Option Maker → RequestsChange → List RequestEntry → TreeState → List Op
requests_parts maker RequestsChange.Same rows t = []
requests_parts maker (RequestsChange.Edit r change) rows t = where_there (request_in r rows) (λ kept. set (request_record_text (edited change kept)) (Request r) ∷ [])
requests_parts maker (RequestsChange.Remove r) rows t = where_there (request_in r rows) (λ kept. request_deletes r t)
requests_parts maker (RequestsChange.Leave r) rows t = by_session maker (λ session. where_there (request_in r rows) (λ kept. leave_parts (RequestLock r) t session))

-- the nodes of a request
abbrev pub nodes_of : RequestId → List RequestEntry → List NodeId
nodes_of r rows = option_map_or (λ kept. kept.nodes) (request_in r rows) []

-- a node's record, changed
abbrev pub change_parts : (NodeEntry → NodeEntry) → NodeEntry → List Op
change_parts change e = set (node_text (change e).kept) (Node e.id) ∷ []

-- each of the nodes that is there, changed
abbrev pub each_changed : (NodeEntry → NodeEntry) → List NodeId → List NodeEntry → List Op
each_changed change [] rows = []
each_changed change (n ∷ numbers) rows = where_there (node_entry n rows) (change_parts change) ++ each_changed change numbers (change_first (λ e. e.id.0 == n.0) change rows)

abbrev pub nodes_parts : Option Maker → ℕ → List RequestEntry → NodesChange → List NodeEntry → TreeState → List Op
nodes_parts maker tick requests NodesChange.Same rows t = []
nodes_parts maker tick requests (NodesChange.Put n kept) rows t = where_there (node_entry n rows) (λ e. set (node_text kept) (Node n) ∷ [])
nodes_parts maker tick requests (NodesChange.Remove n) rows t = where_there (node_entry n rows) (λ e. node_deletes n t)
nodes_parts maker tick requests (NodesChange.Leave n) rows t = by_session maker (λ session. where_there (node_entry n rows) (λ e. leave_parts (NodeLock n) t session))
nodes_parts maker tick requests (NodesChange.FreeAll r) rows t = each_changed (freed_from r) (nodes_of r requests) rows
nodes_parts maker tick requests (NodesChange.TakeOver numbers) rows t = each_changed (in_use tick) numbers rows

-- ## what happens to jobs, handles, roles, sessions and the tick

abbrev pub jobs_parts : JobsChange → List JobRecord → List Op
jobs_parts JobsChange.Same rows = []
jobs_parts (JobsChange.Put j kept) rows = where_there (slice_get rows j.0) (λ old. set (job_text kept) (Job j) ∷ [])
jobs_parts (JobsChange.EndNode j n) rows = where_there (slice_get rows j.0) (λ old. set (job_text (with_mark n old)) (Job j) ∷ [])

-- the job's handle of each semaphore goes
abbrev pub release_parts : JobId → List SemId → List (List JobId) → List Op
release_parts j [] handles = []
release_parts j (x ∷ semaphores) handles = (if has_handle j handles x then delete (Handle x j) ∷ [] else []) ++ release_parts j semaphores (change_at x.0 (without_handle j) handles)

abbrev pub handles_parts : Configuration → HandlesChange → List (List JobId) → List Op
handles_parts c HandlesChange.Same rows = []
handles_parts c (HandlesChange.Release j) rows = release_parts j (semaphores_of c j) rows

-- a role's record, changed
abbrev pub role_parts : (RoleRecord → RoleRecord) → Role → State → List Op
role_parts change role s = where_there (place_of_role role) (λ p. where_there (role_in role s) (λ old. set (role_text (change old)) p ∷ []))

abbrev pub deed_parts : Option Maker → Option Deed → State → List Op
deed_parts maker None s = []
deed_parts maker (Some Deed.Acts) s = where_there maker (λ m. role_parts one_more_act m.role s)
deed_parts maker (Some (Deed.StartsAndActs p)) s = role_parts (λ role. one_more_act (one_more_start role)) (LauncherOf p) s
deed_parts maker (Some (Deed.Strikes role counted)) s = role_parts (struck_unless counted) role s

abbrev pub session_parts : SessionsChange → State → List Op
session_parts SessionsChange.Same s = []
session_parts (SessionsChange.Mute session) s = where_there (session_of session s) (λ facts. set (session_text (record { mute = true; role = facts.role })) (Session session) ∷ [])
session_parts (SessionsChange.End session) s = []

abbrev pub tick_parts : Bool → ℕ → List Op
tick_parts ticks tick = if ticks then set (decimal (tick + 1)) Tick ∷ [] else []

-- ## all of it

-- the parts for what may not fail
abbrev pub settled_parts : Configuration → Changes → State → TreeState → List Op
settled_parts c ch s t =
    requests_parts ch.maker ch.requests s.requests t
    ++ nodes_parts ch.maker s.tick s.requests ch.nodes s.nodes t
    ++ jobs_parts ch.jobs s.jobs
    ++ handles_parts c ch.handles s.handles
    ++ deed_parts ch.maker ch.deed s
    ++ session_parts ch.sessions s
    ++ tick_parts ch.ticks s.tick

-- the parts of the call, read from the state and the tree before it
abbrev pub parts_of : Configuration → Changes → State → TreeState → List Op
parts_of c ch s t = grown_parts c ch.maker ch.grows s ++ settled_parts c ch s t

-- a session that is opened begins after the call
abbrev pub with_begin : Growth → TreeState → TreeState
with_begin (Growth.Session role) t = after_begin t
with_begin other t = t

-- a session that expires ends after it
abbrev pub with_end : SessionsChange → TreeState → TreeState
with_end (SessionsChange.End session) t = after_end t (tree_session session)
with_end other t = t

-- the tree after the changes
abbrev pub enacted : Configuration → Changes → State → TreeState → TreeState
enacted c ch s t = with_end ch.sessions (with_begin ch.grows (after_multi t (writer ch.maker) (parts_of c ch s t)))

-- parts that go from a tree of one state to a tree of another

-- the tree lays the state out, and the session can make so many more creates and sets
pub record Stands (s : State) (t : TreeState) (w more : ℕ) : Type 0 where
  pub whole : IsWhole t.nodes
  pub good : HasGoodIds s
  pub lays : LaysOut s t
  pub live : is_in t.live w ≡ true
  pub room : HasRoomFor more t

-- the parts are accepted one after another, and what they leave lays out the later state
pub record Enacts (t : TreeState) (w : ℕ) (parts : List Op) (later : State) (more : ℕ) : Type 0 where
  pub goes : Goes t w parts (after_parts t w parts)
  pub leaves : Stands later (after_parts t w parts) w more
