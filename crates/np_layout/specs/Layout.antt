-- when a tree lays a state out: the rows of each directory are those of one table of the state
-- (Nodepool developer guide: `/nodepool`; what is below `/poolsim` is own)
use Rattle.std.specs.Prelude.{◌≡◌, ◌<◌, ℕ, ◌+◌, true, List, [], ◌∷◌, ◌++◌, length, map, Option, Some, IsOk}
use Rattle.std.specs.Fmt.{decimal}
use Rattle.np_tree.specs.TreeState.{TreeState}
use Rattle.np_layout.specs.Place.{path_of}
use Rattle.np_layout.specs.declared.place.Place.{Place}
use Rattle.np_layout.specs.declared.place.Place.TheVariants.{Root, Nodepool, Requests, RequestLocks, RequestLock, Nodes, Node, NodeLock, Launchers, Zuul, Semaphores, Semaphore, Poolsim, Jobs, Roles, Sessions, SweptPairs, Tick}
use Rattle.np_layout.specs.Rows.{by_name, handle_row, janitor_role_row, job_row, launcher_role_row, launcher_row, persistent, places, request_lock_row, request_row, requester_role_row, rows_from, semaphore_row, session_row, swept_row, wait_row, first_parts, first_tree}
use Rattle.np_tree.specs.Calls.{after_begin}
use Rattle.np_layout.specs.Lower.{AllByRecursion, AllZip, Configuration, IsSound, JobId, JobRecord, NodeEntry, Registration, RequestEntry, RoleRecord, Row, SemId, SessionFacts, SessionId, SpellsNode, State, Swept, answers_from, below, counter_at, handles_of, is_in, new_tree, range_with_len, rows_at, start}

-- the children of a place
abbrev pub under : Place → TreeState → List Row
under p t = rows_at t (path_of p)

-- the counter that gives a place's next sequential child its number
abbrev pub next_under : Place → TreeState → Option ℕ
next_under p t = counter_at t (path_of p)

-- nothing is below the children of a place
abbrev pub HasLeaves : Place → TreeState → Type 0
HasLeaves p t = AllByRecursion (λ row. rows_at t (below (path_of p) row.name) ≡ []) (under p t)

-- ## directories that are always there

abbrev pub directories : List Place → List Row
directories ps = map (λ p. persistent p []) ps

pub record IsFrame (tick : ℕ) (t : TreeState) : Type 0 where
  pub root : under Root t ≡ directories (Nodepool ∷ Poolsim ∷ Zuul ∷ [])
  pub nodepool : under Nodepool t ≡ directories (Launchers ∷ Nodes ∷ Requests ∷ RequestLocks ∷ [])
  pub zuul : under Zuul t ≡ directories (Semaphores ∷ [])
  pub poolsim : under Poolsim t ≡ directories (Jobs ∷ Roles ∷ Sessions ∷ SweptPairs ∷ []) ++ persistent Tick (decimal tick) ∷ []
  pub leaf : under Tick t ≡ []

-- ## locks

-- one row of a lock: the session waits under a number that the lock has given
pub record IsWait (next : ℕ) (row : Row) (session : SessionId) : Type 0 where
  pub number : ℕ
  pub given : number < next
  pub is : row ≡ wait_row number session

-- the rows of a lock, in order, are its queue (ZooKeeper Recipes, Locks: the lowest number holds)
pub record HasQueue (lock : Place) (queue : List SessionId) (t : TreeState) : Type 0 where
  pub next : ℕ
  pub gives : next_under lock t ≡ Some next
  pub waits : AllZip (IsWait next) (under lock t) queue

-- ## requests and nodes

pub record AreRequests (entries : List RequestEntry) (next : ℕ) (t : TreeState) : Type 0 where
  pub rows : under Requests t ≡ map request_row entries
  pub leaves : HasLeaves Requests t
  pub gives : next_under Requests t ≡ Some next

pub record AreRequestLocks (entries : List RequestEntry) (t : TreeState) : Type 0 where
  pub rows : under RequestLocks t ≡ map request_lock_row entries
  pub queues : AllByRecursion (λ e. HasQueue (RequestLock e.id) e.queue t) entries

-- one row of a node: its record may be spelled as before there were tenants
pub record IsNodeRow (row : Row) (e : NodeEntry) : Type 0 where
  pub is : row ≡ persistent (Node e.id) row.bytes
  pub spells : SpellsNode e.kept row.bytes

pub record AreNodes (entries : List NodeEntry) (next : ℕ) (t : TreeState) : Type 0 where
  pub rows : AllZip IsNodeRow (under Nodes t) entries
  pub gives : next_under Nodes t ≡ Some next

-- a node's lock is below its record
pub record HasNodeLock (t : TreeState) (e : NodeEntry) : Type 0 where
  pub rows : under (Node e.id) t ≡ directories (NodeLock e.id ∷ [])
  pub queue : HasQueue (NodeLock e.id) e.queue t

abbrev pub AreNodeLocks : List NodeEntry → TreeState → Type 0
AreNodeLocks entries t = AllByRecursion (HasNodeLock t) entries

abbrev pub AreLaunchers : List Registration → TreeState → Type 0
AreLaunchers registrations t = under Launchers t ≡ by_name (map launcher_row registrations)

-- ## semaphores

pub record HasHandles (handles : List (List JobId)) (t : TreeState) (x : SemId) : Type 0 where
  pub rows : under (Semaphore x) t ≡ by_name (map (handle_row x) (handles_of x handles))
  pub leaves : HasLeaves (Semaphore x) t

pub record AreSemaphores (handles : List (List JobId)) (t : TreeState) : Type 0 where
  pub rows : under Semaphores t ≡ by_name (map semaphore_row (places handles))
  pub each : AllByRecursion (λ at. HasHandles handles t (record { 0 = at })) (places handles)

-- ## jobs, roles, sessions and swept pairs

pub record AreJobs (jobs : List JobRecord) (t : TreeState) : Type 0 where
  pub rows : under Jobs t ≡ by_name (rows_from job_row 0 jobs)
  pub leaves : HasLeaves Jobs t

pub record AreRoles (launchers janitors requesters : List RoleRecord) (t : TreeState) : Type 0 where
  pub rows : under Roles t ≡ by_name (rows_from launcher_role_row 0 launchers ++ rows_from janitor_role_row 0 janitors ++ rows_from requester_role_row 0 requesters)
  pub leaves : HasLeaves Roles t

pub record AreSessions (sessions : List SessionFacts) (t : TreeState) : Type 0 where
  pub rows : under Sessions t ≡ rows_from session_row 1 sessions
  pub leaves : HasLeaves Sessions t

pub record AreSwept (swept : List Swept) (t : TreeState) : Type 0 where
  pub rows : under SweptPairs t ≡ by_name (map swept_row swept)
  pub leaves : HasLeaves SweptPairs t

-- the tree's first session is live, and after it those of the machine that are
pub record AreLive (sessions : List SessionFacts) (t : TreeState) : Type 0 where
  pub begun : t.begun ≡ length sessions + 1
  pub first : is_in t.live 1 ≡ true
  pub each : map (is_in t.live) (range_with_len 2 (length sessions)) ≡ map (λ f. f.live) sessions

-- ## the whole

pub record LaysOut (s : State) (t : TreeState) : Type 0 where
  pub frame : IsFrame s.tick t
  pub requests : AreRequests s.requests s.next_request t
  pub request_locks : AreRequestLocks s.requests t
  pub nodes : AreNodes s.nodes s.next_node t
  pub node_locks : AreNodeLocks s.nodes t
  pub launchers : AreLaunchers s.registrations t
  pub semaphores : AreSemaphores s.handles t
  pub jobs : AreJobs s.jobs t
  pub roles : AreRoles s.launchers s.janitors s.requesters t
  pub sessions : AreSessions s.sessions t
  pub swept : AreSwept s.swept t
  pub live : AreLive s.sessions t

-- what is true of each sound site

-- the call that makes the first tree is accepted
abbrev pub FirstCallsAreAccepted : Type 0
FirstCallsAreAccepted = (c : Configuration) → IsSound c → IsOk (answers_from 0 (after_begin new_tree) 1 (first_parts c))

-- the first tree lays out the state before the first event
abbrev pub FirstTreesLayOut : Type 0
FirstTreesLayOut = (c : Configuration) → IsSound c → LaysOut (start c) (first_tree c)
