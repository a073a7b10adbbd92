-- what stays of a layout, and of each table, if only rows of some directories change
use Rattle.np_layout.proofs.Prelude.{AllByRecursion, AllZip, AreJobs, AreLaunchers, AreLive, AreNodeLocks, AreNodes, AreRequestLocks, AreRequests, AreRoles, AreSemaphores, AreSessions, AreSwept, Bool, HasGoodIds, HasHandles, HasLeaves, HasNodeLock, HasQueue, IsFrame, IsGood, IsNodeRow, IsWait, JobId, JobRecord, Jobs, Launchers, LaysOut, List, Node, NodeEntry, NodeLock, Nodepool, Nodes, NonePass, Place, Poolsim, Registration, Request, RequestEntry, RequestLock, RequestLocks, Requests, RoleRecord, Roles, Root, Row, SemId, Semaphore, Semaphores, SessionFacts, SessionId, Sessions, Some, State, Swept, SweptPairs, Tick, TreeState, Zuul, [], all-weaker, ap, arith, decimal, directories, eq-eqb, eqb, false, is_in, length, list_any, map, next_under, none-list_any, persistent, range_with_len, refl, subst, suc, sym, true, under, zero, ℕ, ◌++◌, ◌+◌, ◌^◌, ◌∙◌, ◌∷◌, ◌≡◌, ◌≤◌}

-- # what stays of a layout if only rows of some directories change

-- a number for each kind of place with something below it; zero for the others
abbrev pub directory : Place → ℕ
directory Root = 1
directory Nodepool = 2
directory Requests = 3
directory RequestLocks = 4
directory (RequestLock id) = 5
directory Nodes = 6
directory (Node n) = 7
directory (NodeLock n) = 8
directory Launchers = 9
directory Zuul = 10
directory Semaphores = 11
directory (Semaphore x) = 12
directory Poolsim = 13
directory Jobs = 14
directory Roles = 15
directory Sessions = 16
directory SweptPairs = 17
directory other = 0

-- none of the places is of its kind
abbrev pub IsBeside : Place → List Place → Type 0
IsBeside p dirs = list_any (λ dir. eqb (directory p) (directory dir)) dirs ≡ false

-- it is none of the places
abbrev pub IsApart : Place → List Place → Type 0
IsApart p dirs = AllByRecursion (λ dir. p ≡ dir → ⊥) dirs

-- a place of another kind is another place
pub beside-apart : (p : Place) (dirs : List Place) → IsBeside p dirs → IsApart p dirs
beside-apart p dirs beside =
    all-weaker (λ (dir : Place). eqb (directory p) (directory dir) ≡ false) (λ (dir : Place). p ≡ dir → ⊥)
    (λ dir other same. let itself = eq-eqb (directory p) (directory p) refl in let both = ap (λ (q : Place). eqb (directory p) (directory q)) same in absurd cc)
    dirs (none-list_any (λ (dir : Place). eqb (directory p) (directory dir)) dirs beside)

-- places with children that have nothing below them
abbrev pub has_leaves : Place → Bool
has_leaves Requests = true
has_leaves (Semaphore x) = true
has_leaves Jobs = true
has_leaves Roles = true
has_leaves Sessions = true
has_leaves SweptPairs = true
has_leaves other = false

-- places whose counters are of a layout
abbrev pub has_counter : Place → Bool
has_counter Requests = true
has_counter (RequestLock id) = true
has_counter Nodes = true
has_counter (NodeLock n) = true
has_counter other = false

-- other directories with their counters are as they were
pub record Stays (dirs : List Place) (t u : TreeState) : Type 0 where
  pub rows : (other : Place) → IsGood other → IsApart other dirs → under other u ≡ under other t
  pub leaves : (other : Place) → IsGood other → has_leaves other ≡ true → IsApart other dirs → HasLeaves other t → HasLeaves other u
  pub counters : (other : Place) (next : ℕ) → IsGood other → has_counter other ≡ true → IsApart other dirs → next_under other t ≡ Some next → next_under other u ≡ Some next

-- nothing changes
pub stays-same : (dirs : List Place) (t : TreeState) → Stays dirs t t
stays-same dirs t = record { rows = λ other good apart. refl; leaves = λ other good has apart leaves. leaves; counters = λ other next good has apart is. is }

-- what stays in each of two steps beside the same places
pub stays-both : (dirs : List Place) (t v u : TreeState) → Stays dirs t v → Stays dirs v u → Stays dirs t u
stays-both dirs t v u first last = record {
  rows = λ other good apart. last.rows other good apart ∙ first.rows other good apart;
  leaves = λ other good has apart leaves. last.leaves other good has apart (first.leaves other good has apart leaves);
  counters = λ other next good has apart is. last.counters other next good has apart (first.counters other next good has apart is);
}

-- what stays beside some places stays beside more
pub stays-wider : (dirs more : List Place) (t u : TreeState) → ((other : Place) → IsApart other more → IsApart other dirs) → Stays dirs t u → Stays more t u
stays-wider dirs more t u less stays = record {
  rows = λ other good apart. stays.rows other good (less other apart);
  leaves = λ other good has apart. stays.leaves other good has (less other apart);
  counters = λ other next good has apart. stays.counters other next good has (less other apart);
}

-- what stays in each of two steps stays in both
pub stays-more : (dir : Place) (dirs : List Place) (t v u : TreeState) → Stays (dir ∷ []) t v → Stays dirs v u → Stays (dir ∷ dirs) t u
stays-more dir dirs t v u one more =
    stays-both (dir ∷ dirs) t v u (stays-wider (dir ∷ []) (dir ∷ dirs) t v (λ other apart. (apart.0, tt)) one) (stays-wider dirs (dir ∷ dirs) v u (λ other apart. apart.1) more)

module _ (dirs : List Place) (t u : TreeState) (stays : Stays dirs t u) where
  -- a directory of another kind
  pub rows-stay : (p : Place) → IsGood p → IsBeside p dirs → under p u ≡ under p t
  rows-stay p good beside = stays.rows p good (beside-apart p dirs beside)

  -- its leaves
  pub leaves-stay : (p : Place) → IsGood p → has_leaves p ≡ true → IsBeside p dirs → HasLeaves p t → HasLeaves p u
  leaves-stay p good has beside = stays.leaves p good has (beside-apart p dirs beside)

  -- its counter
  pub counter-stays : (p : Place) (next : ℕ) → IsGood p → has_counter p ≡ true → IsBeside p dirs → next_under p t ≡ Some next → next_under p u ≡ Some next
  counter-stays p next good has beside = stays.counters p next good has (beside-apart p dirs beside)

  -- the directories that are always there, with another tick
  pub tick-stays : (old new : ℕ) → IsBeside Root dirs → IsBeside Nodepool dirs → IsBeside Zuul dirs → IsBeside Tick dirs →
      under Poolsim u ≡ directories (Jobs ∷ Roles ∷ Sessions ∷ SweptPairs ∷ []) ++ persistent Tick (decimal new) ∷ [] → IsFrame old t → IsFrame new u
  tick-stays old new root nodepool zuul leaf poolsim frame = record {
    root = rows-stay Root tt root ∙ frame.root;
    nodepool = rows-stay Nodepool tt nodepool ∙ frame.nodepool;
    zuul = rows-stay Zuul tt zuul ∙ frame.zuul;
    poolsim = poolsim;
    leaf = rows-stay Tick tt leaf ∙ frame.leaf;
  }

  -- the queue of a lock
  pub queue-stays : (lock : Place) (queue : List SessionId) → IsGood lock → has_counter lock ≡ true → IsApart lock dirs → HasQueue lock queue t → HasQueue lock queue u
  queue-stays lock queue good has apart is = record {
    next = is.next;
    gives = stays.counters lock is.next good has apart is.gives;
    waits = subst (λ (rows : List Row). AllZip (IsWait is.next) rows queue) (sym (stays.rows lock good apart)) is.waits;
  }

  -- the queues of requests
  pub request_queues-stay : (entries : List RequestEntry) → AllByRecursion (λ e. IsGood (Request e.id)) entries → list_any (λ dir. eqb 5 (directory dir)) dirs ≡ false → AllByRecursion (λ e. HasQueue (RequestLock e.id) e.queue t) entries →
      AllByRecursion (λ e. HasQueue (RequestLock e.id) e.queue u) entries
  request_queues-stay [] good beside all = tt
  request_queues-stay (e ∷ entries) good beside all = (queue-stays (RequestLock e.id) e.queue good.0 refl (beside-apart (RequestLock e.id) dirs beside) all.0, request_queues-stay entries good.1 beside all.1)

  -- the locks of requests
  pub request_locks-stay : (entries : List RequestEntry) → AllByRecursion (λ e. IsGood (Request e.id)) entries → IsBeside RequestLocks dirs → list_any (λ dir. eqb 5 (directory dir)) dirs ≡ false → AreRequestLocks entries t → AreRequestLocks entries u
  request_locks-stay entries good beside each_beside are = record {
    rows = rows-stay RequestLocks tt beside ∙ are.rows;
    queues = request_queues-stay entries good each_beside are.queues;
  }

  -- the lock of a node
  pub node_lock-stays : (e : NodeEntry) → IsGood (Node e.id) → IsApart (Node e.id) dirs → IsApart (NodeLock e.id) dirs → HasNodeLock t e → HasNodeLock u e
  node_lock-stays e good apart lock_apart has = record { rows = stays.rows (Node e.id) good apart ∙ has.rows; queue = queue-stays (NodeLock e.id) e.queue good refl lock_apart has.queue }

  -- the locks of some nodes
  pub node_queues-stay : (entries : List NodeEntry) → AllByRecursion (λ e. IsGood (Node e.id)) entries → AllByRecursion (λ e. IsApart (Node e.id) dirs × IsApart (NodeLock e.id) dirs) entries → AreNodeLocks entries t → AreNodeLocks entries u
  node_queues-stay [] good apart are = tt
  node_queues-stay (e ∷ entries) good apart are = (node_lock-stays e good.0 apart.0.0 apart.0.1 are.0, node_queues-stay entries good.1 apart.1 are.1)

  -- the locks of nodes
  pub node_locks-stay : (entries : List NodeEntry) → AllByRecursion (λ e. IsGood (Node e.id)) entries → list_any (λ dir. eqb 7 (directory dir)) dirs ≡ false → list_any (λ dir. eqb 8 (directory dir)) dirs ≡ false → AreNodeLocks entries t → AreNodeLocks entries u
  node_locks-stay entries good beside lock_beside are =
      node_queues-stay entries good (all-weaker (λ (e : NodeEntry). IsGood (Node e.id)) (λ (e : NodeEntry). IsApart (Node e.id) dirs × IsApart (NodeLock e.id) dirs) (λ e _. (beside-apart (Node e.id) dirs beside, beside-apart (NodeLock e.id) dirs lock_beside)) entries good) are

  -- the handles of a semaphore
  pub handles-stay : (handles : List (List JobId)) (x : SemId) → IsGood (Semaphore x) → IsApart (Semaphore x) dirs → HasHandles handles t x → HasHandles handles u x
  handles-stay handles x good apart has = record { rows = stays.rows (Semaphore x) good apart ∙ has.rows; leaves = stays.leaves (Semaphore x) good refl apart has.leaves }

  -- the semaphores with their handles
  pub semaphores-stay : (handles : List (List JobId)) → length handles ≤ 2 ^ 16 → IsBeside Semaphores dirs → list_any (λ dir. eqb 12 (directory dir)) dirs ≡ false → AreSemaphores handles t → AreSemaphores handles u
  semaphores-stay handles few beside each_beside are = record { rows = rows-stay Semaphores tt beside ∙ are.rows; each = each (length handles) 0 (omega arith) are.each } where
    each : (count at : ℕ) → at + count ≤ 2 ^ 16 → AllByRecursion (λ at. HasHandles handles t (record { 0 = at })) (range_with_len at count) → AllByRecursion (λ at. HasHandles handles u (record { 0 = at })) (range_with_len at count)
    each zero at within all = tt
    each (suc count) at within all =
        (handles-stay handles (record { 0 = at }) (omega arith) (beside-apart (Semaphore (record { 0 = at })) dirs each_beside) all.0, each count (at + 1) (omega arith) all.1)

-- the sessions that are live
pub live-stays : (t u : TreeState) → u.live ≡ t.live → u.begun ≡ t.begun → (sessions : List SessionFacts) → AreLive sessions t → AreLive sessions u
live-stays t u live begun sessions are =
    let same = sym live in
    record {
      begun = begun ∙ are.begun;
      first = subst (λ (list : List ℕ). is_in list 1 ≡ true) same are.first;
      each = subst (λ (list : List ℕ). map (is_in list) (range_with_len 2 (length sessions)) ≡ map (λ f. f.live) sessions) same are.each;
    }

-- # what a tree says of each table of a state, so that what stays of all is said at once

-- the fixed directories, the tables, and who is live
pub data Table : Type 0 where
  of_frame : Table
  of_requests : Table
  of_request_locks : Table
  of_nodes : Table
  of_node_locks : Table
  of_launchers : Table
  of_semaphores : Table
  of_jobs : Table
  of_roles : Table
  of_sessions : Table
  of_swept : Table
  of_live : Table

-- the tree lays out that table of the state
abbrev pub Says : State → TreeState → Table → Type 0
Says s t of_frame = IsFrame s.tick t
Says s t of_requests = AreRequests s.requests s.next_request t
Says s t of_request_locks = AreRequestLocks s.requests t
Says s t of_nodes = AreNodes s.nodes s.next_node t
Says s t of_node_locks = AreNodeLocks s.nodes t
Says s t of_launchers = AreLaunchers s.registrations t
Says s t of_semaphores = AreSemaphores s.handles t
Says s t of_jobs = AreJobs s.jobs t
Says s t of_roles = AreRoles s.launchers s.janitors s.requesters t
Says s t of_sessions = AreSessions s.sessions t
Says s t of_swept = AreSwept s.swept t
Says s t of_live = AreLive s.sessions t

-- a layout says each
pub each-table : (s : State) (t : TreeState) → LaysOut s t → (k : Table) → Says s t k
each-table s t lays of_frame = lays.frame
each-table s t lays k = assumption lays

-- and it is all of them
pub all-tables : (s : State) (t : TreeState) → ((k : Table) → Says s t k) → LaysOut s t
all-tables s t is = assumption (is of_frame, is of_requests, is of_request_locks, is of_nodes, is of_node_locks, is of_launchers, is of_semaphores, is of_jobs, is of_roles, is of_sessions, is of_swept, is of_live)

-- the kinds of the directories of a table
abbrev pub kinds : Table → List ℕ
kinds of_frame = 1 ∷ 2 ∷ 10 ∷ 0 ∷ 13 ∷ []
kinds of_requests = 3 ∷ []
kinds of_request_locks = 4 ∷ 5 ∷ []
kinds of_nodes = 6 ∷ []
kinds of_node_locks = 7 ∷ 8 ∷ []
kinds of_launchers = 9 ∷ []
kinds of_semaphores = 11 ∷ 12 ∷ []
kinds of_jobs = 14 ∷ []
kinds of_roles = 15 ∷ []
kinds of_sessions = 16 ∷ []
kinds of_swept = 17 ∷ []
kinds of_live = []

-- the table has no rows
abbrev pub is_live : Table → Bool
is_live of_live = true
is_live other = false

-- one of the places is of these kinds
abbrev pub is_touched : List Place → Table → Bool
is_touched dirs k = list_any (λ kind. list_any (λ dir. eqb kind (directory dir)) dirs) (kinds k)

-- a table of rows stays if rows of directories of other kinds change
pub table-beside : (s : State) (dirs : List Place) (t u : TreeState) → HasGoodIds s → Stays dirs t u → (k : Table) → is_touched dirs k ≡ false → is_live k ≡ false → Says s t k → Says s u k
table-beside s dirs t u good stays k none rows says = by k (none-list_any (λ kind. list_any (λ dir. eqb kind (directory dir)) dirs) (kinds k) none) rows says where
  by : (k : Table) → NonePass (λ kind. list_any (λ dir. eqb kind (directory dir)) dirs) (kinds k) → is_live k ≡ false → Says s t k → Says s u k
  by of_frame none rows is = tick-stays dirs t u stays s.tick s.tick none.0 none.1.0 none.1.1.0 none.1.1.1.0 (rows-stay dirs t u stays Poolsim tt none.1.1.1.1.0 ∙ is.poolsim) is
  by of_requests none rows is = record {
    rows = rows-stay dirs t u stays Requests tt none.0 ∙ is.rows;
    leaves = leaves-stay dirs t u stays Requests tt refl none.0 is.leaves;
    gives = counter-stays dirs t u stays Requests s.next_request tt refl none.0 is.gives;
  }
  by of_request_locks none rows is = request_locks-stay dirs t u stays s.requests good.requests none.0 none.1.0 is
  by of_nodes none rows is = record {
    rows = subst (λ (rows : List Row). AllZip IsNodeRow rows s.nodes) (sym (rows-stay dirs t u stays Nodes tt none.0)) is.rows;
    gives = counter-stays dirs t u stays Nodes s.next_node tt refl none.0 is.gives;
  }
  by of_node_locks none rows is = node_locks-stay dirs t u stays s.nodes good.nodes none.0 none.1.0 is
  by of_launchers none rows is = rows-stay dirs t u stays Launchers tt none.0 ∙ is
  by of_semaphores none rows is = semaphores-stay dirs t u stays s.handles good.semaphores none.0 none.1.0 is
  by of_jobs none rows is = record { rows = rows-stay dirs t u stays Jobs tt none.0 ∙ is.rows; leaves = leaves-stay dirs t u stays Jobs tt refl none.0 is.leaves }
  by of_roles none rows is = record { rows = rows-stay dirs t u stays Roles tt none.0 ∙ is.rows; leaves = leaves-stay dirs t u stays Roles tt refl none.0 is.leaves }
  by of_sessions none rows is = record { rows = rows-stay dirs t u stays Sessions tt none.0 ∙ is.rows; leaves = leaves-stay dirs t u stays Sessions tt refl none.0 is.leaves }
  by of_swept none rows is = record { rows = rows-stay dirs t u stays SweptPairs tt none.0 ∙ is.rows; leaves = leaves-stay dirs t u stays SweptPairs tt refl none.0 is.leaves }
  by of_live none rows is = absurd cc

-- and so does who is live, if nobody begins or ends
pub table-stays : (s : State) (dirs : List Place) (t u : TreeState) → HasGoodIds s → Stays dirs t u → u.live ≡ t.live → u.begun ≡ t.begun → (k : Table) → is_touched dirs k ≡ false → Says s t k → Says s u k
table-stays s dirs t u good stays live begun of_live none says = live-stays t u live begun s.sessions says
table-stays s dirs t u good stays live begun k none says = table-beside s dirs t u good stays k none refl says

-- the same nodes and sessions lay out the same state
pub same-lays : (s : State) (t u : TreeState) → HasGoodIds s → u.live ≡ t.live → u.begun ≡ t.begun → Stays [] t u → LaysOut s t → LaysOut s u
same-lays s t u good live begun stays lays = all-tables s u each where
  each : (k : Table) → Says s u k
  each of_live = live-stays t u live begun s.sessions lays.live
  each k = table-stays s [] t u good stays live begun k refl (each-table s t lays k)
