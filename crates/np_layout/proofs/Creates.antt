-- a table gets one member more, and the tree lays out the grown state; a handle that was made is also given back
use Rattle.np_layout.proofs.Prelude.{AllByRecursion, AllZip, Bool, Ephemeral, EphemeralSequential, Handle, HandlesGoLayOut, HandlesLayOut, HasGoodIds, HasHandles, HasNodeLock, HasParts-below, HasQueue, HasRoom, HasRoomFor, IsGood, IsNodeRow, IsWait, IsWhole, Job, JobId, Launcher, Launchers, LaysOut, List, Mode, Node, NodeEntry, NodeId, NodeLock, NodeRecord, NodeWait, NodeWaitsLayOut, Nodepool, Nodes, None, NonePass, Op, Option, PartsLayOut, Persistent, PersistentSequential, Place, PoolId, Poolsim, Registration, RegistrationsLayOut, RequestEntry, RequestLock, RequestLocks, RequestWait, RequestWaitsLayOut, Rises, Row, Seen, SemId, Semaphore, Semaphores, SessionId, Some, SpellsNode, State, Swept, SweptPairs, SweptPairsLayOut, SweptPlace, TreeState, [], above, after_part, all-at, all-map, all-push, all-weaker, ap, arith, below, by_name, bytes_eq, change_at, codes, cond, counter_after, delete, eqb, eqb-false, eqb-true, equal-itself, false, filter, find, handle_row, handles_of, has_handle, insert_before, insert_before-end, is_among, is_in, is_lt, is_named, is_pair, is_pair_after, is_path-below, is_queued, joined, launcher_row, length, length-change_at, list_any, lt-one_way, make, map, member-there, name_given, nat_cmp-less, nat_list_cmp_total, nat_lt, nat_tests, node_parts, node_queue, none-find, none-list_any, not, option_map, option_map_or, other-name, owner_at, path_of, persistent, place_name, places, put_node_queue, put_request_queue, range_with_len, refl, registers, request_lock_row, request_queue, room-falls, room-gives, row_before, row_given, rows-rise, semaphore_row, slice_cmp-ten, slice_get, slice_get-change_at, slice_get-change_at_other, subst, suc, swept_row, sym, tree_session, true, under, unwrap_or, wait_at, wait_row, with_handle, with_pair, with_row, without_handle, zero, ℕ, ◌++◌, ◌+◌, ◌<◌, ◌==◌, ◌^◌, ◌∙◌, ◌∷◌, ◌≡◌, ◌≤◌}
use Rattle.np_layout.proofs.Names.{IsGood-above, is_path-of}
use Rattle.np_layout.proofs.Steps.{CreatesRow, DeleteGoes, Step, bare-leaf, counter-there, create-step, create_under-step, delete-goes, free-named, is_other, make-new, make-step, named-here, named-other, over_leaves, owner-there}
use Rattle.np_layout.proofs.Deletes.{AreWaits, lock-any, named-as, node-good, node-lock, node-queue, node-waits, node_queue-lays, request-good, request-queue, request-waits, request_queue-lays}
use Rattle.np_layout.proofs.Elsewhere.{IsApart, Says, Stays, Table, all-tables, beside-apart, each-table, handles-stay, is_touched, node_queues-stay, of_launchers, of_node_locks, of_nodes, of_semaphores, of_swept, rows-stay, stays-more, table-stays}
use Rattle.np_layout.proofs.Rows.{all-put, all-range, any-by_name, any-found, any-mapped, at-range, by_name-insert, by_name-kept, filter-mapped, none-mapped}

-- # a wait at a lock

-- the waits are before a new one
waits-before : (next : ℕ) (session : SessionId) (rows : List Row) (queue : List SessionId) → next < 2 ^ 32 → AllZip (IsWait next) rows queue → AllByRecursion (λ other. row_before other (wait_row next session) ≡ true) rows
waits-before next session [] [] small waits = tt
waits-before next session (row ∷ rows) (other ∷ queue) small waits = let low = waits.0.given in (
  ap (λ (r : Row). row_before r (wait_row next session)) waits.0.is ∙ ap is_lt (slice_cmp-ten waits.0.number next (omega arith) small ∙ nat_cmp-less waits.0.number next low),
  waits-before next session rows queue small waits.1,
)
waits-before next session _ _ small waits = absurd waits

-- a row that all are before is before none
pub none-after : (new : Row) (rows : List Row) → AllByRecursion (λ other. row_before other new ≡ true) rows → NonePass (λ other. row_before new other) rows
none-after new rows before = all-weaker (λ (other : Row). row_before other new ≡ true) (λ (other : Row). row_before new other ≡ false) (λ other is. lt-one_way nat_list_cmp_total other.name new.name is) rows before

-- and none has its name
pub none-named : (new : Row) (rows : List Row) → AllByRecursion (λ other. row_before other new ≡ true) rows → NonePass (is_named new.name) rows
none-named new rows before = all-weaker (λ (other : Row). row_before other new ≡ true) (λ (other : Row). is_named new.name other ≡ false) (λ other is. other-name other new is) rows before

-- rows with a new one at their end, of members with a new one at theirs
zip-push : {A : Type 0} (P Q : Row → A → Type 0) (row : Row) (a : A) (rows : List Row) (list : List A) → ((r : Row) (x : A) → P r x → Q r x) → Q row a → AllZip P rows list → AllZip Q (rows ++ row ∷ []) (list ++ a ∷ [])
zip-push P Q row a [] [] each is zip = (is, tt)
zip-push P Q row a (r ∷ rows) (x ∷ list) each is zip = (each r x zip.0, zip-push P Q row a rows list each is zip.1)
zip-push P Q row a _ _ each is zip = absurd zip

-- a wait is accepted, and is the last of the queue
pub record Waits (lock : Place) (wait : ℕ → Place) (queue : List SessionId) (t : TreeState) (session : SessionId) (next : ℕ) : Type 0 where
  pub step : Step lock (wait next) EphemeralSequential (wait_row next session) t (tree_session session) (wait_at lock)
  pub joins : HasQueue lock (joined session queue) (after_part t (tree_session session) (wait_at lock))

pub waits : (lock : Place) (wait : ℕ → Place) (queue : List SessionId) (t : TreeState) (session : SessionId) → AreWaits lock wait → (is : HasQueue lock queue t) → IsWhole t.nodes → is_in t.live (tree_session session) ≡ true → HasRoom t → owner_at t (path_of lock) ≡ Some None → is_queued session queue ≡ false →
    Waits lock wait queue t session is.next
waits lock wait queue t session is_lock is whole live room owner new =
    let next : ℕ = is.next in
    let most = room.counter (path_of lock) next is.gives in
    let small : next < 2 ^ 32 = omega arith in
    let good = is_lock.good next small in
    let lock_good = IsGood-above (wait next) lock good (is_lock.over next) in
    let before = waits-before next session (under lock t) queue small is.waits in
    let parts = HasParts-below (path_of lock) (codes "lock-") (is_path-of lock lock_good) refl in
    let free = free-named t lock (wait next) whole good (is_lock.over next) (subst (λ (name : List ℕ). NonePass (is_named name) (under lock t)) (sym (is_lock.named next)) (none-named (wait_row next session) (under lock t) before)) in
    let step : Step lock (wait next) EphemeralSequential (wait_row next session) t (tree_session session) (wait_at lock) =
    create-step t (tree_session session) lock (wait next) (below (path_of lock) (codes "lock-")) (codes "lock-") [] EphemeralSequential next good (is_lock.over next) is_lock.top
    (is_path-below (path_of lock) (codes "lock-") (is_path-of lock lock_good) refl) parts.above parts.last (sym (is_lock.named next)) (omega arith)
    (assumption (is.gives, free)) in
    record {
      step = step;
      joins = subst (λ (list : List SessionId). HasQueue lock list (after_part t (tree_session session) (wait_at lock))) (sym (ap (λ (b : Bool). cond b queue (queue ++ session ∷ [])) new)) (record {
        next = next + 1;
        gives = step.creates.counter ∙ ap (option_map (counter_after EphemeralSequential)) is.gives;
        waits = subst (λ (rows : List Row). AllZip (IsWait (next + 1)) rows (queue ++ session ∷ []))
            (sym (step.creates.rows ∙ insert_before-end (λ other. row_before (wait_row next session) other) (wait_row next session) (under lock t) (none-after (wait_row next session) (under lock t) before)))
            (zip-push (IsWait next) (IsWait (next + 1)) (wait_row next session) session (under lock t) queue
            (λ row other wait. let low = wait.given in record { number = wait.number; given = omega arith; is = wait.is }) (record { number = next; given = omega arith; is = refl }) is.waits);
      });
    }

-- a wait that is accepted lays out the state in which the session is the last of the queue
wait-lays : (later : State) (t : TreeState) (session : SessionId) (lock : Place) (wait : ℕ → Place) (queue : List SessionId) → AreWaits lock wait → HasQueue lock queue t → IsWhole t.nodes → is_in t.live (tree_session session) ≡ true → HasRoomFor 1 t → owner_at t (path_of lock) ≡ Some None → is_queued session queue ≡ false →
    ((u : TreeState) → Stays (lock ∷ []) t u → u.live ≡ t.live → u.begun ≡ t.begun → HasQueue lock (joined session queue) u → LaysOut later u) → PartsLayOut later t (tree_session session) (wait_at lock ∷ [])
wait-lays later t session lock wait queue are is whole live room owner new lays =
    let made = waits lock wait queue t session are is whole live (room-gives t 0 room) owner new in
    record { goes = (made.step.ok, refl); lays = lays (after_part t (tree_session session) (wait_at lock)) made.step.creates.stays made.step.creates.live made.step.creates.begun made.joins }

-- a wait at a node's lock
pub node_waits-lay-out : NodeWaitsLayOut
node_waits-lay-out s t session n e whole good lays live room there new =
    let n_good : IsGood (NodeLock n) = node-good n s.nodes e good.nodes there in
    let queue : List SessionId = node_queue n s.nodes in
    wait-lays (record s { nodes = put_node_queue n (joined session queue) s.nodes }) t session (NodeLock n) (NodeWait n) queue (node-waits n n_good) (node-queue s t n e lays there) whole live room
    (owner-there t (Node n) (NodeLock n) _ whole n_good refl (node-lock s t n e lays there).rows refl (refl, tt)) (ap (λ (o : Option NodeEntry). is_queued session (option_map_or (λ (x : NodeEntry). x.queue) o [])) there ∙ new)
    (λ u stays alive begun has. node_queue-lays s t u n e (joined session queue) whole good lays there stays alive begun has)

-- a wait at a request's lock
pub request_waits-lay-out : RequestWaitsLayOut
request_waits-lay-out s t session r e whole good lays live room there new =
    let r_good : IsGood (RequestLock r) = request-good r s.requests e good.requests there in
    let queue : List SessionId = request_queue r s.requests in
    wait-lays (record s { requests = put_request_queue r (joined session queue) s.requests }) t session (RequestLock r) (RequestWait r) queue (request-waits r r_good) (request-queue s t r e lays there) whole live room
    (owner-there t RequestLocks (RequestLock r) _ whole r_good refl lays.request_locks.rows (lock-any s r e good there) (all-map (λ (row : Row). row.owner ≡ None) request_lock_row s.requests (λ x. refl)))
    (ap (λ (o : Option RequestEntry). is_queued session (option_map_or (λ (x : RequestEntry). x.queue) o [])) there ∙ new)
    (λ u stays alive begun has. request_queue-lays s t u r e (joined session queue) whole good lays there stays alive begun has)

-- # a create of a node's record, then of its lock, and then of its maker's wait

-- the rows of two nodes, without their bytes
abbrev pub node_before : NodeEntry → NodeEntry → Bool
node_before a b = row_before (persistent (Node a.id) []) (persistent (Node b.id) [])

all-zip : (row : Row) (e : NodeEntry) (rows : List Row) (entries : List NodeEntry) → IsNodeRow row e → AllZip IsNodeRow rows entries → AllByRecursion (λ other. row_before row other ≡ true) rows → AllByRecursion (λ x. node_before e x ≡ true) entries
all-zip row e [] [] is zip all = tt
all-zip row e (other ∷ rows) (x ∷ entries) is zip all = (
  sym (ap (λ (a : Row). row_before a other) is.is ∙ ap (λ (b : Row). row_before (persistent (Node e.id) row.bytes) b) zip.0.is) ∙ all.0,
  all-zip row e rows entries is zip.1 all.1,
)
all-zip row e _ _ is zip all = absurd zip

-- entries rise as their rows do
pub rises-zip : (rows : List Row) (entries : List NodeEntry) → AllZip IsNodeRow rows entries → Rises row_before rows → Rises node_before entries
rises-zip [] [] zip rises = tt
rises-zip (row ∷ rows) (x ∷ entries) zip rises = (all-zip row x rows entries zip.0 zip.1 rises.0, rises-zip rows entries zip.1 rises.1)
rises-zip _ _ zip rises = absurd zip

-- the nodes are before a new one
nodes-before : (n : NodeId) (bytes : List ℕ) (rows : List Row) (entries : List NodeEntry) → n.0 < 2 ^ 32 → AllByRecursion (λ e. e.id.0 < n.0) entries → AllZip IsNodeRow rows entries → AllByRecursion (λ other. row_before other (persistent (Node n) bytes) ≡ true) rows
nodes-before n bytes [] [] small low zip = tt
nodes-before n bytes (row ∷ rows) (e ∷ entries) small low zip = let less = low.0 in (
  ap (λ (r : Row). row_before r (persistent (Node n) bytes)) zip.0.is ∙ ap is_lt (slice_cmp-ten e.id.0 n.0 (omega arith) small ∙ nat_cmp-less e.id.0 n.0 less),
  nodes-before n bytes rows entries small low.1 zip.1,
)
nodes-before n bytes _ _ small low zip = absurd zip

-- lower nodes and their locks are others
apart : (n : NodeId) (entries : List NodeEntry) → AllByRecursion (λ e. e.id.0 < n.0) entries → AllByRecursion (λ e. IsApart (Node e.id) (Nodes ∷ Node n ∷ NodeLock n ∷ []) × IsApart (NodeLock e.id) (Nodes ∷ Node n ∷ NodeLock n ∷ [])) entries
apart n entries low =
    all-weaker (λ (e : NodeEntry). e.id.0 < n.0) (λ (e : NodeEntry). IsApart (Node e.id) (Nodes ∷ Node n ∷ NodeLock n ∷ []) × IsApart (NodeLock e.id) (Nodes ∷ Node n ∷ NodeLock n ∷ []))
    (λ e less. (
      ((λ same. absurd cc), ((λ same. let is : e.id ≡ n = cc in let equal = ap (λ (x : NodeId). x.0) is in absurd (omega arith)), ((λ same. absurd cc), tt))),
      ((λ same. absurd cc), ((λ same. absurd cc), ((λ same. let is : e.id ≡ n = cc in let equal = ap (λ (x : NodeId). x.0) is in absurd (omega arith)), tt))),
    )) entries low

module _ (s : State) (t : TreeState) (session : SessionId) (kept : NodeRecord) (bytes : List ℕ) (whole : IsWhole t.nodes) (good : HasGoodIds s) (lays : LaysOut s t) (live : is_in t.live (tree_session session) ≡ true) (room : HasRoomFor 3 t)
    (spells : SpellsNode kept bytes) (short : length bytes ≤ 65_536) (low : AllByRecursion (λ e. e.id.0 < s.next_node) s.nodes) where
  abbrev n : NodeId
  n = record { 0 = s.next_node }

  abbrev w : ℕ
  w = tree_session session

  abbrev entry : NodeEntry
  entry = record { id = n; kept = kept; queue = session ∷ [] }

  abbrev part : Op
  part = Op.CreateUnder (path_of Nodes) bytes PersistentSequential

  node-is-good : IsGood (Node n)
  node-is-good = let most = (room-gives t 2 room).counter (path_of Nodes) s.next_node lays.nodes.gives in omega arith

  owner : owner_at t (path_of Nodes) ≡ Some None
  owner = owner-there t Nodepool Nodes _ whole tt refl lays.frame.nodepool refl (refl, (refl, (refl, (refl, tt))))

  before : AllByRecursion (λ other. row_before other (persistent (Node n) bytes) ≡ true) (under Nodes t)
  before = nodes-before n bytes (under Nodes t) s.nodes node-is-good low lays.nodes.rows

  first : Step Nodes (Node n) PersistentSequential (persistent (Node n) bytes) t w part
  first = create_under-step t w Nodes (Node n) bytes PersistentSequential s.next_node node-is-good refl refl refl refl short
      (assumption (owner, lays.nodes.gives, free-named t Nodes (Node n) whole node-is-good refl (none-named (persistent (Node n) bytes) (under Nodes t) before), room-gives t 2 room))

  abbrev v : TreeState
  v = after_part t w part

  v-room : HasRoomFor 2 v
  v-room = room-falls t w part 2 room

  second : Step (Node n) (NodeLock n) Persistent (persistent (NodeLock n) []) v w (make [] (NodeLock n))
  second = make-step v w (Node n) (NodeLock n) [] Persistent 0 node-is-good refl refl refl (omega arith)
      (let live_still = ap (λ (list : List ℕ). is_in list w) first.creates.live ∙ live in
      let free = free-named v (Node n) (NodeLock n) first.creates.whole node-is-good refl (subst (λ (rows : List Row). NonePass (is_named (place_name (NodeLock n))) rows) (sym first.creates.empty) tt) in
      assumption (first.creates.whole, ap (option_map (λ (seen : Seen). seen.owner)) first.creates.seen, first.creates.new, room-gives v 1 v-room))

  abbrev locked : TreeState
  locked = after_part v w (make [] (NodeLock n))

  no-queue : HasQueue (NodeLock n) [] locked
  no-queue = record { next = 0; gives = second.creates.new; waits = subst (λ (rows : List Row). AllZip (IsWait 0) rows []) (sym second.creates.empty) tt }

  third : Waits (NodeLock n) (NodeWait n) [] locked session no-queue.next
  third = waits (NodeLock n) (NodeWait n) [] locked session (node-waits n node-is-good) no-queue second.creates.whole
      (ap (λ (list : List ℕ). is_in list w) (second.creates.live ∙ first.creates.live) ∙ live) (room-gives locked 0 (room-falls v w (make [] (NodeLock n)) 1 v-room)) (ap (option_map (λ (seen : Seen). seen.owner)) second.creates.seen) refl

  abbrev u : TreeState
  u = after_part locked w (wait_at (NodeLock n))

  later : Stays (Node n ∷ NodeLock n ∷ []) v u
  later = stays-more (Node n) (NodeLock n ∷ []) v locked u second.creates.stays third.step.creates.stays

  stays : Stays (Nodes ∷ Node n ∷ NodeLock n ∷ []) t u
  stays = stays-more Nodes (Node n ∷ NodeLock n ∷ []) t v u first.creates.stays later

  lock : HasNodeLock u entry
  lock = record {
    rows = third.step.creates.stays.rows (Node n) node-is-good (beside-apart (Node n) (NodeLock n ∷ []) refl) ∙ second.creates.rows ∙ ap (with_row (persistent (NodeLock n) [])) first.creates.empty;
    queue = third.joins;
  }

  node-lays : LaysOut (record s { nodes = s.nodes ++ entry ∷ []; next_node = s.next_node + 1 }) u
  node-lays = all-tables _ _ each where
    dirs : List Place
    dirs = Nodes ∷ Node n ∷ NodeLock n ∷ []

    aside : IsApart Nodes (Node n ∷ NodeLock n ∷ [])
    aside = beside-apart Nodes (Node n ∷ NodeLock n ∷ []) refl

    each : (k : Table) → Says (record s { nodes = s.nodes ++ entry ∷ []; next_node = s.next_node + 1 }) u k
    each of_nodes = record {
      rows = subst (λ (rows : List Row). AllZip IsNodeRow rows (s.nodes ++ entry ∷ []))
          (sym (later.rows Nodes tt aside ∙ first.creates.rows ∙ insert_before-end (λ other. row_before (persistent (Node n) bytes) other) (persistent (Node n) bytes) (under Nodes t) (none-after (persistent (Node n) bytes) (under Nodes t) before)))
          (zip-push IsNodeRow IsNodeRow (persistent (Node n) bytes) entry (under Nodes t) s.nodes (λ row e is. is) (record { is = refl; spells = spells }) lays.nodes.rows);
      gives = later.counters Nodes (s.next_node + 1) tt refl aside (first.creates.counter ∙ ap (option_map (counter_after PersistentSequential)) lays.nodes.gives);
    }
    each of_node_locks = all-push (HasNodeLock u) s.nodes entry (node_queues-stay dirs t u stays s.nodes good.nodes (apart n s.nodes low) lays.node_locks) lock
    each k = table-stays s dirs t u good stays (third.step.creates.live ∙ second.creates.live ∙ first.creates.live) (third.step.creates.begun ∙ second.creates.begun ∙ first.creates.begun) k refl (each-table s t lays k)

  -- creates of a node's record, of its lock and of its maker's wait lay out the state in which the node is
  pub grown_nodes-lay-out : PartsLayOut (record s { nodes = s.nodes ++ entry ∷ []; next_node = s.next_node + 1 }) t w (node_parts n bytes)
  grown_nodes-lay-out = record { goes = (first.ok, (second.ok, (third.step.ok, refl))); lays = node-lays }

-- # a create of a launcher's registration

none-found : (o : Option Registration) → option_map (λ (g : Registration). g.session) o ≡ None → o ≡ None
none-found o is = grind arith

-- a create of a good place whose row is not there lays out a state, if its tables say so where those of other directories stay
makes-lay-out : (s later : State) (t : TreeState) (w : ℕ) (dir p : Place) (rows : List Row) (mode : Mode) → IsWhole t.nodes → HasGoodIds s → LaysOut s t → is_in t.live w ≡ true → HasRoomFor 1 t → (owner : owner_at t (path_of dir) ≡ Some None) →
    IsGood p → above p ≡ Some dir → over_leaves (above dir) ≡ false → ((counter : ℕ) → name_given mode counter (place_name p) ≡ place_name p) → under dir t ≡ rows → NonePass (is_named (place_name p)) rows →
    ((u : TreeState) → CreatesRow dir p mode (row_given mode (counter-there t dir owner).0 w (place_name p) []) t u → ((k : Table) → is_touched (dir ∷ []) k ≡ false → Says s u k) → (k : Table) → Says later u k) → PartsLayOut later t w (Op.Create (path_of p) [] mode ∷ [])
makes-lay-out s later t w dir p rows mode whole good lays live room owner p_good over top named same none says =
    let step = make-new t w dir p rows [] mode owner p_good over top named (omega arith) whole live (room-gives t 0 room) same none in
    let creates = step.creates in
    record { goes = (step.ok, refl); lays = all-tables later _ (says _ creates (λ k free. table-stays s (dir ∷ []) t _ good creates.stays creates.live creates.begun k free (each-table s t lays k))) }

-- a create of a registration lays out the state in which the launcher is registered
pub registrations-lay-out : RegistrationsLayOut
registrations-lay-out s t session p whole good lays live room is_good new =
    makes-lay-out s _ t (tree_session session) Launchers (Launcher p) _ Ephemeral whole good lays live room (owner-there t Nodepool Launchers _ whole tt refl lays.frame.nodepool refl (refl, (refl, (refl, (refl, tt))))) is_good refl refl (λ counter. refl) lays.launchers
    (all-put (λ (row : Row). is_named (place_name (Launcher p)) row ≡ false) (map launcher_row s.registrations) [] tt apart) each where
      -- no other registration has its name
      apart : NonePass (is_named (place_name (Launcher p))) (map launcher_row s.registrations)
      apart = none-mapped (λ (g : Registration). IsGood (Launcher g.pool)) launcher_row (is_named (place_name (Launcher p))) (λ g. g.pool.0 == p.0)
          (λ g g_good none. named-other (Launcher p) (Launcher g.pool) is_good g_good refl
          (λ equal. let is : g.pool ≡ p = cc in let both = ap (λ (x : PoolId). g.pool.0 == x.0) is in let itself = equal-itself g.pool.0 in absurd cc))
          s.registrations good.registrations (none-find (λ (g : Registration). g.pool.0 == p.0) s.registrations (none-found (find (λ (g : Registration). g.pool.0 == p.0) s.registrations) new))

      each : (u : TreeState) → CreatesRow Launchers (Launcher p) Ephemeral (launcher_row (record { pool = p; session = session })) t u → ((k : Table) → is_touched (Launchers ∷ []) k ≡ false → Says s u k) → (k : Table) → Says (registers s session p) u k
      each u creates kept of_launchers =
          creates.rows ∙ ap (with_row (launcher_row (record { pool = p; session = session }))) lays.launchers
          ∙ sym (by_name-insert launcher_row (λ (g : Registration). nat_lt p.0 g.pool.0) (record { pool = p; session = session }) s.registrations apart)
      each u creates kept k = kept k refl

-- # a create of a swept pair

pair-self : (pair : Swept) → is_pair pair.node pair.server pair ≡ true
pair-self pair = grind (arith, nat_tests)

-- a create of a swept pair lays out the state in which it is swept
pub swept_pairs-lay-out : SweptPairsLayOut
swept_pairs-lay-out s t w n server whole good lays live room is_good new =
    makes-lay-out s _ t w SweptPairs place _ Persistent whole good lays live room (owner-there t Poolsim SweptPairs _ whole tt refl lays.frame.poolsim refl (refl, (refl, (refl, (refl, (refl, tt)))))) is_good refl refl (λ counter. refl) lays.swept.rows
    (all-put (λ (row : Row). is_named (place_name place) row ≡ false) (map swept_row s.swept) [] tt apart) each where
      place : Place
      place = SweptPlace n server

      made : Swept
      made = record { node = n; server = server }

      -- no other pair has its name
      apart : NonePass (is_named (place_name place)) (map swept_row s.swept)
      apart = none-mapped (λ (pair : Swept). IsGood (SweptPlace pair.node pair.server)) swept_row (is_named (place_name place)) (is_pair n server)
          (λ pair pair_good none. named-other place (SweptPlace pair.node pair.server) is_good pair_good refl
          (λ equal.
          let is : pair.node ≡ n = cc in
          let with : pair.server ≡ server = cc in
          let both = ap (λ (m : NodeId). is_pair m pair.server pair) is ∙ ap (λ (x : ℕ). is_pair n x pair) with in
          let itself = pair-self pair in absurd cc))
          s.swept good.swept (none-list_any (is_pair n server) s.swept new)

      each : (u : TreeState) → CreatesRow SweptPairs place Persistent (swept_row made) t u → ((k : Table) → is_touched (SweptPairs ∷ []) k ≡ false → Says s u k) → (k : Table) → Says (record s { swept = with_pair n server s.swept }) u k
      each u creates kept of_swept = record {
        rows =
            creates.rows ∙ ap (with_row (swept_row made)) lays.swept.rows ∙ sym (by_name-insert swept_row (is_pair_after n server) made s.swept apart)
            ∙ ap (λ (b : Bool). by_name (map swept_row (cond b s.swept (insert_before (is_pair_after n server) made s.swept)))) (sym new);
        leaves = creates.leaves lays.swept.leaves;
      }
      each u creates kept k = kept k refl

-- # a create of a semaphore's handle

-- the row of each number is among those of a range
range-any : (test : Row → Bool) (row : ℕ → Row) (k count at : ℕ) → at ≤ k → k < at + count → test (row k) ≡ true → list_any test (map row (range_with_len at count)) ≡ true
range-any test row k zero at from low passes = absurd (omega arith)
range-any test row k (suc count) at from low passes = grind (arith, nat_tests, range-any test row k count (at + 1))

-- the handles of a semaphore have places
pub handles-good : (s : State) (x : SemId) → HasGoodIds s → x.0 < length s.handles → AllByRecursion (λ k. IsGood (Handle x k)) (handles_of x s.handles)
handles-good s x good low =
    let there : (list : List JobId) × (slice_get s.handles x.0 ≡ Some list) = member-there s.handles x.0 low in
    let jobs-is : handles_of x s.handles ≡ there.0 = ap (λ (o : Option (List JobId)). unwrap_or o []) there.1 in
    let x-good : x.0 < 2 ^ 16 = (let few = good.semaphores in omega arith) in
    subst (λ (list : List JobId). AllByRecursion (λ k. IsGood (Handle x k)) list) (sym jobs-is)
    (all-weaker (λ (k : JobId). IsGood (Job k)) (λ (k : JobId). IsGood (Handle x k)) (λ k small. (x-good, small)) there.0
    (all-at (λ (list : List JobId). AllByRecursion (λ k. IsGood (Job k)) list) s.handles x.0 there.0 good.handles there.1))

-- the handles of one semaphore change
module _ (s : State) (t handle_tree : TreeState) (x : SemId) (f : List JobId → List JobId) (good : HasGoodIds s) (lays : LaysOut s t) (stays : Stays (Semaphore x ∷ []) t handle_tree) (live : handle_tree.live ≡ t.live) (begun : handle_tree.begun ≡ t.begun) (here : HasHandles (change_at x.0 f s.handles) handle_tree x) where
  abbrev changed : List (List JobId)
  changed = change_at x.0 f s.handles

  -- every other semaphore has the handles that it had
  each-by : (at : ℕ) (b : Bool) → eqb at x.0 ≡ b → at < 2 ^ 16 → HasHandles s.handles t (record { 0 = at }) → HasHandles changed handle_tree (record { 0 = at })
  each-by at true is low_at has = subst (λ (n : ℕ). HasHandles changed handle_tree (record { 0 = n })) (sym (eqb-true at x.0 is)) here
  each-by at false is low_at has =
      let other = eqb-false at x.0 is in
      let still = handles-stay (Semaphore x ∷ []) t handle_tree stays s.handles (record { 0 = at }) low_at ((λ equal. let is : x ≡ record { 0 = at } = cc in other (sym (ap (λ (y : SemId). y.0) is))), tt) has in
      record {
        rows = still.rows ∙ ap (λ (o : Option (List JobId)). by_name (map (handle_row (record { 0 = at })) (unwrap_or o []))) (sym (slice_get-change_at_other x.0 at f s.handles other));
        leaves = still.leaves;
      }

  -- the state with them is laid out
  pub changed-lays : LaysOut (record s { handles = changed }) handle_tree
  changed-lays = all-tables _ _ by where
    long : length changed ≡ length s.handles
    long = length-change_at x.0 f s.handles

    by : (k : Table) → Says (record s { handles = changed }) handle_tree k
    by of_semaphores = record {
      rows = rows-stay (Semaphore x ∷ []) t handle_tree stays Semaphores tt refl ∙ lays.semaphores.rows ∙ ap (λ (n : ℕ). by_name (map semaphore_row (range_with_len 0 n))) (sym long);
      each = subst (λ (n : ℕ). AllByRecursion (λ at. HasHandles changed handle_tree (record { 0 = at })) (range_with_len 0 n)) (sym long)
          (all-range (λ at. HasHandles changed handle_tree (record { 0 = at })) (length s.handles) 0 (length s.handles) (omega arith) (λ n low.
          each-by n (eqb n x.0) refl (omega (arith, good.semaphores)) (at-range (λ at. HasHandles s.handles t (record { 0 = at })) (length s.handles) 0 n (omega arith) (omega arith) lays.semaphores.each)));
    }
    by k = table-stays s (Semaphore x ∷ []) t handle_tree good stays live begun k refl (each-table s t lays k)

-- a handle's name is its own
pub named-by : (x : SemId) (j other : JobId) (b : Bool) → (other.0 == j.0) ≡ b → IsGood (Handle x j) → IsGood (Handle x other) → bytes_eq (place_name (Handle x other)) (place_name (Handle x j)) ≡ b
named-by x j other = named-as (Handle x) (λ a b. a.0 == b.0) (λ a b one. cc) (λ a b. refl) (λ a b same. let number : a.0 ≡ b.0 = grind (arith, nat_tests) in ap (λ (n : ℕ). record { 0 = n }) number) (λ a. equal-itself a.0) other j

-- a create of a handle lays out the state in which the job has it
pub handles-lay-out : HandlesLayOut
handles-lay-out s t w x j whole good lays live room low small new =
    makes-lay-out s _ t w (Semaphore x) (Handle x j) _ Persistent whole good lays live room owner j-good refl refl (λ counter. refl) x-rows.rows
    (all-put (λ (row : Row). is_named (place_name (Handle x j)) row ≡ false) (map (handle_row x) jobs) [] tt apart) each where
      jobs : List JobId
      jobs = handles_of x s.handles

      j-good : IsGood (Handle x j)
      j-good = (omega (arith, good.semaphores), small)

      -- no other job's handle has its name
      apart : NonePass (is_named (place_name (Handle x j))) (map (handle_row x) jobs)
      apart = none-mapped (λ (k : JobId). IsGood (Handle x k)) (handle_row x) (is_named (place_name (Handle x j))) (λ k. k.0 == j.0) (λ k k_good none. named-by x j k false none j-good k_good)
          jobs (handles-good s x good low) (none-list_any (λ (k : JobId). k.0 == j.0) jobs new)

      x-rows : HasHandles s.handles t x
      x-rows = at-range (λ n. HasHandles s.handles t (record { 0 = n })) (length s.handles) 0 x.0 (omega arith) (omega arith) lays.semaphores.each

      owner : owner_at t (path_of (Semaphore x)) ≡ Some None
      owner = owner-there t Semaphores (Semaphore x) _ whole j-good.0 refl lays.semaphores.rows
          (any-by_name (is_named (place_name (Semaphore x))) (map semaphore_row (places s.handles))
          ∙ range-any (is_named (place_name (Semaphore x))) semaphore_row x.0 (length s.handles) 0 (omega arith) (omega arith) (named-here (Semaphore x)))
          (all-put (λ (row : Row). row.owner ≡ None) (map semaphore_row (places s.handles)) [] tt (all-map (λ (row : Row). row.owner ≡ None) semaphore_row (places s.handles) (λ n. refl)))

      each : (u : TreeState) → CreatesRow (Semaphore x) (Handle x j) Persistent (handle_row x j) t u → ((k : Table) → is_touched (Semaphore x ∷ []) k ≡ false → Says s u k) → (k : Table) → Says (record s { handles = change_at x.0 (with_handle j) s.handles }) u k
      each u creates kept k =
          let there = member-there s.handles x.0 low in
          let more_here : handles_of x (change_at x.0 (with_handle j) s.handles) ≡ insert_before (λ (other : JobId). nat_lt j.0 other.0) j jobs =
          ap (λ (o : Option (List JobId)). unwrap_or o []) (slice_get-change_at x.0 (with_handle j) s.handles ∙ ap (option_map (with_handle j)) there.1)
          ∙ ap (λ (o : Option (List JobId)). with_handle j (unwrap_or o [])) (sym there.1) ∙ ap (λ (b : Bool). cond b jobs (insert_before (λ (other : JobId). nat_lt j.0 other.0) j jobs)) new in
          let rows = creates.rows ∙ ap (with_row (handle_row x j)) x-rows.rows ∙ sym (ap (λ (list : List JobId). by_name (map (handle_row x) list)) more_here ∙ by_name-insert (handle_row x) (λ (other : JobId). nat_lt j.0 other.0) j jobs apart) in
          each-table _ u (changed-lays s t u x (with_handle j) good lays creates.stays creates.live creates.begun (record { rows = rows; leaves = creates.leaves x-rows.leaves })) k

-- # a job gives its handle of a semaphore back

-- each of the jobs has a place
abbrev pub AreJobs : List JobId → Type 0
AreJobs jobs = AllByRecursion (λ k. IsGood (Job k)) jobs

-- a job among those with a place has one
job-good : (j : JobId) (jobs : List JobId) → AreJobs jobs → is_among j jobs ≡ true → IsGood (Job j)
job-good j [] all any = absurd cc
job-good j (other ∷ jobs) all any = grind (arith, nat_tests, job-good j jobs all.1)

-- a handle is one of a semaphore of the site, and of a job with a place
there-good : (j : JobId) (list : List (List JobId)) (at : ℕ) → AllByRecursion AreJobs list → is_among j (unwrap_or (slice_get list at) []) ≡ true → (at < length list) × IsGood (Job j)
there-good j [] at all any = absurd cc
there-good j (jobs ∷ list) zero all any = (omega arith, job-good j jobs all.0 any)
there-good j (jobs ∷ list) (suc at) all any = let later = there-good j list at all.1 any in (let low = later.0 in omega arith, later.1)

pub handle-good : (j : JobId) (x : SemId) (s : State) → HasGoodIds s → has_handle j s.handles x ≡ true → IsGood (Handle x j)
handle-good j x s good has =
    let there = there-good j s.handles x.0 good.handles has in
    let few = good.semaphores in
    let low = there.0 in
    (omega arith, there.1)

-- ## the handles of one semaphore

without-or : (j : JobId) (o : Option (List JobId)) → unwrap_or (option_map (without_handle j) o) [] ≡ without_handle j (unwrap_or o [])
without-or j o = grind arith

-- the delete of a handle lays out the state in which the job has none
pub handles_go-lay-out : HandlesGoLayOut
handles_go-lay-out s t w x j may has = record { goes = gone.goes; lays = changed-lays s t (after_part t w (delete p)) x (without_handle j) may.good may.lays gone.row.stays gone.row.live gone.row.begun (record { rows = rows; leaves = gone.row.leaves x-has.leaves }) } where
  p : Place
  p = Handle x j

  jobs : List JobId
  jobs = handles_of x s.handles

  own : Row → Bool
  own = is_named (place_name p)

  low : x.0 < length s.handles
  low = (there-good j s.handles x.0 may.good.handles has).0

  p-good : IsGood p
  p-good = handle-good j x s may.good has

  -- what the tree has below the semaphore
  x-has : HasHandles s.handles t x
  x-has = at-range (λ at. HasHandles s.handles t (record { 0 = at })) (length s.handles) 0 x.0 (omega arith) (omega (arith, low)) may.lays.semaphores.each

  names : AllByRecursion (λ other. own (handle_row x other) ≡ (other.0 == j.0)) jobs
  names = all-weaker (λ (other : JobId). IsGood (Handle x other)) (λ (other : JobId). own (handle_row x other) ≡ (other.0 == j.0)) (λ other other_good. named-by x j other (other.0 == j.0) refl p-good other_good) jobs (handles-good s x may.good low)

  row : (r : Row) × (find own (under (Semaphore x) t) ≡ Some r)
  row = any-found own (under (Semaphore x) t) (ap (list_any own) x-has.rows ∙ any-by_name own (map (handle_row x) jobs) ∙ any-mapped (handle_row x) own (λ other. other.0 == j.0) jobs names ∙ has)

  gone : DeleteGoes t w (Semaphore x) p
  gone = delete-goes t w (Semaphore x) p row.0 p-good refl may.whole may.live may.room.change row.1 (bare-leaf t (Semaphore x) p row.0 refl x-has.leaves row.1)

  -- the handles of the semaphore are those without the job's
  rows : under (Semaphore x) (after_part t w (delete p)) ≡ by_name (map (handle_row x) (handles_of x (change_at x.0 (without_handle j) s.handles)))
  rows =
      gone.row.rows ∙ ap (filter (is_other (place_name p))) x-has.rows
      ∙ by_name-kept (is_other (place_name p)) (map (handle_row x) jobs) (subst (Rises row_before) x-has.rows (rows-rise t (path_of (Semaphore x)) may.whole))
      ∙ ap by_name (filter-mapped (handle_row x) (is_other (place_name p)) (λ other. not (other.0 == j.0)) jobs
      (all-weaker (λ (other : JobId). own (handle_row x other) ≡ (other.0 == j.0)) (λ (other : JobId). is_other (place_name p) (handle_row x other) ≡ not (other.0 == j.0)) (λ other same. ap not same) jobs names)
      ∙ ap (map (handle_row x)) (sym (ap (λ (o : Option (List JobId)). unwrap_or o []) (slice_get-change_at x.0 (without_handle j) s.handles) ∙ without-or j (slice_get s.handles x.0))))
