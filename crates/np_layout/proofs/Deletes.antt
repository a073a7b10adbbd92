-- a wait, a queue, a node or a request goes, and the tree lays out what is left
use Rattle.np_layout.proofs.Prelude.{AllByRecursion, AllZip, Any, AreNodes, AreRequests, Bool, Goes, HasGoodIds, HasLeaves, HasNodeLock, HasQueue, IsGood, IsNodeRow, IsOk, IsWait, IsWhole, LaysOut, List, MayDelete, Node, NodeEntry, NodeId, NodeLock, NodeWait, NodeWaitsGoLayOut, Nodes, Op, Option, PartsLayOut, Place, Request, RequestEntry, RequestId, RequestLock, RequestLocks, RequestWait, RequestWaitsGoLayOut, Requests, Rises, Row, SessionId, Some, State, TreeState, [], above, after_part, all-filter_to, all-find, all-weaker, ap, append_assoc, arith, below, bytes_eq, bytes_eq-from, codes, cond, delete, delete_parts, false, filter, filter-not_none, find, find-passes, find_named, goes-after, goes-joined, is_in, is_named, left, list_any, map, nat_tests, next_under, node-itself, node_deletes, node_entry, node_queue, not, not-true, option_map_or, other-name_back, part_answer, path_of, persistent, place_name, put_node_queue, put_request_queue, refl, remove_first, remove_node, remove_request, request-equal, request-itself, request_deletes, request_entry, request_lock_row, request_queue, request_row, room-gives, row_before, rows-rise, rows_at, same_request, subst, sym, ten_digits_of, true, under, ℕ, ◌++◌, ◌+◌, ◌<◌, ◌==◌, ◌^◌, ◌∙◌, ◌∷◌, ◌≡◌, ◌≤◌}
use Rattle.np_layout.proofs.Steps.{DeleteGoes, bare-leaf, bare-owned, delete-goes, is_other, named-other, over_leaves, places_without, queue-left, wait-goes}
use Rattle.np_layout.proofs.Rows.{IsOnce, Tells, any-found, any-mapped, any-told, change-one, filter-mapped, filter-removed, found-any, map-change_first, once-told, tells-mapped, zip-change_first, zip-filter}
use Rattle.np_layout.proofs.Elsewhere.{IsApart, IsBeside, Says, Stays, Table, all-tables, counter-stays, each-table, has_counter, has_leaves, is_touched, leaves-stay, node_lock-stays, of_node_locks, of_nodes, of_request_locks, of_requests, queue-stays, rows-stay, stays-both, stays-same, stays-wider, table-stays}
use Rattle.np_layout.proofs.Names.{IsGood-above, path_of-joined}

-- # the name of a place with an id tells the id

-- a number that has an id of its own type
pub node-same : (a b : NodeId) → (a.0 == b.0) ≡ true → a ≡ b
node-same a b same = let number : a.0 ≡ b.0 = grind (arith, nat_tests) in ap (λ (n : ℕ). record { 0 = n }) number

-- siblings with ids have the same name as the ids are the same
pub named-as : {I : Type 0} (place : I → Place) (same : I → I → Bool) → ((a b : I) → place a ≡ place b → a ≡ b) → ((a b : I) → above (place a) ≡ above (place b)) → ((a b : I) → same a b ≡ true → a ≡ b) → ((a : I) → same a a ≡ true) →
    (a b : I) (is : Bool) → same a b ≡ is → IsGood (place b) → IsGood (place a) → bytes_eq (place_name (place a)) (place_name (place b)) ≡ is
named-as place same back siblings equal itself a b true is b_good a_good = bytes_eq-from (place_name (place a)) (place_name (place b)) (ap (λ (i : _). place_name (place i)) (equal a b is))
named-as place same back siblings equal itself a b false is b_good a_good =
    named-other (place b) (place a) b_good a_good (siblings a b) (λ one. let both = ap (same a) (back a b one) in let here = itself a in absurd cc)

pub request-named : (r id : RequestId) (b : Bool) → same_request id r ≡ b → IsGood (Request r) → IsGood (Request id) → bytes_eq (place_name (Request id)) (place_name (Request r)) ≡ b
request-named r id = named-as Request same_request (λ a b one. cc) (λ a b. refl) request-equal request-itself id r

pub node-named : (n id : NodeId) (b : Bool) → (id.0 == n.0) ≡ b → IsGood (Node n) → IsGood (Node id) → bytes_eq (place_name (Node id)) (place_name (Node n)) ≡ b
node-named n id = named-as Node (λ a b. a.0 == b.0) (λ a b one. cc) (λ a b. refl) node-same node-itself id n

-- # a session leaves a node's queue

-- ## the node among others

module _ (n : NodeId) where
  abbrev pub is_node_it : NodeEntry → Bool
  is_node_it e = e.id.0 == n.0

  -- it has the id that it is found by
  pub found-node : (entries : List NodeEntry) (e : NodeEntry) → node_entry n entries ≡ Some e → e.id ≡ n
  found-node entries e there = node-same e.id n (find-passes is_node_it entries e there)

  -- its id is good
  pub node-good : (entries : List NodeEntry) (e : NodeEntry) → AllByRecursion (λ x. IsGood (Node x.id)) entries → node_entry n entries ≡ Some e → IsGood (Node n)
  node-good entries e good there = subst (λ (id : NodeId). IsGood (Node id)) (found-node entries e there) (all-find (λ (x : NodeEntry). IsGood (Node x.id)) is_node_it entries e good there)

  -- the rows' names tell it
  pub node-tells : (rows : List Row) (entries : List NodeEntry) → IsGood (Node n) → AllByRecursion (λ x. IsGood (Node x.id)) entries → AllZip IsNodeRow rows entries → Tells (place_name (Node n)) is_node_it rows entries
  node-tells [] [] n_good good all = tt
  node-tells (row ∷ rows) (e ∷ entries) n_good good all =
      (ap (λ (x : Row). bytes_eq x.name (place_name (Node n))) all.0.is ∙ node-named n e.id (is_node_it e) refl n_good good.0, node-tells rows entries n_good good.1 all.1)
  node-tells _ _ n_good good all = absurd all

  -- it is there once
  pub node-once : (s : State) (t : TreeState) → IsWhole t.nodes → HasGoodIds s → LaysOut s t → IsGood (Node n) → IsOnce is_node_it s.nodes
  node-once s t whole good lays n_good =
      once-told (place_name (Node n)) is_node_it (under Nodes t) s.nodes (rows-rise t (path_of Nodes) whole) (node-tells (under Nodes t) s.nodes n_good good.nodes lays.nodes.rows)

  -- another id is not it
  pub node-other : (id : NodeId) → (id.0 == n.0) ≡ false → id ≡ n → ⊥
  node-other id other is = let both = ap (λ (x : NodeId). id.0 == x.0) is in let itself = node-itself id in absurd cc

-- ## it has another queue

module _ (s : State) (t u : TreeState) (n : NodeId) (e : NodeEntry) (queue : List SessionId) (whole : IsWhole t.nodes) (good : HasGoodIds s) (lays : LaysOut s t) (there : node_entry n s.nodes ≡ Some e)
    (stays : Stays (NodeLock n ∷ []) t u) (live : u.live ≡ t.live) (begun : u.begun ≡ t.begun) (has : HasQueue (NodeLock n) queue u) where
  abbrev put : NodeEntry → NodeEntry
  put x = record x { queue = queue }

  others : (k : Table) → is_touched (NodeLock n ∷ []) k ≡ false → Says s u k
  others k none = table-stays s (NodeLock n ∷ []) t u good stays live begun k none (each-table s t lays k)

  pub node_queue-lays : LaysOut (record s { nodes = put_node_queue n queue s.nodes }) u
  node_queue-lays = all-tables _ _ each where
    nodes : AreNodes s.nodes s.next_node u
    nodes = others of_nodes refl

    each : (k : Table) → Says (record s { nodes = put_node_queue n queue s.nodes }) u k
    each of_nodes = record { rows = zip-change_first (is_node_it n) put IsNodeRow (λ row x is. record { is = is.is; spells = is.spells }) (under Nodes u) s.nodes nodes.rows; gives = nodes.gives }
    each of_node_locks = change-one (is_node_it n) put (λ (x : NodeEntry). IsGood (Node x.id)) (HasNodeLock t) (HasNodeLock u)
        (λ x is x_good old. record { rows = rows-stay (NodeLock n ∷ []) t u stays (Node x.id) x_good refl ∙ old.rows; queue = subst (λ (id : NodeId). HasQueue (NodeLock id) queue u) (sym (node-same x.id n is)) has })
        (λ x other x_good old. node_lock-stays (NodeLock n ∷ []) t u stays x x_good ((λ same. cc), tt) ((λ same. node-other n x.id other (cc)), tt) old)
        s.nodes (node-once n s t whole good lays (node-good n s.nodes e good.nodes there)) good.nodes lays.node_locks
    each k = others k refl

-- the lock of the node in the tree
pub node-lock : (s : State) (t : TreeState) (n : NodeId) (e : NodeEntry) → LaysOut s t → node_entry n s.nodes ≡ Some e → HasNodeLock t (record e { id = n })
node-lock s t n e lays there = subst (λ (id : NodeId). HasNodeLock t (record e { id = id })) (found-node n s.nodes e there) (all-find (HasNodeLock t) (is_node_it n) s.nodes e lays.node_locks there)

-- the queue of the node in the tree
pub node-queue : (s : State) (t : TreeState) (n : NodeId) (e : NodeEntry) → LaysOut s t → node_entry n s.nodes ≡ Some e → HasQueue (NodeLock n) (node_queue n s.nodes) t
node-queue s t n e lays there =
    subst (λ (list : List SessionId). HasQueue (NodeLock n) list t) (sym (ap (λ (o : Option NodeEntry). option_map_or (λ x. x.queue) o []) there)) (node-lock s t n e lays there).queue

-- the delete of a wait lays out the state in which the session is not in the queue
pub node_waits-lay-out : NodeWaitsGoLayOut
node_waits-lay-out s t w n e session number at may good there distinct waits =
    let p : Place = NodeWait n number in
    let goes = wait-goes s t w (NodeLock n) p session number at may good refl refl waits in
    record {
      goes = goes.goes;
      lays = node_queue-lays s t (after_part t w (delete p)) n e (left session (node_queue n s.nodes)) may.whole may.good may.lays there goes.row.stays goes.row.live goes.row.begun
          (queue-left s t (after_part t w (delete p)) w (NodeLock n) p session number at (node_queue n s.nodes) may refl distinct (node-queue s t n e may.lays there) waits goes.row);
    }

-- # a session leaves a request's queue

-- ## the request among others

module _ (r : RequestId) where
  abbrev pub is_request_it : RequestEntry → Bool
  is_request_it e = same_request e.id r

  -- it has the id that it is found by
  pub found-request : (entries : List RequestEntry) (e : RequestEntry) → request_entry r entries ≡ Some e → e.id ≡ r
  found-request entries e there = request-equal e.id r (find-passes is_request_it entries e there)

  -- its id is good
  pub request-good : (entries : List RequestEntry) (e : RequestEntry) → AllByRecursion (λ x. IsGood (Request x.id)) entries → request_entry r entries ≡ Some e → IsGood (Request r)
  request-good entries e good there = subst (λ (id : RequestId). IsGood (Request id)) (found-request entries e there) (all-find (λ (x : RequestEntry). IsGood (Request x.id)) is_request_it entries e good there)

  -- the locks' names tell it
  pub lock-names : (entries : List RequestEntry) → IsGood (Request r) → AllByRecursion (λ x. IsGood (Request x.id)) entries → AllByRecursion (λ x. is_named (place_name (RequestLock r)) (request_lock_row x) ≡ is_request_it x) entries
  lock-names entries r_good good = all-weaker (λ (x : RequestEntry). IsGood (Request x.id)) (λ (x : RequestEntry). is_named (place_name (RequestLock r)) (request_lock_row x) ≡ is_request_it x) (λ x x_good. request-named r x.id (is_request_it x) refl r_good x_good) entries good

  -- it is there once
  pub request-once : (s : State) (t : TreeState) → IsWhole t.nodes → HasGoodIds s → LaysOut s t → IsGood (Request r) → IsOnce is_request_it s.requests
  request-once s t whole good lays r_good =
      once-told (place_name (RequestLock r)) is_request_it (map request_lock_row s.requests) s.requests
      (subst (Rises row_before) lays.request_locks.rows (rows-rise t (path_of RequestLocks) whole))
      (tells-mapped (place_name (RequestLock r)) is_request_it request_lock_row s.requests (lock-names s.requests r_good good.requests))

  -- another id has another lock
  pub lock-apart : (id : RequestId) → same_request id r ≡ false → RequestLock id ≡ RequestLock r → ⊥
  lock-apart id other same = let is : id ≡ r = cc in let both = ap (same_request id) is in let itself = request-itself id in absurd cc

-- ## it has another queue

module _ (s : State) (t u : TreeState) (r : RequestId) (e : RequestEntry) (queue : List SessionId) (whole : IsWhole t.nodes) (good : HasGoodIds s) (lays : LaysOut s t) (there : request_entry r s.requests ≡ Some e)
    (stays : Stays (RequestLock r ∷ []) t u) (live : u.live ≡ t.live) (begun : u.begun ≡ t.begun) (has : HasQueue (RequestLock r) queue u) where
  abbrev put_request : RequestEntry → RequestEntry
  put_request x = record x { queue = queue }

  request-others : (k : Table) → is_touched (RequestLock r ∷ []) k ≡ false → Says s u k
  request-others k none = table-stays s (RequestLock r ∷ []) t u good stays live begun k none (each-table s t lays k)

  pub request_queue-lays : LaysOut (record s { requests = put_request_queue r queue s.requests }) u
  request_queue-lays = all-tables _ _ each where
    requests : AreRequests s.requests s.next_request u
    requests = request-others of_requests refl

    each : (k : Table) → Says (record s { requests = put_request_queue r queue s.requests }) u k
    each of_requests = record { rows = requests.rows ∙ sym (map-change_first (is_request_it r) put_request request_row (λ x. refl) s.requests); leaves = requests.leaves; gives = requests.gives }
    each of_request_locks = record {
      rows = rows-stay (RequestLock r ∷ []) t u stays RequestLocks tt refl ∙ lays.request_locks.rows ∙ sym (map-change_first (is_request_it r) put_request request_lock_row (λ x. refl) s.requests);
      queues = change-one (is_request_it r) put_request (λ (x : RequestEntry). IsGood (Request x.id)) (λ (x : RequestEntry). HasQueue (RequestLock x.id) x.queue t) (λ (x : RequestEntry). HasQueue (RequestLock x.id) x.queue u)
          (λ x is x_good old. subst (λ (id : RequestId). HasQueue (RequestLock id) queue u) (sym (request-equal x.id r is)) has)
          (λ x other x_good old. queue-stays (RequestLock r ∷ []) t u stays (RequestLock x.id) x.queue x_good refl (lock-apart r x.id other, tt) old)
          s.requests (request-once r s t whole good lays (request-good r s.requests e good.requests there)) good.requests lays.request_locks.queues;
    }
    each k = request-others k refl

-- the row of its lock is there
pub lock-any : (s : State) (r : RequestId) (e : RequestEntry) → HasGoodIds s → request_entry r s.requests ≡ Some e → list_any (is_named (place_name (RequestLock r))) (map request_lock_row s.requests) ≡ true
lock-any s r e good there =
    any-mapped request_lock_row (is_named (place_name (RequestLock r))) (is_request_it r) s.requests (lock-names r s.requests (request-good r s.requests e good.requests there) good.requests)
    ∙ found-any (is_request_it r) e s.requests there

-- the queue of the request in the tree
pub request-queue : (s : State) (t : TreeState) (r : RequestId) (e : RequestEntry) → LaysOut s t → request_entry r s.requests ≡ Some e → HasQueue (RequestLock r) (request_queue r s.requests) t
request-queue s t r e lays there =
    subst (λ (list : List SessionId). HasQueue (RequestLock r) list t) (sym (ap (λ (o : Option RequestEntry). option_map_or (λ x. x.queue) o []) there))
    (subst (λ (id : RequestId). HasQueue (RequestLock id) e.queue t) (found-request r s.requests e there) (all-find (λ (x : RequestEntry). HasQueue (RequestLock x.id) x.queue t) (is_request_it r) s.requests e lays.request_locks.queues there))

-- the delete of a wait lays out the state in which the session is not in the queue
pub request_waits-lay-out : RequestWaitsGoLayOut
request_waits-lay-out s t w r e session number at may good there distinct waits =
    let p : Place = RequestWait r number in
    let goes = wait-goes s t w (RequestLock r) p session number at may good refl refl waits in
    record {
      goes = goes.goes;
      lays = request_queue-lays s t (after_part t w (delete p)) r e (left session (request_queue r s.requests)) may.whole may.good may.lays there goes.row.stays goes.row.live goes.row.begun
          (queue-left s t (after_part t w (delete p)) w (RequestLock r) p session number at (request_queue r s.requests) may refl distinct (request-queue s t r e may.lays there) waits goes.row);
    }

-- # several deletes: a queue is cleared, and what stays of a layout when a request or a node goes

-- ## lists

pub all-pair : {A : Type 0} (P Q : A → Type 0) (list : List A) → AllByRecursion P list → AllByRecursion Q list → AllByRecursion (λ a. P a × Q a) list
all-pair P Q [] first last = tt
all-pair P Q (a ∷ list) first last = ((first.0, last.0), all-pair P Q list first.1 last.1)

-- ## a queue is cleared

-- some parts go, and all but these directories is as it was
pub record Gone (t : TreeState) (w : ℕ) (parts : List Op) (dirs : List Place) : Type 0 where
  pub u : TreeState
  pub goes : Goes t w parts u
  pub whole : IsWhole u.nodes
  pub live : u.live ≡ t.live
  pub begun : u.begun ≡ t.begun
  pub changes : u.changes ≡ t.changes
  pub stays : Stays dirs t u

-- the deletes of a lock's rows do, and it has none then
pub record Cleared (t : TreeState) (w : ℕ) (lock : Place) (rows : List Row) : Type 0 where
  pub gone : Gone t w (delete_parts (path_of lock) rows) (lock ∷ [])
  pub empty : under lock gone.u ≡ []

-- the places of a lock's waits
pub record AreWaits (lock : Place) (place : ℕ → Place) : Type 0 where
  pub good : (number : ℕ) → number < 2 ^ 32 → IsGood (place number)
  pub over : (number : ℕ) → above (place number) ≡ Some lock
  pub named : (number : ℕ) → place_name (place number) ≡ codes "lock-" ++ ten_digits_of number
  pub none : (number : ℕ) → has_counter (place number) ≡ false
  pub top : over_leaves (above lock) ≡ false

pub node-waits : (n : NodeId) → IsGood (Node n) → AreWaits (NodeLock n) (NodeWait n)
node-waits n good = record { good = λ number low. (good, low); over = λ number. refl; named = λ number. refl; none = λ number. refl; top = refl }

pub request-waits : (r : RequestId) → IsGood (Request r) → AreWaits (RequestLock r) (RequestWait r)
request-waits r good = record { good = λ number low. (good, low); over = λ number. refl; named = λ number. refl; none = λ number. refl; top = refl }

-- the row of the name is the first
first-gone : (name : List ℕ) (row : Row) (rows : List Row) → row.name ≡ name → Rises row_before (row ∷ rows) → filter (is_other name) (row ∷ rows) ≡ rows
first-gone name row rows named rises =
    ap (λ (b : Bool). cond (not b) (row ∷ filter (is_other name) rows) (filter (is_other name) rows)) (bytes_eq-from row.name name named)
    ∙ filter-not_none (is_named name) rows (all-weaker (λ (other : Row). row_before row other ≡ true) (λ (other : Row). is_named name other ≡ false) (λ other before. subst (λ (n : List ℕ). is_named n other ≡ false) named (other-name_back row other before)) rows rises.0)

module _ (w : ℕ) (lock : Place) (place : ℕ → Place) (are : AreWaits lock place) (next : ℕ) (few : next ≤ 2 ^ 32) where
  pub clear : (queue : List SessionId) (rows : List Row) (t : TreeState) → IsWhole t.nodes → is_in t.live w ≡ true → t.changes < 18_446_744_073_709_551_615 → under lock t ≡ rows → AllZip (IsWait next) rows queue → Cleared t w lock rows
  clear [] [] t whole live change same all = record {
    gone = record { u = t; goes = refl; whole = whole; live = refl; begun = refl; changes = refl; stays = stays-same (lock ∷ []) t };
    empty = same;
  }
  clear (x ∷ queue) (row ∷ rows) t whole live change same all =
      let number : ℕ = all.0.number in
      let given : number < next = all.0.given in
      let p : Place = place number in
      let good = are.good number (omega arith) in
      let named : row.name ≡ place_name p = ap (λ (r : Row). r.name) all.0.is ∙ sym (are.named number) in
      let found : find_named (place_name p) (under lock t) ≡ Some row =
      ap (find_named (place_name p)) same ∙ ap (λ (b : Bool). cond b (Some row) (find (is_named (place_name p)) rows)) (bytes_eq-from row.name (place_name p) named) in
      let bare = bare-owned t lock p row (x.0 + 1) good (are.over number) whole found (ap (λ (r : Row). r.owner) all.0.is) in
      let one : DeleteGoes t w lock p = delete-goes t w lock p row good (are.over number) whole live change found bare in
      let v : TreeState = after_part t w (delete p) in
      let left : under lock v ≡ rows =
      one.row.rows ∙ ap (filter (is_other (place_name p))) same ∙ first-gone (place_name p) row rows named (subst (Rises row_before) same (rows-rise t (path_of lock) whole)) in
      let rest : Cleared v w lock rows = clear queue rows v one.row.whole live change left all.1 in
      let path : path_of p ≡ below (path_of lock) row.name = path_of-joined p lock (are.over number) ∙ ap (below (path_of lock)) (sym named) in
      record {
        gone = record {
          u = rest.gone.u;
          goes = subst (λ (at : List ℕ). IsOk (part_answer t w (Op.Delete at Any)) × Goes (after_part t w (Op.Delete at Any)) w (delete_parts (path_of lock) rows) rest.gone.u) path (one.goes, rest.gone.goes);
          whole = rest.gone.whole;
          live = rest.gone.live ∙ one.row.live;
          begun = rest.gone.begun ∙ one.row.begun;
          changes = rest.gone.changes;
          stays = stays-both (lock ∷ []) t v rest.gone.u (subst (λ (b : Bool). Stays (lock ∷ cond b (p ∷ []) []) t v) (are.none number) one.row.stays) rest.gone.stays;
        };
        empty = rest.empty;
      }
  clear _ _ t whole live change same all = absurd all

pub cleared : (s : State) (t : TreeState) (w : ℕ) (lock : Place) (place : ℕ → Place) (queue : List SessionId) → MayDelete s t w → AreWaits lock place → HasQueue lock queue t → Cleared t w lock (under lock t)
cleared s t w lock place queue may are is =
    let few : is.next ≤ 2 ^ 32 = omega (arith, (room-gives t 0 may.room).counter (path_of lock) is.next is.gives) in
    clear w lock place are is.next few queue (under lock t) t may.whole may.live may.room.change refl is.waits

-- ## then the lock goes, and then its record

-- one more is gone, from a directory
pub record GoneFrom (t : TreeState) (w : ℕ) (parts : List Op) (dirs : List Place) (dir p : Place) (v : TreeState) : Type 0 where
  pub gone : Gone t w (parts ++ delete p ∷ []) (dir ∷ dirs)
  pub last : Stays (places_without dir p) v gone.u
  pub rows : under dir gone.u ≡ filter (is_other (place_name p)) (under dir t)
  pub leaves : has_leaves dir ≡ true → HasLeaves dir t → HasLeaves dir gone.u
  pub gives : (next : ℕ) → has_counter dir ≡ true → next_under dir t ≡ Some next → next_under dir gone.u ≡ Some next

pub then-gone : (s : State) (t : TreeState) (w : ℕ) (parts : List Op) (dirs : List Place) (dir p : Place) (row : Row) → MayDelete s t w → (before : Gone t w parts dirs) → IsGood p → above p ≡ Some dir → IsBeside dir dirs →
    ((other : Place) → IsApart other (dir ∷ dirs) → IsApart other (places_without dir p)) → find_named (place_name p) (under dir t) ≡ Some row → rows_at before.u (path_of p) ≡ [] → GoneFrom t w parts dirs dir p before.u
then-gone s t w parts dirs dir p row may before good top beside within there bare =
    let v : TreeState = before.u in
    let dir_good : IsGood dir = IsGood-above p dir good top in
    let still : under dir v ≡ under dir t = rows-stay dirs t v before.stays dir dir_good beside in
    let live : is_in v.live w ≡ true = ap (λ (list : List ℕ). is_in list w) before.live ∙ may.live in
    let change : v.changes < 18_446_744_073_709_551_615 = omega (arith, may.room.change, before.changes) in
    let one : DeleteGoes v w dir p = delete-goes v w dir p row good top before.whole live change (ap (find_named (place_name p)) still ∙ there) bare in
    let end : TreeState = after_part v w (delete p) in
    record {
      gone = record {
        u = end;
        goes = goes-joined t v end w parts (delete p ∷ []) before.goes (one.goes, refl);
        whole = one.row.whole;
        live = one.row.live ∙ before.live;
        begun = one.row.begun ∙ before.begun;
        changes = before.changes;
        stays = stays-both (dir ∷ dirs) t v end (stays-wider dirs (dir ∷ dirs) t v (λ other apart. apart.1) before.stays) (stays-wider (places_without dir p) (dir ∷ dirs) v end within one.row.stays);
      };
      last = one.row.stays;
      rows = one.row.rows ∙ ap (filter (is_other (place_name p))) still;
      leaves = λ has leaves. one.row.leaves (leaves-stay dirs t v before.stays dir dir_good has beside leaves);
      gives = λ next has is. one.row.counter ∙ counter-stays dirs t v before.stays dir next dir_good has beside is;
    }

-- what the deletes of a lock's waits, of the lock and of its record leave is the tree after them
parts-after : (s : State) (t u : TreeState) (w : ℕ) (waits : List Op) (lock p : Place) → Goes t w ((waits ++ delete lock ∷ []) ++ delete p ∷ []) u → LaysOut s u → PartsLayOut s t w (waits ++ delete lock ∷ delete p ∷ [])
parts-after s t u w waits lock p goes lays =
    let parts : List Op = waits ++ delete lock ∷ delete p ∷ [] in
    let all : Goes t w parts u = subst (λ (list : List Op). Goes t w list u) (append_assoc waits (delete lock ∷ []) (delete p ∷ [])) goes in
    let same = sym (goes-after t u w parts all) in
    record { goes = subst (λ (v : TreeState). Goes t w parts v) same all; lays = subst (λ (v : TreeState). LaysOut s v) same lays }

-- # a node goes

module _ (s : State) (t : TreeState) (w : ℕ) (n : NodeId) (e : NodeEntry) (may : MayDelete s t w) (there : node_entry n s.nodes ≡ Some e) where
  abbrev it : NodeEntry → Bool
  it = is_node_it n

  abbrev name : List ℕ
  name = place_name (Node n)

  n-good : IsGood (Node n)
  n-good = node-good n s.nodes e may.good.nodes there

  once : IsOnce it s.nodes
  once = node-once n s t may.whole may.good may.lays n-good

  lock : HasNodeLock t (record e { id = n })
  lock = node-lock s t n e may.lays there

  abbrev waits : List Op
  waits = delete_parts (path_of (NodeLock n)) (under (NodeLock n) t)

  clears : Cleared t w (NodeLock n) (under (NodeLock n) t)
  clears = cleared s t w (NodeLock n) (NodeWait n) (node_queue n s.nodes) may (node-waits n n-good) (node-queue s t n e may.lays there)

  lock-gone : GoneFrom t w waits (NodeLock n ∷ []) (Node n) (NodeLock n) clears.gone.u
  lock-gone = then-gone s t w waits (NodeLock n ∷ []) (Node n) (NodeLock n) (persistent (NodeLock n) []) may clears.gone n-good refl refl (λ other apart. apart) (ap (find_named (place_name (NodeLock n))) lock.rows) clears.empty

  tell : Tells name it (under Nodes t) s.nodes
  tell = node-tells n (under Nodes t) s.nodes n-good may.good.nodes may.lays.nodes.rows

  record-row : (row : Row) × (find (is_named name) (under Nodes t) ≡ Some row)
  record-row = any-found (is_named name) (under Nodes t) (any-told name it (under Nodes t) s.nodes tell ∙ found-any it e s.nodes there)

  ends : GoneFrom t w (waits ++ delete (NodeLock n) ∷ []) (Node n ∷ NodeLock n ∷ []) Nodes (Node n) lock-gone.gone.u
  ends = then-gone s t w (waits ++ delete (NodeLock n) ∷ []) (Node n ∷ NodeLock n ∷ []) Nodes (Node n) record-row.0 may lock-gone.gone n-good refl refl (λ other apart. (apart.0, tt)) record-row.1
      (lock-gone.rows ∙ ap (filter (is_other (place_name (NodeLock n)))) lock.rows)

  node-gone : LaysOut (record s { nodes = remove_node n s.nodes }) ends.gone.u
  node-gone = all-tables _ _ each where
    each : (k : Table) → Says (record s { nodes = remove_node n s.nodes }) ends.gone.u k
    each of_nodes = record {
      rows = subst (λ (rows : List Row). AllZip IsNodeRow rows (remove_first it s.nodes)) (sym ends.rows)
          (subst (λ (list : List NodeEntry). AllZip IsNodeRow (filter (is_other name) (under Nodes t)) list) (filter-removed it s.nodes once)
          (zip-filter it IsNodeRow (is_named name) (under Nodes t) s.nodes tell may.lays.nodes.rows));
      gives = ends.gives s.next_node refl may.lays.nodes.gives;
    }
    each of_node_locks = subst (AllByRecursion (HasNodeLock ends.gone.u)) (filter-removed it s.nodes once)
        (all-filter_to (λ (x : NodeEntry). IsGood (Node x.id) × HasNodeLock t x) (HasNodeLock ends.gone.u) (λ x. not (it x)) s.nodes
        (λ x kept has.
        let other = not-true (it x) kept in
        node_lock-stays (Nodes ∷ Node n ∷ NodeLock n ∷ []) t ends.gone.u ends.gone.stays x has.0
        ((λ same. cc), ((λ same. node-other n x.id other (cc)), ((λ same. cc), tt))) ((λ same. cc), ((λ same. cc), ((λ same. node-other n x.id other (cc)), tt))) has.1)
        (all-pair (λ (x : NodeEntry). IsGood (Node x.id)) (HasNodeLock t) s.nodes may.good.nodes may.lays.node_locks))
    each k = table-stays s (Nodes ∷ Node n ∷ NodeLock n ∷ []) t ends.gone.u may.good ends.gone.stays ends.gone.live ends.gone.begun k refl (each-table s t may.lays k)

  -- the deletes of a node's waits, of its lock and of its record lay out the state without it
  pub nodes_go-lay-out : PartsLayOut (record s { nodes = remove_node n s.nodes }) t w (node_deletes n t)
  nodes_go-lay-out = parts-after _ t ends.gone.u w waits (NodeLock n) (Node n) ends.gone.goes node-gone

-- # a request goes

module _ (s : State) (t : TreeState) (w : ℕ) (r : RequestId) (e : RequestEntry) (may : MayDelete s t w) (there : request_entry r s.requests ≡ Some e) where
  abbrev request_test : RequestEntry → Bool
  request_test = is_request_it r

  abbrev request_name : List ℕ
  request_name = place_name (Request r)

  r-good : IsGood (Request r)
  r-good = request-good r s.requests e may.good.requests there

  request-is-once : IsOnce request_test s.requests
  request-is-once = request-once r s t may.whole may.good may.lays r-good

  lock-row : (row : Row) × (find (is_named request_name) (under RequestLocks t) ≡ Some row)
  lock-row = any-found (is_named request_name) (under RequestLocks t) (ap (list_any (is_named request_name)) may.lays.request_locks.rows ∙ lock-any s r e may.good there)

  abbrev request_waits : List Op
  request_waits = delete_parts (path_of (RequestLock r)) (under (RequestLock r) t)

  request-clears : Cleared t w (RequestLock r) (under (RequestLock r) t)
  request-clears = cleared s t w (RequestLock r) (RequestWait r) (request_queue r s.requests) may (request-waits r r-good) (request-queue s t r e may.lays there)

  request-lock-goes : GoneFrom t w request_waits (RequestLock r ∷ []) RequestLocks (RequestLock r) request-clears.gone.u
  request-lock-goes = then-gone s t w request_waits (RequestLock r ∷ []) RequestLocks (RequestLock r) lock-row.0 may request-clears.gone r-good refl refl (λ other apart. apart) lock-row.1 request-clears.empty

  -- the names of records and of locks tell it
  names : AllByRecursion (λ x. is_named request_name (request_row x) ≡ request_test x) s.requests
  names = lock-names r s.requests r-good may.good.requests

  request-record-row : (row : Row) × (find (is_named request_name) (under Requests t) ≡ Some row)
  request-record-row = any-found (is_named request_name) (under Requests t) (ap (list_any (is_named request_name)) may.lays.requests.rows ∙ any-mapped request_row (is_named request_name) request_test s.requests names ∙ found-any request_test e s.requests there)

  request-ends : GoneFrom t w (request_waits ++ delete (RequestLock r) ∷ []) (RequestLocks ∷ RequestLock r ∷ []) Requests (Request r) request-lock-goes.gone.u
  request-ends =
      let v : TreeState = request-lock-goes.gone.u in
      let stays = request-lock-goes.gone.stays in
      let still : find_named request_name (under Requests v) ≡ Some request-record-row.0 = ap (find_named request_name) (rows-stay (RequestLocks ∷ RequestLock r ∷ []) t v stays Requests tt refl) ∙ request-record-row.1 in
      then-gone s t w (request_waits ++ delete (RequestLock r) ∷ []) (RequestLocks ∷ RequestLock r ∷ []) Requests (Request r) request-record-row.0 may request-lock-goes.gone r-good refl refl (λ other apart. (apart.0, tt)) request-record-row.1
      (bare-leaf v Requests (Request r) request-record-row.0 refl (leaves-stay (RequestLocks ∷ RequestLock r ∷ []) t v stays Requests tt refl refl may.lays.requests.leaves) still)

  -- rows of other names are those of other requests
  rows-left : (row : RequestEntry → Row) → AllByRecursion (λ x. is_named request_name (row x) ≡ request_test x) s.requests → filter (is_other request_name) (map row s.requests) ≡ map row (remove_first request_test s.requests)
  rows-left row tell =
      filter-mapped row (is_other request_name) (λ x. not (request_test x)) s.requests
      (all-weaker (λ (x : RequestEntry). is_named request_name (row x) ≡ request_test x) (λ (x : RequestEntry). is_other request_name (row x) ≡ not (request_test x)) (λ x same. ap not same) s.requests tell)
      ∙ ap (map row) (filter-removed request_test s.requests request-is-once)

  request-gone : LaysOut (record s { requests = remove_request r s.requests }) request-ends.gone.u
  request-gone = all-tables _ _ each where
    each : (k : Table) → Says (record s { requests = remove_request r s.requests }) request-ends.gone.u k
    each of_requests = record {
      rows = request-ends.rows ∙ ap (filter (is_other request_name)) may.lays.requests.rows ∙ rows-left request_row names;
      leaves = request-ends.leaves refl may.lays.requests.leaves;
      gives = request-ends.gives s.next_request refl may.lays.requests.gives;
    }
    each of_request_locks = record {
      rows =
          rows-stay (Requests ∷ []) request-lock-goes.gone.u request-ends.gone.u request-ends.last RequestLocks tt refl ∙ request-lock-goes.rows ∙ ap (filter (is_other request_name)) may.lays.request_locks.rows
          ∙ rows-left request_lock_row names;
      queues = subst (λ (list : List RequestEntry). AllByRecursion (λ x. HasQueue (RequestLock x.id) x.queue request-ends.gone.u) list) (filter-removed request_test s.requests request-is-once)
          (all-filter_to (λ (x : RequestEntry). IsGood (Request x.id) × HasQueue (RequestLock x.id) x.queue t) (λ (x : RequestEntry). HasQueue (RequestLock x.id) x.queue request-ends.gone.u) (λ x. not (request_test x)) s.requests
          (λ x kept has. queue-stays (Requests ∷ RequestLocks ∷ RequestLock r ∷ []) t request-ends.gone.u request-ends.gone.stays (RequestLock x.id) x.queue has.0 refl ((λ same. cc), ((λ same. cc), (lock-apart r x.id (not-true (request_test x) kept), tt))) has.1)
          (all-pair (λ (x : RequestEntry). IsGood (Request x.id)) (λ (x : RequestEntry). HasQueue (RequestLock x.id) x.queue t) s.requests may.good.requests may.lays.request_locks.queues));
    }
    each k = table-stays s (Requests ∷ RequestLocks ∷ RequestLock r ∷ []) t request-ends.gone.u may.good request-ends.gone.stays request-ends.gone.live request-ends.gone.begun k refl (each-table s t may.lays k)

  -- the deletes of a request's waits, of its lock and of its record lay out the state without it
  pub requests_go-lay-out : PartsLayOut (record s { requests = remove_request r s.requests }) t w (request_deletes r t)
  requests_go-lay-out = parts-after _ t request-ends.gone.u w request_waits (RequestLock r) (Request r) request-ends.gone.goes request-gone
