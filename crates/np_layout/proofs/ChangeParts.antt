-- the parts for what changes in the records of a state, and for what a session leaves
use Rattle.np_layout.proofs.Prelude.{AllByRecursion, AllZip, Any, AreDistinct, Bool, Deed, DeedsEnact, DeleteLaysOut, Enacts, HasGoodIds, HasQueue, HasSpellings, IsGood, IsJob, IsNode, IsPart, IsRequest, IsRole, IsSessionRole, IsWait, IsWhole, JanitorRole, Job, JobId, JobRecord, JobsChange, JobsEnact, Launcher, LauncherRole, List, Locked, MayDelete, Node, NodeEntry, NodeId, NodeLock, NodeRecord, NodeWait, NodesChange, NodesEnact, None, NonePass, Op, Option, PartsLayOut, Place, Request, RequestEntry, RequestId, RequestLock, RequestWait, RequesterRole, RequestsChange, RequestsEnact, Rises, Rises-keys, Role, RoleRecord, Row, Session, SessionFacts, SessionId, SessionsChange, SessionsEnact, SetLaysOut, Some, Stands, State, Tick, TicksEnact, TreeState, [], after_parts, all-at, all-change_first, all-find, all-map, all-mapped, all-remove_first, all-weaker, all_freed, ap, arith, below, change_at, change_first, change_first-absent, change_first-same, change_parts, change_role, change_session, cond, decimal, delete, delete_parts, each_changed, edited, false, filter-not_none, find, find-change_first, fold, freed, freed_from, in_use, inl, is_element, is_owner, is_path-below, is_request, is_session, job_text, leave_parts, left, length, length-change_at, length-set, list_any, map, map-keys, muted, nat_lt, nat_tests, node_deletes, node_entry, node_queue, node_text, nodes_of, none-find, one_more_act, one_more_start, option_map, option_map_or, path_of, place_name, put_job, put_node, put_node_queue, put_request_queue, refl, remove_first-absent, remove_node, remove_request, request_deletes, request_entry, request_queue, request_record_text, role_parts, role_text, room-gives, rows-elements, same_request, session-equal, session_of, session_text, set, set-here, slice_get, slice_get-change_at, slice_get_within, slice_set, struck_unless, subst, suc, sym, tree_session, true, under, wait_row, where_there, with_mark, writer, zero, ℕ, ◌++◌, ◌+◌, ◌-◌, ◌<◌, ◌==◌, ◌^◌, ◌∙◌, ◌∷◌, ◌≡◌, ◌≤◌}
use Rattle.np_layout.proofs.Spelled.{freed_from-is, in_use-is}
pub use Rattle.np_layout.proofs.Rows.{all-both as all-joined}
use Rattle.np_layout.proofs.Deletes.{AreWaits, found-node, is_node_it, is_request_it, node-good, node-queue, node-waits, node_waits-lay-out, nodes_go-lay-out, request-good, request-queue, request-waits, request_waits-lay-out, requests_go-lay-out}
use Rattle.np_layout.proofs.Names.{is_path-of, path_of-joined, length-four}
use Rattle.np_layout.proofs.Rows.{IsOnce}
use Rattle.np_layout.proofs.Sets.{nodes-lay-out, requests-lay-out, job_changes-lay-out, jobs-lay-out, mutes-lay-out, roles-lay-out, ticks-lay-out}
use Rattle.np_layout.proofs.Stands.{IsDelete, enacts-deletes, enacts-joined, enacts-none, enacts-set, job-short, node-short, part-delete, request-short, role-short, room-less, session-short, stands-less}
use Rattle.np_lists.proofs.Changes.{change_at-past, map-map, map-same}
use Rattle.np_lists.proofs.Plain.{by_bool, past-end}

-- # the ids of a state with other tables

-- if those of the requests have
pub good-requests : (s : State) (rows : List RequestEntry) (next : ℕ) → HasGoodIds s → AllByRecursion (λ e. IsGood (Request e.id)) rows → HasGoodIds (record s { requests = rows; next_request = next })
good-requests s rows next good all = assumption good

-- if those of the nodes have
pub good-nodes : (s : State) (rows : List NodeEntry) (next : ℕ) → HasGoodIds s → AllByRecursion (λ e. IsGood (Node e.id)) rows → HasGoodIds (record s { nodes = rows; next_node = next })
good-nodes s rows next good all = assumption good

-- # what a session leaves: the parts of a leave, and of a lock that is cleared

-- where there is room for one part more a part may be deleted
pub may-delete : (s : State) (t : TreeState) (w more : ℕ) → Stands s t w (more + 1) → MayDelete s t w
may-delete s t w more stands = let room = room-less t (more + 1) 1 (omega arith) stands.room in assumption stands

-- where a record is found its parts are done, and where none is nothing changes
pub there-by : {A : Type 0} (with : List A → State) (t : TreeState) (w more less : ℕ) (old rows : List A) (all : Option A → List Op) (o : Option A) → less ≤ more → Stands (with old) t w more → all None ≡ [] → (o ≡ None → rows ≡ old) →
    ((e : A) → o ≡ Some e → Enacts t w (all (Some e)) (with rows) less) → Enacts t w (all o) (with rows) less
there-by with t w more less old rows all None fewer stands none same done =
    let kept : rows ≡ old = same refl in
    rw (none, kept) (enacts-none (with old) t w less (stands-less (with old) t w more less fewer stands))
there-by with t w more less old rows all (Some e) fewer stands none same done = done e refl

-- ## a queue that does not change

change_first-id : {X : Type 0} (p : X → Bool) (xs : List X) → change_first p (λ x. x) xs ≡ xs
change_first-id p [] = refl
change_first-id p (x ∷ xs) = by_bool (λ (b : Bool). cond b (x ∷ xs) (x ∷ change_first p (λ y. y) xs) ≡ x ∷ xs) (p x) (λ _. refl) (λ _. ap (λ zs. x ∷ zs) (change_first-id p xs))

-- a member that is found keeps its queue
pub queue-kept : {I K : Type 0} (p : Locked I K → Bool) (queue : List SessionId) (rows : List (Locked I K)) (e : Locked I K) → find p rows ≡ Some e → queue ≡ e.queue → change_first p (λ x. record x { queue = queue }) rows ≡ rows
queue-kept p queue rows e there same =
    change_first-same p (λ x. record x { queue = queue }) (λ x. x) rows (λ other found.
    let is : other ≡ e = cc in
    ap (λ (x : Locked _ _). record x { queue = queue }) is ∙ ap (λ (list : List SessionId). record e { queue = list }) same ∙ sym is) ∙ change_first-id p rows

-- ## the wait of a session

-- the session waits under a number that the lock has given, and its row has a place
record Waits (next : ℕ) (session : SessionId) (rows : List Row) (row : Row) : Type 0 where
  at : ℕ
  number : ℕ
  given : number < next
  is : row ≡ wait_row number session
  there : slice_get rows at ≡ Some (wait_row number session)

module _ (next : ℕ) (session : SessionId) where
  abbrev own : Row → Bool
  own row = is_owner (tree_session session) row.owner

  abbrev it : SessionId → Bool
  it other = is_session other session

  one_more : (a b : ℕ) → ((a + 1) == (b + 1)) ≡ (a == b)
  one_more a b = grind (arith, nat_tests)

  -- a wait is the session's as its row tells
  own-tells : (row : Row) (other : SessionId) → IsWait next row other → own row ≡ it other
  own-tells row other wait = ap own wait.is ∙ one_more other.0 session.0

  -- a row of the session is its wait
  found-waits : (rows : List Row) (queue : List SessionId) (row : Row) → AllZip (IsWait next) rows queue → find own rows ≡ Some row → Waits next session rows row
  found-waits [] queue row all there = absurd cc
  found-waits (first ∷ rows) [] row all there = absurd all
  found-waits (first ∷ rows) (other ∷ queue) row all there = by_bool (λ (b : Bool). cond b (Some first) (find own rows) ≡ Some row → Waits next session (first ∷ rows) row) (own first)
      (λ owned found.
      let same : first ≡ row = cc in
      let is : first ≡ wait_row all.0.number session = all.0.is ∙ ap (wait_row all.0.number) (session-equal other session (sym (own-tells first other all.0) ∙ owned)) in
      record { at = 0; number = all.0.number; given = all.0.given; is = sym same ∙ is; there = ap Some is })
      (λ _ found. let rest = found-waits rows queue row all.1 found in record { at = suc rest.at; number = rest.number; given = rest.given; is = rest.is; there = rest.there }) there

  -- without a row the session is not in the queue
  none-waits : (rows : List Row) (queue : List SessionId) → AllZip (IsWait next) rows queue → NonePass own rows → NonePass it queue
  none-waits [] [] all none = tt
  none-waits (first ∷ rows) (other ∷ queue) all none = (sym (own-tells first other all.0) ∙ none.0, none-waits rows queue all.1 none.1)
  none-waits _ _ all none = absurd all

-- ## a leave at either kind of lock

module _ (session : SessionId) (lock : Place) (place : ℕ → Place) (are : AreWaits lock place) (queue : List SessionId) (s later : State) (t : TreeState) (w more : ℕ) (stands : Stands s t w (more + 1)) (good : HasGoodIds later) (has : HasQueue lock queue t)
    (same : left session queue ≡ queue → later ≡ s)
    (gone : (number at : ℕ) → IsGood (place number) → slice_get (under lock t) at ≡ Some (wait_row number session) → DeleteLaysOut later t w (place number)) where
  fewer : Stands s t w more
  fewer = stands-less s t w (more + 1) more (omega arith) stands

  low : (number : ℕ) → number < has.next → number < 2 ^ 32
  low number given = let most = (room-gives t more stands.room).counter (path_of lock) has.next has.gives in omega arith

  leaves-by : (o : Option Row) → find (own has.next session) (under lock t) ≡ o → Enacts t w (where_there o (λ row. Op.Delete (below (path_of lock) row.name) Any ∷ [])) later more
  leaves-by None none =
      subst (λ (x : State). Enacts t w [] x more) (sym (same (filter-not_none (it has.next session) queue (none-waits has.next session (under lock t) queue has.waits (none-find (own has.next session) (under lock t) none))))) (enacts-none s t w more fewer)
  leaves-by (Some row) there =
      let waits : Waits has.next session (under lock t) row = found-waits has.next session (under lock t) queue row has.waits there in
      let p : Place = place waits.number in
      let p_good : IsGood p = are.good waits.number (low waits.number waits.given) in
      let named : place_name p ≡ row.name = are.named waits.number ∙ sym (ap (λ (r : Row). r.name) waits.is) in
      let path : path_of p ≡ below (path_of lock) row.name = path_of-joined p lock (are.over waits.number) ∙ ap (below (path_of lock)) named in
      let goes : DeleteLaysOut later t w p = gone waits.number waits.at p_good waits.there in
      subst (λ (at : List ℕ). Enacts t w (Op.Delete at Any ∷ []) later more) path
      (enacts-deletes s later t w (delete p ∷ []) more fewer good (part-delete p p_good, tt) (tt, tt) (record { goes = (goes.goes, refl); lays = goes.lays }))

  -- the parts are accepted, and the session is not in the queue
  lock-leaves : Enacts t w (leave_parts lock t session) later more
  lock-leaves = leaves-by (find (own has.next session) (under lock t)) refl

-- ## requests and nodes

-- a session leaves a request's queue, if it is in it
pub request-leaves : (session : SessionId) (r : RequestId) (e : RequestEntry) (s : State) (t : TreeState) (w more : ℕ) → Stands s t w (more + 1) → AllByRecursion (λ x. AreDistinct x.queue) s.requests → request_entry r s.requests ≡ Some e →
    Enacts t w (leave_parts (RequestLock r) t session) (record s { requests = put_request_queue r (left session (request_queue r s.requests)) s.requests }) more
request-leaves session r e s t w more stands once there =
    let queue : List SessionId = request_queue r s.requests in
    let rows : List RequestEntry = put_request_queue r (left session queue) s.requests in
    let r_good : IsGood (Request r) = request-good r s.requests e stands.good.requests there in
    let is : queue ≡ e.queue = ap (λ (o : Option RequestEntry). option_map_or (λ x. x.queue) o []) there in
    let distinct : AreDistinct queue = subst AreDistinct (sym is) (all-find (λ (x : RequestEntry). AreDistinct x.queue) (λ x. same_request x.id r) s.requests e once there) in
    lock-leaves session (RequestLock r) (RequestWait r) (request-waits r r_good) queue s (record s { requests = rows }) t w more stands
    (good-requests s rows s.next_request stands.good (all-change_first (λ (x : RequestEntry). IsGood (Request x.id)) (λ x. same_request x.id r) (λ x. record x { queue = left session queue }) s.requests (λ x good. good) stands.good.requests))
    (request-queue s t r e stands.lays there)
    (λ same. ap (λ (list : List RequestEntry). record s { requests = list }) (queue-kept (λ x. same_request x.id r) (left session queue) s.requests e there (same ∙ is)))
    (λ number at good waits. request_waits-lay-out s t w r e session number at (may-delete s t w more stands) good there distinct waits)

-- a session leaves a node's queue, if it is in it
pub node-leaves : (session : SessionId) (n : NodeId) (e : NodeEntry) (s : State) (t : TreeState) (w more : ℕ) → Stands s t w (more + 1) → AllByRecursion (λ x. AreDistinct x.queue) s.nodes → node_entry n s.nodes ≡ Some e →
    Enacts t w (leave_parts (NodeLock n) t session) (record s { nodes = put_node_queue n (left session (node_queue n s.nodes)) s.nodes }) more
node-leaves session n e s t w more stands once there =
    let queue : List SessionId = node_queue n s.nodes in
    let rows : List NodeEntry = put_node_queue n (left session queue) s.nodes in
    let n_good : IsGood (Node n) = node-good n s.nodes e stands.good.nodes there in
    let is : queue ≡ e.queue = ap (λ (o : Option NodeEntry). option_map_or (λ x. x.queue) o []) there in
    let distinct : AreDistinct queue = subst AreDistinct (sym is) (all-find (λ (x : NodeEntry). AreDistinct x.queue) (λ x. x.id.0 == n.0) s.nodes e once there) in
    lock-leaves session (NodeLock n) (NodeWait n) (node-waits n n_good) queue s (record s { nodes = rows }) t w more stands
    (good-nodes s rows s.next_node stands.good (all-change_first (λ (x : NodeEntry). IsGood (Node x.id)) (λ x. x.id.0 == n.0) (λ x. record x { queue = left session queue }) s.nodes (λ x good. good) stands.good.nodes))
    (node-queue s t n e stands.lays there)
    (λ same. ap (λ (list : List NodeEntry). record s { nodes = list }) (queue-kept (λ x. x.id.0 == n.0) (left session queue) s.nodes e there (same ∙ is)))
    (λ number at good waits. node_waits-lay-out s t w n e session number at (may-delete s t w more stands) good there distinct waits)

-- # the records of several nodes are changed, one after another

-- ## one node

-- a node's record is another
pub enacts-put : (s : State) (t : TreeState) (w : ℕ) (n : NodeId) (e : NodeEntry) (kept : NodeRecord) (more : ℕ) → Stands s t w (more + 1) → node_entry n s.nodes ≡ Some e → IsNode kept →
    Enacts t w (set (node_text kept) (Node n) ∷ []) (record s { nodes = put_node n kept s.nodes }) more
enacts-put s t w n e kept more stands there is =
    enacts-set s (record s { nodes = put_node n kept s.nodes }) t w (Node n) (node_text kept) more stands (node-good n s.nodes e stands.good.nodes there)
    (good-nodes s (put_node n kept s.nodes) s.next_node stands.good (all-change_first (λ (x : NodeEntry). IsGood (Node x.id)) (is_node_it n) (λ x. record x { kept = kept }) s.nodes (λ x good. good) stands.good.nodes))
    (node-short kept is)
    (nodes-lay-out s t n (λ old. kept) e.kept (node_text kept) stands.whole stands.good stands.lays (ap (option_map (λ (x : NodeEntry). x.kept)) there) (is, inl refl))

-- ## each of the nodes that is there

-- the nodes, changed one after another
abbrev pub changed_each : (NodeEntry → NodeEntry) → List NodeId → List NodeEntry → List NodeEntry
changed_each change numbers rows = fold (λ es n. change_first (λ e. e.id.0 == n.0) change es) rows numbers

module _ (change : NodeEntry → NodeEntry) (keeps : (e : NodeEntry) → ((change e).id ≡ e.id) × ((change e).queue ≡ e.queue)) (spells : (e : NodeEntry) → IsNode e.kept → IsNode (change e).kept) where
  node-change : (s : State) (t : TreeState) (w : ℕ) (n : NodeId) (e : NodeEntry) (more : ℕ) → Stands s t w (more + 1) → AllByRecursion (λ x. IsNode x.kept) s.nodes → node_entry n s.nodes ≡ Some e → IsNode e.kept →
      Enacts t w (change_parts change e) (record s { nodes = change_first (is_node_it n) change s.nodes }) more
  node-change s t w n e more stands all there is =
      let same : put_node n (change e).kept s.nodes ≡ change_first (is_node_it n) change s.nodes =
      change_first-same (is_node_it n) (λ x. record x { kept = (change e).kept }) change s.nodes (λ x found. let both = sym there ∙ found in let is : e ≡ x = cc in subst (λ (y : NodeEntry). record y { kept = (change e).kept } ≡ change y) is (λ i. record { id = sym (keeps e).0 i; kept = (change e).kept; queue = sym (keeps e).1 i })) in
      subst (λ (id : NodeId). Enacts t w (set (node_text (change e).kept) (Node id) ∷ []) (record s { nodes = change_first (is_node_it n) change s.nodes }) more) (sym (found-node n s.nodes e there))
      (subst (λ (rows : List NodeEntry). Enacts t w (set (node_text (change e).kept) (Node n) ∷ []) (record s { nodes = rows }) more) same
      (enacts-put s t w n e (change e).kept more stands there (spells e is)))

  one-by : (s : State) (t : TreeState) (w : ℕ) (n : NodeId) (more : ℕ) → Stands s t w (more + 1) → AllByRecursion (λ x. IsNode x.kept) s.nodes →
      Enacts t w (where_there (node_entry n s.nodes) (change_parts change)) (record s { nodes = change_first (is_node_it n) change s.nodes }) more
  one-by s t w n more stands all =
      there-by (λ (list : List NodeEntry). record s { nodes = list }) t w (more + 1) more s.nodes (change_first (is_node_it n) change s.nodes) (λ o. where_there o (change_parts change)) (node_entry n s.nodes) (omega arith) stands refl
      (change_first-absent (is_node_it n) change s.nodes) (λ e there. node-change s t w n e more stands all there (all-find (λ (x : NodeEntry). IsNode x.kept) (is_node_it n) s.nodes e all there))

  -- each of the nodes that is there is changed
  pub enacts-each : (numbers : List NodeId) (s : State) (t : TreeState) (w more : ℕ) → Stands s t w (length numbers + more) → AllByRecursion (λ e. IsNode e.kept) s.nodes →
      Enacts t w (each_changed change numbers s.nodes) (record s { nodes = changed_each change numbers s.nodes }) more
  enacts-each [] s t w more stands all = enacts-none s t w more (stands-less s t w (0 + more) more (omega arith) stands)
  enacts-each (n ∷ numbers) s t w more stands all =
      let mid : State = record s { nodes = change_first (is_node_it n) change s.nodes } in
      let parts = where_there (node_entry n s.nodes) (change_parts change) in
      let first : Enacts t w parts mid (length numbers + more) =
      one-by s t w n (length numbers + more) (stands-less s t w (length (n ∷ numbers) + more) (length numbers + more + 1) (omega arith) stands) all in
      enacts-joined mid (record s { nodes = changed_each change (n ∷ numbers) s.nodes }) t w parts (each_changed change numbers mid.nodes) (length numbers + more) more first
      (enacts-each numbers mid (after_parts t w parts) w more first.leaves (all-change_first (λ (x : NodeEntry). IsNode x.kept) (is_node_it n) change s.nodes spells all))

-- ## one change of all that pass

module _ {X : Type 0} (p : X → Bool) (f : X → X) where
  abbrev where_passes : X → X
  where_passes x = cond (p x) (f x) x

  none-pass : (xs : List X) → NonePass p xs → map where_passes xs ≡ xs
  none-pass [] none = refl
  none-pass (x ∷ xs) none = rw (none.0, none-pass xs none.1) refl

  -- the first that passes is the only one
  once-changed : (xs : List X) → IsOnce p xs → change_first p f xs ≡ map where_passes xs
  once-changed [] once = refl
  once-changed (x ∷ xs) once = grind (arith, once.0, none-pass xs, once-changed xs once.1)

later-other : (a b k : ℕ) → (a == k) ≡ true → nat_lt a b ≡ true → (b == k) ≡ false
later-other a b k is before = grind (arith, nat_tests)

-- an id is there once
rises-once : (n : NodeId) (rows : List NodeEntry) → Rises (λ a b. nat_lt a.id.0 b.id.0) rows → IsOnce (is_node_it n) rows
rises-once n [] rises = tt
rises-once n (e ∷ rows) rises = (
  (λ is. all-weaker (λ (y : NodeEntry). nat_lt e.id.0 y.id.0 ≡ true) (λ (y : NodeEntry). (y.id.0 == n.0) ≡ false) (λ y before. later-other e.id.0 y.id.0 n.0 is before) rows rises.0),
  rises-once n rows rises.1,
)

-- ## a change that is made once is made of all at once

module _ (change : NodeEntry → NodeEntry) (keeps : (e : NodeEntry) → (change e).id ≡ e.id) (again : (e : NodeEntry) → change (change e) ≡ change e) where
  abbrev pub among : List NodeId → NodeEntry → NodeEntry
  among numbers e = cond (list_any (λ n. n.0 == e.id.0) numbers) (change e) e

  then-by : (n : NodeId) (numbers : List NodeId) (e : NodeEntry) (b : Bool) → (e.id.0 == n.0) ≡ b → among numbers (cond b (change e) e) ≡ among (n ∷ numbers) e
  then-by n numbers e b is = grind (arith, nat_tests, again e, keeps e)

  -- one after another, or each that is among the numbers
  pub each-among : (numbers : List NodeId) (rows : List NodeEntry) → Rises (λ a b. nat_lt a.id.0 b.id.0) rows → changed_each change numbers rows ≡ map (among numbers) rows
  each-among [] rows rises = sym (map-same (among []) rows (λ e. refl))
  each-among (n ∷ numbers) rows rises =
      let passed : List NodeEntry = map (where_passes (is_node_it n) change) rows in
      let same : map (λ (e : NodeEntry). e.id.0) rows ≡ map (λ (e : NodeEntry). e.id.0) passed =
      map-keys (λ (e : NodeEntry). e.id.0) (where_passes (is_node_it n) change) rows (λ e. by_bool (λ (b : Bool). (cond b (change e) e).id.0 ≡ e.id.0) (is_node_it n e) (λ _. ap (λ (id : NodeId). id.0) (keeps e)) (λ _. refl)) in
      ap (changed_each change numbers) (once-changed (is_node_it n) change rows (rises-once n rows rises))
      ∙ each-among numbers passed (Rises-keys nat_lt (λ (e : NodeEntry). e.id.0) rows passed same rises)
      ∙ map-map (where_passes (is_node_it n) change) (among numbers) (among (n ∷ numbers)) rows (λ e. then-by n numbers e (is_node_it n e) refl)

-- ## the nodes of a request are freed

module _ (r : RequestId) where
  abbrev freed_by : Bool → NodeEntry → NodeEntry
  freed_by b e = cond b (record e { kept = freed e.kept }) e

  -- the id and the queue stay
  pub freed-keeps : (e : NodeEntry) → ((freed_from r e).id ≡ e.id) × ((freed_from r e).queue ≡ e.queue)
  freed-keeps e = by_bool (λ (b : Bool). ((freed_by b e).id ≡ e.id) × ((freed_by b e).queue ≡ e.queue)) (is_request r e.kept.allocated_to) (λ _. (refl, refl)) (λ _. (refl, refl))

  again-by : (e : NodeEntry) (b : Bool) → is_request r e.kept.allocated_to ≡ b → freed_from r (freed_by b e) ≡ freed_by b e
  again-by e b is = grind arith

  all-by : (e : NodeEntry) (b c : Bool) → is_request r e.kept.allocated_to ≡ b → (is_request r e.kept.allocated_to ≡ true → c ≡ true) → cond c (freed_by b e) e ≡ freed_by b e
  all-by e b c is among_them = grind arith

  -- if each node that is allocated to the request is among the numbers, all of the request's are freed
  among-all : (numbers : List NodeId) (rows : List NodeEntry) → AllByRecursion (λ e. is_request r e.kept.allocated_to ≡ true → list_any (λ n. n.0 == e.id.0) numbers ≡ true) rows →
      map (among (freed_from r) (λ e. (freed-keeps e).0) (λ e. again-by e (is_request r e.kept.allocated_to) refl) numbers) rows ≡ all_freed r rows
  among-all numbers [] all = refl
  among-all numbers (e ∷ rows) all = λ i. all-by e (is_request r e.kept.allocated_to) (list_any (λ (n : NodeId). n.0 == e.id.0) numbers) refl all.0 i ∷ among-all numbers rows all.1 i

-- # the parts for a change of nodes

-- the deletes of a lock's waits, of the lock and of its record
record-deletes : (s later : State) (t : TreeState) (w more : ℕ) (lock p : Place) → Stands s t w (more + 1) → IsGood lock → IsGood p → HasGoodIds later → PartsLayOut later t w (delete_parts (path_of lock) (under lock t) ++ delete lock ∷ delete p ∷ []) →
    Enacts t w (delete_parts (path_of lock) (under lock t) ++ delete lock ∷ delete p ∷ []) later more
record-deletes s later t w more lock p stands lock_good p_good good lays =
    let waits : List Op = delete_parts (path_of lock) (under lock t) in
    let ends : List Op = delete lock ∷ delete p ∷ [] in
    enacts-deletes s later t w (waits ++ ends) more (stands-less s t w (more + 1) more (omega arith) stands) good
    (all-joined IsPart waits ends (all-mapped (λ (row : Row). is_element row.name ≡ true) IsPart (λ row. Op.Delete (below (path_of lock) row.name) Any) (under lock t)
    (λ row element. record { path = is_path-below (path_of lock) row.name (is_path-of lock lock_good) element; numbered = refl }) (rows-elements (path_of lock) t.nodes stands.whole.paths)) (part-delete lock lock_good, (part-delete p p_good, tt)))
    (all-joined IsDelete waits ends (all-map IsDelete (λ row. Op.Delete (below (path_of lock) row.name) Any) (under lock t) (λ row. tt)) (tt, (tt, tt))) lays

-- ## the law

-- the parts for a change of nodes are accepted, and leave a tree with the changed nodes
pub nodes-enact : NodesEnact
nodes-enact maker requests NodesChange.Same s t more stands distinct spelled later ready = enacts-none s t (writer maker) more (stands-less s t (writer maker) (more + 32) more (omega arith) stands)
nodes-enact maker requests (NodesChange.Put n kept) s t more stands distinct spelled later ready =
    there-by (λ (list : List NodeEntry). record s { nodes = list }) t (writer maker) (more + 32) more s.nodes (put_node n kept s.nodes) (λ o. where_there o (λ e. set (node_text kept) (Node n) ∷ [])) (node_entry n s.nodes) (omega arith) stands refl
    (change_first-absent (is_node_it n) (λ x. record x { kept = kept }) s.nodes)
    (λ e there. enacts-put s t (writer maker) n e kept more (stands-less s t (writer maker) (more + 32) (more + 1) (omega arith) stands) there
    (all-find (λ (x : NodeEntry). IsNode x.kept) (is_node_it n) (put_node n kept s.nodes) (record e { kept = kept }) later (find-change_first (is_node_it n) (λ x. record x { kept = kept }) (λ x. refl) s.nodes e there)))
nodes-enact maker requests (NodesChange.Remove n) s t more stands distinct spelled later ready =
    there-by (λ (list : List NodeEntry). record s { nodes = list }) t (writer maker) (more + 32) more s.nodes (remove_node n s.nodes) (λ o. where_there o (λ e. node_deletes n t)) (node_entry n s.nodes) (omega arith) stands refl
    (remove_first-absent (is_node_it n) s.nodes) (λ e there.
    let one : Stands s t (writer maker) (more + 1) = stands-less s t (writer maker) (more + 32) (more + 1) (omega arith) stands in
    let n_good : IsGood (Node n) = node-good n s.nodes e stands.good.nodes there in
    record-deletes s _ t (writer maker) more (NodeLock n) (Node n) one n_good n_good
    (good-nodes s (remove_node n s.nodes) s.next_node stands.good (all-remove_first (λ (x : NodeEntry). IsGood (Node x.id)) (is_node_it n) s.nodes stands.good.nodes)) (nodes_go-lay-out s t (writer maker) n e (may-delete s t (writer maker) more one) there))
nodes-enact None requests (NodesChange.Leave n) s t more stands distinct spelled later ready = enacts-none s t 1 more (stands-less s t 1 (more + 32) more (omega arith) stands)
nodes-enact (Some maker) requests (NodesChange.Leave n) s t more stands distinct spelled later ready =
    let queue : List SessionId = left maker.session (node_queue n s.nodes) in
    there-by (λ (list : List NodeEntry). record s { nodes = list }) t (writer (Some maker)) (more + 32) more s.nodes (put_node_queue n queue s.nodes) (λ o. where_there o (λ e. leave_parts (NodeLock n) t maker.session)) (node_entry n s.nodes) (omega arith) stands refl
    (change_first-absent (is_node_it n) (λ x. record x { queue = queue }) s.nodes)
    (λ e there. node-leaves maker.session n e s t (writer (Some maker)) more (stands-less s t (writer (Some maker)) (more + 32) (more + 1) (omega arith) stands) distinct there)
nodes-enact maker requests (NodesChange.FreeAll r) s t more stands distinct spelled later ready =
    let numbers : List NodeId = nodes_of r requests in
    let few = ready.0 in
    subst (λ (rows : List NodeEntry). Enacts t (writer maker) (each_changed (freed_from r) numbers s.nodes) (record s { nodes = rows }) more)
    (each-among (freed_from r) (λ e. (freed-keeps r e).0) (λ e. again-by r e (is_request r e.kept.allocated_to) refl) numbers s.nodes ready.1.0 ∙ among-all r numbers s.nodes ready.1.1)
    (enacts-each (freed_from r) (freed-keeps r) (freed_from-is r) numbers s t (writer maker) more (stands-less s t (writer maker) (more + 32) (length numbers + more) (omega arith) stands) spelled)
nodes-enact maker requests (NodesChange.TakeOver numbers) s t more stands distinct spelled later ready =
    let few = ready.0 in
    enacts-each (in_use s.tick) (λ e. (refl, refl)) (λ e is. in_use-is s.tick e ready.1 is) numbers s t (writer maker) more (stands-less s t (writer maker) (more + 32) (length numbers + more) (omega arith) stands) spelled

-- # the parts for a change of requests

-- each change of requests is enacted
pub requests-enact : RequestsEnact
requests-enact maker RequestsChange.Same s t more stands once spelled = enacts-none s t (writer maker) more (stands-less s t (writer maker) (more + 1) more (omega arith) stands)
requests-enact maker (RequestsChange.Edit r change) s t more stands once spelled =
    let with_edit : RequestEntry → RequestEntry = λ (e : RequestEntry). record e { kept = edited change e.kept } in
    let rows : List RequestEntry = change_first (is_request_it r) with_edit s.requests in
    there-by (λ (list : List RequestEntry). record s { requests = list }) t (writer maker) (more + 1) more s.requests rows
    (λ o. where_there (option_map (λ (e : RequestEntry). e.kept) o) (λ kept. set (request_record_text (edited change kept)) (Request r) ∷ [])) (request_entry r s.requests) (omega arith) stands refl (change_first-absent (is_request_it r) with_edit s.requests)
    (λ e there.
    let is : IsRequest (edited change e.kept) = all-find (λ (x : RequestEntry). IsRequest x.kept) (is_request_it r) rows (with_edit e) spelled (find-change_first (is_request_it r) with_edit (λ x. refl) s.requests e there) in
    enacts-set s (record s { requests = rows }) t (writer maker) (Request r) (request_record_text (edited change e.kept)) more stands (request-good r s.requests e stands.good.requests there)
    (good-requests s rows s.next_request stands.good (all-change_first (λ (x : RequestEntry). IsGood (Request x.id)) (is_request_it r) with_edit s.requests (λ x good. good) stands.good.requests))
    (request-short (edited change e.kept) is) (requests-lay-out s t r (edited change) e.kept stands.whole stands.good stands.lays (ap (option_map (λ (x : RequestEntry). x.kept)) there)))
requests-enact maker (RequestsChange.Remove r) s t more stands once spelled =
    there-by (λ (list : List RequestEntry). record s { requests = list }) t (writer maker) (more + 1) more s.requests (remove_request r s.requests)
    (λ o. where_there (option_map (λ (e : RequestEntry). e.kept) o) (λ kept. request_deletes r t)) (request_entry r s.requests) (omega arith) stands refl (remove_first-absent (is_request_it r) s.requests)
    (λ e there.
    let r_good : IsGood (Request r) = request-good r s.requests e stands.good.requests there in
    record-deletes s _ t (writer maker) more (RequestLock r) (Request r) stands r_good r_good
    (good-requests s (remove_request r s.requests) s.next_request stands.good (all-remove_first (λ (x : RequestEntry). IsGood (Request x.id)) (is_request_it r) s.requests stands.good.requests))
    (requests_go-lay-out s t (writer maker) r e (may-delete s t (writer maker) more stands) there))
requests-enact None (RequestsChange.Leave r) s t more stands once spelled = enacts-none s t (writer None) more (stands-less s t (writer None) (more + 1) more (omega arith) stands)
requests-enact (Some m) (RequestsChange.Leave r) s t more stands once spelled =
    let queue : List SessionId = left m.session (request_queue r s.requests) in
    there-by (λ (list : List RequestEntry). record s { requests = list }) t (writer (Some m)) (more + 1) more s.requests (put_request_queue r queue s.requests)
    (λ o. where_there (option_map (λ (e : RequestEntry). e.kept) o) (λ kept. leave_parts (RequestLock r) t m.session)) (request_entry r s.requests) (omega arith) stands refl (change_first-absent (is_request_it r) (λ x. record x { queue = queue }) s.requests)
    (λ e there. request-leaves m.session r e s t (writer (Some m)) more stands once there)

-- # the parts that set one record: of a job, a role or a session, and of the tick

-- ## what is not there does not change

change_at-absent : {X : Type 0} (i : ℕ) (f : X → X) (xs : List X) → slice_get xs i ≡ None → xs ≡ change_at i f xs
change_at-absent i f xs none = sym (change_at-past i f xs (past-end xs i none))

slice_set-absent : {X : Type 0} (xs : List X) (i : ℕ) (x : X) → slice_get xs i ≡ None → xs ≡ slice_set xs i x
slice_set-absent [] i x none = refl
slice_set-absent (y ∷ xs) zero x none = absurd cc
slice_set-absent (y ∷ xs) (suc i) x none = ap (λ (ys : List _). y ∷ ys) (slice_set-absent xs i x none)

-- no parts leave what was
nothing : (w : ℕ) (s : State) (t : TreeState) (more : ℕ) → Stands s t w (more + 1) → Enacts t w [] s more
nothing w s t more stands = enacts-none s t w more (stands-less s t w (more + 1) more (omega arith) stands)

-- the record of a member is set if the member is there
set-by : {K : Type 0} (w : ℕ) (s later : State) (t : TreeState) (more : ℕ) (p : Place) (text : K → List ℕ) (o : Option K) → Stands s t w (more + 1) → HasGoodIds later → (o ≡ None → s ≡ later) →
    ((k : K) → o ≡ Some k → IsGood p × ((length (text k) ≤ 65_536) × SetLaysOut later t p (text k))) → Enacts t w (where_there o (λ k. set (text k) p ∷ [])) later more
set-by w s later t more p text None stands good same sets = subst (λ (x : State). Enacts t w [] x more) (same refl) (nothing w s t more stands)
set-by w s later t more p text (Some k) stands good same sets = let is = sets k refl in enacts-set s later t w p (text k) more stands is.0 good is.1.0 is.1.1

-- ## ids stay good

-- tables of the same lengths, and few sessions
pub good-tables : (s : State) (tick : ℕ) (sessions : List SessionFacts) (jobs : List JobRecord) (launchers janitors requesters : List RoleRecord) →
    length sessions < 2 ^ 32 → length jobs ≡ length s.jobs → length launchers ≡ length s.launchers → length janitors ≡ length s.janitors → length requesters ≡ length s.requesters →
    HasGoodIds s → HasGoodIds (record s { tick = tick; sessions = sessions; jobs = jobs; launchers = launchers; janitors = janitors; requesters = requesters })
good-tables s tick sessions jobs launchers janitors requesters few_sessions same_jobs same_launchers same_janitors same_requesters good = search arith

good-jobs : (s : State) (jobs : List JobRecord) → length jobs ≡ length s.jobs → HasGoodIds s → HasGoodIds (record s { jobs = jobs })
good-jobs s jobs same good = good-tables s s.tick s.sessions jobs s.launchers s.janitors s.requesters good.sessions same refl refl refl good

-- ## jobs

-- the place of a job that is there is good
job-low : (s : State) (j : JobId) (old : JobRecord) → HasGoodIds s → slice_get s.jobs j.0 ≡ Some old → j.0 < 2 ^ 32
job-low s j old good there = omega (arith, good.jobs, slice_get_within s.jobs j.0 old there)

-- a change of a job sets its record
pub jobs-enact : JobsEnact
jobs-enact w JobsChange.Same s t more stands spelled = nothing w s t more stands
jobs-enact w (JobsChange.Put j kept) s t more stands spelled =
    set-by w s (record s { jobs = put_job j kept s.jobs }) t more (Job j) (λ _. job_text kept) (slice_get s.jobs j.0) stands (good-jobs s (put_job j kept s.jobs) (length-set s.jobs j.0 kept) stands.good)
    (λ none. ap (λ (jobs : List JobRecord). record s { jobs = jobs }) (slice_set-absent s.jobs j.0 kept none)) (λ old there. (
      job-low s j old stands.good there,
      (job-short kept (all-at IsJob (put_job j kept s.jobs) j.0 kept spelled (set-here s.jobs j.0 kept old there)), jobs-lay-out s t j old kept stands.whole stands.good stands.lays there),
    ))
jobs-enact w (JobsChange.EndNode j n) s t more stands spelled =
    let later : List JobRecord = change_at j.0 (with_mark n) s.jobs in
    set-by w s (record s { jobs = later }) t more (Job j) (λ old. job_text (with_mark n old)) (slice_get s.jobs j.0) stands (good-jobs s later (length-change_at j.0 (with_mark n) s.jobs) stands.good)
    (λ none. ap (λ (jobs : List JobRecord). record s { jobs = jobs }) (change_at-absent j.0 (with_mark n) s.jobs none)) (λ old there. (
      job-low s j old stands.good there,
      (
        job-short (with_mark n old) (all-at IsJob later j.0 (with_mark n old) spelled (slice_get-change_at j.0 (with_mark n) s.jobs ∙ ap (option_map (with_mark n)) there)),
        job_changes-lay-out s t j (with_mark n) old stands.whole stands.good stands.lays there,
      ),
    ))

-- ## roles

module _ (w : ℕ) (change : RoleRecord → RoleRecord) (s : State) (t : TreeState) (more : ℕ) (stands : Stands s t w (more + 1)) where
  -- the record of a role is set, one of those of its kind
  role-by : (p : Place) (i : ℕ) (rows : List RoleRecord) (later : State) → (rows ≡ change_at i change rows → s ≡ later) → HasGoodIds later → (i < length rows → IsGood p) → AllByRecursion IsRole (change_at i change rows) →
      ((old : RoleRecord) → slice_get rows i ≡ Some old → SetLaysOut later t p (role_text (change old))) → Enacts t w (where_there (slice_get rows i) (λ old. set (role_text (change old)) p ∷ [])) later more
  role-by p i rows later same good low spelled lays =
      set-by w s later t more p (λ old. role_text (change old)) (slice_get rows i) stands good (λ none. same (change_at-absent i change rows none)) (λ old there. (
        low (slice_get_within rows i old there),
        (role-short (change old) (all-at IsRole (change_at i change rows) i (change old) spelled (slice_get-change_at i change rows ∙ ap (option_map change) there)), lays old there),
      ))

  -- a change of a role's record sets it
  role-enacts : (who : Role) → HasSpellings (change_role change who s) → Enacts t w (role_parts change who s) (change_role change who s) more
  role-enacts (Role.Launcher p) spelled =
      role-by (LauncherRole p) p.0 s.launchers (change_role change (Role.Launcher p) s) (λ same. ap (λ (rows : List RoleRecord). record s { launchers = rows }) same)
      (good-tables s s.tick s.sessions s.jobs (change_at p.0 change s.launchers) s.janitors s.requesters stands.good.sessions refl (length-change_at p.0 change s.launchers) refl refl stands.good)
      (λ low. let few = stands.good.launchers in omega arith) spelled.launchers (λ old. roles-lay-out s t (Role.Launcher p) (LauncherRole p) change old stands.whole stands.good stands.lays refl)
  role-enacts (Role.Janitor p) spelled =
      role-by (JanitorRole p) p.0 s.janitors (change_role change (Role.Janitor p) s) (λ same. ap (λ (rows : List RoleRecord). record s { janitors = rows }) same)
      (good-tables s s.tick s.sessions s.jobs s.launchers (change_at p.0 change s.janitors) s.requesters stands.good.sessions refl refl (length-change_at p.0 change s.janitors) refl stands.good)
      (λ low. let few = stands.good.janitors in omega arith) spelled.janitors (λ old. roles-lay-out s t (Role.Janitor p) (JanitorRole p) change old stands.whole stands.good stands.lays refl)
  role-enacts (Role.Requester q) spelled =
      role-by (RequesterRole q) q.0 s.requesters (change_role change (Role.Requester q) s) (λ same. ap (λ (rows : List RoleRecord). record s { requesters = rows }) same)
      (good-tables s s.tick s.sessions s.jobs s.launchers s.janitors (change_at q.0 change s.requesters) stands.good.sessions refl refl refl (length-change_at q.0 change s.requesters) stands.good)
      (λ low. let few = stands.good.requesters in omega arith) spelled.requesters (λ old. roles-lay-out s t (Role.Requester q) (RequesterRole q) change old stands.whole stands.good stands.lays refl)
  role-enacts Role.Reaper spelled = nothing w s t more stands

-- a deed sets the record of its role
pub deeds-enact : DeedsEnact
deeds-enact w maker None s t more stands spelled = nothing w s t more stands
deeds-enact w None (Some Deed.Acts) s t more stands spelled = nothing w s t more stands
deeds-enact w (Some m) (Some Deed.Acts) s t more stands spelled = role-enacts w one_more_act s t more stands m.role spelled
deeds-enact w maker (Some (Deed.StartsAndActs p)) s t more stands spelled = role-enacts w (λ kept. one_more_act (one_more_start kept)) s t more stands (Role.Launcher p) spelled
deeds-enact w maker (Some (Deed.Strikes who counted)) s t more stands spelled = role-enacts w (struck_unless counted) s t more stands who spelled

-- ## sessions

-- sessions count from one
counted : (o : Option SessionFacts) (facts : SessionFacts) (b : Bool) → cond b None o ≡ Some facts → o ≡ Some facts
counted o facts b is = grind arith

-- a session that makes no more events is set to mute
pub sessions-enact : SessionsEnact
sessions-enact w SessionsChange.Same s t more stands spelled ready = nothing w s t more stands
sessions-enact w (SessionsChange.Mute session) s t more stands spelled ready =
    let few : length (change_session session muted s.sessions) < 2 ^ 32 = omega (arith, stands.good.sessions, length-change_at (session.0 - 1) muted s.sessions) in
    set-by w s (record s { sessions = change_session session muted s.sessions }) t more (Session session) (λ (facts : SessionFacts). session_text (record { mute = true; role = facts.role })) (session_of session s) stands
    (good-tables s s.tick (change_session session muted s.sessions) s.jobs s.launchers s.janitors s.requesters few refl refl refl refl stands.good) (λ none. absurd (let there = ready.1 in cc))
    (λ facts is.
    let there = counted (slice_get s.sessions (session.0 - 1)) facts (session.0 == 0) is in (
      omega (arith, stands.good.sessions, slice_get_within s.sessions (session.0 - 1) facts there),
      (session-short true facts.role (all-at (λ (f : SessionFacts). IsSessionRole f.role) s.sessions (session.0 - 1) facts spelled there), mutes-lay-out s t session facts stands.whole stands.good stands.lays is),
    ))
sessions-enact w (SessionsChange.End session) s t more stands spelled ready = absurd ready

-- ## the tick

-- a tick sets the next one
pub ticks-enact : TicksEnact
ticks-enact w true s t more stands small =
    enacts-set s (record s { tick = s.tick + 1 }) t w Tick (decimal (s.tick + 1)) more stands tt
    (good-tables s (s.tick + 1) s.sessions s.jobs s.launchers s.janitors s.requesters stands.good.sessions refl refl refl refl stands.good)
    (let short = length-four (s.tick + 1) small in omega arith)
    (ticks-lay-out s t (s.tick + 1) stands.whole stands.good stands.lays)
ticks-enact w false s t more stands small = nothing w s t more stands
