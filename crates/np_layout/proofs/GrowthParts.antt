-- the parts for what grows by an event, and for handles that are given back
use Rattle.np_layout.proofs.Prelude.{AllByRecursion, Bool, DeleteLaysOut, Enacts, Ephemeral, Growth, GrowthsEnact, Handle, HandlesChange, HandlesEnact, HasGoodIds, HasRoomFor, IfSome, IsGood, IsNode, IsPart, Job, JobId, Launcher, List, Node, NodeEntry, NodeId, NodeLock, NodeRecord, Nodes, None, Op, Option, PartsLayOut, Persistent, Place, PoolId, Registration, Request, RequestEntry, RequestId, RequestLock, RequestRecord, Requests, Role, SemId, Session, SessionId, Some, Stands, State, Swept, SweptPlace, TenantId, TreeState, [], acquire_parts, after_begin, after_parts, all-change_at, all-change_first, all-filter, all-find, all-insert_before, all-push, all_with_handle, all_without_handle, allocate_parts, allocated, ap, arith, change_at, change_first, change_first-absent, change_first-same, cond, delete, false, filter-not_none, find-change_first, find-passes, goes-whole, has_handle, inl, insert_before, insert_request, is_among, is_id_before, is_in, is_pair_after, is_path-below, is_queued, is_swept, join_parts, joined, length, length-append, length-change_at, make, nat_lt, new_record, next_id, node_entry, node_parts, node_queue, node_text, none-list_any, not, option_map, option_map_or, path_of, put_node_queue, put_request_queue, refl, registered, registers, release_parts, request_entry, request_parts, request_prefix, request_queue, request_record_text, room-falls, same_request, semaphores_of, session_text, set, slice_get, subst, suc, sym, tree_session, true, unwrap_or, wait_at, where_there, with_handle, with_pair, without_handle, writer, zero, ℕ, ◌++◌, ◌+◌, ◌<◌, ◌==◌, ◌^◌, ◌∙◌, ◌∷◌, ◌≡◌, ◌≤◌}
use Rattle.np_layout.proofs.Creates.{AreJobs, grown_nodes-lay-out, handle-good, handles-lay-out as made-lays-out, node_waits-lay-out, registrations-lay-out, request_waits-lay-out, handles_go-lay-out as gone-lays-out, swept_pairs-lay-out}
use Rattle.np_layout.proofs.CreateRequests.{grown_requests-lay-out, is_element-prefix}
use Rattle.np_layout.proofs.Names.{is_path-of}
use Rattle.np_layout.proofs.Sessions.{sessions-lay-out}
use Rattle.np_layout.proofs.Sets.{nodes-lay-out}
use Rattle.np_layout.proofs.Spelled.{granted-is}
use Rattle.np_layout.proofs.ChangeParts.{good-nodes, good-requests, good-tables, queue-kept, there-by}
use Rattle.np_layout.proofs.Stands.{enacts-deletes, enacts-joined, enacts-none, enacts-parts, enacts-set, in-more, live-after, node-short, part-create, part-delete, part-wait, request-short, room-less, session-short, stands-less}
use Rattle.np_layout.proofs.Deletes.{node-good, node-same as node-is, request-good}
use Rattle.np_lists.proofs.Plain.{by_bool}

-- # a session begins

-- the begin of a session, and the create of its record by the tree's first session
pub session-grows : (s : State) (t : TreeState) (role : Role) (more : ℕ) → Stands s t 1 (more + 1) → length s.sessions + 1 < 2 ^ 32 → length (session_text (record { mute = false; role = role })) ≤ 65_536 →
    Enacts (after_begin t) 1 (make (session_text (record { mute = false; role = role })) (Session (record { 0 = length s.sessions + 1 })) ∷ []) (record s { sessions = s.sessions ++ record { role = role; live = true; mute = false } ∷ [] }) more
session-grows s t role more stands small short =
    let from : TreeState = after_begin t in
    let place : Place = Session (record { 0 = length s.sessions + 1 }) in
    let part : Op = make (session_text (record { mute = false; role = role })) place in
    let lays = sessions-lay-out s t role stands.whole stands.good stands.lays (room-less t (more + 1) 1 (omega arith) stands.room) small short in
    let begun : HasRoomFor (more + 1) from = assumption stands.room in
    let live : is_in (after_parts from 1 (part ∷ [])).live 1 ≡ true = ap (λ (known : List ℕ). is_in known 1) (live-after from 1 (part ∷ [])) ∙ in-more t.live 1 (t.begun + 1) stands.live in
    let good = good-tables s s.tick (s.sessions ++ record { role = role; live = true; mute = false } ∷ []) s.jobs s.launchers s.janitors s.requesters (simp length-append (omega arith)) refl refl refl refl stands.good in
    let whole = goes-whole from (after_parts from 1 (part ∷ [])) 1 (part ∷ []) stands.whole (part-create place (session_text (record { mute = false; role = role })) Persistent small, tt) lays.goes in
    let room = room-falls from 1 part more begun in
    record { goes = lays.goes; leaves = assumption lays }

-- # who joins a queue, and a node that is allocated

-- ## lists

module _ {A : Type 0} (p : A → Bool) where
  -- two changes of the same member are one
  pub change_first-twice : (f g : A → A) → ((x : A) → p (f x) ≡ p x) → (xs : List A) → change_first p g (change_first p f xs) ≡ change_first p (λ y. g (f y)) xs
  change_first-twice f g keeps [] = refl
  change_first-twice f g keeps (x ∷ xs) = grind (arith, keeps x, change_first-twice f g keeps xs)

-- ## a session joins a queue

-- the state with a queue for that of a lock
module _ (s : State) (t : TreeState) (session : SessionId) (lock : Place) (queue : List SessionId) (with : List SessionId → State) (more : ℕ) (stands : Stands s t (tree_session session) (more + 1)) (same : with queue ≡ s) (lock_good : IsGood lock) (good : HasGoodIds (with (queue ++ session ∷ [])))
    (lays : is_queued session queue ≡ false → PartsLayOut (with (joined session queue)) t (tree_session session) (wait_at lock ∷ [])) where
  lock-joins : Enacts t (tree_session session) (join_parts lock queue session) (with (joined session queue)) more
  lock-joins = by_bool (λ (b : Bool). Enacts t (tree_session session) (cond b [] (wait_at lock ∷ [])) (with (cond b queue (queue ++ session ∷ []))) more) (is_queued session queue)
      (λ queued. subst (λ (later : State). Enacts t (tree_session session) [] later more) (sym same) (enacts-none s t (tree_session session) more (stands-less s t (tree_session session) (more + 1) more (omega arith) stands)))
      (λ queued. enacts-parts s (with (queue ++ session ∷ [])) t (tree_session session) (wait_at lock ∷ []) more (stands-less s t (tree_session session) (more + 1) (1 + more) (omega arith) stands) good (part-wait lock lock_good, tt)
      (subst (λ (later : List SessionId). PartsLayOut (with later) t (tree_session session) (wait_at lock ∷ [])) (ap (λ (b : Bool). cond b queue (queue ++ session ∷ [])) queued) (lays queued)))

-- a session joins the queue of a request, if it is not there yet
pub request-joins : (s : State) (t : TreeState) (session : SessionId) (r : RequestId) (e : RequestEntry) (more : ℕ) → Stands s t (tree_session session) (more + 1) → request_entry r s.requests ≡ Some e →
    Enacts t (tree_session session) (join_parts (RequestLock r) (request_queue r s.requests) session) (record s { requests = put_request_queue r (joined session (request_queue r s.requests)) s.requests }) more
request-joins s t session r e more stands there =
    let queue : List SessionId = request_queue r s.requests in
    let is : queue ≡ e.queue = ap (λ (o : Option RequestEntry). option_map_or (λ (x : RequestEntry). x.queue) o []) there in
    let with : List SessionId → State = λ (list : List SessionId). record s { requests = put_request_queue r list s.requests } in
    lock-joins s t session (RequestLock r) queue with more stands (ap (λ (rows : List RequestEntry). record s { requests = rows }) (queue-kept (λ x. same_request x.id r) queue s.requests e there is)) (request-good r s.requests e stands.good.requests there)
    (good-requests s (put_request_queue r (queue ++ session ∷ []) s.requests) s.next_request stands.good (all-change_first (λ (x : RequestEntry). IsGood (Request x.id)) (λ x. same_request x.id r) (λ (x : RequestEntry). record x { queue = queue ++ session ∷ [] }) s.requests (λ x good. good) stands.good.requests))
    (λ queued. request_waits-lay-out s t session r e stands.whole stands.good stands.lays stands.live (room-less t (more + 1) 1 (omega arith) stands.room) there (ap (is_queued session) (sym is) ∙ queued))

-- a session joins the queue of a node, if it is not there yet
pub node-joins : (s : State) (t : TreeState) (session : SessionId) (n : NodeId) (e : NodeEntry) (more : ℕ) → Stands s t (tree_session session) (more + 1) → node_entry n s.nodes ≡ Some e →
    Enacts t (tree_session session) (join_parts (NodeLock n) (node_queue n s.nodes) session) (record s { nodes = put_node_queue n (joined session (node_queue n s.nodes)) s.nodes }) more
node-joins s t session n e more stands there =
    let queue : List SessionId = node_queue n s.nodes in
    let is : queue ≡ e.queue = ap (λ (o : Option NodeEntry). option_map_or (λ (x : NodeEntry). x.queue) o []) there in
    let with : List SessionId → State = λ (list : List SessionId). record s { nodes = put_node_queue n list s.nodes } in
    lock-joins s t session (NodeLock n) queue with more stands (ap (λ (rows : List NodeEntry). record s { nodes = rows }) (queue-kept (λ x. x.id.0 == n.0) queue s.nodes e there is)) (node-good n s.nodes e stands.good.nodes there)
    (good-nodes s (put_node_queue n (queue ++ session ∷ []) s.nodes) s.next_node stands.good (all-change_first (λ (x : NodeEntry). IsGood (Node x.id)) (λ x. x.id.0 == n.0) (λ (x : NodeEntry). record x { queue = queue ++ session ∷ [] }) s.nodes (λ x good. good) stands.good.nodes))
    (λ queued. node_waits-lay-out s t session n e stands.whole stands.good stands.lays stands.live (room-less t (more + 1) 1 (omega arith) stands.room) there (ap (is_queued session) (sym is) ∙ queued))

-- ## a node is allocated

module _ (r : RequestId) (tenant : Option TenantId) (session : SessionId) (r_good : IsGood (Request r)) (tenant_good : IfSome tenant (λ t. t.0 < 2 ^ 16))
    (s : State) (t : TreeState) (more : ℕ) (stands : Stands s t (tree_session session) (more + 2)) (nodes_are : AllByRecursion (λ e. IsNode e.kept) s.nodes) where
  abbrev w : ℕ
  w = tree_session session

  entry-allocated : (e : NodeEntry) → node_entry e.id s.nodes ≡ Some e → Enacts t w (allocate_parts r tenant session e) (record s { nodes = change_first (λ x. x.id.0 == e.id.0) (allocated r tenant session) s.nodes }) more
  entry-allocated e there =
      let is_it : NodeEntry → Bool = λ (x : NodeEntry). x.id.0 == e.id.0 in
      let kept : NodeRecord = (allocated r tenant session e).kept in
      let with_kept : NodeEntry → NodeEntry = λ (x : NodeEntry). record x { kept = kept } in
      let with_queue : NodeEntry → NodeEntry = λ (x : NodeEntry). record x { queue = joined session e.queue } in
      let mid : State = record s { nodes = change_first is_it with_kept s.nodes } in
      let last : List NodeEntry → State = λ (rows : List NodeEntry). record s { nodes = rows } in
      let kept_is : IsNode kept = granted-is e.kept (Some r) tenant (all-find (λ (x : NodeEntry). IsNode x.kept) is_it s.nodes e nodes_are there) r_good tenant_good in
      let e_good : IsGood (Node e.id) = all-find (λ (x : NodeEntry). IsGood (Node x.id)) is_it s.nodes e stands.good.nodes there in
      let sets : List Op = set (node_text kept) (Node e.id) ∷ [] in
      let first : Enacts t w sets mid (more + 1) =
      enacts-set s mid t w (Node e.id) (node_text kept) (more + 1) (stands-less s t w (more + 2) ((more + 1) + 1) (omega arith) stands) e_good
      (good-nodes s (change_first is_it with_kept s.nodes) s.next_node stands.good (all-change_first (λ (x : NodeEntry). IsGood (Node x.id)) is_it with_kept s.nodes (λ x good. good) stands.good.nodes))
      (node-short kept kept_is)
      (nodes-lay-out s t e.id (λ (k : NodeRecord). kept) e.kept (node_text kept) stands.whole stands.good stands.lays (ap (option_map (λ (x : NodeEntry). x.kept)) there) (kept_is, inl refl)) in
      let later : Enacts (after_parts t w sets) w (join_parts (NodeLock e.id) e.queue session) (last (change_first is_it with_queue (change_first is_it with_kept s.nodes))) more =
      let found : node_entry e.id mid.nodes ≡ Some (with_kept e) = find-change_first is_it with_kept (λ x. refl) s.nodes e there in
      subst (λ (queue : List SessionId). Enacts (after_parts t w sets) w (join_parts (NodeLock e.id) queue session) (last (put_node_queue e.id (joined session queue) mid.nodes)) more) (ap (λ (o : Option NodeEntry). option_map_or (λ (x : NodeEntry). x.queue) o []) found)
      (node-joins mid (after_parts t w sets) session e.id (with_kept e) more first.leaves found) in
      let same : change_first is_it with_queue (change_first is_it with_kept s.nodes) ≡ change_first is_it (allocated r tenant session) s.nodes =
      change_first-twice is_it with_kept with_queue (λ x. refl) s.nodes
      ∙ change_first-same is_it (λ (x : NodeEntry). with_queue (with_kept x)) (allocated r tenant session) s.nodes (λ x found.
      let is : e ≡ x = cc in
      ap (λ (y : NodeEntry). record x { kept = (allocated r tenant session y).kept; queue = joined session y.queue }) is) in
      subst (λ (rows : List NodeEntry). Enacts t w (allocate_parts r tenant session e) (last rows) more) same
      (enacts-joined mid (last (change_first is_it with_queue (change_first is_it with_kept s.nodes))) t w sets (join_parts (NodeLock e.id) e.queue session) (more + 1) more first later)

  -- the set of a node's record, and the wait at its lock, if the node is there
  pub node-allocated : (n : NodeId) → Enacts t w (where_there (node_entry n s.nodes) (allocate_parts r tenant session)) (record s { nodes = change_first (λ x. x.id.0 == n.0) (allocated r tenant session) s.nodes }) more
  node-allocated n =
      there-by (λ (list : List NodeEntry). record s { nodes = list }) t w (more + 2) more s.nodes (change_first (λ x. x.id.0 == n.0) (allocated r tenant session) s.nodes) (λ o. where_there o (allocate_parts r tenant session)) (node_entry n s.nodes) (omega arith) stands refl
      (change_first-absent (λ (x : NodeEntry). x.id.0 == n.0) (allocated r tenant session) s.nodes)
      (λ e there.
      let is : e.id ≡ n = node-is e.id n (find-passes (λ (x : NodeEntry). x.id.0 == n.0) s.nodes e there) in
      subst (λ (k : NodeId). Enacts t w (allocate_parts r tenant session e) (record s { nodes = change_first (λ x. x.id.0 == k.0) (allocated r tenant session) s.nodes }) more) is
      (entry-allocated e (subst (λ (k : NodeId). node_entry k s.nodes ≡ Some e) (sym is) there)))

-- # the parts that make a job's handles and that give them back

-- ## lists

-- a change that changes nothing of the member there leaves the list
kept-at : {X : Type 0} (i : ℕ) (f : X → X) (xs : List X) → ((x : X) → slice_get xs i ≡ Some x → f x ≡ x) → change_at i f xs ≡ xs
kept-at i f [] same = refl
kept-at zero f (x ∷ xs) same = ap (λ (first : _). first ∷ xs) (same x refl)
kept-at (suc i) f (x ∷ xs) same = ap (λ (rest : List _). x ∷ rest) (kept-at i f xs same)

-- the jobs with a handle are those of the list there
among-there : (j : JobId) (x : SemId) (handles : List (List JobId)) (jobs : List JobId) (b : Bool) → has_handle j handles x ≡ b → slice_get handles x.0 ≡ Some jobs → is_among j jobs ≡ b
among-there j x handles jobs b has there = ap (λ (o : Option (List JobId)). is_among j (unwrap_or o [])) (sym there) ∙ has

-- ## ids

-- the state with other handles: as many semaphores, and each job has a place
handles-good : (s : State) (list : List (List JobId)) → HasGoodIds s → length list ≡ length s.handles → AllByRecursion AreJobs list → HasGoodIds (record s { handles = list })
handles-good s list good same all = search (arith, good)

-- ## handles are made

acquire-by : (j : JobId) (x : SemId) (s : State) (t : TreeState) (w more : ℕ) (b : Bool) → has_handle j s.handles x ≡ b → j.0 < 2 ^ 32 → x.0 < length s.handles → Stands s t w (more + 1) →
    Enacts t w (cond b [] (make [] (Handle x j) ∷ [])) (record s { handles = change_at x.0 (with_handle j) s.handles }) more
acquire-by j x s t w more true has small low stands =
    subst (λ (list : List (List JobId)). Enacts t w [] (record s { handles = list }) more) (sym (kept-at x.0 (with_handle j) s.handles (λ jobs there.
    ap (λ (b : Bool). cond b jobs (insert_before (λ (other : JobId). nat_lt j.0 other.0) j jobs)) (among-there j x s.handles jobs true has there))))
    (enacts-none s t w more (stands-less s t w (more + 1) more (omega arith) stands))
acquire-by j x s t w more false has small low stands =
    let x_good : x.0 < 2 ^ 16 = omega (arith, stands.good.semaphores) in
    enacts-parts s (record s { handles = change_at x.0 (with_handle j) s.handles }) t w (make [] (Handle x j) ∷ []) more (stands-less s t w (more + 1) (1 + more) (omega arith) stands)
    (handles-good s (change_at x.0 (with_handle j) s.handles) stands.good (length-change_at x.0 (with_handle j) s.handles)
    (all-change_at AreJobs x.0 (with_handle j) s.handles (λ jobs all. by_bool (λ (b : Bool). AreJobs (cond b jobs (insert_before (λ (other : JobId). nat_lt j.0 other.0) j jobs))) (is_among j jobs) (λ _. all)
    (λ _. all-insert_before (λ (k : JobId). IsGood (Job k)) (λ (other : JobId). nat_lt j.0 other.0) j jobs small all)) stands.good.handles)) (part-create (Handle x j) [] Persistent (x_good, small), tt)
    (made-lays-out s t w x j stands.whole stands.good stands.lays stands.live (room-less t (more + 1) 1 (omega arith) stands.room) low small has)

-- the parts that make a job's handles lay out the state in which it has them
pub acquire-enacts : (j : JobId) (semaphores : List SemId) (s : State) (t : TreeState) (w more : ℕ) → j.0 < 2 ^ 32 → AllByRecursion (λ x. x.0 < length s.handles) semaphores → Stands s t w (length semaphores + more) →
    Enacts t w (acquire_parts j semaphores s.handles) (record s { handles = all_with_handle j semaphores s.handles }) more
acquire-enacts j [] s t w more small low stands = enacts-none s t w more (stands-less s t w (0 + more) more (omega arith) stands)
acquire-enacts j (x ∷ semaphores) s t w more small low stands =
    let list : List (List JobId) = change_at x.0 (with_handle j) s.handles in
    let later : State = record s { handles = list } in
    let parts : List Op = cond (has_handle j s.handles x) [] (make [] (Handle x j) ∷ []) in
    let room : length semaphores + more + 1 ≤ length (x ∷ semaphores) + more = omega arith in
    let first = acquire-by j x s t w (length semaphores + more) (has_handle j s.handles x) refl small low.0
    (stands-less s t w (length (x ∷ semaphores) + more) (length semaphores + more + 1) room stands) in
    let low_later : AllByRecursion (λ y. y.0 < length list) semaphores =
    subst (λ (n : ℕ). AllByRecursion (λ (y : SemId). y.0 < n) semaphores) (sym (length-change_at x.0 (with_handle j) s.handles)) low.1 in
    enacts-joined later (record s { handles = all_with_handle j semaphores list }) t w parts (acquire_parts j semaphores list) (length semaphores + more) more first
    (acquire-enacts j semaphores later (after_parts t w parts) w more small low_later first.leaves)

-- ## handles are given back

release-by : (j : JobId) (x : SemId) (s : State) (t : TreeState) (w more : ℕ) (b : Bool) → has_handle j s.handles x ≡ b → Stands s t w (more + 1) →
    Enacts t w (cond b (delete (Handle x j) ∷ []) []) (record s { handles = change_at x.0 (without_handle j) s.handles }) (more + 1)
release-by j x s t w more true has stands =
    let lays : DeleteLaysOut (record s { handles = change_at x.0 (without_handle j) s.handles }) t w (Handle x j) =
    gone-lays-out s t w x j (record { whole = stands.whole; good = stands.good; lays = stands.lays; live = stands.live; room = room-less t (more + 1) 1 (omega arith) stands.room }) has in
    enacts-deletes s (record s { handles = change_at x.0 (without_handle j) s.handles }) t w (delete (Handle x j) ∷ []) (more + 1) stands
    (handles-good s (change_at x.0 (without_handle j) s.handles) stands.good (length-change_at x.0 (without_handle j) s.handles)
    (all-change_at AreJobs x.0 (without_handle j) s.handles (λ jobs all. all-filter (λ (k : JobId). IsGood (Job k)) (λ other. not (other.0 == j.0)) jobs all) stands.good.handles)) (part-delete (Handle x j) (handle-good j x s stands.good has), tt) (tt, tt)
    (record { goes = (lays.goes, refl); lays = lays.lays })
release-by j x s t w more false has stands =
    subst (λ (list : List (List JobId)). Enacts t w [] (record s { handles = list }) (more + 1)) (sym (kept-at x.0 (without_handle j) s.handles (λ jobs there.
    filter-not_none (λ (other : JobId). other.0 == j.0) jobs (none-list_any (λ (other : JobId). other.0 == j.0) jobs (among-there j x s.handles jobs false has there))))) (enacts-none s t w (more + 1) stands)

-- the parts that give a job's handles back lay out the state in which it has none of them
pub release-enacts : (j : JobId) (semaphores : List SemId) (s : State) (t : TreeState) (w more : ℕ) → Stands s t w (more + 1) →
    Enacts t w (release_parts j semaphores s.handles) (record s { handles = all_without_handle j semaphores s.handles }) (more + 1)
release-enacts j [] s t w more stands = enacts-none s t w (more + 1) stands
release-enacts j (x ∷ semaphores) s t w more stands =
    let list : List (List JobId) = change_at x.0 (without_handle j) s.handles in
    let later : State = record s { handles = list } in
    let parts : List Op = cond (has_handle j s.handles x) (delete (Handle x j) ∷ []) [] in
    let first = release-by j x s t w more (has_handle j s.handles x) refl stands in
    enacts-joined later (record s { handles = all_without_handle j semaphores list }) t w parts (release_parts j semaphores list) (more + 1) (more + 1) first
    (release-enacts j semaphores later (after_parts t w parts) w more first.leaves)

-- the parts for a change of handles are accepted, and leave a tree with the changed handles
pub handles-enact : HandlesEnact
handles-enact c w HandlesChange.Same s t more stands = enacts-none s t w more (stands-less s t w (more + 1) more (omega arith) stands)
handles-enact c w (HandlesChange.Release j) s t more stands =
    let enacts = release-enacts j (semaphores_of c j) s t w more stands in
    record { goes = enacts.goes; leaves = stands-less _ _ w (more + 1) more (omega arith) enacts.leaves }

-- # the parts that mark a pair as swept

abbrev ArePairs : List Swept → Type 0
ArePairs list = AllByRecursion (λ pair. IsGood (SweptPlace pair.node pair.server)) list

-- the part for a swept pair, if it was not, lays out the state in which it is
pub swept-enacts : (n : NodeId) (server : ℕ) (s : State) (t : TreeState) (w more : ℕ) → IsGood (SweptPlace n server) → Stands s t w (more + 1) →
    Enacts t w (cond (is_swept n server s.swept) [] (make [] (SweptPlace n server) ∷ [])) (record s { swept = with_pair n server s.swept }) more
swept-enacts n server s t w more is_good stands =
    by_bool (λ (b : Bool). Enacts t w (cond b [] (make [] (SweptPlace n server) ∷ [])) (record s { swept = with_pair n server s.swept }) more) (is_swept n server s.swept)
    (λ is.
    let same : with_pair n server s.swept ≡ s.swept = ap (λ (b : Bool). cond b s.swept (insert_before (is_pair_after n server) (record { node = n; server = server }) s.swept)) is in
    subst (λ (list : List Swept). Enacts t w [] (record s { swept = list }) more) (sym same) (enacts-none s t w more (stands-less s t w (more + 1) more (omega arith) stands)))
    (λ is. enacts-parts s (record s { swept = with_pair n server s.swept }) t w (make [] (SweptPlace n server) ∷ []) more (stands-less s t w (more + 1) (1 + more) (omega arith) stands)
    (let good = stands.good in
    let pairs : ArePairs (with_pair n server s.swept) = by_bool (λ (b : Bool). ArePairs (cond b s.swept (insert_before (is_pair_after n server) (record { node = n; server = server }) s.swept))) (is_swept n server s.swept) (λ _. good.swept)
    (λ _. all-insert_before (λ (pair : Swept). IsGood (SweptPlace pair.node pair.server)) (is_pair_after n server) (record { node = n; server = server }) s.swept is_good good.swept) in
    assumption good) (part-create (SweptPlace n server) [] Persistent is_good, tt)
    (swept_pairs-lay-out s t w n server stands.whole stands.good stands.lays stands.live (room-less t (more + 1) 1 (omega arith) stands.room) is_good is))

-- # the parts for what grows

-- no parts take no room
none : (s : State) (t : TreeState) (w more : ℕ) → Stands s t w (more + 8) → Enacts t w [] s more
none s t w more stands = enacts-none s t w more (stands-less s t w (more + 8) more (omega arith) stands)

-- the parts for what grows are accepted, and leave a tree of the grown state
pub growths-enact : GrowthsEnact
growths-enact c maker Growth.Nothing s t more stands ready = none s t (writer maker) more stands
growths-enact c None (Growth.Session role) s t more stands ready = session-grows s t role more (stands-less s t 1 (more + 8) (more + 1) (omega arith) stands) ready.1.0 (session-short false role ready.1.1)
growths-enact c (Some maker) (Growth.Session role) s t more stands ready = absurd (let is = ready.0 in cc)
growths-enact c (Some maker) (Growth.Registration p) s t more stands ready =
    let w : ℕ = tree_session maker.session in
    enacts-parts s (registers s maker.session p) t w (Op.Create (path_of (Launcher p)) [] Ephemeral ∷ []) more (stands-less s t w (more + 8) (1 + more) (omega arith) stands)
    (let good = stands.good in
    let all = all-insert_before (λ (g : Registration). IsGood (Launcher g.pool)) (λ (g : Registration). nat_lt p.0 g.pool.0) (record { pool = p; session = maker.session }) s.registrations ready.0 good.registrations in
    assumption good) (part-create (Launcher p) [] Ephemeral ready.0, tt)
    (registrations-lay-out s t maker.session p stands.whole stands.good stands.lays stands.live (room-less t (more + 8) 1 (omega arith) stands.room) ready.0 ready.1)
growths-enact c maker (Growth.Request priority asked) s t more stands ready =
    let w : ℕ = writer maker in
    let r : RequestId = next_id priority s in
    let text : List ℕ = request_record_text (new_record asked) in
    let entry : RequestEntry = record { id = r; kept = new_record asked; queue = [] } in
    enacts-parts s (record s { requests = insert_request entry s.requests; next_request = s.next_request + 1 }) t w (request_parts r text) more (stands-less s t w (more + 8) (2 + more) (omega arith) stands)
    (good-requests s (insert_request entry s.requests) (s.next_request + 1) stands.good (all-insert_before (λ (e : RequestEntry). IsGood (Request e.id)) (λ (e : RequestEntry). is_id_before r e.id) entry s.requests ready.0 stands.good.requests))
    (record { path = is_path-below (path_of Requests) (request_prefix r) (is_path-of Requests tt) (is_element-prefix r ready.0); numbered = refl }, (part-create (RequestLock r) [] Persistent ready.0, tt))
    (grown_requests-lay-out s t w priority (new_record asked) stands.whole stands.good stands.lays stands.live (room-less t (more + 8) 2 (omega arith) stands.room) ready.0 (request-short (new_record asked) ready.1.0) ready.1.1)
growths-enact c None (Growth.Node kept) s t more stands ready = absurd (let is = ready.0 in cc)
growths-enact c (Some maker) (Growth.Node kept) s t more stands ready =
    let w : ℕ = tree_session maker.session in
    let n : NodeId = record { 0 = s.next_node } in
    let small = ready.1.1.0 in
    let entry : NodeEntry = record { id = n; kept = kept; queue = maker.session ∷ [] } in
    enacts-parts s (record s { nodes = s.nodes ++ entry ∷ []; next_node = s.next_node + 1 }) t w (node_parts n (node_text kept)) more (stands-less s t w (more + 8) (3 + more) (omega arith) stands)
    (good-nodes s (s.nodes ++ entry ∷ []) (s.next_node + 1) stands.good (all-push (λ (e : NodeEntry). IsGood (Node e.id)) s.nodes entry stands.good.nodes small))
    (record { path = is_path-of Nodes tt; numbered = refl }, (part-create (NodeLock n) [] Persistent small, (part-wait (NodeLock n) small, tt)))
    (grown_nodes-lay-out s t maker.session kept (node_text kept) stands.whole stands.good stands.lays stands.live (room-less t (more + 8) 3 (omega arith) stands.room) (ready.1.0, inl refl) (node-short kept ready.1.0) ready.1.1.1)
growths-enact c (Some maker) (Growth.JoinRequest r) s t more stands ready =
    request-joins s t maker.session r ready.0 more (stands-less s t (tree_session maker.session) (more + 8) (more + 1) (omega arith) stands) ready.1
growths-enact c (Some maker) (Growth.JoinNode n) s t more stands ready =
    node-joins s t maker.session n ready.0 more (stands-less s t (tree_session maker.session) (more + 8) (more + 1) (omega arith) stands) ready.1
growths-enact c (Some maker) (Growth.Allocate n r tenant) s t more stands ready =
    node-allocated r tenant maker.session ready.1.0 ready.0 s t more (stands-less s t (tree_session maker.session) (more + 8) (more + 2) (omega arith) stands) ready.1.1 n
growths-enact c maker (Growth.Handles j) s t more stands ready =
    let few = ready.1.0 in
    acquire-enacts j (semaphores_of c j) s t (writer maker) more ready.0 ready.1.1 (stands-less s t (writer maker) (more + 8) (length (semaphores_of c j) + more) (omega arith) stands)
growths-enact c maker (Growth.Swept n x) s t more stands ready = swept-enacts n x s t (writer maker) more ready (stands-less s t (writer maker) (more + 8) (more + 1) (omega arith) stands)
growths-enact c None _ s t more stands ready = none s t 1 more stands
