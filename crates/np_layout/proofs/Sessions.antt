-- a session begins or ends, and the tree lays out the state after it
use Rattle.np_layout.proofs.Prelude.{AllByRecursion, AllZip, AreLive, Bool, Ends, HasGoodIds, HasHandles, HasLeaves, HasNodeLock, HasQueue, HasRoomFor, IsGood, IsNodeRow, IsWait, IsWhole, Jobs, Launchers, LaysOut, List, NodeEntry, NodeLock, NodePlace, Nodepool, Nodes, None, PartsLayOut, Persistent, Place, Poolsim, Registration, Request, RequestEntry, RequestLock, RequestLocks, Requests, Rises, Role, Roles, Root, Row, Seen, Semaphore, Semaphores, Session, SessionFacts, SessionId, Sessions, Some, State, SweptPairs, Tick, TreeState, Zuul, [], above, after_begin, after_end, after_part, all-find, all-map, all-weaker, ap, arith, at_path, below, by_name, change_at, ended, ends-show, false, filter, filter-not_none, find_named, from-map_some, handle_row, handles_of, insert_before-end, is_in, is_kept, is_lt, is_named, is_owner, is_session, janitor_role_row, job_row, launcher_role_row, launcher_row, left, length, length-append, length-change_at, list_any, list_any-append, make, map, map-push, nat_cmp-less, nat_tests, next_under, node_left, not, option_map, or_false, or_true, owner_at, path_of, place_name, places, range_with_len, refl, request_left, request_lock_row, request_row, requester_role_row, room-gives, row_before, rows-rise, rows_at, rows_from, seen_at, seen_in, seen_of, semaphore_row, session_row, session_text, slice_cmp-ten, subst, suc, swept_row, sym, tree_session, true, under, with_row, without, without_session, zero, ℕ, ◌++◌, ◌+◌, ◌-◌, ◌<◌, ◌==◌, ◌^◌, ◌||◌, ◌∙◌, ◌∷◌, ◌≡◌, ◌≤◌}
use Rattle.np_layout.proofs.Creates.{none-after, none-named}
use Rattle.np_layout.proofs.Stands.{in-more}
use Rattle.np_layout.proofs.Steps.{Step, make-new, owner-there, seen-named}
use Rattle.np_layout.proofs.Elsewhere.{Says, Stays, Table, all-tables, each-table, of_live, of_sessions, table-beside}
use Rattle.np_tree.specs.Prelude.{Node}
use Rattle.np_layout.proofs.Rows.{all-both, all-put, by_name-kept, filter-mapped, zip-filter}

-- # a session begins, and the tree's first session makes its record

-- ## one member more at the end

any-push : {A : Type 0} (p : A → Bool) (list : List A) (a : A) → list_any p (list ++ a ∷ []) ≡ (list_any p list || p a)
any-push p list a = list_any-append p list (a ∷ []) ∙ ap (λ (b : Bool). list_any p list || b) (or_false (p a))

range-push : (count at : ℕ) → range_with_len at (suc count) ≡ range_with_len at count ++ (at + count) ∷ []
range-push zero at = let same : at ≡ at + zero = omega arith in ap (λ (n : ℕ). n ∷ []) same
range-push (suc count) at = grind (arith, range-push count (at + 1))

rows_from-push : {A : Type 0} (row : ℕ → A → Row) (list : List A) (at : ℕ) (a : A) → rows_from row at (list ++ a ∷ []) ≡ rows_from row at list ++ row (at + length list) a ∷ []
rows_from-push row [] at a = let same : at ≡ at + zero = omega arith in ap (λ (n : ℕ). row n a ∷ []) same
rows_from-push row (b ∷ list) at a = grind (arith, rows_from-push row list (at + 1) a)

-- ## the new record is the last

sessions-before : (list : List SessionFacts) (at new : ℕ) (g : SessionFacts) → at + length list ≤ new → new < 2 ^ 32 → AllByRecursion (λ other. row_before other (session_row new g) ≡ true) (rows_from session_row at list)
sessions-before [] at new g within small = tt
sessions-before (f ∷ list) at new g within small = (ap is_lt (slice_cmp-ten at new (omega arith) small ∙ nat_cmp-less at new (omega arith)), sessions-before list (at + 1) new g (omega arith) small)

-- ## who is live

-- a lower number is as it was
live-each : (live : List ℕ) (count at new : ℕ) → at + count ≤ new → map (is_in (live ++ new ∷ [])) (range_with_len at count) ≡ map (is_in live) (range_with_len at count)
live-each live zero at new within = refl
live-each live (suc count) at new within = grind (arith, nat_tests, any-push (λ (s : ℕ). s == at) live new, live-each live count (at + 1) new)

new-live : (live : List ℕ) (new : ℕ) → is_in (live ++ new ∷ []) new ≡ true
new-live live new = let itself : (new == new) ≡ true = grind (arith, nat_tests) in any-push (λ (s : ℕ). s == new) live new ∙ ap (λ (b : Bool). is_in live new || b) itself ∙ or_true (is_in live new)

begun-live : (sessions : List SessionFacts) (role : Role) (t u : TreeState) → u.live ≡ (after_begin t).live → u.begun ≡ (after_begin t).begun → AreLive sessions t → AreLive (sessions ++ record { role = role; live = true; mute = false } ∷ []) u
begun-live sessions role t u live begun are =
    let f : SessionFacts = record { role = role; live = true; mute = false } in
    let n : ℕ = length sessions in
    let long : length (sessions ++ f ∷ []) ≡ suc n = simp length-append (omega arith) in
    let new : t.begun + 1 ≡ 2 + n = let is = are.begun in omega arith in
    let is_live : u.live ≡ t.live ++ (2 + n) ∷ [] = live ∙ ap (λ (k : ℕ). t.live ++ k ∷ []) new in
    record {
      begun = begun ∙ (let is = are.begun in let same = long in let sum : t.begun + 1 ≡ length (sessions ++ f ∷ []) + 1 = omega arith in sum);
      first = ap (λ (list : List ℕ). is_in list 1) is_live ∙ in-more t.live 1 (2 + n) are.first;
      each =
          ap (λ (list : List ℕ). map (is_in list) (range_with_len 2 (length (sessions ++ f ∷ [])))) is_live
          ∙ ap (λ (k : ℕ). map (is_in (t.live ++ (2 + n) ∷ [])) (range_with_len 2 k)) long
          ∙ ap (map (is_in (t.live ++ (2 + n) ∷ []))) (range-push n 2)
          ∙ map-push (is_in (t.live ++ (2 + n) ∷ [])) (range_with_len 2 n) (2 + n)
          ∙ ap (λ (b : Bool). map (is_in (t.live ++ (2 + n) ∷ [])) (range_with_len 2 n) ++ b ∷ []) (new-live t.live (2 + n))
          ∙ ap (λ (flags : List Bool). flags ++ true ∷ []) (live-each t.live n 2 (2 + n) (omega arith) ∙ are.each)
          ∙ sym (map-push (λ (g : SessionFacts). g.live) sessions f);
    }

module _ (s : State) (t : TreeState) (role : Role) (whole : IsWhole t.nodes) (good : HasGoodIds s) (lays : LaysOut s t) (room : HasRoomFor 1 t) (small : length s.sessions + 1 < 2 ^ 32) (short : length (session_text (record { mute = false; role = role })) ≤ 65_536) where
  abbrev new : ℕ
  new = length s.sessions + 1

  abbrev facts : SessionFacts
  facts = record { role = role; live = true; mute = false }

  abbrev place : Place
  place = Session (record { 0 = new })

  abbrev bytes : List ℕ
  bytes = session_text (record { mute = false; role = role })

  abbrev from : TreeState
  from = after_begin t

  owner : owner_at from (path_of Sessions) ≡ Some None
  owner = owner-there from Poolsim Sessions _ whole tt refl lays.frame.poolsim refl (refl, (refl, (refl, (refl, (refl, tt)))))

  step : Step Sessions place Persistent (session_row new facts) from 1 (make bytes place)
  step = make-new from 1 Sessions place _ bytes Persistent owner small refl refl (λ counter. refl) short whole (in-more t.live 1 (t.begun + 1) lays.live.first) (room-gives from 0 (assumption room)) lays.sessions.rows
      (none-named (session_row new facts) (rows_from session_row 1 s.sessions) (sessions-before s.sessions 1 new facts (omega arith) small))

  abbrev u : TreeState
  u = after_part from 1 (make bytes place)

  -- the begin changes no node
  stays : Stays (Sessions ∷ []) t u
  stays = record { rows = step.creates.stays.rows; leaves = step.creates.stays.leaves; counters = step.creates.stays.counters }

  session-lays : LaysOut (record s { sessions = s.sessions ++ facts ∷ [] }) u
  session-lays = all-tables _ _ each where
    each : (k : Table) → Says (record s { sessions = s.sessions ++ facts ∷ [] }) u k
    each of_sessions = record {
      rows =
          step.creates.rows ∙ ap (with_row (session_row new facts)) lays.sessions.rows
          ∙ insert_before-end (λ other. row_before (session_row new facts) other) (session_row new facts) (rows_from session_row 1 s.sessions) (none-after (session_row new facts) (rows_from session_row 1 s.sessions) (sessions-before s.sessions 1 new facts (omega arith) small))
          ∙ sym (rows_from-push session_row s.sessions 1 facts ∙ ap (λ (n : ℕ). rows_from session_row 1 s.sessions ++ session_row n facts ∷ []) (omega arith));
      leaves = step.creates.leaves lays.sessions.leaves;
    }
    each of_live = begun-live s.sessions role t u step.creates.live step.creates.begun lays.live
    each k = table-beside s (Sessions ∷ []) t _ good stays k refl refl (each-table s t lays k)

  -- the begin of a session and a create of its record lay out the state in which it has begun
  pub sessions-lay-out : PartsLayOut (record s { sessions = s.sessions ++ facts ∷ [] }) from 1 (make bytes place ∷ [])
  sessions-lay-out = record { goes = (step.ok, refl); lays = session-lays }

-- # a session ends

-- ## rows that no session owns

abbrev IsPlain : Row → Type 0
IsPlain row = row.owner ≡ None

abbrev ArePlain : List Row → Type 0
ArePlain rows = AllByRecursion IsPlain rows

-- they are put in order
plain-by_name : (rows : List Row) → ArePlain rows → ArePlain (by_name rows)
plain-by_name rows all = all-put IsPlain rows [] tt all

plain-from : {A : Type 0} (row : ℕ → A → Row) → ((n : ℕ) (a : A) → (row n a).owner ≡ None) → (list : List A) (at : ℕ) → ArePlain (rows_from row at list)
plain-from row plain [] at = tt
plain-from row plain (a ∷ list) at = (plain at a, plain-from row plain list (at + 1))

plain-nodes : (rows : List Row) (entries : List NodeEntry) → AllZip IsNodeRow rows entries → ArePlain rows
plain-nodes [] [] all = tt
plain-nodes (row ∷ rows) (e ∷ entries) all = (ap (λ (r : Row). r.owner) all.0.is, plain-nodes rows entries all.1)
plain-nodes _ _ all = absurd all

kept-plain : (z : ℕ) (rows : List Row) → ArePlain rows → filter (is_kept z) rows ≡ rows
kept-plain z rows all = filter-not_none (λ (row : Row). is_owner z row.owner) rows (all-weaker IsPlain (λ (row : Row). is_owner z row.owner ≡ false) (λ row none. ap (is_owner z) none) rows all)

-- ## lists of the state

rows_from-same : {A : Type 0} (row : ℕ → A → Row) (f : A → A) → ((n : ℕ) (a : A) → row n (f a) ≡ row n a) → (list : List A) (i at : ℕ) → rows_from row at (change_at i f list) ≡ rows_from row at list
rows_from-same row f same [] i at = refl
rows_from-same row f same (a ∷ list) zero at = ap (λ (r : Row). r ∷ rows_from row (at + 1) list) (same at a)
rows_from-same row f same (a ∷ list) (suc i) at = ap (λ (rows : List Row). row at a ∷ rows) (rows_from-same row f same list i (at + 1))

map-after : {A : Type 0} (row : A → Row) (f : A → A) → ((a : A) → row (f a) ≡ row a) → (list : List A) → map row (map f list) ≡ map row list
map-after row f same [] = refl
map-after row f same (a ∷ list) = rw (same a, map-after row f same list) refl

zip-left : (session : SessionId) (rows : List Row) (entries : List NodeEntry) → AllZip IsNodeRow rows entries → AllZip IsNodeRow rows (map (node_left session) entries)
zip-left session [] [] all = tt
zip-left session (row ∷ rows) (e ∷ entries) all = (record { is = all.0.is; spells = all.0.spells }, zip-left session rows entries all.1)
zip-left session _ _ all = absurd all

-- ## live sessions

-- another session is live as before
in-other : (live : List ℕ) (z k : ℕ) → (k == z) ≡ false → is_in (without live z) k ≡ is_in live k
in-other [] z k other = refl
in-other (s ∷ live) z k other = grind (arith, nat_tests, in-other live z k other)

-- the session is not
in-gone : (live : List ℕ) (z : ℕ) → is_in (without live z) z ≡ false
in-gone [] z = refl
in-gone (s ∷ live) z = grind (arith, nat_tests, in-gone live z)

-- later sessions
live-past : (live : List ℕ) (z count at : ℕ) → z < at → map (is_in (without live z)) (range_with_len at count) ≡ map (is_in live) (range_with_len at count)
live-past live z zero at past = refl
live-past live z (suc count) at past = grind (arith, nat_tests, in-other live z at, live-past live z count (at + 1))

live-ended : (live : List ℕ) (z : ℕ) (sessions : List SessionFacts) (at i : ℕ) → at + i ≡ z → map (is_in live) (range_with_len at (length sessions)) ≡ map (λ (f : SessionFacts). f.live) sessions →
    map (is_in (without live z)) (range_with_len at (length (change_at i ended sessions))) ≡ map (λ (f : SessionFacts). f.live) (change_at i ended sessions)
live-ended live z [] at i same each = refl
live-ended live z (f ∷ sessions) at zero same each = grind (arith, nat_tests, in-gone live z, live-past live z (length sessions) (at + 1))
live-ended live z (f ∷ sessions) at (suc i) same each = grind (arith, nat_tests, in-other live z at, live-ended live z sessions (at + 1) i)

-- ## the tree

one_more : (a b : ℕ) → ((a + 1) == (b + 1)) ≡ (a == b)
one_more a b = grind (arith, nat_tests)

module _ (s : State) (t : TreeState) (session : SessionId) (whole : IsWhole t.nodes) (good : HasGoodIds s) (lays : LaysOut s t) (one : 1 ≤ session.0) where
  abbrev z : ℕ
  z = tree_session session

  abbrev ended_tree : TreeState
  ended_tree = after_end t (tree_session session)

  shows : Ends (tree_session session) t ended_tree
  shows = ends-show t (tree_session session) whole

  -- rows stay but for the session's own
  kept-at : (p : Place) (rows : List Row) → under p t ≡ rows → under p ended_tree ≡ filter (is_kept z) rows
  kept-at p rows same = shows.rows (path_of p) ∙ ap (filter (is_kept z)) same

  -- rows that no session owns stay
  ended-stays : (p : Place) (rows : List Row) → under p t ≡ rows → ArePlain rows → under p ended_tree ≡ rows
  ended-stays p rows same plain = kept-at p rows same ∙ kept-plain z rows plain

  leaves-stay : (p : Place) (rows : List Row) → under p t ≡ rows → ArePlain rows → HasLeaves p t → HasLeaves p ended_tree
  leaves-stay p rows same plain leaves =
      subst (λ (list : List Row). AllByRecursion (λ row. rows_at ended_tree (below (path_of p) row.name) ≡ []) list) (same ∙ sym (ended-stays p rows same plain))
      (all-weaker (λ (row : Row). rows_at t (below (path_of p) row.name) ≡ []) (λ (row : Row). rows_at ended_tree (below (path_of p) row.name) ≡ [])
      (λ row none. shows.rows (below (path_of p) row.name) ∙ ap (filter (is_kept z)) none) (under p t) leaves)

  -- so do the counters of places among such rows
  counter-stays : (p dir : Place) (next : ℕ) → IsGood p → above p ≡ Some dir → ArePlain (under dir t) → next_under p t ≡ Some next → next_under p ended_tree ≡ Some next
  counter-stays p dir next p_good over plain gives =
      let node = from-map_some (λ (n : Node). n.facts.counter) (at_path t.nodes (path_of p)) next gives in
      let seen : seen_at t (path_of p) ≡ Some (seen_of node.0) = ap (option_map seen_of) node.1 in
      let row = from-map_some seen_in (find_named (place_name p) (under dir t)) (seen_of node.0) (sym (seen-named t dir p whole p_good over) ∙ seen) in
      let owner : row.0.owner ≡ None = all-find IsPlain (is_named (place_name p)) (under dir t) row.0 plain row.1 in
      let free : is_owner z (seen_of node.0).owner ≡ false = ap (λ (x : Seen). is_owner z x.owner) (sym row.2) ∙ ap (is_owner z) owner in
      shows.counters (path_of p) (seen_of node.0) seen free ∙ gives

  owned-tells : (rows : List Row) (queue : List SessionId) (next : ℕ) → AllZip (IsWait next) rows queue → AllZip (λ row other. is_owner z row.owner ≡ is_session other session) rows queue
  owned-tells [] [] next all = tt
  owned-tells (row ∷ rows) (other ∷ queue) next all = (ap (λ (r : Row). is_owner z r.owner) all.0.is ∙ one_more other.0 session.0, owned-tells rows queue next all.1)
  owned-tells _ _ next all = absurd all

  -- a queue loses the session
  queue-ends : (lock dir : Place) (queue : List SessionId) → IsGood lock → above lock ≡ Some dir → ArePlain (under dir t) → HasQueue lock queue t → HasQueue lock (left session queue) ended_tree
  queue-ends lock dir queue lock_good over plain is = record {
    next = is.next;
    gives = counter-stays lock dir is.next lock_good over plain is.gives;
    waits = subst (λ (rows : List Row). AllZip (IsWait is.next) rows (left session queue)) (sym (shows.rows (path_of lock)))
        (zip-filter (λ other. is_session other session) (IsWait is.next) (λ row. is_owner z row.owner) (under lock t) queue (owned-tells (under lock t) queue is.next is.waits) is.waits);
  }

  -- ## each table

  requests-plain : ArePlain (map request_row s.requests)
  requests-plain = all-map IsPlain request_row s.requests (λ e. refl)

  locks-plain : ArePlain (map request_lock_row s.requests)
  locks-plain = all-map IsPlain request_lock_row s.requests (λ e. refl)

  request-queues : (entries : List RequestEntry) → AllByRecursion (λ e. IsGood (Request e.id)) entries → AllByRecursion (λ e. HasQueue (RequestLock e.id) e.queue t) entries → AllByRecursion (λ e. HasQueue (RequestLock e.id) e.queue ended_tree) (map (request_left session) entries)
  request-queues [] all_good all = tt
  request-queues (e ∷ entries) all_good all =
      (queue-ends (RequestLock e.id) RequestLocks e.queue all_good.0 refl (subst ArePlain (sym lays.request_locks.rows) locks-plain) all.0, request-queues entries all_good.1 all.1)

  node-locks : (entries : List NodeEntry) → AllByRecursion (λ e. IsGood (NodePlace e.id)) entries → AllByRecursion (HasNodeLock t) entries → AllByRecursion (HasNodeLock ended_tree) (map (node_left session) entries)
  node-locks [] all_good all = tt
  node-locks (e ∷ entries) all_good all = (
    record {
      rows = kept-at (NodePlace e.id) _ all.0.rows;
      queue = queue-ends (NodeLock e.id) (NodePlace e.id) e.queue all_good.0 refl (subst ArePlain (sym all.0.rows) (refl, tt)) all.0.queue;
    },
    node-locks entries all_good.1 all.1,
  )

  handles-end : (list : List ℕ) → AllByRecursion (λ at. HasHandles s.handles t (record { 0 = at })) list → AllByRecursion (λ at. HasHandles s.handles ended_tree (record { 0 = at })) list
  handles-end list all = all-weaker (λ (at : ℕ). HasHandles s.handles t (record { 0 = at })) (λ (at : ℕ). HasHandles s.handles ended_tree (record { 0 = at }))
      (λ at has.
      let rows : List Row = by_name (map (handle_row (record { 0 = at })) (handles_of (record { 0 = at }) s.handles)) in
      let plain : ArePlain rows = plain-by_name (map (handle_row (record { 0 = at })) (handles_of (record { 0 = at }) s.handles)) (all-map IsPlain (handle_row (record { 0 = at })) (handles_of (record { 0 = at }) s.handles) (λ j. refl)) in
      record { rows = ended-stays (Semaphore (record { 0 = at })) rows has.rows plain; leaves = leaves-stay (Semaphore (record { 0 = at })) rows has.rows plain has.leaves }) list all

  registrations-tell : (list : List Registration) → AllByRecursion (λ g. is_kept z (launcher_row g) ≡ not (is_session g.session session)) list
  registrations-tell [] = tt
  registrations-tell (g ∷ list) = (ap not (one_more g.session.0 session.0), registrations-tell list)

  abbrev ended_sessions : List SessionFacts
  ended_sessions = change_at (session.0 - 1) ended s.sessions

  live-ends : AreLive ended_sessions ended_tree
  live-ends =
      let other : (1 == z) ≡ false = grind (arith, nat_tests) in
      record {
        begun = lays.live.begun ∙ ap (λ (n : ℕ). n + 1) (sym (length-change_at (session.0 - 1) ended s.sessions));
        first = in-other t.live z 1 other ∙ lays.live.first;
        each = live-ended t.live z s.sessions 2 (session.0 - 1) (omega arith) lays.live.each;
      }

  -- the end of a session lays out the state in which it has ended and is nowhere registered and in no queue
  pub session_ends-lay-out : LaysOut (without_session session s) ended_tree
  session_ends-lay-out =
      let jobs : List Row = rows_from job_row 0 s.jobs in
      let jobs_plain : ArePlain (by_name jobs) = plain-by_name jobs (plain-from job_row (λ n a. refl) s.jobs 0) in
      let roles : List Row = rows_from launcher_role_row 0 s.launchers ++ rows_from janitor_role_row 0 s.janitors ++ rows_from requester_role_row 0 s.requesters in
      let roles_plain : ArePlain (by_name roles) = plain-by_name roles
      (all-both IsPlain (rows_from launcher_role_row 0 s.launchers ++ rows_from janitor_role_row 0 s.janitors) (rows_from requester_role_row 0 s.requesters)
      (all-both IsPlain (rows_from launcher_role_row 0 s.launchers) (rows_from janitor_role_row 0 s.janitors) (plain-from launcher_role_row (λ n a. refl) s.launchers 0) (plain-from janitor_role_row (λ n a. refl) s.janitors 0))
      (plain-from requester_role_row (λ n a. refl) s.requesters 0)) in
      let sessions_plain : ArePlain (rows_from session_row 1 s.sessions) = plain-from session_row (λ n a. refl) s.sessions 1 in
      let swept : List Row = map swept_row s.swept in
      let swept_plain : ArePlain (by_name swept) = plain-by_name swept (all-map IsPlain swept_row s.swept (λ a. refl)) in
      let semaphores : List Row = map semaphore_row (places s.handles) in
      let nodepool_plain : ArePlain (under Nodepool t) = subst ArePlain (sym lays.frame.nodepool) (refl, (refl, (refl, (refl, tt)))) in
      let nodes_plain = plain-nodes (under Nodes t) s.nodes lays.nodes.rows in
      record {
        frame = assumption (kept-at Root _ lays.frame.root, kept-at Nodepool _ lays.frame.nodepool, kept-at Zuul _ lays.frame.zuul, kept-at Poolsim _ lays.frame.poolsim, kept-at Tick _ lays.frame.leaf);
        requests = record {
          rows = ended-stays Requests (map request_row s.requests) lays.requests.rows requests-plain ∙ sym (map-after request_row (request_left session) (λ e. refl) s.requests);
          leaves = leaves-stay Requests (map request_row s.requests) lays.requests.rows requests-plain lays.requests.leaves;
          gives = counter-stays Requests Nodepool s.next_request tt refl nodepool_plain lays.requests.gives;
        };
        request_locks = record {
          rows = ended-stays RequestLocks (map request_lock_row s.requests) lays.request_locks.rows locks-plain ∙ sym (map-after request_lock_row (request_left session) (λ e. refl) s.requests);
          queues = request-queues s.requests good.requests lays.request_locks.queues;
        };
        nodes = record {
          rows = subst (λ (rows : List Row). AllZip IsNodeRow rows (map (node_left session) s.nodes)) (sym (ended-stays Nodes (under Nodes t) refl nodes_plain)) (zip-left session (under Nodes t) s.nodes lays.nodes.rows);
          gives = counter-stays Nodes Nodepool s.next_node tt refl nodepool_plain lays.nodes.gives;
        };
        node_locks = node-locks s.nodes good.nodes lays.node_locks;
        launchers =
            kept-at Launchers _ lays.launchers
            ∙ by_name-kept (is_kept z) (map launcher_row s.registrations) (subst (Rises row_before) lays.launchers (rows-rise t (path_of Launchers) whole))
            ∙ ap by_name (filter-mapped launcher_row (is_kept z) (λ g. not (is_session g.session session)) s.registrations (registrations-tell s.registrations));
        semaphores = record {
          rows = ended-stays Semaphores (by_name semaphores) lays.semaphores.rows (plain-by_name semaphores (all-map IsPlain semaphore_row (places s.handles) (λ a. refl)));
          each = handles-end (places s.handles) lays.semaphores.each;
        };
        jobs = record { rows = ended-stays Jobs (by_name jobs) lays.jobs.rows jobs_plain; leaves = leaves-stay Jobs (by_name jobs) lays.jobs.rows jobs_plain lays.jobs.leaves };
        roles = record { rows = ended-stays Roles (by_name roles) lays.roles.rows roles_plain; leaves = leaves-stay Roles (by_name roles) lays.roles.rows roles_plain lays.roles.leaves };
        sessions = record {
          rows = ended-stays Sessions (rows_from session_row 1 s.sessions) lays.sessions.rows sessions_plain ∙ sym (rows_from-same session_row ended (λ n a. refl) s.sessions (session.0 - 1) 1);
          leaves = leaves-stay Sessions (rows_from session_row 1 s.sessions) lays.sessions.rows sessions_plain lays.sessions.leaves;
        };
        swept = record { rows = ended-stays SweptPairs (by_name swept) lays.swept.rows swept_plain; leaves = leaves-stay SweptPairs (by_name swept) lays.swept.rows swept_plain lays.swept.leaves };
        live = live-ends;
      }
