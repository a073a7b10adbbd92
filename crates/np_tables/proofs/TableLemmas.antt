-- the tables of a state: what is found in them, what has room in them, and what a change leaves of them
use Rattle.np_tables.proofs.Prelude.{AllByRecursion, AreQueuesOf, Bool, CanEnd, CanSettle, Changes, Configuration, Done, EndsSession, Err, Event, Fits, Growth, IsCountable, IsFitSite, IsNumbered, IsPlanned, IsReached, Janitor, JobId, JobRecord, JobsChange, LabelId, Launcher, List, Locked, Maker, NodeEntry, NodeId, NodesChange, None, NonePass, Ok, Option, PoolId, Premises, Reason, Refusal, RequestEntry, RequestFits, RequestId, RequestRecord, Requester, RequestsChange, Result, Rises, Role, Roomy, SessionId, SessionsChange, SessionsPremise, Shaped, Some, State, TakesEdit, TenantId, all-filter, all-find, all-map, all-mapped, all-weaker, allocated, ap, arith, by_maker, change_at, change_first, change_first-same, changed, changed_in_queues, cond, decline-first, equal-itself, false, filter, filter-not_none, find, get_or, grown, has_place, insert, insert_before, insert_before-end, invariant-Runs, is-below, is_among, is_id_before, is_node_before, is_ok, is_queued, is_session, is_some, janitor, jobs-grown, jobs_changed, joined, judge, judge_decline, judge_take_ready, launcher, launcher-role, left, length, length-change_at, length-map, length-set, made_by, maker, map, nat_lt, nat_tests, next, next_label, node_in, node_left, node_queue, nodes_changed, none-list_any, ok-what, option_map_or, plan, plan-next, position, position-Some, position_or_len, premises, put_node_queue, put_request_queue, refl, remove_first, replicate, request-apart, request-itself, request_entry, request_in, request_left, request_of_job, request_queue, requester, requests_changed, rooms_of, rows_of, same_node, same_request, session_of, shape-Runs, shape-next, slice_get, slice_get_within, slice_set, start, subst, suc, sym, take, take_ready-room, true, with_found, with_given, with_handle, with_mark, without_handle, zero, ℕ, [], ◌++◌, ◌<◌, ◌==◌, ◌^◌, ◌||◌, ◌∙◌, ◌∷◌, ◌≡◌, ◌≤◌}
use Rattle.np_changes.specs.Plan

-- # the tables of a state: what is found in them, what has room in them, and what a change leaves of them

-- # a change of the row that was found is the change of its queue in the definitions

-- the queue of the row found is the one that is changed
pub queue-changed : {I K : Type 0} (p : Locked I K → Bool) (f : List SessionId → List SessionId) (rows : List (Locked I K)) → change_first p (λ e. record e { queue = f e.queue }) rows ≡ change_first p (λ e. record e { queue = f (option_map_or (λ found. found.queue) (find p rows) []) }) rows
queue-changed {I} {K} p f rows = change_first-same p (λ e. record e { queue = f e.queue }) (λ e. record e { queue = f (option_map_or (λ found. found.queue) (find p rows) []) }) rows (λ e has. rw has refl)

pub request-queued : (f : List SessionId → List SessionId) (r : RequestId) (requests : List RequestEntry) → change_first (λ e. same_request e.id r) (λ e. record e { queue = f e.queue }) requests ≡ put_request_queue r (f (request_queue r requests)) requests
request-queued f r requests = queue-changed (λ (e : RequestEntry). same_request e.id r) f requests

pub node-queued : (f : List SessionId → List SessionId) (n : NodeId) (nodes : List NodeEntry) → change_first (λ e. e.id.0 == n.0) (λ e. record e { queue = f e.queue }) nodes ≡ put_node_queue n (f (node_queue n nodes)) nodes
node-queued f n nodes = queue-changed (λ (e : NodeEntry). e.id.0 == n.0) f nodes

-- the node that is allocated has the queue that was made of its own
pub node-allocated : (r : RequestId) (tenant : Option TenantId) (session : SessionId) (n : NodeId) (nodes : List NodeEntry) → change_first (λ e. e.id.0 == n.0) (λ e. record e { kept = record e.kept { allocated_to = Some r; tenant = tenant }; queue = joined session (node_queue n nodes) }) nodes ≡ change_first (λ e. e.id.0 == n.0) (allocated r tenant session) nodes
node-allocated r tenant session n nodes = change_first-same (λ (e : NodeEntry). e.id.0 == n.0) (λ e. record e { kept = record e.kept { allocated_to = Some r; tenant = tenant }; queue = joined session (node_queue n nodes) }) (allocated r tenant session) nodes (λ e has. rw has refl)

-- who joins the queue of nobody is alone in it
pub joined-none : (maker : Option Maker) → by_maker maker joined [] ≡ by_maker maker (λ session queue. queue ++ session ∷ []) []
joined-none None = refl
joined-none (Some maker) = refl

-- # the lists of a state stay countable

length-jobs_changed : (change : JobsChange) (rows : List JobRecord) → length (jobs_changed change rows) ≡ length rows
length-jobs_changed JobsChange.Same rows = refl
length-jobs_changed (JobsChange.Put j kept) rows = length-set rows j.0 kept
length-jobs_changed (JobsChange.EndNode j n) rows = length-change_at j.0 (with_mark n) rows

countable-shape : (c : Configuration) (m : ℕ) (s : State) → m ≤ 262145 → length s.jobs < 2 ^ 32 → Shaped c m m s → IsCountable s
countable-shape c m s few jobs is = record {
  sessions = omega (arith, is.sessions);
  registrations = omega (arith, is.registrations);
  requests = omega (arith, is.requests);
  nodes = omega (arith, is.nodes);
  jobs = jobs;
  handles = all-weaker (λ (js : List JobId). length js ≤ m) (λ (js : List JobId). length js < 2 ^ 32) (λ js small. omega arith) s.handles is.handles;
}

pub countable-start : (c : Configuration) → length c.jobs ≤ 4096 → IsCountable (start c)
countable-start c few = record {
  sessions = omega arith;
  registrations = omega arith;
  requests = omega arith;
  nodes = omega arith;
  jobs = rw length-map (omega arith);
  handles = all-map (λ (js : List JobId). length js < 2 ^ 32) (λ _. []) c.semaphores (λ _. omega arith);
}

pub countable-changed : (c : Configuration) (ch : Changes) (s : State) → IsFitSite c → IsReached c s → IsPlanned c s ch → length s.jobs < 2 ^ 32 → IsCountable (changed c ch s)
countable-changed c ch s site reached planned few =
    let leads : changed c ch s ≡ next c s planned.event = ap (λ (x : Changes). changed c x s) planned.plan ∙ plan-next c s planned.event planned.accepted in
    let jobs : length (changed c ch s).jobs ≡ length s.jobs = length-jobs_changed ch.jobs (grown c ch.maker ch.grows s).jobs ∙ ap (λ (rows : List JobRecord). length rows) (jobs-grown c ch.maker ch.grows s) in
    let short = reached.runs.short in
    let shape : Shaped c (suc (length reached.journal)) (suc (length reached.journal)) (next c s planned.event) = shape-next c site (length reached.journal) s planned.event (shape-Runs c reached.journal s site reached.runs) in
    countable-shape c (suc (length reached.journal)) (changed c ch s) (omega arith) (rw jobs few) (rw leads shape)

-- # in whose queues a session is that ends, once all else is changed

module _ (c : Configuration) (s : State) (ch : Changes) (planned : IsPlanned c s ch) where
  given : Premises c s ch
  given = subst (Premises c s) (sym planned.plan) (premises c s planned.event planned.accepted)

  ends-alone : (session : SessionId) → ch.sessions ≡ SessionsChange.End session → EndsSession s ch session
  ends-alone session is = subst (λ (change : SessionsChange). SessionsPremise s ch change) is given.sessions

  -- nothing else happens to the requests and the nodes
  same-requests : (session : SessionId) → EndsSession s ch session → (changed_in_queues c ch s).requests ≡ s.requests
  same-requests session ends =
      ap (λ (change : RequestsChange). requests_changed ch.maker change (grown c ch.maker ch.grows s).requests) ends.same_requests
      ∙ ap (λ (growth : Growth). (grown c ch.maker growth s).requests) ends.same_size

  same-nodes : (session : SessionId) → EndsSession s ch session → (changed_in_queues c ch s).nodes ≡ s.nodes
  same-nodes session ends =
      ap (λ (change : NodesChange). nodes_changed ch.maker (grown c ch.maker ch.grows s).tick change (grown c ch.maker ch.grows s).nodes) ends.same_nodes
      ∙ ap (λ (growth : Growth). (grown c ch.maker growth s).nodes) ends.same_size

  module _ (reached : IsReached c s) (at_requests : List RequestId) (at_nodes : List NodeId) (queues : AreQueuesOf s ch at_requests at_nodes) where
    numbered : IsNumbered s
    numbered = (invariant-Runs c reached.journal s reached.runs).numbered

    can-end_by : (change : SessionsChange) → ch.sessions ≡ change → CanEnd change (changed_in_queues c ch s) at_requests at_nodes
    can-end_by SessionsChange.Same is = tt
    can-end_by (SessionsChange.Mute session) is = tt
    can-end_by (SessionsChange.End session) is =
        let ends = ends-alone session is in
        let of_requests : s.requests ≡ (changed_in_queues c ch s).requests = sym (same-requests session ends) in
        let of_nodes : s.nodes ≡ (changed_in_queues c ch s).nodes = sym (same-nodes session ends) in
        record {
          at_requests = queues.at_requests session is ∙ ap (λ (rows : List RequestEntry). map (λ e. e.id) (filter (λ e. is_queued session e.queue) rows)) of_requests;
          at_nodes = queues.at_nodes session is ∙ ap (λ (rows : List NodeEntry). map (λ e. e.id) (filter (λ e. is_queued session e.queue) rows)) of_nodes;
          requests_rise = subst (Rises (λ (a b : RequestEntry). is_id_before a.id b.id)) of_requests numbered.requests_rise;
          nodes_rise = subst (Rises (λ (a b : NodeEntry). is_node_before a.id b.id)) of_nodes numbered.nodes_rise;
        }

    -- the requests and nodes that had the session before are those that have it then
    pub can-end : CanEnd ch.sessions (changed_in_queues c ch s) at_requests at_nodes
    can-end = can-end_by ch.sessions refl

-- # what a look-up finds fits

pub request-fits : (c : Configuration) (s : State) (r : RequestId) (e : RequestEntry) → Fits c s → request_entry r s.requests ≡ Some e → RequestFits c s e
request-fits c s r e fits is = all-find (RequestFits c s) (λ other. same_request other.id r) s.requests e fits.each_request is

-- ## what an accepted event leaves room for

pub decline-room : (c : Configuration) (s : State) (session : SessionId) (r : RequestId) (why : Reason) (p : PoolId) (e : RequestEntry) → Fits c s → is_ok (judge_decline c s session r why) ≡ true → launcher s session ≡ Ok p → request_entry r s.requests ≡ Some e → length e.kept.declined < 64
decline-room c s session r why p e fits judged who found =
    let was : (what : Done) × (judge_decline c s session r why ≡ Ok what) = ok-what (judge_decline c s session r why) judged in
    let has : request_in r s.requests ≡ Some e.kept = rw found refl in
    (request-fits c s r e fits found).declined p (fits.launcher_pools session p (launcher-role s session p who)) (decline-first c s session r why was.0 p e.kept was.1 who has)

pub next-room : (c : Configuration) (s : State) (r : RequestId) (e : RequestEntry) (l : LabelId) → Fits c s → request_entry r s.requests ≡ Some e → next_label e.kept ≡ Some l → length e.kept.nodes < 32
next-room c s r e l fits found is =
    omega (arith, (request-fits c s r e fits found).labels, slice_get_within e.kept.labels (length e.kept.nodes) l is)

take_by : (c : Configuration) (s : State) (r : RequestId) (e : RequestEntry) (o : Option LabelId) → Fits c s → request_entry r s.requests ≡ Some e → next_label e.kept ≡ o → (next_label e.kept ≡ None → ⊥) → length e.kept.nodes < 32
take_by c s r e None fits found is never = absurd (never is)
take_by c s r e (Some l) fits found is never = next-room c s r e l fits found is

pub take-room : (c : Configuration) (s : State) (session : SessionId) (r : RequestId) (n : NodeId) (e : RequestEntry) → Fits c s → is_ok (judge_take_ready s session r n) ≡ true → request_entry r s.requests ≡ Some e → length e.kept.nodes < 32
take-room c s session r n e fits judged found =
    let was : (what : Done) × (judge_take_ready s session r n ≡ Ok what) = ok-what (judge_take_ready s session r n) judged in
    let has : request_in r s.requests ≡ Some e.kept = rw found refl in
    take_by c s r e (next_label e.kept) fits found refl (take_ready-room s session r n was.0 e.kept was.1 has)

-- # a number that no row has yet

-- no request of any priority has the next number
pub fresh-request : (n priority : ℕ) (requests : List RequestEntry) → AllByRecursion (λ e. e.id.seq < n) requests → NonePass (λ e. same_request e.id (record { priority = priority; seq = n })) requests
fresh-request n priority [] all = tt
fresh-request n priority (e ∷ requests) all =
    let below : e.id.seq < n = all.0 in
    (grind (arith, nat_tests), fresh-request n priority requests all.1)

-- no node has the next number
pub fresh-node : (n : ℕ) (nodes : List NodeEntry) → AllByRecursion (λ e. e.id.0 < n) nodes → NonePass (λ e. e.id.0 == n) nodes
fresh-node n [] all = tt
fresh-node n (e ∷ nodes) all =
    let below : e.id.0 < n = all.0 in
    (grind (arith, nat_tests), fresh-node n nodes all.1)

none-after : (n : ℕ) (nodes : List NodeEntry) → AllByRecursion (λ e. e.id.0 < n) nodes → NonePass (λ e. nat_lt n e.id.0) nodes
none-after n [] all = tt
none-after n (e ∷ nodes) all =
    let below : e.id.0 < n = all.0 in
    (grind (arith, nat_tests), none-after n nodes all.1)

-- the next node comes after all others
pub last-node : (n : ℕ) (new : NodeEntry) (nodes : List NodeEntry) → AllByRecursion (λ e. e.id.0 < n) nodes → insert_before (λ e. nat_lt n e.id.0) new nodes ≡ nodes ++ new ∷ []
last-node n new nodes all = insert_before-end (λ e. nat_lt n e.id.0) new nodes (none-after n nodes all)

-- # the jobs with a handle of a semaphore, one more and one less

-- ## one semaphore's table among all

-- another table at a place
pub rows_of-set : (f : List JobId → List JobId) (tables : List (Roomy JobId)) (i : ℕ) (old new : Roomy JobId) → i < length tables → old ≡ get_or tables i old → new.rows ≡ f old.rows → rows_of (slice_set tables i new) ≡ change_at i f (rows_of tables)
rows_of-set f [] i old new within here is = absurd (omega arith)
rows_of-set f (t ∷ tables) zero old new within here is = ap (λ (rows : List JobId). rows ∷ rows_of tables) (is ∙ ap (λ (x : Roomy JobId). f x.rows) here)
rows_of-set f (t ∷ tables) (suc i) old new within here is = ap (λ rest. t.rows ∷ rest) (rows_of-set f tables i old new (omega arith) here is)

-- none is past the end
pub rows_of-past : (f : List JobId → List JobId) (tables : List (Roomy JobId)) (i : ℕ) → length tables ≤ i → rows_of tables ≡ change_at i f (rows_of tables)
rows_of-past f [] i past = refl
rows_of-past f (t ∷ tables) zero past = absurd (omega arith)
rows_of-past f (t ∷ tables) (suc i) past = ap (λ rest. t.rows ∷ rest) (rows_of-past f tables i (omega arith))

-- ## room in each table

abbrev pub IsRoomy : Roomy JobId → Type 0
IsRoomy t = 0 < t.room

-- one table more has room, and all have the same rows
pub roomy-more : (tables : List (Roomy JobId)) (i : ℕ) (new : Roomy JobId) → i < length tables → AllByRecursion IsRoomy (take i tables) → IsRoomy new → AllByRecursion IsRoomy (take (suc i) (slice_set tables i new))
roomy-more [] i new within all more = absurd (omega arith)
roomy-more (t ∷ tables) zero new within all more = (more, tt)
roomy-more (t ∷ tables) (suc i) new within all more = (all.0, roomy-more tables i new (omega arith) all.1 more)

pub rows_of-same : (tables : List (Roomy JobId)) (i : ℕ) (old new : Roomy JobId) → i < length tables → old ≡ get_or tables i old → new.rows ≡ old.rows → rows_of (slice_set tables i new) ≡ rows_of tables
rows_of-same [] i old new within here is = absurd (omega arith)
rows_of-same (t ∷ tables) zero old new within here is = ap (λ (rows : List JobId). rows ∷ rows_of tables) (is ∙ ap (λ (x : Roomy JobId). x.rows) here)
rows_of-same (t ∷ tables) (suc i) old new within here is = ap (λ rest. t.rows ∷ rest) (rows_of-same tables i old new (omega arith) here is)

-- a table with room has a place for every job
pub place-room : (j : JobId) (t : Roomy JobId) → 0 < t.room → has_place j t ≡ true
place-room j t more = by (is_among j t.rows) where
  room : nat_lt 0 t.room ≡ true
  room = grind (arith, nat_tests)

  by : (b : Bool) → (b || nat_lt 0 t.room) ≡ true
  by true = refl
  by false = room

pub places : (j : JobId) (tables : List (Roomy JobId)) → AllByRecursion (λ more. 0 < more) (rooms_of tables) → AllByRecursion (λ t. has_place j t ≡ true) tables
places j [] all = tt
places j (t ∷ tables) all = (place-room j t all.0, places j tables all.1)

-- a place in a table that doesn't have the job is room
pub room-place : (j : JobId) (t : Roomy JobId) → has_place j t ≡ true → is_among j t.rows ≡ false → 0 < t.room
room-place j t place none =
    let room : nat_lt 0 t.room ≡ true = rw none at place in
    grind (arith, nat_tests)

-- ## a handle is taken

pub is_among-inserted : (j : JobId) (jobs : List JobId) → is_among j (insert_before (λ other. nat_lt j.0 other.0) j jobs) ≡ true
is_among-inserted j [] = rw (equal-itself j.0) refl
is_among-inserted j (other ∷ jobs) = by (nat_lt j.0 other.0) refl (is_among-inserted j jobs) where
  among-later : (b : Bool) → (other.0 == j.0) ≡ b → is_among j (insert_before (λ x. nat_lt j.0 x.0) j jobs) ≡ true → is_among j (other ∷ insert_before (λ x. nat_lt j.0 x.0) j jobs) ≡ true
  among-later true is later = rw is refl
  among-later false is later = rw is later

  by : (b : Bool) → nat_lt j.0 other.0 ≡ b → is_among j (insert_before (λ x. nat_lt j.0 x.0) j jobs) ≡ true → is_among j (insert_before (λ x. nat_lt j.0 x.0) j (other ∷ jobs)) ≡ true
  by true is later = rw is (rw (equal-itself j.0) refl)
  by false is later = rw is (among-later (other.0 == j.0) refl later)

pub with_handle-there : (j : JobId) (jobs : List JobId) → is_among j jobs ≡ true → with_handle j jobs ≡ jobs
with_handle-there j jobs there = rw there refl

-- ## a handle is given back

pub without_handle-none : (j : JobId) (jobs : List JobId) → is_among j jobs ≡ false → without_handle j jobs ≡ jobs
without_handle-none j [] none = refl
without_handle-none j (other ∷ jobs) none = by (other.0 == j.0) refl (λ later. without_handle-none j jobs later) where
  by : (b : Bool) → (other.0 == j.0) ≡ b → (is_among j jobs ≡ false → without_handle j jobs ≡ jobs) → without_handle j (other ∷ jobs) ≡ other ∷ jobs
  by true is rest = let no : true ≡ false = rw is at none in absurd cc
  by false is rest = rw is (ap (λ t. other ∷ t) (rest (rw is at none)))

pub without_handle-first : (j : JobId) (jobs : List JobId) → without_handle j (remove_first (λ other. other.0 == j.0) jobs) ≡ without_handle j jobs
without_handle-first j [] = refl
without_handle-first j (other ∷ jobs) = by (other.0 == j.0) refl (without_handle-first j jobs) where
  by : (b : Bool) → (other.0 == j.0) ≡ b → without_handle j (remove_first (λ x. x.0 == j.0) jobs) ≡ without_handle j jobs → without_handle j (remove_first (λ x. x.0 == j.0) (other ∷ jobs)) ≡ without_handle j (other ∷ jobs)
  by true is rest = rw is refl
  by false is rest = rw is (rw is (ap (λ t. other ∷ t) rest))

pub fewer : (j : JobId) (jobs : List JobId) → is_among j jobs ≡ true → length (remove_first (λ other. other.0 == j.0) jobs) < length jobs
fewer j [] there = absurd cc
fewer j (other ∷ jobs) there = by (other.0 == j.0) refl (λ later. fewer j jobs later) where
  by : (b : Bool) → (other.0 == j.0) ≡ b → (is_among j jobs ≡ true → length (remove_first (λ x. x.0 == j.0) jobs) < length jobs) → length (remove_first (λ x. x.0 == j.0) (other ∷ jobs)) < length (other ∷ jobs)
  by true is rest = rw is (omega arith)
  by false is rest = let later = rest (rw is at there) in rw is (omega (arith, later))

-- # a new member at the place that a search found, and another one at a place that may be past the end

placed : {X : Type 0} (p : X → Bool) (new : X) (xs : List X) (i : ℕ) → i < length xs → ((d : X) → p (get_or xs i d) ≡ true) → ((k : ℕ) (d : X) → k < i → p (get_or xs k d) ≡ false) → insert_before p new xs ≡ insert xs i new
placed p new [] i within here before = absurd (omega arith)
placed p new (x ∷ xs) zero within here before = rw (here x) refl
placed p new (x ∷ xs) (suc i) within here before =
    rw (before 0 x (omega arith)) (ap (λ t. x ∷ t) (placed p new xs i (omega arith) here (λ k d low. before (suc k) d (omega arith))))

pub insert_before-position : {X : Type 0} (p : X → Bool) (new : X) (xs : List X) (i : ℕ) → position p xs ≡ Some i → i < length xs → insert_before p new xs ≡ insert xs i new
insert_before-position p new xs i is within =
    placed p new xs i within (λ d. (position-Some p xs i d is).1) (λ k d low. (position-Some p xs i d is).2 k low)

nowhere : {X : Type 0} (p : X → Bool) (new : X) (xs : List X) → length xs ≤ position_or_len p xs → insert_before p new xs ≡ xs ++ new ∷ []
nowhere p new [] past = refl
nowhere p new (x ∷ xs) past = grind (arith, nat_tests, nowhere p new xs)

pub insert_before-nowhere : {X : Type 0} (p : X → Bool) (new : X) (xs : List X) → position p xs ≡ None → insert_before p new xs ≡ xs ++ new ∷ []
insert_before-nowhere p new xs is =
    let past : length xs ≤ position_or_len p xs = grind (arith, nat_tests) in
    nowhere p new xs past

-- no member is at a place past the end
pub slice_set-past : {X : Type 0} (xs : List X) (i : ℕ) (x : X) → length xs ≤ i → slice_set xs i x ≡ xs
slice_set-past [] i x past = refl
slice_set-past (y ∷ xs) zero x past = absurd (omega arith)
slice_set-past (y ∷ xs) (suc i) x past = ap (λ t. y ∷ t) (slice_set-past xs i x (omega arith))

-- # a session leaves the queues of all rows that have it

-- a queue that doesn't have the session stays as it is
left-absent : (session : SessionId) (queue : List SessionId) → is_queued session queue ≡ false → left session queue ≡ queue
left-absent session queue out = filter-not_none (λ (other : SessionId). is_session other session) queue (none-list_any (λ (other : SessionId). is_session other session) queue out)

module _ {I K : Type 0} (same : I → I → Bool) (session : SessionId) where
  abbrev pub without : Locked I K → Locked I K
  without e = record e { queue = left session e.queue }

  -- the session leaves the queue of each of the rows with these ids, one after another
  abbrev pub each_left : List I → List (Locked I K) → List (Locked I K)
  each_left [] rows = rows
  each_left (i ∷ ids) rows = each_left ids (change_first (λ e. same e.id i) without rows)

  -- a row whose id is not among them stays as it is
  each_left-past : (e : Locked I K) (ids : List I) (rows : List (Locked I K)) → AllByRecursion (λ i. same e.id i ≡ false) ids → each_left ids (e ∷ rows) ≡ e ∷ each_left ids rows
  each_left-past e [] rows others = refl
  each_left-past e (i ∷ ids) rows others = rw (others.0) (each_left-past e ids (change_first (λ (x : Locked I K). same x.id i) without rows) others.1)

  -- the ids of the rows that have the session
  abbrev pub waiting : List (Locked I K) → List I
  waiting rows = map (λ e. e.id) (filter (λ e. is_queued session e.queue) rows)

  module _ (before : I → I → Bool) (self : (i : I) → same i i ≡ true) (apart : (a b : I) → before a b ≡ true → same a b ≡ false) where
    later-others : (i : I) (rows : List (Locked I K)) → AllByRecursion (λ y. before i y.id ≡ true) rows → AllByRecursion (λ j. same i j ≡ false) (waiting rows)
    later-others i rows later =
        all-mapped (λ (y : Locked I K). before i y.id ≡ true) (λ (j : I). same i j ≡ false) (λ (y : Locked I K). y.id) (filter (λ (y : Locked I K). is_queued session y.queue) rows)
        (λ y first. apart i y.id first)
        (all-filter (λ (y : Locked I K). before i y.id ≡ true) (λ (y : Locked I K). is_queued session y.queue) rows later)

    -- if the rows rise by their ids, it leaves every queue
    pub each_left-all : (rows : List (Locked I K)) → Rises (λ a b. before a.id b.id) rows → each_left (waiting rows) rows ≡ map without rows
    each_left-all [] rises = refl
    each_left-all (e ∷ rows) rises = by (is_queued session e.queue) refl (each_left-all rows rises.1) where
      others : AllByRecursion (λ j. same e.id j ≡ false) (waiting rows)
      others = later-others e.id rows rises.0

      first-leaves : change_first (λ (y : Locked I K). same y.id e.id) without (e ∷ rows) ≡ without e ∷ rows
      first-leaves = rw (self e.id) refl

      by : (b : Bool) → is_queued session e.queue ≡ b → each_left (waiting rows) rows ≡ map without rows
          → each_left (map (λ (y : Locked I K). y.id) (cond b (e ∷ filter (λ (y : Locked I K). is_queued session y.queue) rows) (filter (λ (y : Locked I K). is_queued session y.queue) rows))) (e ∷ rows) ≡ without e ∷ map without rows
      by true is rest =
          ap (each_left (waiting rows)) first-leaves
          ∙ each_left-past (without e) (waiting rows) rows others
          ∙ ap (λ (ys : List (Locked I K)). without e ∷ ys) rest
      by false is rest =
          each_left-past e (waiting rows) rows others
          ∙ ap (λ (ys : List (Locked I K)). e ∷ ys) rest
          ∙ ap (λ (queue : List SessionId). record e { queue = queue } ∷ map without rows) (sym (left-absent session e.queue is))

-- ## requests and nodes

node-self : (n : NodeId) → same_node n n ≡ true
node-self n = grind (arith, nat_tests)

node-apart : (a b : NodeId) → is_node_before a b ≡ true → same_node a b ≡ false
node-apart a b first = grind (arith, nat_tests)

pub requests-left : (session : SessionId) (rows : List RequestEntry) → Rises (λ a b. is_id_before a.id b.id) rows → each_left same_request session (waiting same_request session rows) rows ≡ map (request_left session) rows
requests-left session rows rises = each_left-all same_request session is_id_before request-itself request-apart rows rises

pub nodes-left : (session : SessionId) (rows : List NodeEntry) → Rises (λ a b. is_node_before a.id b.id) rows → each_left same_node session (waiting same_node session rows) rows ≡ map (node_left session) rows
nodes-left session rows rises = each_left-all same_node session is_node_before node-self node-apart rows rises

-- # what the plan of an accepted event finds room for

-- ## growing

-- ## what growing keeps

record Keeps (s t : State) : Type 0 where
  tick : t.tick ≡ s.tick
  launchers : t.launchers ≡ s.launchers
  janitors : t.janitors ≡ s.janitors
  requesters : t.requesters ≡ s.requesters

all_kept : (s : State) → Keeps s s
all_kept s = record { tick = refl; launchers = refl; janitors = refl; requesters = refl }

grown-keeps : (c : Configuration) (maker : Option Maker) (growth : Growth) (s : State) → Keeps s (grown c maker growth s)
grown-keeps c maker Growth.Nothing s = all_kept s
grown-keeps c maker (Growth.Session role) s = record { tick = refl; launchers = refl; janitors = refl; requesters = refl }
grown-keeps c None (Growth.Registration p) s = all_kept s
grown-keeps c (Some maker) (Growth.Registration p) s = record { tick = refl; launchers = refl; janitors = refl; requesters = refl }
grown-keeps c maker (Growth.Request priority asked) s = record { tick = refl; launchers = refl; janitors = refl; requesters = refl }
grown-keeps c maker (Growth.Node kept) s = record { tick = refl; launchers = refl; janitors = refl; requesters = refl }
grown-keeps c maker (Growth.JoinRequest r) s = record { tick = refl; launchers = refl; janitors = refl; requesters = refl }
grown-keeps c maker (Growth.JoinNode n) s = record { tick = refl; launchers = refl; janitors = refl; requesters = refl }
grown-keeps c maker (Growth.Allocate n r tenant) s = record { tick = refl; launchers = refl; janitors = refl; requesters = refl }
grown-keeps c maker (Growth.Handles j) s = record { tick = refl; launchers = refl; janitors = refl; requesters = refl }
grown-keeps c maker (Growth.Swept n x) s = record { tick = refl; launchers = refl; janitors = refl; requesters = refl }

-- ## the edit of a request

module _ (c : Configuration) (s : State) where
  -- the rows that the changes edit have room
  abbrev HasRoom : Changes → Type 0
  HasRoom ch = TakesEdit ch.requests (grown c ch.maker ch.grows s).requests

  on-found : {A : Type 0} (o : Option A) (f : A → Changes) → ((a : A) → o ≡ Some a → HasRoom (f a)) → HasRoom (with_found o f)
  on-found None f each = tt
  on-found (Some a) f each = each a refl

  on-found_by : {A : Type 0} (session : SessionId) (role : Role) (o : Option A) (f : A → Changes) → ((a : A) → o ≡ Some a → HasRoom (made_by session role (f a))) → HasRoom (made_by session role (with_found o f))
  on-found_by session role None f each = tt
  on-found_by session role (Some a) f each = each a refl

  on-given : {A : Type 0} (o : Result A Refusal) (f : A → Changes) → ((a : A) → o ≡ Ok a → HasRoom (f a)) → HasRoom (with_given o f)
  on-given (Ok a) f each = each a refl
  on-given (Err why) f each = tt

  after_fulfil : (r : RequestId) (rows : List RequestEntry) (b : Bool) → TakesEdit (Plan.request_after_fulfil r b) rows
  after_fulfil r rows true = tt
  after_fulfil r rows false = λ e is. refl

  after_withdraw : (rows : List RequestEntry) (o : Option RequestId) → TakesEdit (Plan.request_after_withdraw o) rows
  after_withdraw rows None = tt
  after_withdraw rows (Some r) = tt

  plan-roomy : Fits c s → (e : Event) → is_ok (judge c s e) ≡ true → HasRoom (plan c s e)
  plan-roomy fits Event.Tick ok = tt
  plan-roomy fits (Event.OpenSession role) ok = tt
  plan-roomy fits (Event.Crash session) ok = on-found (session_of session s) _ (λ facts _. tt)
  plan-roomy fits (Event.Expire session) ok = on-found (session_of session s) _ (λ facts _. tt)
  plan-roomy fits (Event.Register session) ok = on-given (launcher s session) _ (λ p _. tt)
  plan-roomy fits (Event.Submit session j) ok =
      on-given (requester s session) _ (λ q _. on-found_by session (Requester q) (slice_get c.jobs j.0) _ (λ job _. on-found_by session (Requester q) (slice_get s.jobs j.0) _ (λ kept _. tt)))
  plan-roomy fits (Event.Revise session j relative) ok =
      on-given (requester s session) _ (λ q _. on-found_by session (Requester q) (request_of_job j s) _ (λ r _. λ e is. refl))
  plan-roomy fits (Event.MinReady session l) ok = on-given (launcher s session) _ (λ p _. tt)
  plan-roomy fits (Event.LockRequest session r) ok = on-given (maker s session) _ (λ role _. tt)
  plan-roomy fits (Event.UnlockRequest session r) ok = on-given (maker s session) _ (λ role _. tt)
  plan-roomy fits (Event.Accept session r) ok = on-given (launcher s session) _ (λ p _. λ e is. refl)
  plan-roomy fits (Event.Decline session r why) ok =
      on-given (launcher s session) _ (λ p who. on-found_by session (Launcher p) (request_in r s.requests) _ (λ request _. λ e is. is-below _ 64 (decline-room c s session r why p e fits ok who is)))
  plan-roomy fits (Event.TakeReady session r n) ok =
      on-given (launcher s session) _ (λ p _. on-found_by session (Launcher p) (request_in r s.requests) _ (λ request _. λ e is. is-below _ 32 (take-room c s session r n e fits ok is)))
  plan-roomy fits (Event.Create session r) ok =
      on-given (launcher s session) _ (λ p _. on-found_by session (Launcher p) (request_in r s.requests) _ (λ request has. on-found_by session (Launcher p) (next_label request) _ (λ l next. λ e is.
      is-below _ 32 (next-room c s r e l fits is (next_of e request l has is next)))))
    where
      next_of : (e : RequestEntry) (request : RequestRecord) (l : _) → request_in r s.requests ≡ Some request → request_entry r s.requests ≡ Some e → next_label request ≡ Some l → next_label e.kept ≡ Some l
      next_of e request l has is next = let same : e.kept ≡ request = (let found : Some e.kept ≡ Some request = rw is at has in cc) in rw same next
  plan-roomy fits (Event.Start session n) ok = on-given (launcher s session) _ (λ p _. on-found (node_in n s.nodes) _ (λ k _. tt))
  plan-roomy fits (Event.Done session n attempt o) ok = on-given (launcher s session) _ (λ p _. on-found_by session (Launcher p) (node_in n s.nodes) _ (λ k _. tt))
  plan-roomy fits (Event.Fulfil session r) ok =
      on-given (launcher s session) _ (λ p _. on-found_by session (Launcher p) (request_in r s.requests) _ (λ request _. after_fulfil r s.requests (is_some request.pinned)))
  plan-roomy fits (Event.LockNode session n) ok = on-given (maker s session) _ (λ role _. tt)
  plan-roomy fits (Event.UnlockNode session n) ok = on-given (maker s session) _ (λ role _. tt)
  plan-roomy fits (Event.Acquire session j) ok = on-given (requester s session) _ (λ q _. tt)
  plan-roomy fits (Event.Take session j) ok =
      on-given (requester s session) _ (λ q _. on-found_by session (Requester q) (slice_get s.jobs j.0) _ (λ kept _. on-found_by session (Requester q) kept.request _ (λ r _. on-found_by session (Requester q) (request_in r s.requests) _ (λ request _. tt))))
  plan-roomy fits (Event.EndNode session n as_what) ok = on-given (requester s session) _ (λ q _. on-found_by session (Requester q) (node_in n s.nodes) _ (λ k _. tt))
  plan-roomy fits (Event.Finish session j) ok = on-given (maker s session) _ (λ role _. on-found_by session role (slice_get s.jobs j.0) _ (λ kept _. tt))
  plan-roomy fits (Event.Withdraw session j) ok =
      on-given (requester s session) _ (λ q _. on-found_by session (Requester q) (slice_get s.jobs j.0) _ (λ kept _. after_withdraw s.requests kept.request))
  plan-roomy fits (Event.Release session j) ok = on-given (maker s session) _ (λ role _. tt)
  plan-roomy fits (Event.MarkDeleting session n) ok = on-given (janitor s session) _ (λ p _. on-found_by session (Janitor p) (node_in n s.nodes) _ (λ k _. tt))
  plan-roomy fits (Event.Gone session n) ok = on-given (janitor s session) _ (λ p _. tt)
  plan-roomy fits (Event.Reset session r) ok = on-given (janitor s session) _ (λ p _. on-found_by session (Janitor p) (request_in r s.requests) _ (λ request _. λ e is. refl))
  plan-roomy fits (Event.FreeNode session n) ok = on-given (janitor s session) _ (λ p _. on-found_by session (Janitor p) (node_in n s.nodes) _ (λ k _. tt))
  plan-roomy fits (Event.FailDeclined session r) ok = on-given (janitor s session) _ (λ p _. λ e is. refl)
  plan-roomy fits (Event.Sweep session n x) ok = on-given (janitor s session) _ (λ p _. tt)

  -- what the plan leaves to settle finds room once the state has grown
  pub can-settle : Fits c s → (ch : Changes) → IsPlanned c s ch → CanSettle ch (grown c ch.maker ch.grows s)
  can-settle fits ch planned =
      let keeps = grown-keeps c ch.maker ch.grows s in
      record {
        tick = rw keeps.tick fits.tick;
        roles = record {
          launchers = rw keeps.launchers fits.launchers;
          janitors = rw keeps.janitors fits.janitors;
          requesters = rw keeps.requesters fits.requesters;
        };
        edit = rw planned.plan (plan-roomy fits planned.event planned.accepted);
      }

-- # the tables before the first event

pub replicate-map : {X Y : Type 0} (x : X) (ys : List Y) → replicate (length ys) x ≡ map (λ _. x) ys
replicate-map x [] = refl
replicate-map x (y ∷ ys) = ap (λ t. x ∷ t) (replicate-map x ys)
