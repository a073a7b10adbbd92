-- the members of groups after the changes of an event: what is touched, what stays, and what is made anew
use Rattle.np_active.proofs.Prelude.{ActiveOf, AllByRecursion, AreActive, AreGivenGroups, AreGrouped, AreGroups, AreJobGroups, AreSessionGroups, Bool, Changes, Configuration, Group, Growth, Invariant, IsListed, IsNumbered, IsOrder, IsPast, IsPrepared, IsReached, IsTouched, Job, JobId, JobKind, JobRecord, JobsChange, List, Maker, Member, NodeEntry, NodeId, NodeRecord, NodesChange, None, Option, PastOf, Placed, PreparedOf, RequestEntry, RequestId, RequestRecord, RequestState, RequesterId, RequestsChange, Rises, SemId, SessionFacts, SessionId, SessionsChange, Some, State, TenantId, TouchedOf, all-weaker, allocated, any-same, ap, arith, asked-untouched, asker, below, calm-request, change_first, changed, cond, contrapositive, each-moved, edited, false, found-grown, given_to, grouped-moved, groups_by, groups_of_job, groups_of_node, groups_of_session, groups_within, grown, grown-numbered, handed_to, handle-untouched, has_handle, invariant-Runs, is_among, is_asked, is_fulfilled, is_job_before, is_job_in, is_kind_in, is_node_before, is_session_before, job-untouched, job_before, job_group, jobs-grown, jobs-in_order, jobs_changed, joined, kept-change_at, kind_of_rows, kinds_of_facts, left, left-request, length, length-append, length-left, list_any, list_any-append, made, made-all, map, map-map, nat_lt, nat_tests, no_kinds, node-untouched, node_in, node_in-allocated, node_in-later, node_in-queue, node_queue, node_queue-allocated, node_queue-freed, node_queue-in_use, node_queue-left, node_queue-new, node_queue-nowhere, node_queue-other, node_queue-put, node_queue-queue, node_queue-remove, node_queue-removed, nodes-in_order, nodes_by_job, nodes_by_state, nodes_changed, nodes_left, nodes_of_request, none-found, not-below, numbered, option_and_then, option_map, option_map_or, past_job, past_session, placed_all, placed_node, put_node_queue, refl, request-equal, request-itself, request_in, request_in-edit, request_in-remove, requests_changed, rises-all_moved, same_job, same_node, same_node-is, same_request, same_session, session-untouched, session_before, session_group, sessions-in_order, set-other, slice_get, slice_get_past, subst, suc, sym, take_all, touches_given, touches_job, touches_node, true, unclaims_node, with_all_moved, with_mark, with_moved, ℕ, [], ◌++◌, ◌-◌, ◌<◌, ◌==◌, ◌∙◌, ◌∷◌, ◌≡◌, ◌≤◌}
use Rattle.np_active.proofs.KindLemmas.{job-among, session-among}

-- # all that the changes of an event touch is listed before it

-- the node is in the list
abbrev lists : NodeId → List NodeId → Bool
lists n nodes = list_any (λ m. same_node m n) nodes

abbrev pub listed_nodes : Changes → State → List NodeId → List NodeId
listed_nodes ch s touched = (touched ++ nodes_by_state ch.requests s) ++ nodes_by_job ch.jobs s

-- what is listed, with the groups that it is in and a bound of queues, is prepared
pub is-prepared : (c : Configuration) (s : State) (ch : Changes) (touched : List NodeId) (prepared : PreparedOf)
    → ((n : NodeId) → touches_node ch s n ≡ true → list_any (λ m. same_node m n) touched ≡ true)
    → prepared.past ≡ map (placed_node c s) (listed_nodes ch s touched)
    → AllByRecursion (λ n. suc (length (node_queue n s.nodes)) ≤ prepared.most) (listed_nodes ch s touched)
    → IsPrepared c s ch prepared
is-prepared c s ch touched prepared first past most = record {
  listed = listed_nodes ch s touched;
  nodes = λ n is.
      let all = list_any-append (λ m. same_node m n) (touched ++ nodes_by_state ch.requests s) (nodes_by_job ch.jobs s) in
      let two = list_any-append (λ m. same_node m n) touched (nodes_by_state ch.requests s) in
      grind (arith, first n);
  past = past;
  most = most;
}

-- # a node that the changes of an event do not touch stays in the groups that it was in

-- ## the request that the node is allocated to

-- what a function gives for a request, by its state and its job
abbrev read : (RequestState → Option JobId → Option RequesterId) → Option RequestRecord → Option RequesterId
read hand o = option_and_then (λ q. hand q.state q.job) o

module _ (s : State) (n : NodeId) (r : RequestId) (place : IsListed s n r) where
  -- a change that neither lists the node nor removes the request leaves both: an edit that leaves the state leaves the job too
  request-read : (hand : RequestState → Option JobId → Option RequesterId) (maker : Option Maker) (change : RequestsChange) (rows : List RequestEntry) → request_in r rows ≡ request_in r s.requests
      → lists n (nodes_by_state change s) ≡ false → ((r0 : RequestId) → change ≡ RequestsChange.Remove r0 → same_request r0 r ≡ false)
      → read hand (request_in r (requests_changed maker change rows)) ≡ read hand (request_in r rows)
  request-read hand maker (RequestsChange.Edit r0 change) rows there out stays =
      ap (read hand) (request_in-edit r0 r (edited change) rows) ∙ by (request_in r rows) (sym there)
    where
      by : (o : Option RequestRecord) → request_in r s.requests ≡ o → read hand (option_map (λ q. cond (same_request r0 r) (edited change q) q) o) ≡ read hand o
      by None is = refl
      by (Some q) is = grind (arith, place.listed q is, request-equal r0 r)
  request-read hand maker (RequestsChange.Remove r0) rows there out stays = ap (read hand) (request_in-remove r0 r rows (stays r0 refl))
  request-read hand maker change rows there out stays = ap (read hand) (calm-request maker change r rows tt)

-- ## the job of that request

-- the requester of the job with this row
abbrev asker_by : Configuration → JobId → Option JobRecord → Option RequesterId
asker_by c j row = option_and_then (λ kept. cond (is_asked kept.phase) (option_map (λ row. row.requester) (slice_get c.jobs j.0)) None) row

-- stays where the change does not list a node of its request: it would, where it puts the job's record
job-asker : (c : Configuration) (s : State) (n : NodeId) (r : RequestId) (j : JobId) (job : JobRecord) → slice_get s.jobs j.0 ≡ Some job → job.request ≡ Some r → lists n (nodes_of_request s r) ≡ true
    → (change : JobsChange) → lists n (nodes_by_job change s) ≡ false → asker_by c j (slice_get (jobs_changed change s.jobs) j.0) ≡ asker_by c j (slice_get s.jobs j.0)
job-asker c s n r j job there asks among JobsChange.Same out = refl
job-asker c s n r j job there asks among (JobsChange.Put j0 kept) out =
    ap (asker_by c j) (set-other s.jobs j0.0 j.0 kept (λ same. let row = ap (λ (i : ℕ). slice_get s.jobs i) same ∙ there in grind arith))
job-asker c s n r j job there asks among (JobsChange.EndNode j0 m) out = kept-change_at (asker_by c j) j0.0 j.0 (with_mark m) s.jobs (λ kept. refl)

-- ## the node

module _ (c : Configuration) (ch : Changes) (s : State) (n : NodeId) (reached : IsReached c s) (out : touches_given ch s n ≡ false) where
  invariant : Invariant c s
  invariant = invariant-Runs c reached.journal s reached.runs

  abbrev more : State
  more = grown c ch.maker ch.grows s

  abbrev later : State
  later = changed c ch s

  -- the changes touch neither the node ..
  node_out : touches_node ch s n ≡ false
  node_out = grind arith

  -- .. nor the state or the job of its request ..
  lists_out : (lists n (nodes_by_state ch.requests s) ≡ false) × (lists n (nodes_by_job ch.jobs s) ≡ false)
  lists_out = (grind arith, grind arith)

  -- .. nor remove its request
  claim_stays : unclaims_node ch.requests s n ≡ false
  claim_stays = let out = node_out in grind arith

  module _ (k : NodeRecord) (r : RequestId) (at : node_in n s.nodes ≡ Some k) (to : k.allocated_to ≡ Some r) where
    place : IsListed s n r
    place = invariant.owned.allocations n k r at to

    -- the request of the node is not removed
    stays : (r0 : RequestId) → ch.requests ≡ RequestsChange.Remove r0 → same_request r0 r ≡ false
    stays r0 removes =
        let claim = claim_stays in
        let claims = rw (removes, at, to) at claim in
        grind (arith, request-equal r0 r, request-itself r)

    -- it keeps its state and its job
    read-same : (hand : RequestState → Option JobId → Option RequesterId) → read hand (request_in r later.requests) ≡ read hand (request_in r s.requests)
    read-same hand =
        let grew = found-grown c s ch.maker ch.grows r place.below in
        ap (read hand) (left-request ch.sessions r (requests_changed ch.maker ch.requests more.requests))
        ∙ request-read s n r place hand ch.maker ch.requests more.requests grew lists_out.0 stays
        ∙ ap (read hand) grew

    -- the requester of its job is the same too
    hand-same : (o : Option RequestRecord) → request_in r s.requests ≡ o → read (handed_to c later) o ≡ read (handed_to c s) o
    hand-same None none = refl
    hand-same (Some q) is = ap (λ (o : Option RequesterId). cond (is_fulfilled q.state) o None) (by q.job refl) where
      by : (o : Option JobId) → q.job ≡ o → option_and_then (asker c later) o ≡ option_and_then (asker c s) o
      by None none = refl
      by (Some j) names =
          let job = invariant.jobs.of_request r q j is names in
          ap (λ (rows : List JobRecord). asker_by c j (slice_get (jobs_changed ch.jobs rows) j.0)) (jobs-grown c ch.maker ch.grows s)
          ∙ job-asker c s n r j job.0 job.1.0 job.1.1 (ap (λ (o : Option RequestRecord). lists n (option_map_or (λ k. k.nodes) o [])) is ∙ place.listed q is) ch.jobs lists_out.1

  -- the node was given to the same requester
  given-same : (k : NodeRecord) → node_in n s.nodes ≡ Some k → given_to c later k ≡ given_to c s k
  given-same k at =
      let same = λ (r : RequestId). λ (to : k.allocated_to ≡ Some r). read-same k r at to (handed_to c later) ∙ hand-same k r at to (request_in r s.requests) refl in
      grind arith

  -- so the node is in the same groups after them as before
  pub given-untouched : groups_of_node c later n ≡ groups_of_node c s n
  given-untouched =
      let same = node-untouched c ch s n node_out in
      let given = given-same in
      grind arith

-- # the changes of an event make the queue of a node longer by one session at most

-- ## one queue

-- it has this many sessions at most
abbrev IsWithin : ℕ → List SessionId → Type 0
IsWithin most queue = length queue ≤ most

joined-length : (session : SessionId) (queue : List SessionId) → IsWithin (suc (length queue)) (joined session queue)
joined-length session queue = grind (arith, length-append queue (session ∷ []))

-- ## the queue of a node

-- after another queue was put at a node
put-within : (n0 n : NodeId) (queue : List SessionId) (rows : List NodeEntry) (most : ℕ) → (n0 ≡ n → IsWithin most queue) → IsWithin most (node_queue n rows) → IsWithin most (node_queue n (put_node_queue n0 queue rows))
put-within n0 n queue rows most new old = by (node_in n rows) refl where
  by : (o : Option NodeRecord) → node_in n rows ≡ o → IsWithin most (node_queue n (put_node_queue n0 queue rows))
  by None none = grind (arith, node_queue-nowhere n (put_node_queue n0 queue rows) (node_in-queue n0 n queue rows ∙ none))
  by (Some k) is = grind (arith, node_queue-queue n0 n queue k rows is, same_node-is n0 n)

-- after a node was allocated
allocated-longer : (n0 n : NodeId) (r : RequestId) (tenant : Option TenantId) (session : SessionId) (rows : List NodeEntry)
    → IsWithin (suc (length (node_queue n rows))) (node_queue n (change_first (λ e. e.id.0 == n0.0) (allocated r tenant session) rows))
allocated-longer n0 n r tenant session rows = by (node_in n rows) refl where
  by : (o : Option NodeRecord) → node_in n rows ≡ o → IsWithin (suc (length (node_queue n rows))) (node_queue n (change_first (λ e. e.id.0 == n0.0) (allocated r tenant session) rows))
  by None none =
      let gone = node_in-allocated n0 n r tenant session rows ∙ ap (λ (o : Option NodeRecord). option_map (λ k. cond (n0.0 == n.0) (record k { allocated_to = Some r; tenant = tenant }) k) o) none in
      grind (arith, node_queue-nowhere n (change_first (λ e. e.id.0 == n0.0) (allocated r tenant session) rows) gone)
  by (Some k) is = grind (arith, node_queue-allocated n0 n r tenant session k rows is, joined-length session (node_queue n rows))

-- ## what grows

-- no node had the number of a new one
pushed-longer : (new : NodeEntry) (n : NodeId) (s : State) → IsNumbered s → new.id.0 ≡ s.next_node → IsWithin 1 new.queue → IsWithin (suc (length (node_queue n s.nodes))) (node_queue n (s.nodes ++ new ∷ []))
pushed-longer new n s numbered next within =
    let none = node_in-later n s.next_node s.nodes numbered.nodes_below in
    let here = λ (same : (new.id.0 == n.0) ≡ true). λ (high : s.next_node ≤ n.0). node_queue-new new n s.nodes same (none high) in
    let other = node_queue-other new n s.nodes in
    grind (arith, nat_tests)

grown-longer : (c : Configuration) (maker : Option Maker) (g : Growth) (s : State) (n : NodeId) → IsNumbered s → IsWithin (suc (length (node_queue n s.nodes))) (node_queue n (grown c maker g s).nodes)
grown-longer c maker (Growth.Node kept) s n numbered = pushed-longer _ n s numbered refl (grind arith)
grown-longer c (Some by) (Growth.JoinNode n0) s n numbered =
    put-within n0 n (joined by.session (node_queue n0 s.nodes)) s.nodes (suc (length (node_queue n s.nodes))) (λ same. rw same (joined-length by.session (node_queue n s.nodes))) (omega arith)
grown-longer c (Some by) (Growth.Allocate n0 r tenant) s n numbered = allocated-longer n0 n r tenant by.session s.nodes
grown-longer c None _ s n numbered = omega arith
grown-longer c _ _ s n numbered = omega arith

-- ## what changes

changed-shorter : (maker : Option Maker) (tick : ℕ) (change : NodesChange) (n : NodeId) (rows : List NodeEntry) → Rises (λ a b. nat_lt a.id.0 b.id.0) rows
    → IsWithin (length (node_queue n rows)) (node_queue n (nodes_changed maker tick change rows))
changed-shorter maker tick (NodesChange.Put n0 kept) n rows rises = omega (arith, ap (λ (queue : List SessionId). length queue) (node_queue-put n0 n kept rows))
changed-shorter maker tick (NodesChange.Remove n0) n rows rises = grind (arith, node_queue-removed n0 n rows rises, node_queue-remove n0 n rows)
changed-shorter (Some by) tick (NodesChange.Leave n0) n rows rises =
    put-within n0 n (left by.session (node_queue n0 rows)) rows (length (node_queue n rows)) (λ same. rw same (length-left by.session (node_queue n rows))) (omega arith)
changed-shorter maker tick (NodesChange.FreeAll r) n rows rises = omega (arith, ap (λ (queue : List SessionId). length queue) (node_queue-freed r n rows))
changed-shorter maker tick (NodesChange.TakeOver numbers) n rows rises = omega (arith, ap (λ (queue : List SessionId). length queue) (node_queue-in_use tick numbers n rows))
changed-shorter _ tick _ n rows rises = omega arith

-- a session that ends leaves each queue
ended-shorter : (ended : SessionsChange) (n : NodeId) (rows : List NodeEntry) → IsWithin (length (node_queue n rows)) (node_queue n (nodes_left ended rows))
ended-shorter (SessionsChange.End session) n rows = omega (arith, ap (λ (queue : List SessionId). length queue) (node_queue-left session n rows), length-left session (node_queue n rows))
ended-shorter _ n rows = omega arith

-- ## all of it

-- the queue of a node is longer by one session at most
pub queue-longer : (c : Configuration) (ch : Changes) (s : State) (n : NodeId) → IsReached c s
    → length (node_queue n (changed c ch s).nodes) ≤ suc (length (node_queue n s.nodes))
queue-longer c ch s n reached =
    let numbered : IsNumbered s = (invariant-Runs c reached.journal s reached.runs).numbered in
    let more : State = grown c ch.maker ch.grows s in
    let grew = grown-longer c ch.maker ch.grows s n numbered in
    let change = changed-shorter ch.maker more.tick ch.nodes n more.nodes (grown-numbered c s ch.maker ch.grows numbered).nodes_rise in
    let end = ended-shorter ch.sessions n (nodes_changed ch.maker more.tick ch.nodes more.nodes) in
    omega arith

-- # the members of groups after the changes of an event, from those before it

-- ## some ids move, and all others stay

module _ {K Q : Type 0} (before same : K → K → Bool) (order : IsOrder before same) (group : Q → Group) (was now : K → List (Option Group)) (passed passes : Q → K → Bool)
    (was_is : (q : Q) (i : K) → is_among (group q) (was i) ≡ passed q i) (now_is : (q : Q) (i : K) → is_among (group q) (now i) ≡ passes q i) where
  kinds-moved : (ids : List K) (old new : List (Member K)) (placed : List (Placed K)) → AreGroups before same group passed old → ((i : K) → list_any (λ j. same j i) ids ≡ false → now i ≡ was i)
      → placed ≡ placed_all was ids → new ≡ with_all_moved before same now placed old → AreGroups before same group passes new
  kinds-moved ids old new placed are stays listed moved =
      subst (AreGroups before same group passes) (sym (moved ∙ ap (λ (places : List (Placed K)). with_all_moved before same now places old) listed)) (record {
        rises = rises-all_moved before same order.transitive order.one_way order.some_way order.equal now (placed_all was ids) old are.rises;
        each = λ q i.
            each-moved before same order.transitive order.one_way order.some_way order.equal (group q) i was now ids old are.rises
            (are.each q i ∙ sym (was_is q i)) (λ out. ap (is_among (group q)) (stays i out))
            ∙ now_is q i;
      })

-- ## what is not touched

module _ (c : Configuration) (s : State) (ch : Changes) (reached : IsReached c s) (lines : List JobId) (j : JobId) (out : touches_job ch s j ≡ false) where
  abbrev t : State
  t = changed c ch s

  handles-same : (semaphores : List SemId) → list_any (has_handle j t.handles) semaphores ≡ list_any (has_handle j s.handles) semaphores
  handles-same semaphores = any-same (has_handle j t.handles) (has_handle j s.handles) (λ x. handle-untouched c j x ch s out) semaphores

  rows-same : (row : Option Job) (kept : Option JobRecord) → slice_get s.jobs j.0 ≡ kept → kind_of_rows c t lines j row kept ≡ kind_of_rows c s lines j row kept
  rows-same None kept there = refl
  rows-same (Some row) None there = refl
  rows-same (Some row) (Some kept) there =
      let handles = handles-same row.semaphores in
      let state = λ (asked : is_asked kept.phase ≡ true). ap (λ (o : Option RequestRecord). option_map (λ request. request.state) o) (asked-untouched c ch s j kept reached out there asked) in
      grind arith

  job-groups-same : groups_of_job c t lines j ≡ groups_of_job c s lines j
  job-groups-same =
      ap (λ (o : Option JobKind). option_map job_group o ∷ [])
      (ap (λ (kept : Option JobRecord). kind_of_rows c t lines j (slice_get c.jobs j.0) kept) (job-untouched c ch s j out)
      ∙ rows-same (slice_get c.jobs j.0) (slice_get s.jobs j.0) refl)

-- ## all groups

pub active-noted : (c site : Configuration) (s t : State) (ch : Changes) (touched : TouchedOf) (past : PastOf) (old new : ActiveOf) → new.lines ≡ old.lines
    → new.jobs ≡ with_all_moved is_job_before same_job (groups_of_job site t old.lines) (map job_before past.jobs) old.jobs
    → new.sessions ≡ with_all_moved is_session_before same_session (groups_of_session t) (map session_before past.sessions) old.sessions
    → IsReached c s → IsTouched s ch touched → IsPast c s old.lines touched past → site ≡ c → t ≡ changed c ch s → AreActive c s old → AreActive c (changed c ch s) new
active-noted c site s t ch touched past old new lines_are jobs_are sessions_are reached all listed site_is after was = record {
  jobs =
      rw lines_are (kinds-moved is_job_before same_job jobs-in_order job_group (groups_of_job c s old.lines) (groups_of_job c (changed c ch s) old.lines) (is_job_in c s old.lines) (is_job_in c (changed c ch s) old.lines)
      (λ kind j. job-among c s old.lines j kind) (λ kind j. job-among c (changed c ch s) old.lines j kind) touched.jobs old.jobs new.jobs (map job_before past.jobs) was.jobs
      (λ j out. job-groups-same c s ch reached old.lines j (ap (λ (js : List JobId). list_any (λ i. same_job i j) js) (sym all.jobs) ∙ out))
      (ap (map job_before) listed.jobs ∙ map-map job_before (past_job c s old.lines) touched.jobs) (jobs_are ∙ rw (site_is, after) refl));
  sessions =
      kinds-moved is_session_before same_session sessions-in_order session_group (groups_of_session s) (groups_of_session (changed c ch s)) (is_kind_in s) (is_kind_in (changed c ch s))
      (session-among s) (session-among (changed c ch s)) touched.sessions old.sessions new.sessions (map session_before past.sessions) was.sessions
      (λ x out. ap (λ (o : Option SessionFacts). map (option_map session_group) (option_map_or kinds_of_facts o no_kinds))
      (session-untouched c ch s x (ap (λ (xs : List SessionId). list_any (λ y. same_session y x) xs) (sym all.sessions) ∙ out)))
      (ap (map session_before) listed.sessions ∙ map-map session_before (past_session s) touched.sessions) (sessions_are ∙ rw after refl);
}

-- # the members of groups, made number by number

-- ## jobs

abbrev pub jobs_below : Configuration → State → List JobId → ℕ → JobId → List (Option Group)
jobs_below c s lines n = below is_job_before same_job jobs-in_order (λ (j : JobId). j.0) (λ i j out. out) (groups_of_job c s lines) n

-- the members are the jobs with a number below this one
abbrev pub AreJobsBelow : Configuration → State → List JobId → ℕ → List (Member JobId) → Type 0
AreJobsBelow c s lines n ms = AreGrouped is_job_before same_job (jobs_below c s lines n) ms

pub jobs-all : (c : Configuration) (s : State) (lines : List JobId) (n : ℕ) (ms : List (Member JobId)) → length s.jobs ≤ n → AreJobsBelow c s lines n ms → AreJobGroups c s lines ms
jobs-all c s lines n ms all are = record {
  rises = are.rises;
  each = λ kind j.
      let past = λ (out : nat_lt j.0 n ≡ false). slice_get_past s.jobs j.0 (omega (arith, all, not-below j.0 n out)) in
      grind (arith, are.each (job_group kind) j, job-among c s lines j kind);
}

-- ## sessions

abbrev pub sessions_below : State → ℕ → SessionId → List (Option Group)
sessions_below s n = below is_session_before same_session sessions-in_order (λ (x : SessionId). x.0) (λ i j out. out) (groups_of_session s) n

-- the members are the sessions with a number below this one
abbrev pub AreSessionsBelow : State → ℕ → List (Member SessionId) → Type 0
AreSessionsBelow s n ms = AreGrouped is_session_before same_session (sessions_below s n) ms

-- there is no session with the number 0
pub sessions-none : (s : State) → AreSessionsBelow s 1 []
sessions-none s = record { rises = tt; each = λ g x. grind (arith, nat_tests) }

pub sessions-all : (s : State) (n : ℕ) (ms : List (Member SessionId)) → length s.sessions < n → AreSessionsBelow s n ms → AreSessionGroups s ms
sessions-all s n ms all are = record {
  rises = are.rises;
  each = λ kind x.
      let past = λ (out : nat_lt x.0 n ≡ false). slice_get_past s.sessions (x.0 - 1) (omega (arith, all, not-below x.0 n out)) in
      grind (arith, are.each (session_group kind) x, session-among s kind x);
}

-- # the members of groups after a change, from those before it

-- nodes move alike to groups that are alike
alike : (c : Configuration) (s : State) (now later : NodeId → List (Option Group)) (ns : List NodeId) (ms : List (Member NodeId)) → AllByRecursion (λ n. now n ≡ later n) ns
    → with_all_moved is_node_before same_node now (map (placed_node c s) ns) ms ≡ with_all_moved is_node_before same_node later (map (placed_node c s) ns) ms
alike c s now later [] ms same = refl
alike c s now later (n ∷ ns) ms same = rw (with_all_moved, same.0) (alike c s now later ns (with_moved is_node_before same_node n (groups_of_node c s n) (later n) ms) same.1)

-- what is listed moves to where it is, and all else stays
pub given-noted : (c site : Configuration) (s t : State) (ch : Changes) (prepared : PreparedOf) (old was new : List (Member NodeId)) (past : List (Placed NodeId)) (most : ℕ)
    → was ≡ old → past ≡ prepared.past → most ≡ prepared.most → new ≡ with_all_moved is_node_before same_node (groups_within site t most) past was
    → IsReached c s → IsPrepared c s ch prepared → site ≡ c → t ≡ changed c ch s → AreGivenGroups c s old → AreGivenGroups c (changed c ch s) new
given-noted c site s t ch prepared old was new past most was_is past_is most_is members reached ready same_site later are =
    record { rises = moved.rises; each = moved.each; once = (numbered c s ch (invariant-Runs c reached.journal s reached.runs).numbered).nodes_rise }
  where
    now : NodeId → List (Option Group)
    now = groups_of_node c (changed c ch s)

    within : new ≡ with_all_moved is_node_before same_node (groups_within c (changed c ch s) prepared.most) (map (placed_node c s) ready.listed) old
    within = rw (← ready.past, ← later, ← same_site, ← was_is, ← past_is, ← most_is) members

    -- the whole queue is read, since it is longer by one session at most
    whole : AllByRecursion (λ n. groups_within c (changed c ch s) prepared.most n ≡ now n) ready.listed
    whole =
        all-weaker (λ n. suc (length (node_queue n s.nodes)) ≤ prepared.most) (λ n. groups_within c (changed c ch s) prepared.most n ≡ now n)
        (λ n few. ap (λ (queue : List SessionId). option_map_or (λ k. groups_by c (changed c ch s) k queue) (node_in n (changed c ch s).nodes) [])
        (take_all prepared.most (node_queue n (changed c ch s).nodes) (omega (arith, queue-longer c ch s n reached)))) ready.listed ready.most

    moved : AreGrouped is_node_before same_node now new
    moved =
        subst (AreGrouped is_node_before same_node now) (sym (within ∙ alike c s (groups_within c (changed c ch s) prepared.most) now ready.listed old whole))
        (grouped-moved is_node_before same_node nodes-in_order (groups_of_node c s) now ready.listed old (record { rises = are.rises; each = are.each })
        (λ n out. given-untouched c ch s n reached (contrapositive (touches_given ch s n) (list_any (λ m. same_node m n) ready.listed) (ready.nodes n) out)))

-- # the members of groups, made node by node

abbrev pub nodes_made : Configuration → State → ℕ → List (Member NodeId)
nodes_made c s at = made is_node_before same_node nodes-in_order (λ (e : NodeEntry). e.id) (groups_of_node c s) s.nodes at

pub given-made : (c : Configuration) (s : State) (at : ℕ) (ms : List (Member NodeId)) → IsReached c s → at ≡ length s.nodes → ms ≡ nodes_made c s at → AreGivenGroups c s ms
given-made c s at ms reached all is =
    let are : AreGrouped is_node_before same_node (groups_of_node c s) ms =
    made-all is_node_before same_node nodes-in_order (λ (e : NodeEntry). e.id) (groups_of_node c s) s.nodes at ms all is (λ g n out.
    ap (λ (o : Option NodeEntry). is_among g (option_map_or (λ k. groups_by c s k (node_queue n s.nodes)) (option_map (λ e. e.kept) o) []))
    (none-found (λ (e : NodeEntry). e.id) same_node n s.nodes out)) in
    record { rises = are.rises; each = are.each; once = (invariant-Runs c reached.journal s reached.runs).numbered.nodes_rise }
