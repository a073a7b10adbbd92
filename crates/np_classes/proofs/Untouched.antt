-- what the changes of an event do not touch, nodes, requests, jobs and sessions, is after them as before
use Rattle.np_classes.proofs.Prelude.{AllocationsListed, Bool, Changes, Configuration, Growth, HandlesChange, Invariant, IsAsking, IsReached, IsTouched, JobId, JobIn, JobRecord, JobsChange, List, Maker, NodeEntry, NodeId, NodeRecord, NodesChange, None, Option, Phase, RequestEntry, RequestId, RequestRecord, RequestsChange, SemId, SessionFacts, SessionId, SessionsChange, Some, State, TenantId, TouchedOf, allocated, ap, arith, asker_of, beginning, calm-request, change_at, change_first, changed, changed_job, changes_node, changes_request, cond, contrapositive, edited, ends_at_node, ends_at_request, facts_in, false, filter-not_none, fold, found-grown, freed, grown, grown-request, grows_node, grows_request, grows_request_queue, handles_changed, has_handle, invariant-Runs, is_asked, is_none, is_queued, is_request, is_session, is_unclaimed, job_of_request, jobs-grown, jobs_changed, joined, kept-change_at, leaves_request_queue, left, left-request, length, list_any, list_any-append, list_any-insert_before, made-look, muted, nat_lt, nat_tests, node_in, node_in-allocated, node_in-freed, node_in-in_use, node_in-left, node_in-other, node_in-put, node_in-queue, node_in-remove, node_queue, node_queue-allocated, node_queue-freed, node_queue-in_use, node_queue-left, node_queue-nowhere, node_queue-other, node_queue-put, node_queue-queue, node_queue-remove, nodes_changed, nodes_left, none-list_any, option_and_then, option_map, option_map_or, option_to_list, or_parts, put_node_queue, put_request_queue, refl, registers, releasing, request_equal, request_in, request_in-below, request_in-edit, request_in-insert, request_in-queue, request_in-remove, request_queue, request_queue-edit, request_queue-insert, request_queue-left, request_queue-nowhere, request_queue-queue, request_queue-remove, requests_changed, requests_left, same_job, same_request, same_session, semaphores_of, session_of, sessions_changed, set-other, slice_get, slice_get-change_at_other, standing, stopping, suc, sym, taking, touches_job, touches_node, touches_request, touches_request_queue, touches_session, true, unclaims_node, unwrap_or, used_from, with_handle, with_mark, without_handle, zero, ℕ, [], ◌++◌, ◌-◌, ◌<◌, ◌==◌, ◌||◌, ◌∙◌, ◌∷◌, ◌≡◌, ◌≢◌}
use Rattle.np_changes.specs.Prelude.{is_among, ended}

-- # what the changes of an event do not touch is found after them as before

-- what a test that fails would change stays
unchanged : {K : Type 0} (b : Bool) (f : K → K) (o : Option K) → b ≡ false → option_map (λ k. cond b (f k) k) o ≡ o
unchanged b f o out = grind (arith, out)

-- ## nodes

-- the node has the same record and the same queue in both
abbrev Alike : NodeId → List NodeEntry → List NodeEntry → Type 0
Alike n rows old = (node_in n rows ≡ node_in n old) × (node_queue n rows ≡ node_queue n old)

-- the queue of another node is put
queue-put : (n0 n : NodeId) (queue : List SessionId) (rows : List NodeEntry) → (n0.0 == n.0) ≡ false → node_queue n (put_node_queue n0 queue rows) ≡ node_queue n rows
queue-put n0 n queue rows other = by (node_in n rows) refl where
  by : (o : Option NodeRecord) → node_in n rows ≡ o → node_queue n (put_node_queue n0 queue rows) ≡ node_queue n rows
  by None none = node_queue-nowhere n (put_node_queue n0 queue rows) (node_in-queue n0 n queue rows ∙ none) ∙ sym (node_queue-nowhere n rows none)
  by (Some k) is = node_queue-queue n0 n queue k rows is ∙ ap (λ (b : Bool). cond b queue (node_queue n rows)) other

-- its record stays too
put-untouched : (n0 n : NodeId) (queue : List SessionId) (rows : List NodeEntry) → (n0.0 == n.0) ≡ false → Alike n (put_node_queue n0 queue rows) rows
put-untouched n0 n queue rows other = (node_in-queue n0 n queue rows, queue-put n0 n queue rows other)

-- another node is allocated
allocated-untouched : (n0 n : NodeId) (r : RequestId) (tenant : Option TenantId) (session : SessionId) (rows : List NodeEntry) → (n0.0 == n.0) ≡ false → Alike n (change_first (λ e. e.id.0 == n0.0) (allocated r tenant session) rows) rows
allocated-untouched n0 n r tenant session rows other = (same, by (node_in n rows) refl) where
  same : node_in n (change_first (λ e. e.id.0 == n0.0) (allocated r tenant session) rows) ≡ node_in n rows
  same = node_in-allocated n0 n r tenant session rows ∙ unchanged (n0.0 == n.0) (λ k. record k { allocated_to = Some r; tenant = tenant }) (node_in n rows) other

  by : (o : Option NodeRecord) → node_in n rows ≡ o → node_queue n (change_first (λ e. e.id.0 == n0.0) (allocated r tenant session) rows) ≡ node_queue n rows
  by None none = node_queue-nowhere n (change_first (λ e. e.id.0 == n0.0) (allocated r tenant session) rows) (same ∙ none) ∙ sym (node_queue-nowhere n rows none)
  by (Some k) is = node_queue-allocated n0 n r tenant session k rows is ∙ ap (λ (b : Bool). cond b (joined session (node_queue n rows)) (node_queue n rows)) other

-- a growth of something else
grown-untouched : (c : Configuration) (maker : Option Maker) (g : Growth) (s : State) (n : NodeId) → grows_node g s n ≡ false → Alike n (grown c maker g s).nodes s.nodes
grown-untouched c maker (Growth.Node kept) s n other = (node_in-other _ n s.nodes other, node_queue-other _ n s.nodes other)
grown-untouched c None _ s n other = (refl, refl)
grown-untouched c (Some by) (Growth.JoinNode n0) s n other = put-untouched n0 n (joined by.session (node_queue n0 s.nodes)) s.nodes other
grown-untouched c (Some by) (Growth.Allocate n0 r tenant) s n other = allocated-untouched n0 n r tenant by.session s.nodes other
grown-untouched c _ _ s n other = (refl, refl)

-- a node that is not allocated to the request is not freed
not-freed : (r : RequestId) (o : Option NodeRecord) → option_map_or (λ k. is_request r k.allocated_to) o false ≡ false → option_map (λ k. cond (is_request r k.allocated_to) (freed k) k) o ≡ o
not-freed r o out = grind (arith, out)

-- a change of other nodes; the nodes may have grown, with this one as in the state
changed-untouched : (maker : Option Maker) (tick : ℕ) (change : NodesChange) (s : State) (n : NodeId) (rows : List NodeEntry) → node_in n rows ≡ node_in n s.nodes → changes_node change s n ≡ false → Alike n (nodes_changed maker tick change rows) rows
changed-untouched maker tick (NodesChange.Put n0 kept) s n rows same other =
    (node_in-put n0 n kept rows ∙ unchanged (n0.0 == n.0) (λ _. kept) (node_in n rows) other, node_queue-put n0 n kept rows)
changed-untouched maker tick (NodesChange.Remove n0) s n rows same other = (node_in-remove n0 n rows other, node_queue-remove n0 n rows other)
changed-untouched (Some by) tick (NodesChange.Leave n0) s n rows same other = put-untouched n0 n (left by.session (node_queue n0 rows)) rows other
changed-untouched maker tick (NodesChange.FreeAll r) s n rows same other =
    (node_in-freed r n rows ∙ not-freed r (node_in n rows) (ap (λ (o : Option NodeRecord). option_map_or (λ k. is_request r k.allocated_to) o false) same ∙ other), node_queue-freed r n rows)
changed-untouched maker tick (NodesChange.TakeOver numbers) s n rows same other =
    (node_in-in_use tick numbers n rows ∙ unchanged (list_any (λ m. m.0 == n.0) numbers) (used_from tick) (node_in n rows) other, node_queue-in_use tick numbers n rows)
changed-untouched _ tick _ s n rows same other = (refl, refl)

-- a queue that the session is not in stays when it leaves
left-same : (session : SessionId) (queue : List SessionId) → is_queued session queue ≡ false → left session queue ≡ queue
left-same session queue out = filter-not_none (λ other. is_session other session) queue (none-list_any (λ other. is_session other session) queue out)

-- the end of a session that is not in the node's queue
left-untouched : (ended : SessionsChange) (s : State) (n : NodeId) (rows : List NodeEntry) → node_queue n rows ≡ node_queue n s.nodes → ends_at_node ended s n ≡ false → Alike n (nodes_left ended rows) rows
left-untouched (SessionsChange.End session) s n rows same out =
    (node_in-left session n rows, node_queue-left session n rows ∙ left-same session (node_queue n rows) (ap (λ (queue : List SessionId). is_queued session queue) same ∙ out))
left-untouched _ s n rows same out = (refl, refl)

-- a node that the changes do not touch has the same record and the same queue after them
pub node-untouched : (c : Configuration) (ch : Changes) (s : State) (n : NodeId) → touches_node ch s n ≡ false → (node_in n (changed c ch s).nodes ≡ node_in n s.nodes) × (node_queue n (changed c ch s).nodes ≡ node_queue n s.nodes)
node-untouched c ch s n out =
    let more : State = grown c ch.maker ch.grows s in
    let grew = grown-untouched c ch.maker ch.grows s n (grind (arith, out)) in
    let change = changed-untouched ch.maker more.tick ch.nodes s n more.nodes grew.0 (grind (arith, out)) in
    let leave = left-untouched ch.sessions s n (nodes_changed ch.maker more.tick ch.nodes more.nodes) (change.1 ∙ grew.1) (grind (arith, out)) in
    (leave.0 ∙ change.0 ∙ grew.0, leave.1 ∙ change.1 ∙ grew.1)

-- ## requests

-- a growth of something else
request-grown : (c : Configuration) (maker : Option Maker) (g : Growth) (s : State) (r : RequestId) → grows_request g s r ≡ false → request_in r (grown c maker g s).requests ≡ request_in r s.requests
request-grown c maker (Growth.Request priority asked) s r other = request_in-insert _ r s.requests other
request-grown c maker g s r other = grown-request c maker g s r tt

-- a change of another request, or of a queue
request-changed : (maker : Option Maker) (change : RequestsChange) (r : RequestId) (rows : List RequestEntry) → changes_request change r ≡ false → request_in r (requests_changed maker change rows) ≡ request_in r rows
request-changed maker (RequestsChange.Edit r0 edit) r rows other = request_in-edit r0 r (edited edit) rows ∙ unchanged (same_request r0 r) (edited edit) (request_in r rows) other
request-changed maker (RequestsChange.Remove r0) r rows other = request_in-remove r0 r rows other
request-changed maker change r rows other = calm-request maker change r rows tt

-- a request that the changes do not touch has the same record after them
pub request-untouched : (c : Configuration) (ch : Changes) (s : State) (r : RequestId) → touches_request ch s r ≡ false → request_in r (changed c ch s).requests ≡ request_in r s.requests
request-untouched c ch s r out =
    let more : State = grown c ch.maker ch.grows s in
    left-request ch.sessions r (requests_changed ch.maker ch.requests more.requests)
    ∙ request-changed ch.maker ch.requests r more.requests (grind (arith, out))
    ∙ request-grown c ch.maker ch.grows s r (grind (arith, out))

-- the record of a request that is not listed stays
pub record-stays : (c : Configuration) (s : State) (ch : Changes) (touched : TouchedOf) → IsTouched s ch touched
    → (r : RequestId) → list_any (λ x. same_request x r) touched.requests ≡ false → request_in r (changed c ch s).requests ≡ request_in r s.requests
record-stays c s ch touched all r out = request-untouched c ch s r (contrapositive (touches_request ch s r) (list_any (λ x. same_request x r) touched.requests) (all.requests r) out)

-- ## queues of requests

-- the queue of another request is put
request_queue-put : (r0 r : RequestId) (queue : List SessionId) (rows : List RequestEntry) → same_request r0 r ≡ false → request_queue r (put_request_queue r0 queue rows) ≡ request_queue r rows
request_queue-put r0 r queue rows other = by (request_in r rows) refl where
  by : (o : Option RequestRecord) → request_in r rows ≡ o → request_queue r (put_request_queue r0 queue rows) ≡ request_queue r rows
  by None none = request_queue-nowhere r (put_request_queue r0 queue rows) (request_in-queue r0 r queue rows ∙ none) ∙ sym (request_queue-nowhere r rows none)
  by (Some k) is = request_queue-queue r0 r queue k rows is ∙ ap (λ (b : Bool). cond b queue (request_queue r rows)) other

-- a growth of something else
queue-grown : (c : Configuration) (maker : Option Maker) (g : Growth) (s : State) (r : RequestId) → grows_request g s r ≡ false → grows_request_queue g r ≡ false
    → request_queue r (grown c maker g s).requests ≡ request_queue r s.requests
queue-grown c maker (Growth.Request priority asked) s r other calm = request_queue-insert _ r s.requests other
queue-grown c None _ s r other calm = refl
queue-grown c (Some by) (Growth.JoinRequest r0) s r other calm = request_queue-put r0 r (joined by.session (request_queue r0 s.requests)) s.requests calm
queue-grown c _ _ s r other calm = refl

-- a change of another request or of its queue
queue-changed : (maker : Option Maker) (change : RequestsChange) (r : RequestId) (rows : List RequestEntry) → changes_request change r ≡ false → leaves_request_queue change r ≡ false
    → request_queue r (requests_changed maker change rows) ≡ request_queue r rows
queue-changed maker (RequestsChange.Edit r0 edit) r rows other calm = request_queue-edit r0 r (edited edit) rows
queue-changed maker (RequestsChange.Remove r0) r rows other calm = request_queue-remove r0 r rows other
queue-changed (Some by) (RequestsChange.Leave r0) r rows other calm = request_queue-put r0 r (left by.session (request_queue r0 rows)) rows calm
queue-changed _ _ r rows other calm = refl

-- the end of a session that is not in the request's queue
queue-left : (ended : SessionsChange) (s : State) (r : RequestId) (rows : List RequestEntry) → request_queue r rows ≡ request_queue r s.requests → ends_at_request ended s r ≡ false
    → request_queue r (requests_left ended rows) ≡ request_queue r rows
queue-left (SessionsChange.End session) s r rows same out =
    request_queue-left session r rows ∙ left-same session (request_queue r rows) (ap (λ (queue : List SessionId). is_queued session queue) same ∙ out)
queue-left _ s r rows same out = refl

-- a request of which the changes touch neither the record nor the queue has the same queue after them
pub queue-untouched : (c : Configuration) (ch : Changes) (s : State) (r : RequestId) → touches_request ch s r ≡ false → touches_request_queue ch s r ≡ false
    → request_queue r (changed c ch s).requests ≡ request_queue r s.requests
queue-untouched c ch s r out calm =
    let more : State = grown c ch.maker ch.grows s in
    let grew = queue-grown c ch.maker ch.grows s r (grind (arith, out)) (grind (arith, calm)) in
    let change = queue-changed ch.maker ch.requests r more.requests (grind (arith, out)) (grind (arith, calm)) in
    queue-left ch.sessions s r (requests_changed ch.maker ch.requests more.requests) (change ∙ grew) (grind (arith, calm)) ∙ change ∙ grew

-- ## whether a node is unclaimed

-- the request that a node is allocated to is there after a change as before it, if the node is not touched
stays-there : (maker : Option Maker) (change : RequestsChange) (s : State) (n : NodeId) (k : NodeRecord) (r : RequestId) (rows : List RequestEntry)
    → node_in n s.nodes ≡ Some k → k.allocated_to ≡ Some r → unclaims_node change s n ≡ false
    → is_none (option_map (λ _. r) (request_in r (requests_changed maker change rows))) ≡ is_none (option_map (λ _. r) (request_in r rows))
stays-there maker (RequestsChange.Edit r0 edit) s n k r rows at to out =
    ap (λ (o : Option RequestRecord). is_none (option_map (λ _. r) o)) (request_in-edit r0 r (edited edit) rows) ∙ grind arith
stays-there maker (RequestsChange.Remove r0) s n k r rows at to out =
    let claims : is_request r0 k.allocated_to ≡ false = ap (λ (o : Option NodeRecord). option_map_or (λ k. is_request r0 k.allocated_to) o false) (sym at) ∙ out in
    let other : same_request r r0 ≡ false = ap (is_request r0) (sym to) ∙ claims in
    ap (λ (o : Option RequestRecord). is_none (option_map (λ _. r) o)) (request_in-remove r0 r rows (grind (arith, nat_tests, other)))
stays-there maker change s n k r rows at to out = ap (λ (o : Option RequestRecord). is_none (option_map (λ _. r) o)) (calm-request maker change r rows tt)

-- a node that the changes do not touch is unclaimed after them as before
pub unclaimed-untouched : (c : Configuration) (ch : Changes) (s : State) (n : NodeId) (k : NodeRecord) → AllocationsListed s → node_in n s.nodes ≡ Some k → touches_node ch s n ≡ false
    → is_unclaimed (changed c ch s) k ≡ is_unclaimed s k
unclaimed-untouched c ch s n k allocations at out = by k.allocated_to refl where
  by : (o : Option RequestId) → k.allocated_to ≡ o → is_none (standing (changed c ch s) o) ≡ is_none (standing s o)
  by None to = refl
  by (Some r) to =
      let more : State = grown c ch.maker ch.grows s in
      ap (λ (o : Option RequestRecord). is_none (option_map (λ _. r) o)) (left-request ch.sessions r (requests_changed ch.maker ch.requests more.requests))
      ∙ stays-there ch.maker ch.requests s n k r more.requests at to (grind (arith, out))
      ∙ ap (λ (o : Option RequestRecord). is_none (option_map (λ _. r) o)) (found-grown c s ch.maker ch.grows r (allocations n k r at to).below)

-- # a job that the changes of an event do not touch has the same record, the same handles and, if it has asked for its nodes, the same request after them

-- ## which jobs are named

-- the job is this one
abbrev is_named : Option JobId → JobId → Bool
is_named None j = false
is_named (Some i) j = same_job i j

-- a job that is not touched is named by none of these
unnamed : (ch : Changes) (s : State) (j : JobId) → touches_job ch s j ≡ false
    → (is_named (taking ch.grows) j ≡ false) × (is_named (changed_job ch.jobs) j ≡ false) × (is_named (releasing ch.handles) j ≡ false) × (is_named (asker_of ch.requests s) j ≡ false)
unnamed ch s j out = by (taking ch.grows) (changed_job ch.jobs) (releasing ch.handles) (asker_of ch.requests s) out where
  by : (x y z w : Option JobId) → list_any (λ i. same_job i j) (((option_to_list x ++ option_to_list y) ++ option_to_list z) ++ option_to_list w) ≡ false
      → (is_named x j ≡ false) × (is_named y j ≡ false) × (is_named z j ≡ false) × (is_named w j ≡ false)
  by x y z w none = (grind (arith, none), grind (arith, none), grind (arith, none), grind (arith, none))

-- ## the record

rows-untouched : (change : JobsChange) (j : JobId) (rows : List JobRecord) → is_named (changed_job change) j ≡ false → slice_get (jobs_changed change rows) j.0 ≡ slice_get rows j.0
rows-untouched JobsChange.Same j rows out = refl
rows-untouched (JobsChange.Put i kept) j rows out = set-other rows i.0 j.0 kept (λ same. absurd (grind (arith, nat_tests)))
rows-untouched (JobsChange.EndNode i n) j rows out = slice_get-change_at_other i.0 j.0 (with_mark n) rows (λ same. absurd (grind (arith, nat_tests)))

pub job-untouched : (c : Configuration) (ch : Changes) (s : State) (j : JobId) → touches_job ch s j ≡ false → slice_get (changed c ch s).jobs j.0 ≡ slice_get s.jobs j.0
job-untouched c ch s j out =
    rows-untouched ch.jobs j (grown c ch.maker ch.grows s).jobs (unnamed ch s j out).1
    ∙ ap (λ (rows : List JobRecord). slice_get rows j.0) (jobs-grown c ch.maker ch.grows s)

-- ## the handles

-- a job more among those of one semaphore leaves the others
with-other : (i j : JobId) (jobs : List JobId) → same_job i j ≡ false → is_among j (with_handle i jobs) ≡ is_among j jobs
with-other i j jobs other = grind (arith, other, list_any-insert_before (λ (k : JobId). k.0 == j.0) (λ k. nat_lt i.0 k.0) i jobs)

-- and so does a job less
without-other : (i j : JobId) (jobs : List JobId) → same_job i j ≡ false → is_among j (without_handle i jobs) ≡ is_among j jobs
without-other i j [] other = refl
without-other i j (k ∷ jobs) other = grind (arith, nat_tests, other, without-other i j jobs other)

abbrev among : JobId → Option (List JobId) → Bool
among j o = is_among j (unwrap_or o [])

module _ (c : Configuration) (j : JobId) (x : SemId) where
  -- a change of other jobs, at some semaphores
  all-kept : (f : List JobId → List JobId) → ((jobs : List JobId) → is_among j (f jobs) ≡ is_among j jobs) → (semaphores : List SemId) (rows : List (List JobId))
      → has_handle j (fold (λ hs y. change_at y.0 f hs) rows semaphores) x ≡ has_handle j rows x
  all-kept f keeps [] rows = refl
  all-kept f keeps (y ∷ semaphores) rows = all-kept f keeps semaphores (change_at y.0 f rows) ∙ kept-change_at (among j) y.0 x.0 f rows keeps

  handle-grown : (maker : Option Maker) (g : Growth) (s : State) → is_named (taking g) j ≡ false → has_handle j (grown c maker g s).handles x ≡ has_handle j s.handles x
  handle-grown maker (Growth.Handles i) s out = all-kept (with_handle i) (λ jobs. with-other i j jobs out) (semaphores_of c i) s.handles
  handle-grown maker (Growth.Registration p) s out = made-look (λ (t : State). has_handle j t.handles x) maker (λ session t. registers t session p) s (λ session t. refl)
  handle-grown maker _ s out = refl

  handle-left : (change : HandlesChange) (rows : List (List JobId)) → is_named (releasing change) j ≡ false → has_handle j (handles_changed c change rows) x ≡ has_handle j rows x
  handle-left HandlesChange.Same rows out = refl
  handle-left (HandlesChange.Release i) rows out = all-kept (without_handle i) (λ jobs. without-other i j jobs out) (semaphores_of c i) rows

  pub handle-untouched : (ch : Changes) (s : State) → touches_job ch s j ≡ false → has_handle j (changed c ch s).handles x ≡ has_handle j s.handles x
  handle-untouched ch s out =
      let none = unnamed ch s j out in
      handle-left ch.handles (grown c ch.maker ch.grows s).handles none.2 ∙ handle-grown ch.maker ch.grows s none.0

-- ## the request

module _ (s : State) (j : JobId) (kept : JobRecord) (asking : IsAsking s j kept) where
  -- a change of the request names the job
  asker-is : (x : RequestId) → same_request x asking.id ≡ true → is_named (job_of_request x s) j ≡ true
  asker-is x same =
      rw (request_equal x asking.id same, asking.stands, asking.names) (grind (arith, nat_tests))

  not-asker : (x : RequestId) → is_named (job_of_request x s) j ≡ false → same_request x asking.id ≡ false
  not-asker x out = contrapositive (same_request x asking.id) (is_named (job_of_request x s) j) (asker-is x) out

  not-changed : (change : RequestsChange) → is_named (asker_of change s) j ≡ false → changes_request change asking.id ≡ false
  not-changed (RequestsChange.Edit x edit) out = not-asker x out
  not-changed (RequestsChange.Remove x) out = not-asker x out
  not-changed _ out = refl

-- a request that is there does not grow
not-grown : (g : Growth) (s : State) (r : RequestId) → r.seq < s.next_request → grows_request g s r ≡ false
not-grown (Growth.Request priority asked) s r low = grind (arith, nat_tests)
not-grown _ s r low = refl

pub asked-untouched : (c : Configuration) (ch : Changes) (s : State) (j : JobId) (kept : JobRecord) → IsReached c s → touches_job ch s j ≡ false → slice_get s.jobs j.0 ≡ Some kept → is_asked kept.phase ≡ true
    → option_and_then (λ r. request_in r (changed c ch s).requests) kept.request ≡ option_and_then (λ r. request_in r s.requests) kept.request
asked-untouched c ch s j kept reached out stands asked = by kept.phase asked (invariant.jobs.each j kept stands) where
  invariant : Invariant c s
  invariant = invariant-Runs c reached.journal s reached.runs

  by : (p : Phase) → is_asked p ≡ true → JobIn s j kept p → option_and_then (λ r. request_in r (changed c ch s).requests) kept.request ≡ option_and_then (λ r. request_in r s.requests) kept.request
  by Phase.Asked is job =
      let low : job.0.id.seq < s.next_request = request_in-below job.0.id s.next_request job.0.request s.requests invariant.numbered.requests_below job.0.stands in
      let calm : touches_request ch s job.0.id ≡ false =
      ap (λ (b : Bool). b || changes_request ch.requests job.0.id) (not-grown ch.grows s job.0.id low) ∙ not-changed s j kept job.0 ch.requests (unnamed ch s j out).3 in
      ap (λ (o : Option RequestId). option_and_then (λ r. request_in r (changed c ch s).requests) o) job.0.asks
      ∙ request-untouched c ch s job.0.id calm
      ∙ sym (ap (λ (o : Option RequestId). option_and_then (λ r. request_in r s.requests) o) job.0.asks)
  by _ is job = absurd cc

-- # a session that the changes of an event do not touch is as it was

-- a place other than the new one
push-other : {X : Type 0} (xs : List X) (new : X) (i : ℕ) → i ≢ length xs → slice_get (xs ++ new ∷ []) i ≡ slice_get xs i
push-other [] new zero other = absurd (other refl)
push-other [] new (suc i) other = refl
push-other (x ∷ xs) new zero other = refl
push-other (x ∷ xs) new (suc i) other = push-other xs new i (λ same. other (ap suc same))

-- a session with the number 0 is never found
by-number : {X : Type 0} (number : ℕ) (a b : Option X) → ((number == 0) ≡ false → a ≡ b) → cond (number == 0) None a ≡ cond (number == 0) None b
by-number number a b same = grind (arith, nat_tests)

-- the session is in the list
abbrev lists_session : SessionId → List SessionId → Bool
lists_session x xs = list_any (λ y. same_session y x) xs

sessions-grown-untouched : (c : Configuration) (maker : Option Maker) (g : Growth) (s : State) (x : SessionId) → lists_session x (option_to_list (beginning g s)) ≡ false → facts_in x (grown c maker g s).sessions ≡ facts_in x s.sessions
sessions-grown-untouched c maker (Growth.Session role) s x other =
    by-number x.0 _ _ (λ positive. push-other s.sessions _ (x.0 - 1) (λ same. absurd (grind (arith, nat_tests))))
sessions-grown-untouched c maker (Growth.Registration p) s x other = made-look (λ (t : State). facts_in x t.sessions) maker (λ session t. registers t session p) s (λ session t. refl)
sessions-grown-untouched c maker _ s x other = refl

sessions-changed-untouched : (change : SessionsChange) (x : SessionId) (rows : List SessionFacts) → lists_session x (option_to_list (stopping change)) ≡ false → facts_in x (sessions_changed change rows) ≡ facts_in x rows
sessions-changed-untouched SessionsChange.Same x rows out = refl
sessions-changed-untouched (SessionsChange.Mute y) x rows out =
    by-number x.0 _ _ (λ positive. slice_get-change_at_other (y.0 - 1) (x.0 - 1) muted rows (λ same. absurd (grind (arith, nat_tests))))
sessions-changed-untouched (SessionsChange.End y) x rows out =
    by-number x.0 _ _ (λ positive. slice_get-change_at_other (y.0 - 1) (x.0 - 1) ended rows (λ same. absurd (grind (arith, nat_tests))))

pub session-untouched : (c : Configuration) (ch : Changes) (s : State) (x : SessionId) → touches_session ch s x ≡ false → session_of x (changed c ch s) ≡ session_of x s
session-untouched c ch s x out =
    let parts =
    or_parts (lists_session x (option_to_list (beginning ch.grows s))) (lists_session x (option_to_list (stopping ch.sessions)))
    (sym (list_any-append (λ y. same_session y x) (option_to_list (beginning ch.grows s)) (option_to_list (stopping ch.sessions))) ∙ out) in
    sessions-changed-untouched ch.sessions x (grown c ch.maker ch.grows s).sessions parts.1
    ∙ sessions-grown-untouched c ch.maker ch.grows s x parts.0
