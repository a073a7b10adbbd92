-- who holds a node or a request by the journal is the first of its queue
use Rattle.np_changes.proofs.Prelude.{AllByRecursion, Answer, Bool, Configuration, Done, Event, JobId, JobRecord, LabelId, List, NodeEntry, NodeId, NodeRecord, None, Ok, Option, Phase, PoolId, RequestEntry, RequestId, RequestRecord, Rises, SessionId, Some, State, [], acting, ahead_of, and_from, and_parts, ap, arith, cond, effect, effect_create, effect_lock_node, effect_lock_request, effect_take, effect_take_ready, eq-eqb, eqb-true, false, has_node, is_ending, is_held, is_holding, is_id_before, is_locking, is_marked, is_new_node, is_node, is_ok, is_session, is_session_of, is_unlocking, joined, judge, judge_create, judge_lock_node, judge_lock_request, judge_take, judge_take_ready, launcher, le_of_eq, list_any, made, map, nat_tests, next, next_label, node_holder, node_in, node_queue, not, option_map_or, place_reply, plan, put_job, refl, request-equal, request-itself, request_holder, request_in, request_queue, same_request, session-equal, set-here, slice_get, some-unless, subst, sum_by-cons, sym, tenant_of_request, true, unended, unheld, with_act, ◌&&◌, ◌++◌, ◌+◌, ◌<◌, ◌==◌, ◌||◌, ◌∙◌, ◌∷◌, ◌≡◌, Entry, Err, HoldersHold, Invariant, IsLiveHolder, OneHolder, RisesFrom-next, Runs, Runs-prefix, after, append-nil, append_assoc, holds_after, holds_from, is_some, locks_after, locks_from, replayed, reply_of, start, state_after, state_after-push}
use Rattle.np_changes.proofs.Accepted.{accepted-state, plan-next}
use Rattle.np_changes.proofs.Lookups.{node_in-later, node_queue-allocated, node_queue-new, node_queue-queue, none-unless, request_in-below, request_queue-queue, same_node-is}
use Rattle.np_changes.proofs.HeldNodes.{IsFirstAt, first-alone, first-held, first-in, one-named, takes-as_said}
use Rattle.np_changes.proofs.HeldRequests.{IsFirstThere}
use Rattle.np_changes.proofs.HeldNodes
use Rattle.np_changes.proofs.HeldRequests
use Rattle.np_changes.proofs.Accepted

-- # a session that holds a node or a request by an accepted entry is first at it afterwards

-- ## an accepted event

module _ (c : Configuration) (s : State) (e : Event) (what : Done) (is : judge c s e ≡ Ok what) where
  accepted-next : next c s e ≡ with_act (acting s e) (effect c s e)
  accepted-next = accepted-state c s e (ap (λ (a : Answer). is_ok a) is)

  -- who is first stays first, unless the event says otherwise
  pub stays-first : (session : SessionId) (n : NodeId) → is_ending session n e ≡ false → IsFirstAt session n s.nodes → IsFirstAt session n (next c s e).nodes
  stays-first session n on held =
      subst (λ (t : State). IsFirstAt session n t.nodes) (plan-next c s e (ap (λ (a : Answer). is_ok a) is))
      (HeldNodes.changed-first session n c s (plan c s e) ((takes-as_said c s e).of_node session n on) held)

  pub stays-there : (session : SessionId) (r : RequestId) → is_unlocking session r e ≡ false → r.seq < s.next_request → Rises (λ a b. is_id_before a.id b.id) s.requests → IsFirstThere session r s.requests → IsFirstThere session r (next c s e).requests
  stays-there session r on before rises held =
      subst (λ (t : State). IsFirstThere session r t.requests) (plan-next c s e (ap (λ (a : Answer). is_ok a) is))
      (HeldRequests.changed-first session r c s (plan c s e) before rises ((takes-as_said c s e).of_request session r on) held)

  -- the same for a session and a node with the same numbers
  same-names : (by session : SessionId) (m n : NodeId) (rows : List NodeEntry) → (is_session by session && is_node n m) ≡ true → IsFirstAt by m rows → IsFirstAt session n rows
  same-names by session m n rows names held = grind (arith, nat_tests)

  -- the same for a session that is first in what the event leads to
  first-next : (by session : SessionId) (m n : NodeId) (rest : Bool) → (is_session by session && is_node n m && rest) ≡ true → (rest ≡ true → IsFirstAt by m (effect c s e).nodes) → IsFirstAt session n (next c s e).nodes
  first-next by session m n rest holds first =
      let parts = and_parts (is_session by session && is_node n m) rest holds in
      same-names by session m n (next c s e).nodes parts.0 (subst (λ (rows : List NodeEntry). IsFirstAt by m rows) (sym (ap (λ (t : State). t.nodes) accepted-next)) (first parts.1))

  still : (by session : SessionId) (m n : NodeId) → is_ending by m e ≡ false → is_session_of by (node_holder m s.nodes) ≡ true → (is_session by session && is_node n m) ≡ true → IsFirstAt session n (next c s e).nodes
  still by session m n on held names = same-names by session m n (next c s e).nodes names (stays-first by m on (record { first = held }))

-- ## a ready node that is taken, and a node that is made

take_ready-first : (c : Configuration) (s : State) (by : SessionId) (r : RequestId) (n : NodeId) (what : Done) → judge_take_ready s by r n ≡ Ok what → IsFirstAt by n (effect_take_ready c s by r n).nodes
take_ready-first c s by r n what is =
    let free : node_holder n s.nodes ≡ None = none-unless (node_holder n s.nodes) (λ other held. grind (arith, nat_tests)) in
    let asked : (request : RequestRecord) × (request_in r s.requests ≡ Some request) = some-unless (request_in r s.requests) (λ none. grind (arith, nat_tests)) in
    let there : (k : NodeRecord) × (node_in n s.nodes ≡ Some k) = some-unless (node_in n s.nodes) (Accepted.take_ready-stands c s by what r n is) in
    let joins : node_queue n (effect_take_ready c s by r n).nodes ≡ joined by (node_queue n s.nodes) =
    grind (arith, nat_tests, asked.1, node_queue-allocated n n r (tenant_of_request c asked.0) by there.0 s.nodes there.1) in
    record { first = first-in by joins (first-alone by (node_queue n s.nodes) free) }

-- the maker alone is in the queue of the node that is made
create-queue : (c : Configuration) (s : State) (by : SessionId) (r : RequestId) (n : NodeId) (p : PoolId) (request : RequestRecord) (l : LabelId) → AllByRecursion (λ e. e.id.0 < s.next_node) s.nodes → launcher s by ≡ Ok p → request_in r s.requests ≡ Some request → next_label request ≡ Some l → (s.next_node == n.0) ≡ true → node_queue n (effect_create c s by r).nodes ≡ by ∷ []
create-queue c s by r n p request l below who has wants number =
    let fresh : node_in n s.nodes ≡ None = node_in-later n s.next_node s.nodes below (le_of_eq (eqb-true s.next_node n.0 number)) in
    rw (who, has, wants) (node_queue-new (made c s by r p request l) n s.nodes number fresh)

create-first : (c : Configuration) (s : State) (by session : SessionId) (r : RequestId) (n : NodeId) (what : Done) → AllByRecursion (λ e. e.id.0 < s.next_node) s.nodes → judge_create c s by r ≡ Ok what → is_session by session ≡ true → is_new_node n what ≡ true → IsFirstAt session n (effect_create c s by r).nodes
create-first c s by session r n what below is one new = grind (arith, nat_tests, some-unless, Accepted.create-asked, Accepted.create-next, Accepted.create-maker, Accepted.create-number, first-in, create-queue)

-- ## a place in a queue

lock_node-first : (c : Configuration) (s : State) (by : SessionId) (n : NodeId) (what : Done) → judge_lock_node s by n ≡ Ok what → is_held what ≡ true → IsFirstAt by n (effect_lock_node s by n).nodes
lock_node-first c s by n what is held =
    let there : (k : NodeRecord) × (node_in n s.nodes ≡ Some k) = some-unless (node_in n s.nodes) (λ none. grind (arith, nat_tests)) in
    let place : is_held (place_reply (ahead_of by (node_queue n s.nodes))) ≡ true = grind (arith, nat_tests) in
    let joins : node_queue n (effect_lock_node s by n).nodes ≡ joined by (node_queue n s.nodes) = grind (arith, nat_tests, node_queue-queue n n (joined by (node_queue n s.nodes)) there.0 s.nodes there.1) in
    record { first = first-in by joins (first-held by (node_queue n s.nodes) place) }

lock_request-first : (c : Configuration) (s : State) (by : SessionId) (r : RequestId) (what : Done) → judge_lock_request c s by r ≡ Ok what → IsFirstThere by r (effect_lock_request s by r).requests
lock_request-first c s by r what is =
    let there : (request : RequestRecord) × (request_in r s.requests ≡ Some request) = some-unless (request_in r s.requests) (Accepted.lock_request-stands c s by what r is) in
    let free : request_holder r s.requests ≡ None = none-unless (request_holder r s.requests) (λ other held. grind (arith, nat_tests)) in
    let joins : request_queue r (effect_lock_request s by r).requests ≡ joined by (request_queue r s.requests) = grind (arith, nat_tests, request-itself r, request_queue-queue r r (joined by (request_queue r s.requests)) there.0 s.requests there.1) in
    record { first = λ _. first-in by joins (first-alone by (request_queue r s.requests) free) }

-- ## the nodes of a job

-- a session that holds each of the nodes holds a given one of them
pub one-held : (s : State) (by : SessionId) (n : NodeId) (numbers : List NodeId) → list_any (λ m. m.node.0 == n.0) (map unended numbers) ≡ true → unheld s by numbers ≡ 0 → is_session_of by (node_holder n s.nodes) ≡ true
one-held s by n [] marked none = absurd cc
one-held s by n (m ∷ numbers) marked none =
    let step : unheld s by (m ∷ numbers) ≡ cond (not (is_session_of by (node_holder m s.nodes))) 1 0 + unheld s by numbers = sum_by-cons (λ (x : NodeId). cond (not (is_session_of by (node_holder x s.nodes))) 1 0) m numbers in
    grind (arith, nat_tests, step, one-held s by n numbers, same_node-is m n)

take-marked : (c : Configuration) (s : State) (by : SessionId) (j : JobId) (n : NodeId) (what : Done) (kept : JobRecord) (r : RequestId) (request : RequestRecord) → judge_take c s by j ≡ Ok what → slice_get s.jobs j.0 ≡ Some kept → kept.request ≡ Some r → request_in r s.requests ≡ Some request → has_node n j (next c s (Event.Take by j)) ≡ list_any (λ m. m.node.0 == n.0) (map unended request.nodes)
take-marked c s by j n what kept r request is stands asks has =
    let later : JobRecord = record kept { nodes = map unended request.nodes; phase = Phase.Using; pool = request.pool } in
    let rows : (effect_take s j).jobs ≡ put_job j later s.jobs = rw (stands, asks, has) refl in
    ap (λ (jobs : List JobRecord). option_map_or (is_marked n) (slice_get jobs j.0) false) (ap (λ (t : State). t.jobs) (accepted-next c s (Event.Take by j) what is) ∙ rows)
    ∙ ap (λ (o : Option JobRecord). option_map_or (is_marked n) o false) (set-here s.jobs j.0 later kept stands)

take-first : (c : Configuration) (s : State) (by : SessionId) (j : JobId) (n : NodeId) (what : Done) → judge_take c s by j ≡ Ok what → has_node n j (next c s (Event.Take by j)) ≡ true → is_session_of by (node_holder n s.nodes) ≡ true
take-first c s by j n what is has =
    let job : (kept : JobRecord) × (slice_get s.jobs j.0 ≡ Some kept) = some-unless (slice_get s.jobs j.0) (λ none. grind (arith, nat_tests)) in
    let asked : (r : RequestId) × (job.0.request ≡ Some r) = some-unless job.0.request (λ none. grind (arith, nat_tests, job.1)) in
    let there : (request : RequestRecord) × (request_in asked.0 s.requests ≡ Some request) = some-unless (request_in asked.0 s.requests) (λ none. grind (arith, nat_tests, job.1, asked.1)) in
    by_parts job.0 asked.0 there.0 job.1 asked.1 there.1 where
      by_parts : (kept : JobRecord) (r : RequestId) (request : RequestRecord) → slice_get s.jobs j.0 ≡ Some kept → kept.request ≡ Some r → request_in r s.requests ≡ Some request → is_session_of by (node_holder n s.nodes) ≡ true
      by_parts kept r request stands asks found = one-held s by n request.nodes (sym (take-marked c s by j n what kept r request is stands asks found) ∙ has) (grind (arith, nat_tests))

-- ## all events

pub holding-first : (c : Configuration) (s : State) (session : SessionId) (n : NodeId) (e : Event) (what : Done) → AllByRecursion (λ x. x.id.0 < s.next_node) s.nodes → judge c s e ≡ Ok what → is_holding session n (next c s e) e what ≡ true → IsFirstAt session n (next c s e).nodes
holding-first c s session n (Event.TakeReady by r m) what below is holds = first-next c s (Event.TakeReady by r m) what is by session m n (is_held what) holds (λ _. take_ready-first c s by r m what is)
holding-first c s session n (Event.Create by r) what below is holds =
    let parts = and_parts (is_session by session) (is_new_node n what) holds in
    subst (λ (rows : List NodeEntry). IsFirstAt session n rows) (sym (ap (λ (t : State). t.nodes) (accepted-next c s (Event.Create by r) what is))) (create-first c s by session r n what below is parts.0 parts.1)
holding-first c s session n (Event.Start by m) what below is holds = still c s (Event.Start by m) what is by session m n refl (grind (arith, nat_tests)) holds
holding-first c s session n (Event.Done by m attempt o) what below is holds = still c s (Event.Done by m attempt o) what is by session m n refl (grind (arith, nat_tests)) holds
holding-first c s session n (Event.LockNode by m) what below is holds = first-next c s (Event.LockNode by m) what is by session m n (is_held what) holds (lock_node-first c s by m what is)
holding-first c s session n (Event.Take by j) what below is holds =
    let e : Event = Event.Take by j in
    let parts = and_parts (is_session by session) (has_node n j (next c s e)) holds in
    same-names c s e what is by session n n (next c s e).nodes (and_from (is_session by session) (is_node n n) parts.0 (eq-eqb n.0 n.0 refl)) (stays-first c s e what is by n refl (record { first = take-first c s by j n what is parts.1 }))
holding-first c s session n (Event.EndNode by m as_what) what below is holds = still c s (Event.EndNode by m as_what) what is by session m n refl (grind (arith, nat_tests)) holds
holding-first c s session n (Event.MarkDeleting by m) what below is holds = still c s (Event.MarkDeleting by m) what is by session m n refl (grind (arith, nat_tests)) holds
holding-first c s session n (Event.FreeNode by m) what below is holds = still c s (Event.FreeNode by m) what is by session m n refl (grind (arith, nat_tests)) holds
holding-first c s session n _ what below is holds = absurd cc

pub locking-first : (c : Configuration) (s : State) (session : SessionId) (r : RequestId) (e : Event) (what : Done) → judge c s e ≡ Ok what → is_locking session r e what ≡ true → IsFirstThere session r (next c s e).requests × ((request : RequestRecord) × (request_in r s.requests ≡ Some request))
locking-first c s session r (Event.LockRequest by q) what is locks =
    let e : Event = Event.LockRequest by q in
    let parts = and_parts (is_session by session && same_request q r) (is_held what) locks in
    let names = and_parts (is_session by session) (same_request q r) parts.0 in
    let held : IsFirstThere by q (next c s e).requests = subst (λ (rows : List RequestEntry). IsFirstThere by q rows) (sym (ap (λ (t : State). t.requests) (accepted-next c s e what is))) (lock_request-first c s by q what is) in
    let there : (request : RequestRecord) × (request_in q s.requests ≡ Some request) = some-unless (request_in q s.requests) (Accepted.lock_request-stands c s by what q is) in
    rw (sym (session-equal by session names.0), sym (request-equal q r names.1)) (held, there)
locking-first c s session r _ what is locks = absurd cc

-- # who holds a node or a request by the journal is the first of its queue, in every run

-- ## one more entry

holds_from-push : (c : Configuration) (session : SessionId) (n : NodeId) (s : State) (held : Bool) (journal : List Entry) (entry : Entry) → holds_from c s session n held (journal ++ entry ∷ []) ≡ holds_after session n (holds_from c s session n held journal) (next c (state_after c s journal) entry.event) entry.event entry.reply
holds_from-push c session n s held [] entry = refl
holds_from-push c session n s held (first ∷ journal) entry =
    holds_from-push c session n (next c s first.event) (holds_after session n held (next c s first.event) first.event first.reply) journal entry

locks_from-push : (session : SessionId) (r : RequestId) (held : Bool) (journal : List Entry) (entry : Entry) → locks_from session r held (journal ++ entry ∷ []) ≡ locks_after session r (locks_from session r held journal) entry.event entry.reply
locks_from-push session r held [] entry = refl
locks_from-push session r held (first ∷ journal) entry = locks_from-push session r (locks_after session r held first.event first.reply) journal entry

-- ## one step

-- the request has an earlier number, and if it exists the session is first at it
record IsLocked (session : SessionId) (r : RequestId) (s : State) : Type 0 where
  before : r.seq < s.next_request
  there : IsFirstThere session r s.requests

module _ (c : Configuration) (s : State) (invariant : Invariant c s) (e : Event) where
  node-step : (session : SessionId) (n : NodeId) (held : Bool) → (held ≡ true → IsFirstAt session n s.nodes) → (a : Answer) → judge c s e ≡ a → holds_after session n held (next c s e) e (reply_of a) ≡ true → IsFirstAt session n (next c s e).nodes
  node-step session n held was (Err why) is now = rw is (was now)
  node-step session n held was (Ok what) is now = grind (arith, nat_tests, holding-first c s session n e what invariant.numbered.nodes_below is, stays-first c s e what is session n, was)

  rises : (r : RequestId) → r.seq < s.next_request → r.seq < (next c s e).next_request
  rises r before = let more = (RisesFrom-next c s e).requests in omega arith

  request-step : (session : SessionId) (r : RequestId) (held : Bool) → (held ≡ true → IsLocked session r s) → (a : Answer) → judge c s e ≡ a → locks_after session r held e (reply_of a) ≡ true → IsLocked session r (next c s e)
  request-step session r held was (Err why) is now = rw is (was now)
  request-step session r held was (Ok what) is now =
      let new : is_locking session r e what ≡ true → IsLocked session r (next c s e) = λ here.
      let locked = locking-first c s session r e what is here in
      record { before = rises r (request_in-below r s.next_request locked.1.0 s.requests invariant.numbered.requests_below locked.1.1); there = locked.0 } in
      let stays : is_unlocking session r e ≡ false → IsLocked session r s → IsLocked session r (next c s e) = λ on old. record { before = rises r old.before; there = stays-there c s e what is session r on old.before invariant.numbered.requests_rise old.there } in
      grind (arith, nat_tests, new, stays, was)

pub holders-next : (c : Configuration) (journal : List Entry) (s : State) (entry : Entry) → Invariant c s → s ≡ after c journal → entry.reply ≡ reply_of (judge c s entry.event) → HoldersHold c journal s → HoldersHold c (journal ++ entry ∷ []) (next c s entry.event)
holders-next c journal s entry invariant at replied old = record { of_node = node; of_request = request } where
  node : (session : SessionId) (n : NodeId) → IsLiveHolder c (journal ++ entry ∷ []) session n → is_session_of session (node_holder n (next c s entry.event).nodes) ≡ true
  node session n live =
      let held : Bool = holds_from c (start c) session n false journal in
      let pushed : holds_after session n held (next c (after c journal) entry.event) entry.event entry.reply ≡ true = sym (holds_from-push c session n (start c) false journal entry) ∙ live in
      let here : holds_after session n held (next c s entry.event) entry.event entry.reply ≡ true = subst (λ (t : State). holds_after session n held (next c t entry.event) entry.event entry.reply ≡ true) (sym at) pushed in
      (node-step c s invariant entry.event session n held (λ is. record { first = old.of_node session n is }) (judge c s entry.event) refl (rw replied at here)).first

  request : (session : SessionId) (r : RequestId) → locks_from session r false (journal ++ entry ∷ []) ≡ true
      → (r.seq < (next c s entry.event).next_request) × (is_some (request_in r (next c s entry.event).requests) ≡ true → is_session_of session (request_holder r (next c s entry.event).requests) ≡ true)
  request session r live =
      let held : Bool = locks_from session r false journal in
      let pushed : locks_after session r held entry.event entry.reply ≡ true = sym (locks_from-push session r false journal entry) ∙ live in
      let locked = request-step c s invariant entry.event session r held (λ is. record { before = (old.of_request session r is).0; there = record { first = (old.of_request session r is).1 } }) (judge c s entry.event) refl (rw replied at pushed) in
      (locked.before, locked.there.first)

-- ## every run

-- the reply of an entry of a run is the machine's
pub replied-at : (c : Configuration) (s : State) (before : List Entry) (entry : Entry) (rest : List Entry) → replayed c s (before ++ entry ∷ rest) ≡ before ++ entry ∷ rest → entry.reply ≡ reply_of (judge c (state_after c s before) entry.event)
replied-at c s [] entry rest is = grind (arith, nat_tests)
replied-at c s (first ∷ before) entry rest is =
    let tail : replayed c (next c s first.event) (before ++ entry ∷ rest) ≡ before ++ entry ∷ rest = cc in
    replied-at c (next c s first.event) before entry rest tail

-- what holds at first, and after each entry if it held before it, holds for every run
module _ (c : Configuration) (P : List Entry → State → Type 0) (first : P [] (start c))
    (more : (before : List Entry) (entry : Entry) → Runs c before (after c before) → entry.reply ≡ reply_of (judge c (after c before) entry.event) → P before (after c before) → P (before ++ entry ∷ []) (next c (after c before) entry.event)) where
  goes-on : (before rest : List Entry) → Runs c (before ++ rest) (after c (before ++ rest)) → P before (after c before) → P (before ++ rest) (after c (before ++ rest))
  goes-on before [] runs held = subst (λ (j : List Entry). P j (after c j)) (sym (append-nil before)) held
  goes-on before (entry ∷ rest) runs held =
      let regrouped : (before ++ entry ∷ []) ++ rest ≡ before ++ entry ∷ rest = append_assoc before (entry ∷ []) rest in
      let next_one : P (before ++ entry ∷ []) (after c (before ++ entry ∷ [])) =
      subst (λ (t : State). P (before ++ entry ∷ []) t) (sym (state_after-push c (start c) before entry))
      (more before entry (Runs-prefix c before (entry ∷ rest) (after c (before ++ entry ∷ rest)) runs) (replied-at c (start c) before entry rest runs.replies) held) in
      subst (λ (j : List Entry). P j (after c j)) regrouped
      (goes-on (before ++ entry ∷ []) rest (subst (λ (j : List Entry). Runs c j (after c j)) (sym regrouped) runs) next_one)

  pub holds-of_runs : (journal : List Entry) (s : State) → Runs c journal s → P journal s
  holds-of_runs journal s runs =
      subst (λ (t : State). P journal t) runs.ends (goes-on [] journal (record { replies = runs.replies; ends = refl; short = runs.short }) first)

none-hold : (c : Configuration) → HoldersHold c [] (start c)
none-hold c = record { of_node = λ session n live. absurd cc; of_request = λ session r live. absurd cc }

-- the same, given what holds for every state of a run
module _ (c : Configuration) (invariant : (before : List Entry) (t : State) → Runs c before t → Invariant c t) where
  pub holders-hold : (journal : List Entry) (s : State) → Runs c journal s → HoldersHold c journal s
  holders-hold = holds-of_runs c (HoldersHold c) (none-hold c)
      (λ before entry runs replied old. holders-next c before (after c before) entry (invariant before (after c before) runs) refl replied old)

  pub one-holder : (journal : List Entry) (s : State) → Runs c journal s → OneHolder c journal
  one-holder journal s runs =
      let hold : HoldersHold c journal (after c journal) = subst (λ (t : State). HoldersHold c journal t) (sym runs.ends) (holders-hold journal s runs) in
      record {
        of_node = λ n a b first second. one-named a b (node_holder n (after c journal).nodes) (hold.of_node a n first) (hold.of_node b n second);
        of_request = λ r a b first second. one-named a b (request_holder r (after c journal).requests) ((hold.of_request a r first.1).1 first.0) ((hold.of_request b r second.1).1 second.0);
      }
