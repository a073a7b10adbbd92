-- the groups by kind of job, session and node: what they say, and how their members are read in order
use Rattle.np_active.proofs.Prelude.{ActiveOf, AllByRecursion, AreActive, AreGivenGroups, Bool, Configuration, Group, Job, JobId, JobKind, JobRecord, List, Member, NodeEntry, NodeId, None, Option, RequesterId, Rises, Rises-filter, Role, SessionFacts, SessionId, SessionKind, Some, State, add-one, all-weaker, and_false, ap, append_assoc, arith, cond, current_of, drop, drop-there, ending_ones, false, filter, find, first_mute, given_group, groups_of_job, groups_of_session, has_live_session, has_member, ids-has, ids-in_order, ids-rise, ids_in, is_among, is_given_to, is_job_before, is_job_in, is_job_of, is_kind_in, is_node_before, is_of_kind, is_queued, is_session_before, is_some, is_to_leave, is_to_lock, job_equal, job_group, job_one_way, job_some_way, jobs_from, kind_by, kind_of_job, kinds_of_facts, lacking_ones, later-node-apart, length, list_any, live_group, live_ones, locked_group, locked_groups, map, map-append, mute_from, mute_group, mute_ones, nat_lt, nat_tests, node_entry, node_equal, node_one_way, node_queue, node_to_leave, node_to_lock, not, option_map, option_map_or, option_or, outside, prompt_ones, queued_nodes, refl, releasing_ones, request_state_of, role_group, row-passes, rows-found, same-itself, same-list, same_group, same_job, same_node, same_node-self, same_role, same_session, session_equal, session_group, session_one_way, session_some_way, slice_get, slice_get-map, slice_get_past, speaker_from, speakers, speaks_for, subst, suc, supplied_ones, sym, take, take_there, true, waiting_ones, zero, ℕ, [], ◌&&◌, ◌++◌, ◌+◌, ◌-◌, ◌<◌, ◌==◌, ◌∙◌, ◌∷◌, ◌≡◌}

-- # the groups that a job or a session is in say of which kinds it is

-- ## jobs

abbrev same_requester : RequesterId → RequesterId → Bool
same_requester r q = r.0 == q.0

abbrev pub same_job_kind : JobKind → JobKind → Bool
same_job_kind (supplied_ones r) (supplied_ones q) = same_requester r q
same_job_kind (prompt_ones r) (prompt_ones q) = same_requester r q
same_job_kind (waiting_ones r l) (waiting_ones q m) = same_requester r q && (l == m)
same_job_kind (ending_ones r) (ending_ones q) = same_requester r q
same_job_kind (releasing_ones r) (releasing_ones q) = same_requester r q
same_job_kind (lacking_ones r l) (lacking_ones q m) = same_requester r q && (l == m)
same_job_kind _ _ = false

job-groups : (r q : JobKind) → same_group (job_group r) (job_group q) ≡ same_job_kind r q
job-groups r q = grind arith

module _ (c : Configuration) (s : State) (lines : List JobId) (j : JobId) where
  -- a job with a row and a record is of the kind that they give
  of-rows : (kind : JobKind) (row : Job) (kept : JobRecord) → slice_get c.jobs j.0 ≡ Some row
      → option_map_or (λ r. same_job_kind r kind) (kind_by c s lines j row (request_state_of kept.request s) kept.phase) false ≡ is_job_of c s lines kind j kept
  of-rows (supplied_ones q) row kept at = grind arith
  of-rows _ row kept at = grind arith

  kind-is : (kind : JobKind) → option_map_or (λ r. same_job_kind r kind) (kind_of_job c s lines j) false ≡ is_job_in c s lines kind j
  kind-is kind = grind (arith, of-rows)

  pub job-among : (kind : JobKind) → is_among (job_group kind) (groups_of_job c s lines j) ≡ is_job_in c s lines kind j
  job-among kind = grind (arith, job-groups, kind-is kind)

-- ## sessions

abbrev pub same_kind : SessionKind → SessionKind → Bool
same_kind (speakers r) (speakers q) = same_role r q
same_kind mute_ones mute_ones = true
same_kind (live_ones r) (live_ones q) = same_requester r q
same_kind _ _ = false

session-groups : (r q : SessionKind) → same_group (session_group r) (session_group q) ≡ same_kind r q
session-groups r q = grind arith

facts-are : (kind : SessionKind) (facts : SessionFacts) → list_any (λ o. option_map_or (λ r. same_kind r kind) o false) (kinds_of_facts facts) ≡ is_of_kind kind facts
facts-are kind facts = grind arith

pub session-among : (s : State) (kind : SessionKind) (x : SessionId) → is_among (session_group kind) (groups_of_session s x) ≡ is_kind_in s kind x
session-among s kind x = grind (arith, session-groups, facts-are kind)

-- # the numbers of the rows that pass, in order

-- the last of a list
abbrev pub last_of : {K : Type 0} → List K → Option K
last_of [] = None
last_of (x ∷ xs) = option_or (last_of xs) (Some x)

-- it is at the last place
pub last-at : {K : Type 0} (xs : List K) → last_of xs ≡ slice_get xs (length xs - 1)
last-at [] = refl
last-at (x ∷ []) = refl
last-at (x ∷ y ∷ xs) = grind (arith, last-at (y ∷ xs))

module _ {K R : Type 0} (number : K → ℕ) (id : ℕ → K)
    (number-id : (n : ℕ) → number (id n) ≡ n) (id-number : (k : K) → id (number k) ≡ k) (passes : K → R → Bool) where
  -- the ids of the rows that pass, the first of which has this number
  abbrev pub ids_from : ℕ → List R → List K
  ids_from n [] = []
  ids_from n (row ∷ rows) = cond (passes (id n) row) (id n ∷ ids_from (suc n) rows) (ids_from (suc n) rows)

  all-past : (k : K) (n : ℕ) (rows : List R) → number k < n → AllByRecursion (λ i. nat_lt (number k) (number i) ≡ true) (ids_from n rows)
  all-past k n [] less = tt
  all-past k n (row ∷ rows) less =
      let later = all-past k (suc n) rows (omega arith) in
      let is = number-id n in
      grind (arith, nat_tests)

  -- they rise
  pub numbers-rise : (n : ℕ) (rows : List R) → Rises (λ a b. nat_lt (number a) (number b)) (ids_from n rows)
  numbers-rise n [] = tt
  numbers-rise n (row ∷ rows) =
      let past = all-past (id n) (suc n) rows (omega (arith, number-id n)) in
      let later = numbers-rise (suc n) rows in
      grind arith

  abbrev has : K → List K → Bool
  has k ids = list_any (λ i. number i == number k) ids

  -- a number before the first is not there
  pub none-before : (k : K) (n : ℕ) (rows : List R) → number k < n → has k (ids_from n rows) ≡ false
  none-before k n [] less = refl
  none-before k n (row ∷ rows) less =
      let later = none-before k (suc n) rows (omega arith) in
      let is = number-id n in
      grind (arith, nat_tests)

  -- one from the first on is there if its row passes
  pub has-at : (k : K) (d n : ℕ) (rows : List R) → number k ≡ d + n → has k (ids_from n rows) ≡ option_map_or (passes k) (slice_get rows d) false
  has-at k d n [] at = refl
  has-at k zero n (row ∷ rows) at =
      let later = none-before k (suc n) rows (omega (arith, at)) in
      let is = number-id n in
      let here = id-number k in
      grind (arith, nat_tests)
  has-at k (suc d) n (row ∷ rows) at =
      let later = has-at k d (suc n) rows (omega (arith, at)) in
      let is = number-id n in
      grind (arith, nat_tests)

-- # the members of a group are the jobs or the sessions of a kind, in order

-- ## jobs

abbrev job_ids : (JobId → JobRecord → Bool) → ℕ → List JobRecord → List JobId
job_ids passes n rows = ids_from (λ (j : JobId). j.0) (λ n. record { 0 = n }) (λ n. refl) (λ j. refl) passes n rows

jobs-are : (passes : JobId → JobRecord → Bool) (n : ℕ) (rows : List JobRecord) → jobs_from passes n rows ≡ job_ids passes n rows
jobs-are passes n [] = refl
jobs-are passes n (kept ∷ rows) = rw (jobs-are passes (suc n) rows) refl

-- those that pass are there, in order
pub jobs-rise : (passes : JobId → JobRecord → Bool) (rows : List JobRecord) → Rises is_job_before (jobs_from passes 0 rows)
jobs-rise passes rows =
    subst (Rises is_job_before) (sym (jobs-are passes 0 rows)) (numbers-rise (λ (j : JobId). j.0) (λ n. record { 0 = n }) (λ n. refl) (λ j. refl) passes 0 rows)

pub jobs-have : (passes : JobId → JobRecord → Bool) (rows : List JobRecord) (j : JobId) → list_any (λ k. same_job k j) (jobs_from passes 0 rows) ≡ option_map_or (passes j) (slice_get rows j.0) false
jobs-have passes rows j =
    ap (λ (ids : List JobId). list_any (λ k. same_job k j) ids) (jobs-are passes 0 rows)
    ∙ has-at (λ (i : JobId). i.0) (λ n. record { 0 = n }) (λ n. refl) (λ i. refl) passes j j.0 0 rows (omega arith)

module _ (c : Configuration) (s : State) (active : ActiveOf) (are : AreActive c s active) where
  jobs-grouped : (kind : JobKind) → ids_in (job_group kind) active.jobs ≡ jobs_from (is_job_of c s active.lines kind) 0 s.jobs
  jobs-grouped kind =
      same-list is_job_before same_job job_one_way job_equal (same-itself is_job_before same_job job_one_way job_some_way)
      (ids_in (job_group kind) active.jobs) (jobs_from (is_job_of c s active.lines kind) 0 s.jobs)
      (ids-rise (job_group kind) is_job_before active.jobs are.jobs.rises) (jobs-rise (is_job_of c s active.lines kind) s.jobs)
      (λ i. ids-has same_job (job_group kind) i active.jobs ∙ are.jobs.each kind i ∙ sym (jobs-have (is_job_of c s active.lines kind) s.jobs i))

  -- the job at a place, of a group and members that are the same
  pub job-at : (kind : JobKind) (g : Group) → g ≡ job_group kind → (ms : List (Member JobId)) → ms ≡ active.jobs → (at : ℕ) → slice_get (ids_in g ms) at ≡ slice_get (jobs_from (is_job_of c s active.lines kind) 0 s.jobs) at
  job-at kind g is_group ms is at = rw (is_group, is) (ap (λ (ids : List JobId). slice_get ids at) (jobs-grouped kind))

-- ## sessions

abbrev session_ids : (SessionFacts → Bool) → ℕ → List SessionFacts → List SessionId
session_ids passes n rows = ids_from (λ (x : SessionId). x.0) (λ n. record { 0 = n }) (λ n. refl) (λ x. refl) (λ x facts. passes facts) n rows

session-has : (kind : SessionKind) (x : SessionId) (s : State) → list_any (λ i. same_session i x) (session_ids (is_of_kind kind) 1 s.sessions) ≡ is_kind_in s kind x
session-has kind x s =
    let before = none-before (λ (x : SessionId). x.0) (λ n. record { 0 = n }) (λ n. refl) (λ x. refl) (λ x facts. is_of_kind kind facts) x 1 s.sessions in
    let at = has-at (λ (x : SessionId). x.0) (λ n. record { 0 = n }) (λ n. refl) (λ x. refl) (λ x facts. is_of_kind kind facts) x (x.0 - 1) 1 s.sessions in
    grind (arith, nat_tests)

-- the last that speaks is the last of all that speak
speaker-last : (role : Role) (n : ℕ) (rows : List SessionFacts) → speaker_from role n rows ≡ last_of (session_ids (speaks_for role) n rows)
speaker-last role n [] = refl
speaker-last role n (facts ∷ rows) = grind (arith, speaker-last role (suc n) rows)

-- ## the first that is mute, and whether one is live

abbrev first_id : (SessionFacts → Bool) → ℕ → List SessionFacts → Option SessionId
first_id passes n rows = slice_get (session_ids passes n rows) 0

mute-first : (n : ℕ) (rows : List SessionFacts) → first_id (is_of_kind mute_ones) n rows ≡ mute_from n rows
mute-first n [] = refl
mute-first n (facts ∷ rows) = grind (arith, mute-first (suc n) rows)

-- there is a first if any passes
any-first : (passes : SessionFacts → Bool) (n : ℕ) (rows : List SessionFacts) → is_some (first_id passes n rows) ≡ list_any passes rows
any-first passes n [] = refl
any-first passes n (facts ∷ rows) = grind (arith, any-first passes (suc n) rows)

-- ## as they are read

module _ (c : Configuration) (s : State) (active : ActiveOf) (are : AreActive c s active) (g : Group) (ms : List (Member SessionId)) (is : ms ≡ active.sessions) where
  -- of a group and members that are the same
  ids-are : (kind : SessionKind) → g ≡ session_group kind → ids_in g ms ≡ session_ids (is_of_kind kind) 1 s.sessions
  ids-are kind is_group =
      rw (is_group, is) (same-list is_session_before same_session session_one_way session_equal (same-itself is_session_before same_session session_one_way session_some_way)
      (ids_in (session_group kind) active.sessions) (session_ids (is_of_kind kind) 1 s.sessions)
      (ids-rise (session_group kind) is_session_before active.sessions are.sessions.rises)
      (numbers-rise (λ (x : SessionId). x.0) (λ n. record { 0 = n }) (λ n. refl) (λ x. refl) (λ x facts. is_of_kind kind facts) 1 s.sessions)
      (λ i. ids-has same_session (session_group kind) i active.sessions ∙ are.sessions.each kind i ∙ sym (session-has kind i s)))

  -- the current session is the last member
  pub current-at : (role : Role) (count : ℕ) → g ≡ role_group role → count ≡ length (ids_in g ms) → slice_get (ids_in g ms) (count - 1) ≡ current_of role s
  current-at role count is_group counted =
      rw counted (sym (last-at (ids_in g ms)) ∙ ap (λ (ids : List SessionId). last_of ids) (ids-are (speakers role) is_group) ∙ sym (speaker-last role 1 s.sessions))

  -- there is none if the group has no member
  pub current-none : (role : Role) → g ≡ role_group role → length (ids_in g ms) ≡ 0 → current_of role s ≡ None
  current-none role is_group none = sym (current-at role 0 is_group (sym none)) ∙ slice_get_past (ids_in g ms) (0 - 1) (omega (arith, none))

  pub mute-at : g ≡ mute_group → slice_get (ids_in g ms) 0 ≡ first_mute s
  mute-at is_group = ap (λ (ids : List SessionId). slice_get ids 0) (ids-are mute_ones is_group) ∙ mute-first 1 s.sessions

  pub live-at : (q : RequesterId) → g ≡ live_group q → is_some (slice_get (ids_in g ms) 0) ≡ has_live_session q s
  live-at q is_group = ap (λ (ids : List SessionId). is_some (slice_get ids 0)) (ids-are (live_ones q) is_group) ∙ any-first (is_of_kind (live_ones q)) 1 s.sessions

-- # a queue that is read by place, up to its end or to a bound

-- one session more is listed
pub list-next : (q : RequesterId) (queue : List SessionId) (at : ℕ) (session : SessionId) (group : Group) (old list later : List (Option Group)) → slice_get queue at ≡ Some session → group ≡ locked_group q session
    → list ≡ old ++ locked_groups q (take at queue) → later ≡ list ++ Some group ∷ [] → later ≡ old ++ locked_groups q (take (at + 1) queue)
list-next q queue at session group old list later there is so_far pushed =
    rw (pushed, is, so_far, take_there queue at session there, map-append (λ session. Some (locked_group q session)) (take at queue) (session ∷ []))
    (append_assoc old (locked_groups q (take at queue)) (Some (locked_group q session) ∷ []))

-- # the nodes that a session has yet to lock and those that it is to leave are ids outside a group

-- ## the groups of one node

-- no group of a session is that of the requester
none-locked : (q p : RequesterId) (queue : List SessionId) → list_any (λ o. option_map_or (λ h. same_group h (given_group q)) o false) (map (λ session. Some (locked_group p session)) queue) ≡ false
none-locked q p [] = refl
none-locked q p (x ∷ queue) = none-locked q p queue

-- a group of a session is there if the session is in the queue, and the requester is this one
some-locked : (q p : RequesterId) (x : SessionId) (queue : List SessionId)
    → list_any (λ o. option_map_or (λ h. same_group h (locked_group q x)) o false) (map (λ session. Some (locked_group p session)) queue) ≡ ((p.0 == q.0) && is_queued x queue)
some-locked q p x [] = sym (and_false (p.0 == q.0))
some-locked q p x (y ∷ queue) = grind (arith, some-locked q p x queue)

-- ## the ids outside

-- the first that passes is the first of all that pass
pub first-of-all : {X : Type 0} (p : X → Bool) (xs : List X) → slice_get (filter p xs) 0 ≡ find p xs
first-of-all p [] = refl
first-of-all p (x ∷ xs) = grind (arith, first-of-all p xs)

module _ {X K : Type 0} (id : X → K) (g want : X → Bool) (p : K → Bool) where
  -- of the ids of rows that pass those that pass are the ids of the rows that pass both
  filter-ids : (xs : List X) → AllByRecursion (λ x. want x ≡ (g x && p (id x))) xs → filter p (map id (filter g xs)) ≡ map id (filter want xs)
  filter-ids [] all = refl
  filter-ids (x ∷ xs) all = grind (arith, filter-ids xs all.1)

module _ (c : Configuration) (s : State) (ms : List (Member NodeId)) (are : AreGivenGroups c s ms) (q : RequesterId) (x : SessionId) where
  abbrev id : NodeEntry → NodeId
  id e = e.id

  abbrev inside : NodeId → Bool
  inside i = has_member same_node (locked_group q x) i ms

  -- each node is found by its number
  nodes-found : AllByRecursion (λ (e : NodeEntry). node_entry e.id s.nodes ≡ Some e) s.nodes
  nodes-found = rows-found is_node_before same_node id node_equal later-node-apart same_node-self s.nodes are.once

  -- a node is in the requester's group if it was given to it ..
  given-has : (n : NodeId) → has_member same_node (given_group q) n ms ≡ option_map_or (λ (e : NodeEntry). is_given_to c s q e.kept) (node_entry n s.nodes) false
  given-has n =
      let none = λ (p : RequesterId). none-locked q p (node_queue n s.nodes) in
      grind (arith, are.each (given_group q) n)

  -- .. and in the session's if the session is in its queue, too
  locked-has : (n : NodeId) → inside n ≡ option_map_or (λ (e : NodeEntry). is_given_to c s q e.kept && is_queued x e.queue) (node_entry n s.nodes) false
  locked-has n =
      let some = λ (p : RequesterId). some-locked q p x (node_queue n s.nodes) in
      grind (arith, are.each (locked_group q x) n)

  -- the ids of rows that pass are those that are there, in order
  passed : (g : NodeEntry → Bool) (n : NodeId) → list_any (λ y. same_node y n) (map id (filter g s.nodes)) ≡ option_map_or g (node_entry n s.nodes) false
  passed g n = row-passes is_node_before same_node id node_equal later-node-apart g n s.nodes are.once

  passed-rise : (g : NodeEntry → Bool) → Rises is_node_before (map id (filter g s.nodes))
  passed-rise g = ids-in_order is_node_before same_node id node_equal later-node-apart (filter g s.nodes) (Rises-filter (λ (a b : NodeEntry). is_node_before a.id b.id) g s.nodes are.once)

  -- those of them that are outside the session's group
  outside-passed : (g want : NodeEntry → Bool) → ((e : NodeEntry) → node_entry e.id s.nodes ≡ Some e → want e ≡ (g e && not (inside e.id)))
      → outside same_node (locked_group q x) ms (map id (filter g s.nodes)) ≡ map id (filter want s.nodes)
  outside-passed g want wants =
      filter-ids id g want (λ i. not (inside i)) s.nodes (all-weaker (λ (e : NodeEntry). node_entry e.id s.nodes ≡ Some e) (λ (e : NodeEntry). want e ≡ (g e && not (inside e.id))) wants s.nodes nodes-found)

  -- the ids of the requester's group are those of its nodes, by number
  given-ids : ids_in (given_group q) ms ≡ map id (filter (λ e. is_given_to c s q e.kept) s.nodes)
  given-ids =
      same-list is_node_before same_node node_one_way node_equal same_node-self (ids_in (given_group q) ms) (map id (filter (λ e. is_given_to c s q e.kept) s.nodes))
      (ids-rise (given_group q) is_node_before ms are.rises) (passed-rise (λ (e : NodeEntry). is_given_to c s q e.kept))
      (λ n. ids-has same_node (given_group q) n ms ∙ given-has n ∙ sym (passed (λ (e : NodeEntry). is_given_to c s q e.kept) n))

  -- a call that finds such an id finds the first node to lock
  pub locks-by : (g l : Group) (result : Option NodeId) → g ≡ given_group q → l ≡ locked_group q x
      → (((i : NodeId) → has_member same_node l i ms ≡ true → has_member same_node g i ms ≡ true) → result ≡ slice_get (outside same_node l ms (ids_in g ms)) 0)
      → result ≡ node_to_lock c q x s
  locks-by g l result given locked called =
      let call = rw (given, locked) at called in
      call (λ i is. let given = given-has i in let locked = locked-has i in grind arith)
      ∙ ap (λ (ids : List NodeId). slice_get (outside same_node (locked_group q x) ms ids) 0) given-ids
      ∙ ap (λ (ids : List NodeId). slice_get ids 0) (outside-passed (λ (e : NodeEntry). is_given_to c s q e.kept) (is_to_lock c s q x) (λ e found. let inner = locked-has e.id in grind arith))
      ∙ slice_get-map id (filter (is_to_lock c s q x) s.nodes) 0
      ∙ ap (option_map id) (first-of-all (is_to_lock c s q x) s.nodes)

  -- a call that finds such an id finds the node to leave at the place
  pub leaves-by : (l : Group) (queued : List NodeId) (at : ℕ) (result : Option NodeId) → l ≡ locked_group q x → queued ≡ queued_nodes x s
      → (Rises is_node_before queued → ((i : NodeId) → has_member same_node l i ms ≡ true → list_any (λ y. same_node y i) queued ≡ true) → result ≡ slice_get (outside same_node l ms queued) at)
      → result ≡ node_to_leave c q x at s
  leaves-by l queued at result locked are_queued called =
      let call = rw (locked, are_queued) at called in
      call (passed-rise (λ e. is_queued x e.queue)) (λ i is. passed (λ e. is_queued x e.queue) i ∙ (let locked = locked-has i in grind arith))
      ∙ ap (λ (ids : List NodeId). slice_get ids at) (outside-passed (λ e. is_queued x e.queue) (is_to_leave c s q x) (λ e found. let inner = locked-has e.id in grind arith))

-- # a walk to the first of a list that passes

-- where none before the place passes, the one there is the first if it passes, and else none before the next passes
pub walk-on : {X : Type 0} (p : X → Bool) (xs : List X) (at : ℕ) (x : X) → find p (drop at xs) ≡ find p xs → slice_get xs at ≡ Some x → cond (p x) (Some x) (find p (drop (at + 1) xs)) ≡ find p xs
walk-on p xs at x rest is =
    let here : find p (drop at xs) ≡ cond (p x) (Some x) (find p (drop (suc at) xs)) = rw (drop-there xs at x is) refl in
    rw (add-one at) (sym here ∙ rest)
