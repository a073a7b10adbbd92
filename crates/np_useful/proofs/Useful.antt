-- which events of a session are useful: what an accepted event names, and the search for the first one that passes
use Rattle.np_useful.proofs.Prelude.{AllByRecursion, Bool, Chooses, ChoosesOf, ChoosesOfAny, ChoosesOpening, Configuration, Done, Event, EventKind, IsFirst, IsFirstThatPasses, IsUseful, Janitor, Job, JobId, JobKind, JobRecord, Launcher, List, Locked, NamesCurrent, NodeId, NodeKind, None, NoneOf, NoneOpens, NoneReleased, Ok, Option, Reaper, RequestId, RequestKind, Requester, RequesterId, Role, SessionFacts, SessionId, Some, State, add-one, all-from_at, and_from, and_parts, ap, arith, by_bool, candidate, cond, current_of, drop, drop-there, drop_all, equal-numbers, false, filter, find, find-passes, find-rank, from-map_some, get-map, has_current, has_handle, has_some_handle, holder, if◌then◌else◌, is_current, is_from_node_queue, is_from_request_queue, is_job_to_release, is_maker_of, is_ok, is_over, is_queued, is_session_of, is_some, job_event, job_is, job_to_release, jobs_from, judge, length, list_any, list_any-there, maker, maker_of, map, may_open, may_release, nat_tests, node_entry, node_event, node_holder, node_in, node_named, node_queue, not, ok-is, on-check, on-found, on-given, on-need, option_map, option_map_or, option_or, passes, passing, past-end, places, queued_nodes, queued_requests, rank, refl, request-equal, request_entry, request_event, request_holder, request_in, request_named, request_queue, requester_or_janitor, row_holds, same_node-is, same_request, same_role, slice_get, slice_get_within, some-unless, speaker_from, speaks_for, subst, suc, sym, true, zero, ℕ, [], ◌&&◌, ◌+◌, ◌-◌, ◌<◌, ◌==◌, ◌||◌, ◌∙◌, ◌∷◌, ◌≡◌, ◌≤◌}

-- # at which place a search finds a member, and the members from a place on

-- the member is at a place of the list
pub record StandsIn {X : Type 0} (x : X) (xs : List X) : Type 0 where
  pub at : ℕ
  pub within : at < length xs
  pub there : slice_get xs at ≡ Some x

pub find-place : {X : Type 0} (p : X → Bool) (xs : List X) (x : X) → find p xs ≡ Some x → StandsIn x xs
find-place p [] x there = absurd cc
find-place p (y ∷ xs) x there =
    by_bool (λ b. cond b (Some y) (find p xs) ≡ Some x → StandsIn x (y ∷ xs)) (p y) (λ _ here. record { at = 0; within = omega arith; there = here })
    (λ _ later. let place = find-place p xs x later in record { at = suc place.at; within = omega (arith, place.within); there = place.there }) there

-- the place of its name among those of the members that pass another test
pub named-place : {X I : Type 0} (name : X → I) (p q : X → Bool) (xs : List X) (x : X) → find p xs ≡ Some x → q x ≡ true → StandsIn (name x) (map name (filter q xs))
named-place name p q xs x there passes =
    let place = find-place p xs x there in
    let here : slice_get (map name (filter q xs)) (rank q xs place.at) ≡ Some (name x) = get-map name (filter q xs) (rank q xs place.at) ∙ ap (option_map name) (find-rank q xs place.at x place.there passes) in
    record { at = rank q xs place.at; within = slice_get_within (map name (filter q xs)) (rank q xs place.at) (name x) here; there = here }

-- from each place up to its own, a member that passes is among the rest
pub any-there : {X : Type 0} (p : X → Bool) (xs : List X) (k i : ℕ) (x : X) → k ≤ i → slice_get xs i ≡ Some x → p x ≡ true → list_any p (drop k xs) ≡ true
any-there p xs zero i x low there passes = list_any-there p xs i x there passes
any-there p [] (suc k) i x low there passes = absurd cc
any-there p (y ∷ xs) (suc k) zero x low there passes = absurd (omega arith)
any-there p (y ∷ xs) (suc k) (suc i) x low there passes = any-there p xs k i x (omega arith) there passes

-- from a place on: the member there, or one after it
pub any-here : {X : Type 0} (p : X → Bool) (xs : List X) (i : ℕ) (x : X) → slice_get xs i ≡ Some x → list_any p (drop i xs) ≡ (p x || list_any p (drop (suc i) xs))
any-here p xs i x there = rw (drop-there xs i x there) refl

pub drop-past : {X : Type 0} (xs : List X) (i : ℕ) → length xs ≤ i → drop i xs ≡ []
drop-past xs i past = drop_all i xs past

pub none-is : {X : Type 0} (o : Option X) → false ≡ is_some o → o ≡ None
none-is o is = grind arith

-- ## a step of a walk

module _ {X : Type 0} (p : X → Bool) where
  -- the member at the place is the first of those that pass
  pub filter-first : (xs : List X) (i : ℕ) (x : X) → slice_get xs i ≡ Some x → p x ≡ true → slice_get (filter p (drop i xs)) 0 ≡ Some x
  filter-first xs i x there passes = rw (drop-there xs i x there, passes) refl

  -- past the member at the place, if it is not the one that is searched for
  pub filter-later : (xs : List X) (i : ℕ) (x : X) (left : ℕ) → slice_get xs i ≡ Some x → (p x && (left == 0)) ≡ false → slice_get (filter p (drop (i + 1) xs)) (left - cond (p x) 1 0) ≡ slice_get (filter p (drop i xs)) left
  filter-later xs i x zero there other = rw (add-one, drop-there xs i x there) (grind (arith, nat_tests))
  filter-later xs i x (suc left) there other =
      let once : suc left - 1 ≡ left = omega arith in
      let not-yet : suc left - 0 ≡ suc left = omega arith in
      rw (add-one, drop-there xs i x there) (grind (arith, once, not-yet))

pub next-parts : (own : Bool) (left : ℕ) → true ≡ (own && (left == 0)) → (own ≡ true) × (left ≡ 0)
next-parts own left is = (grind arith, grind (arith, nat_tests))

-- # what a session is in the queue of is among the requests or nodes that the readers give

-- who holds is in the queue
pub holder-queued : (session : SessionId) (queue : List SessionId) → is_session_of session (holder queue) ≡ true → is_queued session queue ≡ true
holder-queued session [] is = absurd cc
holder-queued session (other ∷ queue) is = rw is refl

-- what passes a test of its queue, and what is in the table at all, has a place
module _ {I K : Type 0} (same : I → I → Bool) (equal : (a b : I) → same a b ≡ true → a ≡ b) (rows : List (Locked I K)) (r : I) where
  named-in : (session : SessionId) (o : Option (Locked I K)) → find (λ e. same e.id r) rows ≡ o → is_queued session (option_map_or (λ (e : Locked I K). e.queue) o []) ≡ true → StandsIn r (map (λ (e : Locked I K). e.id) (filter (λ (e : Locked I K). is_queued session e.queue) rows))
  named-in session None there queued = absurd cc
  named-in session (Some e) there queued =
      subst (λ (x : I). StandsIn x (map (λ (f : Locked I K). f.id) (filter (λ (f : Locked I K). is_queued session f.queue) rows))) (equal e.id r (find-passes (λ (x : Locked I K). same x.id r) rows e there))
      (named-place (λ (x : Locked I K). x.id) (λ (x : Locked I K). same x.id r) (λ (x : Locked I K). is_queued session x.queue) rows e there queued)

  -- if it is named by its queue, it is in one
  placed : (b : Bool) (queued : List I) → (b ≡ true → StandsIn r queued) → (option_map (λ (e : Locked I K). e.kept) (find (λ e. same e.id r) rows) ≡ None → ⊥)
      → (at : ℕ) × (at < (if b then length queued else length rows)) × ((if b then slice_get queued at else option_map (λ (e : Locked I K). e.id) (slice_get rows at)) ≡ Some r)
  placed true queued held there = let place = held refl in (place.at, place.within, place.there)
  placed false queued held there =
      let e = some-unless (find (λ (x : Locked I K). same x.id r) rows) (λ none. there (ap (option_map (λ (x : Locked I K). x.kept)) none)) in
      let place = find-place (λ (x : Locked I K). same x.id r) rows e.0 e.1 in
      (place.at, place.within, ap (option_map (λ (x : Locked I K). x.id)) place.there ∙ ap Some (equal e.0.id r (find-passes (λ (x : Locked I K). same x.id r) rows e.0 e.1)))

module _ (s : State) (session : SessionId) where
  pub queued-request : (r : RequestId) → is_queued session (request_queue r s.requests) ≡ true → StandsIn r (queued_requests session s)
  queued-request r queued = named-in same_request request-equal s.requests r session (request_entry r s.requests) refl queued

  pub queued-node : (n : NodeId) → is_queued session (node_queue n s.nodes) ≡ true → StandsIn n (queued_nodes session s)
  queued-node n queued = named-in (λ a b. a.0 == b.0) same_node-is s.nodes n session (node_entry n s.nodes) refl queued

-- # an accepted event of a kind: what it names exists, and who made it

-- ## who made it

pub request-maker : (kind : RequestKind) (session : SessionId) (r : RequestId) → maker_of (request_event kind session r) ≡ Some session
request-maker kind session r = grind arith

pub node-maker : (kind : NodeKind) (session : SessionId) (n : NodeId) → maker_of (node_event kind session n) ≡ Some session
node-maker kind session n = grind arith

pub job-maker : (kind : JobKind) (session : SessionId) (j : JobId) → maker_of (job_event kind session j) ≡ Some session
job-maker kind session j = grind arith

-- ## what it names exists

module _ (c : Configuration) (s : State) (session : SessionId) (what : Done) where
  pub request-there : (kind : RequestKind) (r : RequestId) → judge c s (request_event kind session r) ≡ Ok what → request_in r s.requests ≡ None → ⊥
  request-there kind r is none = grind (arith, nat_tests)

  pub node-there : (kind : NodeKind) (n : NodeId) → judge c s (node_event kind session n) ≡ Ok what → node_in n s.nodes ≡ None → ⊥
  node-there kind n is none = grind (arith, nat_tests)

  pub job-there : (kind : JobKind) (j : JobId) → judge c s (job_event kind session j) ≡ Ok what → slice_get s.jobs j.0 ≡ None → ⊥
  job-there kind j is none = grind (arith, nat_tests)

-- ## who makes it is in the queue

module _ (c : Configuration) (s : State) (session : SessionId) (what : Done) where
  pub request-queued : (kind : RequestKind) (r : RequestId) → is_from_request_queue kind ≡ true → judge c s (request_event kind session r) ≡ Ok what → is_queued session (request_queue r s.requests) ≡ true
  request-queued RequestKind.Lock r from is = absurd cc
  request-queued RequestKind.FailDeclined r from is = absurd cc
  request-queued other r from is = let held : is_session_of session (request_holder r s.requests) ≡ true = grind (arith, nat_tests) in holder-queued session (request_queue r s.requests) held

  pub node-queued : (kind : NodeKind) (n : NodeId) → is_from_node_queue kind ≡ true → judge c s (node_event kind session n) ≡ Ok what → is_queued session (node_queue n s.nodes) ≡ true
  node-queued NodeKind.Lock n from is = absurd cc
  node-queued NodeKind.Unlock n from is = grind (arith, nat_tests)
  node-queued other n from is = let held : is_session_of session (node_holder n s.nodes) ≡ true = grind (arith, nat_tests) in holder-queued session (node_queue n s.nodes) held

-- # the jobs that pass, by their place among them

module _ (passes : JobId → JobRecord → Bool) where
  -- a job that passes has a place among those that do
  pub record IsAmong (number : ℕ) (jobs : List JobRecord) (j : JobId) : Type 0 where
    pub at : ℕ
    pub there : slice_get (jobs_from passes number jobs) at ≡ Some j

  among-by : (number : ℕ) (first : JobRecord) (jobs : List JobRecord) (j : JobId) (b : Bool) → passes (record { 0 = number }) first ≡ b → IsAmong (suc number) jobs j → IsAmong number (first ∷ jobs) j
  among-by number first jobs j true in-it later = record { at = suc later.at; there = rw in-it later.there }
  among-by number first jobs j false out-of-it later = record { at = later.at; there = rw out-of-it later.there }

  pub among : (number : ℕ) (jobs : List JobRecord) (i : ℕ) (kept : JobRecord) (j : JobId) → j.0 ≡ number + i → slice_get jobs i ≡ Some kept → passes j kept ≡ true → IsAmong number jobs j
  among number [] i kept j place there is = absurd cc
  among number (first ∷ jobs) zero kept j place there is =
      let same : first ≡ kept = cc in
      let here : number ≡ j.0 = omega (arith, place) in
      let id : record { 0 = number } ≡ j = ap (λ (n : ℕ). record { 0 = n }) here in
      let in-it : passes (record { 0 = number }) kept ≡ true = subst (λ (x : JobId). passes x kept ≡ true) (sym id) is in
      record { at = 0; there = rw (same, in-it) (ap (λ (x : JobId). Some x) id) }
  among number (first ∷ jobs) (suc i) kept j place there is =
      among-by number first jobs j (passes (record { 0 = number }) first) refl (among (suc number) jobs i kept j (omega (arith, place)) there is)

  -- there are no more of them than jobs
  few : (number : ℕ) (jobs : List JobRecord) → length (jobs_from passes number jobs) ≤ length jobs
  few number [] = omega arith
  few number (kept ∷ jobs) = grind (arith, few (suc number) jobs)

  pub below-jobs : (jobs : List JobRecord) (k : ℕ) (j : JobId) → slice_get (jobs_from passes 0 jobs) k ≡ Some j → k < length jobs
  below-jobs jobs k j found = omega (arith, few 0 jobs, slice_get_within (jobs_from passes 0 jobs) k j found)

-- a place that has a member is before the end
pub before-end : {X : Type 0} (xs : List X) (at k : ℕ) (x : X) → slice_get xs at ≡ None → slice_get xs k ≡ Some x → k < at
before-end xs at k x none some = omega (arith, past-end xs at none, slice_get_within xs k x some)

-- what holds of a member at a place holds of any member there
pub same-there : {X : Type 0} (P : X → Type 0) (one other : X) (o : Option X) → o ≡ Some one → o ≡ Some other → P one → P other
same-there {X} P one other o first second holds = let same : one ≡ other = cc in subst P same holds

-- # a role has at most one current session

pub both : (t u : Bool) → (t && not u) ≡ true → (t ≡ true) × (u ≡ false)
both t u is = (grind arith, grind arith)

-- what a current session is
pub record Speaks (role : Role) (session : SessionId) (s : State) : Type 0 where
  pub begun : 0 < session.0
  pub facts : SessionFacts
  pub there : slice_get s.sessions (session.0 - 1) ≡ Some facts
  pub speaks : speaks_for role facts ≡ true
  pub last : list_any (speaks_for role) (drop session.0 s.sessions) ≡ false

module _ (role : Role) (s : State) where
  speaks-by : (session : SessionId) (b : Bool) (o : Option SessionFacts) → (session.0 == 0) ≡ b → slice_get s.sessions (session.0 - 1) ≡ o → (option_map_or (speaks_for role) (if b then None else o) false && not (list_any (speaks_for role) (drop session.0 s.sessions))) ≡ true → Speaks role session s
  speaks-by session true o zeroth there is = absurd cc
  speaks-by session false None some there is = absurd cc
  speaks-by session false (Some facts) some there is =
      let parts = both (speaks_for role facts) (list_any (speaks_for role) (drop session.0 s.sessions)) is in
      record { begun = grind (arith, nat_tests); facts = facts; there = there; speaks = parts.0; last = parts.1 }

  pub current-speaks : (session : SessionId) → is_current role session s ≡ true → Speaks role session s
  current-speaks session is = speaks-by session (session.0 == 0) (slice_get s.sessions (session.0 - 1)) refl refl is

  pub current-has : (session : SessionId) → is_current role session s ≡ true → has_current role s ≡ true
  current-has session is =
      let who = current-speaks session is in
      any-there (speaks_for role) s.sessions 0 (session.0 - 1) who.facts (omega arith) who.there who.speaks

  not-before : (one other : SessionId) → Speaks role one s → Speaks role other s → one.0 < other.0 → ⊥
  not-before one other first second before =
      let again : list_any (speaks_for role) (drop one.0 s.sessions) ≡ true = any-there (speaks_for role) s.sessions one.0 (other.0 - 1) second.facts (omega (arith, before)) second.there second.speaks in
      let never : list_any (speaks_for role) (drop one.0 s.sessions) ≡ false = first.last in
      cc

  -- the current session is one
  pub one-current : (one other : SessionId) → is_current role one s ≡ true → is_current role other s ≡ true → one ≡ other
  one-current one other first second =
      let a = current-speaks one first in
      let b = current-speaks other second in
      let below : one.0 < other.0 → ⊥ = not-before one other a b in
      let above : other.0 < one.0 → ⊥ = not-before other one b a in
      let same : one.0 ≡ other.0 = omega arith in
      ap (λ (n : ℕ). record { 0 = n }) same

-- ## the last session that speaks for a role

-- it is at a place, and none after it speaks
record LastAt (role : Role) (number : ℕ) (sessions : List SessionFacts) (x : SessionId) : Type 0 where
  at : ℕ
  named : x.0 ≡ at + number
  facts : SessionFacts
  there : slice_get sessions at ≡ Some facts
  speaks : speaks_for role facts ≡ true
  last : list_any (speaks_for role) (drop (suc at) sessions) ≡ false

none-speaks : (role : Role) (number : ℕ) (sessions : List SessionFacts) → speaker_from role number sessions ≡ None → list_any (speaks_for role) sessions ≡ false
none-speaks role number [] is = refl
none-speaks role number (facts ∷ sessions) is = grind (arith, none-speaks role (suc number) sessions)

last-by : (role : Role) (number : ℕ) (facts : SessionFacts) (sessions : List SessionFacts) (x : SessionId) (o : Option SessionId) (b : Bool) → speaker_from role (suc number) sessions ≡ o → speaks_for role facts ≡ b → ((y : SessionId) → speaker_from role (suc number) sessions ≡ Some y → LastAt role (suc number) sessions y) → option_or o (if b then Some (record { 0 = number }) else None) ≡ Some x → LastAt role number (facts ∷ sessions) x
last-by role number facts sessions x (Some y) b later speaks rest is =
    let found = rest y later in
    let same : y ≡ x = cc in
    let named : y.0 ≡ suc found.at + number = omega (arith, found.named) in
    record { at = suc found.at; named = rw (sym same) named; facts = found.facts; there = found.there; speaks = found.speaks; last = found.last }
last-by role number facts sessions x None true later speaks rest is =
    let same : record { 0 = number } ≡ x = cc in
    let first : x.0 ≡ number = sym (ap (λ (y : SessionId). y.0) same) in
    let named : x.0 ≡ 0 + number = omega (arith, first) in
    record { at = 0; named = named; facts = facts; there = refl; speaks = speaks; last = none-speaks role (suc number) sessions later }
last-by role number facts sessions x None false later speaks rest is = absurd cc

last-speaks : (role : Role) (number : ℕ) (sessions : List SessionFacts) (x : SessionId) → speaker_from role number sessions ≡ Some x → LastAt role number sessions x
last-speaks role number [] x is = absurd cc
last-speaks role number (facts ∷ sessions) x is = last-by role number facts sessions x (speaker_from role (suc number) sessions) (speaks_for role facts) refl refl (last-speaks role (suc number) sessions) is

names-by : (role : Role) (s : State) (o : Option SessionId) → current_of role s ≡ o → NamesCurrent role s o
names-by role s None is = none-speaks role 1 s.sessions is
names-by role s (Some x) is =
    let found = last-speaks role 1 s.sessions x is in
    let named : x.0 ≡ suc found.at = omega (arith, found.named) in
    let begun : (suc found.at == 0) ≡ false = grind (arith, nat_tests) in
    let back : suc found.at - 1 ≡ found.at = omega arith in
    rw (named, begun, back, found.there, found.speaks, found.last) refl

-- the last session that speaks for the role is its current one
pub current-names : (role : Role) (s : State) → NamesCurrent role s (current_of role s)
current-names role s = names-by role s (current_of role s) refl

-- ## a session that was begun

-- a role that has a current session opens none
pub has-some : (c : Configuration) (role : Role) (s : State) (o : Option SessionId) → NamesCurrent role s o → is_some o ≡ true → false ≡ may_open c role s
has-some c role s None names some = absurd cc
has-some c role s (Some session) names some = rw (current-has role s session names) refl

-- # the opening of a session

-- roles that are the same are equal-numbers
pub same-role : (one other : Role) → same_role one other ≡ true → one ≡ other
same-role (Launcher p) (Launcher q) is = ap (λ (n : ℕ). Launcher (record { 0 = n })) (equal-numbers p.0 q.0 is)
same-role (Janitor p) (Janitor q) is = ap (λ (n : ℕ). Janitor (record { 0 = n })) (equal-numbers p.0 q.0 is)
same-role (Requester p) (Requester q) is = ap (λ (n : ℕ). Requester (record { 0 = n })) (equal-numbers p.0 q.0 is)
same-role Reaper Reaper is = refl
same-role one other is = absurd cc

module _ (c : Configuration) (s : State) where
  -- the row of an opening is true only for the role's own opening, if the role may open one
  opened : (role other : Role) → row_holds c s role (Event.OpenSession other) ≡ true → (same_role other role ≡ true) × (may_open c other s ≡ true)
  opened Reaper other is = absurd cc
  opened role other is = and_parts (same_role other role) (may_open c other s) is

  pub none-opens : (role : Role) → may_open c role s ≡ false → NoneOpens c s role
  none-opens role is = λ other useful.
      let parts = opened role other useful.row in
      let same : other ≡ role = same-role other role parts.0 in
      let may : may_open c role s ≡ true = subst (λ (r : Role). may_open c r s ≡ true) same parts.1 in
      cc

  -- a role that has a session opens none
  pub current-opens : (role : Role) (session : SessionId) → is_current role session s ≡ true → NoneOpens c s role
  current-opens role session is = none-opens role (rw (current-has role s session is) refl)

-- # the first of these events that passes, or none if none does

-- ## an accepted event names something that is at a place

module _ (c : Configuration) (s : State) (session : SessionId) where
  -- the event is a candidate of the kind
  pub record IsCandidate (kind : EventKind) (e : Event) : Type 0 where
    pub at : ℕ
    pub within : at < places s session kind
    pub there : candidate s session kind at ≡ Some e

  request-candidate : (kind : RequestKind) (r : RequestId) → is_ok (judge c s (request_event kind session r)) ≡ true → IsCandidate (EventKind.Request kind) (request_event kind session r)
  request-candidate kind r is =
      let answer = ok-is (judge c s (request_event kind session r)) is in
      let place = placed same_request request-equal s.requests r (is_from_request_queue kind) (queued_requests session s) (λ from. queued-request s session r (request-queued c s session answer.0 kind r from answer.1)) (request-there c s session answer.0 kind r answer.1) in
      record { at = place.0; within = place.1; there = ap (option_map (request_event kind session)) place.2 }

  node-candidate : (kind : NodeKind) (n : NodeId) → is_ok (judge c s (node_event kind session n)) ≡ true → IsCandidate (EventKind.Node kind) (node_event kind session n)
  node-candidate kind n is =
      let answer = ok-is (judge c s (node_event kind session n)) is in
      let place = placed (λ a b. a.0 == b.0) same_node-is s.nodes n (is_from_node_queue kind) (queued_nodes session s) (λ from. queued-node s session n (node-queued c s session answer.0 kind n from answer.1)) (node-there c s session answer.0 kind n answer.1) in
      record { at = place.0; within = place.1; there = ap (option_map (node_event kind session)) place.2 }

  job-candidate : (kind : JobKind) (j : JobId) → is_ok (judge c s (job_event kind session j)) ≡ true → IsCandidate (EventKind.Job kind) (job_event kind session j)
  job-candidate kind j is =
      let answer = ok-is (judge c s (job_event kind session j)) is in
      let kept = some-unless (slice_get s.jobs j.0) (job-there c s session answer.0 kind j answer.1) in
      record {
        at = j.0;
        within = slice_get_within s.jobs j.0 kept.0 kept.1;
        there = ap (λ (o : Option JobRecord). option_map (λ (k : JobRecord). job_event kind session j) o) kept.1;
      }

  -- a candidate's maker is the session
  pub candidate-maker : (kind : EventKind) (at : ℕ) (e : Event) → candidate s session kind at ≡ Some e → maker_of e ≡ Some session
  candidate-maker (EventKind.Request kind) at e is = let r = from-map_some (request_event kind session) (request_named s session kind at) e is in ap maker_of (sym r.2) ∙ request-maker kind session r.0
  candidate-maker (EventKind.Node kind) at e is = let n = from-map_some (node_event kind session) (node_named s session kind at) e is in ap maker_of (sym n.2) ∙ node-maker kind session n.0
  candidate-maker (EventKind.Job kind) at e is = let j = from-map_some (λ (_ : JobRecord). job_event kind session (record { 0 = at })) (slice_get s.jobs at) e is in ap maker_of (sym j.2) ∙ job-maker kind session (record { 0 = at })

-- ## what passes

module _ (c : Configuration) (s : State) (role : Role) where
  pub and-parts : (t u : Bool) → (t && u) ≡ true → (t ≡ true) × (u ≡ true)
  and-parts t u is = and_parts t u is

  -- an event that passes is useful if its maker is the current session, or if it has no maker
  pub passes-useful : (e : Event) → passes c s role e ≡ true → is_maker_of role s (maker_of e) ≡ true → IsUseful c s role e
  passes-useful e is maker =
      let parts = and-parts (is_ok (judge c s e)) (row_holds c s role e) is in
      record { accepted = parts.0; maker = maker; row = parts.1 }

  pub useful-passes : (e : Event) → IsUseful c s role e → passes c s role e ≡ true
  useful-passes e useful = rw (useful.accepted, useful.row) refl

  pub passing-is : (o : Option Event) (e : Event) → passing c s role o ≡ Some e → (o ≡ Some e) × (passes c s role e ≡ true)
  passing-is None e found = absurd cc
  passing-is (Some x) e found =
      by_bool (λ b. (if b then Some x else None) ≡ Some e → (Some x ≡ Some e) × (passes c s role e ≡ true)) (passes c s role x)
      (λ is here. let same : x ≡ e = cc in (here, ap (passes c s role) (sym same) ∙ is)) (λ _ here. absurd cc) found

  pub passing-none : (o : Option Event) (e : Event) → o ≡ Some e → passes c s role e ≡ true → passing c s role o ≡ None → ⊥
  passing-none o e is passes none =
      let found : passing c s role o ≡ Some e = rw is (rw passes refl) in
      cc

  -- ## the search

  module _ (session : SessionId) (current : is_current role session s ≡ true) where
    -- what passes at a place is useful
    first-useful : (kind : EventKind) (e : Event) → IsFirst c s role (places s session kind) (candidate s session kind) e → IsUseful c s role e
    first-useful kind e first =
        let parts = passing-is (candidate s session kind first.at) e first.there in
        passes-useful e parts.1 (ap (is_maker_of role s) (candidate-maker c s session kind first.at e parts.0) ∙ current)

    none-left : (kind : EventKind) (e : Event) → ((at : ℕ) → at < places s session kind → passing c s role (candidate s session kind at) ≡ None) → IsCandidate c s session kind e → IsUseful c s role e → ⊥
    none-left kind e none place useful = passing-none (candidate s session kind place.at) e place.there (useful-passes e useful) (none place.at place.within)

    -- its maker is the session
    pub made-by : (other : SessionId) (e : Event) → maker_of e ≡ Some other → IsUseful c s role e → other ≡ session
    made-by other e maker useful = one-current role s other session (ap (is_maker_of role s) (sym maker) ∙ useful.maker) current

    -- what another makes, the session makes
    mine : (made : SessionId → Event) → ((x : SessionId) → maker_of (made x) ≡ Some x) → (other : SessionId) → IsUseful c s role (made other) → IsUseful c s role (made session)
    mine made maker other useful = subst (λ (x : SessionId). IsUseful c s role (made x)) (made-by other (made other) (maker other) useful) useful

    none-by : (kind : EventKind) (made : SessionId → Event) → ((x : SessionId) → maker_of (made x) ≡ Some x) → (is_ok (judge c s (made session)) ≡ true → IsCandidate c s session kind (made session)) → ((at : ℕ) → at < places s session kind → passing c s role (candidate s session kind at) ≡ None) → (other : SessionId) → IsUseful c s role (made other) → ⊥
    none-by kind made maker found none other useful = let own = mine made maker other useful in none-left kind (made session) none (found own.accepted) own

    -- if none passes at any place, no event of the kind is useful
    pub none-found : (kind : EventKind) → ((at : ℕ) → at < places s session kind → passing c s role (candidate s session kind at) ≡ None) → NoneOf c s role kind
    none-found (EventKind.Request kind) none = λ other r. none-by (EventKind.Request kind) (λ x. request_event kind x r) (λ x. request-maker kind x r) (request-candidate c s session kind r) none other
    none-found (EventKind.Node kind) none = λ other n. none-by (EventKind.Node kind) (λ x. node_event kind x n) (λ x. node-maker kind x n) (node-candidate c s session kind n) none other
    none-found (EventKind.Job kind) none = λ other j. none-by (EventKind.Job kind) (λ x. job_event kind x j) (λ x. job-maker kind x j) (job-candidate c s session kind j) none other

    -- the first candidate of the kind that passes is a choice among the kind
    pub first-chooses : (kind : EventKind) (o : Option Event) → IsFirstThatPasses c s role (places s session kind) (candidate s session kind) o → ChoosesOf c s role kind o
    first-chooses kind None none = none-found kind none
    first-chooses kind (Some e) first = first-useful kind e first

-- # the releases of the requester's jobs that are over and have a handle are all that may be useful

module _ (c : Configuration) (s : State) (session : SessionId) (j : JobId) where
  -- every role's row of the release says that the job has a handle
  released-has : (role : Role) → row_holds c s role (Event.Release session j) ≡ true → job_is j c (has_some_handle s j) ≡ true
  released-has role is = grind arith

  -- a job whose release is accepted, whoever makes it, is over
  release-over : (what : Done) → judge c s (Event.Release session j) ≡ Ok what → (kept : JobRecord) × ((slice_get s.jobs j.0 ≡ Some kept) × (is_over kept.phase ≡ true))
  release-over what is =
      on-given (maker s session) _ what is (λ role made rest.
      on-check (requester_or_janitor role) _ what rest (λ such rest.
      on-found (slice_get c.jobs j.0) _ _ what rest (λ job row rest.
      on-found (slice_get s.jobs j.0) _ _ what rest (λ kept there rest.
      on-check (may_release job role) _ what rest (λ may rest.
      on-need (is_over kept.phase) _ _ what rest (λ over rest. (kept, (there, over))))))))

  own-by : (q : RequesterId) (o : Option Job) → option_map_or (λ (row : Job). row.requester.0 == q.0) o false ≡ true → option_map_or (has_some_handle s j) o false ≡ true → option_map_or (λ (row : Job). (row.requester.0 == q.0) && list_any (has_handle j s.handles) row.semaphores) o false ≡ true
  own-by q o own has = grind arith

module _ (c : Configuration) (s : State) (role : Role) (session : SessionId) (current : is_current role session s ≡ true) (q : RequesterId) where
  -- if the release of none of the requester's jobs that are over and have a handle passes, no release of
  -- a job of the requester is useful
  pub none-released : ((k : ℕ) (j : JobId) → job_to_release c q k s ≡ Some j → passes c s role (Event.Release session j) ≡ false) → NoneReleased c s role q
  none-released none = λ by j own useful.
      let own-event : IsUseful c s role (Event.Release session j) = mine c s role session current (λ x. Event.Release x j) (λ _. refl) by useful in
      let answer = ok-is (judge c s (Event.Release session j)) own-event.accepted in
      let kept = release-over c s session j answer.0 answer.1 in
      let has : job_is j c (has_some_handle s j) ≡ true = released-has c s session j role own-event.row in
      let is : is_job_to_release c s q j kept.0 ≡ true = and_from (option_map_or (λ (row : Job). (row.requester.0 == q.0) && list_any (has_handle j s.handles) row.semaphores) (slice_get c.jobs j.0) false) (is_over kept.0.phase) (own-by c s session j q (slice_get c.jobs j.0) own has) kept.1.1 in
      let place = among (is_job_to_release c s q) 0 s.jobs j.0 kept.0 j (omega arith) kept.1.0 is in
      let fails : passes c s role (Event.Release session j) ≡ false = none place.at j place.there in
      let holds : passes c s role (Event.Release session j) ≡ true = useful-passes c s role (Event.Release session j) own-event in
      absurd cc

-- # the choice of a role, from the choice among its kinds

module _ (c : Configuration) (s : State) (role : Role) where
  -- a role without a session makes no event
  pub no-maker : has_current role s ≡ false → (session : SessionId) (e : Event) → maker_of e ≡ Some session → IsUseful c s role e → ⊥
  no-maker none session e maker useful =
      let has : has_current role s ≡ true = current-has role s session (ap (is_maker_of role s) (sym maker) ∙ useful.maker) in
      cc

  none-made : has_current role s ≡ false → (kind : EventKind) → NoneOf c s role kind
  none-made none (EventKind.Request kind) = λ session r useful. no-maker none session (request_event kind session r) (request-maker kind session r) useful
  none-made none (EventKind.Node kind) = λ session n useful. no-maker none session (node_event kind session n) (node-maker kind session n) useful
  none-made none (EventKind.Job kind) = λ session j useful. no-maker none session (job_event kind session j) (job-maker kind session j) useful

  module _ (kinds : List EventKind) (law : NoneOpens c s role → AllByRecursion (NoneOf c s role) kinds → (e : Event) → IsUseful c s role e → ⊥) where
    -- without a session, the opening is the whole choice
    pub opening-chooses : has_current role s ≡ false → (o : Option Event) → ChoosesOpening c s role o → Chooses c s role o
    opening-chooses none None opens = law opens (all-from_at (NoneOf c s role) kinds (λ _ kind _. none-made none kind))
    opening-chooses none (Some e) useful = useful

    -- with a session, the kinds are the whole choice
    pub kinds-choose : (session : SessionId) → is_current role session s ≡ true → (o : Option Event) → ChoosesOfAny c s role kinds o → Chooses c s role o
    kinds-choose session current None all = law (current-opens c s role session current) all
    kinds-choose session current (Some e) useful = useful
