-- each request is as its state says, and its nodes are kept for it
use Rattle.np_changes.proofs.Prelude.{◌+◌, list_any-append, Bool, IsGiven, IsServed, LabelId, List, NodeEntry, NodeId, None, Option, OwnsItsLabels, PoolId, RequestId, RequestRecord, RequestState, SessionId, Some, State, [], ap, arith, cond, false, is_filled, is_pool, length, nat_tests, node_entry, none-some, refl, same_Some, slice_get, suc, sym, true, unfilled, zero, ℕ, ◌∙◌, ◌∷◌, ◌≡◌, ◌≤◌, AllByRecursion, DistinctNodes, all-weaker, inl, inr, length-append, list_any, list_any-none, ne_eqb, option_map, slice_get_within, ◌++◌, ◌<◌, ◌==◌, ◌||◌, ◌⊎◌, NodeRecord, NodeState, Rises, TenantId, all_freed, all_in_use, allocated, both_ways, change_first, freed, is_building, is_deleting, is_ready, is_request, nat_lt, node_in, put_node, remove_node, same_request, subst, Changes, Configuration, EndsNode, Frees, GivesUp, Reports, Starts, request_in, IsAtRest, IsFor, RequestsStand, StandsIn, all-at, all-push, false_from_ne_true, is_fulfilled, is_pending, is_requested, lt_of_lt_of_le, member-there, next_label, request-equal, with_node, Asked, AsksForJob, AsksToKeep, EditPremise, EmptiesRequest, Gains, GoesFulfilled, GoesWithdrawn, Growth, GrowthPremise, Invariant, IsMade, IsTaken, Launcher, Maker, NodesChange, NodesPremise, Premises, RequestEdit, RequestEntry, RequestsChange, RequestsPremise, TakesOver, above-apart, and_parts, by_maker, changed, edited, eq-eqb, grown, new_node, new_record, next_id, nodes_changed, request-itself, tenant_of_request, GainsNew, PutsNode, RunsWhileBuilding, AllocationsListed, IsNumbered, is_id_before, left, request_queue, requests_changed}
use Rattle.np_lists.proofs.Plain.{by_bool}
use Rattle.np_changes.proofs.Lookups.{Added, Altered, IsAllocated, IsCalm, IsFreed, IsPut, IsUsed, NoNode, NoRequest, NodeChange, NodeStep, Removed, Stays, calm-request, found-grown, grown-node, grown-numbered, grown-request, leave-node, left-node, left-request, next-after, next-grown, next-more, node-step, node_in-allocated, node_in-below, node_in-freed, node_in-in_use, node_in-later, node_in-new, node_in-other, node_in-put, node_in-remove, node_in-removed, nodes-after, request_in-below, request_in-edit, request_in-insert, request_in-later, request_in-new, request_in-queue, request_in-remove, request_in-removed, requests-after, same-seq, same_node-is}

-- # a request with every place filled owns its labels

module _ (p : PoolId) (session : SessionId) (r : RequestId) (rows : List NodeEntry) where
  pub filled-at : (labels : List LabelId) (numbers : List NodeId) → unfilled p session r rows labels numbers ≡ 0 → (i : ℕ) (n : NodeId) (l : LabelId)
      → slice_get numbers i ≡ Some n → slice_get labels i ≡ Some l → is_filled p session r l (node_entry n rows) ≡ true
  filled-at [] numbers none i n l is_at of_label = absurd (none-some l of_label)
  filled-at (k ∷ labels) [] none i n l is_at of_label = absurd (none-some n is_at)
  filled-at (k ∷ labels) (m ∷ numbers) none zero n l is_at of_label = grind (arith, nat_tests)
  filled-at (k ∷ labels) (m ∷ numbers) none (suc i) n l is_at of_label = filled-at labels numbers (grind (arith, nat_tests)) i n l is_at of_label

  pub filled-many : (labels : List LabelId) (numbers : List NodeId) → unfilled p session r rows labels numbers ≡ 0 → length labels ≤ length numbers
  filled-many [] numbers none = omega arith
  filled-many (k ∷ labels) [] none = absurd (omega arith)
  filled-many (k ∷ labels) (m ∷ numbers) none = grind (arith, nat_tests, filled-many labels numbers)

-- the node is allocated to the request, by the pool that serves it
filled-given : (s : State) (p other : PoolId) (session : SessionId) (r : RequestId) (q : RequestRecord) (n : NodeId) (l : LabelId) → is_pool p q.pool ≡ true → q.pool ≡ Some other → is_filled p session r l (node_entry n s.nodes) ≡ true → IsGiven s r other n l
filled-given s p other session r q n l by_pool served_by is = grind (arith, nat_tests)

-- a request that is served, with no place that lacks a node, is fulfilled
pub filled-owns : (s : State) (p : PoolId) (session : SessionId) (r : RequestId) (q : RequestRecord) → IsServed s r q → is_pool p q.pool ≡ true → unfilled p session r s.nodes q.labels q.nodes ≡ 0
    → OwnsItsLabels s r (record q { state = RequestState.Fulfilled })
filled-owns s p session r q served by_pool none = grind (arith, nat_tests, served, filled-many p session r s.nodes q.labels q.nodes none, filled-given s p served.pool session r q, filled-at p session r s.nodes q.labels q.nodes none)

-- # members at places of a list

-- ## the place of a member

-- a member that passes is at some place
pub record PassesAt {X : Type 0} (p : X → Bool) (xs : List X) : Type 0 where
  pub place : ℕ
  pub member : X
  pub there : slice_get xs place ≡ Some member
  pub passes : p member ≡ true

pub any-place : {X : Type 0} (p : X → Bool) (xs : List X) → list_any p xs ≡ true → PassesAt p xs
any-place p [] any = absurd cc
any-place p (x ∷ xs) any =
    by_bool (λ (b : Bool). (b || list_any p xs) ≡ true → PassesAt p (x ∷ xs)) (p x) (λ is _. record { place = 0; member = x; there = refl; passes = is })
    (λ _ later. let rest = any-place p xs later in record { place = suc rest.place; member = rest.member; there = rest.there; passes = rest.passes }) any

-- ## one more member

pub push-places : {X : Type 0} (xs : List X) (new : X) (i : ℕ) (x : X) → slice_get (xs ++ new ∷ []) i ≡ Some x → (slice_get xs i ≡ Some x) ⊎ ((i ≡ length xs) × (x ≡ new))
push-places [] new zero x is = inr (refl, sym (same_Some new x is))
push-places [] new (suc i) x is = absurd (none-some x is)
push-places (y ∷ xs) new zero x is = inl is
push-places (y ∷ xs) new (suc i) x is = grind (arith, push-places xs new i x is)

-- if another list has the next place, it is no shorter than this one with one more member
pub push-within : {X Y : Type 0} (xs : List X) (ys : List Y) (new : X) (y : Y) → slice_get ys (length xs) ≡ Some y → length (xs ++ new ∷ []) ≤ length ys
push-within xs ys new y next = omega (arith, length-append xs (new ∷ []), slice_get_within ys (length xs) y next)

-- ## lists of nodes

-- a node that is listed is at some place
pub node-place : (n : NodeId) (numbers : List NodeId) → list_any (λ m. m.0 == n.0) numbers ≡ true → (place : ℕ) × (slice_get numbers place ≡ Some n)
node-place n numbers any =
    let at : PassesAt (λ (m : NodeId). m.0 == n.0) numbers = any-place (λ (m : NodeId). m.0 == n.0) numbers any in
    (at.place, at.there ∙ ap (λ (m : NodeId). Some m) (same_node-is at.member n at.passes))

pub distinct-push : (numbers : List NodeId) (n : NodeId) → DistinctNodes numbers → list_any (λ m. m.0 == n.0) numbers ≡ false → DistinctNodes (numbers ++ n ∷ [])
distinct-push [] n distinct out = (refl, tt)
distinct-push (m ∷ numbers) n distinct out = (grind (arith, nat_tests, distinct.0, list_any-append (λ (x : NodeId). x.0 == m.0) numbers (n ∷ [])), distinct-push numbers n distinct.1 (grind (arith, nat_tests)))

-- what is below a bound is below a higher one
pub all-below : (low high : ℕ) (numbers : List NodeId) → low ≤ high → AllByRecursion (λ n. n.0 < low) numbers → AllByRecursion (λ n. n.0 < high) numbers
all-below low high numbers more all = all-weaker (λ (n : NodeId). n.0 < low) (λ n. n.0 < high) (λ n below. omega arith) numbers all

-- the next number is not listed if all are below it
pub next-unlisted : (next : ℕ) (n : NodeId) (numbers : List NodeId) → n.0 ≡ next → AllByRecursion (λ m. m.0 < next) numbers → list_any (λ m. m.0 == n.0) numbers ≡ false
next-unlisted next n numbers is all = list_any-none (λ (m : NodeId). m.0 == n.0) numbers (all-weaker (λ (m : NodeId). m.0 < next) (λ m. (m.0 == n.0) ≡ false) (λ m below. ne_eqb m.0 n.0 (λ same. omega arith)) numbers all)

-- ## options

-- what an option had before it was mapped, if a test passes
pub record IsEdited {A : Type 0} (b : Bool) (f : A → A) (o : Option A) (a : A) : Type 0 where
  pub passed : b ≡ true
  pub old : A
  pub was : o ≡ Some old
  pub now : a ≡ f old

pub edited-by : {A : Type 0} (b : Bool) (f : A → A) (o : Option A) (a : A) → option_map (λ k. cond b (f k) k) o ≡ Some a → IsEdited b f o a ⊎ ((b ≡ false) × (o ≡ Some a))
edited-by x0 f x2 a is = grind (arith, nat_tests)

-- # what a change of the nodes keeps for a request that continues to exist

-- ## states of nodes

pub ready-not_building : (state : NodeState) → is_ready state ≡ true → is_building state ≡ true → ⊥
ready-not_building state ready building = grind arith

pub ready-not_deleting : (state : NodeState) → is_ready state ≡ true → is_deleting state ≡ true → ⊥
ready-not_deleting state ready deleting = grind arith

-- ## whose a node is

pub allocated-to_none : (r : RequestId) (o : Option RequestId) → o ≡ None → is_request r o ≡ true → ⊥
allocated-to_none r o none mine = both_ways (is_request r o) (ap (λ (x : Option RequestId). is_request r x) none) mine

pub allocated-to_one : (r0 r : RequestId) (o : Option RequestId) → same_request r0 r ≡ false → is_request r0 o ≡ true → is_request r o ≡ true → ⊥
allocated-to_one r0 r x2 other first second = grind (arith, nat_tests)

-- ## kept

-- as before for the request; and ready if it was and the request has it
pub record Keeps (r : RequestId) (old node : NodeRecord) : Type 0 where
  pub allocation : is_request r old.allocated_to ≡ true → is_request r node.allocated_to ≡ true
  pub of_pool : node.pool.0 ≡ old.pool.0
  pub of_label : node.label.0 ≡ old.label.0
  pub ready : is_ready old.state ≡ true → is_request r old.allocated_to ≡ true → is_ready node.state ≡ true

pub keeps-itself : (r : RequestId) (k : NodeRecord) → Keeps r k k
keeps-itself r k = record { allocation = λ mine. mine; of_pool = refl; of_label = refl; ready = λ ready mine. ready }

-- a node that exists was there and is kept, and one that was ready still exists
abbrev pub KeptAt : RequestId → Option NodeRecord → Option NodeRecord → Type 0
KeptAt r None None = Unit {0}
KeptAt r None (Some node) = ⊥
KeptAt r (Some old) None = is_ready old.state ≡ true → ⊥
KeptAt r (Some old) (Some node) = Keeps r old node

pub kept-same : (r : RequestId) (o : Option NodeRecord) → KeptAt r o o
kept-same r None = tt
kept-same r (Some k) = keeps-itself r k

-- if what changes is kept
pub kept-map : (r : RequestId) (b : NodeRecord → Bool) (f : NodeRecord → NodeRecord) (o : Option NodeRecord) → ((k : NodeRecord) → o ≡ Some k → b k ≡ true → Keeps r k (f k)) → KeptAt r o (option_map (λ k. cond (b k) (f k) k) o)
kept-map r b f None keeps = tt
kept-map r b f (Some k) keeps = by_bool (λ (x : Bool). Keeps r k (cond x (f k) k)) (b k) (λ is. keeps k refl is) (λ _. keeps-itself r k)

-- ## by each change

pub found-same : (rows : List NodeEntry) (n0 n : NodeId) (k0 k : NodeRecord) → (n0.0 == n.0) ≡ true → node_in n0 rows ≡ Some k0 → node_in n rows ≡ Some k → k0 ≡ k
found-same rows n0 n k0 k same first second = same_Some k0 k (sym first ∙ ap (λ (m : NodeId). node_in m rows) (same_node-is n0 n same) ∙ second)

module _ (r : RequestId) (rows : List NodeEntry) (n : NodeId) where
  pub kept-looks : (later : List NodeEntry) → node_in n later ≡ node_in n rows → KeptAt r (node_in n rows) (node_in n later)
  kept-looks later same = subst (λ (o : Option NodeRecord). KeptAt r (node_in n rows) o) (sym same) (kept-same r (node_in n rows))

  kept-mapped : (later : List NodeEntry) (b : NodeRecord → Bool) (f : NodeRecord → NodeRecord) → node_in n later ≡ option_map (λ k. cond (b k) (f k) k) (node_in n rows) → ((k : NodeRecord) → node_in n rows ≡ Some k → b k ≡ true → Keeps r k (f k)) → KeptAt r (node_in n rows) (node_in n later)
  kept-mapped later b f looks keeps = subst (λ (o : Option NodeRecord). KeptAt r (node_in n rows) o) (sym looks) (kept-map r b f (node_in n rows) keeps)

  pub kept-put : (n0 : NodeId) (k0 kept : NodeRecord) → node_in n0 rows ≡ Some k0 → Keeps r k0 kept → KeptAt r (node_in n rows) (node_in n (put_node n0 kept rows))
  kept-put n0 k0 kept stands keeps = kept-mapped _ (λ _. n0.0 == n.0) (λ _. kept) (node_in-put n0 n kept rows) (λ k is same. subst (λ (x : NodeRecord). Keeps r x kept) (found-same rows n0 n k0 k same stands is) keeps)

  pub kept-remove : (n0 : NodeId) (k0 : NodeRecord) → Rises (λ (a b : NodeEntry). nat_lt a.id.0 b.id.0) rows → node_in n0 rows ≡ Some k0 → is_deleting k0.state ≡ true → KeptAt r (node_in n rows) (node_in n (remove_node n0 rows))
  kept-remove n0 k0 rises stands deleting = grind (arith, nat_tests, ready-not_deleting, node_in-removed, same_node-is, kept-looks, node_in-remove)

  pub kept-freed : (r0 : RequestId) → same_request r0 r ≡ false → KeptAt r (node_in n rows) (node_in n (all_freed r0 rows))
  kept-freed r0 other = kept-mapped _ (λ k. is_request r0 k.allocated_to) freed (node_in-freed r0 n rows) (λ k is his.
      record { allocation = λ mine. absurd (allocated-to_one r0 r k.allocated_to other his mine); of_pool = refl; of_label = refl; ready = λ ready mine. ready })

  pub kept-taken : (r0 : RequestId) (tick : ℕ) (numbers : List NodeId) → same_request r0 r ≡ false
      → ((k : NodeRecord) → list_any (λ m. m.0 == n.0) numbers ≡ true → node_in n rows ≡ Some k → is_request r0 k.allocated_to ≡ true)
      → KeptAt r (node_in n rows) (node_in n (all_in_use tick numbers rows))
  kept-taken r0 tick numbers other his = kept-mapped _ (λ _. list_any (λ m. m.0 == n.0) numbers) (λ k. record k { since = tick; state = NodeState.InUse }) (node_in-in_use tick numbers n rows) (λ k is among.
      record { allocation = λ mine. mine; of_pool = refl; of_label = refl; ready = λ ready mine. absurd (allocated-to_one r0 r k.allocated_to other (his k among is) mine) })

  pub kept-allocated : (n0 : NodeId) (r0 : RequestId) (tenant : Option TenantId) (session : SessionId) (k0 : NodeRecord) → node_in n0 rows ≡ Some k0 → k0.allocated_to ≡ None
      → KeptAt r (node_in n rows) (node_in n (change_first (λ e. e.id.0 == n0.0) (allocated r0 tenant session) rows))
  kept-allocated n0 r0 tenant session k0 stands free = kept-mapped _ (λ _. n0.0 == n.0) (λ k. record k { allocated_to = Some r0; tenant = tenant }) (node_in-allocated n0 n r0 tenant session rows) (λ k is same.
      grind (arith, nat_tests, found-same rows n0 n k0 k same stands is, allocated-to_none))

  pub kept-push : (new : NodeEntry) → (new.id.0 == n.0) ≡ false → KeptAt r (node_in n rows) (node_in n (rows ++ new ∷ []))
  kept-push new other = kept-looks (rows ++ new ∷ []) (node_in-other new n rows other)

-- # what the five ways of changing a node's record keep

-- a node changes in one of five ways
abbrev pub Way : Configuration → State → Changes → NodeId → NodeRecord → NodeRecord → Type 0
Way c s ch n k kept = Starts s ch k kept ⊎ (Reports c s ch k kept ⊎ (EndsNode s ch n k kept ⊎ (GivesUp s ch k kept ⊎ Frees s ch k kept)))

module _ (c : Configuration) (s : State) (ch : Changes) (n : NodeId) (k kept : NodeRecord) (runs : k.in_flight ≡ true → is_building k.state ≡ true) where
  -- for a request that exists
  pub way-keeps : (r : RequestId) (request : RequestRecord) → request_in r s.requests ≡ Some request → Way c s ch n k kept → Keeps r k kept
  way-keeps r request stands x3 = grind (arith, nat_tests)

  -- a launch runs only while it builds
  pub way-runs : Way c s ch n k kept → kept.in_flight ≡ true → is_building kept.state ≡ true
  way-runs x0 flies = grind (arith, nat_tests)

-- # a request that was as its state says is so after a change, if the nodes are kept for it

-- ## by the request's state

pub rest-if : (s : State) (r : RequestId) (q : RequestRecord) (state : RequestState) → is_requested state ≡ true → StandsIn s r q state → IsAtRest q
rest-if s r q state is stands = grind arith

pub served-if : (s : State) (r : RequestId) (q : RequestRecord) (state : RequestState) → is_pending state ≡ true → StandsIn s r q state → IsServed s r q
served-if s r q state is stands = grind arith

pub owns-if : (s : State) (r : RequestId) (q : RequestRecord) (state : RequestState) → is_fulfilled state ≡ true → StandsIn s r q state → OwnsItsLabels s r q
owns-if s r q state is stands = grind arith

-- ## the nodes of a request

-- each node of a request that is served is allocated to it
pub served-node : (s : State) (r : RequestId) (q : RequestRecord) → IsServed s r q → (n : NodeId) (k : NodeRecord) → list_any (λ m. m.0 == n.0) q.nodes ≡ true → node_in n s.nodes ≡ Some k → is_request r k.allocated_to ≡ true
served-node s r q served n k any stands =
    let place = node-place n q.nodes any in
    let within : place.0 < length q.labels = lt_of_lt_of_le (slice_get_within q.nodes place.0 n place.1) served.few in
    let label = member-there q.labels place.0 within in
    (served.each place.0 n label.0 k place.1 label.1 stands).allocated

-- so a node that is allocated to none is not listed
pub served-unlisted : (s : State) (r : RequestId) (q : RequestRecord) → IsServed s r q → (n : NodeId) (k : NodeRecord) → node_in n s.nodes ≡ Some k → k.allocated_to ≡ None → list_any (λ m. m.0 == n.0) q.nodes ≡ false
served-unlisted s r q served n k stands free =
    false_from_ne_true (list_any (λ m. m.0 == n.0) q.nodes) (λ any. allocated-to_none r k.allocated_to free (served-node s r q served n k any stands))

-- each node of a request that is fulfilled is ready and allocated to it
pub owned-node : (s : State) (r : RequestId) (q : RequestRecord) → OwnsItsLabels s r q → (n : NodeId) (k : NodeRecord) → list_any (λ m. m.0 == n.0) q.nodes ≡ true → node_in n s.nodes ≡ Some k → (is_ready k.state ≡ true) × (is_request r k.allocated_to ≡ true)
owned-node s r q owns n k any stands =
    let place = node-place n q.nodes any in
    let within : place.0 < length q.labels = subst (λ (size : ℕ). place.0 < size) owns.as_many (slice_get_within q.nodes place.0 n place.1) in
    let label = member-there q.labels place.0 within in
    let given = owns.each place.0 n label.0 place.1 label.1 in
    let same : k ≡ given.node = same_Some k given.node (sym stands ∙ given.stands) in
    (ap (λ (x : NodeRecord). is_ready x.state) same ∙ given.ready, ap (λ (x : NodeRecord). is_request r x.allocated_to) same ∙ given.allocated)

-- ## a request that stays as it is

-- the nodes that were there are kept for the request
abbrev pub KeptFor : State → State → RequestId → Type 0
KeptFor s t r = (n : NodeId) → n.0 < s.next_node → KeptAt r (node_in n s.nodes) (node_in n t.nodes)

-- as it was, with its nodes kept; or as its state says anew
abbrev pub Follows : State → State → RequestId → RequestRecord → Type 0
Follows s t r q = StandsIn t r q q.state ⊎ ((request_in r s.requests ≡ Some q) × KeptFor s t r)

module _ (s t : State) (below : AllByRecursion (λ (e : NodeEntry). e.id.0 < s.next_node) s.nodes) (more : s.next_node ≤ t.next_node) where
  place-kept : (r : RequestId) (q : RequestRecord) → KeptFor s t r → (served : IsServed s r q) → (at : ℕ) (n : NodeId) (l : LabelId) (node : NodeRecord)
      → slice_get q.nodes at ≡ Some n → slice_get q.labels at ≡ Some l → node_in n t.nodes ≡ Some node → IsFor r served.pool l node
  place-kept r q kept served at n l node is_at of_label stands =
      let at_node = kept n (all-at (λ (m : NodeId). m.0 < s.next_node) q.nodes at n served.below is_at) in
      grind (arith, nat_tests, at_node, served.each at n l, is_at, of_label, stands)

  served-kept : (r : RequestId) (q : RequestRecord) → KeptFor s t r → IsServed s r q → IsServed t r q
  served-kept r q kept served = grind (arith, nat_tests, served, all-below s.next_node t.next_node q.nodes more served.below, place-kept r q kept served)

  given-kept : (r : RequestId) (p : PoolId) (n : NodeId) (l : LabelId) → KeptFor s t r → IsGiven s r p n l → IsGiven t r p n l
  given-kept r p n l kept given =
      let at_node = kept n (node_in-below n s.next_node given.node s.nodes below given.stands) in
      grind (arith, nat_tests, at_node, given.stands, given.ready, given.allocated, given.of_pool, given.of_label)

  pub owns-kept : (r : RequestId) (q : RequestRecord) → KeptFor s t r → OwnsItsLabels s r q → OwnsItsLabels t r q
  owns-kept r q kept owns =
      grind (arith, nat_tests, owns, λ (at : ℕ) (n : NodeId) (l : LabelId) (is_at : slice_get q.nodes at ≡ Some n) (of_label : slice_get q.labels at ≡ Some l). given-kept r owns.pool n l kept (owns.each at n l is_at of_label))

  stands-kept : (r : RequestId) (q : RequestRecord) (state : RequestState) → KeptFor s t r → StandsIn s r q state → StandsIn t r q state
  stands-kept r q RequestState.Pending kept stands = served-kept r q kept stands
  stands-kept r q RequestState.Fulfilled kept stands = owns-kept r q kept stands
  stands-kept r q _ kept stands = stands

  stand-step : RequestsStand s → ((r : RequestId) (q : RequestRecord) → request_in r t.requests ≡ Some q → Follows s t r q) → RequestsStand t
  stand-step stand follows = λ r q is. grind (arith, follows r q is, stands-kept r q q.state, stand r q)

  -- ## requests changed

  -- every request as before
  pub same-stand : RequestsStand s → ((r : RequestId) → request_in r t.requests ≡ request_in r s.requests) → ((r : RequestId) (q : RequestRecord) → request_in r s.requests ≡ Some q → KeptFor s t r) → RequestsStand t
  same-stand stand looks kept = stand-step stand (λ r q is. let was : request_in r s.requests ≡ Some q = sym (looks r) ∙ is in inr (was, kept r q was))

  -- one edited
  pub edit-stand : (r0 : RequestId) (f : RequestRecord → RequestRecord) (q0 : RequestRecord) → RequestsStand s → request_in r0 s.requests ≡ Some q0
      → ((r : RequestId) → request_in r t.requests ≡ option_map (λ q. cond (same_request r0 r) (f q) q) (request_in r s.requests))
      → StandsIn t r0 (f q0) (f q0).state → ((r : RequestId) → same_request r0 r ≡ false → KeptFor s t r) → RequestsStand t
  edit-stand r0 f q0 stand stands looks anew others = stand-step stand (λ r q is. grind (arith, nat_tests, looks r, request-equal r0 r, others r, anew))

  -- a request that is served gets one more node
  pub served-more : (r : RequestId) (q : RequestRecord) (n : NodeId) (l : LabelId) → KeptFor s t r → (served : IsServed s r q) → next_label q ≡ Some l → list_any (λ m. m.0 == n.0) q.nodes ≡ false → n.0 < t.next_node
      → ((node : NodeRecord) → node_in n t.nodes ≡ Some node → IsFor r served.pool l node) → IsServed t r (with_node q n)
  served-more r q n l kept served next out low fits = record {
    pool = served.pool;
    served_by = served.served_by;
    few = push-within q.nodes q.labels n l next;
    distinct = distinct-push q.nodes n served.distinct out;
    below = all-push (λ (m : NodeId). m.0 < t.next_node) q.nodes n (all-below s.next_node t.next_node q.nodes more served.below) low;
    each = λ at m k node is_at of_label stands. grind (arith, nat_tests, push-places q.nodes n at m is_at, place-kept r q kept served at m k node, of_label, stands, next, fits node);
  }

-- # each request is as its state says, after the changes of an accepted event

-- ## premises

-- a new request is at rest
asked-stands : (c : Configuration) (s t : State) (ch : Changes) (priority : ℕ) (asked : Asked) (r : RequestId) → AsksForJob c s ch priority asked ⊎ AsksToKeep c s ch priority asked → StandsIn t r (new_record asked) (new_record asked).state
asked-stands c s t ch priority asked r x7 = grind (arith, nat_tests)

empties-restless : (r : RequestId) (change : RequestsChange) → EmptiesRequest r change → IsCalm change → ⊥
empties-restless r change x2 calm = grind (arith, nat_tests)

-- the entry of a new node
abbrev new_entry : Option Maker → State → NodeRecord → NodeEntry
new_entry maker s kept = record { id = record { 0 = s.next_node }; kept = kept; queue = by_maker maker (λ session queue. queue ++ session ∷ []) [] }

-- the entry of a new request
abbrev new_request : ℕ → Asked → State → RequestEntry
new_request priority asked s = record { id = next_id priority s; kept = new_record asked; queue = [] }

module _ (c : Configuration) (s : State) (ch : Changes) (inv : Invariant c s) where
  stood : RequestsStand s
  stood = inv.owned.requests

  below : AllByRecursion (λ (e : NodeEntry). e.id.0 < s.next_node) s.nodes
  below = inv.numbered.nodes_below

  more : s.next_node ≤ (changed c ch s).next_node
  more = next-more c ch.maker ch.grows s

  -- ## nodes that are kept

  kept-by : (change : NodesChange) → ch.grows ≡ Growth.Nothing → ch.nodes ≡ change → (r : RequestId)
      → ((n : NodeId) → KeptAt r (node_in n s.nodes) (node_in n (nodes_changed ch.maker s.tick change s.nodes))) → KeptFor s (changed c ch s) r
  kept-by change size to r kept = λ n low. subst (λ (o : Option NodeRecord). KeptAt r (node_in n s.nodes) o) (sym (nodes-after c s ch ch.maker Growth.Nothing change refl size to n)) (kept n)

  kept-still : ch.grows ≡ Growth.Nothing → ch.nodes ≡ NodesChange.Same → (r : RequestId) → KeptFor s (changed c ch s) r
  kept-still size to r = kept-by NodesChange.Same size to r (λ n. kept-same r (node_in n s.nodes))

  others-freed : (r0 : RequestId) → ch.grows ≡ Growth.Nothing → ch.nodes ≡ NodesChange.FreeAll r0 → (r : RequestId) → same_request r0 r ≡ false → KeptFor s (changed c ch s) r
  others-freed r0 size to r other = kept-by (NodesChange.FreeAll r0) size to r (λ n. kept-freed r s.nodes n r0 other)

  -- ## an edit of a request

  edit-looks : (r0 : RequestId) (e : RequestEdit) (g : Growth) → NoRequest g → ch.grows ≡ g → ch.requests ≡ RequestsChange.Edit r0 e → (r : RequestId)
      → request_in r (changed c ch s).requests ≡ option_map (λ q. cond (same_request r0 r) (edited e q) q) (request_in r s.requests)
  edit-looks r0 e g none grows to r =
      requests-after c s ch ch.maker g (RequestsChange.Edit r0 e) refl grows to r ∙ rw (request_in-edit r0 r (edited e) (grown c ch.maker g s).requests, grown-request c ch.maker g s r none) refl

  one-edited : (r0 : RequestId) (e : RequestEdit) (q0 : RequestRecord) → ch.grows ≡ Growth.Nothing → ch.requests ≡ RequestsChange.Edit r0 e → request_in r0 s.requests ≡ Some q0
      → StandsIn (changed c ch s) r0 (edited e q0) (edited e q0).state → ((r : RequestId) → same_request r0 r ≡ false → KeptFor s (changed c ch s) r) → RequestsStand (changed c ch s)
  one-edited r0 e q0 size to stands anew others = edit-stand s (changed c ch s) below more r0 (edited e) q0 stood stands (edit-looks r0 e Growth.Nothing tt size to) anew others

  -- ## one more node

  gaining-served : (r : RequestId) (n : NodeId) (gains : Gains c s ch r n) → IsServed s r gains.request
  gaining-served r n gains = grind (arith, nat_tests)

  -- of the pool that serves the request
  gaining-pool : (r : RequestId) (n : NodeId) (gains : Gains c s ch r n) → gains.pool.0 ≡ (gaining-served r n gains).pool.0
  gaining-pool r n gains = grind (arith, nat_tests)

  gain-stand : (r : RequestId) (n : NodeId) (gains : Gains c s ch r n) (g : Growth) → NoRequest g → ch.grows ≡ g → ((x : RequestId) → KeptFor s (changed c ch s) x)
      → list_any (λ m. m.0 == n.0) gains.request.nodes ≡ false → n.0 < (changed c ch s).next_node
      → ((node : NodeRecord) → node_in n (changed c ch s).nodes ≡ Some node → IsFor r (gaining-served r n gains).pool gains.label node) → RequestsStand (changed c ch s)
  gain-stand r n gains g none grows kept out low fits =
      let served = gaining-served r n gains in
      let pending = and_parts (is_pending gains.request.state) (is_pool gains.pool gains.request.pool) gains.pending in
      let anew = served-more s (changed c ch s) below more r gains.request n gains.label (kept r) served gains.next out low fits in
      edit-stand s (changed c ch s) below more r (edited (RequestEdit.AddNode n)) gains.request stood gains.worked_on.stands (edit-looks r (RequestEdit.AddNode n) g none grows gains.edits)
      (grind (arith, nat_tests, pending.0, anew)) (λ x other. kept x)

  gains-stand : (r : RequestId) (n : NodeId) (gains : Gains c s ch r n) → IsTaken c s ch gains.pool r gains.request gains.label n ⊎ IsMade c s ch gains.pool r gains.request gains.label n → ch.nodes ≡ NodesChange.Same → RequestsStand (changed c ch s)
  gains-stand r n gains (inl taken) same =
      let tenant = tenant_of_request c gains.request in
      let looks : (m : NodeId) → node_in m (changed c ch s).nodes ≡ node_in m (change_first (λ e. e.id.0 == n.0) (allocated r tenant gains.worked_on.session) s.nodes) =
      nodes-after c s ch (Some (record { session = gains.worked_on.session; role = Launcher gains.pool })) (Growth.Allocate n r tenant) NodesChange.Same gains.worked_on.made_by taken.grows same in
      gain-stand r n gains (Growth.Allocate n r tenant) tt taken.grows
      (λ x m low. subst (λ (o : Option NodeRecord). KeptAt x (node_in m s.nodes) o) (sym (looks m)) (kept-allocated x s.nodes m n r tenant gains.worked_on.session taken.node taken.stands taken.free))
      (served-unlisted s r gains.request (gaining-served r n gains) n taken.node taken.stands taken.free)
      (lt_of_lt_of_le (node_in-below n s.next_node taken.node s.nodes below taken.stands) more)
      (λ node is. grind (arith, nat_tests, is, looks n, node_in-allocated n n r tenant gains.worked_on.session s.nodes, taken.stands, taken.of_pool, taken.of_label, gaining-pool r n gains, request-itself r))
  gains-stand r n gains (inr made) same =
      let new = new_node c s r gains.pool gains.request gains.label in
      let late : n.0 ≡ s.next_node = ap (λ (x : NodeId). x.0) made.number in
      let looks : (m : NodeId) → node_in m (changed c ch s).nodes ≡ node_in m (s.nodes ++ new_entry ch.maker s new ∷ []) = nodes-after c s ch ch.maker (Growth.Node new) NodesChange.Same refl made.grows same in
      let found : node_in n (changed c ch s).nodes ≡ Some new = looks n ∙ node_in-new (new_entry ch.maker s new) n s.nodes (eq-eqb s.next_node n.0 (sym late)) (node_in-later n s.next_node s.nodes below (omega arith)) in
      let grew : (changed c ch s).next_node ≡ s.next_node + 1 = next-after c s ch ch.maker (Growth.Node new) refl made.grows in
      gain-stand r n gains (Growth.Node new) tt made.grows
      (λ x m low. subst (λ (o : Option NodeRecord). KeptAt x (node_in m s.nodes) o) (sym (looks m)) (kept-push x s.nodes m (new_entry ch.maker s new) (above-apart s.next_node m.0 low)))
      (next-unlisted s.next_node n gains.request.nodes late (gaining-served r n gains).below)
      (omega arith)
      (λ node is. subst (λ (x : NodeRecord). IsFor r (gaining-served r n gains).pool gains.label x) (same_Some new node (sym found ∙ is)) (record { allocated = request-itself r; of_pool = gaining-pool r n gains; of_label = refl }))

  edits-stand : (r : RequestId) (e : RequestEdit) → ch.requests ≡ RequestsChange.Edit r e → EditPremise c s ch r e → RequestsStand (changed c ch s)
  edits-stand r (RequestEdit.Serve p) to may =
      one-edited r (RequestEdit.Serve p) may.request may.same_size to may.worked_on.stands (grind (arith, nat_tests, may.requested, stood r may.request may.worked_on.stands)) (λ x other. kept-still may.same_size may.same_nodes x)
  edits-stand r (RequestEdit.AddNode n) to may = gains-stand r n may.0 may.0.from may.1
  edits-stand r (RequestEdit.Decline p why failed) to may =
      one-edited r (RequestEdit.Decline p why failed) may.request may.same_size to may.worked_on.stands (grind (arith, nat_tests)) (others-freed r may.same_size may.frees)
  edits-stand r RequestEdit.Fulfil to may =
      let pending = and_parts (is_pending may.0.request.state) (is_pool may.0.pool may.0.request.pool) may.0.pending in
      let served = served-if s r may.0.request may.0.request.state pending.0 (stood r may.0.request may.0.worked_on.stands) in
      let owns = filled-owns s may.0.pool may.0.worked_on.session r may.0.request served pending.1 may.0.filled in
      one-edited r RequestEdit.Fulfil may.0.request may.0.same_size to may.0.worked_on.stands (owns-kept s (changed c ch s) below more r _ (kept-still may.0.same_size may.1 r) owns) (λ x other. kept-still may.0.same_size may.1 x)
  edits-stand r RequestEdit.GiveBack to may = one-edited r RequestEdit.GiveBack may.request may.same_size to may.stands (record { no_pool = refl; no_nodes = refl }) (others-freed r may.same_size may.frees)
  edits-stand r RequestEdit.Fail to may =
      one-edited r RequestEdit.Fail may.request may.same_size to may.stands (grind (arith, nat_tests, may.requested, stood r may.request may.stands)) (λ x other. kept-still may.same_size may.same_nodes x)
  edits-stand r (RequestEdit.Revise relative) to may =
      one-edited r (RequestEdit.Revise relative) may.request may.same_size to may.stands (grind (arith, nat_tests, may.requested, stood r may.request may.stands)) (λ x other. kept-still may.same_size may.same_nodes x)

  -- ## one request less

  one-removed : (r0 : RequestId) → ch.grows ≡ Growth.Nothing → ch.requests ≡ RequestsChange.Remove r0 → ((r : RequestId) → same_request r0 r ≡ false → KeptFor s (changed c ch s) r) → RequestsStand (changed c ch s)
  one-removed r0 size to others = stand-step s (changed c ch s) below more stood (λ r q is.
      let looks = requests-after c s ch ch.maker Growth.Nothing (RequestsChange.Remove r0) refl size to r in
      grind (arith, nat_tests, looks, request_in-remove r0 r s.requests, request_in-removed r0 r s.requests inv.numbered.requests_rise, others r, is))

  removes-stand : (r : RequestId) → ch.requests ≡ RequestsChange.Remove r → GoesFulfilled s ch r ⊎ (TakesOver c s ch r ⊎ GoesWithdrawn s ch r) → RequestsStand (changed c ch s)
  removes-stand r to (inl goes) = one-removed r goes.fulfils.same_size to (others-freed r goes.fulfils.same_size goes.frees)
  removes-stand r to (inr (inl takes)) =
      let owns = owns-if s r takes.request takes.request.state takes.fulfilled (stood r takes.request takes.request_stands) in
      one-removed r takes.same_size to (λ x other.
      kept-by (NodesChange.TakeOver takes.request.nodes) takes.same_size takes.takes x (λ n.
      kept-taken x s.nodes n r s.tick takes.request.nodes other (λ k among stands. (owned-node s r takes.request owns n k among stands).1)))
  removes-stand r to (inr (inr goes)) = one-removed r goes.withdraws.same_size to (λ x other. kept-still goes.withdraws.same_size goes.withdraws.same_nodes x)

  -- ## every request as it was, but for what grows

  calm-looks : IsCalm ch.requests → (g : Growth) → ch.grows ≡ g → (r : RequestId) → request_in r (changed c ch s).requests ≡ request_in r (grown c ch.maker g s).requests
  calm-looks calm g grows r = requests-after c s ch ch.maker g ch.requests refl grows refl r ∙ calm-request ch.maker ch.requests r (grown c ch.maker g s).requests calm

  calm-stand : IsCalm ch.requests → ch.grows ≡ Growth.Nothing → ((r : RequestId) (q : RequestRecord) → request_in r s.requests ≡ Some q → KeptFor s (changed c ch s) r) → RequestsStand (changed c ch s)
  calm-stand calm size kept = same-stand s (changed c ch s) below more stood (calm-looks calm Growth.Nothing size) kept

  kept-beside : (g : Growth) → ch.grows ≡ g → ch.nodes ≡ NodesChange.Same → NoNode g → (r : RequestId) → KeptFor s (changed c ch s) r
  kept-beside g grows to none r = λ n low. kept-looks r s.nodes n (changed c ch s).nodes (nodes-after c s ch ch.maker g NodesChange.Same refl grows to n ∙ grown-node c ch.maker g s n none)

  growth-stand : IsCalm ch.requests → (g : Growth) → ch.grows ≡ g → ch.nodes ≡ NodesChange.Same → GrowthPremise c s ch g → RequestsStand (changed c ch s)
  growth-stand calm (Growth.Request priority asked) grows to asks = stand-step s (changed c ch s) below more stood (λ r q is.
      let new = new_request priority asked s in
      let kept = kept-beside (Growth.Request priority asked) grows to tt r in
      let later = request_in-later r s.next_request s.requests inv.numbered.requests_below in
      grind (arith, nat_tests, calm-looks calm (Growth.Request priority asked) grows r, request_in-insert new r s.requests, request_in-new new r s.requests, later, same-seq (next_id priority s) r, asked-stands c s (changed c ch s) ch priority asked r asks, kept, is))
  growth-stand calm (Growth.Node kept) grows to new = absurd (subst (λ (x : RequestsChange). IsCalm x) new.gains.edits calm)
  growth-stand calm (Growth.Allocate n r tenant) grows to gains = absurd (subst (λ (x : RequestsChange). IsCalm x) gains.edits calm)
  growth-stand calm g grows to premise = same-stand s (changed c ch s) below more stood (λ r. calm-looks calm g grows r ∙ grown-request c ch.maker g s r tt) (λ r q stands. kept-beside g grows to tt r)

  nodes-stand : IsCalm ch.requests → (change : NodesChange) → ch.nodes ≡ change → NodesPremise c s ch change → GrowthPremise c s ch ch.grows → RequestsStand (changed c ch s)
  nodes-stand calm NodesChange.Same to premise growth = growth-stand calm ch.grows refl to growth
  nodes-stand calm (NodesChange.Put n kept) to puts growth =
      calm-stand calm puts.same_size (λ r q stands.
      kept-by (NodesChange.Put n kept) puts.same_size to r (λ m.
      kept-put r s.nodes m n puts.node kept puts.held.stands (way-keeps c s ch n puts.node kept (inv.owned.launches n puts.node puts.held.stands) r q stands puts.way)))
  nodes-stand calm (NodesChange.Remove n) to removes growth =
      calm-stand calm removes.same_size (λ r q stands.
      kept-by (NodesChange.Remove n) removes.same_size to r (λ m. kept-remove r s.nodes m n removes.node inv.numbered.nodes_rise removes.held.stands removes.deleting))
  nodes-stand calm (NodesChange.Leave n) to leaves growth =
      calm-stand calm leaves.same_size (λ r q stands.
      kept-by (NodesChange.Leave n) leaves.same_size to r (λ m. kept-looks r s.nodes m (nodes_changed ch.maker s.tick (NodesChange.Leave n) s.nodes) (leave-node ch.maker n m s.nodes)))
  nodes-stand calm (NodesChange.FreeAll r) to empties growth = absurd (empties-restless r ch.requests empties calm)
  nodes-stand calm (NodesChange.TakeOver numbers) to takes growth = absurd (subst (λ (x : RequestsChange). IsCalm x) takes.2.0 calm)

  -- ## all of it

  changes-stand : (change : RequestsChange) → ch.requests ≡ change → RequestsPremise c s ch change → NodesPremise c s ch ch.nodes → GrowthPremise c s ch ch.grows → RequestsStand (changed c ch s)
  changes-stand (RequestsChange.Edit r e) to premise by_nodes growth = edits-stand r e to premise
  changes-stand (RequestsChange.Remove r) to premise by_nodes growth = removes-stand r to premise
  changes-stand _ to premise by_nodes growth = nodes-stand (subst (λ (x : RequestsChange). IsCalm x) (sym to) tt) ch.nodes refl by_nodes growth

pub requests-stand : (c : Configuration) (s : State) (ch : Changes) → Invariant c s → Premises c s ch → RequestsStand (changed c ch s)
requests-stand c s ch inv pre = changes-stand c s ch inv ch.requests refl pre.requests pre.nodes pre.grows

-- # a launch runs only while its node builds, after what an accepted event changes

-- a launch runs only while the node builds
abbrev RunsRight : NodeRecord → Type 0
RunsRight k = k.in_flight ≡ true → is_building k.state ≡ true

module _ (c : Configuration) (s : State) (ch : Changes) (inv : Invariant c s) (pre : Premises c s ch) where
  new-right : (kept : NodeRecord) → ch.grows ≡ Growth.Node kept → (new : GainsNew c s ch kept)
      → IsTaken c s ch new.gains.pool new.request new.gains.request new.gains.label (record { 0 = s.next_node }) ⊎ IsMade c s ch new.gains.pool new.request new.gains.request new.gains.label (record { 0 = s.next_node }) → RunsRight kept
  new-right kept grows new x3 = grind (arith, nat_tests)

  taken-ready : (r : RequestId) (takes : TakesOver c s ch r) (n : NodeId) (k : NodeRecord) → list_any (λ m. m.0 == n.0) takes.request.nodes ≡ true → node_in n s.nodes ≡ Some k → is_ready k.state ≡ true
  taken-ready r takes n k among stands =
      (owned-node s r takes.request (owns-if s r takes.request takes.request.state takes.fulfilled (inv.owned.requests r takes.request takes.request_stands)) n k among stands).0

  changed-right : (n : NodeId) (old k : NodeRecord) → node_in n s.nodes ≡ Some old → NodeChange s ch n old k → RunsRight k
  changed-right n old k stood (IsPut puts) =
      let premise : PutsNode c s ch n k = subst (λ (change : NodesChange). NodesPremise c s ch change) puts pre.nodes in
      way-runs c s ch n premise.node k (inv.owned.launches n premise.node premise.held.stands) premise.way
  changed-right n old k stood (IsFreed r at mine now) = subst (λ (x : NodeRecord). RunsRight x) (sym now) (inv.owned.launches n old stood)
  changed-right n old k stood (IsUsed numbers at among now) =
      let takes = subst (λ (change : NodesChange). NodesPremise c s ch change) at pre.nodes in
      let listed : list_any (λ m. m.0 == n.0) takes.1.request.nodes ≡ true = subst (λ (xs : List NodeId). list_any (λ m. m.0 == n.0) xs ≡ true) takes.2.1 among in
      λ flies. absurd (ready-not_building old.state (taken-ready takes.0 takes.1 n old listed stood) (inv.owned.launches n old stood (subst (λ (x : NodeRecord). x.in_flight ≡ true) now flies)))
  changed-right n old k stood (IsAllocated r tenant at now) = subst (λ (x : NodeRecord). RunsRight x) (sym now) (inv.owned.launches n old stood)

  pub runs_while_building : RunsWhileBuilding (changed c ch s)
  runs_while_building n k is = by (node-step c s ch inv.numbered n pre) where
    by : NodeStep s ch n (node_in n s.nodes) (node_in n (changed c ch s).nodes) → RunsRight k
    by (Stays same) = inv.owned.launches n k (sym same ∙ is)
    by (Altered old new was now how) = subst (λ (x : NodeRecord). RunsRight x) (same_Some new k (sym now ∙ is)) (changed-right n old new was how)
    by (Added new none now grows number) =
        let gained : GainsNew c s ch new = subst (λ (g : Growth). GrowthPremise c s ch g) grows pre.grows in
        subst (λ (x : NodeRecord). RunsRight x) (same_Some new k (sym now ∙ is)) (new-right new grows gained gained.gains.from)
    by (Removed old was gone removes) = absurd (none-some k (sym gone ∙ is))

-- # a node that is allocated to a request is in its list

-- the node exists and is allocated to the request
record IsGivenTo (rows : List NodeEntry) (n : NodeId) (r : RequestId) : Type 0 where
  node : NodeRecord
  stands : node_in n rows ≡ Some node
  given : node.allocated_to ≡ Some r

-- the record that is put has the allocation of the one found, or none
put-given : (c : Configuration) (s : State) (ch : Changes) (n : NodeId) (kept : NodeRecord) (put : PutsNode c s ch n kept) (r : RequestId) → kept.allocated_to ≡ Some r → put.node.allocated_to ≡ Some r
put-given c s ch n kept put r given = grind (arith, nat_tests)

-- after all nodes of a request are free, none is allocated to it
none-of : (x : RequestId) (rows : List NodeEntry) (n : NodeId) (r : RequestId) → IsGivenTo (all_freed x rows) n r → same_request r x ≡ false
none-of x rows n r is = grind (arith, nat_tests, node_in-freed x n rows, is.stands, is.given)

-- ## what grows gives a node to a request that gains it

-- allocated before, or now to the request that gains the node
abbrev GivenBy : Configuration → State → Changes → NodeId → RequestId → Type 0
GivenBy c s ch n r = IsGivenTo s.nodes n r ⊎ Gains c s ch r n

new_given : (c : Configuration) (s : State) (r : RequestId) (n : NodeId) (ch : Changes) (gains : Gains c s ch r n) (kept : NodeRecord) → ch.grows ≡ Growth.Node kept → kept.allocated_to ≡ Some r
new_given c s r n ch gains kept grows = grind (arith, nat_tests)

given-by : (c : Configuration) (s : State) (ch : Changes) → IsNumbered s → Premises c s ch → (n : NodeId) (r : RequestId) → IsGivenTo (changed c ch s).nodes n r → GivenBy c s ch n r
given-by c s ch numbered pre n r is = grind (arith, nat_tests, node-step, put-given, none-some, new_given)

-- ## the lists of requests

abbrev has : NodeId → List NodeId → Bool
has n numbers = list_any (λ m. m.0 == n.0) numbers

has-before : (n m : NodeId) (numbers : List NodeId) → has n numbers ≡ true → has n (numbers ++ m ∷ []) ≡ true
has-before n m numbers is = grind (arith, list_any-append (λ (x : NodeId). x.0 == n.0) numbers (m ∷ []))

has-last : (n : NodeId) (numbers : List NodeId) → has n (numbers ++ n ∷ []) ≡ true
has-last n numbers = grind (arith, nat_tests, list_any-append (λ (x : NodeId). x.0 == n.0) numbers (n ∷ []))

module _ (c : Configuration) (s : State) (ch : Changes) (numbered : IsNumbered s) (old : AllocationsListed s) (premises : Premises c s ch) where
  listed-before : (n : NodeId) (r : RequestId) (q : RequestRecord) → IsGivenTo s.nodes n r → request_in r s.requests ≡ Some q → has n q.nodes ≡ true
  listed-before n r q is there = (old n is.node r is.stands is.given).listed q there

  -- a request that gains no node has the lists that it had
  kept-listed : (n : NodeId) (r : RequestId) (q : RequestRecord) → GivenBy c s ch n r → (Gains c s ch r n → ⊥) → request_in r s.requests ≡ Some q → has n q.nodes ≡ true
  kept-listed n r q (inl is) none there = listed-before n r q is there
  kept-listed n r q (inr gains) none there = absurd (none gains)

  -- no node is gained by another edit
  gains-by : (n : NodeId) (r : RequestId) (change : RequestsChange) → ch.requests ≡ change → (change ≡ RequestsChange.Edit r (RequestEdit.AddNode n) → ⊥) → Gains c s ch r n → ⊥
  gains-by n r change at other gains = other (sym at ∙ gains.edits)

  listed-edit : (n : NodeId) (r : RequestId) (q : RequestRecord) (e : RequestEdit) → ch.requests ≡ RequestsChange.Edit r e → EditPremise c s ch r e → (ch.nodes ≡ NodesChange.FreeAll r → ⊥) → GivenBy c s ch n r → request_in r s.requests ≡ Some q → has n (edited e q).nodes ≡ true
  listed-edit n r q (RequestEdit.AddNode m) at premise held given there = grind (arith, nat_tests, has-before n m q.nodes, has-last n q.nodes, listed-before n r q)
  listed-edit n r q (RequestEdit.Decline p why failed) at premise held given there = absurd (held premise.frees)
  listed-edit n r q RequestEdit.GiveBack at premise held given there = absurd (held premise.frees)
  listed-edit n r q _ at premise held given there = kept-listed n r q given (gains-by n r _ at (λ is. absurd cc)) there

  listed-after : (n : NodeId) (r : RequestId) (q : RequestRecord) (maker : Option Maker) (rows : List RequestEntry) → Rises (λ a b. is_id_before a.id b.id) rows → request_in r rows ≡ request_in r s.requests
      → (change : RequestsChange) → ch.requests ≡ change → RequestsPremise c s ch change → (ch.nodes ≡ NodesChange.FreeAll r → ⊥) → GivenBy c s ch n r → request_in r (requests_changed maker change rows) ≡ Some q → has n q.nodes ≡ true
  listed-after n r q maker rows rises same (RequestsChange.Edit x e) at premise held given is =
      by (edited-by (same_request x r) (edited e) (request_in r s.requests) q (ap (λ (o : Option RequestRecord). option_map (λ k. cond (same_request x r) (edited e k) k) o) (sym same) ∙ sym (request_in-edit x r (edited e) rows) ∙ is))
    where
      by : IsEdited (same_request x r) (edited e) (request_in r s.requests) q ⊎ ((same_request x r ≡ false) × (request_in r s.requests ≡ Some q)) → has n q.nodes ≡ true
      by (inl one) =
          let same_id : x ≡ r = request-equal x r one.passed in
          let at_r : ch.requests ≡ RequestsChange.Edit r e = at ∙ ap (λ (y : RequestId). RequestsChange.Edit y e) same_id in
          subst (λ (y : RequestRecord). has n y.nodes ≡ true) (sym one.now) (listed-edit n r one.old e at_r (subst (λ (y : RequestId). EditPremise c s ch y e) same_id premise) held given one.was)
      by (inr (other, there)) = kept-listed n r q given (gains-by n r _ at (λ both. let ids : x ≡ r = cc in absurd (let self : same_request x r ≡ true = subst (λ (y : RequestId). same_request x y ≡ true) ids (request-itself x) in cc))) there
  listed-after n r q maker rows rises same (RequestsChange.Remove x) at premise held given is =
      kept-listed n r q given (gains-by n r _ at (λ e. absurd cc)) (by_bool (λ _. request_in r s.requests ≡ Some q) (same_request x r)
      (λ which. absurd (let none : Some q ≡ None = sym is ∙ request_in-removed x r rows rises which in cc)) (λ which. sym same ∙ sym (request_in-remove x r rows which) ∙ is))
  listed-after n r q (Some maker) rows rises same (RequestsChange.Leave x) at premise held given is =
      kept-listed n r q given (gains-by n r _ at (λ e. absurd cc)) (sym same ∙ sym (request_in-queue x r (left maker.session (request_queue x rows)) rows) ∙ is)
  listed-after n r q maker rows rises same _ at premise held given is = kept-listed n r q given (gains-by n r _ at (λ e. absurd cc)) (sym same ∙ is)

  below-now : (n : NodeId) (r : RequestId) → GivenBy c s ch n r → r.seq < s.next_request
  below-now n r (inl is) = (old n is.node r is.stands is.given).below
  below-now n r (inr gains) = request_in-below r s.next_request gains.request s.requests numbered.requests_below gains.worked_on.stands

  pub allocations-listed : AllocationsListed (changed c ch s)
  allocations-listed n node r stands given =
      let t : State = grown c ch.maker ch.grows s in
      let t_numbered : IsNumbered t = grown-numbered c s ch.maker ch.grows numbered in
      let mid : IsGivenTo (nodes_changed ch.maker t.tick ch.nodes t.nodes) n r = record { node = node; stands = sym (left-node ch.sessions n _) ∙ stands; given = given } in
      let held : ch.nodes ≡ NodesChange.FreeAll r → ⊥ = (λ frees. let out : same_request r r ≡ false = none-of r t.nodes n r (subst (λ (change : NodesChange). IsGivenTo (nodes_changed ch.maker t.tick change t.nodes) n r) frees mid) in let self : same_request r r ≡ true = request-itself r in absurd cc) in
      let by : GivenBy c s ch n r = given-by c s ch numbered premises n r (record { node = node; stands = stands; given = given }) in
      let low : r.seq < s.next_request = below-now n r by in
      record {
        below = omega (arith, low, next-grown c ch.maker ch.grows s);
        listed = λ q is. listed-after n r q ch.maker t.requests t_numbered.requests_rise (found-grown c s ch.maker ch.grows r low) ch.requests refl premises.requests held by (sym (left-request ch.sessions r _) ∙ is);
      }
