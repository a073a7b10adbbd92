-- the members of groups: their ids and numbers, after a change from those before it, and made row by row
use Rattle.np_classes.proofs.Prelude.{AllByRecursion, AreClasses, AreGrouped, AreNodeGroups, AreRequestGroups, Bool, Changes, ClassesOf, Configuration, Declined, Group, IsNumbered, IsOrder, IsPast, IsReached, IsTouched, List, Member, NodeEntry, NodeId, NodeRecord, None, NonePass, Option, PastOf, Placed, PoolId, RequestEntry, RequestId, RequestRecord, Rises, SessionId, Some, State, TouchedOf, all-filter, all-mapped, all-moved, ap, arith, cases_lt, changed, cond, contrapositive, decline_digits, decline_set, each-moved, false, filter, find, group-equal, groups_of_node, groups_of_request, has_member, holder, if◌then◌else◌, inl, inr, invariant-Runs, is_among, is_declined_by, is_id_before, is_job_before, is_member_before, is_node_before, is_none, is_pending, is_session_before, is_unclaimed, job_equal, job_one_way, job_some_way, job_transitive, length, list_any, list_any-none, map, map-map, map-push, nat_lt, nat_tests, no_node_groups, no_request_groups, node_before, node_equal, node_groups, node_holder, node_in, node_is_in, node_one_way, node_some_way, node_transitive, numbered, option_and_then, option_map, option_map_or, or_false, or_parts, past_node, past_queue, past_request, placed_all, pow-le-pow_right, queue_before, refl, request_before, request_equal, request_groups, request_holder, request_in, request_is_in, request_one_way, request_some_way, request_transitive, rises-all_moved, same_group, same_job, same_node, same_request, same_session, session_equal, session_one_way, session_some_way, session_transitive, shift, slice_get, subst, suc, sym, take, take-all, take_there, touches_node, touches_request, touches_request_queue, true, unheld_groups, unheld_pending_group, unheld_pending_group_of, with_all_moved, with_groups, with_moved, zero, ℕ, [], ◌&&◌, ◌*◌, ◌++◌, ◌+◌, ◌<◌, ◌==◌, ◌^◌, ◌||◌, ◌∙◌, ◌∷◌, ◌≡◌, ◌≤◌, ◌⊎◌}
use Rattle.np_classes.proofs.Untouched.{node-untouched, queue-untouched, record-stays, unclaimed-untouched}

-- # an id is the same as itself, and not the same as one that comes before it

pub same_node-self : (a : NodeId) → same_node a a ≡ true
same_node-self a = grind (arith, nat_tests)

-- # rows by their ids, of which no two are the same

-- ## the members that pass, by tests that say the same

-- the same members pass both
pub filter-each : {X : Type 0} (p q : X → Bool) → ((x : X) → q x ≡ p x) → (xs : List X) → filter p xs ≡ filter q xs
filter-each p q same [] = refl
filter-each p q same (x ∷ xs) = rw (same x, filter-each p q same xs) refl

-- ## ids

module _ {X K : Type 0} (before same : K → K → Bool) (id : X → K)
    (is : (a b : K) → same a b ≡ true → a ≡ b) (apart : (a b : K) → before a b ≡ true → same b a ≡ false) where
  -- the ids of rows in order are in order
  pub ids-in_order : (xs : List X) → Rises (λ a b. before (id a) (id b)) xs → Rises before (map id xs)
  ids-in_order [] rises = tt
  ids-in_order (x ∷ xs) rises = (all-mapped (λ y. before (id x) (id y) ≡ true) (λ k. before (id x) k ≡ true) id xs (λ y order. order) rises.0, ids-in_order xs rises.1)

  -- no later row has the id
  later-none : (x : X) (k : K) (xs : List X) → same (id x) k ≡ true → AllByRecursion (λ y. before (id x) (id y) ≡ true) xs → NonePass (λ i. same i k) (map id xs)
  later-none x k xs here all =
      let one : id x ≡ k = is (id x) k here in
      all-mapped (λ y. before (id x) (id y) ≡ true) (λ i. same i k ≡ false) id xs (λ y order. apart k (id y) (rw one at order)) all

  module _ (test : X → Bool) (k : K) where
    -- the id is among those that pass if its row passes
    pub row-passes : (xs : List X) → Rises (λ a d. before (id a) (id d)) xs → list_any (λ i. same i k) (map id (filter test xs)) ≡ option_map_or test (find (λ e. same (id e) k) xs) false
    row-passes [] rises = refl
    row-passes (x ∷ xs) rises =
        let others : same (id x) k ≡ true → list_any (λ i. same i k) (map id (filter test xs)) ≡ false =
        λ here. list_any-none (λ i. same i k) (map id (filter test xs)) (later-none x k (filter test xs) here (all-filter (λ y. before (id x) (id y) ≡ true) test xs rises.0)) in
        grind (arith, others, row-passes xs rises.1)

  module _ (self : (a : K) → same a a ≡ true) where
    -- the rows that are found still are with a row before them
    fronts-found : (x : X) (xs ys : List X) → AllByRecursion (λ y. before (id x) (id y) ≡ true) ys → AllByRecursion (λ y. find (λ e. same (id e) (id y)) xs ≡ Some y) ys → AllByRecursion (λ y. find (λ e. same (id e) (id y)) (x ∷ xs) ≡ Some y) ys
    fronts-found x xs [] later all = tt
    fronts-found x xs (y ∷ ys) later all = (grind (arith, later.0, all.0, self (id x), is (id x) (id y), apart (id x) (id y)), fronts-found x xs ys later.1 all.1)

    -- each row is found by its id
    pub rows-found : (xs : List X) → Rises (λ a d. before (id a) (id d)) xs → AllByRecursion (λ x. find (λ e. same (id e) (id x)) xs ≡ Some x) xs
    rows-found [] rises = tt
    rows-found (x ∷ xs) rises = (rw (self (id x)) refl, fronts-found x xs xs rises.0 (rows-found xs rises.1))

-- # the pools among the declines as a number: how large it is, and which pools it names

abbrev pub digit : Bool → ℕ
digit b = if b then 1 else 0

-- two digits with what stands before them
digits-apart : (a b : Bool) (x y : ℕ) → digit a + 2 * x ≡ digit b + 2 * y → (a ≡ b) × (x ≡ y)
digits-apart a b x y same = grind (arith, nat_tests)

-- with one pool more
pub digits-more : (declined : List Declined) (p n : ℕ) → decline_digits declined p (suc n) ≡ digit (is_declined_by (record { 0 = p }) declined) + 2 * decline_digits declined (suc p) n
unfolding decline_digits
digits-more declined p n = refl

-- of no pools
pub digits-none : (declined : List Declined) (p : ℕ) → decline_digits declined p zero ≡ 0
unfolding decline_digits
digits-none declined p = refl

-- so many digits
pub digits-below : (declined : List Declined) (p n : ℕ) → decline_digits declined p n < 2 ^ n
digits-below declined p zero = omega (arith, digits-none declined p)
digits-below declined p (suc n) =
    let few : digit (is_declined_by (record { 0 = p }) declined) ≤ 1 = grind (arith, nat_tests) in
    omega (arith, few, digits-more declined p n, digits-below declined (suc p) n)

-- a number of at most 63 digits has room for one more in 64 bits
pub digits-room : (declined : List Declined) (p n set : ℕ) → n ≤ 63 → set ≡ decline_digits declined p n → set * 2 + 1 < 2 ^ 64
digits-room declined p n set few is =
    let most : 2 ^ n ≤ 2 ^ 63 = pow-le-pow_right {n = 2} (omega arith) few in
    omega (arith, most, digits-below declined p n, is)

-- one pool more, the one before
pub digits-down : (declined : List Declined) (p left rest more set bit : ℕ) → left ≡ suc p → more ≡ suc rest → set ≡ decline_digits declined left rest
    → bit ≡ digit (is_declined_by (record { 0 = p }) declined) → set * 2 + bit ≡ decline_digits declined p more
digits-down declined p left rest more set bit left_is more_is was is =
    let so_far : set ≡ decline_digits declined (suc p) rest = was ∙ ap (λ (at : ℕ). decline_digits declined at rest) left_is in
    let later : decline_digits declined p more ≡ decline_digits declined p (suc rest) = ap (λ (n : ℕ). decline_digits declined p n) more_is in
    omega (arith, so_far, later, digits-more declined p rest, is)

-- equal numbers name the same pools
digits-same : (a b : List Declined) (p n : ℕ) → decline_digits a p n ≡ decline_digits b p n
    → (k : ℕ) → p ≤ k → k < p + n → is_declined_by (record { 0 = k }) a ≡ is_declined_by (record { 0 = k }) b
digits-same a b p zero same k from below = absurd (omega arith)
digits-same a b p (suc n) same k from below =
    let both = digits-apart (is_declined_by (record { 0 = p }) a) (is_declined_by (record { 0 = p }) b) _ _ (sym (digits-more a p n) ∙ same ∙ digits-more b p n) in
    by both.0 (digits-same a b (suc p) n both.1 k) (cases_lt p k)
  where
    by : is_declined_by (record { 0 = p }) a ≡ is_declined_by (record { 0 = p }) b
        → (suc p ≤ k → k < suc p + n → is_declined_by (record { 0 = k }) a ≡ is_declined_by (record { 0 = k }) b)
        → (p < k) ⊎ (k ≤ p) → is_declined_by (record { 0 = k }) a ≡ is_declined_by (record { 0 = k }) b
    by first rest (inl later) = rest (omega arith) (omega arith)
    by first rest (inr here) =
        let at : p ≡ k = omega arith in
        subst (λ (x : ℕ). is_declined_by (record { 0 = x }) a ≡ is_declined_by (record { 0 = x }) b) at first

-- two requests with one set are declined by the same pools
pub same-declines : (a b : List Declined) → decline_set a ≡ decline_set b → (p : PoolId) → p.0 < 64 → is_declined_by p a ≡ is_declined_by p b
same-declines a b same p few = digits-same a b 0 64 same p.0 (omega arith) (omega arith)

-- # ids stay in groups, by their groups, while some of them move

-- ## the orders

pub nodes-in_order : IsOrder is_node_before same_node
nodes-in_order = record { transitive = node_transitive; one_way = node_one_way; some_way = node_some_way; equal = node_equal }

pub requests-in_order : IsOrder is_id_before same_request
requests-in_order = record { transitive = request_transitive; one_way = request_one_way; some_way = request_some_way; equal = request_equal }

pub jobs-in_order : IsOrder is_job_before same_job
jobs-in_order = record { transitive = job_transitive; one_way = job_one_way; some_way = job_some_way; equal = job_equal }

pub sessions-in_order : IsOrder is_session_before same_session
sessions-in_order = record { transitive = session_transitive; one_way = session_one_way; some_way = session_some_way; equal = session_equal }

-- no row has an id that is not listed
pub none-found : {E K : Type 0} (id : E → K) (same : K → K → Bool) (i : K) (rows : List E) → list_any (λ j. same j i) (map id rows) ≡ false → find (λ e. same (id e) i) rows ≡ None
none-found id same i [] out = refl
none-found id same i (e ∷ rows) out = let parts = or_parts (same (id e) i) (list_any (λ j. same j i) (map id rows)) out in rw parts.0 (none-found id same i rows parts.1)

module _ {K : Type 0} (before same : K → K → Bool) (order : IsOrder before same) where
  -- ## some ids move, and all others stay

  pub grouped-moved : (was now : K → List (Option Group)) (ids : List K) (ms : List (Member K)) → AreGrouped before same was ms
      → ((i : K) → list_any (λ j. same j i) ids ≡ false → now i ≡ was i)
      → AreGrouped before same now (with_all_moved before same now (placed_all was ids) ms)
  grouped-moved was now ids ms are stays = record {
    rises = rises-all_moved before same order.transitive order.one_way order.some_way order.equal now (placed_all was ids) ms are.rises;
    each = λ g i.
        each-moved before same order.transitive order.one_way order.some_way order.equal g i was now ids ms are.rises
        (are.each g i) (λ out. ap (is_among g) (stays i out));
  }

  -- ## all ids are put in their groups

  -- in no group
  abbrev nowhere : K → List (Option Group)
  nowhere i = []

  pub grouped-made : (now : K → List (Option Group)) (ids : List K) → ((g : Group) (i : K) → list_any (λ j. same j i) ids ≡ false → is_among g (now i) ≡ false)
      → AreGrouped before same now (with_all_moved before same now (placed_all nowhere ids) [])
  grouped-made now ids out = record {
    rises = rises-all_moved before same order.transitive order.one_way order.some_way order.equal now (placed_all nowhere ids) [] tt;
    each = λ g i.
        each-moved before same order.transitive order.one_way order.some_way order.equal g i nowhere now ids [] tt refl (λ none. out g i none);
  }

  moved-push : (now : K → List (Option Group)) (placed : List (Placed K)) (p : Placed K) (ms : List (Member K))
      → with_all_moved before same now (placed ++ p ∷ []) ms ≡ with_moved before same p.id p.groups (now p.id) (with_all_moved before same now placed ms)
  moved-push now [] p ms = refl
  moved-push now (q ∷ placed) p ms = moved-push now placed p (with_moved before same q.id q.groups (now q.id) ms)

  -- row by row
  module _ {E : Type 0} (id : E → K) (now : K → List (Option Group)) (rows : List E) where
    abbrev pub made : ℕ → List (Member K)
    made at = with_all_moved before same now (placed_all nowhere (map id (take at rows))) []

    pub made-next : (at : ℕ) (i : K) (ms later : List (Member K)) → Some i ≡ option_map id (slice_get rows at) → ms ≡ made at
        → later ≡ with_groups before same i [] (now i) ms → later ≡ made (at + 1)
    made-next at i ms later seen so_far put = by (slice_get rows at) refl (sym seen) where
      by : (o : Option E) → slice_get rows at ≡ o → option_map id o ≡ Some i → later ≡ made (at + 1)
      by None is is_i = absurd cc
      by (Some e) is is_i =
          let alike : id e ≡ i = cc in
          put ∙ ap (with_groups before same i [] (now i)) so_far
          ∙ sym (ap (λ (some : List E). with_all_moved before same now (placed_all nowhere (map id some)) []) (take_there rows at e is)
          ∙ ap (λ (ids : List K). with_all_moved before same now (placed_all nowhere ids) []) (map-push id (take at rows) e)
          ∙ ap (λ (placed : List (Placed K)). with_all_moved before same now placed []) (map-push (λ j. record { id = j; groups = nowhere j }) (map id (take at rows)) (id e))
          ∙ moved-push now (placed_all nowhere (map id (take at rows))) (record { id = id e; groups = [] }) []
          ∙ ap (λ (j : K). with_groups before same j [] (now j) (made at)) alike)

    -- an id that no row has is in no group
    pub made-all : (at : ℕ) (ms : List (Member K)) → at ≡ length rows → ms ≡ made at
        → ((g : Group) (i : K) → list_any (λ j. same j i) (map id rows) ≡ false → is_among g (now i) ≡ false) → AreGrouped before same now ms
    made-all at ms all is out =
        subst (AreGrouped before same now)
        (sym (is ∙ ap (λ (some : List E). with_all_moved before same now (placed_all nowhere (map id some)) []) (ap (λ (n : ℕ). take n rows) all ∙ take-all rows)))
        (grouped-made now (map id rows) out)

  -- number by number
  module _ (number : K → ℕ) (by_number : (i j : K) → same i j ≡ false → (number i == number j) ≡ false) (now : K → List (Option Group)) where
    -- the groups of the ids below a number
    abbrev pub below : ℕ → K → List (Option Group)
    below n i = cond (nat_lt (number i) n) (now i) []

    pub below-none : AreGrouped before same (below 0) []
    below-none = record { rises = tt; each = λ g i. grind (arith, nat_tests) }

    pub below-next : (n : ℕ) (i : K) (ms later : List (Member K)) → number i ≡ n → AreGrouped before same (below n) ms
        → later ≡ with_groups before same i [] (now i) ms → AreGrouped before same (below (n + 1)) later
    below-next n i ms later is are put =
        let here : below n i ≡ [] = grind (arith, nat_tests, is) in
        let there : below (n + 1) i ≡ now i = grind (arith, nat_tests, is) in
        subst (AreGrouped before same (below (n + 1)))
        (ap (λ (was : List (Option Group)). with_moved before same i was (below (n + 1) i) ms) here ∙ ap (λ (groups : List (Option Group)). with_groups before same i [] groups ms) there ∙ sym put)
        (grouped-moved (below n) (below (n + 1)) (i ∷ []) ms are (λ j out. grind (arith, nat_tests, is, by_number i j (sym (or_false (same i j)) ∙ out))))

-- ## calls

-- ids moved, as a call does it with a list that is passed
pub moved-by : {K P : Type 0} (before same : K → K → Bool) (now : K → List (Option Group)) (place : P → Placed K) (old was new : List (Member K)) (listed moved given : List P)
    → was ≡ old → moved ≡ listed → given ≡ moved
    → new ≡ with_all_moved before same now (map place given) was
    → new ≡ with_all_moved before same now (map place listed) old
moved-by before same now place old was new listed moved given was_is moved_is passed put =
    rw (put, was_is, passed, moved_is) refl

-- # the group of the pending requests that nobody holds, beside the other groups of a request

-- ## tests

-- what is moved where a queue is noted, after what is moved where a record is
pub noted-both : (q l before after old new : Bool) → (before ≡ true → old ≡ true) → (after ≡ true → new ≡ true) → (before ≡ true → new ≡ after)
    → (l ≡ false → q ≡ false → new ≡ old) → (l ≡ false → before ≡ false → after ≡ false → new ≡ old)
    → cond q (shift before after (cond l (shift old new old) old)) (cond l (shift old new old) old) ≡ new
noted-both q l before after old new was among alone stays others = grind (arith, nat_tests)

-- ## the groups of another class

abbrev is_group : Group → Option Group → Bool
is_group g o = option_map_or (λ h. same_group h g) o false

-- of a group of these pending requests the others are none
only-unheld : (p : PoolId) (k : RequestRecord) (unlocked : Bool) → is_among (unheld_pending_group p) (request_groups k unlocked) ≡ is_among (unheld_pending_group p) (unheld_pending_group_of k unlocked ∷ [])
only-unheld p k unlocked = grind arith

-- ## by the record, if the request is there

abbrev groups_by : Option RequestRecord → Bool → List (Option Group)
groups_by o unlocked = option_map_or (λ k. request_groups k unlocked) o no_request_groups

abbrev unheld_by : Option RequestRecord → Bool → Option Group
unheld_by o unlocked = option_and_then (λ k. unheld_pending_group_of k unlocked) o

-- the group is one of the request's
pub unheld-among : (g : Group) (o : Option RequestRecord) (unlocked : Bool) → is_among g (unheld_by o unlocked ∷ []) ≡ true → is_among g (groups_by o unlocked) ≡ true
unheld-among g o unlocked is = grind (arith, is)

of-pool : (g : Group) (o : Option RequestRecord) (unlocked : Bool) → is_among g (unheld_by o unlocked ∷ []) ≡ true → (p : PoolId) × (g ≡ unheld_pending_group p)
of-pool g None unlocked is = absurd cc
of-pool g (Some k) unlocked is = by (is_pending k.state && unlocked) k.pool is where
  by : (b : Bool) (pool : Option PoolId) → (is_group g (if b then option_map unheld_pending_group pool else None) || false) ≡ true → (p : PoolId) × (g ≡ unheld_pending_group p)
  by true None is = absurd cc
  by true (Some p) is = (p, sym (group-equal (unheld_pending_group p) g (sym (or_false (same_group (unheld_pending_group p) g)) ∙ is)))
  by false pool is = absurd cc

-- if the group is that of a pool, it is the only one of its class that a request can be in
pub unheld-alone : (g : Group) (o later : Option RequestRecord) (unlocked after : Bool) → is_among g (unheld_by o unlocked ∷ []) ≡ true
    → is_among g (groups_by later after) ≡ is_among g (unheld_by later after ∷ [])
unheld-alone g o later unlocked after is =
    let found : (p : PoolId) × (g ≡ unheld_pending_group p) = of-pool g o unlocked is in
    subst (λ (h : Group). is_among h (groups_by later after) ≡ is_among h (unheld_by later after ∷ [])) (sym found.1) (by found.0 later)
  where
    by : (p : PoolId) (o : Option RequestRecord) → is_among (unheld_pending_group p) (groups_by o after) ≡ is_among (unheld_pending_group p) (unheld_by o after ∷ [])
    by p None = refl
    by p (Some k) = only-unheld p k after

-- the other groups of a request whose record stays
pub others-stay : (g : Group) (o later : Option RequestRecord) (unlocked after : Bool) → later ≡ o
    → is_among g (unheld_by o unlocked ∷ []) ≡ false → is_among g (unheld_by later after ∷ []) ≡ false → is_among g (groups_by later after) ≡ is_among g (groups_by o unlocked)
others-stay g o later unlocked after same out later_out =
    ap (λ (x : Option RequestRecord). is_among g (groups_by x after)) same
    ∙ by o out (subst (λ (x : Option RequestRecord). is_among g (unheld_by x after ∷ []) ≡ false) same later_out)
  where
    by : (x : Option RequestRecord) → is_among g (unheld_by x unlocked ∷ []) ≡ false → is_among g (unheld_by x after ∷ []) ≡ false → is_among g (groups_by x after) ≡ is_among g (groups_by x unlocked)
    by None no_before no_after = refl
    by (Some k) no_before no_after = rw (sym (or_false _) ∙ no_before, sym (or_false _) ∙ no_after) refl

-- # the members of groups after a change, from those before it

-- the groups of what is not there are none
among-option : {X : Type 0} (g : Group) (f : X → List (Option Group)) (none : List (Option Group)) → is_among g none ≡ false → (o : Option X) → is_among g (option_map_or f o none) ≡ option_map_or (λ k. is_among g (f k)) o false
among-option g f none out None = out
among-option g f none out (Some k) = refl

pub node-among : (c : Configuration) (s : State) (g : Group) (n : NodeId) → is_among g (groups_of_node c s n) ≡ node_is_in c s g n
node-among c s g n = among-option g _ no_node_groups refl (node_in n s.nodes)

pub request-among : (s : State) (g : Group) (r : RequestId) → is_among g (groups_of_request s r) ≡ request_is_in s g r
request-among s g r = among-option g _ no_request_groups refl (request_in r s.requests)

-- the nodes by their groups
pub nodes-grouped : (c : Configuration) (s : State) (ms : List (Member NodeId)) → AreNodeGroups c s ms → AreGrouped is_node_before same_node (groups_of_node c s) ms
nodes-grouped c s ms are = record { rises = are.rises; each = λ g n. are.each g n ∙ sym (node-among c s g n) }

pub grouped-nodes : (c : Configuration) (s : State) (ms : List (Member NodeId)) → IsNumbered s → AreGrouped is_node_before same_node (groups_of_node c s) ms → AreNodeGroups c s ms
grouped-nodes c s ms numbers are = record { rises = are.rises; each = λ g n. are.each g n ∙ node-among c s g n; once = numbers.nodes_rise }

module _ (c : Configuration) (s : State) (ch : Changes) (touched : TouchedOf) (reached : IsReached c s) (all : IsTouched s ch touched) (later : IsNumbered (changed c ch s)) where
  node-stays : (n : NodeId) → list_any (λ m. same_node m n) touched.nodes ≡ false → groups_of_node c (changed c ch s) n ≡ groups_of_node c s n
  node-stays n out =
      let none : touches_node ch s n ≡ false = contrapositive (touches_node ch s n) (list_any (λ m. same_node m n) touched.nodes) (all.nodes n) out in
      let same = node-untouched c ch s n none in
      ap (λ (o : Option NodeRecord). option_map_or (λ k. node_groups c k (is_none (node_holder n (changed c ch s).nodes)) (is_unclaimed (changed c ch s) k)) o no_node_groups) same.0
      ∙ ap (λ (queue : List SessionId). option_map_or (λ k. node_groups c k (is_none (holder queue)) (is_unclaimed (changed c ch s) k)) (node_in n s.nodes) no_node_groups) same.1
      ∙ by none (node_in n s.nodes) refl
    where
      by : touches_node ch s n ≡ false → (o : Option NodeRecord) → node_in n s.nodes ≡ o
          → option_map_or (λ k. node_groups c k (is_none (node_holder n s.nodes)) (is_unclaimed (changed c ch s) k)) o no_node_groups
          ≡ option_map_or (λ k. node_groups c k (is_none (node_holder n s.nodes)) (is_unclaimed s k)) o no_node_groups
      by none None at = refl
      by none (Some k) at = ap (node_groups c k (is_none (node_holder n s.nodes))) (unclaimed-untouched c ch s n k (invariant-Runs c reached.journal s reached.runs).owned.allocations at none)

  nodes-noted : (past : PastOf) (ms new : List (Member NodeId)) → IsPast c s touched past → AreNodeGroups c s ms
      → new ≡ with_all_moved is_node_before same_node (groups_of_node c (changed c ch s)) (map node_before past.nodes) ms
      → AreNodeGroups c (changed c ch s) new
  nodes-noted past ms new listed old is =
      rw (is, listed.nodes, map-map node_before (past_node c s) touched.nodes)
      (grouped-nodes c (changed c ch s) _ later
      (grouped-moved is_node_before same_node nodes-in_order (groups_of_node c s) (groups_of_node c (changed c ch s)) touched.nodes ms (nodes-grouped c s ms old) node-stays))

  -- where neither its record nor its queue is touched
  stays-all : (r : RequestId) → list_any (λ x. same_request x r) touched.requests ≡ false → list_any (λ x. same_request x r) touched.queues ≡ false
      → groups_of_request (changed c ch s) r ≡ groups_of_request s r
  stays-all r out calm =
      let none : touches_request ch s r ≡ false = contrapositive (touches_request ch s r) (list_any (λ x. same_request x r) touched.requests) (all.requests r) out in
      let none_queued : touches_request_queue ch s r ≡ false = contrapositive (touches_request_queue ch s r) (list_any (λ x. same_request x r) touched.queues) (all.queues r) calm in
      ap (λ (o : Option RequestRecord). option_map_or (λ k. request_groups k (is_none (request_holder r (changed c ch s).requests))) o no_request_groups) (record-stays c s ch touched all r out)
      ∙ ap (λ (queue : List SessionId). option_map_or (λ k. request_groups k (is_none (holder queue))) (request_in r s.requests) no_request_groups) (queue-untouched c ch s r none none_queued)

  -- the members after the requests' records are noted, and after their queues are
  abbrev noted_records : List (Member RequestId) → List (Member RequestId)
  noted_records ms = with_all_moved is_id_before same_request (groups_of_request (changed c ch s)) (map (λ r. record { id = r; groups = groups_of_request s r }) touched.requests) ms

  abbrev noted_queues : List (Member RequestId) → List (Member RequestId)
  noted_queues ms = with_all_moved is_id_before same_request (unheld_groups (changed c ch s)) (map (λ r. record { id = r; groups = unheld_groups s r }) touched.queues) ms

  rises-records : (ms : List (Member RequestId)) → Rises (is_member_before is_id_before) ms → Rises (is_member_before is_id_before) (noted_records ms)
  rises-records ms rises =
      rises-all_moved is_id_before same_request request_transitive request_one_way request_some_way request_equal
      (groups_of_request (changed c ch s)) (map (λ r. record { id = r; groups = groups_of_request s r }) touched.requests) ms rises

  -- the groups that a request is in after both
  each-noted : (ms : List (Member RequestId)) → AreRequestGroups s ms → (g : Group) (r : RequestId) → has_member same_request g r (noted_queues (noted_records ms)) ≡ request_is_in (changed c ch s) g r
  each-noted ms old g r =
      all-moved is_id_before same_request request_transitive request_one_way request_some_way request_equal g r
      (unheld_groups s) (unheld_groups (changed c ch s)) touched.queues (noted_records ms) (rises-records ms old.rises)
      ∙ ap (λ (b : Bool). cond is_queue (shift (is_among g (unheld_groups s r)) (is_among g (unheld_groups (changed c ch s) r)) b) b)
      (all-moved is_id_before same_request request_transitive request_one_way request_some_way request_equal g r
      (groups_of_request s) (groups_of_request (changed c ch s)) touched.requests ms old.rises
      ∙ ap (λ (b : Bool). cond is_record (shift (is_among g (groups_of_request s r)) (is_among g (groups_of_request (changed c ch s) r)) b) b) (old.each g r ∙ sym (request-among s g r)))
      ∙ noted-both is_queue is_record (is_among g (unheld_groups s r)) (is_among g (unheld_groups (changed c ch s) r))
      (is_among g (groups_of_request s r)) (is_among g (groups_of_request (changed c ch s) r))
      (unheld-among g (request_in r s.requests) (is_none (request_holder r s.requests)))
      (unheld-among g (request_in r (changed c ch s).requests) (is_none (request_holder r (changed c ch s).requests)))
      (unheld-alone g (request_in r s.requests) (request_in r (changed c ch s).requests) (is_none (request_holder r s.requests)) (is_none (request_holder r (changed c ch s).requests)))
      (λ out calm. ap (is_among g) (stays-all r out calm))
      (λ out before_not after_not.
      others-stay g (request_in r s.requests) (request_in r (changed c ch s).requests) (is_none (request_holder r s.requests)) (is_none (request_holder r (changed c ch s).requests)) (record-stays c s ch touched all r out) before_not after_not)
      ∙ request-among (changed c ch s) g r
    where
      is_queue : Bool
      is_queue = list_any (λ x. same_request x r) touched.queues

      is_record : Bool
      is_record = list_any (λ x. same_request x r) touched.requests

  requests-noted : (past : PastOf) (ms new : List (Member RequestId)) → IsPast c s touched past → AreRequestGroups s ms
      → new ≡ with_all_moved is_id_before same_request (unheld_groups (changed c ch s)) (map queue_before past.queues)
      (with_all_moved is_id_before same_request (groups_of_request (changed c ch s)) (map request_before past.requests) ms)
      → AreRequestGroups (changed c ch s) new
  requests-noted past ms new listed old is =
      rw (is, listed.queues, listed.requests, map-map request_before (past_request s) touched.requests, map-map queue_before (past_queue s) touched.queues)
      (record {
        rises = rises-all_moved is_id_before same_request request_transitive request_one_way request_some_way request_equal
            (unheld_groups (changed c ch s)) (map (λ r. record { id = r; groups = unheld_groups s r }) touched.queues) (noted_records ms) (rises-records ms old.rises);
        each = each-noted ms old;
        once = later.requests_rise;
      })

-- ## all of it

-- what is touched moves to where it is after the change
pub classes-noted : (c site : Configuration) (s t : State) (ch : Changes) (touched : TouchedOf) (past : PastOf) (old new : ClassesOf)
    → new.nodes ≡ with_all_moved is_node_before same_node (groups_of_node site t) (map node_before past.nodes) old.nodes
    → new.requests ≡ with_all_moved is_id_before same_request (unheld_groups t) (map queue_before past.queues)
    (with_all_moved is_id_before same_request (groups_of_request t) (map request_before past.requests) old.requests)
    → IsReached c s → IsTouched s ch touched → IsPast c s touched past → site ≡ c → t ≡ changed c ch s → AreClasses c s old → AreClasses c (changed c ch s) new
classes-noted c site s t ch touched past old new nodes requests reached all listed same_site later_is was =
    let later : IsNumbered (changed c ch s) = numbered c s ch (invariant-Runs c reached.journal s reached.runs).numbered in
    record {
      nodes = nodes-noted c s ch touched reached all later past old.nodes new.nodes listed was.nodes (rw (← later_is, ← same_site) nodes);
      requests = requests-noted c s ch touched reached all later past old.requests new.requests listed was.requests (rw (← later_is) requests);
    }

-- members that stay are those of the same state
pub classes-same : (c : Configuration) (s : State) (old new : ClassesOf) → new.nodes ≡ old.nodes → new.requests ≡ old.requests → AreClasses c s old → AreClasses c s new
classes-same c s old new nodes requests was = record {
  nodes = subst (AreNodeGroups c s) (sym nodes) was.nodes;
  requests = subst (AreRequestGroups s) (sym requests) was.requests;
}

-- # the members of groups, made row by row

module _ (c : Configuration) (s : State) (reached : IsReached c s) where
  numbers : IsNumbered s
  numbers = (invariant-Runs c reached.journal s reached.runs).numbered

  abbrev pub nodes_made : ℕ → List (Member NodeId)
  nodes_made at = made is_node_before same_node nodes-in_order (λ (e : NodeEntry). e.id) (groups_of_node c s) s.nodes at

  pub nodes-made : (at : ℕ) (ms : List (Member NodeId)) → at ≡ length s.nodes → ms ≡ nodes_made at → AreNodeGroups c s ms
  nodes-made at ms all is =
      grouped-nodes c s ms numbers
      (made-all is_node_before same_node nodes-in_order (λ (e : NodeEntry). e.id) (groups_of_node c s) s.nodes at ms all is (λ g n out.
      ap (λ (o : Option NodeEntry). is_among g (option_map_or (λ k. node_groups c k (is_none (node_holder n s.nodes)) (is_unclaimed s k)) (option_map (λ e. e.kept) o) no_node_groups))
      (none-found (λ (e : NodeEntry). e.id) same_node n s.nodes out)))

  abbrev pub requests_made : ℕ → List (Member RequestId)
  requests_made at = made is_id_before same_request requests-in_order (λ (e : RequestEntry). e.id) (groups_of_request s) s.requests at

  pub requests-made : (at : ℕ) (ms : List (Member RequestId)) → at ≡ length s.requests → ms ≡ requests_made at → AreRequestGroups s ms
  requests-made at ms all is =
      let are : AreGrouped is_id_before same_request (groups_of_request s) ms =
      made-all is_id_before same_request requests-in_order (λ (e : RequestEntry). e.id) (groups_of_request s) s.requests at ms all is (λ g r out.
      ap (λ (o : Option RequestEntry). is_among g (option_map_or (λ k. request_groups k (is_none (request_holder r s.requests))) (option_map (λ e. e.kept) o) no_request_groups))
      (none-found (λ (e : RequestEntry). e.id) same_request r s.requests out)) in
      record { rises = are.rises; each = λ g r. are.each g r ∙ request-among s g r; once = numbers.requests_rise }
