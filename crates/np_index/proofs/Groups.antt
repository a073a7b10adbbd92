-- the groups of nodes and requests: what is in one, its members in order, and walks over groups beside one another
use Rattle.np_index.proofs.Prelude.{AllByRecursion, AreClasses, AreNodeGroups, AreRequestGroups, Bool, ClassesOf, Configuration, Group, IsLeast, LabelId, List, Member, NodeEntry, NodeId, None, Option, PoolId, RequestEntry, RequestId, RequestRecord, Rises, Rises-filter, Some, State, TenantId, UnheldKind, all-find, all-weaker, and_false, any-same, ap, arith, coming_group, coming_group_of, cond, decline_set, declined_group, declined_group_of, due_of, false, filter, find, find-passes, free_group, group-equal, group-itself, group-not_before, group-some_way, group-transitive, group_after, group_from, group_if, has_member, holder, ids-has, ids-in_order, ids-rise, ids_in, if◌then◌else◌, is_among, is_beside, is_coming, is_free_ready, is_group_before, is_id_before, is_in_tenant_group, is_kind, is_member_before, is_node_before, is_none, is_pending_by, is_pinned_as, is_place, is_ready, is_spare, is_spent_min_ready, is_still_requested, is_unclaimed, is_unheld_as, is_unheld_pending, kind_group, label_group, label_if, later-node-apart, later-request-apart, least-found, list_any, list_any-none, map, nat_lt, nat_tests, next_label, next_label_group_of, node_entry, node_equal, node_groups, node_one_way, none-find, not, not-true, option_map, option_map_or, or_right, pending_group, pending_group_of, pinned_label_group_of, refl, request-itself, request_entry, request_equal, request_groups, request_holder, request_in, request_one_way, row-passes, rows-found, same-list, same_group, same_kind, same_member, same_node, same_node-self, same_request, spare_group, spent_group, spent_group_of, subst, sym, tenant_group, third_if, true, unheld_group, unheld_group_of, unheld_kind, unheld_pending_group, unheld_pending_group_of, ℕ, [], ◌&&◌, ◌<◌, ◌==◌, ◌||◌, ◌∙◌, ◌∷◌, ◌≡◌}

-- # whether a member of a list passes a test

-- two tests that say the same of each member of the list
pub any-each : {X : Type 0} (p q : X → Bool) (xs : List X) → AllByRecursion (λ x. p x ≡ q x) xs → list_any p xs ≡ list_any q xs
any-each p q [] all = refl
any-each p q (x ∷ xs) all = rw (all.0, any-each p q xs all.1) refl

-- a test that is one of two others
pub any-either : {X : Type 0} (p q r : X → Bool) → ((x : X) → p x ≡ (q x || r x)) → (xs : List X) → list_any p xs ≡ (list_any q xs || list_any r xs)
any-either p q r either [] = refl
any-either p q r either (x ∷ xs) = let here = either x in grind (arith, any-either p q r either xs)

-- ## the first member that passes

-- it is found where some member passes
pub any-find : {X : Type 0} (p : X → Bool) (xs : List X) → list_any p xs ≡ true → (x : X) × (find p xs ≡ Some x)
any-find p [] some = absurd cc
any-find {X = X} p (x ∷ xs) some = by (p x) (any-find p xs) some where
  by : (b : Bool) → (list_any p xs ≡ true → (y : X) × (find p xs ≡ Some y)) → (b || list_any p xs) ≡ true → (y : X) × (cond b (Some x) (find p xs) ≡ Some y)
  by true later is = (x, refl)
  by false later is = later is

-- if it passes another test, some member passes that
pub find-any : {X : Type 0} (p q : X → Bool) (xs : List X) (x : X) → find p xs ≡ Some x → q x ≡ true → list_any q xs ≡ true
find-any p q [] x found is = absurd cc
find-any p q (y ∷ xs) x found is = grind (arith, find-any p q xs x)

-- a member that passes the first test passes the second
pub any-weaker : {X : Type 0} (p q : X → Bool) → ((x : X) → p x ≡ true → q x ≡ true) → (xs : List X) → list_any p xs ≡ true → list_any q xs ≡ true
any-weaker p q weaker xs some =
    let found = any-find p xs some in
    find-any p q xs found.0 found.1 (weaker found.0 (find-passes p xs found.0 found.1))

-- # each row is found by its id

module _ (c : Configuration) (s : State) (classes : ClassesOf) (are : AreClasses c s classes) where
  -- each node is found by its number
  pub nodes-found : AllByRecursion (λ (e : NodeEntry). node_entry e.id s.nodes ≡ Some e) s.nodes
  nodes-found = rows-found is_node_before same_node (λ (e : NodeEntry). e.id) node_equal later-node-apart same_node-self s.nodes are.nodes.once

  -- each request is found by its id
  pub requests-found : AllByRecursion (λ (e : RequestEntry). request_entry e.id s.requests ≡ Some e) s.requests
  requests-found = rows-found is_id_before same_request (λ (e : RequestEntry). e.id) request_equal later-request-apart request-itself s.requests are.requests.once

-- # what it says of a node or a request that it is in a group

-- ## nodes

-- the groups of a row
abbrev pub groups_of : Configuration → State → NodeEntry → List (Option Group)
groups_of c s e = node_groups c e.kept (is_none (holder e.queue)) (is_unclaimed s e.kept)

-- the groups by kind are none of the others
low : (p q : PoolId) (l : LabelId) (kind : UnheldKind) (due : ℕ) (free spare : Bool) (t : Option TenantId) (rest : List (Option Group))
    → is_among (unheld_group p kind due) (Some (kind_group q l) ∷ group_if free (free_group l) ∷ group_if spare (spare_group q l) ∷ option_map (λ t. tenant_group t q l) t ∷ rest) ≡ is_among (unheld_group p kind due) rest
low p q l UnheldKind.Free due free spare t rest = grind arith
low p q l _ due free spare t rest = grind arith

-- the group by the kind of a node that nobody holds
kind-by : (p q : PoolId) (kind : UnheldKind) (d : UnheldKind → ℕ) (due : ℕ) (o : Option UnheldKind) (unlocked : Bool) → is_among (unheld_group p kind due) ((if unlocked then option_map (λ k. unheld_group q k (d k)) o else None) ∷ [])
    ≡ ((((q.0 == p.0) && unlocked) && option_map_or (same_kind kind) o false) && (d kind == due))
kind-by p q UnheldKind.Free d due o unlocked = grind arith
kind-by p q _ d due o unlocked = grind arith

module _ (c : Configuration) (s : State) (e : NodeEntry) where
  module _ (p : PoolId) (l : LabelId) where
    -- the nodes of a pool and a label
    pub kind-test : is_among (kind_group p l) (groups_of c s e) ≡ is_kind p l e
    kind-test = grind arith

    -- the unused ones among them
    pub spare-test : is_among (spare_group p l) (groups_of c s e) ≡ is_spare p l e
    spare-test = grind arith

  -- the free ready nodes of a label
  pub free-test : (l : LabelId) → is_among (free_group l) (groups_of c s e) ≡ is_free_ready l e
  free-test l = grind arith

  -- a tenant's nodes of a pool and a label
  pub tenant-test : (t : TenantId) (p : PoolId) (l : LabelId) → is_among (tenant_group t p l) (groups_of c s e) ≡ is_in_tenant_group (tenant_group t p l) e
  tenant-test t p l = grind arith

  -- the nodes of a pool that nobody holds, of a kind, that are due at a tick
  pub due-test : (p : PoolId) (kind : UnheldKind) (due : ℕ) → is_among (unheld_group p kind due) (groups_of c s e) ≡ (is_unheld_as s p kind e && (due_of c kind e.kept == due))
  due-test p kind due =
      let unlocked = is_none (holder e.queue) in
      low p e.kept.pool e.kept.label kind due (is_ready e.kept.state && is_none e.kept.allocated_to) (is_ready e.kept.state && is_none e.kept.allocated_to && unlocked) e.kept.tenant
      (unheld_group_of c e.kept unlocked (is_unclaimed s e.kept) ∷ [])
      ∙ kind-by p e.kept.pool kind (λ k. due_of c k e.kept) due (unheld_kind (is_unclaimed s e.kept) e.kept) unlocked

-- ## requests

-- the groups of a row
abbrev pub groups_of_request : RequestEntry → List (Option Group)
groups_of_request e = request_groups e.kept (is_none (holder e.queue))

-- the requests that are pending by a pool
pub pending-test : (p : PoolId) (e : RequestEntry) → is_among (pending_group p) (groups_of_request e) ≡ is_pending_by p e.kept
pending-test p e = grind arith

-- the requests that are pending by a pool and that nobody holds
pub unheld_pending-test : (p : PoolId) (e : RequestEntry) → is_among (unheld_pending_group p) (groups_of_request e) ≡ is_unheld_pending p e
unheld_pending-test p e = grind arith

-- the min-ready requests for a label that are not over
pub coming-test : (l : LabelId) (e : RequestEntry) → is_among (coming_group l) (groups_of_request e) ≡ is_coming l e
coming-test l e = grind arith

-- the failed min-ready requests of a pool for a label
pub spent-test : (p : PoolId) (l : LabelId) (e : RequestEntry) → is_among (spent_group p l) (groups_of_request e) ≡ is_spent_min_ready p l e
spent-test p l e = grind arith

-- the requests that are requested, and that the pools of this set declined
pub declined-test : (set : ℕ) (e : RequestEntry) → is_among (declined_group set) (groups_of_request e) ≡ (is_still_requested e.kept && (decline_set e.kept.declined == set))
declined-test set e = grind arith

-- ## requests by their next label

-- pinned or not, pending by the pool, and its next label is this one
abbrev pub waits_for : Bool → PoolId → LabelId → RequestRecord → Bool
waits_for pinned p l k = is_pinned_as pinned k && (is_pending_by p k && option_map_or (λ other. other.0 == l.0) (next_label k) false)

-- the requests of a pool that wait for a label
pub label-test : (pinned : Bool) (p : PoolId) (l : LabelId) (e : RequestEntry) → is_among (label_group pinned p l) (groups_of_request e) ≡ waits_for pinned p l e.kept
label-test pinned p l e = grind arith

-- # the members of a group are the rows that are in it, in order

-- ## any rows

module _ {X K : Type 0} (before same : K → K → Bool) (id : X → K) (one_way : (a b : K) → before a b ≡ true → before b a ≡ false) (equal : (a b : K) → same a b ≡ true → a ≡ b)
    (later : (a b : K) → before a b ≡ true → same b a ≡ false) (itself : (a : K) → same a a ≡ true) (ms : List (Member K)) (rises : Rises (is_member_before before) ms)
    (rows : List X) (once : Rises (λ a b. before (id a) (id b)) rows) where
  -- the ids of a group are those of the rows that pass, in order, if it has the id of each such row and no other
  rows-by : (g : Group) (test : X → Bool) → ((k : K) → has_member same g k ms ≡ option_map_or test (find (λ (x : X). same (id x) k) rows) false) → ids_in g ms ≡ map id (filter test rows)
  rows-by g test each =
      same-list before same one_way equal itself (ids_in g ms) (map id (filter test rows)) (ids-rise g before ms rises)
      (ids-in_order before same id equal later (filter test rows) (Rises-filter (λ (a b : X). before (id a) (id b)) test rows once))
      (λ k. ids-has same g k ms ∙ each k ∙ sym (row-passes before same id equal later test k rows once))

-- ## nodes

-- the ids of a group are those of the nodes that are in it, by number
pub nodes-by : (c : Configuration) (s : State) (ms : List (Member NodeId)) → AreNodeGroups c s ms → (g : Group) (test : NodeEntry → Bool) → ((e : NodeEntry) → is_among g (groups_of c s e) ≡ test e)
    → ids_in g ms ≡ map (λ e. e.id) (filter test s.nodes)
nodes-by c s ms are g test same =
    rows-by is_node_before same_node (λ (e : NodeEntry). e.id) node_one_way node_equal later-node-apart same_node-self ms are.rises s.nodes are.once g test
    (λ n. are.each g n ∙ by (node_entry n s.nodes))
  where
    by : (o : Option NodeEntry) → option_map_or (λ k. is_among g (node_groups c k (is_none (holder (option_map_or (λ (e : NodeEntry). e.queue) o []))) (is_unclaimed s k))) (option_map (λ (e : NodeEntry). e.kept) o) false
        ≡ option_map_or test o false
    by None = refl
    by (Some e) = same e

-- ## requests

-- the ids of a group are those of the requests that are in it, by priority and then sequence
pub requests-by : (s : State) (ms : List (Member RequestId)) → AreRequestGroups s ms → (g : Group) (test : RequestEntry → Bool) → ((e : RequestEntry) → is_among g (groups_of_request e) ≡ test e)
    → ids_in g ms ≡ map (λ e. e.id) (filter test s.requests)
requests-by s ms are g test same =
    rows-by is_id_before same_request (λ (e : RequestEntry). e.id) request_one_way request_equal later-request-apart request-itself ms are.rises s.requests are.once g test
    (λ r. are.each g r ∙ by (request_entry r s.requests))
  where
    by : (o : Option RequestEntry) → option_map_or (λ k. is_among g (request_groups k (is_none (holder (option_map_or (λ (e : RequestEntry). e.queue) o []))))) (option_map (λ (e : RequestEntry). e.kept) o) false
        ≡ option_map_or test o false
    by None = refl
    by (Some e) = same e

-- # the walk over groups that differ in their third number alone

-- the number is below the next, if there is one
abbrev pub is_below : Option ℕ → ℕ → Bool
is_below None k = true
is_below (Some n) k = nat_lt k n

pub not-both : (a b : Bool) → (not a || not b) ≡ true → a ≡ true → b ≡ false
not-both a b is first = grind arith

-- what is true of each member is true of a group with a member
pub group-each : {K : Type 0} (P : Group → Type 0) (ms : List (Member K)) → AllByRecursion (λ (m : Member K). P m.group) ms → (g : Group) → list_any (λ (m : Member K). same_group m.group g) ms ≡ true → P g
group-each {K = K} P ms all g some =
    let found = any-find (λ (m : Member K). same_group m.group g) ms some in
    subst P (group-equal found.0.group g (find-passes (λ (m : Member K). same_group m.group g) ms found.0 found.1))
    (all-find (λ (m : Member K). P m.group) (λ (m : Member K). same_group m.group g) ms found.0 all found.1)

-- the first group that passes is not after one that passes and has a member
pub found-upto : {K : Type 0} (before : K → K → Bool) (ms : List (Member K)) → Rises (is_member_before before) ms → (q : Group → Bool) (g : Group) → q g ≡ true → list_any (λ (m : Member K). same_group m.group g) ms ≡ true
    → option_map_or (λ (m : Member K). is_group_before g m.group) (find (λ (m : Member K). q m.group) ms) true ≡ false
found-upto {K = K} before ms rises q g passes there = by (find (λ (m : Member K). q m.group) ms) refl where
  by : (o : Option (Member K)) → find (λ (m : Member K). q m.group) ms ≡ o → option_map_or (λ (m : Member K). is_group_before g m.group) o true ≡ false
  by None found = let out : q g ≡ false = group-each (λ h. q h ≡ false) ms (none-find (λ (m : Member K). q m.group) ms found) g there in absurd cc
  by (Some m) found =
      not-both (q g) (is_group_before g m.group)
      (group-each (λ h. (not (q h) || not (is_group_before h m.group)) ≡ true) ms (least-found before q ms rises m.group (ap (option_map (λ (m : Member K). m.group)) found)).least g there) passes

module _ (class first second : ℕ) where
  abbrev pub third_group : ℕ → Group
  third_group third = record { class = class; first = first; second = second; third = third }

  module _ {K : Type 0} (before : K → K → Bool) (ms : List (Member K)) (rises : Rises (is_member_before before) ms) where
    -- the group has a member
    abbrev pub has_third : ℕ → Bool
    has_third k = list_any (λ (m : Member K). same_group m.group (third_group k)) ms

    -- no group that passes and has a member is below the first that passes
    no-third : (q : Group → Bool) → ((h : Group) → q h ≡ true → is_group_before h (third_group 0) ≡ false) → (k : ℕ) → q (third_group k) ≡ true → has_third k ≡ true
        → is_below (third_if (third_group 0) (option_map (λ m. m.group) (find (λ (m : Member K). q m.group) ms))) k ≡ false
    no-third q low k passes there = by (find (λ (m : Member K). q m.group) ms) refl (found-upto before ms rises q (third_group k) passes there) where
      by : (o : Option (Member K)) → find (λ (m : Member K). q m.group) ms ≡ o → option_map_or (λ (m : Member K). is_group_before (third_group k) m.group) o true ≡ false → is_below (third_if (third_group 0) (option_map (λ m. m.group) o)) k ≡ false
      by None found past = absurd cc
      by (Some m) found past = let above = low m.group (find-passes (λ (m : Member K). q m.group) ms m found) in grind (arith, nat_tests)

    -- no group with a member is below the first
    pub from-past : (k : ℕ) → has_third k ≡ true → is_below (third_if (third_group 0) (group_from (third_group 0) ms)) k ≡ false
    from-past k there = no-third (λ h. not (is_group_before h (third_group 0))) (λ h past. not-true (is_group_before h (third_group 0)) past) k (grind (arith, nat_tests)) there

    -- the first has a member
    pub from-has : (n : ℕ) → third_if (third_group 0) (group_from (third_group 0) ms) ≡ Some n → has_third n ≡ true
    from-has n is = by (find (λ (m : Member K). not (is_group_before m.group (third_group 0))) ms) refl is where
      by : (o : Option (Member K)) → find (λ (m : Member K). not (is_group_before m.group (third_group 0))) ms ≡ o → third_if (third_group 0) (option_map (λ m. m.group) o) ≡ Some n → has_third n ≡ true
      by None found it = absurd cc
      by (Some m) found it = find-any (λ (m : Member K). not (is_group_before m.group (third_group 0))) (λ (m : Member K). same_group m.group (third_group n)) ms m found (grind (arith, nat_tests))

    module _ (n : ℕ) where
      -- none between this group and the next has a member
      pub after-past : (k : ℕ) → nat_lt n k ≡ true → has_third k ≡ true → is_below (third_if (third_group 0) (group_after (third_group n) ms)) k ≡ false
      after-past k greater there = no-third (λ h. is_group_before (third_group n) h) (λ h past. grind (arith, nat_tests)) k (grind (arith, nat_tests)) there

      -- the next is greater
      pub after-more : (k : ℕ) → third_if (third_group 0) (group_after (third_group n) ms) ≡ Some k → nat_lt n k ≡ true
      after-more k is = let passes = find-passes (λ (m : Member K). is_group_before (third_group n) m.group) ms in grind (arith, nat_tests)

-- # the walk over the labels of a class and a pool

-- ## groups beside one another

-- the group of a class, a first number and a label
abbrev pub group_of : ℕ → ℕ → LabelId → Group
group_of class first l = record { class = class; first = first; second = l.0; third = 0 }

-- that of the first label
abbrev pub first_group : ℕ → ℕ → Group
first_group class first = record { class = class; first = first; second = 0; third = 0 }

-- a group beside one of them is one of them, if its third number is 0
pub beside-is : (class first : ℕ) (h : Group) → is_beside h (first_group class first) ≡ true → h.third ≡ 0 → h ≡ group_of class first (record { 0 = h.second })
beside-is class first h here flat = group-equal h (group_of class first (record { 0 = h.second })) (grind (arith, nat_tests))

-- the third number of each member that is beside them is 0
abbrev pub AreFlat : {K : Type 0} → ℕ → ℕ → List (Member K) → Type 0
AreFlat class first ms = AllByRecursion (λ m. is_beside m.group (first_group class first) ≡ true → m.group.third ≡ 0) ms

-- so is that of a group with a member
flat-group : {K : Type 0} (class first : ℕ) (ms : List (Member K)) → AreFlat class first ms → (h : Group) → list_any (λ (m : Member K). same_group m.group h) ms ≡ true
    → is_beside h (first_group class first) ≡ true → h.third ≡ 0
flat-group class first ms flat h some here = group-each (λ g. is_beside g (first_group class first) ≡ true → g.third ≡ 0) ms flat h some here

pub beside-of : (class first : ℕ) (l : LabelId) → is_beside (group_of class first l) (first_group class first) ≡ true
beside-of class first l = grind (arith, nat_tests)

-- a later group that is not beside this one comes after all that are
pub beside-before : (g m h : Group) → is_beside m g ≡ true → is_beside h g ≡ false → is_group_before h g ≡ false → is_group_before m h ≡ true
beside-before g m h here other past = grind (arith, nat_tests)

-- what is not before a group that is not before this one, is not before this one
pub from-up : (g m h : Group) → not (is_group_before h g) ≡ true → is_group_before m h ≡ false → not (is_group_before m g) ≡ true
from-up g m h past later = by (is_group_before m g) (same_group h g) refl refl where
  by : (b same : Bool) → is_group_before m g ≡ b → same_group h g ≡ same → not b ≡ true
  by false same is alike = refl
  by true true is alike = absurd (let before : is_group_before m h ≡ true = rw (group-equal h g alike) is in cc)
  by true false is alike = absurd (let before : is_group_before m h ≡ true = group-transitive m g h is (group-some_way h g (not-true (is_group_before h g) past) alike) in cc)

pub after-up : (g m h : Group) → is_group_before g h ≡ true → is_group_before m h ≡ false → is_group_before g m ≡ true
after-up g m h past later = by (same_group m h) refl where
  by : (same : Bool) → same_group m h ≡ same → is_group_before g m ≡ true
  by true alike = rw (group-equal m h alike) past
  by false alike = group-transitive g h m past (group-some_way m h later alike)

beside-first : (class first : ℕ) (h : Group) → is_beside h (first_group class first) ≡ true → is_group_before h (first_group class first) ≡ false
beside-first class first h here = grind (arith, nat_tests)

after-low-label : (class first : ℕ) (l : LabelId) (h : Group) → is_group_before (group_of class first l) h ≡ true → is_group_before h (first_group class first) ≡ false
after-low-label class first l h past = grind (arith, nat_tests)

after-order : (class first : ℕ) (l k : LabelId) → is_group_before (group_of class first l) (group_of class first k) ≡ true → l.0 < k.0
after-order class first l k past = grind (arith, nat_tests)

group-turn : (g m : Group) → same_group m g ≡ false → is_group_before g m ≡ not (is_group_before m g)
group-turn g m other = grind (arith, nat_tests)

-- ## one member

past-by : (a b t : Bool) → (b ≡ true → a ≡ false) → (not a && (b && t)) ≡ (b && t)
past-by a b t past = grind arith

-- a member that is not before the least one that passes, passes
kept-by : (a b w : Bool) → (not a || not b) ≡ true → (b ≡ false → a ≡ true) → (a && w) ≡ (not b && w)
kept-by a b w least up = grind arith

-- none beside it passes, if the least is not beside it
gone-by : (a b k t : Bool) → (not a || not b) ≡ true → (k ≡ true → b ≡ true) → (a && (k && t)) ≡ false
gone-by a b k t least all = grind arith

module _ (class first : ℕ) (test : LabelId → Bool) where
  -- of the class and the first number, and its label passes
  abbrev pub is_wanted : Group → Bool
  is_wanted h = is_beside h (first_group class first) && test (record { 0 = h.second })

  -- a label that does not pass: what passes and is not before it is after it
  later-by : (l : LabelId) (m : Group) (b : Bool) → same_group m (group_of class first l) ≡ b → test l ≡ false
      → (is_group_before (group_of class first l) m && is_wanted m) ≡ (not (is_group_before m (group_of class first l)) && is_wanted m)
  later-by l m true same fails =
      let out : is_wanted m ≡ false = subst (λ (h : Group). is_wanted h ≡ false) (sym (group-equal m (group_of class first l) same))
      (rw fails (and_false (is_beside (group_of class first l) (first_group class first)))) in
      ap (λ (b : Bool). is_group_before (group_of class first l) m && b) out ∙ and_false (is_group_before (group_of class first l) m)
      ∙ sym (ap (λ (b : Bool). not (is_group_before m (group_of class first l)) && b) out ∙ and_false (not (is_group_before m (group_of class first l))))
  later-by l m false other fails = ap (λ (b : Bool). b && is_wanted m) (group-turn (group_of class first l) m other)

  -- a label that a group was found of
  label-is : (h : Group) (b : Bool) (l : LabelId) → is_beside h (first_group class first) ≡ b → (is_beside h (first_group class first) ≡ true → h.third ≡ 0)
      → (if b then Some (record { 0 = h.second }) else None) ≡ Some l → h ≡ group_of class first l
  label-is h true l here flat is =
      let same : record { 0 = h.second } ≡ l = cc in
      beside-is class first h here (flat here) ∙ ap (group_of class first) same
  label-is h false l other flat is = absurd cc

  module _ {K : Type 0} (ms : List (Member K)) where
    -- whether a member passes that is not of a group before the label's
    abbrev pub rest_from : Option LabelId → Bool
    rest_from None = false
    rest_from (Some l) = list_any (λ m. not (is_group_before m.group (group_of class first l)) && is_wanted m.group) ms

    -- the label's group has a member
    abbrev pub has_label : Option LabelId → Bool
    has_label next = option_map_or (λ l. list_any (λ (m : Member K). same_group m.group (group_of class first l)) ms) next true

    -- a label that passes, whose group has a member
    pub now-rest : (l : LabelId) → test l ≡ true → has_label (Some l) ≡ true → rest_from (Some l) ≡ true
    now-rest l passes there =
        let g = group_of class first l in
        any-weaker (λ (m : Member K). same_group m.group g) (λ m. not (is_group_before m.group g) && is_wanted m.group)
        (λ m is. subst (λ (h : Group). (not (is_group_before h g) && is_wanted h) ≡ true) (sym (group-equal m.group g is)) (now-by (group-not_before g) passes)) ms there
      where
        now-by : is_group_before (group_of class first l) (group_of class first l) ≡ false → test l ≡ true → (not (is_group_before (group_of class first l) (group_of class first l)) && is_wanted (group_of class first l)) ≡ true
        now-by past is = grind (arith, nat_tests)

    module _ (flat : AreFlat class first ms) (q : Group → Bool) (low : (h : Group) → q h ≡ true → is_group_before h (first_group class first) ≡ false)
        (up : (m h : Group) → q h ≡ true → is_group_before m h ≡ false → q m ≡ true) where
      -- the least group that passes is beside, or none is
      found-by : (h : Group) (b : Bool) → is_beside h (first_group class first) ≡ b → IsLeast q ms h
          → list_any (λ m. q m.group && is_wanted m.group) ms ≡ rest_from (if b then Some (record { 0 = h.second }) else None)
      found-by h true here least =
          let same : h ≡ group_of class first (record { 0 = h.second }) = beside-is class first h here (flat-group class first ms flat h least.member here) in
          any-each (λ m. q m.group && is_wanted m.group) (λ m. not (is_group_before m.group (group_of class first (record { 0 = h.second }))) && is_wanted m.group) ms
          (all-weaker (λ (m : Member K). (not (q m.group) || not (is_group_before m.group h)) ≡ true)
          (λ (m : Member K). (q m.group && is_wanted m.group) ≡ (not (is_group_before m.group (group_of class first (record { 0 = h.second }))) && is_wanted m.group))
          (λ m is. kept-by (q m.group) (is_group_before m.group h) (is_wanted m.group) is (up m.group h least.passes)
          ∙ ap (λ (g : Group). not (is_group_before m.group g) && is_wanted m.group) same) ms least.least)
      found-by h false other least =
          list_any-none (λ m. q m.group && is_wanted m.group) ms
          (all-weaker (λ (m : Member K). (not (q m.group) || not (is_group_before m.group h)) ≡ true) (λ (m : Member K). (q m.group && is_wanted m.group) ≡ false)
          (λ m is. gone-by (q m.group) (is_group_before m.group h) (is_beside m.group (first_group class first)) (test (record { 0 = m.group.second })) is
          (λ beside. beside-before (first_group class first) m.group h beside other (low h least.passes))) ms least.least)

      no-label-by : (o : Option (Member K)) → o ≡ None → find (λ m. q m.group) ms ≡ o → list_any (λ m. q m.group && is_wanted m.group) ms ≡ false
      no-label-by o is found =
          list_any-none (λ m. q m.group && is_wanted m.group) ms
          (all-weaker (λ (m : Member K). q m.group ≡ false) (λ (m : Member K). (q m.group && is_wanted m.group) ≡ false) (λ m out. rw out refl) ms
          (none-find (λ m. q m.group) ms (found ∙ is)))

      -- what is left from the next group on
      next-by : (before : K → K → Bool) → Rises (is_member_before before) ms → (o : Option (Member K)) → find (λ m. q m.group) ms ≡ o
          → list_any (λ m. q m.group && is_wanted m.group) ms ≡ rest_from (label_if (first_group class first) (option_map (λ m. m.group) o))
      next-by before rises None is = no-label-by None refl is
      next-by before rises (Some m) is = found-by m.group (is_beside m.group (first_group class first)) refl
          (least-found before q ms rises m.group (ap (option_map (λ (m : Member K). m.group)) is))

    module _ (flat : AreFlat class first ms) (before : K → K → Bool) (rises : Rises (is_member_before before) ms) where
      least-label : (q : Group → Bool) (o : Option (Member K)) → find (λ m. q m.group) ms ≡ o → (l : LabelId) → label_if (first_group class first) (option_map (λ m. m.group) o) ≡ Some l → IsLeast q ms (group_of class first l)
      least-label q None found l is = absurd cc
      least-label q (Some m) found l is =
          let least = least-found before q ms rises m.group (ap (option_map (λ (m : Member K). m.group)) found) in
          subst (λ (h : Group). IsLeast q ms h) (label-is m.group (is_beside m.group (first_group class first)) l refl (flat-group class first ms flat m.group least.member) is) least

      has-by : (q : Group → Bool) (next : Option LabelId) → label_if (first_group class first) (option_map (λ m. m.group) (find (λ m. q m.group) ms)) ≡ next → has_label next ≡ true
      has-by q None is = refl
      has-by q (Some l) is = (least-label q (find (λ m. q m.group) ms) refl l is).member

      -- ## the first label

      -- all that pass are left
      pub start-rest : rest_from (label_if (first_group class first) (group_from (first_group class first) ms)) ≡ list_any (λ m. is_wanted m.group) ms
      start-rest =
          let start = first_group class first in
          sym (next-by flat (λ h. not (is_group_before h start)) (λ h past. not-true (is_group_before h start) past) (λ m h. from-up start m h)
          before rises (find (λ m. not (is_group_before m.group start)) ms) refl)
          ∙ any-same (λ m. not (is_group_before m.group start) && is_wanted m.group) (λ m. is_wanted m.group)
          (λ m. past-by (is_group_before m.group start) (is_beside m.group start) (test (record { 0 = m.group.second })) (beside-first class first m.group)) ms

      pub start-has : has_label (label_if (first_group class first) (group_from (first_group class first) ms)) ≡ true
      start-has = has-by (λ h. not (is_group_before h (first_group class first))) (label_if (first_group class first) (group_from (first_group class first) ms)) refl

      module _ (l : LabelId) where
        -- ## a label

        -- after a label that does not pass, the same are left from the next one on
        pub after-rest : test l ≡ false → rest_from (label_if (first_group class first) (group_after (group_of class first l) ms)) ≡ rest_from (Some l)
        after-rest fails =
            let g = group_of class first l in
            sym (next-by flat (λ h. is_group_before g h) (λ h past. after-low-label class first l h past) (λ m h. after-up g m h) before rises (find (λ m. is_group_before g m.group) ms) refl)
            ∙ any-same (λ m. is_group_before g m.group && is_wanted m.group) (λ m. not (is_group_before m.group g) && is_wanted m.group)
            (λ m. later-by l m.group (same_group m.group g) refl fails) ms

        pub after-has : has_label (label_if (first_group class first) (group_after (group_of class first l) ms)) ≡ true
        after-has = has-by (λ h. is_group_before (group_of class first l) h) (label_if (first_group class first) (group_after (group_of class first l) ms)) refl

        -- the next one is greater
        pub after-greater : (k : LabelId) → label_if (first_group class first) (group_after (group_of class first l) ms) ≡ Some k → l.0 < k.0
        after-greater k is =
            after-order class first l k (least-label (λ h. is_group_before (group_of class first l) h) (find (λ m. is_group_before (group_of class first l) m.group) ms) refl k is).passes

-- # members whose third number is 0: all requests but those in groups by the pools that declined them

-- ## the groups of a request

-- one of two tests is passed
either : {P : Type 0} (a b : Bool) → (a ≡ true → P) → (b ≡ true → P) → (a || b) ≡ true → P
either true b first second is = first refl
either false b first second is = second is

-- a group of a request has no third number, unless it is by the pools that declined
pub third-test : (g : Group) (k : RequestRecord) (unlocked : Bool) → (g.class == 4) ≡ false → is_among g (request_groups k unlocked) ≡ true → g.third ≡ 0
third-test g k unlocked other =
    either (is_place g (pending_group_of k)) _ (λ is. grind (arith, nat_tests))
    (either (is_place g (unheld_pending_group_of k unlocked)) _ (λ is. grind (arith, nat_tests))
    (either (is_place g (coming_group_of k)) _ (λ is. grind (arith, nat_tests))
    (either (is_place g (spent_group_of k)) _ (λ is. grind (arith, nat_tests))
    (either (is_place g (declined_group_of k)) _ (λ is. grind (arith, nat_tests))
    (either (is_place g (next_label_group_of k)) _ (λ is. grind (arith, nat_tests))
    (either (is_place g (pinned_label_group_of k)) _ (λ is. grind (arith, nat_tests)) (λ is. absurd cc)))))))

-- ## the members of a state

-- each member of a list is in it
each-there : {X : Type 0} (same : X → X → Bool) → ((x : X) → same x x ≡ true) → (xs : List X) → AllByRecursion (λ y. list_any (λ x. same x y) xs ≡ true) xs
each-there same self [] = tt
each-there {X = X} same self (x ∷ xs) = (
  rw (self x) refl,
  all-weaker (λ (y : X). list_any (λ z. same z y) xs ≡ true) (λ (y : X). (same x y || list_any (λ z. same z y) xs) ≡ true) (λ y is. or_right (same x y) (list_any (λ z. same z y) xs) is) xs (each-there same self xs),
)

member-itself : (m : Member RequestId) → same_member same_request m m ≡ true
member-itself m = rw (group-itself m.group) (request-itself m.id)

module _ (s : State) (ms : List (Member RequestId)) (are : AreRequestGroups s ms) (class first : ℕ) (other : (class == 4) ≡ false) where
  flat-by : (g : Group) (unlocked : Bool) (o : Option RequestRecord) → option_map_or (λ k. is_among g (request_groups k unlocked)) o false ≡ true → is_beside g (first_group class first) ≡ true → g.third ≡ 0
  flat-by g unlocked None is beside = absurd cc
  flat-by g unlocked (Some k) is beside = third-test g k unlocked (grind (arith, nat_tests)) is

  -- no member of such a class has a third number
  pub flat-requests : AreFlat class first ms
  flat-requests =
      all-weaker (λ (m : Member RequestId). has_member same_request m.group m.id ms ≡ true) (λ (m : Member RequestId). is_beside m.group (first_group class first) ≡ true → m.group.third ≡ 0)
      (λ m is. flat-by m.group (is_none (request_holder m.id s.requests)) (request_in m.id s.requests) (sym (are.each m.group m.id) ∙ is)) ms (each-there (same_member same_request) member-itself ms)
