-- what groups say of nodes: which is due first, how many there are, what they add up to, and those of a tenant
use Rattle.np_index.proofs.Prelude.{AllByRecursion, Amount, AmountFits, AreClasses, Bool, ClassesOf, Configuration, Fits, Group, IsFew, IsPart, LabelId, List, Member, NodeEntry, NodeId, None, Offer, Option, PoolId, RequestEntry, RequestId, Rises, Some, State, TenantId, UnheldKind, all-filter_to, all-find, all-weaker, amount_of, amount_of_node, and-first, and_true, ap, arith, beside_if, coming_group, cond, count_by, count_of, due_of, eq-eqb, eqb-true, false, filter, filter-each, filter-nothing, find, find-passes, first_due, first_unheld_pending, fold, free_group, free_ready_of, get_or, group-apart, group-is, group-one_way, group-turned, group_after, group_from, ids_in, is_among, is_beside, is_coming, is_free_ready, is_group_before, is_in_tenant_group, is_kind, is_member_before, is_node_before, is_pending_by, is_spare, is_spent_min_ready, is_tenant, is_unheld_as, is_unheld_pending, kind_group, length, length-filter, length-filter_at_most, length-map, list_any, map, member, nat_lt, nat_tests, node_entry, node_is_in, none-find, not, not-true, nothing, nothing-plus, number_of, offers_of, option_map, option_map_or, part_bound, passed_total, pending_group, pending_requests, plus, plus-assoc, refl, same_amount, same_group, same_member, same_node, slice_get, slice_get-map, sooner, soonest, spare_group, spent_group, subst, swapped, sym, take, taken_by, tenant_group, third_if, times, times-suc, total, total-filter_at_most, total_more, true, unheld_class, unheld_group, unheld_pending_group, ℕ, [], ◌&&◌, ◌*◌, ◌+◌, ◌-◌, ◌<◌, ◌==◌, ◌||◌, ◌∙◌, ◌∷◌, ◌≡◌, ◌≤◌}
use Rattle.np_index.proofs.Groups.{after-up, any-find, any-weaker, beside-before, coming-test, due-test, free-test, found-upto, from-has, from-past, groups_of, groups_of_request, has_third, is_below, kind-test, nodes-by, nodes-found, pending-test, requests-by, spare-test, spent-test, tenant-test, unheld_pending-test}

-- # the node that is due first, by the groups of its kind

-- ## of any list

-- the first of those that pass
pub first-passes : {X Y : Type 0} (p : X → Bool) (f : X → Y) (xs : List X) → slice_get (map f (filter p xs)) 0 ≡ option_map f (find p xs)
first-passes p f [] = refl
first-passes p f (x ∷ xs) = grind (arith, first-passes p f xs)

-- the first of those that pass one test that passes another
find-both : {X : Type 0} (p q : X → Bool) (xs : List X) → find q (filter p xs) ≡ find (λ x. p x && q x) xs
find-both p q [] = refl
find-both p q (x ∷ xs) = grind (arith, find-both p q xs)

-- ## the soonest of rows

module _ (c : Configuration) (kind : UnheldKind) (due : ℕ) where
  -- not due before the tick
  abbrev IsLater : NodeEntry → Type 0
  IsLater e = nat_lt (due_of c kind e.kept) due ≡ false

  abbrev is_due : NodeEntry → Bool
  is_due e = due_of c kind e.kept == due

  -- one that is due at the tick stays the best
  best-stays : (rows : List NodeEntry) (best : NodeEntry) → is_due best ≡ true → AllByRecursion IsLater rows → fold (sooner c kind) (Some best) rows ≡ Some best
  best-stays [] best is all = refl
  best-stays (e ∷ rows) best is all =
      let same : due_of c kind best.kept ≡ due = eqb-true (due_of c kind best.kept) due is in
      let later : nat_lt (due_of c kind e.kept) (due_of c kind best.kept) ≡ false = rw same all.0 in
      rw later (best-stays rows best is all.1)

  -- the best so far is due after the tick
  abbrev is_after : Option NodeEntry → Bool
  is_after best = option_map_or (λ b. nat_lt due (due_of c kind b.kept)) best true

  -- one that is due at the tick is better
  due-better : (best : Option NodeEntry) (e : NodeEntry) → is_after best ≡ true → is_due e ≡ true → sooner c kind best e ≡ Some e
  due-better None e after is = refl
  due-better (Some b) e after is = let first : nat_lt (due_of c kind e.kept) (due_of c kind b.kept) ≡ true = grind (arith, nat_tests) in rw first refl

  after-stays : (best : Option NodeEntry) (e : NodeEntry) → is_after best ≡ true → IsLater e → is_due e ≡ false → is_after (sooner c kind best e) ≡ true
  after-stays best e after later other = grind (arith, nat_tests)

  -- the first that is due at the tick is found, if none is due before
  soonest-by : (rows : List NodeEntry) (best : Option NodeEntry) (e : NodeEntry) → is_after best ≡ true → AllByRecursion IsLater rows → find is_due rows ≡ Some e → fold (sooner c kind) best rows ≡ Some e
  soonest-by [] best e after all found = absurd cc
  soonest-by (x ∷ rows) best e after all found = by (is_due x) refl (λ next there. soonest-by rows (sooner c kind best x) e next all.1 there) found where
    by : (b : Bool) → is_due x ≡ b → (is_after (sooner c kind best x) ≡ true → find is_due rows ≡ Some e → fold (sooner c kind) (sooner c kind best x) rows ≡ Some e)
        → cond b (Some x) (find is_due rows) ≡ Some e → fold (sooner c kind) (sooner c kind best x) rows ≡ Some e
    by true is rest here =
        let same : x ≡ e = cc in
        rw (due-better best x after is) (best-stays rows x is all.1 ∙ ap Some same)
    by false is rest there = rest (after-stays best x after all.0 is) there

-- ## of a state's rows

module _ (c : Configuration) (s : State) (classes : ClassesOf) (are : AreClasses c s classes) (p : PoolId) (kind : UnheldKind) where
  abbrev there : ℕ → Bool
  there k = has_third (unheld_class kind) p.0 0 is_node_before classes.nodes are.nodes.rises k

  -- a row of the kind has a group with a member
  kind-row-there : (e : NodeEntry) → node_entry e.id s.nodes ≡ Some e → is_unheld_as s p kind e ≡ true → there (due_of c kind e.kept) ≡ true
  kind-row-there e row passes =
      let g = unheld_group p kind (due_of c kind e.kept) in
      let both : (is_unheld_as s p kind e && (due_of c kind e.kept == due_of c kind e.kept)) ≡ true = rw passes (eq-eqb (due_of c kind e.kept) (due_of c kind e.kept) refl) in
      let is_in : node_is_in c s g e.id ≡ true = rw row (due-test c s e p kind (due_of c kind e.kept) ∙ both) in
      any-weaker (λ (m : Member NodeId). same_member same_node m (member g e.id)) (λ m. same_group m.group g)
      (λ m same. and-first (same_group m.group g) (same_node m.id e.id) same) classes.nodes (are.nodes.each g e.id ∙ is_in)

  -- so it is not due before the first group
  abbrev first_third : Option ℕ
  first_third = third_if (unheld_group p kind 0) (group_from (unheld_group p kind 0) classes.nodes)

  row-past : AllByRecursion (λ (e : NodeEntry). is_unheld_as s p kind e ≡ true → is_below first_third (due_of c kind e.kept) ≡ false) s.nodes
  row-past =
      all-weaker (λ (e : NodeEntry). node_entry e.id s.nodes ≡ Some e) (λ (e : NodeEntry). is_unheld_as s p kind e ≡ true → is_below first_third (due_of c kind e.kept) ≡ false)
      (λ e row passes. from-past (unheld_class kind) p.0 0 is_node_before classes.nodes are.nodes.rises (due_of c kind e.kept) (kind-row-there e row passes)) s.nodes
      (nodes-found c s classes are)

  -- no row of the kind, if there is no group
  pub none-due : first_third ≡ None → None ≡ first_due c p kind s
  none-due none =
      let out = all-weaker (λ (e : NodeEntry). is_unheld_as s p kind e ≡ true → is_below first_third (due_of c kind e.kept) ≡ false) (λ (e : NodeEntry). is_unheld_as s p kind e ≡ false)
      (λ e past. let clash = subst (λ (o : Option ℕ). is_unheld_as s p kind e ≡ true → is_below o (due_of c kind e.kept) ≡ false) none past in grind arith) s.nodes row-past in
      ap (λ (rows : List NodeEntry). option_map (λ (e : NodeEntry). e.id) (soonest c kind rows)) (sym (filter-nothing (is_unheld_as s p kind) s.nodes out))

  module _ (due : ℕ) (is : first_third ≡ Some due) where
    -- the node at the first place of the group
    place-there : slice_get (ids_in (unheld_group p kind due) classes.nodes) 0 ≡ option_map (λ (e : NodeEntry). e.id) (find (is_due c kind due) (filter (is_unheld_as s p kind) s.nodes))
    place-there =
        ap (λ (ids : List NodeId). slice_get ids 0)
        (nodes-by c s classes.nodes are.nodes (unheld_group p kind due) (λ e. is_unheld_as s p kind e && (due_of c kind e.kept == due)) (λ e. due-test c s e p kind due))
        ∙ first-passes (λ (e : NodeEntry). is_unheld_as s p kind e && (due_of c kind e.kept == due)) (λ (e : NodeEntry). e.id) s.nodes
        ∙ ap (option_map (λ (e : NodeEntry). e.id)) (sym (find-both (is_unheld_as s p kind) (is_due c kind due) s.nodes))

    -- there is one
    some-there : (m : Member NodeId) × (find (λ (m : Member NodeId). same_group m.group (unheld_group p kind due)) classes.nodes ≡ Some m)
    some-there =
        any-find (λ (m : Member NodeId). same_group m.group (unheld_group p kind due)) classes.nodes (from-has (unheld_class kind) p.0 0 is_node_before classes.nodes are.nodes.rises due is)

    rows-later : AllByRecursion (λ (e : NodeEntry). nat_lt (due_of c kind e.kept) due ≡ false) (filter (is_unheld_as s p kind) s.nodes)
    rows-later =
        all-filter_to (λ (e : NodeEntry). is_unheld_as s p kind e ≡ true → is_below first_third (due_of c kind e.kept) ≡ false) (λ (e : NodeEntry). nat_lt (due_of c kind e.kept) due ≡ false)
        (is_unheld_as s p kind) s.nodes (λ e passes past. subst (λ (o : Option ℕ). is_below o (due_of c kind e.kept) ≡ false) is (past passes)) row-past

    due-by : (o : Option NodeEntry) → find (is_due c kind due) (filter (is_unheld_as s p kind) s.nodes) ≡ o → option_map (λ (e : NodeEntry). e.id) o ≡ first_due c p kind s
    due-by (Some e) found = ap (option_map (λ (e : NodeEntry). e.id)) (sym (soonest-by c kind due (filter (is_unheld_as s p kind) s.nodes) None e refl rows-later found))
    due-by None found =
        let gone : slice_get (ids_in (unheld_group p kind due) classes.nodes) 0 ≡ None = place-there ∙ ap (option_map (λ (e : NodeEntry). e.id)) found in
        let there : slice_get (ids_in (unheld_group p kind due) classes.nodes) 0 ≡ Some some-there.0.id =
        first-passes (λ (m : Member NodeId). same_group m.group (unheld_group p kind due)) (λ (m : Member NodeId). m.id) classes.nodes ∙ ap (option_map (λ (m : Member NodeId). m.id)) some-there.1 in
        absurd cc

    -- it is the one that is due first
    pub first-there : slice_get (ids_in (unheld_group p kind due) classes.nodes) 0 ≡ first_due c p kind s
    first-there = place-there ∙ due-by (find (is_due c kind due) (filter (is_unheld_as s p kind) s.nodes)) refl

  -- ## as they are read

  module _ (first : Group) (first_is : first ≡ unheld_group p kind 0) (found : Option Group) (found_is : found ≡ group_from first classes.nodes) (due : Option ℕ) (due_is : due ≡ third_if first found) where
    named : due ≡ first_third
    named = due_is ∙ ap (third_if first) found_is ∙ ap (λ (g : Group). third_if g (group_from g classes.nodes)) first_is

    pub due-none : due ≡ None → None ≡ first_due c p kind s
    due-none none = none-due (sym named ∙ none)

    pub due-some : (n : ℕ) → due ≡ Some n → (group : Group) → group ≡ unheld_group p kind n → (result : Option NodeId) → result ≡ slice_get (ids_in group classes.nodes) 0 → result ≡ first_due c p kind s
    due-some n some group is result there = there ∙ ap (λ (g : Group). slice_get (ids_in g classes.nodes) 0) is ∙ first-there n (sym named ∙ some)

-- # how many members a group has, and the one at a place

-- ## of any rows

-- a group with a member has one that passes
some-passes : {X : Type 0} (p : X → Bool) (xs : List X) → nat_lt 0 (length (filter p xs)) ≡ list_any p xs
some-passes p [] = refl
some-passes p (x ∷ xs) = grind (arith, nat_tests, some-passes p xs)

module _ (c : Configuration) (s : State) (classes : ClassesOf) (are : AreClasses c s classes) where
  -- ## nodes

  -- as many members as nodes that pass
  number-by : (g : Group) (test : NodeEntry → Bool) → ((e : NodeEntry) → is_among g (groups_of c s e) ≡ test e) → length (ids_in g classes.nodes) ≡ length (filter test s.nodes)
  number-by g test same = ap (λ (ids : List NodeId). length ids) (nodes-by c s classes.nodes are.nodes g test same) ∙ length-map (filter test s.nodes) (λ (e : NodeEntry). e.id)

  -- no group has more members than there are nodes
  pub few-nodes : (g : Group) → length (ids_in g classes.nodes) ≤ length s.nodes
  few-nodes g = omega (arith, number-by g (λ e. is_among g (groups_of c s e)) (λ e. refl), length-filter_at_most (λ (e : NodeEntry). is_among g (groups_of c s e)) s.nodes)

  -- the number of nodes of a pool and a label
  pub kind-number : (p : PoolId) (l : LabelId) → length (ids_in (kind_group p l) classes.nodes) ≡ number_of p l s.nodes
  kind-number p l = number-by (kind_group p l) (is_kind p l) (λ e. kind-test c s e p l)

  -- whether one of them is spare
  pub some-spare : (p : PoolId) (l : LabelId) → nat_lt 0 (length (ids_in (spare_group p l) classes.nodes)) ≡ list_any (is_spare p l) s.nodes
  some-spare p l = ap (λ (n : ℕ). nat_lt 0 n) (number-by (spare_group p l) (is_spare p l) (λ e. spare-test c s e p l)) ∙ some-passes (is_spare p l) s.nodes

  -- the spare one at a place
  pub spare-at : (p : PoolId) (l : LabelId) (at : ℕ) → slice_get (ids_in (spare_group p l) classes.nodes) at ≡ free_ready_of p l at s
  spare-at p l at =
      ap (λ (ids : List NodeId). slice_get ids at) (nodes-by c s classes.nodes are.nodes (spare_group p l) (is_spare p l) (λ e. spare-test c s e p l))
      ∙ slice_get-map (λ (e : NodeEntry). e.id) (filter (is_spare p l) s.nodes) at

  -- the number of free ready nodes of a label
  pub free-number : (l : LabelId) → length (ids_in (free_group l) classes.nodes) ≡ count_by (is_free_ready l) s.nodes
  free-number l = number-by (free_group l) (is_free_ready l) (λ e. free-test c s e l) ∙ length-filter (is_free_ready l) s.nodes

  -- ## requests

  -- as many members as requests that pass
  request-number : (g : Group) (test : RequestEntry → Bool) → ((e : RequestEntry) → is_among g (groups_of_request e) ≡ test e) → length (ids_in g classes.requests) ≡ length (filter test s.requests)
  request-number g test same = ap (λ (ids : List RequestId). length ids) (requests-by s classes.requests are.requests g test same) ∙ length-map (filter test s.requests) (λ (e : RequestEntry). e.id)

  -- no group has more members than there are requests
  pub few-requests : (g : Group) → length (ids_in g classes.requests) ≤ length s.requests
  few-requests g = omega (arith, request-number g (λ e. is_among g (groups_of_request e)) (λ e. refl), length-filter_at_most (λ (e : RequestEntry). is_among g (groups_of_request e)) s.requests)

  -- the number of requests that are coming
  pub coming-number : (l : LabelId) → length (ids_in (coming_group l) classes.requests) ≡ count_by (is_coming l) s.requests
  coming-number l = request-number (coming_group l) (is_coming l) (coming-test l) ∙ length-filter (is_coming l) s.requests

  -- whether a min-ready request has failed
  pub some-spent : (p : PoolId) (l : LabelId) → nat_lt 0 (length (ids_in (spent_group p l) classes.requests)) ≡ list_any (is_spent_min_ready p l) s.requests
  some-spent p l = ap (λ (n : ℕ). nat_lt 0 n) (request-number (spent_group p l) (is_spent_min_ready p l) (spent-test p l)) ∙ some-passes (is_spent_min_ready p l) s.requests

  -- the requests that are pending by a pool
  pub pending-ids : (p : PoolId) → ids_in (pending_group p) classes.requests ≡ pending_requests p s
  pending-ids p = requests-by s classes.requests are.requests (pending_group p) (λ (e : RequestEntry). is_pending_by p e.kept) (pending-test p)

  -- the first of them that nobody holds
  pub first-unheld : (p : PoolId) → slice_get (ids_in (unheld_pending_group p) classes.requests) 0 ≡ first_unheld_pending p s
  first-unheld p =
      ap (λ (ids : List RequestId). slice_get ids 0) (requests-by s classes.requests are.requests (unheld_pending_group p) (is_unheld_pending p) (unheld_pending-test p))
      ∙ first-passes (is_unheld_pending p) (λ (e : RequestEntry). e.id) s.requests

-- # totals over the members of a list that pass a test

-- one of two tests is passed, and never both
pub record IsParted {X : Type 0} (p q r : X → Bool) (x : X) : Type 0 where
  pub either : r x ≡ (p x || q x)
  pub apart : (p x && q x) ≡ false

module _ {X : Type 0} (f : X → Amount) where
  -- those that pass one of two tests take together what those of each test take
  pub total-parted : (p q r : X → Bool) (xs : List X) → AllByRecursion (IsParted p q r) xs → total (map f (filter r xs)) ≡ plus (total (map f (filter p xs))) (total (map f (filter q xs)))
  total-parted p q r [] all = sym (nothing-plus nothing)
  total-parted p q r (x ∷ xs) all = ap (λ (b : Bool). total (map f (cond b (x ∷ filter r xs) (filter r xs)))) all.0.either ∙ by (p x) (q x) all.0.apart (total-parted p q r xs all.1) where
    by : (a b : Bool) → (a && b) ≡ false → total (map f (filter r xs)) ≡ plus (total (map f (filter p xs))) (total (map f (filter q xs)))
        → total (map f (cond (a || b) (x ∷ filter r xs) (filter r xs))) ≡ plus (total (map f (cond a (x ∷ filter p xs) (filter p xs)))) (total (map f (cond b (x ∷ filter q xs) (filter q xs))))
    by true true apart rest = absurd cc
    by true false apart rest = ap (plus (f x)) rest ∙ sym (plus-assoc (f x) (total (map f (filter p xs))) (total (map f (filter q xs))))
    by false true apart rest = ap (plus (f x)) rest ∙ swapped (f x) (total (map f (filter p xs))) (total (map f (filter q xs)))
    by false false apart rest = rest

  -- if each takes the same, that times their number
  pub total-times : (test : X → Bool) (a : Amount) → ((x : X) → test x ≡ true → f x ≡ a) → (xs : List X) → total (map f (filter test xs)) ≡ times (length (filter test xs)) a
  total-times test a each [] = same_amount _ _ (omega arith) (omega arith) (omega arith)
  total-times test a each (x ∷ xs) = by (test x) refl (total-times test a each xs) where
    by : (b : Bool) → test x ≡ b → total (map f (filter test xs)) ≡ times (length (filter test xs)) a
        → total (map f (cond b (x ∷ filter test xs) (filter test xs))) ≡ times (length (cond b (x ∷ filter test xs) (filter test xs))) a
    by true is rest = ap (λ (y : Amount). plus y (total (map f (filter test xs)))) (each x is) ∙ ap (plus a) rest ∙ sym (times-suc (length (filter test xs)) a)
    by false is rest = rest

-- the most that an offer can take
abbrev most : Amount
most = record { instances = 1000000; cores = 1000000; ram = 1000000 }

-- what each member takes is an offer's amount, so together they take few times that
pub total-few : {X : Type 0} (f : X → Amount) → ((x : X) → AmountFits (f x)) → (test : X → Bool) (xs : List X) (n : ℕ) → length xs ≤ n → IsFew (total (map f (filter test xs))) n
total-few f small test xs n few =
    let bound = total-filter_at_most f most (λ x. record { instances = (small x).instances; cores = (small x).cores; ram = (small x).ram }) test xs in
    record {
      instances = omega (arith, bound.instances, few);
      cores = omega (arith, bound.cores, few);
      ram = omega (arith, bound.ram, few);
    }

-- # what the walk over offers adds up

module _ (c : Configuration) (s : State) (classes : ClassesOf) (are : AreClasses c s classes) (fits : Fits c s) (p : PoolId) where
  -- ## the part of an offer

  module _ (k : Configuration) (site : k ≡ c) (offers : List Offer) (all : offers ≡ offers_of k p) where
    -- the offers by the state's configuration
    site-offers : offers ≡ offers_of c p
    site-offers = all ∙ ap (λ (x : Configuration). offers_of x p) site

    -- what is added for an offer
    pub offer-part : (i : ℕ) (d : Offer) → i < length offers → (group : Group) → group ≡ kind_group p (get_or offers i d).label →
        (number : ℕ) → number ≡ length (ids_in group classes.nodes) → (part : Amount) → part ≡ times number (get_or offers i d).amount → IsPart c p s.nodes i d part
    offer-part i d within group is number counted part times_it =
        part_bound c p s.nodes fits.nodes (λ l. fits.amounts p l) (fits.offers p) offers site-offers i d within number
        (counted ∙ ap (λ (g : Group). length (ids_in g classes.nodes)) is ∙ kind-number c s classes are p (get_or offers i d).label) part times_it

    -- one offer more
    pub offer-next : (i : ℕ) (d : Offer) (sum part next : Amount) → sum ≡ total (map (λ o. times (number_of p o.label s.nodes) o.amount) (take i (offers_of c p))) → IsPart c p s.nodes i d part →
        next ≡ plus sum part → next ≡ total (map (λ o. times (number_of p o.label s.nodes) o.amount) (take (i + 1) (offers_of c p)))
    offer-next i d sum part next so_far is more =
        more ∙ rw (so_far, is.same) (sym (total_more (λ (o : Offer). times (number_of p o.label s.nodes) o.amount) (offers_of c p) i d is.there))

    -- past all offers
    pub offers-all : (i : ℕ) (sum : Amount) → sum ≡ total (map (λ o. times (number_of p o.label s.nodes) o.amount) (take i (offers_of c p))) → length offers ≤ i → sum ≡ count_of c s p
    offers-all i sum so_far past =
        let none : length (offers_of c p) ≤ i = rw site-offers at past in
        so_far ∙ passed_total c p (fits.offers p) s.nodes i none

-- # the walk over the groups of a tenant's nodes

-- ## groups

-- the tenant's first group
abbrev pub first_of : TenantId → Group
first_of t = tenant_group t (record { 0 = 0 }) (record { 0 = 0 })

-- the group comes before the next one, if there is a next one
abbrev pub is_past : Option Group → Group → Bool
is_past None g = true
is_past (Some next) g = is_group_before g next

-- how many groups of a tenant can come from the next one on
abbrev pub groups_left : Option Group → ℕ
groups_left next = option_map_or (λ g. 1208925819614629174706176 - (g.second * 18446744073709551616 + g.third)) next 0

module _ (t : TenantId) where
  own-low : (p : PoolId) (l : LabelId) → is_group_before (tenant_group t p l) (first_of t) ≡ false
  own-low p l = grind (arith, nat_tests)

  own-beside : (p : PoolId) (l : LabelId) → is_beside (tenant_group t p l) (first_of t) ≡ true
  own-beside p l = grind (arith, nat_tests)

  -- after one of the tenant's there is none of an earlier tenant
  after-low : (g h : Group) → is_beside g (first_of t) ≡ true → is_group_before g h ≡ true → is_group_before h (first_of t) ≡ false
  after-low g h here later = grind (arith, nat_tests)

  order-by : (a b x y : ℕ) → cond (a == b) (nat_lt x y) (nat_lt a b) ≡ true → x < 18446744073709551616 → a * 18446744073709551616 + x < b * 18446744073709551616 + y
  order-by a b x y later low = grind (arith, nat_tests)

  beside-order : (g h : Group) → is_beside g (first_of t) ≡ true → is_beside h (first_of t) ≡ true → is_group_before g h ≡ true
      → cond (g.second == h.second) (nat_lt g.third h.third) (nat_lt g.second h.second) ≡ true
  beside-order g h here there later =
      let class : (g.class == h.class) ≡ true = grind (arith, nat_tests) in
      let first : (g.first == h.first) ≡ true = grind (arith, nat_tests) in
      rw (class, first) at later

  fewer-left : (g : Group) (next : Option Group) → is_beside g (first_of t) ≡ true → ((h : Group) → next ≡ Some h → is_group_before g h ≡ true)
      → option_map_or (λ h. is_beside h (first_of t)) next true ≡ true → g.second < 65536 → g.third < 18446744073709551616
      → groups_left next < 1208925819614629174706176 - (g.second * 18446744073709551616 + g.third)
  fewer-left g None here more there pool label = omega arith
  fewer-left g (Some h) here more there pool label =
      let greater = order-by g.second h.second g.third h.third (beside-order g h here there (more h refl)) label in
      omega (arith, greater)

  -- what was found beside the tenant's groups is beside them
  found-beside : (found : Option Group) → option_map_or (λ h. is_beside h (first_of t)) (beside_if (first_of t) found) true ≡ true
  found-beside found = grind arith

  -- no group of the tenant that passes and has a member comes before the first that passes
  none-past : {K : Type 0} (before : K → K → Bool) (ms : List (Member K)) → Rises (is_member_before before) ms → (q : Group → Bool) → ((h : Group) → q h ≡ true → is_group_before h (first_of t) ≡ false)
      → (g : Group) → is_beside g (first_of t) ≡ true → q g ≡ true → list_any (λ (m : Member K). same_group m.group g) ms ≡ true → is_past (beside_if (first_of t) (option_map (λ m. m.group) (find (λ (m : Member K). q m.group) ms))) g ≡ false
  none-past {K = K} before ms rises q low g here passes there = by (find (λ (m : Member K). q m.group) ms) refl (found-upto before ms rises q g passes there) where
    by : (o : Option (Member K)) → find (λ (m : Member K). q m.group) ms ≡ o → option_map_or (λ (m : Member K). is_group_before g m.group) o true ≡ false → is_past (beside_if (first_of t) (option_map (λ m. m.group) o)) g ≡ false
    by None found past = absurd cc
    by (Some m) found past = grind (arith, beside-before (first_of t) g m.group here, low m.group (find-passes (λ (m : Member K). q m.group) ms m found))

-- ## rows

-- whether a node of the tenant's is in one of its groups
in-own : (t : TenantId) (o : Option TenantId) (p : PoolId) (l : LabelId) (g : Group) → is_beside g (first_of t) ≡ true
    → option_map_or (λ x. same_group (tenant_group x p l) g) o false ≡ (is_tenant t o && same_group (tenant_group t p l) g)
in-own t None p l g here = refl
in-own t (Some x) p l g here = grind (arith, nat_tests)

own-in : (t : TenantId) (o : Option TenantId) (p : PoolId) (l : LabelId) → is_tenant t o ≡ true → option_map_or (λ x. same_group (tenant_group x p l) (tenant_group t p l)) o false ≡ true
own-in t None p l is = absurd cc
own-in t (Some x) p l is = grind (arith, nat_tests)

-- of two groups the one is before the other, the same, or after it
or_not : (a : Bool) → (a || (not a && true)) ≡ true
or_not true = refl
or_not false = refl

module _ (c : Configuration) (s : State) (t : TenantId) where
  -- the node is the tenant's, and of a group before the next one
  abbrev pub is_passed : Option Group → NodeEntry → Bool
  is_passed next e = is_tenant t e.kept.tenant && is_past next (tenant_group t e.kept.pool e.kept.label)

  -- the sum so far is what the tenant's nodes of the groups before the next one take
  pub record IsSoFar (next : Option Group) (sum : Amount) : Type 0 where
    pub sum_is : sum ≡ total (map (amount_of_node c) (filter (is_passed next) s.nodes))
    pub beside : option_map_or (λ g. is_beside g (first_of t)) next true ≡ true

  beside-now : (next : Option Group) (g : Group) → next ≡ Some g → option_map_or (λ h. is_beside h (first_of t)) next true ≡ true → is_beside g (first_of t) ≡ true
  beside-now next g is beside = subst (λ (o : Option Group). option_map_or (λ h. is_beside h (first_of t)) o true ≡ true) is beside

  -- a group that is walked is of the tenant's nodes
  pub walked-class : (next : Option Group) (g : Group) (sum : Amount) → next ≡ Some g → IsSoFar next sum → g.class ≡ 3
  walked-class next g sum is so_far = eqb-true g.class 3 (and-first (g.class == 3) (g.first == t.0) (beside-now next g is so_far.beside))

  -- past all groups
  pub walked-all : (next : Option Group) (sum : Amount) → next ≡ None → IsSoFar next sum → sum ≡ total (map (amount_of_node c) (filter (λ e. is_tenant t e.kept.tenant) s.nodes))
  walked-all next sum none so_far =
      so_far.sum_is ∙ ap (λ (o : Option Group). total (map (amount_of_node c) (filter (is_passed o) s.nodes))) none
      ∙ ap (λ (rows : List NodeEntry). total (map (amount_of_node c) rows)) (filter-each (is_passed None) (λ e. is_tenant t e.kept.tenant) (λ e. sym (and_true (is_tenant t e.kept.tenant))) s.nodes)

  pub walked-few : Fits c s → (next : Option Group) (sum : Amount) → IsSoFar next sum → IsFew sum 262144
  walked-few fits next sum so_far =
      subst (λ (a : Amount). IsFew a 262144) (sym so_far.sum_is) (total-few (amount_of_node c) (λ e. fits.amounts e.kept.pool e.kept.label) (is_passed next) s.nodes 262144 fits.nodes)

  module _ (classes : ClassesOf) (are : AreClasses c s classes) where
    -- the group of a node of the tenant's has a member
    tenant-row-there : (e : NodeEntry) → node_entry e.id s.nodes ≡ Some e → is_tenant t e.kept.tenant ≡ true
        → list_any (λ (m : Member NodeId). same_group m.group (tenant_group t e.kept.pool e.kept.label)) classes.nodes ≡ true
    tenant-row-there e row own =
        let g = tenant_group t e.kept.pool e.kept.label in
        let is_in : node_is_in c s g e.id ≡ true = rw row (tenant-test c s e t e.kept.pool e.kept.label ∙ own-in t e.kept.tenant e.kept.pool e.kept.label own) in
        any-weaker (λ (m : Member NodeId). same_member same_node m (member g e.id)) (λ m. same_group m.group g)
        (λ m same. and-first (same_group m.group g) (same_node m.id e.id) same) classes.nodes (are.nodes.each g e.id ∙ is_in)

    abbrev IsThere : NodeEntry → Type 0
    IsThere e = is_tenant t e.kept.tenant ≡ true → list_any (λ (m : Member NodeId). same_group m.group (tenant_group t e.kept.pool e.kept.label)) classes.nodes ≡ true

    rows-there : AllByRecursion IsThere s.nodes
    rows-there = all-weaker (λ (e : NodeEntry). node_entry e.id s.nodes ≡ Some e) IsThere tenant-row-there s.nodes (nodes-found c s classes are)

    -- ## the first group

    abbrev start_next : Option Group
    start_next = beside_if (first_of t) (group_from (first_of t) classes.nodes)

    none-first : (e : NodeEntry) → IsThere e → is_passed start_next e ≡ false
    none-first e there = by (is_tenant t e.kept.tenant) there where
      g : Group
      g = tenant_group t e.kept.pool e.kept.label

      by : (b : Bool) → (b ≡ true → list_any (λ (m : Member NodeId). same_group m.group g) classes.nodes ≡ true) → (b && is_past start_next g) ≡ false
      by true has =
          none-past t is_node_before classes.nodes are.nodes.rises (λ h. not (is_group_before h (first_of t))) (λ h past. not-true (is_group_before h (first_of t)) past)
          g (own-beside t e.kept.pool e.kept.label) (ap not (own-low t e.kept.pool e.kept.label)) (has refl)
      by false has = refl

    -- ## the next group

    module _ (g : Group) (here : is_beside g (first_of t) ≡ true) where
      abbrev after_next : Option Group
      after_next = beside_if (first_of t) (group_after g classes.nodes)

      next-more : (h : Group) → after_next ≡ Some h → is_group_before g h ≡ true
      next-more h is = let passes = find-passes (λ (m : Member NodeId). is_group_before g m.group) classes.nodes in grind arith

      -- what is before the next group is before this one or the same
      past-by : (k : Group) → is_beside k (first_of t) ≡ true → list_any (λ (m : Member NodeId). same_group m.group k) classes.nodes ≡ true
          → is_past after_next k ≡ (is_group_before k g || same_group k g)
      past-by k beside there = by (is_group_before g k) refl where
        up-to : is_group_before g k ≡ false → (o : Option Group) → ((h : Group) → o ≡ Some h → is_group_before g h ≡ true) → is_past o k ≡ true
        up-to upto None more = refl
        up-to upto (Some h) more = let clash = after-up g k h (more h refl) in grind arith

        by : (b : Bool) → is_group_before g k ≡ b → is_past after_next k ≡ (is_group_before k g || same_group k g)
        by true later =
            none-past t is_node_before classes.nodes are.nodes.rises (λ h. is_group_before g h) (λ h past. after-low t g h here past) k beside later there
            ∙ sym (rw (group-one_way g k later, group-turned g k false (group-apart g k later)) refl)
        by false upto =
            up-to upto after_next next-more
            ∙ sym (ap (λ (b : Bool). is_group_before k g || b) (group-is k g ∙ ap (λ (b : Bool). not (is_group_before k g) && not b) upto) ∙ or_not (is_group_before k g))

      before-apart : (k : Group) → (is_group_before k g && same_group k g) ≡ false
      before-apart k = let apart = group-apart k g in grind arith

      rows-parted : (e : NodeEntry) → IsThere e → IsParted (is_passed (Some g)) (is_in_tenant_group g) (is_passed after_next) e
      rows-parted e there = by (is_tenant t e.kept.tenant) there (in-own t e.kept.tenant e.kept.pool e.kept.label g here) refl where
        k : Group
        k = tenant_group t e.kept.pool e.kept.label

        by : (b : Bool) → (b ≡ true → list_any (λ (m : Member NodeId). same_group m.group k) classes.nodes ≡ true) → is_in_tenant_group g e ≡ (b && same_group k g) → is_tenant t e.kept.tenant ≡ b
            → IsParted (is_passed (Some g)) (is_in_tenant_group g) (is_passed after_next) e
        by true has is own = record {
          either = rw (own, is) (past-by k (own-beside t e.kept.pool e.kept.label) (has refl));
          apart = rw (own, is) (before-apart k);
        }
        by false has is own = record { either = rw (own, is) refl; apart = rw own refl }

    -- ## as it is read

    module _ (first : Group) (first_is : first ≡ first_of t) (found next : Option Group) (next_is : next ≡ beside_if first found) where
      -- before the walk
      pub walked-first : found ≡ group_from first classes.nodes → IsSoFar next nothing
      walked-first is =
          let named : next ≡ start_next = next_is ∙ ap (beside_if first) is ∙ ap (λ (g : Group). beside_if g (group_from g classes.nodes)) first_is in
          subst (λ (o : Option Group). IsSoFar o nothing) (sym named) (record {
            sum_is = ap (λ (rows : List NodeEntry). total (map (amount_of_node c) rows))
                (sym (filter-nothing (is_passed start_next) s.nodes (all-weaker IsThere (λ e. is_passed start_next e ≡ false) none-first s.nodes rows-there)));
            beside = found-beside t (group_from (first_of t) classes.nodes);
          })

      module _ (g : Group) (is : found ≡ group_after g classes.nodes) (now : Option Group) (now_is : now ≡ Some g) (sum : Amount) (so_far : IsSoFar now sum) where
        named-next : next ≡ beside_if (first_of t) (group_after g classes.nodes)
        named-next = next_is ∙ ap (λ (h : Group). beside_if h found) first_is ∙ ap (beside_if (first_of t)) is

        -- one group more
        pub walked-next : (part more : Amount) → part ≡ total (map (amount_of_node c) (filter (is_in_tenant_group g) s.nodes)) → more ≡ plus sum part → IsSoFar next more
        walked-next part more part_is more_is =
            let here = beside-now now g now_is so_far.beside in
            let next_one = beside_if (first_of t) (group_after g classes.nodes) in
            let before : sum ≡ total (map (amount_of_node c) (filter (is_passed (Some g)) s.nodes)) = so_far.sum_is ∙ ap (λ (o : Option Group). total (map (amount_of_node c) (filter (is_passed o) s.nodes))) now_is in
            subst (λ (o : Option Group). IsSoFar o more) (sym named-next) (record {
              sum_is = more_is ∙ ap (λ (a : Amount). plus a part) before ∙ ap (plus (total (map (amount_of_node c) (filter (is_passed (Some g)) s.nodes)))) part_is
                  ∙ sym (total-parted (amount_of_node c) (is_passed (Some g)) (is_in_tenant_group g) (is_passed next_one) s.nodes
                  (all-weaker IsThere (IsParted (is_passed (Some g)) (is_in_tenant_group g) (is_passed next_one)) (rows-parted g here) s.nodes rows-there));
              beside = found-beside t (group_after g classes.nodes);
            })

        -- fewer groups are left
        pub walked-smaller : g.second < 65536 → g.third < 18446744073709551616 → groups_left next < groups_left now
        walked-smaller pool label =
            let here = beside-now now g now_is so_far.beside in
            rw (now_is, named-next)
            (fewer-left t g (beside_if (first_of t) (group_after g classes.nodes)) here (next-more g here) (found-beside t (group_after g classes.nodes)) pool label)

-- ## the nodes of a group

-- a group of the class is some tenant's
as-tenants : (g : Group) → g.class ≡ 3 → g ≡ tenant_group (record { 0 = g.first }) (record { 0 = g.second }) (record { 0 = g.third })
as-tenants g is = let same : record { class = g.class; first = g.first; second = g.second; third = g.third } ≡ record { class = 3; first = g.first; second = g.second; third = g.third } = rw is refl in same

-- by the numbers of the pool and the label
amount-by : (c : Configuration) (p : PoolId) (l : LabelId) (pool label : ℕ) → p.0 ≡ pool → l.0 ≡ label → amount_of c p l ≡ amount_of c (record { 0 = pool }) (record { 0 = label })
amount-by c p l pool label same_pool same_label =
    let this_pool : record { 0 = p.0 } ≡ record { 0 = pool } = rw same_pool refl in
    let this_label : record { 0 = l.0 } ≡ record { 0 = label } = rw same_label refl in
    ap (λ (q : PoolId). amount_of c q l) this_pool ∙ ap (amount_of c (record { 0 = pool })) this_label

-- all of them take the same
alike-by : (c : Configuration) (g : Group) (o : Option TenantId) (p : PoolId) (l : LabelId) → option_map_or (λ x. same_group (tenant_group x p l) g) o false ≡ true
    → amount_of c p l ≡ amount_of c (record { 0 = g.second }) (record { 0 = g.third })
alike-by c g None p l is = absurd cc
alike-by c g (Some x) p l is =
    amount-by c p l g.second g.third (grind (arith, nat_tests)) (grind (arith, nat_tests))

module _ (c : Configuration) (s : State) (classes : ClassesOf) (are : AreClasses c s classes) (g : Group) (is : g.class ≡ 3) where
  ids-of : ids_in g classes.nodes ≡ map (λ e. e.id) (filter (is_in_tenant_group g) s.nodes)
  ids-of =
      let t : TenantId = record { 0 = g.first } in
      let p : PoolId = record { 0 = g.second } in
      let l : LabelId = record { 0 = g.third } in
      subst (λ (h : Group). ids_in h classes.nodes ≡ map (λ (e : NodeEntry). e.id) (filter (is_in_tenant_group h) s.nodes)) (sym (as-tenants g is))
      (nodes-by c s classes.nodes are.nodes (tenant_group t p l) (is_in_tenant_group (tenant_group t p l)) (λ e. tenant-test c s e t p l))

  first-id : slice_get (ids_in g classes.nodes) 0 ≡ option_map (λ (e : NodeEntry). e.id) (find (is_in_tenant_group g) s.nodes)
  first-id = ap (λ (ids : List NodeId). slice_get ids 0) ids-of ∙ first-passes (is_in_tenant_group g) (λ (e : NodeEntry). e.id) s.nodes

  -- there are none
  pub none-in : None ≡ slice_get (ids_in g classes.nodes) 0 → nothing ≡ total (map (amount_of_node c) (filter (is_in_tenant_group g) s.nodes))
  none-in none = by (find (is_in_tenant_group g) s.nodes) refl where
    by : (o : Option NodeEntry) → find (is_in_tenant_group g) s.nodes ≡ o → nothing ≡ total (map (amount_of_node c) (filter (is_in_tenant_group g) s.nodes))
    by None out = ap (λ (rows : List NodeEntry). total (map (amount_of_node c) rows)) (sym (filter-nothing (is_in_tenant_group g) s.nodes (none-find (is_in_tenant_group g) s.nodes out)))
    by (Some e) found = let clash : None ≡ Some e.id = none ∙ first-id ∙ ap (option_map (λ (x : NodeEntry). x.id)) found in absurd cc

  module _ (n : NodeId) (there : Some n ≡ slice_get (ids_in g classes.nodes) 0) (one : Amount) (one_is : one ≡ taken_by c s n) (number : ℕ) (counted : number ≡ length (ids_in g classes.nodes)) where
    one-by : (o : Option NodeEntry) → find (is_in_tenant_group g) s.nodes ≡ o → one ≡ amount_of c (record { 0 = g.second }) (record { 0 = g.third })
    one-by None out = let clash : Some n ≡ None = there ∙ first-id ∙ ap (option_map (λ (x : NodeEntry). x.id)) out in absurd cc
    one-by (Some e) found =
        let id : Some n ≡ Some e.id = there ∙ first-id ∙ ap (option_map (λ (x : NodeEntry). x.id)) found in
        let same : n ≡ e.id = cc in
        let row : node_entry e.id s.nodes ≡ Some e = all-find (λ (x : NodeEntry). node_entry x.id s.nodes ≡ Some x) (is_in_tenant_group g) s.nodes e (nodes-found c s classes are) found in
        one_is ∙ ap (taken_by c s) same
        ∙ ap (λ (o : Option NodeEntry). option_map_or (λ k. amount_of c k.pool k.label) (option_map (λ (x : NodeEntry). x.kept) o) nothing) row
        ∙ alike-by c g e.kept.tenant e.kept.pool e.kept.label (find-passes (is_in_tenant_group g) s.nodes e found)

    -- together they take what one takes times their number
    pub part-in : times number one ≡ total (map (amount_of_node c) (filter (is_in_tenant_group g) s.nodes))
    part-in =
        let all : number ≡ length (filter (is_in_tenant_group g) s.nodes) =
        counted ∙ ap (λ (ids : List NodeId). length ids) ids-of ∙ length-map (filter (is_in_tenant_group g) s.nodes) (λ (e : NodeEntry). e.id) in
        ap (times number) (one-by (find (is_in_tenant_group g) s.nodes) refl) ∙ ap (λ (k : ℕ). times k (amount_of c (record { 0 = g.second }) (record { 0 = g.third }))) all
        ∙ sym (total-times (amount_of_node c) (is_in_tenant_group g) (amount_of c (record { 0 = g.second }) (record { 0 = g.third }))
        (λ e passes. alike-by c g e.kept.tenant e.kept.pool e.kept.label passes) s.nodes)

    -- which is few times an offer's amount
    pub part-few : Fits c s → IsFew (times number one) 262144
    part-few fits =
        subst (λ (a : Amount). IsFew a 262144) (sym part-in) (total-few (amount_of_node c) (λ e. fits.amounts e.kept.pool e.kept.label) (is_in_tenant_group g) s.nodes 262144 fits.nodes)
