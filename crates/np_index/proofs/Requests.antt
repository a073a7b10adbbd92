-- what groups say of requests: the first that every pool declined, and those that wait, are stuck or under way
use Rattle.np_index.proofs.Prelude.{AllByRecursion, Amount, AreClasses, AreRequestGroups, Bool, ClassesOf, Configuration, Declined, Group, LabelId, List, Member, None, Option, PoolId, Registration, RequestEntry, RequestId, RequestRecord, Rises, Some, State, add-one, all-find, all-from_at, all-weaker, amount_of, and-first, and-second, and_from, and_true, any-same, any_found, any_later, ap, arith, as_it_is, both-ways, cond, contrapositive, count_by, count_of, decline_set, declined_group, drop, eq-eqb, eqb-true, false, find, find-none, find-passes, first_of_set, fits, group-equal, group-itself, group_after, group_from, has_member, holder, ids_in, if◌then◌else◌, is_among, is_beside, is_declined_by, is_declined_by_all, is_id_before, is_late, is_none, is_of_set, is_pending_by, is_pinned_as, is_requested, is_short, is_some, is_spare, is_still_requested, is_stuck_as, is_stuck_label, is_under_way_as, label_group, label_if, length, limit_of, list_any, member, nat_lt, nat_tests, next_label, none-find, none-list_any, not, option_map, option_map_or, plus, refl, request-itself, request_entry, request_groups, request_in, request_is_in, request_one_way, same-declines, same_group, same_label, same_member, same_request, slice_get, subst, sum_by-cons, sym, third_if, true, undeclined, ℕ, [], ◌&&◌, ◌+◌, ◌-◌, ◌<◌, ◌==◌, ◌||◌, ◌∙◌, ◌∷◌, ◌≡◌, ◌≤◌}
use Rattle.np_index.specs.Index.{earlier}
use Rattle.np_index.proofs.Groups.{AreFlat, after-greater, after-has, after-more, after-past, after-rest, any-either, any-find, any-weaker, beside-is, beside-of, declined-test, find-any, first_group, flat-requests, from-past, group_of, groups_of_request, has_label, has_third, is_below, is_wanted, label-test, now-rest, requests-by, requests-found, rest_from, start-has, start-rest, third-test, waits_for}
use Rattle.np_index.proofs.Nodes.{first-passes}

-- # the first request that every registered pool declined, by the sets of pools that declined

-- ## answers

-- what can't be true is false
never : (b : Bool) → (b ≡ true → b ≡ false) → b ≡ false
never b fails = grind arith

-- ## of any list

count-each : {X : Type 0} (p q : X → Bool) (xs : List X) → AllByRecursion (λ x. p x ≡ q x) xs → count_by p xs ≡ count_by q xs
count-each p q [] all = refl
count-each p q (x ∷ xs) all =
    sum_by-cons (λ y. cond (p y) 1 0) x xs ∙ rw (all.0, count-each p q xs all.1) (sym (sum_by-cons (λ y. cond (q y) 1 0) x xs))

-- a narrower test, that passes all or none of those that pass the wider
module _ {X : Type 0} (wide narrow : X → Bool) (within : (x : X) → narrow x ≡ true → wide x ≡ true) where
  out : (x : X) → wide x ≡ false → narrow x ≡ false
  out x fails = contrapositive (narrow x) (wide x) (within x) fails

  narrow-none : (xs : List X) → find wide xs ≡ None → find narrow xs ≡ None
  narrow-none xs none = find-none narrow xs (all-weaker (λ x. wide x ≡ false) (λ x. narrow x ≡ false) out xs (none-find wide xs none))

  narrow-found : (xs : List X) (x : X) → find wide xs ≡ Some x → narrow x ≡ true → find narrow xs ≡ Some x
  narrow-found [] x found is = absurd cc
  narrow-found (y ∷ ys) x found is = let fails = out y in grind (arith, narrow-found ys x)

  narrow-fails : ((x y : X) → wide x ≡ true → wide y ≡ true → narrow x ≡ narrow y) → (xs : List X) (x : X) → find wide xs ≡ Some x → narrow x ≡ false → find narrow xs ≡ None
  narrow-fails alike xs x found fails =
      find-none narrow xs (all-from_at (λ y. narrow y ≡ false) xs (λ at y there. never (narrow y) (λ is. alike y x (within y is) (find-passes wide xs x found) ∙ fails)))

-- the first by id of those that pass one of two tests
module _ (p q r : RequestEntry → Bool) where
  abbrev id_of : Option RequestEntry → Option RequestId
  id_of o = option_map (λ (e : RequestEntry). e.id) o

  -- one row comes before what is found later
  before-later : (x : RequestEntry) (o : Option RequestEntry) → ((y : RequestEntry) → o ≡ Some y → is_id_before x.id y.id ≡ true) → Some x.id ≡ earlier (Some x.id) (id_of o)
  before-later x None later = refl
  before-later x (Some y) later = rw (request_one_way x.id y.id (later y refl)) refl

  later-before : (x : RequestEntry) (o : Option RequestEntry) → ((y : RequestEntry) → o ≡ Some y → is_id_before x.id y.id ≡ true) → Some x.id ≡ earlier (id_of o) (Some x.id)
  later-before x None later = refl
  later-before x (Some y) later = rw (later y refl) refl

  pub find-either : (xs : List RequestEntry) → Rises (λ a b. is_id_before a.id b.id) xs → AllByRecursion (λ x. r x ≡ (p x || q x)) xs → id_of (find r xs) ≡ earlier (id_of (find p xs)) (id_of (find q xs))
  find-either [] rises all = refl
  find-either (x ∷ xs) rises all = ap (λ (b : Bool). id_of (cond b (Some x) (find r xs))) all.0 ∙ by (p x) (q x) (find-either xs rises.1 all.1) where
    later : (test : RequestEntry → Bool) (y : RequestEntry) → find test xs ≡ Some y → is_id_before x.id y.id ≡ true
    later test y found = all-find (λ (z : RequestEntry). is_id_before x.id z.id ≡ true) test xs y rises.0 found

    by : (a b : Bool) → id_of (find r xs) ≡ earlier (id_of (find p xs)) (id_of (find q xs))
        → id_of (cond (a || b) (Some x) (find r xs)) ≡ earlier (id_of (cond a (Some x) (find p xs))) (id_of (cond b (Some x) (find q xs)))
    by true true rest = grind arith
    by true false rest = before-later x (find q xs) (later q)
    by false true rest = later-before x (find p xs) (later p)
    by false false rest = rest

-- ## pools past those of any configuration

module _ (rows : List Registration) (at : ℕ) (row : Registration) (there : Some row ≡ slice_get rows at) (so_far : list_any is_late (drop at rows) ≡ list_any is_late rows) where
  seen : option_map (λ (r : Registration). r) (slice_get rows at) ≡ Some row
  seen = as_it_is (slice_get rows at) row (sym there)

  pub late-found : 64 ≤ row.pool.0 → true ≡ list_any is_late rows
  late-found late = sym (any_found is_late (λ (r : Registration). r) is_late (λ r. refl) rows at row seen (grind (arith, nat_tests))) ∙ so_far

  pub late-later : row.pool.0 < 64 → list_any is_late (drop (at + 1) rows) ≡ list_any is_late rows
  late-later known = rw add-one (sym (any_later is_late (λ (r : Registration). r) is_late (λ r. refl) rows at row seen (grind (arith, nat_tests))) ∙ so_far)

-- ## what the registered pools declined

not-zero : (n : ℕ) → (1 + n == 0) ≡ true → ⊥
not-zero n is = let none : 1 + n ≡ 0 = eqb-true (1 + n) 0 is in omega (arith, none)

-- a pool that declined is among the declines
some-declined : (declined : List Declined) (g : Registration) → is_declined_by g.pool declined ≡ true → not (length declined == 0) ≡ true
some-declined [] g is = absurd cc
some-declined (d ∷ declined) g is = grind (arith, nat_tests)

-- if every registered pool declined, the first did
first-declined : (declined : List Declined) (rows : List Registration) → 0 < length rows → (count_by (λ (g : Registration). not (is_declined_by g.pool declined)) rows == 0) ≡ true → not (length declined == 0) ≡ true
first-declined declined [] some none = absurd (omega (arith, some))
first-declined declined (g ∷ rows) some none =
    by (is_declined_by g.pool declined) refl (subst (λ (n : ℕ). (n == 0) ≡ true) (sum_by-cons (λ (x : Registration). cond (not (is_declined_by x.pool declined)) 1 0) g rows) none) where
      by : (b : Bool) → is_declined_by g.pool declined ≡ b → (cond (not b) 1 0 + count_by (λ (x : Registration). not (is_declined_by x.pool declined)) rows == 0) ≡ true → not (length declined == 0) ≡ true
      by true is left = some-declined declined g is
      by false is left = absurd (not-zero (count_by (λ (x : Registration). not (is_declined_by x.pool declined)) rows) left)

module _ (s : State) (some : 0 < length s.registrations) where
  -- so it is among the requested requests that a pool declined
  pub still-requested : (k : RequestRecord) → is_declined_by_all s k ≡ true → is_still_requested k ≡ true
  still-requested k is =
      and_from (is_requested k.state) (not (length k.declined == 0)) (and-first (is_requested k.state) (undeclined s.registrations k == 0) is)
      (first-declined k.declined s.registrations some (and-second (is_requested k.state) (undeclined s.registrations k == 0) is))

-- a pool of any configuration
pool-known : (g : Registration) → is_late g ≡ false → g.pool.0 < 64
pool-known g known = grind (arith, nat_tests)

-- requests that the same pools declined are alike
module _ (s : State) (known : list_any is_late s.registrations ≡ false) where
  same-undeclined : (a b : RequestRecord) → decline_set a.declined ≡ decline_set b.declined → undeclined s.registrations a ≡ undeclined s.registrations b
  same-undeclined a b same =
      count-each (λ (g : Registration). not (is_declined_by g.pool a.declined)) (λ (g : Registration). not (is_declined_by g.pool b.declined)) s.registrations
      (all-weaker (λ (g : Registration). is_late g ≡ false) (λ (g : Registration). not (is_declined_by g.pool a.declined) ≡ not (is_declined_by g.pool b.declined))
      (λ g is. ap not (same-declines a.declined b.declined same g.pool (pool-known g is))) s.registrations (none-list_any is_late s.registrations known))

  -- requested, and the pools of this set declined it
  abbrev pub is_with : ℕ → RequestEntry → Bool
  is_with set e = is_still_requested e.kept && (decline_set e.kept.declined == set)

  set-alike : (set : ℕ) (x y : RequestEntry) → is_with set x ≡ true → is_with set y ≡ true → is_of_set s set x ≡ is_of_set s set y
  set-alike set x y first second =
      let same = same-undeclined x.kept y.kept in
      grind (arith, nat_tests)

-- ## the first request of a set

module _ (c : Configuration) (s : State) (classes : ClassesOf) (are : AreClasses c s classes) (some : 0 < length s.registrations) (known : list_any is_late s.registrations ≡ false) (set : ℕ) where
  abbrev found_first : Option RequestEntry
  found_first = find (is_with s known set) s.requests

  within : (e : RequestEntry) → is_of_set s set e ≡ true → is_with s known set e ≡ true
  within e is = let still = still-requested s some e.kept in grind arith

  place-first : (group : Group) → group ≡ declined_group set → slice_get (ids_in group classes.requests) 0 ≡ option_map (λ (e : RequestEntry). e.id) found_first
  place-first group is =
      ap (λ (g : Group). slice_get (ids_in g classes.requests) 0) is
      ∙ ap (λ (ids : List RequestId). slice_get ids 0) (requests-by s classes.requests are.requests (declined_group set) (is_with s known set) (declined-test set))
      ∙ first-passes (is_with s known set) (λ (e : RequestEntry). e.id) s.requests

  none-by : (o : Option RequestEntry) → found_first ≡ o → option_map (λ (e : RequestEntry). e.id) o ≡ None → None ≡ first_of_set set s
  none-by None found none = ap (option_map (λ (e : RequestEntry). e.id)) (sym (narrow-none (is_with s known set) (is_of_set s set) within s.requests found))
  none-by (Some e) found none = absurd cc

  -- the record of the first one
  kept-by : (o : Option RequestEntry) → found_first ≡ o → (r : RequestId) → option_map (λ (e : RequestEntry). e.id) o ≡ Some r → (e : RequestEntry) × (found_first ≡ Some e) × (e.id ≡ r) × (request_in r s.requests ≡ Some e.kept)
  kept-by None found r is = absurd cc
  kept-by (Some e) found r is =
      let same : e.id ≡ r = cc in
      let row : request_entry e.id s.requests ≡ Some e = all-find (λ (x : RequestEntry). request_entry x.id s.requests ≡ Some x) (is_with s known set) s.requests e (requests-found c s classes are) found in
      (e, found, same, ap (λ (i : RequestId). request_in i s.requests) (sym same) ∙ ap (option_map (λ (x : RequestEntry). x.kept)) row)

  module _ (group : Group) (group_is : group ≡ declined_group set) (first : Option RequestId) (first_is : first ≡ slice_get (ids_in group classes.requests) 0) where
    -- no request of the set
    pub no-first : first ≡ None → None ≡ first_of_set set s
    no-first none = none-by found_first refl (sym (first_is ∙ place-first group group_is) ∙ none)

    module _ (r : RequestId) (is : first ≡ Some r) (kept : Option RequestRecord) (kept_is : kept ≡ request_in r s.requests) where
      first-kept : (e : RequestEntry) × (found_first ≡ Some e) × (e.id ≡ r) × (request_in r s.requests ≡ Some e.kept)
      first-kept = kept-by found_first refl r (sym (first_is ∙ place-first group group_is) ∙ is)

      -- its record is there
      pub no-record : kept ≡ None → None ≡ first_of_set set s
      no-record none = let clash : None ≡ Some first-kept.0.kept = sym none ∙ kept_is ∙ first-kept.3 in absurd cc

      module _ (k : RequestRecord) (there : kept ≡ Some k) where
        same-kept : first-kept.0.kept ≡ k
        same-kept = let same : Some first-kept.0.kept ≡ Some k = sym (kept_is ∙ first-kept.3) ∙ there in cc

        set-is : (decline_set first-kept.0.kept.declined == set) ≡ true
        set-is = and-second (is_still_requested first-kept.0.kept) (decline_set first-kept.0.kept.declined == set) (find-passes (is_with s known set) s.requests first-kept.0 first-kept.1)

        by-record : (b : Bool) → b ≡ is_declined_by_all s k → is_of_set s set first-kept.0 ≡ b
        by-record b answer = rw set-is (and_true (is_declined_by_all s first-kept.0.kept) ∙ ap (is_declined_by_all s) same-kept ∙ sym answer)

        pub first-passes-all : (b : Bool) → b ≡ is_declined_by_all s k → b ≡ true → Some r ≡ first_of_set set s
        first-passes-all b answer all =
            ap Some (sym first-kept.2)
            ∙ ap (option_map (λ (e : RequestEntry). e.id)) (sym (narrow-found (is_with s known set) (is_of_set s set) within s.requests first-kept.0 first-kept.1 (by-record b answer ∙ all)))

        pub first-fails : (b : Bool) → b ≡ is_declined_by_all s k → b ≡ false → None ≡ first_of_set set s
        first-fails b answer fails =
            ap (option_map (λ (e : RequestEntry). e.id))
            (sym (narrow-fails (is_with s known set) (is_of_set s set) within (set-alike s known set) s.requests first-kept.0 first-kept.1 (by-record b answer ∙ fails)))

-- ## the walk over the sets

-- the first request that every registered pool declined, of the sets below the next
abbrev pub first_below : State → Option ℕ → Option RequestId
first_below s next = option_map (λ e. e.id) (find (λ e. is_declined_by_all s e.kept && is_below next (decline_set e.kept.declined)) s.requests)

-- those below the next are those below this one and this one, if there is none between
below-by : (next : Option ℕ) (n k : ℕ) → ((m : ℕ) → next ≡ Some m → nat_lt n m ≡ true) → (nat_lt n k ≡ true → is_below next k ≡ false) → is_below next k ≡ (nat_lt k n || (k == n))
below-by None n k more past = grind (arith, nat_tests)
below-by (Some m) n k more past = let later = more m refl in grind (arith, nat_tests)

module _ (c : Configuration) (s : State) (classes : ClassesOf) (are : AreClasses c s classes) (some : 0 < length s.registrations) where
  -- the set of a request that every registered pool declined has a group with a member
  row-there : (e : RequestEntry) → request_entry e.id s.requests ≡ Some e → is_declined_by_all s e.kept ≡ true → has_third 4 0 0 is_id_before classes.requests are.requests.rises (decline_set e.kept.declined) ≡ true
  row-there e row passes =
      let set = decline_set e.kept.declined in
      let g = declined_group set in
      let both : (is_still_requested e.kept && (set == set)) ≡ true = and_from (is_still_requested e.kept) (set == set) (still-requested s some e.kept passes) (eq-eqb set set refl) in
      let is_in : request_is_in s g e.id ≡ true = rw row (declined-test set e ∙ both) in
      any-weaker (λ (m : Member RequestId). same_member same_request m (member g e.id)) (λ m. same_group m.group g)
      (λ m same. and-first (same_group m.group g) (same_request m.id e.id) same) classes.requests (are.requests.each g e.id ∙ is_in)

  rows-there : AllByRecursion (λ (e : RequestEntry). is_declined_by_all s e.kept ≡ true → has_third 4 0 0 is_id_before classes.requests are.requests.rises (decline_set e.kept.declined) ≡ true) s.requests
  rows-there =
      all-weaker (λ (e : RequestEntry). request_entry e.id s.requests ≡ Some e)
      (λ (e : RequestEntry). is_declined_by_all s e.kept ≡ true → has_third 4 0 0 is_id_before classes.requests are.requests.rises (decline_set e.kept.declined) ≡ true)
      row-there s.requests (requests-found c s classes are)

  -- none is below the first
  none-below : None ≡ first_below s (third_if (declined_group 0) (group_from (declined_group 0) classes.requests))
  none-below =
      let next = third_if (declined_group 0) (group_from (declined_group 0) classes.requests) in
      ap (option_map (λ (e : RequestEntry). e.id))
      (sym (find-none (λ (e : RequestEntry). is_declined_by_all s e.kept && is_below next (decline_set e.kept.declined)) s.requests
      (all-weaker (λ (e : RequestEntry). is_declined_by_all s e.kept ≡ true → has_third 4 0 0 is_id_before classes.requests are.requests.rises (decline_set e.kept.declined) ≡ true)
      (λ (e : RequestEntry). (is_declined_by_all s e.kept && is_below next (decline_set e.kept.declined)) ≡ false)
      (λ e there. let past = λ (is : is_declined_by_all s e.kept ≡ true). from-past 4 0 0 is_id_before classes.requests are.requests.rises (decline_set e.kept.declined) (there is) in grind arith)
      s.requests rows-there)))

  module _ (n : ℕ) where
    abbrev next_set : Option ℕ
    next_set = third_if (declined_group 0) (group_after (declined_group n) classes.requests)

    -- those below the next are those below this set and those of this set
    below-next : first_below s next_set ≡ earlier (first_below s (Some n)) (first_of_set n s)
    below-next =
        find-either (λ e. is_declined_by_all s e.kept && is_below (Some n) (decline_set e.kept.declined)) (is_of_set s n) (λ e. is_declined_by_all s e.kept && is_below next_set (decline_set e.kept.declined))
        s.requests are.requests.once
        (all-weaker (λ (e : RequestEntry). is_declined_by_all s e.kept ≡ true → has_third 4 0 0 is_id_before classes.requests are.requests.rises (decline_set e.kept.declined) ≡ true)
        (λ (e : RequestEntry). (is_declined_by_all s e.kept && is_below next_set (decline_set e.kept.declined)) ≡ ((is_declined_by_all s e.kept && nat_lt (decline_set e.kept.declined) n) || is_of_set s n e))
        (λ e there. by (is_declined_by_all s e.kept) (decline_set e.kept.declined) there) s.requests rows-there)
      where
        by : (b : Bool) (k : ℕ) → (b ≡ true → has_third 4 0 0 is_id_before classes.requests are.requests.rises k ≡ true) → (b && is_below next_set k) ≡ ((b && nat_lt k n) || (b && (k == n)))
        by true k there =
            below-by next_set n k (λ m is. after-more 4 0 0 is_id_before classes.requests are.requests.rises n m is)
            (λ greater. after-past 4 0 0 is_id_before classes.requests are.requests.rises n k greater (there refl))
        by false k there = refl

  -- ## as it is read

  module _ (first : Group) (first_is : first ≡ declined_group 0) (found : Option Group) (next : Option ℕ) (next_is : next ≡ third_if first found) where
    -- before the walk
    pub below-first : found ≡ group_from first classes.requests → None ≡ first_below s next
    below-first is =
        none-below ∙ ap (first_below s) (sym (next_is ∙ ap (third_if first) is ∙ ap (λ (g : Group). third_if g (group_from g classes.requests)) first_is))

    module _ (n : ℕ) (group : Group) (group_is : group ≡ declined_group n) (is : found ≡ group_after group classes.requests) where
      named : next ≡ next_set n
      named = next_is ∙ ap (λ (g : Group). third_if g found) first_is ∙ ap (third_if (declined_group 0)) (is ∙ ap (λ (g : Group). group_after g classes.requests) group_is)

      -- one set more
      pub below-more : (now : Option ℕ) (best one more : Option RequestId) → now ≡ Some n → best ≡ first_below s now → one ≡ first_of_set n s → more ≡ earlier best one → more ≡ first_below s next
      below-more now best one more now_is best_is one_is more_is =
          more_is ∙ ap (λ (o : Option RequestId). earlier o one) (best_is ∙ ap (first_below s) now_is) ∙ ap (earlier (first_below s (Some n))) one_is
          ∙ sym (below-next n) ∙ ap (first_below s) (sym named)

      smaller-by-set : (o : Option ℕ) → next_set n ≡ o → n < 18446744073709551616 → option_map_or (λ k. 18446744073709551616 - k) o 0 < 18446744073709551616 - n
      smaller-by-set None o_is low = omega (arith, low)
      smaller-by-set (Some k) o_is low =
          let greater : nat_lt n k ≡ true = after-more 4 0 0 is_id_before classes.requests are.requests.rises n k o_is in
          grind (arith, nat_tests)

      -- fewer sets are left
      pub below-smaller : (now : Option ℕ) → now ≡ Some n → n < 18446744073709551616 → option_map_or (λ k. 18446744073709551616 - k) next 0 < option_map_or (λ k. 18446744073709551616 - k) now 0
      below-smaller now now_is low = rw (now_is, named) (smaller-by-set (next_set n) refl low)

-- # the members of the groups by next label, and the requests that are stuck or under way

-- ## a request and its next label

-- the class of the groups
abbrev pub class_of : Bool → ℕ
class_of pinned = if pinned then 6 else 5

pub label-group : (pinned : Bool) (p : PoolId) (l : LabelId) → label_group pinned p l ≡ group_of (class_of pinned) p.0 l
label-group true p l = refl
label-group false p l = refl

-- a group beside others is of their class
class-apart : (class first : ℕ) (g : Group) → is_beside g (first_group class first) ≡ true → (class == 4) ≡ false → (g.class == 4) ≡ false
class-apart class first g here other = grind (arith, nat_tests)

other-class : (pinned : Bool) → (class_of pinned == 4) ≡ false
other-class true = refl
other-class false = refl

module _ (p : PoolId) (pinned : Bool) (test : LabelId → Bool) where
  -- pinned or not, pending by the pool, and its next label passes
  abbrev pub waits_at : RequestEntry → Bool
  waits_at e = is_pinned_as pinned e.kept && (is_pending_by p e.kept && option_map_or test (next_label e.kept) false)

  -- a request of the pool, and a label that it waits for which passes
  record WaitsFor (k : RequestRecord) : Type 0 where
    label : LabelId
    waits : waits_for pinned p label k ≡ true
    passes : test label ≡ true

  -- its next label, if it has one
  for-next : (k : RequestRecord) (o : Option LabelId) → next_label k ≡ o → is_pinned_as pinned k ≡ true → is_pending_by p k ≡ true → option_map_or test o false ≡ true → WaitsFor k
  for-next k None next alike pending passes = absurd cc
  for-next k (Some l) next alike pending passes = record {
    label = l;
    waits = and_from (is_pinned_as pinned k) _ alike (and_from (is_pending_by p k) _ pending (rw next (eq-eqb l.0 l.0 refl)));
    passes = passes;
  }

  waits-for : (e : RequestEntry) → waits_at e ≡ true → WaitsFor e.kept
  waits-for e is =
      let next = option_map_or test (next_label e.kept) false in
      let waits = and-second (is_pinned_as pinned e.kept) (is_pending_by p e.kept && next) is in
      for-next e.kept (next_label e.kept) refl (and-first (is_pinned_as pinned e.kept) (is_pending_by p e.kept && next) is)
      (and-first (is_pending_by p e.kept) next waits) (and-second (is_pending_by p e.kept) next waits)

  -- the other way round
  for-waits : (e : RequestEntry) (l : LabelId) → waits_for pinned p l e.kept ≡ true → test l ≡ true → waits_at e ≡ true
  for-waits e l waits passes = let same = λ (m : LabelId). same_label m l in grind arith

  -- a member of a group by next label, whose label passes
  abbrev pub is_wanted_member : Member RequestId → Bool
  is_wanted_member m = is_wanted (class_of pinned) p.0 test m.group

  module _ (c : Configuration) (s : State) (classes : ClassesOf) (are : AreClasses c s classes) where
    -- the request of a member, by the row that it has
    row-waits : (m : Member RequestId) (o : Option RequestEntry) → request_entry m.id s.requests ≡ o → is_wanted_member m ≡ true
        → option_map_or (λ k. is_among m.group (request_groups k (is_none (holder (option_map_or (λ (e : RequestEntry). e.queue) o []))))) (option_map (λ (e : RequestEntry). e.kept) o) false ≡ true
        → list_any waits_at s.requests ≡ true
    row-waits m None found is among = absurd cc
    row-waits m (Some e) found is among =
        let l : LabelId = record { 0 = m.group.second } in
        let start = first_group (class_of pinned) p.0 in
        let here : is_beside m.group start ≡ true = and-first (is_beside m.group start) (test l) is in
        let third : m.group.third ≡ 0 = third-test m.group e.kept (is_none (holder e.queue)) (class-apart (class_of pinned) p.0 m.group here (other-class pinned)) among in
        let group : m.group ≡ label_group pinned p l = beside-is (class_of pinned) p.0 m.group here third ∙ sym (label-group pinned p l) in
        let waits : waits_for pinned p l e.kept ≡ true = sym (label-test pinned p l e) ∙ subst (λ (g : Group). is_among g (groups_of_request e) ≡ true) group among in
        find-any (λ (x : RequestEntry). same_request x.id m.id) waits_at s.requests e found (for-waits e l waits (and-second (is_beside m.group start) (test l) is))

    member-waits : list_any is_wanted_member classes.requests ≡ true → list_any waits_at s.requests ≡ true
    member-waits some =
        let found = any-find is_wanted_member classes.requests some in
        let m = found.0 in
        let here : same_member same_request m (member m.group m.id) ≡ true = and_from (same_group m.group m.group) (same_request m.id m.id) (group-itself m.group) (request-itself m.id) in
        let there : has_member same_request m.group m.id classes.requests ≡ true = find-any is_wanted_member (λ x. same_member same_request x (member m.group m.id)) classes.requests m found.1 here in
        row-waits m (request_entry m.id s.requests) refl (find-passes is_wanted_member classes.requests m found.1) (sym (are.requests.each m.group m.id) ∙ there)

    waits-member : list_any waits_at s.requests ≡ true → list_any is_wanted_member classes.requests ≡ true
    waits-member some =
        let found = any-find waits_at s.requests some in
        let e = found.0 in
        let for = waits-for e (find-passes waits_at s.requests e found.1) in
        let g = label_group pinned p for.label in
        let row : request_entry e.id s.requests ≡ Some e = all-find (λ (x : RequestEntry). request_entry x.id s.requests ≡ Some x) waits_at s.requests e (requests-found c s classes are) found.1 in
        let is_in : request_is_in s g e.id ≡ true = rw row (label-test pinned p for.label e ∙ for.waits) in
        any-weaker (λ m. same_member same_request m (member g e.id)) is_wanted_member
        (λ m same. subst (λ (h : Group). (is_beside h (first_group (class_of pinned) p.0) && test (record { 0 = h.second })) ≡ true)
        (sym (group-equal m.group g (and-first (same_group m.group g) (same_request m.id e.id) same) ∙ label-group pinned p for.label))
        (and_from _ _ (beside-of (class_of pinned) p.0 for.label) for.passes)) classes.requests (are.requests.each g e.id ∙ is_in)

    -- a member of a group whose label passes is a request that waits for such a label
    pub members-wait : list_any is_wanted_member classes.requests ≡ list_any waits_at s.requests
    members-wait = both-ways (list_any is_wanted_member classes.requests) (list_any waits_at s.requests) member-waits waits-member

-- ## the requests that are stuck

module _ (c : Configuration) (s : State) (p : PoolId) (pinned : Bool) where
  -- stuck at its next label
  stuck-at : (e : RequestEntry) → waits_at p pinned (is_stuck_label c s p pinned) e ≡ is_stuck_as c s p pinned e
  stuck-at e = grind arith

  -- a member of a group at whose label requests are stuck is a stuck request
  pub members-stuck : (classes : ClassesOf) → AreClasses c s classes → list_any (is_wanted_member p pinned (is_stuck_label c s p pinned)) classes.requests ≡ list_any (is_stuck_as c s p pinned) s.requests
  members-stuck classes are =
      members-wait p pinned (is_stuck_label c s p pinned) c s classes are
      ∙ any-same (waits_at p pinned (is_stuck_label c s p pinned)) (is_stuck_as c s p pinned) stuck-at s.requests

-- ## a label

module _ (c : Configuration) (s : State) (p : PoolId) (l : LabelId) where
  -- the pool has no room by what it uses, in the state's configuration
  lacks-short : (site : Configuration) (used : Amount) (lacks : Bool) → site ≡ c → used ≡ count_of c s p → lacks ≡ not (fits (plus used (amount_of site p l)) (limit_of site p)) → lacks ≡ is_short c s p l
  lacks-short site used lacks same all is =
      is ∙ ap (λ (k : Configuration). not (fits (plus used (amount_of k p l)) (limit_of k p))) same
      ∙ ap (λ (a : Amount). not (fits (plus a (amount_of c p l)) (limit_of c p))) all

  -- so a request that is not pinned is stuck unless there is a spare node
  pub bare-stuck : (site : Configuration) (used : Amount) (lacks pinned spare : Bool) → site ≡ c → used ≡ count_of c s p → lacks ≡ not (fits (plus used (amount_of site p l)) (limit_of site p)) → lacks ≡ true
      → pinned ≡ false → spare ≡ list_any (is_spare p l) s.nodes → not spare ≡ is_stuck_label c s p pinned l
  bare-stuck site used lacks pinned spare same all is none free spare_is =
      let short : is_short c s p l ≡ true = sym (lacks-short site used lacks same all is) ∙ none in
      rw (short, free, spare_is) refl

-- ## the walk over the labels

-- by the first group's class and pool
named-by : (p : PoolId) (pinned : Bool) (first : Group) → first ≡ label_group pinned p (record { 0 = 0 }) → (found : Option Group) (next : Option LabelId) → next ≡ label_if first found
    → (there : Group → Option Group) (group mine : Group) → found ≡ there group → group ≡ mine → next ≡ label_if (first_group (class_of pinned) p.0) (there mine)
named-by p pinned first first_is found next named there group mine is same =
    named ∙ ap (λ (g : Group). label_if g found) (first_is ∙ label-group pinned p (record { 0 = 0 }))
    ∙ ap (label_if (first_group (class_of pinned) p.0)) (is ∙ ap there same)

module _ (c : Configuration) (s : State) (p : PoolId) (pinned : Bool) (ms : List (Member RequestId)) where
  -- the stuck requests are left from the next label on, and a request waits for it
  pub record IsLeft (next : Option LabelId) : Type 0 where
    pub rest : rest_from (class_of pinned) p.0 (is_stuck_label c s p pinned) ms next ≡ list_any (is_stuck_as c s p pinned) s.requests
    pub has : has_label (class_of pinned) p.0 (is_stuck_label c s p pinned) ms next ≡ true

  -- a request that waits for the label is stuck
  pub left-now : (next : Option LabelId) (l : LabelId) → next ≡ Some l → IsLeft next → true ≡ is_stuck_label c s p pinned l → true ≡ list_any (is_stuck_as c s p pinned) s.requests
  left-now next l is left stuck =
      let here = subst IsLeft is left in
      sym (now-rest (class_of pinned) p.0 (is_stuck_label c s p pinned) ms l (sym stuck) here.has) ∙ here.rest

  flat : AreRequestGroups s ms → AreFlat (class_of pinned) p.0 ms
  flat are = flat-requests s ms are (class_of pinned) p.0 (other-class pinned)

  module _ (first : Group) (first_is : first ≡ label_group pinned p (record { 0 = 0 })) (found : Option Group) (next : Option LabelId) (named : next ≡ label_if first found) where
    -- before the walk
    pub left-first : AreRequestGroups s ms → found ≡ group_from first ms → list_any (is_wanted_member p pinned (is_stuck_label c s p pinned)) ms ≡ list_any (is_stuck_as c s p pinned) s.requests → IsLeft next
    left-first are is all =
        let same = named-by p pinned first first_is found next named (λ g. group_from g ms) first (first_group (class_of pinned) p.0) is (first_is ∙ label-group pinned p (record { 0 = 0 })) in
        subst IsLeft (sym same) (record {
          rest = start-rest (class_of pinned) p.0 (is_stuck_label c s p pinned) ms (flat are) is_id_before are.rises ∙ all;
          has = start-has (class_of pinned) p.0 (is_stuck_label c s p pinned) ms (flat are) is_id_before are.rises;
        })

    module _ (are : AreRequestGroups s ms) (l : LabelId) (group : Group) (group_is : group ≡ label_group pinned p l) (is : found ≡ group_after group ms) where
      same-after : next ≡ label_if (first_group (class_of pinned) p.0) (group_after (group_of (class_of pinned) p.0 l) ms)
      same-after = named-by p pinned first first_is found next named (λ g. group_after g ms) group (group_of (class_of pinned) p.0 l) is (group_is ∙ label-group pinned p l)

      -- after a label at which no request is stuck
      pub left-next : (now : Option LabelId) → now ≡ Some l → IsLeft now → false ≡ is_stuck_label c s p pinned l → IsLeft next
      left-next now now_is left free =
          let here = subst IsLeft now_is left in
          subst IsLeft (sym same-after) (record {
            rest = after-rest (class_of pinned) p.0 (is_stuck_label c s p pinned) ms (flat are) is_id_before are.rises l (sym free) ∙ here.rest;
            has = after-has (class_of pinned) p.0 (is_stuck_label c s p pinned) ms (flat are) is_id_before are.rises l;
          })

      smaller-by-label : (later : Option LabelId) → label_if (first_group (class_of pinned) p.0) (group_after (group_of (class_of pinned) p.0 l) ms) ≡ later → l.0 < 65536 → option_map_or (λ k. 65536 - k.0) later 0 < 65536 - l.0
      smaller-by-label None later_is within = omega arith
      smaller-by-label (Some k) later_is within =
          let greater : l.0 < k.0 = after-greater (class_of pinned) p.0 (is_stuck_label c s p pinned) ms (flat are) is_id_before are.rises l k later_is in
          omega (arith, greater)

      -- fewer labels are left
      pub left-smaller : (now : Option LabelId) → now ≡ Some l → l.0 < 65536 → option_map_or (λ k. 65536 - k.0) next 0 < option_map_or (λ k. 65536 - k.0) now 0
      left-smaller now now_is within = rw (now_is, same-after) (smaller-by-label (label_if (first_group (class_of pinned) p.0) (group_after (group_of (class_of pinned) p.0 l) ms)) refl within)

-- ## the requests that are under way

module _ (p : PoolId) (pinned : Bool) where
  -- any label passes
  abbrev every_label : LabelId → Bool
  every_label l = true

  under_way-at : (e : RequestEntry) → waits_at p pinned every_label e ≡ is_under_way_as p pinned e
  under_way-at e = grind arith

  -- a label whose group has a member
  some-rest : (ms : List (Member RequestId)) (o : Option LabelId) → has_label (class_of pinned) p.0 every_label ms o ≡ true → is_some o ≡ rest_from (class_of pinned) p.0 every_label ms o
  some-rest ms None has = refl
  some-rest ms (Some l) has = sym (now-rest (class_of pinned) p.0 every_label ms l refl has)

  -- there is a request under way if a group by next label has a member
  pub under-way : (first : Group) → first ≡ label_group pinned p (record { 0 = 0 }) → (found : Option Group) (next : Option LabelId) → next ≡ label_if first found
      → (c : Configuration) (s : State) (classes : ClassesOf) → AreClasses c s classes → found ≡ group_from first classes.requests → is_some next ≡ list_any (is_under_way_as p pinned) s.requests
  under-way first first_is found next named c s classes are is =
      let ms = classes.requests in
      let flat : AreFlat (class_of pinned) p.0 ms = flat-requests s ms are.requests (class_of pinned) p.0 (other-class pinned) in
      let start = first_group (class_of pinned) p.0 in
      ap (λ (o : Option LabelId). is_some o) (named-by p pinned first first_is found next named (λ g. group_from g ms) first start is (first_is ∙ label-group pinned p (record { 0 = 0 })))
      ∙ some-rest ms (label_if start (group_from start ms)) (start-has (class_of pinned) p.0 every_label ms flat is_id_before are.requests.rises)
      ∙ start-rest (class_of pinned) p.0 every_label ms flat is_id_before are.requests.rises
      ∙ members-wait p pinned every_label c s classes are
      ∙ any-same (waits_at p pinned every_label) (is_under_way_as p pinned) under_way-at s.requests

-- ## the pool

module _ (test : RequestEntry → Bool) (rows : List RequestEntry) where
  -- pinned or not, and it passes
  abbrev passes_as : Bool → RequestEntry → Bool
  passes_as pinned e = is_pinned_as pinned e.kept && test e

  -- a request passes if one does that is not pinned, or one that is
  pub passes-either : (list_any (passes_as false) rows || list_any (passes_as true) rows) ≡ list_any test rows
  passes-either = sym (any-either test (passes_as false) (passes_as true) (λ e. grind arith) rows)

  pub either-first : (some : Bool) → some ≡ list_any (passes_as false) rows → some ≡ true → some ≡ list_any test rows
  either-first some is found =
      let first : list_any (passes_as false) rows ≡ true = sym is ∙ found in
      found ∙ ap (λ (b : Bool). b || list_any (passes_as true) rows) (sym first) ∙ passes-either

  pub either-second : (some other : Bool) → some ≡ list_any (passes_as false) rows → some ≡ false → other ≡ list_any (passes_as true) rows → other ≡ list_any test rows
  either-second some other is none other_is =
      let first : list_any (passes_as false) rows ≡ false = sym is ∙ none in
      other_is ∙ ap (λ (b : Bool). b || list_any (passes_as true) rows) (sym first) ∙ passes-either
