-- the members of groups: their order, which there are after a change, and the groups one after another
use Rattle.np_lists.proofs.Prelude.{AllByRecursion, AreRanked, Bool, Group, List, Member, None, NonePass, Option, Placed, Rises, Some, any-filter_same, ap, arith, cond, false, filter, find, group_after, group_from, has_member, ids_in, insert_before, is_among, is_group_before, is_member_before, is_place, length, length-filter_both, length-take-le, list_any, map, member, nat_lt, nat_tests, not, option_map, prefix_len, refl, remove_first, same_group, same_member, shift, slice_get, slice_get_within, subst, suc, sym, take, true, with_all_moved, with_group, with_groups, with_member, with_moved, without_group, without_groups, without_member, zero, ℕ, [], ◌&&◌, ◌+◌, ◌-◌, ◌==◌, ◌||◌, ◌∙◌, ◌∷◌, ◌≡◌}
use Rattle.np_lists.proofs.Changes.{IsLastPlace, Rises-filter, all-at, all-filter, all-insert_before, all-remove_first, all-weaker, at-last, list_any-insert_before, list_any-none, none-list_any, rank}
use Rattle.np_lists.proofs.Plain.{and_false, by_bool, or_true}

-- # the order of members, from that of their ids

-- ## groups

pub group-equal : (a b : Group) → same_group a b ≡ true → a ≡ b
group-equal a b same =
    let class : a.class ≡ b.class = grind (arith, nat_tests) in
    let first : a.first ≡ b.first = grind (arith, nat_tests) in
    let second : a.second ≡ b.second = grind (arith, nat_tests) in
    let third : a.third ≡ b.third = grind (arith, nat_tests) in
    λ i. record { class = class i; first = first i; second = second i; third = third i }

pub group-itself : (a : Group) → same_group a a ≡ true
group-itself a = grind (arith, nat_tests)

pub group-turned : (a b : Group) (is : Bool) → same_group a b ≡ is → same_group b a ≡ is
group-turned a b true same = grind (arith, nat_tests)
group-turned a b false other = grind (arith, nat_tests)

pub group-apart : (a b : Group) → is_group_before a b ≡ true → same_group a b ≡ false
group-apart a b first = grind (arith, nat_tests)

lt-transitive : (x y z : ℕ) → nat_lt x y ≡ true → nat_lt y z ≡ true → nat_lt x z ≡ true
lt-transitive x y z first second = grind (arith, nat_tests)

-- an order by a number, and between equal ones by what follows
number-transitive : (x y z : ℕ) (xy yz xz : Bool) → (xy ≡ true → yz ≡ true → xz ≡ true)
    → cond (x == y) xy (nat_lt x y) ≡ true → cond (y == z) yz (nat_lt y z) ≡ true → cond (x == z) xz (nat_lt x z) ≡ true
number-transitive x y z xy yz xz rest first second = grind (arith, nat_tests)

pub group-transitive : (a b k : Group) → is_group_before a b ≡ true → is_group_before b k ≡ true → is_group_before a k ≡ true
group-transitive a b k =
    number-transitive a.class b.class k.class _ _ _
    (number-transitive a.first b.first k.first _ _ _
    (number-transitive a.second b.second k.second _ _ _ (lt-transitive a.third b.third k.third)))

pub group-one_way : (a b : Group) → is_group_before a b ≡ true → is_group_before b a ≡ false
group-one_way a b first = grind (arith, nat_tests)

pub group-some_way : (a b : Group) → is_group_before a b ≡ false → same_group a b ≡ false → is_group_before b a ≡ true
group-some_way a b past other = grind (arith, nat_tests)

-- ## members

module _ {K : Type 0} (before : K → K → Bool) where
  pub member-transitive : ((a b k : K) → before a b ≡ true → before b k ≡ true → before a k ≡ true)
      → (a b k : Member K) → is_member_before before a b ≡ true → is_member_before before b k ≡ true → is_member_before before a k ≡ true
  member-transitive transitive a b k = by (same_group a.group b.group) (same_group b.group k.group) refl refl where
    by : (x y : Bool) → same_group a.group b.group ≡ x → same_group b.group k.group ≡ y
        → cond x (before a.id b.id) (is_group_before a.group b.group) ≡ true → cond y (before b.id k.id) (is_group_before b.group k.group) ≡ true
        → is_member_before before a k ≡ true
    by true true ab bk first second = rw (group-equal a.group b.group ab, bk) (transitive a.id b.id k.id first second)
    by true false ab bk first second = rw (group-equal a.group b.group ab, bk) second
    by false true ab bk first second = rw (← group-equal b.group k.group bk, ab) first
    by false false ab bk first second =
        let order : is_group_before a.group k.group ≡ true = group-transitive a.group b.group k.group first second in
        rw (group-apart a.group k.group order) order

  pub member-one_way : ((a b : K) → before a b ≡ true → before b a ≡ false)
      → (a b : Member K) → is_member_before before a b ≡ true → is_member_before before b a ≡ false
  member-one_way one_way a b first = grind (arith, group-turned a.group b.group _ refl, one_way a.id b.id, group-one_way a.group b.group)

  pub member-some_way : (same : K → K → Bool) → ((a b : K) → before a b ≡ false → same a b ≡ false → before b a ≡ true)
      → (a b : Member K) → is_member_before before a b ≡ false → same_member same a b ≡ false → is_member_before before b a ≡ true
  member-some_way same some_way a b past other = grind (arith, group-turned a.group b.group _ refl, some_way a.id b.id, group-some_way a.group b.group)

pub member-equal : {K : Type 0} (same : K → K → Bool) → ((a b : K) → same a b ≡ true → a ≡ b)
    → (a b : Member K) → same_member same a b ≡ true → a ≡ b
member-equal same equal a b alike = let group = group-equal a.group b.group (grind arith) in let id = equal a.id b.id (grind arith) in λ i. record { group = group i; id = id i }

-- ## before or after a group

-- what is before a member of an earlier group is in an earlier group
pub down-low : {K : Type 0} (before : K → K → Bool) (g : Group) (a b : Member K) → is_member_before before a b ≡ true
    → is_group_before b.group g ≡ true → is_group_before a.group g ≡ true
down-low before g a b order low = grind (arith, group-equal a.group b.group, group-transitive a.group b.group g)

-- what is before a member of no later group is in no later group
pub down-high : {K : Type 0} (before : K → K → Bool) (g : Group) (a b : Member K) → is_member_before before a b ≡ true
    → not (is_group_before g b.group) ≡ true → not (is_group_before g a.group) ≡ true
down-high before g a b order upto = grind (arith, group-equal a.group b.group, group-transitive g a.group b.group)

-- an earlier group is no later one
pub group-between : (a g : Group) → is_group_before a g ≡ true → not (is_group_before g a) ≡ true
group-between a g first = rw (group-one_way a g first) refl

-- a group that is neither earlier nor later is the same
pub group-is : (a g : Group) → same_group a g ≡ (not (is_group_before a g) && not (is_group_before g a))
group-is a g = grind (arith, nat_tests)

-- # which members there are after one is put in or taken out, and that they stay in order

-- ## any list

abbrev has : {X : Type 0} → (X → X → Bool) → X → List X → Bool
has same x xs = list_any (λ other. same other x) xs

module _ {X : Type 0} (before same : X → X → Bool) (equal : (a b : X) → same a b ≡ true → a ≡ b) (i x : X) where
  has-with_it : (xs : List X) → has same x (cond (has same i xs) xs (insert_before (λ other. before i other) i xs)) ≡ (same i x || has same x xs)
  has-with_it xs = grind (arith, equal i x, list_any-insert_before (λ other. same other x) (λ other. before i other) i xs)

module _ {X : Type 0} (before same : X → X → Bool)
    (one_way : (a b : X) → before a b ≡ true → before b a ≡ false)
    (equal : (a b : X) → same a b ≡ true → a ≡ b) where
  -- one is none of those after it
  pub none-after : (k : X) (ks : List X) → AllByRecursion (λ y. before k y ≡ true) ks → has same k ks ≡ false
  none-after k ks all =
      list_any-none (λ other. same other k) ks
      (all-weaker (λ y. before k y ≡ true) (λ y. same y k ≡ false) (λ y first. grind (arith, one_way k y, equal y k)) ks all)

  has-without_it : (i x : X) (xs : List X) → Rises before xs → has same x (remove_first (λ other. same other i) xs) ≡ (not (same i x) && has same x xs)
  has-without_it i x [] rises = grind arith
  has-without_it i x (k ∷ ks) rises = grind (arith, has-without_it i x ks rises.1, equal k i, equal i x, none-after k ks rises.0)

module _ {X : Type 0} (before : X → X → Bool) where
  -- inserted before the first member that it is before, if each other one is before it
  rises-insert_before : ((a b k : X) → before a b ≡ true → before b k ≡ true → before a k ≡ true) → (new : X) (xs : List X)
      → AllByRecursion (λ x. before new x ≡ false → before x new ≡ true) xs → Rises before xs → Rises before (insert_before (λ x. before new x) new xs)
  rises-insert_before through new [] apart rises = (tt, tt)
  rises-insert_before through new (x ∷ xs) apart rises =
      by_bool (λ b. Rises before (cond b (new ∷ x ∷ xs) (x ∷ insert_before (λ y. before new y) new xs))) (before new x)
      (λ first. ((first, all-weaker (λ y. before x y ≡ true) (λ y. before new y ≡ true) (λ y order. through new x y first order) xs rises.0), rises))
      (λ later. (all-insert_before (λ y. before x y ≡ true) (λ y. before new y) new xs (apart.0 later) rises.0, rises-insert_before through new xs apart.1 rises.1))

module _ {X : Type 0} (before same : X → X → Bool)
    (transitive : (a b k : X) → before a b ≡ true → before b k ≡ true → before a k ≡ true)
    (some_way : (a b : X) → before a b ≡ false → same a b ≡ false → before b a ≡ true) where
  rises-with_it : (i : X) (xs : List X) → Rises before xs → Rises before (cond (has same i xs) xs (insert_before (λ other. before i other) i xs))
  rises-with_it i xs rises =
      by_bool (λ b. Rises before (cond b xs (insert_before (λ other. before i other) i xs))) (has same i xs) (λ _. rises)
      (λ out. rises-insert_before before transitive i xs
      (all-weaker (λ y. same y i ≡ false) (λ y. before i y ≡ false → before y i ≡ true) (λ y other past. grind (arith, some_way y i)) xs (none-list_any (λ other. same other i) xs out)) rises)

-- ## members of groups

-- an id is in a group with one more if it is that one, or was there
pub has-with : {K : Type 0} (before same : K → K → Bool) (equal : (a b : K) → same a b ≡ true → a ≡ b)
    (g : Group) (i : K) (h : Group) (j : K) (ms : List (Member K))
    → has_member same g i (with_member before same h j ms) ≡ (same_member same (member h j) (member g i) || has_member same g i ms)
has-with before same equal g i h j ms =
    has-with_it (is_member_before before) (same_member same) (member-equal same equal) (member h j) (member g i) ms

-- with one less if it is not that one, and was there
pub has-without : {K : Type 0} (before same : K → K → Bool) (one_way : (a b : K) → before a b ≡ true → before b a ≡ false)
    (equal : (a b : K) → same a b ≡ true → a ≡ b) (g : Group) (i : K) (h : Group) (j : K) (ms : List (Member K)) → Rises (is_member_before before) ms
    → has_member same g i (without_member same h j ms) ≡ (not (same_member same (member h j) (member g i)) && has_member same g i ms)
has-without before same one_way equal g i h j ms rises =
    has-without_it (is_member_before before) (same_member same) (member-one_way before one_way) (member-equal same equal) (member h j) (member g i) ms rises

-- they still rise, with one more
pub rises-with : {K : Type 0} (before same : K → K → Bool)
    (transitive : (a b k : K) → before a b ≡ true → before b k ≡ true → before a k ≡ true)
    (some_way : (a b : K) → before a b ≡ false → same a b ≡ false → before b a ≡ true)
    (h : Group) (j : K) (ms : List (Member K)) → Rises (is_member_before before) ms → Rises (is_member_before before) (with_member before same h j ms)
rises-with before same transitive some_way h j ms rises =
    rises-with_it (is_member_before before) (same_member same) (member-transitive before transitive) (member-some_way before same some_way) (member h j) ms rises

-- and with one less
pub rises-without : {K : Type 0} (before same : K → K → Bool) (h : Group) (j : K) (ms : List (Member K))
    → Rises (is_member_before before) ms → Rises (is_member_before before) (without_member same h j ms)
rises-without before same h j [] rises = tt
rises-without before same h j (x ∷ xs) rises =
    by_bool (λ b. Rises (is_member_before before) (cond b xs (x ∷ without_member same h j xs))) (same_member same x (member h j)) (λ _. rises.1)
    (λ _. (all-remove_first (λ y. is_member_before before x y ≡ true) (λ m. same_member same m (member h j)) xs rises.0, rises-without before same h j xs rises.1))

-- # the ids of one group

-- ## of members in order

module _ {K : Type 0} (g : Group) where
  -- the ids of one member and those after it
  pub step : (x : Member K) (xs : List (Member K)) → ids_in g (x ∷ xs) ≡ cond (same_group x.group g) (x.id ∷ ids_in g xs) (ids_in g xs)
  step x xs = grind arith

  module _ (before : K → K → Bool) where
    -- of members of one group the ids come in order
    ids-after : (x : Member K) (xs : List (Member K)) → same_group x.group g ≡ true → AllByRecursion (λ y. is_member_before before x y ≡ true) xs
        → AllByRecursion (λ k. before x.id k ≡ true) (ids_in g xs)
    ids-after x [] here all = tt
    ids-after x (y ∷ ys) here all =
        let rest = ids-after x ys here all.1 in
        rw (step y ys) (
        by_bool (λ b. AllByRecursion (λ k. before x.id k ≡ true) (cond b (y.id ∷ ids_in g ys) (ids_in g ys))) (same_group y.group g)
        (λ there. (let both : same_group x.group y.group ≡ true = grind (arith, nat_tests) in rw both at all.0, rest)) (λ _. rest))

    -- the ids of a group rise
    pub ids-rise : (ms : List (Member K)) → Rises (is_member_before before) ms → Rises before (ids_in g ms)
    ids-rise [] rises = tt
    ids-rise (x ∷ xs) rises =
        let rest = ids-rise xs rises.1 in
        rw (step x xs) (by_bool (λ b. Rises before (cond b (x.id ∷ ids_in g xs) (ids_in g xs))) (same_group x.group g) (λ here. (ids-after x xs here rises.0, rest)) (λ _. rest))

-- an id is among those of the group if it is a member
pub ids-has : {K : Type 0} (same : K → K → Bool) (g : Group) (i : K) (ms : List (Member K)) → list_any (λ k. same k i) (ids_in g ms) ≡ has_member same g i ms
ids-has same g i [] = refl
ids-has same g i (x ∷ xs) = grind (arith, step g x xs, ids-has same g i xs)

-- ## two lists of ids

-- each key is the same as itself
pub same-itself : {K : Type 0} (before same : K → K → Bool) → ((a b : K) → before a b ≡ true → before b a ≡ false)
    → ((a b : K) → before a b ≡ false → same a b ≡ false → before b a ≡ true) → (a : K) → same a a ≡ true
same-itself before same one_way some_way a = grind (arith, one_way a a, some_way a a)

module _ {K : Type 0} (before same : K → K → Bool)
    (one_way : (a b : K) → before a b ≡ true → before b a ≡ false)
    (equal : (a b : K) → same a b ≡ true → a ≡ b)
    (itself : (a : K) → same a a ≡ true) where
  abbrev has_id : K → List K → Bool
  has_id i xs = list_any (λ k. same k i) xs

  -- an id that is there comes after another, if all others do
  after-first : (x : K) (xs : List K) (i : K) → AllByRecursion (λ y. before x y ≡ true) xs → has_id i xs ≡ true → before x i ≡ true
  after-first x [] i all there = absurd cc
  after-first x (y ∷ ys) i all there = grind (arith, equal y i, all.0, after-first x ys i all.1)

  -- two lists that rise begin with the same id if they have the same ids
  same-head : (x : K) (xs : List K) (y : K) (ys : List K) → Rises before (x ∷ xs) → Rises before (y ∷ ys)
      → ((i : K) → has_id i (x ∷ xs) ≡ has_id i (y ∷ ys)) → x ≡ y
  same-head x xs y ys rise_x rise_y alike = grind (arith, alike x, alike y, itself x, itself y, equal x y, equal y x, after-first x xs y rise_x.0, after-first y ys x rise_y.0, one_way x y)

  -- and go on with the same ids
  same-tail : (x : K) (xs : List K) (y : K) (ys : List K) → x ≡ y → Rises before (x ∷ xs) → Rises before (y ∷ ys)
      → ((i : K) → has_id i (x ∷ xs) ≡ has_id i (y ∷ ys)) → (i : K) → has_id i xs ≡ has_id i ys
  same-tail x xs y ys head rise_x rise_y alike i =
      grind (arith, head, alike i, equal x i, none-after before same one_way equal x xs rise_x.0, none-after before same one_way equal y ys rise_y.0)

  -- two lists that rise are equal if they have the same ids
  pub same-list : (xs ys : List K) → Rises before xs → Rises before ys → ((i : K) → list_any (λ k. same k i) xs ≡ list_any (λ k. same k i) ys) → xs ≡ ys
  same-list [] [] rise_x rise_y alike = refl
  same-list [] (y ∷ ys) rise_x rise_y alike = grind (arith, alike y, itself y)
  same-list (x ∷ xs) [] rise_x rise_y alike = grind (arith, alike x, itself x)
  same-list (x ∷ xs) (y ∷ ys) rise_x rise_y alike =
      let head : x ≡ y = same-head x xs y ys rise_x rise_y alike in
      let tail = same-list xs ys rise_x.1 rise_y.1 (same-tail x xs y ys head rise_x rise_y alike) in
      λ i. head i ∷ tail i

-- # how many ids of a list are outside a group, by those of the group before an id

-- ## one list in order

prefix-none : {X : Type 0} (p : X → Bool) (xs : List X) → NonePass p xs → prefix_len p xs ≡ 0
prefix-none p [] none = refl
prefix-none p (x ∷ xs) none = rw none.0 refl

module _ {K : Type 0} (before : K → K → Bool) (one_way : (a b : K) → before a b ≡ true → before b a ≡ false) (q : K → Bool) where
  none-first : (x : K) (xs : List K) → AllByRecursion (λ y. before x y ≡ true) xs → prefix_len (λ y. before y x) (filter q (x ∷ xs)) ≡ 0
  none-first x xs all =
      let out : before x x ≡ false = grind (arith, one_way x x) in
      let later = all-filter (λ y. before y x ≡ false) q xs (all-weaker (λ y. before x y ≡ true) (λ y. before y x ≡ false) (λ y order. one_way x y order) xs all) in
      by_bool (λ b. prefix_len (λ y. before y x) (cond b (x ∷ filter q xs) (filter q xs)) ≡ 0) (q x) (λ _. rw out refl) (λ _. prefix-none (λ y. before y x) (filter q xs) later)

  -- of those that pass, the ones before an id of the list are at earlier places
  pub prefix-rank : (xs : List K) (k : ℕ) (x : K) → Rises before xs → slice_get xs k ≡ Some x
      → prefix_len (λ y. before y x) (filter q xs) ≡ rank q xs k
  prefix-rank [] k x rises there = absurd cc
  prefix-rank (y ∷ ys) zero x rises there = let here : y ≡ x = cc in rw (← here) (none-first y ys rises.0)
  prefix-rank (y ∷ ys) (suc k) x rises there = grind (arith, nat_tests, prefix-rank ys k x rises.1 there, all-at (λ z. before y z ≡ true) ys k x rises.0 there)

-- ## the ids of a group among those of a list

module _ {K : Type 0} (before same : K → K → Bool)
    (one_way : (a b : K) → before a b ≡ true → before b a ≡ false)
    (some_way : (a b : K) → before a b ≡ false → same a b ≡ false → before b a ≡ true)
    (equal : (a b : K) → same a b ≡ true → a ≡ b)
    (inner : Group) (ms : List (Member K)) (ids : List K) (ranked : AreRanked before same inner ms ids) where
  abbrev is_inner : K → Bool
  is_inner i = has_member same inner i ms

  abbrev is_outer : K → Bool
  is_outer i = not (has_member same inner i ms)

  both-has : (i : K) → list_any (λ k. same k i) (filter is_inner ids) ≡ list_any (λ k. same k i) (ids_in inner ms)
  both-has i = any-filter_same (λ k. same k i) is_inner (is_inner i) (λ k alike. ap is_inner (equal k i alike)) ids ∙ grind (arith, ranked.all_there i, ids-has same inner i ms)

  -- the ids of the group are those of the list that are in it
  inner-ids : filter is_inner ids ≡ ids_in inner ms
  inner-ids =
      same-list before same one_way equal (same-itself before same one_way some_way)
      (filter is_inner ids) (ids_in inner ms) (Rises-filter before is_inner ids ranked.ids_rise) (ids-rise inner before ms ranked.members_rise) both-has

  -- so the rank at a place, among the others, is the place less how many of the group come before the id there
  pub outside-rank : (k : ℕ) (x : K) → slice_get ids k ≡ Some x → k - prefix_len (λ y. before y x) (ids_in inner ms) ≡ rank is_outer ids k
  outside-rank k x there =
      let within = slice_get_within ids k x there in
      let inside : prefix_len (λ y. before y x) (ids_in inner ms) ≡ rank is_inner ids k =
      ap (prefix_len (λ y. before y x)) (sym inner-ids) ∙ prefix-rank before one_way is_inner ids k x ranked.ids_rise there in
      let all : rank is_inner ids k + rank is_outer ids k ≡ length (take k ids) = length-filter_both is_inner is_outer (λ i. refl) (take k ids) in
      let long : length (take k ids) ≡ k = length-take-le k ids (omega arith) in
      omega arith

  -- the id at the last place with a rank of at most `at`, and the rank there
  module _ (at k : ℕ) (place : IsLastPlace is_outer ids at k) (x : K) (there : slice_get ids k ≡ Some x)
      (count : ℕ) (is : count ≡ k - prefix_len (λ y. before y x) (ids_in inner ms)) where
    -- it is the id wanted if it has the rank and is not of the group, and else no id is
    pub id-wanted : (cond (count == at) (cond (is_outer x) (Some x) None) None ≡ slice_get (filter is_outer ids) at) × (has_member same inner x ms ≡ true → None ≡ slice_get (filter is_outer ids) at)
    id-wanted =
        let wanted : cond (count == at) (cond (is_outer x) (Some x) None) None ≡ slice_get (filter is_outer ids) at = rw (is, outside-rank k x there) (sym (at-last is_outer ids at k place x there)) in
        (wanted, λ inside. grind (arith, wanted, inside))

-- # which members there are after ids move

module _ {K : Type 0} (before same : K → K → Bool)
    (transitive : (a b k : K) → before a b ≡ true → before b k ≡ true → before a k ≡ true)
    (one_way : (a b : K) → before a b ≡ true → before b a ≡ false)
    (some_way : (a b : K) → before a b ≡ false → same a b ≡ false → before b a ≡ true)
    (equal : (a b : K) → same a b ≡ true → a ≡ b) where
  -- ## they stay in order

  rises-with_group : (i : K) (there : List (Option Group)) (group : Option Group) (ms : List (Member K)) → Rises (is_member_before before) ms
      → Rises (is_member_before before) (with_group before same i there group ms)
  rises-with_group i there None ms rises = rises
  rises-with_group i there (Some g) ms rises = by_bool (λ b. Rises (is_member_before before) (cond b ms (with_member before same g i ms))) (is_among g there) (λ _. rises) (λ _. rises-with before same transitive some_way g i ms rises)

  rises-with_groups : (i : K) (there groups : List (Option Group)) (ms : List (Member K)) → Rises (is_member_before before) ms
      → Rises (is_member_before before) (with_groups before same i there groups ms)
  rises-with_groups i there [] ms rises = rises
  rises-with_groups i there (group ∷ groups) ms rises = rises-with_groups i there groups (with_group before same i there group ms) (rises-with_group i there group ms rises)

  rises-without_group : (i : K) (staying : List (Option Group)) (group : Option Group) (ms : List (Member K)) → Rises (is_member_before before) ms
      → Rises (is_member_before before) (without_group same i staying group ms)
  rises-without_group i staying None ms rises = rises
  rises-without_group i staying (Some g) ms rises = by_bool (λ b. Rises (is_member_before before) (cond b ms (without_member same g i ms))) (is_among g staying) (λ _. rises) (λ _. rises-without before same g i ms rises)

  rises-without_groups : (i : K) (staying groups : List (Option Group)) (ms : List (Member K)) → Rises (is_member_before before) ms
      → Rises (is_member_before before) (without_groups same i staying groups ms)
  rises-without_groups i staying [] ms rises = rises
  rises-without_groups i staying (group ∷ groups) ms rises = rises-without_groups i staying groups (without_group same i staying group ms) (rises-without_group i staying group ms rises)

  pub rises-moved : (i : K) (was now : List (Option Group)) (ms : List (Member K)) → Rises (is_member_before before) ms → Rises (is_member_before before) (with_moved before same i was now ms)
  rises-moved i was now ms rises = rises-with_groups i was now (without_groups same i now was ms) (rises-without_groups i now was ms rises)

  pub rises-all_moved : (now : K → List (Option Group)) (placed : List (Placed K)) (ms : List (Member K)) → Rises (is_member_before before) ms
      → Rises (is_member_before before) (with_all_moved before same now placed ms)
  rises-all_moved now [] ms rises = rises
  rises-all_moved now (p ∷ placed) ms rises = rises-all_moved now placed (with_moved before same p.id p.groups (now p.id) ms) (rises-moved p.id p.groups (now p.id) ms rises)

  -- ## the members of one group and id

  module _ (g : Group) (i : K) where
    abbrev has_placed : List (Member K) → Bool
    has_placed ms = has_member same g i ms

    with-group : (j : K) (there : List (Option Group)) (group : Option Group) (ms : List (Member K)) (rest : Bool)
        → ((same j i && (rest && not (is_among g there))) || has_placed (with_group before same j there group ms)) ≡ ((same j i && ((is_place g group || rest) && not (is_among g there))) || has_placed ms)
    with-group j there None ms rest = refl
    with-group j there (Some h) ms rest = grind (arith, group-equal h g, has-with before same equal g i h j ms)

    pub with-groups : (j : K) (there groups : List (Option Group)) (ms : List (Member K))
        → has_placed (with_groups before same j there groups ms) ≡ ((same j i && (is_among g groups && not (is_among g there))) || has_placed ms)
    with-groups j there [] ms = sym (ap (λ (b : Bool). b || has_placed ms) (and_false (same j i)))
    with-groups j there (group ∷ groups) ms =
        with-groups j there groups (with_group before same j there group ms)
        ∙ with-group j there group ms (is_among g groups)

    without-group : (j : K) (staying : List (Option Group)) (group : Option Group) (ms : List (Member K)) (rest : Bool) → Rises (is_member_before before) ms
        → (not (same j i && (rest && not (is_among g staying))) && has_placed (without_group same j staying group ms)) ≡ (not (same j i && ((is_place g group || rest) && not (is_among g staying))) && has_placed ms)
    without-group j staying None ms rest rises = refl
    without-group j staying (Some h) ms rest rises = grind (arith, group-equal h g, has-without before same one_way equal g i h j ms rises)

    without-groups : (j : K) (staying groups : List (Option Group)) (ms : List (Member K)) → Rises (is_member_before before) ms
        → has_placed (without_groups same j staying groups ms) ≡ (not (same j i && (is_among g groups && not (is_among g staying))) && has_placed ms)
    without-groups j staying [] ms rises = sym (ap (λ (b : Bool). not b && has_placed ms) (and_false (same j i)))
    without-groups j staying (group ∷ groups) ms rises =
        without-groups j staying groups (without_group same j staying group ms) (rises-without_group j staying group ms rises)
        ∙ without-group j staying group ms (is_among g groups) rises

    -- after one id is moved
    pub has-moved : (j : K) (was now : List (Option Group)) (ms : List (Member K)) → Rises (is_member_before before) ms
        → has_placed (with_moved before same j was now ms) ≡ cond (same j i) (shift (is_among g was) (is_among g now) (has_placed ms)) (has_placed ms)
    has-moved j was now ms rises = grind (arith, with-groups j was now (without_groups same j now was ms), without-groups j now was ms rises)

    -- after those of a list are
    pub all-moved : (old new : K → List (Option Group)) (ids : List K) (ms : List (Member K)) → Rises (is_member_before before) ms
        → has_placed (with_all_moved before same new (map (λ j. record { id = j; groups = old j }) ids) ms)
        ≡ cond (list_any (λ j. same j i) ids) (shift (is_among g (old i)) (is_among g (new i)) (has_placed ms)) (has_placed ms)
    all-moved old new [] ms rises = refl
    all-moved old new (j ∷ ids) ms rises =
        all-moved old new ids (with_moved before same j (old j) (new j) ms) (rises-moved j (old j) (new j) ms rises)
        ∙ grind (arith, equal j i, has-moved j (old j) (new j) ms rises)

    -- if it was where its groups before say, it is where those now do
    pub each-moved : (old new : K → List (Option Group)) (ids : List K) (ms : List (Member K)) → Rises (is_member_before before) ms
        → has_placed ms ≡ is_among g (old i) → (list_any (λ j. same j i) ids ≡ false → is_among g (new i) ≡ is_among g (old i))
        → has_placed (with_all_moved before same new (map (λ j. record { id = j; groups = old j }) ids) ms) ≡ is_among g (new i)
    each-moved old new ids ms rises was stays = grind (arith, all-moved old new ids ms rises)

-- # the groups that have members, one after another

-- the member after those that pass is the first that does not
pub past-prefix : {X : Type 0} (p q : X → Bool) → ((x : X) → q x ≡ not (p x)) → (xs : List X) → slice_get xs (prefix_len p xs) ≡ find q xs
past-prefix p q other [] = refl
past-prefix p q other (x ∷ xs) = grind (arith, nat_tests, other x, past-prefix p q other xs)

module _ {K : Type 0} (g : Group) (ms : List (Member K)) (place : ℕ) (found : Option (Member K)) (there : found ≡ slice_get ms place) where
  -- the member after those of earlier groups is in the first group from this one on
  pub from-there : place ≡ prefix_len (λ m. is_group_before m.group g) ms → option_map (λ (m : Member K). m.group) found ≡ group_from g ms
  from-there is =
      ap (option_map (λ (m : Member K). m.group))
      (there ∙ ap (slice_get ms) is ∙ past-prefix (λ (m : Member K). is_group_before m.group g) (λ (m : Member K). not (is_group_before m.group g)) (λ m. refl) ms)

  -- the one after those of the group and of earlier ones is in the first group after it
  pub after-there : place ≡ prefix_len (λ m. not (is_group_before g m.group)) ms → option_map (λ (m : Member K). m.group) found ≡ group_after g ms
  after-there is =
      ap (option_map (λ (m : Member K). m.group))
      (there ∙ ap (slice_get ms) is ∙ past-prefix (λ (m : Member K). not (is_group_before g m.group)) (λ (m : Member K). is_group_before g m.group) (λ m. grind arith) ms)

-- no group is before itself
pub group-not_before : (g : Group) → is_group_before g g ≡ false
group-not_before g = grind (arith, nat_tests)

-- the group of the first member that passes: no member that passes is of an earlier group
pub record IsLeast {K : Type 0} (q : Group → Bool) (ms : List (Member K)) (g : Group) : Type 0 where
  pub passes : q g ≡ true
  pub member : list_any (λ (m : Member K). same_group m.group g) ms ≡ true
  pub least : AllByRecursion (λ (m : Member K). (not (q m.group) || not (is_group_before m.group g)) ≡ true) ms

module _ {K : Type 0} (before : K → K → Bool) where
  -- a later member is in no earlier group
  later-group : (x y : Member K) → is_member_before before x y ≡ true → is_group_before y.group x.group ≡ false
  later-group x y order = grind (arith, nat_tests, group-equal x.group y.group, group-not_before x.group, group-one_way x.group y.group)

  module _ (q : Group → Bool) where
    pub least-found : (ms : List (Member K)) → Rises (is_member_before before) ms → (g : Group) → option_map (λ (m : Member K). m.group) (find (λ (m : Member K). q m.group) ms) ≡ Some g → IsLeast q ms g
    least-found [] rises g found = absurd cc
    least-found (x ∷ xs) rises g found =
        by_bool (λ b. q x.group ≡ b → option_map (λ (m : Member K). m.group) (cond b (Some x) (find (λ (m : Member K). q m.group) xs)) ≡ Some g → IsLeast q (x ∷ xs) g) (q x.group)
        (λ _ is here. let same : x.group ≡ g = cc in subst (λ (h : Group). IsLeast q (x ∷ xs) h) same (record {
          passes = is;
          member = rw (group-itself x.group) refl;
          least = (
            rw (group-not_before x.group) (or_true (not (q x.group))),
            all-weaker (λ y. is_member_before before x y ≡ true) (λ (y : Member K). (not (q y.group) || not (is_group_before y.group x.group)) ≡ true)
                (λ y order. rw (later-group x y order) (or_true (not (q y.group)))) xs rises.0,
          );
        }))
        (λ _ is later. let least = least-found xs rises.1 g later in record { passes = least.passes; member = rw least.member (or_true (same_group x.group g)); least = (rw is refl, least.least) }) refl found
