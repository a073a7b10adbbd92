-- searching a list that is in order, and the two sides of a split of it
use Rattle.np_lists.proofs.Prelude.{AllByRecursion, AreFilled, Bool, FirstAt, Group, IsPartitionPoint, IsPartitionedBy, IsSplit, List, Member, None, NonePass, Option, Rises, Some, ap, arith, change_at, change_first, cond, drop, false, false_from_ne_true, filter, find, get_or, get_or-append-add, get_or_append_left, id_if, ids_in, insert, insert-append_left, insert-append_right, insert_before, is_group_before, is_member_before, items_of, length, length-append, length-drop, length-map, length-take, list_any, map, member, nat_tests, not, option_map_or, position, position-Some, position_or_len, prefix_len, prefix_len-append, prefix_len-le-length, prefix_len_passes, prefix_len_stops, refl, remove, remove-append_left, remove-append_right, remove_first, row_is_before, same_group, same_member, slice_get, slice_set, suc, sym, take, true, with_member, zero, ℕ, [], ◌++◌, ◌+◌, ◌-◌, ◌<◌, ◌∙◌, ◌∷◌, ◌≡◌, ◌≤◌}
use Rattle.np_lists.proofs.Changes.{IsBetween, all-from_at, all-get_or, all-weaker, change_at-set, filter-between, filter-nothing, list_any-none, none-later}
use Rattle.np_lists.proofs.Members.{down-high, down-low, group-apart, group-between, group-is, step}
use Rattle.np_lists.proofs.Plain.{by_bool}

-- # in a list in order, binary search finds the first member that passes

-- ## the member at the first place

pub find-first : {X : Type 0} (p : X → Bool) (xs : List X) (i : ℕ) → FirstAt p xs i → find p xs ≡ slice_get xs i
find-first p [] i first = absurd first
find-first p (x ∷ xs) zero first = rw first refl
find-first p (x ∷ xs) (suc i) first = rw (first.0) (find-first p xs i first.1)

pub find-none : {X : Type 0} (p : X → Bool) (xs : List X) → NonePass p xs → find p xs ≡ None
find-none p [] none = refl
find-none p (x ∷ xs) none = rw (none.0) (find-none p xs none.1)

pub none-find : {X : Type 0} (p : X → Bool) (xs : List X) → find p xs ≡ None → NonePass p xs
none-find p [] none = tt
none-find p (x ∷ xs) none = (grind arith, none-find p xs (grind arith))

pub first-within : {X : Type 0} (p : X → Bool) (xs : List X) (i : ℕ) → FirstAt p xs i → i < length xs
first-within p [] i first = absurd first
first-within p (x ∷ xs) zero first = omega arith
first-within p (x ∷ xs) (suc i) first = omega (arith, first-within p xs i first.1)

pub change_first-at : {X : Type 0} (p : X → Bool) (f : X → X) (xs : List X) (i : ℕ) → FirstAt p xs i → change_first p f xs ≡ change_at i f xs
change_first-at p f [] i first = absurd first
change_first-at p f (x ∷ xs) zero first = rw first refl
change_first-at p f (x ∷ xs) (suc i) first = rw (first.0) (ap (λ t. x ∷ t) (change_first-at p f xs i first.1))

pub change_first-first : {X : Type 0} (p : X → Bool) (f : X → X) (xs : List X) (i : ℕ) (d : X) → FirstAt p xs i → change_first p f xs ≡ slice_set xs i (f (get_or xs i d))
change_first-first p f xs i d first = change_first-at p f xs i first ∙ change_at-set i f xs d (first-within p xs i first)

pub change_first-none : {X : Type 0} (p : X → Bool) (f : X → X) (xs : List X) → NonePass p xs → change_first p f xs ≡ xs
change_first-none p f [] none = refl
change_first-none p f (x ∷ xs) none = rw (none.0) (ap (λ t. x ∷ t) (change_first-none p f xs none.1))

pub remove_first-first : {X : Type 0} (p : X → Bool) (xs : List X) (i : ℕ) → FirstAt p xs i → remove_first p xs ≡ take i xs ++ drop (suc i) xs
remove_first-first p [] i first = absurd first
remove_first-first p (x ∷ xs) zero first = rw first refl
remove_first-first p (x ∷ xs) (suc i) first = rw (first.0) (ap (λ t. x ∷ t) (remove_first-first p xs i first.1))

pub remove_first-none : {X : Type 0} (p : X → Bool) (xs : List X) → NonePass p xs → remove_first p xs ≡ xs
remove_first-none p [] none = refl
remove_first-none p (x ∷ xs) none = rw (none.0) (ap (λ t. x ∷ t) (remove_first-none p xs none.1))

-- ## binary search

-- the members before what is searched for come before the others
pub parted : {X : Type 0} (before : X → X → Bool) (less : X → Bool) → ((x y : X) → before x y ≡ true → less y ≡ true → less x ≡ true) → (xs : List X) → Rises before xs → IsPartitionedBy less xs
parted before less down [] rises i j d order within passes = absurd (omega arith)
parted before less down (x ∷ xs) rises zero zero d order within passes = passes
parted before less down (x ∷ xs) rises zero (suc j) d order within passes = down x (get_or xs j d) (all-get_or (λ y. before x y ≡ true) xs j d rises.0 (omega arith)) passes
parted before less down (x ∷ xs) rises (suc i) zero d order within passes = absurd (omega arith)
parted before less down (x ∷ xs) rises (suc i) (suc j) d order within passes = parted before less down xs rises.1 i j d (omega arith) (omega arith) passes

-- the member at the point is what is searched for
pub found : {X : Type 0} (less same : X → Bool) → ((x : X) → less x ≡ true → same x ≡ false) → (xs : List X) (i : ℕ) (d : X) → IsPartitionPoint (λ y. less y ≡ true) (λ y. less y ≡ false) xs i → i < length xs → same (get_or xs i d) ≡ true → FirstAt same xs i
found less same apart [] i d point within is = absurd (omega arith)
found less same apart (x ∷ xs) zero d point within is = is
found less same apart (x ∷ xs) (suc i) d point within is = (
  apart x (point.0 0 d (omega arith) (omega arith)),
  found less same apart xs i d (λ k e low high. point.0 (suc k) e (omega arith) (omega arith), λ k e low high. point.1 (suc k) e (omega arith) (omega arith)) (omega arith) is,
)

-- less: the member is before what is searched for; same: it is what is searched for
module _ {X : Type 0} (before : X → X → Bool) (less same : X → Bool)
    (down : (x y : X) → before x y ≡ true → less y ≡ true → less x ≡ true)
    (apart : (x : X) → less x ≡ true → same x ≡ false)
    (beyond : (x y : X) → before x y ≡ true → less x ≡ false → same y ≡ false) where
  -- it is not, or there is none at the point
  pub absent : (xs : List X) (i : ℕ) → Rises before xs → IsPartitionPoint (λ y. less y ≡ true) (λ y. less y ≡ false) xs i → (i < length xs → (d : X) × (same (get_or xs i d) ≡ false)) → NonePass same xs
  absent [] i rises point other = tt
  absent (x ∷ xs) zero rises point other = (
    (other (omega arith)).1,
    all-weaker (λ y. before x y ≡ true) (λ y. same y ≡ false) (λ y order. beyond x y order (point.1 0 x (omega arith) (omega arith))) xs rises.0,
  )
  absent (x ∷ xs) (suc i) rises point other = (
    apart x (point.0 0 x (omega arith) (omega arith)),
    absent xs i rises.1 (λ k e low high. point.0 (suc k) e (omega arith) (omega arith), λ k e low high. point.1 (suc k) e (omega arith) (omega arith)) (λ within. other (omega arith)),
  )

-- # the member at the place that a search found

first-from : {X : Type 0} (p : X → Bool) (xs : List X) (i : ℕ) (d : X) → i < length xs → p (get_or xs i d) ≡ true → ((k : ℕ) → k < i → p (get_or xs k d) ≡ false) → FirstAt p xs i
first-from p [] i d within here before = absurd (omega arith)
first-from p (x ∷ xs) zero d within here before = here
first-from p (x ∷ xs) (suc i) d within here before = (before 0 (omega arith), first-from p xs i d (omega arith) here (λ k low. before (suc k) (omega arith)))

pub change_first-position : {X : Type 0} (p : X → Bool) (f : X → X) (xs : List X) (i : ℕ) (d : X) → position p xs ≡ Some i → change_first p f xs ≡ slice_set xs i (f (get_or xs i d))
change_first-position p f xs i d is =
    let at = position-Some p xs i d is in
    change_first-first p f xs i d (first-from p xs i d at.0 at.1 at.2)

nowhere : {X : Type 0} (p : X → Bool) (f : X → X) (xs : List X) → length xs ≤ position_or_len p xs → change_first p f xs ≡ xs
nowhere p f [] past = refl
nowhere p f (x ∷ xs) past = grind (arith, nat_tests, nowhere p f xs)

pub change_first-nowhere : {X : Type 0} (p : X → Bool) (f : X → X) (xs : List X) → position p xs ≡ None → change_first p f xs ≡ xs
change_first-nowhere p f xs is =
    let past : length xs ≤ position_or_len p xs = grind (arith, nat_tests) in
    nowhere p f xs past

-- # in a list in order, the members that a probe passes come first

-- if each member before one that passes also passes
pub IsSplit-partitioned : {X : Type 0} (p : X → Bool) (xs : List X) → IsPartitionedBy p xs → IsSplit p xs
IsSplit-partitioned p xs first_pass k d past within =
    false_from_ne_true (p (get_or xs k d)) (λ is.
    let first = first_pass (prefix_len p xs) k d past within is in
    let stops = prefix_len_stops p xs d (omega arith) in
    absurd cc)

module _ {X : Type 0} (before : X → X → Bool) (less : X → Bool) (down : (x y : X) → before x y ≡ true → less y ≡ true → less x ≡ true) where
  pub IsSplit-rises : (xs : List X) → Rises before xs → IsSplit less xs
  IsSplit-rises xs rises = IsSplit-partitioned less xs (parted before less down xs rises)

  -- their number is the point between them and the others
  pub IsPartitionPoint-rises : (xs : List X) → Rises before xs → IsPartitionPoint (λ x. less x ≡ true) (λ x. less x ≡ false) xs (prefix_len less xs)
  IsPartitionPoint-rises xs rises = (λ k d low high. prefix_len_passes less xs k d high, IsSplit-rises xs rises)

-- # a list split by a probe is split on each side of the item in the middle

-- the item in the middle is where the left side ends
at-middle : {T : Type 0} (left right : List T) (item : T) → get_or (left ++ item ∷ right) (length left) item ≡ item
at-middle left right item = let here : length left + 0 ≡ length left = omega arith in let all = get_or-append-add left (item ∷ right) 0 item in rw here at all

-- if an item passes, each item before it passes
whole-left : {T : Type 0} (p : T → Bool) (left right : List T) (item : T) → IsSplit p (left ++ item ∷ right) → p item ≡ true → prefix_len p left ≡ length left
whole-left p left right item split passes =
    grind (arith, nat_tests, prefix_len-append p left (item ∷ right), prefix_len-le-length p left, length-append left (item ∷ right), split (length left) item, at-middle left right item)

-- how many items pass, if the item in the middle does
pub prefix_len-passed : {T : Type 0} (p : T → Bool) (left right : List T) (item : T) → IsSplit p (left ++ item ∷ right) → p item ≡ true → length left + 1 + prefix_len p right ≡ prefix_len p (left ++ item ∷ right)
prefix_len-passed p left right item split passes =
    let whole = whole-left p left right item split passes in
    grind (arith, nat_tests, prefix_len-append p left (item ∷ right))

-- the items after it are split too
pub IsSplit-right : {T : Type 0} (p : T → Bool) (left right : List T) (item : T) → IsSplit p (left ++ item ∷ right) → p item ≡ true → IsSplit p right
IsSplit-right p left right item split passes k d from within =
    let passed = prefix_len-passed p left right item split passes in
    let many = length-append left (item ∷ right) in
    let fails = split (length left + suc k) d (omega arith) (omega arith) in
    let there = get_or-append-add left (item ∷ right) (suc k) d in
    ap p (sym there) ∙ fails

-- how many items pass, if the item in the middle does not
pub prefix_len-stopped : {T : Type 0} (p : T → Bool) (left right : List T) (item : T) → p item ≡ false → prefix_len p left ≡ prefix_len p (left ++ item ∷ right)
prefix_len-stopped p left right item fails = grind (arith, nat_tests, prefix_len-append p left (item ∷ right))

-- the items before it are split too
pub IsSplit-left : {T : Type 0} (p : T → Bool) (left right : List T) (item : T) → IsSplit p (left ++ item ∷ right) → p item ≡ false → IsSplit p left
IsSplit-left p left right item split fails k d from within =
    let same = prefix_len-stopped p left right item fails in
    let many = length-append left (item ∷ right) in
    let after = split k d (omega arith) (omega arith) in
    ap p (sym (get_or_append_left left (item ∷ right) d k within)) ∙ after

-- # searching rows that are in the order of their keys

module _ {K : Type 0} (before same : K → K → Bool)
    (one_way : (a b : K) → before a b ≡ true → before b a ≡ false)
    (equal : (a b : K) → same a b ≡ true → a ≡ b) where
  -- a key that is before another is not the same
  pub apart : (a k : K) → before a k ≡ true → same a k ≡ false
  apart a k first = grind (arith, one_way a k, equal a k)

  -- a key after one that is not before another is not that other
  pub beyond : (a b k : K) → before a b ≡ true → before a k ≡ false → same b k ≡ false
  beyond a b k first past = grind (arith, equal b k)

module _ {X K : Type 0} (key : X → K) (before same : K → K → Bool)
    (transitive : (a b k : K) → before a b ≡ true → before b k ≡ true → before a k ≡ true)
    (one_way : (a b : K) → before a b ≡ true → before b a ≡ false)
    (equal : (a b : K) → same a b ≡ true → a ≡ b)
    (k : K) where
  -- no row has the key if the one where those before it end does not, or if there is none
  pub key_absent : (xs : List X) (i : ℕ) → Rises (λ a b. before (key a) (key b)) xs → IsPartitionPoint (λ x. before (key x) k ≡ true) (λ x. before (key x) k ≡ false) xs i → (i < length xs → (d : X) × (same (key (get_or xs i d)) k ≡ false)) → NonePass (λ x. same (key x) k) xs
  key_absent xs i rises point other =
      absent (λ a b. before (key a) (key b)) (λ x. before (key x) k) (λ x. same (key x) k)
      (λ x y first second. transitive (key x) (key y) k first second)
      (λ x first. apart before same one_way equal (key x) k first)
      (λ x y first past. beyond before same one_way equal (key x) (key y) k first past)
      xs i rises point other

-- ## whether one passes

pub any-first : {X : Type 0} (p : X → Bool) (xs : List X) (i : ℕ) → FirstAt p xs i → list_any p xs ≡ true
any-first p [] i first = absurd first
any-first p (x ∷ xs) zero first = rw first refl
any-first p (x ∷ xs) (suc i) first = rw (first.0) (any-first p xs i first.1)

-- # searching members in order

-- a member that is there is not put again
pub member-there : {K : Type 0} (before same : K → K → Bool) (g : Group) (j : K) (ms : List (Member K)) (i : ℕ)
    → FirstAt (λ m. same_member same m (member g j)) ms i → ms ≡ with_member before same g j ms
member-there before same g j ms i first = rw (any-first (λ m. same_member same m (member g j)) ms i first) refl

-- one that is not comes before the first member that it is before
pub member-new : {K : Type 0} (before same : K → K → Bool) (g : Group) (j : K) (ms : List (Member K)) → NonePass (λ m. same_member same m (member g j)) ms
    → with_member before same g j ms ≡ insert_before (λ m. is_member_before before (member g j) m) (member g j) ms
member-new before same g j ms none = rw (list_any-none (λ m. same_member same m (member g j)) ms none) refl

-- ## one group

module _ {K : Type 0} (before : K → K → Bool) (g : Group) where
  -- the group is between
  pub length-ids : (ms : List (Member K)) → Rises (is_member_before before) ms
      → prefix_len (λ m. not (is_group_before g m.group)) ms - prefix_len (λ m. is_group_before m.group g) ms ≡ length (ids_in g ms)
  length-ids ms rises =
      let low = prefix_len (λ (m : Member K). is_group_before m.group g) ms in
      let high = prefix_len (λ (m : Member K). not (is_group_before g m.group)) ms in
      let part = filter-between (is_member_before before) (λ m. is_group_before m.group g) (λ m. not (is_group_before g m.group)) (λ m. same_group m.group g)
      (down-low before g) (down-high before g) ms (all-from_at (IsBetween (λ m. is_group_before m.group g) (λ m. not (is_group_before g m.group)) (λ m. same_group m.group g)) ms
      (λ _ m _. record { both = group-between m.group g; is = group-is m.group g })) rises in
      let most : high ≤ length ms = prefix_len-le-length (λ m. not (is_group_before g m.group)) ms in
      let long : length (take (high - low) (drop low ms)) ≡ high - low = simp (length-take, length-drop) (omega arith) in
      sym (length-map (filter (λ m. same_group m.group g) ms) (λ m. m.id) ∙ ap length part ∙ long)

-- ## the place in a group

module _ {K : Type 0} (before : K → K → Bool) (g : Group) where
  -- in order, after a member that is of no earlier group and not of this one, no member is of this one
  others : (x : Member K) (xs : List (Member K)) → AllByRecursion (λ y. is_member_before before x y ≡ true) xs → is_group_before x.group g ≡ false → same_group x.group g ≡ false
      → NonePass (λ m. same_group m.group g) xs
  others x xs after low other =
      all-weaker (λ y. is_member_before before x y ≡ true) (λ y. same_group y.group g ≡ false) (λ y order. grind (arith, down-high before g x y order, group-is x.group g, group-is y.group g)) xs after

  none-ids : (ms : List (Member K)) → AllByRecursion (λ m. same_group m.group g ≡ false) ms → ids_in g ms ≡ []
  none-ids ms none = ap (map (λ (m : Member K). m.id)) (filter-nothing (λ m. same_group m.group g) ms none)

  none-id : (ms : List (Member K)) (k : ℕ) → AllByRecursion (λ m. same_group m.group g ≡ false) ms → id_if g (slice_get ms k) ≡ None
  none-id [] k none = refl
  none-id (x ∷ xs) zero none = rw (none.0) refl
  none-id (x ∷ xs) (suc k) none = none-id xs k none.1

  -- where no member is of an earlier group, the group's are the first
  front : (ms : List (Member K)) → Rises (is_member_before before) ms → NonePass (λ m. is_group_before m.group g) ms
      → (k : ℕ) → slice_get (ids_in g ms) k ≡ id_if g (slice_get ms k)
  front [] rises none k = refl
  front (x ∷ xs) rises none zero =
      let out = λ (other : same_group x.group g ≡ false). none-ids xs (others x xs rises.0 none.0 other) in
      grind (arith, step g x xs, out)
  front (x ∷ xs) rises none (suc k) =
      let out = λ (other : same_group x.group g ≡ false). none-ids xs (others x xs rises.0 none.0 other) in
      let past = λ (other : same_group x.group g ≡ false). none-id xs k (others x xs rises.0 none.0 other) in
      grind (arith, step g x xs, front xs rises.1 none.1 k, out, past)

  -- the id at a place of the group is that of the member so far after the group's start
  pub id-at : (ms : List (Member K)) → Rises (is_member_before before) ms → (k : ℕ)
      → slice_get (ids_in g ms) k ≡ id_if g (slice_get ms (prefix_len (λ m. is_group_before m.group g) ms + k))
  id-at [] rises k = refl
  id-at (x ∷ xs) rises k =
      by_bool (λ b. is_group_before x.group g ≡ b → slice_get (ids_in g (x ∷ xs)) k ≡ id_if g (slice_get (x ∷ xs) (cond b (1 + prefix_len (λ m. is_group_before m.group g) xs) 0 + k))) (is_group_before x.group g)
      (λ _ first.
      let one_more : 1 + prefix_len (λ m. is_group_before m.group g) xs + k ≡ suc (prefix_len (λ m. is_group_before m.group g) xs + k) = omega arith in
      rw (group-apart x.group g first, one_more) (id-at xs rises.1 k))
      (λ _ not_first.
      let same : 0 + k ≡ k = omega arith in
      rw same (front (x ∷ xs) rises (not_first, none-later (is_member_before before) (λ m. is_group_before m.group g) (down-low before g) x xs not_first rises.0) k)) refl

  -- the member there is of the group, or of another, or there is none
  pub id-there : (ms : List (Member K)) → Rises (is_member_before before) ms → (start k : ℕ) → start ≡ prefix_len (λ m. is_group_before m.group g) ms
      → (found : Option (Member K)) → found ≡ slice_get ms (start + k) → id_if g found ≡ slice_get (ids_in g ms) k
  id-there ms rises start k is found there =
      ap (id_if g) there
      ∙ sym (id-at ms rises k ∙ ap (λ (n : ℕ). id_if g (slice_get ms (n + k))) (sym is))

-- ## the ids before one

module _ {K : Type 0} (before : K → K → Bool) (g : Group) (i : K) where
  abbrev is_earlier : Member K → Bool
  is_earlier m = is_member_before before m (member g i)

  -- where no member is of an earlier group, the members before one of the group's are its ids before it
  front-before : (ms : List (Member K)) → Rises (is_member_before before) ms → NonePass (λ m. is_group_before m.group g) ms
      → prefix_len is_earlier ms ≡ prefix_len (λ k. before k i) (ids_in g ms)
  front-before [] rises none = refl
  front-before (x ∷ xs) rises none =
      let out = λ (other : same_group x.group g ≡ false). none-ids before g xs (others before g x xs rises.0 none.0 other) in
      grind (arith, nat_tests, step g x xs, none.0, front-before xs rises.1 none.1, out)

  -- the members before one of the group's are those of earlier groups, and the group's ids before it
  pub count-before : (ms : List (Member K)) → Rises (is_member_before before) ms
      → prefix_len is_earlier ms ≡ prefix_len (λ m. is_group_before m.group g) ms + prefix_len (λ k. before k i) (ids_in g ms)
  count-before [] rises = refl
  count-before (x ∷ xs) rises =
      by_bool (λ b. is_group_before x.group g ≡ b → prefix_len is_earlier (x ∷ xs) ≡ cond b (1 + prefix_len (λ m. is_group_before m.group g) xs) 0 + prefix_len (λ k. before k i) (ids_in g (x ∷ xs))) (is_group_before x.group g)
      (λ _ first. rw (group-apart x.group g first, first) (omega (arith, count-before xs rises.1)))
      (λ _ not_first.
      front-before (x ∷ xs) rises (not_first, none-later (is_member_before before) (λ m. is_group_before m.group g) (down-low before g) x xs not_first rises.0) ∙ omega arith) refl

  -- so they are counted from the group's start
  pub length-before : (ms : List (Member K)) → Rises (is_member_before before) ms
      → prefix_len is_earlier ms - prefix_len (λ m. is_group_before m.group g) ms ≡ prefix_len (λ k. before k i) (ids_in g ms)
  length-before ms rises = omega (arith, count-before ms rises)

-- # rows with an item each: a change of the rows is that change of the items

pub length-items_of : {T : Type 0} (rows : List (Option T)) → AreFilled rows → length (items_of rows) ≡ length rows
length-items_of [] filled = refl
length-items_of (None ∷ rows) filled = absurd filled
length-items_of (Some item ∷ rows) filled = let rest = length-items_of rows filled in omega arith

-- the row at a place has the item at that place, and past the rows there is no item
pub row-at : {T : Type 0} (rows : List (Option T)) (place : ℕ) → AreFilled rows → option_map_or (λ row. row) (slice_get rows place) None ≡ slice_get (items_of rows) place
row-at [] place filled = refl
row-at (None ∷ rows) place filled = absurd filled
row-at (Some item ∷ rows) zero filled = refl
row-at (Some item ∷ rows) (suc place) filled = row-at rows place filled

-- ## a search

module _ {T : Type 0} (before : T → Bool) where
  pub prefix_len-items_of : (rows : List (Option T)) → AreFilled rows → prefix_len (row_is_before before) rows ≡ prefix_len before (items_of rows)
  prefix_len-items_of [] filled = refl
  prefix_len-items_of (None ∷ rows) filled = absurd filled
  prefix_len-items_of (Some item ∷ rows) filled = ap (λ (n : ℕ). cond (before item) (1 + n) 0) (prefix_len-items_of rows filled)

  -- a row has the item at its place
  filled-at : (rows : List (Option T)) (k : ℕ) (row : Option T) (item : T) → AreFilled rows → k < length rows → row_is_before before (get_or rows k row) ≡ before (get_or (items_of rows) k item)
  filled-at [] k row item filled within = absurd (omega arith)
  filled-at (None ∷ rows) k row item filled within = absurd filled
  filled-at (Some other ∷ rows) zero row item filled within = refl
  filled-at (Some other ∷ rows) (suc k) row item filled within = filled-at rows k row item filled (omega arith)

  pub IsSplit-items_of : (rows : List (Option T)) → AreFilled rows → IsSplit before (items_of rows) → IsSplit (row_is_before before) rows
  IsSplit-items_of [] filled split k row past within = absurd (omega arith)
  IsSplit-items_of (None ∷ rows) filled split k row past within = absurd filled
  IsSplit-items_of (Some item ∷ rows) filled split k row past within =
      let many = length-items_of rows filled in
      let same = prefix_len-items_of (Some item ∷ rows) filled in
      filled-at (Some item ∷ rows) k row item filled within ∙ split k item (omega arith) (omega arith)

-- ## a change

-- a row put in and then filled
pub row-put : {T : Type 0} (item : T) (rows : List (Option T)) (place : ℕ) (row : Option T) → AreFilled rows → place ≤ length rows
    → AreFilled (change_at place (λ _. Some item) (insert rows place row)) × (items_of (change_at place (λ _. Some item) (insert rows place row)) ≡ insert (items_of rows) place item)
row-put item rows zero row filled within = (filled, refl)
row-put item [] (suc place) row filled within = absurd (omega arith)
row-put item (None ∷ rows) (suc place) row filled within = absurd filled
row-put item (Some other ∷ rows) (suc place) row filled within = let rest = row-put item rows place row filled (omega arith) in (rest.0, ap (λ items. other ∷ items) rest.1)

-- a row taken out
pub row-taken : {T : Type 0} (rows : List (Option T)) (place : ℕ) → AreFilled rows → AreFilled (remove rows place) × (items_of (remove rows place) ≡ remove (items_of rows) place)
row-taken [] zero filled = (tt, refl)
row-taken [] (suc place) filled = (tt, refl)
row-taken (None ∷ rows) place filled = absurd filled
row-taken (Some other ∷ rows) zero filled = (filled, refl)
row-taken (Some other ∷ rows) (suc place) filled = let rest = row-taken rows place filled in (rest.0, ap (λ items. other ∷ items) rest.1)

-- # edits of a list around the item in the middle are edits of one side

-- Edits of a list around the item in the middle, `left ++ item ∷ right`, are edits of one side.
-- A place past the middle comes with `below`, its place on the right.

-- an item put in before the item in the middle
pub insert-left : {T : Type 0} (left right : List T) (item new : T) (place : ℕ) → place ≤ length left → insert left place new ++ item ∷ right ≡ insert (left ++ item ∷ right) place new
insert-left left right item new place within = sym (insert-append_left left (item ∷ right) place new within)

-- an item put in after it
pub insert-right : {T : Type 0} (left right : List T) (item new : T) (place below : ℕ) → place ≡ length left + suc below → left ++ item ∷ insert right below new ≡ insert (left ++ item ∷ right) place new
insert-right left right item new place below past =
    let there : place - length left ≡ suc below = omega (arith, past) in
    let all = insert-append_right left (item ∷ right) (length left) place new refl (omega arith) in
    sym (rw there at all)

-- an item before it taken out
pub remove-left : {T : Type 0} (left right : List T) (item : T) (place : ℕ) → place < length left → remove left place ++ item ∷ right ≡ remove (left ++ item ∷ right) place
remove-left left right item place within = sym (remove-append_left left (item ∷ right) place within)

-- an item after it taken out
pub remove-right : {T : Type 0} (left right : List T) (item : T) (place below : ℕ) → place ≡ length left + suc below → left ++ item ∷ remove right below ≡ remove (left ++ item ∷ right) place
remove-right left right item place below past =
    let there : place - length left ≡ suc below = omega (arith, past) in
    let all = remove-append_right left (item ∷ right) (length left) place refl (omega arith) in
    sym (rw there at all)

-- the item in the middle taken out
pub remove-middle : {T : Type 0} (left right : List T) (item : T) (place : ℕ) → place ≡ length left → left ++ right ≡ remove (left ++ item ∷ right) place
remove-middle [] right item place there = rw there refl
remove-middle (x ∷ left) right item place there = rw there (ap (λ rest. x ∷ rest) (remove-middle left right item (length left) refl))

-- the item at a place on the left and in the middle
pub slice_get-left : {T : Type 0} (left right : List T) (item : T) (place : ℕ) → place < length left → slice_get (left ++ item ∷ right) place ≡ slice_get left place
slice_get-left [] right item place within = absurd (omega arith)
slice_get-left (x ∷ left) right item zero within = refl
slice_get-left (x ∷ left) right item (suc place) within = slice_get-left left right item place (omega arith)

pub slice_get-middle : {T : Type 0} (left right : List T) (item : T) (place : ℕ) → place ≡ length left → slice_get (left ++ item ∷ right) place ≡ Some item
slice_get-middle [] right item place there = rw there refl
slice_get-middle (x ∷ left) right item place there = rw there (slice_get-middle left right item (length left) refl)

-- an item changed on the left and in the middle
pub change_at-left : {T : Type 0} (f : T → T) (left right : List T) (item : T) (place : ℕ) → place < length left → change_at place f left ++ item ∷ right ≡ change_at place f (left ++ item ∷ right)
change_at-left f [] right item place within = absurd (omega arith)
change_at-left f (x ∷ left) right item zero within = refl
change_at-left f (x ∷ left) right item (suc place) within = ap (λ rest. x ∷ rest) (change_at-left f left right item place (omega arith))

pub change_at-middle : {T : Type 0} (f : T → T) (left right : List T) (item : T) (place : ℕ) → place ≡ length left → left ++ f item ∷ right ≡ change_at place f (left ++ item ∷ right)
change_at-middle f [] right item place there = rw there refl
change_at-middle f (x ∷ left) right item place there = rw there (ap (λ rest. x ∷ rest) (change_at-middle f left right item (length left) refl))

-- the item at a place on the right, and that item changed
pub at-right : {T : Type 0} (f : T → T) (left right : List T) (item : T) (place below : ℕ) → place ≡ length left + suc below
    → (slice_get (left ++ item ∷ right) place ≡ slice_get right below) × (left ++ item ∷ change_at below f right ≡ change_at place f (left ++ item ∷ right))
at-right f [] right item place below past = let there : place ≡ suc below = omega arith in rw there (refl, refl)
at-right f (x ∷ left) right item zero below past = absurd (omega arith)
at-right f (x ∷ left) right item (suc place) below past = let rest = at-right f left right item place below (omega arith) in (rest.0, ap (λ items. x ∷ items) rest.1)

-- the first item on the right takes the place of the item in the middle
pub remove-first_up : {T : Type 0} (left right : List T) (item first : T) (place : ℕ) → place ≡ length left → slice_get right 0 ≡ Some first → left ++ first ∷ drop 1 right ≡ remove (left ++ item ∷ right) place
remove-first_up left [] item first place there stands = cc
remove-first_up left (x ∷ right) item first place there stands = let same : first ≡ x = cc in rw same (remove-middle left (x ∷ right) item place there)
