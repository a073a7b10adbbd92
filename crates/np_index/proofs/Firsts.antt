-- the first rank of a line that passes, of ranks in order, and the walk over the ranks of a line
use Rattle.np_index.proofs.Prelude.{AllByRecursion, AreOpen, Asked, Bool, Configuration, IsOpenFrom, IsWaiting, List, Member, None, OpenOf, Option, PoolId, Rank, RequestId, RequestRecord, Rises, Some, State, TenantId, all-at, all-filter, all-from_at, all-weaker, ap, arith, asked_of, blocking, by_bool, closed-shut, cond, count_by, drop, drop-past, earlier_rank, false, false_from_ne_true, filter, filter-nothing, filter-open_from, find, find-passes, inl, inr, is_closed_rank, is_none, is_past, is_rank_before, is_some, key-least, key-there, length, length-filter, line-blocks, list_any, may_take_up, nat_tests, new_record, next_among, no-key, not, open_record, option_map_or, rank-waits, rank_equal, rank_one_way, rank_transitive, ranks-are, ranks_of, refl, request_in, same_rank, same_rank-itself, slice_get, subst, suc, sym, there, true, zero, ℕ, [], ◌&&◌, ◌+◌, ◌∙◌, ◌∷◌, ◌≡◌, ◌⊎◌}

-- # the first rank that passes, of ranks in order, and the earlier of two

-- ## any list

-- the first that passes is the first of all that pass
pub find-filtered : {X : Type 0} (q : X → Bool) (xs : List X) → find q xs ≡ slice_get (filter q xs) 0
find-filtered q [] = refl
find-filtered q (x ∷ xs) = grind (arith, find-filtered q xs)

-- each passes, so it is the first of all
pub find-always : {X : Type 0} (q : X → Bool) (xs : List X) → AllByRecursion (λ x. q x ≡ true) xs → find q xs ≡ slice_get xs 0
find-always q [] all = refl
find-always q (x ∷ xs) all = rw (all.0) refl

-- from a place on a list in order is in order
pub rises-drop : {X : Type 0} (before : X → X → Bool) (xs : List X) (at : ℕ) → Rises before xs → Rises before (drop at xs)
rises-drop before [] zero rises = rises
rises-drop before [] (suc at) rises = rises
rises-drop before (x ∷ xs) zero rises = rises
rises-drop before (x ∷ xs) (suc at) rises = rises-drop before xs at rises.1

-- ## ranks in order

-- the rank is among these
abbrev pub has : Rank → List Rank → Bool
has x ranks = list_any (λ other. same_rank other x) ranks

-- what `find` returns is there
pub found-there : (q : Rank → Bool) (xs : List Rank) (x : Rank) → find q xs ≡ Some x → has x xs ≡ true
found-there q xs x is = key-there is_rank_before same_rank rank_one_way rank_equal same_rank-itself q xs x is

-- none that passes comes before it
pub found-least : (q : Rank → Bool) (xs : List Rank) (x y : Rank) → Rises is_rank_before xs → find q xs ≡ Some x → has y xs ≡ true → q y ≡ true → is_rank_before y x ≡ false
found-least q xs x y rises is there passes = key-least is_rank_before same_rank rank_one_way rank_equal same_rank-itself q xs x y rises is there passes

-- where `find` returns nothing, none passes
pub none-found : (q : Rank → Bool) (xs : List Rank) (y : Rank) → find q xs ≡ None → has y xs ≡ true → q y ≡ false
none-found q xs y none there = no-key is_rank_before same_rank rank_one_way rank_equal same_rank-itself q xs y none there

-- if none passes, `find` returns nothing
pub find-none : (q : Rank → Bool) (xs : List Rank) → ((y : Rank) → has y xs ≡ true → q y ≡ false) → find q xs ≡ None
find-none q xs none = by (find q xs) refl where
  by : (o : Option Rank) → find q xs ≡ o → o ≡ None
  by None is = refl
  by (Some x) found = absurd (let out = none x (found-there q xs x found) in let passes = find-passes q xs x found in cc)

-- one that passes, and that none that passes comes before, is the first
pub find-least : (q : Rank → Bool) (xs : List Rank) (x : Rank) → Rises is_rank_before xs → has x xs ≡ true → q x ≡ true
    → ((y : Rank) → has y xs ≡ true → q y ≡ true → is_rank_before y x ≡ false) → find q xs ≡ Some x
find-least q xs x rises there passes least = by (find q xs) refl where
  by : (o : Option Rank) → find q xs ≡ o → o ≡ Some x
  by None none = absurd (let out = none-found q xs x none there in cc)
  by (Some y) found =
      let past = least y (found-there q xs y found) (find-passes q xs y found) in
      let beyond = found-least q xs y x rises found there passes in
      ap Some (rank_equal y x (grind (arith, nat_tests)))

-- ## after a member

module _ (a : Rank) where
  -- how many do not come after it
  abbrev earlier : List Rank → ℕ
  earlier xs = length (filter (λ x. not (is_rank_before a x)) xs)

  from-earlier : (xs : List Rank) → Rises is_rank_before xs → filter (is_rank_before a) xs ≡ drop (earlier xs) xs
  from-earlier [] rises = refl
  from-earlier (x ∷ xs) rises = by (is_rank_before a x) refl (from-earlier xs rises.1) where
    later : is_rank_before a x ≡ true → AllByRecursion (λ y. is_rank_before a y ≡ true) xs
    later first = all-weaker (λ y. is_rank_before x y ≡ true) (λ y. is_rank_before a y ≡ true) (λ y next. rank_transitive a x y first next) xs rises.0

    none : (ys : List Rank) → AllByRecursion (λ y. is_rank_before a y ≡ true) ys → filter (λ y. not (is_rank_before a y)) ys ≡ []
    none [] all = refl
    none (y ∷ ys) all = rw (all.0) (none ys all.1)

    whole : (ys : List Rank) → AllByRecursion (λ y. is_rank_before a y ≡ true) ys → filter (is_rank_before a) ys ≡ ys
    whole [] all = refl
    whole (y ∷ ys) all = rw (all.0, whole ys all.1) refl

    by : (b : Bool) → is_rank_before a x ≡ b → filter (is_rank_before a) xs ≡ drop (earlier xs) xs
        → cond b (x ∷ filter (is_rank_before a) xs) (filter (is_rank_before a) xs) ≡ drop (length (cond (not b) (x ∷ filter (λ y. not (is_rank_before a y)) xs) (filter (λ y. not (is_rank_before a y)) xs))) (x ∷ xs)
    by true first rest = rw (none xs (later first)) (ap (λ (ys : List Rank). x ∷ ys) (whole xs (later first)))
    by false past rest = rest

  -- those that come after it are from one place on
  pub after-from : (xs : List Rank) → Rises is_rank_before xs → filter (is_rank_before a) xs ≡ drop (count_by (λ x. not (is_rank_before a x)) xs) xs
  after-from xs rises = from-earlier xs rises ∙ ap (λ (n : ℕ). drop n xs) (length-filter (λ x. not (is_rank_before a x)) xs)

  -- and of those the ones that pass
  pub filter-after : (q : Rank → Bool) (xs : List Rank) → filter (λ x. is_rank_before a x && q x) xs ≡ filter q (filter (is_rank_before a) xs)
  filter-after q [] = refl
  filter-after q (x ∷ xs) = grind (arith, filter-after q xs)

-- the first after the one at a place is at the next place
pub find-next : (xs : List Rank) (at : ℕ) (x : Rank) → Rises is_rank_before xs → slice_get xs at ≡ Some x → find (is_rank_before x) xs ≡ slice_get xs (suc at)
find-next [] at x rises is = absurd cc
find-next (y ∷ ys) zero x rises is =
    let here : y ≡ x = cc in
    let not_itself : is_rank_before y y ≡ false = false_from_ne_true (is_rank_before y y) (λ first. let out : is_rank_before y y ≡ false = rank_one_way y y first in cc) in
    subst (λ (k : Rank). find (is_rank_before k) (y ∷ ys) ≡ slice_get ys 0) here (rw not_itself (find-always (is_rank_before y) ys rises.0))
find-next (y ∷ ys) (suc at) x rises is =
    let order : is_rank_before y x ≡ true = all-at (λ z. is_rank_before y z ≡ true) ys at x rises.0 is in
    rw (rank_one_way y x order) (find-next ys at x rises.1 is)

-- ## two ranks

-- the rank comes before the best so far, or there is none
abbrev pub beats : Option Rank → Rank → Bool
beats best x = option_map_or (is_rank_before x) best true

-- where nothing is found, the best so far stays
pub earlier-none : (best : Option Rank) → best ≡ earlier_rank best None
earlier-none None = refl
earlier-none (Some b) = refl

-- what beats the best is the earlier of both
pub earlier-first : (best : Option Rank) (x : Rank) → beats best x ≡ true → Some x ≡ earlier_rank best (Some x)
earlier-first None x is = refl
earlier-first (Some b) x is = rw is refl

-- what does not beat it changes nothing
pub earlier-stays : (best : Option Rank) (x : Rank) → beats best x ≡ false → best ≡ earlier_rank best (Some x)
earlier-stays None x is = absurd cc
earlier-stays (Some b) x is = rw is refl

-- nor does what comes after that
pub beats-later : (best : Option Rank) (x y : Rank) → is_rank_before x y ≡ true → beats best x ≡ false → beats best y ≡ false
beats-later None x y order out = absurd cc
beats-later (Some b) x y order out = false_from_ne_true (is_rank_before y b) (λ first. let no : is_rank_before x b ≡ true = rank_transitive x y b order first in cc)

-- the earlier is one of both
pub earlier-is : (best found : Option Rank) (b : Rank) → earlier_rank best found ≡ Some b → (best ≡ Some b) ⊎ (found ≡ Some b)
earlier-is None found b is = inr is
earlier-is (Some a) None b is = inl is
earlier-is (Some a) (Some f) b is = by_bool (λ t. cond t (Some f) (Some a) ≡ Some b → (Some a ≡ Some b) ⊎ (Some f ≡ Some b)) (is_rank_before f a) (λ _ first. inr first) (λ _ past. inl past) is

past-earlier : (x f b : Rank) → is_rank_before x b ≡ false → is_rank_before f b ≡ true → is_rank_before x f ≡ false
past-earlier x f b past first = grind (arith, nat_tests)

past-later : (x f b : Rank) → is_rank_before x f ≡ false → is_rank_before f b ≡ false → is_rank_before x b ≡ false
past-later x f b past other = grind (arith, nat_tests)

-- what does not beat the best does not beat the earlier of it and another
pub stays-beaten : (best found : Option Rank) (x : Rank) → beats best x ≡ false → beats (earlier_rank best found) x ≡ false
stays-beaten None found x out = absurd cc
stays-beaten (Some b) None x out = out
stays-beaten (Some b) (Some f) x out =
    by_bool (λ (t : Bool). option_map_or (is_rank_before x) (cond t (Some f) (Some b)) true ≡ false) (is_rank_before f b) (λ first. past-earlier x f b out first) (λ past. out)

-- nor does what does not come before the other
pub is-beaten : (best : Option Rank) (f x : Rank) → is_rank_before x f ≡ false → beats (earlier_rank best (Some f)) x ≡ false
is-beaten None f x out = out
is-beaten (Some b) f x out =
    by_bool (λ (t : Bool). option_map_or (is_rank_before x) (cond t (Some f) (Some b)) true ≡ false) (is_rank_before f b) (λ first. out) (λ past. past-later x f b out past)

-- # the walk over the ranks of a line

-- ## a request

-- what `is_none` answers
none-told : {X : Type 0} (o : Option X) (b : Bool) → is_some o ≡ not b → is_none o ≡ b
none-told o b is = grind arith

-- the pool's launcher may take the rank's request up
abbrev pub takes : Configuration → State → PoolId → Rank → Bool
takes c s p x = may_take_up c s p x.request

-- and it comes after the one that is given
abbrev pub passes : Configuration → State → PoolId → Option Rank → Rank → Bool
passes c s p given x = is_past given x && takes c s p x

module _ (c : Configuration) (s : State) (p : PoolId) (r : RequestId) where
  -- whether the tenant has room, by what was asked of the record
  pub room-told : (kept : RequestRecord) (asked : Asked) (found : Option TenantId) (b : Bool) → asked ≡ asked_of kept → found ≡ blocking c s p (new_record asked)
      → is_some found ≡ not b → is_none (blocking c s p kept) ≡ b
  room-told kept asked found b of is told =
      ap (λ (a : Asked). is_none (blocking c s p (new_record a))) (sym of) ∙ ap (λ (o : Option TenantId). is_none o) (sym is) ∙ none-told found b told

  -- one that is not open is not taken up
  pub shut-fails : open_record p r s ≡ None → may_take_up c s p r ≡ false
  shut-fails shut = grind arith

  module _ (kept : RequestRecord) (opens : open_record p r s ≡ Some kept) where
    -- one that is open is taken up if its tenant has room
    pub open-takes : may_take_up c s p r ≡ is_none (blocking c s p kept)
    open-takes = grind arith

    -- and its record is that of the state
    open-there : request_in r s.requests ≡ Some kept
    open-there = grind arith

  -- one whose tenant has no room is not taken up
  blocked-fails : (kept : RequestRecord) → request_in r s.requests ≡ Some kept → is_none (blocking c s p kept) ≡ false → may_take_up c s p r ≡ false
  blocked-fails kept there blocked = grind arith

-- ## the walk over the ranks of a line

-- where those begin that come after the one that is given
abbrev pub start_of : Option Rank → List Rank → ℕ
start_of None ranks = 0
start_of (Some given) ranks = count_by (λ x. not (is_rank_before given x)) ranks

-- from the place on the launcher may take up those of the line that are sought
abbrev pub IsWalked : Configuration → State → PoolId → List (Member Rank) → ℕ → Option Rank → ℕ → Type 0
IsWalked c s p members line given place =
    filter (λ x. may_take_up c s p x.request) (drop place (ranks_of line members)) ≡ filter (λ x. is_past given x && may_take_up c s p x.request) (ranks_of line members)

module _ (c : Configuration) (s : State) (p : PoolId) (kept : OpenOf) (are : AreOpen c s kept) (line : ℕ) where
  closed-fails : (x : Rank) → is_closed_rank line p x kept.members ≡ true → takes c s p x ≡ false
  closed-fails x closed = let shut = closed-shut c s kept are line p x closed in grind arith

  passed-over : (place found : ℕ) → IsOpenFrom kept.members line p place found
      → filter (takes c s p) (drop place (ranks_of line kept.members)) ≡ filter (takes c s p) (drop found (ranks_of line kept.members))
  passed-over place found ends = filter-open_from (takes c s p) line p kept.members closed-fails place found ends

  module _ (given : Option Rank) where
    begins : (o : Option Rank) → filter (takes c s p) (drop (start_of o (ranks_of line kept.members)) (ranks_of line kept.members)) ≡ filter (passes c s p o) (ranks_of line kept.members)
    begins None = refl
    begins (Some a) =
        ap (filter (takes c s p)) (sym (after-from a (ranks_of line kept.members) (ranks-are c s kept are line).rises))
        ∙ sym (filter-after a (takes c s p) (ranks_of line kept.members))

    pub walk-begins : (from place : ℕ) → from ≡ start_of given (ranks_of line kept.members) → IsOpenFrom kept.members line p from place → IsWalked c s p kept.members line given place
    walk-begins from place is ends =
        sym (passed-over from place ends)
        ∙ ap (λ (n : ℕ). filter (takes c s p) (drop n (ranks_of line kept.members))) is
        ∙ begins given

    module _ (best : Option Rank) where
      -- past the end nothing is found, and the best so far stays
      pub walk-ends : (place : ℕ) → slice_get (ranks_of line kept.members) place ≡ None → IsWalked c s p kept.members line given place → best ≡ earlier_rank best (next_among c s p given (ranks_of line kept.members))
      walk-ends place out walked =
          let none : None ≡ next_among c s p given (ranks_of line kept.members) =
          ap (λ (xs : List Rank). slice_get (filter (takes c s p) xs) 0) (sym (drop-past (ranks_of line kept.members) place out))
          ∙ ap (λ (xs : List Rank). slice_get xs 0) walked
          ∙ sym (find-filtered (passes c s p given) (ranks_of line kept.members)) in
          earlier-none best ∙ ap (earlier_rank best) none

      module _ (place : ℕ) (x : Rank) (is : slice_get (ranks_of line kept.members) place ≡ Some x) where
        -- the first that may be taken up is the one sought
        pub walk-finds : takes c s p x ≡ true → beats best x ≡ true → IsWalked c s p kept.members line given place → Some x ≡ earlier_rank best (next_among c s p given (ranks_of line kept.members))
        walk-finds passes first walked =
            let here : slice_get (filter (takes c s p) (drop place (ranks_of line kept.members))) 0 ≡ Some x = rw (there (ranks_of line kept.members) place x is, passes) refl in
            let found : Some x ≡ next_among c s p given (ranks_of line kept.members) =
            sym here ∙ ap (λ (xs : List Rank). slice_get xs 0) walked ∙ sym (find-filtered (λ y. is_past given y && takes c s p y) (ranks_of line kept.members)) in
            earlier-first best x first ∙ ap (earlier_rank best) found

        -- from one on that does not beat the best, none does
        pub walk-late : beats best x ≡ false → IsWalked c s p kept.members line given place → best ≡ earlier_rank best (next_among c s p given (ranks_of line kept.members))
        walk-late late walked =
            by (slice_get (filter (takes c s p) (drop place (ranks_of line kept.members))) 0) refl
            ∙ ap (earlier_rank best) (ap (λ (xs : List Rank). slice_get xs 0) walked ∙ sym (find-filtered (passes c s p given) (ranks_of line kept.members)))
          where
            rises : Rises is_rank_before (x ∷ drop (suc place) (ranks_of line kept.members))
            rises = subst (Rises is_rank_before) (there (ranks_of line kept.members) place x is) (rises-drop is_rank_before (ranks_of line kept.members) place (ranks-are c s kept are line).rises)

            all : AllByRecursion (λ y. beats best y ≡ false) (drop place (ranks_of line kept.members))
            all = subst (AllByRecursion (λ y. beats best y ≡ false)) (sym (there (ranks_of line kept.members) place x is))
                (late, all-weaker (λ y. is_rank_before x y ≡ true) (λ y. beats best y ≡ false) (λ y order. beats-later best x y order late) (drop (suc place) (ranks_of line kept.members)) rises.0)

            by : (o : Option Rank) → slice_get (filter (takes c s p) (drop place (ranks_of line kept.members))) 0 ≡ o → best ≡ earlier_rank best o
            by None none = earlier-none best
            by (Some f) found = earlier-stays best f (all-at (λ y. beats best y ≡ false) (filter (takes c s p) (drop place (ranks_of line kept.members))) 0 f (all-filter (λ y. beats best y ≡ false) (takes c s p) (drop place (ranks_of line kept.members)) all) found)

    module _ (place : ℕ) (x : Rank) (is : slice_get (ranks_of line kept.members) place ≡ Some x) where
      -- one that may not is passed over
      pub walk-goes_on : (found : ℕ) → takes c s p x ≡ false → IsOpenFrom kept.members line p (place + 1) found → IsWalked c s p kept.members line given place → IsWalked c s p kept.members line given found
      walk-goes_on found fails ends walked =
          let here : filter (takes c s p) (drop place (ranks_of line kept.members)) ≡ filter (takes c s p) (drop (suc place) (ranks_of line kept.members)) = rw (there (ranks_of line kept.members) place x is, fails) refl in
          let next : suc place ≡ place + 1 = omega arith in
          sym (here ∙ ap (λ (n : ℕ). filter (takes c s p) (drop n (ranks_of line kept.members))) next ∙ passed-over (place + 1) found ends) ∙ walked

      -- if one of a line that is not the common one has no room, none of the line has
      pub walk-blocked : (best : Option Rank) (n : ℕ) (k : RequestRecord) → line ≡ suc n → open_record p x.request s ≡ Some k → is_none (blocking c s p k) ≡ false
          → best ≡ earlier_rank best (next_among c s p given (ranks_of line kept.members))
      walk-blocked best n k number opens blocked = earlier-none best ∙ ap (earlier_rank best)
          (ap (λ (xs : List Rank). slice_get xs 0) (sym (filter-nothing (passes c s p given) (ranks_of line kept.members) (all-from_at (λ y. passes c s p given y ≡ false) (ranks_of line kept.members) none)))
          ∙ sym (find-filtered (passes c s p given) (ranks_of line kept.members)))
        where
          here : (found : RequestRecord) × IsWaiting c s kept.lines line x found
          here = rank-waits c s kept are line place x is

          same : here.0 ≡ k
          same = let one : Some here.0 ≡ Some k = sym here.1.there ∙ open-there c s p x.request k opens in cc

          none : (at : ℕ) (y : Rank) → slice_get (ranks_of line kept.members) at ≡ Some y → passes c s p given y ≡ false
          none at y that =
              let other : (found : RequestRecord) × IsWaiting c s kept.lines line y found = rank-waits c s kept are line at y that in
              let alike : blocking c s p other.0 ≡ blocking c s p here.0 = line-blocks c s p kept.lines other.0 here.0 n (other.1.of_line ∙ number) (here.1.of_line ∙ number) in
              let fails : takes c s p y ≡ false = blocked-fails c s p y.request other.0 other.1.there (ap is_none (alike ∙ ap (blocking c s p) same) ∙ blocked) in
              grind arith
