-- what stays true of a list and its members when members are changed, put in, taken out or left out
use Rattle.np_lists.proofs.Prelude.{All, All-cons, All-head, All-nil, All-tail, AllByRecursion, AllWithin, Bool, EachAfter, IsPartitionPoint, List, None, NonePass, Option, Rises, Some, ap, append-nil, append_assoc, arith, change_at, change_first, cond, drop, false, filter, find, get_or, get_or_from_slice_get, insert, insert_before, length, length-filter_more, list_any, map, nat_tests, not, option_map, prefix_len, refl, remove, remove_first, slice_get, slice_get-get_or, slice_get_past, slice_get_within, slice_set, subst, suc, sym, take, take_all, true, zero, ℕ, [], ◌&&◌, ◌++◌, ◌+◌, ◌-◌, ◌<◌, ◌==◌, ◌||◌, ◌∙◌, ◌∷◌, ◌≡◌, ◌≢◌, ◌≤◌}
use Rattle.np_lists.proofs.Plain.{by_bool}

-- # what a change of one member is, and what it leaves of a list

-- ## a change by place

pub length-change_at : {X : Type 0} (i : ℕ) (f : X → X) (xs : List X) → length (change_at i f xs) ≡ length xs
length-change_at i f [] = refl
length-change_at zero f (x ∷ xs) = refl
length-change_at (suc i) f (x ∷ xs) = ap suc (length-change_at i f xs)

-- the member itself
pub slice_get-change_at : {X : Type 0} (i : ℕ) (f : X → X) (xs : List X) → slice_get (change_at i f xs) i ≡ option_map f (slice_get xs i)
slice_get-change_at i f [] = refl
slice_get-change_at zero f (x ∷ xs) = refl
slice_get-change_at (suc i) f (x ∷ xs) = slice_get-change_at i f xs

-- every other member
pub slice_get-change_at_other : {X : Type 0} (i j : ℕ) (f : X → X) (xs : List X) → j ≢ i → slice_get (change_at i f xs) j ≡ slice_get xs j
slice_get-change_at_other i j f [] other = refl
slice_get-change_at_other zero zero f (x ∷ xs) other = absurd (other refl)
slice_get-change_at_other (suc i) (suc j) f (x ∷ xs) other = slice_get-change_at_other i j f xs (λ same. other (ap suc same))
slice_get-change_at_other i j f (x ∷ xs) other = refl

-- a measure that the change keeps is the same at each place
pub kept-change_at : {X Y : Type 0} (measure : Option X → Y) (i j : ℕ) (f : X → X) (xs : List X) → ((x : X) → measure (Some (f x)) ≡ measure (Some x)) → measure (slice_get (change_at i f xs) j) ≡ measure (slice_get xs j)
kept-change_at measure i j f [] keeps = refl
kept-change_at measure zero zero f (x ∷ xs) keeps = keeps x
kept-change_at measure (suc i) (suc j) f (x ∷ xs) keeps = kept-change_at measure i j f xs keeps
kept-change_at measure i j f (x ∷ xs) keeps = refl

-- ## a change of the first that passes

-- two changes that agree on the member found
pub change_first-same : {X : Type 0} (p : X → Bool) (f g : X → X) (xs : List X) → ((e : X) → find p xs ≡ Some e → f e ≡ g e) → change_first p f xs ≡ change_first p g xs
change_first-same p f g [] same = refl
change_first-same p f g (x ∷ xs) same =
    by_bool (λ b. ((e : _) → cond b (Some x) (find p xs) ≡ Some e → f e ≡ g e) → cond b (f x ∷ xs) (x ∷ change_first p f xs) ≡ cond b (g x ∷ xs) (x ∷ change_first p g xs)) (p x)
    (λ _ here. ap (λ y. y ∷ xs) (here x refl)) (λ _ there. ap (λ ys. x ∷ ys) (change_first-same p f g xs there)) same

-- at each place a member that a measure can't tell from the one that was there
pub record AtKept {X Y : Type 0} (measure : X → Y) (xs : List X) (i : ℕ) (x : X) : Type 0 where
  pub member : X
  pub there : slice_get xs i ≡ Some member
  pub same : measure member ≡ measure x

module _ {X Y : Type 0} (measure : X → Y) (p : X → Bool) (f : X → X) (kept : (x : X) → measure (f x) ≡ measure x) where
  pub slice_get-change_first : (xs : List X) (i : ℕ) (x : X) → slice_get xs i ≡ Some x → AtKept measure (change_first p f xs) i x
  slice_get-change_first [] i x there = absurd cc
  slice_get-change_first (y ∷ xs) zero x there =
      let here : measure y ≡ measure x = ap measure (let same : y ≡ x = cc in same) in
      by_bool (λ b. AtKept measure (cond b (f y ∷ xs) (y ∷ change_first p f xs)) zero x) (p y) (λ _. record { member = f y; there = refl; same = kept y ∙ here }) (λ _. record { member = y; there = refl; same = here })
  slice_get-change_first (y ∷ xs) (suc i) x there =
      let found = slice_get-change_first xs i x there in
      by_bool (λ b. AtKept measure (cond b (f y ∷ xs) (y ∷ change_first p f xs)) (suc i) x) (p y) (λ _. record { member = x; there = there; same = refl }) (λ _. record { member = found.member; there = found.there; same = found.same })

-- the member at a place that is there
pub change_at-set : {X : Type 0} (i : ℕ) (f : X → X) (xs : List X) (d : X) → i < length xs → change_at i f xs ≡ slice_set xs i (f (get_or xs i d))
change_at-set i f [] d within = absurd (omega arith)
change_at-set zero f (x ∷ xs) d within = refl
change_at-set (suc i) f (x ∷ xs) d within = ap (λ t. x ∷ t) (change_at-set i f xs d (omega arith))

-- two changes that agree on the member there
pub change_at-same : {X : Type 0} (f g : X → X) (i : ℕ) (xs : List X) (x : X) → slice_get xs i ≡ Some x → f x ≡ g x → change_at i f xs ≡ change_at i g xs
change_at-same f g i xs x there same =
    let within = slice_get_within xs i x there in
    change_at-set i f xs x within ∙ rw (get_or_from_slice_get xs i x x there, same) refl ∙ sym (change_at-set i g xs x within)

-- a change that is undone
pub change_at-back : {X : Type 0} (f g : X → X) (i : ℕ) (xs : List X) (x : X) → slice_get xs i ≡ Some x → g (f x) ≡ x → change_at i g (change_at i f xs) ≡ xs
change_at-back f g i [] x there back = refl
change_at-back f g zero (y ∷ xs) x there back = let same : y ≡ x = cc in rw same (ap (λ first. first ∷ xs) back)
change_at-back f g (suc i) (y ∷ xs) x there back = ap (λ rest. y ∷ rest) (change_at-back f g i xs x there back)

-- there is no member at a place past the end
pub change_at-past : {X : Type 0} (i : ℕ) (f : X → X) (xs : List X) → length xs ≤ i → change_at i f xs ≡ xs
change_at-past i f [] past = refl
change_at-past zero f (x ∷ xs) past = absurd (omega arith)
change_at-past (suc i) f (x ∷ xs) past = ap (λ t. x ∷ t) (change_at-past i f xs (omega arith))

-- a new member that comes before none goes to the end
pub insert_before-end : {X : Type 0} (p : X → Bool) (new : X) (xs : List X) → NonePass p xs → insert_before p new xs ≡ xs ++ new ∷ []
insert_before-end p new [] none = refl
insert_before-end p new (x ∷ xs) none = rw (none.0) (ap (λ t. x ∷ t) (insert_before-end p new xs none.1))

-- if none passes, nothing changes
pub change_first-absent : {X : Type 0} (p : X → Bool) (f : X → X) (xs : List X) → find p xs ≡ None → change_first p f xs ≡ xs
change_first-absent p f [] none = refl
change_first-absent p f (x ∷ xs) none = grind (arith, change_first-absent p f xs)

pub remove_first-absent : {X : Type 0} (p : X → Bool) (xs : List X) → find p xs ≡ None → remove_first p xs ≡ xs
remove_first-absent p [] none = refl
remove_first-absent p (x ∷ xs) none = grind (arith, remove_first-absent p xs)

-- # what is true of each member, after a change of the list

-- ## a weaker fact

-- the members that pass a test, with another fact
pub all-filter_to : {X : Type 0} (P Q : X → Type 0) (p : X → Bool) (xs : List X) → ((x : X) → p x ≡ true → P x → Q x) → AllByRecursion P xs → AllByRecursion Q (filter p xs)
all-filter_to P Q p [] each all = tt
all-filter_to P Q p (x ∷ xs) each all =
    let rest = all-filter_to P Q p xs each all.1 in
    by_bool (λ b. AllByRecursion Q (cond b (x ∷ filter p xs) (filter p xs))) (p x) (λ passes. (each x passes all.0, rest)) (λ _. rest)

module _ {X : Type 0} (P Q : X → Type 0) (weaker : (x : X) → P x → Q x) where
  pub all-weaker : (xs : List X) → AllByRecursion P xs → AllByRecursion Q xs
  all-weaker [] all = tt
  all-weaker (x ∷ xs) all = (weaker x all.0, all-weaker xs all.1)

  -- the first that passes is changed so that the weaker fact is true of it
  pub all-change_first_to : (p : X → Bool) (f : X → X) (xs : List X) → ((x : X) → P x → Q (f x)) → AllByRecursion P xs → AllByRecursion Q (change_first p f xs)
  all-change_first_to p f [] new all = tt
  all-change_first_to p f (x ∷ xs) new all =
      by_bool (λ b. AllByRecursion Q (cond b (f x ∷ xs) (x ∷ change_first p f xs))) (p x)
      (λ _. (new x all.0, all-weaker xs all.1)) (λ _. (weaker x all.0, all-change_first_to p f xs new all.1))

  pub all-change_at_to : (i : ℕ) (f : X → X) (xs : List X) → ((x : X) → P x → Q (f x)) → AllByRecursion P xs → AllByRecursion Q (change_at i f xs)
  all-change_at_to i f [] new all = tt
  all-change_at_to zero f (x ∷ xs) new all = (new x all.0, all-weaker xs all.1)
  all-change_at_to (suc i) f (x ∷ xs) new all = (weaker x all.0, all-change_at_to i f xs new all.1)

-- ## one fact

module _ {X : Type 0} (P : X → Type 0) where
  pub all-push : (xs : List X) (x : X) → AllByRecursion P xs → P x → AllByRecursion P (xs ++ x ∷ [])
  all-push [] x all new = (new, tt)
  all-push (y ∷ xs) x all new = (all.0, all-push xs x all.1 new)

  pub all-map : {Y : Type 0} (f : Y → X) (ys : List Y) → ((y : Y) → P (f y)) → AllByRecursion P (map f ys)
  all-map f [] each = tt
  all-map f (y ∷ ys) each = (each y, all-map f ys each)

  pub all-filter : (p : X → Bool) (xs : List X) → AllByRecursion P xs → AllByRecursion P (filter p xs)
  all-filter p xs all = all-filter_to P P p xs (λ x _ here. here) all

  pub all-find : (p : X → Bool) (xs : List X) (x : X) → AllByRecursion P xs → find p xs ≡ Some x → P x
  all-find p [] x all e = cc
  all-find p (y ∷ xs) x all e =
      by_bool (λ b. cond b (Some y) (find p xs) ≡ Some x → P x) (p y) (λ _ here. let same : y ≡ x = cc in subst P same all.0) (λ _ later. all-find p xs x all.1 later) e

  pub all-at : (xs : List X) (i : ℕ) (x : X) → AllByRecursion P xs → slice_get xs i ≡ Some x → P x
  all-at [] i x all e = cc
  all-at (y ∷ xs) zero x all e = let same : y ≡ x = cc in subst P same all.0
  all-at (y ∷ xs) (suc i) x all e = all-at xs i x all.1 e

  pub all-from_at : (xs : List X) → ((i : ℕ) (x : X) → slice_get xs i ≡ Some x → P x) → AllByRecursion P xs
  all-from_at [] each = tt
  all-from_at (x ∷ xs) each = (each 0 x refl, all-from_at xs (λ i y is. each (suc i) y is))

  pub all-get_or : (xs : List X) (i : ℕ) (d : X) → AllByRecursion P xs → i < length xs → P (get_or xs i d)
  all-get_or xs i d all within = all-at xs i (get_or xs i d) all (slice_get-get_or xs i d within)

  pub all-insert : (new : X) (xs : List X) (i : ℕ) → P new → AllByRecursion P xs → AllByRecursion P (insert xs i new)
  all-insert new xs zero at_new all = (at_new, all)
  all-insert new [] (suc i) at_new all = (at_new, tt)
  all-insert new (x ∷ xs) (suc i) at_new all = (all.0, all-insert new xs i at_new all.1)

  pub all-remove : (xs : List X) (i : ℕ) → AllByRecursion P xs → AllByRecursion P (remove xs i)
  all-remove [] zero all = tt
  all-remove [] (suc i) all = tt
  all-remove (x ∷ xs) zero all = all.1
  all-remove (x ∷ xs) (suc i) all = (all.0, all-remove xs i all.1)

  pub all-remove_first : (p : X → Bool) (xs : List X) → AllByRecursion P xs → AllByRecursion P (remove_first p xs)
  all-remove_first p [] all = tt
  all-remove_first p (x ∷ xs) all = by_bool (λ b. AllByRecursion P (cond b xs (x ∷ remove_first p xs))) (p x) (λ _. all.1) (λ _. (all.0, all-remove_first p xs all.1))

  pub all-insert_before : (p : X → Bool) (new : X) (xs : List X) → P new → AllByRecursion P xs → AllByRecursion P (insert_before p new xs)
  all-insert_before p new [] at_new all = (at_new, tt)
  all-insert_before p new (x ∷ xs) at_new all =
      by_bool (λ b. AllByRecursion P (cond b (new ∷ x ∷ xs) (x ∷ insert_before p new xs))) (p x) (λ _. (at_new, all)) (λ _. (all.0, all-insert_before p new xs at_new all.1))

  pub all-set : (xs : List X) (i : ℕ) (x : X) → P x → AllByRecursion P xs → AllByRecursion P (slice_set xs i x)
  all-set [] i x new all = tt
  all-set (y ∷ xs) zero x new all = (new, all.1)
  all-set (y ∷ xs) (suc i) x new all = (all.0, all-set xs i x new all.1)

  -- it stays true of a member that is changed
  pub all-change_first : (p : X → Bool) (f : X → X) (xs : List X) → ((x : X) → P x → P (f x)) → AllByRecursion P xs → AllByRecursion P (change_first p f xs)
  all-change_first p f xs keeps all = all-change_first_to P P (λ x here. here) p f xs keeps all

  pub all-change_at : (i : ℕ) (f : X → X) (xs : List X) → ((x : X) → P x → P (f x)) → AllByRecursion P xs → AllByRecursion P (change_at i f xs)
  all-change_at i f xs keeps all = all-change_at_to P P (λ x here. here) i f xs keeps all

-- each member is changed so that another fact is true of it
pub all-mapped : {X Y : Type 0} (P : X → Type 0) (Q : Y → Type 0) (f : X → Y) (xs : List X) → ((x : X) → P x → Q (f x)) → AllByRecursion P xs → AllByRecursion Q (map f xs)
all-mapped P Q f [] each all = tt
all-mapped P Q f (x ∷ xs) each all = (each x all.0, all-mapped P Q f xs each all.1)

-- ## lengths

pub length-filter_at_most : {X : Type 0} (p : X → Bool) (xs : List X) → length (filter p xs) ≤ length xs
length-filter_at_most p [] = omega arith
length-filter_at_most p (x ∷ xs) = grind (arith, nat_tests, length-filter_at_most p xs)

pub length-change_first : {X : Type 0} (p : X → Bool) (f : X → X) (xs : List X) → length (change_first p f xs) ≡ length xs
length-change_first p f [] = refl
length-change_first p f (x ∷ xs) = grind (arith, nat_tests, length-change_first p f xs)

pub length-remove_first : {X : Type 0} (p : X → Bool) (xs : List X) → length (remove_first p xs) ≤ length xs
length-remove_first p [] = omega arith
length-remove_first p (x ∷ xs) = grind (arith, nat_tests, length-remove_first p xs)

pub length-insert_before : {X : Type 0} (p : X → Bool) (new : X) (xs : List X) → length (insert_before p new xs) ≡ suc (length xs)
length-insert_before p new [] = refl
length-insert_before p new (x ∷ xs) = grind (arith, nat_tests, length-insert_before p new xs)

-- # rows of which each may follow those before it

module _ {T : Type 0} (P : List T → T → Type 0) where
  -- rows after rows
  pub EachAfter-append : (earlier xs ys : List T) → EachAfter P earlier xs → EachAfter P (earlier ++ xs) ys → EachAfter P earlier (xs ++ ys)
  EachAfter-append earlier [] ys each more = subst (λ (e : List T). EachAfter P e ys) (append-nil earlier) more
  EachAfter-append earlier (x ∷ xs) ys each more =
      (each.0, EachAfter-append (earlier ++ x ∷ []) xs ys each.1 (subst (λ (e : List T). EachAfter P e ys) (sym (append_assoc earlier (x ∷ []) xs)) more))

  -- one row more
  pub EachAfter-push : (earlier xs : List T) (x : T) → EachAfter P earlier xs → P (earlier ++ xs) x → EachAfter P earlier (xs ++ x ∷ [])
  EachAfter-push earlier xs x each last = EachAfter-append earlier xs (x ∷ []) each (last, tt)

  -- what each row alone says
  pub All-from_each : (Q : T → Type 0) → ((e : List T) (x : T) → P e x → Q x) → (earlier xs : List T) → EachAfter P earlier xs → All Q xs
  All-from_each Q says earlier [] each = All-nil Q
  All-from_each Q says earlier (x ∷ xs) each = All-cons Q x xs (says earlier x each.0) (All-from_each Q says (earlier ++ x ∷ []) xs each.1)

  -- what is true of the row at a place, after those before it
  pub EachAfter-at : (earlier xs : List T) (i : ℕ) (d : T) → i < length xs → EachAfter P earlier xs → P (earlier ++ take i xs) (get_or xs i d)
  EachAfter-at earlier [] i d within each = absurd (omega arith)
  EachAfter-at earlier (x ∷ xs) zero d within each = subst (λ (e : List T). P e x) (sym (append-nil earlier)) each.0
  EachAfter-at earlier (x ∷ xs) (suc i) d within each =
      subst (λ (e : List T). P e (get_or xs i d)) (append_assoc earlier (x ∷ []) (take i xs)) (EachAfter-at (earlier ++ x ∷ []) xs i d (omega arith) each.1)

-- a weaker fact of each row
pub EachAfter-weaker : {T : Type 0} (P Q : List T → T → Type 0) → ((e : List T) (x : T) → P e x → Q e x) → (earlier xs : List T) → EachAfter P earlier xs → EachAfter Q earlier xs
EachAfter-weaker P Q weaker earlier [] each = tt
EachAfter-weaker P Q weaker earlier (x ∷ xs) each = (weaker earlier x each.0, EachAfter-weaker P Q weaker (earlier ++ x ∷ []) xs each.1)

-- members of which each may follow any others
pub EachAfter-from_all : {T : Type 0} (Q : T → Type 0) (earlier xs : List T) → All Q xs → EachAfter (λ e x. Q x) earlier xs
EachAfter-from_all Q earlier [] all = tt
EachAfter-from_all Q earlier (x ∷ xs) all = (All-head Q x xs all, EachAfter-from_all Q (earlier ++ x ∷ []) xs (All-tail Q x xs all))

-- # what is left of a list when a member is put in or taken out

-- ## each undoes the other

pub insert-remove : {X : Type 0} (xs : List X) (k : ℕ) (x : X) → slice_get xs k ≡ Some x → insert (remove xs k) k x ≡ xs
insert-remove [] k x at = absurd cc
insert-remove (y ∷ xs) zero x at = let same : y ≡ x = cc in rw same refl
insert-remove (y ∷ xs) (suc k) x at = ap (λ rest. y ∷ rest) (insert-remove xs k x at)

pub remove-insert : {X : Type 0} (xs : List X) (k : ℕ) (x : X) → k ≤ length xs → remove (insert xs k x) k ≡ xs
remove-insert [] zero x within = refl
remove-insert [] (suc k) x within = absurd (omega arith)
remove-insert (y ∷ xs) zero x within = refl
remove-insert (y ∷ xs) (suc k) x within = ap (λ rest. y ∷ rest) (remove-insert xs k x (omega arith))

-- ## whether some member passes

pub list_any-insert : {X : Type 0} (p : X → Bool) (xs : List X) (k : ℕ) (y : X) → list_any p (insert xs k y) ≡ (p y || list_any p xs)
list_any-insert p xs zero y = refl
list_any-insert p [] (suc k) y = refl
list_any-insert p (x ∷ xs) (suc k) y = grind (arith, list_any-insert p xs k y)

pub list_any-remove : {X : Type 0} (p : X → Bool) (xs : List X) (k : ℕ) (x : X) → slice_get xs k ≡ Some x → p x ≡ false → list_any p (remove xs k) ≡ list_any p xs
list_any-remove p [] k x is fails = absurd cc
list_any-remove p (y ∷ xs) zero x is fails = let same : y ≡ x = cc in rw (ap p same ∙ fails) refl
list_any-remove p (y ∷ xs) (suc k) x is fails = ap (λ (b : Bool). p y || b) (list_any-remove p xs k x is fails)

pub list_any-there : {X : Type 0} (p : X → Bool) (xs : List X) (k : ℕ) (x : X) → slice_get xs k ≡ Some x → p x ≡ true → list_any p xs ≡ true
list_any-there p [] k x is passes = absurd cc
list_any-there p (y ∷ xs) zero x is passes = let same : y ≡ x = cc in rw (ap p same ∙ passes) refl
list_any-there p (y ∷ xs) (suc k) x is passes = grind (arith, list_any-there p xs k x is passes)

-- ## the members that pass

pub filter-remove : {X : Type 0} (p : X → Bool) (xs : List X) (k : ℕ) (x : X) → slice_get xs k ≡ Some x → p x ≡ false → filter p (remove xs k) ≡ filter p xs
filter-remove p [] k x is fails = absurd cc
filter-remove p (y ∷ xs) zero x is fails = let same : y ≡ x = cc in rw (ap p same ∙ fails) refl
filter-remove p (y ∷ xs) (suc k) x is fails = ap (λ (ys : List _). cond (p y) (y ∷ ys) ys) (filter-remove p xs k x is fails)

pub length-filter-insert : {X : Type 0} (p : X → Bool) (y : X) (k : ℕ) (xs : List X) → length (filter p (insert xs k y)) ≡ length (filter p xs) + cond (p y) 1 0
length-filter-insert p y zero xs = grind (arith, nat_tests)
length-filter-insert p y (suc k) [] = grind (arith, nat_tests)
length-filter-insert p y (suc k) (x ∷ xs) = grind (arith, nat_tests, length-filter-insert p y k xs)

pub length-filter-remove : {X : Type 0} (p : X → Bool) (k : ℕ) (xs : List X) → length (filter p (remove xs k)) ≤ length (filter p xs)
length-filter-remove p zero [] = omega arith
length-filter-remove p (suc k) [] = omega arith
length-filter-remove p zero (x ∷ xs) = grind (arith, nat_tests)
length-filter-remove p (suc k) (x ∷ xs) = grind (arith, nat_tests, length-filter-remove p k xs)

-- # the first member that passes, after a change of the list

module _ {X : Type 0} (p : X → Bool) where
  pub find-passes : (xs : List X) (x : X) → find p xs ≡ Some x → p x ≡ true
  find-passes [] x there = absurd cc
  find-passes (y ∷ xs) x there = by_bool (λ b. p y ≡ b → cond b (Some y) (find p xs) ≡ Some x → p x ≡ true) (p y) (λ _ is here. let same : y ≡ x = cc in ap p (sym same) ∙ is) (λ _ is later. find-passes xs x later) refl there

  -- ## one member more

  pub find-insert : (xs : List X) (k : ℕ) (y : X) → (p y ≡ true → NonePass p xs) → find p (insert xs k y) ≡ cond (p y) (Some y) (find p xs)
  find-insert xs zero y new = refl
  find-insert [] (suc k) y new = refl
  find-insert (x ∷ xs) (suc k) y new = grind (arith, find-insert xs k y (λ is. (new is).1), λ (is : p y ≡ true). (new is).0)

  pub find-insert_before : (before : X → Bool) (new : X) (xs : List X) → p new ≡ false → find p (insert_before before new xs) ≡ find p xs
  find-insert_before before new [] other = rw other refl
  find-insert_before before new (x ∷ xs) other = grind (arith, find-insert_before before new xs other)

  -- ## one member less

  pub find-remove : (xs : List X) (k : ℕ) (x : X) → slice_get xs k ≡ Some x → p x ≡ false → find p (remove xs k) ≡ find p xs
  find-remove [] k x is fails = absurd cc
  find-remove (y ∷ xs) zero x is fails = let same : y ≡ x = cc in rw (ap p same ∙ fails) refl
  find-remove (y ∷ xs) (suc k) x is fails = ap (λ (o : Option X). cond (p y) (Some y) o) (find-remove xs k x is fails)

  pub find-filter : (keep : X → Bool) (x : X) (xs : List X) → keep x ≡ true → find p xs ≡ Some x → find p (filter keep xs) ≡ Some x
  find-filter keep x [] keeps there = absurd cc
  find-filter keep x (y ∷ xs) keeps there = grind (arith, find-filter keep x xs keeps)

  -- ## members changed

  pub find-map : (f : X → X) → ((x : X) → p (f x) ≡ p x) → (xs : List X) → find p (map f xs) ≡ option_map f (find p xs)
  find-map f same [] = refl
  find-map f same (x ∷ xs) = grind (arith, same x, find-map f same xs)

  -- the changed member is found in its place
  pub find-change_first : (f : X → X) → ((x : X) → p (f x) ≡ p x) → (xs : List X) (x : X) → find p xs ≡ Some x → find p (change_first p f xs) ≡ Some (f x)
  find-change_first f keeps [] x there = absurd cc
  find-change_first f keeps (y ∷ xs) x there = grind (arith, keeps y, find-change_first f keeps xs x)

-- a measure that the change keeps stays the same for what another test finds
module _ {X Y : Type 0} (measure : Option X → Y) (p q : X → Bool) (f : X → X) (same : (x : X) → q (f x) ≡ q x) (kept : (x : X) → measure (Some (f x)) ≡ measure (Some x)) where
  pub found-change_first : (xs : List X) → measure (find q (change_first p f xs)) ≡ measure (find q xs)
  found-change_first [] = refl
  found-change_first (x ∷ xs) = grind (arith, same x, kept x, found-change_first xs)

-- # lists of which members are left out, or each member is changed

-- ## each member changed

pub list_any-map : {X : Type 0} (p : X → Bool) (f : X → X) (xs : List X) → ((x : X) → p (f x) ≡ p x) → list_any p (map f xs) ≡ list_any p xs
list_any-map p f [] same = refl
list_any-map p f (x ∷ xs) same = rw (same x, list_any-map p f xs same) refl

pub filter-map : {X : Type 0} (p : X → Bool) (f : X → X) (xs : List X) → ((x : X) → p (f x) ≡ p x) → filter p (map f xs) ≡ map f (filter p xs)
filter-map p f [] same = refl
filter-map p f (x ∷ xs) same = grind (arith, same x, filter-map p f xs same)

pub map-map : {X : Type 0} (f g h : X → X) (xs : List X) → ((x : X) → g (f x) ≡ h x) → map g (map f xs) ≡ map h xs
map-map f g h [] same = refl
map-map f g h (x ∷ xs) same = rw (same x, map-map f g h xs same) refl

pub map-each : {X : Type 0} (f g : X → X) (xs : List X) → ((x : X) → f x ≡ g x) → map f xs ≡ map g xs
map-each f g [] same = refl
map-each f g (x ∷ xs) same = rw (same x, map-each f g xs same) refl

pub map-same : {X : Type 0} (f : X → X) (xs : List X) → ((x : X) → f x ≡ x) → map f xs ≡ xs
map-same f [] same = refl
map-same f (x ∷ xs) same = rw (same x) (ap (λ (ys : List _). x ∷ ys) (map-same f xs same))

-- ## if none passes

pub list_any-none : {X : Type 0} (p : X → Bool) (xs : List X) → NonePass p xs → list_any p xs ≡ false
list_any-none p [] none = refl
list_any-none p (x ∷ xs) none = rw (none.0) (list_any-none p xs none.1)

pub none-list_any : {X : Type 0} (p : X → Bool) (xs : List X) → list_any p xs ≡ false → NonePass p xs
none-list_any p [] none = tt
none-list_any p (x ∷ xs) none = (grind (arith, nat_tests), none-list_any p xs (grind (arith, nat_tests)))

pub filter-not_none : {X : Type 0} (p : X → Bool) (xs : List X) → NonePass p xs → filter (λ x. not (p x)) xs ≡ xs
filter-not_none p [] none = refl
filter-not_none p (x ∷ xs) none = rw (none.0) (ap (λ (ys : List _). x ∷ ys) (filter-not_none p xs none.1))

pub filter-nothing : {X : Type 0} (p : X → Bool) (xs : List X) → NonePass p xs → filter p xs ≡ []
filter-nothing p [] none = refl
filter-nothing p (x ∷ xs) none = rw (none.0) (filter-nothing p xs none.1)

-- ## of those that pass one test, those that pass another

pub length-filter-filter : {X : Type 0} (p keep : X → Bool) (xs : List X) → length (filter p (filter keep xs)) ≤ length (filter p xs)
length-filter-filter p keep [] = omega arith
length-filter-filter p keep (x ∷ xs) = grind (arith, nat_tests, length-filter-filter p keep xs)

-- ## between two probes

-- a member is wanted if it passes the second probe and not the first, which passes no more than the
-- second
pub record IsBetween {X : Type 0} (low high wanted : X → Bool) (x : X) : Type 0 where
  pub both : low x ≡ true → high x ≡ true
  pub is : wanted x ≡ (not (low x) && high x)

module _ {X : Type 0} (before : X → X → Bool) (less : X → Bool) (down : (x y : X) → before x y ≡ true → less y ≡ true → less x ≡ true) where
  pub none-later : (x : X) (xs : List X) → less x ≡ false → AllByRecursion (λ y. before x y ≡ true) xs → NonePass less xs
  none-later x xs not_less all = all-weaker (λ y. before x y ≡ true) (λ y. less y ≡ false) (λ y order. grind (arith, down x y order)) xs all

module _ {X : Type 0} (before : X → X → Bool) (low high wanted : X → Bool)
    (low-down : (x y : X) → before x y ≡ true → low y ≡ true → low x ≡ true)
    (high-down : (x y : X) → before x y ≡ true → high y ≡ true → high x ≡ true) where
  filter-none : (xs : List X) → AllByRecursion (IsBetween low high wanted) xs → NonePass high xs → filter wanted xs ≡ []
  filter-none [] all none = refl
  filter-none (x ∷ xs) all none =
      let not_wanted : wanted x ≡ false = all.0.is ∙ grind (arith, none.0) in
      rw not_wanted (filter-none xs all.1 none.1)

  -- if the first probe passes nothing
  filter-front : (xs : List X) → AllByRecursion (IsBetween low high wanted) xs → Rises before xs → NonePass low xs → filter wanted xs ≡ take (prefix_len high xs) xs
  filter-front [] all rises none = refl
  filter-front (x ∷ xs) all rises none =
      by_bool (λ b. high x ≡ b → filter wanted (x ∷ xs) ≡ take (cond b (1 + prefix_len high xs) 0) (x ∷ xs)) (high x)
      (λ _ is.
      let is_wanted : wanted x ≡ true = all.0.is ∙ rw (none.0, is) refl in
      let step : 1 + prefix_len high xs ≡ suc (prefix_len high xs) = omega arith in
      rw (is_wanted, step) (ap (λ (ys : List X). x ∷ ys) (filter-front xs all.1 rises.1 none.1)))
      (λ _ is. filter-none (x ∷ xs) all (is, none-later before high high-down x xs is rises.0)) refl

  pub filter-between : (xs : List X) → AllByRecursion (IsBetween low high wanted) xs → Rises before xs → filter wanted xs ≡ take (prefix_len high xs - prefix_len low xs) (drop (prefix_len low xs) xs)
  filter-between [] all rises = refl
  filter-between (x ∷ xs) all rises =
      by_bool (λ b. low x ≡ b → filter wanted (x ∷ xs) ≡ take (prefix_len high (x ∷ xs) - cond b (1 + prefix_len low xs) 0) (drop (cond b (1 + prefix_len low xs) 0) (x ∷ xs))) (low x)
      (λ _ is.
      let is_high : high x ≡ true = all.0.both is in
      let not_wanted : wanted x ≡ false = all.0.is ∙ rw is refl in
      let step : 1 + prefix_len low xs ≡ suc (prefix_len low xs) = omega arith in
      let less : 1 + prefix_len high xs - suc (prefix_len low xs) ≡ prefix_len high xs - prefix_len low xs = omega arith in
      rw (is_high, not_wanted, step, less) (filter-between xs all.1 rises.1))
      (λ _ is.
      let whole : prefix_len high (x ∷ xs) - 0 ≡ prefix_len high (x ∷ xs) = omega arith in
      rw whole (filter-front (x ∷ xs) all rises (is, none-later before low low-down x xs is rises.0))) refl

-- a probe that passes no more counts no more
pub prefix_len-le : {X : Type 0} (low high : X → Bool) (xs : List X) → ((x : X) → low x ≡ true → high x ≡ true) → prefix_len low xs ≤ prefix_len high xs
prefix_len-le low high [] both = omega arith
prefix_len-le low high (x ∷ xs) both = grind (arith, nat_tests, both x, prefix_len-le low high xs both)

-- ## one member more

pub list_any-insert_before : {X : Type 0} (q p : X → Bool) (new : X) (xs : List X) → list_any q (insert_before p new xs) ≡ (q new || list_any q xs)
list_any-insert_before q p new [] = refl
list_any-insert_before q p new (x ∷ xs) = grind (arith, list_any-insert_before q p new xs)

-- # lists of which a test keeps all, nothing, or the members with one number

module _ {T : Type 0} where
  pub filter-keeps_all : (p : T → Bool) (xs : List T) → All (λ x. p x ≡ true) xs → filter p xs ≡ xs
  filter-keeps_all p [] each = refl
  filter-keeps_all p (x ∷ xs) each = rw (All-head (λ (y : T). p y ≡ true) x xs each) (ap (λ zs. x ∷ zs) (filter-keeps_all p xs (All-tail (λ (y : T). p y ≡ true) x xs each)))

  pub filter-keeps_none : (p : T → Bool) (xs : List T) → All (λ x. p x ≡ false) xs → filter p xs ≡ []
  filter-keeps_none p [] each = refl
  filter-keeps_none p (x ∷ xs) each = rw (All-head (λ (y : T). p y ≡ false) x xs each) (filter-keeps_none p xs (All-tail (λ (y : T). p y ≡ false) x xs each))

  -- each member that a number keeps has it
  pub All-filter_number : (number : T → ℕ) (k : ℕ) (xs : List T) → All (λ x. number x ≡ k) (filter (λ x. number x == k) xs)
  All-filter_number number k [] = All-nil (λ (x : T). number x ≡ k)
  All-filter_number number k (x ∷ xs) =
      let rest = All-filter_number number k xs in
      by_bool (λ b. All (λ y. number y ≡ k) (cond b (x ∷ filter (λ y. number y == k) xs) (filter (λ y. number y == k) xs))) (number x == k)
      (λ is. All-cons (λ (y : T). number y ≡ k) x (filter (λ y. number y == k) xs) (grind (arith, nat_tests)) rest) (λ _. rest)

-- # a list of members with different numbers below n is not longer than n

module _ {X : Type 0} (number : X → ℕ) where
  -- a member has this number
  abbrev pub is_in : ℕ → List X → Bool
  is_in n xs = list_any (λ x. number x == n) xs

  -- no two members have the same number
  abbrev pub Differ : List X → Type 0
  Differ [] = Unit {0}
  Differ (x ∷ xs) = (is_in (number x) xs ≡ false) × Differ xs

  abbrev without : ℕ → List X → List X
  without n xs = filter (λ x. not (number x == n)) xs

  without_below : (n : ℕ) (xs : List X) → AllByRecursion (λ x. number x < suc n) xs → AllByRecursion (λ x. number x < n) (without n xs)
  without_below n [] all = tt
  without_below n (x ∷ xs) all =
      let rest = without_below n xs all.1 in
      let first : number x < suc n = all.0 in
      by_bool (λ b. AllByRecursion (λ y. number y < n) (cond (not b) (x ∷ without n xs) (without n xs))) (number x == n) (λ _. rest) (λ is. (grind (arith, nat_tests), rest))

  still_out : (k n : ℕ) (xs : List X) → is_in k xs ≡ false → is_in k (without n xs) ≡ false
  still_out k n [] out = refl
  still_out k n (x ∷ xs) out = grind (arith, nat_tests, still_out k n xs)

  without_differ : (n : ℕ) (xs : List X) → Differ xs → Differ (without n xs)
  without_differ n [] differ = tt
  without_differ n (x ∷ xs) differ =
      let rest = without_differ n xs differ.1 in
      by_bool (λ b. Differ (cond (not b) (x ∷ without n xs) (without n xs))) (number x == n) (λ _. rest) (λ _. (still_out (number x) n xs differ.0, rest))

  all_without : (n : ℕ) (xs : List X) → is_in n xs ≡ false → length (without n xs) ≡ length xs
  all_without n [] out = refl
  all_without n (x ∷ xs) out = grind (arith, nat_tests, all_without n xs)

  one_less : (n : ℕ) (xs : List X) → Differ xs → length xs ≤ suc (length (without n xs))
  one_less n [] differ = omega arith
  one_less n (x ∷ xs) differ =
      by_bool (λ b. length (x ∷ xs) ≤ suc (length (cond (not b) (x ∷ without n xs) (without n xs)))) (number x == n)
      (λ is. let same : number x ≡ n = grind (arith, nat_tests) in omega (arith, all_without n xs (subst (λ (k : ℕ). is_in k xs ≡ false) same differ.0)))
      (λ _. omega (arith, one_less n xs differ.1))

  pub few : (n : ℕ) (xs : List X) → AllByRecursion (λ x. number x < n) xs → Differ xs → length xs ≤ n
  few n [] all differ = omega arith
  few zero (x ∷ xs) all differ = absurd (let first : number x < 0 = all.0 in omega arith)
  few (suc n) (x ∷ xs) all differ =
      let rest = few n (without n (x ∷ xs)) (without_below n (x ∷ xs) all) (without_differ n (x ∷ xs) differ) in
      omega (arith, rest, one_less n (x ∷ xs) differ)

  in_push : (k : ℕ) (xs : List X) (new : X) → is_in k xs ≡ false → (number new == k) ≡ false → is_in k (xs ++ new ∷ []) ≡ false
  in_push k [] new out other = grind (arith, nat_tests)
  in_push k (x ∷ xs) new out other = grind (arith, nat_tests, in_push k xs new)

  -- one more member of another number
  pub differ-push : (xs : List X) (new : X) → Differ xs → is_in (number new) xs ≡ false → Differ (xs ++ new ∷ [])
  differ-push [] new differ out = (refl, tt)
  differ-push (x ∷ xs) new differ out =
      let other : (number new == number x) ≡ false = grind (arith, nat_tests) in
      let rest : is_in (number new) xs ≡ false = grind (arith, nat_tests) in
      (in_push (number x) xs new differ.0 other, differ-push xs new differ.1 rest)

-- # what keeps a table in order

-- ## the same keys in the same order

module _ {X K : Type 0} (key : X → K) where
  pub all-keys : (P : K → Type 0) (xs ys : List X) → map key xs ≡ map key ys → AllByRecursion (λ x. P (key x)) xs → AllByRecursion (λ x. P (key x)) ys
  all-keys P [] [] same all = tt
  all-keys P (x ∷ xs) (y ∷ ys) same all = let head : key x ≡ key y = cc in (subst P head all.0, all-keys P xs ys (cc) all.1)
  all-keys P xs ys same all = absurd cc

module _ {X K : Type 0} (lt : K → K → Bool) (key : X → K) where
  pub Rises-keys : (xs ys : List X) → map key xs ≡ map key ys → Rises (λ a b. lt (key a) (key b)) xs → Rises (λ a b. lt (key a) (key b)) ys
  Rises-keys [] [] same rises = tt
  Rises-keys (x ∷ xs) (y ∷ ys) same rises =
      let head : key x ≡ key y = cc in
      let tail : map key xs ≡ map key ys = cc in
      (subst (λ (k : K). AllByRecursion (λ z. lt k (key z) ≡ true) ys) head (all-keys key (λ k. lt (key x) k ≡ true) xs ys tail rises.0), Rises-keys xs ys tail rises.1)
  Rises-keys xs ys same rises = absurd cc

  pub keys-set : (xs : List X) (i : ℕ) (y d : X) → i < length xs → key (get_or xs i d) ≡ key y → map key xs ≡ map key (slice_set xs i y)
  keys-set [] i y d within same = refl
  keys-set (x ∷ xs) zero y d within same = λ i. same i ∷ map key xs
  keys-set (x ∷ xs) (suc i) y d within same = λ j. key x ∷ keys-set xs i y d (omega arith) same j

-- ## one member less

module _ {X : Type 0} (before : X → X → Bool) where
  pub Rises-filter : (p : X → Bool) (xs : List X) → Rises before xs → Rises before (filter p xs)
  Rises-filter p [] rises = tt
  Rises-filter p (x ∷ xs) rises =
      let rest = Rises-filter p xs rises.1 in
      by_bool (λ b. Rises before (cond b (x ∷ filter p xs) (filter p xs))) (p x) (λ _. (all-filter (λ y. before x y ≡ true) p xs rises.0, rest)) (λ _. rest)

  pub Rises-remove : (xs : List X) (i : ℕ) → Rises before xs → Rises before (remove xs i)
  Rises-remove [] zero rises = tt
  Rises-remove [] (suc i) rises = tt
  Rises-remove (x ∷ xs) zero rises = rises.1
  Rises-remove (x ∷ xs) (suc i) rises = (all-remove (λ y. before x y ≡ true) xs i rises.0, Rises-remove xs i rises.1)

  -- if no member before or after the one that is taken out passes, none passes without it
  pub none-remove : (same : X → Bool) (xs : List X) (i : ℕ) (x : X) → Rises before xs → slice_get xs i ≡ Some x → ((y : X) → before y x ≡ true → same y ≡ false) → ((y : X) → before x y ≡ true → same y ≡ false) → NonePass same (remove xs i)
  none-remove same [] i x rises is earlier later = absurd cc
  none-remove same (y ∷ xs) zero x rises is earlier later =
      let here : y ≡ x = cc in
      all-weaker (λ z. before y z ≡ true) (λ z. same z ≡ false) (λ z order. later z (subst (λ (w : X). before w z ≡ true) here order)) xs rises.0
  none-remove same (y ∷ xs) (suc i) x rises is earlier later =
      (earlier y (all-at (λ z. before y z ≡ true) xs i x rises.0 is), none-remove same xs i x rises.1 is earlier later)

-- ## a new member

-- at a place before which no member passes, and from which on each does
pub insert_before-point : {X : Type 0} (p : X → Bool) (new : X) (xs : List X) (i : ℕ) → i ≤ length xs → IsPartitionPoint (λ x. p x ≡ false) (λ x. p x ≡ true) xs i → insert_before p new xs ≡ insert xs i new
insert_before-point p new [] zero within point = refl
insert_before-point p new [] (suc i) within point = absurd (omega arith)
insert_before-point p new (x ∷ xs) zero within point = rw (point.1 0 x (omega arith) (omega arith)) refl
insert_before-point p new (x ∷ xs) (suc i) within point =
    rw (point.0 0 x (omega arith) (omega arith))
    (ap (λ t. x ∷ t) (insert_before-point p new xs i (omega arith) (λ k e low high. point.0 (suc k) e (omega arith) (omega arith), λ k e low high. point.1 (suc k) e (omega arith) (omega arith))))

-- the members up to a place come before it, and it comes before the others
pub Rises-between : {X : Type 0} (before : X → X → Bool) (new : X) → ((x y : X) → before new x ≡ true → before x y ≡ true → before new y ≡ true) →
    (xs : List X) (i : ℕ) → i ≤ length xs → IsPartitionPoint (λ x. before x new ≡ true) (λ x. before new x ≡ true) xs i → Rises before xs → Rises before (insert xs i new)
Rises-between before new down [] zero within point rises = (tt, tt)
Rises-between before new down [] (suc i) within point rises = absurd (omega arith)
Rises-between before new down (x ∷ xs) zero within point rises =
    let first : before new x ≡ true = point.1 0 x (omega arith) (omega arith) in
    ((first, all-weaker (λ y. before x y ≡ true) (λ y. before new y ≡ true) (λ y order. down x y first order) xs rises.0), rises)
Rises-between before new down (x ∷ xs) (suc i) within point rises = (
  all-insert (λ y. before x y ≡ true) new xs i (point.0 0 x (omega arith) (omega arith)) rises.0,
  Rises-between before new down xs i (omega arith) (λ k e low high. point.0 (suc k) e (omega arith) (omega arith), λ k e low high. point.1 (suc k) e (omega arith) (omega arith)) rises.1,
)

-- ## a new row

module _ {X : Type 0} (before same : X → X → Bool)
    (down : (a b k : X) → before a b ≡ true → before b k ≡ true → before a k ≡ true)
    (one_way : (a k : X) → before a k ≡ true → before k a ≡ false)
    (some_way : (a k : X) → before a k ≡ false → same a k ≡ false → before k a ≡ true)
    (new : X) where
  -- where the rows before the new one end
  after : (xs : List X) (i : ℕ) → IsPartitionPoint (λ x. before x new ≡ true) (λ x. before x new ≡ false) xs i → NonePass (λ x. same x new) xs → AllWithin (λ x. before new x ≡ true) xs i (length xs)
  after xs i point none k d low high = some_way (get_or xs k d) new (point.1 k d low high) (all-get_or (λ x. same x new ≡ false) xs k d none high)

  pub insert_before-at : (xs : List X) (i : ℕ) → i ≤ length xs → IsPartitionPoint (λ x. before x new ≡ true) (λ x. before x new ≡ false) xs i → NonePass (λ x. same x new) xs → insert_before (λ x. before new x) new xs ≡ insert xs i new
  insert_before-at xs i within point none =
      insert_before-point (λ x. before new x) new xs i within (λ k d low high. one_way (get_or xs k d) new (point.0 k d low high), after xs i point none)

  pub Rises-insert : (xs : List X) (i : ℕ) → i ≤ length xs → IsPartitionPoint (λ x. before x new ≡ true) (λ x. before x new ≡ false) xs i → NonePass (λ x. same x new) xs → Rises before xs → Rises before (insert xs i new)
  Rises-insert xs i within point none rises = Rises-between before new (λ x y first order. down new x y first order) xs i within (point.0, after xs i point none) rises

-- ## every row changed

pub map-keys : {X K : Type 0} (key : X → K) (f : X → X) (xs : List X) → ((x : X) → key (f x) ≡ key x) → map key xs ≡ map key (map f xs)
map-keys key f [] keeps = refl
map-keys key f (x ∷ xs) keeps = λ i. sym (keeps x) i ∷ map-keys key f xs keeps i

-- # how many items of a list pass a test before a place, and which one has a rank

-- ## one list

module _ {X : Type 0} (p : X → Bool) where
  -- the rank at a place: how many pass before it
  abbrev pub rank : List X → ℕ → ℕ
  rank xs k = length (filter p (take k xs))

  -- one that passes has as its rank the number of those before it that pass
  pub find-rank : (xs : List X) (k : ℕ) (x : X) → slice_get xs k ≡ Some x → p x ≡ true → slice_get (filter p xs) (rank xs k) ≡ Some x
  find-rank [] k x there is = absurd cc
  find-rank (y ∷ ys) zero x there is = let here : y ≡ x = cc in rw (ap p here ∙ is) there
  find-rank (y ∷ ys) (suc k) x there is =
      let later = find-rank ys k x there is in
      by_bool (λ b. slice_get (cond b (y ∷ filter p ys) (filter p ys)) (length (cond b (y ∷ filter p (take k ys)) (filter p (take k ys)))) ≡ Some x) (p y) (λ _. later) (λ _. later)

  -- past the end it is the number of all that pass
  pub past-rank : (xs : List X) (k : ℕ) → length xs ≤ k → rank xs k ≡ length (filter p xs)
  past-rank xs k past = ap (λ (ys : List X). length (filter p ys)) (take_all k xs past)

-- ## the last place with a rank of at most `at`

-- the rank at the place is at most `at`, and at the next place, if there is one, it is greater
pub record IsLastPlace {X : Type 0} (p : X → Bool) (xs : List X) (at k : ℕ) : Type 0 where
  pub most : rank p xs k ≤ at
  pub last : k + 1 < length xs → at < rank p xs (k + 1)

module _ {X : Type 0} (p : X → Bool) (xs : List X) (at k : ℕ) (place : IsLastPlace p xs at k) (x : X) (there : slice_get xs k ≡ Some x) where
  one-more : rank p xs (k + 1) ≡ rank p xs k + cond (p x) 1 0
  one-more =
      length-filter_more p xs k x (slice_get_within xs k x there)
      ∙ ap (λ (y : X). rank p xs k + cond (p y) 1 0) (get_or_from_slice_get xs k x x there)

  none-after : rank p xs (k + 1) ≤ at → slice_get (filter p xs) at ≡ None
  none-after few = slice_get_past (filter p xs) at (grind (arith, place.last, past-rank p xs (k + 1)))

  -- the one at the place has the rank, if it passes and there are that many before it, and else none has it
  pub at-last : slice_get (filter p xs) at ≡ cond (rank p xs k == at) (cond (p x) (Some x) None) None
  at-last = let more = one-more in grind (arith, nat_tests, place.most, find-rank p xs k x there, none-after)
