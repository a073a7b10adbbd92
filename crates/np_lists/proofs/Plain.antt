-- truth values, numbers, options, lists and tests that may refuse: what every crate may need
use Rattle.np_lists.proofs.Prelude.{Bool, Err, List, None, Ok, Option, Result, Some, ap, arith, bytes_eq, bytes_eq-Decides, decimal, drop, drop_all, false, false_from_ne_true, find, found, get_or, is_none, is_some, length, length-decimal-le, list_any, map, min, nat_le, nat_lt, nat_tests, need, option_map, refl, slice_get, slice_get-get_or, slice_get-map, slice_get_within, slice_set, suc, sym, take, take_all, true, zero, ℕ, [], ◌&&◌, ◌++◌, ◌-◌, ◌<◌, ◌==◌, ◌>>=◌, ◌>>◌, ◌^◌, ◌||◌, ◌∙◌, ◌∷◌, ◌≡◌, ◌≢◌, ◌≤◌}

-- # Truth values, numbers, options and lists: what every crate may need.

pub false-apart : false ≡ true → ⊥
false-apart is = cc

pub not-zero : (n : ℕ) → 0 < n → (n == 0) ≡ false
not-zero n is = grind (arith, nat_tests)

pub not-below : (i n : ℕ) → nat_lt i n ≡ false → n ≤ i
not-below i n is = grind (arith, nat_tests)

pub and_true : (b : Bool) → (b && true) ≡ b
and_true b = grind arith

pub by_bool : (P : Bool → Type 0) (b : Bool) → (b ≡ true → P true) → (b ≡ false → P false) → P b
by_bool P true t f = t refl
by_bool P false t f = f refl

pub length-set : {X : Type 0} (xs : List X) (i : ℕ) (x : X) → length (slice_set xs i x) ≡ length xs
length-set [] i x = refl
length-set (y ∷ xs) zero x = refl
length-set (y ∷ xs) (suc i) x = ap suc (length-set xs i x)

pub same_number : (a b : ℕ) → a ≡ b → (a == b) ≡ true
same_number a b e = grind (arith, nat_tests)

pub below-apart : (n m : ℕ) → n < m → (n == m) ≡ false
below-apart n m less = grind (arith, nat_tests)

pub past-end : {X : Type 0} (xs : List X) (i : ℕ) → slice_get xs i ≡ None → length xs ≤ i
past-end [] i none = omega arith
past-end (x ∷ xs) zero none = absurd cc
past-end (x ∷ xs) (suc i) none = omega (arith, past-end xs i none)

pub drop-past : {X : Type 0} (xs : List X) (i : ℕ) → slice_get xs i ≡ None → drop i xs ≡ []
drop-past xs i is = drop_all i xs (past-end xs i is)

pub bytes_eq-apart : (xs ys : List ℕ) → (xs ≡ ys → ⊥) → bytes_eq xs ys ≡ false
bytes_eq-apart xs ys apart = false_from_ne_true (bytes_eq xs ys) (λ is. apart ((bytes_eq-Decides xs ys).0 is))

pub is-below : (n m : ℕ) → n < m → nat_lt n m ≡ true
is-below n m is = grind (arith, nat_tests)

pub equal-itself : (n : ℕ) → (n == n) ≡ true
equal-itself n = grind (arith, nat_tests)

pub or_false : (b : Bool) → (b || false) ≡ b
or_false b = grind arith

pub map-push : {A B : Type 0} (f : A → B) (xs : List A) (x : A) → map f (xs ++ x ∷ []) ≡ map f xs ++ f x ∷ []
map-push f [] x = refl
map-push f (y ∷ xs) x = ap (λ (l : List _). f y ∷ l) (map-push f xs x)

pub take-all : {X : Type 0} (xs : List X) → take (length xs) xs ≡ xs
take-all xs = take_all (length xs) xs (omega arith)

pub or_true : (a : Bool) → (a || true) ≡ true
or_true a = grind arith

pub contrapositive : (a b : Bool) → (a ≡ true → b ≡ true) → b ≡ false → a ≡ false
contrapositive a b all out = false_from_ne_true a (λ is. let passes = all is in cc)

pub above-apart : (n m : ℕ) → m < n → (n == m) ≡ false
above-apart n m less = grind (arith, nat_tests)

pub length-map : {X Y : Type 0} (f : X → Y) (xs : List X) → length (map f xs) ≡ length xs
length-map f [] = refl
length-map f (x ∷ xs) = ap suc (length-map f xs)

pub equal-numbers : (m n : ℕ) → (m == n) ≡ true → m ≡ n
equal-numbers m n is = grind (arith, nat_tests)

pub is-at_most : (n m : ℕ) → n ≤ m → nat_le n m ≡ true
is-at_most n m is = grind (arith, nat_tests)

pub some-within : {X : Type 0} (xs : List X) (i : ℕ) (o : Option X) → slice_get xs i ≡ o → is_some o ≡ true → i < length xs
some-within xs i None there some = absurd cc
some-within xs i (Some x) there some = slice_get_within xs i x there

pub and-first : (t u : Bool) → (t && u) ≡ true → t ≡ true
and-first t u is = grind arith

pub and_false : (b : Bool) → (b && false) ≡ false
and_false b = grind arith

pub and-second : (a b : Bool) → (a && b) ≡ true → b ≡ true
and-second a b both = grind arith

pub both-ways : (a b : Bool) → (a ≡ true → b ≡ true) → (b ≡ true → a ≡ true) → a ≡ b
both-ways a b there back = grind arith

pub any-same : {X : Type 0} (p q : X → Bool) → ((x : X) → p x ≡ q x) → (xs : List X) → list_any p xs ≡ list_any q xs
any-same p q same [] = refl
any-same p q same (x ∷ xs) = rw (same x, any-same p q same xs) refl

pub suc-not_zero : (n : ℕ) → (suc n == 0) ≡ false
suc-not_zero n = grind (arith, nat_tests)

pub and-apart : (s b : Bool) → (s && b) ≡ false → b ≡ true → s ≡ false
and-apart s b none is = grind arith

pub not-past : {X : Type 0} (xs : List X) (i : ℕ) → i < length xs → slice_get xs i ≡ None → ⊥
not-past xs i low none = omega (arith, past-end xs i none)

pub not-second : (a b : Bool) → (a || b) ≡ false → b ≡ false
not-second a b none = grind arith

pub drop-there : {X : Type 0} (xs : List X) (i : ℕ) (x : X) → slice_get xs i ≡ Some x → drop i xs ≡ x ∷ drop (suc i) xs
drop-there [] i x is = absurd cc
drop-there (first ∷ xs) zero x is = let same : first ≡ x = cc in rw same refl
drop-there (first ∷ xs) (suc i) x is = drop-there xs i x is

pub member-there : {T : Type 0} (xs : List T) (i : ℕ) → i < length xs → (x : T) × (slice_get xs i ≡ Some x)
member-there [] i within = absurd (omega arith)
member-there (x ∷ xs) zero within = (x, refl)
member-there (x ∷ xs) (suc i) within = member-there xs i (omega arith)

pub decimal-short : (n : ℕ) → n < 2 ^ 64 → length (decimal n) ≤ 20
decimal-short n small = length-decimal-le 20 n (omega arith) (omega arith) small

pub set-other : {X : Type 0} (xs : List X) (i j : ℕ) (x : X) → i ≢ j → slice_get (slice_set xs i x) j ≡ slice_get xs j
set-other [] i j x other = refl
set-other (z ∷ xs) zero zero x other = absurd (other refl)
set-other (z ∷ xs) (suc i) (suc j) x other = set-other xs i j x (λ same. other (ap suc same))
set-other (z ∷ xs) i j x other = refl

pub there-at : {X : Type 0} (xs : List X) (at : ℕ) (x : X) → at < length xs → x ≡ get_or xs at x → slice_get xs at ≡ Some x
there-at xs at x within is = slice_get-get_or xs at x within ∙ ap Some (sym is)

pub low-min : (a b : ℕ) → min a b ≤ a
low-min a b = omega arith

pub set-here : {X : Type 0} (xs : List X) (i : ℕ) (x y : X) → slice_get xs i ≡ Some y → slice_get (slice_set xs i x) i ≡ Some x
set-here [] i x y is = absurd cc
set-here (z ∷ xs) zero x y is = refl
set-here (z ∷ xs) (suc i) x y is = set-here xs i x y is

pub some-unless : {X : Type 0} (o : Option X) → (o ≡ None → ⊥) → (x : X) × (o ≡ Some x)
some-unless None there = absurd (there refl)
some-unless (Some x) there = (x, refl)

pub map-some : {A B : Type 0} (f : A → B) (o : Option A) → is_some (option_map f o) ≡ is_some o
map-some f o = grind arith

pub none-is : {X : Type 0} (o : Option X) → is_none o ≡ true → o ≡ None
none-is o is = grind arith

pub some-of : {A : Type 0} (o : Option A) → is_some o ≡ true → (a : A) × (o ≡ Some a)
some-of None is = absurd cc
some-of (Some a) is = (a, refl)

pub from-map_some : {A B : Type 0} (f : A → B) (o : Option A) (y : B) → option_map f o ≡ Some y → (x : A) × (o ≡ Some x) × (f x ≡ y)
from-map_some f None y e = absurd (cc)
from-map_some f (Some x) y e = (x, refl, cc)

pub get-map : {A B : Type 0} (f : A → B) (xs : List A) (i : ℕ) → slice_get (map f xs) i ≡ option_map f (slice_get xs i)
get-map f xs i = slice_get-map f xs i

pub length-none : {E : Type 0} (l : List E) → length l ≡ 0 → l ≡ []
length-none [] h = refl
length-none (e ∷ es) h = absurd (omega (arith, h))

pub find-alike : {X : Type 0} (p r : X → Bool) (xs : List X) → ((x : X) → p x ≡ r x) → find p xs ≡ find r xs
find-alike p r [] alike = refl
find-alike p r (x ∷ xs) alike = rw (alike x, find-alike p r xs alike) refl

-- # what it means that tests passed

-- the test was true, and the rest passed
pub need-ok : {B E : Type 0} (b : Bool) (refusal : E) (rest : Result B E) (x : B) → (need b refusal >> rest) ≡ Ok x → (b ≡ true) × (rest ≡ Ok x)
need-ok true refusal rest x is = (refl, is)
need-ok false refusal rest x is = absurd cc

-- the last test was true
pub need-last : {E : Type 0} (b : Bool) (refusal : E) → need b refusal ≡ Ok tt → b ≡ true
need-last b refusal is = grind arith

-- something was found, and the rest passed
pub found-ok : {A B E : Type 0} (o : Option A) (refusal : E) (rest : A → Result B E) (x : B) → (found o refusal >>= rest) ≡ Ok x → (a : A) × (o ≡ Some a) × (rest a ≡ Ok x)
found-ok None refusal rest x is = absurd cc
found-ok (Some a) refusal rest x is = (a, refl, is)

-- what was found is there
pub found-some : {A E : Type 0} (o : Option A) (refusal : E) (a : A) → found o refusal ≡ Ok a → o ≡ Some a
found-some o refusal a is = grind arith

-- the first of two passed, and then the second
pub bind-ok : {A B E : Type 0} (r : Result A E) (rest : A → Result B E) (x : B) → (r >>= rest) ≡ Ok x → (a : A) × (r ≡ Ok a) × (rest a ≡ Ok x)
bind-ok (Ok a) rest x is = (a, refl, is)
bind-ok (Err refusal) rest x is = absurd cc

pub then-ok : {B E : Type 0} (r : Result (Unit {0}) E) (rest : Result B E) (x : B) → (r >> rest) ≡ Ok x → r ≡ Ok tt
then-ok (Ok u) rest x is = refl
then-ok (Err refusal) rest x is = absurd cc

-- what came after a test
pub rest-ok : {B E : Type 0} (r : Result (Unit {0}) E) (rest : Result B E) (x : B) → (r >> rest) ≡ Ok x → rest ≡ Ok x
rest-ok r rest x is = grind arith
