-- how many members of a list of numbers pass a test
use Rattle.std.proofs.Common.{◌≡◌, ℕ, ◌+◌, ◌≤◌, ◌==◌, Bool, true, false, not, cond, List, [], ◌∷◌, ◌++◌, length, refl, arith}
use Rattle.std.specs.Prelude.{filter}
use Rattle.std.specs.List.{AllByRecursion, list_all}
use Rattle.std.proofs.lemmas.Bool.{or_parts}
use Rattle.std.proofs.lemmas.Bool.Decides.{nat_tests}
use Rattle.np_static.specs.Lower.{DistinctNumbers, is_number}

abbrev pub count : (ℕ → Bool) → List ℕ → ℕ
count p xs = length (filter p xs)

pub count-push : (p : ℕ → Bool) (xs : List ℕ) (x : ℕ) → count p (xs ++ x ∷ []) ≡ count p xs + cond (p x) 1 0
count-push p [] x = grind arith
count-push p (y ∷ ys) x = grind (arith, count-push p ys x)

-- ## without the members that pass another test

-- a test that passes none of them counts the same
pub count-apart : (p q : ℕ → Bool) → ((x : ℕ) → q x ≡ true → p x ≡ false) → (xs : List ℕ) → count p (filter (λ x. not (q x)) xs) ≡ count p xs
count-apart p q apart [] = refl
count-apart p q apart (x ∷ xs) = grind (arith, apart x, count-apart p q apart xs)

-- one that passes all of them counts fewer by as many as are gone
pub count-same : (p q : ℕ → Bool) → ((x : ℕ) → q x ≡ true → p x ≡ true) → (xs : List ℕ) →
    count p (filter (λ x. not (q x)) xs) + length xs ≡ count p xs + length (filter (λ x. not (q x)) xs)
count-same p q same [] = refl
count-same p q same (x ∷ xs) = grind (arith, same x, count-same p q same xs)

-- what holds of all holds of those that are left
pub all-filter : (q keep : ℕ → Bool) (xs : List ℕ) → list_all q xs ≡ true → list_all q (filter keep xs) ≡ true
all-filter q keep [] all = refl
all-filter q keep (x ∷ xs) all = grind (arith, all-filter q keep xs)

-- ## distinct members of a list

abbrev pub without : ℕ → List ℕ → List ℕ
without x numbers = filter (λ y. not (y == x)) numbers

pub all-stands : (q : ℕ → Bool) (x : ℕ) (xs : List ℕ) → list_all q xs ≡ true → is_number x xs ≡ true → q x ≡ true
all-stands q x [] all stands = absurd cc
all-stands q x (y ∷ ys) all stands = grind (arith, nat_tests, all-stands q x ys)

count-filter : (p keep : ℕ → Bool) (xs : List ℕ) → count p (filter keep xs) ≤ count p xs
count-filter p keep [] = omega arith
count-filter p keep (x ∷ xs) = grind (arith, count-filter p keep xs)

-- what passes in a list with x has x counted once more
count-stands : (p : ℕ → Bool) (x : ℕ) (xs : List ℕ) → is_number x xs ≡ true → cond (p x) 1 0 + count p (without x xs) ≤ count p xs
count-stands p x [] stands = absurd cc
count-stands p x (y ∷ ys) stands = grind (arith, nat_tests, count-stands p x ys, count-filter p (λ z. not (z == x)) ys)

-- other members stand in what is left
stands-without : (x y : ℕ) (xs : List ℕ) → (y == x) ≡ false → is_number y xs ≡ true → is_number y (without x xs) ≡ true
stands-without x y [] other stands = absurd cc
stands-without x y (z ∷ zs) other stands = grind (arith, nat_tests, stands-without x y zs)

all-without : (x : ℕ) (numbers fewer : List ℕ) → is_number x fewer ≡ false → AllByRecursion (λ y. is_number y numbers ≡ true) fewer → AllByRecursion (λ y. is_number y (without x numbers) ≡ true) fewer
all-without x numbers [] none within = tt
all-without x numbers (y ∷ ys) none within =
    let parts = or_parts (y == x) (is_number x ys) none in
    (stands-without x y numbers parts.0 within.0, all-without x numbers ys parts.1 within.1)

-- of members of a list without repeats, no more pass than of the list
pub count-fewer : (p : ℕ → Bool) (numbers fewer : List ℕ) → DistinctNumbers fewer → AllByRecursion (λ y. is_number y numbers ≡ true) fewer → count p fewer ≤ count p numbers
count-fewer p numbers [] distinct within = omega arith
count-fewer p numbers (x ∷ xs) distinct within =
    grind (arith, count-fewer p (without x numbers) xs distinct.1 (all-without x numbers xs distinct.0 within.1), count-stands p x numbers within.0)

pub all-fewer : (q : ℕ → Bool) (numbers fewer : List ℕ) → list_all q numbers ≡ true → AllByRecursion (λ y. is_number y numbers ≡ true) fewer → list_all q fewer ≡ true
all-fewer q numbers [] all within = refl
all-fewer q numbers (x ∷ xs) all within = grind (arith, all-stands q x numbers all within.0, all-fewer q numbers xs all within.1)
