-- lists in an order, and the first member that passes a test
use Rattle.std.specs.Prelude.{◌≡◌, ℕ, zero, suc, Bool, true, false, List, [], ◌∷◌, length, Option, Some, None}
use Rattle.std.specs.List.{AllByRecursion, AllWithin, prefix_len}

-- each member is before every later one
abbrev pub Rises : {X : Type 0} → (X → X → Bool) → List X → Type 0
Rises before [] = Unit {0}
Rises before (x ∷ xs) = AllByRecursion (λ y. before x y ≡ true) xs × Rises before xs

-- no member passes
abbrev pub NonePass : {X : Type 0} → (X → Bool) → List X → Type 0
NonePass p xs = AllByRecursion (λ x. p x ≡ false) xs

-- the member at the place passes, and none before it
abbrev pub FirstAt : {X : Type 0} → (X → Bool) → List X → ℕ → Type 0
FirstAt p [] i = ⊥
FirstAt p (x ∷ xs) zero = p x ≡ true
FirstAt p (x ∷ xs) (suc i) = (p x ≡ false) × FirstAt p xs i

-- the place of the first member that passes, or that none does
abbrev pub IsFirstPlace : {X : Type 0} → (X → Bool) → List X → Option ℕ → Type 0
IsFirstPlace p xs None = NonePass p xs
IsFirstPlace p xs (Some i) = FirstAt p xs i

-- no member that passes comes after one that does not
abbrev pub IsSplit : {X : Type 0} → (X → Bool) → List X → Type 0
IsSplit p xs = AllWithin (λ x. p x ≡ false) xs (prefix_len p xs) (length xs)
