-- how one member of a list is changed, left out or put in
use Rattle.std.specs.Prelude.{ℕ, zero, suc, List, [], ◌∷◌, Bool, if◌then◌else◌}

-- the first member that passes, changed
abbrev pub change_first : {X : Type 0} → (X → Bool) → (X → X) → List X → List X
change_first p f [] = []
change_first p f (x ∷ xs) = if p x then f x ∷ xs else x ∷ change_first p f xs

-- the first member that passes, left out
abbrev pub remove_first : {X : Type 0} → (X → Bool) → List X → List X
remove_first p [] = []
remove_first p (x ∷ xs) = if p x then xs else x ∷ remove_first p xs

-- a new member before the first that passes, or at the end
abbrev pub insert_before : {X : Type 0} → (X → Bool) → X → List X → List X
insert_before p new [] = new ∷ []
insert_before p new (x ∷ xs) = if p x then new ∷ x ∷ xs else x ∷ insert_before p new xs

-- the member at a place, changed
abbrev pub change_at : {X : Type 0} → ℕ → (X → X) → List X → List X
change_at at f [] = []
change_at zero f (x ∷ xs) = f x ∷ xs
change_at (suc at) f (x ∷ xs) = x ∷ change_at at f xs
