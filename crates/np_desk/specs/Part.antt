-- The part of a pass: its share of the right to take turns, as a list of words over 0 and 1.
-- The empty word is all of it, and the words w0 and w1 are the halves of what w is.
-- A word has its last letter first, so that w0 is false ∷ w, and w1 is true ∷ w.
use Rattle.std.specs.Prelude.{◌≡◌, List, [], ◌∷◌, Bool, true, false, not, cond}

-- the first word w becomes w0
abbrev pub first_half : List (List Bool) → List (List Bool)
first_half [] = []
first_half (w ∷ ws) = (false ∷ w) ∷ ws

-- and w1 is given away
abbrev pub second_half : List (List Bool) → List (List Bool)
second_half [] = []
second_half (w ∷ ws) = (true ∷ w) ∷ []

abbrev pub is_same : List Bool → List Bool → Bool
is_same [] [] = true
is_same [] (b ∷ w) = false
is_same (a ∷ v) [] = false
is_same (true ∷ v) (true ∷ w) = is_same v w
is_same (true ∷ v) (false ∷ w) = false
is_same (false ∷ v) (true ∷ w) = false
is_same (false ∷ v) (false ∷ w) = is_same v w

abbrev pub has_word : List Bool → List (List Bool) → Bool
has_word w [] = false
has_word w (v ∷ vs) = cond (is_same v w) true (has_word w vs)

abbrev pub without : List Bool → List (List Bool) → List (List Bool)
without w [] = []
without w (v ∷ vs) = cond (is_same v w) vs (v ∷ without w vs)

-- one word more; if the other half of the same word is there, both are replaced by that word
abbrev pub with_word : List Bool → List (List Bool) → List (List Bool)
with_word [] ws = [] ∷ ws
with_word (b ∷ w) ws = cond (has_word (not b ∷ w) ws)
    (with_word w (without (not b ∷ w) ws))
    ((b ∷ w) ∷ ws)

-- both parts together
abbrev pub joined : List (List Bool) → List (List Bool) → List (List Bool)
joined ws [] = ws
joined ws (v ∷ vs) = joined (with_word v ws) vs

-- no other pass has a part
abbrev pub IsWhole : List (List Bool) → Type 0
IsWhole part = part ≡ [] ∷ []
