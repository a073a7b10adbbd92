-- A text's two sections, around its first line that is exactly `%%`.
use Rattle.std.specs.Prelude.{ℕ, Bool, true, false, ◌&&◌, ◌==◌, if◌then◌else◌, List, [], ◌∷◌, ◌++◌, drop, codes, Option, Some, None}
use Rattle.std.specs.List.{list_any}
use Rattle.std.specs.Option.{option_map}
use Rattle.std.specs.Str.{bytes_eq}

-- the line between two sections
abbrev pub bar : List ℕ
bar = codes "%%"

-- one of these lines is `%%`
abbrev pub has_bar : List (List ℕ) → Bool
has_bar lines = list_any (λ bytes. bytes_eq bytes bar) lines

-- the first line is `%%`
abbrev pub begins_with_bar : List ℕ → Bool
begins_with_bar [] = false
begins_with_bar (a ∷ []) = false
begins_with_bar (a ∷ b ∷ []) = (a == 37) && (b == 37)
begins_with_bar (a ∷ b ∷ c ∷ rest) = (a == 37) && (b == 37) && (c == 10)

-- two sections, with bytes before the first
abbrev pub behind : List ℕ → Option (List ℕ × List ℕ) → Option (List ℕ × List ℕ)
behind front = option_map (λ parts. (front ++ parts.0, parts.1))

-- the bytes before the line `%%`, and those after it; `fresh` says that a line begins here
unfoldable pub sections_from : Bool → List ℕ → Option (List ℕ × List ℕ)
sections_from fresh [] = None
sections_from fresh (b ∷ bs) = if fresh && begins_with_bar (b ∷ bs) then Some ([], drop 3 (b ∷ bs)) else behind (b ∷ []) (sections_from (b == 10) bs)

-- the bytes before the first line that is exactly `%%`, and those after that line (own)
abbrev pub sections_of : List ℕ → Option (List ℕ × List ℕ)
sections_of = sections_from true
