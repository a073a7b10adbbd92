-- The words of a line.
use Rattle.std.specs.Prelude.{ℕ, Bool, ◌==◌, List, [], Option, Some, None}
use Rattle.std.specs.List.{slice_split}

-- the byte between two words
abbrev pub is_space : ℕ → Bool
is_space b = b == 32

-- the parts between single spaces: two spaces in a row have an empty word between them (own)
abbrev pub words_of : List ℕ → List (List ℕ)
words_of line = slice_split is_space line

-- the words of the rest of a line, if there is a rest
abbrev pub left_of : Option (List ℕ) → List (List ℕ)
left_of None = []
left_of (Some rest) = words_of rest
