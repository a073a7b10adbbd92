-- The lines of a text.
use Rattle.std.specs.Prelude.{ℕ, ◌+◌, Bool, not, ◌==◌, if◌then◌else◌, List, [], ◌∷◌, ◌++◌, length, drop, Option, Some, None}
use Rattle.std.specs.List.{list_all, onto_first, position_or_len}

-- there is no newline in these bytes
abbrev pub is_line : List ℕ → Bool
is_line bytes = list_all (λ b. not (b == 10)) bytes

-- a line with its newline
abbrev pub line : List ℕ → List ℕ
line bytes = bytes ++ 10 ∷ []

-- a text's lines, without their newlines: the last may lack its own, and an empty rest behind the
-- last newline is not a line (own)
abbrev pub lines_of : List ℕ → List (List ℕ)
lines_of [] = []
lines_of (b ∷ bs) = if b == 10 then [] ∷ lines_of bs else onto_first b (lines_of bs)

-- how long the first line is, without its newline
abbrev pub line_length : List ℕ → ℕ
line_length = position_or_len (λ b. b == 10)

-- where the line that begins at `from` starts and ends; no line begins at the text's end
abbrev pub line_in : List ℕ → ℕ → Option (ℕ × ℕ)
line_in text from = if from == length text then None else Some (from, from + line_length (drop from text))
