-- how far apart a word and a key are, and when they are near each other (own)
use Rattle.std.specs.Prelude.{ℕ, ◌*◌, ◌<◌, ◌≤◌, List, Bool, ◌&&◌, length, nat_le, slice_index}
use Rattle.std.specs.Str.{chars}
use Rattle.strsim.specs.Edits.{osa_table}

-- how many letters have to be put in, taken out, changed, or swapped with the one next to them
abbrev pub distance : List ℕ → List ℕ → ℕ
distance word key = (osa_table (chars word) (chars key)).last_row (length (chars key))

-- at most two such edits, and at most one for each two letters of the key
abbrev pub is_near : List ℕ → List ℕ → Bool
is_near word key = nat_le (distance word key) 2 && nat_le (2 * distance word key) (length key)

-- none of the numbers is below the one at this place, which exists
pub record IsLeast (at : ℕ) (numbers : List ℕ) : Type 0 where
  pub within : at < length numbers
  pub least : (k : ℕ) → k < length numbers → slice_index numbers at ≤ slice_index numbers k
