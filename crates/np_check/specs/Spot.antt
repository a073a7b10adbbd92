-- lines and columns of a text (own)
use Rattle.std.specs.Prelude.{ℕ, ◌+◌, ◌==◌, List, fold, take, if◌then◌else◌}
use Rattle.np_check.specs.declared.spot.Spot.{Spot}

-- the place behind this byte: the next column, or the start of the next line
abbrev pub behind : Spot → ℕ → Spot
behind spot byte = record {
  line = if byte == 10 then spot.line + 1 else spot.line;
  column = if byte == 10 then 1 else spot.column + 1;
}

-- where the byte at this place is; lines and columns count from 1
abbrev pub spot_of : List ℕ → ℕ → Spot
spot_of text at = fold behind (record { line = 1; column = 1 }) (take at text)
