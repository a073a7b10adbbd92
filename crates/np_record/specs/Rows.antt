-- the form of a row of fixed room
use Rattle.std.specs.Prelude.{ℕ, ◌-◌, List, ◌++◌, length, replicate}

-- the items, filled up with blanks (own)
abbrev pub padded : {X : Type 0} → X → ℕ → List X → List X
padded blank room items = items ++ replicate (room - length items) blank
