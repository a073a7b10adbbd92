-- rows in a table that knows its room
use Rattle.std.specs.Prelude.{ℕ, List}

-- the rows, and how many more the table takes without memory
pub record Roomy (Row : Type 0) : Type 0 where
  pub rows : List Row
  pub room : ℕ
