-- rows that hold an item each, and spare rows
use Rattle.std.specs.Prelude.{◌≤◌, ◌+◌, ◌∷◌, ℕ, Bool, false, List, [], length, Option, Some, None}

-- the items in the rows
abbrev pub items_of : {T : Type 0} → List (Option T) → List T
items_of [] = []
items_of (None ∷ rows) = items_of rows
items_of (Some item ∷ rows) = item ∷ items_of rows

-- each row has an item
abbrev pub AreFilled : {T : Type 0} → List (Option T) → Type 0
AreFilled [] = Unit {0}
AreFilled (None ∷ rows) = ⊥
AreFilled (Some item ∷ rows) = AreFilled rows

-- whether the item in the row is before what is searched for
abbrev pub row_is_before : {T : Type 0} → (T → Bool) → Option T → Bool
row_is_before before None = false
row_is_before before (Some item) = before item

-- rows with an item each, and spare ones, of which there are no more than a `usize` counts
pub record IsStock {T : Type 0} (rows spare : List (Option T)) : Type 0 where
  pub filled : AreFilled rows
  pub count : length rows + length spare ≤ 18446744073709551615

-- what contracts see: the items, and how many more can be put
pub record StockOf (T : Type 0) : Type 0 where
  pub items : List T
  pub room : ℕ
