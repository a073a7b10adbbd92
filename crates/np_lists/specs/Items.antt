-- the items in the boxes of a shelf
use Rattle.std.specs.Prelude.{◌≡◌, ℕ, ◌+◌, List, [], ◌∷◌, ◌++◌, length}
use Rattle.np_lists.specs.declared.shelf.Knot.{Knot}
use Rattle.np_lists.specs.declared.shelf.Link.{Link}
use Rattle.np_lists.specs.declared.shelf.Link.TheVariants.{Empty, Top}

-- the items in order
abbrev pub items_of : {T : Type 0} → Link T → List T
items_of Empty = []
items_of (Top knot) = knot.value.left ++ knot.value.item ∷ knot.value.right

-- how many items are on each side of the knot at the top
abbrev pub side_lengths : {T : Type 0} → Link T → ℕ × ℕ
side_lengths Empty = (0, 0)
side_lengths (Top knot) = (length knot.value.left, length knot.value.right)

-- the length in the knot at the top is the number of items
abbrev pub IsCounted : {T : Type 0} → Link T → Type 0
IsCounted Empty = Unit {0}
IsCounted (Top knot) = knot.value.len ≡ length knot.value.left + 1 + length knot.value.right

-- a knot with nothing beside its item
pub record IsLoose {T : Type 0} (knot : Knot T) : Type 0 where
  pub left : knot.left ≡ []
  pub right : knot.right ≡ []
  pub len : knot.len ≡ 1
