-- a walk down the boxes comes to an end
use Rattle.std.specs.Prelude.{◌≤◌, max, length, ◌∷◌}
use Rattle.std.proofs.Common.{arith, length-append}
use Rattle.np_lists.specs.declared.shelf.Link.{Link}
use Rattle.np_lists.specs.declared.shelf.Link.TheVariants.{Empty, Top}
use Rattle.np_lists.specs.declared.shelf.Shelf.TheDeep.{deep-Link}
use Rattle.np_lists.specs.Items.{items_of}

-- each side of a knot has fewer items than the knot
pub falls : {T : Type 0} (l : Link T) → max (deep-Link T l) 0 ≤ length (items_of l)
falls Empty = omega arith
falls (Top knot) = omega (arith, length-append knot.value.left (knot.value.item ∷ knot.value.right))
