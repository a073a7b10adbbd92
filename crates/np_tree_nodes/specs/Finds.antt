-- what searches find, for the code only
use Rattle.std.specs.Prelude.{◌≡◌, ℕ, ◌-◌, ◌<◌, ◌≤◌, Bool, true, List, [], length, take, drop, Option, Some, None, is_some, slice_get}
use Rattle.std.specs.Ordering.{nat_cmp, is_lt, is_le, ordering_then}
use Rattle.std.specs.Cmp.Lexicographic.{slice_cmp}
use Rattle.np_tree_nodes.specs.Nodes.{before_of, children_of, is_at, at_path}
use Rattle.np_tree_nodes.specs.Order.{place_of}
use Rattle.np_tree_nodes.specs.declared.node.Node.{Node}
use Rattle.np_tree_nodes.specs.declared.find.Found.{Found}
use Rattle.np_tree_nodes.specs.Lower.{name_of}

-- whether a path comes before the one of these two halves
abbrev pub stands_before : List ℕ → List ℕ → List ℕ → Bool
stands_before before name path = is_lt (ordering_then (slice_cmp nat_cmp (before_of path) before) (slice_cmp nat_cmp (name_of path) name))

-- whether a path comes before all children that have this half, the root's children without the
-- root
abbrev pub upto_first : List ℕ → List ℕ → Bool
upto_first before path = is_le (ordering_then (slice_cmp nat_cmp (before_of path) before) (slice_cmp nat_cmp (name_of path) []))

-- whether a path comes before or among the children that have this half
abbrev pub upto_last : List ℕ → List ℕ → Bool
upto_last before path = is_le (slice_cmp nat_cmp (before_of path) before)

-- the node at a path is at a place
pub record IsPlace (nodes : List Node) (path : List ℕ) (k : ℕ) (n : Node) : Type 0 where
  pub within : k < length nodes
  pub item : slice_get nodes k ≡ Some n
  pub at : is_at path n ≡ true
  pub found : at_path nodes path ≡ Some n

-- the node at a path is found with its place, or there is none
abbrev pub Finds : List Node → List ℕ → Option Found → Type 0
Finds nodes path None = at_path nodes path ≡ None
Finds nodes path (Some found) = IsPlace nodes path found.place found.node.now

-- the children of a path are side by side between two places
pub record IsStretch (nodes : List Node) (path : List ℕ) (from to : ℕ) : Type 0 where
  pub ordered : from ≤ to
  pub within : to ≤ length nodes
  pub children : children_of nodes path ≡ take (to - from) (drop from nodes)

-- a path is free and has a place, or there is a node at it
abbrev pub FindsGap : List Node → List ℕ → Option ℕ → Type 0
FindsGap nodes path None = is_some (at_path nodes path) ≡ true
FindsGap nodes path (Some k) = (at_path nodes path ≡ None) × (k ≡ place_of path nodes)
