-- names that a child may have, for the code only
use Rattle.std.specs.Prelude.{◌≡◌, ℕ, true, List, [], if◌then◌else◌}
use Rattle.std.specs.Str.{bytes_eq}
use Rattle.std.specs.List.{list_all}
use Rattle.np_tree_nodes.specs.Tests.{is_sequential}
use Rattle.np_tree_nodes.specs.declared.kind.Mode.{Mode}
use Rattle.np_tree_nodes.specs.Lower.{is_element, is_kept, root}

-- it is an element, or may come before the digits that make it one
abbrev pub MakesName : List ℕ → Mode → Type 0
MakesName name mode = (if is_sequential mode then list_all is_kept name else is_element name) ≡ true

-- what is before the last slash of a node's children
abbrev pub half_of : List ℕ → List ℕ
half_of path = if bytes_eq path root then [] else path
