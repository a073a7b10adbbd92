-- spellings of a node's record in a tree
use Rattle.std.specs.Prelude.{◌≡◌, ℕ, List, Some}
use Rattle.np_changes.specs.Prelude.{Configuration, NodeId, NodeRecord, node_in}
use Rattle.np_layout.specs.Prelude.{TreeState, after_set, decoded, path_of, with_next_number}
use Rattle.np_spelling.specs.Spelling.{SpellsNode}
use Rattle.np_layout.specs.declared.place.Place.TheVariants.{Node}

-- the bytes are a spelling of the record that the node has
pub record IsSpelling (c : Configuration) (t : TreeState) (n : NodeId) (bytes : List ℕ) : Type 0 where
  pub kept : NodeRecord
  pub there : node_in n (decoded c t).nodes ≡ Some kept
  pub spells : SpellsNode kept bytes

-- the tree in which these are the bytes of the node's record
abbrev pub respelled : TreeState → NodeId → List ℕ → TreeState
respelled t n bytes = with_next_number (after_set t (path_of (Node n)) bytes)
