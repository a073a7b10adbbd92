-- what is always true of the nodes and the marks, and edits that keep it, for the code only
use Rattle.std.specs.Prelude.{◌≡◌, ◌≤◌, ◌<◌, ℕ, List, length}
use Rattle.np_tree_nodes.specs.After.{nodes_after_end}
use Rattle.np_tree_nodes.specs.Edits.{CanEdit, after_edit}
use Rattle.np_tree_nodes.specs.Marks.{AreRanked, MarkEphemerals}
use Rattle.np_tree_nodes.specs.Nodes.{children_of}
use Rattle.np_tree_nodes.specs.Order.{AllPaths, IsSorted}
use Rattle.np_tree_nodes.specs.Steps.{after_step}
use Rattle.np_tree_nodes.specs.declared.node.Node.{Node}
use Rattle.np_tree_nodes.specs.declared.mark.Mark.{Mark}
use Rattle.np_tree_nodes.specs.declared.edit.Edit.{Edit}

-- each node has at most as many children as its stat can count (own)
abbrev pub HasRoom : List Node → Type 0
HasRoom nodes = (path : List ℕ) → length (children_of nodes path) ≤ 4_294_967_295

-- what is always true of the nodes and the marks
pub record IsKept (nodes : List Node) (marks : List Mark) : Type 0 where
  pub sorted : IsSorted nodes
  pub paths : AllPaths nodes
  pub room : HasRoom nodes
  pub ranked : AreRanked marks
  pub marked : MarkEphemerals marks nodes

-- an edit that makes these nodes
pub record Plans (nodes : List Node) (marks : List Mark) (after : List Node) (e : Edit) : Type 0 where
  pub can : CanEdit e nodes marks
  pub made : after_edit e nodes ≡ after
  pub kept : IsKept after (after_step e.mark marks)

-- an edit that takes one of a session's marks away, and leaves what the whole end leaves
pub record EndsOne (z session : ℕ) (nodes : List Node) (marks : List Mark) (e : Edit) : Type 0 where
  pub can : CanEdit e nodes marks
  pub ended : nodes_after_end z session (after_edit e nodes) ≡ nodes_after_end z session nodes
  pub kept : IsKept (after_edit e nodes) (after_step e.mark marks)
  pub fewer : length (after_step e.mark marks) < length marks
