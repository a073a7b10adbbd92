-- edits of the lists, and what undoes them, for the code only
use Rattle.std.specs.Prelude.{◌<◌, List, [], ◌∷◌, length, Option, Some, None, unwrap_or}
use Rattle.std.specs.Option.{option_map}
use Rattle.np_tree_nodes.specs.Steps.{CanStep, after_step}
use Rattle.np_tree_nodes.specs.declared.node.Node.{Node}
use Rattle.np_tree_nodes.specs.declared.mark.Mark.{Mark}
use Rattle.np_tree_nodes.specs.declared.edit.Swap.{Swap}
use Rattle.np_tree_nodes.specs.declared.edit.Touch.{Touch}
use Rattle.np_tree_nodes.specs.declared.edit.Edit.{Edit}
use Rattle.np_tree_nodes.specs.Lower.{change_at}

-- a node with other bytes, if there are some, and other facts
abbrev pub with_swap : Swap → Node → Node
with_swap s n = record n { bytes = unwrap_or s.bytes n.bytes; facts = s.facts }

-- what such a change keeps of the node
abbrev pub kept_of : Swap → Node → Swap
kept_of s n = record { bytes = option_map (λ _. n.bytes) s.bytes; facts = n.facts }

abbrev pub with_touch : Option Touch → List Node → List Node
with_touch None nodes = nodes
with_touch (Some t) nodes = change_at t.place (with_swap t.swap) nodes

abbrev pub CanTouch : Option Touch → List Node → Type 0
CanTouch None nodes = Unit {0}
CanTouch (Some t) nodes = t.place < length nodes

-- the nodes after an edit, and after one that is undone
abbrev pub after_edit : Edit → List Node → List Node
after_edit e nodes = after_step e.node (with_touch e.touch nodes)

abbrev pub after_undo : Edit → List Node → List Node
after_undo e nodes = with_touch e.touch (after_step e.node nodes)

-- each place of an edit is there
pub record CanEdit (e : Edit) (nodes : List Node) (marks : List Mark) : Type 0 where
  pub touch : CanTouch e.touch nodes
  pub node : CanStep e.node (with_touch e.touch nodes)
  pub mark : CanStep e.mark marks

pub record CanTakeBack (e : Edit) (nodes : List Node) (marks : List Mark) : Type 0 where
  pub mark : CanStep e.mark marks
  pub node : CanStep e.node nodes
  pub touch : CanTouch e.touch (after_step e.node nodes)

-- the nodes and the marks after edits are undone, the last one first
abbrev pub nodes_before : List Edit → List Node → List Node
nodes_before [] nodes = nodes
nodes_before (e ∷ es) nodes = after_undo e (nodes_before es nodes)

abbrev pub marks_before : List Edit → List Mark → List Mark
marks_before [] marks = marks
marks_before (e ∷ es) marks = after_step e.mark (marks_before es marks)

-- all of them can be undone
abbrev pub CanUndo : List Edit → List Node → List Mark → Type 0
CanUndo [] nodes marks = Unit {0}
CanUndo (e ∷ es) nodes marks = CanTakeBack e (nodes_before es nodes) (marks_before es marks) × CanUndo es nodes marks
