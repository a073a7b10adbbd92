-- the state from which the edits of a call began, for the code only
use Rattle.std.specs.Prelude.{◌≡◌}
use Rattle.np_tree_nodes.specs.Edits.{CanUndo, marks_before, nodes_before}
use Rattle.np_tree_nodes.specs.declared.lists.NodeLists.{NodeLists}

-- the state from which the edits of the call began, and that they can be undone, stay as they are
pub record KeepsStart (old new : NodeLists) : Type 0 where
  pub nodes : nodes_before new.undo.items new.nodes ≡ nodes_before old.undo.items old.nodes
  pub marks : marks_before new.undo.items new.marks ≡ marks_before old.undo.items old.marks
  pub can : CanUndo old.undo.items old.nodes old.marks → CanUndo new.undo.items new.nodes new.marks

-- the lists and the edits are the same
pub record SameLists (old new : NodeLists) : Type 0 where
  pub nodes : new.nodes ≡ old.nodes
  pub marks : new.marks ≡ old.marks
  pub undo : new.undo.items ≡ old.undo.items
