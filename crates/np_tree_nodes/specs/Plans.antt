-- what an edit is planned from, for the code only
use Rattle.std.specs.Prelude.{◌≡◌, ◌<◌, ◌≤◌, ℕ, true, List, length, Option, Some, None, slice_get, if◌then◌else◌}
use Rattle.np_tree_nodes.specs.Finds.{IsPlace}
use Rattle.np_tree_nodes.specs.Answer.{made_path}
use Rattle.np_tree_nodes.specs.Nodes.{children_of, at_path}
use Rattle.np_tree_nodes.specs.Order.{place_of}
use Rattle.np_tree_nodes.specs.Marks.{mark_place, new_mark}
use Rattle.np_tree_nodes.specs.Tests.{is_ephemeral, is_sequential}
use Rattle.np_tree_nodes.specs.declared.find.Spot.{Spot}
use Rattle.np_tree_nodes.specs.declared.kind.Mode.{Mode}
use Rattle.np_tree_nodes.specs.declared.mark.Mark.{Mark}
use Rattle.np_tree_nodes.specs.declared.node.Node.{Node}
use Rattle.np_tree_nodes.specs.declared.step.Step.{Step}
use Rattle.np_tree_nodes.specs.declared.step.Step.TheVariants.{Nothing, Take, Put}

-- a child that may be made below the node at a path
pub record IsSpot (nodes : List Node) (above name : List ℕ) (mode : Mode) (spot : Spot) : Type 0 where
  pub parent : IsPlace nodes above spot.parent.place spot.parent.node.now
  pub free : at_path nodes (made_path spot.parent.node.now name mode) ≡ None
  pub place : spot.place ≡ place_of (made_path spot.parent.node.now name mode) nodes
  pub room : length (children_of nodes above) < 4_294_967_295
  pub counter : is_sequential mode ≡ true → spot.parent.node.now.facts.counter ≤ 2_147_483_647

-- the mark of an ephemeral is taken
abbrev pub TakesMark : Option ℕ → List ℕ → List Mark → Step Mark → Type 0
TakesMark owner path marks Nothing = owner ≡ None
TakesMark owner path marks (Take j) = (session : ℕ) × (owner ≡ Some session) × (slice_get marks j ≡ Some (new_mark session path))
TakesMark owner path marks (Put j mark) = ⊥

-- the step of the marks for a node that is made
abbrev pub mark_step : Mode → ℕ → List ℕ → List Mark → Step Mark
mark_step mode session path marks = if is_ephemeral mode then Put (mark_place session path marks) (new_mark session path) else Nothing
