-- which of two trees came later, by the change numbers of their nodes
use Rattle.std.specs.Prelude.{◌≡◌, ◌≤◌, ◌<◌, ℕ, true, List, [], ◌∷◌, codes, map, Option, Some}
use Rattle.np_tree.specs.Whole.{IsPart, IsWhole}
use Rattle.np_tree.specs.Several.{Goes}
use Rattle.np_tree.specs.Views.{Row, rows_at, seen_at, seen_of}
use Rattle.np_tree.specs.Lower.{AllByRecursion, Node, Op, TreeState, after_begin, after_end, after_multi, after_raise, at_path, is_path, new_tree, parent_of, root_node, with_spare}

-- what is listed of a child: its name and its owner
pub record Tag : Type 0 where
  pub name : List ℕ
  pub owner : Option ℕ

abbrev pub tag_of : Row → Tag
tag_of row = record { name = row.name; owner = row.owner }

-- the names and owners of the children of a directory
abbrev pub tags_at : TreeState → List ℕ → List Tag
tags_at t dir = map tag_of (rows_at t dir)

-- ## later trees

-- what u has from a change up to z, t has too
pub record Since (z : ℕ) (t u : TreeState) : Type 0 where
  -- the bytes and the owner of a node
  pub bytes : (path : List ℕ) (n : Node) → at_path u.nodes path ≡ Some n → n.facts.mzxid ≤ z → (m : Node) × (at_path t.nodes path ≡ Some m) × (m.facts.mzxid ≤ z) × (seen_of m ≡ seen_of n)
  -- the names and owners of the children of a node
  pub list : (dir : List ℕ) (n : Node) → at_path u.nodes dir ≡ Some n → n.facts.pzxid ≤ z → (m : Node) × (at_path t.nodes dir ≡ Some m) × (m.facts.pzxid ≤ z) × (tags_at t dir ≡ tags_at u dir)

-- u came after t, or is the same
pub record IsLater (t u : TreeState) : Type 0 where
  pub changes : t.changes ≤ u.changes
  pub since : (z : ℕ) → z ≤ t.changes → Since z t u

abbrev pub LaterThanItself : Type 0
LaterThanItself = (t : TreeState) → IsLater t t

abbrev pub LaterJoined : Type 0
LaterJoined = (t u v : TreeState) → IsLater t u → IsLater u v → IsLater t v

-- ## after each call

-- sessions that begin or are reserved, and a counter that is raised, change no date
abbrev pub ReservesLater : Type 0
ReservesLater = (t : TreeState) (spare : ℕ) → IsLater t (with_spare t spare)

abbrev pub BeginsLater : Type 0
BeginsLater = (t : TreeState) → IsLater t (after_begin t)

abbrev pub RaisesLater : Type 0
RaisesLater = (t : TreeState) (path : List ℕ) (to : ℕ) → IsLater t (after_raise t path to)

-- the end of a session takes a change number
abbrev pub EndsLater : Type 0
EndsLater = (t : TreeState) (session : ℕ) → IsWhole t.nodes → t.changes < 18_446_744_073_709_551_615 → IsLater t (after_end t session)

-- parts that go take one number together
abbrev pub CallsLater : Type 0
CallsLater = (t u : TreeState) (s : ℕ) (parts : List Op) → IsWhole t.nodes → AllByRecursion IsPart parts → t.changes < 18_446_744_073_709_551_615 → Goes t s parts u → IsLater t (after_multi t s parts)

-- ## a reader of the earlier tree

-- a node's directory has the children that it had at z, and the node, if there is one, the bytes
pub record IsFresh (z : ℕ) (u : TreeState) (dir path : List ℕ) : Type 0 where
  pub parent : (n : Node) × (at_path u.nodes dir ≡ Some n) × (n.facts.pzxid ≤ z)
  pub node : (n : Node) → at_path u.nodes path ≡ Some n → n.facts.mzxid ≤ z

-- then the earlier tree shows the same node
abbrev pub FreshSeen : Type 0
FreshSeen = (z : ℕ) (t u : TreeState) (path dir : List ℕ) → IsWhole t.nodes → IsWhole u.nodes → is_path path ≡ true → parent_of path ≡ Some dir → Since z t u → IsFresh z u dir path → seen_at t path ≡ seen_at u path

-- and the same names and owners in the directory
abbrev pub FreshListed : Type 0
FreshListed = (z : ℕ) (t u : TreeState) (path dir : List ℕ) → Since z t u → IsFresh z u dir path → tags_at t dir ≡ tags_at u dir

-- ## worked trees

-- a root, and `/a` with some bytes, all of change 0
abbrev pub tree_with : List ℕ → TreeState
tree_with bytes = record new_tree { nodes = root_node ∷ record root_node { path = codes "/a"; bytes = bytes } ∷ [] }

-- other bytes that have no date are not later, whatever the last change number is
abbrev pub UndatedBytesAreNotLater : Type 0
UndatedBytesAreNotLater = (number : ℕ) → IsLater (tree_with (1 ∷ [])) (record (tree_with (2 ∷ [])) { changes = number }) → ⊥

-- nor is a tree whose directory lost a child without a date
abbrev pub UndatedLossIsNotLater : Type 0
UndatedLossIsNotLater = (number : ℕ) → IsLater (tree_with []) (record new_tree { changes = number }) → ⊥
