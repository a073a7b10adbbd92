-- a tree with nothing out of place
use Rattle.std.specs.Prelude.{◌≡◌, ◌≤◌, ⊤, ℕ, true, List, [], Option, Some, None, Ok, Result, Err, IsOk}
use Rattle.np_tree.specs.Lower.{AllByRecursion, AllPaths, HasRoom, IsSorted, Node, Op, OpDone, TreeState, after_begin, after_end, after_multi, after_part, after_raise, answers_from, at_path, children_of, is_in, is_numbered, is_path, next_change, parent_of, part_answer, path_of, root, IsKept, NoMemory, Refused, TreeFault, TreeRefusal}
use Rattle.np_tree.specs.declared.inner.Inner.{Inner}

-- ## the nodes

-- at a parent's path there is a node that no session owns (ZooKeeper Programmer's Guide: ephemeral
-- nodes have no children)
abbrev pub HasParent : List Node → Option (List ℕ) → Type 0
HasParent nodes None = ⊤
HasParent nodes (Some above) = (parent : Node) × (at_path nodes above ≡ Some parent) × (parent.facts.owner ≡ None)

-- some nodes have their parents among the nodes
abbrev pub AllStand : List Node → List Node → Type 0
AllStand nodes some = AllByRecursion (λ n. HasParent nodes (parent_of n.path)) some

abbrev pub Stand : List Node → Type 0
Stand nodes = AllStand nodes nodes

-- there is a root, and no session owns it
pub record HasRoot (nodes : List Node) : Type 0 where
  pub node : Node
  pub there : at_path nodes root ≡ Some node
  pub free : node.facts.owner ≡ None

-- the nodes are in order, with a root, and each other one is below a node that no session owns
pub record IsWhole (nodes : List Node) : Type 0 where
  pub sorted : IsSorted nodes
  pub paths : AllPaths nodes
  pub root : HasRoot nodes
  pub stand : Stand nodes

-- ## the tree

-- a node goes with a live session, or with none (ZooKeeper Programmer's Guide: ephemeral nodes are gone with their session)
abbrev pub OwnerLives : List ℕ → Option ℕ → Type 0
OwnerLives live None = ⊤
OwnerLives live (Some session) = is_in live session ≡ true

-- none of a node's change numbers is above a number (ZooKeeper Programmer's Guide, Stat)
pub record IsDated (number : ℕ) (n : Node) : Type 0 where
  pub czxid : n.facts.czxid ≤ number
  pub mzxid : n.facts.mzxid ≤ number
  pub pzxid : n.facts.pzxid ≤ number

-- a tree in which no change number is above a number
pub record IsTreeUpTo (number : ℕ) (t : TreeState) : Type 0 where
  -- the order, the grammar, the root and the parents
  pub whole : IsWhole t.nodes
  -- no node has more children than its stat can count
  pub room : HasRoom t.nodes
  -- each owner is a live session
  pub owners : AllByRecursion (λ n. OwnerLives t.live n.facts.owner) t.nodes
  -- each node is from a change up to that number, which is no later than the last possible one
  pub dated : AllByRecursion (IsDated number) t.nodes
  pub last : number ≤ 18_446_744_073_709_551_615

-- what is always true of a tree between two calls
abbrev pub IsTree : TreeState → Type 0
IsTree t = IsTreeUpTo t.changes t

-- ## what keeps it

-- a part that can be requested: its path is in the grammar, and one without a name is numbered
pub record IsPart (part : Op) : Type 0 where
  pub path : is_path (path_of part) ≡ true
  pub numbered : is_numbered part ≡ true

-- a part that is accepted leaves whole nodes
abbrev pub PartsKeepWhole : Type 0
PartsKeepWhole = (t : TreeState) (session : ℕ) (part : Op) (done : OpDone) → IsPart part → part_answer t session part ≡ Ok done → IsWhole t.nodes → IsWhole (after_part t session part).nodes

-- so does a call of several that is accepted
abbrev pub CallsKeepWhole : Type 0
CallsKeepWhole = (t : TreeState) (session : ℕ) (parts : List Op) (done : List OpDone) → AllByRecursion IsPart parts → answers_from 0 t session parts ≡ Ok done → IsWhole t.nodes → IsWhole (after_multi t session parts).nodes

-- so does the end of a session
abbrev pub EndsKeepWhole : Type 0
EndsKeepWhole = (t : TreeState) (session : ℕ) → IsWhole t.nodes → IsWhole (after_end t session).nodes

-- and so does a counter that is raised
abbrev pub RaisesKeepWhole : Type 0
RaisesKeepWhole = (t : TreeState) (path : List ℕ) (to : ℕ) → IsWhole t.nodes → IsWhole (after_raise t path to).nodes

-- a part that is accepted leaves a tree, up to the number that the change will take
abbrev pub PartsKeepTree : Type 0
PartsKeepTree = (t : TreeState) (session : ℕ) (part : Op) (done : OpDone) → IsPart part → part_answer t session part ≡ Ok done → IsTreeUpTo (next_change t) t → IsTreeUpTo (next_change t) (after_part t session part)

-- a call of several leaves a tree
abbrev pub CallsKeepTree : Type 0
CallsKeepTree = (t : TreeState) (session : ℕ) (parts : List Op) (done : List OpDone) → AllByRecursion IsPart parts → answers_from 0 t session parts ≡ Ok done → IsTree t → IsTree (after_multi t session parts)

-- so do the begin and the end of a session, and a counter that is raised
abbrev pub BeginsKeepTree : Type 0
BeginsKeepTree = (t : TreeState) → IsTree t → IsTree (after_begin t)

abbrev pub EndsKeepTree : Type 0
EndsKeepTree = (t : TreeState) (session : ℕ) → IsTree t → IsTree (after_end t session)

abbrev pub RaisesKeepTree : Type 0
RaisesKeepTree = (t : TreeState) (path : List ℕ) (to : ℕ) → IsTree t → IsTree (after_raise t path to)

-- an ephemeral node has no children
abbrev pub EphemeralsHaveNoChildren : Type 0
EphemeralsHaveNoChildren = (t : TreeState) (path : List ℕ) (n : Node) (session : ℕ) → IsTree t → at_path t.nodes path ≡ Some n → n.facts.owner ≡ Some session → children_of t.nodes path ≡ []

-- the fields of the tree, for the code only; and how calls answer

-- the tree of the fields
abbrev pub state_of : Inner → TreeState
state_of b = record { nodes = b.lists.nodes; live = b.sessions.live; begun = b.sessions.begun; changes = b.changes; spare = b.sessions.spare }

-- what is always true of the fields between two calls: the lists are in order, they make a tree,
-- and there is nothing to undo
pub record Holds (b : Inner) : Type 0 where
  pub kept : IsKept b.lists.nodes b.lists.marks
  pub tree : IsTree (state_of b)
  pub undo : b.lists.undo.items ≡ []

-- a call answers what its tests say, unless memory runs out after all of them
abbrev pub Answers : {A : Type 0} → Result A TreeFault → Result A TreeRefusal → Type 0
Answers (Ok x) said = said ≡ Ok x
Answers (Err (Refused refusal)) said = said ≡ Err refusal
Answers (Err NoMemory) said = IsOk said
