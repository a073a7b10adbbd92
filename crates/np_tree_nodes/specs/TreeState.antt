-- what a tree is
use Rattle.std.specs.Prelude.{ℕ, List, [], ◌∷◌, None}
use Rattle.np_tree_nodes.specs.declared.node.Node.{Node}
use Rattle.np_tree_nodes.specs.Lower.{root}

-- its nodes, each after its parent and siblings in byte order of their names, the live sessions, how many sessions
-- were begun, the number of the last change, and how many sessions can begin without taking memory (ZooKeeper Programmer's Guide)
pub record TreeState : Type 0 where
  pub nodes : List Node
  pub live : List ℕ
  pub begun : ℕ
  pub changes : ℕ
  pub spare : ℕ

-- the root, which is in each tree
abbrev pub root_node : Node
root_node = record { path = root; bytes = []; facts = record { version = 0; czxid = 0; mzxid = 0; pzxid = 0; owner = None; counter = 0 } }

-- a new tree: the root alone
abbrev pub new_tree : TreeState
new_tree = record { nodes = root_node ∷ []; live = []; begun = 0; changes = 0; spare = 0 }
