-- the order of nodes
use Rattle.std.specs.Prelude.{◌≡◌, ℕ, Bool, true, List}
use Rattle.std.specs.List.{AllByRecursion, prefix_len}
use Rattle.np_tree_nodes.specs.Nodes.{path_before}
use Rattle.np_tree_nodes.specs.declared.node.Node.{Node}
use Rattle.np_tree_nodes.specs.Lower.{Rises, is_path}

-- whether a node comes before another
abbrev pub node_before : Node → Node → Bool
node_before m n = path_before m.path n.path

-- the nodes are in their order, each path once
abbrev pub IsSorted : List Node → Type 0
IsSorted nodes = Rises node_before nodes

-- each node's path is in the grammar
abbrev pub AllPaths : List Node → Type 0
AllPaths nodes = AllByRecursion (λ n. is_path n.path ≡ true) nodes

-- how many nodes come before a path
abbrev pub place_of : List ℕ → List Node → ℕ
place_of path nodes = prefix_len (λ n. path_before n.path path) nodes
