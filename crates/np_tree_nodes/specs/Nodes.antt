-- a node by its path, the children of a path, what a session owns, and the order of nodes
use Rattle.std.specs.Prelude.{ℕ, ◌==◌, Bool, false, not, List, length, filter, find, Option, Some, None}
use Rattle.std.specs.List.{before_last}
use Rattle.std.specs.Ordering.{nat_cmp, is_lt, ordering_then}
use Rattle.std.specs.Cmp.Lexicographic.{slice_cmp}
use Rattle.std.specs.Str.{bytes_eq}
use Rattle.np_tree_nodes.specs.declared.node.Node.{Node}
use Rattle.np_tree_nodes.specs.declared.kind.Stat.{Stat}
use Rattle.np_tree_nodes.specs.Lower.{change_first, insert_before, is_slash, name_of, parent_of}

-- whether a node is at a path
abbrev pub is_at : List ℕ → Node → Bool
is_at path n = bytes_eq n.path path

-- the node at a path
abbrev pub at_path : List Node → List ℕ → Option Node
at_path nodes path = find (is_at path) nodes

abbrev pub is_parent : List ℕ → Option (List ℕ) → Bool
is_parent path None = false
is_parent path (Some parent) = bytes_eq parent path

-- whether a node is a child of the one at a path
abbrev pub is_child : List ℕ → Node → Bool
is_child path n = is_parent path (parent_of n.path)

-- the children of the node at a path, in byte order of their names
abbrev pub children_of : List Node → List ℕ → List Node
children_of nodes path = filter (is_child path) nodes

abbrev pub is_owner : ℕ → Option ℕ → Bool
is_owner session None = false
is_owner session (Some owner) = owner == session

-- whether a node is an ephemeral of a session
abbrev pub is_owned : ℕ → Node → Bool
is_owned session n = is_owner session n.facts.owner

-- the stat of a node with this many children
abbrev pub stat_with : ℕ → Node → Stat
stat_with children n = record {
  czxid = n.facts.czxid;
  mzxid = n.facts.mzxid;
  pzxid = n.facts.pzxid;
  version = n.facts.version;
  owner = n.facts.owner;
  children = children;
}

abbrev pub stat_of : List Node → Node → Stat
stat_of nodes n = stat_with (length (children_of nodes n.path)) n

-- the order of nodes: by what comes before the last slash, and then by name, both in byte order
abbrev pub before_of : List ℕ → List ℕ
before_of path = before_last is_slash path

abbrev pub path_before : List ℕ → List ℕ → Bool
path_before p q = is_lt (ordering_then (slice_cmp nat_cmp (before_of p) (before_of q)) (slice_cmp nat_cmp (name_of p) (name_of q)))

-- the nodes with one more, at its place in the order
abbrev pub insert_node : Node → List Node → List Node
insert_node n nodes = insert_before (λ m. path_before n.path m.path) n nodes

-- the nodes with a change at a path
abbrev pub change_node : List ℕ → (Node → Node) → List Node → List Node
change_node path change nodes = change_first (is_at path) change nodes

-- the nodes without the one at a path
abbrev pub without_node : List ℕ → List Node → List Node
without_node path nodes = filter (λ n. not (is_at path n)) nodes
