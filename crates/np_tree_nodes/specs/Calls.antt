-- sessions that begin, and counters that are raised
use Rattle.std.specs.Prelude.{ℕ, ◌+◌, nat_le, nat_lt, Bool, false, ◌&&◌, Option, Some, None, List, [], ◌∷◌, ◌++◌}
use Rattle.np_tree_nodes.specs.TreeState.{TreeState}
use Rattle.np_tree_nodes.specs.Nodes.{change_node, at_path}
use Rattle.np_tree_nodes.specs.declared.node.Node.{Node}

-- whether a node's sequence counter may be raised to a number: it is lower, and the number is one that a counter can reach (own)
abbrev pub is_below : ℕ → Option Node → Bool
is_below to None = false
is_below to (Some n) = nat_le to 2_147_483_648 && nat_lt n.facts.counter to

abbrev pub may_raise : TreeState → List ℕ → ℕ → Bool
may_raise t path to = is_below to (at_path t.nodes path)

abbrev pub with_counter : ℕ → Node → Node
with_counter to n = record n { facts = record n.facts { counter = to } }

-- a node's sequence counter is raised, which is not a change of the tree
abbrev pub after_raise : TreeState → List ℕ → ℕ → TreeState
after_raise t path to = record t { nodes = change_node path (with_counter to) t.nodes }

-- the same except for how many sessions can begin without memory
abbrev pub with_spare : TreeState → ℕ → TreeState
with_spare t spare = record t { spare = spare }

-- the next session is live (ZooKeeper Programmer's Guide, sessions)
abbrev pub after_begin : TreeState → TreeState
after_begin t = record t { begun = t.begun + 1; live = t.live ++ (t.begun + 1) ∷ [] }
