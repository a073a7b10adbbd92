-- what each accepted operation leaves; except for the end of a session, the change takes its number
-- later
use Rattle.std.specs.Prelude.{ℕ, ◌+◌, not, ◌&&◌, List, [], map, filter, min, Option, Some, None, if◌then◌else◌}
use Rattle.std.specs.List.{list_any}
use Rattle.np_tree_nodes.specs.TreeState.{TreeState}
use Rattle.np_tree_nodes.specs.Nodes.{at_path, change_node, insert_node, is_child, is_owned, without_node}
use Rattle.np_tree_nodes.specs.Tests.{is_ephemeral, is_sequential}
use Rattle.np_tree_nodes.specs.Answer.{made_path}
use Rattle.np_tree_nodes.specs.declared.node.Node.{Node}
use Rattle.np_tree_nodes.specs.declared.kind.Mode.{Mode}
use Rattle.np_tree_nodes.specs.declared.op.Op.{Op}
use Rattle.np_tree_nodes.specs.Lower.{name_of, parent_of, without}

-- the state does not change if nothing was found
abbrev pub where_found : {A : Type 0} → Option A → TreeState → (A → TreeState) → TreeState
where_found None t f = t
where_found (Some a) t f = f a

-- the number of the change that is being made; past the last it stays the same
abbrev pub next_change : TreeState → ℕ
next_change t = min (t.changes + 1) 18_446_744_073_709_551_615

-- the change took its number
abbrev pub with_next_number : TreeState → TreeState
with_next_number t = record t { changes = next_change t }

-- ## one node more

-- a parent whose child list changed, and whose counter was used
abbrev pub with_child : ℕ → Mode → Node → Node
with_child z mode n = record n { facts = record n.facts { pzxid = z; counter = if is_sequential mode then n.facts.counter + 1 else n.facts.counter } }

-- a new node (ZooKeeper Programmer's Guide, Stat: creation sets the three change numbers)
abbrev pub new_node : ℕ → ℕ → List ℕ → List ℕ → Mode → Node
new_node z session path bytes mode = record {
  path = path;
  bytes = bytes;
  facts = record { version = 0; czxid = z; mzxid = z; pzxid = z; owner = if is_ephemeral mode then Some session else None; counter = 0 };
}

-- the nodes with a new child of the node at a path, which changes with it
abbrev pub with_new_child : ℕ → ℕ → List ℕ → List ℕ → List ℕ → Mode → Node → List Node → List Node
with_new_child z session above name bytes mode parent nodes = insert_node (new_node z session (made_path parent name mode) bytes mode) (change_node above (with_child z mode) nodes)

abbrev pub after_create_under : TreeState → ℕ → List ℕ → List ℕ → List ℕ → Mode → TreeState
after_create_under t session above name bytes mode =
    where_found (at_path t.nodes above) t (λ parent. record t { nodes = with_new_child (next_change t) session above name bytes mode parent t.nodes })

abbrev pub after_create : TreeState → ℕ → List ℕ → List ℕ → Mode → TreeState
after_create t session path bytes mode = where_found (parent_of path) t (λ above. after_create_under t session above (name_of path) bytes mode)

-- ## other bytes

-- a node with other bytes, one version later
abbrev pub with_bytes : ℕ → List ℕ → Node → Node
with_bytes z bytes n = record n { bytes = bytes; facts = record n.facts { version = n.facts.version + 1; mzxid = z } }

abbrev pub after_set : TreeState → List ℕ → List ℕ → TreeState
after_set t path bytes = record t { nodes = change_node path (with_bytes (next_change t) bytes) t.nodes }

-- ## fewer nodes

abbrev pub without_child : ℕ → Node → Node
without_child z n = record n { facts = record n.facts { pzxid = z } }

-- the nodes after one lost a child, if there is such a node
abbrev pub without_child_above : ℕ → Option (List ℕ) → List Node → List Node
without_child_above z None nodes = nodes
without_child_above z (Some above) nodes = change_node above (without_child z) nodes

-- the nodes without the one at a path, whose parent changes with it
abbrev pub after_removal : ℕ → List ℕ → List Node → List Node
after_removal z path nodes = without_node path (without_child_above z (parent_of path) nodes)

abbrev pub after_delete : TreeState → List ℕ → TreeState
after_delete t path = record t { nodes = after_removal (next_change t) path t.nodes }

-- a node that loses a child if the session owns one
abbrev pub after_loss : List Node → ℕ → ℕ → Node → Node
after_loss nodes z session n = record n { facts = record n.facts { pzxid = if list_any (λ m. is_owned session m && is_child n.path m) nodes then z else n.facts.pzxid } }

-- the nodes without a session's ephemerals, whose parents change with them
abbrev pub nodes_after_end : ℕ → ℕ → List Node → List Node
nodes_after_end z session nodes = map (after_loss nodes z session) (filter (λ n. not (is_owned session n)) nodes)

-- a session's end removes its ephemerals, in one change (ZooKeeper Programmer's Guide, ephemeral nodes)
abbrev pub after_end : TreeState → ℕ → TreeState
after_end t session = record t {
  nodes = nodes_after_end (next_change t) session t.nodes;
  live = without t.live session;
  changes = next_change t;
}

-- ## a part of a call

-- what a part of a `multi` does to the tree, before the change takes its number
abbrev pub after_part : TreeState → ℕ → Op → TreeState
after_part t s (Op.Create path bytes mode) = after_create t s path bytes mode
after_part t s (Op.CreateUnder parent bytes mode) = after_create_under t s parent [] bytes mode
after_part t s (Op.Set path bytes expect) = after_set t path bytes
after_part t s (Op.Delete path expect) = after_delete t path
after_part t s (Op.Check path expect) = t
