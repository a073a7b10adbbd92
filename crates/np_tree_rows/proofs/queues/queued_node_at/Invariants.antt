use Rattle.np_tree_rows.proofs.Prelude.{Configuration, IsStored, State, queued_nodes, slice_get, ◌≡◌}
use Rattle.np_tree_rows.proofs.Registered.{nodes_from}
use Rattle.np_tree_rows.proofs.queues.queued_node_at.Given as goal

abbrev pub invariant-loop-place : goal.invariant-loop-place
invariant-loop-place l = (c : Configuration) (s : State) → IsStored c s l.tree → slice_get (nodes_from l.session l.place s) l.left ≡ slice_get (queued_nodes l.session s) l.at
