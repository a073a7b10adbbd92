use Rattle.np_tree_rows.proofs.Prelude.{Configuration, IsStored, State, length, queued_nodes, ◌+◌, ◌≡◌, ◌≤◌}
use Rattle.np_tree_rows.proofs.Registered.{nodes_from}
use Rattle.np_tree_rows.proofs.queues.queued_nodes.Given as goal

abbrev pub invariant-loop-at : goal.invariant-loop-at
invariant-loop-at l = record {
  few : l.count ≤ l.at;
  all : (c : Configuration) (s : State) → IsStored c s l.tree → l.count + length (nodes_from l.session l.at s) ≡ length (queued_nodes l.session s);
}
