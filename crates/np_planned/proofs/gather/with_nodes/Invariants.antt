use Rattle.np_planned.proofs.Prelude.{of_nodes, take, ◌++◌, ◌≡◌}
use Rattle.np_planned.proofs.gather.with_nodes.Given as goal

abbrev pub invariant-loop-node : goal.invariant-loop-node
invariant-loop-node l = l.more ≡ l.fn.row ++ of_nodes (take l.node-index l.nodes)
