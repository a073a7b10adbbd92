use Rattle.np_active.proofs.Prelude.{AllByRecursion, length, node_queue, suc, take, ◌≤◌}
use Rattle.np_active.proofs.prepare.most_queued.Given as goal

abbrev pub invariant-loop-node : goal.invariant-loop-node
invariant-loop-node g l = AllByRecursion (λ n. suc (length (node_queue n (g.R.Rows.state l.rows).nodes)) ≤ l.most) (take l.node-index l.nodes)
