use Rattle.np_active.proofs.Prelude.{drop, map, placed_node, ◌++◌, ◌≡◌}
use Rattle.np_active.proofs.prepare.past_nodes.Given as goal

abbrev pub invariant-loop-node : goal.invariant-loop-node
invariant-loop-node g l =
    l.list.items ++ map (placed_node (g.R.Rows.site l.rows) (g.R.Rows.state l.rows)) (drop l.node-index l.nodes)
    ≡ map (placed_node (g.R.Rows.site l.rows) (g.R.Rows.state l.rows)) l.nodes
