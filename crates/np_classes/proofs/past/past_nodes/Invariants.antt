use Rattle.np_classes.proofs.Prelude.{drop, map, past_node, ◌++◌, ◌≡◌}
use Rattle.np_classes.proofs.past.past_nodes.Given as goal

abbrev pub invariant-loop-node : goal.invariant-loop-node
invariant-loop-node g l =
    l.list.items ++ map (past_node (g.R.Rows.site l.rows) (g.R.Rows.state l.rows)) (drop l.node-index l.nodes)
    ≡ map (past_node (g.R.Rows.site l.rows) (g.R.Rows.state l.rows)) l.nodes
