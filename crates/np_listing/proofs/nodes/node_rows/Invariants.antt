use Rattle.np_listing.proofs.Prelude.{drop, map, node_row, node_rows, node_view, ◌++◌, ◌≡◌}
use Rattle.np_listing.proofs.nodes.node_rows.Given as goal

abbrev pub invariant-loop-at : goal.invariant-loop-at
invariant-loop-at g l = l.table.items ++ map (λ e. node_row (g.R.Rows.site l.rows) (g.R.Rows.state l.rows).tick (node_view e)) (drop l.at (g.R.Rows.state l.rows).nodes)
    ≡ node_rows (g.R.Rows.site l.rows) (g.R.Rows.state l.rows)
