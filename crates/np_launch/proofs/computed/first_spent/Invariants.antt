use Rattle.np_launch.proofs.Prelude.{drop, find, is_spent, ◌≡◌}
use Rattle.np_launch.proofs.computed.first_spent.Given as goal

abbrev pub invariant-loop-node : goal.invariant-loop-node
invariant-loop-node g l =
    find (λ m. is_spent m (g.R.Rows.state l.rows)) (drop l.node-index l.nodes) ≡ find (λ m. is_spent m (g.R.Rows.state l.rows)) l.nodes
