use Rattle.np_keeper.proofs.Prelude.{take, ◌≡◌}
use Rattle.np_keeper.proofs.locked.nodes_of.Given as goal

abbrev pub invariant-loop-at : goal.invariant-loop-at
invariant-loop-at g l = l.table.rows ≡ take l.at (g.R.Rows.state l.rows).nodes
