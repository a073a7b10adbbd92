use Rattle.np_lookups.proofs.Prelude.{queued_nodes, take, ◌≡◌}
use Rattle.np_lookups.proofs.lookups.list_nodes.Given as goal

abbrev pub invariant-loop-at : goal.invariant-loop-at
invariant-loop-at g l = l.list ≡ take l.at (queued_nodes l.session (g.R.Rows.state l.rows))
