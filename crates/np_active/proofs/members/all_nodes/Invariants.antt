use Rattle.np_active.proofs.Prelude.{◌≡◌}
use Rattle.np_active.proofs.Changes.{nodes_made}
use Rattle.np_active.proofs.members.all_nodes.Given as goal

abbrev pub invariant-loop-at : goal.invariant-loop-at
invariant-loop-at g l = l.groups.members ≡ nodes_made (g.R.Rows.site l.rows) (g.R.Rows.state l.rows) l.at
