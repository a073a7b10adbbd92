use Rattle.np_classes.proofs.Prelude.{NodeEntry, groups_of_node, is_node_before, same_node, ◌≡◌}
use Rattle.np_classes.proofs.MemberLemmas.{made, nodes-in_order}
use Rattle.np_classes.proofs.members.all_nodes.Given as goal

abbrev pub invariant-loop-at : goal.invariant-loop-at
invariant-loop-at g l = l.groups.members ≡ made is_node_before same_node nodes-in_order (λ (e : NodeEntry). e.id) (groups_of_node (g.R.Rows.site l.rows) (g.R.Rows.state l.rows)) (g.R.Rows.state l.rows).nodes l.at
