use Rattle.np_tables.proofs.Prelude.{drop, same_node, ◌≡◌}
use Rattle.np_tables.proofs.TableLemmas.{each_left}
use Rattle.np_tables.proofs.ends.leave_nodes.Given as goal

abbrev pub invariant-loop-node : goal.invariant-loop-node
invariant-loop-node l = each_left same_node l.session (drop l.node-index l.ids) l.nodes.rows ≡ each_left same_node l.session l.ids l.initial.nodes.rows
