use Rattle.np_tree.proofs.RowLemmas.{children-by-name, parents-first}
use Rattle.np_tree.proofs.laws.nodes_stand_in_order.Goals as goal

pub returns : goal.returns
returns c = record { parents = parents-first; children = children-by-name }
