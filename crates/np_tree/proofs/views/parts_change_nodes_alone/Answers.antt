use Rattle.np_tree.proofs.RelationLemmas.{parts-change_nodes_alone}
use Rattle.np_tree.proofs.views.parts_change_nodes_alone.Goals as goal

pub returns : goal.returns
returns c = parts-change_nodes_alone
