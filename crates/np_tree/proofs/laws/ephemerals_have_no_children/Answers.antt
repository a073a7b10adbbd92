use Rattle.np_tree.proofs.WholeLemmas.{children_of-ephemeral}
use Rattle.np_tree.proofs.laws.ephemerals_have_no_children.Goals as goal

pub returns : goal.returns
returns c = λ t path n session tree there owned. children_of-ephemeral t.nodes path n session tree.whole.stand there owned
