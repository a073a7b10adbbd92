use Rattle.np_tree.proofs.RelationLemmas.{raises-show}
use Rattle.np_tree.proofs.views.raises.Goals as goal

pub returns : goal.returns
returns c = raises-show
