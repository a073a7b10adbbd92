use Rattle.np_tree.proofs.RelationLemmas.{sets-show}
use Rattle.np_tree.proofs.views.sets.Goals as goal

pub returns : goal.returns
returns c = sets-show
