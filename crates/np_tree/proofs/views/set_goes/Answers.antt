use Rattle.np_tree.proofs.RelationLemmas.{sets-go}
use Rattle.np_tree.proofs.views.set_goes.Goals as goal

pub returns : goal.returns
returns c = sets-go
