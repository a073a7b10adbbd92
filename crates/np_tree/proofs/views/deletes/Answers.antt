use Rattle.np_tree.proofs.RelationLemmas.{deletes-show}
use Rattle.np_tree.proofs.views.deletes.Goals as goal

pub returns : goal.returns
returns c = deletes-show
