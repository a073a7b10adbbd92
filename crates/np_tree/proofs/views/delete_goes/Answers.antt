use Rattle.np_tree.proofs.RelationLemmas.{deletes-go}
use Rattle.np_tree.proofs.views.delete_goes.Goals as goal

pub returns : goal.returns
returns c = deletes-go
