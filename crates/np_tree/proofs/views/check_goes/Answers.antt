use Rattle.np_tree.proofs.RelationLemmas.{checks-go}
use Rattle.np_tree.proofs.views.check_goes.Goals as goal

pub returns : goal.returns
returns c = checks-go
