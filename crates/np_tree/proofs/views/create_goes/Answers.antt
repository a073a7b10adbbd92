use Rattle.np_tree.proofs.RelationLemmas.{creates-go, creates-under-go}
use Rattle.np_tree.proofs.views.create_goes.Goals as goal

pub returns : goal.returns
returns c = record { create = creates-go; under = creates-under-go }
