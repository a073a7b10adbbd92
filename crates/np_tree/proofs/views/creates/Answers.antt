use Rattle.np_tree.proofs.RelationLemmas.{creates-answer, creates-show, creates-under-show}
use Rattle.np_tree.proofs.views.creates.Goals as goal

pub returns : goal.returns
returns c = record { answer = creates-answer; shows = creates-show; under = creates-under-show }
