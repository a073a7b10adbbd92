use Rattle.np_tree.proofs.RelationLemmas.{ends-show}
use Rattle.np_tree.proofs.views.ends.Goals as goal

pub returns : goal.returns
returns c = ends-show
