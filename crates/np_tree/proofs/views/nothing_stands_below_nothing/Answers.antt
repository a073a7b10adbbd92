use Rattle.np_tree.proofs.RelationLemmas.{nothing-below_nothing}
use Rattle.np_tree.proofs.views.nothing_stands_below_nothing.Goals as goal

pub returns : goal.returns
returns c = nothing-below_nothing
