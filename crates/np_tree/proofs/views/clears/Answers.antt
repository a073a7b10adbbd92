use Rattle.np_tree.proofs.RelationLemmas.{clears-empty, clears-go}
use Rattle.np_tree.proofs.views.clears.Goals as goal

pub returns : goal.returns
returns c = record { goes = clears-go; empty = clears-empty }
