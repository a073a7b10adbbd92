use Rattle.np_tree.proofs.RelationLemmas.{undated-bytes-are-not-later, undated-loss-is-not-later}
use Rattle.np_tree.proofs.views.undated_changes_are_not_later.Goals as goal

pub returns : goal.returns
returns c = record { bytes = undated-bytes-are-not-later; loss = undated-loss-is-not-later }
