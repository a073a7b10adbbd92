use Rattle.np_tree.proofs.RelationLemmas.{fresh-listed, fresh-seen}
use Rattle.np_tree.proofs.views.fresh_is_what_was_seen.Goals as goal

pub returns : goal.returns
returns c = record { seen = fresh-seen; listed = fresh-listed }
