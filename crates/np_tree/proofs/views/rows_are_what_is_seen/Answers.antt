use Rattle.np_tree.proofs.RelationLemmas.{rows-rise, seen-is-row}
use Rattle.np_tree.proofs.views.rows_are_what_is_seen.Goals as goal

pub returns : goal.returns
returns c = record { rise = rows-rise; seen = seen-is-row }
