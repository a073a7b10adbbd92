use Rattle.np_tree.proofs.LaterLemmas.{begins-later, calls-later, ends-later, raises-later, reserves-later}
use Rattle.np_tree.proofs.views.calls_leave_later_trees.Goals as goal

pub returns : goal.returns
returns c = record { reserves = reserves-later; begins = begins-later; raises = raises-later; ends = ends-later; multi = calls-later }
