use Rattle.np_tree.proofs.LaterLemmas.{later-joined, later-than-itself}
use Rattle.np_tree.proofs.views.later_is_an_order.Goals as goal

pub returns : goal.returns
returns c = record { itself = later-than-itself; joined = later-joined }
