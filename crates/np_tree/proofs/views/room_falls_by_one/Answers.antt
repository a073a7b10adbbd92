use Rattle.np_tree.proofs.RelationLemmas.{room-falls, room-gives}
use Rattle.np_tree.proofs.views.room_falls_by_one.Goals as goal

pub returns : goal.returns
returns c = record { gives = room-gives; falls = room-falls }
