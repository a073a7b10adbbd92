use Rattle.np_lists.proofs.roomy.RoomyTable.has.Goals as goal

pub has_row-requires : goal.has_row-requires
has_row-requires g c = rw c.as_slice.ensures.value c.self.invariant
