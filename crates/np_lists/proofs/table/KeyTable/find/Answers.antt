use Rattle.np_lists.proofs.table.KeyTable.find.Goals as goal

pub find_row-requires : goal.find_row-requires
find_row-requires g c = rw c.as_slice.ensures.value c.self.invariant
