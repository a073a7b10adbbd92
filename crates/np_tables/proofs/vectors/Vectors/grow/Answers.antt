use Rattle.np_tables.proofs.vectors.Vectors.grow.Goals as goal

pub returns-in-Allocate : goal.returns-in-Allocate
returns-in-Allocate c = rw c.in-Allocate.is c.allocate.ensures
