use Rattle.np_tables.proofs.TableLemmas.{places}
use Rattle.np_tables.proofs.vectors.Vectors.take_handles.Goals as goal

pub add_handles-requires : goal.add_handles-requires
add_handles-requires c = places c.args.job c.self.inside.handles.items (rw (← c.self.view_is) at c.requires)
