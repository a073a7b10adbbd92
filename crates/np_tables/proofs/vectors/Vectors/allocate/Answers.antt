use Rattle.np_tables.proofs.Prelude.{refl}
use Rattle.np_tables.proofs.TableLemmas.{node-allocated}
use Rattle.np_tables.proofs.vectors.Vectors.allocate.Goals as goal

pub returns-in-Some : goal.returns-in-Some
returns-in-Some c =
    let queue = rw (c.in-Some.is, ← c.self.view_is) at c.requires in
    rw (← c.self.view_is, c.in-Some.is) (rw (c.edit.ensures, queue, node-allocated c.args.request c.args.tenant c.in-Some.field-0.session c.args.node c.self.inside.nodes.rows) refl)
