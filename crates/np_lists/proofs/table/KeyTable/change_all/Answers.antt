use Rattle.np_lists.proofs.Changes.{Rises-keys, map-keys}
use Rattle.np_lists.proofs.table.KeyTable.change_all.Goals as goal

pub invariant_of-self : goal.invariant_of-self
invariant_of-self g c =
    rw c.change_rows.ensures (
    Rises-keys g.O.Order.before g.O.Order.key c.self.inside.rows.items _
    (map-keys g.O.Order.key (g.C.RowChange.after c.args.change.now) c.self.inside.rows.items c.requires)
    c.self.invariant)
