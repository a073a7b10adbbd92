use Rattle.np_lists.proofs.Prelude.{ap, arith, get_or, length, map_over_more, ◌<◌}
use Rattle.np_lists.proofs.rows.change_rows.Goals as goal

pub loop-row-preserved : goal.loop-row-preserved
loop-row-preserved g c =
    let within : c.loop-row.row-index < length c.deref_mut-row-items.result.now = omega arith in
    let made = rw c.always.ensures at c.make.ensures.ok in
    rw made (
    map_over_more (g.C.RowChange.after c.args.change.now)
    c.deref_mut-row-items.result.now c.loop-row.row-items c.loop-row.row-index
    (get_or c.loop-row.row-items c.loop-row.row-index c.row-item.result) within c.loop-row.invariant
    (ap (get_or c.loop-row.row-items c.loop-row.row-index) c.row-item.is))
