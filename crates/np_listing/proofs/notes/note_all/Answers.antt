use Rattle.np_listing.proofs.Prelude.{arith, get_or_default, length, map_over_more, ◌<◌}
use Rattle.np_listing.proofs.notes.note_all.Goals as goal

pub loop-row-preserved : goal.loop-row-preserved
loop-row-preserved g c =
    let within : c.loop-row.row-index < length c.deref_mut-row-items.result.now = omega arith in
    let there : c.loop-row.row-index < length c.loop-row.row-items = omega arith in
    rw c.noted.ensures (
    map_over_more (g.T.Noted.noted (g.L.Look.site c.args.look.now) (g.L.Look.state c.args.look.now) c.args.entry.now) c.deref_mut-row-items.result.now c.loop-row.row-items c.loop-row.row-index _ within c.loop-row.invariant (get_or_default c.loop-row.row-items c.loop-row.row-index _ _ there))
