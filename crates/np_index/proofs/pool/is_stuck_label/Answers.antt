use Rattle.np_index.proofs.Requests.{bare-stuck}
use Rattle.np_index.proofs.pool.is_stuck_label.Goals as goal

pub returns-else-is_pinned : goal.returns-else-is_pinned
returns-else-is_pinned g c =
    bare-stuck (g.R.Rows.site c.args.rows.now) (g.R.Rows.state c.args.rows.now) c.args.pool c.args.label c.config.result.now c.args.used c.lacks_room.result c.args.is_pinned c.has_spare.result
    c.config.ensures c.requires.used c.lacks_room.ensures c.if-not-lacks_room.false c.if-is_pinned.false (c.has_spare.ensures (g.R.Rows.site c.args.rows.now) (g.R.Rows.state c.args.rows.now) c.requires.classes)
