use Rattle.np_index.proofs.Prelude.{arith}
use Rattle.np_index.proofs.Requests.{left-first, left-now, left-next, left-smaller, members-stuck}
use Rattle.np_index.proofs.pool.has_stuck_request.Goals as goal

pub loop-next-init : goal.loop-next-init
loop-next-init g c =
    left-first (g.R.Rows.site c.args.rows.now) (g.R.Rows.state c.args.rows.now) c.args.pool c.args.is_pinned c.args.classes.now.requests
    c.label_group-first.result c.label_group-first.ensures c.request_group_from.result c.label_if-next.result c.label_if-next.ensures
    c.requires.classes.requests c.request_group_from.ensures
    (members-stuck (g.R.Rows.site c.args.rows.now) (g.R.Rows.state c.args.rows.now) c.args.pool c.args.is_pinned c.args.classes.now c.requires.classes)

pub returns-then-is_stuck_label : goal.returns-then-is_stuck_label
returns-then-is_stuck_label g c =
    left-now (g.R.Rows.site c.args.rows.now) (g.R.Rows.state c.args.rows.now) c.args.pool c.args.is_pinned c.args.classes.now.requests
    c.loop-next.next c.in-Some.label c.in-Some.is c.loop-next.invariant c.if-is_stuck_label.ensures

pub loop-next-smaller : goal.loop-next-smaller
loop-next-smaller g c =
    left-smaller (g.R.Rows.site c.args.rows.now) (g.R.Rows.state c.args.rows.now) c.args.pool c.args.is_pinned c.args.classes.now.requests
    c.label_group-first.result c.label_group-first.ensures c.request_group_after.result c.label_if-next-in-Some.result c.label_if-next-in-Some.ensures
    c.requires.classes.requests c.in-Some.label c.label_group-group.result c.label_group-group.ensures c.request_group_after.ensures
    c.loop-next.next c.in-Some.is (omega arith)

pub loop-next-preserved : goal.loop-next-preserved
loop-next-preserved g c =
    left-next (g.R.Rows.site c.args.rows.now) (g.R.Rows.state c.args.rows.now) c.args.pool c.args.is_pinned c.args.classes.now.requests
    c.label_group-first.result c.label_group-first.ensures c.request_group_after.result c.label_if-next-in-Some.result c.label_if-next-in-Some.ensures
    c.requires.classes.requests c.in-Some.label c.label_group-group.result c.label_group-group.ensures c.request_group_after.ensures
    c.loop-next.next c.in-Some.is c.loop-next.invariant c.if-is_stuck_label.ensures
