use Rattle.np_index.proofs.Prelude.{arith}
use Rattle.np_index.proofs.Requests.{below-first, below-more, below-smaller}
use Rattle.np_index.proofs.declined.first_of_sets.Goals as goal

pub loop-next-init : goal.loop-next-init
loop-next-init g c =
    below-first (g.R.Rows.site c.args.rows.now) (g.R.Rows.state c.args.rows.now) c.args.classes.now c.requires.classes c.requires.some
    c.declined_group-first.result c.declined_group-first.ensures c.request_group_from.result c.third_if-next.result c.third_if-next.ensures c.request_group_from.ensures

pub loop-next-smaller : goal.loop-next-smaller
loop-next-smaller g c =
    below-smaller (g.R.Rows.site c.args.rows.now) (g.R.Rows.state c.args.rows.now) c.args.classes.now c.requires.classes c.requires.some
    c.declined_group-first.result c.declined_group-first.ensures c.request_group_after.result c.third_if-next-in-Some.result c.third_if-next-in-Some.ensures
    c.in-Some.set c.declined_group.result c.declined_group.ensures c.request_group_after.ensures c.loop-next.next c.in-Some.is (omega arith)

pub loop-next-preserved : goal.loop-next-preserved
loop-next-preserved g c =
    below-more (g.R.Rows.site c.args.rows.now) (g.R.Rows.state c.args.rows.now) c.args.classes.now c.requires.classes c.requires.some
    c.declined_group-first.result c.declined_group-first.ensures c.request_group_after.result c.third_if-next-in-Some.result c.third_if-next-in-Some.ensures
    c.in-Some.set c.declined_group.result c.declined_group.ensures c.request_group_after.ensures
    c.loop-next.next c.loop-next.best c.first_of_set.result c.earlier-best.result c.in-Some.is c.loop-next.invariant c.first_of_set.ensures c.earlier-best.ensures
