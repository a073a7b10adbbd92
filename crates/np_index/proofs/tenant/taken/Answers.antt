use Rattle.np_index.proofs.Prelude.{arith}
use Rattle.np_index.proofs.Nodes.{walked-all, walked-class, walked-few, walked-first, walked-next, walked-smaller}
use Rattle.np_index.proofs.tenant.taken.Goals as goal

pub loop-next-init : goal.loop-next-init
loop-next-init g c =
    walked-first (g.R.Rows.site c.args.rows.now) (g.R.Rows.state c.args.rows.now) c.args.tenant c.args.classes.now c.requires.classes
    c.tenant_group-first.result c.tenant_group-first.ensures c.node_group_from.result c.beside_if-next.result c.beside_if-next.ensures c.node_group_from.ensures

pub taken_in-requires-clause-tenants : goal.taken_in-requires-clause-tenants
taken_in-requires-clause-tenants g c =
    walked-class (g.R.Rows.site c.args.rows.now) (g.R.Rows.state c.args.rows.now) c.args.tenant c.loop-next.next c.in-Some.group c.loop-next.sum c.in-Some.is c.loop-next.invariant

pub plus-sum-requires-clause-instances : goal.plus-sum-requires-clause-instances
plus-sum-requires-clause-instances g c = omega (arith, (walked-few _ _ _ c.requires.fits _ _ c.loop-next.invariant).instances, c.taken_in.ensures.few.instances)

pub plus-sum-requires-clause-cores : goal.plus-sum-requires-clause-cores
plus-sum-requires-clause-cores g c = omega (arith, (walked-few _ _ _ c.requires.fits _ _ c.loop-next.invariant).cores, c.taken_in.ensures.few.cores)

pub plus-sum-requires-clause-ram : goal.plus-sum-requires-clause-ram
plus-sum-requires-clause-ram g c = omega (arith, (walked-few _ _ _ c.requires.fits _ _ c.loop-next.invariant).ram, c.taken_in.ensures.few.ram)

pub loop-next-smaller : goal.loop-next-smaller
loop-next-smaller g c =
    walked-smaller (g.R.Rows.site c.args.rows.now) (g.R.Rows.state c.args.rows.now) c.args.tenant c.args.classes.now c.requires.classes
    c.tenant_group-first.result c.tenant_group-first.ensures c.node_group_after.result c.beside_if-next-in-Some.result c.beside_if-next-in-Some.ensures
    c.in-Some.group c.node_group_after.ensures c.loop-next.next c.in-Some.is c.loop-next.sum c.loop-next.invariant (omega arith) (omega arith)

pub loop-next-preserved : goal.loop-next-preserved
loop-next-preserved g c =
    walked-next (g.R.Rows.site c.args.rows.now) (g.R.Rows.state c.args.rows.now) c.args.tenant c.args.classes.now c.requires.classes
    c.tenant_group-first.result c.tenant_group-first.ensures c.node_group_after.result c.beside_if-next-in-Some.result c.beside_if-next-in-Some.ensures
    c.in-Some.group c.node_group_after.ensures c.loop-next.next c.in-Some.is c.loop-next.sum c.loop-next.invariant
    c.taken_in.result c.plus-sum.result c.taken_in.ensures.taken c.plus-sum.ensures

pub returns-clause-taken : goal.returns-clause-taken
returns-clause-taken g c =
    walked-all (g.R.Rows.site c.args.rows.now) (g.R.Rows.state c.args.rows.now) c.args.tenant c.loop-next.next c.loop-next.sum c.in_default.is c.loop-next.invariant

pub returns-clause-few : goal.returns-clause-few
returns-clause-few g c =
    walked-few (g.R.Rows.site c.args.rows.now) (g.R.Rows.state c.args.rows.now) c.args.tenant c.requires.fits c.loop-next.next c.loop-next.sum c.loop-next.invariant
