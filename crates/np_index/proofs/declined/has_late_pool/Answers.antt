use Rattle.np_index.proofs.Requests.{late-found, late-later}
use Rattle.np_index.proofs.declined.has_late_pool.Goals as goal

pub returns-then-row-ge-POOLS : goal.returns-then-row-ge-POOLS
returns-then-row-ge-POOLS g c =
    late-found (g.R.Rows.state c.args.rows.now).registrations c.loop-at.at c.in-Some.row c.in-Some.ensures c.loop-at.invariant c.if-row-ge-POOLS.true

pub loop-at-preserved : goal.loop-at-preserved
loop-at-preserved g c =
    late-later (g.R.Rows.state c.args.rows.now).registrations c.loop-at.at c.in-Some.row c.in-Some.ensures c.loop-at.invariant c.if-row-ge-POOLS.false
