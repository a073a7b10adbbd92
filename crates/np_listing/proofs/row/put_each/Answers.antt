use Rattle.np_listing.proofs.Walks.{texts-more}
use Rattle.np_listing.proofs.row.put_each.Goals as goal

pub loop-told-preserved : goal.loop-told-preserved
loop-told-preserved g c =
    texts-more (g.T.Told.words c.args.config.now) _ _ _ _ _ _ _ _ c.loop-told-test.true c.told-item.is c.in_ok-put.ensures c.in_ok-tell.ensures c.loop-told.invariant
