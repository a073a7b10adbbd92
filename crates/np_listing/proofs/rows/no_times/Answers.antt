use Rattle.np_listing.proofs.Prelude.{semaphore_row, []}
use Rattle.np_listing.proofs.Counting.{one-more}
use Rattle.np_listing.proofs.rows.no_times.Goals as goal

pub loop-at-preserved : goal.loop-at-preserved
loop-at-preserved c = one-more (semaphore_row c.args.config.now []) c.loop-at.rows.items c.push.new.self.items c.loop-at.at c.loop-at.invariant c.in_ok-push.ensures.items
