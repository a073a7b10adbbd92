use Rattle.np_listing.proofs.Prelude.{kind_count, []}
use Rattle.np_listing.proofs.Counting.{one-more}
use Rattle.np_listing.proofs.rows.no_events.Goals as goal

pub loop-kind-preserved : goal.loop-kind-preserved
loop-kind-preserved c = one-more (kind_count []) c.loop-kind.rows.items c.push.new.self.items c.loop-kind.kind c.loop-kind.invariant c.in_ok-push.ensures.items
