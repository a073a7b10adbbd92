use Rattle.std.proofs.Common.{◌∙◌, sym, rules}
use Rattle.np_cloud.proofs.CloudLemmas.{simulations-push, few-push}
use Rattle.np_cloud.proofs.clouds.simulated_clouds.Goals as goal

pub loop-alloc-preserved : goal.loop-alloc-preserved
loop-alloc-preserved c = record {
  few = few-push c.args.config.now _ c.args.config.now.pools c.pool.result _ c.loop-alloc.clouds.items c.push.new.self.items c.in_ok-new.field-0 (sym c.pool.ensures) (sym c.is_some.ensures ∙ c.loop-alloc-test.true) (search rules) c.in_ok-push.ensures.items;
  small = c.loop-alloc.invariant.small;
  made = simulations-push c.args.config.now c.loop-alloc.clouds.items c.push.new.self.items c.in_ok-new.field-0 _ c.loop-alloc.invariant.made (search rules) c.in_ok-new.ensures.start c.in_ok-push.ensures.items;
}
