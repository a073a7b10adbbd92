use Rattle.std.proofs.Common.{◌≡◌, ◌≤◌, ◌-◌, length}
use Rattle.np_cloud.specs.Inventory.{simulations}
use Rattle.np_cloud.proofs.clouds.simulated_clouds.Given as goal

abbrev pub invariant-loop-alloc : goal.invariant-loop-alloc
invariant-loop-alloc l = record {
  few : length l.clouds.items ≤ length l.config.pools;
  small : length l.config.pools ≤ 64;
  made : l.clouds.items ≡ simulations l.config (length l.clouds.items);
}

abbrev pub decreases-loop-alloc : goal.decreases-loop-alloc
decreases-loop-alloc l = length l.config.pools - length l.clouds.items
