use Rattle.np_config_read.proofs.Prelude.{length, map, pool_names, take, ◌≡◌}
use Rattle.np_config_read.proofs.names.names_of_pools.Given as goal

abbrev pub invariant-loop-pool : goal.invariant-loop-pool
invariant-loop-pool l = record {
  names : map (λ n. n.text) l.names ≡ pool_names l.providers (take l.pool-index l.pools);
  count : length l.names ≡ l.pool-index;
}
