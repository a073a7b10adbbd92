use Rattle.np_config_read.proofs.Prelude.{List, ap, bytes_eq, list_any, list_any-map, pool_name, pool_names, sym, take, ℕ, [], ◌∙◌, ◌≡◌}
use Rattle.np_config_read.proofs.WalkTakes.{name-unused}
use Rattle.np_config_read.proofs.names.names_of_pools.Goals as goal

pub push-requires-clause-new : goal.push-requires-clause-new
push-requires-clause-new c =
    let text = c.new-text.result in
    let is : text ≡ pool_name c.args.providers.now c.pool-item.result = c.new-text.ensures ∙ c.in_ok-full_name.ensures in
    let before = pool_names c.args.providers.now (take c.loop-pool.pool-index c.args.pools.now) in
    sym (list_any-map (bytes_eq text) (λ n. n.text) c.loop-pool.names) ∙ ap (list_any (bytes_eq text)) c.loop-pool.invariant.names
    ∙ ap (λ (t : List ℕ). list_any (bytes_eq t) before) is
    ∙ name-unused (pool_name c.args.providers.now) [] c.args.pools.now c.loop-pool.pool-index c.pool-item.result c.loop-pool-test.true c.pool-item.is c.requires.unused
