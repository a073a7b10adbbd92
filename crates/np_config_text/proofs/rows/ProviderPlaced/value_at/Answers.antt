use Rattle.np_config_text.proofs.Prelude.{IsPool, Pool, StandsByOwner}
use Rattle.np_config_text.proofs.Again.{names-ascii}
use Rattle.np_config_text.proofs.rows.ProviderPlaced.value_at.Goals as goal

pub owned_value-requires : goal.owned_value-requires
owned_value-requires c = rw c.pools.ensures (names-ascii (λ (r : Pool). r.name) (StandsByOwner (λ (r : Pool). r.provider) (IsPool _)) (λ e r is. is.own.name.named) _ c.know_soundness.ensures.supply.each_pool)
