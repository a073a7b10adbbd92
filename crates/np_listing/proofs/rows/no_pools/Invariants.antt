use Rattle.np_listing.proofs.Prelude.{map, pool_row, range_with_len, [], ◌≡◌}
use Rattle.np_listing.proofs.rows.no_pools.Given as goal

abbrev pub invariant-loop-at : goal.invariant-loop-at
invariant-loop-at l = l.rows.items ≡ map (pool_row l.config []) (range_with_len 0 l.at)
