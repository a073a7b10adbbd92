use Rattle.np_listing.proofs.Prelude.{map, range_with_len, tenant_row, [], ◌≡◌}
use Rattle.np_listing.proofs.rows.no_tenants.Given as goal

abbrev pub invariant-loop-at : goal.invariant-loop-at
invariant-loop-at l = l.rows.items ≡ map (tenant_row l.config []) (range_with_len 0 l.at)
