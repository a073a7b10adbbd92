-- which request a pool's launcher takes up next
use Rattle.std.specs.Prelude.{List, Bool, ◌&&◌, not, if◌then◌else◌, Option, Some, None, is_none, filter, fold, option_and_then}
use Rattle.std.specs.Option.{option_map}
use Rattle.np_machine.specs.Entries.{RequestEntry}
use Rattle.np_machine.specs.Kinds.{is_requested}
use Rattle.np_machine.specs.Tables.{holder}
use Rattle.np_machine.specs.Tenants.{tenant_of_request, tenant_never_fits, is_short_of}
use Rattle.np_machine.specs.Reasons.{first_unoffered, never_fits}
use Rattle.np_machine.specs.Order.{comes_before, is_pinned_away, is_declined_by}
use Rattle.np_machine.specs.State.{State}
use Rattle.np_machine.specs.Lower.{Configuration, PoolId, RequestId, RequestRecord, TenantId}

-- the pool may serve the request, as far as its offers and the limits go
abbrev pub may_fit : Configuration → PoolId → RequestRecord → Bool
may_fit c p request = is_none (first_unoffered c p request) && not (never_fits c p request) && not (tenant_never_fits c p request)

-- the tenant, if it has no room for the request now
abbrev pub short_tenant : Configuration → State → PoolId → RequestRecord → TenantId → Option TenantId
short_tenant c s p request t = if is_short_of c s p request t then Some t else None

-- the tenant that has no room now for a request that the pool may serve
abbrev pub blocking : Configuration → State → PoolId → RequestRecord → Option TenantId
blocking c s p request =
    if is_none request.pinned && may_fit c p request then option_and_then (short_tenant c s p request) (tenant_of_request c request) else None

-- requested, unlocked, not declined by the pool and not pinned to another
abbrev pub is_open_to : PoolId → RequestEntry → Bool
is_open_to p e =
    is_requested e.kept.state && is_none (holder e.queue) && not (is_declined_by p e.kept.declined) && not (is_pinned_away p e.kept)

-- what the pool's launcher may take up next: open to it, and its tenant has room
abbrev pub is_candidate : Configuration → State → PoolId → RequestEntry → Bool
is_candidate c s p e = is_open_to p e && is_none (blocking c s p e.kept)

-- the earlier of the two
abbrev pub earlier : Option RequestEntry → RequestEntry → Option RequestEntry
earlier None e = Some e
earlier (Some best) e = if comes_before e best then Some e else Some best

-- the least of them
abbrev pub least : List RequestEntry → Option RequestEntry
least entries = fold earlier None entries

-- the first candidate of the pool
abbrev pub first_of : Configuration → State → PoolId → Option RequestId
first_of c s p = option_map (λ e. e.id) (least (filter (is_candidate c s p) s.requests))
