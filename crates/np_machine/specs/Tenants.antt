-- what a tenant uses, and what it may use (own; Zuul's tenants, with a pool's limits)
use Rattle.std.specs.Prelude.{Bool, false, ◌==◌, ◌&&◌, not, Option, Some, None, is_none, length, map, filter, drop, slice_get, option_and_then}
use Rattle.std.specs.Option.{option_map, option_map_or}
use Rattle.np_machine.specs.Entries.{RequestEntry, NodeEntry}
use Rattle.np_machine.specs.Kinds.{is_pending}
use Rattle.np_machine.specs.Count.{amount_of, amount_of_all}
use Rattle.np_machine.specs.State.{State}
use Rattle.np_machine.specs.Lower.{Amount, Configuration, Limit, PoolId, RequestRecord, TenantId, fits, no_limit, nothing, plus, tenant_of, total}

abbrev pub limit_of_tenant : Configuration → TenantId → Limit
limit_of_tenant c t = option_map_or (λ tenant. tenant.limit) (tenant_of c t) no_limit

-- the tenant of the request's job; a min-ready request has none
abbrev pub tenant_of_request : Configuration → RequestRecord → Option TenantId
tenant_of_request c request = option_map (λ job. job.tenant) (option_and_then (λ j. slice_get c.jobs j.0) request.job)

-- the option names this tenant
abbrev pub is_tenant : TenantId → Option TenantId → Bool
is_tenant t None = false
is_tenant t (Some other) = other.0 == t.0

-- what a node takes of its pool
abbrev pub amount_of_node : Configuration → NodeEntry → Amount
amount_of_node c e = amount_of c e.kept.pool e.kept.label

-- what the labels after the request's last node take of the pool that serves it
abbrev pub rest_of_request : Configuration → RequestEntry → Amount
rest_of_request c e = option_map_or (λ p. amount_of_all c p (drop (length e.kept.nodes) e.kept.labels)) e.kept.pool nothing

-- pending, and its job is of the tenant
abbrev pub is_pending_of : Configuration → TenantId → RequestEntry → Bool
is_pending_of c t e = is_pending e.kept.state && is_tenant t (tenant_of_request c e.kept)

-- what the tenant uses: the amounts of its nodes, in whatever state, and what its pending requests still wait for (own: an accepted request has its whole amount from then on)
abbrev pub count_of_tenant : Configuration → State → TenantId → Amount
count_of_tenant c s t = plus
    (total (map (amount_of_node c) (filter (λ e. is_tenant t e.kept.tenant) s.nodes)))
    (total (map (rest_of_request c) (filter (is_pending_of c t) s.requests)))

-- the request's labels together pass a limit of the tenant, at this pool
abbrev pub passes_tenant : Configuration → PoolId → RequestRecord → TenantId → Bool
passes_tenant c p request t = not (fits (amount_of_all c p request.labels) (limit_of_tenant c t))

-- not pinned, and its labels together pass a limit of its job's tenant, however little that uses
abbrev pub tenant_never_fits : Configuration → PoolId → RequestRecord → Bool
tenant_never_fits c p request = is_none request.pinned && option_map_or (passes_tenant c p request) (tenant_of_request c request) false

-- the tenant's count and the request's labels together pass a limit of the tenant
abbrev pub is_short_of : Configuration → State → PoolId → RequestRecord → TenantId → Bool
is_short_of c s p request t = not (fits (plus (count_of_tenant c s t) (amount_of_all c p request.labels)) (limit_of_tenant c t))
