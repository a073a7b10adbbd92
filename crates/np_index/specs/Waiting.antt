-- what pending requests wait for, and the groups of tenants
use Rattle.std.specs.Prelude.{◌≡◌, ◌<◌, ◌≤◌, ◌^◌, false, suc, List, length, if◌then◌else◌, Option, None, filter, map, option_and_then, slice_get, Bool, ◌==◌, ◌&&◌, ◌||◌, not, Some, is_some, is_none, ℕ}
use Rattle.np_index.specs.declared.awaited.Rest.{Rest}
use Rattle.np_index.specs.Lower.{Amount, Configuration, Group, LabelId, NodeEntry, PoolId, RequestEntry, RequestId, RequestRecord, State, TenantId, change_at, is_pending, is_pending_of, is_short, is_spare, is_stuck, is_under_way_by, list_any, minus, next_label_group, nothing, option_map, option_map_or, pinned_label_group, plus, request_in, rest_of, rest_of_request, same_group, same_request, tenant_group, tenant_of_request, total}

-- what the pending requests of each tenant still wait for

-- what the tenant's pending requests still wait for
abbrev pub awaited_by : Configuration → State → TenantId → Amount
awaited_by c s t = total (map (rest_of_request c) (filter (is_pending_of c t) s.requests))

-- what a request with this record still waits for, if it is pending and of a tenant's job
abbrev pub rest_by : Configuration → RequestRecord → Option Rest
rest_by c k = if is_pending k.state then option_map (λ t. record { tenant = t; amount = rest_of c k }) (tenant_of_request c k) else None

-- the same of the request, if it is there
abbrev pub rest_at : Configuration → State → RequestId → Option Rest
rest_at c s r = option_and_then (rest_by c) (request_in r s.requests)

-- what the first of the requests still waits for
abbrev pub first_rest : Configuration → State → List RequestId → Option Rest
first_rest c s requests = option_and_then (rest_at c s) (slice_get requests 0)

-- there is one request at most, and the records of all others are the same in both states
pub record OthersStay (requests : List RequestId) (s t : State) : Type 0 where
  pub once : length requests ≤ 1
  pub same : (r : RequestId) → list_any (λ x. same_request x r) requests ≡ false → request_in r t.requests ≡ request_in r s.requests

-- the tenant's amount; nothing if the list is shorter
abbrev pub amount_at : TenantId → List Amount → Amount
amount_at t amounts = option_map_or (λ a. a) (slice_get amounts t.0) nothing

-- each part has at most 64 bits
pub record IsSmall (a : Amount) : Type 0 where
  pub instances : a.instances < 2 ^ 64
  pub cores : a.cores < 2 ^ 64
  pub ram : a.ram < 2 ^ 64

-- without what a request waited for
abbrev pub without_rest : Option Rest → List Amount → List Amount
without_rest before amounts = option_map_or (λ rest. change_at rest.tenant.0 (λ a. minus a rest.amount) amounts) before amounts

-- with what a request waits for
abbrev pub with_rest : Option Rest → List Amount → List Amount
with_rest after amounts = option_map_or (λ rest. change_at rest.tenant.0 (λ a. plus a rest.amount) amounts) after amounts

-- with what a request waits for now, in the place of what it waited for before
abbrev pub exchange : Option Rest → Option Rest → List Amount → List Amount
exchange before after amounts = with_rest after (without_rest before amounts)

-- each amount is one that code can keep
abbrev pub AreSmall : List Amount → Type 0
AreSmall amounts = (t : TenantId) → IsSmall (amount_at t amounts)

-- each tenant's amount is what its pending requests still wait for; the tenants are the one named `default` and those that are listed
pub record AreAwaited (c : Configuration) (s : State) (amounts : List Amount) : Type 0 where
  pub each : (t : TenantId) → amount_at t amounts ≡ awaited_by c s t
  pub tenants : length amounts ≡ suc (length c.tenants)

-- the labels that requests of a pool wait for, and when such a request is stuck or under way (own)

-- the requests that are pending by the pool and whose next label is this one: those that are pinned, or the others
abbrev pub label_group : Bool → PoolId → LabelId → Group
label_group pinned p l = if pinned then pinned_label_group p l else next_label_group p l

-- both are of one class and one first number
abbrev pub is_beside : Group → Group → Bool
is_beside g h = (g.class == h.class) && (g.first == h.first)

-- the label of a group that was found, if it is beside the other
abbrev pub label_if : Group → Option Group → Option LabelId
label_if g None = None
label_if g (Some found) = if is_beside found g then Some (record { 0 = found.second }) else None

-- the pool has no room for a node of the label, and a request that is not pinned finds no spare one
abbrev pub is_stuck_label : Configuration → State → PoolId → Bool → LabelId → Bool
is_stuck_label c s p pinned l = is_short c s p l && (pinned || not (list_any (is_spare p l) s.nodes))

-- pinned, or not
abbrev pub is_pinned_as : Bool → RequestRecord → Bool
is_pinned_as pinned k = if pinned then is_some k.pinned else is_none k.pinned

-- under way by the pool, and pinned or not
abbrev pub is_under_way_as : PoolId → Bool → RequestEntry → Bool
is_under_way_as p pinned e = is_pinned_as pinned e.kept && is_under_way_by p e.kept

-- stuck, and pinned or not
abbrev pub is_stuck_as : Configuration → State → PoolId → Bool → RequestEntry → Bool
is_stuck_as c s p pinned e = is_pinned_as pinned e.kept && is_stuck c s p e

-- the groups of a tenant's nodes (own)

-- the class of the groups of tenants' nodes
abbrev pub tenant_class : ℕ
tenant_class = 3

-- the group that was found, if it is beside the other
abbrev pub beside_if : Group → Option Group → Option Group
beside_if g None = None
beside_if g (Some found) = if is_beside found g then Some found else None

-- the node has a tenant, and this is the group of that tenant's nodes of its pool with its label
abbrev pub is_in_tenant_group : Group → NodeEntry → Bool
is_in_tenant_group g e = option_map_or (λ t. same_group (tenant_group t e.kept.pool e.kept.label) g) e.kept.tenant false
