-- providers and their pools, as they are read, with the keys of each object and what names stand for
use Rattle.std.specs.Prelude.{ℕ, List, [], ◌∷◌, codes, ◌≡◌, false, ◌+◌, ◌++◌, map, if◌then◌else◌, position, slice_get, Option, Some, length, Result, Ok}
use Rattle.std.specs.List.{list_any}
use Rattle.std.specs.Option.{option_map, option_map_or}
use Rattle.std.specs.Str.{bytes_eq}
use Rattle.np_config_read.specs.Lower.{Label, Pool, Provider, Requester, Sem, Tenant, TenantId, default_name, Amount, CONCURRENCY, ConfigFault, FAIL_STARTS, LABELS, LAUNCHES, LabelId, Limit, NODE_CORES, NODE_RAM, Offer, OutOfRange, POOLS, POOL_CORES, POOL_RAM, POOL_SERVERS, ReadsItem, Repeated, START_NUMBER, UnknownName, at_most, behind, below, fault, found, is_above, is_unoffered, list_maybe, list_required, named_at, need, object_at, one_to, required, text_value, whole_maybe, whole_or, whole_value}
use Rattle.serde_json.specs.Data.{Data}
use Rattle.np_lists.specs.Refusals.{◌>>=◌, ◌>>◌}
use Rattle.np_config_read.specs.declared.providers.PoolsOf.{PoolsOf}
use Rattle.np_config_read.specs.declared.providers.Providers.{Providers}

-- the keys that each object may have, in the order in which they are read (own, with Nodepool's and Zuul's words)

abbrev pub top_keys : List (List ℕ)
top_keys = codes "labels" ∷ codes "max-hold-age" ∷ codes "providers" ∷ codes "semaphores" ∷ codes "tenants" ∷ codes "requesters" ∷ codes "faults" ∷ []

abbrev pub label_keys : List (List ℕ)
label_keys = codes "name" ∷ codes "min-ready" ∷ codes "max-ready-age" ∷ []

abbrev pub provider_keys : List (List ℕ)
provider_keys = codes "name" ∷ codes "launch-retries" ∷ codes "max-concurrency" ∷ codes "pools" ∷ []

abbrev pub pool_keys : List (List ℕ)
pool_keys = codes "name" ∷ codes "max-servers" ∷ codes "max-cores" ∷ codes "max-ram" ∷ codes "labels" ∷ codes "fail-starts" ∷ []

abbrev pub offer_keys : List (List ℕ)
offer_keys = codes "name" ∷ codes "cores" ∷ codes "ram" ∷ []

abbrev pub semaphore_keys : List (List ℕ)
semaphore_keys = codes "name" ∷ codes "max" ∷ []

abbrev pub tenant_keys : List (List ℕ)
tenant_keys = codes "name" ∷ codes "max-servers" ∷ codes "max-cores" ∷ codes "max-ram" ∷ []

abbrev pub requester_keys : List (List ℕ)
requester_keys = codes "name" ∷ codes "window" ∷ codes "jobs" ∷ []

abbrev pub job_keys : List (List ℕ)
job_keys = codes "name" ∷ codes "labels" ∷ codes "priority" ∷ codes "relative-priority" ∷ codes "semaphores" ∷ codes "resources-first" ∷ codes "end" ∷ codes "tenant" ∷ []

abbrev pub fault_keys : List (List ℕ)
fault_keys = codes "role" ∷ codes "name" ∷ codes "kind" ∷ codes "after" ∷ []

-- what a name stands for

-- the place of the label with this name
abbrev pub label_named : List Label → List ℕ → Option ℕ
label_named labels text = position (λ l. bytes_eq text l.name) labels

-- the place of the semaphore with this name
abbrev pub semaphore_named : List Sem → List ℕ → Option ℕ
semaphore_named semaphores text = position (λ s. bytes_eq text s.name) semaphores

-- the tenant with this number
abbrev pub tenant_id : ℕ → TenantId
tenant_id n = record { 0 = n }

-- the tenant with this name: `default` is 0, and the listed ones count from 1
abbrev pub tenant_named : List Tenant → List ℕ → Option TenantId
tenant_named tenants text = if bytes_eq text default_name then Some (tenant_id 0) else option_map (λ n. tenant_id (n + 1)) (position (λ t. bytes_eq text t.name) tenants)

-- the name of a provider, `/`, and the name of its pool (own)
abbrev pub pool_name : List Provider → Pool → List ℕ
pool_name providers p = option_map_or (λ q. q.name) (slice_get providers p.provider) [] ++ 47 ∷ p.name

-- the full names of pools
abbrev pub pool_names : List Provider → List Pool → List (List ℕ)
pool_names providers pools = map (pool_name providers) pools

-- the place of the pool with this full name
abbrev pub pool_named : List (List ℕ) → List ℕ → Option ℕ
pool_named names text = position (bytes_eq text) names

-- the place of the requester with this name
abbrev pub requester_named : List Requester → List ℕ → Option ℕ
requester_named requesters text = position (λ q. bytes_eq text q.name) requesters

-- a name is none of those before it
abbrev pub IsUnused : List (List ℕ) → List ℕ → Type 0
IsUnused earlier name = list_any (bytes_eq name) earlier ≡ false

-- providers and their pools, as they are read

-- the label with this name
unfoldable pub label_for : List Label → List ℕ → List ℕ → Result LabelId ConfigFault
label_for labels at text = found (label_named labels text) (fault UnknownName at) >>= λ n. Ok (record { 0 = n })

-- the label whose name is at a place
unfoldable pub label_value : List Label → List ℕ → Data → Result LabelId ConfigFault
label_value labels at d = text_value at d >>= label_for labels at

-- the label of an offer, which the pool did not offer before
unfoldable pub offer_label : List Label → List ℕ → List Offer → Data → Result LabelId ConfigFault
offer_label labels at earlier d = do
  name ← required at (codes "name") d
  label ← label_value labels (below at (codes "name")) name
  need (is_unoffered earlier label) (fault Repeated (below at (codes "name")))
  Ok label

-- what a node of an offer takes
unfoldable pub offer_amount : List ℕ → Data → Result Amount ConfigFault
offer_amount at d = do
  cores ← whole_or at (codes "cores") 0 NODE_CORES 1 d
  ram ← whole_or at (codes "ram") 0 NODE_RAM 1024 d
  Ok (record { instances = 1; cores = cores; ram = ram })

-- an offer, given those of its pool before it (Nodepool: a pool's labels; ranges and defaults own)
unfoldable pub offer_at : List Label → ReadsItem (List Offer)
offer_at labels at earlier d = do
  object_at at offer_keys d
  label ← offer_label labels at earlier d
  amount ← offer_amount at d
  Ok (earlier ++ record { label = label; amount = amount } ∷ [])

-- a start that fails, above the one before it (own)
unfoldable pub start_at : ReadsItem (List ℕ)
start_at at earlier d = do
  n ← whole_value at 1 START_NUMBER d
  need (is_above earlier n) (fault OutOfRange at)
  Ok (earlier ++ n ∷ [])

-- the limits of a pool or a tenant (Nodepool: `max-servers`, `max-cores`, `max-ram`; ranges own)
unfoldable pub limit_at : List ℕ → Data → Result Limit ConfigFault
limit_at at d = do
  servers ← whole_maybe at (codes "max-servers") 0 POOL_SERVERS d
  cores ← whole_maybe at (codes "max-cores") 0 POOL_CORES d
  ram ← whole_maybe at (codes "max-ram") 0 POOL_RAM d
  Ok (record { instances = servers; cores = cores; ram = ram })

-- the offers of a pool
unfoldable pub offers_at : List Label → List ℕ → Data → Result (List Offer) ConfigFault
offers_at labels at d = list_required (offer_at labels) at (codes "labels") (at_most LABELS) [] d

-- the failing starts of a pool
unfoldable pub starts_at : List ℕ → Data → Result (List ℕ) ConfigFault
starts_at at d = list_maybe start_at at (codes "fail-starts") (at_most FAIL_STARTS) [] d

-- the rest of a pool of the provider at a place
unfoldable pub pool_row : List Label → List ℕ → ℕ → List ℕ → Data → Result Pool ConfigFault
pool_row labels at provider name d = do
  limit ← limit_at at d
  offers ← offers_at labels at d
  starts ← starts_at at d
  Ok (record { provider = provider; name = name; limit = limit; offers = offers; fail_starts = starts })

-- what was read so far: the pools of the provider at a place; providers, with the pools of all
abbrev pub PoolsSoFar : Type 0
PoolsSoFar = PoolsOf

abbrev pub ProvidersSoFar : Type 0
ProvidersSoFar = Providers

-- a pool, given those of its provider before it (Nodepool)
unfoldable pub pool_at : List Label → ReadsItem PoolsSoFar
pool_at labels at s d = do
  name ← named_at (λ (p : Pool). p.name) pool_keys at s.pools d
  pool ← pool_row labels at s.provider name d
  Ok (record s { pools = s.pools ++ pool ∷ [] })

-- the rest of a provider (Nodepool: `launch-retries`, `max-concurrency`; ranges and defaults own)
unfoldable pub provider_row : List ℕ → List ℕ → Data → Result Provider ConfigFault
provider_row at name d = do
  retries ← whole_or at (codes "launch-retries") 1 LAUNCHES 3 d
  concurrency ← whole_maybe at (codes "max-concurrency") 1 CONCURRENCY d
  Ok (record { name = name; retries = retries; concurrency = concurrency })

-- the pools of a provider, after this many of earlier providers
unfoldable pub pools_at : List Label → List ℕ → ℕ → ℕ → Data → Result PoolsOf ConfigFault
pools_at labels at earlier provider d = list_required (pool_at labels) at (codes "pools") (behind earlier (one_to POOLS)) (record { provider = provider; pools = [] }) d

-- a provider, given those before it, with its pools (Nodepool)
unfoldable pub provider_at : List Label → ReadsItem ProvidersSoFar
provider_at labels at s d = do
  name ← named_at (λ (p : Provider). p.name) provider_keys at s.providers d
  provider ← provider_row at name d
  own ← pools_at labels at (length s.pools) (length s.providers) d
  Ok (record { providers = s.providers ++ provider ∷ []; pools = s.pools ++ own.pools })
