-- what configuration the bytes of a text are, or the first fault of a walk through their JSON
use Rattle.std.specs.Prelude.{ℕ, List, [], ◌∷◌, ◌++◌, codes, Option, Result, Ok, not, if◌then◌else◌, None}
use Rattle.std.specs.Option.{option_map}
use Rattle.serde_json.specs.Data.{Data}
use Rattle.np_lists.specs.Refusals.{◌>>=◌, ◌>>◌}
use Rattle.np_config_read.specs.Providers.{fault_keys, label_keys, semaphore_keys, tenant_keys, top_keys, pool_named, requester_named, pool_names, limit_at, provider_at}
use Rattle.np_config_read.specs.Requesters.{word_value, requester_at}
use Rattle.np_config_read.specs.Lower.{ConfigFault, FAULT_ACTS, Fault, ReadsItem, Requester, Role, RoleKind, below, fault_kind_of, object_at, required, role_kind_of, whole_required, AGE, HANDLES, Label, MIN_READY, Sem, named_at, whole_or, Repeated, Tenant, default_name, fault, need, Configuration, FAULTS, LABELS, NotJson, PROVIDERS, REQUESTERS, SEMAPHORES, TENANTS, at_most, configuration, found, list_maybe, list_required, one_to}
use Rattle.std.specs.Str.{bytes_eq, is_utf8}
use Rattle.serde_json.specs.Read.{read}
use Rattle.np_config_read.specs.declared.providers.Providers.{Providers}
use Rattle.np_config_read.specs.declared.requesters.Requesters.{Requesters}

-- planned faults, as they are read (own)

-- a word with a meaning, which must be there
unfoldable pub required_word : {A : Type 0} → (List ℕ → Option A) → List ℕ → List ℕ → Data → Result A ConfigFault
required_word meaning at key d = required at key d >>= word_value meaning (below at key)

-- the role of this kind and name: launchers and janitors go by pools, requesters by themselves
abbrev pub role_named : List (List ℕ) → List Requester → RoleKind → List ℕ → Option Role
role_named pools requesters RoleKind.Launcher text = option_map (λ n. Role.Launcher (record { 0 = n })) (pool_named pools text)
role_named pools requesters RoleKind.Janitor text = option_map (λ n. Role.Janitor (record { 0 = n })) (pool_named pools text)
role_named pools requesters RoleKind.Requester text = option_map (λ n. Role.Requester (record { 0 = n })) (requester_named requesters text)

-- the role of a fault
unfoldable pub role_at : List (List ℕ) → List Requester → List ℕ → Data → Result Role ConfigFault
role_at pools requesters at d = do
  kind ← required_word role_kind_of at (codes "role") d
  required_word (role_named pools requesters kind) at (codes "name") d

-- a fault of a role that is there; pools go by their full names
unfoldable pub fault_at : List (List ℕ) → List Requester → ReadsItem (List Fault)
fault_at pools requesters at earlier d = do
  object_at at fault_keys d
  role ← role_at pools requesters at d
  kind ← required_word fault_kind_of at (codes "kind") d
  after ← whole_required at (codes "after") 0 FAULT_ACTS d
  Ok (earlier ++ record { role = role; kind = kind; after = after } ∷ [])

-- labels and semaphores, as they are read

-- the rest of a label
unfoldable pub label_row : List ℕ → List ℕ → Data → Result Label ConfigFault
label_row at name d = do
  min_ready ← whole_or at (codes "min-ready") 0 MIN_READY 0 d
  max_ready_age ← whole_or at (codes "max-ready-age") 0 AGE 0 d
  Ok (record { name = name; min_ready = min_ready; max_ready_age = max_ready_age })

-- a label, given those before it (Nodepool: `min-ready`, `max-ready-age`; ranges and defaults own)
unfoldable pub label_at : ReadsItem (List Label)
label_at at earlier d = do
  name ← named_at (λ (l : Label). l.name) label_keys at earlier d
  label ← label_row at name d
  Ok (earlier ++ label ∷ [])

-- a semaphore, given those before it (Zuul: `max`; range and default own)
unfoldable pub semaphore_at : ReadsItem (List Sem)
semaphore_at at earlier d = do
  name ← named_at (λ (s : Sem). s.name) semaphore_keys at earlier d
  max ← whole_or at (codes "max") 1 HANDLES 1 d
  Ok (earlier ++ record { name = name; max = max } ∷ [])

-- tenants, as they are read (Zuul's word; the keys are own, with the limits of a pool)

-- a tenant, given those before it; the name of the default one counts as taken
unfoldable pub tenant_at : ReadsItem (List Tenant)
tenant_at at earlier d = do
  name ← named_at (λ (t : Tenant). t.name) tenant_keys at earlier d
  need (not (bytes_eq name default_name)) (fault Repeated (below at (codes "name")))
  limit ← limit_at at d
  Ok (earlier ++ record { name = name; limit = limit } ∷ [])

-- what configuration the bytes of a text are, or the first fault of a walk through their JSON

-- each table of the top object
abbrev pub labels_at : Data → Result (List Label) ConfigFault
labels_at d = list_required label_at [] (codes "labels") (at_most LABELS) [] d

abbrev pub providers_at : List Label → Data → Result Providers ConfigFault
providers_at labels d = list_required (provider_at labels) [] (codes "providers") (one_to PROVIDERS) (record { providers = []; pools = [] }) d

abbrev pub semaphores_at : Data → Result (List Sem) ConfigFault
semaphores_at d = list_maybe semaphore_at [] (codes "semaphores") (at_most SEMAPHORES) [] d

abbrev pub tenants_at : Data → Result (List Tenant) ConfigFault
tenants_at d = list_maybe tenant_at [] (codes "tenants") (at_most TENANTS) [] d

abbrev pub requesters_at : List Label → List Sem → List Tenant → Data → Result Requesters ConfigFault
requesters_at labels semaphores tenants d = list_maybe (requester_at labels semaphores tenants) [] (codes "requesters") (at_most REQUESTERS) (record { requesters = []; jobs = [] }) d

abbrev pub faults_at : List (List ℕ) → List Requester → Data → Result (List Fault) ConfigFault
faults_at pools requesters d = list_maybe (fault_at pools requesters) [] (codes "faults") (at_most FAULTS) [] d

-- the configuration that a JSON value is, with its keys in this order
unfoldable pub configuration_at : Data → Result Configuration ConfigFault
configuration_at d = do
  object_at [] top_keys d
  labels ← labels_at d
  age ← whole_or [] (codes "max-hold-age") 0 AGE 0 d
  s ← providers_at labels d
  semaphores ← semaphores_at d
  tenants ← tenants_at d
  r ← requesters_at labels semaphores tenants d
  faults ← faults_at (pool_names s.providers s.pools) r.requesters d
  Ok (configuration labels s.providers s.pools semaphores tenants r.requesters r.jobs faults age)

-- the JSON value that bytes are, if they are UTF-8
abbrev pub parsed : List ℕ → Option Data
parsed bytes = if is_utf8 bytes then read bytes else None

-- the configuration that bytes are, or their first fault
unfoldable pub reads : List ℕ → Result Configuration ConfigFault
reads bytes = found (parsed bytes) (fault NotJson []) >>= configuration_at
