-- what a configuration says: its tables, in order; ids are places in them (own, with Nodepool's and Zuul's words)
use Rattle.std.specs.Prelude.{ℕ, List, ◌∷◌, codes, slice_get, Option, ◌≡◌, ◌<◌, ◌≤◌, ◌==◌, ◌⊎◌, ◌-◌, [], Bool, true, false, not, nat_lt, length, filter, IfSome, All}
use Rattle.np_text.specs.declared.id.TenantId.{TenantId}
use Rattle.np_amount.specs.declared.amount.TheConstants.Limit.{NO_LIMIT}
use Rattle.np_config.specs.declared.row.Label.{Label}
use Rattle.np_config.specs.declared.row.Provider.{Provider}
use Rattle.np_config.specs.declared.row.Pool.{Pool}
use Rattle.np_config.specs.declared.row.Sem.{Sem}
use Rattle.np_config.specs.declared.row.Tenant.{Tenant}
use Rattle.np_config.specs.declared.row.Requester.{Requester}
use Rattle.np_config.specs.declared.row.Job.{Job}
use Rattle.np_config.specs.declared.row.Fault.{Fault}
use Rattle.std.specs.List.{list_any}
use Rattle.std.specs.Option.{option_map_or}
use Rattle.std.specs.Str.{bytes_eq}
use Rattle.np_text.specs.Name.{is_name_text}
use Rattle.np_amount.specs.declared.amount.Limit.{Limit}
use Rattle.np_text.specs.declared.limit.TheConstants.{LABELS, PROVIDERS, POOLS, SEMAPHORES, TENANTS, REQUESTERS, JOBS, JOB_LABELS, JOB_SEMAPHORES, FAULTS, FAIL_STARTS, MIN_READY, AGE, LAUNCHES, CONCURRENCY, POOL_SERVERS, POOL_CORES, POOL_RAM, NODE_CORES, NODE_RAM, START_NUMBER, HANDLES, WINDOW, RELATIVE_PRIORITY, FAULT_ACTS}
use Rattle.np_text.specs.declared.id.LabelId.{LabelId}
use Rattle.np_text.specs.declared.id.SemId.{SemId}
use Rattle.np_text.specs.declared.id.Role.{Role}
use Rattle.np_config.specs.declared.row.Offer.{Offer}
use Rattle.np_lists.specs.EachAfter.{EachAfter}

pub record Configuration : Type 0 where
  pub labels : List Label
  pub providers : List Provider
  -- the pools of all providers, in the order of their providers
  pub pools : List Pool
  pub semaphores : List Sem
  -- the tenants that are listed, besides the tenant `default`
  pub tenants : List Tenant
  pub requesters : List Requester
  -- the jobs of all requesters, in the order of their requesters
  pub jobs : List Job
  pub faults : List Fault
  pub max_hold_age : ℕ

-- the configuration with these tables
abbrev pub configuration : List Label → List Provider → List Pool → List Sem → List Tenant → List Requester → List Job → List Fault → ℕ → Configuration
configuration labels providers pools semaphores tenants requesters jobs faults max_hold_age = record {
  labels = labels;
  providers = providers;
  pools = pools;
  semaphores = semaphores;
  tenants = tenants;
  requesters = requesters;
  jobs = jobs;
  faults = faults;
  max_hold_age = max_hold_age;
}

-- the name of the tenant of each job that names none (own)
abbrev pub default_name : List ℕ
default_name = codes "default"

-- that tenant, which has no limit and is never listed (own)
abbrev pub default_tenant : Tenant
default_tenant = record { name = default_name; limit = NO_LIMIT }

-- the tenant of a number: 0 is the default one, and the listed ones count from 1
abbrev pub tenant_of : Configuration → TenantId → Option Tenant
tenant_of c id = slice_get (default_tenant ∷ c.tenants) id.0

-- the configurations that a text can have: names, values, ranges, lengths, order and references (ranges own)

-- a name, and no earlier row has it
pub record HasNewName {T : Type 0} (name : T → List ℕ) (earlier : List T) (x : T) : Type 0 where
  pub named : is_name_text (name x) ≡ true
  pub new : list_any (λ row. bytes_eq (name x) (name row)) earlier ≡ false

-- a row may come after the earlier rows of its owner, and after no row of a later owner
pub record StandsByOwner {T : Type 0} (owner : T → ℕ) (P : List T → T → Type 0) (earlier : List T) (x : T) : Type 0 where
  pub in_order : All (λ y. owner y ≤ owner x) earlier
  pub own : P (filter (λ y. owner y == owner x) earlier) x

pub record IsLabel (earlier : List Label) (l : Label) : Type 0 where
  pub name : HasNewName (λ (r : Label). r.name) earlier l
  pub min_ready : l.min_ready ≤ MIN_READY
  pub max_ready_age : l.max_ready_age ≤ AGE

pub record IsProvider (earlier : List Provider) (p : Provider) : Type 0 where
  pub name : HasNewName (λ (r : Provider). r.name) earlier p
  pub some_try : 1 ≤ p.retries
  pub retries : p.retries ≤ LAUNCHES
  pub concurrency : IfSome p.concurrency (λ n. (1 ≤ n) × (n ≤ CONCURRENCY))

-- none of the offers is of this label
abbrev pub is_unoffered : List Offer → LabelId → Bool
is_unoffered offers label = not (list_any (λ o. label.0 == o.label.0) offers)

pub record IsOffer (labels : ℕ) (earlier : List Offer) (o : Offer) : Type 0 where
  pub label : o.label.0 < labels
  pub new : is_unoffered earlier o.label ≡ true
  pub instances : o.amount.instances ≡ 1
  pub cores : o.amount.cores ≤ NODE_CORES
  pub ram : o.amount.ram ≤ NODE_RAM

-- the number is above the last one
abbrev pub is_above : List ℕ → ℕ → Bool
is_above earlier n = option_map_or (λ last. nat_lt last n) (slice_get earlier (length earlier - 1)) true

pub record IsStart (earlier : List ℕ) (n : ℕ) : Type 0 where
  pub least : 1 ≤ n
  pub most : n ≤ START_NUMBER
  pub above : is_above earlier n ≡ true

-- the limits that are there (Nodepool: `max-servers`, `max-cores`, `max-ram`)
pub record IsLimit (l : Limit) : Type 0 where
  pub servers : IfSome l.instances (λ n. n ≤ POOL_SERVERS)
  pub cores : IfSome l.cores (λ n. n ≤ POOL_CORES)
  pub ram : IfSome l.ram (λ n. n ≤ POOL_RAM)

-- a pool, given the earlier ones of its provider, if there are this many labels
pub record IsPool (labels : ℕ) (earlier : List Pool) (p : Pool) : Type 0 where
  pub name : HasNewName (λ (r : Pool). r.name) earlier p
  pub limit : IsLimit p.limit
  pub offers : EachAfter (IsOffer labels) [] p.offers
  pub few_offers : length p.offers ≤ LABELS
  pub starts : EachAfter IsStart [] p.fail_starts
  pub few_starts : length p.fail_starts ≤ FAIL_STARTS

pub record IsSem (earlier : List Sem) (s : Sem) : Type 0 where
  pub name : HasNewName (λ (r : Sem). r.name) earlier s
  pub some : 1 ≤ s.max
  pub max : s.max ≤ HANDLES

-- a listed tenant, given the earlier ones
pub record IsTenant (earlier : List Tenant) (t : Tenant) : Type 0 where
  pub name : HasNewName (λ (r : Tenant). r.name) earlier t
  pub listed : bytes_eq t.name default_name ≡ false
  pub limit : IsLimit t.limit

pub record IsRequester (earlier : List Requester) (q : Requester) : Type 0 where
  pub name : HasNewName (λ (r : Requester). r.name) earlier q
  pub some : 1 ≤ q.window
  pub window : q.window ≤ WINDOW

-- high, normal or low
abbrev pub IsPriority : ℕ → Type 0
IsPriority n = (n ≡ 100) ⊎ (n ≡ 200) ⊎ (n ≡ 300)

-- a label that a job requests, if there are this many labels
abbrev pub IsWanted : ℕ → LabelId → Type 0
IsWanted labels l = l.0 < labels

-- none of the semaphores is this one
abbrev pub is_untaken : List SemId → SemId → Bool
is_untaken semaphores semaphore = not (list_any (λ s. semaphore.0 == s.0) semaphores)

pub record IsTaken (semaphores : ℕ) (earlier : List SemId) (s : SemId) : Type 0 where
  pub semaphore : s.0 < semaphores
  pub new : is_untaken earlier s ≡ true

-- a job, given the earlier ones of its requester and the numbers of labels, semaphores and listed
-- tenants
pub record IsJob (labels semaphores tenants : ℕ) (earlier : List Job) (j : Job) : Type 0 where
  pub name : HasNewName (λ (r : Job). r.name) earlier j
  pub wanted : All (IsWanted labels) j.labels
  pub some_label : 1 ≤ length j.labels
  pub few_labels : length j.labels ≤ JOB_LABELS
  pub priority : IsPriority j.priority
  pub relative : j.relative_priority ≤ RELATIVE_PRIORITY
  pub taken : EachAfter (IsTaken semaphores) [] j.semaphores
  pub few_taken : length j.semaphores ≤ JOB_SEMAPHORES
  pub tenant : j.tenant.0 ≤ tenants

-- a role that exists, given the numbers of pools and requesters; the reaper has no fault
abbrev pub IsRole : ℕ → ℕ → Role → Type 0
IsRole pools requesters (Role.Launcher p) = p.0 < pools
IsRole pools requesters (Role.Janitor p) = p.0 < pools
IsRole pools requesters (Role.Requester q) = q.0 < requesters
IsRole pools requesters Role.Reaper = ⊥

pub record IsFault (pools requesters : ℕ) (f : Fault) : Type 0 where
  pub role : IsRole pools requesters f.role
  pub after : f.after ≤ FAULT_ACTS

-- providers and the pools of all of them
pub record AreProviders (labels : ℕ) (providers : List Provider) (pools : List Pool) : Type 0 where
  pub each_provider : EachAfter IsProvider [] providers
  pub each_pool : EachAfter (StandsByOwner (λ (p : Pool). p.provider) (IsPool labels)) [] pools
  pub few_pools : length pools ≤ POOLS
  pub owned : All (λ p. p.provider < length providers) pools
  pub each_has_one : (k : ℕ) → k < length providers → 1 ≤ length (filter (λ p. p.provider == k) pools)

-- requesters and the jobs of all of them
pub record AreRequesters (labels semaphores tenants : ℕ) (requesters : List Requester) (jobs : List Job) : Type 0 where
  pub each_requester : EachAfter IsRequester [] requesters
  pub each_job : EachAfter (StandsByOwner (λ (j : Job). j.requester.0) (IsJob labels semaphores tenants)) [] jobs
  pub few_jobs : length jobs ≤ JOBS
  pub owned : All (λ j. j.requester.0 < length requesters) jobs

-- a configuration that a text can have
pub record IsSound (c : Configuration) : Type 0 where
  pub labels : EachAfter IsLabel [] c.labels
  pub few_labels : length c.labels ≤ LABELS
  pub max_hold_age : c.max_hold_age ≤ AGE
  pub supply : AreProviders (length c.labels) c.providers c.pools
  pub some_provider : 1 ≤ length c.providers
  pub few_providers : length c.providers ≤ PROVIDERS
  pub semaphores : EachAfter IsSem [] c.semaphores
  pub few_semaphores : length c.semaphores ≤ SEMAPHORES
  pub tenants : EachAfter IsTenant [] c.tenants
  pub few_tenants : length c.tenants ≤ TENANTS
  pub demand : AreRequesters (length c.labels) (length c.semaphores) (length c.tenants) c.requesters c.jobs
  pub few_requesters : length c.requesters ≤ REQUESTERS
  pub faults : All (IsFault (length c.pools) (length c.requesters)) c.faults
  pub few_faults : length c.faults ≤ FAULTS
