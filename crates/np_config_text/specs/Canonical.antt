-- the one text of a configuration: compact JSON, keys in byte order, every default written except
-- an empty list of tenants and a job's tenant `default`, an absent limit left absent (own)
use Rattle.std.specs.Prelude.{ℕ, ◌+◌, ◌==◌, List, [], ◌∷◌, codes, length, map, filter, slice_get, Option, Some, None, if◌then◌else◌, ◌++◌, false}
use Rattle.std.specs.Option.{option_map, option_map_or}
use Rattle.serde_json.specs.Data.{Data, boolean, string, array, object, Members, no_members, member, put}
use Rattle.serde_json.specs.View.{items_of}
use Rattle.serde_json.specs.Written.{compact_text}
use Rattle.np_config_text.specs.Lower.{Configuration, Fault, Janitor, Job, Label, LabelId, Limit, Offer, Pool, PoolId, Provider, Requester, RequesterId, Role, RoleKind, Sem, SemId, Stop, Tenant, TenantId, Used, count, end_as_word, fault_kind_word, json, pool_name, role_kind_word, tenant_of}

-- a member that may be absent
abbrev pub given : List ℕ → Option Data → Members → Members
given key None ms = ms
given key (Some d) ms = member key d ms

-- a number that may be absent
abbrev pub given_count : List ℕ → Option ℕ → Members → Members
given_count key o ms = given key (option_map count o) ms

-- the limits that are there
abbrev pub given_limit : Limit → Members → Members
given_limit l ms = given_count (codes "max-cores") l.cores (given_count (codes "max-ram") l.ram (given_count (codes "max-servers") l.instances ms))

-- the rows of a list, each with its own value
abbrev pub list_data : {T : Type 0} → (T → Data) → List T → Data
list_data shown xs = array (items_of (map shown xs))

-- such a list, if it has any row
abbrev pub list_if_any : {T : Type 0} → (T → Data) → List T → Option Data
list_if_any shown xs = if length xs == 0 then None else Some (list_data shown xs)

abbrev pub label_data : Label → Data
label_data l = object (member (codes "max-ready-age") (count l.max_ready_age) (member (codes "min-ready") (count l.min_ready) (member (codes "name") (string l.name) no_members)))

-- the names that ids stand for
abbrev pub label_name : Configuration → LabelId → List ℕ
label_name c l = option_map_or (λ r. r.name) (slice_get c.labels l.0) []

abbrev pub semaphore_name : Configuration → SemId → List ℕ
semaphore_name c s = option_map_or (λ r. r.name) (slice_get c.semaphores s.0) []

abbrev pub tenant_name : Configuration → TenantId → List ℕ
tenant_name c t = option_map_or (λ r. r.name) (tenant_of c t) []

abbrev pub requester_name : Configuration → RequesterId → List ℕ
requester_name c q = option_map_or (λ r. r.name) (slice_get c.requesters q.0) []

abbrev pub full_name : Configuration → PoolId → List ℕ
full_name c p = option_map_or (pool_name c.providers) (slice_get c.pools p.0) []

abbrev pub offer_data : Configuration → Offer → Data
offer_data c o = object (member (codes "cores") (count o.amount.cores) (member (codes "name") (string (label_name c o.label)) (member (codes "ram") (count o.amount.ram) no_members)))

abbrev pub pool_data : Configuration → Pool → Data
pool_data c p = object (
    member (codes "fail-starts") (list_data count p.fail_starts) (
    member (codes "labels") (list_data (offer_data c) p.offers) (
    given_limit p.limit (
    member (codes "name") (string p.name) no_members))))

-- the pools of the provider at a place
abbrev pub pools_of : Configuration → ℕ → List Pool
pools_of c k = filter (λ p. p.provider == k) c.pools

abbrev pub provider_data : Configuration → ℕ → Provider → Data
provider_data c k p = object (
    member (codes "launch-retries") (count p.retries) (
    given_count (codes "max-concurrency") p.concurrency (
    member (codes "name") (string p.name) (
    member (codes "pools") (list_data (pool_data c) (pools_of c k)) no_members))))

-- the rows from the k-th on, each with its place
abbrev pub placed : {T : Type 0} → (ℕ → T → Data) → ℕ → List T → List Data
placed shown k [] = []
placed shown k (x ∷ xs) = shown k x ∷ placed shown (k + 1) xs

abbrev pub semaphore_data : Sem → Data
semaphore_data s = object (member (codes "max") (count s.max) (member (codes "name") (string s.name) no_members))

abbrev pub tenant_data : Tenant → Data
tenant_data t = object (given_limit t.limit (member (codes "name") (string t.name) no_members))

-- the tenant of a job, if it isn't the default one
abbrev pub job_tenant : Configuration → TenantId → Option Data
job_tenant c t = if t.0 == 0 then None else Some (string (tenant_name c t))

-- the word of a priority
abbrev pub priority_word : ℕ → List ℕ
priority_word n = if n == 100 then codes "high" else (if n == 200 then codes "normal" else codes "low")

abbrev pub job_data : Configuration → Job → Data
job_data c j = object (
    member (codes "end") (string (end_as_word j.end)) (
    member (codes "labels") (list_data (λ l. string (label_name c l)) j.labels) (
    member (codes "name") (string j.name) (
    member (codes "priority") (string (priority_word j.priority)) (
    member (codes "relative-priority") (count j.relative_priority) (
    member (codes "resources-first") (boolean j.resources_first) (
    member (codes "semaphores") (list_data (λ s. string (semaphore_name c s)) j.semaphores) (
    given (codes "tenant") (job_tenant c j.tenant) no_members))))))))

-- the jobs of the requester at a place
abbrev pub jobs_of : Configuration → ℕ → List Job
jobs_of c k = filter (λ j. j.requester.0 == k) c.jobs

abbrev pub requester_data : Configuration → ℕ → Requester → Data
requester_data c k q = object (member (codes "jobs") (list_data (job_data c) (jobs_of c k)) (member (codes "name") (string q.name) (member (codes "window") (count q.window) no_members)))

-- the word of the kind of a role; the reaper has no fault
abbrev pub role_word : Role → List ℕ
role_word (Role.Launcher p) = role_kind_word RoleKind.Launcher
role_word (Role.Janitor p) = role_kind_word RoleKind.Janitor
role_word (Role.Requester q) = role_kind_word RoleKind.Requester
role_word Role.Reaper = []

-- the name that a fault's role goes by
abbrev pub role_name : Configuration → Role → List ℕ
role_name c (Role.Launcher p) = full_name c p
role_name c (Role.Janitor p) = full_name c p
role_name c (Role.Requester q) = requester_name c q
role_name c Role.Reaper = []

abbrev pub fault_data : Configuration → Fault → Data
fault_data c f = object (
    member (codes "after") (count f.after) (
    member (codes "kind") (string (fault_kind_word f.kind)) (
    member (codes "name") (string (role_name c f.role)) (
    member (codes "role") (string (role_word f.role)) no_members))))

-- the JSON value of a configuration
abbrev pub configuration_data : Configuration → Data
configuration_data c = object (
    member (codes "faults") (list_data (fault_data c) c.faults) (
    member (codes "labels") (list_data label_data c.labels) (
    member (codes "max-hold-age") (count c.max_hold_age) (
    member (codes "providers") (array (items_of (placed (provider_data c) 0 c.providers))) (
    member (codes "requesters") (array (items_of (placed (requester_data c) 0 c.requesters))) (
    member (codes "semaphores") (list_data semaphore_data c.semaphores) (
    given (codes "tenants") (list_if_any tenant_data c.tenants) no_members)))))))

-- the text
unfoldable pub canonical : Configuration → List ℕ
canonical c = compact_text (configuration_data c)

-- how the code puts members that may be absent; no definition of the text depends on this

-- the members, with the value at a key if there is one
abbrev pub put_given : List ℕ → Option Data → Members → Members
put_given key None ms = ms
put_given key (Some d) ms = put key d ms

abbrev pub put_count : List ℕ → Option ℕ → Members → Members
put_count key o ms = put_given key (option_map count o) ms

abbrev pub put_limit : Limit → Members → Members
put_limit l ms = put_count (codes "max-servers") l.instances (put_count (codes "max-ram") l.ram (put_count (codes "max-cores") l.cores ms))

-- a text with every optional key absent, what it is read as, and its canonical text

abbrev pub worked_text : List ℕ
worked_text = json (
    codes "{'labels':[{'name':'a'}],"
    ++ codes "'providers':[{'name':'c','pools':[{'name':'m','labels':[{'name':'a'}]}]}],"
    ++ codes "'semaphores':[{'name':'s'}],"
    ++ codes "'requesters':[{'name':'z','jobs':[{'name':'j','labels':['a']}]}],"
    ++ codes "'faults':[{'role':'janitor','name':'c/m','kind':'stop','after':3}]}")

abbrev first_label : LabelId
first_label = record { 0 = 0 }

abbrev pub worked : Configuration
worked = record {
  labels = record { name = codes "a"; min_ready = 0; max_ready_age = 0 } ∷ [];
  providers = record { name = codes "c"; retries = 3; concurrency = None } ∷ [];
  pools = record {
    provider = 0;
    name = codes "m";
    limit = record { instances = None; cores = None; ram = None };
    offers = record { label = first_label; amount = record { instances = 1; cores = 1; ram = 1024 } } ∷ [];
    fail_starts = [];
  } ∷ [];
  semaphores = record { name = codes "s"; max = 1 } ∷ [];
  tenants = [];
  requesters = record { name = codes "z"; window = 20 } ∷ [];
  jobs = record {
    requester = record { 0 = 0 };
    name = codes "j";
    labels = first_label ∷ [];
    priority = 200;
    relative_priority = 0;
    semaphores = [];
    resources_first = false;
    end = Used;
    tenant = record { 0 = 0 };
  } ∷ [];
  faults = record { role = Janitor (record { 0 = 0 }); kind = Stop; after = 3 } ∷ [];
  max_hold_age = 0;
}

abbrev pub worked_canonical : List ℕ
worked_canonical = json (
    codes "{'faults':[{'after':3,'kind':'stop','name':'c/m','role':'janitor'}],"
    ++ codes "'labels':[{'max-ready-age':0,'min-ready':0,'name':'a'}],"
    ++ codes "'max-hold-age':0,"
    ++ codes "'providers':[{'launch-retries':3,'name':'c','pools':[{'fail-starts':[],'labels':[{'cores':1,'name':'a','ram':1024}],'name':'m'}]}],"
    ++ codes "'requesters':[{'jobs':[{'end':'used','labels':['a'],'name':'j','priority':'normal','relative-priority':0,'resources-first':false,'semaphores':[]}],'name':'z','window':20}],"
    ++ codes "'semaphores':[{'max':1,'name':'s'}]}")
