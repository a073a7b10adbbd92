-- requesters and their jobs, as they are read, and what an absent key means
use Rattle.std.specs.Prelude.{◌≡◌, ℕ, List, [], ◌∷◌, codes, false, None, Result, ◌++◌, length, if◌then◌else◌, Option, Some, Ok}
use Rattle.std.specs.List.{AllByRecursion}
use Rattle.serde_json.specs.Data.{Data, number, unsigned, boolean, string, array, object, no_items, Members, put}
use Rattle.serde_json.specs.Find.{get}
use Rattle.np_config_read.specs.Lower.{ConfigFault, JOBS, JOB_LABELS, JOB_SEMAPHORES, Job, Label, LabelId, RELATIVE_PRIORITY, ReadsItem, Repeated, Requester, RequesterId, Sem, SemId, Tenant, UnknownName, Used, WINDOW, at_most, behind, below, end_as_of, fault, flag_or, found, is_untaken, list_maybe, list_required, named_at, need, one_to, text_value, whole_or}
use Rattle.std.specs.Option.{option_map_or}
use Rattle.std.specs.Str.{bytes_eq}
use Rattle.np_lists.specs.Refusals.{◌>>=◌, ◌>>◌}
use Rattle.np_config_read.specs.declared.requesters.Demand.{Demand}
use Rattle.np_config_read.specs.declared.requesters.JobsOf.{JobsOf}
use Rattle.np_config_read.specs.declared.requesters.Requesters.{Requesters}
use Rattle.np_config_read.specs.Providers.{semaphore_named, tenant_id, tenant_named, requester_keys, job_keys, label_value}

-- what an absent key means (defaults own)

-- a whole number
abbrev pub count : ℕ → Data
count n = number (unsigned n)

-- a key, and the value that it has if it is absent
pub record Default : Type 0 where
  pub key : List ℕ
  pub value : Data

-- an object without the key reads as that object with the value put in
abbrev pub StandsFor : {R : Type 0} → (Data → Result R ConfigFault) → Default → Type 0
StandsFor read x = (ms : Members) → get x.key (object ms) ≡ None → read (object (put x.key x.value ms)) ≡ read (object ms)

abbrev pub AllStand : {R : Type 0} → (Data → Result R ConfigFault) → List Default → Type 0
AllStand read xs = AllByRecursion (StandsFor read) xs

-- the default of a key
abbrev pub default : List ℕ → Data → Default
default key value = record { key = key; value = value }

abbrev pub no_rows : Data
no_rows = array no_items

abbrev pub top_defaults : List Default
top_defaults = default (codes "max-hold-age") (count 0) ∷ default (codes "semaphores") no_rows ∷ default (codes "tenants") no_rows ∷ default (codes "requesters") no_rows ∷ default (codes "faults") no_rows ∷ []

abbrev pub label_defaults : List Default
label_defaults = default (codes "min-ready") (count 0) ∷ default (codes "max-ready-age") (count 0) ∷ []

-- an absent `max-concurrency` is no limit
abbrev pub provider_defaults : List Default
provider_defaults = default (codes "launch-retries") (count 3) ∷ []

-- an absent `max-servers`, `max-cores` or `max-ram` is no limit, of a tenant too
abbrev pub pool_defaults : List Default
pool_defaults = default (codes "fail-starts") no_rows ∷ []

abbrev pub offer_defaults : List Default
offer_defaults = default (codes "cores") (count 1) ∷ default (codes "ram") (count 1024) ∷ []

abbrev pub semaphore_defaults : List Default
semaphore_defaults = default (codes "max") (count 1) ∷ []

abbrev pub requester_defaults : List Default
requester_defaults = default (codes "window") (count 20) ∷ default (codes "jobs") no_rows ∷ []

abbrev pub job_defaults : List Default
job_defaults =
    default (codes "priority") (string (codes "normal"))
    ∷ default (codes "relative-priority") (count 0)
    ∷ default (codes "semaphores") no_rows
    ∷ default (codes "resources-first") (boolean false)
    ∷ default (codes "end") (string (codes "used"))
    ∷ default (codes "tenant") (string (codes "default"))
    ∷ []

-- requesters and their jobs, as they are read

-- one label that a job requests
unfoldable pub wanted_at : List Label → ReadsItem (List LabelId)
wanted_at labels at earlier d = label_value labels at d >>= λ label. Ok (earlier ++ label ∷ [])

-- the semaphore with this name
unfoldable pub semaphore_for : List Sem → List ℕ → List ℕ → Result SemId ConfigFault
semaphore_for semaphores at text = found (semaphore_named semaphores text) (fault UnknownName at) >>= λ n. Ok (record { 0 = n })

-- a semaphore that the job did not name before
unfoldable pub taken_at : List Sem → ReadsItem (List SemId)
taken_at semaphores at earlier d = do
  text ← text_value at d
  semaphore ← semaphore_for semaphores at text
  need (is_untaken earlier semaphore) (fault Repeated at)
  Ok (earlier ++ semaphore ∷ [])

-- high, normal and low (Zuul's `precedence` of a pipeline; the numbers are own)
abbrev pub priority_of : List ℕ → Option ℕ
priority_of word = if bytes_eq word (codes "high") then Some 100 else (if bytes_eq word (codes "normal") then Some 200 else (if bytes_eq word (codes "low") then Some 300 else None))

-- what a word means
abbrev pub meaning_of : {A : Type 0} → (List ℕ → Option A) → List ℕ → List ℕ → Result A ConfigFault
meaning_of meaning at word = found (meaning word) (fault UnknownName at)

-- a word with a meaning
unfoldable pub word_value : {A : Type 0} → (List ℕ → Option A) → List ℕ → Data → Result A ConfigFault
word_value meaning at d = text_value at d >>= meaning_of meaning at

-- a word with a meaning, or its default if it is absent
abbrev pub word_or : {A : Type 0} → (List ℕ → Option A) → List ℕ → List ℕ → A → Data → Result A ConfigFault
word_or meaning at key absent d = option_map_or (word_value meaning (below at key)) (get key d) (Ok absent)

-- the labels that a job requests
unfoldable pub wants_at : List Label → List ℕ → Data → Result (List LabelId) ConfigFault
wants_at labels at d = list_required (wanted_at labels) at (codes "labels") (one_to JOB_LABELS) [] d

-- the semaphores that a job takes
unfoldable pub takes_at : List Sem → List ℕ → Data → Result (List SemId) ConfigFault
takes_at semaphores at d = list_maybe (taken_at semaphores) at (codes "semaphores") (at_most JOB_SEMAPHORES) [] d

-- what a job requests, and when: its labels, its priority and its relative priority
unfoldable pub demand_at : List Label → List ℕ → Data → Result Demand ConfigFault
demand_at labels at d = do
  wanted ← wants_at labels at d
  priority ← word_or priority_of at (codes "priority") 200 d
  relative ← whole_or at (codes "relative-priority") 0 RELATIVE_PRIORITY 0 d
  Ok (record { labels = wanted; priority = priority; relative_priority = relative })

-- the rest of a job of a requester (Zuul: `resources-first` on a semaphore, here on the job;
-- defaults own)
unfoldable pub job_row : List Sem → List Tenant → List ℕ → RequesterId → List ℕ → Demand → Data → Result Job ConfigFault
job_row semaphores tenants at requester name demand d = do
  taken ← takes_at semaphores at d
  first ← flag_or at (codes "resources-first") false d
  end ← word_or end_as_of at (codes "end") Used d
  tenant ← word_or (tenant_named tenants) at (codes "tenant") (tenant_id 0) d
  Ok (record { requester = requester; name = name; labels = demand.labels; priority = demand.priority; relative_priority = demand.relative_priority; semaphores = taken; resources_first = first; end = end; tenant = tenant })

-- what was read so far: the jobs of the requester at a place; requesters, with the jobs of all
abbrev pub JobsSoFar : Type 0
JobsSoFar = JobsOf

abbrev pub RequestersSoFar : Type 0
RequestersSoFar = Requesters

-- a job, given those of its requester before it (own)
unfoldable pub job_at : List Label → List Sem → List Tenant → ReadsItem JobsSoFar
job_at labels semaphores tenants at s d = do
  name ← named_at (λ (j : Job). j.name) job_keys at s.jobs d
  demand ← demand_at labels at d
  job ← job_row semaphores tenants at s.requester name demand d
  Ok (record s { jobs = s.jobs ++ job ∷ [] })

-- the jobs of a requester, after this many of earlier requesters
unfoldable pub jobs_at : List Label → List Sem → List Tenant → List ℕ → ℕ → RequesterId → Data → Result JobsOf ConfigFault
jobs_at labels semaphores tenants at earlier requester d = list_maybe (job_at labels semaphores tenants) at (codes "jobs") (behind earlier (at_most JOBS)) (record { requester = requester; jobs = [] }) d

-- the rest of a requester (Zuul: `window`; range and default own)
unfoldable pub requester_row : List ℕ → List ℕ → Data → Result Requester ConfigFault
requester_row at name d = do
  window ← whole_or at (codes "window") 1 WINDOW 20 d
  Ok (record { name = name; window = window })

-- a requester, given those before it, with its jobs (own)
unfoldable pub requester_at : List Label → List Sem → List Tenant → ReadsItem RequestersSoFar
requester_at labels semaphores tenants at s d = do
  name ← named_at (λ (q : Requester). q.name) requester_keys at s.requesters d
  requester ← requester_row at name d
  own ← jobs_at labels semaphores tenants at (length s.jobs) (record { 0 = length s.requesters }) d
  Ok (record { requesters = s.requesters ++ requester ∷ []; jobs = s.jobs ++ own.jobs })
