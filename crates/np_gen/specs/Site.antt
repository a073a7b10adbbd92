-- the drill site, and the numbers that are drawn for it
use Rattle.std.specs.Prelude.{ℕ, zero, suc, ◌+◌, ◌*◌, ◌/◌, ◌%◌, ◌^◌, ◌==◌, Bool, false, if◌then◌else◌, List, [], ◌∷◌, ◌++◌, codes, length, filter, replicate, Some, None}
use Rattle.std.specs.Fmt.{decimal}
use Rattle.np_gen.specs.Lower.{Configuration, Job, Label, LabelId, Limit, Offer, Pool, Provider, Requester, Sem, SemId, Used}

-- numbers that are drawn one after another from a state (Knuth: the linear congruential generator of MMIX)

-- the state after a draw
unfoldable pub next_state : ℕ → ℕ
next_state s = (s * 6364136223846793005 + 1442695040888963407) % 2 ^ 64

-- the number that is drawn at a state: the next state without its 33 low bits (own)
unfoldable pub draw : ℕ → ℕ
draw s = next_state s / 2 ^ 33

-- the state after a number of draws
abbrev pub after_draws : ℕ → ℕ → ℕ
after_draws zero s = s
after_draws (suc k) s = after_draws k (next_state s)

-- the drill site: a site of any size, made from its number of jobs alone (own)

-- ## the supply

-- a label of which no node is kept ready, and none is removed for its age
abbrev pub drill_label : List ℕ → Label
drill_label name = record { name = name; min_ready = 0; max_ready_age = 0 }

-- the labels, in order
abbrev pub drill_labels : List Label
drill_labels = drill_label (codes "l0") ∷ drill_label (codes "l1") ∷ drill_label (codes "l2") ∷ drill_label (codes "l3") ∷ []

-- the label at a place, from 0
abbrev pub label_at : ℕ → LabelId
label_at place = record { 0 = place }

-- a provider with three attempts at a node
abbrev pub drill_provider : List ℕ → Provider
drill_provider name = record { name = name; retries = 3; concurrency = None }

-- the providers, in order
abbrev pub drill_providers : List Provider
drill_providers = drill_provider (codes "c0") ∷ drill_provider (codes "c1") ∷ []

-- a label that is offered at one core and 1,024 MiB
abbrev pub drill_offer : ℕ → Offer
drill_offer label = record { label = label_at label; amount = record { instances = 1; cores = 1; ram = 1024 } }

-- at most eight servers, with any number of cores and any ram (Nodepool: `max-servers`)
abbrev pub eight_servers : Limit
eight_servers = record { instances = Some 8; cores = None; ram = None }

-- a pool of eight servers, which offers each label
abbrev pub drill_pool : ℕ → List ℕ → Pool
drill_pool provider name = record {
  provider = provider;
  name = name;
  limit = eight_servers;
  offers = drill_offer 0 ∷ drill_offer 1 ∷ drill_offer 2 ∷ drill_offer 3 ∷ [];
  fail_starts = [];
}

-- the pools: two of each provider
abbrev pub drill_pools : List Pool
drill_pools = drill_pool 0 (codes "m0") ∷ drill_pool 0 (codes "m1") ∷ drill_pool 1 (codes "m0") ∷ drill_pool 1 (codes "m1") ∷ []

-- the semaphores: one job may hold `deploy` at a time, and two jobs `stage` (Zuul: `max`)
abbrev pub drill_semaphores : List Sem
drill_semaphores = record { name = codes "deploy"; max = 1 } ∷ record { name = codes "stage"; max = 2 } ∷ []

-- the place of `deploy`
abbrev pub deploy : SemId
deploy = record { 0 = 0 }

-- the place of `stage`
abbrev pub stage : SemId
stage = record { 0 = 1 }

-- ## the requesters

-- a requester that works on eight jobs at the same time
abbrev pub drill_requester : List ℕ → Requester
drill_requester name = record { name = name; window = 8 }

-- the requesters, in order
abbrev pub drill_requesters : List Requester
drill_requesters = drill_requester (codes "z0") ∷ drill_requester (codes "z1") ∷ drill_requester (codes "z2") ∷ drill_requester (codes "z3") ∷ []

-- ## one job, by its number and the state at which it is drawn

-- every tenth job is large, and nothing of it is drawn
abbrev pub is_large : ℕ → Bool
is_large i = i % 10 == 9

-- how many labels any other job asks for, by its first draw: one to three
abbrev pub label_count : ℕ → ℕ
label_count s = draw s % 3 + 1

-- a number of labels, one draw each
abbrev pub drawn_labels : ℕ → ℕ → List LabelId
drawn_labels zero s = []
drawn_labels (suc k) s = label_at (draw s % 4) ∷ drawn_labels k (next_state s)

-- a large job asks for nine nodes, more than a pool of eight servers may have
abbrev pub job_labels : ℕ → ℕ → List LabelId
job_labels i s = if is_large i then replicate 9 (label_at 0) else drawn_labels (label_count s) (next_state s)

-- high, normal or low, by the value of the draw after the labels
abbrev pub drawn_priority : ℕ → ℕ
drawn_priority d = if d % 3 == 0 then 100 else (if d % 3 == 1 then 200 else 300)

-- a large job has the normal priority, any other its drawn priority
abbrev pub job_priority : ℕ → ℕ → ℕ
job_priority i s = if is_large i then 200 else drawn_priority (draw (after_draws (label_count s + 1) s))

-- `deploy` for one value in eight, `stage` for another, and no semaphore for the others, by the
-- draw after the priority
abbrev pub drawn_semaphores : ℕ → List SemId
drawn_semaphores d = if d % 8 == 0 then deploy ∷ [] else (if d % 8 == 1 then stage ∷ [] else [])

-- a large job takes no semaphore, any other its drawn semaphores
abbrev pub job_semaphores : ℕ → ℕ → List SemId
job_semaphores i s = if is_large i then [] else drawn_semaphores (draw (after_draws (label_count s + 2) s))

-- `j` and the number in decimal
abbrev pub job_name : ℕ → List ℕ
job_name i = codes "j" ++ decimal i

-- the job with a number; what is not drawn has its default
abbrev pub drill_job : ℕ → ℕ → Job
drill_job i s = record {
  requester = record { 0 = i % 4 };
  name = job_name i;
  labels = job_labels i s;
  priority = job_priority i s;
  relative_priority = 0;
  semaphores = job_semaphores i s;
  resources_first = false;
  end = Used;
  tenant = record { 0 = 0 };
}

-- the state after a job was drawn: one draw for the number of labels, one for each label, and two more
abbrev pub after_job : ℕ → ℕ → ℕ
after_job i s = if is_large i then s else after_draws (label_count s + 3) s

-- ## all jobs

-- k jobs from number i, drawn one after another
abbrev pub jobs_from : ℕ → ℕ → ℕ → List Job
jobs_from zero i s = []
jobs_from (suc k) i s = drill_job i s ∷ jobs_from k (i + 1) (after_job i s)

-- n jobs; the first state is their number
abbrev pub drawn_jobs : ℕ → List Job
drawn_jobs n = jobs_from n 0 n

-- a job asks for nine labels
abbrev pub asks_for_nine : Job → Bool
asks_for_nine job = length job.labels == 9

-- the jobs of one requester
abbrev pub jobs_of : ℕ → List Job → List Job
jobs_of q jobs = filter (λ j. j.requester.0 == q) jobs

-- the jobs in the order of their requesters
abbrev pub drill_jobs : ℕ → List Job
drill_jobs n = jobs_of 0 (drawn_jobs n) ++ jobs_of 1 (drawn_jobs n) ++ jobs_of 2 (drawn_jobs n) ++ jobs_of 3 (drawn_jobs n)

-- ## the site

-- the drill site with n jobs
unfoldable pub drill_site : ℕ → Configuration
drill_site n = record {
  labels = drill_labels;
  providers = drill_providers;
  pools = drill_pools;
  semaphores = drill_semaphores;
  tenants = [];
  requesters = drill_requesters;
  jobs = drill_jobs n;
  faults = [];
  max_hold_age = 0;
}
