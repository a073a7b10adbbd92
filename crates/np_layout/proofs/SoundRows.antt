-- what the rows of a sound configuration say of the numbers in records
use Rattle.np_layout.proofs.Prelude.{All, All-head, All-tail, AllByRecursion, Configuration, EachAfter, IfSome, IsLabel, IsOffer, IsPool, IsPriority, IsSessionRole, IsSound, IsWanted, JobId, LabelId, Launcher, List, None, Offer, Option, Pool, PoolId, RequestRecord, Role, SemId, Some, StandsByOwner, [], all-at, all-find, arith, find, find-passes, is_offered, is_role, is_some, length, nat_tests, offers_of, option_and_then, option_map, option_map_or, refl, slice_get, some-within, tenant_of_request, true, ◌++◌, ◌<◌, ◌==◌, ◌^◌, ◌∷◌, ◌≡◌, ◌≤◌}
use Rattle.np_machine.specs.Prelude.{IsTaken}
use Rattle.np_changes.specs.Prelude.{IsJob, Job}

-- ## rows

-- what each row implies is true of all of them
pub all-rows : {T : Type 0} (Q : T → Type 0) (P : List T → T → Type 0) → ((e : List T) (x : T) → P e x → Q x) → (earlier xs : List T) → EachAfter P earlier xs → AllByRecursion Q xs
all-rows Q P says earlier [] each = tt
all-rows Q P says earlier (x ∷ xs) each = (says earlier x each.0, all-rows Q P says (earlier ++ x ∷ []) xs each.1)

-- what is true of each member, said another way
pub all-members : {T : Type 0} (Q R : T → Type 0) → ((x : T) → Q x → R x) → (xs : List T) → All Q xs → AllByRecursion R xs
all-members Q R says [] all = tt
all-members Q R says (x ∷ xs) all = (says x (All-head Q x xs all), all-members Q R says xs (All-tail Q x xs all))

-- ## pools, requesters and roles

-- the number of a pool fits its type
pub pool-low : (c : Configuration) (p : PoolId) → IsSound c → p.0 < length c.pools → p.0 < 2 ^ 16
pool-low c p sound low = let few = sound.supply.few_pools in omega arith

-- a role of the configuration may have a session
pub role-low : (c : Configuration) (r : Role) → IsSound c → is_role c r ≡ true → IsSessionRole r
role-low c (Role.Launcher p) sound is = pool-low c p sound (some-within c.pools p.0 (slice_get c.pools p.0) refl is)
role-low c (Role.Janitor p) sound is = pool-low c p sound (some-within c.pools p.0 (slice_get c.pools p.0) refl is)
role-low c (Role.Requester q) sound is =
    let few = sound.few_requesters in
    let low = some-within c.requesters q.0 (slice_get c.requesters q.0) refl is in
    omega arith
role-low c Role.Reaper sound is = absurd cc

-- ## jobs

-- what a job's row says
pub record JobRow (c : Configuration) (job : Job) : Type 0 where
  pub labels : AllByRecursion IsLabel job.labels
  pub few : length job.labels ≤ 32
  pub priority : IsPriority job.priority
  pub relative : job.relative_priority < 2 ^ 32
  pub tenant : job.tenant.0 < 2 ^ 16
  pub taken : AllByRecursion (λ x. x.0 < length c.semaphores) job.semaphores
  pub few_taken : length job.semaphores ≤ 8

job-says : (c : Configuration) → IsSound c → (e : List Job) (job : Job) → StandsByOwner (λ (x : Job). x.requester.0) (IsJob (length c.labels) (length c.semaphores) (length c.tenants)) e job → JobRow c job
job-says c sound e job stands =
    let labels = all-members (IsWanted (length c.labels)) IsLabel (λ l low. let few = sound.few_labels in omega arith) job.labels stands.own.wanted in
    let taken = all-rows (λ (x : SemId). x.0 < length c.semaphores) (IsTaken (length c.semaphores)) (λ e x is. is.semaphore) [] job.semaphores stands.own.taken in
    search (arith, stands.own, sound.few_tenants)

-- the row of a job of a sound configuration
pub job-row : (c : Configuration) → IsSound c → (j : JobId) (job : Job) → slice_get c.jobs j.0 ≡ Some job → JobRow c job
job-row c sound j job there =
    all-at (JobRow c) c.jobs j.0 job
    (all-rows (JobRow c) (StandsByOwner (λ (x : Job). x.requester.0) (IsJob (length c.labels) (length c.semaphores) (length c.tenants))) (job-says c sound) [] c.jobs sound.demand.each_job) there

-- the number of a job fits its type
pub job-low : (c : Configuration) (j : JobId) → IsSound c → j.0 < length c.jobs → j.0 < 2 ^ 32
job-low c j sound low = let few = sound.demand.few_jobs in omega arith

tenant-by : (c : Configuration) → IsSound c → (j : JobId) (o : Option Job) → slice_get c.jobs j.0 ≡ o → IfSome (option_map (λ job. job.tenant) o) (λ t. t.0 < 2 ^ 16)
tenant-by c sound j None is = tt
tenant-by c sound j (Some job) is = let row = job-row c sound j job is in row.tenant

-- the number of a request's tenant fits its type
pub tenant-low : (c : Configuration) → IsSound c → (o : Option JobId) → IfSome (option_map (λ job. job.tenant) (option_and_then (λ j. slice_get c.jobs j.0) o)) (λ t. t.0 < 2 ^ 16)
tenant-low c sound None = tt
tenant-low c sound (Some j) = tenant-by c sound j (slice_get c.jobs j.0) refl

-- ## offers

offers-by : (c : Configuration) → IsSound c → (o : Option Pool) (p : PoolId) → slice_get c.pools p.0 ≡ o → AllByRecursion (λ x. IsLabel x.label) (option_map_or (λ pool. pool.offers) o [])
offers-by c sound None p is = tt
offers-by c sound (Some pool) p is =
    all-at (λ (x : Pool). AllByRecursion (λ y. IsLabel y.label) x.offers) c.pools p.0 pool
    (all-rows (λ (x : Pool). AllByRecursion (λ y. IsLabel y.label) x.offers) (StandsByOwner (λ (x : Pool). x.provider) (IsPool (length c.labels)))
    (λ e x stands. all-rows (λ (y : Offer). IsLabel y.label) (IsOffer (length c.labels)) (λ earlier y is. let few = sound.few_labels in let low = is.label in omega arith) [] x.offers stands.own.offers)
    [] c.pools sound.supply.each_pool) is

offered-by : (l : LabelId) (offers : List Offer) (o : Option Offer) → find (λ x. x.label.0 == l.0) offers ≡ o → AllByRecursion (λ x. IsLabel x.label) offers → is_some o ≡ true → IsLabel l
offered-by l offers None is low some = absurd cc
offered-by l offers (Some x) is low some =
    let here : (x.label.0 == l.0) ≡ true = find-passes (λ (y : Offer). y.label.0 == l.0) offers x is in
    let same : x.label.0 ≡ l.0 = grind (arith, nat_tests) in
    let bound : x.label.0 < 2 ^ 16 = all-find (λ (y : Offer). IsLabel y.label) (λ y. y.label.0 == l.0) offers x low is in
    omega arith

-- the number of a label that a pool offers fits its type
pub label-low : (c : Configuration) → IsSound c → (p : PoolId) (l : LabelId) → is_offered c p l ≡ true → IsLabel l
label-low c sound p l is = offered-by l (offers_of c p) (find (λ x. x.label.0 == l.0) (offers_of c p)) refl (offers-by c sound (slice_get c.pools p.0) p refl) is
