-- the findings of a configuration, the line of each, and what is printed about a text
use Rattle.std.specs.Prelude.{ℕ, zero, suc, ◌+◌, ◌==◌, List, [], ◌∷◌, ◌++◌, Bool, ◌&&◌, not, filter, length, map, codes, slice_get, ◌≡◌, ◌≤◌, decimal, Result, Ok, Err}
use Rattle.std.specs.List.{list_any, flat_map}
use Rattle.np_check.specs.declared.finding.Finding.{Finding}
use Rattle.np_check.specs.declared.finding.Finding.TheVariants.{LabelUnoffered, ReadyNodesAge, PoolUnusable, OfferTooLarge, SemaphoreUnnamed, TenantUnnamed, JobUnoffered, JobTooLarge, JobAboveTenant}
use Rattle.np_check.specs.Demand.{some_pool, asks, is_unoffered, is_too_large, is_above_tenant, is_restless}
use Rattle.np_check.specs.Lower.{Configuration, Job, LabelId, PoolId, SemId, amount_of, fits, is_offered, limit_of, offers_of, JobId, TenantId, pool_name, tenant_of, ConfigFault, ConfigKind}
use Rattle.std.specs.Option.{option_map_or}
use Rattle.np_check.specs.declared.report.Report.{Report}
use Rattle.np_check.specs.declared.report.Verdict.{Verdict}
use Rattle.np_check.specs.declared.report.Verdict.TheVariants.{Quiet, Surprising, Faulty}
use Rattle.np_check.specs.declared.spot.Spot.{Spot}
use Rattle.np_check.specs.Spot.{spot_of}

-- what will surprise the author of a configuration: each finding once, in this order

-- a node of the label is within the limits of the pool, however empty that is
abbrev pub allows : Configuration → PoolId → LabelId → Bool
allows c p l = fits (amount_of c p l) (limit_of c p)

-- the pool can have a node of some label that it offers
abbrev pub is_usable : Configuration → PoolId → Bool
is_usable c p = list_any (λ o. allows c p o.label) (offers_of c p)

-- the job takes the semaphore
abbrev pub takes : SemId → Job → Bool
takes s job = list_any (λ x. x.0 == s.0) job.semaphores

-- when a finding is true
abbrev pub is_true : Configuration → Finding → Bool
is_true c (LabelUnoffered l) = not (some_pool c (λ p. is_offered c p l))
is_true c (ReadyNodesAge l) = is_restless c l
is_true c (PoolUnusable p) = not (is_usable c p)
is_true c (OfferTooLarge p l) = is_usable c p && not (allows c p l)
is_true c (SemaphoreUnnamed s) = not (list_any (takes s) c.jobs)
is_true c (TenantUnnamed t) = not (list_any (λ job. job.tenant.0 == t.0) c.jobs)
is_true c (JobUnoffered j) = asks c j (is_unoffered c)
is_true c (JobTooLarge j) = asks c j (is_too_large c)
is_true c (JobAboveTenant j) = asks c j (is_above_tenant c)

-- the lists of the places below this one, joined
abbrev pub places : {A : Type 0} → (ℕ → List A) → ℕ → List A
places of_place zero = []
places of_place (suc n) = places of_place n ++ of_place n

-- what there could be to find of each label, pool, semaphore, tenant and job, by its place

abbrev pub of_label : ℕ → List Finding
of_label n = LabelUnoffered (record { 0 = n }) ∷ ReadyNodesAge (record { 0 = n }) ∷ []

abbrev pub of_pool : Configuration → ℕ → List Finding
of_pool c n = PoolUnusable (record { 0 = n }) ∷ map (λ o. OfferTooLarge (record { 0 = n }) o.label) (offers_of c (record { 0 = n }))

abbrev pub of_semaphore : ℕ → List Finding
of_semaphore n = SemaphoreUnnamed (record { 0 = n }) ∷ []

-- the listed tenants count from 1
abbrev pub of_tenant : ℕ → List Finding
of_tenant n = TenantUnnamed (record { 0 = n + 1 }) ∷ []

abbrev pub of_job : ℕ → List Finding
of_job n = JobUnoffered (record { 0 = n }) ∷ JobTooLarge (record { 0 = n }) ∷ JobAboveTenant (record { 0 = n }) ∷ []

abbrev pub candidates : Configuration → List Finding
candidates c =
    places of_label (length c.labels)
    ++ places (of_pool c) (length c.pools)
    ++ places of_semaphore (length c.semaphores)
    ++ places of_tenant (length c.tenants)
    ++ places of_job (length c.jobs)

-- all that is true of them
abbrev pub findings : Configuration → List Finding
findings c = filter (is_true c) (candidates c)

-- findings as lines for people, with the names of the configuration

abbrev pub label_name : Configuration → LabelId → List ℕ
label_name c l = option_map_or (λ label. label.name) (slice_get c.labels l.0) []

abbrev pub semaphore_name : Configuration → SemId → List ℕ
semaphore_name c s = option_map_or (λ semaphore. semaphore.name) (slice_get c.semaphores s.0) []

abbrev pub tenant_name : Configuration → TenantId → List ℕ
tenant_name c t = option_map_or (λ tenant. tenant.name) (tenant_of c t) []

-- the names of the pool's provider and its own
abbrev pub full_name : Configuration → PoolId → List ℕ
full_name c p = option_map_or (pool_name c.providers) (slice_get c.pools p.0) []

-- the names of the job's requester and its own
abbrev pub own_name : Configuration → Job → List ℕ
own_name c job = option_map_or (λ requester. requester.name) (slice_get c.requesters job.requester.0) [] ++ 47 ∷ job.name

abbrev pub job_name : Configuration → JobId → List ℕ
job_name c j = option_map_or (own_name c) (slice_get c.jobs j.0) []

-- what kind of thing the finding is about
abbrev pub kind : Finding → List ℕ
kind (LabelUnoffered l) = codes "label "
kind (ReadyNodesAge l) = codes "label "
kind (PoolUnusable p) = codes "pool "
kind (OfferTooLarge p l) = codes "pool "
kind (SemaphoreUnnamed s) = codes "semaphore "
kind (TenantUnnamed t) = codes "tenant "
kind (JobUnoffered j) = codes "job "
kind (JobTooLarge j) = codes "job "
kind (JobAboveTenant j) = codes "job "

-- and its name
abbrev pub name : Configuration → Finding → List ℕ
name c (LabelUnoffered l) = label_name c l
name c (ReadyNodesAge l) = label_name c l
name c (PoolUnusable p) = full_name c p
name c (OfferTooLarge p l) = full_name c p ++ codes ", label " ++ label_name c l
name c (SemaphoreUnnamed s) = semaphore_name c s
name c (TenantUnnamed t) = tenant_name c t
name c (JobUnoffered j) = job_name c j
name c (JobTooLarge j) = job_name c j
name c (JobAboveTenant j) = job_name c j

-- what it says of that
abbrev pub remark : Finding → List ℕ
remark (LabelUnoffered l) = codes ": no pool offers it"
remark (ReadyNodesAge l) = codes ": max-ready-age is too low for min-ready, so that nodes are made and removed again and again"
remark (PoolUnusable p) = codes ": it can have no node, since it offers no label that is within its limits"
remark (OfferTooLarge p l) = codes ": one node exceeds a limit of the pool"
remark (SemaphoreUnnamed s) = codes ": no job takes it"
remark (TenantUnnamed t) = codes ": no job is of it"
remark (JobUnoffered j) = codes ": no pool offers all its labels"
remark (JobTooLarge j) = codes ": its nodes together exceed a limit of each pool that offers all its labels"
remark (JobAboveTenant j) = codes ": its nodes together exceed a limit of its tenant in each pool that could serve it"

abbrev pub finding_line : Configuration → Finding → List ℕ
finding_line c finding = kind finding ++ name c finding ++ remark finding ++ 10 ∷ []

-- a line for each finding
abbrev pub finding_lines : Configuration → List ℕ
finding_lines c = flat_map (finding_line c) (findings c)

-- what is printed about a configuration's text

abbrev pub kind_text : ConfigKind → List ℕ
kind_text ConfigKind.NotJson = codes "not-json"
kind_text ConfigKind.Missing = codes "missing"
kind_text ConfigKind.UnknownKey = codes "unknown-key"
kind_text ConfigKind.WrongType = codes "wrong-type"
kind_text ConfigKind.OutOfRange = codes "out-of-range"
kind_text ConfigKind.BadName = codes "bad-name"
kind_text ConfigKind.Repeated = codes "repeated"
kind_text ConfigKind.UnknownName = codes "unknown-name"
kind_text ConfigKind.TooMany = codes "too-many"

-- a fault of the text, with its place
abbrev pub fault_text : ConfigFault → Spot → List ℕ
fault_text f spot = codes "line " ++ decimal spot.line ++ codes ", column " ++ decimal spot.column ++ codes ": " ++ kind_text f.kind ++ codes " #" ++ f.pointer

abbrev pub verdict_of : List Finding → Verdict
verdict_of [] = Quiet
verdict_of (f ∷ fs) = Surprising

-- what is printed of a configuration: a line for each finding
pub record TellsFindings (c : Configuration) (r : Report) : Type 0 where
  pub text : r.text.items ≡ finding_lines c
  pub verdict : r.verdict ≡ verdict_of (findings c)

-- the line of a fault at this place, with more behind it
pub record IsFaultReport (f : ConfigFault) (spot : Spot) (more : List ℕ) (r : Report) : Type 0 where
  pub text : r.text.items ≡ fault_text f spot ++ more ++ 10 ∷ []
  pub verdict : r.verdict ≡ Faulty

-- what is printed of a fault: its line, with the line and the column of some byte of the text or of its end, and more behind it; that this is the byte to which the pointer points, and what more is said of a key, is tested and not said here (own)
abbrev pub TellsFault : List ℕ → ConfigFault → Report → Type 0
TellsFault text f r = (at : ℕ) × (spot : Spot) × (more : List ℕ) × (at ≤ length text) × (spot ≡ spot_of text at) × IsFaultReport f spot more r

-- what is printed of a text that reads so
abbrev pub Tells : List ℕ → Result Configuration ConfigFault → Report → Type 0
Tells text (Ok c) r = TellsFindings c r
Tells text (Err f) r = TellsFault text f r

-- the exit status of a program that checks a configuration
abbrev pub status_of : Verdict → ℕ
status_of Quiet = 0
status_of Surprising = 1
status_of Faulty = 3
