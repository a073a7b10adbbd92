-- the values that a configuration is printed as, and their shape
use Rattle.np_config_text.proofs.Prelude.{Bool, Configuration, Data, IfSome, Job, LabelId, Limit, List, Members, None, Option, Pool, Provider, Requester, SemId, Some, Tenant, Value, ap, arith, canonical, codes, cond, configuration_data, count, depth, false, fault_data, get_or, given, given_count, given_limit, has_float, items_depth, items_have_float, items_of, job_data, job_tenant, jobs_of, label_data, label_name, length, length-take-le, list_data, list_if_any, map, map-append, member, members_depth, members_have_float, no_members, offer_data, placed, pool_data, pools_of, provider_data, reading_on_literals, refl, requester_data, semaphore_data, semaphore_name, string, sym, take, take_more, tenant_data, tenant_name, true, view, ℕ, [], ⊤, ◌++◌, ◌+◌, ◌<◌, ◌==◌, ◌∙◌, ◌∷◌, ◌≡◌, ◌≤◌}

-- # the value of a configuration has no float, and nests a few levels deep

-- what holds of a value holds of one that a test may leave out
pub unless_out : (P : Data → Type 0) (out : Bool) (d : Data) → P d → IfSome (cond out None (Some d)) P
unless_out P true d is = tt
unless_out P false d is = is

-- the value has no float, and nests at most n levels deep
abbrev IsShallow : ℕ → Data → Type 0
IsShallow n d = (has_float d ≡ false) × (depth d ≤ n)

-- so do all values of a list, which are the items of an array
abbrev AreShallow : ℕ → List Data → Type 0
AreShallow n ds = (items_have_float (items_of ds) ≡ false) × (items_depth (items_of ds) ≤ n)

list_shallow : {T : Type 0} (shown : T → Data) (n : ℕ) → ((x : T) → IsShallow n (shown x)) → (xs : List T) → AreShallow n (map shown xs)
list_shallow shown n each [] = (refl, omega arith)
list_shallow shown n each (x ∷ xs) =
    let first = each x in
    let rest = list_shallow shown n each xs in
    (rw (first.0, rest.0) refl, omega (arith, first.1, rest.1))

placed_shallow : {T : Type 0} (shown : ℕ → T → Data) (n : ℕ) → ((k : ℕ) (x : T) → IsShallow n (shown k x)) → (k : ℕ) (xs : List T) → AreShallow n (placed shown k xs)
placed_shallow shown n each k [] = (refl, omega arith)
placed_shallow shown n each k (x ∷ xs) =
    let first = each k x in
    let rest = placed_shallow shown n each (k + 1) xs in
    (rw (first.0, rest.0) refl, omega (arith, first.1, rest.1))

-- a number that may be absent adds no float and no level, and so does a limit
abbrev AddsNothing : Members → Members → Type 0
AddsNothing new ms = (members_have_float new ≡ members_have_float ms) × (members_depth new ≡ members_depth ms)

count_shallow : (key : List ℕ) (o : Option ℕ) (ms : Members) → AddsNothing (given_count key o ms) ms
count_shallow key None ms = (refl, refl)
count_shallow key (Some n) ms = (refl, omega arith)

limit_shallow : (l : Limit) (ms : Members) → AddsNothing (given_limit l ms) ms
limit_shallow l ms =
    let servers = count_shallow (codes "max-servers") l.instances ms in
    let ram = count_shallow (codes "max-ram") l.ram (given_count (codes "max-servers") l.instances ms) in
    let cores = count_shallow (codes "max-cores") l.cores (given_count (codes "max-ram") l.ram (given_count (codes "max-servers") l.instances ms)) in
    (cores.0 ∙ ram.0 ∙ servers.0, cores.1 ∙ ram.1 ∙ servers.1)

given_shallow : (key : List ℕ) (o : Option Data) (n : ℕ) → IfSome o (IsShallow n) → (members_have_float (given key o no_members) ≡ false) × (members_depth (given key o no_members) ≤ n)
given_shallow key None n shallow = (refl, omega arith)
given_shallow key (Some d) n shallow = (rw shallow.0 refl, omega (arith, shallow.1))

tenant_shallow : (t : Tenant) → IsShallow 1 (tenant_data t)
tenant_shallow t = let limit = limit_shallow t.limit (member (codes "name") (string t.name) no_members) in (limit.0, omega (arith, limit.1))

module _ (c : Configuration) where
  pool_shallow : (p : Pool) → IsShallow 3 (pool_data c p)
  pool_shallow p =
      let starts = list_shallow count 0 (λ n. (refl, omega arith)) p.fail_starts in
      let offers = list_shallow (offer_data c) 1 (λ o. (refl, omega arith)) p.offers in
      let limit = limit_shallow p.limit (member (codes "name") (string p.name) no_members) in
      (rw (starts.0, offers.0, limit.0) refl, omega (arith, starts.1, offers.1, limit.1))

  provider_shallow : (k : ℕ) (p : Provider) → IsShallow 5 (provider_data c k p)
  provider_shallow k p =
      let pools = list_shallow (pool_data c) 3 pool_shallow (pools_of c k) in
      let limit = count_shallow (codes "max-concurrency") p.concurrency (member (codes "name") (string p.name) (member (codes "pools") (list_data (pool_data c) (pools_of c k)) no_members)) in
      (rw (limit.0, pools.0) refl, omega (arith, pools.1, limit.1))

  job_shallow : (j : Job) → IsShallow 2 (job_data c j)
  job_shallow j =
      let labels = list_shallow (λ (l : LabelId). string (label_name c l)) 0 (λ l. (refl, omega arith)) j.labels in
      let semaphores = list_shallow (λ (s : SemId). string (semaphore_name c s)) 0 (λ s. (refl, omega arith)) j.semaphores in
      let tenant = given_shallow (codes "tenant") (job_tenant c j.tenant) 0 (unless_out (IsShallow 0) (j.tenant.0 == 0) (string (tenant_name c j.tenant)) (refl, omega arith)) in
      (rw (labels.0, semaphores.0, tenant.0) refl, omega (arith, labels.1, semaphores.1, tenant.1))

  requester_shallow : (k : ℕ) (q : Requester) → IsShallow 4 (requester_data c k q)
  requester_shallow k q = let jobs = list_shallow (job_data c) 2 job_shallow (jobs_of c k) in (rw jobs.0 refl, omega (arith, jobs.1))

  configuration_shallow : IsShallow 127 (configuration_data c)
  configuration_shallow =
      let faults = list_shallow (fault_data c) 1 (λ f. (refl, omega arith)) c.faults in
      let labels = list_shallow label_data 1 (λ l. (refl, omega arith)) c.labels in
      let providers = placed_shallow (provider_data c) 5 provider_shallow 0 c.providers in
      let requesters = placed_shallow (requester_data c) 4 requester_shallow 0 c.requesters in
      let semaphores = list_shallow semaphore_data 1 (λ s. (refl, omega arith)) c.semaphores in
      let all = list_shallow tenant_data 1 tenant_shallow c.tenants in
      let tenants = given_shallow (codes "tenants") (list_if_any tenant_data c.tenants) 2 (unless_out (IsShallow 2) (length c.tenants == 0) (list_data tenant_data c.tenants) (all.0, omega (arith, all.1))) in (
        rw (faults.0, labels.0, providers.0, requesters.0, semaphores.0, tenants.0) refl,
        omega (arith, faults.1, labels.1, providers.1, requesters.1, semaphores.1, tenants.1),
      )

  pub configuration-plain : has_float (configuration_data c) ≡ false
  configuration-plain = configuration_shallow.0

  pub configuration-depth : depth (configuration_data c) ≤ 127
  configuration-depth = configuration_shallow.1

-- # rows as values

-- one more row
pub values_more : {T : Type 0} (shown : T → Data) (rows : List T) (vs next : List Value) (i : ℕ) (x : T) (v : Value) → i < length rows → x ≡ get_or rows i x → view v ≡ shown x → next ≡ vs ++ v ∷ []
    → map view vs ≡ map shown (take i rows) → map view next ≡ map shown (take (i + 1) rows)
values_more shown rows vs next i x v within at is new so_far =
    rw (new, map-append, take_more rows i x within ∙ ap (λ y. take i rows ++ y ∷ []) (sym at), map-append, so_far, is)

placed-push : {T : Type 0} (shown : ℕ → T → Data) (k : ℕ) (xs : List T) (x : T) → placed shown k (xs ++ x ∷ []) ≡ placed shown k xs ++ shown (k + length xs) x ∷ []
placed-push shown k [] x = ap (λ n. shown n x ∷ []) (omega arith)
placed-push shown k (y ∷ xs) x =
    ap (λ ds. shown k y ∷ ds) (placed-push shown (k + 1) xs x ∙ ap (λ n. placed shown (k + 1) xs ++ shown n x ∷ []) (omega arith))

-- one more row, with its place
pub placed_more : {T : Type 0} (shown : ℕ → T → Data) (rows : List T) (vs next : List Value) (i : ℕ) (x : T) (v : Value) → i < length rows → x ≡ get_or rows i x → view v ≡ shown i x → next ≡ vs ++ v ∷ []
    → map view vs ≡ placed shown 0 (take i rows) → map view next ≡ placed shown 0 (take (i + 1) rows)
placed_more shown rows vs next i x v within at is new so_far =
    let before : i ≤ length rows = omega arith in
    let count : 0 + length (take i rows) ≡ i = simp length-take-le (omega arith) in
    rw (new, map-append, take_more rows i x within ∙ ap (λ y. take i rows ++ y ∷ []) (sym at), placed-push, so_far, ap (λ n. shown n x) count, is)

-- # what an answer unfolds to compute the reading and printing of a literal

unfoldable pub config_on_literals : ⊤
unfolding reading_on_literals canonical
config_on_literals = tt
