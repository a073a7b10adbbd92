-- how long the one text of a sound configuration is at most
use Rattle.np_config_text.proofs.Values.{unless_out}
use Rattle.np_config_text.proofs.Prelude.{All, All-cons, All-filter, All-from_each, All-head, All-map, All-nil, All-tail, Bool, CONCURRENCY, Configuration, Data, EachAfter, EndAs, FAIL_STARTS, FAULTS, Fault, FaultKind, IfSome, IsFault, IsJob, IsLabel, IsLimit, IsOffer, IsPool, IsProvider, IsRequester, IsSem, IsSound, IsStart, IsTenant, JOBS, JOB_LABELS, JOB_SEMAPHORES, Job, LABELS, Label, LabelId, Limit, List, Members, NAME_BYTES, None, Offer, Option, POOLS, POOL_CORES, POOL_RAM, POOL_SERVERS, PROVIDERS, Pool, PoolId, Provider, REQUESTERS, Requester, RequesterId, Role, SEMAPHORES, Sem, SemId, Some, StandsByOwner, TENANTS, Tenant, TenantId, arith, array, boolean, canonical, codes, comma_if, compact_text, configuration_data, count, count_by-le-length, default_tenant, end_as_word, escape, escape_byte, false, fault_data, fault_kind_word, filter, full_name, given, given_limit, is_name_text, items_of, items_text, job_data, job_tenant, label_data, label_name, length, length-append, length-decimal-le, length-filter, length-map, list_data, list_if_any, map, member, members_text, mul-le, nat_le, nat_tests, no_members, number, object, offer_data, option_map, option_map_or, placed, pool_data, pool_name, priority_word, provider_data, refl, requester_data, requester_name, role_name, role_word, semaphore_data, semaphore_name, slice_get, string, suc, tenant_data, tenant_name, true, unsigned, zero, ℕ, [], ◌*◌, ◌++◌, ◌+◌, ◌<◌, ◌==◌, ◌^◌, ◌∷◌, ◌≡◌, ◌≤◌}

-- # how long the text of a JSON value is at most

-- the value's text has at most n bytes
pub record TakesAtMost (n : ℕ) (d : Data) : Type 0 where
  pub most : length (compact_text d) ≤ n

-- so has the members' text, with a comma in front or none, and with the closing bracket
pub record MembersTake (n : ℕ) (ms : Members) : Type 0 where
  pub most : (later : Bool) → length (members_text later ms) ≤ n

pub wider : {d : Data} {n : ℕ} (m : ℕ) → n ≤ m → TakesAtMost n d → TakesAtMost m d
wider m wide takes = record { most = omega arith }

-- ## Texts and numbers

length-escape_byte : (x : ℕ) → length (escape_byte x) ≤ 6
unfolding escape_byte
length-escape_byte x = grind arith

length-escape : (s : List ℕ) → length (escape s) ≤ 6 * length s
length-escape [] = omega arith
length-escape (x ∷ s) = simp length-append (omega (arith, length-escape_byte x, length-escape s))

pub text_takes : (n : ℕ) (s : List ℕ) → length s ≤ n → TakesAtMost (6 * n + 2) (string s)
text_takes n s short = record { most = simp length-append (omega (arith, length-escape s)) }

pub number_takes : (n : ℕ) → n < 10 ^ 10 → TakesAtMost 10 (number (unsigned n))
number_takes n small = record { most = length-decimal-le 10 n (omega arith) small (omega arith) }

pub flag_takes : (b : Bool) → TakesAtMost 5 (boolean b)
flag_takes b = record { most = grind arith }

-- ## Arrays

length-comma : (later : Bool) → length (comma_if later) ≤ 1
length-comma later = grind arith

length-items : (n : ℕ) (later : Bool) (ds : List Data) → All (TakesAtMost n) ds → length (items_text later (items_of ds)) ≤ length ds * (n + 1) + 1
length-items n later [] each = omega arith
length-items n later (d ∷ ds) each =
    let first = All-head (TakesAtMost n) d ds each in
    let rest = length-items n true ds (All-tail (TakesAtMost n) d ds each) in
    simp length-append (omega (arith, first.most, length-comma later))

pub array_takes : (most n : ℕ) (ds : List Data) → length ds ≤ most → All (TakesAtMost n) ds → TakesAtMost (most * (n + 1) + 2) (array (items_of ds))
array_takes most n ds few each = record { most = omega (arith, length-items n false ds each, mul-le (length ds) (n + 1) most (n + 1) few (omega arith)) }

-- ## Objects

pub no_members_take : MembersTake 1 no_members
no_members_take = record { most = λ later. omega arith }

-- a key has at most 20 bytes, so 122 in quotes
pub member_takes : {n m : ℕ} {d : Data} {ms : Members} (key : List ℕ) → nat_le (length key) 20 ≡ true → TakesAtMost n d → MembersTake m ms → MembersTake (n + m + 124) (member key d ms)
member_takes key short takes rest =
    let most : length key ≤ 20 = grind (arith, nat_tests) in
    record { most = λ later. simp length-append (omega (arith, takes.most, rest.most true, length-escape key, length-comma later)) }

pub object_takes : {n : ℕ} {ms : Members} → MembersTake n ms → TakesAtMost (n + 1) (object ms)
object_takes take = record { most = omega (arith, take.most false) }

-- # the one text of a sound configuration is shorter than 2^32 bytes: a bound for each row, from the limits of what it has, and far above it

-- ## Names and words

length-name : (text : List ℕ) → is_name_text text ≡ true → length text ≤ NAME_BYTES
unfolding is_name_text
length-name text named = grind (arith, nat_tests)

-- the name at a place, if a row is there
length-name_at : {T : Type 0} (name : T → List ℕ) (n : ℕ) (P : List T → T → Type 0) → ((e : List T) (x : T) → P e x → length (name x) ≤ n)
    → (e xs : List T) (i : ℕ) → EachAfter P e xs → length (option_map_or name (slice_get xs i) []) ≤ n
length-name_at name n P says e [] i each = omega arith
length-name_at name n P says e (x ∷ xs) zero each = says e x each.0
length-name_at name n P says e (x ∷ xs) (suc i) each = length-name_at name n P says (e ++ x ∷ []) xs i each.1

length-end_as : (e : EndAs) → length (end_as_word e) ≤ 10
length-end_as e = grind arith

length-fault_kind : (k : FaultKind) → length (fault_kind_word k) ≤ 10
length-fault_kind k = grind arith

length-role : (r : Role) → length (role_word r) ≤ 10
length-role r = grind arith

length-priority : (n : ℕ) → length (priority_word n) ≤ 10
length-priority n = grind (arith, nat_tests)

name_takes : (text : List ℕ) → length text ≤ NAME_BYTES → TakesAtMost 400 (string text)
name_takes text short = wider 400 (omega arith) (text_takes NAME_BYTES text short)

named_takes : (text : List ℕ) → is_name_text text ≡ true → TakesAtMost 400 (string text)
named_takes text named = name_takes text (length-name text named)

-- ## Lists of rows

module _ {T : Type 0} (most n : ℕ) (xs : List T) (few : length xs ≤ most) where
  rows_take : (shown : T → Data) → All (λ x. TakesAtMost n (shown x)) xs → TakesAtMost (most * (n + 1) + 2) (list_data shown xs)
  rows_take shown each = array_takes most n (map shown xs) (omega (arith, length-map xs shown)) (All-map (TakesAtMost n) shown xs each)

  each_takes : (shown : T → Data) (P : List T → T → Type 0) → ((e : List T) (x : T) → P e x → TakesAtMost n (shown x)) → EachAfter P [] xs → TakesAtMost (most * (n + 1) + 2) (list_data shown xs)
  each_takes shown P says each = rows_take shown (All-from_each P (λ x. TakesAtMost n (shown x)) says [] xs each)

  placed_take : (shown : ℕ → T → Data) (P : List T → T → Type 0) → ((k : ℕ) (e : List T) (x : T) → P e x → TakesAtMost n (shown k x)) → EachAfter P [] xs
      → TakesAtMost (most * (n + 1) + 2) (array (items_of (placed shown 0 xs)))
  placed_take shown P says each = array_takes most n (placed shown 0 xs) (omega (arith, long 0 xs)) (all 0 [] xs each)
    where
      long : (k : ℕ) (ys : List T) → length (placed shown k ys) ≡ length ys
      long k [] = refl
      long k (y ∷ ys) = omega (arith, long (k + 1) ys)

      all : (k : ℕ) (e ys : List T) → EachAfter P e ys → All (TakesAtMost n) (placed shown k ys)
      all k e [] each = All-nil (TakesAtMost n)
      all k e (y ∷ ys) each = All-cons (TakesAtMost n) (shown k y) (placed shown (k + 1) ys) (says k e y each.0) (all (k + 1) (e ++ y ∷ []) ys each.1)

-- the rows that pass a test
some_take : {T : Type 0} (most n : ℕ) (shown : T → Data) (p : T → Bool) (xs : List T) → length xs ≤ most → All (λ x. TakesAtMost n (shown x)) xs → TakesAtMost (most * (n + 1) + 2) (list_data shown (filter p xs))
some_take most n shown p xs few each =
    rows_take most n (filter p xs) (omega (arith, length-filter p xs, count_by-le-length p xs)) shown (All-filter p (λ x. TakesAtMost n (shown x)) xs each)

-- ## Members that may be absent

given_takes : {m : ℕ} {ms : Members} (n : ℕ) (key : List ℕ) → nat_le (length key) 20 ≡ true → (o : Option Data) → IfSome o (TakesAtMost n) → MembersTake m ms → MembersTake (n + m + 124) (given key o ms)
given_takes n key short None some rest = record { most = λ later. omega (arith, rest.most later) }
given_takes n key short (Some d) some rest = member_takes key short some rest

some_number_takes : (Q : ℕ → Type 0) → ((n : ℕ) → Q n → n < 10 ^ 10) → (o : Option ℕ) → IfSome o Q → IfSome (option_map count o) (TakesAtMost 10)
some_number_takes Q small None some = tt
some_number_takes Q small (Some n) some = number_takes n (small n some)

limit_takes : {m : ℕ} {ms : Members} (l : Limit) → IsLimit l → MembersTake m ms → MembersTake (m + 500) (given_limit l ms)
limit_takes l is rest =
    let take = given_takes 10 (codes "max-cores") refl (option_map count l.cores) (some_number_takes (λ n. n ≤ POOL_CORES) (λ n most. omega arith) l.cores is.cores) (
    given_takes 10 (codes "max-ram") refl (option_map count l.ram) (some_number_takes (λ n. n ≤ POOL_RAM) (λ n most. omega arith) l.ram is.ram) (
    given_takes 10 (codes "max-servers") refl (option_map count l.instances) (some_number_takes (λ n. n ≤ POOL_SERVERS) (λ n most. omega arith) l.instances is.servers) rest)) in
    record { most = λ later. omega (arith, take.most later) }

-- ## Rows

label_takes : (e : List Label) (l : Label) → IsLabel e l → TakesAtMost 1000 (label_data l)
label_takes e l is =
    wider 1000 (omega arith) (object_takes (
    member_takes (codes "max-ready-age") refl (number_takes l.max_ready_age (omega arith)) (
    member_takes (codes "min-ready") refl (number_takes l.min_ready (omega arith)) (
    member_takes (codes "name") refl (named_takes l.name is.name.named) no_members_take))))

semaphore_takes : (e : List Sem) (s : Sem) → IsSem e s → TakesAtMost 1000 (semaphore_data s)
semaphore_takes e s is =
    wider 1000 (omega arith) (object_takes (
    member_takes (codes "max") refl (number_takes s.max (omega arith)) (
    member_takes (codes "name") refl (named_takes s.name is.name.named) no_members_take)))

tenant_takes : (e : List Tenant) (t : Tenant) → IsTenant e t → TakesAtMost 2000 (tenant_data t)
tenant_takes e t is =
    wider 2000 (omega arith) (object_takes (limit_takes t.limit is.limit (member_takes (codes "name") refl (named_takes t.name is.name.named) no_members_take)))

module _ (c : Configuration) (sound : IsSound c) where
  length-label : (l : LabelId) → length (label_name c l) ≤ NAME_BYTES
  length-label l = length-name_at (λ (r : Label). r.name) NAME_BYTES IsLabel (λ e r is. length-name r.name is.name.named) [] c.labels l.0 sound.labels

  length-semaphore : (s : SemId) → length (semaphore_name c s) ≤ NAME_BYTES
  length-semaphore s = length-name_at (λ (r : Sem). r.name) NAME_BYTES IsSem (λ e r is. length-name r.name is.name.named) [] c.semaphores s.0 sound.semaphores

  length-tenant : (t : TenantId) → length (tenant_name c t) ≤ NAME_BYTES
  length-tenant t = by t.0
    where
      by : (n : ℕ) → length (option_map_or (λ (r : Tenant). r.name) (slice_get (default_tenant ∷ c.tenants) n) []) ≤ NAME_BYTES
      by zero = omega arith
      by (suc n) = length-name_at (λ (r : Tenant). r.name) NAME_BYTES IsTenant (λ e r is. length-name r.name is.name.named) [] c.tenants n sound.tenants

  length-requester : (q : RequesterId) → length (requester_name c q) ≤ NAME_BYTES
  length-requester q = length-name_at (λ (r : Requester). r.name) NAME_BYTES IsRequester (λ e r is. length-name r.name is.name.named) [] c.requesters q.0 sound.demand.each_requester

  length-full : (p : PoolId) → length (full_name c p) ≤ (2 * NAME_BYTES + 1)
  length-full p =
      length-name_at (pool_name c.providers) (2 * NAME_BYTES + 1) (StandsByOwner (λ (r : Pool). r.provider) (IsPool (length c.labels))) (λ e r is. both r (length-name r.name is.own.name.named)) [] c.pools p.0 sound.supply.each_pool
    where
      both : (r : Pool) → length r.name ≤ NAME_BYTES → length (pool_name c.providers r) ≤ (2 * NAME_BYTES + 1)
      both r short =
          let provider = length-name_at (λ (q : Provider). q.name) NAME_BYTES IsProvider (λ e q is. length-name q.name is.name.named) [] c.providers r.provider sound.supply.each_provider in
          omega (arith, length-append (option_map_or (λ (q : Provider). q.name) (slice_get c.providers r.provider) []) (47 ∷ r.name))

  length-role_name : (r : Role) → length (role_name c r) ≤ (2 * NAME_BYTES + 1)
  length-role_name (Role.Launcher p) = length-full p
  length-role_name (Role.Janitor p) = length-full p
  length-role_name (Role.Requester q) = omega (arith, length-requester q)
  length-role_name Role.Reaper = omega arith

  offer_takes : (e : List Offer) (o : Offer) → IsOffer (length c.labels) e o → TakesAtMost 1000 (offer_data c o)
  offer_takes e o is =
      wider 1000 (omega arith) (object_takes (
      member_takes (codes "cores") refl (number_takes o.amount.cores (omega arith)) (
      member_takes (codes "name") refl (name_takes (label_name c o.label) (length-label o.label)) (
      member_takes (codes "ram") refl (number_takes o.amount.ram (omega arith)) no_members_take))))

  pool_takes : (e : List Pool) (p : Pool) → IsPool (length c.labels) e p → TakesAtMost 400000 (pool_data c p)
  pool_takes e p is =
      wider 400000 (omega arith) (object_takes (
      member_takes (codes "fail-starts") refl (each_takes FAIL_STARTS 10 p.fail_starts is.few_starts count IsStart (λ e n start. number_takes n (omega arith)) is.starts) (
      member_takes (codes "labels") refl (each_takes LABELS 1000 p.offers is.few_offers (offer_data c) (IsOffer (length c.labels)) offer_takes is.offers) (
      limit_takes p.limit is.limit (
      member_takes (codes "name") refl (named_takes p.name is.name.named) no_members_take)))))

  pools_take : All (λ p. TakesAtMost 400000 (pool_data c p)) c.pools
  pools_take = All-from_each (StandsByOwner (λ (p : Pool). p.provider) (IsPool (length c.labels))) (λ p. TakesAtMost 400000 (pool_data c p)) (λ e p is. pool_takes _ p is.own) [] c.pools sound.supply.each_pool

  provider_takes : (k : ℕ) (e : List Provider) (p : Provider) → IsProvider e p → TakesAtMost 30000000 (provider_data c k p)
  provider_takes k e p is =
      wider 30000000 (omega arith) (object_takes (
      member_takes (codes "launch-retries") refl (number_takes p.retries (omega arith)) (
      given_takes 10 (codes "max-concurrency") refl (option_map count p.concurrency) (some_number_takes (λ n. (1 ≤ n) × (n ≤ CONCURRENCY)) (λ n range. omega arith) p.concurrency is.concurrency) (
      member_takes (codes "name") refl (named_takes p.name is.name.named) (
      member_takes (codes "pools") refl (some_take POOLS 400000 (pool_data c) (λ q. q.provider == k) c.pools sound.supply.few_pools pools_take) no_members_take)))))

  job_takes : (e : List Job) (j : Job) → IsJob (length c.labels) (length c.semaphores) (length c.tenants) e j → TakesAtMost 20000 (job_data c j)
  job_takes e j is =
      wider 20000 (omega arith) (object_takes (
      member_takes (codes "end") refl (text_takes 10 (end_as_word j.end) (length-end_as j.end)) (
      member_takes (codes "labels") refl (rows_take JOB_LABELS 400 j.labels is.few_labels (λ l. string (label_name c l)) (λ k d within. name_takes _ (length-label _))) (
      member_takes (codes "name") refl (named_takes j.name is.name.named) (
      member_takes (codes "priority") refl (text_takes 10 (priority_word j.priority) (length-priority j.priority)) (
      member_takes (codes "relative-priority") refl (number_takes j.relative_priority (omega arith)) (
      member_takes (codes "resources-first") refl (flag_takes j.resources_first) (
      member_takes (codes "semaphores") refl (rows_take JOB_SEMAPHORES 400 j.semaphores is.few_taken (λ s. string (semaphore_name c s)) (λ k d within. name_takes _ (length-semaphore _))) (
      given_takes 400 (codes "tenant") refl (job_tenant c j.tenant) (unless_out (TakesAtMost 400) (j.tenant.0 == 0) _ (name_takes _ (length-tenant j.tenant))) no_members_take)))))))))

  jobs_take : All (λ j. TakesAtMost 20000 (job_data c j)) c.jobs
  jobs_take =
      All-from_each (StandsByOwner (λ (j : Job). j.requester.0) (IsJob (length c.labels) (length c.semaphores) (length c.tenants))) (λ j. TakesAtMost 20000 (job_data c j)) (λ e j is. job_takes _ j is.own) [] c.jobs sound.demand.each_job

  requester_takes : (k : ℕ) (e : List Requester) (q : Requester) → IsRequester e q → TakesAtMost 90000000 (requester_data c k q)
  requester_takes k e q is =
      wider 90000000 (omega arith) (object_takes (
      member_takes (codes "jobs") refl (some_take JOBS 20000 (job_data c) (λ j. j.requester.0 == k) c.jobs sound.demand.few_jobs jobs_take) (
      member_takes (codes "name") refl (named_takes q.name is.name.named) (
      member_takes (codes "window") refl (number_takes q.window (omega arith)) no_members_take))))

  fault_takes : (f : Fault) → IsFault (length c.pools) (length c.requesters) f → TakesAtMost 2000 (fault_data c f)
  fault_takes f is =
      wider 2000 (omega arith) (object_takes (
      member_takes (codes "after") refl (number_takes f.after (omega arith)) (
      member_takes (codes "kind") refl (text_takes 10 (fault_kind_word f.kind) (length-fault_kind f.kind)) (
      member_takes (codes "name") refl (text_takes (2 * NAME_BYTES + 1) (role_name c f.role) (length-role_name f.role)) (
      member_takes (codes "role") refl (text_takes 10 (role_word f.role) (length-role f.role)) no_members_take)))))

  configuration_takes : TakesAtMost 4000000000 (configuration_data c)
  configuration_takes =
      wider 4000000000 (omega arith) (object_takes (
      member_takes (codes "faults") refl (rows_take FAULTS 2000 c.faults sound.few_faults (fault_data c) (λ k d within. fault_takes _ (sound.faults k d within))) (
      member_takes (codes "labels") refl (each_takes LABELS 1000 c.labels sound.few_labels label_data IsLabel label_takes sound.labels) (
      member_takes (codes "max-hold-age") refl (number_takes c.max_hold_age (omega arith)) (
      member_takes (codes "providers") refl (placed_take PROVIDERS 30000000 c.providers sound.few_providers (provider_data c) IsProvider provider_takes sound.supply.each_provider) (
      member_takes (codes "requesters") refl (placed_take REQUESTERS 90000000 c.requesters sound.few_requesters (requester_data c) IsRequester requester_takes sound.demand.each_requester) (
      member_takes (codes "semaphores") refl (each_takes SEMAPHORES 1000 c.semaphores sound.few_semaphores semaphore_data IsSem semaphore_takes sound.semaphores) (
      given_takes 200000 (codes "tenants") refl (list_if_any tenant_data c.tenants) (unless_out (TakesAtMost 200000) (length c.tenants == 0) _ (wider 200000 (omega arith) (each_takes TENANTS 2000 c.tenants sound.few_tenants tenant_data IsTenant tenant_takes sound.tenants))) no_members_take))))))))

  pub canonical-short : length (canonical c) < 2 ^ 32
  unfolding canonical
  canonical-short = omega (arith, configuration_takes.most)
