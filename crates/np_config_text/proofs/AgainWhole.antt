-- the text of a sound configuration is read as that configuration, with its providers and its requesters
use Rattle.np_config_text.proofs.Prelude.{Fault, Label, Sem, StandsByOwner, filter, ◌<◌, ◌==◌, AGE, All, All-filter_number, All-head, All-tail, AreProviders, AreRequesters, CONCURRENCY, Configuration, Data, EachAfter, EachAfter-from_all, EndAs, FAULTS, Hold, IsFault, IsJob, IsLabel, IsPool, IsPriority, IsProvider, IsRequester, IsSem, IsSound, IsTaken, IsTenant, IsUtf8, IsWanted, JOBS, JOB_LABELS, JOB_SEMAPHORES, Job, JobsSoFar, LABELS, LAUNCHES, LabelId, Length, List, Ok, POOLS, PROVIDERS, Pool, PoolsSoFar, Provider, ProvidersSoFar, RELATIVE_PRIORITY, REQUESTERS, ReadsItem, Requester, RequestersSoFar, SEMAPHORES, SemId, Some, Used, WINDOW, ap, append-nil, append_assoc, arith, array, at_most, behind, below-all, below-more, below-none, codes, configuration_at, configuration_data, count, decimal, demand_at, end_as_of, end_as_word, fault_at, fault_data, inl, inr, items_from, items_of, job_at, job_data, job_keys, job_row, job_tenant, jobs_at, jobs_of, label_at, label_data, label_for, label_name, label_value, length, length-append, length-filter_at_most, list_at, list_data, list_if_any, list_maybe, list_required, member, name_at, named_at, nat_lt, new_name, no_members, ok, one_to, option_map, parsed-some, placed, pool_at, pool_data, pool_names, pools_at, pools_of, priority_of, priority_word, provider_at, provider_data, provider_keys, provider_row, read, reads, refl, requester_at, requester_data, requester_row, rows_of, semaphore_at, semaphore_data, semaphore_for, semaphore_name, string, subst, suc, sym, taken_at, takes_at, tenant_data, top_keys, under, wanted_at, wants_at, word_value, ℕ, [], ◌++◌, ◌+◌, ◌∙◌, ◌∷◌, ◌≡◌, ◌≤◌}
use Rattle.np_config.proofs.Owners.{below}
use Rattle.np_config_text.proofs.Again.{fault_again, get-given, get-other, job_tenant_again, keys-given, label_again, label_reference, list_again, list_of_items, maybe_again, pool_again, semaphore_again, semaphore_reference, tenants_again, up_to_again, whole_again}

abbrev supply_of : List Provider → List Pool → ProvidersSoFar
supply_of ps pools = record { providers = ps; pools = pools }

abbrev demand_of : List Requester → List Job → RequestersSoFar
demand_of qs jobs = record { requesters = qs; jobs = jobs }

-- # rows with their places, and the rows that they own

-- rows with their places, each of which is read after a state that those before it make, between two states that are given
module _ {S T : Type 0} (read : ReadsItem S) (shown : ℕ → T → Data) (state : List T → S) (P : List T → T → Type 0) (total : ℕ)
    (again : (at : List ℕ) (e : List T) (x : T) → P e x → length e < total → read at (state e) (shown (length e) x) ≡ Ok (state (e ++ x ∷ []))) where
  items_again : (at : List ℕ) (n : ℕ) (e xs : List T) → length e + length xs ≤ total → EachAfter P e xs → items_from read at n (state e) (items_of (placed shown (length e) xs)) ≡ Ok (state (e ++ xs))
  unfolding items_from
  items_again at n e [] few each = ap (λ (es : List T). ok (state es)) (sym (append-nil e))
  items_again at n e (x ∷ xs) few each =
      let longer : length (e ++ x ∷ []) ≡ length e + 1 = simp length-append (omega arith) in
      let rest = items_again at (n + 1) (e ++ x ∷ []) xs (omega arith) each.1 in
      rw (again (under at (decimal n)) e x each.0 (omega arith)) (subst (λ (k : ℕ). items_from read at (n + 1) (state (e ++ x ∷ [])) (items_of (placed shown k xs)) ≡ Ok (state ((e ++ x ∷ []) ++ xs))) longer rest
      ∙ ap (λ (es : List T). ok (state es)) (append_assoc e (x ∷ []) xs))

  length-placed : (k : ℕ) (xs : List T) → length (placed shown k xs) ≡ length xs
  length-placed k [] = refl
  length-placed k (x ∷ xs) = ap suc (length-placed (k + 1) xs)

  placed_again : (at : List ℕ) (l : Length) (xs : List T) (s t : S) → state [] ≡ s → state xs ≡ t → EachAfter P [] xs → length xs ≤ total → l.before + length xs ≤ l.most → l.least ≤ length xs
      → list_at read at l s (array (items_of (placed shown 0 xs))) ≡ Ok t
  placed_again at l xs s t first last each few most least =
      list_of_items read at l s t (placed shown 0 xs) (subst (λ (u : S). items_from read at 0 u (items_of (placed shown 0 xs)) ≡ Ok t) first (items_again at 0 [] xs (omega (arith, few)) each ∙ ap ok last))
      (omega (arith, length-placed 0 xs)) (omega (arith, length-placed 0 xs))

-- the rows of the owner at a place
module _ {T : Type 0} (owner : T → ℕ) (P : List T → T → Type 0) (k : ℕ) (xs : List T) (each : EachAfter (StandsByOwner owner P) [] xs) where
  own_rows : EachAfter (λ e x. (owner x ≡ k) × P e x) [] (filter (λ x. owner x == k) xs)
  own_rows = both [] (filter (λ x. owner x == k) xs) (All-filter_number owner k xs) (rows_of owner P k [] xs each)
    where
      both : (e ys : List T) → All (λ y. owner y ≡ k) ys → EachAfter P e ys → EachAfter (λ e x. (owner x ≡ k) × P e x) e ys
      both e [] all each = tt
      both e (y ∷ ys) all each = ((All-head (λ (x : T). owner x ≡ k) y ys all, each.0), both (e ++ y ∷ []) ys (All-tail (λ (x : T). owner x ≡ k) y ys all) each.1)

  -- with those of the owners below it they are no more than all
  own_few : (most : ℕ) → length xs ≤ most → length (below owner P k xs) + length (filter (λ x. owner x == k) xs) ≤ most
  own_few most few =
      let more : length (below owner P (k + 1) xs) ≡ length (below owner P k xs) + length (filter (λ x. owner x == k) xs) =
      ap length (below-more owner P k [] xs each) ∙ length-append (below owner P k xs) (filter (λ x. owner x == k) xs) in
      omega (arith, length-filter_at_most (λ x. nat_lt (owner x) (k + 1)) xs)

  -- the rows of the owners up to one more
  below-next : {O : Type 0} (e : List O) (x : O) → k ≡ length e → below owner P k xs ++ filter (λ y. owner y == k) xs ≡ below owner P (length (e ++ x ∷ [])) xs
  below-next e x place =
      let longer : k + 1 ≡ length (e ++ x ∷ []) = simp length-append (omega arith) in
      sym (below-more owner P k [] xs each) ∙ ap (λ (n : ℕ). below owner P n xs) longer

-- # the values of jobs and requesters are read as those

priority_again : (n : ℕ) → IsPriority n → priority_of (priority_word n) ≡ Some n
priority_again n (inl e) = rw e refl
priority_again n (inr (inl e)) = rw e refl
priority_again n (inr (inr e)) = rw e refl

end_again : (e : EndAs) → end_as_of (end_as_word e) ≡ Some e
end_again Used = refl
end_again Hold = refl

module _ (c : Configuration) (each_label : EachAfter IsLabel [] c.labels) (each_sem : EachAfter IsSem [] c.semaphores) (each_tenant : EachAfter IsTenant [] c.tenants) where
  wanted_again : (at : List ℕ) (e : List LabelId) (l : LabelId) → IsWanted (length c.labels) l → wanted_at c.labels at e (string (label_name c l)) ≡ Ok (e ++ l ∷ [])
  unfolding wanted_at label_value label_for
  wanted_again at e l is = rw (label_reference c l each_label is) refl

  taken_again : (at : List ℕ) (e : List SemId) (s : SemId) → IsTaken (length c.semaphores) e s → taken_at c.semaphores at e (string (semaphore_name c s)) ≡ Ok (e ++ s ∷ [])
  unfolding taken_at semaphore_for
  taken_again at e s is = rw (semaphore_reference c s each_sem is.semaphore, is.new) refl

  abbrev own_jobs : ℕ → List Job → JobsSoFar
  own_jobs k js = record { requester = record { 0 = k }; jobs = js }

  abbrev IsJobHere : List Job → Job → Type 0
  IsJobHere = IsJob (length c.labels) (length c.semaphores) (length c.tenants)

  job_again : (k : ℕ) (at : List ℕ) (e : List Job) (j : Job) → (j.requester.0 ≡ k) × IsJobHere e j → job_at c.labels c.semaphores c.tenants at (own_jobs k e) (job_data c j) ≡ Ok (own_jobs k (e ++ j ∷ []))
  unfolding job_at demand_at job_row wants_at takes_at list_required list_maybe word_value named_at name_at new_name
  job_again k at e j is =
      let each = EachAfter-from_all (IsWanted (length c.labels)) [] j.labels is.1.wanted in
      let wants = list_again (wanted_at c.labels) (λ (w : LabelId). string (label_name c w)) (λ (ws : List LabelId). ws) (λ e w. IsWanted (length c.labels) w) wanted_again (under at (codes "labels")) (one_to JOB_LABELS) j.labels each (omega (arith, is.1.few_labels)) is.1.some_label in
      let takes = list_again (taken_at c.semaphores) (λ (w : SemId). string (semaphore_name c w)) (λ (ws : List SemId). ws) (IsTaken (length c.semaphores)) taken_again (under at (codes "semaphores")) (at_most JOB_SEMAPHORES) j.semaphores is.1.taken (omega (arith, is.1.few_taken)) (omega arith) in
      let tenant = job_tenant c j.tenant in
      let with_job : ℕ → JobsSoFar = λ n. own_jobs k (e ++ record j { requester = record { 0 = n } } ∷ []) in
      rw (
        keys-given job_keys (codes "tenant") tenant no_members refl,
        is.1.name.named,
        is.1.name.new,
        wants,
        priority_again j.priority is.1.priority,
        up_to_again (under at (codes "relative-priority")) RELATIVE_PRIORITY j.relative_priority is.1.relative,
        takes,
        end_again j.end,
        get-given (codes "tenant") tenant no_members refl refl,
        job_tenant_again c (under at (codes "tenant")) j.tenant each_tenant is.1.tenant,
      ) (ap (λ (n : ℕ). ok (with_job n)) (sym is.0))

  requester_again : (at : List ℕ) (s : RequestersSoFar) (k : ℕ) (q : Requester) (own : List Job) → IsRequester s.requesters q
      → list_at (job_at c.labels c.semaphores c.tenants) (under at (codes "jobs")) (behind (length s.jobs) (at_most JOBS)) (own_jobs (length s.requesters) []) (list_data (job_data c) (jobs_of c k)) ≡ Ok (own_jobs (length s.requesters) own)
      → requester_at c.labels c.semaphores c.tenants at s (requester_data c k q) ≡ Ok (demand_of (s.requesters ++ q ∷ []) (s.jobs ++ own))
  unfolding requester_at requester_row jobs_at list_maybe named_at name_at new_name
  requester_again at s k q own is read = rw (is.name.named, is.name.new, whole_again (under at (codes "window")) 1 WINDOW q.window is.some is.window, read) refl

  module _ (are : AreRequesters (length c.labels) (length c.semaphores) (length c.tenants) c.requesters c.jobs) where
    abbrev job_owner : Job → ℕ
    job_owner j = j.requester.0

    abbrev demand_before : List Requester → RequestersSoFar
    demand_before e = demand_of e (below job_owner IsJobHere (length e) c.jobs)

    requester_next : (at : List ℕ) (e : List Requester) (q : Requester) → IsRequester e q → length e < length c.requesters
        → requester_at c.labels c.semaphores c.tenants at (demand_before e) (requester_data c (length e) q) ≡ Ok (demand_before (e ++ q ∷ []))
    requester_next at e q is there =
        let k = length e in
        let jobs = list_again (job_at c.labels c.semaphores c.tenants) (job_data c) (own_jobs k) (λ (js : List Job) (j : Job). (j.requester.0 ≡ k) × IsJobHere js j) (job_again k) (under at (codes "jobs"))
        (behind (length (below job_owner IsJobHere k c.jobs)) (at_most JOBS)) (jobs_of c k) (own_rows job_owner IsJobHere k c.jobs are.each_job) (own_few job_owner IsJobHere k c.jobs are.each_job JOBS are.few_jobs) (omega arith) in
        requester_again at (demand_before e) k q (jobs_of c k) is jobs ∙ ap (λ (js : List Job). ok (demand_of (e ++ q ∷ []) js)) (below-next job_owner IsJobHere k c.jobs are.each_job e q refl)

-- # the values of providers are read as those, with their pools

abbrev own_pools : ℕ → List Pool → PoolsSoFar
own_pools k ps = record { provider = k; pools = ps }

provider_again : (c : Configuration) (at : List ℕ) (s : ProvidersSoFar) (k : ℕ) (p : Provider) (own : List Pool) → IsProvider s.providers p
    → list_at (pool_at c.labels) (under at (codes "pools")) (behind (length s.pools) (one_to POOLS)) (own_pools (length s.providers) []) (list_data (pool_data c) (pools_of c k)) ≡ Ok (own_pools (length s.providers) own)
    → provider_at c.labels at s (provider_data c k p) ≡ Ok (supply_of (s.providers ++ p ∷ []) (s.pools ++ own))
unfolding provider_at provider_row pools_at list_required named_at name_at new_name
provider_again c at s k p own is read =
    let last = member (codes "name") (string p.name) (member (codes "pools") (list_data (pool_data c) (pools_of c k)) no_members) in
    let o = option_map count p.concurrency in
    let limit = codes "max-concurrency" in
    rw (
      keys-given provider_keys limit o last refl,
      get-other (codes "name") limit o last refl,
      is.name.named,
      is.name.new,
      whole_again (under at (codes "launch-retries")) 1 LAUNCHES p.retries is.some_try is.retries,
      get-given limit o last refl refl,
      maybe_again (under at limit) 1 CONCURRENCY p.concurrency is.concurrency,
      get-other (codes "pools") limit o last refl,
      read,
    ) refl

module _ (c : Configuration) (each_label : EachAfter IsLabel [] c.labels) (are : AreProviders (length c.labels) c.providers c.pools) where
  abbrev owner : Pool → ℕ
  owner p = p.provider

  abbrev IsPoolHere : List Pool → Pool → Type 0
  IsPoolHere = IsPool (length c.labels)

  abbrev supply_before : List Provider → ProvidersSoFar
  supply_before e = supply_of e (below owner IsPoolHere (length e) c.pools)

  provider_next : (at : List ℕ) (e : List Provider) (p : Provider) → IsProvider e p → length e < length c.providers → provider_at c.labels at (supply_before e) (provider_data c (length e) p) ≡ Ok (supply_before (e ++ p ∷ []))
  provider_next at e p is there =
      let k = length e in
      let pools = list_again (pool_at c.labels) (pool_data c) (own_pools k) (λ (ps : List Pool) (q : Pool). (q.provider ≡ k) × IsPoolHere ps q) (pool_again c each_label k) (under at (codes "pools"))
      (behind (length (below owner IsPoolHere k c.pools)) (one_to POOLS)) (pools_of c k) (own_rows owner IsPoolHere k c.pools are.each_pool) (own_few owner IsPoolHere k c.pools are.each_pool POOLS are.few_pools) (are.each_has_one k there) in
      provider_again c at (supply_before e) k p (pools_of c k) is pools ∙ ap (λ (ps : List Pool). ok (supply_of (e ++ p ∷ []) ps)) (below-next owner IsPoolHere k c.pools are.each_pool e p refl)

-- # the text of a sound configuration is read as that configuration

providers_read : (c : Configuration) → IsSound c
    → list_at (provider_at c.labels) (under [] (codes "providers")) (one_to PROVIDERS) (supply_of [] []) (array (items_of (placed (provider_data c) 0 c.providers))) ≡ Ok (supply_of c.providers c.pools)
providers_read c sound =
    let owner : Pool → ℕ = λ p. p.provider in
    let P = IsPool (length c.labels) in
    placed_again (provider_at c.labels) (provider_data c) (supply_before c sound.labels sound.supply) IsProvider (length c.providers) (provider_next c sound.labels sound.supply) (under [] (codes "providers")) (one_to PROVIDERS)
    c.providers (supply_of [] []) (supply_of c.providers c.pools) (ap (supply_of []) (below-none owner P c.pools)) (ap (supply_of c.providers) (below-all owner P (length c.providers) c.pools sound.supply.owned))
    sound.supply.each_provider (omega arith) (omega (arith, sound.few_providers)) (omega (arith, sound.some_provider))

requesters_read : (c : Configuration) → IsSound c
    → list_at (requester_at c.labels c.semaphores c.tenants) (under [] (codes "requesters")) (at_most REQUESTERS) (demand_of [] []) (array (items_of (placed (requester_data c) 0 c.requesters))) ≡ Ok (demand_of c.requesters c.jobs)
requesters_read c sound =
    let owner : Job → ℕ = λ j. j.requester.0 in
    let P = IsJob (length c.labels) (length c.semaphores) (length c.tenants) in
    placed_again (requester_at c.labels c.semaphores c.tenants) (requester_data c) (demand_before c sound.labels sound.semaphores sound.tenants sound.demand) IsRequester (length c.requesters)
    (requester_next c sound.labels sound.semaphores sound.tenants sound.demand) (under [] (codes "requesters")) (at_most REQUESTERS) c.requesters (demand_of [] []) (demand_of c.requesters c.jobs)
    (ap (demand_of []) (below-none owner P c.jobs)) (ap (demand_of c.requesters) (below-all owner P (length c.requesters) c.jobs sound.demand.owned)) sound.demand.each_requester (omega arith) (omega (arith, sound.few_requesters)) (omega arith)

configuration_again : (c : Configuration) → IsSound c → configuration_at (configuration_data c) ≡ Ok c
unfolding configuration_at list_required list_maybe
configuration_again c sound =
    let labels = list_again label_at label_data (λ (ls : List Label). ls) IsLabel label_again (under [] (codes "labels")) (at_most LABELS) c.labels sound.labels (omega (arith, sound.few_labels)) (omega arith) in
    let semaphores = list_again semaphore_at semaphore_data (λ (ss : List Sem). ss) IsSem semaphore_again (under [] (codes "semaphores")) (at_most SEMAPHORES) c.semaphores sound.semaphores (omega (arith, sound.few_semaphores)) (omega arith) in
    let each = EachAfter-from_all (IsFault (length c.pools) (length c.requesters)) [] c.faults sound.faults in
    let faults = list_again (fault_at (pool_names c.providers c.pools) c.requesters) (fault_data c) (λ (fs : List Fault). fs) (λ e f. IsFault (length c.pools) (length c.requesters) f)
    (fault_again c (length c.labels) sound.supply sound.demand.each_requester) (under [] (codes "faults")) (at_most FAULTS) c.faults each (omega (arith, sound.few_faults)) (omega arith) in
    let tenants = list_if_any tenant_data c.tenants in
    rw (
      keys-given top_keys (codes "tenants") tenants no_members refl,
      labels,
      up_to_again (under [] (codes "max-hold-age")) AGE c.max_hold_age sound.max_hold_age,
      providers_read c sound,
      semaphores,
      get-given (codes "tenants") tenants no_members refl refl,
      tenants_again (under [] (codes "tenants")) c.tenants sound.tenants sound.few_tenants,
      requesters_read c sound,
      faults,
    ) refl

-- the text is read as the configuration
pub reads-again : (c : Configuration) (b : List ℕ) → IsSound c → IsUtf8 b → read b ≡ Some (configuration_data c) → reads b ≡ Ok c
unfolding reads
reads-again c b sound utf8 is = rw (parsed-some b (configuration_data c) utf8 is) (configuration_again c sound)
