-- the rows of a configuration that were read are sound, from labels and semaphores to pools, tenants and jobs
use Rattle.np_config_read.proofs.Prelude.{ReadsItem, list_maybe, list_required, AGE, All, All-append, All-nil, All-push, All-weaker, Amount, AreProviders, AreRequesters, Bool, CONCURRENCY, ConfigFault, Data, Demand, EachAfter, EachAfter-append, EachAfter-push, EndAs, FAIL_STARTS, HANDLES, HasNewName, IfSome, IsJob, IsLabel, IsLimit, IsOffer, IsPool, IsPriority, IsProvider, IsRequester, IsSem, IsStart, IsTaken, IsTenant, IsWanted, JOBS, JOB_LABELS, JOB_SEMAPHORES, Job, JobsOf, LABELS, LAUNCHES, Label, LabelId, Length, Limit, List, MIN_READY, NODE_CORES, NODE_RAM, None, Offer, Ok, Option, OutOfRange, POOLS, POOL_CORES, POOL_RAM, POOL_SERVERS, Pool, PoolsOf, Provider, Providers, RELATIVE_PRIORITY, Repeated, Requester, RequesterId, Requesters, Result, START_NUMBER, Sem, SemId, Some, StandsByOwner, Tenant, TenantId, UnknownName, Used, WINDOW, after_earlier, ap, append-nil, arith, at_most, behind, below, bind-ok, bytes_eq, cases_lt, codes, cond, default_name, demand_at, end_as_of, false, fault, filter, filter-append, filter-keeps_all, flag_or, found-ok, found-some, get, inl, inr, is_above, is_name_text, is_unoffered, is_untaken, job_at, job_keys, job_row, jobs_at, label_at, label_for, label_keys, label_named, label_row, label_value, length, length-append, limit_at, list_any, list_maybe-takes, list_required-takes, meaning_of, named_at, named_at-takes, nat_tests, need, need-ok, not, not-true, object_at, offer_amount, offer_at, offer_keys, offer_label, offers_at, ok, one_to, option_map, option_map_or, pool_at, pool_keys, pool_row, pools_at, position, position-Some, priority_of, provider_at, provider_keys, provider_row, refl, requester_at, requester_keys, requester_row, required, rest-ok, same_ok, semaphore_at, semaphore_for, semaphore_keys, semaphore_named, start_at, starts_at, subst, sym, taken_at, takes_at, tenant_at, tenant_id, tenant_keys, tenant_named, text_value, true, wanted_at, wants_at, whole_maybe, whole_maybe-takes, whole_or, whole_or-takes, whole_value, whole_value-takes, word_or, word_value, ℕ, [], ◌++◌, ◌+◌, ◌<◌, ◌==◌, ◌>>=◌, ◌>>◌, ◌∙◌, ◌∷◌, ◌≡◌, ◌≤◌}

-- # labels, semaphores, offers and starts that were read

-- this many rows, each of which is sound
abbrev pub Rows : {T : Type 0} → (List T → T → Type 0) → ℕ → List T → Type 0
Rows P n xs = EachAfter P [] xs × (length xs ≡ n)

pub Rows-push : {T : Type 0} (P : List T → T → Type 0) (n : ℕ) (s t : List T) (x : T) → s ++ x ∷ [] ≡ t → Rows P n s → P s x → Rows P (n + 1) t
Rows-push P n s t x same rows last =
    subst (Rows P (n + 1)) same (EachAfter-push P [] s x rows.0 last, simp length-append (omega arith))

-- the rows of a list that was read, with each row read as one more
module _ {T : Type 0} (read : ReadsItem (List T)) (P : List T → T → Type 0) (one : (at : List ℕ) (n : ℕ) (s t : List T) (d : Data) → Rows P n s → read at s d ≡ Ok t → Rows P (n + 1) t)
    (at key : List ℕ) (most : ℕ) (d : Data) (t : List T) where
  pub rows_required : list_required read at key (at_most most) [] d ≡ Ok t → EachAfter P [] t × (length t ≤ most)
  rows_required e = let r = list_required-takes read (Rows P) one at key (at_most most) [] t d (tt, refl) e in (r.3.0, omega (arith, r.1, r.3.1))

  pub rows_maybe : list_maybe read at key (at_most most) [] d ≡ Ok t → EachAfter P [] t × (length t ≤ most)
  rows_maybe e = let r = list_maybe-takes read (Rows P) one at key (at_most most) [] t d (omega arith) refl (tt, refl) e in (r.2.0, omega (arith, r.1, r.2.1))

-- ## Labels

abbrev made_label : List ℕ → ℕ → ℕ → Label
made_label name x y = record { name = name; min_ready = x; max_ready_age = y }

label_row-takes : (at name : List ℕ) (earlier : List Label) (d : Data) (l : Label) → (is_name_text name ≡ true) × (list_any (λ (row : Label). bytes_eq name row.name) earlier ≡ false) → label_row at name d ≡ Ok l → IsLabel earlier l
unfolding label_row
label_row-takes at name earlier d l told e =
    let ages = whole_or at (codes "max-ready-age") 0 AGE 0 d in
    let a = bind-ok (whole_or at (codes "min-ready") 0 MIN_READY 0 d) (λ x. ages >>= λ y. ok (made_label name x y)) l e in
    let b = bind-ok ages (λ y. ok (made_label name a.0 y)) l a.2 in
    let ready = whole_or-takes at (codes "min-ready") 0 MIN_READY 0 d a.0 (omega arith) (omega arith) a.1 in
    let age = whole_or-takes at (codes "max-ready-age") 0 AGE 0 d b.0 (omega arith) (omega arith) b.1 in
    subst (IsLabel earlier) (same_ok (made_label name a.0 b.0) l b.2) (record { name = record { named = told.0; new = told.1 }; min_ready = ready.1; max_ready_age = age.1 })

pub label_at-takes : (at : List ℕ) (n : ℕ) (s t : List Label) (d : Data) → Rows IsLabel n s → label_at at s d ≡ Ok t → Rows IsLabel (n + 1) t
unfolding label_at
label_at-takes at n s t d rows e =
    let rest : List ℕ → Result (List Label) ConfigFault = λ name. label_row at name d >>= λ l. ok (s ++ l ∷ []) in
    let a = bind-ok (named_at (λ (l : Label). l.name) label_keys at s d) rest t e in
    let b = bind-ok (label_row at a.0 d) (λ l. ok (s ++ l ∷ [])) t a.2 in
    Rows-push IsLabel n s t b.0 (same_ok (s ++ b.0 ∷ []) t b.2) rows (label_row-takes at a.0 s d b.0 (named_at-takes (λ (l : Label). l.name) label_keys at s d a.0 a.1) b.1)

-- ## Semaphores

abbrev made_semaphore : List ℕ → ℕ → Sem
made_semaphore name x = record { name = name; max = x }

pub semaphore_at-takes : (at : List ℕ) (n : ℕ) (s t : List Sem) (d : Data) → Rows IsSem n s → semaphore_at at s d ≡ Ok t → Rows IsSem (n + 1) t
unfolding semaphore_at
semaphore_at-takes at n s t d rows e =
    let most = whole_or at (codes "max") 1 HANDLES 1 d in
    let put : List ℕ → ℕ → Result (List Sem) ConfigFault = λ name x. ok (s ++ made_semaphore name x ∷ []) in
    let a = bind-ok (named_at (λ (l : Sem). l.name) semaphore_keys at s d) (λ name. most >>= put name) t e in
    let b = bind-ok most (put a.0) t a.2 in
    let x = made_semaphore a.0 b.0 in
    let max = whole_or-takes at (codes "max") 1 HANDLES 1 d b.0 (omega arith) (omega arith) b.1 in
    let told = named_at-takes (λ (l : Sem). l.name) semaphore_keys at s d a.0 a.1 in
    let is : IsSem s x = record { name = record { named = told.0; new = told.1 }; some = max.0; max = max.1 } in
    Rows-push IsSem n s t x (same_ok (s ++ x ∷ []) t b.2) rows is

-- ## Offers

-- a place that was found is within the list
pub found_within : {T : Type 0} (p : T → Bool) (xs : List T) (n : ℕ) → position p xs ≡ Some n → n < length xs
found_within p [] n e = absurd (cc)
found_within p (x ∷ xs) n e = (position-Some p (x ∷ xs) n x e).0

abbrev label_id : ℕ → LabelId
label_id n = record { 0 = n }

pub label_value-takes : (labels : List Label) (at : List ℕ) (d : Data) (l : LabelId) → label_value labels at d ≡ Ok l → l.0 < length labels
unfolding label_value label_for
label_value-takes labels at d l e =
    let t = bind-ok (text_value at d) (label_for labels at) l e in
    let f = found-ok (label_named labels t.0) (fault UnknownName at) (λ n. ok (label_id n)) l t.2 in
    subst (λ (x : LabelId). x.0 < length labels) (same_ok (label_id f.0) l f.2) (found_within (λ (r : Label). bytes_eq t.0 r.name) labels f.0 f.1)

offer_label-takes : (labels : List Label) (at : List ℕ) (s : List Offer) (d : Data) (l : LabelId) → offer_label labels at s d ≡ Ok l → (l.0 < length labels) × (is_unoffered s l ≡ true)
unfolding offer_label
offer_label-takes labels at s d l e =
    let here = below at (codes "name") in
    let rest : LabelId → Result LabelId ConfigFault = λ x. need (is_unoffered s x) (fault Repeated here) >> ok x in
    let v = bind-ok (required at (codes "name") d) (λ v. label_value labels here v >>= rest) l e in
    let x = bind-ok (label_value labels here v.0) rest l v.2 in
    let u = need-ok (is_unoffered s x.0) (fault Repeated here) (ok x.0) l x.2 in
    subst (λ (y : LabelId). (y.0 < length labels) × (is_unoffered s y ≡ true)) (same_ok x.0 l u.1) (label_value-takes labels here v.0 x.0 x.1, u.0)

abbrev made_amount : ℕ → ℕ → Amount
made_amount x y = record { instances = 1; cores = x; ram = y }

offer_amount-takes : (at : List ℕ) (d : Data) (a : Amount) → offer_amount at d ≡ Ok a → (a.instances ≡ 1) × (a.cores ≤ NODE_CORES) × (a.ram ≤ NODE_RAM)
unfolding offer_amount
offer_amount-takes at d a e =
    let rams = whole_or at (codes "ram") 0 NODE_RAM 1024 d in
    let x = bind-ok (whole_or at (codes "cores") 0 NODE_CORES 1 d) (λ x. rams >>= λ y. ok (made_amount x y)) a e in
    let y = bind-ok rams (λ y. ok (made_amount x.0 y)) a x.2 in
    let cores = whole_or-takes at (codes "cores") 0 NODE_CORES 1 d x.0 (omega arith) (omega arith) x.1 in
    let ram = whole_or-takes at (codes "ram") 0 NODE_RAM 1024 d y.0 (omega arith) (omega arith) y.1 in
    subst (λ (z : Amount). (z.instances ≡ 1) × (z.cores ≤ NODE_CORES) × (z.ram ≤ NODE_RAM)) (same_ok (made_amount x.0 y.0) a y.2) (refl, cores.1, ram.1)

abbrev made_offer : LabelId → Amount → Offer
made_offer l a = record { label = l; amount = a }

pub offer_at-takes : (labels : List Label) (at : List ℕ) (n : ℕ) (s t : List Offer) (d : Data) → Rows (IsOffer (length labels)) n s → offer_at labels at s d ≡ Ok t → Rows (IsOffer (length labels)) (n + 1) t
unfolding offer_at
offer_at-takes labels at n s t d rows e =
    let amounts = offer_amount at d in
    let put : LabelId → Amount → Result (List Offer) ConfigFault = λ l a. ok (s ++ made_offer l a ∷ []) in
    let o = rest-ok (object_at at offer_keys d) (offer_label labels at s d >>= λ l. amounts >>= put l) t e in
    let l = bind-ok (offer_label labels at s d) (λ l. amounts >>= put l) t o in
    let a = bind-ok amounts (put l.0) t l.2 in
    let label = offer_label-takes labels at s d l.0 l.1 in
    let amount = offer_amount-takes at d a.0 a.1 in
    let x = made_offer l.0 a.0 in
    let is : IsOffer (length labels) s x = record { label = label.0; new = label.1; instances = amount.0; cores = amount.1; ram = amount.2 } in
    Rows-push (IsOffer (length labels)) n s t x (same_ok (s ++ x ∷ []) t a.2) rows is

pub offers_at-takes : (labels : List Label) (at : List ℕ) (d : Data) (t : List Offer) → offers_at labels at d ≡ Ok t → EachAfter (IsOffer (length labels)) [] t × (length t ≤ LABELS)
unfolding offers_at
offers_at-takes labels at d t e = rows_required (offer_at labels) (IsOffer (length labels)) (offer_at-takes labels) at (codes "labels") LABELS d t e

-- ## Starts

pub start_at-takes : (at : List ℕ) (n : ℕ) (s t : List ℕ) (d : Data) → Rows IsStart n s → start_at at s d ≡ Ok t → Rows IsStart (n + 1) t
unfolding start_at
start_at-takes at n s t d rows e =
    let x = bind-ok (whole_value at 1 START_NUMBER d) (λ x. need (is_above s x) (fault OutOfRange at) >> ok (s ++ x ∷ [])) t e in
    let u = need-ok (is_above s x.0) (fault OutOfRange at) (ok (s ++ x.0 ∷ [])) t x.2 in
    let range = whole_value-takes at 1 START_NUMBER d x.0 x.1 in
    let is : IsStart s x.0 = record { least = range.0; most = range.1; above = u.0 } in
    Rows-push IsStart n s t x.0 (same_ok (s ++ x.0 ∷ []) t u.1) rows is

pub starts_at-takes : (at : List ℕ) (d : Data) (t : List ℕ) → starts_at at d ≡ Ok t → EachAfter IsStart [] t × (length t ≤ FAIL_STARTS)
unfolding starts_at
starts_at-takes at d t e = rows_maybe start_at IsStart start_at-takes at (codes "fail-starts") FAIL_STARTS d t e

-- ## Rows that each stand by themselves

-- this many rows
abbrev pub RowsAlone : {T : Type 0} → (T → Type 0) → ℕ → List T → Type 0
RowsAlone Q n xs = All Q xs × (length xs ≡ n)

pub RowsAlone-push : {T : Type 0} (Q : T → Type 0) (n : ℕ) (s t : List T) (x : T) → s ++ x ∷ [] ≡ t → RowsAlone Q n s → Q x → RowsAlone Q (n + 1) t
RowsAlone-push Q n s t x same rows last = subst (RowsAlone Q (n + 1)) same (All-push Q s x rows.0 last, simp length-append (omega arith))

pub RowsAlone-none : {T : Type 0} (Q : T → Type 0) → RowsAlone Q 0 []
RowsAlone-none Q = (All-nil Q, refl)

-- # providers and pools that were read

up_to : (most : ℕ) (o : Option ℕ) → IfSome o (λ n. (0 ≤ n) × (n ≤ most)) → IfSome o (λ n. n ≤ most)
up_to most None within = tt
up_to most (Some n) within = within.1

abbrev made_limit : Option ℕ → Option ℕ → Option ℕ → Limit
made_limit x y z = record { instances = x; cores = y; ram = z }

pub limit_at-takes : (at : List ℕ) (d : Data) (l : Limit) → limit_at at d ≡ Ok l → IsLimit l
unfolding limit_at
limit_at-takes at d l e =
    let servers = whole_maybe at (codes "max-servers") 0 POOL_SERVERS d in
    let cores = whole_maybe at (codes "max-cores") 0 POOL_CORES d in
    let ram = whole_maybe at (codes "max-ram") 0 POOL_RAM d in
    let x = bind-ok servers (λ x. cores >>= λ y. ram >>= λ z. ok (made_limit x y z)) l e in
    let y = bind-ok cores (λ y. ram >>= λ z. ok (made_limit x.0 y z)) l x.2 in
    let z = bind-ok ram (λ z. ok (made_limit x.0 y.0 z)) l y.2 in
    subst IsLimit (same_ok (made_limit x.0 y.0 z.0) l z.2) (record {
      servers = up_to POOL_SERVERS x.0 (whole_maybe-takes at (codes "max-servers") 0 POOL_SERVERS d x.0 x.1);
      cores = up_to POOL_CORES y.0 (whole_maybe-takes at (codes "max-cores") 0 POOL_CORES d y.0 y.1);
      ram = up_to POOL_RAM z.0 (whole_maybe-takes at (codes "max-ram") 0 POOL_RAM d z.0 z.1);
    })

abbrev made_pool : ℕ → List ℕ → Limit → List Offer → List ℕ → Pool
made_pool provider name l o s = record { provider = provider; name = name; limit = l; offers = o; fail_starts = s }

pool_row-takes : (labels : List Label) (at : List ℕ) (provider : ℕ) (name : List ℕ) (earlier : List Pool) (d : Data) (p : Pool) → (is_name_text name ≡ true) × (list_any (λ (row : Pool). bytes_eq name row.name) earlier ≡ false) → pool_row labels at provider name d ≡ Ok p
    → IsPool (length labels) earlier p × (p.provider ≡ provider)
unfolding pool_row
pool_row-takes labels at provider name earlier d p told e =
    let offers = offers_at labels at d in
    let starts = starts_at at d in
    let l = bind-ok (limit_at at d) (λ l. offers >>= λ o. starts >>= λ s. ok (made_pool provider name l o s)) p e in
    let o = bind-ok offers (λ o. starts >>= λ s. ok (made_pool provider name l.0 o s)) p l.2 in
    let s = bind-ok starts (λ s. ok (made_pool provider name l.0 o.0 s)) p o.2 in
    let x = made_pool provider name l.0 o.0 s.0 in
    let good_offers = offers_at-takes labels at d o.0 o.1 in
    let good_starts = starts_at-takes at d s.0 s.1 in
    let is : IsPool (length labels) earlier x = record {
      name = record { named = told.0; new = told.1 };
      limit = limit_at-takes at d l.0 l.1;
      offers = good_offers.0;
      few_offers = good_offers.1;
      starts = good_starts.0;
      few_starts = good_starts.1;
    } in
    subst (λ (q : Pool). IsPool (length labels) earlier q × (q.provider ≡ provider)) (same_ok x p s.2) (is, refl)

record ArePools (labels provider n : ℕ) (s : PoolsOf) : Type 0 where
  same_provider : s.provider ≡ provider
  rows : Rows (IsPool labels) n s.pools
  owned : All (λ p. p.provider ≡ provider) s.pools

pool_at-takes : (labels : List Label) (k : ℕ) (at : List ℕ) (n : ℕ) (s t : PoolsOf) (d : Data) → ArePools (length labels) k n s → pool_at labels at s d ≡ Ok t → ArePools (length labels) k (n + 1) t
unfolding pool_at
pool_at-takes labels k at n s t d are e =
    let put : Pool → Result PoolsOf ConfigFault = λ p. ok (record s { pools = s.pools ++ p ∷ [] }) in
    let rest : List ℕ → Result PoolsOf ConfigFault = λ name. pool_row labels at s.provider name d >>= put in
    let a = bind-ok (named_at (λ (p : Pool). p.name) pool_keys at s.pools d) rest t e in
    let p = bind-ok (pool_row labels at s.provider a.0 d) put t a.2 in
    let row = pool_row-takes labels at s.provider a.0 s.pools d p.0 (named_at-takes (λ (r : Pool). r.name) pool_keys at s.pools d a.0 a.1) p.1 in
    let next : PoolsOf = record s { pools = s.pools ++ p.0 ∷ [] } in
    subst (ArePools (length labels) k (n + 1)) (same_ok next t p.2) (record {
      same_provider = are.same_provider;
      rows = Rows-push (IsPool (length labels)) n s.pools (s.pools ++ p.0 ∷ []) p.0 refl are.rows row.0;
      owned = All-push (λ (r : Pool). r.provider ≡ k) s.pools p.0 are.owned (row.1 ∙ are.same_provider);
    })

-- the pools of a provider
record AreOwn (labels provider earlier : ℕ) (ps : List Pool) : Type 0 where
  each : EachAfter (IsPool labels) [] ps
  owned : All (λ p. p.provider ≡ provider) ps
  some : 1 ≤ length ps
  few : earlier + length ps ≤ POOLS

pools_at-takes : (labels : List Label) (at : List ℕ) (earlier k : ℕ) (d : Data) (own : PoolsOf) → pools_at labels at earlier k d ≡ Ok own → AreOwn (length labels) k earlier own.pools
unfolding pools_at
pools_at-takes labels at earlier k d own e =
    let l : Length = behind earlier (one_to POOLS) in
    let none : PoolsOf = record { provider = k; pools = [] } in
    let start : ArePools (length labels) k 0 none = record { same_provider = refl; rows = (tt, refl); owned = All-nil (λ (p : Pool). p.provider ≡ k) } in
    let r = list_required-takes (pool_at labels) (ArePools (length labels) k) (pool_at-takes labels k) at (codes "pools") l none own d start e in
    record { each = r.3.rows.0; owned = r.3.owned; some = omega (arith, r.2, r.3.rows.1); few = omega (arith, r.1, r.3.rows.1) }

abbrev made_provider : List ℕ → ℕ → Option ℕ → Provider
made_provider name r c = record { name = name; retries = r; concurrency = c }

provider_row-takes : (at name : List ℕ) (earlier : List Provider) (d : Data) (p : Provider) → (is_name_text name ≡ true) × (list_any (λ (row : Provider). bytes_eq name row.name) earlier ≡ false) → provider_row at name d ≡ Ok p → IsProvider earlier p
unfolding provider_row
provider_row-takes at name earlier d p told e =
    let limits = whole_maybe at (codes "max-concurrency") 1 CONCURRENCY d in
    let r = bind-ok (whole_or at (codes "launch-retries") 1 LAUNCHES 3 d) (λ r. limits >>= λ c. ok (made_provider name r c)) p e in
    let c = bind-ok limits (λ c. ok (made_provider name r.0 c)) p r.2 in
    let tries = whole_or-takes at (codes "launch-retries") 1 LAUNCHES 3 d r.0 (omega arith) (omega arith) r.1 in
    subst (IsProvider earlier) (same_ok (made_provider name r.0 c.0) p c.2)
    (record { name = record { named = told.0; new = told.1 }; some_try = tries.0; retries = tries.1; concurrency = whole_maybe-takes at (codes "max-concurrency") 1 CONCURRENCY d c.0 c.1 })

-- this many providers, with their pools
abbrev pub Supply : ℕ → ℕ → Providers → Type 0
Supply labels n s = AreProviders labels s.providers s.pools × (length s.providers ≡ n)

-- one more provider, with its pools
supply-more : (labels : ℕ) (providers : List Provider) (pools own : List Pool) (p : Provider) → AreProviders labels providers pools → IsProvider providers p → AreOwn labels (length providers) (length pools) own
    → AreProviders labels (providers ++ p ∷ []) (pools ++ own)
supply-more labels providers pools own p old next mine =
    let k = length providers in
    let longer : length (providers ++ p ∷ []) ≡ k + 1 = simp length-append (omega arith) in
    let by_owner = StandsByOwner (λ (q : Pool). q.provider) (IsPool labels) in
    let after = after_earlier (λ (q : Pool). q.provider) (IsPool labels) k pools [] own old.owned (All-nil (λ (q : Pool). q.provider ≡ k)) mine.owned mine.each in
    record {
      each_provider = EachAfter-push IsProvider [] providers p old.each_provider next;
      each_pool = EachAfter-append by_owner [] pools own old.each_pool (subst (λ (e : List Pool). EachAfter by_owner e own) (append-nil pools) after);
      few_pools = simp length-append (mine.few);
      owned = All-append (λ (q : Pool). q.provider < length (providers ++ p ∷ [])) pools own
          (All-weaker (λ (q : Pool). q.provider < k) (λ (q : Pool). q.provider < length (providers ++ p ∷ [])) (λ q h. omega arith) pools old.owned)
          (All-weaker (λ (q : Pool). q.provider ≡ k) (λ (q : Pool). q.provider < length (providers ++ p ∷ [])) (λ q h. omega arith) own mine.owned);
      each_has_one = λ j h.
          let split : length (filter (λ q. q.provider == j) (pools ++ own)) ≡ length (filter (λ q. q.provider == j) pools) + length (filter (λ q. q.provider == j) own)
          = ap length (filter-append (λ (q : Pool). q.provider == j) pools own) ∙ length-append (filter (λ q. q.provider == j) pools) (filter (λ q. q.provider == j) own) in
          elim (cases_lt j k) [
            | inl less ↦ let had = old.each_has_one j less in omega arith
            | inr least ↦
                let same : j ≡ k = omega arith in
                let all : filter (λ q. q.provider == j) own ≡ own = filter-keeps_all (λ (q : Pool). q.provider == j) own (All-weaker (λ (q : Pool). q.provider ≡ k) (λ (q : Pool). (q.provider == j) ≡ true) (λ q h. grind (arith, nat_tests)) own mine.owned) in
                let count : length (filter (λ q. q.provider == j) own) ≡ length own = ap length all in
                let some = mine.some in
                omega arith
          ];
    }

pub provider_at-takes : (labels : List Label) (at : List ℕ) (n : ℕ) (s t : Providers) (d : Data) → Supply (length labels) n s → provider_at labels at s d ≡ Ok t → Supply (length labels) (n + 1) t
unfolding provider_at
provider_at-takes labels at n s t d are e =
    let pools = pools_at labels at (length s.pools) (length s.providers) d in
    let put : Provider → PoolsOf → Result Providers ConfigFault = λ p own. ok (record { providers = s.providers ++ p ∷ []; pools = s.pools ++ own.pools }) in
    let rest : List ℕ → Result Providers ConfigFault = λ name. provider_row at name d >>= λ p. pools >>= put p in
    let a = bind-ok (named_at (λ (p : Provider). p.name) provider_keys at s.providers d) rest t e in
    let p = bind-ok (provider_row at a.0 d) (λ p. pools >>= put p) t a.2 in
    let own = bind-ok pools (put p.0) t p.2 in
    let is = provider_row-takes at a.0 s.providers d p.0 (named_at-takes (λ (r : Provider). r.name) provider_keys at s.providers d a.0 a.1) p.1 in
    let next : Providers = record { providers = s.providers ++ p.0 ∷ []; pools = s.pools ++ own.0.pools } in
    let mine = pools_at-takes labels at (length s.pools) (length s.providers) d own.0 own.1 in
    let count = are.1 in
    subst (Supply (length labels) (n + 1)) (same_ok next t own.2)
    (supply-more (length labels) s.providers s.pools own.0.pools p.0 are.0 is mine, simp length-append (omega arith))

-- no providers
pub supply-none : (labels : ℕ) → Supply labels 0 (record { providers = []; pools = [] })
supply-none labels = (
  record {
    each_provider = tt;
    each_pool = tt;
    few_pools = omega arith;
    owned = All-nil (λ (p : Pool). p.provider < 0);
    each_has_one = λ k h. absurd (omega arith);
  },
  refl,
)

-- # tenants that were read

abbrev made_tenant : List ℕ → Limit → Tenant
made_tenant name l = record { name = name; limit = l }

pub tenant_at-takes : (at : List ℕ) (n : ℕ) (s t : List Tenant) (d : Data) → Rows IsTenant n s → tenant_at at s d ≡ Ok t → Rows IsTenant (n + 1) t
unfolding tenant_at
tenant_at-takes at n s t d rows e =
    let put : List ℕ → Limit → Result (List Tenant) ConfigFault = λ name l. ok (s ++ made_tenant name l ∷ []) in
    let taken = fault Repeated (below at (codes "name")) in
    let rest : List ℕ → Result (List Tenant) ConfigFault = λ name. need (not (bytes_eq name default_name)) taken >> (limit_at at d >>= put name) in
    let a = bind-ok (named_at (λ (r : Tenant). r.name) tenant_keys at s d) rest t e in
    let u = need-ok (not (bytes_eq a.0 default_name)) taken (limit_at at d >>= put a.0) t a.2 in
    let l = bind-ok (limit_at at d) (put a.0) t u.1 in
    let x = made_tenant a.0 l.0 in
    let told = named_at-takes (λ (r : Tenant). r.name) tenant_keys at s d a.0 a.1 in
    let is : IsTenant s x = record { name = record { named = told.0; new = told.1 }; listed = not-true (bytes_eq a.0 default_name) u.0; limit = limit_at-takes at d l.0 l.1 } in
    Rows-push IsTenant n s t x (same_ok (s ++ x ∷ []) t l.2) rows is

-- ## The tenant of a job

tenant_named-takes : (tenants : List Tenant) (text : List ℕ) (t : TenantId) → tenant_named tenants text ≡ Some t → t.0 ≤ length tenants
tenant_named-takes tenants text t e = by (bytes_eq text default_name) (position (λ r. bytes_eq text r.name) tenants) refl e
  where
    some : (a b : TenantId) → Some a ≡ Some b → a ≡ b
    some a b h = cc

    by : (b : Bool) (o : Option ℕ) → position (λ r. bytes_eq text r.name) tenants ≡ o → cond b (Some (tenant_id 0)) (option_map (λ n. tenant_id (n + 1)) o) ≡ Some t → t.0 ≤ length tenants
    by true o is h = subst (λ (x : TenantId). x.0 ≤ length tenants) (some (tenant_id 0) t h) (omega arith)
    by false None is h = absurd (cc)
    by false (Some n) is h =
        let within : n < length tenants = found_within (λ (r : Tenant). bytes_eq text r.name) tenants n is in
        subst (λ (x : TenantId). x.0 ≤ length tenants) (some (tenant_id (n + 1)) t h) (omega arith)

pub tenant-takes : (tenants : List Tenant) (at : List ℕ) (d : Data) (t : TenantId) → word_or (tenant_named tenants) at (codes "tenant") (tenant_id 0) d ≡ Ok t → t.0 ≤ length tenants
unfolding word_value
tenant-takes tenants at d t e = by (get (codes "tenant") d) e
  where
    here : List ℕ
    here = below at (codes "tenant")

    by : (o : Option Data) → option_map_or (word_value (tenant_named tenants) here) o (ok (tenant_id 0)) ≡ Ok t → t.0 ≤ length tenants
    by None h = subst (λ (x : TenantId). x.0 ≤ length tenants) (same_ok (tenant_id 0) t h) (omega arith)
    by (Some v) h =
        let w = bind-ok (text_value here v) (meaning_of (tenant_named tenants) here) t h in
        tenant_named-takes tenants w.0 t (found-some (tenant_named tenants w.0) (fault UnknownName here) t w.2)

-- # requesters and jobs that were read

-- ## Labels and semaphores of a job

wanted_at-takes : (labels : List Label) (at : List ℕ) (n : ℕ) (s t : List LabelId) (d : Data) → RowsAlone (IsWanted (length labels)) n s → wanted_at labels at s d ≡ Ok t → RowsAlone (IsWanted (length labels)) (n + 1) t
unfolding wanted_at
wanted_at-takes labels at n s t d rows e =
    let l = bind-ok (label_value labels at d) (λ l. ok (s ++ l ∷ [])) t e in
    RowsAlone-push (IsWanted (length labels)) n s t l.0 (same_ok (s ++ l.0 ∷ []) t l.2) rows (label_value-takes labels at d l.0 l.1)

wants_at-takes : (labels : List Label) (at : List ℕ) (d : Data) (t : List LabelId) → wants_at labels at d ≡ Ok t → All (IsWanted (length labels)) t × (1 ≤ length t) × (length t ≤ JOB_LABELS)
unfolding wants_at
wants_at-takes labels at d t e =
    let r = list_required-takes (wanted_at labels) (RowsAlone (IsWanted (length labels))) (wanted_at-takes labels) at (codes "labels") (one_to JOB_LABELS) [] t d (RowsAlone-none (IsWanted (length labels))) e in
    (r.3.0, omega (arith, r.2, r.3.1), omega (arith, r.1, r.3.1))

abbrev sem_id : ℕ → SemId
sem_id n = record { 0 = n }

semaphore_for-takes : (semaphores : List Sem) (at text : List ℕ) (x : SemId) → semaphore_for semaphores at text ≡ Ok x → x.0 < length semaphores
unfolding semaphore_for
semaphore_for-takes semaphores at text x e =
    let f = found-ok (semaphore_named semaphores text) (fault UnknownName at) (λ n. ok (sem_id n)) x e in
    subst (λ (y : SemId). y.0 < length semaphores) (same_ok (sem_id f.0) x f.2) (found_within (λ (r : Sem). bytes_eq text r.name) semaphores f.0 f.1)

taken_at-takes : (semaphores : List Sem) (at : List ℕ) (n : ℕ) (s t : List SemId) (d : Data) → Rows (IsTaken (length semaphores)) n s → taken_at semaphores at s d ≡ Ok t → Rows (IsTaken (length semaphores)) (n + 1) t
unfolding taken_at
taken_at-takes semaphores at n s t d rows e =
    let put : SemId → Result (List SemId) ConfigFault = λ x. need (is_untaken s x) (fault Repeated at) >> ok (s ++ x ∷ []) in
    let w = bind-ok (text_value at d) (λ text. semaphore_for semaphores at text >>= put) t e in
    let x = bind-ok (semaphore_for semaphores at w.0) put t w.2 in
    let u = need-ok (is_untaken s x.0) (fault Repeated at) (ok (s ++ x.0 ∷ [])) t x.2 in
    let is : IsTaken (length semaphores) s x.0 = record { semaphore = semaphore_for-takes semaphores at w.0 x.0 x.1; new = u.0 } in
    Rows-push (IsTaken (length semaphores)) n s t x.0 (same_ok (s ++ x.0 ∷ []) t u.1) rows is

takes_at-takes : (semaphores : List Sem) (at : List ℕ) (d : Data) (t : List SemId) → takes_at semaphores at d ≡ Ok t → EachAfter (IsTaken (length semaphores)) [] t × (length t ≤ JOB_SEMAPHORES)
unfolding takes_at
takes_at-takes semaphores at d t e = rows_maybe (taken_at semaphores) (IsTaken (length semaphores)) (taken_at-takes semaphores) at (codes "semaphores") JOB_SEMAPHORES d t e

-- ## The rest of a job

priority_of-takes : (word : List ℕ) (n : ℕ) → priority_of word ≡ Some n → IsPriority n
priority_of-takes word n e = by (bytes_eq word (codes "high")) (bytes_eq word (codes "normal")) (bytes_eq word (codes "low")) e
  where
    by : (x y z : Bool) → cond x (Some 100) (cond y (Some 200) (cond z (Some 300) None)) ≡ Some n → IsPriority n
    by true y z h = inl (cc)
    by false true z h = inr (inl (cc))
    by false false true h = inr (inr (cc))
    by false false false h = absurd (cc)

priority-takes : (at : List ℕ) (d : Data) (n : ℕ) → word_or priority_of at (codes "priority") 200 d ≡ Ok n → IsPriority n
unfolding word_value
priority-takes at d n e = by (get (codes "priority") d) e
  where
    here : List ℕ
    here = below at (codes "priority")

    by : (o : Option Data) → option_map_or (word_value priority_of here) o (ok 200) ≡ Ok n → IsPriority n
    by None h = inr (inl (sym (same_ok 200 n h)))
    by (Some v) h =
        let w = bind-ok (text_value here v) (meaning_of priority_of here) n h in
        priority_of-takes w.0 n (found-some (priority_of w.0) (fault UnknownName here) n w.2)

record IsDemand (labels : ℕ) (x : Demand) : Type 0 where
  wanted : All (IsWanted labels) x.labels
  some_label : 1 ≤ length x.labels
  few_labels : length x.labels ≤ JOB_LABELS
  priority : IsPriority x.priority
  relative : x.relative_priority ≤ RELATIVE_PRIORITY

abbrev made_demand : List LabelId → ℕ → ℕ → Demand
made_demand w p r = record { labels = w; priority = p; relative_priority = r }

demand_at-takes : (labels : List Label) (at : List ℕ) (d : Data) (x : Demand) → demand_at labels at d ≡ Ok x → IsDemand (length labels) x
unfolding demand_at
demand_at-takes labels at d x e =
    let priorities = word_or priority_of at (codes "priority") 200 d in
    let relatives = whole_or at (codes "relative-priority") 0 RELATIVE_PRIORITY 0 d in
    let w = bind-ok (wants_at labels at d) (λ w. priorities >>= λ p. relatives >>= λ r. ok (made_demand w p r)) x e in
    let p = bind-ok priorities (λ p. relatives >>= λ r. ok (made_demand w.0 p r)) x w.2 in
    let r = bind-ok relatives (λ r. ok (made_demand w.0 p.0 r)) x p.2 in
    let wanted = wants_at-takes labels at d w.0 w.1 in
    let relative = whole_or-takes at (codes "relative-priority") 0 RELATIVE_PRIORITY 0 d r.0 (omega arith) (omega arith) r.1 in
    subst (IsDemand (length labels)) (same_ok (made_demand w.0 p.0 r.0) x r.2)
    (record { wanted = wanted.0; some_label = wanted.1; few_labels = wanted.2; priority = priority-takes at d p.0 p.1; relative = relative.1 })

abbrev made_job : RequesterId → List ℕ → Demand → List SemId → Bool → EndAs → TenantId → Job
made_job requester name x taken first end tenant = record { requester = requester; name = name; labels = x.labels; priority = x.priority; relative_priority = x.relative_priority; semaphores = taken; resources_first = first; end = end; tenant = tenant }

job_row-takes : (labels : List Label) (semaphores : List Sem) (tenants : List Tenant) (at : List ℕ) (requester : RequesterId) (name : List ℕ) (x : Demand) (earlier : List Job) (d : Data) (j : Job)
    → (is_name_text name ≡ true) × (list_any (λ (row : Job). bytes_eq name row.name) earlier ≡ false) → IsDemand (length labels) x → job_row semaphores tenants at requester name x d ≡ Ok j
    → IsJob (length labels) (length semaphores) (length tenants) earlier j × (j.requester ≡ requester)
unfolding job_row
job_row-takes labels semaphores tenants at requester name x earlier d j told demand e =
    let flags = flag_or at (codes "resources-first") false d in
    let ends = word_or end_as_of at (codes "end") Used d in
    let made = made_job requester name x in
    let theirs = word_or (tenant_named tenants) at (codes "tenant") (tenant_id 0) d in
    let t = bind-ok (takes_at semaphores at d) (λ t. flags >>= λ f. ends >>= λ u. theirs >>= λ w. ok (made t f u w)) j e in
    let f = bind-ok flags (λ f. ends >>= λ u. theirs >>= λ w. ok (made t.0 f u w)) j t.2 in
    let u = bind-ok ends (λ u. theirs >>= λ w. ok (made t.0 f.0 u w)) j f.2 in
    let w = bind-ok theirs (λ w. ok (made t.0 f.0 u.0 w)) j u.2 in
    let taken = takes_at-takes semaphores at d t.0 t.1 in
    let is : IsJob (length labels) (length semaphores) (length tenants) earlier (made t.0 f.0 u.0 w.0) = record {
      name = record { named = told.0; new = told.1 };
      wanted = demand.wanted;
      some_label = demand.some_label;
      few_labels = demand.few_labels;
      priority = demand.priority;
      relative = demand.relative;
      taken = taken.0;
      few_taken = taken.1;
      tenant = tenant-takes tenants at d w.0 w.1;
    } in
    subst (λ (i : Job). IsJob (length labels) (length semaphores) (length tenants) earlier i × (i.requester ≡ requester)) (same_ok (made t.0 f.0 u.0 w.0) j w.2) (is, refl)

record AreJobs (labels semaphores tenants : ℕ) (requester : RequesterId) (n : ℕ) (s : JobsOf) : Type 0 where
  same_requester : s.requester ≡ requester
  rows : Rows (IsJob labels semaphores tenants) n s.jobs
  owned : All (λ j. j.requester.0 ≡ requester.0) s.jobs

job_at-takes : (labels : List Label) (semaphores : List Sem) (tenants : List Tenant) (k : RequesterId) (at : List ℕ) (n : ℕ) (s t : JobsOf) (d : Data) → AreJobs (length labels) (length semaphores) (length tenants) k n s → job_at labels semaphores tenants at s d ≡ Ok t
    → AreJobs (length labels) (length semaphores) (length tenants) k (n + 1) t
unfolding job_at
job_at-takes labels semaphores tenants k at n s t d are e =
    let put : Job → Result JobsOf ConfigFault = λ j. ok (record s { jobs = s.jobs ++ j ∷ [] }) in
    let row : List ℕ → Demand → Result JobsOf ConfigFault = λ name x. job_row semaphores tenants at s.requester name x d >>= put in
    let rest : List ℕ → Result JobsOf ConfigFault = λ name. demand_at labels at d >>= row name in
    let a = bind-ok (named_at (λ (j : Job). j.name) job_keys at s.jobs d) rest t e in
    let x = bind-ok (demand_at labels at d) (row a.0) t a.2 in
    let j = bind-ok (job_row semaphores tenants at s.requester a.0 x.0 d) put t x.2 in
    let demand = demand_at-takes labels at d x.0 x.1 in
    let row = job_row-takes labels semaphores tenants at s.requester a.0 x.0 s.jobs d j.0 (named_at-takes (λ (r : Job). r.name) job_keys at s.jobs d a.0 a.1) demand j.1 in
    let next : JobsOf = record s { jobs = s.jobs ++ j.0 ∷ [] } in
    subst (AreJobs (length labels) (length semaphores) (length tenants) k (n + 1)) (same_ok next t j.2) (record {
      same_requester = are.same_requester;
      rows = Rows-push (IsJob (length labels) (length semaphores) (length tenants)) n s.jobs (s.jobs ++ j.0 ∷ []) j.0 refl are.rows row.0;
      owned = All-push (λ (r : Job). r.requester.0 ≡ k.0) s.jobs j.0 are.owned (ap (λ (q : RequesterId). q.0) (row.1 ∙ are.same_requester));
    })

record AreOwnJobs (labels semaphores tenants earlier : ℕ) (k : RequesterId) (js : List Job) : Type 0 where
  each : EachAfter (IsJob labels semaphores tenants) [] js
  owned : All (λ j. j.requester.0 ≡ k.0) js
  few : earlier + length js ≤ JOBS

jobs_at-takes : (labels : List Label) (semaphores : List Sem) (tenants : List Tenant) (at : List ℕ) (earlier : ℕ) (k : RequesterId) (d : Data) (own : JobsOf) → earlier ≤ JOBS → jobs_at labels semaphores tenants at earlier k d ≡ Ok own
    → AreOwnJobs (length labels) (length semaphores) (length tenants) earlier k own.jobs
unfolding jobs_at
jobs_at-takes labels semaphores tenants at earlier k d own room e =
    let l : Length = behind earlier (at_most JOBS) in
    let none : JobsOf = record { requester = k; jobs = [] } in
    let start : AreJobs (length labels) (length semaphores) (length tenants) k 0 none = record { same_requester = refl; rows = (tt, refl); owned = All-nil (λ (j : Job). j.requester.0 ≡ k.0) } in
    let r = list_maybe-takes (job_at labels semaphores tenants) (AreJobs (length labels) (length semaphores) (length tenants) k) (job_at-takes labels semaphores tenants k) at (codes "jobs") l none own d room refl start e in
    record { each = r.2.rows.0; owned = r.2.owned; few = omega (arith, r.1, r.2.rows.1) }

abbrev made_requester : List ℕ → ℕ → Requester
made_requester name w = record { name = name; window = w }

requester_row-takes : (at name : List ℕ) (earlier : List Requester) (d : Data) (q : Requester) → (is_name_text name ≡ true) × (list_any (λ (row : Requester). bytes_eq name row.name) earlier ≡ false) → requester_row at name d ≡ Ok q → IsRequester earlier q
unfolding requester_row
requester_row-takes at name earlier d q told e =
    let w = bind-ok (whole_or at (codes "window") 1 WINDOW 20 d) (λ w. ok (made_requester name w)) q e in
    let window = whole_or-takes at (codes "window") 1 WINDOW 20 d w.0 (omega arith) (omega arith) w.1 in
    subst (IsRequester earlier) (same_ok (made_requester name w.0) q w.2) (record { name = record { named = told.0; new = told.1 }; some = window.0; window = window.1 })

-- this many requesters, with their jobs
abbrev pub Demands : ℕ → ℕ → ℕ → ℕ → Requesters → Type 0
Demands labels semaphores tenants n s = AreRequesters labels semaphores tenants s.requesters s.jobs × (length s.requesters ≡ n)

demands-more : (labels semaphores tenants : ℕ) (requesters : List Requester) (jobs own : List Job) (q : Requester) (k : RequesterId) → k.0 ≡ length requesters → AreRequesters labels semaphores tenants requesters jobs → IsRequester requesters q
    → AreOwnJobs labels semaphores tenants (length jobs) k own → AreRequesters labels semaphores tenants (requesters ++ q ∷ []) (jobs ++ own)
demands-more labels semaphores tenants requesters jobs own q k here old next mine =
    let longer : length (requesters ++ q ∷ []) ≡ length requesters + 1 = simp length-append (omega arith) in
    let by_owner = StandsByOwner (λ (j : Job). j.requester.0) (IsJob labels semaphores tenants) in
    let less : All (λ j. j.requester.0 < k.0) jobs = All-weaker (λ (j : Job). j.requester.0 < length requesters) (λ (j : Job). j.requester.0 < k.0) (λ j h. omega arith) jobs old.owned in
    let after = after_earlier (λ (j : Job). j.requester.0) (IsJob labels semaphores tenants) k.0 jobs [] own less (All-nil (λ (j : Job). j.requester.0 ≡ k.0)) mine.owned mine.each in
    record {
      each_requester = EachAfter-push IsRequester [] requesters q old.each_requester next;
      each_job = EachAfter-append by_owner [] jobs own old.each_job (subst (λ (e : List Job). EachAfter by_owner e own) (append-nil jobs) after);
      few_jobs = simp length-append (mine.few);
      owned = All-append (λ (j : Job). j.requester.0 < length (requesters ++ q ∷ [])) jobs own
          (All-weaker (λ (j : Job). j.requester.0 < length requesters) (λ (j : Job). j.requester.0 < length (requesters ++ q ∷ [])) (λ j h. omega arith) jobs old.owned)
          (All-weaker (λ (j : Job). j.requester.0 ≡ k.0) (λ (j : Job). j.requester.0 < length (requesters ++ q ∷ [])) (λ j h. omega arith) own mine.owned);
    }

pub requester_at-takes : (labels : List Label) (semaphores : List Sem) (tenants : List Tenant) (at : List ℕ) (n : ℕ) (s t : Requesters) (d : Data) → Demands (length labels) (length semaphores) (length tenants) n s → requester_at labels semaphores tenants at s d ≡ Ok t
    → Demands (length labels) (length semaphores) (length tenants) (n + 1) t
unfolding requester_at
requester_at-takes labels semaphores tenants at n s t d are e =
    let k : RequesterId = record { 0 = length s.requesters } in
    let jobs = jobs_at labels semaphores tenants at (length s.jobs) k d in
    let put : Requester → JobsOf → Result Requesters ConfigFault = λ q own. ok (record { requesters = s.requesters ++ q ∷ []; jobs = s.jobs ++ own.jobs }) in
    let rest : List ℕ → Result Requesters ConfigFault = λ name. requester_row at name d >>= λ q. jobs >>= put q in
    let a = bind-ok (named_at (λ (q : Requester). q.name) requester_keys at s.requesters d) rest t e in
    let q = bind-ok (requester_row at a.0 d) (λ q. jobs >>= put q) t a.2 in
    let own = bind-ok jobs (put q.0) t q.2 in
    let is = requester_row-takes at a.0 s.requesters d q.0 (named_at-takes (λ (r : Requester). r.name) requester_keys at s.requesters d a.0 a.1) q.1 in
    let next : Requesters = record { requesters = s.requesters ++ q.0 ∷ []; jobs = s.jobs ++ own.0.jobs } in
    let mine = jobs_at-takes labels semaphores tenants at (length s.jobs) k d own.0 are.0.few_jobs own.1 in
    let count = are.1 in
    subst (Demands (length labels) (length semaphores) (length tenants) (n + 1)) (same_ok next t own.2)
    (demands-more (length labels) (length semaphores) (length tenants) s.requesters s.jobs own.0.jobs q.0 k refl are.0 is mine, simp length-append (omega arith))

-- no requesters
pub demands-none : (labels semaphores tenants : ℕ) → Demands labels semaphores tenants 0 (record { requesters = []; jobs = [] })
demands-none labels semaphores tenants = (record { each_requester = tt; each_job = tt; few_jobs = omega arith; owned = All-nil (λ (j : Job). j.requester.0 < 0) }, refl)
