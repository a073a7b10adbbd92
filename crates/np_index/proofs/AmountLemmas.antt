-- the amounts that tenants' pending requests wait for: made, after a change, and that they are small
use Rattle.np_index.proofs.Prelude.{AllByRecursion, Amount, AmountFits, AreAwaited, AreSmall, Bool, Changes, Configuration, EachAfter-at, Fits, IsFew, IsFitSite, IsJob, IsPlanned, IsReached, IsSmall, IsSound, Job, JobId, LabelId, List, None, Option, OthersStay, PoolId, RequestEntry, RequestFits, RequestId, RequestRecord, RequestShape, RequestView, Rest, Rises, Shaped, Some, StandsByOwner, State, TenantId, all-weaker, amount_at, amount_of, amount_of_all, ap, arith, awaited_by, below-apart, by_bool, change_at, change_at-set, changed, cond, drop, exchange, false, filter, find, first_rest, get_or, get_or_from_slice_get, if◌then◌else◌, invariant-Runs, is_id_before, is_pending, is_pending_of, is_tenant, length, length-change_at, length-drop, length-replicate, length-take, map, minus, minus-plus, nat_tests, next, nothing, nothing-plus, numbered, option_and_then, option_map, option_map_or, or-false, plan-next, plus, plus-comm, refl, remove_first, replicate, request-itself, request_equal, request_in, request_one_way, request_view, rest_at, rest_by, rest_of, rest_of_request, rises-remove_first, rows-few, same_amount, same_request, shape-Runs, shape-next, slice_get, slice_get-change_at, slice_get-get_or, slice_get_within, slice_set, sound_fits, subst, suc, suc-not_zero, swapped, sym, take, take_all, tenant_of_request, total, total_seen, true, with_rest, without_rest, zero, ℕ, [], ◌&&◌, ◌*◌, ◌+◌, ◌<◌, ◌==◌, ◌∙◌, ◌∷◌, ◌≡◌, ◌≤◌}

-- # the amounts after the one of a tenant was changed

-- ## as code changes it

module _ {X : Type 0} (at : ℕ) (xs : List X) (old : X) (within : at < length xs) (was : old ≡ get_or xs at old) where
  pub set-changed : (f : X → X) (new : X) → new ≡ f old → slice_set xs at new ≡ change_at at f xs
  set-changed f new made = ap (slice_set xs at) (made ∙ ap f was) ∙ sym (change_at-set at f xs old within)

  pub found-changed : (f : X → X) (d : X) → option_map_or (λ x. x) (slice_get (change_at at f xs) at) d ≡ f old
  found-changed f d =
      let there : slice_get xs at ≡ Some old = slice_get-get_or xs at old within ∙ ap (λ (x : X). Some x) (sym was) in
      ap (λ (o : Option X). option_map_or (λ x. x) o d) (slice_get-change_at at f xs ∙ ap (option_map f) there)

-- ## each tenant's amount

-- what the rest is of this tenant's
abbrev pub share : TenantId → Option Rest → Amount
share t o = option_map_or (λ rest. if rest.tenant.0 == t.0 then rest.amount else nothing) o nothing

minus-nothing : (a : Amount) → a ≡ minus a nothing
minus-nothing a = same_amount _ _ (omega arith) (omega arith) (omega arith)

nothing-minus : (a : Amount) → nothing ≡ minus nothing a
nothing-minus a = same_amount _ _ (omega arith) (omega arith) (omega arith)

plus-nothing : (a : Amount) → a ≡ plus a nothing
plus-nothing a = sym (plus-comm a nothing ∙ nothing-plus a)

both-later : (m n : ℕ) → (suc m == suc n) ≡ (m == n)
both-later m n = grind (arith, nat_tests)

-- the amount at a number
abbrev number_at : ℕ → List Amount → Amount
number_at n amounts = option_map_or (λ a. a) (slice_get amounts n) nothing

-- after one of them was changed by an amount; past the list there is nothing to change
changed-at : (op : Amount → Amount → Amount) → ((a : Amount) → a ≡ op a nothing) → (n at : ℕ) (b : Amount) (amounts : List Amount) → (length amounts ≤ at → nothing ≡ op nothing b)
    → number_at n (change_at at (λ a. op a b) amounts) ≡ op (number_at n amounts) (if at == n then b else nothing)
changed-at op keeps n at b [] past = by_bool (λ is. nothing ≡ op nothing (cond is b nothing)) (at == n) (λ _. past (omega arith)) (λ _. keeps nothing)
changed-at op keeps zero zero b (x ∷ xs) past = refl
changed-at op keeps zero (suc at) b (x ∷ xs) past = rw (suc-not_zero at) (keeps x)
changed-at op keeps (suc n) zero b (x ∷ xs) past = rw (below-apart 0 (suc n) (omega arith)) (keeps (number_at n xs))
changed-at op keeps (suc n) (suc at) b (x ∷ xs) past = rw (both-later at n) (changed-at op keeps n at b xs (λ low. past (omega (arith, low))))

-- without what a request waited for
pub amount-without : (t : TenantId) (o : Option Rest) (amounts : List Amount) → amount_at t (without_rest o amounts) ≡ minus (amount_at t amounts) (share t o)
amount-without t None amounts = minus-nothing (amount_at t amounts)
amount-without t (Some rest) amounts = changed-at minus minus-nothing t.0 rest.tenant.0 rest.amount amounts (λ _. nothing-minus rest.amount)

-- with what a request waits for
pub amount-with : (t : TenantId) (o : Option Rest) (amounts : List Amount) → ((rest : Rest) → o ≡ Some rest → rest.tenant.0 < length amounts)
    → amount_at t (with_rest o amounts) ≡ plus (amount_at t amounts) (share t o)
amount-with t None amounts within = plus-nothing (amount_at t amounts)
amount-with t (Some rest) amounts within = changed-at plus plus-nothing t.0 rest.tenant.0 rest.amount amounts (λ past. absurd (omega (arith, past, within rest refl)))

-- there are as many as before
pub length-without : (o : Option Rest) (amounts : List Amount) → length (without_rest o amounts) ≡ length amounts
length-without None amounts = refl
length-without (Some rest) amounts = length-change_at rest.tenant.0 (λ a. minus a rest.amount) amounts

pub length-with : (o : Option Rest) (amounts : List Amount) → length (with_rest o amounts) ≡ length amounts
length-with None amounts = refl
length-with (Some rest) amounts = length-change_at rest.tenant.0 (λ a. plus a rest.amount) amounts

-- with both
pub amount-exchange : (t : TenantId) (before after : Option Rest) (amounts : List Amount) → ((rest : Rest) → after ≡ Some rest → rest.tenant.0 < length amounts)
    → amount_at t (exchange before after amounts) ≡ plus (minus (amount_at t amounts) (share t before)) (share t after)
amount-exchange t before after amounts within =
    amount-with t after (without_rest before amounts) (λ rest is. subst (λ (n : ℕ). rest.tenant.0 < n) (sym (length-without before amounts)) (within rest is))
    ∙ ap (λ (a : Amount). plus a (share t after)) (amount-without t before amounts)

pub length-exchange : (before after : Option Rest) (amounts : List Amount) → length (exchange before after amounts) ≡ length amounts
length-exchange before after amounts = length-with after (without_rest before amounts) ∙ length-without before amounts

-- # what requests wait for is small

-- ## sums

none-few : (n : ℕ) → IsFew nothing n
none-few n = record { instances = omega arith; cores = omega arith; ram = omega arith }

few-within : (a : Amount) (m n : ℕ) → m ≤ n → IsFew a m → IsFew a n
few-within a m n more few = record { instances = omega (arith, few.instances, more); cores = omega (arith, few.cores, more); ram = omega (arith, few.ram, more) }

-- code can keep a sum over the requests of any state that a run leads to
pub few-kept : (a : Amount) (n : ℕ) → n ≤ 8388640 → IsFew a n → IsSmall a
few-kept a n within few = record { instances = omega (arith, few.instances, within); cores = omega (arith, few.cores, within); ram = omega (arith, few.ram, within) }

all-take : {X : Type 0} (P : X → Type 0) (n : ℕ) (xs : List X) → AllByRecursion P xs → AllByRecursion P (take n xs)
all-take P zero [] all = tt
all-take P zero (x ∷ xs) all = tt
all-take P (suc n) [] all = tt
all-take P (suc n) (x ∷ xs) all = (all.0, all-take P n xs all.1)

-- ## requests

module _ (c : Configuration) (small : (p : PoolId) (l : LabelId) → AmountFits (amount_of c p l)) where
  labels-few : (p : PoolId) (labels : List LabelId) (n : ℕ) → length labels ≤ n → IsFew (amount_of_all c p labels) n
  labels-few p [] n few = none-few n
  labels-few p (l ∷ labels) zero few = absurd (omega (arith, few))
  labels-few p (l ∷ labels) (suc n) few =
      let one = small p l in
      let rest = labels-few p labels n (omega (arith, few)) in
      record {
        instances = omega (arith, one.instances, rest.instances);
        cores = omega (arith, one.cores, rest.cores);
        ram = omega (arith, one.ram, rest.ram);
      }

  pub rest-few : (e : RequestEntry) → length e.kept.labels ≤ 32 → IsFew (rest_of_request c e) 32
  rest-few e few = by e.kept.pool where
    by : (o : Option PoolId) → IsFew (option_map_or (λ p. amount_of_all c p (drop (length e.kept.nodes) e.kept.labels)) o nothing) 32
    by None = none-few 32
    by (Some p) = labels-few p (drop (length e.kept.nodes) e.kept.labels) 32 (omega (arith, few, length-drop (length e.kept.nodes) e.kept.labels))

module _ (c : Configuration) (s : State) (fits : Fits c s) (t : TenantId) where
  each-few : AllByRecursion (λ (e : RequestEntry). IsFew (rest_of_request c e) 32) s.requests
  each-few = all-weaker (RequestFits c s) (λ (e : RequestEntry). IsFew (rest_of_request c e) 32) (λ e is. rest-few c fits.amounts e is.labels) s.requests fits.each_request

  -- what the tenant's pending requests wait for, up to any place
  pub few-small : (n : ℕ) → IsSmall (total (map (rest_of_request c) (filter (is_pending_of c t) (take n s.requests))))
  few-small n =
      few-kept _ (length (take n s.requests) * 32) (omega (arith, length-take n s.requests, fits.requests))
      (rows-few (rest_of_request c) (is_pending_of c t) (take n s.requests) (all-take (λ (e : RequestEntry). IsFew (rest_of_request c e) 32) n s.requests each-few))

  -- what all of them wait for
  pub awaited-few : IsFew (total (map (rest_of_request c) (filter (is_pending_of c t) s.requests))) 8388608
  awaited-few = few-within _ (length s.requests * 32) 8388608 (omega (arith, fits.requests)) (rows-few (rest_of_request c) (is_pending_of c t) s.requests each-few)

-- # rows in the order of their keys: what is kept under each key determines what is kept in all

-- one part in place of another
plus-moved : (rest before after : Amount) → plus (minus (plus before rest) before) after ≡ plus after rest
plus-moved rest before after =
    ap (λ (x : Amount). plus (minus x before) after) (plus-comm before rest) ∙ ap (λ (x : Amount). plus x after) (minus-plus rest before) ∙ plus-comm rest after

module _ {X K V : Type 0} (key : X → K) (kept : X → V) (before same : K → K → Bool)
    (one_way : (a b : K) → before a b ≡ true → before b a ≡ false)
    (equal : (a b : K) → same a b ≡ true → a ≡ b)
    (itself : (a : K) → same a a ≡ true) where
  -- what is kept under the key
  abbrev at : K → List X → Option V
  at k xs = option_map kept (find (λ x. same (key x) k) xs)

  abbrev InOrder : List X → Type 0
  InOrder xs = Rises (λ a b. before (key a) (key b)) xs

  abbrev AllAfter : K → List X → Type 0
  AllAfter k xs = AllByRecursion (λ x. before k (key x) ≡ true) xs

  -- the rows without the one under the key
  abbrev without : K → List X → List X
  without k xs = remove_first (λ x. same (key x) k) xs

  -- ## one row and the later ones

  later-other : (a b : K) → before a b ≡ true → same b a ≡ false
  later-other a b first = grind (arith, equal b a, one_way a b)

  none-after : (a k : K) (xs : List X) → AllAfter a xs → same a k ≡ true → at k xs ≡ None
  none-after a k [] all is = refl
  none-after a k (x ∷ xs) all is = grind (arith, equal a k, later-other a (key x) all.0, none-after a k xs all.1)

  found-after : (a k : K) (v : V) (xs : List X) → AllAfter a xs → at k xs ≡ Some v → before a k ≡ true
  found-after a k v [] all is = absurd cc
  found-after a k v (x ∷ xs) all is = grind (arith, all.0, equal (key x) k, found-after a k v xs all.1)

  -- ## two lists with the same under each key

  module _ (x : X) (xs : List X) (y : X) (ys : List X) (rise_x : InOrder (x ∷ xs)) (rise_y : InOrder (y ∷ ys)) (alike : (k : K) → at k (x ∷ xs) ≡ at k (y ∷ ys)) where
    -- they begin with the same key
    same-head : key x ≡ key y
    same-head =
        grind (
          arith,
          alike (key x),
          alike (key y),
          itself (key x),
          itself (key y),
          equal (key x) (key y),
          equal (key y) (key x),
          one_way (key x) (key y),
          found-after (key x) (key y) (kept y) xs rise_x.0,
          found-after (key y) (key x) (kept x) ys rise_y.0,
        )

    same-first : kept x ≡ kept y
    same-first = grind (arith, alike (key x), itself (key x), same-head)

    -- and go on with the same
    same-tail : (k : K) → at k xs ≡ at k ys
    same-tail k = grind (arith, alike k, same-head, none-after (key x) k xs rise_x.0, none-after (key y) k ys rise_y.0)

  -- they keep the same
  pub same-kept : (xs ys : List X) → InOrder xs → InOrder ys → ((k : K) → at k xs ≡ at k ys) → map kept xs ≡ map kept ys
  same-kept [] [] rise_x rise_y alike = refl
  same-kept [] (y ∷ ys) rise_x rise_y alike = grind (arith, alike (key y), itself (key y))
  same-kept (x ∷ xs) [] rise_x rise_y alike = grind (arith, alike (key x), itself (key x))
  same-kept (x ∷ xs) (y ∷ ys) rise_x rise_y alike = rw (same-first x xs y ys rise_x rise_y alike, same-kept xs ys rise_x.1 rise_y.1 (same-tail x xs y ys rise_x rise_y alike)) refl

  -- ## one row less

  at-other : (r k : K) (xs : List X) → same r k ≡ false → at k (without r xs) ≡ at k xs
  at-other r k [] other = refl
  at-other r k (x ∷ xs) other = grind (arith, equal (key x) r, at-other r k xs other)

  at-removed : (r : K) (xs : List X) → InOrder xs → at r (without r xs) ≡ None
  at-removed r [] rises = refl
  at-removed r (x ∷ xs) rises = grind (arith, none-after (key x) r xs rises.0, at-removed r xs rises.1)

  module _ (r : K) (xs ys : List X) (rise_x : InOrder xs) (rise_y : InOrder ys) (alike : (k : K) → same r k ≡ false → at k ys ≡ at k xs) where
    alike-without : (k : K) → at k (without r xs) ≡ at k (without r ys)
    alike-without k =
        by_bool (λ _. at k (without r xs) ≡ at k (without r ys)) (same r k)
        (λ is. subst (λ (j : K). at j (without r xs) ≡ at j (without r ys)) (equal r k is) (at-removed r xs rise_x ∙ sym (at-removed r ys rise_y)))
        (λ other. at-other r k xs other ∙ sym (alike k other) ∙ sym (at-other r k ys other))

    -- the others keep the same
    same-others : map kept (without r xs) ≡ map kept (without r ys)
    same-others =
        same-kept (without r xs) (without r ys)
        (rises-remove_first (λ a b. before (key a) (key b)) (λ x. same (key x) r) xs rise_x)
        (rises-remove_first (λ a b. before (key a) (key b)) (λ x. same (key x) r) ys rise_y)
        alike-without

  -- ## what all rows take together

  module _ (takes : V → Amount) where
    -- what the row under the key takes
    abbrev part : K → List X → Amount
    part r xs = option_map_or takes (at r xs) nothing

    -- what the row under the key takes, and what the others take
    parted : (r : K) (xs : List X) → total (map takes (map kept xs)) ≡ plus (part r xs) (total (map takes (map kept (without r xs))))
    parted r [] = sym (nothing-plus nothing)
    parted r (x ∷ xs) = by (same (key x) r) (parted r xs) where
      by : (b : Bool) → total (map takes (map kept xs)) ≡ plus (part r xs) (total (map takes (map kept (without r xs))))
          → plus (takes (kept x)) (total (map takes (map kept xs)))
          ≡ plus (option_map_or takes (option_map kept (cond b (Some x) (find (λ y. same (key y) r) xs))) nothing) (total (map takes (map kept (cond b xs (x ∷ without r xs)))))
      by true rest = refl
      by false rest = ap (plus (takes (kept x))) rest ∙ swapped (takes (kept x)) (part r xs) (total (map takes (map kept (without r xs))))

    -- if only the row under the key changes, the sum changes by what that row takes
    pub moved-total : (r : K) (xs ys : List X) → InOrder xs → InOrder ys → ((k : K) → same r k ≡ false → at k ys ≡ at k xs)
        → plus (minus (total (map takes (map kept xs))) (part r xs)) (part r ys) ≡ total (map takes (map kept ys))
    moved-total r xs ys rise_x rise_y alike =
        let rest = total (map takes (map kept (without r xs))) in
        ap (λ (a : Amount). plus (minus a (part r xs)) (part r ys)) (parted r xs)
        ∙ plus-moved rest (part r xs) (part r ys)
        ∙ ap (λ (vs : List V). plus (part r ys) (total (map takes vs))) (same-others r xs ys rise_x rise_y alike)
        ∙ sym (parted r ys)

-- # what each request waits for, by its record, and whose it is

-- what a request with this record waits for, if it is pending and the tenant's
abbrev pub waits_for : Configuration → TenantId → RequestRecord → Amount
waits_for c t k = if is_pending k.state && is_tenant t (tenant_of_request c k) then rest_of c k else nothing

module _ (c : Configuration) (t : TenantId) where
  -- the sum over the tenant's pending requests, as one over all
  pub by-records : (rows : List RequestEntry) → total (map (rest_of_request c) (filter (is_pending_of c t) rows)) ≡ total (map (waits_for c t) (map (λ e. e.kept) rows))
  by-records [] = refl
  by-records (e ∷ rows) = by (is_pending_of c t e) (by-records rows) where
    by : (b : Bool) → total (map (rest_of_request c) (filter (is_pending_of c t) rows)) ≡ total (map (waits_for c t) (map (λ e. e.kept) rows))
        → total (map (rest_of_request c) (cond b (e ∷ filter (is_pending_of c t) rows) (filter (is_pending_of c t) rows)))
        ≡ plus (cond b (rest_of c e.kept) nothing) (total (map (waits_for c t) (map (λ e. e.kept) rows)))
    by true rest = ap (plus (rest_of_request c e)) rest
    by false rest = rest ∙ sym (nothing-plus (total (map (waits_for c t) (map (λ e. e.kept) rows))))

  -- ## the rest of one request

  pub share-by : (k : RequestRecord) → share t (rest_by c k) ≡ waits_for c t k
  share-by k = grind arith

  pub share-at : (s : State) (r : RequestId) → share t (rest_at c s r) ≡ option_map_or (waits_for c t) (request_in r s.requests) nothing
  share-at s r = by (request_in r s.requests) where
    by : (o : Option RequestRecord) → share t (option_and_then (rest_by c) o) ≡ option_map_or (waits_for c t) o nothing
    by (Some k) = share-by k
    by None = refl

-- ## the tenants

module _ (c : Configuration) (sound : IsSound c) where
  -- a job's tenant is one of the configuration
  job-tenant : (at : ℕ) (job : Job) → slice_get c.jobs at ≡ Some job → job.tenant.0 ≤ length c.tenants
  job-tenant at job is =
      let row = EachAfter-at (StandsByOwner (λ (j : Job). j.requester.0) (IsJob (length c.labels) (length c.semaphores) (length c.tenants))) [] c.jobs at job (slice_get_within c.jobs at job is) sound.demand.each_job in
      subst (λ (j : Job). j.tenant.0 ≤ length c.tenants) (get_or_from_slice_get c.jobs at job job is) row.own.tenant

  owner-within : (o : Option JobId) (t : TenantId) → option_map (λ job. job.tenant) (option_and_then (λ j. slice_get c.jobs j.0) o) ≡ Some t → t.0 ≤ length c.tenants
  owner-within None t is = absurd cc
  owner-within (Some j) t is = by (slice_get c.jobs j.0) refl is where
    by : (o : Option Job) → slice_get c.jobs j.0 ≡ o → option_map (λ job. job.tenant) o ≡ Some t → t.0 ≤ length c.tenants
    by None none found = absurd cc
    by (Some job) row found =
        let same : job.tenant ≡ t = cc in
        subst (λ (x : TenantId). x.0 ≤ length c.tenants) same (job-tenant j.0 job row)

  -- so is that of a request which waits for something
  pub rest-within : (k : RequestRecord) (rest : Rest) → rest_by c k ≡ Some rest → rest.tenant.0 < suc (length c.tenants)
  rest-within k rest is = by (is_pending k.state) (tenant_of_request c k) refl is where
    by : (b : Bool) (o : Option TenantId) → tenant_of_request c k ≡ o → (if b then option_map (λ x. record { tenant = x; amount = rest_of c k }) o else None) ≡ Some rest → rest.tenant.0 < suc (length c.tenants)
    by false o owner found = absurd cc
    by true None owner found = absurd cc
    by true (Some t) owner found =
        let one : record { tenant = t; amount = rest_of c k } ≡ rest = cc in
        let same : t ≡ rest.tenant = ap (λ (x : Rest). x.tenant) one in
        let within : t.0 ≤ length c.tenants = owner-within k.job t owner in
        subst (λ (x : TenantId). x.0 < suc (length c.tenants)) same (omega (arith, within))

  pub rest-at-within : (s : State) (r : RequestId) (rest : Rest) → rest_at c s r ≡ Some rest → rest.tenant.0 < suc (length c.tenants)
  rest-at-within s r rest is = by (request_in r s.requests) is where
    by : (o : Option RequestRecord) → option_and_then (rest_by c) o ≡ Some rest → rest.tenant.0 < suc (length c.tenants)
    by None found = absurd cc
    by (Some k) found = rest-within k rest found

-- # the amounts of the requests up to a place, for the walk over them

-- what the tenant's pending requests up to the place wait for
abbrev waited_to : Configuration → State → ℕ → TenantId → Amount
waited_to c s at t = total (map (rest_of_request c) (filter (is_pending_of c t) (take at s.requests)))

-- each tenant's amount is what its pending requests up to the place wait for
pub record AreUpTo (c : Configuration) (s : State) (at : ℕ) (amounts : List Amount) : Type 0 where
  pub each : (t : TenantId) → amount_at t amounts ≡ total (map (rest_of_request c) (filter (is_pending_of c t) (take at s.requests)))
  pub tenants : length amounts ≡ suc (length c.tenants)

all-nothing : (n k : ℕ) → option_map_or (λ (a : Amount). a) (slice_get (replicate n nothing) k) nothing ≡ nothing
all-nothing zero k = refl
all-nothing (suc n) zero = refl
all-nothing (suc n) (suc k) = all-nothing n k

module _ (c : Configuration) (s : State) where
  -- before the first request
  pub up-to-none : (amounts : List Amount) → amounts ≡ replicate (suc (length c.tenants)) nothing → AreUpTo c s 0 amounts
  up-to-none amounts is = record {
    each = λ t. ap (amount_at t) is ∙ all-nothing (suc (length c.tenants)) t.0;
    tenants = ap (λ (list : List Amount). length list) is ∙ length-replicate (suc (length c.tenants)) nothing;
  }

  -- past all requests
  pub up-to-all : (at : ℕ) (amounts : List Amount) → length s.requests ≤ at → AreUpTo c s at amounts → AreAwaited c s amounts
  up-to-all at amounts past so_far = record {
    each = λ t. so_far.each t ∙ ap (λ (rows : List RequestEntry). total (map (rest_of_request c) (filter (is_pending_of c t) rows))) (take_all at s.requests past);
    tenants = so_far.tenants;
  }

  module _ (sound : IsSound c) (fits : Fits c s) (at : ℕ) (amounts : List Amount) (so_far : AreUpTo c s at amounts)
      (v : RequestView) (there : Some v ≡ option_map request_view (slice_get s.requests at)) where
    with-next : AreUpTo c s (at + 1) (with_rest (rest_by c v.kept) amounts)
    with-next = record {
      each = λ t.
          amount-with t (rest_by c v.kept) amounts (λ rest is. subst (λ (n : ℕ). rest.tenant.0 < n) (sym so_far.tenants) (rest-within c sound v.kept rest is))
          ∙ ap (λ (a : Amount). plus a (share t (rest_by c v.kept))) (so_far.each t)
          ∙ ap (plus (waited_to c s at t)) (share-by c t v.kept)
          ∙ sym (total_seen (rest_of_request c) (is_pending_of c t) request_view (λ (w : RequestView). waits_for c t w.kept) (λ e. refl) s.requests at v (sym there));
      tenants = length-with (rest_by c v.kept) amounts ∙ so_far.tenants;
    }

    next-small : AreSmall (with_rest (rest_by c v.kept) amounts)
    next-small = λ t. subst IsSmall (sym (with-next.each t)) (few-small c s fits t (at + 1))

    -- one request more
    pub up-to-next : (rest : Option Rest) (next : List Amount) → rest ≡ rest_by c v.kept → (AreSmall (with_rest rest amounts) → next ≡ with_rest rest amounts) → AreUpTo c s (at + 1) next
    up-to-next rest next is added =
        let small : AreSmall (with_rest rest amounts) = subst (λ (o : Option Rest). AreSmall (with_rest o amounts)) (sym is) next-small in
        let made : next ≡ with_rest (rest_by c v.kept) amounts = added small ∙ ap (λ (o : Option Rest). with_rest o amounts) is in
        subst (λ (list : List Amount). AreUpTo c s (at + 1) list) (sym made) with-next

-- # how the amounts change with one request, and that they are small

abbrev id_of : RequestEntry → RequestId
id_of e = e.id

abbrev kept_of : RequestEntry → RequestRecord
kept_of e = e.kept

-- ## if one request changes

module _ (c : Configuration) (s t : State) (r : RequestId)
    (rises_s : Rises (λ a b. is_id_before a.id b.id) s.requests) (rises_t : Rises (λ a b. is_id_before a.id b.id) t.requests)
    (alike : (x : RequestId) → same_request r x ≡ false → request_in x t.requests ≡ request_in x s.requests) where
  tenant-moved : (x : TenantId) → plus (minus (awaited_by c s x) (share x (rest_at c s r))) (share x (rest_at c t r)) ≡ awaited_by c t x
  tenant-moved x =
      ap (λ (a : Amount). plus (minus a (share x (rest_at c s r))) (share x (rest_at c t r))) (by-records c x s.requests)
      ∙ ap (λ (a : Amount). plus (minus (total (map (waits_for c x) (map kept_of s.requests))) a) (share x (rest_at c t r))) (share-at c x s r)
      ∙ ap (plus (minus (total (map (waits_for c x) (map kept_of s.requests))) (option_map_or (waits_for c x) (request_in r s.requests) nothing))) (share-at c x t r)
      ∙ moved-total id_of kept_of is_id_before same_request request_one_way request_equal request-itself (waits_for c x) r s.requests t.requests rises_s rises_t alike
      ∙ sym (by-records c x t.requests)

-- the amounts follow: they lose what the request waited for before, and get what it waits for now
pub awaited-moved : (c : Configuration) (s t : State) (r : RequestId) (amounts : List Amount) → IsSound c
    → Rises (λ a b. is_id_before a.id b.id) s.requests → Rises (λ a b. is_id_before a.id b.id) t.requests
    → ((x : RequestId) → same_request r x ≡ false → request_in x t.requests ≡ request_in x s.requests)
    → AreAwaited c s amounts → AreAwaited c t (exchange (rest_at c s r) (rest_at c t r) amounts)
awaited-moved c s t r amounts sound rises_s rises_t alike are = record {
  each = λ x.
      amount-exchange x (rest_at c s r) (rest_at c t r) amounts (λ rest is. subst (λ (n : ℕ). rest.tenant.0 < n) (sym are.tenants) (rest-at-within c sound t r rest is))
      ∙ ap (λ (a : Amount). plus (minus a (share x (rest_at c s r))) (share x (rest_at c t r))) (are.each x)
      ∙ tenant-moved c s t r rises_s rises_t alike x;
  tenants = length-exchange (rest_at c s r) (rest_at c t r) amounts ∙ are.tenants;
}

-- ## if no request changes

-- the amounts stay; who waits in a request's queue doesn't matter
pub awaited-same : (c : Configuration) (s t : State) (amounts : List Amount)
    → Rises (λ a b. is_id_before a.id b.id) s.requests → Rises (λ a b. is_id_before a.id b.id) t.requests
    → ((x : RequestId) → request_in x t.requests ≡ request_in x s.requests)
    → AreAwaited c s amounts → AreAwaited c t amounts
awaited-same c s t amounts rises_s rises_t alike are = record {
  each = λ x.
      are.each x ∙ by-records c x s.requests
      ∙ ap (λ (records : List RequestRecord). total (map (waits_for c x) records))
      (same-kept id_of kept_of is_id_before same_request request_one_way request_equal request-itself s.requests t.requests rises_s rises_t (λ k. sym (alike k)))
      ∙ sym (by-records c x t.requests);
  tenants = are.tenants;
}

-- ## bounds

-- the amounts are small if what they stand for is
pub small-amounts : (c : Configuration) (s : State) (amounts : List Amount) → ((t : TenantId) → IsSmall (awaited_by c s t)) → AreAwaited c s amounts → AreSmall amounts
small-amounts c s amounts small are = λ t. subst IsSmall (sym (are.each t)) (small t)

-- what a change of one request makes of the amounts, if it is right whenever they are small
pub awaited-noted : (c : Configuration) (s t : State) (r : RequestId) (amounts after : List Amount) → IsSound c
    → Rises (λ a b. is_id_before a.id b.id) s.requests → Rises (λ a b. is_id_before a.id b.id) t.requests
    → ((x : RequestId) → same_request r x ≡ false → request_in x t.requests ≡ request_in x s.requests)
    → AreAwaited c s amounts → ((x : TenantId) → IsSmall (awaited_by c t x))
    → (AreSmall (exchange (rest_at c s r) (rest_at c t r) amounts) → after ≡ exchange (rest_at c s r) (rest_at c t r) amounts)
    → AreAwaited c t after
awaited-noted c s t r amounts after sound rises_s rises_t alike are small noted =
    let now = awaited-moved c s t r amounts sound rises_s rises_t alike are in
    subst (λ (list : List Amount). AreAwaited c t list) (sym (noted (small-amounts c t (exchange (rest_at c s r) (rest_at c t r) amounts) small now))) now

-- # after a change too what the pending requests of a tenant wait for is an amount that code can keep

-- what a tenant's pending requests wait for
small-shaped : (c : Configuration) (site : IsFitSite c) (n : ℕ) (s : State) → n ≤ 262145 → Shaped c n n s → (t : TenantId) → IsSmall (awaited_by c s t)
small-shaped c site n s bound is t =
    few-kept (awaited_by c s t) (length s.requests * 32) (omega (arith, is.requests, bound))
    (rows-few (rest_of_request c) (is_pending_of c t) s.requests
    (all-weaker (RequestShape c n s.next_request) (λ (e : RequestEntry). IsFew (rest_of_request c e) 32) (λ e shape. rest-few c site.amounts e shape.kept.labels) s.requests is.each_request))

-- in the state after a change, even if the run before it is as long as it may be
pub small-after : (c : Configuration) (s : State) (ch : Changes) → IsSound c → IsReached c s → IsPlanned c s ch → (t : TenantId) → IsSmall (awaited_by c (changed c ch s) t)
small-after c s ch sound reached planned t =
    let site : IsFitSite c = sound_fits c sound in
    let shape = shape-next c site (length reached.journal) s planned.event (shape-Runs c reached.journal s site reached.runs) in
    subst (λ (x : State). IsSmall (awaited_by c x t)) (sym (plan-is planned))
    (small-shaped c site (suc (length reached.journal)) (next c s planned.event) (omega (arith, reached.runs.short)) shape t)
  where
    plan-is : (planned : IsPlanned c s ch) → changed c ch s ≡ next c s planned.event
    plan-is planned = ap (λ (changes : Changes). changed c changes s) planned.plan ∙ plan-next c s planned.event planned.accepted

-- # the amounts after the changes of an event

-- one request at most is among these
one-at-most : (a b : RequestId) (rs : List RequestId) → length (a ∷ b ∷ rs) ≤ 1 → ⊥
one-at-most a b rs few = omega (arith, few)

module _ (c : Configuration) (s : State) (ch : Changes) (sound : IsSound c) (reached : IsReached c s) (planned : IsPlanned c s ch) where
  rises : Rises (λ a b. is_id_before a.id b.id) s.requests
  rises = (invariant-Runs c reached.journal s reached.runs).numbered.requests_rise

  rises_later : Rises (λ a b. is_id_before a.id b.id) (changed c ch s).requests
  rises_later = (numbered c s ch (invariant-Runs c reached.journal s reached.runs).numbered).requests_rise

  abbrev AreExchanged : List RequestId → List Amount → List Amount → Type 0
  AreExchanged rs old new =
      AreSmall (exchange (first_rest c s rs) (first_rest c (changed c ch s) rs) old) → new ≡ exchange (first_rest c s rs) (first_rest c (changed c ch s) rs) old

  -- what the one request waited for before is exchanged for what it waits for now
  pub amounts-noted : (requests : List RequestId) (old new : List Amount) → OthersStay requests s (changed c ch s)
      → AreAwaited c s old → AreExchanged requests old new → AreAwaited c (changed c ch s) new
  amounts-noted [] old new stay are noted =
      let now : AreAwaited c (changed c ch s) old = awaited-same c s (changed c ch s) old rises rises_later (λ r. stay.same r refl) are in
      subst (AreAwaited c (changed c ch s)) (sym (noted (small-amounts c (changed c ch s) old (small-after c s ch sound reached planned) now))) now
  amounts-noted (r ∷ []) old new stay are noted =
      awaited-noted c s (changed c ch s) r old new sound rises rises_later
      (λ x other. stay.same x (or-false (same_request r x) ∙ other)) are (small-after c s ch sound reached planned) noted
  amounts-noted (a ∷ b ∷ rs) old new stay are noted = absurd (one-at-most a b rs stay.once)

-- the same of what code read before and after
pub amounts-after : (c site : Configuration) (s t : State) (ch : Changes) (requests : List RequestId) (before after : Option Rest) (old new : List Amount)
    → IsSound site → IsReached c s → IsPlanned c s ch → OthersStay requests s (changed c ch s)
    → before ≡ first_rest c s requests → after ≡ first_rest site t requests → site ≡ c → t ≡ changed c ch s
    → (AreSmall (exchange before after old) → new ≡ exchange before after old) → AreAwaited c s old → AreAwaited c (changed c ch s) new
amounts-after c site s t ch requests before after old new sound reached planned stay before_is after_is same_site later_is noted are =
    let later : after ≡ first_rest c (changed c ch s) requests = rw (← later_is, ← same_site) after_is in
    amounts-noted c s ch (subst IsSound same_site sound) reached planned requests old new stay are
    (subst (λ (rest : Option Rest). AreSmall (exchange (first_rest c s requests) rest old) → new ≡ exchange (first_rest c s requests) rest old) later
    (subst (λ (rest : Option Rest). AreSmall (exchange rest after old) → new ≡ exchange rest after old) before_is noted))
