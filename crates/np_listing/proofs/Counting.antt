-- what was counted in a journal, after one entry or one state more
use Rattle.np_listing.proofs.Prelude.{Amount, Bool, Configuration, Entry, FullTime, KindCount, List, None, Option, PoolPeak, Runs, State, TenantPeak, after, and_false, ap, append-nil, append_assoc, arith, by_bool, cond, count_by, count_by-le-length, count_of, count_of_tenant, counted, false, full_in, is_failed, is_launched, is_of_kind, is_refused, kind_count, larger, largest, last_row, length, length-append, list_all, list_all-append, map, map-append, map-range_with_len_more, max, more_of_kind, most_ticks, next, noted, nothing, one_more, option_map, option_map_or, pool_row, raised_pool, raised_tenant, range_with_len, refl, semaphore_row, since, since_now, slice_get, start, state_after, states, suc, sum_by, sum_by-append, sym, tenant_row, ticks_in, true, turns_from, watched, zero, ℕ, [], ◌&&◌, ◌++◌, ◌+◌, ◌-◌, ◌<◌, ◌^◌, ◌∙◌, ◌∷◌, ◌≡◌, ◌≤◌}

-- # rows by number

-- one row more
pub one-more : {X : Type 0} (row : ℕ → X) (old new : List X) (at : ℕ) → old ≡ map row (range_with_len 0 at) → new ≡ old ++ row at ∷ [] → new ≡ map row (range_with_len 0 (at + 1))
one-more {X} row old new at before pushed = pushed ∙ ap (λ (rows : List X). rows ++ row at ∷ []) before ∙ sym (map-range_with_len_more row 0 at at (omega arith))

-- each row changed
pub each-changed : {X : Type 0} (row next : ℕ → X) (step : X → X) → ((n : ℕ) → step (row n) ≡ next n) → (n at : ℕ) → map step (map row (range_with_len at n)) ≡ map next (range_with_len at n)
each-changed row next step same zero at = refl
each-changed {X} row next step same (suc n) at = ap (λ (x : X). x ∷ map step (map row (range_with_len (at + 1) n))) (same at) ∙ ap (λ (xs : List X). next at ∷ xs) (each-changed row next step same n (at + 1))

-- # the states after one entry more, and the most that was used in them

states_from-push : (c : Configuration) (s : State) (journal : List Entry) (e : Entry) → map (λ turn. turn.later) (turns_from c s (journal ++ e ∷ [])) ≡ map (λ turn. turn.later) (turns_from c s journal) ++ state_after c s (journal ++ e ∷ []) ∷ []
states_from-push c s [] e = refl
states_from-push c s (first ∷ journal) e = ap (λ (later : List State). next c s first.event ∷ later) (states_from-push c (next c s first.event) journal e)

pub states-push : (c : Configuration) (journal : List Entry) (e : Entry) (s : State) → after c (journal ++ e ∷ []) ≡ s → states c (journal ++ e ∷ []) ≡ states c journal ++ s ∷ []
states-push c journal e s ends = states_from-push c (start c) journal e ∙ ap (λ (last : State). states c journal ++ last ∷ []) ends

-- ## amounts

max-assoc : (a b d : ℕ) → max a (max b d) ≡ max (max a b) d
max-assoc a b d = omega arith

max-comm : (a b : ℕ) → max a b ≡ max b a
max-comm a b = omega arith

larger-assoc : (a b d : Amount) → larger a (larger b d) ≡ larger (larger a b) d
larger-assoc a b d = rw (max-assoc a.instances b.instances d.instances, max-assoc a.cores b.cores d.cores, max-assoc a.ram b.ram d.ram) refl

larger-comm : (a b : Amount) → larger a b ≡ larger b a
larger-comm a b = rw (max-comm a.instances b.instances, max-comm a.cores b.cores, max-comm a.ram b.ram) refl

pub largest-push : (amounts : List Amount) (a : Amount) → largest (amounts ++ a ∷ []) ≡ larger (largest amounts) a
largest-push [] a = larger-comm a nothing
largest-push (b ∷ amounts) a = ap (larger b) (largest-push amounts a) ∙ larger-assoc b (largest amounts) a

-- the most after one state more
pub peak-push : (used : State → Amount) (c : Configuration) (journal : List Entry) (e : Entry) (s : State) → after c (journal ++ e ∷ []) ≡ s → largest (map used (states c (journal ++ e ∷ []))) ≡ larger (largest (map used (states c journal))) (used s)
peak-push used c journal e s ends =
    ap (λ (all : List State). largest (map used all)) (states-push c journal e s ends)
    ∙ ap largest (map-append used (states c journal) (s ∷ []))
    ∙ largest-push (map used (states c journal)) (used s)

-- # how long a semaphore was full, after one state more

module _ {X : Type 0} (p : X → Bool) where
  -- one more that passes
  last_row-kept : (xs : List X) (y : X) → p y ≡ true → last_row p (xs ++ y ∷ []) ≡ last_row p xs ++ y ∷ []
  last_row-kept [] y passes = rw passes refl
  last_row-kept (x ∷ xs) y passes =
      let both : list_all p (x ∷ xs ++ y ∷ []) ≡ (list_all p (x ∷ xs) && (true && true)) = list_all-append p (x ∷ xs) (y ∷ []) ∙ rw passes refl in
      rw both (by_bool (λ b. cond (b && (true && true)) (x ∷ xs ++ y ∷ []) (last_row p (xs ++ y ∷ [])) ≡ cond b (x ∷ xs) (last_row p xs) ++ y ∷ []) (list_all p (x ∷ xs)) (λ _. refl) (λ _. last_row-kept xs y passes))

  -- one more that does not
  last_row-ended : (xs : List X) (y : X) → p y ≡ false → last_row p (xs ++ y ∷ []) ≡ []
  last_row-ended [] y fails = rw fails refl
  last_row-ended (x ∷ xs) y fails =
      let not_all : list_all p (x ∷ xs ++ y ∷ []) ≡ false = list_all-append p (x ∷ xs) (y ∷ []) ∙ rw fails (and_false (list_all p (x ∷ xs))) in
      rw not_all (last_row-ended xs y fails)

first_tick : (row : List State) (s : State) → option_map (λ t. t.tick) (slice_get (row ++ s ∷ []) 0) ≡ since_now true s.tick (option_map (λ t. t.tick) (slice_get row 0))
first_tick [] s = refl
first_tick (first ∷ row) s = refl

since-push : (p : State → Bool) (states : List State) (s : State) → since p (states ++ s ∷ []) ≡ since_now (p s) s.tick (since p states)
since-push p states s = by_bool (λ b. since p (states ++ s ∷ []) ≡ since_now b s.tick (since p states)) (p s)
    (λ is. ap (λ (row : List State). option_map (λ t. t.tick) (slice_get row 0)) (last_row-kept p states s is) ∙ first_tick (last_row p states) s)
    (λ is. ap (λ (row : List State). option_map (λ t. t.tick) (slice_get row 0)) (last_row-ended p states s is) ∙ none_now s.tick (since p states))
  where
    none_now : (tick : ℕ) (before : Option ℕ) → None ≡ since_now false tick before
    none_now tick before = grind arith

most_ticks-push : (p : State → Bool) (earlier states : List State) (s : State) → most_ticks p earlier (states ++ s ∷ []) ≡ max (most_ticks p earlier states) (ticks_in p (earlier ++ states) s)
most_ticks-push p earlier [] s = max-comm (ticks_in p earlier s) 0 ∙ ap (λ (before : List State). max 0 (ticks_in p before s)) (sym (append-nil earlier))
most_ticks-push p earlier (t ∷ states) s =
    ap (max (ticks_in p earlier t)) (most_ticks-push p (earlier ++ t ∷ []) states s)
    ∙ max-assoc (ticks_in p earlier t) (most_ticks p (earlier ++ t ∷ []) states) (ticks_in p (earlier ++ t ∷ [] ++ states) s)
    ∙ ap (λ (before : List State). max (most_ticks p earlier (t ∷ states)) (ticks_in p before s)) (append_assoc earlier (t ∷ []) states)

-- the longest after one state more
pub longest-push : (p : State → Bool) (states : List State) (s : State) → most_ticks p [] (states ++ s ∷ []) ≡ max (most_ticks p [] states) (option_map_or (λ tick. s.tick - tick) (since_now (p s) s.tick (since p states)) 0)
longest-push p states s = most_ticks-push p [] states s ∙ ap (λ (o : Option ℕ). max (most_ticks p [] states) (option_map_or (λ tick. s.tick - tick) o 0)) (since-push p states s)

-- # what was counted, after one entry more

-- ## numbers of entries

count-push : (p : Entry → Bool) (journal : List Entry) (e : Entry) → length (journal ++ e ∷ []) ≤ 262144 → one_more (count_by p journal) (p e) ≡ count_by p (journal ++ e ∷ [])
count-push p journal e short =
    let few : count_by p journal < 2 ^ 32 - 1 = omega (arith, count_by-le-length p journal, length-append journal (e ∷ []), short) in
    let last : sum_by (λ x. cond (p x) 1 0) (e ∷ []) ≡ cond (p e) 1 0 = omega arith in
    by_bool (λ b. one_more (count_by p journal) b ≡ count_by p journal + cond b 1 0) (p e) (λ _. omega arith) (λ _. omega arith) ∙ ap (λ (n : ℕ). count_by p journal + n) (sym last) ∙ sym (sum_by-append (λ x. cond (p x) 1 0) journal (e ∷ []))

-- ## rows

module _ (c : Configuration) (journal : List Entry) (e : Entry) (s : State) (runs : Runs c (journal ++ e ∷ []) s) where
  kind-push : (n : ℕ) → more_of_kind e (kind_count journal n) ≡ kind_count (journal ++ e ∷ []) n
  kind-push n = ap (λ (count : ℕ). let row : KindCount = record { kind = n; count = count } in row) (count-push (is_of_kind n) journal e runs.short)

  pool-push : (n : ℕ) → raised_pool c s (pool_row c journal n) ≡ pool_row c (journal ++ e ∷ []) n
  pool-push n = ap (λ (most : Amount). let row : PoolPeak = record { pool = record { 0 = n }; most = most } in row) (sym (peak-push (λ s. count_of c s (record { 0 = n })) c journal e s runs.ends))

  tenant-push : (n : ℕ) → raised_tenant c s (tenant_row c journal n) ≡ tenant_row c (journal ++ e ∷ []) n
  tenant-push n = ap (λ (most : Amount). let row : TenantPeak = record { tenant = record { 0 = n }; most = most } in row) (sym (peak-push (λ s. count_of_tenant c s (record { 0 = n })) c journal e s runs.ends))

  semaphore-push : (n : ℕ) → watched c s (semaphore_row c journal n) ≡ semaphore_row c (journal ++ e ∷ []) n
  semaphore-push n =
      let p : State → Bool = full_in c (record { 0 = n }) in
      let all = states-push c journal e s runs.ends in
      let time : Option ℕ → ℕ → FullTime = λ (before : Option ℕ) (longest : ℕ). record { semaphore = record { 0 = n }; since = before; longest = longest } in
      ap (λ (o : Option ℕ). time o (max (most_ticks p [] (states c journal)) (option_map_or (λ tick. s.tick - tick) (since_now (p s) s.tick (since p (states c journal))) 0))) (sym (since-push p (states c journal) s))
      ∙ ap (time (since p (states c journal ++ s ∷ []))) (sym (longest-push p (states c journal) s))
      ∙ ap (λ (later : List State). time (since p later) (most_ticks p [] later)) (sym all)

  pub noted-counted : noted c s e (counted c journal) ≡ counted c (journal ++ e ∷ [])
  noted-counted =
      rw (
        each-changed (kind_count journal) (kind_count (journal ++ e ∷ [])) (more_of_kind e) kind-push 31 0,
        count-push is_refused journal e runs.short,
        count-push is_launched journal e runs.short,
        count-push is_failed journal e runs.short,
        each-changed (pool_row c journal) (pool_row c (journal ++ e ∷ [])) (raised_pool c s) pool-push (length c.pools) 0,
        each-changed (tenant_row c journal) (tenant_row c (journal ++ e ∷ [])) (raised_tenant c s) tenant-push (length c.tenants + 1) 0,
        each-changed (semaphore_row c journal) (semaphore_row c (journal ++ e ∷ [])) (watched c s) semaphore-push (length c.semaphores) 0,
      ) refl
