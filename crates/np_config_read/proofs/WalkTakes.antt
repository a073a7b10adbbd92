-- the walk through a whole configuration: where it stops, where it ends, and that what it read is sound
use Rattle.np_config_read.proofs.Prelude.{AGE, All, All-head, All-tail, AreProviders, Bool, ConfigFault, ConfigRead, Configuration, Data, EachAfter, Err, FAULTS, FAULT_ACTS, Fails, Fault, FaultKind, Gives, IfOk, IsFault, IsLabel, IsPool, IsProvider, IsRole, IsSem, IsSound, IsTenant, IsUnused, LABELS, Label, List, NotJson, Ok, Option, PROVIDERS, Pool, Provider, Providers, REQUESTERS, Requester, Requesters, Result, Role, RoleKind, SEMAPHORES, Sem, Some, StandsByOwner, TENANTS, Tenant, UnknownName, and_false, and_parts, ap, append-nil, append_assoc, arith, at_most, below, bind-ok, binds, bytes_eq, codes, cond, configuration, configuration_at, false, fault, fault_at, fault_keys, fault_kind_of, fault_of, faults_at, filter, found-ok, found-some, from-map_some, get_or, is_name_byte, is_name_text, label_at, labels_at, length, length-map, list_all, list_any, list_maybe-takes, list_required-takes, map, map-append, meaning_of, nat_le, nat_tests, not, object_at, ok, one_to, option_map_or, or_parts, parsed, pool_name, pool_named, pool_names, provider_at, providers_at, reads, refl, requester_at, requester_named, requesters_at, required, required_word, rest-ok, role_at, role_kind_of, role_named, same_ok, semaphore_at, semaphores_at, slice_get, subst, suc, sym, take, tenant_at, tenants_at, text_value, top_keys, true, whole_or, whole_or-takes, whole_required, whole_required-takes, word_value, zero, ℕ, [], ◌&&◌, ◌++◌, ◌+◌, ◌<◌, ◌==◌, ◌>>=◌, ◌^◌, ◌∙◌, ◌∷◌, ◌≡◌, ◌≤◌}
use Rattle.np_config_read.proofs.RowTakes.{Demands, rows_maybe, rows_required, RowsAlone, RowsAlone-none, RowsAlone-push, Supply, demands-none, found_within, label_at-takes, provider_at-takes, requester_at-takes, semaphore_at-takes, supply-none, tenant_at-takes}

-- # where the walk through a configuration stops late, and where it ends

module _ (d : Data) (u : Unit {0}) (object : object_at [] top_keys d ≡ Ok u) (ls : List Label) (labels : labels_at d ≡ Ok ls) (a : ℕ) (age : whole_or [] (codes "max-hold-age") 0 AGE 0 d ≡ Ok a)
    (s : Providers) (providers : providers_at ls d ≡ Ok s) (ss : List Sem) (semaphores : semaphores_at d ≡ Ok ss) where
  abbrev names : List (List ℕ)
  names = pool_names s.providers s.pools

  abbrev planned : List Tenant → Requesters → Result Configuration ConfigFault
  planned ts r = faults_at names r.requesters d >>= λ fs. ok (configuration ls s.providers s.pools ss ts r.requesters r.jobs fs a)

  pub at_tenants : (e : ConfigRead) → Fails e (fault_of (tenants_at d)) → Fails e (fault_of (configuration_at d))
  unfolding configuration_at
  at_tenants e fails = rw (object, labels, age, providers, semaphores) (binds e (tenants_at d) (λ ts. requesters_at ls ss ts d >>= planned ts) fails)

  module _ (ts : List Tenant) (tenants : tenants_at d ≡ Ok ts) where
    pub at_requesters : (e : ConfigRead) → Fails e (fault_of (requesters_at ls ss ts d)) → Fails e (fault_of (configuration_at d))
    unfolding configuration_at
    at_requesters e fails = rw (object, labels, age, providers, semaphores, tenants) (binds e (requesters_at ls ss ts d) (planned ts) fails)

    module _ (r : Requesters) (requesters : requesters_at ls ss ts d ≡ Ok r) where
      pub at_faults : (e : ConfigRead) → Fails e (fault_of (faults_at names r.requesters d)) → Fails e (fault_of (configuration_at d))
      unfolding configuration_at
      at_faults e fails =
          rw (object, labels, age, providers, semaphores, tenants, requesters)
          (binds e (faults_at names r.requesters d) (λ fs. ok (configuration ls s.providers s.pools ss ts r.requesters r.jobs fs a)) fails)

      pub at_end : (fs : List Fault) → faults_at names r.requesters d ≡ Ok fs → configuration_at d ≡ Ok (configuration ls s.providers s.pools ss ts r.requesters r.jobs fs a)
      unfolding configuration_at
      at_end fs faults = rw (object, labels, age, providers, semaphores, tenants, requesters, faults) refl

-- # full names of pools: no two pools have one

abbrev plain : List ℕ → Type 0
plain text = list_all (λ b. not (b == 47)) text ≡ true

plain_bytes : (text : List ℕ) → list_all is_name_byte text ≡ true → plain text
plain_bytes [] named = refl
plain_bytes (b ∷ text) named =
    let parts = and_parts (is_name_byte b) (list_all is_name_byte text) named in
    let other : not (b == 47) ≡ true = grind (arith, nat_tests, parts.0) in
    rw other (plain_bytes text parts.1)

plain_name : (text : List ℕ) → is_name_text text ≡ true → plain text
unfolding is_name_text
plain_name text named = plain_bytes text (and_parts (nat_le 1 (length text) && nat_le (length text) 64) (list_all is_name_byte text) named).1

and_assoc : (a b c : Bool) → (a && (b && c)) ≡ ((a && b) && c)
and_assoc a b c = grind arith

-- two texts before a slash, and what follows it, are compared part by part
pub bytes_eq-slash : (p q m n : List ℕ) → plain p → plain q → bytes_eq (p ++ 47 ∷ m) (q ++ 47 ∷ n) ≡ (bytes_eq p q && bytes_eq m n)
bytes_eq-slash [] [] m n no_slash none = refl
bytes_eq-slash [] (b ∷ q) m n no_slash none =
    let parts = and_parts (not (b == 47)) (list_all (λ c. not (c == 47)) q) none in
    let other : (47 == b) ≡ false = grind (arith, nat_tests, parts.0) in
    rw other refl
bytes_eq-slash (a ∷ p) [] m n no_slash none =
    let parts = and_parts (not (a == 47)) (list_all (λ c. not (c == 47)) p) no_slash in
    let other : (a == 47) ≡ false = grind (arith, nat_tests, parts.0) in
    rw other refl
bytes_eq-slash (a ∷ p) (b ∷ q) m n no_slash none =
    let one = and_parts (not (a == 47)) (list_all (λ c. not (c == 47)) p) no_slash in
    let two = and_parts (not (b == 47)) (list_all (λ c. not (c == 47)) q) none in
    ap (λ r. (a == b) && r) (bytes_eq-slash p q m n one.1 two.1) ∙ and_assoc (a == b) (bytes_eq p q) (bytes_eq m n)

-- ## Names of providers

-- the name of the provider at a place
abbrev pub name_at_place : List Provider → ℕ → List ℕ
name_at_place providers k = option_map_or (λ q. q.name) (slice_get providers k) []

provider_at_place : (e xs : List Provider) (j : ℕ) → j < length xs → EachAfter IsProvider e xs → (p : Provider) × (slice_get xs j ≡ Some p) × IsProvider (e ++ take j xs) p
provider_at_place e [] j within each = absurd (omega arith)
provider_at_place e (x ∷ xs) zero within each = (x, refl, subst (λ (es : List Provider). IsProvider es x) (sym (append-nil e)) each.0)
provider_at_place e (x ∷ xs) (suc j) within each =
    let there = provider_at_place (e ++ x ∷ []) xs j (omega arith) each.1 in
    (there.0, there.1, subst (λ (es : List Provider). IsProvider es there.0) (append_assoc e (x ∷ []) (take j xs)) there.2)

none_before : {T : Type 0} (test : T → Bool) (xs : List T) (j i : ℕ) (q : T) → list_any test (take j xs) ≡ false → i < j → slice_get xs i ≡ Some q → test q ≡ false
none_before test [] j i q none less there = absurd (cc)
none_before test (x ∷ xs) zero i q none less there = absurd (omega arith)
none_before test (x ∷ xs) (suc j) zero q none less there = let same : q ≡ x = cc in ap test same ∙ (or_parts (test x) (list_any test (take j xs)) none).0
none_before test (x ∷ xs) (suc j) (suc i) q none less there = none_before test xs j i q (or_parts (test x) (list_any test (take j xs)) none).1 (omega arith) there

pub plain_place : (ps : List Provider) (j : ℕ) → j < length ps → EachAfter IsProvider [] ps → plain (name_at_place ps j)
plain_place ps j within each =
    let there = provider_at_place [] ps j within each in
    rw there.1 (plain_name there.0.name there.2.name.named)

apart_places : (ps : List Provider) (i j : ℕ) → i < j → j < length ps → EachAfter IsProvider [] ps → bytes_eq (name_at_place ps j) (name_at_place ps i) ≡ false
apart_places ps i j less within each =
    let late = provider_at_place [] ps j within each in
    let early = provider_at_place [] ps i (omega arith) each in
    rw (late.1, early.1) (none_before (λ (row : Provider). bytes_eq late.0.name row.name) ps j i early.0 late.2.name.new less early.1)

-- ## Names of pools

module _ (ps : List Provider) (good : EachAfter IsProvider [] ps) where
  unused : (x : Pool) (e : List Pool) → x.provider < length ps → All (λ y. y.provider ≤ x.provider) e → list_any (λ r. bytes_eq x.name r.name) (filter (λ y. y.provider == x.provider) e) ≡ false
      → list_any (bytes_eq (pool_name ps x)) (map (pool_name ps) e) ≡ false
  unused x [] within before none = refl
  unused x (y ∷ e) within before none =
      let less : y.provider ≤ x.provider = All-head (λ (z : Pool). z.provider ≤ x.provider) y e before in
      let later = All-tail (λ (z : Pool). z.provider ≤ x.provider) y e before in
      by (y.provider == x.provider) refl none less (λ none'. unused x e within later none')
    where
      pieces : bytes_eq (pool_name ps x) (pool_name ps y) ≡ (bytes_eq (name_at_place ps x.provider) (name_at_place ps y.provider) && bytes_eq x.name y.name) → (bytes_eq (name_at_place ps x.provider) (name_at_place ps y.provider) && bytes_eq x.name y.name) ≡ false
          → list_any (bytes_eq (pool_name ps x)) (map (pool_name ps) e) ≡ false → list_any (bytes_eq (pool_name ps x)) (map (pool_name ps) (y ∷ e)) ≡ false
      pieces eq apart rest = rw (eq ∙ apart) rest

      by : (b : Bool) → (y.provider == x.provider) ≡ b → list_any (λ r. bytes_eq x.name r.name) (cond b (y ∷ filter (λ z. z.provider == x.provider) e) (filter (λ z. z.provider == x.provider) e)) ≡ false → y.provider ≤ x.provider
          → (list_any (λ r. bytes_eq x.name r.name) (filter (λ z. z.provider == x.provider) e) ≡ false → list_any (bytes_eq (pool_name ps x)) (map (pool_name ps) e) ≡ false)
          → list_any (bytes_eq (pool_name ps x)) (map (pool_name ps) (y ∷ e)) ≡ false
      by true is none' less rest =
          let parts = or_parts (bytes_eq x.name y.name) (list_any (λ (r : Pool). bytes_eq x.name r.name) (filter (λ (z : Pool). z.provider == x.provider) e)) none' in
          pieces (bytes_eq-slash (name_at_place ps x.provider) (name_at_place ps y.provider) x.name y.name (plain_place ps x.provider within good) (plain_place ps y.provider (omega arith) good))
          (ap (λ b. bytes_eq (name_at_place ps x.provider) (name_at_place ps y.provider) && b) parts.0 ∙ and_false (bytes_eq (name_at_place ps x.provider) (name_at_place ps y.provider))) (rest parts.1)
      by false is none' less rest =
          let below : y.provider < x.provider = grind (arith, nat_tests) in
          pieces (bytes_eq-slash (name_at_place ps x.provider) (name_at_place ps y.provider) x.name y.name (plain_place ps x.provider within good) (plain_place ps y.provider (omega arith) good))
          (ap (λ b. b && bytes_eq x.name y.name) (apart_places ps y.provider x.provider below within good)) (rest none')

  each_unused : (labels : ℕ) (e xs : List Pool) → All (λ p. p.provider < length ps) xs → EachAfter (StandsByOwner (λ (p : Pool). p.provider) (IsPool labels)) e xs → EachAfter IsUnused (map (pool_name ps) e) (map (pool_name ps) xs)
  each_unused labels e [] owned each = tt
  each_unused labels e (x ∷ xs) owned each = (
    unused x e (All-head (λ (p : Pool). p.provider < length ps) x xs owned) each.0.in_order each.0.own.name.new,
    subst (λ (es : List (List ℕ)). EachAfter IsUnused es (map (pool_name ps) xs)) (map-append (pool_name ps) e (x ∷ [])) (each_unused labels (e ++ x ∷ []) xs (All-tail (λ (p : Pool). p.provider < length ps) x xs owned) each.1),
  )

-- no two pools have the same full name
pub pool_names-unused : (labels : ℕ) (ps : List Provider) (pools : List Pool) → AreProviders labels ps pools → EachAfter IsUnused [] (pool_names ps pools)
pool_names-unused labels ps pools are = each_unused ps are.each_provider labels [] pools are.owned are.each_pool

-- the name of the pool at a place is none of those before it
pub name-unused : (f : Pool → List ℕ) (e : List (List ℕ)) (pools : List Pool) (i : ℕ) (x : Pool) → i < length pools → x ≡ get_or pools i x → EachAfter IsUnused e (map f pools) → list_any (bytes_eq (f x)) (e ++ map f (take i pools)) ≡ false
name-unused f e [] i x within is each = absurd (omega arith)
name-unused f e (y ∷ pools) zero x within is each =
    let same : f y ≡ f x = ap f (sym is) in
    ap (λ es. list_any (bytes_eq (f x)) es) (append-nil e) ∙ subst (λ (n : List ℕ). list_any (bytes_eq n) e ≡ false) same each.0
name-unused f e (y ∷ pools) (suc i) x within is each =
    ap (λ es. list_any (bytes_eq (f x)) es) (sym (append_assoc e (f y ∷ []) (map f (take i pools)))) ∙ name-unused f (e ++ f y ∷ []) pools i x (omega arith) is each.1

-- # a configuration that was read is sound

-- ## Faults

required_word-takes : {A : Type 0} (meaning : List ℕ → Option A) (at key : List ℕ) (d : Data) (x : A) → required_word meaning at key d ≡ Ok x → (word : List ℕ) × (meaning word ≡ Some x)
unfolding required_word word_value
required_word-takes {A} meaning at key d x e =
    let here = below at key in
    let v = bind-ok (required at key d) (λ v. text_value here v >>= meaning_of meaning here) x e in
    let w = bind-ok (text_value here v.0) (meaning_of meaning here) x v.2 in
    (w.0, found-some (meaning w.0) (fault UnknownName here) x w.2)

role_named-takes : (pools : List (List ℕ)) (requesters : List Requester) (k : RoleKind) (text : List ℕ) (r : Role) → role_named pools requesters k text ≡ Some r → IsRole (length pools) (length requesters) r
role_named-takes pools requesters RoleKind.Launcher text r e =
    let x = from-map_some (λ n. Role.Launcher (record { 0 = n })) (pool_named pools text) r e in
    subst (IsRole (length pools) (length requesters)) x.2 (found_within (bytes_eq text) pools x.0 x.1)
role_named-takes pools requesters RoleKind.Janitor text r e =
    let x = from-map_some (λ n. Role.Janitor (record { 0 = n })) (pool_named pools text) r e in
    subst (IsRole (length pools) (length requesters)) x.2 (found_within (bytes_eq text) pools x.0 x.1)
role_named-takes pools requesters RoleKind.Requester text r e =
    let x = from-map_some (λ n. Role.Requester (record { 0 = n })) (requester_named requesters text) r e in
    subst (IsRole (length pools) (length requesters)) x.2 (found_within (λ (q : Requester). bytes_eq text q.name) requesters x.0 x.1)

role_at-takes : (pools : List (List ℕ)) (requesters : List Requester) (at : List ℕ) (d : Data) (r : Role) → role_at pools requesters at d ≡ Ok r → IsRole (length pools) (length requesters) r
unfolding role_at
role_at-takes pools requesters at d r e =
    let k = bind-ok (required_word role_kind_of at (codes "role") d) (λ k. required_word (role_named pools requesters k) at (codes "name") d) r e in
    let w = required_word-takes (role_named pools requesters k.0) at (codes "name") d r k.2 in
    role_named-takes pools requesters k.0 w.0 r w.1

abbrev made_fault : Role → FaultKind → ℕ → Fault
made_fault r k n = record { role = r; kind = k; after = n }

fault_at-takes : (pools : List (List ℕ)) (requesters : List Requester) (at : List ℕ) (n : ℕ) (s t : List Fault) (d : Data) → RowsAlone (IsFault (length pools) (length requesters)) n s → fault_at pools requesters at s d ≡ Ok t
    → RowsAlone (IsFault (length pools) (length requesters)) (n + 1) t
unfolding fault_at
fault_at-takes pools requesters at n s t d rows e =
    let kinds = required_word fault_kind_of at (codes "kind") d in
    let afters = whole_required at (codes "after") 0 FAULT_ACTS d in
    let put : Role → FaultKind → ℕ → Result (List Fault) ConfigFault = λ r k a. ok (s ++ made_fault r k a ∷ []) in
    let o = rest-ok (object_at at fault_keys d) (role_at pools requesters at d >>= λ r. kinds >>= λ k. afters >>= put r k) t e in
    let r = bind-ok (role_at pools requesters at d) (λ r. kinds >>= λ k. afters >>= put r k) t o in
    let k = bind-ok kinds (λ k. afters >>= put r.0 k) t r.2 in
    let a = bind-ok afters (put r.0 k.0) t k.2 in
    let x = made_fault r.0 k.0 a.0 in
    let is : IsFault (length pools) (length requesters) x = record { role = role_at-takes pools requesters at d r.0 r.1; after = (whole_required-takes at (codes "after") 0 FAULT_ACTS d a.0 a.1).1 } in
    RowsAlone-push (IsFault (length pools) (length requesters)) n s t x (same_ok (s ++ x ∷ []) t a.2) rows is

-- ## Each table

abbrev no_providers : Providers
no_providers = record { providers = []; pools = [] }

providers-take : (labels : List Label) (d : Data) (t : Providers) → providers_at labels d ≡ Ok t
    → (n : ℕ) × Supply (length labels) n t × (1 ≤ length t.providers) × (length t.providers ≤ PROVIDERS)
providers-take labels d t e =
    let r = list_required-takes (provider_at labels) (Supply (length labels)) (provider_at-takes labels) [] (codes "providers") (one_to PROVIDERS) no_providers t d (supply-none (length labels)) e in
    (r.0, r.3, omega (arith, r.2, r.3.1), omega (arith, r.1, r.3.1))

-- no two pools that were read have the same full name, and they are few
pub providers-unused : (labels : List Label) (d : Data) (t : Providers) → providers_at labels d ≡ Ok t → EachAfter IsUnused [] (pool_names t.providers t.pools)
providers-unused labels d t e = pool_names-unused (length labels) t.providers t.pools (providers-take labels d t e).1.0

pub providers-few : (labels : List Label) (d : Data) (t : Providers) → providers_at labels d ≡ Ok t → length t.pools < 2 ^ 16
providers-few labels d t e = let few = (providers-take labels d t e).1.0.few_pools in omega arith

abbrev no_requesters : Requesters
no_requesters = record { requesters = []; jobs = [] }

requesters-take : (labels : List Label) (semaphores : List Sem) (tenants : List Tenant) (d : Data) (t : Requesters) → requesters_at labels semaphores tenants d ≡ Ok t
    → (n : ℕ) × Demands (length labels) (length semaphores) (length tenants) n t × (length t.requesters ≤ REQUESTERS)
requesters-take labels semaphores tenants d t e =
    let r = list_maybe-takes (requester_at labels semaphores tenants) (Demands (length labels) (length semaphores) (length tenants)) (requester_at-takes labels semaphores tenants) [] (codes "requesters") (at_most REQUESTERS) no_requesters t d (omega arith) refl
    (demands-none (length labels) (length semaphores) (length tenants)) e in
    (r.0, r.2, omega (arith, r.1, r.2.1))

faults-take : (pools : List (List ℕ)) (requesters : List Requester) (d : Data) (t : List Fault) → faults_at pools requesters d ≡ Ok t
    → All (IsFault (length pools) (length requesters)) t × (length t ≤ FAULTS)
faults-take pools requesters d t e =
    let r = list_maybe-takes (fault_at pools requesters) (RowsAlone (IsFault (length pools) (length requesters))) (fault_at-takes pools requesters) [] (codes "faults") (at_most FAULTS) [] t d (omega arith) refl
    (RowsAlone-none (IsFault (length pools) (length requesters))) e in
    (r.2.0, omega (arith, r.1, r.2.1))

-- the whole, of its tables
module _ (d : Data) (c : Configuration) (ls : List Label) (labels : labels_at d ≡ Ok ls) (a : ℕ) (age : whole_or [] (codes "max-hold-age") 0 AGE 0 d ≡ Ok a)
    (s : Providers) (providers : providers_at ls d ≡ Ok s) (ss : List Sem) (semaphores : semaphores_at d ≡ Ok ss) where
  abbrev made : List Tenant → Requesters → List Fault → Configuration
  made ts r fs = configuration ls s.providers s.pools ss ts r.requesters r.jobs fs a

  abbrev faults : Requesters → Result (List Fault) ConfigFault
  faults r = faults_at (pool_names s.providers s.pools) r.requesters d

  whole-takes : (ts : List Tenant) (r : Requesters) (fs : List Fault) → tenants_at d ≡ Ok ts → requesters_at ls ss ts d ≡ Ok r → faults r ≡ Ok fs → IsSound (made ts r fs)
  whole-takes ts r fs tenants requesters planned =
      let good_labels = rows_required label_at IsLabel label_at-takes [] (codes "labels") LABELS d ls labels in
      let good_age = whole_or-takes [] (codes "max-hold-age") 0 AGE 0 d a (omega arith) (omega arith) age in
      let good_providers = providers-take ls d s providers in
      let good_sems = rows_maybe semaphore_at IsSem semaphore_at-takes [] (codes "semaphores") SEMAPHORES d ss semaphores in
      let good_tenants = rows_maybe tenant_at IsTenant tenant_at-takes [] (codes "tenants") TENANTS d ts tenants in
      let good_requesters = requesters-take ls ss ts d r requesters in
      let good_faults = faults-take (pool_names s.providers s.pools) r.requesters d fs planned in
      let pools : length (pool_names s.providers s.pools) ≡ length s.pools = length-map s.pools (pool_name s.providers) in
      record {
        labels = good_labels.0;
        few_labels = good_labels.1;
        max_hold_age = good_age.1;
        supply = good_providers.1.0;
        some_provider = good_providers.2;
        few_providers = good_providers.3;
        semaphores = good_sems.0;
        few_semaphores = good_sems.1;
        tenants = good_tenants.0;
        few_tenants = good_tenants.1;
        demand = good_requesters.1.0;
        few_requesters = good_requesters.2;
        faults = subst (λ (m : ℕ). All (IsFault m (length r.requesters)) fs) pools good_faults.0;
        few_faults = good_faults.1;
      }

  rest-takes : (tenants_at d >>= λ ts. requesters_at ls ss ts d >>= λ r. faults r >>= λ fs. ok (made ts r fs)) ≡ Ok c → IsSound c
  rest-takes e =
      let put : List Tenant → Requesters → Result Configuration ConfigFault = λ ts r. faults r >>= λ fs. ok (made ts r fs) in
      let ts = bind-ok (tenants_at d) (λ ts. requesters_at ls ss ts d >>= put ts) c e in
      let r = bind-ok (requesters_at ls ss ts.0 d) (put ts.0) c ts.2 in
      let fs = bind-ok (faults r.0) (λ fs. ok (made ts.0 r.0 fs)) c r.2 in
      subst IsSound (same_ok (made ts.0 r.0 fs.0) c fs.2) (whole-takes ts.0 r.0 fs.0 ts.1 r.1 fs.1)

pub configuration-takes : (d : Data) (c : Configuration) → configuration_at d ≡ Ok c → IsSound c
unfolding configuration_at
configuration-takes d c e =
    let ages = whole_or [] (codes "max-hold-age") 0 AGE 0 d in
    let planned : Providers → Requesters → Result (List Fault) ConfigFault = λ s r. faults_at (pool_names s.providers s.pools) r.requesters d in
    let r5 : List Label → ℕ → Providers → List Sem → Result Configuration ConfigFault
    = λ ls a s ss. tenants_at d >>= λ ts. requesters_at ls ss ts d >>= λ r. planned s r >>= λ fs. ok (configuration ls s.providers s.pools ss ts r.requesters r.jobs fs a) in
    let r4 : List Label → ℕ → Providers → Result Configuration ConfigFault = λ ls a s. semaphores_at d >>= r5 ls a s in
    let r3 : List Label → ℕ → Result Configuration ConfigFault = λ ls a. providers_at ls d >>= r4 ls a in
    let r2 : List Label → Result Configuration ConfigFault = λ ls. ages >>= r3 ls in
    let o = rest-ok (object_at [] top_keys d) (labels_at d >>= r2) c e in
    let ls = bind-ok (labels_at d) r2 c o in
    let a = bind-ok ages (r3 ls.0) c ls.2 in
    let s = bind-ok (providers_at ls.0 d) (r4 ls.0 a.0) c a.2 in
    let ss = bind-ok (semaphores_at d) (r5 ls.0 a.0 s.0) c s.2 in
    rest-takes d c ls.0 ls.1 a.0 a.1 s.0 s.1 ss.0 ss.1 ss.2

-- what bytes are read as is sound
pub reads-takes : (bytes : List ℕ) (c : Configuration) → reads bytes ≡ Ok c → IsSound c
unfolding reads
reads-takes bytes c e = let d = found-ok (parsed bytes) (fault NotJson []) configuration_at c e in configuration-takes d.0 c d.2

pub ruleset read_soundly = (reads-takes)

-- what was read without a fault, as the code returns it
pub gives_ok : {X : Type 0} (P : X → Type 0) (result : Result X ConfigRead) (read : Result X ConfigFault) → ((x : X) → read ≡ Ok x → P x) → Gives (λ x. x) result read → IfOk result P
gives_ok P (Ok x) read says gives = says x gives
gives_ok P (Err e) read says gives = tt
