-- the members and the rows of a sound configuration are read again from their values
use Rattle.np_config_text.proofs.Prelude.{AGE, All, All-from_each, AreProviders, Bool, Configuration, Crash, Data, EachAfter, Equal, Expire, FAIL_STARTS, FAULT_ACTS, Fault, FaultKind, Greater, HANDLES, HasNewName, IfSome, IsAscii, IsAscii-append, IsAscii-cons, IsAscii-name, IsAscii-nil, IsFault, IsJob, IsLabel, IsLimit, IsOffer, IsPool, IsProvider, IsRequester, IsRole, IsSem, IsSound, IsStart, IsTenant, IsUnused, IsUtf8-from_ascii, Job, LABELS, Label, LabelId, Length, Less, Limit, List, MIN_READY, Members, NODE_CORES, NODE_RAM, None, Offer, Ok, Option, Ordering, POOL_CORES, POOL_RAM, POOL_SERVERS, Pool, PoolId, PoolsSoFar, Provider, ReadsItem, Requester, RequesterId, Role, START_NUMBER, Sem, SemId, Some, StandsByOwner, Stop, TENANTS, Tenant, TenantId, and_parts, ap, append-nil, append_assoc, arith, at_most, below, bytes_eq, bytes_eq-Decides, array, codes, cond, count, decimal, default_name, default_tenant, false, fault_at, fault_data, fault_kind_of, fault_kind_word, full_name, get, get-map, get_member, given, given_limit, is-at_most, is_eq, is_gt, is_name_text, items_from, items_len, items_of, job_tenant, label_at, label_data, label_for, label_name, label_named, label_row, label_value, length, length-map, limit_at, list_any, list_at, list_data, list_if_any, list_maybe, list_required, map, match_ordering, member, name_at, named_at, nat_cmp, nat_lt, nat_tests, new_name, no_members, offer_amount, offer_at, offer_data, offer_label, offers_at, ok, only_keys, option_map, option_map_or, or_parts, other, passed, pool_at, pool_data, pool_keys, pool_name, pool_named, pool_names, pool_names-unused, pool_row, position, position_or_len, put, put_given, put_limit, reached, refl, requester_name, requester_named, required_word, role_at, semaphore_at, semaphore_data, semaphore_name, semaphore_named, slice_cmp, slice_get, start_at, starts_at, string, subst, suc, sym, take, tenant_at, tenant_data, tenant_id, tenant_keys, tenant_name, tenant_named, tenant_of, true, whole_required, whole_value, word_value, zero, ℕ, [], ◌&&◌, ◌++◌, ◌+◌, ◌<◌, ◌==◌, ◌>>=◌, ◌∙◌, ◌∷◌, ◌≡◌, ◌≤◌}

-- # the value of a sound configuration is read as that configuration

items_len-of : (ds : List Data) → items_len (items_of ds) ≡ length ds
items_len-of [] = refl
items_len-of (d ∷ ds) = ap suc (items_len-of ds)

-- a list whose items are read
pub list_of_items : {S : Type 0} (read : ReadsItem S) (at : List ℕ) (l : Length) (s t : S) (ds : List Data) → items_from read at 0 s (items_of ds) ≡ Ok t → l.before + length ds ≤ l.most → l.least ≤ length ds
    → list_at read at l s (array (items_of ds)) ≡ Ok t
unfolding list_at
list_of_items read at l s t ds items most least = rw (items_len-of ds, is-at_most (l.before + length ds) l.most most, is-at_most l.least (length ds) least, items) refl

-- rows, each of which is read after a state that those before it make
module _ {S T : Type 0} (read : ReadsItem S) (shown : T → Data) (state : List T → S) (P : List T → T → Type 0)
    (again : (at : List ℕ) (e : List T) (x : T) → P e x → read at (state e) (shown x) ≡ Ok (state (e ++ x ∷ []))) where
  items_again : (at : List ℕ) (n : ℕ) (e xs : List T) → EachAfter P e xs → items_from read at n (state e) (items_of (map shown xs)) ≡ Ok (state (e ++ xs))
  unfolding items_from
  items_again at n e [] each = ap (λ (es : List T). ok (state es)) (sym (append-nil e))
  items_again at n e (x ∷ xs) each = rw (again (below at (decimal n)) e x each.0) (items_again at (n + 1) (e ++ x ∷ []) xs each.1 ∙ ap (λ (es : List T). ok (state es)) (append_assoc e (x ∷ []) xs))

  pub list_again : (at : List ℕ) (l : Length) (xs : List T) → EachAfter P [] xs → l.before + length xs ≤ l.most → l.least ≤ length xs → list_at read at l (state []) (list_data shown xs) ≡ Ok (state xs)
  list_again at l xs each most least = list_of_items read at l (state []) (state xs) (map shown xs) (items_again at 0 [] xs each) (omega (arith, length-map xs shown)) (omega (arith, length-map xs shown))

-- ## Numbers

-- a number of a range is read as it
pub whole_again : (at : List ℕ) (least most n : ℕ) → least ≤ n → n ≤ most → whole_value at least most (count n) ≡ Ok n
whole_again at least most n low high = rw (is-at_most least n low, is-at_most n most high) refl

pub up_to_again : (at : List ℕ) (most n : ℕ) → n ≤ most → whole_value at 0 most (count n) ≡ Ok n
up_to_again at most n high = whole_again at 0 most n (omega arith) high

-- a number that may be absent
pub maybe_again : (at : List ℕ) (least most : ℕ) (o : Option ℕ) → IfSome o (λ n. (least ≤ n) × (n ≤ most)) → option_map_or (λ v. whole_value at least most v >>= λ n. ok (Some n)) (option_map count o) (ok None) ≡ Ok o
maybe_again at least most None within = refl
maybe_again at least most (Some n) within = rw (whole_again at least most n within.0 within.1) refl

from_most : (most : ℕ) (o : Option ℕ) → IfSome o (λ n. n ≤ most) → IfSome o (λ n. (0 ≤ n) × (n ≤ most))
from_most most None within = tt
from_most most (Some n) within = (omega arith, within)

-- limits, as they are found under their keys
pub limit_again : (at : List ℕ) (d : Data) (l : Limit) → IsLimit l → get (codes "max-servers") d ≡ option_map count l.instances → get (codes "max-cores") d ≡ option_map count l.cores → get (codes "max-ram") d ≡ option_map count l.ram
    → limit_at at d ≡ Ok l
unfolding limit_at
limit_again at d l is servers cores ram =
    rw (
      servers,
      maybe_again (below at (codes "max-servers")) 0 POOL_SERVERS l.instances (from_most POOL_SERVERS l.instances is.servers),
      cores,
      maybe_again (below at (codes "max-cores")) 0 POOL_CORES l.cores (from_most POOL_CORES l.cores is.cores),
      ram,
      maybe_again (below at (codes "max-ram")) 0 POOL_RAM l.ram (from_most POOL_RAM l.ram is.ram),
    ) refl

-- ## Rows

pub label_again : (at : List ℕ) (e : List Label) (l : Label) → IsLabel e l → label_at at e (label_data l) ≡ Ok (e ++ l ∷ [])
unfolding label_at label_row named_at name_at new_name
label_again at e l is =
    rw (is.name.named, is.name.new, up_to_again (below at (codes "min-ready")) MIN_READY l.min_ready is.min_ready, up_to_again (below at (codes "max-ready-age")) AGE l.max_ready_age is.max_ready_age) refl

pub semaphore_again : (at : List ℕ) (e : List Sem) (s : Sem) → IsSem e s → semaphore_at at e (semaphore_data s) ≡ Ok (e ++ s ∷ [])
unfolding semaphore_at named_at name_at new_name
semaphore_again at e s is = rw (is.name.named, is.name.new, whole_again (below at (codes "max")) 1 HANDLES s.max is.some is.max) refl

pub start_again : (at : List ℕ) (e : List ℕ) (n : ℕ) → IsStart e n → start_at at e (count n) ≡ Ok (e ++ n ∷ [])
unfolding start_at
start_again at e n is = rw (whole_again at 1 START_NUMBER n is.least is.most, is.above) refl

-- ## References

pub first_place : {T : Type 0} (p : T → Bool) (xs : List T) (i : ℕ) (x : T) → list_any p (take i xs) ≡ false → slice_get xs i ≡ Some x → p x ≡ true → position_or_len p xs ≡ i
first_place p [] i x none there passes = absurd (cc)
first_place p (y ∷ xs) zero x none there passes = grind arith
first_place p (y ∷ xs) (suc i) x none there passes =
    let parts = or_parts (p y) (list_any p (take i xs)) none in
    rw parts.0 (omega (arith, first_place p xs i x parts.1 there passes))

pub stands_there : {T : Type 0} (P : List T → T → Type 0) (e xs : List T) (i : ℕ) → i < length xs → EachAfter P e xs → (x : T) × (slice_get xs i ≡ Some x) × P (e ++ take i xs) x
stands_there P e [] i within each = absurd (omega arith)
stands_there P e (x ∷ xs) zero within each = (x, refl, subst (λ (es : List _). P es x) (sym (append-nil e)) each.0)
stands_there P e (x ∷ xs) (suc i) within each =
    let there = stands_there P (e ++ x ∷ []) xs i (omega arith) each.1 in
    (there.0, there.1, subst (λ (es : List _). P es there.0) (append_assoc e (x ∷ []) (take i xs)) there.2)

-- the row at a place is the first with its name
pub found_again : {T : Type 0} (name : T → List ℕ) (P : List T → T → Type 0) → ((e : List T) (x : T) → P e x → HasNewName name e x) → (xs : List T) (i : ℕ) → i < length xs → EachAfter P [] xs
    → (x : T) × (slice_get xs i ≡ Some x) × (position (λ r. bytes_eq (name x) (name r)) xs ≡ Some i)
found_again name P says xs i within each =
    let there = stands_there P [] xs i within each in
    let place = first_place (λ r. bytes_eq (name there.0) (name r)) xs i there.0 (says (take i xs) there.0 there.2).new there.1 ((bytes_eq-Decides (name there.0) (name there.0)).1 refl) in
    let less : nat_lt i (length xs) ≡ true = grind (arith, nat_tests) in
    (there.0, there.1, rw (place, less) refl)

pub label_reference : (c : Configuration) (l : LabelId) → EachAfter IsLabel [] c.labels → l.0 < length c.labels → label_named c.labels (label_name c l) ≡ Some l.0
label_reference c l each within =
    let there = found_again (λ (r : Label). r.name) IsLabel (λ e x is. is.name) c.labels l.0 within each in
    rw there.1 there.2

pub semaphore_reference : (c : Configuration) (s : SemId) → EachAfter IsSem [] c.semaphores → s.0 < length c.semaphores → semaphore_named c.semaphores (semaphore_name c s) ≡ Some s.0
semaphore_reference c s each within =
    let there = found_again (λ (r : Sem). r.name) IsSem (λ e x is. is.name) c.semaphores s.0 within each in
    rw there.1 there.2

pub offer_again : (c : Configuration) → EachAfter IsLabel [] c.labels → (at : List ℕ) (e : List Offer) (o : Offer) → IsOffer (length c.labels) e o → offer_at c.labels at e (offer_data c o) ≡ Ok (e ++ o ∷ [])
unfolding offer_at offer_label offer_amount label_value label_for
offer_again c each at e o is =
    rw (label_reference c o.label each is.label, is.new, up_to_again (below at (codes "cores")) NODE_CORES o.amount.cores is.cores, up_to_again (below at (codes "ram")) NODE_RAM o.amount.ram is.ram)
    (ap (λ n. ok (e ++ record { label = o.label; amount = record { instances = n; cores = o.amount.cores; ram = o.amount.ram } } ∷ [])) (sym is.instances))

-- # members of an object, put in or absent, one at a time

-- ## What is found

-- a member under another key is passed over
pub get-other : (k l : List ℕ) (o : Option Data) (ms : Members) → other k l → get_member k (given l o ms) ≡ get_member k ms
get-other k l None ms apart = refl
get-other k l (Some d) ms apart = passed (slice_cmp nat_cmp k l) (get_member k ms) (Some d) apart

-- the member that may be absent, if no other has its key
pub get-given : (k : List ℕ) (o : Option Data) (ms : Members) → is_eq (slice_cmp nat_cmp k k) ≡ true → get_member k ms ≡ None → get_member k (given k o ms) ≡ o
get-given k None ms same none = none
get-given k (Some d) ms same none = reached (slice_cmp nat_cmp k k) (get_member k ms) (Some d) same

-- it adds no key except its own
pub keys-given : (keys : List (List ℕ)) (k : List ℕ) (o : Option Data) (ms : Members) → list_any (bytes_eq k) keys ≡ true → only_keys keys (given k o ms) ≡ only_keys keys ms
keys-given keys k None ms known = refl
keys-given keys k (Some d) ms known = rw known refl

-- ## Limits

-- the members of a limit, before a name
abbrev limit_and_name : Option Data → Option Data → Option Data → Data → Members
limit_and_name cores ram servers name = given (codes "max-cores") cores (given (codes "max-ram") ram (given (codes "max-servers") servers (member (codes "name") name no_members)))

-- what is found under their keys, and how the code puts them
record LimitStands (cores ram servers : Option Data) (name : Data) : Type 0 where
  pub tenant_has : only_keys tenant_keys (limit_and_name cores ram servers name) ≡ true
  pub pool_has : only_keys pool_keys (limit_and_name cores ram servers name) ≡ true
  pub name_found : get_member (codes "name") (limit_and_name cores ram servers name) ≡ Some name
  pub cores_found : get_member (codes "max-cores") (limit_and_name cores ram servers name) ≡ cores
  pub ram_found : get_member (codes "max-ram") (limit_and_name cores ram servers name) ≡ ram
  pub servers_found : get_member (codes "max-servers") (limit_and_name cores ram servers name) ≡ servers
  pub tenant_put : put (codes "name") name (put_given (codes "max-servers") servers (put_given (codes "max-ram") ram (put_given (codes "max-cores") cores no_members))) ≡ limit_and_name cores ram servers name
  pub pool_put : (starts offers : Data)
      → put (codes "name") name (put_given (codes "max-servers") servers (put_given (codes "max-ram") ram (put_given (codes "max-cores") cores (put (codes "labels") offers (put (codes "fail-starts") starts no_members)))))
      ≡ member (codes "fail-starts") starts (member (codes "labels") offers (limit_and_name cores ram servers name))

limit_stands : (l : Limit) (name : Data) → LimitStands (option_map count l.cores) (option_map count l.ram) (option_map count l.instances) name
limit_stands l name = by (option_map count l.cores) (option_map count l.ram) (option_map count l.instances)
  where
    by : (cores ram servers : Option Data) → LimitStands cores ram servers name
    by None None None = record { tenant_has = refl; pool_has = refl; name_found = refl; cores_found = refl; ram_found = refl; servers_found = refl; tenant_put = refl; pool_put = λ starts offers. refl }
    by None None (Some d) = record { tenant_has = refl; pool_has = refl; name_found = refl; cores_found = refl; ram_found = refl; servers_found = refl; tenant_put = refl; pool_put = λ starts offers. refl }
    by None (Some b) None = record { tenant_has = refl; pool_has = refl; name_found = refl; cores_found = refl; ram_found = refl; servers_found = refl; tenant_put = refl; pool_put = λ starts offers. refl }
    by None (Some b) (Some d) = record { tenant_has = refl; pool_has = refl; name_found = refl; cores_found = refl; ram_found = refl; servers_found = refl; tenant_put = refl; pool_put = λ starts offers. refl }
    by (Some a) None None = record { tenant_has = refl; pool_has = refl; name_found = refl; cores_found = refl; ram_found = refl; servers_found = refl; tenant_put = refl; pool_put = λ starts offers. refl }
    by (Some a) None (Some d) = record { tenant_has = refl; pool_has = refl; name_found = refl; cores_found = refl; ram_found = refl; servers_found = refl; tenant_put = refl; pool_put = λ starts offers. refl }
    by (Some a) (Some b) None = record { tenant_has = refl; pool_has = refl; name_found = refl; cores_found = refl; ram_found = refl; servers_found = refl; tenant_put = refl; pool_put = λ starts offers. refl }
    by (Some a) (Some b) (Some d) = record { tenant_has = refl; pool_has = refl; name_found = refl; cores_found = refl; ram_found = refl; servers_found = refl; tenant_put = refl; pool_put = λ starts offers. refl }

-- ## What the code puts

pub pool_members : (starts offers name : Data) (l : Limit)
    → put (codes "name") name (put_limit l (put (codes "labels") offers (put (codes "fail-starts") starts no_members)))
    ≡ member (codes "fail-starts") starts (member (codes "labels") offers (given_limit l (member (codes "name") name no_members)))
pool_members starts offers name l = (limit_stands l name).pool_put starts offers

pub tenant_members : (name : Data) (l : Limit) → put (codes "name") name (put_limit l no_members) ≡ given_limit l (member (codes "name") name no_members)
tenant_members name l = (limit_stands l name).tenant_put

pub job_members : (end labels name priority relative first semaphores : Data) (tenant : Option Data)
    → put_given (codes "tenant") tenant (put (codes "semaphores") semaphores (put (codes "resources-first") first (put (codes "relative-priority") relative (
    put (codes "priority") priority (put (codes "name") name (put (codes "labels") labels (put (codes "end") end no_members)))))))
    ≡ member (codes "end") end (member (codes "labels") labels (member (codes "name") name (member (codes "priority") priority (
    member (codes "relative-priority") relative (member (codes "resources-first") first (member (codes "semaphores") semaphores (given (codes "tenant") tenant no_members)))))))
job_members end labels name priority relative first semaphores None = refl
job_members end labels name priority relative first semaphores (Some d) = refl

pub top_members : (faults labels age providers requesters semaphores : Data) (tenants : Option Data)
    → put_given (codes "tenants") tenants (put (codes "semaphores") semaphores (put (codes "requesters") requesters (put (codes "providers") providers (
    put (codes "max-hold-age") age (put (codes "labels") labels (put (codes "faults") faults no_members))))))
    ≡ member (codes "faults") faults (member (codes "labels") labels (member (codes "max-hold-age") age (member (codes "providers") providers (
    member (codes "requesters") requesters (member (codes "semaphores") semaphores (given (codes "tenants") tenants no_members))))))
top_members faults labels age providers requesters semaphores None = refl
top_members faults labels age providers requesters semaphores (Some d) = refl

-- # the names of a configuration are ASCII

-- the row at a place has what each row has
pub at_place : {T : Type 0} (P : List T → T → Type 0) (Q : T → Type 0) → ((e : List T) (x : T) → P e x → Q x) → (e xs : List T) (i : ℕ) (x : T) → EachAfter P e xs → slice_get xs i ≡ Some x → Q x
at_place P Q says e [] i x each there = absurd (cc)
at_place P Q says e (y ∷ xs) zero x each there = let same : y ≡ x = cc in subst Q same (says e y each.0)
at_place P Q says e (y ∷ xs) (suc i) x each there = at_place P Q says (e ++ y ∷ []) xs i x each.1 there

-- the names of rows that have names, and the name of one that is there
module _ {T : Type 0} (name : T → List ℕ) (P : List T → T → Type 0) (says : (e : List T) (x : T) → P e x → is_name_text (name x) ≡ true) where
  pub names-ascii : (xs : List T) → EachAfter P [] xs → All (λ x. IsAscii (name x)) xs
  names-ascii xs each = All-from_each P (λ x. IsAscii (name x)) (λ e x is. IsAscii-name (name x) (says e x is)) [] xs each

  name-ascii : (xs : List T) (i : ℕ) (x : T) → EachAfter P [] xs → slice_get xs i ≡ Some x → IsAscii (name x)
  name-ascii xs i x each there = at_place P (λ y. IsAscii (name y)) (λ e y is. IsAscii-name (name y) (says e y is)) [] xs i x each there

pub label-ascii : (c : Configuration) (i : ℕ) (x : Label) → IsSound c → slice_get c.labels i ≡ Some x → IsAscii x.name
label-ascii c i x sound there = name-ascii (λ (r : Label). r.name) IsLabel (λ e r is. is.name.named) c.labels i x sound.labels there

pub semaphore-ascii : (c : Configuration) (i : ℕ) (x : Sem) → IsSound c → slice_get c.semaphores i ≡ Some x → IsAscii x.name
semaphore-ascii c i x sound there = name-ascii (λ (r : Sem). r.name) IsSem (λ e r is. is.name.named) c.semaphores i x sound.semaphores there

pub tenant-ascii : (c : Configuration) (id : TenantId) (x : Tenant) → IsSound c → tenant_of c id ≡ Some x → IsAscii x.name
unfolding is_name_text
tenant-ascii c id x sound there = by id.0 there
  where
    by : (n : ℕ) → slice_get (default_tenant ∷ c.tenants) n ≡ Some x → IsAscii x.name
    by zero there = let same : default_tenant ≡ x = cc in subst (λ (r : Tenant). IsAscii r.name) same (IsAscii-name default_name refl)
    by (suc n) there = name-ascii (λ (r : Tenant). r.name) IsTenant (λ e r is. is.name.named) c.tenants n x sound.tenants there

pub requester-ascii : (c : Configuration) (i : ℕ) (x : Requester) → IsSound c → slice_get c.requesters i ≡ Some x → IsAscii x.name
requester-ascii c i x sound there = name-ascii (λ (r : Requester). r.name) IsRequester (λ e r is. is.name.named) c.requesters i x sound.demand.each_requester there

pub ruleset utf8 = (IsUtf8-from_ascii)

or_empty : {T : Type 0} (name : T → List ℕ) (o : Option T) → ((x : T) → o ≡ Some x → IsAscii (name x)) → IsAscii (option_map_or name o [])
or_empty name None some = IsAscii-nil
or_empty name (Some x) some = some x refl

pub pool_name-ascii : (c : Configuration) (i : ℕ) (p : Pool) → IsSound c → slice_get c.pools i ≡ Some p → IsAscii (pool_name c.providers p)
pool_name-ascii c i p sound there =
    let own = name-ascii (λ (q : Pool). q.name) (StandsByOwner (λ (q : Pool). q.provider) (IsPool (length c.labels))) (λ e q is. is.own.name.named) c.pools i p sound.supply.each_pool there in
    let provider = or_empty (λ (q : Provider). q.name) (slice_get c.providers p.provider) (λ x has. name-ascii (λ (q : Provider). q.name) IsProvider (λ e q is. is.name.named) c.providers p.provider x sound.supply.each_provider has) in
    IsAscii-append (option_map_or (λ (q : Provider). q.name) (slice_get c.providers p.provider) []) (47 ∷ p.name) provider (IsAscii-cons 47 p.name (omega arith) own)

-- # the values of faults are read as those

or_there : {A : Type 0} (f : A → List ℕ) (o : Option A) (t : List ℕ) → option_map f o ≡ Some t → option_map_or f o [] ≡ t
or_there f None t e = absurd (cc)
or_there f (Some x) t e = cc

pool_reference : (c : Configuration) (labels : ℕ) (p : PoolId) → AreProviders labels c.providers c.pools → p.0 < length c.pools → pool_named (pool_names c.providers c.pools) (full_name c p) ≡ Some p.0
pool_reference c labels p are within =
    let names = pool_names c.providers c.pools in
    let count : length names ≡ length c.pools = length-map c.pools (pool_name c.providers) in
    let inside : p.0 < length names = omega arith in
    let there = stands_there IsUnused [] names p.0 inside (pool_names-unused labels c.providers c.pools are) in
    let here : full_name c p ≡ there.0 = or_there (pool_name c.providers) (slice_get c.pools p.0) there.0 (sym (get-map (pool_name c.providers) c.pools p.0) ∙ there.1) in
    let place = first_place (bytes_eq there.0) names p.0 there.0 there.2 there.1 ((bytes_eq-Decides there.0 there.0).1 refl) in
    let less : nat_lt p.0 (length names) ≡ true = grind (arith, nat_tests) in
    let found : position (bytes_eq there.0) names ≡ Some p.0 = rw (place, less) refl in
    ap (λ (t : List ℕ). position (bytes_eq t) names) here ∙ found

requester_reference : (c : Configuration) (q : RequesterId) → EachAfter IsRequester [] c.requesters → q.0 < length c.requesters → requester_named c.requesters (requester_name c q) ≡ Some q.0
requester_reference c q each within =
    let there = found_again (λ (r : Requester). r.name) IsRequester (λ e x is. is.name) c.requesters q.0 within each in
    rw there.1 there.2

kind_again : (k : FaultKind) → fault_kind_of (fault_kind_word k) ≡ Some k
kind_again Expire = refl
kind_again Crash = refl
kind_again Stop = refl

module _ (c : Configuration) (labels : ℕ) (are : AreProviders labels c.providers c.pools) (each : EachAfter IsRequester [] c.requesters) where
  pub fault_again : (at : List ℕ) (e : List Fault) (f : Fault) → IsFault (length c.pools) (length c.requesters) f → fault_at (pool_names c.providers c.pools) c.requesters at e (fault_data c f) ≡ Ok (e ++ f ∷ [])
  unfolding fault_at role_at required_word word_value whole_required
  fault_again at e f is = by f.role is.role
    where
      by : (r : Role) → IsRole (length c.pools) (length c.requesters) r → fault_at (pool_names c.providers c.pools) c.requesters at e (fault_data c (record { role = r; kind = f.kind; after = f.after })) ≡ Ok (e ++ record { role = r; kind = f.kind; after = f.after } ∷ [])
      by (Role.Launcher p) there = rw (pool_reference c labels p are there, kind_again f.kind, up_to_again (below at (codes "after")) FAULT_ACTS f.after is.after) refl
      by (Role.Janitor p) there = rw (pool_reference c labels p are there, kind_again f.kind, up_to_again (below at (codes "after")) FAULT_ACTS f.after is.after) refl
      by (Role.Requester q) there = rw (requester_reference c q each there, kind_again f.kind, up_to_again (below at (codes "after")) FAULT_ACTS f.after is.after) refl
      by Role.Reaper there = absurd there

-- # the values of tenants are read as those, and so are the tenants of jobs

tenant_again : (at : List ℕ) (e : List Tenant) (t : Tenant) → IsTenant e t → tenant_at at e (tenant_data t) ≡ Ok (e ++ t ∷ [])
unfolding tenant_at named_at name_at new_name
tenant_again at e t is =
    let found = limit_stands t.limit (string t.name) in
    rw (found.tenant_has, found.name_found, is.name.named, is.name.new, is.listed, limit_again at (tenant_data t) t.limit is.limit found.servers_found found.cores_found found.ram_found) refl

-- the tenants of a configuration, which are absent if there are none
pub tenants_again : (at : List ℕ) (ts : List Tenant) → EachAfter IsTenant [] ts → length ts ≤ TENANTS → option_map_or (list_at tenant_at at (at_most TENANTS) []) (list_if_any tenant_data ts) (ok []) ≡ Ok ts
tenants_again at [] each few = refl
tenants_again at (t ∷ ts) each few =
    let some : (length (t ∷ ts) == 0) ≡ false = grind (arith, nat_tests) in
    rw some (list_again tenant_at tenant_data (λ (us : List Tenant). us) IsTenant tenant_again at (at_most TENANTS) (t ∷ ts) each (omega arith) (omega arith))

-- ## The tenant of a job

listed_reference : (c : Configuration) (i : ℕ) → EachAfter IsTenant [] c.tenants → i < length c.tenants → tenant_named c.tenants (tenant_name c (tenant_id (suc i))) ≡ Some (tenant_id (suc i))
listed_reference c i each within =
    let there = found_again (λ (r : Tenant). r.name) IsTenant (λ e x is. is.name) c.tenants i within each in
    let other : bytes_eq there.0.name default_name ≡ false = at_place IsTenant (λ (r : Tenant). bytes_eq r.name default_name ≡ false) (λ e x is. is.listed) [] c.tenants i there.0 each there.1 in
    let more : i + 1 ≡ suc i = omega arith in
    rw (there.1, other, there.2) (ap (λ (n : ℕ). Some (tenant_id n)) more)

pub job_tenant_again : (c : Configuration) (at : List ℕ) (t : TenantId) → EachAfter IsTenant [] c.tenants → t.0 ≤ length c.tenants
    → option_map_or (word_value (tenant_named c.tenants) at) (job_tenant c t) (ok (tenant_id 0)) ≡ Ok t
unfolding word_value
job_tenant_again c at t each within = by t.0 within
  where
    by : (n : ℕ) → n ≤ length c.tenants → option_map_or (word_value (tenant_named c.tenants) at) (job_tenant c (tenant_id n)) (ok (tenant_id 0)) ≡ Ok (tenant_id n)
    by zero within = refl
    by (suc i) within =
        let some : (suc i == 0) ≡ false = grind (arith, nat_tests) in
        rw (some, listed_reference c i each (omega arith)) refl

-- # the values of pools and providers are read as those

pub pool_again : (c : Configuration) → EachAfter IsLabel [] c.labels → (k : ℕ) (at : List ℕ) (e : List Pool) (p : Pool) → (p.provider ≡ k) × IsPool (length c.labels) e p
    → pool_at c.labels at (record { provider = k; pools = e }) (pool_data c p) ≡ Ok (record { provider = k; pools = e ++ p ∷ [] })
unfolding pool_at pool_row offers_at starts_at list_required list_maybe named_at name_at new_name
pool_again c each k at e p is =
    let found = limit_stands p.limit (string p.name) in
    let limit = limit_again at (pool_data c p) p.limit is.1.limit found.servers_found found.cores_found found.ram_found in
    let offers = list_again (offer_at c.labels) (offer_data c) (λ (os : List Offer). os) (IsOffer (length c.labels)) (offer_again c each) (below at (codes "labels")) (at_most LABELS) p.offers is.1.offers (omega (arith, is.1.few_offers)) (omega arith) in
    let starts = list_again start_at count (λ (ns : List ℕ). ns) IsStart start_again (below at (codes "fail-starts")) (at_most FAIL_STARTS) p.fail_starts is.1.starts (omega (arith, is.1.few_starts)) (omega arith) in
    let with_pool : ℕ → PoolsSoFar = λ n. record { provider = k; pools = e ++ record p { provider = n } ∷ [] } in
    rw (found.pool_has, found.name_found, is.1.name.named, is.1.name.new, limit, offers, starts) (ap (λ (n : ℕ). ok (with_pool n)) (sym is.0))
