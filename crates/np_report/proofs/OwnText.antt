-- the compact text of a sound configuration is one line that is read back as that configuration
use Rattle.np_report.proofs.Prelude.{AllByRecursion, ArePrintable-json_tokens, Bool, Configuration, Data, EachAfter, EachAfter-from_all, Entry, Fault, HasEntryLine, IfSome, IsAscii, IsAscii-decimal, IsAscii-name, IsFault, IsJob, IsLabel, IsNumber-decimal, IsOffer, IsPool, IsProvider, IsRequester, IsSem, IsSound, IsStart, IsTaken, IsTenant, IsUtf8, IsUtf8-append, IsUtf8-are_ascii, IsUtf8-from_ascii, IsUtf8-quoted, IsWanted, Items, Job, Label, LabelId, List, Members, None, Num, Offer, Ok, Option, Pool, PoolId, Provider, Requester, Role, Runs, Sem, SemId, Some, StandsByOwner, State, Tenant, after, ap, append-nil, append_assoc, are_ascii, arith, array, bar, boolean, by_bool, bytes_eq, canonical, codes, comma_if, compact_text, cond, configuration-depth, configuration_data, count, decimal, depth, digit_glyph, digits, digits_onto, end_as_word, entry_line, entry_line-injective, entry_line-no_bar, entry_lines, escape, escape_byte, false, fate_lines, fates, fault_data, fault_kind_word, filter, flat_map, full_name, given, given_count, has_bar, is_line, is_line-entry, is_name_text, item, items_depth, items_of, items_outline, items_text, job_data, job_tenant, label-ascii, label_data, label_name, length, line, lines_of, lines_of-lines, list_all, list_all-append, list_data, list_if_any, map, max_depth, member, members_depth, members_outline, members_text, nat_tests, negative, negsuc, next, no_items, no_members, not, null, number, number_of-decimal, object, of_items, of_json, of_members, offer_data, option_map_or, outline, placed, pool_data, pool_name, pool_name-ascii, pools_of, pos, print-outline, priority_word, provider_data, put, quoted, read, reads, reads-again, refl, replayed, requester-ascii, requester_data, role_name, role_word, sections_of, sections_of-bar, semaphore-ascii, semaphore_data, semaphore_name, slice_get, start, string, suc, sym, tenant-ascii, tenant_data, tenant_name, tenant_of, text_of, tokens, tokens-print, true, unsigned, value-json_tokens, zero, ℕ, [], ◌%◌, ◌++◌, ◌+◌, ◌/◌, ◌<◌, ◌==◌, ◌^◌, ◌∙◌, ◌∷◌, ◌≡◌, ◌≤◌}
use Rattle.np_config_text.proofs.Prelude.{Limit}
use Rattle.np_config.specs.Configuration.{IsLimit}
use Rattle.json.specs.Tree as tree

-- # values of whole numbers, strings and ASCII keys in order, whose compact text is UTF-8

-- the members, put in one after another
abbrev pub put_all : Members → Members → Members
put_all found no_members = found
put_all found (member k d ms) = put_all (put k d found) ms

-- a whole number that a word holds
abbrev pub IsWholeNumber : Num → Type 0
IsWholeNumber (unsigned n) = n < 2 ^ 64
IsWholeNumber _ = ⊥

-- its numbers are whole, and each object's members are in order, one for each key, which is ASCII
abbrev mutual
  pub IsWhole : Data → Type 0
  IsWhole null = Unit {0}
  IsWhole (boolean b) = Unit {0}
  IsWhole (number n) = IsWholeNumber n
  IsWhole (string s) = IsUtf8 s
  IsWhole (array ds) = AreWhole ds
  IsWhole (object ms) = (put_all no_members ms ≡ ms) × HaveWhole ms

  pub AreWhole : Items → Type 0
  AreWhole no_items = Unit {0}
  AreWhole (item d ds) = IsWhole d × AreWhole ds

  pub HaveWhole : Members → Type 0
  HaveWhole no_members = Unit {0}
  HaveWhole (member k d ms) = (are_ascii k ≡ true) × IsWhole d × HaveWhole ms

-- ## the text

IsUtf8-comma_if : (later : Bool) → IsUtf8 (comma_if later)
IsUtf8-comma_if true = IsUtf8-are_ascii (44 ∷ []) refl
IsUtf8-comma_if false = IsUtf8-are_ascii [] refl

mutual
  pub IsUtf8-compact_text : (d : Data) → IsWhole d → IsUtf8 (compact_text d)
  IsUtf8-compact_text null w = IsUtf8-are_ascii (compact_text null) refl
  IsUtf8-compact_text (boolean true) w = IsUtf8-are_ascii (compact_text (boolean true)) refl
  IsUtf8-compact_text (boolean false) w = IsUtf8-are_ascii (compact_text (boolean false)) refl
  IsUtf8-compact_text (number (unsigned n)) w = IsUtf8-from_ascii (decimal n) (IsAscii-decimal n w)
  IsUtf8-compact_text (number _) w = absurd w
  IsUtf8-compact_text (string s) w = IsUtf8-quoted s w
  IsUtf8-compact_text (array ds) w = IsUtf8-append (91 ∷ []) (items_text false ds) (IsUtf8-are_ascii (91 ∷ []) refl) (IsUtf8-items_text false ds w)
  IsUtf8-compact_text (object ms) w = IsUtf8-append (123 ∷ []) (members_text false ms) (IsUtf8-are_ascii (123 ∷ []) refl) (IsUtf8-members_text false ms w.1)

  IsUtf8-items_text : (later : Bool) (ds : Items) → AreWhole ds → IsUtf8 (items_text later ds)
  IsUtf8-items_text later no_items w = IsUtf8-are_ascii (93 ∷ []) refl
  IsUtf8-items_text later (item d ds) w =
      IsUtf8-append (comma_if later) (compact_text d ++ items_text true ds) (IsUtf8-comma_if later)
      (IsUtf8-append (compact_text d) (items_text true ds) (IsUtf8-compact_text d w.0) (IsUtf8-items_text true ds w.1))

  IsUtf8-members_text : (later : Bool) (ms : Members) → HaveWhole ms → IsUtf8 (members_text later ms)
  IsUtf8-members_text later no_members w = IsUtf8-are_ascii (125 ∷ []) refl
  IsUtf8-members_text later (member k d ms) w =
      IsUtf8-append (comma_if later) (quoted k ++ 58 ∷ (compact_text d ++ members_text true ms)) (IsUtf8-comma_if later)
      (IsUtf8-append (quoted k) (58 ∷ (compact_text d ++ members_text true ms)) (IsUtf8-quoted k (IsUtf8-are_ascii k w.0))
      (IsUtf8-append (58 ∷ []) (compact_text d ++ members_text true ms) (IsUtf8-are_ascii (58 ∷ []) refl)
      (IsUtf8-append (compact_text d) (members_text true ms) (IsUtf8-compact_text d w.1) (IsUtf8-members_text true ms w.2))))

-- # a value of whole numbers, strings and ASCII keys in order is read back from its compact text

mutual
  HasNumbers-outline : (d : Data) → IsWhole d → tree.HasNumbers (outline d)
  HasNumbers-outline (number (unsigned n)) w = IsNumber-decimal n w
  HasNumbers-outline (number _) w = absurd w
  HasNumbers-outline (array ds) w = ItemsHaveNumbers-outline ds w
  HasNumbers-outline (object ms) w = MembersHaveNumbers-outline ms w.1
  HasNumbers-outline _ w = tt

  ItemsHaveNumbers-outline : (ds : Items) → AreWhole ds → tree.ItemsHaveNumbers (items_outline ds)
  ItemsHaveNumbers-outline no_items w = tt
  ItemsHaveNumbers-outline (item d ds) w = (HasNumbers-outline d w.0, ItemsHaveNumbers-outline ds w.1)

  MembersHaveNumbers-outline : (ms : Members) → HaveWhole ms → tree.MembersHaveNumbers (members_outline ms)
  MembersHaveNumbers-outline no_members w = tt
  MembersHaveNumbers-outline (member k d ms) w = (HasNumbers-outline d w.1, MembersHaveNumbers-outline ms w.2)

mutual
  depth-outline : (d : Data) → tree.depth (outline d) ≡ depth d
  depth-outline (array ds) = ap suc (items_depth-outline ds)
  depth-outline (object ms) = ap suc (members_depth-outline ms)
  depth-outline _ = refl

  items_depth-outline : (ds : Items) → tree.items_depth (items_outline ds) ≡ items_depth ds
  items_depth-outline no_items = refl
  items_depth-outline (item d ds) = rw (depth-outline d, items_depth-outline ds) refl

  members_depth-outline : (ms : Members) → tree.members_depth (members_outline ms) ≡ members_depth ms
  members_depth-outline no_members = refl
  members_depth-outline (member k d ms) = rw (depth-outline d, members_depth-outline ms) refl

mutual
  of_json-outline : (d : Data) → IsWhole d → of_json (outline d) ≡ Some d
  of_json-outline (number (unsigned n)) w = rw (number_of-decimal n w) refl
  of_json-outline (number _) w = absurd w
  of_json-outline (array ds) w = rw (of_items-outline ds w) refl
  of_json-outline (object ms) w = rw (of_members-outline ms no_members w.1, w.0) refl
  of_json-outline _ w = refl

  of_items-outline : (ds : Items) → AreWhole ds → of_items (items_outline ds) ≡ Some ds
  of_items-outline no_items w = refl
  of_items-outline (item d ds) w = rw (of_json-outline d w.0, of_items-outline ds w.1) refl

  of_members-outline : (ms : Members) (found : Members) → HaveWhole ms → of_members (members_outline ms) found ≡ Some (put_all found ms)
  of_members-outline no_members found w = refl
  of_members-outline (member k d ms) found w = rw (of_json-outline d w.1) (of_members-outline ms (put k d found) w.2)

-- the compact text is read as the value
pub read-compact_text : (d : Data) → IsWhole d → depth d ≤ max_depth → read (compact_text d) ≡ Some d
read-compact_text d w shallow =
    let j = outline d in
    let printed : tokens (compact_text d) ≡ tree.json_tokens j ++ [] =
    ap tokens (sym (print-outline d)) ∙ tokens-print (tree.json_tokens j) (ArePrintable-json_tokens j (HasNumbers-outline d w)) ∙ sym (append-nil (tree.json_tokens j)) in
    let within : tree.depth j ≤ max_depth = omega (arith, depth-outline d) in
    rw (printed, value-json_tokens j max_depth [] within) (of_json-outline d w)

-- # a compact JSON text is one line

pub is_line-append : (xs ys : List ℕ) → is_line xs ≡ true → is_line ys ≡ true → is_line (xs ++ ys) ≡ true
is_line-append xs ys front back = rw (list_all-append (λ b. not (b == 10)) xs ys, front) back

-- ## numbers

digits_onto-line : (k n : ℕ) (acc : List ℕ) → is_line acc ≡ true → is_line (digits_onto k 10 false n acc) ≡ true
digits_onto-line zero n acc is = is
digits_onto-line (suc k) n acc is =
    let one : not (digit_glyph false (n % 10) == 10) ≡ true = grind (arith, nat_tests) in
    let more : is_line (digit_glyph false (n % 10) ∷ acc) ≡ true = rw one is in
    by_bool (λ b. is_line (cond b (digit_glyph false (n % 10) ∷ acc) (digits_onto k 10 false (n / 10) (digit_glyph false (n % 10) ∷ acc))) ≡ true) (n / 10 == 0) (λ _. more)
    (λ _. digits_onto-line k (n / 10) (digit_glyph false (n % 10) ∷ acc) more)

pub is_line-decimal : (n : ℕ) → is_line (decimal n) ≡ true
unfolding digits
is_line-decimal n = digits_onto-line 64 n [] refl

-- ## strings

escape_byte-line : (x : ℕ) → is_line (escape_byte x) ≡ true
unfolding escape_byte
escape_byte-line x = grind (arith, nat_tests)

quoted-line : (s : List ℕ) → is_line (quoted s) ≡ true
quoted-line s = is_line-append (escape s) (34 ∷ []) (escaped s) refl where
  escaped : (xs : List ℕ) → is_line (escape xs) ≡ true
  escaped [] = refl
  escaped (x ∷ xs) = is_line-append (escape_byte x) (escape xs) (escape_byte-line x) (escaped xs)

-- ## values

mutual
  pub is_line-compact_text : (d : Data) → is_line (compact_text d) ≡ true
  is_line-compact_text (number (unsigned n)) = is_line-decimal n
  is_line-compact_text (number (negative (pos n))) = is_line-decimal n
  is_line-compact_text (number (negative (negsuc n))) = is_line-decimal (suc n)
  is_line-compact_text (string s) = quoted-line s
  is_line-compact_text (array ds) = is_line-items false ds
  is_line-compact_text (object ms) = is_line-members false ms
  is_line-compact_text (boolean true) = refl
  is_line-compact_text _ = refl

  is_line-items : (later : Bool) (ds : Items) → is_line (items_text later ds) ≡ true
  is_line-items later no_items = refl
  is_line-items later (item d ds) =
      is_line-append (comma_if later) (compact_text d ++ items_text true ds) (by_bool (λ b. is_line (comma_if b) ≡ true) later (λ _. refl) (λ _. refl))
      (is_line-append (compact_text d) (items_text true ds) (is_line-compact_text d) (is_line-items true ds))

  is_line-members : (later : Bool) (ms : Members) → is_line (members_text later ms) ≡ true
  is_line-members later no_members = refl
  is_line-members later (member k d ms) =
      is_line-append (comma_if later) (quoted k ++ 58 ∷ (compact_text d ++ members_text true ms)) (by_bool (λ b. is_line (comma_if b) ≡ true) later (λ _. refl) (λ _. refl))
      (is_line-append (quoted k) (58 ∷ (compact_text d ++ members_text true ms)) (quoted-line k)
      (is_line-append (compact_text d) (members_text true ms) (is_line-compact_text d) (is_line-members true ms)))

-- # the parts of a configuration's value: its strings, its members in order and its lists

-- ## strings

pub IsUtf8-name : (name : List ℕ) → is_name_text name ≡ true → IsUtf8 name
IsUtf8-name name named = IsUtf8-from_ascii name (IsAscii-name name named)

-- the name of a row, if there is one
pub IsUtf8-found : {T : Type 0} (name : T → List ℕ) (o : Option T) → ((x : T) → o ≡ Some x → IsAscii (name x)) → IsUtf8 (option_map_or name o [])
IsUtf8-found name None some = IsUtf8-are_ascii [] refl
IsUtf8-found name (Some x) some = IsUtf8-from_ascii (name x) (some x refl)

-- ## members that may be absent

pub HaveWhole-given : (key : List ℕ) (o : Option ℕ) (ms : Members) (most : ℕ) → are_ascii key ≡ true → most < 2 ^ 64 → IfSome o (λ n. n ≤ most) → HaveWhole ms → HaveWhole (given_count key o ms)
HaveWhole-given key None ms most ascii fits is rest = rest
HaveWhole-given key (Some n) ms most ascii fits is rest = (ascii, omega arith, rest)

-- a value that may be absent
pub HaveWhole-value : (key : List ℕ) (o : Option Data) (ms : Members) → are_ascii key ≡ true → IfSome o IsWhole → HaveWhole ms → HaveWhole (given key o ms)
HaveWhole-value key None ms ascii is rest = rest
HaveWhole-value key (Some d) ms ascii is rest = (ascii, is, rest)

-- the limits of a pool or a tenant
HaveWhole-limits : (l : Limit) (ms : Members) → IsLimit l → HaveWhole ms → HaveWhole (given_count (codes "max-cores") l.cores (given_count (codes "max-ram") l.ram (given_count (codes "max-servers") l.instances ms)))
HaveWhole-limits l ms is rest =
    let servers = HaveWhole-given (codes "max-servers") l.instances ms 1000000 refl (omega arith) is.servers rest in
    let ram = HaveWhole-given (codes "max-ram") l.ram (given_count (codes "max-servers") l.instances ms) 1000000000 refl (omega arith) is.ram servers in
    HaveWhole-given (codes "max-cores") l.cores (given_count (codes "max-ram") l.ram (given_count (codes "max-servers") l.instances ms)) 1000000000 refl (omega arith) is.cores ram

-- ## lists

module _ {T : Type 0} (P : List T → T → Type 0) where
  pub AreWhole-list : (shown : T → Data) → ((e : List T) (x : T) → P e x → IsWhole (shown x)) → (e xs : List T) → EachAfter P e xs → AreWhole (items_of (map shown xs))
  AreWhole-list shown says e [] each = tt
  AreWhole-list shown says e (x ∷ xs) each = (says e x each.0, AreWhole-list shown says (e ++ x ∷ []) xs each.1)

  pub AreWhole-placed : (shown : ℕ → T → Data) → ((e : List T) (k : ℕ) (x : T) → P e x → IsWhole (shown k x)) → (k : ℕ) (e xs : List T) → EachAfter P e xs → AreWhole (items_of (placed shown k xs))
  AreWhole-placed shown says k e [] each = tt
  AreWhole-placed shown says k e (x ∷ xs) each = (says e k x each.0, AreWhole-placed shown says (k + 1) (e ++ x ∷ []) xs each.1)

  pub AreWhole-filter : (shown : T → Data) (p : T → Bool) → ((e : List T) (x : T) → P e x → IsWhole (shown x)) → (e xs : List T) → EachAfter P e xs → AreWhole (items_of (map shown (filter p xs)))
  AreWhole-filter shown p says e [] each = tt
  AreWhole-filter shown p says e (x ∷ xs) each =
      let rest = AreWhole-filter shown p says (e ++ x ∷ []) xs each.1 in
      by_bool (λ b. AreWhole (items_of (map shown (cond b (x ∷ filter p xs) (filter p xs))))) (p x) (λ _. (says e x each.0, rest)) (λ _. rest)

-- # the value of a sound configuration is of whole numbers, strings and ASCII keys in order

IsWhole-label_data : (e : List Label) (l : Label) → IsLabel e l → IsWhole (label_data l)
IsWhole-label_data e l is =
    let age = is.max_ready_age in
    let ready = is.min_ready in
    (refl, (refl, omega arith, (refl, omega arith, (refl, IsUtf8-name l.name is.name.named, tt))))

IsWhole-semaphore_data : (e : List Sem) (s : Sem) → IsSem e s → IsWhole (semaphore_data s)
IsWhole-semaphore_data e s is = let most = is.max in (refl, (refl, omega arith, (refl, IsUtf8-name s.name is.name.named, tt)))

module _ (c : Configuration) (sound : IsSound c) where
  IsUtf8-label_name : (l : LabelId) → IsUtf8 (label_name c l)
  IsUtf8-label_name l = IsUtf8-found (λ (r : Label). r.name) (slice_get c.labels l.0) (λ x there. label-ascii c l.0 x sound there)

  IsUtf8-full_name : (p : PoolId) → IsUtf8 (full_name c p)
  IsUtf8-full_name p = IsUtf8-found (pool_name c.providers) (slice_get c.pools p.0) (λ x there. pool_name-ascii c p.0 x sound there)

  IsUtf8-role_name : (r : Role) → IsUtf8 (role_name c r)
  IsUtf8-role_name (Role.Launcher p) = IsUtf8-full_name p
  IsUtf8-role_name (Role.Janitor p) = IsUtf8-full_name p
  IsUtf8-role_name (Role.Requester q) = IsUtf8-found (λ (r : Requester). r.name) (slice_get c.requesters q.0) (λ x there. requester-ascii c q.0 x sound there)
  IsUtf8-role_name Role.Reaper = IsUtf8-are_ascii [] refl

  IsWhole-offer_data : (e : List Offer) (o : Offer) → IsOffer (length c.labels) e o → IsWhole (offer_data c o)
  IsWhole-offer_data e o is =
      let cores = is.cores in
      let ram = is.ram in
      (refl, (refl, omega arith, (refl, IsUtf8-label_name o.label, (refl, omega arith, tt))))

  IsWhole-pool_data : (e : List Pool) (p : Pool) → StandsByOwner (λ (q : Pool). q.provider) (IsPool (length c.labels)) e p → IsWhole (pool_data c p)
  IsWhole-pool_data e p stands =
      let is = stands.own in
      let limit = p.limit in
      let last = member (codes "name") (string p.name) no_members in
      let first = HaveWhole-limits limit last is.limit (refl, IsUtf8-name p.name is.name.named, tt) in (
        grind arith,
        (refl, AreWhole-list IsStart count (λ _ n start. let most = start.most in omega arith) [] p.fail_starts is.starts, (refl, AreWhole-list (IsOffer (length c.labels)) (offer_data c) IsWhole-offer_data [] p.offers is.offers, first)),
      )

  IsWhole-tenant_data : (e : List Tenant) (t : Tenant) → IsTenant e t → IsWhole (tenant_data t)
  IsWhole-tenant_data e t is =
      let limit = t.limit in
      (grind arith, HaveWhole-limits limit _ is.limit (refl, IsUtf8-name t.name is.name.named, tt))

  IsWhole-provider_data : (e : List Provider) (k : ℕ) (p : Provider) → IsProvider e p → IsWhole (provider_data c k p)
  IsWhole-provider_data e k p is =
      let most = is.retries in
      let pools = AreWhole-filter (StandsByOwner (λ (q : Pool). q.provider) (IsPool (length c.labels))) (pool_data c) (λ (q : Pool). q.provider == k) IsWhole-pool_data [] c.pools sound.supply.each_pool in
      let last = member (codes "name") (string p.name) (member (codes "pools") (list_data (pool_data c) (pools_of c k)) no_members) in (
        grind arith,
        (refl, omega arith, HaveWhole-given (codes "max-concurrency") p.concurrency last 4096 refl (omega arith) (grind (arith, is.concurrency)) (refl, IsUtf8-name p.name is.name.named, (refl, pools, tt))),
      )

  IsWhole-job_data : (e : List Job) (j : Job) → StandsByOwner (λ (i : Job). i.requester.0) (IsJob (length c.labels) (length c.semaphores) (length c.tenants)) e j → IsWhole (job_data c j)
  IsWhole-job_data e j stands =
      let is = stands.own in
      let relative = is.relative in
      let each = EachAfter-from_all (IsWanted (length c.labels)) [] j.labels is.wanted in
      let labels = AreWhole-list (λ (before : List LabelId) (l : LabelId). IsWanted (length c.labels) l) (λ (l : LabelId). string (label_name c l)) (λ before l wanted. IsUtf8-label_name l) [] j.labels each in
      let semaphores = AreWhole-list (IsTaken (length c.semaphores)) (λ (s : SemId). string (semaphore_name c s)) (λ before s taken. IsUtf8-found (λ (r : Sem). r.name) (slice_get c.semaphores s.0) (λ x there. semaphore-ascii c s.0 x sound there)) [] j.semaphores is.taken in
      let tenant = HaveWhole-value (codes "tenant") (job_tenant c j.tenant) no_members refl (by_bool (λ b. IfSome (cond b None (Some (string (tenant_name c j.tenant)))) IsWhole) (j.tenant.0 == 0) (λ _. tt) (λ _. IsUtf8-found (λ (r : Tenant). r.name) (tenant_of c j.tenant) (λ x there. tenant-ascii c j.tenant x sound there))) tt in (
        grind arith,
        (
          refl,
          IsUtf8-are_ascii (end_as_word j.end) (grind arith),
          (refl, labels, (refl, IsUtf8-name j.name is.name.named, (refl, IsUtf8-are_ascii (priority_word j.priority) (grind arith), (refl, omega arith, (refl, tt, (refl, semaphores, tenant)))))),
        ),
      )

  IsWhole-requester_data : (e : List Requester) (k : ℕ) (q : Requester) → IsRequester e q → IsWhole (requester_data c k q)
  IsWhole-requester_data e k q is =
      let most = is.window in
      let jobs = AreWhole-filter (StandsByOwner (λ (i : Job). i.requester.0) (IsJob (length c.labels) (length c.semaphores) (length c.tenants))) (job_data c) (λ (j : Job). j.requester.0 == k) IsWhole-job_data [] c.jobs sound.demand.each_job in
      (refl, (refl, jobs, (refl, IsUtf8-name q.name is.name.named, (refl, omega arith, tt))))

  IsWhole-fault_data : (e : List Fault) (f : Fault) → IsFault (length c.pools) (length c.requesters) f → IsWhole (fault_data c f)
  IsWhole-fault_data e f is =
      let most = is.after in
      (refl, (refl, omega arith, (refl, IsUtf8-are_ascii (fault_kind_word f.kind) (grind arith), (refl, IsUtf8-role_name f.role, (refl, IsUtf8-are_ascii (role_word f.role) (grind arith), tt)))))

  pub IsWhole-configuration_data : IsWhole (configuration_data c)
  IsWhole-configuration_data =
      let most = sound.max_hold_age in
      let each = EachAfter-from_all (IsFault (length c.pools) (length c.requesters)) [] c.faults sound.faults in
      let faults = AreWhole-list (λ (before : List Fault) (f : Fault). IsFault (length c.pools) (length c.requesters) f) (fault_data c) IsWhole-fault_data [] c.faults each in
      let labels = AreWhole-list IsLabel label_data IsWhole-label_data [] c.labels sound.labels in
      let providers = AreWhole-placed IsProvider (provider_data c) IsWhole-provider_data 0 [] c.providers sound.supply.each_provider in
      let requesters = AreWhole-placed IsRequester (requester_data c) IsWhole-requester_data 0 [] c.requesters sound.demand.each_requester in
      let semaphores = AreWhole-list IsSem semaphore_data IsWhole-semaphore_data [] c.semaphores sound.semaphores in
      let tenants = HaveWhole-value (codes "tenants") (list_if_any tenant_data c.tenants) no_members refl (by_bool (λ b. IfSome (cond b None (Some (list_data tenant_data c.tenants))) IsWhole) (length c.tenants == 0) (λ _. tt) (λ _. AreWhole-list IsTenant tenant_data IsWhole-tenant_data [] c.tenants sound.tenants)) tt in
      (grind arith, (refl, faults, (refl, labels, (refl, omega arith, (refl, providers, (refl, requesters, (refl, semaphores, tenants)))))))

-- # the text of a sound configuration is read as that configuration

pub reads-canonical : (c : Configuration) → IsSound c → reads (canonical c) ≡ Ok c
unfolding canonical
reads-canonical c sound =
    let d = configuration_data c in
    let whole = IsWhole-configuration_data c sound in
    reads-again c (canonical c) sound (IsUtf8-compact_text d whole) (read-compact_text d whole (configuration-depth c))

-- # a Text determines the configuration and the journal of its run

-- ## lines and sections

lines-injective : (ls ms : List (List ℕ)) → list_all is_line ls ≡ true → list_all is_line ms ≡ true → flat_map line ls ≡ flat_map line ms → ls ≡ ms
lines-injective ls ms front back same =
    sym (append-nil ls) ∙ sym (lines_of-lines ls [] front) ∙ ap (λ (t : List ℕ). lines_of (t ++ [])) same ∙ lines_of-lines ms [] back ∙ append-nil ms

sections-injective : (ls ms : List (List ℕ)) (x y : List ℕ) → list_all is_line ls ≡ true → has_bar ls ≡ false → list_all is_line ms ≡ true → has_bar ms ≡ false →
    flat_map line ls ++ line bar ++ x ≡ flat_map line ms ++ line bar ++ y → (flat_map line ls ≡ flat_map line ms) × (x ≡ y)
sections-injective ls ms x y lines_ls bar_ls lines_ms bar_ms same =
    let both : Some (flat_map line ls, x) ≡ Some (flat_map line ms, y) = sym (sections_of-bar ls x lines_ls bar_ls) ∙ ap sections_of same ∙ sections_of-bar ms y lines_ms bar_ms in
    (ap (λ (o : Option (List ℕ × List ℕ)). option_map_or (λ parts. parts.0) o []) both, ap (λ (o : Option (List ℕ × List ℕ)). option_map_or (λ parts. parts.1) o []) both)

-- ## entries

entry_lines-map : (journal : List Entry) → entry_lines journal ≡ flat_map line (map entry_line journal)
entry_lines-map [] = refl
entry_lines-map (e ∷ journal) = rw (entry_lines-map journal) refl

entries-are_lines : (journal : List Entry) → AllByRecursion HasEntryLine journal → list_all is_line (map entry_line journal) ≡ true
entries-are_lines [] all = refl
entries-are_lines (e ∷ journal) all = rw (is_line-entry e all.0) (entries-are_lines journal all.1)

entries-no_bar : (journal : List Entry) → AllByRecursion HasEntryLine journal → has_bar (map entry_line journal) ≡ false
entries-no_bar [] all = refl
entries-no_bar (e ∷ journal) all = rw (entry_line-no_bar e all.0) (entries-no_bar journal all.1)

-- the machine's replies come from the events alone, and these from the lines
replayed-by_lines : (c : Configuration) (s : State) (j k : List Entry) → AllByRecursion HasEntryLine j → AllByRecursion HasEntryLine k → map entry_line j ≡ map entry_line k → replayed c s j ≡ replayed c s k
replayed-by_lines c s [] [] front back same = refl
replayed-by_lines c s [] (b ∷ k) front back same = absurd cc
replayed-by_lines c s (a ∷ j) [] front back same = absurd cc
replayed-by_lines c s (a ∷ j) (b ∷ k) front back same =
    let head : entry_line a ≡ entry_line b = cc in
    let tail : map entry_line j ≡ map entry_line k = cc in
    let event : a.event ≡ b.event = ap (λ (e : Entry). e.event) (entry_line-injective a b front.0 back.0 head) in
    rw (event, replayed-by_lines c (next c s b.event) j k front.1 back.1 tail) refl

-- ## the whole Text

pub is_line-canonical : (c : Configuration) → is_line (canonical c) ≡ true
unfolding canonical
is_line-canonical c = is_line-compact_text (configuration_data c)

canonical-no_bar : (c : Configuration) → bytes_eq (canonical c) bar ≡ false
unfolding canonical
canonical-no_bar c = refl

text_of-sections : (c : Configuration) (journal : List Entry) →
    text_of c journal ≡ flat_map line (canonical c ∷ []) ++ line bar ++ (flat_map line (map entry_line journal) ++ line bar ++ fate_lines c 0 c.jobs (fates (after c journal)))
unfolding text_of
text_of-sections c journal = rw (entry_lines-map journal) (simp (append_assoc, append-nil))

-- two runs with the same Text are the same
pub text_of-injective : (c d : Configuration) (j k : List Entry) (s t : State) → IsSound c → IsSound d → Runs c j s → Runs d k t →
    AllByRecursion HasEntryLine j → AllByRecursion HasEntryLine k → text_of c j ≡ text_of d k → (c ≡ d) × (j ≡ k)
text_of-injective c d j k s t sound_c sound_d runs_c runs_d lines_j lines_k same =
    let outer = sections-injective (canonical c ∷ []) (canonical d ∷ []) _ _ (rw (is_line-canonical c) refl) (rw (canonical-no_bar c) refl) (rw (is_line-canonical d) refl) (rw (canonical-no_bar d) refl)
    (sym (text_of-sections c j) ∙ same ∙ text_of-sections d k) in
    let inner = sections-injective (map entry_line j) (map entry_line k) _ _ (entries-are_lines j lines_j) (entries-no_bar j lines_j) (entries-are_lines k lines_k) (entries-no_bar k lines_k) outer.1 in
    let texts : canonical c ∷ [] ≡ canonical d ∷ [] = lines-injective (canonical c ∷ []) (canonical d ∷ []) (rw (is_line-canonical c) refl) (rw (is_line-canonical d) refl) outer.0 in
    let text : canonical c ≡ canonical d = cc in
    let read : Ok c ≡ Ok d = sym (reads-canonical c sound_c) ∙ ap reads text ∙ reads-canonical d sound_d in
    let site : c ≡ d = cc in
    let lines = lines-injective (map entry_line j) (map entry_line k) (entries-are_lines j lines_j) (entries-are_lines k lines_k) inner.0 in
    (site, sym runs_c.replies ∙ replayed-by_lines c (start c) j k lines_j lines_k lines ∙ ap (λ (x : Configuration). replayed x (start x) k) site ∙ runs_d.replies)
