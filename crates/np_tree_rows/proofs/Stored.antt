-- the bytes of the records of a stored state, and how many there are of each kind
use Rattle.np_tree_rows.proofs.Prelude.{AllByRecursion, AllDigits, BadRecord, Bool, Configuration, Err, IfSome, IsGood, IsJob, IsNumeral, IsRole, IsSession, IsSessionRole, IsStored, JanitorRole, Job, JobId, JobRecord, Jobs, LauncherRole, Launchers, List, None, NonePass, Ok, Option, ParsesUnsigned, Place, PoolId, Poolsim, RequesterId, RequesterRole, Result, Role, RoleRecord, Roles, Row, Session, SessionFacts, SessionId, SessionRecord, Sessions, Some, State, Tick, TreeState, above, all-joined, all-weaker, ap, arith, by_name, bytes_at, cond, decimal, decimal_is_IsNumeral, digits_value, digits_value-zeros, drop, eqb-false, eqb-true, false, find_named, is_in, is_named, is_some, janitor_role_row, job_row, job_text, launcher_role_row, launcher_row, length, length-insert_before, length-map, list_any, list_any-append, list_any-none, map, named-here, named-other, nat_tests, number_of, number_of-decimal, option_map, path_of, persistent, place_name, place_of_role, range_with_len, refl, replicate, requester_role_row, role_in, role_text, row_before, rows_at, rows_from, rows_put, session_of, session_row, session_text, slice_get, subst, suc, sym, ten-le-length, ten_digits_of, true, under, with_row, without_leading_plus, zero, ℕ, [], ◌++◌, ◌+◌, ◌-◌, ◌<◌, ◌==◌, ◌^◌, ◌||◌, ◌∙◌, ◌∷◌, ◌≡◌, ◌≤◌}
use Rattle.np_tree_rows.proofs.Shown.{IsOnly, IsRead, bytes-named, find-only, find-ordered, past-any, past-only, table-any, table-only}

-- # ten digits are read as the number that they spell

all-zeros : (k : ℕ) (digits : List ℕ) → AllDigits 10 digits → AllDigits 10 (replicate k 48 ++ digits)
all-zeros zero digits all = all
all-zeros (suc k) digits all = (omega arith, all-zeros k digits all)

all-ten : (n : ℕ) → n < 2 ^ 64 → AllDigits 10 (ten_digits_of n)
unfolding ten_digits_of
all-ten n small = all-zeros (10 - length (decimal n)) (decimal n) (decimal_is_IsNumeral n small).0.1

value-ten : (n : ℕ) → n < 2 ^ 64 → digits_value 10 (ten_digits_of n) ≡ n
unfolding ten_digits_of
value-ten n small = digits_value-zeros (10 - length (decimal n)) (decimal n) ∙ (decimal_is_IsNumeral n small).1

-- no digit is a plus
plus-none : (digits : List ℕ) → AllDigits 10 digits → without_leading_plus digits ≡ digits
plus-none [] all = refl
plus-none (c ∷ digits) all = let digit = all.0 in grind (arith, nat_tests)

-- what is parsed is the number
pub ten-parsed : {E : Type 0} (n : ℕ) (r : Result ℕ E) → n < 2 ^ 32 → ParsesUnsigned 32 10 (ten_digits_of n) r → r ≡ Ok n
ten-parsed n (Ok x) small parses =
    ap Ok (parses.1 ∙ ap (digits_value 10) (plus-none (ten_digits_of n) (all-ten n (omega arith))) ∙ value-ten n (omega arith))
ten-parsed n (Err e) small parses =
    let Is : List ℕ → Type 0 = λ digits. IsNumeral 10 digits × (digits_value 10 digits < 2 ^ 32) in
    let long = ten-le-length n in
    let all = all-ten n (omega arith) in
    let few : digits_value 10 (ten_digits_of n) < 2 ^ 32 = subst (λ (v : ℕ). v < 2 ^ 32) (sym (value-ten n (omega arith))) small in
    absurd (parses (subst Is (sym (plus-none (ten_digits_of n) all)) ((omega arith, all), few)))

-- and what is read from a text of ten digits
pub ten-read : (text : List ℕ) (n x : ℕ) → n < 2 ^ 32 → text ≡ ten_digits_of n → ParsesUnsigned {E = Unit {0}} 32 10 text (Ok x) → Some x ≡ Some n
ten-read text n x small is parses =
    let P : List ℕ → Type 0 = λ digits. ParsesUnsigned {E = Unit {0}} 32 10 digits (Ok x) in
    let same = ten-parsed {E = Unit {0}} n (Ok x) small (subst P is parses) in
    let number : x ≡ n = cc in
    ap Some number

-- # the bytes of the records of a stored state, and how many there are of each kind

-- ## how many rows

-- a list has as many rows as members
pub length-rows_from : {A : Type 0} (row : ℕ → A → Row) (list : List A) (at : ℕ) → length (rows_from row at list) ≡ length list
length-rows_from row [] at = refl
length-rows_from row (a ∷ list) at = ap suc (length-rows_from row list (at + 1))

length-put : (rows sorted : List Row) → length (rows_put sorted rows) ≡ length sorted + length rows
length-put [] sorted = omega arith
length-put (row ∷ rows) sorted =
    let more : length (with_row row sorted) ≡ suc (length sorted) = length-insert_before (λ other. row_before row other) row sorted in
    let rest = length-put rows (with_row row sorted) in
    omega arith

-- the order of rows does not change how many there are
pub length-by_name : (rows : List Row) → length (by_name rows) ≡ length rows
length-by_name rows = let all = length-put rows [] in omega arith

module _ (c : Configuration) (s : State) (t : TreeState) (stored : IsStored c s t) where
  -- the rows of each directory are as many as the members of its table
  pub jobs-counted : length (rows_at t (path_of Jobs)) ≡ length s.jobs
  jobs-counted = ap length stored.lays.jobs.rows ∙ length-by_name (rows_from job_row 0 s.jobs) ∙ length-rows_from job_row s.jobs 0

  -- so are those of sessions
  pub sessions-counted : length (rows_at t (path_of Sessions)) ≡ length s.sessions
  sessions-counted = ap length stored.lays.sessions.rows ∙ length-rows_from session_row s.sessions 1

  -- and those of registrations
  pub registrations-counted : length (rows_at t (path_of Launchers)) ≡ length s.registrations
  registrations-counted = ap length stored.lays.launchers ∙ length-by_name (map launcher_row s.registrations) ∙ length-map s.registrations launcher_row

  -- ## the tick

  tick-bytes : bytes_at t (path_of Tick) ≡ Some (decimal s.tick)
  tick-bytes = bytes-named t Tick Poolsim stored.whole tt refl ∙ ap (option_map (λ (row : Row). row.bytes)) (ap (find_named (place_name Tick)) stored.lays.frame.poolsim)

  -- the bytes of the tick spell it
  pub tick-reads : (bytes : List ℕ) → Some bytes ≡ bytes_at t (path_of Tick) → number_of 4_294_967_295 bytes ≡ Some s.tick
  tick-reads bytes is =
      let same : bytes ≡ decimal s.tick = let told : Some bytes ≡ Some (decimal s.tick) = is ∙ tick-bytes in cc in
      let few = stored.carried.tick in
      ap (number_of 4_294_967_295) same ∙ number_of-decimal 4_294_967_295 s.tick (omega arith) (omega arith)

  -- and they are there
  pub tick-there : None ≡ bytes_at t (path_of Tick) → ⊥
  tick-there is = absurd (let told : None ≡ Some (decimal s.tick) = is ∙ tick-bytes in cc)

-- ## the bytes of a record

map-bytes : {A : Type 0} (row : A → Row) (text : A → List ℕ) → ((a : A) → (row a).bytes ≡ text a) → (o : Option A) → option_map (λ (r : Row). r.bytes) (option_map row o) ≡ option_map text o
map-bytes row text same None = refl
map-bytes row text same (Some a) = ap Some (same a)

-- what is true of each member is true of the one at a place
pub get-if : {A : Type 0} (P : A → Type 0) (list : List A) (at : ℕ) → AllByRecursion P list → IfSome (slice_get list at) P
get-if P [] at all = tt
get-if P (a ∷ list) zero all = all.0
get-if P (a ∷ list) (suc at) all = get-if P list at all.1

module _ {A : Type 0} (Is : A → Type 0) (text : A → List ℕ) where
  -- there are no bytes only if there is no record
  pub text-none : (o : Option A) → None ≡ option_map text o → None ≡ o
  text-none o is = grind arith

  -- and the bytes that are there are read as the record
  pub text-some : (o : Option A) (bytes : List ℕ) (r : Result A BadRecord) → IfSome o Is → Some bytes ≡ option_map text o → ((v : A) → Is v × (bytes ≡ text v) → r ≡ Ok v) → IsRead o r
  text-some None bytes r sound is all = absurd cc
  text-some (Some a) bytes r sound is all =
      let same : bytes ≡ text a = cc in
      record { kept = a; there = refl; reads = all a (sound, same) }

-- ## one member of a table

-- none of the rows of a list has a name
none-from : {A : Type 0} (row : ℕ → A → Row) (name : List ℕ) (limit : ℕ) → ((n : ℕ) (a : A) → n < limit → is_named name (row n a) ≡ false) → (list : List A) (at : ℕ) → at + length list ≤ limit → NonePass (is_named name) (rows_from row at list)
none-from row name limit others [] at within = tt
none-from row name limit others (a ∷ list) at within = (others at a (omega arith), none-from row name limit others list (at + 1) (omega arith))

none-only : (name : List ℕ) (o : Option Row) (rows : List Row) → NonePass (is_named name) rows → IsOnly name o rows
none-only name o rows none = all-weaker (λ row. is_named name row ≡ false) (λ row. is_named name row ≡ true → Some row ≡ o) (λ row no is. absurd cc) rows none

abbrev job_at : ℕ → Place
job_at n = Job (record { 0 = n })

abbrev session_at : ℕ → Place
session_at n = Session (record { 0 = n })

abbrev launcher_at : ℕ → Place
launcher_at n = LauncherRole (record { 0 = n })

abbrev janitor_at : ℕ → Place
janitor_at n = JanitorRole (record { 0 = n })

abbrev requester_at : ℕ → Place
requester_at n = RequesterRole (record { 0 = n })

-- the number of a place
abbrev number_in : Place → ℕ
number_in (Job j) = j.0
number_in (Session k) = k.0
number_in (LauncherRole p) = p.0
number_in (JanitorRole p) = p.0
number_in (RequesterRole q) = q.0
number_in other = 0

-- what is in the record of a session
abbrev pub kept_of : SessionFacts → SessionRecord
kept_of facts = record { mute = facts.mute; role = facts.role }

session-row : (k : ℕ) (o : Option SessionFacts) → option_map (λ (r : Row). r.bytes) (option_map (session_row k) o) ≡ option_map session_text (option_map kept_of o)
session-row k o = grind arith

-- a flag for each session is that of its number
flag-at : (f : ℕ → Bool) (sessions : List SessionFacts) (from at : ℕ) (facts : SessionFacts) → map f (range_with_len from (length sessions)) ≡ map (λ (x : SessionFacts). x.live) sessions → slice_get sessions at ≡ Some facts → f (from + at) ≡ facts.live
flag-at f [] from at facts each there = absurd cc
flag-at f (x ∷ sessions) from zero facts each there = grind arith
flag-at f (x ∷ sessions) from (suc at) facts each there = grind (arith, flag-at f sessions (from + 1) at facts)

known-by : (k : SessionId) (kept : SessionRecord) (live : Bool) (o : Option SessionFacts) → Some kept ≡ option_map kept_of o → IfSome o (λ facts. live ≡ facts.live) → Some (record { role = kept.role; live = live; mute = kept.mute }) ≡ o
known-by k kept live o is flag = grind arith

-- no record is no session
pub session-none : (o : Option SessionFacts) → None ≡ option_map kept_of o → None ≡ o
session-none o is = grind arith

sound-by : (o : Option SessionFacts) → IfSome o (λ facts. IsSessionRole facts.role) → IfSome (option_map kept_of o) IsSession
sound-by None sound = tt
sound-by (Some facts) sound = sound

if-cond : {A : Type 0} (P : A → Type 0) (b : Bool) (o : Option A) → (b ≡ false → IfSome o P) → IfSome (cond b None o) P
if-cond P true o is = tt
if-cond P false o is = is refl

-- ## three tables in one directory

-- whether rows have one of a name, which can only be this one
record HasOnly (name : List ℕ) (o : Option Row) (has : Bool) (rows : List Row) : Type 0 where
  only : IsOnly name o rows
  any : list_any (is_named name) rows ≡ has

find-three : (name : List ℕ) (o : Option Row) (x y z : Bool) (first second third : List Row) → HasOnly name o x first → HasOnly name o y second → HasOnly name o z third → ((x || y) || z) ≡ is_some o → find_named name (by_name (first ++ second ++ third)) ≡ o
find-three name o x y z first second third a b c any =
    find-ordered name (first ++ second ++ third) o
    (all-joined (λ (row : Row). is_named name row ≡ true → Some row ≡ o) (first ++ second) third (all-joined (λ (row : Row). is_named name row ≡ true → Some row ≡ o) first second a.only b.only) c.only)
    (rw (list_any-append (is_named name) (first ++ second) third, list_any-append (is_named name) first second, a.any, b.any, c.any) any)

or-nothing : (x : Bool) → (x || false) ≡ x
or-nothing x = grind arith

module _ (p : Place) (good : IsGood p) (over : above p ≡ Some Roles) (place : ℕ → Place) (list : List RoleRecord) (goods : (n : ℕ) → n < length list → IsGood (place n)) (overs : (n : ℕ) → above (place n) ≡ Some Roles) where
  abbrev role_row : ℕ → RoleRecord → Row
  role_row n kept = persistent (place n) (role_text kept)

  -- none of them has the name of a place that is none of theirs
  has-none : (o : Option Row) → ((n : ℕ) → place n ≡ p → ⊥) → HasOnly (place_name p) o false (rows_from role_row 0 list)
  has-none o apart =
      let none = none-from role_row (place_name p) (length list) (λ n kept low. named-other p (place n) good (goods n low) (overs n ∙ sym over) (apart n)) list 0 (omega arith) in
      record { only = none-only (place_name p) o (rows_from role_row 0 list) none; any = list_any-none (is_named (place_name p)) (rows_from role_row 0 list) none }

  -- the one at a number has the name of its place
  has-own : (k : ℕ) → ((n : ℕ) → place n ≡ p → n ≡ k) → p ≡ place k → HasOnly (place_name p) (option_map (role_row k) (slice_get list k)) (is_some (option_map (role_row k) (slice_get list k))) (rows_from role_row 0 list)
  has-own k apart is =
      let others : (n : ℕ) (kept : RoleRecord) → n < length list → (n ≡ k → ⊥) → is_named (place_name p) (role_row n kept) ≡ false = λ n kept low other. named-other p (place n) good (goods n low) (overs n ∙ sym over) (λ equal. other (apart n equal)) in
      let here : (kept : RoleRecord) → is_named (place_name p) (role_row k kept) ≡ true = λ kept. subst (λ (q : Place). is_named (place_name p) (persistent q (role_text kept)) ≡ true) is (named-here p) in
      record { only = table-only role_row (place_name p) k (length list) others here list 0 k (omega arith) (omega arith); any = table-any role_row (place_name p) k (length list) others here list 0 k (omega arith) (omega arith) }

module _ (c : Configuration) (s : State) (t : TreeState) (stored : IsStored c s t) where
  -- ## jobs

  job-others : (j : JobId) → IsGood (Job j) → (n : ℕ) (kept : JobRecord) → n < length s.jobs → (n ≡ j.0 → ⊥) → is_named (place_name (Job j)) (job_row n kept) ≡ false
  job-others j good n kept low apart = named-other (Job j) (job_at n) good (let few = stored.carried.good.jobs in omega arith) refl (λ equal. apart (ap number_in equal))

  -- a job's bytes are the text of its record
  pub job-bytes : (j : JobId) → IsGood (Job j) → bytes_at t (path_of (Job j)) ≡ option_map job_text (slice_get s.jobs j.0)
  job-bytes j good =
      bytes-named t (Job j) Jobs stored.whole good refl
      ∙ ap (option_map (λ (row : Row). row.bytes)) (ap (find_named (place_name (Job j))) stored.lays.jobs.rows
      ∙ find-ordered (place_name (Job j)) (rows_from job_row 0 s.jobs) (option_map (job_row j.0) (slice_get s.jobs j.0))
      (table-only job_row (place_name (Job j)) j.0 (length s.jobs) (job-others j good) (λ kept. named-here (Job j)) s.jobs 0 j.0 (omega arith) (omega arith))
      (table-any job_row (place_name (Job j)) j.0 (length s.jobs) (job-others j good) (λ kept. named-here (Job j)) s.jobs 0 j.0 (omega arith) (omega arith)))
      ∙ map-bytes (job_row j.0) job_text (λ kept. refl) (slice_get s.jobs j.0)

  -- and the record has a spelling
  pub job-sound : (j : JobId) → IfSome (slice_get s.jobs j.0) IsJob
  job-sound j = get-if IsJob s.jobs j.0 stored.carried.spelled.jobs

  -- ## sessions

  session-others : (k : SessionId) → IsGood (Session k) → (n : ℕ) (facts : SessionFacts) → n < 1 + length s.sessions → (n ≡ k.0 → ⊥) → is_named (place_name (Session k)) (session_row n facts) ≡ false
  session-others k good n facts low apart = named-other (Session k) (session_at n) good (let few = stored.carried.good.sessions in omega arith) refl (λ equal. apart (ap number_in equal))

  session-find : (k : SessionId) → IsGood (Session k) → (b : Bool) → (k.0 == 0) ≡ b → find_named (place_name (Session k)) (rows_from session_row 1 s.sessions) ≡ option_map (session_row k.0) (cond b None (slice_get s.sessions (k.0 - 1)))
  session-find k good true is =
      let zero_is = eqb-true k.0 0 is in
      find-only (place_name (Session k)) (rows_from session_row 1 s.sessions) None
      (past-only session_row (place_name (Session k)) k.0 (1 + length s.sessions) (session-others k good) (λ facts. named-here (Session k)) s.sessions 1 None (omega arith) (omega arith))
      (past-any session_row (place_name (Session k)) k.0 (1 + length s.sessions) (session-others k good) (λ facts. named-here (Session k)) s.sessions 1 (omega arith) (omega arith))
  session-find k good false is =
      let not_zero = eqb-false k.0 0 is in
      find-only (place_name (Session k)) (rows_from session_row 1 s.sessions) (option_map (session_row k.0) (slice_get s.sessions (k.0 - 1)))
      (table-only session_row (place_name (Session k)) k.0 (1 + length s.sessions) (session-others k good) (λ facts. named-here (Session k)) s.sessions 1 (k.0 - 1) (omega arith) (omega arith))
      (table-any session_row (place_name (Session k)) k.0 (1 + length s.sessions) (session-others k good) (λ facts. named-here (Session k)) s.sessions 1 (k.0 - 1) (omega arith) (omega arith))

  -- a session's bytes are the text of its record
  pub session-bytes : (k : SessionId) → IsGood (Session k) → bytes_at t (path_of (Session k)) ≡ option_map session_text (option_map kept_of (session_of k s))
  session-bytes k good =
      bytes-named t (Session k) Sessions stored.whole good refl
      ∙ ap (option_map (λ (row : Row). row.bytes)) (ap (find_named (place_name (Session k))) stored.lays.sessions.rows ∙ session-find k good (k.0 == 0) refl)
      ∙ session-row k.0 (session_of k s)

  -- and the record has a spelling
  pub session-sound : (k : SessionId) → IfSome (option_map kept_of (session_of k s)) IsSession
  session-sound k = sound-by (session_of k s) (if-cond (λ facts. IsSessionRole facts.role) (k.0 == 0) (slice_get s.sessions (k.0 - 1)) (λ is. get-if (λ (facts : SessionFacts). IsSessionRole facts.role) s.sessions (k.0 - 1) stored.carried.spelled.sessions))

  live-by : (k : SessionId) (o : Option SessionFacts) → slice_get s.sessions (k.0 - 1) ≡ o → (k.0 ≡ 0 → ⊥) → IfSome o (λ facts. is_in t.live (k.0 + 1) ≡ facts.live)
  live-by k None there not_zero = tt
  live-by k (Some facts) there not_zero =
      let number : k.0 + 1 ≡ 2 + (k.0 - 1) = omega arith in
      ap (is_in t.live) number ∙ flag-at (is_in t.live) s.sessions 2 (k.0 - 1) facts stored.lays.live.each there

  session-live : (k : SessionId) → IfSome (session_of k s) (λ facts. is_in t.live (k.0 + 1) ≡ facts.live)
  session-live k = if-cond (λ facts. is_in t.live (k.0 + 1) ≡ facts.live) (k.0 == 0) (slice_get s.sessions (k.0 - 1)) (λ is. live-by k (slice_get s.sessions (k.0 - 1)) refl (eqb-false k.0 0 is))

  -- what is in the record, and whether the tree's session is live, is what is known of the session
  pub session-known : (k : SessionId) (kept : SessionRecord) → Some kept ≡ option_map kept_of (session_of k s) → Some (record { role = kept.role; live = is_in t.live (k.0 + 1); mute = kept.mute }) ≡ session_of k s
  session-known k kept is = known-by k kept (is_in t.live (k.0 + 1)) (session_of k s) is (session-live k)

  -- ## roles

  launchers-good : (n : ℕ) → n < length s.launchers → IsGood (launcher_at n)
  launchers-good n low = let few = stored.carried.good.launchers in omega arith

  janitors-good : (n : ℕ) → n < length s.janitors → IsGood (janitor_at n)
  janitors-good n low = let few = stored.carried.good.janitors in omega arith

  requesters-good : (n : ℕ) → n < length s.requesters → IsGood (requester_at n)
  requesters-good n low = let few = stored.carried.good.requesters in omega arith

  -- the bytes at a place are those of the row of its name among all roles
  role-found : (p : Place) (o : Option RoleRecord) (row : RoleRecord → Row) → ((kept : RoleRecord) → (row kept).bytes ≡ role_text kept) → IsGood p → above p ≡ Some Roles →
      find_named (place_name p) (by_name (rows_from launcher_role_row 0 s.launchers ++ rows_from janitor_role_row 0 s.janitors ++ rows_from requester_role_row 0 s.requesters)) ≡ option_map row o →
      bytes_at t (path_of p) ≡ option_map role_text o
  role-found p o row same good over found =
      bytes-named t p Roles stored.whole good over
      ∙ ap (option_map (λ (r : Row). r.bytes)) (ap (find_named (place_name p)) stored.lays.roles.rows ∙ found)
      ∙ map-bytes row role_text same o

  -- what is at the place of a role
  abbrev IsShown : Role → Place → Type 0
  IsShown r p = bytes_at t (path_of p) ≡ option_map role_text (role_in r s)

  -- a role's bytes are the text of its record
  pub role-bytes : (r : Role) (p : Place) → Some p ≡ place_of_role r → IsGood p → bytes_at t (path_of p) ≡ option_map role_text (role_in r s)
  role-bytes (Role.Launcher k) p is good =
      let same : p ≡ LauncherRole k = cc in
      let here : IsGood (LauncherRole k) = subst IsGood same good in
      subst (IsShown (Role.Launcher k)) (sym same) (role-found (LauncherRole k) (slice_get s.launchers k.0) (launcher_role_row k.0) (λ kept. refl) here refl
      (find-three (place_name (LauncherRole k)) _ _ _ _ _ _ _
      (has-own (LauncherRole k) here refl launcher_at s.launchers launchers-good (λ n. refl) k.0 (λ n equal. ap number_in equal) refl)
      (has-none (LauncherRole k) here refl janitor_at s.janitors janitors-good (λ n. refl) _ (λ n same. cc))
      (has-none (LauncherRole k) here refl requester_at s.requesters requesters-good (λ n. refl) _ (λ n same. cc))
      (or-nothing _ ∙ or-nothing _)))
  role-bytes (Role.Janitor k) p is good =
      let same : p ≡ JanitorRole k = cc in
      let here : IsGood (JanitorRole k) = subst IsGood same good in
      subst (IsShown (Role.Janitor k)) (sym same) (role-found (JanitorRole k) (slice_get s.janitors k.0) (janitor_role_row k.0) (λ kept. refl) here refl
      (find-three (place_name (JanitorRole k)) _ _ _ _ _ _ _
      (has-none (JanitorRole k) here refl launcher_at s.launchers launchers-good (λ n. refl) _ (λ n same. cc))
      (has-own (JanitorRole k) here refl janitor_at s.janitors janitors-good (λ n. refl) k.0 (λ n equal. ap number_in equal) refl)
      (has-none (JanitorRole k) here refl requester_at s.requesters requesters-good (λ n. refl) _ (λ n same. cc))
      (or-nothing _)))
  role-bytes (Role.Requester k) p is good =
      let same : p ≡ RequesterRole k = cc in
      let here : IsGood (RequesterRole k) = subst IsGood same good in
      subst (IsShown (Role.Requester k)) (sym same) (role-found (RequesterRole k) (slice_get s.requesters k.0) (requester_role_row k.0) (λ kept. refl) here refl
      (find-three (place_name (RequesterRole k)) _ _ _ _ _ _ _
      (has-none (RequesterRole k) here refl launcher_at s.launchers launchers-good (λ n. refl) _ (λ n same. cc))
      (has-none (RequesterRole k) here refl janitor_at s.janitors janitors-good (λ n. refl) _ (λ n same. cc))
      (has-own (RequesterRole k) here refl requester_at s.requesters requesters-good (λ n. refl) k.0 (λ n equal. ap number_in equal) refl)
      refl))
  role-bytes Role.Reaper p is good = absurd cc

  -- and the record has a spelling
  pub role-sound : (r : Role) → IfSome (role_in r s) IsRole
  role-sound (Role.Launcher pool) = get-if IsRole s.launchers pool.0 stored.carried.spelled.launchers
  role-sound (Role.Janitor pool) = get-if IsRole s.janitors pool.0 stored.carried.spelled.janitors
  role-sound (Role.Requester q) = get-if IsRole s.requesters q.0 stored.carried.spelled.requesters
  role-sound Role.Reaper = tt
