-- the tables that are read back from the rows of a tree are those that it lays out
use Rattle.np_layout.proofs.Prelude.{AllByRecursion, AreHolders, AreJobs, AreLaunchers, AreRoles, AreSemaphores, AreSwept, Bool, Handle, HasHandles, HasText, IsFrame, IsGood, IsJob, IsRequest, IsRole, IsSession, IsWhole, JanitorRole, Job, JobId, JobRecord, Jobs, Launcher, LauncherRole, List, NodeId, NodeRecord, None, NonePass, Ok, Option, Place, Poolsim, Registration, RequestId, RequestRecord, RequesterRole, Rises, RoleRecord, Roles, Row, Seen, SemId, Semaphore, SessionRecord, Some, SpellsNode, Swept, SweptPlace, Tick, TreeState, [], above, all-at, all-find, all-mapped, all-weaker, answer, ap, append_assoc, arith, at_path, by_name, bytes_eq, bytes_eq-is, codes, cond, cons_option, decimal, drop, drop_at, eqb-false, equal-itself, false, filter_map, find, find-none, find-passes, find_named, handle_at, handle_row, handles_of, is_named, is_pair_before, janitor_role_row, job_all, job_at, job_in, job_row, job_text, launcher_role_row, launcher_row, length, length-append, length-ten, list_any, list_any-none, map, max_u32, max_u64, nat_lt, nat_tests, new_job, no_deeds, node_all, node_named, none-find, none-list_any, number_of, number_of-decimal, option_map, owner_of, pair_named, path_of, persistent, place_name, range_with_len, refl, registration_at, request_all, request_named, request_of-text, request_record_in, request_record_text, request_text_of, requester_role_row, role_all, role_at, role_in, role_text, rows_from, seen_in, seen_of, sequence_of-ten_digits_of, session_all, session_in, session_text, slice_get, slice_get_within, some_injective, suc, swept_at, swept_row, sym, take, take_at, ten_digits_of, text_at, tick_at, true, under, unwrap_or, zero, ℕ, ◌++◌, ◌+◌, ◌-◌, ◌<◌, ◌==◌, ◌^◌, ◌∙◌, ◌∷◌, ◌≡◌, ◌≤◌}
use Rattle.np_spelling.specs.Reading.{node_in}
use Rattle.np_layout.specs.Prelude.{Node}
use Rattle.np_layout.proofs.Names.{same_names}
use Rattle.np_lists.proofs.Plain.{by_bool}
use Rattle.np_layout.proofs.Rows.{all-both, all-put, any-by_name, any-found, any-mapped, at-range, found-any, put_all, put_all-rows, put_all-rises}
use Rattle.np_layout.proofs.Deletes.{all-pair, named-as}
use Rattle.np_layout.proofs.Steps.{seen-named}
use Rattle.np_layout.proofs.Sets.{IsTable, any-first, any-last, janitor-table, janitor_place, job-table, job_place, launcher-table, launcher_place, place_number, requester-table, requester_place, table-any}

-- # lists that are read back from a range of numbers

-- what has an inverse on a list's members gives the list back
pub map-back : {X Y : Type 0} (f : X → Y) (g : Y → X) (list : List X) → AllByRecursion (λ x. g (f x) ≡ x) list → map g (map f list) ≡ list
map-back f g [] back = refl
map-back f g (x ∷ list) back = λ i. back.0 i ∷ map-back f g list back.1 i

-- what gives the member of each place gives the list
pub map-places : {A : Type 0} (f : ℕ → A) (list : List A) (at : ℕ) → ((k n : ℕ) (a : A) → at + k ≡ n → slice_get list k ≡ Some a → f n ≡ a) → map f (range_with_len at (length list)) ≡ list
map-places f [] at each = refl
map-places f (a ∷ list) at each = λ i. each zero at a (omega arith) refl i ∷ map-places f list (at + 1) (λ k n b same there. each (suc k) n b (omega arith) there) i

-- ## members in the order of their numbers

module _ {X : Type 0} (key : X → ℕ) where
  -- the member with the lower number is before the other
  abbrev pub key_before : X → X → Bool
  key_before a b = nat_lt (key a) (key b)

  -- among members in order the one that is found by its number is the only one
  pub only-found : (n : ℕ) (xs : List X) (x : X) → Rises key_before xs → find (λ y. key y == n) xs ≡ Some x → AllByRecursion (λ y. (key y == n) ≡ true → y ≡ x) xs
  only-found n [] x rises found = tt
  only-found n (y ∷ ys) x rises found =
      by_bool (λ (b : Bool). cond b (Some y) (find (λ z. key z == n) ys) ≡ Some x → AllByRecursion (λ z. (key z == n) ≡ true → z ≡ x) (y ∷ ys)) (key y == n)
      (λ is here. ((λ same. cc), all-weaker (λ z. key_before y z ≡ true) (λ z. (key z == n) ≡ true → z ≡ x) (λ z before same. absurd (grind (arith, nat_tests))) ys rises.0))
      (λ is later. ((λ same. absurd (let both = sym is ∙ same in cc)), only-found n ys x rises.1 later)) found

  none-later : (n : ℕ) (x : X) (xs : List X) → n ≤ key x → AllByRecursion (λ y. key_before x y ≡ true) xs → NonePass (λ y. key y == n) xs
  none-later n x xs low later =
      all-weaker (λ y. key_before x y ≡ true) (λ y. (key y == n) ≡ false) (λ y before. grind (arith, nat_tests)) xs later

  module _ (f : ℕ → Option X) (limit : ℕ) where
    abbrev IsFound : ℕ → List X → Type 0
    IsFound at xs = (n : ℕ) → at ≤ n → n < limit → f n ≡ find (λ x. key x == n) xs

    -- members in order are those that are found by the numbers of a range in which theirs are
    pub filter_map-range : (xs : List X) (count at : ℕ) → at + count ≡ limit → Rises key_before xs → AllByRecursion (λ x. at ≤ key x) xs → AllByRecursion (λ x. key x < limit) xs → IsFound at xs → filter_map f (range_with_len at count) ≡ xs
    filter_map-range [] zero at same rises low high found = refl
    filter_map-range (x ∷ xs) zero at same rises low high found = absurd (let under = low.0 in let over = high.0 in omega arith)
    filter_map-range [] (suc count) at same rises low high found =
        ap (λ (o : Option X). cons_option o (filter_map f (range_with_len (at + 1) count))) (found at (omega arith) (omega arith))
        ∙ filter_map-range [] count (at + 1) (omega arith) tt tt tt (λ n more within. found n (omega arith) within)
    filter_map-range (x ∷ xs) (suc count) at same rises low high found =
        let least = low.0 in let later = all-weaker (λ y. key_before x y ≡ true) (λ y. at + 1 ≤ key y) (λ y before. grind (arith, nat_tests)) xs rises.0 in
        let rest : List X = filter_map f (range_with_len (at + 1) count) in
        by_bool (λ (b : Bool). f at ≡ cond b (Some x) (find (λ y. key y == at) xs) → cons_option (f at) rest ≡ x ∷ xs) (key x == at)
        (λ is here. ap (λ (o : Option X). cons_option o rest) here ∙ ap (λ (ys : List X). x ∷ ys) (filter_map-range xs count (at + 1) (omega arith) rises.1 later high.1 (λ n more within.
        found n (omega arith) within ∙ ap (λ (b : Bool). cond b (Some x) (find (λ y. key y == n) xs)) (let apart : (key x == n) ≡ false = grind (arith, nat_tests) in apart))))
        (λ is there.
        let apart = eqb-false (key x) at is in
        ap (λ (o : Option X). cons_option o rest) (there ∙ find-none (λ y. key y == at) xs (none-later at x xs low.0 rises.0))
        ∙ filter_map-range (x ∷ xs) count (at + 1) (omega arith) rises (omega (arith, low.0), later) high (λ n more within. found n (omega arith) within)) (found at (omega arith) (omega arith))

-- # what is read from the text of a record or a name is the record or the name's numbers

-- ## records

value-of : {A : Type 0} (text : List ℕ) (read : Option A × List ℕ) (v d : A) → answer (length text) read.0 read.1 ≡ Ok v → unwrap_or read.0 d ≡ v
value-of text read v d is = grind arith

-- a request's record
pub request-read : (r d : RequestRecord) → IsRequest r → unwrap_or (request_record_in (request_record_text r)).0 d ≡ r
request-read r d is = value-of (request_record_text r) (request_record_in (request_record_text r)) r d (request_all (request_record_text r) r (is, refl))

-- a node's record, from either spelling
pub node-read : (n d : NodeRecord) (bytes : List ℕ) → SpellsNode n bytes → unwrap_or (node_in bytes).0 d ≡ n
node-read n d bytes spells = value-of bytes (node_in bytes) n d (node_all bytes n spells)

-- a session's record
pub session-read : (s d : SessionRecord) → IsSession s → unwrap_or (session_in (session_text s)).0 d ≡ s
session-read s d is = value-of (session_text s) (session_in (session_text s)) s d (session_all (session_text s) s (is, refl))

-- ## names

-- a node's name
pub node_named-digits : (n : NodeId) → n.0 < 2 ^ 32 → node_named (ten_digits_of n.0) ≡ n
node_named-digits n small = ap (λ (o : Option ℕ). record { 0 = unwrap_or o 0 }) (sequence_of-ten_digits_of n.0 small)

-- a swept pair's name
pub pair_named-place : (pair : Swept) → IsGood (SweptPlace pair.node pair.server) → pair_named (place_name (SweptPlace pair.node pair.server)) ≡ pair
pair_named-place pair good =
    let n : NodeId = pair.node in
    let small = good.0 in
    let fits = good.1 in
    let node =
    ap (λ (text : List ℕ). node_named (take 10 text)) (append_assoc (ten_digits_of n.0) (codes "-") (decimal pair.server))
    ∙ ap node_named (take_at (ten_digits_of n.0) (codes "-" ++ decimal pair.server) 10 (length-ten n.0 small)) ∙ node_named-digits n small in
    let server =
    ap (λ (text : List ℕ). unwrap_or (number_of max_u64 text) 0) (drop_at (ten_digits_of n.0 ++ codes "-") (decimal pair.server) 11 (length-append (ten_digits_of n.0) (codes "-") ∙ ap (λ (k : ℕ). k + 1) (length-ten n.0 small)))
    ∙ ap (λ (o : Option ℕ). unwrap_or o 0) (number_of-decimal max_u64 pair.server (omega arith) (omega arith)) in
    λ i. record { node = node i; server = server i }

-- # the row of a name among rows in the order of their names, and the bytes at its path

-- ## one name

-- a row that alone has the name is found
pub find-by_name : (name : List ℕ) (rows : List Row) (row : Row) → list_any (is_named name) rows ≡ true → AllByRecursion (λ other. is_named name other ≡ true → other ≡ row) rows → find_named name (by_name rows) ≡ Some row
find-by_name name rows row any only =
    let found = any-found (is_named name) (by_name rows) (any-by_name (is_named name) rows ∙ any) in
    let is = all-find (λ (other : Row). is_named name other ≡ true → other ≡ row) (is_named name) (by_name rows) found.0 (all-put (λ (other : Row). is_named name other ≡ true → other ≡ row) rows [] tt only) found.1 (find-passes (is_named name) (by_name rows) found.0 found.1) in
    found.1 ∙ ap Some is

-- ## the rows of members with numbers

module _ {X : Type 0} (key : X → ℕ) (row : X → Row) (name : List ℕ) (n : ℕ) (xs : List X) (rises : Rises (key_before key) xs) (names : AllByRecursion (λ x. is_named name (row x) ≡ (key x == n)) xs) where
  abbrev is_key : X → Bool
  is_key x = key x == n

  -- the row of a name is that of the member with the name's number, if there is one
  keyed-by : (o : Option X) → find is_key xs ≡ o → find_named name (by_name (map row xs)) ≡ option_map row o
  keyed-by None is =
      find-none (is_named name) (by_name (map row xs)) (none-list_any (is_named name) (by_name (map row xs))
      (any-by_name (is_named name) (map row xs) ∙ any-mapped row (is_named name) is_key xs names ∙ list_any-none is_key xs (none-find is_key xs is)))
  keyed-by (Some x) is =
      find-by_name name (map row xs) (row x) (any-mapped row (is_named name) is_key xs names ∙ found-any is_key x xs is)
      (all-mapped (λ y. (is_named name (row y) ≡ (key y == n)) × ((key y == n) ≡ true → y ≡ x)) (λ (other : Row). is_named name other ≡ true → other ≡ row x) row xs
      (λ y both named. ap row (both.1 (sym both.0 ∙ named)))
      (all-pair (λ y. is_named name (row y) ≡ (key y == n)) (λ y. (key y == n) ≡ true → y ≡ x) xs names (only-found key n xs x rises is)))

-- ## names of places

-- what is true of the row of each member is true of a table's rows
pub all-rows_from : {A : Type 0} (P : Row → Type 0) (row : ℕ → A → Row) (list : List A) (at : ℕ) → ((k n : ℕ) (a : A) → at + k ≡ n → slice_get list k ≡ Some a → P (row n a)) → AllByRecursion P (rows_from row at list)
all-rows_from P row [] at each = tt
all-rows_from P row (a ∷ list) at each = (each zero at a (omega arith) refl, all-rows_from P row list (at + 1) (λ k n b same there. each (suc k) n b (omega arith) there))

-- ## bytes

bytes-seen : (o : Option Node) → unwrap_or (option_map (λ (n : Node). n.bytes) o) [] ≡ unwrap_or (option_map (λ (s : Seen). s.bytes) (option_map seen_of o)) []
bytes-seen o = grind arith

-- the bytes at the path of a good place are those of its row
pub text-at_row : (t : TreeState) (dir p : Place) (row : Row) → IsWhole t.nodes → IsGood p → above p ≡ Some dir → find_named (place_name p) (under dir t) ≡ Some row → text_at p t ≡ row.bytes
text-at_row t dir p row whole good over found =
    bytes-seen (at_path t.nodes (path_of p))
    ∙ ap (λ (o : Option Seen). unwrap_or (option_map (λ (s : Seen). s.bytes) o) []) (seen-named t dir p whole good over ∙ ap (option_map seen_in) found)

-- # registrations and handles are read back

-- the number in the name of a launcher's registration or of a job's handle
abbrev number_in : Place → ℕ
number_in (Launcher p) = p.0
number_in (Handle x j) = j.0
number_in other = 0

-- the name of a place with a number tells the number
numbered-name : (place : ℕ → Place) → ((n : ℕ) → number_in (place n) ≡ n) → ((m n : ℕ) → above (place m) ≡ above (place n)) →
    (m n : ℕ) (b : Bool) → (m == n) ≡ b → IsGood (place m) → IsGood (place n) → bytes_eq (place_name (place m)) (place_name (place n)) ≡ b
numbered-name place numbers siblings m n b same m_good n_good =
    named-as place (λ k l. k == l) (λ k l one. sym (numbers k) ∙ ap number_in one ∙ numbers l) siblings (λ k l same. grind (arith, nat_tests)) equal-itself m n b same n_good m_good

module _ {X : Type 0} (key : X → ℕ) (row : X → Row) (read : ℕ → Row → X) (place : ℕ → Place) (limit : ℕ) (xs : List X)
    (names : (x : X) (n : ℕ) → key x < limit → n < limit → is_named (place_name (place n)) (row x) ≡ (key x == n)) (back : (x : X) (n : ℕ) → key x ≡ n → read n (row x) ≡ x) where
  read-by : (n : ℕ) (o : Option X) → find (λ x. key x == n) xs ≡ o → option_map (read n) (option_map row o) ≡ o
  read-by n None found = refl
  read-by n (Some x) found =
      let passes = find-passes (λ (y : X). key y == n) xs x found in
      let number : key x ≡ n = grind (arith, nat_tests) in
      ap Some (back x n number)

  -- members with numbers in a range are read back from their rows
  numbered-same : Rises (key_before key) xs → AllByRecursion (λ x. key x < limit) xs → filter_map (λ n. option_map (read n) (find_named (place_name (place n)) (by_name (map row xs)))) (range_with_len 0 limit) ≡ xs
  numbered-same rises low =
      let least = all-weaker (λ (x : X). key x < limit) (λ (x : X). 0 ≤ key x) (λ x small. omega arith) xs low in
      filter_map-range key (λ n. option_map (read n) (find_named (place_name (place n)) (by_name (map row xs)))) limit xs limit 0 (omega arith) rises least low
      (λ n from most.
      ap (option_map (read n)) (keyed-by key row (place_name (place n)) n xs rises
      (all-weaker (λ (x : X). key x < limit) (λ (x : X). is_named (place_name (place n)) (row x) ≡ (key x == n)) (λ x small. names x n small most) xs low) (find (λ x. key x == n) xs) refl)
      ∙ read-by n (find (λ x. key x == n) xs) refl)

-- ## registrations

registration-back : (g : Registration) (n : ℕ) → g.pool.0 ≡ n → record { pool = record { 0 = n }; session = owner_of (launcher_row g) } ≡ g
registration-back g n number =
    let session : g.session.0 + 1 - 1 ≡ g.session.0 = omega arith in
    let pool : n ≡ g.pool.0 = sym number in
    λ i. record { pool = record { 0 = pool i }; session = record { 0 = session i } }

-- each pool's registration is its row
pub registrations-same : (t : TreeState) (xs : List Registration) (pools : ℕ) → AreLaunchers xs t → pools ≤ 2 ^ 16 → Rises (λ a b. nat_lt a.pool.0 b.pool.0) xs → AllByRecursion (λ g. g.pool.0 < pools) xs →
    filter_map (registration_at t) (range_with_len 0 pools) ≡ xs
registrations-same t xs pools are few rises low =
    ap (λ (rows : List Row). filter_map (λ n. option_map (λ row. record { pool = record { 0 = n }; session = owner_of row }) (find_named (place_name (Launcher (record { 0 = n }))) rows)) (range_with_len 0 pools)) are
    ∙ numbered-same (λ (g : Registration). g.pool.0) launcher_row (λ n row. record { pool = record { 0 = n }; session = owner_of row }) (λ n. Launcher (record { 0 = n })) pools xs
    (λ g n g_low n_low. numbered-name (λ m. Launcher (record { 0 = m })) (λ m. refl) (λ m k. refl) g.pool.0 n (g.pool.0 == n) refl (omega arith) (omega arith))
    registration-back rises low

-- ## handles

-- the jobs with a handle of one semaphore are its rows
holders-same : (t : TreeState) (x : SemId) (jobs : List JobId) (count : ℕ) → x.0 < 2 ^ 16 → count ≤ 2 ^ 32 → under (Semaphore x) t ≡ by_name (map (handle_row x) jobs) → AreHolders count jobs → filter_map (handle_at x t) (range_with_len 0 count) ≡ jobs
holders-same t x jobs count x_good few rows are =
    ap (λ (list : List Row). filter_map (λ n. option_map (λ row. record { 0 = n }) (find_named (place_name (Handle x (record { 0 = n }))) list)) (range_with_len 0 count)) rows
    ∙ numbered-same (λ (j : JobId). j.0) (handle_row x) (λ n row. record { 0 = n }) (λ n. Handle x (record { 0 = n })) count jobs
    (λ j n j_low n_low. numbered-name (λ m. Handle x (record { 0 = m })) (λ m. refl) (λ m k. refl) j.0 n (j.0 == n) refl (x_good, omega arith) (x_good, omega arith))
    (λ j n same. ap (λ (m : ℕ). record { 0 = m }) (sym same)) are.rise are.exist

-- each semaphore's handles are its rows
pub handles-same : (t : TreeState) (handles : List (List JobId)) (count : ℕ) → AreSemaphores handles t → length handles ≤ 2 ^ 16 → count ≤ 2 ^ 32 → AllByRecursion (AreHolders count) handles →
    map (λ x. filter_map (handle_at (record { 0 = x }) t) (range_with_len 0 count)) (range_with_len 0 (length handles)) ≡ handles
handles-same t handles count are few_handles few all = map-places (λ x. filter_map (handle_at (record { 0 = x }) t) (range_with_len 0 count)) handles 0 each where
  each : (k x : ℕ) (jobs : List JobId) → 0 + k ≡ x → slice_get handles k ≡ Some jobs → filter_map (handle_at (record { 0 = x }) t) (range_with_len 0 count) ≡ jobs
  each k x jobs same there =
      let low = slice_get_within handles k jobs there in
      let at : k ≡ x = omega arith in
      let own : handles_of (record { 0 = x }) handles ≡ jobs = ap (λ (o : Option (List JobId)). unwrap_or o []) (ap (slice_get handles) (sym at) ∙ there) in
      let has = at-range (λ at. HasHandles handles t (record { 0 = at })) (length handles) 0 x (omega arith) (omega arith) are.each in
      holders-same t (record { 0 = x }) jobs count (omega arith) few (has.rows ∙ ap (λ (list : List JobId). by_name (map (handle_row (record { 0 = x })) list)) own) (all-at (AreHolders count) handles k jobs all there)

-- # the tick, the jobs and the roles are read back

-- ## the tick

-- the tick is the number whose decimal its bytes are
pub tick-same : (t : TreeState) (tick : ℕ) → IsWhole t.nodes → IsFrame tick t → tick < 2 ^ 32 → tick_at t ≡ tick
tick-same t tick whole frame small =
    let text = text-at_row t Poolsim Tick (persistent Tick (decimal tick)) whole tt refl (ap (find_named (place_name Tick)) frame.poolsim) in
    ap (λ (bytes : List ℕ). unwrap_or (number_of max_u32 bytes) 0) text
    ∙ ap (λ (o : Option ℕ). unwrap_or o 0) (number_of-decimal max_u32 tick (omega arith) (omega arith))

-- ## the records of one directory

-- the row is that of a good place of the directory, and has the text of what is kept there
pub record IsKept {A : Type 0} (dir : Place) (at : Place → Option A) (text : A → List ℕ) (row : Row) : Type 0 where
  pub place : Place
  pub kept : A
  pub good : IsGood place
  pub over : above place ≡ Some dir
  pub there : at place ≡ Some kept
  pub is : row ≡ persistent place (text kept)

module _ {A : Type 0} (place : ℕ → Place) (number : Place → ℕ) (dir : Place) (list : List A) (is : IsTable place number dir 0 list) (text : A → List ℕ) (at : Place → Option A) (same : (n : ℕ) → at (place n) ≡ slice_get list n) where
  -- the rows of a table are such rows
  pub rows-kept : AllByRecursion (IsKept dir at text) (rows_from (λ n a. persistent (place n) (text a)) 0 list)
  rows-kept = all-rows_from (IsKept dir at text) (λ n a. persistent (place n) (text a)) list 0 (λ k n a sum there.
      let low = slice_get_within list k a there in
      let one : n ≡ k = omega arith in
      record { place = place n; kept = a; good = is.good n (omega arith); over = is.over n; there = same n ∙ ap (slice_get list) one ∙ there; is = refl })

  -- each member is what its text spells, if its row is there among such rows
  pub table-same : (t : TreeState) (all : List Row) (read : List ℕ → A) → IsWhole t.nodes → under dir t ≡ by_name all → ((k : ℕ) (a : A) → slice_get list k ≡ Some a → read (text a) ≡ a) → AllByRecursion (IsKept dir at text) all →
      ((test : Row → Bool) → list_any test (rows_from (λ n a. persistent (place n) (text a)) 0 list) ≡ true → list_any test all ≡ true) → map (λ n. read (text_at (place n) t)) (range_with_len 0 (length list)) ≡ list
  table-same t all read whole rows_are back each_kept within = map-places (λ n. read (text_at (place n) t)) list 0 each where
    only : (k : ℕ) (a : A) → IsGood (place k) → slice_get list k ≡ Some a → AllByRecursion (λ other. is_named (place_name (place k)) other ≡ true → other ≡ persistent (place k) (text a)) all
    only k a good there = all-weaker (IsKept dir at text) (λ (other : Row). is_named (place_name (place k)) other ≡ true → other ≡ persistent (place k) (text a)) (λ other row named.
        let places = same_names row.place (place k) row.good good (row.over ∙ sym (is.over k)) (sym (ap (λ (r : Row). r.name) row.is) ∙ bytes_eq-is other.name (place_name (place k)) named) in
        let members = some_injective row.kept a (sym row.there ∙ ap at places ∙ same k ∙ there) in
        row.is ∙ λ i. persistent (places i) (text (members i))) all each_kept

    each : (k n : ℕ) (a : A) → 0 + k ≡ n → slice_get list k ≡ Some a → read (text_at (place n) t) ≡ a
    each k n a sum there =
        let low = slice_get_within list k a there in
        let one : n ≡ k = omega arith in
        let good : IsGood (place k) = is.good k (omega arith) in
        let found = find-by_name (place_name (place k)) all (persistent (place k) (text a)) (within (is_named (place_name (place k))) (table-any place number dir 0 list is text k k a (omega arith) there)) (only k a good there) in
        let bytes = text-at_row t dir (place k) (persistent (place k) (text a)) whole good (is.over k) (ap (find_named (place_name (place k))) rows_are ∙ found) in
        ap (λ (m : ℕ). read (text_at (place m) t)) one ∙ ap read bytes ∙ back k a there

-- ## jobs

abbrev job_kept : List JobRecord → Place → Option JobRecord
job_kept jobs (Job j) = slice_get jobs j.0
job_kept jobs other = None

-- each job is what its text spells
pub jobs-same : (t : TreeState) (jobs : List JobRecord) → IsWhole t.nodes → AreJobs jobs t → length jobs ≤ 2 ^ 32 → AllByRecursion IsJob jobs → map (job_at t) (range_with_len 0 (length jobs)) ≡ jobs
jobs-same t jobs whole are few spelled =
    table-same job_place place_number Jobs jobs (job-table jobs few) job_text (job_kept jobs) (λ n. refl) t (rows_from job_row 0 jobs) (λ bytes. unwrap_or (job_in bytes).0 new_job) whole are.rows
    (λ k j there. value-of (job_text j) (job_in (job_text j)) j new_job (job_all (job_text j) j (all-at IsJob jobs k j spelled there, refl))) (rows-kept job_place place_number Jobs jobs (job-table jobs few) job_text (job_kept jobs) (λ n. refl)) (λ test any. any)

-- ## roles

module _ (t : TreeState) (launchers janitors requesters : List RoleRecord) (whole : IsWhole t.nodes) (are : AreRoles launchers janitors requesters t) (few : (length launchers ≤ 2 ^ 16) × (length janitors ≤ 2 ^ 16) × (length requesters ≤ 2 ^ 16)) where
  abbrev first : List Row
  first = rows_from launcher_role_row 0 launchers

  abbrev second : List Row
  second = rows_from janitor_role_row 0 janitors

  abbrev third : List Row
  third = rows_from requester_role_row 0 requesters

  abbrev role_kept : Place → Option RoleRecord
  role_kept (LauncherRole p) = slice_get launchers p.0
  role_kept (JanitorRole p) = slice_get janitors p.0
  role_kept (RequesterRole q) = slice_get requesters q.0
  role_kept other = None

  all-kept : AllByRecursion (IsKept Roles role_kept role_text) (first ++ second ++ third)
  all-kept =
      all-both (IsKept Roles role_kept role_text) (first ++ second) third
      (all-both (IsKept Roles role_kept role_text) first second
      (rows-kept launcher_place place_number Roles launchers (launcher-table launchers few.0) role_text role_kept (λ n. refl))
      (rows-kept janitor_place place_number Roles janitors (janitor-table janitors few.1) role_text role_kept (λ n. refl)))
      (rows-kept requester_place place_number Roles requesters (requester-table requesters few.2) role_text role_kept (λ n. refl))

  -- each record of one kind is what its text spells
  kind-same : (place : ℕ → Place) (list : List RoleRecord) → IsTable place place_number Roles 0 list → ((n : ℕ) → role_kept (place n) ≡ slice_get list n) →
      ((test : Row → Bool) → list_any test (rows_from (λ n kept. persistent (place n) (role_text kept)) 0 list) ≡ true → list_any test (first ++ second ++ third) ≡ true) → AllByRecursion IsRole list → map (λ n. role_at (place n) t) (range_with_len 0 (length list)) ≡ list
  kind-same place list is same within spelled =
      table-same place place_number Roles list is role_text role_kept same t (first ++ second ++ third) (λ bytes. unwrap_or (role_in bytes).0 no_deeds) whole are.rows (λ k kept there. value-of (role_text kept) (role_in (role_text kept)) kept no_deeds (role_all (role_text kept) kept (all-at IsRole list k kept spelled there, refl))) all-kept within

  -- each launcher is what its text spells
  pub launchers-same : AllByRecursion IsRole launchers → map (λ pool. role_at (launcher_place pool) t) (range_with_len 0 (length launchers)) ≡ launchers
  launchers-same = kind-same launcher_place launchers (launcher-table launchers few.0) (λ n. refl) (λ test any. any-first test (first ++ second) third (any-first test first second any))

  -- and each janitor
  pub janitors-same : AllByRecursion IsRole janitors → map (λ pool. role_at (janitor_place pool) t) (range_with_len 0 (length janitors)) ≡ janitors
  janitors-same = kind-same janitor_place janitors (janitor-table janitors few.1) (λ n. refl) (λ test any. any-first test (first ++ second) third (any-last test first second any))

  -- and each requester
  pub requesters-same : AllByRecursion IsRole requesters → map (λ requester. role_at (requester_place requester) t) (range_with_len 0 (length requesters)) ≡ requesters
  requesters-same = kind-same requester_place requesters (requester-table requesters few.2) (λ n. refl) (λ test any. any-last test (first ++ second) third any)

-- # the swept pairs are read back

abbrev pair_in : Row → Swept
pair_in row = pair_named row.name

-- each pair is what its name says, in the order of pairs
pub swept-same : (t : TreeState) (swept : List Swept) → AreSwept swept t → Rises is_pair_before swept → AllByRecursion (λ pair. IsGood (SweptPlace pair.node pair.server)) swept → swept_at t ≡ swept
swept-same t swept are rises good =
    ap (λ (rows : List Row). put_all [] (map pair_in rows)) are.rows
    ∙ put_all-rows pair_in (map swept_row swept) []
    ∙ ap (put_all []) (map-back swept_row pair_in swept (all-weaker (λ (pair : Swept). IsGood (SweptPlace pair.node pair.server)) (λ (pair : Swept). pair_in (swept_row pair) ≡ pair) pair_named-place swept good))
    ∙ put_all-rises swept rises
