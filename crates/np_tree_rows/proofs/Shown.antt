-- what a tree's readers answer at the path of a place, and what is read of the requests of a stored state
use Rattle.np_tree_rows.proofs.Prelude.{AllByRecursion, AllZip, BadRecord, Bool, Configuration, HasText, IsGood, IsRequest, IsStored, IsWait, IsWhole, List, None, Ok, Option, Place, Request, RequestEntry, RequestId, RequestLock, RequestLocks, RequestRecord, RequestView, Requests, Result, Rises, Row, Seen, SessionId, Some, SpellsRequest, Stat, State, Tells, TreeState, above, all-at, all-find, all-put, all-weaker, any-by_name, ap, arith, at_path, by_name, bytes_at, bytes_eq-is, child_name, children_of, cond, false, find, find-passes, find_named, get-map, is_at, is_named, is_path-of, is_request_it, is_some, length, length-map, list_any, list_any-none, lock-names, map, name_of, none-find, nothing-below_nothing, option_map, option_map_or, other-name, parts-of, path_of, place_name, refl, request-good, request-itself, request-named-by, request-queue, request_entry, request_in, request_lock_row, request_of, request_of-text, request_queue, request_row, request_view, row_before, row_of, rows-nothing, rows-rise, rows_at, rows_from, seen-is-row, seen_at, seen_in, seen_of, slice_get, stat_at, stat_of, stat_of_child, subst, suc, sym, tells-mapped, true, under, zero, ℕ, [], ◌+◌, ◌-◌, ◌<◌, ◌||◌, ◌∙◌, ◌∷◌, ◌≡◌, ◌≤◌}
use Rattle.np_layout.proofs.Rows.{zip-mapped}
use Rattle.np_layout.proofs.Steps.{seen-named}
use Rattle.np_layout.specs.Prelude.{Node}

-- # two lists member by member: what is found in one stands beside what is found in the other

-- a member and the one beside it, or neither
abbrev pub Beside : {A B : Type 0} → (A → B → Type 0) → Option A → Option B → Type 0
Beside R None None = Unit {0}
Beside R None (Some b) = ⊥
Beside R (Some a) None = ⊥
Beside R (Some a) (Some b) = R a b

module _ {A B : Type 0} (R : A → B → Type 0) where
  -- at a place
  pub beside-at : (these : List A) (those : List B) (at : ℕ) → AllZip R these those → Beside R (slice_get these at) (slice_get those at)
  beside-at [] [] at zip = tt
  beside-at (a ∷ these) (b ∷ those) zero zip = zip.0
  beside-at (a ∷ these) (b ∷ those) (suc at) zip = beside-at these those at zip.1
  beside-at _ _ at zip = absurd zip

  -- the lists are as long
  pub length-beside : (these : List A) (those : List B) → AllZip R these those → length these ≡ length those
  length-beside [] [] zip = refl
  length-beside (a ∷ these) (b ∷ those) zip = ap suc (length-beside these those zip.1)
  length-beside _ _ zip = absurd zip

  found-by : (a : A) (b : B) (f : Option A) (g : Option B) (found : Bool) → R a b → Beside R f g → Beside R (cond found (Some a) f) (cond found (Some b) g)
  found-by a b f g true here later = here
  found-by a b f g false here later = later

  module _ (p : A → Bool) (q : B → Bool) where
    -- by tests that agree
    pub beside-found : (these : List A) (those : List B) → AllZip (λ a b. p a ≡ q b) these those → AllZip R these those → Beside R (find p these) (find q those)
    beside-found [] [] agree zip = tt
    beside-found (a ∷ these) (b ∷ those) agree zip =
        subst (λ (found : Bool). Beside R (cond found (Some a) (find p these)) (cond (q b) (Some b) (find q those))) (sym agree.0)
        (found-by a b (find p these) (find q those) (q b) zip.0 (beside-found these those agree.1 zip.1))
    beside-found _ _ agree zip = absurd zip

-- two that stand beside one another, of which the first tells something
pub record IsBeside {A B X : Type 0} (R : A → B → Type 0) (f : A → X) (x : X) (p : Option B) : Type 0 where
  pub first : A
  pub second : B
  pub there : p ≡ Some second
  pub beside : R first second
  pub tells : x ≡ f first

module _ {A B X : Type 0} (R : A → B → Type 0) (f : A → X) where
  -- where something is told there are two
  pub beside-some : (x : X) (o : Option A) (p : Option B) → Beside R o p → Some x ≡ option_map f o → IsBeside R f x p
  beside-some x None p beside is = absurd cc
  beside-some x (Some a) None beside is = absurd beside
  beside-some x (Some a) (Some b) beside is = record { first = a; second = b; there = refl; beside = beside; tells = cc }

  -- and elsewhere nothing stands beside
  pub beside-none : {Y : Type 0} (g : B → Y) (o : Option A) (p : Option B) → Beside R o p → None ≡ option_map f o → None ≡ option_map g p
  beside-none g None None beside is = refl
  beside-none g None (Some b) beside is = absurd beside
  beside-none g (Some a) p beside is = absurd cc

pub none-beside : {A B : Type 0} (R : A → B → Type 0) (o : Option A) → Beside R o None → o ≡ None
none-beside R None beside = refl
none-beside R (Some a) beside = absurd beside

-- ## members with an id, a record and a queue, and what is seen of them

module _ {E I K V : Type 0} (id_of : E → I) (kept_of : E → K) (queue_of : E → List SessionId) (make : I → K → Option SessionId → V) (by_id : I → Option E) where
  abbrev view_of : E → V
  view_of e = make (id_of e) (kept_of e) (slice_get (queue_of e) 0)

  -- there is no view where there is no member
  pub unviewed : (o : Option E) → None ≡ option_map id_of o → None ≡ option_map view_of o
  unviewed o is = grind arith

  -- the view of a member that is found by its id
  pub viewed : (o : Option E) → ((e : E) → o ≡ Some e → by_id (id_of e) ≡ Some e) → (id : I) (kept : K) (holder : Option SessionId) → Some id ≡ option_map id_of o → Some kept ≡ option_map kept_of (by_id id) →
      holder ≡ slice_get (option_map_or queue_of (by_id id) []) 0 → Some (make id kept holder) ≡ option_map view_of o
  viewed None finds id kept holder is is_kept holds = absurd cc
  viewed (Some e) finds id kept holder is is_kept holds =
      let same : id ≡ id_of e = cc in
      let found : by_id id ≡ Some e = ap by_id same ∙ finds e refl in
      let told : Some kept ≡ Some (kept_of e) = is_kept ∙ ap (option_map kept_of) found in
      let this : kept ≡ kept_of e = cc in
      let who : holder ≡ slice_get (queue_of e) 0 = holds ∙ ap (λ (m : Option E). slice_get (option_map_or queue_of m []) 0) found in
      rw (same, this, who) refl

  -- it has a record
  pub view-kept : (o : Option E) → ((e : E) → o ≡ Some e → by_id (id_of e) ≡ Some e) → (id : I) → Some id ≡ option_map id_of o → None ≡ option_map kept_of (by_id id) → None ≡ option_map view_of o
  view-kept None finds id is none = refl
  view-kept (Some e) finds id is none =
      let same : id ≡ id_of e = cc in
      let told : None ≡ Some (kept_of e) = none ∙ ap (option_map kept_of) (ap by_id same ∙ finds e refl) in
      absurd cc

-- ## lists in order

module _ {A : Type 0} (before : A → A → Bool) (P : A → Type 0) (it : A → Bool) (a : A) (self : it a ≡ true) (apart : (b : A) → P b → before b a ≡ true → it b ≡ false) where
  -- a member is found by a test that those before it do not pass
  pub found-there : (list : List A) (at : ℕ) → Rises before list → AllByRecursion P list → slice_get list at ≡ Some a → find it list ≡ Some a
  found-there [] at rises all there = absurd cc
  found-there (b ∷ list) zero rises all there =
      let is : b ≡ a = cc in
      ap (λ (found : Bool). cond found (Some b) (find it list)) (ap it is ∙ self) ∙ ap Some is
  found-there (b ∷ list) (suc at) rises all there =
      ap (λ (found : Bool). cond found (Some b) (find it list)) (apart b all.0 (all-at (λ (x : A). before b x ≡ true) list at a rises.0 there))
      ∙ found-there list at rises.1 all.1 there

module _ {A B : Type 0} (f : B → A) (before : A → A → Bool) where
  all-of : (b : B) (list : List B) → AllByRecursion (λ x. before (f b) x ≡ true) (map f list) → AllByRecursion (λ c. before (f b) (f c) ≡ true) list
  all-of b [] all = tt
  all-of b (c ∷ list) all = (all.0, all-of b list all.1)

  -- members rise as what is made of them does
  pub rises-of : (list : List B) → Rises before (map f list) → Rises (λ b c. before (f b) (f c)) list
  rises-of [] rises = tt
  rises-of (b ∷ list) rises = (all-of b list rises.0, rises-of list rises.1)

-- # what a tree's readers answer at the path of a place: the row of the place's name among its siblings

-- ## one place

pub bytes-seen : (o : Option Node) → option_map (λ (n : Node). n.bytes) o ≡ option_map (λ (seen : Seen). seen.bytes) (option_map seen_of o)
bytes-seen o = grind arith

bytes-row : (o : Option Row) → option_map (λ (seen : Seen). seen.bytes) (option_map seen_in o) ≡ option_map (λ (row : Row). row.bytes) o
bytes-row o = grind arith

-- its bytes are those of the row of its name
pub bytes-named : (t : TreeState) (p dir : Place) → IsWhole t.nodes → IsGood p → above p ≡ Some dir → bytes_at t (path_of p) ≡ option_map (λ (row : Row). row.bytes) (find_named (place_name p) (under dir t))
bytes-named t p dir whole good over =
    bytes-seen (at_path t.nodes (path_of p))
    ∙ ap (option_map (λ (seen : Seen). seen.bytes)) (seen-named t dir p whole good over)
    ∙ bytes-row (find_named (place_name p) (under dir t))

owner-seen : (nodes : List Node) (o : Option Node) → option_map (λ (stat : Stat). stat.owner) (option_map (stat_of nodes) o) ≡ option_map (λ (seen : Seen). seen.owner) (option_map seen_of o)
owner-seen nodes o = grind arith

owner-row : (o : Option Row) → option_map (λ (seen : Seen). seen.owner) (option_map seen_in o) ≡ option_map (λ (row : Row). row.owner) o
owner-row o = grind arith

-- its stat's owner is that of the row of its name
pub owner-named : (t : TreeState) (p dir : Place) → IsWhole t.nodes → IsGood p → above p ≡ Some dir → option_map (λ (stat : Stat). stat.owner) (stat_at t (path_of p)) ≡ option_map (λ (row : Row). row.owner) (find_named (place_name p) (under dir t))
owner-named t p dir whole good over =
    owner-seen t.nodes (at_path t.nodes (path_of p))
    ∙ ap (option_map (λ (seen : Seen). seen.owner)) (seen-named t dir p whole good over)
    ∙ owner-row (find_named (place_name p) (under dir t))

-- ## the rows of a directory

none-there : (nodes : List Node) (o : Option Node) → option_map (stat_of nodes) o ≡ None → o ≡ None
none-there nodes o is = grind arith

count-by : (nodes : List Node) (dir : List ℕ) (o : Option Node) (stat : Stat) → at_path nodes dir ≡ o → option_map (stat_of nodes) o ≡ Some stat → stat.children ≡ length (children_of nodes dir)
count-by nodes dir None stat there is = absurd cc
count-by nodes dir (Some n) stat there is =
    let same : stat ≡ stat_of nodes n = cc in
    ap (λ (s : Stat). s.children) same ∙ ap (λ (p : List ℕ). length (children_of nodes p)) (bytes_eq-is n.path dir (find-passes (is_at dir) nodes n there))

-- a stat counts the rows below its path
pub rows-counted : (t : TreeState) (dir : List ℕ) (stat : Stat) → stat_at t dir ≡ Some stat → stat.children ≡ length (rows_at t dir)
rows-counted t dir stat is = count-by t.nodes dir (at_path t.nodes dir) stat refl is ∙ sym (length-map (children_of t.nodes dir) row_of)

-- and there are none if there is no stat
pub rows-none : (t : TreeState) (dir : List ℕ) → IsWhole t.nodes → stat_at t dir ≡ None → rows_at t dir ≡ []
rows-none t dir whole is = rows-nothing t.nodes dir whole.stand (none-there t.nodes (at_path t.nodes dir) is)

name-row : (o : Option Node) → option_map (λ (n : Node). name_of n.path) o ≡ option_map (λ (row : Row). row.name) (option_map row_of o)
name-row o = grind arith

-- the child at a place is the row there
pub name-at : (t : TreeState) (dir : List ℕ) (at : ℕ) → child_name t dir at ≡ option_map (λ (row : Row). row.name) (slice_get (rows_at t dir) at)
name-at t dir at = name-row (slice_get (children_of t.nodes dir) at) ∙ sym (ap (option_map (λ (row : Row). row.name)) (get-map row_of (children_of t.nodes dir) at))

owner-of_row : (nodes : List Node) (o : Option Node) → option_map (λ (stat : Stat). stat.owner) (option_map (stat_of nodes) o) ≡ option_map (λ (row : Row). row.owner) (option_map row_of o)
owner-of_row nodes o = grind arith

-- and so is its owner
pub owner-at : (t : TreeState) (dir : List ℕ) (at : ℕ) → option_map (λ (stat : Stat). stat.owner) (stat_of_child t dir at) ≡ option_map (λ (row : Row). row.owner) (slice_get (rows_at t dir) at)
owner-at t dir at = owner-of_row t.nodes (slice_get (children_of t.nodes dir) at) ∙ sym (ap (option_map (λ (row : Row). row.owner)) (get-map row_of (children_of t.nodes dir) at))

-- ## the row of a name among others

-- rows of which none of that name is another than this, if there is one
abbrev pub IsOnly : List ℕ → Option Row → List Row → Type 0
IsOnly name o rows = AllByRecursion (λ row. is_named name row ≡ true → Some row ≡ o) rows

is-none : (o : Option Row) → is_some o ≡ false → None ≡ o
is-none o is = grind arith

find-by : (name : List ℕ) (rows : List Row) (o f : Option Row) → find_named name rows ≡ f → IsOnly name o rows → list_any (is_named name) rows ≡ is_some o → f ≡ o
find-by name rows o None there only any = is-none o (sym any ∙ list_any-none (is_named name) rows (none-find (is_named name) rows there))
find-by name rows o (Some row) there only any = all-find (λ (r : Row). is_named name r ≡ true → Some r ≡ o) (is_named name) rows row only there (find-passes (is_named name) rows row there)

-- the row of a name is the only one that has it
pub find-only : (name : List ℕ) (rows : List Row) (o : Option Row) → IsOnly name o rows → list_any (is_named name) rows ≡ is_some o → find_named name rows ≡ o
find-only name rows o only any = find-by name rows o (find_named name rows) refl only any

-- and it is found when the rows are put in order
pub find-ordered : (name : List ℕ) (rows : List Row) (o : Option Row) → IsOnly name o rows → list_any (is_named name) rows ≡ is_some o → find_named name (by_name rows) ≡ o
find-ordered name rows o only any =
    find-only name (by_name rows) o (all-put (λ (row : Row). is_named name row ≡ true → Some row ≡ o) rows [] tt only) (any-by_name (is_named name) rows ∙ any)

-- ## the rows of a table

module _ {A : Type 0} (row : ℕ → A → Row) (name : List ℕ) (k limit : ℕ) (others : (n : ℕ) (a : A) → n < limit → (n ≡ k → ⊥) → is_named name (row n a) ≡ false) (own : (a : A) → is_named name (row k a) ≡ true) where
  not-named : (n : ℕ) (a : A) (o : Option Row) → n < limit → (n ≡ k → ⊥) → is_named name (row n a) ≡ true → Some (row n a) ≡ o
  not-named n a o low apart is = absurd (let no = others n a low apart in cc)

  -- past the member
  pub past-only : (list : List A) (at : ℕ) (o : Option Row) → at + length list ≤ limit → k < at → IsOnly name o (rows_from row at list)
  past-only [] at o within past = tt
  past-only (a ∷ list) at o within past = (not-named at a o (omega arith) (λ same. omega arith), past-only list (at + 1) o (omega arith) (omega arith))

  -- nor is the name there
  pub past-any : (list : List A) (at : ℕ) → at + length list ≤ limit → k < at → list_any (is_named name) (rows_from row at list) ≡ false
  past-any [] at within past = refl
  past-any (a ∷ list) at within past = ap (λ (b : Bool). b || list_any (is_named name) (rows_from row (at + 1) list)) (others at a (omega arith) (λ same. omega arith)) ∙ past-any list (at + 1) (omega arith) (omega arith)

  -- the row of the name is the member's
  pub table-only : (list : List A) (at j : ℕ) → at + length list ≤ limit → at + j ≡ k → IsOnly name (option_map (row k) (slice_get list j)) (rows_from row at list)
  table-only [] at j within same = tt
  table-only (a ∷ list) at zero within same =
      let at_k : at ≡ k = omega arith in
      ((λ is. ap (λ (n : ℕ). Some (row n a)) at_k), past-only list (at + 1) (Some (row k a)) (omega arith) (omega arith))
  table-only (a ∷ list) at (suc j) within same =
      (not-named at a (option_map (row k) (slice_get list j)) (omega arith) (λ is. omega arith), table-only list (at + 1) j (omega arith) (omega arith))

  -- and there is one if there is a member
  pub table-any : (list : List A) (at j : ℕ) → at + length list ≤ limit → at + j ≡ k → list_any (is_named name) (rows_from row at list) ≡ is_some (option_map (row k) (slice_get list j))
  table-any [] at j within same = refl
  table-any (a ∷ list) at zero within same =
      let at_k : k ≡ at = omega arith in
      let here : is_named name (row at a) ≡ true = subst (λ (n : ℕ). is_named name (row n a) ≡ true) at_k (own a) in
      ap (λ (b : Bool). b || list_any (is_named name) (rows_from row (at + 1) list)) here
  table-any (a ∷ list) at (suc j) within same =
      ap (λ (b : Bool). b || list_any (is_named name) (rows_from row (at + 1) list)) (others at a (omega arith) (λ is. omega arith)) ∙ table-any list (at + 1) j (omega arith) (omega arith)

-- # the sessions that wait in a lock, and places of which there is none

-- a place whose row is not there has nothing below it
pub nothing-under : (t : TreeState) (p dir : Place) → IsWhole t.nodes → IsGood p → above p ≡ Some dir → find_named (place_name p) (under dir t) ≡ None → under p t ≡ []
nothing-under t p dir whole good over none = nothing-below_nothing t (path_of p) whole (seen-named t dir p whole good over ∙ ap (option_map seen_in) none)

-- a session waits at a place, and owns the child there
pub record IsWaiting (owner : Option ℕ) (o : Option SessionId) : Type 0 where
  pub session : SessionId
  pub owns : owner ≡ Some (session.0 + 1)
  pub there : o ≡ Some session

module _ (t : TreeState) (lock : Place) (at next : ℕ) (queue : List SessionId) (waits : AllZip (IsWait next) (under lock t) queue) where
  owner-by : (o : Option Row) (w : Option SessionId) → Beside (IsWait next) o w → option_map (λ (row : Row). row.owner) o ≡ option_map (λ (session : SessionId). Some (session.0 + 1)) w
  owner-by None None beside = refl
  owner-by (Some row) (Some session) beside = ap (λ (r : Row). Some r.owner) beside.is
  owner-by _ _ beside = absurd beside

  -- the owner of the child at a place is the session there
  owner-waits : option_map (λ (stat : Stat). stat.owner) (stat_of_child t (path_of lock) at) ≡ option_map (λ (session : SessionId). Some (session.0 + 1)) (slice_get queue at)
  owner-waits = owner-at t (path_of lock) at ∙ owner-by (slice_get (under lock t) at) (slice_get queue at) (beside-at (IsWait next) (under lock t) queue at waits)

  none-by : (o : Option SessionId) → option_map (λ (stat : Stat). stat.owner) None ≡ option_map (λ (session : SessionId). Some (session.0 + 1)) o → None ≡ o
  none-by o is = grind arith

  -- where there is no child, no session waits
  pub waits-none : None ≡ stat_of_child t (path_of lock) at → None ≡ slice_get queue at
  waits-none is = none-by (slice_get queue at) (ap (option_map (λ (stat : Stat). stat.owner)) is ∙ owner-waits)

  some-by : (stat : Stat) (o : Option SessionId) → Some stat.owner ≡ option_map (λ (session : SessionId). Some (session.0 + 1)) o → IsWaiting stat.owner o
  some-by stat None is = absurd cc
  some-by stat (Some session) is = record { session = session; owns = cc; there = refl }

  -- and where there is one, its owner does
  pub waits-some : (stat : Stat) → Some stat ≡ stat_of_child t (path_of lock) at → IsWaiting stat.owner (slice_get queue at)
  waits-some stat is = some-by stat (slice_get queue at) (ap (option_map (λ (s : Stat). s.owner)) is ∙ owner-waits)

module _ (owner : ℕ) (w : Option ℕ) (o : Option SessionId) (waiting : IsWaiting w o) (is : w ≡ Some owner) where
  owner-is : owner ≡ waiting.session.0 + 1
  owner-is = let told : Some owner ≡ Some (waiting.session.0 + 1) = sym is ∙ waiting.owns in cc

  -- the owner's number is at least one
  pub waits-positive : 1 ≤ owner
  waits-positive = let same = owner-is in omega arith

  -- and that of the session is one less
  pub waits-number : (number : ℕ) → number ≡ owner - 1 → Some (record { 0 = number }) ≡ o
  waits-number number less =
      let same = owner-is in
      let this : number ≡ waiting.session.0 = omega arith in
      ap (λ (n : ℕ). Some (record { 0 = n })) this ∙ sym waiting.there

-- a session that waits owns its child
pub waits-owned : (w : Option ℕ) (o : Option SessionId) → IsWaiting w o → w ≡ None → ⊥
waits-owned w o waiting is = absurd (let told : None ≡ Some (waiting.session.0 + 1) = sym is ∙ waiting.owns in cc)

-- # what is read of the requests of a stored state

-- what was read is what is there
pub record IsRead {A : Type 0} (o : Option A) (r : Result A BadRecord) : Type 0 where
  pub kept : A
  pub there : o ≡ Some kept
  pub reads : r ≡ Ok kept

-- what is there was read
pub read-some : {A : Type 0} (o : Option A) (a : A) → IsRead o (Ok a) → Some a ≡ o
read-some o a read = let same : a ≡ read.kept = let is = read.reads in cc in ap Some same ∙ sym read.there

-- and what was not read is not there
pub read-none : {A : Type 0} (o : Option A) (bad : BadRecord) → IsRead o (Result.Err bad) → None ≡ o
read-none o bad read = absurd (let is = read.reads in cc)

-- the row of a request's record, and that of its lock
abbrev pub IsRequestRow : Row → RequestEntry → Type 0
IsRequestRow row e = row ≡ request_row e

abbrev pub IsLockRow : Row → RequestEntry → Type 0
IsLockRow row e = row ≡ request_lock_row e

-- what is seen of a request
abbrev seen_request : RequestId → RequestRecord → Option SessionId → RequestView
seen_request id kept holder = record { id = id; kept = kept; holder = holder }

abbrev request_before : RequestEntry → RequestEntry → Bool
request_before a b = row_before (request_row a) (request_row b)

module _ (c : Configuration) (s : State) (t : TreeState) (stored : IsStored c s t) where
  abbrev HasId : RequestEntry → Type 0
  HasId e = HasText e.id

  has-ids : AllByRecursion HasId s.requests
  has-ids = stored.carried.good.requests

  request-rows : AllZip IsRequestRow (under Requests t) s.requests
  request-rows = subst (λ (rows : List Row). AllZip IsRequestRow rows s.requests) (sym stored.lays.requests.rows) (zip-mapped request_row s.requests)

  lock-rows : AllZip IsLockRow (under RequestLocks t) s.requests
  lock-rows = subst (λ (rows : List Row). AllZip IsLockRow rows s.requests) (sym stored.lays.request_locks.rows) (zip-mapped request_lock_row s.requests)

  -- as many rows as requests
  pub requests-counted : length (rows_at t (path_of Requests)) ≡ length s.requests
  requests-counted = length-beside IsRequestRow (under Requests t) s.requests request-rows

  -- ## by place

  request-beside : (at : ℕ) → Beside IsRequestRow (slice_get (under Requests t) at) (slice_get s.requests at)
  request-beside at = beside-at IsRequestRow (under Requests t) s.requests at request-rows

  -- the name of a row spells the id of the request there
  pub request-named : (at : ℕ) (name : List ℕ) → Some name ≡ option_map (λ (row : Row). row.name) (slice_get (under Requests t) at) → request_of name ≡ option_map (λ (e : RequestEntry). e.id) (slice_get s.requests at)
  request-named at name is =
      let found = beside-some IsRequestRow (λ (row : Row). row.name) name _ _ (request-beside at) is in
      ap request_of (found.tells ∙ ap (λ (r : Row). r.name) found.beside)
      ∙ request_of-text found.second.id (all-at HasId s.requests at found.second has-ids found.there)
      ∙ sym (ap (option_map (λ (e : RequestEntry). e.id)) found.there)

  -- and where there is no row there is no request
  pub request-unnamed : (at : ℕ) → None ≡ option_map (λ (row : Row). row.name) (slice_get (under Requests t) at) → None ≡ option_map (λ (e : RequestEntry). e.id) (slice_get s.requests at)
  request-unnamed at is = beside-none IsRequestRow (λ (row : Row). row.name) (λ (e : RequestEntry). e.id) _ _ (request-beside at) is

  -- ## by id

  no-entry : (r : RequestId) → ¬ HasText r → (o : Option RequestEntry) → request_entry r s.requests ≡ o → request_entry r s.requests ≡ None
  no-entry r lacks None there = there
  no-entry r lacks (Some e) there = absurd (lacks (request-good r s.requests e has-ids there))

  -- a request that has no text is not there
  pub request-none : (r : RequestId) → ¬ HasText r → None ≡ request_in r s.requests
  request-none r lacks = sym (ap (option_map (λ (e : RequestEntry). e.kept)) (no-entry r lacks (request_entry r s.requests) refl))

  -- and no session waits for it
  pub request-unqueued : (r : RequestId) (at : ℕ) → ¬ HasText r → None ≡ slice_get (request_queue r s.requests) at
  request-unqueued r at lacks = sym (ap (λ (o : Option RequestEntry). slice_get (option_map_or (λ (e : RequestEntry). e.queue) o []) at) (no-entry r lacks (request_entry r s.requests) refl))

  module _ (r : RequestId) (good : HasText r) where
    lock-tells : Tells (place_name (RequestLock r)) (is_request_it r) (under RequestLocks t) s.requests
    lock-tells = subst (λ (rows : List Row). Tells (place_name (RequestLock r)) (is_request_it r) rows s.requests) (sym stored.lays.request_locks.rows)
        (tells-mapped (place_name (RequestLock r)) (is_request_it r) request_lock_row s.requests (lock-names r s.requests good has-ids))

    row-tells : Tells (place_name (Request r)) (is_request_it r) (under Requests t) s.requests
    row-tells = subst (λ (rows : List Row). Tells (place_name (Request r)) (is_request_it r) rows s.requests) (sym stored.lays.requests.rows)
        (tells-mapped (place_name (Request r)) (is_request_it r) request_row s.requests
        (lock-names r s.requests good has-ids))

    row-found : Beside IsRequestRow (find_named (place_name (Request r)) (under Requests t)) (request_entry r s.requests)
    row-found = beside-found IsRequestRow (is_named (place_name (Request r))) (is_request_it r) (under Requests t) s.requests row-tells request-rows

    -- its record is read from its bytes
    pub request-read : (bytes : List ℕ) (read : Result RequestRecord BadRecord) → Some bytes ≡ bytes_at t (path_of (Request r)) → ((v : RequestRecord) → SpellsRequest v bytes → read ≡ Ok v) → IsRead (request_in r s.requests) read
    request-read bytes read is all =
        let found = beside-some IsRequestRow (λ (row : Row). row.bytes) bytes _ _ row-found (is ∙ bytes-named t (Request r) Requests stored.whole good refl) in
        let sound = all-find (λ (x : RequestEntry). IsRequest x.kept) (is_request_it r) s.requests found.second stored.carried.spelled.requests found.there in
        record { kept = found.second.kept; there = ap (option_map (λ (e : RequestEntry). e.kept)) found.there; reads = all found.second.kept (sound, found.tells ∙ ap (λ (x : Row). x.bytes) found.beside) }

    -- and where there are none it is not there
    pub request-unread : None ≡ bytes_at t (path_of (Request r)) → None ≡ request_in r s.requests
    request-unread is = beside-none IsRequestRow (λ (row : Row). row.bytes) (λ (e : RequestEntry). e.kept) _ _ row-found (is ∙ bytes-named t (Request r) Requests stored.whole good refl)

    -- ## its queue

    waits-by : (o : Option RequestEntry) → request_entry r s.requests ≡ o → (next : ℕ) × AllZip (IsWait next) (under (RequestLock r) t) (request_queue r s.requests)
    waits-by None there =
        let found = beside-found IsLockRow (is_named (place_name (RequestLock r))) (is_request_it r) (under RequestLocks t) s.requests lock-tells lock-rows in
        let none = none-beside IsLockRow (find_named (place_name (RequestLock r)) (under RequestLocks t)) (subst (λ (o : Option RequestEntry). Beside IsLockRow (find_named (place_name (RequestLock r)) (under RequestLocks t)) o) there found) in
        let empty = nothing-under t (RequestLock r) RequestLocks stored.whole good refl none in
        let queue : request_queue r s.requests ≡ [] = ap (λ (o : Option RequestEntry). option_map_or (λ (e : RequestEntry). e.queue) o []) there in
        (0, rw (empty, queue) tt)
    waits-by (Some e) there = let queue = request-queue s t r e stored.lays there in (queue.next, queue.waits)

    -- the rows of its lock are its queue
    pub request-waits : (next : ℕ) × AllZip (IsWait next) (under (RequestLock r) t) (request_queue r s.requests)
    request-waits = waits-by (request_entry r s.requests) refl

  -- ## the request at a place

  rises : Rises request_before s.requests
  rises = rises-of request_row row_before s.requests (subst (Rises row_before) stored.lays.requests.rows (rows-rise t (path_of Requests) stored.whole))

  apart : (e : RequestEntry) → HasId e → (x : RequestEntry) → HasId x → request_before x e ≡ true → is_request_it e.id x ≡ false
  apart e e_good x x_good before = sym (request-named-by e.id x.id (is_request_it e.id x) refl e_good x_good) ∙ other-name (request_row x) (request_row e) before

  -- is found by its id
  entry-at : (at : ℕ) (e : RequestEntry) → slice_get s.requests at ≡ Some e → request_entry e.id s.requests ≡ Some e
  entry-at at e there =
      found-there request_before HasId (is_request_it e.id) e (request-itself e.id) (apart e (all-at HasId s.requests at e has-ids there)) s.requests at rises has-ids there

  abbrev viewed_at : ℕ → Option RequestId
  viewed_at at = option_map (λ (e : RequestEntry). e.id) (slice_get s.requests at)

  -- there is no view where there is no request
  pub request-unviewed : (at : ℕ) → None ≡ viewed_at at → None ≡ option_map request_view (slice_get s.requests at)
  request-unviewed at = unviewed (λ (e : RequestEntry). e.id) (λ (e : RequestEntry). e.kept) (λ (e : RequestEntry). e.queue) seen_request (λ id. request_entry id s.requests) (slice_get s.requests at)

  -- the view of the request that is there
  pub request-viewed : (at : ℕ) (id : RequestId) (kept : RequestRecord) (holder : Option SessionId) → Some id ≡ viewed_at at → Some kept ≡ request_in id s.requests → holder ≡ slice_get (request_queue id s.requests) 0 →
      Some (seen_request id kept holder) ≡ option_map request_view (slice_get s.requests at)
  request-viewed at = viewed (λ (e : RequestEntry). e.id) (λ (e : RequestEntry). e.kept) (λ (e : RequestEntry). e.queue) seen_request (λ id. request_entry id s.requests) (slice_get s.requests at) (entry-at at)

  -- the request that is there has a record
  pub request-kept : (at : ℕ) (id : RequestId) → Some id ≡ viewed_at at → None ≡ request_in id s.requests → None ≡ option_map request_view (slice_get s.requests at)
  request-kept at = view-kept (λ (e : RequestEntry). e.id) (λ (e : RequestEntry). e.kept) (λ (e : RequestEntry). e.queue) seen_request (λ id. request_entry id s.requests) (slice_get s.requests at) (entry-at at)
