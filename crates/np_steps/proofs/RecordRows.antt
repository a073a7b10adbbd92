-- the records that an event sets, edits, removes and adds, as they are in the tree
use Rattle.np_steps.proofs.Prelude.{AllByRecursion, Any, Bool, Configuration, Deed, EachAfter, Edit, Err, Handle, HasNodeLock, HasQueue, HasSpellings, HasText, IfSome, IsCarried, IsGood, IsNode, IsRequest, IsRole, IsSessionRole, IsSound, IsStored, IsTaken, Job, JobId, KeepsNodes, List, Maker, NoMemory, Node, NodeEdit, NodeEntry, NodeId, NodeLock, NodeRecord, None, Ok, OnOk, Op, Option, PersistentSequential, PoolId, Request, RequestEdit, RequestEntry, RequestId, RequestLock, RequestRecord, Requests, Result, Role, RoleRecord, Row, SemId, SessionFacts, SessionId, Some, StandsByOwner, State, TenantId, TreeState, acquire_parts, all-at, all-find, allocate_parts, allocated, ap, append-nil, append_assoc, ap₂, arith, below, by_session, change_at, change_first, change_parts, change_role, child_name, cond, delete, delete_parts, drop, each_changed, each_released, edited, edited_entry, edited_record, equal-numbers, false, filter, find, find-change_first, find-passes, found-change_first, found-node, freed, freed-keeps, freed_from, from-map_some, has_handle, is_among, is_node_it, is_queued, is_request, is_request_it, is_some, is_waiting, join_parts, length, list_any, list_any-append, lock-any, make, map, name-at, nat_tests, node_entry, node_in, node_text, not, not-true, one_more_act, one_more_start, option_map, option_map_or, or_parts, path_of, place_of_role, put_node, refl, release_parts, released, request-equal, request-good, request_entry, request_in, request_parts, request_prefix, requests_changed, role_in, role_parts, role_text, rows_at, same_request, semaphores_of, session_of, set, set-here, slice_get, slice_get-change_at, slice_get-change_at_other, slice_set, struck_unless, subst, suc, sym, true, under, unwrap_or, where_there, with_deeds, with_handle, without_handle, zero, ℕ, [], ◌++◌, ◌-◌, ◌==◌, ◌||◌, ◌∙◌, ◌∷◌, ◌≡◌, ◌≢◌}
use Rattle.np_config.specs.Configuration.{IsJob}

-- # the children of a node, as a tree's readers answer them

-- ## the deletes of all

parts-step : (dir : List ℕ) (rows : List Row) (at : ℕ) (name : List ℕ) → Some name ≡ option_map (λ (row : Row). row.name) (slice_get rows at) → Op.Delete (below dir name) Any ∷ delete_parts dir (drop (suc at) rows) ≡ delete_parts dir (drop at rows)
parts-step dir [] at name is = absurd cc
parts-step dir (row ∷ rows) zero name is =
    let same : name ≡ row.name = cc in
    ap (λ (n : List ℕ). Op.Delete (below dir n) Any ∷ delete_parts dir rows) same
parts-step dir (row ∷ rows) (suc at) name is = parts-step dir rows at name is

-- the child at a place is deleted, and then those after it
pub deletes-step : (items : List Op) (dir : List ℕ) (t : TreeState) (at : ℕ) (name : List ℕ) → Some name ≡ child_name t dir at →
    (items ++ Op.Delete (below dir name) Any ∷ []) ++ delete_parts dir (drop (suc at) (rows_at t dir)) ≡ items ++ delete_parts dir (drop at (rows_at t dir))
deletes-step items dir t at name is =
    append_assoc items (Op.Delete (below dir name) Any ∷ []) (delete_parts dir (drop (suc at) (rows_at t dir)))
    ∙ ap (λ (parts : List Op). items ++ parts) (parts-step dir (rows_at t dir) at name (is ∙ name-at t dir at))

past : (rows : List Row) (at : ℕ) → None ≡ option_map (λ (row : Row). row.name) (slice_get rows at) → drop at rows ≡ []
past [] zero is = refl
past [] (suc at) is = refl
past (row ∷ rows) zero is = absurd cc
past (row ∷ rows) (suc at) is = past rows at is

-- ## the first that is a session's

-- one place more
pub find-step : {X : Type 0} (p : X → Bool) (xs : List X) (i : ℕ) → find p (drop i xs) ≡ cond (option_map_or p (slice_get xs i) false) (slice_get xs i) (find p (drop (suc i) xs))
find-step p [] zero = refl
find-step p [] (suc i) = refl
find-step p (x ∷ xs) zero = refl
find-step p (x ∷ xs) (suc i) = find-step p xs i

-- one is found if there is any
pub found-any : {X : Type 0} (f : X → List ℕ) (p : X → Bool) (xs : List X) → is_some (option_map f (find p xs)) ≡ list_any p xs
found-any f p [] = refl
found-any f p (x ∷ xs) = grind (arith, found-any f p xs)

-- a mapped option is there if the option is
pub mapped-some : {A B : Type 0} (f : A → B) (o : Option A) → is_some o ≡ is_some (option_map f o)
mapped-some f o = grind arith

-- # the parts for a record, where it is there and where it is not

-- ## parts

none-by : {A B : Type 0} (f : A → B) (o : Option A) (parts : A → List Op) → None ≡ option_map f o → where_there o parts ≡ []
none-by f o parts is = grind arith

-- what is not there has no parts
pub parts-none : {A : Type 0} (o : Option A) (parts : A → List Op) (old : List Op) → None ≡ o → old ≡ old ++ where_there o parts
parts-none {A} o parts old is = sym (ap (λ (found : Option A). old ++ where_there found parts) (sym is) ∙ append-nil old)

-- whichever record of it was looked for
pub row-none : {A B : Type 0} (f : A → B) (o : Option A) (parts : A → List Op) (old : List Op) → None ≡ option_map f o → old ≡ old ++ where_there o parts
row-none f o parts old is = sym (ap (λ (more : List Op). old ++ more) (none-by f o parts is) ∙ append-nil old)

-- and what is there has its parts, if each would have the same
pub row-some : {A B : Type 0} (f : A → B) (o : Option A) (b : B) (parts : List Op) → Some b ≡ option_map f o → parts ≡ where_there o (λ a. parts)
row-some f o b parts is = grind arith

-- some parts, one more and another behind others
pub parts-behind : (old more first later parts : List Op) (one two : Op) → first ≡ old ++ more → later ≡ first ++ one ∷ [] → more ++ one ∷ two ∷ [] ≡ parts → later ++ two ∷ [] ≡ old ++ parts
parts-behind old more first later parts one two is then_is all =
    ap (λ (front : List Op). front ++ two ∷ []) (then_is ∙ ap (λ (front : List Op). front ++ one ∷ []) is)
    ∙ append_assoc (old ++ more) (one ∷ []) (two ∷ [])
    ∙ append_assoc old more (one ∷ two ∷ [])
    ∙ ap (λ (end : List Op). old ++ end) all

-- ## requests

module _ (c : Configuration) (s : State) (carried : IsCarried c s) (r : RequestId) (kept : RequestRecord) where
  text-by : (o : Option RequestEntry) → request_entry r s.requests ≡ o → Some kept ≡ option_map (λ (e : RequestEntry). e.kept) o → HasText r
  text-by None there is = absurd cc
  text-by (Some e) there is = request-good r s.requests e carried.good.requests there

  -- the id of a request that is there has a text
  pub request-text : Some kept ≡ request_in r s.requests → HasText r
  request-text is = text-by (request_entry r s.requests) refl is

edited-by : (rows : List RequestEntry) (r : RequestId) (change : RequestEdit) (kept : RequestRecord) (o : Option RequestEntry) → request_entry r rows ≡ o → AllByRecursion (λ e. IsRequest e.kept) (requests_changed None (Edit r change) rows) →
    Some kept ≡ option_map (λ (e : RequestEntry). e.kept) o → IsRequest (edited change kept)
edited-by rows r change kept None there all is = absurd cc
edited-by rows r change kept (Some e) there all is =
    let same : e.kept ≡ kept = cc in
    let later : RequestEntry → RequestEntry = λ x. record x { kept = edited change x.kept } in
    let found = find-change_first (is_request_it r) later (λ x. refl) rows e there in
    subst (λ (k : RequestRecord). IsRequest (edited change k)) same (all-find (λ (x : RequestEntry). IsRequest x.kept) (is_request_it r) (requests_changed None (Edit r change) rows) (later e) all found)

-- the edited record is one of the changed table's
pub request-edited : (rows : List RequestEntry) (r : RequestId) (change : RequestEdit) (kept : RequestRecord) → AllByRecursion (λ e. IsRequest e.kept) (requests_changed None (Edit r change) rows) →
    Some kept ≡ request_in r rows → IsRequest (edited change kept)
request-edited rows r change kept all is = edited-by rows r change kept (request_entry r rows) refl all is

-- ## nodes

put-by : (rows : List NodeEntry) (n : NodeId) (kept old : NodeRecord) (o : Option NodeEntry) → node_entry n rows ≡ o → AllByRecursion (λ e. IsNode e.kept) (put_node n kept rows) → Some old ≡ option_map (λ (e : NodeEntry). e.kept) o → IsNode kept
put-by rows n kept old None there all is = absurd cc
put-by rows n kept old (Some e) there all is =
    let later : NodeEntry → NodeEntry = λ x. record x { kept = kept } in
    all-find (λ (x : NodeEntry). IsNode x.kept) (is_node_it n) (put_node n kept rows) (later e) all (find-change_first (is_node_it n) later (λ x. refl) rows e there)

-- the record that is put is one of the changed table's
pub node-put : (rows : List NodeEntry) (n : NodeId) (kept old : NodeRecord) → AllByRecursion (λ e. IsNode e.kept) (put_node n kept rows) → Some old ≡ node_in n rows → IsNode kept
node-put rows n kept old all is = put-by rows n kept old (node_entry n rows) refl all is

-- # the records of several nodes are edited, each as it is in the tree

-- ## one node

freed-by : (e : NodeEntry) (b : Bool) → (cond b (record e { kept = freed e.kept }) e).kept ≡ cond b (freed e.kept) e.kept
freed-by e b = grind arith

-- the edit is one of the record
edited-kept : (what : NodeEdit) (e : NodeEntry) → (edited_entry what e).kept ≡ edited_record what e.kept
edited-kept (NodeEdit.Free r) e = freed-by e (is_request r e.kept.allocated_to)
edited-kept (NodeEdit.TakeOver tick) e = refl

parts-by : (what : NodeEdit) (n : NodeId) (kept : NodeRecord) (rows : List NodeEntry) (o : Option NodeEntry) → node_entry n rows ≡ o → Some kept ≡ option_map (λ (e : NodeEntry). e.kept) o →
    set (node_text (edited_record what kept)) (Node n) ∷ [] ≡ where_there o (change_parts (edited_entry what))
parts-by what n kept rows None there is = absurd cc
parts-by what n kept rows (Some e) there is =
    let same : kept ≡ e.kept = cc in
    let later : edited_record what kept ≡ (edited_entry what e).kept = ap (edited_record what) same ∙ sym (edited-kept what e) in
    ap (λ (k : NodeRecord). set (node_text k) (Node n) ∷ []) later
    ∙ ap (λ (id : NodeId). set (node_text (edited_entry what e).kept) (Node id) ∷ []) (sym (found-node n rows e there))

-- the part for a node that is there
pub edit-parts : (what : NodeEdit) (n : NodeId) (kept : NodeRecord) (rows : List NodeEntry) → Some kept ≡ node_in n rows → set (node_text (edited_record what kept)) (Node n) ∷ [] ≡ where_there (node_entry n rows) (change_parts (edited_entry what))
edit-parts what n kept rows is = parts-by what n kept rows (node_entry n rows) refl is

sound-by : (what : NodeEdit) (n : NodeId) (kept : NodeRecord) (rows : List NodeEntry) (o : Option NodeEntry) → node_entry n rows ≡ o → KeepsNodes what → AllByRecursion (λ e. IsNode e.kept) rows →
    Some kept ≡ option_map (λ (e : NodeEntry). e.kept) o → IsNode (edited_record what kept)
sound-by what n kept rows None there keeps all is = absurd cc
sound-by what n kept rows (Some e) there keeps all is =
    let same : e.kept ≡ kept = cc in
    subst IsNode (edited-kept what e ∙ ap (edited_record what) same) (keeps e (all-find (λ (x : NodeEntry). IsNode x.kept) (is_node_it n) rows e all there))

-- its edited record can be spelled
pub edit-sound : (what : NodeEdit) (n : NodeId) (kept : NodeRecord) (rows : List NodeEntry) → KeepsNodes what → AllByRecursion (λ e. IsNode e.kept) rows → Some kept ≡ node_in n rows → IsNode (edited_record what kept)
edit-sound what n kept rows keeps all is = sound-by what n kept rows (node_entry n rows) refl keeps all is

-- ## one node after another

free-again : (r : RequestId) (e : NodeEntry) (b : Bool) → is_request r e.kept.allocated_to ≡ b → freed_from r (cond b (record e { kept = freed e.kept }) e) ≡ cond b (record e { kept = freed e.kept }) e
free-again r e true is = refl
free-again r e false is = ap (λ (b : Bool). cond b (record e { kept = freed e.kept }) e) is

-- an edit that is made again changes nothing
edit-again : (what : NodeEdit) (e : NodeEntry) → edited_entry what (edited_entry what e) ≡ edited_entry what e
edit-again (NodeEdit.Free r) e = free-again r e (is_request r e.kept.allocated_to) refl
edit-again (NodeEdit.TakeOver tick) e = refl

edit-id : (what : NodeEdit) (e : NodeEntry) → (edited_entry what e).id ≡ e.id
edit-id (NodeEdit.Free r) e = (freed-keeps r e).0
edit-id (NodeEdit.TakeOver tick) e = refl

module _ (what : NodeEdit) where
  abbrev parts_for : Option NodeEntry → List Op
  parts_for o = where_there o (change_parts (edited_entry what))

  abbrev edited_at : NodeId → List NodeEntry → List NodeEntry
  edited_at n rows = change_first (is_node_it n) (edited_entry what) rows

  parts-again : (e : NodeEntry) → parts_for (Some (edited_entry what e)) ≡ parts_for (Some e)
  parts-again e =
      ap (λ (x : NodeEntry). set (node_text x.kept) (Node (edited_entry what e).id) ∷ []) (edit-again what e)
      ∙ ap (λ (id : NodeId). set (node_text (edited_entry what e).kept) (Node id) ∷ []) (edit-id what e)

  -- an edit of one node leaves the parts for each
  parts-stay : (n m : NodeId) (rows : List NodeEntry) → parts_for (node_entry m (edited_at n rows)) ≡ parts_for (node_entry m rows)
  parts-stay n m rows = found-change_first parts_for (is_node_it n) (is_node_it m) (edited_entry what) (λ e. ap (λ (id : NodeId). id.0 == m.0) (edit-id what e)) parts-again rows

  each-same : (numbers : List NodeId) (xs ys : List NodeEntry) → ((m : NodeId) → parts_for (node_entry m xs) ≡ parts_for (node_entry m ys)) → each_changed (edited_entry what) numbers xs ≡ each_changed (edited_entry what) numbers ys
  each-same [] xs ys same = refl
  each-same (n ∷ numbers) xs ys same =
      ap (λ (first : List Op). first ++ each_changed (edited_entry what) numbers (edited_at n xs)) (same n)
      ∙ ap (λ (more : List Op). parts_for (node_entry n ys) ++ more) (each-same numbers (edited_at n xs) (edited_at n ys) (λ m. parts-stay n m xs ∙ same m ∙ sym (parts-stay n m ys)))

  -- the parts for the first node, and then those for the others
  pub each-next : (n : NodeId) (numbers : List NodeId) (rows : List NodeEntry) → each_changed (edited_entry what) (n ∷ numbers) rows ≡ where_there (node_entry n rows) (change_parts (edited_entry what)) ++ each_changed (edited_entry what) numbers rows
  each-next n numbers rows = ap (λ (more : List Op). parts_for (node_entry n rows) ++ more) (each-same numbers (edited_at n rows) rows (λ m. parts-stay n m rows))

  -- behind others
  pub each-behind : (n : NodeId) (numbers : List NodeId) (rows : List NodeEntry) (old all : List Op) → old ++ each_changed (edited_entry what) (n ∷ numbers) rows ≡ all →
      (old ++ where_there (node_entry n rows) (change_parts (edited_entry what))) ++ each_changed (edited_entry what) numbers rows ≡ all
  each-behind n numbers rows old all is =
      append_assoc old (parts_for (node_entry n rows)) (each_changed (edited_entry what) numbers rows) ∙ ap (λ (more : List Op). old ++ more) (sym (each-next n numbers rows)) ∙ is

-- # the records that are set, and the handles that go

-- ## what is there, and what is not

-- the parts for what is there
pub there-parts : {A : Type 0} (f : A → List Op) (r : Result (Unit {0}) NoMemory) (later items : List Op) (o : Option A) (a : A) → Some a ≡ o → OnOk r (later ≡ items ++ f a) → OnOk r (later ≡ items ++ where_there o f)
there-parts f r later items o a is parts = subst (λ (x : Option _). OnOk r (later ≡ items ++ where_there x f)) is parts

-- there are none for what is not
pub none-parts : {A : Type 0} (f : A → List Op) (items : List Op) (o : Option A) → None ≡ o → items ≡ items ++ where_there o f
none-parts f items o is = subst (λ (x : Option _). items ≡ items ++ where_there x f) is (sym (append-nil items))

-- what was put is among those of which something is true
pub put-sound : {X : Type 0} (P : X → Type 0) (xs : List X) (i : ℕ) (x old : X) → Some old ≡ slice_get xs i → AllByRecursion P (slice_set xs i x) → P x
put-sound P xs i x old there all = all-at P (slice_set xs i x) i x all (set-here xs i x old (sym there))

-- and so is what was changed
pub changed-sound : {X : Type 0} (P : X → Type 0) (f : X → X) (xs : List X) (i : ℕ) (old : X) → Some old ≡ slice_get xs i → AllByRecursion P (change_at i f xs) → P (f old)
changed-sound P f xs i old there all = all-at P (change_at i f xs) i (f old) all (slice_get-change_at i f xs ∙ ap (option_map f) (sym there))

changed-if : {X : Type 0} (P : X → Type 0) (f : X → X) (xs : List X) (i : ℕ) → AllByRecursion P (change_at i f xs) → IfSome (slice_get xs i) (λ old. P (f old))
changed-if P f xs i all = by (slice_get xs i) refl where
  by : (o : Option _) → slice_get xs i ≡ o → IfSome o (λ old. P (f old))
  by None there = tt
  by (Some old) there = changed-sound P f xs i old (sym there) all

-- the changed record of a role is sound
pub role-fits : (change : RoleRecord → RoleRecord) (who : Role) (s : State) → HasSpellings (change_role change who s) → IfSome (role_in who s) (λ old. IsRole (change old))
role-fits change (Role.Launcher p) s spelled = changed-if IsRole change s.launchers p.0 spelled.launchers
role-fits change (Role.Janitor p) s spelled = changed-if IsRole change s.janitors p.0 spelled.janitors
role-fits change (Role.Requester q) s spelled = changed-if IsRole change s.requesters q.0 spelled.requesters
role-fits change Role.Reaper s spelled = tt

-- the parts for a role that is there
pub role-there : (change : RoleRecord → RoleRecord) (who : Role) (s : State) (r : Result (Unit {0}) NoMemory) (later items : List Op) (old kept : RoleRecord) → Some old ≡ role_in who s → kept ≡ change old →
    OnOk r (later ≡ items ++ where_there (place_of_role who) (λ p. set (role_text kept) p ∷ [])) → OnOk r (later ≡ items ++ role_parts change who s)
role-there change who s r later items old kept there is parts =
    subst (λ (o : Option RoleRecord). OnOk r (later ≡ items ++ where_there (place_of_role who) (λ p. where_there o (λ x. set (role_text (change x)) p ∷ [])))) there
    (subst (λ (k : RoleRecord). OnOk r (later ≡ items ++ where_there (place_of_role who) (λ p. set (role_text k) p ∷ []))) is parts)

-- what a deed changes is sound
pub acts-fit : (maker : Option Maker) (what : Option Deed) (m : Maker) (s : State) → maker ≡ Some m → what ≡ Some Deed.Acts → HasSpellings (with_deeds maker what s) → IfSome (role_in m.role s) (λ old. IsRole (one_more_act old))
acts-fit maker what m s by is spelled =
    role-fits one_more_act m.role s
    (subst (λ (o : Option Maker). HasSpellings (with_deeds o (Some Deed.Acts) s)) by (subst (λ (d : Option Deed). HasSpellings (with_deeds maker d s)) is spelled))

pub starts-fit : (maker : Option Maker) (what : Option Deed) (p : PoolId) (s : State) → what ≡ Some (Deed.StartsAndActs p) → HasSpellings (with_deeds maker what s) → IfSome (role_in (Role.Launcher p) s) (λ old. IsRole (one_more_act (one_more_start old)))
starts-fit maker what p s is spelled = role-fits (λ old. one_more_act (one_more_start old)) (Role.Launcher p) s (subst (λ (d : Option Deed). HasSpellings (with_deeds maker d s)) is spelled)

pub strikes-fit : (maker : Option Maker) (what : Option Deed) (who : Role) (counted : Bool) (s : State) → what ≡ Some (Deed.Strikes who counted) → HasSpellings (with_deeds maker what s) → IfSome (role_in who s) (λ old. IsRole (struck_unless counted old))
strikes-fit maker what who counted s is spelled = role-fits (struck_unless counted) who s (subst (λ (d : Option Deed). HasSpellings (with_deeds maker d s)) is spelled)

-- ## sessions

-- the role of a session that was begun may have a session
pub session-role : (s : State) (k : SessionId) (facts : SessionFacts) → AllByRecursion (λ f. IsSessionRole f.role) s.sessions → Some facts ≡ session_of k s → IsSessionRole facts.role
session-role s k facts all there = by (k.0 == 0) there where
  by : (b : Bool) → Some facts ≡ cond b None (slice_get s.sessions (k.0 - 1)) → IsSessionRole facts.role
  by true there = absurd cc
  by false there = all-at (λ (f : SessionFacts). IsSessionRole f.role) s.sessions (k.0 - 1) facts all (sym there)

-- ## handles

-- the part for a handle that is there or not
pub released-by : (j : JobId) (x : SemId) (handles : List (List JobId)) (b : Bool) (r : Result (Unit {0}) NoMemory) (later items : List Op) → b ≡ has_handle j handles x → OnOk r (later ≡ items ++ cond b (delete (Handle x j) ∷ []) []) → OnOk r (later ≡ items ++ released j x handles)
released-by j x handles b r later items is parts = subst (λ (d : Bool). OnOk r (later ≡ items ++ cond d (delete (Handle x j) ∷ []) [])) is parts

-- another semaphore keeps its handles
kept-handle : (f : List JobId → List JobId) (j : JobId) (x y : SemId) (handles : List (List JobId)) → (y.0 == x.0) ≡ false → has_handle j (change_at x.0 f handles) y ≡ has_handle j handles y
kept-handle f j x y handles apart =
    ap (λ (o : Option (List JobId)). is_among j (unwrap_or o [])) (slice_get-change_at_other x.0 y.0 f handles (λ same. absurd grind (arith, apart, same)))

any-after : (p : SemId → Bool) (earlier : List SemId) (x : SemId) → list_any p (earlier ++ x ∷ []) ≡ false → (list_any p earlier ≡ false) × (p x ≡ false)
any-after p [] x none = (refl, (or_parts (p x) false none).0)
any-after p (y ∷ earlier) x none =
    let here = or_parts (p y) (list_any p (earlier ++ x ∷ [])) none in
    let later = any-after p earlier x here.1 in
    (ap (λ (b : Bool). b || list_any p earlier) here.0 ∙ later.0, later.1)

taken-by : (labels semaphores tenants : ℕ) (earlier jobs : List Job) (at : ℕ) (job : Job) → EachAfter (StandsByOwner (λ (j : Job). j.requester.0) (IsJob labels semaphores tenants)) earlier jobs → slice_get jobs at ≡ Some job → EachAfter (IsTaken semaphores) [] job.semaphores
taken-by labels semaphores tenants earlier [] at job each there = absurd cc
taken-by labels semaphores tenants earlier (x ∷ jobs) zero job each there =
    let same : x ≡ job = cc in
    subst (λ (j : Job). EachAfter (IsTaken semaphores) [] j.semaphores) same each.0.own.taken
taken-by labels semaphores tenants earlier (x ∷ jobs) (suc at) job each there = taken-by labels semaphores tenants (earlier ++ x ∷ []) jobs at job each.1 there

releases-after : (n : ℕ) (j : JobId) (earlier semaphores : List SemId) (now handles : List (List JobId)) → EachAfter (IsTaken n) earlier semaphores → ((y : SemId) → list_any (λ s. y.0 == s.0) earlier ≡ false → has_handle j now y ≡ has_handle j handles y) →
    release_parts j semaphores now ≡ each_released j semaphores handles
releases-after n j earlier [] now handles taken same = refl
releases-after n j earlier (x ∷ semaphores) now handles taken same =
    let here : released j x now ≡ released j x handles = ap (λ (b : Bool). cond b (delete (Handle x j) ∷ []) []) (same x (not-true (list_any (λ (s : SemId). x.0 == s.0) earlier) taken.0.new)) in
    ap₂ (λ (a b : List Op). a ++ b) here
    (releases-after n j (earlier ++ x ∷ []) semaphores (change_at x.0 (without_handle j) now) handles taken.1
    (λ y is. let both = any-after (λ (s : SemId). y.0 == s.0) earlier x is in kept-handle (without_handle j) j x y now both.1 ∙ same y both.0))

-- a job's semaphores are apart, so the handles that go are those that it has
pub releases-read : (c : Configuration) (j : JobId) (job : Job) (handles : List (List JobId)) → IsSound c → slice_get c.jobs j.0 ≡ Some job → release_parts j job.semaphores handles ≡ each_released j job.semaphores handles
releases-read c j job handles sound there =
    releases-after (length c.semaphores) j [] job.semaphores handles handles (taken-by (length c.labels) (length c.semaphores) (length c.tenants) [] c.jobs j.0 job sound.demand.each_job there) (λ y is. refl)

-- the parts for a job of the configuration
pub handles-read : (c : Configuration) (j : JobId) (job : Job) (semaphores : List SemId) (handles : List (List JobId)) → IsSound c → Some job ≡ slice_get c.jobs j.0 → semaphores ≡ job.semaphores → each_released j semaphores handles ≡ release_parts j (semaphores_of c j) handles
handles-read c j job semaphores handles sound there is =
    ap (λ (list : List SemId). each_released j list handles) is
    ∙ sym (releases-read c j job handles sound (sym there))
    ∙ ap (λ (o : Option Job). release_parts j (option_map_or (λ (row : Job). row.semaphores) o []) handles) there

-- # what a stored state says of what grows

-- ## requests and nodes that are there

node-is : (n : NodeId) (nodes : List NodeEntry) (e : NodeEntry) → node_entry n nodes ≡ Some e → e.id ≡ n
node-is n nodes e there = ap (λ (number : ℕ). record { 0 = number }) (equal-numbers e.id.0 n.0 (find-passes (λ (x : NodeEntry). x.id.0 == n.0) nodes e there))

request-is : (r : RequestId) (requests : List RequestEntry) (e : RequestEntry) → request_entry r requests ≡ Some e → e.id ≡ r
request-is r requests e there = request-equal e.id r (find-passes (λ (x : RequestEntry). same_request x.id r) requests e there)

module _ (c : Configuration) (s : State) (t : TreeState) (stored : IsStored c s t) where
  -- the waits at a request's lock are its queue
  pub request-waits : (session : SessionId) (r : RequestId) (e : RequestEntry) → request_entry r s.requests ≡ Some e → list_any (is_waiting session) (under (RequestLock r) t) ≡ is_queued session e.queue
  request-waits session r e there =
      let queue = all-find (λ (x : RequestEntry). HasQueue (RequestLock x.id) x.queue t) (λ (x : RequestEntry). same_request x.id r) s.requests e stored.lays.request_locks.queues there in
      ap (λ (id : RequestId). list_any (is_waiting session) (under (RequestLock id) t)) (sym (request-is r s.requests e there))
      ∙ lock-any queue.next session (under (RequestLock e.id) t) e.queue queue.waits

  -- and so are those at a node's lock
  pub node-waits : (session : SessionId) (n : NodeId) (e : NodeEntry) → node_entry n s.nodes ≡ Some e → list_any (is_waiting session) (under (NodeLock n) t) ≡ is_queued session e.queue
  node-waits session n e there =
      let lock = all-find (HasNodeLock t) (λ (x : NodeEntry). x.id.0 == n.0) s.nodes e stored.lays.node_locks there in
      ap (λ (id : NodeId). list_any (is_waiting session) (under (NodeLock id) t)) (sym (node-is n s.nodes e there))
      ∙ lock-any lock.queue.next session (under (NodeLock e.id) t) e.queue lock.queue.waits

  -- a request that is there has a text
  pub grown-request-text : (r : RequestId) (e : RequestEntry) → request_entry r s.requests ≡ Some e → HasText r
  grown-request-text r e there =
      subst HasText (request-is r s.requests e there) (all-find (λ (x : RequestEntry). IsGood (Request x.id)) (λ (x : RequestEntry). same_request x.id r) s.requests e stored.carried.good.requests there)

-- ## handles

-- the handles that a job makes, of semaphores of which it has none
abbrev pub handle_parts : JobId → List SemId → List (List JobId) → List Op
handle_parts j semaphores handles = map (λ x. make [] (Handle x j)) (filter (λ x. not (has_handle j handles x)) semaphores)

one-more : (j : JobId) (x : SemId) (b : Bool) (first : List (List JobId)) (semaphores : List SemId) → has_handle j first x ≡ b → cond b [] (make [] (Handle x j) ∷ []) ++ handle_parts j semaphores first ≡ handle_parts j (x ∷ semaphores) first
one-more j x b first semaphores has = grind arith

-- the handles that a job makes one after another are those of semaphores of which it had none, if it
-- names no semaphore twice
pub acquire-new : (j : JobId) (count : ℕ) (earlier semaphores : List SemId) (handles first : List (List JobId)) → EachAfter (IsTaken count) earlier semaphores →
    ((y : SemId) → list_any (λ s. y.0 == s.0) earlier ≡ false → has_handle j handles y ≡ has_handle j first y) →
    acquire_parts j semaphores handles ≡ handle_parts j semaphores first
acquire-new j count earlier [] handles first each same = refl
acquire-new j count earlier (x ∷ semaphores) handles first each same =
    let rest = acquire-new j count (earlier ++ x ∷ []) semaphores (change_at x.0 (with_handle j) handles) first each.1
    (λ y none.
    let apart = any-after (λ (s : SemId). y.0 == s.0) earlier x none in
    kept-handle (with_handle j) j x y handles apart.1 ∙ same y apart.0) in
    ap (λ (b : Bool). cond b [] (make [] (Handle x j) ∷ []) ++ acquire_parts j semaphores (change_at x.0 (with_handle j) handles)) (same x (not-true (list_any (λ (s : SemId). x.0 == s.0) earlier) each.0.new))
    ∙ ap (λ (parts : List Op). cond (has_handle j first x) [] (make [] (Handle x j) ∷ []) ++ parts) rest
    ∙ one-more j x (has_handle j first x) first semaphores refl

-- the handles of the semaphores of a sound configuration's job
pub acquire-job : (c : Configuration) (j : JobId) (job : Job) (handles : List (List JobId)) → IsSound c → slice_get c.jobs j.0 ≡ Some job → acquire_parts j job.semaphores handles ≡ handle_parts j job.semaphores handles
acquire-job c j job handles sound there =
    acquire-new j (length c.semaphores) [] job.semaphores handles handles (taken-by (length c.labels) (length c.semaphores) (length c.tenants) [] c.jobs j.0 job sound.demand.each_job there) (λ y none. refl)

-- one semaphore more
pub handles-step : (items : List Op) (j : JobId) (x : SemId) (b : Bool) (handles : List (List JobId)) (semaphores : List SemId) → has_handle j handles x ≡ b →
    (items ++ cond b [] (make [] (Handle x j) ∷ [])) ++ handle_parts j semaphores handles ≡ items ++ handle_parts j (x ∷ semaphores) handles
handles-step items j x b handles semaphores has =
    append_assoc items (cond b [] (make [] (Handle x j) ∷ [])) (handle_parts j semaphores handles)
    ∙ ap (λ (parts : List Op). items ++ parts) (one-more j x b handles semaphores has)

-- ## parts put behind others

-- what follows from what a call promises of its success
pub on-ok : {A E : Type 0} {P Q : Type 0} (result : Result A E) → (P → Q) → OnOk result P → OnOk result Q
on-ok (Ok a) follows promise = follows promise
on-ok (Err e) follows promise = tt

-- a request's record and its lock
pub request-pushed : (before first after : List Op) (id : RequestId) (path bytes text : List ℕ) → first ≡ before ++ Op.Create path bytes PersistentSequential ∷ [] → path ≡ below (path_of Requests) (request_prefix id) → bytes ≡ text → after ≡ first ++ make [] (RequestLock id) ∷ [] →
    after ≡ before ++ request_parts id text
request-pushed before first after id path bytes text made named told locked =
    let created : Op.Create path bytes PersistentSequential ≡ Op.Create (below (path_of Requests) (request_prefix id)) text PersistentSequential = cc in
    locked
    ∙ ap (λ (items : List Op). items ++ make [] (RequestLock id) ∷ []) (made ∙ ap (λ (part : Op). before ++ part ∷ []) created)
    ∙ append_assoc before (Op.Create (below (path_of Requests) (request_prefix id)) text PersistentSequential ∷ []) (make [] (RequestLock id) ∷ [])

-- a node that has a record is there
pub node-there : (n : NodeId) (nodes : List NodeEntry) (kept : NodeRecord) → node_in n nodes ≡ Some kept → (e : NodeEntry) × ((node_entry n nodes ≡ Some e) × (e.kept ≡ kept))
node-there n nodes kept is = let row = from-map_some (λ (e : NodeEntry). e.kept) (node_entry n nodes) kept is in (row.0, (row.1, row.2))

-- a node that has none is not
pub node-away : (n : NodeId) (nodes : List NodeEntry) → node_in n nodes ≡ None → node_entry n nodes ≡ None
node-away n nodes is = by (node_entry n nodes) is where
  by : (o : Option NodeEntry) → option_map (λ (e : NodeEntry). e.kept) o ≡ None → o ≡ None
  by None none = refl
  by (Some e) some = absurd cc

-- the record with its request and tenant, and the maker's wait
pub allocation-pushed : (before first after : List Op) (maker : Option Maker) (m : Maker) (n : NodeId) (nodes : List NodeEntry) (e : NodeEntry) (r : RequestId) (tenant : Option TenantId) (text : List ℕ) → maker ≡ Some m → node_entry n nodes ≡ Some e → text ≡ node_text (allocated r tenant m.session e).kept → first ≡ before ++ set text (Node n) ∷ [] → after ≡ first ++ by_session maker (join_parts (NodeLock n) e.queue) →
    after ≡ before ++ by_session maker (λ session. where_there (node_entry n nodes) (allocate_parts r tenant session))
allocation-pushed before first after maker m n nodes e r tenant text by_maker there told put joined =
    let all : by_session maker (λ session. where_there (node_entry n nodes) (allocate_parts r tenant session)) ≡ allocate_parts r tenant m.session e =
    ap (λ (who : Option Maker). by_session who (λ session. where_there (node_entry n nodes) (allocate_parts r tenant session))) by_maker
    ∙ ap (λ (o : Option NodeEntry). where_there o (allocate_parts r tenant m.session)) there in
    let own : by_session maker (join_parts (NodeLock n) e.queue) ≡ join_parts (NodeLock n) e.queue m.session = ap (λ (who : Option Maker). by_session who (join_parts (NodeLock n) e.queue)) by_maker in
    let id : n ≡ e.id = sym (node-is n nodes e there) in
    joined
    ∙ ap (λ (items : List Op). items ++ by_session maker (join_parts (NodeLock n) e.queue)) put
    ∙ append_assoc before (set text (Node n) ∷ []) (by_session maker (join_parts (NodeLock n) e.queue))
    ∙ ap (λ (parts : List Op). before ++ set text (Node n) ∷ parts) own
    ∙ ap (λ (bytes : List ℕ). before ++ set bytes (Node n) ∷ join_parts (NodeLock n) e.queue m.session) told
    ∙ ap (λ (number : NodeId). before ++ set (node_text (allocated r tenant m.session e).kept) (Node number) ∷ join_parts (NodeLock number) e.queue m.session) id
    ∙ sym (ap (λ (parts : List Op). before ++ parts) all)

-- no parts for a node that is not there
pub allocation-none : (before : List Op) (maker : Option Maker) (m : Maker) (n : NodeId) (nodes : List NodeEntry) (r : RequestId) (tenant : Option TenantId) → maker ≡ Some m → node_entry n nodes ≡ None →
    before ≡ before ++ by_session maker (λ session. where_there (node_entry n nodes) (allocate_parts r tenant session))
allocation-none before maker m n nodes r tenant by_maker away =
    let none : by_session maker (λ session. where_there (node_entry n nodes) (allocate_parts r tenant session)) ≡ [] =
    ap (λ (who : Option Maker). by_session who (λ session. where_there (node_entry n nodes) (allocate_parts r tenant session))) by_maker
    ∙ ap (λ (o : Option NodeEntry). where_there o (allocate_parts r tenant m.session)) away in
    sym (ap (λ (parts : List Op). before ++ parts) none ∙ append-nil before)
