-- a queue with one session fewer
use Rattle.np_lock.proofs.Prelude.{AllByRecursion, Answers, Any, Bool, Deletes, Err, HasParts-below, IsGivenOut, IsLock, IsQueue, IsTree, IsWhole, List, Makes, NoMemory, Node, None, NonePass, Ok, Option, OwnerLives, Path, Refused, Rises, Rises-filter, Row, Seen, Some, TreeFault, TreeRefusal, TreeState, Wait, after_delete, ahead_in, all-filter, all-find, all-weaker, ap, apart-below, arith, at_path, below, by_bool, bytes_eq-from, child_name, children_of, children_of-ephemeral, cond, counter_at, delete-changes, delete_answer, deletes-show, eqb-true, false, fault_of, filter, filter-not_none, find, find-passes, find_at, find_named, find_owned, is_at, is_element, is_element-numbered, is_named, is_path, is_path-below, is_some, length, length-map, ltb-false, ltb-true, map, name_fault, name_of, nat_lt, nat_tests, need, not, of_others, option_map, other-name, other-name_back, parent_of, path_in, position_or_len, prefix, queue_at, refl, row_before, row_of, row_of_wait, rows-rise, rows_at, seen-is-row, seen_at, seen_in, seen_of, slice_get, slice_get-get_or, slice_get_past, subst, suc, sym, ten_digits_of, true, unspent, without, zero, ℕ, [], ◌++◌, ◌+◌, ◌<◌, ◌==◌, ◌∙◌, ◌∷◌, ◌≡◌, ◌≤◌}
use Rattle.np_lock.proofs.WaitLemmas.{filter-shown, queue-waits, shown-at}
use Rattle.np_lock.specs.Calls as calls

abbrev pub of_session : ℕ → Wait → Bool
of_session session w = w.session == session

abbrev pub name_of_wait : Wait → List ℕ
name_of_wait w = prefix ++ ten_digits_of w.number

is_element-wait : (w : Wait) → is_element (name_of_wait w) ≡ true
is_element-wait w = is_element-numbered prefix w.number refl

-- ## the session's wait

pub found-wait : (session : ℕ) (waits : List Wait) → find_owned session (map row_of_wait waits) ≡ option_map row_of_wait (find (of_session session) waits)
found-wait session [] = refl
found-wait session (w ∷ waits) = by_bool (λ b. cond b (Some (row_of_wait w)) (find_owned session (map row_of_wait waits)) ≡ option_map row_of_wait (cond b (Some w) (find (of_session session) waits))) (w.session == session)
    (λ _. refl) (λ _. found-wait session waits)

-- the node of a session in the queue
pub record IsWait (t : TreeState) (session : ℕ) (dir path : List ℕ) (waits : List Wait) (w : Wait) : Type 0 where
  pub found : find (of_session session) waits ≡ Some w
  pub below : path ≡ below dir (name_of_wait w)

wait-by : (t : TreeState) (session : ℕ) (dir path : List ℕ) (waits : List Wait) (o : Option Wait) → find (of_session session) waits ≡ o → option_map (λ (row : Row). below dir row.name) (option_map row_of_wait o) ≡ Some path → (w : Wait) × IsWait t session dir path waits w
wait-by t session dir path waits None there is = absurd cc
wait-by t session dir path waits (Some w) there is = (w, record { found = there; below = let e : below dir (name_of_wait w) ≡ path = cc in sym e })

IsWait-path : (t : TreeState) (session : ℕ) (dir path : List ℕ) (waits : List Wait) → IsQueue t dir waits → path_in t session dir ≡ Some path → (w : Wait) × IsWait t session dir path waits w
IsWait-path t session dir path waits queue is =
    wait-by t session dir path waits (find (of_session session) waits) refl
    (sym (ap (option_map (λ (row : Row). below dir row.name)) (ap (find_owned session) queue.rows ∙ found-wait session waits)) ∙ is)

-- ## names distinguish the rows

-- what is true of all rows is true of a wait among them
all-waits : (P : Row → Type 0) (waits : List Wait) → AllByRecursion P (map row_of_wait waits) → AllByRecursion (λ (w : Wait). P (row_of_wait w)) waits
all-waits P [] all = tt
all-waits P (w ∷ waits) all = (all.0, all-waits P waits all.1)

-- ## the row of the session's name

named-by : (session : ℕ) (v w : Wait) (waits : List Wait) (b : Bool) → (v.session == session) ≡ b → cond b (Some v) (find (of_session session) waits) ≡ Some w → AllByRecursion (λ row. row_before (row_of_wait v) row ≡ true) (map row_of_wait waits) →
    (find (of_session session) waits ≡ Some w → find_named (name_of_wait w) (map row_of_wait waits) ≡ Some (row_of_wait w)) → find_named (name_of_wait w) (row_of_wait v ∷ map row_of_wait waits) ≡ Some (row_of_wait w)
named-by session v w waits true is there first later =
    let same : v ≡ w = cc in
    let here : is_named (name_of_wait w) (row_of_wait v) ≡ true = bytes_eq-from (name_of_wait v) (name_of_wait w) (ap name_of_wait same) in
    rw here (ap (λ (x : Wait). Some (row_of_wait x)) same)
named-by session v w waits false is there first later =
    let before = all-find (λ (x : Wait). row_before (row_of_wait v) (row_of_wait x) ≡ true) (of_session session) waits w (all-waits (λ row. row_before (row_of_wait v) row ≡ true) waits first) there in
    let other : is_named (name_of_wait w) (row_of_wait v) ≡ false = other-name (row_of_wait v) (row_of_wait w) before in
    rw other (later there)

named-wait : (session : ℕ) (w : Wait) (waits : List Wait) → Rises row_before (map row_of_wait waits) → find (of_session session) waits ≡ Some w → find_named (name_of_wait w) (map row_of_wait waits) ≡ Some (row_of_wait w)
named-wait session w [] rises there = absurd cc
named-wait session w (v ∷ waits) rises there = named-by session v w waits (v.session == session) refl there rises.0 (named-wait session w waits rises.1)

-- ## the rows without it

abbrev unnamed : List ℕ → Row → Bool
unnamed name row = not (is_named name row)

abbrev pub left_by : ℕ → List Wait → List Wait
left_by session waits = filter (λ (w : Wait). not (of_session session w)) waits

gone-by : (session : ℕ) (v w : Wait) (waits : List Wait) (b : Bool) → (v.session == session) ≡ b → cond b (Some v) (find (of_session session) waits) ≡ Some w → AllByRecursion (λ row. row_before (row_of_wait v) row ≡ true) (map row_of_wait waits) → AllByRecursion (λ (x : Wait). of_others v x ≡ true) waits →
    (find (of_session session) waits ≡ Some w → filter (unnamed (name_of_wait w)) (map row_of_wait waits) ≡ map row_of_wait (left_by session waits)) →
    filter (unnamed (name_of_wait w)) (row_of_wait v ∷ map row_of_wait waits) ≡ map row_of_wait (cond (not b) (v ∷ left_by session waits) (left_by session waits))
gone-by session v w waits true is there first others later =
    let same : v ≡ w = cc in
    let here : is_named (name_of_wait w) (row_of_wait v) ≡ true = bytes_eq-from (name_of_wait v) (name_of_wait w) (ap name_of_wait same) in
    let owner : v.session ≡ session = eqb-true v.session session is in
    let apart : AllByRecursion (λ row. is_named (name_of_wait w) row ≡ false) (map row_of_wait waits) =
    subst (λ (x : Wait). AllByRecursion (λ row. is_named (name_of_wait x) row ≡ false) (map row_of_wait waits)) same
    (all-weaker (λ row. row_before (row_of_wait v) row ≡ true) (λ row. is_named (name_of_wait v) row ≡ false) (λ row before. other-name_back (row_of_wait v) row before) (map row_of_wait waits) first) in
    let alone : NonePass (of_session session) waits = all-weaker (λ (x : Wait). of_others v x ≡ true) (λ (x : Wait). of_session session x ≡ false) (λ x other. not-session v x session owner other) waits others in
    rw here (filter-not_none (is_named (name_of_wait w)) (map row_of_wait waits) apart ∙ sym (ap (map row_of_wait) (filter-not_none (of_session session) waits alone))) where
      turned : (a b : ℕ) → not (a == b) ≡ true → (b == a) ≡ false
      turned a b other = grind (arith, nat_tests)

      not-session : (a x : Wait) (s : ℕ) → a.session ≡ s → of_others a x ≡ true → of_session s x ≡ false
      not-session a x s owner other = ap (λ (k : ℕ). x.session == k) (sym owner) ∙ turned a.session x.session other
gone-by session v w waits false is there first others later =
    let before = all-find (λ (x : Wait). row_before (row_of_wait v) (row_of_wait x) ≡ true) (of_session session) waits w (all-waits (λ row. row_before (row_of_wait v) row ≡ true) waits first) there in
    let other : is_named (name_of_wait w) (row_of_wait v) ≡ false = other-name (row_of_wait v) (row_of_wait w) before in
    rw other (ap (λ (rows : List Row). row_of_wait v ∷ rows) (later there))

rows-left : (session : ℕ) (w : Wait) (waits : List Wait) → Rises row_before (map row_of_wait waits) → Rises of_others waits → find (of_session session) waits ≡ Some w → filter (unnamed (name_of_wait w)) (map row_of_wait waits) ≡ map row_of_wait (left_by session waits)
rows-left session w [] rises once there = absurd cc
rows-left session w (v ∷ waits) rises once there = gone-by session v w waits (v.session == session) refl there rises.0 once.0 (rows-left session w waits rises.1 once.1)

-- ## the delete

seen-wait : (t : TreeState) (session : ℕ) (dir path : List ℕ) (waits : List Wait) (w : Wait) → is_path dir ≡ true → IsWhole t.nodes → IsQueue t dir waits → IsWait t session dir path waits w → seen_at t path ≡ Some (record { bytes = []; owner = Some session })
seen-wait t session dir path waits w is whole queue wait =
    let name = name_of_wait w in
    let parts = HasParts-below dir name is (is_element-wait w) in
    let rises = subst (Rises row_before) queue.rows (rows-rise t dir whole) in
    let owner : w.session ≡ session = eqb-true w.session session (find-passes (of_session session) waits w wait.found) in
    ap (seen_at t) wait.below
    ∙ seen-is-row t (below dir name) dir whole (is_path-below dir name is (is_element-wait w)) parts.above
    ∙ ap (option_map seen_in) (ap (find_named (name_of (below dir name))) queue.rows ∙ ap (λ (n : List ℕ). find_named n (map row_of_wait waits)) parts.last ∙ named-wait session w waits rises wait.found)
    ∙ ap (λ (s : ℕ). Some (record { bytes = []; owner = Some s })) owner

-- what is known of a session that leaves
pub record Leaves (t : TreeState) (session : ℕ) (dir path : List ℕ) : Type 0 where
  pub answer : delete_answer t session path Any ≡ unspent t
  pub lock : delete_answer t session path Any ≡ Ok tt → IsLock (after_delete t path) dir
  pub queue : delete_answer t session path Any ≡ Ok tt → queue_at (after_delete t path) dir ≡ without (queue_at t dir) session

owned-node : (o : Option Node) (seen : Seen) (session : ℕ) → option_map seen_of o ≡ Some seen → seen.owner ≡ Some session → (n : Node) × (o ≡ Some n) × (n.facts.owner ≡ Some session)
owned-node None seen session is owner = absurd cc
owned-node (Some n) seen session is owner = (n, refl, (let e : seen_of n ≡ seen = cc in ap (λ (s : Seen). s.owner) e ∙ owner))

pub left-sessions : (session : ℕ) (waits : List Wait) → map (λ (w : Wait). w.session) (left_by session waits) ≡ without (map (λ (w : Wait). w.session) waits) session
left-sessions session waits = sym (filter-shown (λ (w : Wait). w.session) (λ s. not (s == session)) waits)

apart-wait : (dir name : List ℕ) → is_path dir ≡ true → is_element name ≡ true → dir ≡ below dir name → ⊥
apart-wait dir name is element same = apart-below dir (below dir name) (is_path-below dir name is element) (HasParts-below dir name is element).above (sym same)

IsQueue-deleted : (t u : TreeState) (session : ℕ) (dir path : List ℕ) (waits : List Wait) (w : Wait) → is_path dir ≡ true → IsWhole t.nodes → IsQueue t dir waits → IsWait t session dir path waits w → Deletes dir (name_of_wait w) t u → IsQueue u dir (left_by session waits)
IsQueue-deleted t u session dir path waits w is whole queue wait deletes =
    let rises = subst (Rises row_before) queue.rows (rows-rise t dir whole) in
    let counter = deletes.other_counter dir (apart-wait dir (name_of_wait w) is (is_element-wait w)) in
    record {
      rows = deletes.rows ∙ ap (filter (unnamed (name_of_wait w))) queue.rows ∙ rows-left session w waits rises queue.once wait.found;
      given = subst (λ (o : Option ℕ). AllByRecursion (IsGivenOut o) (left_by session waits)) (sym counter) (all-filter (IsGivenOut (counter_at t dir)) (λ (v : Wait). not (of_session session v)) waits queue.given);
      once = Rises-filter of_others (λ (v : Wait). not (of_session session v)) waits queue.once;
    }

pub Leaves-path : (t : TreeState) (session : ℕ) (dir path : List ℕ) → is_path dir ≡ true → IsTree t → IsLock t dir → path_in t session dir ≡ Some path → Leaves t session dir path
Leaves-path t session dir path is tree lock there =
    let waits : List Wait = lock.0 in
    let queue : IsQueue t dir waits = lock.1 in
    let one = IsWait-path t session dir path waits queue there in
    let w : Wait = one.0 in
    let name = name_of_wait w in
    let parts = HasParts-below dir name is (is_element-wait w) in
    let proper : is_path path ≡ true = ap is_path one.1.below ∙ is_path-below dir name is (is_element-wait w) in
    let above : parent_of path ≡ Some dir = ap parent_of one.1.below ∙ parts.above in
    let last : name_of path ≡ name = ap name_of one.1.below ∙ parts.last in
    let seen = seen-wait t session dir path waits w is tree.whole queue one.1 in
    let node = owned-node (at_path t.nodes path) (record { bytes = []; owner = Some session }) session seen refl in
    let live = subst (OwnerLives t.live) node.2 (all-find (λ (n : Node). OwnerLives t.live n.facts.owner) (is_at path) t.nodes node.0 tree.owners node.1) in
    let bare : rows_at t path ≡ [] = ap (map row_of) (children_of-ephemeral t.nodes path node.0 session tree.whole.stand node.1 node.2) in
    let left = λ (ok : delete_answer t session path Any ≡ Ok tt).
    IsQueue-deleted t (after_delete t path) session dir path waits w is tree.whole queue one.1
    (subst (λ (n : List ℕ). Deletes dir n t (after_delete t path)) last (deletes-show t session path dir Any tree.whole proper above ok)) in
    record {
      answer = delete-changes t session path dir (record { bytes = []; owner = Some session }) live above seen bare;
      lock = λ ok. (left_by session waits, left ok);
      queue = λ ok. queue-waits (after_delete t path) dir (left_by session waits) (left ok) ∙ left-sessions session waits ∙ sym (ap (λ (q : List ℕ). without q session) (queue-waits t dir waits queue));
    }

-- ## the path by its place

name-by : (o : Option Node) (p : Option Wait) → option_map row_of o ≡ option_map row_of_wait p → option_map name_of_wait p ≡ option_map (λ (n : Node). name_of n.path) o
name-by None None same = refl
name-by (Some n) (Some w) same = let one : row_of n ≡ row_of_wait w = cc in sym (ap (λ (r : Row). Some r.name) one)
name-by o p same = absurd cc

names-by : (nodes : List Node) (waits : List Wait) (at : ℕ) → map row_of nodes ≡ map row_of_wait waits → option_map name_of_wait (slice_get waits at) ≡ option_map (λ (n : Node). name_of n.path) (slice_get nodes at)
names-by nodes waits at same = name-by (slice_get nodes at) (slice_get waits at) (shown-at nodes waits at same)

-- the sessions' test is that of the waits
tests-same : (session : ℕ) (waits : List Wait) → position_or_len (λ s. s == session) (map (λ (w : Wait). w.session) waits) ≡ position_or_len (of_session session) waits
tests-same session [] = refl
tests-same session (w ∷ waits) = ap (λ (k : ℕ). cond (not (w.session == session)) (1 + k) 0) (tests-same session waits)

place-some : (k n at : ℕ) → cond (nat_lt k n) (Some k) None ≡ Some at → (k ≡ at) × (at < n)
place-some k n at is = by_bool (λ b. nat_lt k n ≡ b → cond b (Some k) None ≡ Some at → (k ≡ at) × (at < n)) (nat_lt k n)
    (λ _ less there. let same : k ≡ at = cc in (same, omega (arith, same, ltb-true k n less))) (λ _ _ there. absurd cc) refl is

place-none : (k n : ℕ) → cond (nat_lt k n) (Some k) None ≡ None → n ≤ k
place-none k n none = grind (arith, nat_tests)

found-at : (session : ℕ) (waits : List Wait) (at : ℕ) → ahead_in (map (λ (w : Wait). w.session) waits) session ≡ Some at → find (of_session session) waits ≡ slice_get waits at
found-at session waits at is =
    let place = place-some (position_or_len (λ s. s == session) (map (λ (w : Wait). w.session) waits)) (length (map (λ (w : Wait). w.session) waits)) at is in
    find_at (of_session session) waits ∙ ap (slice_get waits) (sym (tests-same session waits) ∙ place.0)

found-none : (session : ℕ) (waits : List Wait) → ahead_in (map (λ (w : Wait). w.session) waits) session ≡ None → find (of_session session) waits ≡ None
found-none session waits is =
    let past = place-none (position_or_len (λ s. s == session) (map (λ (w : Wait). w.session) waits)) (length (map (λ (w : Wait). w.session) waits)) is in
    let same = tests-same session waits in
    let long = length-map waits (λ (w : Wait). w.session) in
    find_at (of_session session) waits ∙ slice_get_past waits (position_or_len (of_session session) waits) (omega arith)

path-found : (t : TreeState) (session : ℕ) (dir : List ℕ) (waits : List Wait) → IsQueue t dir waits → path_in t session dir ≡ option_map (λ (row : Row). below dir row.name) (option_map row_of_wait (find (of_session session) waits))
path-found t session dir waits queue = ap (option_map (λ (row : Row). below dir row.name)) (ap (find_owned session) queue.rows ∙ found-wait session waits)

named-path : (dir : List ℕ) (o : Option Wait) → option_map (λ (row : Row). below dir row.name) (option_map row_of_wait o) ≡ option_map (below dir) (option_map name_of_wait o)
named-path dir None = refl
named-path dir (Some w) = refl

pub path-at : (t : TreeState) (session : ℕ) (dir : List ℕ) (at : ℕ) (name : List ℕ) → IsLock t dir → ahead_in (queue_at t dir) session ≡ Some at → child_name t dir at ≡ Some name → path_in t session dir ≡ Some (below dir name)
path-at t session dir at name lock ahead is =
    path-found t session dir lock.0 lock.1
    ∙ ap (λ (o : Option Wait). option_map (λ (row : Row). below dir row.name) (option_map row_of_wait o)) (found-at session lock.0 at (sym (ap (λ (q : List ℕ). ahead_in q session) (queue-waits t dir lock.0 lock.1)) ∙ ahead))
    ∙ named-path dir (slice_get lock.0 at)
    ∙ ap (option_map (below dir)) (names-by (children_of t.nodes dir) lock.0 at lock.1.rows ∙ is)

pub path-none : (t : TreeState) (session : ℕ) (dir : List ℕ) → IsLock t dir → ahead_in (queue_at t dir) session ≡ None → path_in t session dir ≡ None
path-none t session dir lock ahead =
    path-found t session dir lock.0 lock.1
    ∙ ap (λ (o : Option Wait). option_map (λ (row : Row). below dir row.name) (option_map row_of_wait o)) (found-none session lock.0 (sym (ap (λ (q : List ℕ). ahead_in q session) (queue-waits t dir lock.0 lock.1)) ∙ ahead))

-- a name in the queue is an element
element-by : (waits : List Wait) (at : ℕ) (name : List ℕ) → option_map name_of_wait (slice_get waits at) ≡ Some name → is_element name ≡ true
element-by [] at name is = absurd cc
element-by (w ∷ waits) zero name is = let same : name_of_wait w ≡ name = cc in ap is_element (sym same) ∙ is_element-wait w
element-by (w ∷ waits) (suc at) name is = element-by waits at name is

pub is_element-child : (t : TreeState) (dir : List ℕ) (at : ℕ) (name : List ℕ) → IsLock t dir → child_name t dir at ≡ Some name → is_element name ≡ true
is_element-child t dir at name lock is = element-by lock.0 at name (names-by (children_of t.nodes dir) lock.0 at lock.1.rows ∙ is)

pub path-some : (t : TreeState) (session : ℕ) (dir : List ℕ) (at : ℕ) → IsLock t dir → ahead_in (queue_at t dir) session ≡ Some at → is_some (path_in t session dir) ≡ true
path-some t session dir at lock ahead =
    let waits : List Wait = lock.0 in
    let is = sym (ap (λ (q : List ℕ). ahead_in q session) (queue-waits t dir waits lock.1)) ∙ ahead in
    let place = place-some (position_or_len (λ s. s == session) (map (λ (w : Wait). w.session) waits)) (length (map (λ (w : Wait). w.session) waits)) at is in
    let within = place.1 in
    let long = length-map waits (λ (w : Wait). w.session) in
    let inside : at < length waits = omega arith in
    let none : Wait = record { number = 0; session = 0 } in
    ap is_some (path-found t session dir waits lock.1)
    ∙ ap (λ (o : Option Wait). is_some (option_map (λ (row : Row). below dir row.name) (option_map row_of_wait o))) (found-at session waits at is ∙ slice_get-get_or waits at none inside)

-- an element is the name of a child
pub child-makes : (name text : List ℕ) (path : Path) → is_element name ≡ true → Makes (name_fault name) text (Ok path) → path ≡ text
child-makes name text path is makes = subst (λ (b : Bool). Makes (cond b None (Some 0)) text (Ok path)) is makes

-- the delete is refused only because there is no change number left
spent-by : (changes : ℕ) (refusal : TreeRefusal) (b : Bool) → nat_lt changes 18_446_744_073_709_551_615 ≡ b → changes ≤ 18_446_744_073_709_551_615 → need b TreeRefusal.ChangesSpent ≡ Err refusal → (refusal ≡ TreeRefusal.ChangesSpent) × (changes ≡ 18_446_744_073_709_551_615)
spent-by changes refusal true is most refused = absurd cc
spent-by changes refusal false is most refused = (cc, (let past = ltb-false changes 18_446_744_073_709_551_615 is in omega arith))

pub leave-refused : (t : TreeState) (session : ℕ) (dir path : List ℕ) (f : TreeFault) → IsTree t → Leaves t session dir path → Answers (Err f) (delete_answer t session path Any) → calls.Leaves t.changes (Err (fault_of f))
leave-refused t session dir path NoMemory tree leaves answer = tt
leave-refused t session dir path (Refused refusal) tree leaves answer =
    spent-by t.changes refusal (nat_lt t.changes 18_446_744_073_709_551_615) refl tree.last (sym leaves.answer ∙ answer)
