-- what is always true of nodes and marks, after each change and after a session's end
use Rattle.np_tree_nodes.proofs.Prelude.{by_bool, length-map, length-filter-insert, length-filter-remove, all-insert, all-remove, node_before, Take, TakesMark, AllByRecursion, AllPaths, AreRanked, Bool, Equal, HasRoom, IsKept, IsPartitionPoint-rises, IsSorted, IsSplit, IsSplit-rises, IsTotalOrder, List, Mark, MarkEphemerals, Node, None, NonePass, Nothing, Option, Ordering, Put, Rises-insert, Rises-keys, Rises-remove, Some, Step, above-apart, after_loss, after_step, all-from_at, all-keys, all-weaker, and-apart, and_left, and_parts, and_right, ap, arith, at_path, bytes_eq, bytes_eq-apart, change_node, children_of, cond, eq-eqb, eqb-true, exact_bytes, false, false_from_ne_true, filter, filter-map, filter-not_none, filter-remove, find-change_first, find-insert, find-none, find-remove, found-change_first, insert, is_at, is_child, is_ephemeral_of, is_lt, is_mark, is_owned, is_owner, is_parent, is_path, length, length-filter-filter, list_any, list_any-insert, list_any-map, list_any-none, list_any-remove, list_any-there, lit≤, map, map-each, map-keys, map-map, map-same, mark_before, mark_place, nat_cmp, nat_cmp_total, nat_list_cmp_total, nat_tests, new_mark, nodes_after_end, none-find, none-list_any, none-remove, not, on_total, option_map, ordering_then, parent_of, path_before, place_of, prefix_len, prefix_len-le-length, refl, remove, root_node, slice_cmp, slice_get, slice_get-map, subst, suc, sym, then_total, true, without_child, ℕ, [], ◌&&◌, ◌+◌, ◌<◌, ◌==◌, ◌∙◌, ◌∷◌, ◌≡◌, ◌≤◌}
use Rattle.np_tree_nodes.proofs.PlaceLemmas.{IsSorted-insert, at_path-gone, at_path-there, bytes_eq-from, bytes_eq-is, later-others, lt-itself, lt-neither, lt-one_way, lt-trans, then-Equal}

-- # changes that keep each node's path

-- the paths of nodes
abbrev pub paths_of : List Node → List (List ℕ)
paths_of nodes = map (λ n. n.path) nodes

-- the change keeps the path
abbrev pub KeepsPath : (Node → Node) → Type 0
KeepsPath f = (n : Node) → (f n).path ≡ n.path

-- the change keeps the owner
abbrev pub KeepsOwner : (Node → Node) → Type 0
KeepsOwner f = (n : Node) → (f n).facts.owner ≡ n.facts.owner

pub paths_of-map : (f : Node → Node) → KeepsPath f → (nodes : List Node) → paths_of (map f nodes) ≡ paths_of nodes
paths_of-map f keeps nodes = sym (map-keys (λ n. n.path) f nodes keeps)

pub paths_of-change_node : (p : List ℕ) (f : Node → Node) → KeepsPath f → (nodes : List Node) → paths_of (change_node p f nodes) ≡ paths_of nodes
paths_of-change_node p f keeps [] = refl
paths_of-change_node p f keeps (n ∷ nodes) = grind (arith, keeps n, paths_of-change_node p f keeps nodes)

-- ## what the paths alone decide

pub AllPaths-paths : (ns ms : List Node) → paths_of ns ≡ paths_of ms → AllPaths ns → AllPaths ms
AllPaths-paths ns ms same all = all-keys (λ n. n.path) (λ p. is_path p ≡ true) ns ms same all

pub IsSorted-paths : (ns ms : List Node) → paths_of ns ≡ paths_of ms → IsSorted ns → IsSorted ms
IsSorted-paths ns ms same sorted = Rises-keys path_before (λ n. n.path) ns ms same sorted

-- a count up to the first path that fails, and how many paths pass
prefix_len-paths : (p : List ℕ → Bool) (nodes : List Node) → prefix_len (λ n. p n.path) nodes ≡ prefix_len p (paths_of nodes)
prefix_len-paths p [] = refl
prefix_len-paths p (n ∷ nodes) = ap (λ (k : ℕ). cond (p n.path) (1 + k) 0) (prefix_len-paths p nodes)

length-filter-paths : (p : List ℕ → Bool) (nodes : List Node) → length (filter (λ n. p n.path) nodes) ≡ length (filter p (paths_of nodes))
length-filter-paths p [] = refl
length-filter-paths p (n ∷ nodes) = grind (arith, length-filter-paths p nodes)

-- how many children a node has
pub length-children-paths : (p : List ℕ) (ns ms : List Node) → paths_of ns ≡ paths_of ms → length (children_of ns p) ≡ length (children_of ms p)
length-children-paths p ns ms same =
    let child : List ℕ → Bool = λ q. is_parent p (parent_of q) in length-filter-paths child ns ∙ ap (λ ps. length (filter child ps)) same ∙ sym (length-filter-paths child ms)

pub length-paths : (ns ms : List Node) → paths_of ns ≡ paths_of ms → length ns ≡ length ms
length-paths ns ms same = sym (length-map (λ n. n.path) ns) ∙ ap length same ∙ length-map (λ n. n.path) ms

-- whether there is a node at a path
pub at_path-paths-none : (p : List ℕ) (ns ms : List Node) → paths_of ns ≡ paths_of ms → at_path ns p ≡ None → at_path ms p ≡ None
at_path-paths-none p ns ms same none = find-none (is_at p) ms (all-keys (λ n. n.path) (λ q. bytes_eq q p ≡ false) ns ms same (none-find (is_at p) ns none))

-- ## a change at a path

pub IsSorted-change_node : (p : List ℕ) (f : Node → Node) → KeepsPath f → (nodes : List Node) → IsSorted nodes → IsSorted (change_node p f nodes)
IsSorted-change_node p f keeps nodes sorted = IsSorted-paths nodes (change_node p f nodes) (sym (paths_of-change_node p f keeps nodes)) sorted

pub AllPaths-change_node : (p : List ℕ) (f : Node → Node) → KeepsPath f → (nodes : List Node) → AllPaths nodes → AllPaths (change_node p f nodes)
AllPaths-change_node p f keeps nodes paths = AllPaths-paths nodes (change_node p f nodes) (sym (paths_of-change_node p f keeps nodes)) paths

pub IsSorted-map : (f : Node → Node) → KeepsPath f → (nodes : List Node) → IsSorted nodes → IsSorted (map f nodes)
IsSorted-map f keeps nodes sorted = IsSorted-paths nodes (map f nodes) (sym (paths_of-map f keeps nodes)) sorted

pub AllPaths-map : (f : Node → Node) → KeepsPath f → (nodes : List Node) → AllPaths nodes → AllPaths (map f nodes)
AllPaths-map f keeps nodes paths = AllPaths-paths nodes (map f nodes) (sym (paths_of-map f keeps nodes)) paths

pub place_of-change_node : (q p : List ℕ) (f : Node → Node) → KeepsPath f → (nodes : List Node) → place_of q (change_node p f nodes) ≡ place_of q nodes
place_of-change_node q p f keeps nodes =
    prefix_len-paths (λ r. path_before r q) (change_node p f nodes) ∙ ap (prefix_len (λ r. path_before r q)) (paths_of-change_node p f keeps nodes) ∙ sym (prefix_len-paths (λ r. path_before r q) nodes)

-- the changed node is found in its place
pub at_path-change_here : (p : List ℕ) (f : Node → Node) → KeepsPath f → (nodes : List Node) (n : Node) → at_path nodes p ≡ Some n → at_path (change_node p f nodes) p ≡ Some (f n)
at_path-change_here p f keeps nodes n found = find-change_first (is_at p) f (λ m. ap (λ (q : List ℕ). bytes_eq q p) (keeps m)) nodes n found

-- another node stays
pub at_path-change_other : (p q : List ℕ) (f : Node → Node) → KeepsPath f → (p ≡ q → ⊥) → (nodes : List Node) → at_path (change_node p f nodes) q ≡ at_path nodes q
at_path-change_other p q f keeps other [] = refl
at_path-change_other p q f keeps other (m ∷ nodes) = grind (arith, keeps m, bytes_eq-is m.path p, bytes_eq-is m.path q, other, at_path-change_other p q f keeps other nodes)

-- # marks in their order, and each is an ephemeral's

-- ## the order of marks

abbrev pub pair_cmp : ℕ × List ℕ → ℕ × List ℕ → Ordering
pair_cmp x y = ordering_then (nat_cmp x.0 y.0) (slice_cmp nat_cmp x.1 y.1)

pair_cmp_total : IsTotalOrder pair_cmp
pair_cmp_total = then_total (on_total (λ (x : ℕ × List ℕ). x.0) nat_cmp_total) (on_total (λ (x : ℕ × List ℕ). x.1) nat_list_cmp_total)

abbrev pub key_of : Mark → ℕ × List ℕ
key_of m = (m.session, m.path)

-- whether a mark comes before another
abbrev pub ranks_before : Mark → Mark → Bool
ranks_before m n = mark_before n.session n.path m

ranks-trans : (session : ℕ) (path : List ℕ) (m n : Mark) → ranks_before m n ≡ true → mark_before session path n ≡ true → mark_before session path m ≡ true
ranks-trans session path m n first second = lt-trans pair_cmp_total (key_of m) (key_of n) (session, path) first second

ranks-one_way : (m n : Mark) → ranks_before m n ≡ true → ranks_before n m ≡ false
ranks-one_way m n first = lt-one_way pair_cmp_total (key_of m) (key_of n) first

-- ### a session's mark of a path

is_mark-is : (session : ℕ) (path : List ℕ) (mark : Mark) → is_mark session path mark ≡ true → (mark.session ≡ session) × (mark.path ≡ path)
is_mark-is session path mark is =
    let parts = and_parts (mark.session == session) (bytes_eq mark.path path) is in
    (eqb-true mark.session session parts.0, bytes_eq-is mark.path path parts.1)

is_mark-from : (session : ℕ) (path : List ℕ) (mark : Mark) → mark.session ≡ session → mark.path ≡ path → is_mark session path mark ≡ true
is_mark-from session path mark same_session same_path = rw (eq-eqb mark.session session same_session, bytes_eq-from mark.path path same_path) refl

-- it isn't before its own place
is_mark-not_less : (session : ℕ) (path : List ℕ) (mark : Mark) → is_mark session path mark ≡ true → mark_before session path mark ≡ false
is_mark-not_less session path mark is =
    let same = is_mark-is session path mark is in
    subst (λ (s : ℕ). mark_before s path mark ≡ false) same.0 (subst (λ (q : List ℕ). mark_before mark.session q mark ≡ false) same.1 (lt-itself pair_cmp_total (key_of mark)))

mark-apart : (session : ℕ) (path : List ℕ) (mark : Mark) → mark_before session path mark ≡ true → is_mark session path mark ≡ false
mark-apart session path mark less = false_from_ne_true (is_mark session path mark) (λ is. let this = is_mark-not_less session path mark is in absurd cc)

mark-beyond : (session : ℕ) (path : List ℕ) (m n : Mark) → ranks_before m n ≡ true → mark_before session path m ≡ false → is_mark session path n ≡ false
mark-beyond session path m n order not_less = false_from_ne_true (is_mark session path n) (λ is.
    let same = is_mark-is session path n is in
    let less : mark_before session path m ≡ true = subst (λ (s : ℕ). mark_before s path m ≡ true) same.0 (subst (λ (q : List ℕ). mark_before n.session q m ≡ true) same.1 order) in
    absurd cc)

-- of two marks that differ, one comes before the other
ranks-some_way : (m n : Mark) → ranks_before m n ≡ false → is_mark n.session n.path m ≡ false → ranks_before n m ≡ true
ranks-some_way m n not_less other =
    by_bool (λ (b : Bool). b ≡ true) (ranks_before n m) (λ _. refl) (λ is.
    let tied = then-Equal (nat_cmp m.session n.session) (slice_cmp nat_cmp m.path n.path) (lt-neither pair_cmp_total (key_of m) (key_of n) not_less is) in
    let sessions : nat_cmp m.session n.session ≡ Equal = tied.0 in
    let is_n = is_mark-from n.session n.path m (grind (arith, nat_tests, sessions)) (exact_bytes m.path n.path tied.1) in
    absurd cc)

-- ### what keeps the order

pub IsSplit-mark : (session : ℕ) (path : List ℕ) (marks : List Mark) → AreRanked marks → IsSplit (mark_before session path) marks
IsSplit-mark session path marks ranked = IsSplit-rises ranks_before (mark_before session path) (ranks-trans session path) marks ranked

pub AreRanked-insert : (new : Mark) (marks : List Mark) → list_any (is_mark new.session new.path) marks ≡ false → AreRanked marks → AreRanked (insert marks (mark_place new.session new.path marks) new)
AreRanked-insert new marks fresh ranked =
    Rises-insert ranks_before (λ m n. is_mark n.session n.path m) (λ m n k first second. ranks-trans k.session k.path m n first second) ranks-one_way ranks-some_way new
    marks (mark_place new.session new.path marks) (prefix_len-le-length (mark_before new.session new.path) marks)
    (IsPartitionPoint-rises ranks_before (mark_before new.session new.path) (ranks-trans new.session new.path) marks ranked)
    (none-list_any (is_mark new.session new.path) marks fresh) ranked

-- ### a mark is found at its place

pub mark-there : (session : ℕ) (path : List ℕ) (marks : List Mark) → AreRanked marks → list_any (is_mark session path) marks ≡ true → slice_get marks (mark_place session path marks) ≡ Some (new_mark session path)
mark-there session path [] ranked has = absurd cc
mark-there session path (m ∷ marks) ranked has =
    by_bool (λ (b : Bool). slice_get (m ∷ marks) (cond b (1 + mark_place session path marks) 0) ≡ Some (new_mark session path)) (mark_before session path m)
    (λ less.
    let step : 1 + mark_place session path marks ≡ suc (mark_place session path marks) = omega arith in
    rw step (mark-there session path marks ranked.1 (rw (mark-apart session path m less) at has)))
    (λ less.
    let none = list_any-none (is_mark session path) marks (all-weaker (λ n. ranks_before m n ≡ true) (λ n. is_mark session path n ≡ false) (λ n order. mark-beyond session path m n order less) marks ranked.0) in
    let same = is_mark-is session path m (grind (arith, has, none)) in
    ap (λ s. Some (new_mark s m.path)) same.0 ∙ ap (λ q. Some (new_mark session q)) same.1)

-- ## each mark is an ephemeral's

pub MarkEphemerals-change_node : (marks : List Mark) (p : List ℕ) (f : Node → Node) → KeepsPath f → KeepsOwner f → (nodes : List Node) → MarkEphemerals marks nodes → MarkEphemerals marks (change_node p f nodes)
MarkEphemerals-change_node marks p f path owner nodes all session q =
    all session q
    ∙ sym (found-change_first (is_ephemeral_of session) (is_at p) (is_at q) f (λ n. ap (λ (r : List ℕ). bytes_eq r q) (path n)) (λ n. ap (is_owner session) (owner n)) nodes)

-- ### one node more

at_path-insert : (n : Node) (nodes : List Node) (k : ℕ) (q : List ℕ) → at_path nodes n.path ≡ None → at_path (insert nodes k n) q ≡ cond (is_at q n) (Some n) (at_path nodes q)
at_path-insert n nodes k q none =
    find-insert (is_at q) nodes k n (λ here. subst (λ (r : List ℕ). NonePass (is_at r) nodes) (bytes_eq-is n.path q here) (none-find (is_at n.path) nodes none))

none-here : (n : Node) (nodes : List Node) (q : List ℕ) → is_at q n ≡ true → at_path nodes n.path ≡ None → at_path nodes q ≡ None
none-here n nodes q here none = subst (λ (r : List ℕ). at_path nodes r ≡ None) (bytes_eq-is n.path q here) none

-- one that no session owns
pub MarkEphemerals-insert_free : (marks : List Mark) (n : Node) (nodes : List Node) (k : ℕ) → n.facts.owner ≡ None → at_path nodes n.path ≡ None → MarkEphemerals marks nodes → MarkEphemerals marks (insert nodes k n)
MarkEphemerals-insert_free marks n nodes k free none all session q = grind (arith, all session q, none-here n nodes q, at_path-insert n nodes k q none)

-- an ephemeral, with its mark
pub MarkEphemerals-insert : (marks : List Mark) (j : ℕ) (mark : Mark) (n : Node) (nodes : List Node) (k : ℕ) → n.facts.owner ≡ Some mark.session → mark.path ≡ n.path → at_path nodes n.path ≡ None → MarkEphemerals marks nodes →
    MarkEphemerals (insert marks j mark) (insert nodes k n)
MarkEphemerals-insert marks j mark n nodes k owned same none all session q = grind (arith, list_any-insert (is_mark session q) marks j mark, all session q, none-here n nodes q, at_path-insert n nodes k q none)

-- ### one node less

lost-by : (n : Node) (nodes : List Node) (k session : ℕ) (q : List ℕ) → IsSorted nodes → slice_get nodes k ≡ Some n → (is_at q n ≡ true → is_owned session n ≡ false) →
    is_ephemeral_of session (at_path (remove nodes k) q) ≡ is_ephemeral_of session (at_path nodes q)
lost-by n nodes k session q sorted there other =
    by_bool (λ _. is_ephemeral_of session (at_path (remove nodes k) q) ≡ is_ephemeral_of session (at_path nodes q)) (is_at q n)
    (λ here. ap (is_ephemeral_of session) (at_path-gone q nodes k n sorted there here) ∙ sym (other here) ∙ sym (ap (is_ephemeral_of session) (at_path-there q nodes k n sorted there here)))
    (λ here. ap (is_ephemeral_of session) (find-remove (is_at q) nodes k n there here))

pub MarkEphemerals-remove_free : (marks : List Mark) (n : Node) (nodes : List Node) (k : ℕ) → IsSorted nodes → slice_get nodes k ≡ Some n → n.facts.owner ≡ None → MarkEphemerals marks nodes → MarkEphemerals marks (remove nodes k)
MarkEphemerals-remove_free marks n nodes k sorted there free all session q =
    all session q ∙ sym (lost-by n nodes k session q sorted there (λ here. ap (is_owner session) free))

-- a mark that is taken out, and its node
pub record AreTaken (marks : List Mark) (j : ℕ) (mark : Mark) (nodes : List Node) (k : ℕ) (n : Node) : Type 0 where
  pub ranked : AreRanked marks
  pub sorted : IsSorted nodes
  pub mark_there : slice_get marks j ≡ Some mark
  pub node_there : slice_get nodes k ≡ Some n
  pub owned : n.facts.owner ≡ Some mark.session
  pub path : mark.path ≡ n.path

taken-by : (marks : List Mark) (j : ℕ) (mark : Mark) (nodes : List Node) (k : ℕ) (n : Node) (session : ℕ) (q : List ℕ) (c : Bool) → is_mark session q mark ≡ c → AreTaken marks j mark nodes k n → MarkEphemerals marks nodes →
    list_any (is_mark session q) (remove marks j) ≡ is_ephemeral_of session (at_path (remove nodes k) q)
taken-by marks j mark nodes k n session q true is taken all =
    let same = is_mark-is session q mark is in
    list_any-none (is_mark session q) (remove marks j)
    (none-remove ranks_before (is_mark session q) marks j mark taken.ranked taken.mark_there
    (λ m order. mark-apart session q m (subst (λ (s : ℕ). mark_before s q m ≡ true) same.0 (subst (λ (r : List ℕ). mark_before mark.session r m ≡ true) same.1 order)))
    (λ m order. mark-beyond session q mark m order (is_mark-not_less session q mark is)))
    ∙ sym (ap (is_ephemeral_of session) (at_path-gone q nodes k n taken.sorted taken.node_there (bytes_eq-from n.path q (sym taken.path ∙ same.1))))
taken-by marks j mark nodes k n session q false is taken all =
    list_any-remove (is_mark session q) marks j mark taken.mark_there is
    ∙ all session q
    ∙ sym (lost-by n nodes k session q taken.sorted taken.node_there
    (λ here. ap (is_owner session) taken.owned ∙ and-apart (mark.session == session) (bytes_eq mark.path q) is (ap (λ (r : List ℕ). bytes_eq r q) taken.path ∙ here)))

pub MarkEphemerals-remove : (marks : List Mark) (j : ℕ) (mark : Mark) (nodes : List Node) (k : ℕ) (n : Node) → AreTaken marks j mark nodes k n → MarkEphemerals marks nodes → MarkEphemerals (remove marks j) (remove nodes k)
MarkEphemerals-remove marks j mark nodes k n taken all session q = taken-by marks j mark nodes k n session q (is_mark session q mark) refl taken all

-- ## what a mark says

ephemeral-some : (session : ℕ) (o : Option Node) → is_ephemeral_of session o ≡ true → (n : Node) × (o ≡ Some n) × (is_owned session n ≡ true)
ephemeral-some session None is = absurd cc
ephemeral-some session (Some n) is = (n, refl, is)

-- its session's ephemeral is at its path
pub mark-owned : (marks : List Mark) (j : ℕ) (mark : Mark) (nodes : List Node) → slice_get marks j ≡ Some mark → MarkEphemerals marks nodes → (n : Node) × (at_path nodes mark.path ≡ Some n) × (is_owned mark.session n ≡ true)
mark-owned marks j mark nodes there all =
    ephemeral-some mark.session (at_path nodes mark.path)
    (sym (all mark.session mark.path) ∙ list_any-there (is_mark mark.session mark.path) marks j mark there (is_mark-from mark.session mark.path mark refl refl))

-- an ephemeral has its mark at the mark's place
pub owned-mark : (session : ℕ) (k : ℕ) (n : Node) (nodes : List Node) (marks : List Mark) → IsSorted nodes → AreRanked marks → slice_get nodes k ≡ Some n → n.facts.owner ≡ Some session → MarkEphemerals marks nodes →
    slice_get marks (mark_place session n.path marks) ≡ Some (new_mark session n.path)
owned-mark session k n nodes marks sorted ranked there owned all =
    mark-there session n.path marks ranked
    (all session n.path ∙ ap (is_ephemeral_of session) (at_path-there n.path nodes k n sorted there (bytes_eq-from n.path n.path refl)) ∙ ap (is_owner session) owned ∙ eq-eqb session session refl)

-- ## a session has no marks left

abbrev pub NoMarks : ℕ → List Mark → Type 0
NoMarks session marks = AllByRecursion (λ m. (m.session == session) ≡ false) marks

session-below : (a session : ℕ) (path : List ℕ) → is_lt (ordering_then (nat_cmp a session) (slice_cmp nat_cmp path [])) ≡ true → (a == session) ≡ false
session-below a session [] is = grind (arith, nat_tests)
session-below a session (x ∷ path) is = grind (arith, nat_tests)

session-above : (a session : ℕ) (o : Ordering) → is_lt (ordering_then (nat_cmp a session) o) ≡ false → (a == session) ≡ false → session < a
session-above a session o is other = grind (arith, nat_tests)

session-upto : (a b : ℕ) (o : Ordering) → is_lt (ordering_then (nat_cmp a b) o) ≡ true → a ≤ b
session-upto a b o is = grind (arith, nat_tests)

later-marks : (session : ℕ) (m : Mark) (marks : List Mark) → session < m.session → AllByRecursion (λ n. ranks_before m n ≡ true) marks → NoMarks session marks
later-marks session m marks above all =
    all-weaker (λ n. ranks_before m n ≡ true) (λ n. (n.session == session) ≡ false)
    (λ n order. let upto = session-upto m.session n.session (slice_cmp nat_cmp m.path n.path) order in above-apart n.session session (omega arith)) marks all

no_marks-by : (session : ℕ) (m : Mark) (marks : List Mark) (b : Bool) → mark_before session [] m ≡ b → AreRanked (m ∷ marks) →
    ((x : Mark) → slice_get (m ∷ marks) (cond b (1 + mark_place session [] marks) 0) ≡ Some x → (x.session == session) ≡ false) →
    (((x : Mark) → slice_get marks (mark_place session [] marks) ≡ Some x → (x.session == session) ≡ false) → NoMarks session marks) → NoMarks session (m ∷ marks)
no_marks-by session m marks true less ranked other later =
    let step : 1 + mark_place session [] marks ≡ suc (mark_place session [] marks) = omega arith in
    (session-below m.session session m.path less, later (λ x there. other x (rw step there)))
no_marks-by session m marks false less ranked other later =
    let apart = other m refl in
    (apart, later-marks session m marks (session-above m.session session (slice_cmp nat_cmp m.path []) less apart) ranked.0)

-- if the first mark that could be the session's is another's, or there is none
pub no_marks : (session : ℕ) (marks : List Mark) → AreRanked marks → ((m : Mark) → slice_get marks (mark_place session [] marks) ≡ Some m → (m.session == session) ≡ false) → NoMarks session marks
no_marks session [] ranked other = tt
no_marks session (m ∷ marks) ranked other = no_marks-by session m marks (mark_before session [] m) refl ranked other (λ later. no_marks session marks ranked.1 later)

not_marked : (session : ℕ) (path : List ℕ) (marks : List Mark) → NoMarks session marks → list_any (is_mark session path) marks ≡ false
not_marked session path marks none =
    list_any-none (is_mark session path) marks (all-weaker (λ m. (m.session == session) ≡ false) (λ m. is_mark session path m ≡ false) (λ m other. and_left (m.session == session) (bytes_eq m.path path) other) marks none)

-- then it owns no node
pub not_owned : (session : ℕ) (marks : List Mark) (nodes : List Node) → NoMarks session marks → IsSorted nodes → MarkEphemerals marks nodes → NonePass (is_owned session) nodes
not_owned session marks nodes none sorted all =
    all-from_at (λ n. is_owned session n ≡ false) nodes (λ k n there.
    sym (ap (is_ephemeral_of session) (at_path-there n.path nodes k n sorted there (bytes_eq-from n.path n.path refl))) ∙ sym (all session n.path) ∙ not_marked session n.path marks none)

-- # what is always true of nodes and marks, after each change

pub HasRoom-filter : (keep : Node → Bool) (nodes : List Node) → HasRoom nodes → HasRoom (filter keep nodes)
HasRoom-filter keep nodes room path = let room_here = room path in omega (arith, length-filter-filter (is_child path) keep nodes)

-- one more child of a path that has room
pub HasRoom-insert : (n : Node) (above : List ℕ) (k : ℕ) (nodes : List Node) → parent_of n.path ≡ Some above → length (children_of nodes above) < 4_294_967_295 → HasRoom nodes → HasRoom (insert nodes k n)
HasRoom-insert n above k nodes has below room path =
    let child : is_child path n ≡ bytes_eq above path = ap (is_parent path) has in
    let most : length (children_of nodes path) + cond (bytes_eq above path) 1 0 ≤ 4_294_967_295 = by_bool (λ (b : Bool). length (children_of nodes path) + cond b 1 0 ≤ 4_294_967_295) (bytes_eq above path)
    (λ is. let here = subst (λ (p : List ℕ). length (children_of nodes p) < 4_294_967_295) (bytes_eq-is above path is) below in omega arith)
    (λ is. let room_here = room path in omega arith) in
    rw (length-filter-insert (is_child path) n k nodes, child) most

-- ## one node less, and its mark if it has one

marks-taken : (k : ℕ) (n : Node) (nodes : List Node) (marks : List Mark) (mark : Step Mark) → slice_get nodes k ≡ Some n → TakesMark n.facts.owner n.path marks mark → IsKept nodes marks →
    AreRanked (after_step mark marks) × MarkEphemerals (after_step mark marks) (remove nodes k)
marks-taken k n nodes marks Nothing there takes kept = (kept.ranked, MarkEphemerals-remove_free marks n nodes k kept.sorted there takes kept.marked)
marks-taken k n nodes marks (Take j) there takes kept = (
  Rises-remove ranks_before marks j kept.ranked,
  MarkEphemerals-remove marks j (new_mark takes.0 n.path) nodes k n (record { ranked = kept.ranked; sorted = kept.sorted; mark_there = takes.2; node_there = there; owned = takes.1; path = refl }) kept.marked,
)
marks-taken k n nodes marks (Put j mark) there takes kept = absurd takes

pub IsKept-remove : (k : ℕ) (n : Node) (nodes : List Node) (marks : List Mark) (mark : Step Mark) → slice_get nodes k ≡ Some n → TakesMark n.facts.owner n.path marks mark → IsKept nodes marks → IsKept (remove nodes k) (after_step mark marks)
IsKept-remove k n nodes marks mark there takes kept =
    let taken = marks-taken k n nodes marks mark there takes kept in
    record {
      sorted = Rises-remove node_before nodes k kept.sorted;
      paths = all-remove (λ m. is_path m.path ≡ true) nodes k kept.paths;
      room = λ path. let room_here = kept.room path in omega (arith, length-filter-remove (is_child path) k nodes);
      ranked = taken.0;
      marked = taken.1;
    }

-- ## one node more

-- a node that may be below a path that has room
pub record MayStand (n : Node) (above : List ℕ) (nodes : List Node) : Type 0 where
  pub path : is_path n.path ≡ true
  pub new : at_path nodes n.path ≡ None
  pub parent : parent_of n.path ≡ Some above
  pub room : length (children_of nodes above) < 4_294_967_295

-- the step of the marks, if it is known whether the node is an ephemeral
abbrev pub step_for : Bool → ℕ → List ℕ → List Mark → Step Mark
step_for ephemeral session path marks = cond ephemeral (Put (mark_place session path marks) (new_mark session path)) Nothing

pub IsKept-insert : (ephemeral : Bool) (session : ℕ) (n : Node) (above : List ℕ) (nodes : List Node) (marks : List Mark) → n.facts.owner ≡ cond ephemeral (Some session) None → MayStand n above nodes → IsKept nodes marks →
    IsKept (insert nodes (place_of n.path nodes) n) (after_step (step_for ephemeral session n.path marks) marks)
IsKept-insert true session n above nodes marks owned may kept =
    let fresh : list_any (is_mark session n.path) marks ≡ false = kept.marked session n.path ∙ ap (is_ephemeral_of session) may.new in
    record {
      sorted = IsSorted-insert n nodes may.path kept.paths may.new kept.sorted;
      paths = all-insert (λ m. is_path m.path ≡ true) n nodes (place_of n.path nodes) may.path kept.paths;
      room = HasRoom-insert n above (place_of n.path nodes) nodes may.parent may.room kept.room;
      ranked = AreRanked-insert (new_mark session n.path) marks fresh kept.ranked;
      marked = MarkEphemerals-insert marks (mark_place session n.path marks) (new_mark session n.path) n nodes (place_of n.path nodes) owned refl may.new kept.marked;
    }
IsKept-insert false session n above nodes marks owned may kept = record {
  sorted = IsSorted-insert n nodes may.path kept.paths may.new kept.sorted;
  paths = all-insert (λ m. is_path m.path ≡ true) n nodes (place_of n.path nodes) may.path kept.paths;
  room = HasRoom-insert n above (place_of n.path nodes) nodes may.parent may.room kept.room;
  ranked = kept.ranked;
  marked = MarkEphemerals-insert_free marks n nodes (place_of n.path nodes) owned may.new kept.marked;
}

-- ## the root alone

root-free : (session : ℕ) (b : Bool) → false ≡ is_ephemeral_of session (cond b (Some root_node) None)
root-free session b = grind arith

few-by : (b : Bool) → length (cond b (root_node ∷ []) []) ≤ 4_294_967_295
few-by true = lit≤ tt
few-by false = lit≤ tt

pub IsKept-root : IsKept (root_node ∷ []) []
IsKept-root = record {
  sorted = (tt, tt);
  paths = (refl, tt);
  room = λ path. few-by (is_child path root_node);
  ranked = tt;
  marked = λ session path. root-free session (is_at path root_node);
}

-- # one step of a session's end leaves what the whole end leaves

-- ## a change at a path, of each node

abbrev pub changed_where : List ℕ → (Node → Node) → Node → Node
changed_where p f n = cond (is_at p n) (f n) n

map-nowhere : (p : List ℕ) (f : Node → Node) (nodes : List Node) → NonePass (is_at p) nodes → map (changed_where p f) nodes ≡ nodes
map-nowhere p f [] none = refl
map-nowhere p f (n ∷ nodes) none = rw (none.0) (ap (λ (ms : List Node). n ∷ ms) (map-nowhere p f nodes none.1))

pub change_node-where : (p : List ℕ) (f : Node → Node) (nodes : List Node) → IsSorted nodes → change_node p f nodes ≡ map (changed_where p f) nodes
change_node-where p f [] sorted = refl
change_node-where p f (n ∷ nodes) sorted =
    by_bool (λ (b : Bool). cond b (f n ∷ nodes) (n ∷ change_node p f nodes) ≡ cond b (f n) n ∷ map (changed_where p f) nodes) (is_at p n)
    (λ is. ap (λ (ms : List Node). f n ∷ ms) (sym (map-nowhere p f nodes (later-others p n nodes is sorted.0)))) (λ is. ap (λ (ms : List Node). n ∷ ms) (change_node-where p f nodes sorted.1))

where-same : {A : Type 0} (g : Node → A) (p : List ℕ) (f : Node → Node) → ((n : Node) → g (f n) ≡ g n) → (n : Node) → g (changed_where p f n) ≡ g n
where-same g p f keeps n = by_bool (λ (b : Bool). g (cond b (f n) n) ≡ g n) (is_at p n) (λ _. keeps n) (λ _. refl)

-- ## one step

-- whether a session owns a child of a path
abbrev pub loses : ℕ → List ℕ → List Node → Bool
loses session path nodes = list_any (λ m. is_owned session m && is_child path m) nodes

-- an owned node is removed, and its parent changes with it
abbrev pub one_less : ℕ → List ℕ → ℕ → List Node → List Node
one_less z above k nodes = remove (change_node above (without_child z) nodes) k

-- a node that a session owns, at a place
pub record IsOwnedAt (session : ℕ) (above : List ℕ) (k : ℕ) (nodes : List Node) (m : Node) : Type 0 where
  pub there : slice_get nodes k ≡ Some m
  pub owned : is_owned session m ≡ true
  pub parent : parent_of m.path ≡ Some above

module _ (z session : ℕ) (above : List ℕ) (k : ℕ) (nodes : List Node) (m : Node) (sorted : IsSorted nodes) (is : IsOwnedAt session above k nodes m) where
  same-owned : (n : Node) → is_owned session (changed_where above (without_child z) n) ≡ is_owned session n
  same-owned n = where-same (is_owned session) above (without_child z) (λ _. refl) n

  same-child : (path : List ℕ) (n : Node) → is_child path (changed_where above (without_child z) n) ≡ is_child path n
  same-child path n = where-same (is_child path) above (without_child z) (λ _. refl) n

  moved : slice_get (map (changed_where above (without_child z)) nodes) k ≡ Some (changed_where above (without_child z) m)
  moved = slice_get-map (changed_where above (without_child z)) nodes k ∙ ap (option_map (changed_where above (without_child z))) is.there

  -- what remains of those that the session doesn't own
  kept-step : filter (λ n. not (is_owned session n)) (one_less z above k nodes) ≡ map (changed_where above (without_child z)) (filter (λ n. not (is_owned session n)) nodes)
  kept-step =
      ap (λ (ms : List Node). filter (λ n. not (is_owned session n)) (remove ms k)) (change_node-where above (without_child z) nodes sorted)
      ∙ filter-remove (λ n. not (is_owned session n)) (map (changed_where above (without_child z)) nodes) k (changed_where above (without_child z) m) moved (ap not (same-owned m ∙ is.owned))
      ∙ filter-map (λ n. not (is_owned session n)) (changed_where above (without_child z)) nodes (λ n. ap not (same-owned n))

  -- another path loses what it lost
  loses-other : (path : List ℕ) → (path ≡ above → ⊥) → loses session path (one_less z above k nodes) ≡ loses session path nodes
  loses-other path other =
      let fails : is_child path m ≡ false = ap (is_parent path) is.parent ∙ bytes_eq-apart above path (λ same. other (sym same)) in
      ap (λ (ms : List Node). loses session path (remove ms k)) (change_node-where above (without_child z) nodes sorted)
      ∙ list_any-remove (λ n. is_owned session n && is_child path n) (map (changed_where above (without_child z)) nodes) k (changed_where above (without_child z) m) moved
      (and_right (is_owned session (changed_where above (without_child z) m)) (is_child path (changed_where above (without_child z) m)) (same-child path m ∙ fails))
      ∙ list_any-map (λ n. is_owned session n && is_child path n) (changed_where above (without_child z)) nodes (λ n. rw (same-owned n, same-child path n) refl)

  -- the parent loses the node
  loses-here : (path : List ℕ) → path ≡ above → loses session path nodes ≡ true
  loses-here path same =
      let passes : is_child path m ≡ true = ap (is_parent path) is.parent ∙ bytes_eq-from above path (sym same) in
      list_any-there (λ n. is_owned session n && is_child path n) nodes k m is.there (rw (is.owned, passes) refl)

  cond-both : (b : Bool) → cond b z z ≡ z
  cond-both b = grind arith

  left-by : (n : Node) (b : Bool) → is_at above n ≡ b → after_loss (one_less z above k nodes) z session (cond b (without_child z n) n) ≡ after_loss nodes z session n
  left-by n true at =
      let same = bytes_eq-is n.path above at in
      ap (λ (x : ℕ). record n { facts = record n.facts { pzxid = x } })
      (cond-both (loses session n.path (one_less z above k nodes)) ∙ sym (ap (λ (b : Bool). cond b z n.facts.pzxid) (loses-here n.path same)))
  left-by n false at =
      ap (λ (b : Bool). record n { facts = record n.facts { pzxid = cond b z n.facts.pzxid } })
      (loses-other n.path (λ same. let is_at_above = bytes_eq-from n.path above same in absurd cc))

  pub nodes_after_end-step : nodes_after_end z session (one_less z above k nodes) ≡ nodes_after_end z session nodes
  nodes_after_end-step =
      ap (map (after_loss (one_less z above k nodes) z session)) kept-step
      ∙ map-map (changed_where above (without_child z)) (after_loss (one_less z above k nodes) z session) (after_loss nodes z session) (filter (λ n. not (is_owned session n)) nodes)
      (λ n. left-by n (is_at above n) refl)

-- a node that has no parent
module _ (z session k : ℕ) (nodes : List Node) (m : Node) (there : slice_get nodes k ≡ Some m) (owned : is_owned session m ≡ true) (top : parent_of m.path ≡ None) where
  left-same : (n : Node) → after_loss (remove nodes k) z session n ≡ after_loss nodes z session n
  left-same n = ap (λ (b : Bool). record n { facts = record n.facts { pzxid = cond b z n.facts.pzxid } })
      (list_any-remove (λ x. is_owned session x && is_child n.path x) nodes k m there (and_right (is_owned session m) (is_child n.path m) (ap (is_parent n.path) top)))

  pub nodes_after_end-top : nodes_after_end z session (remove nodes k) ≡ nodes_after_end z session nodes
  nodes_after_end-top =
      ap (map (after_loss (remove nodes k) z session)) (filter-remove (λ n. not (is_owned session n)) nodes k m there (ap not owned))
      ∙ map-each (after_loss (remove nodes k) z session) (after_loss nodes z session) (filter (λ n. not (is_owned session n)) nodes) left-same

-- ## the end is reached

module _ (z session : ℕ) (nodes : List Node) (none : NonePass (is_owned session) nodes) where
  left-none : (n : Node) → after_loss nodes z session n ≡ n
  left-none n = ap (λ (b : Bool). record n { facts = record n.facts { pzxid = cond b z n.facts.pzxid } })
      (list_any-none (λ m. is_owned session m && is_child n.path m) nodes (all-weaker (λ m. is_owned session m ≡ false) (λ m. (is_owned session m && is_child n.path m) ≡ false) (λ m other. and_left (is_owned session m) (is_child n.path m) other) nodes none))

  pub nodes_after_end-none : nodes_after_end z session nodes ≡ nodes
  nodes_after_end-none = map-same (after_loss nodes z session) (filter (λ n. not (is_owned session n)) nodes) left-none ∙ filter-not_none (is_owned session) nodes none
