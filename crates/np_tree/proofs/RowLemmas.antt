-- the rows of a directory, in the order of their names, and what is found at a path after a change of the nodes
use Rattle.np_tree.proofs.Prelude.{AllByRecursion, AllPaths, Bool, ChildrenByName, IsChild-of, IsKey, IsSorted, KeepsPath, List, Node, None, NonePass, Option, ParentsComeFirst, Rises, Rises-filter, Row, Some, [], all-filter_to, all-weaker, ap, arith, at_path, before_of, below, both-ways, bytes_eq, bytes_eq-apart, bytes_eq-from, bytes_eq-is, change_first, change_node, child-half, children_of, cond, false, false_from_ne_true, filter, find, half-not_root, insert_before, insert_node, is_at, is_child, is_kept, is_lt, is_named, is_owned, is_parent, is_path, later-others, map, name_before, name_of, named_before, nat_cmp, nat_list_cmp_total, node_before, not, option_map, ordering_then, parent-first, parent-half, parent_of, path_before, path_before-trans, refl, row_before, row_of, slice_cmp, sym, tied_itself, true, with_row, without_node, ℕ, ◌∙◌, ◌∷◌, ◌≡◌}

-- # the children of one directory: their names distinguish them, and order them

pub some_same : {A : Type 0} {x y : A} → Some x ≡ Some y → x ≡ y
some_same e = cc

pub parents-first : ParentsComeFirst
parents-first path above is top = parent-first above path is top

-- a child's directory
above-by : (dir : List ℕ) (o : Option (List ℕ)) → is_parent dir o ≡ true → o ≡ Some dir
above-by dir None child = absurd cc
above-by dir (Some above) child = ap Some (bytes_eq-is above dir child)

pub child-above : (dir : List ℕ) (n : Node) → is_child dir n ≡ true → parent_of n.path ≡ Some dir
child-above dir n child = above-by dir (parent_of n.path) child

pub above-child : (dir : List ℕ) (n : Node) → parent_of n.path ≡ Some dir → is_child dir n ≡ true
above-child dir n above = ap (is_parent dir) above ∙ bytes_eq-from dir dir refl

-- a node is in one directory only
pub other-child : (other dir : List ℕ) (n : Node) → (other ≡ dir → ⊥) → parent_of n.path ≡ Some dir → is_child other n ≡ false
other-child other dir n apart above = false_from_ne_true (is_child other n) (λ child. apart (some_same (sym (child-above other n child) ∙ above)))

-- siblings have one half before the last slash
siblings-half : (dir path : List ℕ) (n : Node) → is_path path ≡ true → parent_of path ≡ Some dir → is_path n.path ≡ true → is_child dir n ≡ true → before_of n.path ≡ before_of path
siblings-half dir path n is above is_n child =
    let key : IsKey (before_of path) dir = record { above = sym (parent-half dir path above); other = half-not_root path dir is above } in
    child-half (before_of path) dir n (parent_of n.path) key is_n refl child

-- siblings are in the order of their names
pub siblings-order : (dir path : List ℕ) (n : Node) → is_path path ≡ true → parent_of path ≡ Some dir → is_path n.path ≡ true → is_child dir n ≡ true → path_before path n.path ≡ name_before (name_of path) (name_of n.path)
siblings-order dir path n is above is_n child =
    let half = siblings-half dir path n is above is_n child in
    let tied = ap (λ (b : List ℕ). slice_cmp nat_cmp (before_of path) b) half ∙ tied_itself nat_list_cmp_total (before_of path) in
    ap (λ (o : _). is_lt (ordering_then o (slice_cmp nat_cmp (name_of path) (name_of n.path)))) tied

-- a path in the grammar, and a child of this one
record IsOne (p : List ℕ) (n : Node) : Type 0 where
  is : is_path n.path ≡ true
  child : is_child p n ≡ true

all-by-name : (p : List ℕ) (m : Node) (nodes : List Node) → IsOne p m → AllByRecursion (IsOne p) nodes → AllByRecursion (λ n. node_before m n ≡ true) nodes → AllByRecursion (λ n. named_before m n ≡ true) nodes
all-by-name p m [] one all order = tt
all-by-name p m (n ∷ nodes) one all order = (sym (siblings-order p m.path n one.is (child-above p m one.child) all.0.is all.0.child) ∙ order.0, all-by-name p m nodes one all.1 order.1)

rises-by-name : (p : List ℕ) (nodes : List Node) → AllByRecursion (IsOne p) nodes → Rises node_before nodes → Rises named_before nodes
rises-by-name p [] all rises = tt
rises-by-name p (n ∷ nodes) all rises = (all-by-name p n nodes all.0 all.1 rises.0, rises-by-name p nodes all.1 rises.1)

pub children-by-name : ChildrenByName
children-by-name nodes path sorted paths =
    rises-by-name path (children_of nodes path) (all-filter_to (λ n. is_path n.path ≡ true) (IsOne path) (is_child path) nodes (λ n child is. record { is = is; child = child }) paths) (Rises-filter node_before (is_child path) nodes sorted)

-- siblings with one name are equal
same-path : (dir p q : List ℕ) → is_path p ≡ true → is_path q ≡ true → parent_of p ≡ Some dir → parent_of q ≡ Some dir → name_of p ≡ name_of q → p ≡ q
same-path dir p q is_p is_q above_p above_q name =
    let this = IsChild-of p dir is_p above_p in
    let that = IsChild-of q dir is_q above_q in
    sym this.whole ∙ ap (below dir) name ∙ that.whole

pub named-at : (dir path : List ℕ) (n : Node) → is_path path ≡ true → parent_of path ≡ Some dir → is_path n.path ≡ true → is_child dir n ≡ true → is_named (name_of path) (row_of n) ≡ is_at path n
named-at dir path n is above is_n child =
    both-ways (is_named (name_of path) (row_of n)) (is_at path n) (λ named. bytes_eq-from n.path path (same-path dir n.path path is_n is (child-above dir n child) above (bytes_eq-is (name_of n.path) (name_of path) named)))
    (λ at. bytes_eq-from (name_of n.path) (name_of path) (ap name_of (bytes_eq-is n.path path at)))

-- a node at a path is a child of the directory above it, and of no other
pub at-child : (dir path : List ℕ) (n : Node) → parent_of path ≡ Some dir → is_at path n ≡ true → is_child dir n ≡ true
at-child dir path n above at = above-child dir n (ap parent_of (bytes_eq-is n.path path at) ∙ above)

at-apart : (other path : List ℕ) (n : Node) → (parent_of path ≡ Some other → ⊥) → is_at path n ≡ true → is_child other n ≡ false
at-apart other path n apart at = false_from_ne_true (is_child other n) (λ child. apart (ap parent_of (sym (bytes_eq-is n.path path at)) ∙ child-above other n child))

-- ## rows in order have other names

pub other-name : (this that : Row) → row_before this that ≡ true → bytes_eq this.name that.name ≡ false
other-name this that before = bytes_eq-apart this.name that.name (λ same.
    let tied = ap (λ (n : List ℕ). is_lt (slice_cmp nat_cmp this.name n)) (sym same) ∙ ap is_lt (tied_itself nat_list_cmp_total this.name) in
    absurd (let e : true ≡ false = sym before ∙ tied in cc))

pub other-name_back : (this that : Row) → row_before this that ≡ true → bytes_eq that.name this.name ≡ false
other-name_back this that before = bytes_eq-apart that.name this.name (λ same. let here = bytes_eq-from this.name that.name (sym same) in let not_here = other-name this that before in cc)

-- # the rows of a directory after a change of the nodes

-- the rows of a directory among nodes
abbrev pub rows_in : List ℕ → List Node → List Row
rows_in dir nodes = map row_of (filter (is_child dir) nodes)

-- the change does not change a node's row
abbrev pub KeepsRow : (Node → Node) → Type 0
KeepsRow f = (n : Node) → row_of (f n) ≡ row_of n

-- ## a change that is not shown

pub rows-touch : (dir : List ℕ) (p : Node → Bool) (f : Node → Node) → KeepsPath f → KeepsRow f → (nodes : List Node) → rows_in dir (change_first p f nodes) ≡ rows_in dir nodes
rows-touch dir p f path row [] = refl
rows-touch dir p f path row (n ∷ nodes) = grind (arith, path n, row n, rows-touch dir p f path row nodes)

-- ## a row changed

module _ (dir path : List ℕ) (is : is_path path ≡ true) (above : parent_of path ≡ Some dir) (f : Node → Node) (g : Row → Row) (keeps : KeepsPath f) (shows : (n : Node) → row_of (f n) ≡ g (row_of n)) where
  pub rows-changed : (nodes : List Node) → AllPaths nodes → rows_in dir (change_node path f nodes) ≡ change_first (is_named (name_of path)) g (rows_in dir nodes)
  rows-changed [] paths = refl
  rows-changed (n ∷ nodes) paths = grind (arith, keeps n, shows n, named-at dir path n is above paths.0, at-child dir path n above, rows-changed nodes paths.1)

-- the rows of a directory in which the path isn't
pub rows-changed_apart : (other path : List ℕ) → (parent_of path ≡ Some other → ⊥) → (f : Node → Node) → KeepsPath f → (nodes : List Node) → rows_in other (change_node path f nodes) ≡ rows_in other nodes
rows-changed_apart other path apart f keeps [] = refl
rows-changed_apart other path apart f keeps (n ∷ nodes) = let away = at-apart other path n apart in grind (arith, keeps n, away, rows-changed_apart other path apart f keeps nodes)

-- the rows of another directory
module _ (other dir path : List ℕ) (apart : other ≡ dir → ⊥) (above : parent_of path ≡ Some dir) where
  elsewhere : parent_of path ≡ Some other → ⊥
  elsewhere top = apart (some_same (sym top ∙ above))

  pub rows-changed_other : (f : Node → Node) → KeepsPath f → (nodes : List Node) → rows_in other (change_node path f nodes) ≡ rows_in other nodes
  rows-changed_other f keeps nodes = rows-changed_apart other path elsewhere f keeps nodes

  -- ## one row fewer

  pub rows-gone_other : (nodes : List Node) → rows_in other (without_node path nodes) ≡ rows_in other nodes
  rows-gone_other [] = refl
  rows-gone_other (n ∷ nodes) = let away = at-apart other path n elsewhere in grind (arith, away, rows-gone_other nodes)

module _ (dir path : List ℕ) (is : is_path path ≡ true) (above : parent_of path ≡ Some dir) where
  pub rows-gone : (nodes : List Node) → AllPaths nodes → rows_in dir (without_node path nodes) ≡ filter (λ row. not (is_named (name_of path) row)) (rows_in dir nodes)
  rows-gone [] paths = refl
  rows-gone (n ∷ nodes) paths = grind (arith, named-at dir path n is above paths.0, at-child dir path n above, rows-gone nodes paths.1)

-- ## one row more

module _ (dir : List ℕ) (new : Node) (is : is_path new.path ≡ true) (above : parent_of new.path ≡ Some dir) (child : is_child dir new ≡ true) where
  -- before all others
  front : (nodes : List Node) → AllPaths nodes → AllByRecursion (λ n. path_before new.path n.path ≡ true) nodes → with_row (row_of new) (rows_in dir nodes) ≡ row_of new ∷ rows_in dir nodes
  front [] paths order = refl
  front (n ∷ nodes) paths order = grind (arith, siblings-order dir new.path n is above paths.0, order.0, front nodes paths.1 order.1)

  pub rows-more : (nodes : List Node) → AllPaths nodes → IsSorted nodes → rows_in dir (insert_node new nodes) ≡ with_row (row_of new) (rows_in dir nodes)
  rows-more [] paths sorted = rw child refl
  rows-more (n ∷ nodes) paths sorted =
      let first : path_before new.path n.path ≡ true → with_row (row_of new) (rows_in dir (n ∷ nodes)) ≡ row_of new ∷ rows_in dir (n ∷ nodes) =
      λ order. front (n ∷ nodes) paths (order, all-weaker (λ m. node_before n m ≡ true) (λ m. path_before new.path m.path ≡ true) (λ m next. path_before-trans new.path n.path m.path order next) nodes sorted.0) in
      grind (arith, first, child, siblings-order dir new.path n is above paths.0, rows-more nodes paths.1 sorted.1)

-- the rows of another directory
pub rows-more_other : (other : List ℕ) (new : Node) (nodes : List Node) → is_child other new ≡ false → rows_in other (insert_node new nodes) ≡ rows_in other nodes
rows-more_other other new [] away = rw away refl
rows-more_other other new (n ∷ nodes) away = grind (arith, away, rows-more_other other new nodes away)

-- ## a session's rows gone

module _ (dir : List ℕ) (session : ℕ) (f : Node → Node) (keeps : KeepsPath f) (shows : KeepsRow f) where
  pub rows-ended : (nodes : List Node) → rows_in dir (map f (filter (λ n. not (is_owned session n)) nodes)) ≡ filter (is_kept session) (rows_in dir nodes)
  rows-ended [] = refl
  rows-ended (n ∷ nodes) = grind (arith, keeps n, shows n, rows-ended nodes)

-- # what is found at a path after a change of the nodes

-- what was found, if it is kept
abbrev pub kept_by : {A : Type 0} → (A → Bool) → Option A → Option A
kept_by keep None = None
kept_by keep (Some a) = cond (keep a) (Some a) None

module _ {X : Type 0} (p : X → Bool) where
  pub find-insert_here : (before : X → Bool) (new : X) (xs : List X) → p new ≡ true → NonePass p xs → find p (insert_before before new xs) ≡ Some new
  find-insert_here before new [] passes none = rw passes refl
  find-insert_here before new (x ∷ xs) passes none = grind (arith, passes, none.0, find-insert_here before new xs passes none.1)

  -- another test does not change what is found
  pub find-filter_other : (keep : X → Bool) (xs : List X) → ((x : X) → p x ≡ true → keep x ≡ true) → find p (filter keep xs) ≡ find p xs
  find-filter_other keep [] stays = refl
  find-filter_other keep (x ∷ xs) stays = grind (arith, stays x, find-filter_other keep xs stays)

  -- what passes is gone
  pub find-filter_gone : (xs : List X) → find p (filter (λ x. not (p x)) xs) ≡ None
  find-filter_gone [] = refl
  find-filter_gone (x ∷ xs) = grind (arith, find-filter_gone xs)

  find-filter_none : (keep : X → Bool) (xs : List X) → NonePass p xs → find p (filter keep xs) ≡ None
  find-filter_none keep [] none = refl
  find-filter_none keep (x ∷ xs) none = grind (arith, none.0, find-filter_none keep xs none.1)

pub at_path-without_other : (other path : List ℕ) → (other ≡ path → ⊥) → (nodes : List Node) → at_path (without_node path nodes) other ≡ at_path nodes other
at_path-without_other other path apart nodes = find-filter_other (is_at other) (λ n. not (is_at path n)) nodes (λ n at. ap not (bytes_eq-apart n.path path (λ same. apart (sym (bytes_eq-is n.path other at) ∙ same))))

pub at_path-changed : (path : List ℕ) (f : Node → Node) → KeepsPath f → (nodes : List Node) → at_path (change_node path f nodes) path ≡ option_map f (at_path nodes path)
at_path-changed path f keeps [] = refl
at_path-changed path f keeps (n ∷ nodes) = grind (arith, keeps n, at_path-changed path f keeps nodes)

-- there is one node at a path, so another test keeps what is found or leaves nothing
pub at_path-filter : (path : List ℕ) (keep : Node → Bool) (nodes : List Node) → IsSorted nodes → at_path (filter keep nodes) path ≡ kept_by keep (at_path nodes path)
at_path-filter path keep [] sorted = refl
at_path-filter path keep (n ∷ nodes) sorted =
    let once : is_at path n ≡ true → at_path (filter keep nodes) path ≡ None = λ at. find-filter_none (is_at path) keep nodes (later-others path n nodes at sorted.0) in
    grind (arith, once, at_path-filter path keep nodes sorted.1)
