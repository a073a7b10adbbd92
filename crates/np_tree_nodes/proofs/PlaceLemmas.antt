-- nodes in the order of their paths: the node at a path, its children, and where a path is free
use Rattle.np_tree_nodes.proofs.Prelude.{and_true, by_bool, false_from_ne_true, AllByRecursion, AllPaths, Bool, Equal, FindsGap, FirstAt, IsBetween, IsChild-of, IsPartitionPoint, IsPartitionPoint-rises, IsSorted, IsSplit, IsSplit-rises, IsStretch, IsTotalOrder, Less, List, Node, None, NonePass, Option, Ordering, Rises-between, Rises-filter, Some, absent, all-at, all-filter, all-get_or, all-insert_before, all-weaker, and_from, and_parts, ap, append-nil, arith, at_path, before_of, begins_with_slash, below, bytes_eq, bytes_eq-Decides, bytes_eq-apart, change_at, change_first-at, change_first-none, change_node, children_of, exact_bytes, false, filter, filter-between, filter-not_none, find-first, find-none, get_or, halves-whole, insert, insert_before-point, insert_node, is_at, is_child, is_element, is_le, is_lt, is_parent, is_path, is_slash, length, list_any, name_of, nat_cmp, nat_cmp_total, nat_list_cmp_total, nat_tests, node_before, none-find, none-remove, not, on_total, or_root, ordering_then, parent_of, path_before, place_of, prefix_len, prefix_len-le, prefix_len-le-length, refl, remove, root, root-of, root_node, slice_cmp, slice_get, slice_get-get_or, stands_before, subst, suc, sym, then-assoc, then_total, tied_itself, true, without_node, zero, ℕ, [], ◌&&◌, ◌++◌, ◌<◌, ◌==◌, ◌∙◌, ◌∷◌, ◌≡◌}

-- # names of two parts

-- a shorter name ends before the second part is read
pub slice_cmp-shorter : (xs ys zs : List ℕ) → length xs < length ys → slice_cmp nat_cmp xs (ys ++ zs) ≡ slice_cmp nat_cmp xs ys
slice_cmp-shorter xs [] zs short = absurd (omega arith)
slice_cmp-shorter [] (y ∷ ys) zs short = refl
slice_cmp-shorter (x ∷ xs) (y ∷ ys) zs short = ap (ordering_then (nat_cmp x y)) (slice_cmp-shorter xs ys zs (omega arith))

-- parts of one length are compared in turn
pub slice_cmp-append : (xs ys us vs : List ℕ) → length xs ≡ length ys → slice_cmp nat_cmp (xs ++ us) (ys ++ vs) ≡ ordering_then (slice_cmp nat_cmp xs ys) (slice_cmp nat_cmp us vs)
slice_cmp-append [] [] us vs same = refl
slice_cmp-append [] (y ∷ ys) us vs same = absurd (omega arith)
slice_cmp-append (x ∷ xs) [] us vs same = absurd (omega arith)
slice_cmp-append (x ∷ xs) (y ∷ ys) us vs same =
    ap (ordering_then (nat_cmp x y)) (slice_cmp-append xs ys us vs (omega arith)) ∙ then-assoc (nat_cmp x y) (slice_cmp nat_cmp xs ys) (slice_cmp nat_cmp us vs)

-- # the order of nodes is a strict total order on texts with a slash

-- ## any total order

module _ {K : Type 0} {R : K → K → Ordering} (order : IsTotalOrder R) where
  pub lt-itself : (x : K) → is_lt (R x x) ≡ false
  lt-itself x = ap is_lt (tied_itself order x)

  pub lt-trans : (x y z : K) → is_lt (R x y) ≡ true → is_lt (R y z) ≡ true → is_lt (R x z) ≡ true
  lt-trans x y z this that = grind (arith, order.trans x y z)

  pub lt-one_way : (x y : K) → is_lt (R x y) ≡ true → is_lt (R y x) ≡ false
  lt-one_way x y this = grind (arith, order.antisymm y x)

  pub lt-neither : (x y : K) → is_lt (R x y) ≡ false → is_lt (R y x) ≡ false → R x y ≡ Equal
  lt-neither x y this that = grind (arith, order.antisymm y x)

  pub lt_le-trans : (x y z : K) → is_lt (R x y) ≡ true → is_le (R y z) ≡ true → is_le (R x z) ≡ true
  lt_le-trans x y z this that = grind (arith, order.trans x y z, order.congr y z x, order.antisymm x z, order.antisymm x y)

  pub le-trans : (x y z : K) → is_le (R x y) ≡ true → is_le (R y z) ≡ true → is_le (R x z) ≡ true
  le-trans x y z this that = grind (arith, lt_le-trans x y z, order.congr x y z)

-- ## two halves

-- what is before the last slash, and the name
abbrev pub halves_of : List ℕ → List ℕ × List ℕ
halves_of path = (before_of path, name_of path)

abbrev pub halves_cmp : List ℕ × List ℕ → List ℕ × List ℕ → Ordering
halves_cmp x y = ordering_then (slice_cmp nat_cmp x.0 y.0) (slice_cmp nat_cmp x.1 y.1)

pub halves_cmp_total : IsTotalOrder halves_cmp
halves_cmp_total = then_total (on_total (λ (x : List ℕ × List ℕ). x.0) nat_list_cmp_total) (on_total (λ (x : List ℕ × List ℕ). x.1) nat_list_cmp_total)

pub then-Equal : (o p : Ordering) → ordering_then o p ≡ Equal → (o ≡ Equal) × (p ≡ Equal)
then-Equal Equal p is = (refl, is)
then-Equal o p is = absurd cc

then-le : (o p : Ordering) → is_lt (ordering_then o p) ≡ true → is_le o ≡ true
then-le o p is = grind arith

-- ## the order of paths

pub path_before-itself : (p : List ℕ) → path_before p p ≡ false
path_before-itself p = lt-itself halves_cmp_total (halves_of p)

pub path_before-trans : (p q r : List ℕ) → path_before p q ≡ true → path_before q r ≡ true → path_before p r ≡ true
path_before-trans p q r this that = lt-trans halves_cmp_total (halves_of p) (halves_of q) (halves_of r) this that

pub path_before-one_way : (p q : List ℕ) → path_before p q ≡ true → path_before q p ≡ false
path_before-one_way p q this = lt-one_way halves_cmp_total (halves_of p) (halves_of q) this

pub same_halves : (p q : List ℕ) → list_any is_slash p ≡ true → list_any is_slash q ≡ true → before_of p ≡ before_of q → name_of p ≡ name_of q → p ≡ q
same_halves p q has_p has_q before name =
    halves-whole p has_p ∙ ap (λ b. b ++ 47 ∷ name_of p) before ∙ ap (λ n. before_of q ++ 47 ∷ n) name ∙ sym (halves-whole q has_q)

pub path_before-neither : (p q : List ℕ) → list_any is_slash p ≡ true → list_any is_slash q ≡ true → path_before p q ≡ false → path_before q p ≡ false → p ≡ q
path_before-neither p q has_p has_q this that =
    let tied = then-Equal _ _ (lt-neither halves_cmp_total (halves_of p) (halves_of q) this that) in
    same_halves p q has_p has_q (exact_bytes _ _ tied.0) (exact_bytes _ _ tied.1)

-- if a path comes before another, its first half isn't greater
pub path_before-first_le : (p q key : List ℕ) → path_before p q ≡ true → is_le (slice_cmp nat_cmp (before_of q) key) ≡ true → is_le (slice_cmp nat_cmp (before_of p) key) ≡ true
path_before-first_le p q key this that = le-trans nat_list_cmp_total (before_of p) (before_of q) key (then-le _ _ this) that

-- a path has a slash
pub has_slash : (p : List ℕ) → is_path p ≡ true → list_any is_slash p ≡ true
has_slash p is = ap (list_any is_slash) (begins_with_slash p is)

-- of two paths that differ, one comes before the other
pub path_before-some_way : (p q : List ℕ) → is_path p ≡ true → is_path q ≡ true → path_before p q ≡ false → (p ≡ q → ⊥) → path_before q p ≡ true
path_before-some_way p q is_p is_q this other =
    by_bool (λ (b : Bool). b ≡ true) (path_before q p) (λ _. refl) (λ that. absurd (other (path_before-neither p q (has_slash p is_p) (has_slash q is_q) this that)))

-- ## a parent and its child

slice_cmp-longer : (xs : List ℕ) (y : ℕ) (ys : List ℕ) → slice_cmp nat_cmp xs (xs ++ y ∷ ys) ≡ Less
slice_cmp-longer [] y ys = refl
slice_cmp-longer (x ∷ xs) y ys = rw (tied_itself nat_cmp_total x) (slice_cmp-longer xs y ys)

first_by : (before name : List ℕ) → (before ≡ [] → name ≡ [] → ⊥) → is_lt (halves_cmp ([], []) (before, name)) ≡ true
first_by [] [] other = absurd (other refl refl)
first_by before name other = refl

-- the root comes before all other paths
pub root-first : (q : List ℕ) → is_path q ≡ true → (q ≡ root → ⊥) → path_before root q ≡ true
root-first q is other = first_by (before_of q) (name_of q) (λ before name. other (same_halves q root (has_slash q is) refl before name))

-- what is before the last slash of a child
pub parent-half : (p q : List ℕ) → parent_of q ≡ Some p → p ≡ or_root (before_of q)
parent-half p (b ∷ c ∷ bs) above = cc
parent-half p q above = absurd cc

parent-by : (p q before : List ℕ) → is_path p ≡ true → is_path q ≡ true → (q ≡ root → ⊥) → p ≡ or_root before → before_of q ≡ before → path_before p q ≡ true
parent-by p q [] is_p is other same half = subst (λ (r : List ℕ). path_before r q ≡ true) (sym same) (root-first q is other)
parent-by p q (b ∷ bs) is_p is other same half =
    let around : before_of q ≡ before_of p ++ 47 ∷ name_of p = half ∙ sym same ∙ halves-whole p (has_slash p is_p) in
    let less : slice_cmp nat_cmp (before_of p) (before_of q) ≡ Less = ap (slice_cmp nat_cmp (before_of p)) around ∙ slice_cmp-longer (before_of p) 47 (name_of p) in
    ap (λ o. is_lt (ordering_then o (slice_cmp nat_cmp (name_of p) (name_of q)))) less

-- a parent comes before its child
pub parent-first : (p q : List ℕ) → is_path q ≡ true → parent_of q ≡ Some p → path_before p q ≡ true
parent-first p q is above =
    parent-by p q (before_of q) (IsChild-of q p is above).is is (λ same. let none : parent_of root ≡ Some p = sym (ap parent_of same) ∙ above in absurd cc) (parent-half p q above) refl

-- # a node by its path is the node at its place

-- ## whether two paths are equal

pub bytes_eq-is : (p q : List ℕ) → bytes_eq p q ≡ true → p ≡ q
bytes_eq-is p q is = (bytes_eq-Decides p q).0 is

pub bytes_eq-from : (p q : List ℕ) → p ≡ q → bytes_eq p q ≡ true
bytes_eq-from p q same = (bytes_eq-Decides p q).1 same

-- ## the probe that a path is found by

abbrev pub less_than : List ℕ → Node → Bool
less_than path n = path_before n.path path

less-down : (p : List ℕ) (m n : Node) → node_before m n ≡ true → less_than p n ≡ true → less_than p m ≡ true
less-down p m n order less = path_before-trans m.path n.path p order less

less-apart : (p : List ℕ) (n : Node) → less_than p n ≡ true → is_at p n ≡ false
less-apart p n less = bytes_eq-apart n.path p (λ same. let itself = path_before-itself n.path in absurd cc)

less-beyond : (p : List ℕ) (m n : Node) → node_before m n ≡ true → less_than p m ≡ false → is_at p n ≡ false
less-beyond p m n order not_less = bytes_eq-apart n.path p (λ same. absurd cc)

-- ## the node at a path

place-point : (p : List ℕ) (nodes : List Node) → IsSorted nodes → IsPartitionPoint (λ n. less_than p n ≡ true) (λ n. less_than p n ≡ false) nodes (place_of p nodes)
place-point p nodes sorted = IsPartitionPoint-rises node_before (less_than p) (less-down p) nodes sorted

-- at the place there is another node, or none
at_path-absent : (p : List ℕ) (nodes : List Node) → IsSorted nodes → ((n : Node) → slice_get nodes (place_of p nodes) ≡ Some n → is_at p n ≡ false) → at_path nodes p ≡ None
at_path-absent p nodes sorted other =
    find-none (is_at p) nodes
    (absent node_before (less_than p) (is_at p) (less-down p) (less-apart p) (less-beyond p) nodes (place_of p nodes) sorted (place-point p nodes sorted)
    (λ within. (root_node, other (get_or nodes (place_of p nodes) root_node) (slice_get-get_or nodes (place_of p nodes) root_node within))))

pub at_path-other : (p : List ℕ) (nodes : List Node) (n : Node) → IsSorted nodes → slice_get nodes (place_of p nodes) ≡ Some n → is_at p n ≡ false → at_path nodes p ≡ None
at_path-other p nodes n sorted is other = at_path-absent p nodes sorted (λ m there. cc)

pub at_path-past : (p : List ℕ) (nodes : List Node) → IsSorted nodes → slice_get nodes (place_of p nodes) ≡ None → at_path nodes p ≡ None
at_path-past p nodes sorted past = at_path-absent p nodes sorted (λ m there. absurd cc)

-- ### at any place

first-there : (p : List ℕ) (nodes : List Node) (k : ℕ) (n : Node) → IsSorted nodes → slice_get nodes k ≡ Some n → is_at p n ≡ true → FirstAt (is_at p) nodes k
first-there p [] k n sorted is here = absurd cc
first-there p (m ∷ nodes) zero n sorted is here = cc
first-there p (m ∷ nodes) (suc k) n sorted is here =
    let order : node_before m n ≡ true = all-at (λ x. node_before m x ≡ true) nodes k n sorted.0 is in
    (less-apart p m (rw (← bytes_eq-is n.path p here) order), first-there p nodes k n sorted.1 is here)

pub at_path-there : (p : List ℕ) (nodes : List Node) (k : ℕ) (n : Node) → IsSorted nodes → slice_get nodes k ≡ Some n → is_at p n ≡ true → at_path nodes p ≡ Some n
at_path-there p nodes k n sorted is here = find-first (is_at p) nodes k (first-there p nodes k n sorted is here) ∙ is

-- a text with no slash is no node's path
pub at_path-no_slash : (p : List ℕ) (nodes : List Node) → list_any is_slash p ≡ false → AllPaths nodes → at_path nodes p ≡ None
at_path-no_slash p nodes without paths =
    find-none (is_at p) nodes (all-weaker (λ n. is_path n.path ≡ true) (λ n. is_at p n ≡ false) (λ n is. bytes_eq-apart n.path p (λ same. let has = has_slash n.path is in absurd cc)) nodes paths)

-- ### probes by two halves

pub IsSplit-halves : (before name : List ℕ) (nodes : List Node) → IsSorted nodes →
    IsSplit (λ n. is_lt (ordering_then (slice_cmp nat_cmp (before_of n.path) before) (slice_cmp nat_cmp (name_of n.path) name))) nodes
IsSplit-halves before name nodes sorted =
    IsSplit-rises node_before (λ n. is_lt (halves_cmp (halves_of n.path) (before, name))) (λ m n order less. lt-trans halves_cmp_total (halves_of m.path) (halves_of n.path) (before, name) order less) nodes sorted

pub IsSplit-halves_le : (before name : List ℕ) (nodes : List Node) → IsSorted nodes →
    IsSplit (λ n. is_le (ordering_then (slice_cmp nat_cmp (before_of n.path) before) (slice_cmp nat_cmp (name_of n.path) name))) nodes
IsSplit-halves_le before name nodes sorted =
    IsSplit-rises node_before (λ n. is_le (halves_cmp (halves_of n.path) (before, name))) (λ m n order less. lt_le-trans halves_cmp_total (halves_of m.path) (halves_of n.path) (before, name) order less) nodes sorted

pub IsSplit-first_le : (key : List ℕ) (nodes : List Node) → IsSorted nodes → IsSplit (λ n. is_le (slice_cmp nat_cmp (before_of n.path) key)) nodes
IsSplit-first_le key nodes sorted =
    IsSplit-rises node_before (λ n. is_le (slice_cmp nat_cmp (before_of n.path) key)) (λ m n order less. path_before-first_le m.path n.path key order less) nodes sorted

-- ## a change at a path

pub change_node-there : (p : List ℕ) (f : Node → Node) (nodes : List Node) (k : ℕ) (n : Node) → IsSorted nodes → slice_get nodes k ≡ Some n → is_at p n ≡ true → change_node p f nodes ≡ change_at k f nodes
change_node-there p f nodes k n sorted is here = change_first-at (is_at p) f nodes k (first-there p nodes k n sorted is here)

pub change_node-none : (p : List ℕ) (f : Node → Node) (nodes : List Node) → at_path nodes p ≡ None → change_node p f nodes ≡ nodes
change_node-none p f nodes none = change_first-none (is_at p) f nodes (none-find (is_at p) nodes none)

-- ## one node less

-- there is only one node of a path
pub later-others : (p : List ℕ) (n : Node) (nodes : List Node) → is_at p n ≡ true → AllByRecursion (λ m. node_before n m ≡ true) nodes → NonePass (is_at p) nodes
later-others p n nodes here all =
    all-weaker (λ m. node_before n m ≡ true) (λ m. is_at p m ≡ false)
    (λ m order. less-beyond p n m order (let same = bytes_eq-is n.path p here in ap (λ (q : List ℕ). path_before q p) same ∙ path_before-itself p)) nodes all

-- a node that was taken out is no longer there
pub at_path-gone : (p : List ℕ) (nodes : List Node) (k : ℕ) (n : Node) → IsSorted nodes → slice_get nodes k ≡ Some n → is_at p n ≡ true → at_path (remove nodes k) p ≡ None
at_path-gone p nodes k n sorted there here =
    let same = bytes_eq-is n.path p here in
    find-none (is_at p) (remove nodes k)
    (none-remove node_before (is_at p) nodes k n sorted there
    (λ m order. less-apart p m (subst (λ (q : List ℕ). path_before m.path q ≡ true) same order))
    (λ m order. less-beyond p n m order (ap (λ (q : List ℕ). path_before q p) same ∙ path_before-itself p)))

without_node-first : (p : List ℕ) (nodes : List Node) (i : ℕ) → IsSorted nodes → FirstAt (is_at p) nodes i → without_node p nodes ≡ remove nodes i
without_node-first p [] i sorted first = absurd first
without_node-first p (n ∷ nodes) zero sorted first = rw first (filter-not_none (is_at p) nodes (later-others p n nodes first sorted.0))
without_node-first p (n ∷ nodes) (suc i) sorted first = rw (first.0) (ap (λ (ms : List Node). n ∷ ms) (without_node-first p nodes i sorted.1 first.1))

pub without_node-there : (p : List ℕ) (nodes : List Node) (k : ℕ) (n : Node) → IsSorted nodes → slice_get nodes k ≡ Some n → is_at p n ≡ true → without_node p nodes ≡ remove nodes k
without_node-there p nodes k n sorted is here = without_node-first p nodes k sorted (first-there p nodes k n sorted is here)

-- ## one node more

-- a node that is neither before nor at a path is after it
not_less-after : (n m : Node) → is_path n.path ≡ true → is_path m.path ≡ true → is_at n.path m ≡ false → less_than n.path m ≡ false → node_before n m ≡ true
not_less-after n m is_n is_m other not_less =
    path_before-some_way m.path n.path is_m is_n not_less (λ same. let e = bytes_eq-from m.path n.path same in absurd cc)

-- the nodes up to its place come before it, and it comes before the others
between : (n : Node) (nodes : List Node) → is_path n.path ≡ true → AllPaths nodes → at_path nodes n.path ≡ None → IsSorted nodes → IsPartitionPoint (λ m. node_before m n ≡ true) (λ m. node_before n m ≡ true) nodes (place_of n.path nodes)
between n nodes is paths none sorted =
    let point = place-point n.path nodes sorted in (
      point.0,
      λ k d low high. not_less-after n (get_or nodes k d) is (all-get_or (λ m. is_path m.path ≡ true) nodes k d paths high)
          (all-get_or (λ m. is_at n.path m ≡ false) nodes k d (none-find (is_at n.path) nodes none) high) (point.1 k d low high),
    )

pub insert_node-at : (n : Node) (nodes : List Node) → is_path n.path ≡ true → AllPaths nodes → at_path nodes n.path ≡ None → IsSorted nodes → insert_node n nodes ≡ insert nodes (place_of n.path nodes) n
insert_node-at n nodes is paths none sorted =
    let point = between n nodes is paths none sorted in
    insert_before-point (λ m. node_before n m) n nodes (place_of n.path nodes) (prefix_len-le-length (less_than n.path) nodes)
    (λ k d low high. path_before-one_way (get_or nodes k d).path n.path (point.0 k d low high), point.1)

-- ## what keeps the order

pub IsSorted-insert : (n : Node) (nodes : List Node) → is_path n.path ≡ true → AllPaths nodes → at_path nodes n.path ≡ None → IsSorted nodes → IsSorted (insert nodes (place_of n.path nodes) n)
IsSorted-insert n nodes is paths none sorted =
    Rises-between node_before n (λ m k first order. path_before-trans n.path m.path k.path first order)
    nodes (place_of n.path nodes) (prefix_len-le-length (less_than n.path) nodes) (between n nodes is paths none sorted) sorted

pub IsSorted-insert_node : (n : Node) (nodes : List Node) → is_path n.path ≡ true → AllPaths nodes → at_path nodes n.path ≡ None → IsSorted nodes → IsSorted (insert_node n nodes)
IsSorted-insert_node n nodes is paths none sorted = subst IsSorted (sym (insert_node-at n nodes is paths none sorted)) (IsSorted-insert n nodes is paths none sorted)

pub AllPaths-insert_node : (n : Node) (nodes : List Node) → is_path n.path ≡ true → AllPaths nodes → AllPaths (insert_node n nodes)
AllPaths-insert_node n nodes is paths = all-insert_before (λ m. is_path m.path ≡ true) (λ m. path_before n.path m.path) n nodes is paths

pub IsSorted-without_node : (p : List ℕ) (nodes : List Node) → IsSorted nodes → IsSorted (without_node p nodes)
IsSorted-without_node p nodes sorted = Rises-filter node_before (λ n. not (is_at p n)) nodes sorted

pub AllPaths-without_node : (p : List ℕ) (nodes : List Node) → AllPaths nodes → AllPaths (without_node p nodes)
AllPaths-without_node p nodes paths = all-filter (λ m. is_path m.path ≡ true) (λ n. not (is_at p n)) nodes paths

pub IsSorted-filter : (keep : Node → Bool) (nodes : List Node) → IsSorted nodes → IsSorted (filter keep nodes)
IsSorted-filter keep nodes sorted = Rises-filter node_before keep nodes sorted

pub AllPaths-filter : (keep : Node → Bool) (nodes : List Node) → AllPaths nodes → AllPaths (filter keep nodes)
AllPaths-filter keep nodes paths = all-filter (λ m. is_path m.path ≡ true) keep nodes paths

-- # a path that is free, by its two halves

-- the place of two halves
pub record IsGapAt (path before name : List ℕ) (nodes : List Node) (k : ℕ) : Type 0 where
  pub is : is_path path ≡ true
  pub half : before_of path ≡ before
  pub last : name_of path ≡ name
  pub place : k ≡ prefix_len (λ n. stands_before before name n.path) nodes

place : (path before name : List ℕ) (nodes : List Node) (k : ℕ) → IsGapAt path before name nodes k → k ≡ place_of path nodes
place path before name nodes k gap = rw (gap.half, gap.last) gap.place

-- past the last node
pub FindsGap-past : (path before name : List ℕ) (nodes : List Node) (k : ℕ) → IsGapAt path before name nodes k → IsSorted nodes → slice_get nodes k ≡ None → FindsGap nodes path (Some k)
FindsGap-past path before name nodes k gap sorted past =
    let at = place path before name nodes k gap in
    (at_path-past path nodes sorted (rw at at past), at)

-- there is a node of other halves at the place
pub FindsGap-other : (path before name : List ℕ) (nodes : List Node) (k : ℕ) (n : Node) → IsGapAt path before name nodes k → IsSorted nodes → slice_get nodes k ≡ Some n →
    false ≡ (bytes_eq (before_of n.path) before && bytes_eq (name_of n.path) name) → FindsGap nodes path (Some k)
FindsGap-other path before name nodes k n gap sorted there differ =
    let at = place path before name nodes k gap in
    let other = bytes_eq-apart n.path path (λ same.
    let halves = and_from _ _ (bytes_eq-from (before_of n.path) before (ap before_of same ∙ gap.half)) (bytes_eq-from (name_of n.path) name (ap name_of same ∙ gap.last)) in
    cc) in
    (at_path-other path nodes n sorted (rw at at there) other, at)

-- the path's node is at the place
pub FindsGap-none : (path before name : List ℕ) (nodes : List Node) (k : ℕ) (n : Node) → IsGapAt path before name nodes k → IsSorted nodes → AllPaths nodes → slice_get nodes k ≡ Some n →
    true ≡ (bytes_eq (before_of n.path) before && bytes_eq (name_of n.path) name) → FindsGap nodes path None
FindsGap-none path before name nodes k n gap sorted paths there agree =
    let halves = and_parts _ _ (sym agree) in
    let is_n = all-at (λ m. is_path m.path ≡ true) nodes k n paths there in
    let same = same_halves n.path path (has_slash n.path is_n) (has_slash path gap.is)
    (bytes_eq-is (before_of n.path) before halves.0 ∙ sym gap.half) (bytes_eq-is (name_of n.path) name halves.1 ∙ sym gap.last) in
    rw (at_path-there path nodes k n sorted there (bytes_eq-from n.path path same)) refl

-- # the children of a path are one stretch of the nodes

-- ## the children of a path

-- whether a node comes before each child, or is the root
abbrev pub is_above : List ℕ → Node → Bool
is_above key n = is_le (ordering_then (slice_cmp nat_cmp (before_of n.path) key) (slice_cmp nat_cmp (name_of n.path) []))

-- whether a node comes before each child, or is one
abbrev pub is_upto : List ℕ → Node → Bool
is_upto key n = is_le (slice_cmp nat_cmp (before_of n.path) key)

above-upto-by : (o p : Ordering) → is_le (ordering_then o p) ≡ true → is_le o ≡ true
above-upto-by o p is = grind arith

pub above-upto : (key : List ℕ) (n : Node) → is_above key n ≡ true → is_upto key n ≡ true
above-upto key n is = above-upto-by _ _ is

-- what is before the last slash of a child
pub record IsKey (key p : List ℕ) : Type 0 where
  pub above : or_root key ≡ p
  pub other : key ≡ root → ⊥

pub IsKey-root : IsKey [] root
IsKey-root = record { above = refl; other = λ same. absurd cc }

or_root-same : (xs ys : List ℕ) → (xs ≡ root → ⊥) → (ys ≡ root → ⊥) → or_root xs ≡ or_root ys → xs ≡ ys
or_root-same [] [] no_x no_y same = refl
or_root-same [] (y ∷ ys) no_x no_y same = absurd (no_y (sym same))
or_root-same (x ∷ xs) [] no_x no_y same = absurd (no_x same)
or_root-same (x ∷ xs) (y ∷ ys) no_x no_y same = same

-- no path has `/` before its last slash
pub half-not_root : (path above : List ℕ) → is_path path ≡ true → parent_of path ≡ Some above → before_of path ≡ root → ⊥
half-not_root path above is has half =
    let child = IsChild-of path above is has in
    let top : above ≡ root = parent-half above path has ∙ ap or_root half in
    let short : 47 ∷ name_of path ≡ path = sym (ap (λ (a : List ℕ). below a (name_of path)) top) ∙ child.whole in
    let long : path ≡ 47 ∷ 47 ∷ name_of path = halves-whole path (has_slash path is) ∙ ap (λ (b : List ℕ). b ++ 47 ∷ name_of path) half in
    let both : length (47 ∷ name_of path) ≡ length (47 ∷ 47 ∷ name_of path) = ap length (short ∙ long) in
    absurd (omega arith)

pub child-half : (key p : List ℕ) (n : Node) (o : Option (List ℕ)) → IsKey key p → is_path n.path ≡ true → parent_of n.path ≡ o → is_parent p o ≡ true → before_of n.path ≡ key
child-half key p n None is_key is has child = absurd cc
child-half key p n (Some above) is_key is has child =
    let same : or_root (before_of n.path) ≡ or_root key = sym (parent-half above n.path has) ∙ bytes_eq-is above p child ∙ sym is_key.above in
    or_root-same (before_of n.path) key (half-not_root n.path above is has) is_key.other same

-- a node with another half is not a child
other-half : (key p : List ℕ) (n : Node) → IsKey key p → is_path n.path ≡ true → (before_of n.path ≡ key → ⊥) → is_child p n ≡ false
other-half key p n is_key path other = false_from_ne_true (is_child p n) (λ is. other (child-half key p n (parent_of n.path) is_key path refl is))

-- the root has no name, and each other path has one
name-root : (path above : List ℕ) → is_path path ≡ true → parent_of path ≡ Some above → name_of path ≡ [] → ⊥
name-root path above is has empty = let named = (IsChild-of path above is has).named in let e : is_element [] ≡ true = sym (ap is_element empty) ∙ named in absurd cc

same-half-by : (key p : List ℕ) (n : Node) (o : Option (List ℕ)) (name : List ℕ) → IsKey key p → is_path n.path ≡ true → before_of n.path ≡ key → parent_of n.path ≡ o → name_of n.path ≡ name → is_parent p o ≡ not (is_le (slice_cmp nat_cmp name []))
same-half-by key p n None [] is_key is half has named = refl
same-half-by key p n None (c ∷ name) is_key is half has named =
    let e : name_of n.path ≡ [] = ap name_of (root-of n.path is has) in absurd (let f : [] ≡ c ∷ name = sym e ∙ named in cc)
same-half-by key p n (Some above) [] is_key is half has named = absurd (name-root n.path above is has named)
same-half-by key p n (Some above) (c ∷ name) is_key is half has named =
    bytes_eq-from above p (parent-half above n.path has ∙ ap or_root half ∙ is_key.above)

-- a child is what is between the two probes
child-by : (key p : List ℕ) (n : Node) (o : Ordering) → IsKey key p → is_path n.path ≡ true → slice_cmp nat_cmp (before_of n.path) key ≡ o →
    is_child p n ≡ (not (is_le (ordering_then o (slice_cmp nat_cmp (name_of n.path) []))) && is_le o)
child-by key p n Equal is_key is at =
    same-half-by key p n (parent_of n.path) (name_of n.path) is_key is (exact_bytes _ _ at) refl refl ∙ sym (and_true (not (is_le (slice_cmp nat_cmp (name_of n.path) []))))
child-by key p n o is_key is at = other-half key p n is_key is (λ same. let tied = tied_itself nat_list_cmp_total key in absurd cc)

-- where the children begin, and where they end
abbrev pub children_from : List ℕ → List Node → ℕ
children_from key nodes = prefix_len (is_above key) nodes

abbrev pub children_to : List ℕ → List Node → ℕ
children_to key nodes = prefix_len (is_upto key) nodes

-- # what a search finds

-- a path's place is that of its two halves
pub place_of-halves : (p before name : List ℕ) (nodes : List Node) (k : ℕ) → k ≡ prefix_len (λ n. stands_before before (name ++ []) n.path) nodes → before ≡ before_of p → name ≡ name_of p → k ≡ place_of p nodes
place_of-halves p before name nodes k place node_before is_name = rw (append-nil name, node_before, is_name) at place

-- no node is the child of an empty text
not_empty : (path : List ℕ) → is_parent [] (parent_of path) ≡ false
not_empty [] = refl
not_empty (b ∷ []) = refl
not_empty (b ∷ c ∷ bs) = or_root-some (before_of (b ∷ c ∷ bs)) where
  or_root-some : (before : List ℕ) → bytes_eq (or_root before) [] ≡ false
  or_root-some [] = refl
  or_root-some (x ∷ xs) = refl

pub children_of-empty : (nodes : List Node) → children_of nodes [] ≡ []
children_of-empty [] = refl
children_of-empty (n ∷ nodes) = rw (not_empty n.path) (children_of-empty nodes)

pub IsStretch-empty : (path : List ℕ) (nodes : List Node) → path ≡ [] → IsStretch nodes path 0 0
IsStretch-empty path nodes is = record { ordered = omega arith; within = omega arith; children = rw is (children_of-empty nodes) }

pub IsStretch-key : (key p : List ℕ) (nodes : List Node) → IsKey key p → IsSorted nodes → AllPaths nodes → IsStretch nodes p (children_from key nodes) (children_to key nodes)
IsStretch-key key p nodes is sorted paths = record {
  ordered = prefix_len-le (is_above key) (is_upto key) nodes (above-upto key);
  within = prefix_len-le-length (is_upto key) nodes;
  children = filter-between node_before (is_above key) (is_upto key) (is_child p)
      (λ m n order above. lt_le-trans halves_cmp_total (halves_of m.path) (halves_of n.path) (key, []) order above)
      (λ m n order upto. path_before-first_le m.path n.path key order upto)
      nodes
      (all-weaker (λ n. is_path n.path ≡ true) (IsBetween (is_above key) (is_upto key) (is_child p)) (λ n path. record { both = above-upto key n; is = child-by key p n (slice_cmp nat_cmp (before_of n.path) key) is path refl }) nodes paths)
      sorted;
}

-- a text that is neither empty nor the root
pub IsKey-itself : (p : List ℕ) → (p ≡ [] → ⊥) → (p ≡ root → ⊥) → IsKey p p
IsKey-itself [] some other = absurd (some refl)
IsKey-itself (b ∷ bs) some other = record { above = refl; other = other }

-- whether a text is empty
pub empty-is : (p : List ℕ) → true ≡ (length p == 0) → p ≡ []
empty-is [] is = refl
empty-is (b ∷ bs) is = absurd (grind (arith, nat_tests))

pub empty-not : (p : List ℕ) → false ≡ (length p == 0) → p ≡ [] → ⊥
empty-not [] is same = cc
empty-not (b ∷ bs) is same = cc

pub true-not : (b : Bool) → true ≡ not b → b ≡ false
true-not b is = grind arith

pub false-not : (b : Bool) → false ≡ not b → b ≡ true
false-not b is = grind arith
