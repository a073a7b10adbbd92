-- what each accepted part changes of what a tree shows, and the facts from which a part is accepted
use Rattle.np_tree.proofs.Prelude.{AllByRecursion, AllPaths, AllPaths-change_node, Any, Bool, CanCreate, ChecksGo, ClearsEmpty, ClearsGo, Creates, CreatesAnswer, CreatesGo, CreatesShow, CreatesUnderGo, CreatesUnderShow, Deletes, DeletesGo, DeletesShow, EndsShow, FreshListed, FreshSeen, Goes, HasParts-below, IsChild-of, IsFresh, IsMade-made_path, IsOk, IsSorted, IsSorted-change_node, IsWhole, KeepsPath, List, MakesName, MakesName-child, Mode, Node, None, NothingBelowNothing, Ok, Op, OpDone, Option, PartsChangeNodesAlone, RaisesShow, Result, Rises, RoomFalls, RoomGives, Row, RowsRise, Seen, SeenIsRow, SetsGo, SetsShow, Since, Some, Stand, Tag, TreeRefusal, TreeState, UndatedBytesAreNotLater, UndatedLossIsNotLater, [], after_create_under, after_delete, after_loss, after_part, after_parts, after_removal, after_set, all-change_first_to, all-filter, all-filter_to, all-find, all-insert_before, all-mapped, all-weaker, ap, append-nil, arith, at_path, at_path-change_here, at_path-change_other, below, by_bool, bytes_eq, bytes_eq-apart, bytes_eq-from, bytes_eq-is, change_node, child_answer, children_of, codes, cond, counter_after, counter_at, create_answer, delete_answer, delete_parts, false, filter, filter-not_none, find-insert_before, find-map, find-passes, find_named, found, found-change_first, from-map_some, insert_node, is-below, is_at, is_below, is_child, is_element, is_in, is_named, is_owned, is_owner, is_path, is_path-below, is_sequential, length, length-children-paths, length-filter-filter, length-map, length-none, made_path, map, name_given, name_of, named_before, nat_tests, need, need-ok, new_node, next_change, nodes_after_end, none-find, not, option_map, parent-first, parent_of, path_before, path_before-itself, paths_of-change_node, refl, root, root_node, row_before, row_given, row_of, row_with, rows_at, seen_at, seen_in, seen_of, seen_with, subst, sym, tag_of, ten_digits_of, there, true, unless_owned, unspent, where_found, with_bytes, with_child, with_counter, with_new_child, with_row, without_child, without_child_above, without_node, ℕ, ◌++◌, ◌+◌, ◌<◌, ◌>>=◌, ◌>>◌, ◌∙◌, ◌∷◌, ◌≡◌, ◌≤◌}
use Rattle.np_tree.proofs.WholeLemmas.{IsChildPath, IsWhole-after_part, MayMake, child_answer-passed, children_of-barren, delete_answer-passed, empty-makes, made-below, made-free, parent-path}
use Rattle.np_tree.proofs.RowLemmas.{above-child, at-child, at_path-changed, at_path-filter, at_path-without_other, child-above, children-by-name, find-filter_gone, find-insert_here, kept_by, named-at, other-child, other-name_back, rows-changed, rows-changed_other, rows-ended, rows-gone, rows-gone_other, rows-more, rows-more_other, rows-touch, rows_in, some_same}
use Rattle.np_tree.proofs.CallLemmas.{after_part-nodes, goes-after}

-- # what each accepted part changes of what a tree shows

-- ## if there is no node at a path, there is none below it

pub seen-none : (o : Option Node) → option_map seen_of o ≡ None → o ≡ None
seen-none None is = refl
seen-none (Some n) is = absurd cc

pub rows-nothing : (nodes : List Node) (dir : List ℕ) → Stand nodes → at_path nodes dir ≡ None → rows_in dir nodes ≡ []
rows-nothing nodes dir stand none = ap (map row_of) (children_of-barren nodes dir (λ n there free. absurd (let e : None ≡ Some n = sym none ∙ there in cc)) stand)

pub nothing-below_nothing : NothingBelowNothing
nothing-below_nothing t dir whole none = rows-nothing t.nodes dir whole.stand (seen-none (at_path t.nodes dir) none)

-- ## a create

-- the counter of a directory is that of the node found there
pub counter-found : (nodes : List Node) (dir : List ℕ) (n : Node) (counter : ℕ) → at_path nodes dir ≡ Some n → option_map (λ m. m.facts.counter) (at_path nodes dir) ≡ Some counter → n.facts.counter ≡ counter
counter-found nodes dir n counter there is = some_same (sym (ap (option_map (λ (m : Node). m.facts.counter)) there) ∙ is)

pub made-is : (t : TreeState) (dir name : List ℕ) (mode : Mode) (parent : Node) (counter : ℕ) → at_path t.nodes dir ≡ Some parent → counter_at t dir ≡ Some counter → made_path parent name mode ≡ below dir (name_given mode counter name)
made-is t dir name mode parent counter there is =
    ap (λ (p : List ℕ). below p (name_given mode parent.facts.counter name)) (bytes_eq-is parent.path dir (find-passes (is_at dir) t.nodes parent there))
    ∙ ap (λ (c : ℕ). below dir (name_given mode c name)) (counter-found t.nodes dir parent counter there is)

-- a child is made below a directory
module _ (t : TreeState) (session : ℕ) (dir name bytes made : List ℕ) (mode : Mode) (counter : ℕ) (whole : IsWhole t.nodes) (makes : MakesName name mode) (is : counter_at t dir ≡ Some counter) (may : MayMake t dir name bytes mode made) where
  abbrev change : Node → Node
  change = with_child (next_change t) mode

  abbrev touched : List Node
  touched = change_node dir change t.nodes

  abbrev new : Node
  new = new_node (next_change t) session (made_path may.parent name mode) bytes mode

  abbrev row : Row
  row = row_given mode counter session name bytes

  child : IsChildPath new.path dir
  child = made-below t (next_change t) session dir name bytes made mode makes may whole

  path-is : new.path ≡ below dir row.name
  path-is = made-is t dir name mode may.parent counter may.found is

  name-is : name_of new.path ≡ row.name
  name-is =
      (IsMade-made_path may.parent name mode (parent-path t (next_change t) session dir name bytes made mode makes may whole) makes).last
      ∙ by_bool (λ b. name ++ cond b (ten_digits_of may.parent.facts.counter) [] ≡ cond b (name ++ ten_digits_of may.parent.facts.counter) name) (is_sequential mode) (λ _. refl) (λ _. append-nil name)
      ∙ ap (λ (c : ℕ). name_given mode c name) (counter-found t.nodes dir may.parent counter may.found is)

  row-is : row_of new ≡ row
  row-is = ap (λ (n : List ℕ). record row { name = n }) name-is

  abbrev left : TreeState
  left = record t { nodes = insert_node new touched }

  rows : rows_in dir (insert_node new touched) ≡ with_row row (rows_in dir t.nodes)
  rows =
      rows-more dir new child.is child.above (above-child dir new child.above) touched (AllPaths-change_node dir change (λ _. refl) t.nodes whole.paths) (IsSorted-change_node dir change (λ _. refl) t.nodes whole.sorted)
      ∙ ap (λ (r : Row). with_row r (rows_in dir touched)) row-is
      ∙ ap (with_row row) (rows-touch dir (is_at dir) change (λ _. refl) (λ _. refl) t.nodes)

  other_rows : (other : List ℕ) → (other ≡ dir → ⊥) → rows_in other (insert_node new touched) ≡ rows_in other t.nodes
  other_rows other apart =
      rows-more_other other new touched (other-child other dir new apart child.above)
      ∙ rows-touch other (is_at dir) change (λ _. refl) (λ _. refl) t.nodes

  here : at_path (insert_node new touched) new.path ≡ Some new
  here = find-insert_here (is_at new.path) (λ m. path_before new.path m.path) new touched (bytes_eq-from new.path new.path refl) (none-find (is_at new.path) touched (made-free t (next_change t) session dir name bytes made mode makes may))

  elsewhere : (path : List ℕ) → (path ≡ below dir row.name → ⊥) → at_path (insert_node new touched) path ≡ at_path touched path
  elsewhere path apart = find-insert_before (is_at path) (λ m. path_before new.path m.path) new touched (bytes_eq-apart new.path path (λ same. apart (sym same ∙ path-is)))

  apart-dir : dir ≡ below dir row.name → ⊥
  apart-dir same =
      let there : at_path t.nodes dir ≡ None = ap (at_path t.nodes) (same ∙ sym path-is) ∙ may.new in
      absurd (let e : Some may.parent ≡ None = sym may.found ∙ there in cc)

  counted : counter_at left dir ≡ option_map (counter_after mode) (counter_at t dir)
  counted =
      ap (option_map (λ (n : Node). n.facts.counter)) (elsewhere dir apart-dir ∙ at_path-change_here dir change (λ _. refl) t.nodes may.parent may.found)
      ∙ sym (ap (λ (o : Option Node). option_map (counter_after mode) (option_map (λ (n : Node). n.facts.counter) o)) may.found)

  pub Creates-left : Creates mode dir row t left
  Creates-left = record {
    rows = rows;
    seen = sym (ap (seen_at left) path-is) ∙ ap (option_map seen_of) here;
    empty = sym (ap (λ (p : List ℕ). rows_at left p) path-is) ∙ other_rows new.path (λ same. apart-dir (sym same ∙ path-is)) ∙ rows-nothing t.nodes new.path whole.stand may.new;
    new = sym (ap (counter_at left) path-is) ∙ ap (option_map (λ (n : Node). n.facts.counter)) here;
    counter = counted;
    other_rows = other_rows;
    other_seen = λ path apart. ap (option_map seen_of) (elsewhere path apart) ∙ found-change_first (option_map seen_of) (is_at dir) (is_at path) change (λ _. refl) (λ _. refl) t.nodes;
    other_counter = λ path apart_dir apart. ap (option_map (λ (n : Node). n.facts.counter)) (elsewhere path apart ∙ at_path-change_other dir path change (λ _. refl) (λ same. apart_dir (sym same)) t.nodes);
  }

-- the part's state is that one, since the directory is found
Creates-under : (t : TreeState) (session : ℕ) (dir name bytes made : List ℕ) (mode : Mode) (counter : ℕ) → IsWhole t.nodes → MakesName name mode → counter_at t dir ≡ Some counter → child_answer t dir name bytes mode ≡ Ok made →
    Creates mode dir (row_given mode counter session name bytes) t (after_create_under t session dir name bytes mode)
Creates-under t session dir name bytes made mode counter whole makes is answer =
    let may = child_answer-passed t dir name bytes mode made answer in
    rw may.found (Creates-left t session dir name bytes made mode counter whole makes is may)

-- the tests after that of the session
pub child-line : (t : TreeState) (session : ℕ) (path dir bytes made : List ℕ) (mode : Mode) → parent_of path ≡ Some dir → create_answer t session path bytes mode ≡ Ok made → child_answer t dir (name_of path) bytes mode ≡ Ok made
child-line t session path dir bytes made mode above answer =
    let live = need-ok (is_in t.live session) TreeRefusal.SessionExpired (found (parent_of path) TreeRefusal.NodeExists >>= (λ p. child_answer t p (name_of path) bytes mode)) made answer in
    sym (ap (λ (o : Option (List ℕ)). found o TreeRefusal.NodeExists >>= (λ p. child_answer t p (name_of path) bytes mode)) above) ∙ live.1

pub creates-show : CreatesShow
creates-show t session path dir bytes made mode counter whole proper above is answer =
    rw above (Creates-under t session dir (name_of path) bytes made mode counter whole (MakesName-child path dir mode proper above) is (child-line t session path dir bytes made mode above answer))

pub creates-answer : CreatesAnswer
creates-answer t session path dir bytes made mode counter above is answer =
    let may = child_answer-passed t dir (name_of path) bytes mode made (child-line t session path dir bytes made mode above answer) in
    sym may.path ∙ made-is t dir (name_of path) mode may.parent counter may.found is

pub creates-under-show : CreatesUnderShow
creates-under-show t session dir bytes made mode counter whole numbered is answer =
    let live = need-ok (is_in t.live session) TreeRefusal.SessionExpired (child_answer t dir [] bytes mode) made answer in
    Creates-under t session dir [] bytes made mode counter whole (empty-makes mode numbered) is live.1

-- ## a set

seen-bytes : (z : ℕ) (bytes : List ℕ) (o : Option Node) → option_map seen_of (option_map (with_bytes z bytes) o) ≡ option_map (seen_with bytes) (option_map seen_of o)
seen-bytes z bytes None = refl
seen-bytes z bytes (Some n) = refl

pub sets-show : SetsShow
sets-show t session path dir bytes expect version whole proper above answer =
    let f : Node → Node = with_bytes (next_change t) bytes in
    let whole-path = (IsChild-of path dir proper above).whole in
    record {
      rows = rows-changed dir path proper above f (row_with bytes) (λ _. refl) (λ _. refl) t.nodes whole.paths;
      seen = subst (λ (p : List ℕ). seen_at (after_set t path bytes) p ≡ option_map (seen_with bytes) (seen_at t p)) (sym whole-path) (ap (option_map seen_of) (at_path-changed path f (λ _. refl) t.nodes) ∙ seen-bytes (next_change t) bytes (at_path t.nodes path));
      counters = λ other. found-change_first (option_map (λ (n : Node). n.facts.counter)) (is_at path) (is_at other) f (λ _. refl) (λ _. refl) t.nodes;
      other_rows = λ other apart. rows-changed_other other dir path apart above f (λ _. refl) t.nodes;
      other_seen = λ other apart. ap (option_map seen_of) (at_path-change_other path other f (λ _. refl) (λ same. apart (sym same ∙ sym whole-path)) t.nodes);
    }

-- ## a delete

-- the nodes without one, whose parent changes with it
module _ (z : ℕ) (path dir : List ℕ) (nodes : List Node) (proper : is_path path ≡ true) (above : parent_of path ≡ Some dir) where
  abbrev told : List Node
  told = change_node dir (without_child z) nodes

  removal : after_removal z path nodes ≡ without_node path told
  removal = ap (λ (o : Option (List ℕ)). without_node path (without_child_above z o nodes)) above

  pub rows-removal : AllPaths nodes → rows_in dir (after_removal z path nodes) ≡ filter (λ row. not (is_named (name_of path) row)) (rows_in dir nodes)
  rows-removal paths =
      ap (rows_in dir) removal
      ∙ rows-gone dir path proper above told (AllPaths-change_node dir (without_child z) (λ _. refl) nodes paths)
      ∙ ap (filter (λ row. not (is_named (name_of path) row))) (rows-touch dir (is_at dir) (without_child z) (λ _. refl) (λ _. refl) nodes)

  pub rows-removal_other : (other : List ℕ) → (other ≡ dir → ⊥) → rows_in other (after_removal z path nodes) ≡ rows_in other nodes
  rows-removal_other other apart =
      ap (rows_in other) removal ∙ rows-gone_other other dir path apart above told
      ∙ rows-touch other (is_at dir) (without_child z) (λ _. refl) (λ _. refl) nodes

  pub at_path-removal : at_path (after_removal z path nodes) path ≡ None
  at_path-removal = ap (λ (ns : List Node). at_path ns path) removal ∙ find-filter_gone (is_at path) told

  pub at_path-removal_other : (other : List ℕ) → (other ≡ path → ⊥) → at_path (after_removal z path nodes) other ≡ at_path told other
  at_path-removal_other other apart =
      ap (λ (ns : List Node). at_path ns other) removal ∙ at_path-without_other other path apart told

pub apart-below : (dir path : List ℕ) → is_path path ≡ true → parent_of path ≡ Some dir → path ≡ dir → ⊥
apart-below dir path proper above same =
    let first = parent-first dir path proper above in
    let itself : path_before dir path ≡ false = ap (path_before dir) same ∙ path_before-itself dir in
    absurd (let e : true ≡ false = sym first ∙ itself in cc)

pub deletes-show : DeletesShow
deletes-show t session path dir expect whole proper above answer =
    let z = next_change t in
    let passed = delete_answer-passed t session path expect answer in
    let same = (IsChild-of path dir proper above).whole in
    record {
      rows = rows-removal z path dir t.nodes proper above whole.paths;
      gone = ap (seen_at (after_delete t path)) same ∙ ap (option_map seen_of) (at_path-removal z path dir t.nodes proper above);
      empty = ap (rows_at (after_delete t path)) same ∙ rows-removal_other z path dir t.nodes proper above path (apart-below dir path proper above) ∙ ap (map row_of) (length-none (children_of t.nodes path) passed.none);
      none = ap (counter_at (after_delete t path)) same ∙ ap (option_map (λ (n : Node). n.facts.counter)) (at_path-removal z path dir t.nodes proper above);
      other_rows = λ other apart. rows-removal_other z path dir t.nodes proper above other apart;
      other_seen = λ other apart. ap (option_map seen_of) (at_path-removal_other z path dir t.nodes proper above other (λ is. apart (is ∙ sym same)))
          ∙ found-change_first (option_map seen_of) (is_at dir) (is_at other) (without_child z) (λ _. refl) (λ _. refl) t.nodes;
      other_counter = λ other apart. ap (option_map (λ (n : Node). n.facts.counter)) (at_path-removal_other z path dir t.nodes proper above other (λ is. apart (is ∙ sym same)))
          ∙ found-change_first (option_map (λ (n : Node). n.facts.counter)) (is_at dir) (is_at other) (without_child z) (λ _. refl) (λ _. refl) t.nodes;
    }

-- ## the end of a session

seen-kept : (session : ℕ) (f : Node → Node) (o : Option Node) → ((n : Node) → seen_of (f n) ≡ seen_of n) → option_map seen_of (option_map f (kept_by (λ n. not (is_owned session n)) o)) ≡ unless_owned session (option_map seen_of o)
seen-kept session f None shows = refl
seen-kept session f (Some n) shows = grind (arith, shows n)

counter-kept : (session : ℕ) (f : Node → Node) (o : Option Node) (seen : Seen) → ((n : Node) → (f n).facts.counter ≡ n.facts.counter) → option_map seen_of o ≡ Some seen → is_owner session seen.owner ≡ false →
    option_map (λ (n : Node). n.facts.counter) (option_map f (kept_by (λ n. not (is_owned session n)) o)) ≡ option_map (λ (n : Node). n.facts.counter) o
counter-kept session f None seen keeps is free = absurd cc
counter-kept session f (Some n) seen keeps is free = grind (arith, keeps n, is, free)

pub at_path-ended : (z session : ℕ) (nodes : List Node) (path : List ℕ) → IsSorted nodes → at_path (nodes_after_end z session nodes) path ≡ option_map (after_loss nodes z session) (kept_by (λ n. not (is_owned session n)) (at_path nodes path))
at_path-ended z session nodes path sorted =
    find-map (is_at path) (after_loss nodes z session) (λ _. refl) (filter (λ n. not (is_owned session n)) nodes)
    ∙ ap (option_map (after_loss nodes z session)) (at_path-filter path (λ n. not (is_owned session n)) nodes sorted)

pub ends-show : EndsShow
ends-show t session whole =
    let z = next_change t in
    record {
      rows = λ dir. rows-ended dir session (after_loss t.nodes z session) (λ _. refl) (λ _. refl) t.nodes;
      seen = λ path. ap (option_map seen_of) (at_path-ended z session t.nodes path whole.sorted) ∙ seen-kept session (after_loss t.nodes z session) (at_path t.nodes path) (λ _. refl);
      counters = λ path seen is free. ap (option_map (λ (n : Node). n.facts.counter)) (at_path-ended z session t.nodes path whole.sorted)
          ∙ counter-kept session (after_loss t.nodes z session) (at_path t.nodes path) seen (λ _. refl) is free;
    }

-- ## a counter raised

below-there : (to : ℕ) (o : Option Node) → is_below to o ≡ true → (n : Node) × (o ≡ Some n)
below-there to None is = absurd cc
below-there to (Some n) is = (n, refl)

pub raises-show : RaisesShow
raises-show t path to may =
    let node = below-there to (at_path t.nodes path) may in
    record {
      counter = ap (option_map (λ (n : Node). n.facts.counter)) (at_path-change_here path (with_counter to) (λ _. refl) t.nodes node.0 node.1);
      other_counter = λ other apart. ap (option_map (λ (n : Node). n.facts.counter)) (at_path-change_other path other (with_counter to) (λ _. refl) (λ same. apart (sym same)) t.nodes);
      rows = λ dir. rows-touch dir (is_at path) (with_counter to) (λ _. refl) (λ _. refl) t.nodes;
      seen = λ other. found-change_first (option_map seen_of) (is_at path) (is_at other) (with_counter to) (λ _. refl) (λ _. refl) t.nodes;
    }

-- ## sessions

pub parts-change_nodes_alone : PartsChangeNodesAlone
parts-change_nodes_alone t session part = (after_part-nodes t session part).is

-- ## rows in order, and what is seen

rise-rows : (nodes : List Node) → Rises named_before nodes → Rises row_before (map row_of nodes)
rise-rows [] rises = tt
rise-rows (n ∷ nodes) rises = (all-mapped (λ m. named_before n m ≡ true) (λ row. row_before (row_of n) row ≡ true) row_of nodes (λ m before. before) rises.0, rise-rows nodes rises.1)

pub rows-rise : RowsRise
rows-rise t dir whole = rise-rows (children_of t.nodes dir) (children-by-name t.nodes dir whole.sorted whole.paths)

module _ (dir path : List ℕ) (proper : is_path path ≡ true) (above : parent_of path ≡ Some dir) where
  seen-rows : (nodes : List Node) → AllPaths nodes → option_map seen_of (at_path nodes path) ≡ option_map seen_in (find_named (name_of path) (rows_in dir nodes))
  seen-rows [] paths = refl
  seen-rows (n ∷ nodes) paths = grind (arith, named-at dir path n proper above paths.0, at-child dir path n above, seen-rows nodes paths.1)

pub seen-is-row : SeenIsRow
seen-is-row t path dir whole proper above = seen-rows dir path proper above t.nodes whole.paths

-- # the facts from which a part of a call is accepted

-- what is seen is a node
pub seen-node : (o : Option Node) (seen : Seen) → option_map seen_of o ≡ Some seen → (n : Node) × (o ≡ Some n)
seen-node None seen is = absurd cc
seen-node (Some n) seen is = (n, refl)

-- ## a create

rows-children : (t : TreeState) (dir : List ℕ) → length (rows_at t dir) ≡ length (children_of t.nodes dir)
rows-children t dir = length-map (children_of t.nodes dir) row_of

child-goes : (t : TreeState) (session : ℕ) (dir name bytes : List ℕ) (mode : Mode) (counter : ℕ) → CanCreate t session dir name bytes mode counter → child_answer t dir name bytes mode ≡ Ok (below dir (name_given mode counter name))
child-goes t session dir name bytes mode counter can =
    let node = from-map_some (λ (n : Node). n.facts.counter) (at_path t.nodes dir) counter can.gives in
    let path = made-is t dir name mode node.0 counter node.1 can.gives in
    let free : at_path t.nodes (made_path node.0 name mode) ≡ None = ap (at_path t.nodes) path ∙ seen-none (at_path t.nodes (below dir (name_given mode counter name))) can.free in
    grind (arith, nat_tests, node.1, node.2, free, path, can.parent, can.unspent, can.short, can.change, can.few, rows-children t dir)

pub creates-go : CreatesGo
creates-go t session path dir bytes mode counter above can = rw (can.live, above) (child-goes t session dir (name_of path) bytes mode counter can)

pub creates-under-go : CreatesUnderGo
creates-under-go t session dir bytes mode counter can = rw can.live (child-goes t session dir [] bytes mode counter can)

-- ## a set, a delete and a check

pub sets-go : SetsGo
sets-go t session path bytes version live is short change low = grind (arith, nat_tests, live, is, short, change, low)

not-root : (path dir : List ℕ) → parent_of path ≡ Some dir → bytes_eq path root ≡ false
not-root path dir above = bytes_eq-apart path root (λ same. absurd (let e : None ≡ Some dir = sym (ap parent_of same) ∙ above in cc))

childless : (t : TreeState) (path : List ℕ) → rows_at t path ≡ [] → length (children_of t.nodes path) ≡ 0
childless t path none = sym (rows-children t path) ∙ ap length none

-- all tests except that of the change number
pub delete-changes : (t : TreeState) (session : ℕ) (path dir : List ℕ) (seen : Seen) → is_in t.live session ≡ true → parent_of path ≡ Some dir → seen_at t path ≡ Some seen → rows_at t path ≡ [] → delete_answer t session path Any ≡ unspent t
delete-changes t session path dir seen live above is none = grind (arith, nat_tests, live, is, not-root path dir above, childless t path none)

pub unspent-goes : (t : TreeState) → t.changes < 18_446_744_073_709_551_615 → unspent t ≡ Ok tt
unspent-goes t below = ap (λ (b : Bool). need b TreeRefusal.ChangesSpent) (is-below t.changes 18_446_744_073_709_551_615 below)

pub deletes-go : DeletesGo
deletes-go t session path dir seen live above is none below = delete-changes t session path dir seen live above is none ∙ unspent-goes t below

pub checks-go : ChecksGo
checks-go t session path seen live is = grind (arith, live, is)

-- # a directory is cleared

-- each name in a directory is an element
pub rows-elements : (dir : List ℕ) (nodes : List Node) → AllPaths nodes → AllByRecursion (λ row. is_element row.name ≡ true) (rows_in dir nodes)
rows-elements dir nodes paths =
    all-mapped (λ n. is_element (name_of n.path) ≡ true) (λ row. is_element row.name ≡ true) row_of (children_of nodes dir) (λ n named. named)
    (all-filter_to (λ n. is_path n.path ≡ true) (λ n. is_element (name_of n.path) ≡ true) (is_child dir) nodes (λ n child is. (IsChild-of n.path dir is (child-above dir n child)).named) paths)

-- without the first row
filter-first : (row : Row) (rows : List Row) → AllByRecursion (λ other. row_before row other ≡ true) rows → filter (λ other. not (is_named row.name other)) (row ∷ rows) ≡ rows
filter-first row rows first =
    rw (bytes_eq-from row.name row.name refl)
    (filter-not_none (is_named row.name) rows (all-weaker (λ other. row_before row other ≡ true) (λ other. is_named row.name other ≡ false) (λ other before. other-name_back row other before) rows first))

-- what the first delete leaves
record Cleared (t : TreeState) (s : ℕ) (dir : List ℕ) (row : Row) (rows : List Row) : Type 0 where
  ok : delete_answer t s (below dir row.name) Any ≡ Ok tt
  left : rows_at (after_delete t (below dir row.name)) dir ≡ rows
  whole : IsWhole (after_delete t (below dir row.name)).nodes
  bare : AllByRecursion (λ other. rows_at (after_delete t (below dir row.name)) (below dir other.name) ≡ []) rows

bare-by : (dir path : List ℕ) (name : List ℕ) (t u : TreeState) (rows : List Row) → is_path dir ≡ true → Deletes dir name t u → AllByRecursion (λ other. is_element other.name ≡ true) rows → AllByRecursion (λ other. rows_at t (below dir other.name) ≡ []) rows → AllByRecursion (λ other. rows_at u (below dir other.name) ≡ []) rows
bare-by dir path name t u [] is deletes elements bare = tt
bare-by dir path name t u (row ∷ rows) is deletes elements bare = (
  deletes.other_rows (below dir row.name) (apart-below dir (below dir row.name) (is_path-below dir row.name is elements.0) (HasParts-below dir row.name is elements.0).above) ∙ bare.0,
  bare-by dir path name t u rows is deletes elements.1 bare.1,
)

cleared : (t : TreeState) (s : ℕ) (dir : List ℕ) (row : Row) (rows : List Row) → IsWhole t.nodes → is_path dir ≡ true → is_in t.live s ≡ true → t.changes < 18_446_744_073_709_551_615 → rows_at t dir ≡ row ∷ rows → AllByRecursion (λ other. rows_at t (below dir other.name) ≡ []) (row ∷ rows) → Cleared t s dir row rows
cleared t s dir row rows whole is live change same bare =
    let path = below dir row.name in
    let elements = subst (AllByRecursion (λ (other : Row). is_element other.name ≡ true)) same (rows-elements dir t.nodes whole.paths) in
    let rises = subst (Rises row_before) same (rows-rise t dir whole) in
    let parts = HasParts-below dir row.name is elements.0 in
    let proper = is_path-below dir row.name is elements.0 in
    let here : find_named row.name (row ∷ rows) ≡ Some row = rw (bytes_eq-from row.name row.name refl) refl in
    let seen : seen_at t path ≡ Some (seen_in row) =
    seen-is-row t path dir whole proper parts.above
    ∙ ap (option_map seen_in) (ap (find_named (name_of path)) same ∙ ap (λ (n : List ℕ). find_named n (row ∷ rows)) parts.last ∙ here) in
    let ok = deletes-go t s path dir (seen_in row) live parts.above seen bare.0 change in
    let deletes = subst (λ (n : List ℕ). Deletes dir n t (after_delete t path)) parts.last (deletes-show t s path dir Any whole proper parts.above ok) in
    record {
      ok = ok;
      left = deletes.rows ∙ ap (filter (λ other. not (is_named row.name other))) same ∙ filter-first row rows rises.0;
      whole = IsWhole-after_part t s (Op.Delete path Any) OpDone.Deleted (record { path = proper; numbered = refl }) (ap (λ (r : Result (Unit {0}) TreeRefusal). r >> Ok OpDone.Deleted) ok) whole;
      bare = bare-by dir path row.name t (after_delete t path) rows is deletes elements.1 bare.1;
    }

pub ok-then : (r : Result (Unit {0}) TreeRefusal) → r ≡ Ok tt → IsOk (r >> Ok OpDone.Deleted)
ok-then r is = rw is refl

clears : (rows : List Row) (t : TreeState) (s : ℕ) (dir : List ℕ) → IsWhole t.nodes → is_path dir ≡ true → is_in t.live s ≡ true → t.changes < 18_446_744_073_709_551_615 → rows_at t dir ≡ rows → AllByRecursion (λ row. rows_at t (below dir row.name) ≡ []) rows →
    (Goes t s (delete_parts dir rows) (after_parts t s (delete_parts dir rows))) × (rows_at (after_parts t s (delete_parts dir rows)) dir ≡ [])
clears [] t s dir whole is live change same bare = (refl, same)
clears (row ∷ rows) t s dir whole is live change same bare =
    let one = cleared t s dir row rows whole is live change same bare in
    let later = clears rows (after_delete t (below dir row.name)) s dir one.whole is live change one.left one.bare in
    ((ok-then (delete_answer t s (below dir row.name) Any) one.ok, later.0), later.1)

pub clears-go : ClearsGo
clears-go t s dir whole is live change bare = (clears (rows_at t dir) t s dir whole is live change refl bare).0

pub clears-empty : ClearsEmpty
clears-empty t s dir u whole is live change bare goes =
    let after = goes-after t u s (delete_parts dir (rows_at t dir)) goes in
    subst (λ (w : TreeState). rows_at w dir ≡ []) after (clears (rows_at t dir) t s dir whole is live change refl bare).1

-- # what a reader of the earlier tree sees of what is fresh in the later one

pub fresh-listed : FreshListed
fresh-listed z t u path dir since fresh = (since.list dir fresh.parent.0 fresh.parent.1 fresh.parent.2).3

-- ## the node

-- no row has the name if none of the rows with the same tags has it
unnamed : (name : List ℕ) (rows others : List Row) → map tag_of rows ≡ map tag_of others → find_named name others ≡ None → find_named name rows ≡ None
unnamed name [] others same none = refl
unnamed name (row ∷ rows) [] same none = absurd cc
unnamed name (row ∷ rows) (other ∷ others) same none = grind (arith, same, none, unnamed name rows others)

no-row : (o : Option Row) → option_map seen_in o ≡ None → o ≡ None
no-row None none = refl
no-row (Some row) none = absurd cc

module _ (z : ℕ) (t u : TreeState) (path dir : List ℕ) (whole_t : IsWhole t.nodes) (whole_u : IsWhole u.nodes) (proper : is_path path ≡ true) (above : parent_of path ≡ Some dir) (since : Since z t u) (fresh : IsFresh z u dir path) where
  fresh-seen-by : (o : Option Node) → at_path u.nodes path ≡ o → seen_at t path ≡ seen_at u path
  fresh-seen-by (Some n) found =
      let was = since.bytes path n found (fresh.node n found) in
      ap (option_map seen_of) was.1 ∙ ap Some was.3 ∙ sym (ap (option_map seen_of) found)
  fresh-seen-by None none =
      let nothing : seen_at u path ≡ None = ap (option_map seen_of) none in
      let there = no-row (find_named (name_of path) (rows_at u dir)) (sym (seen-is-row u path dir whole_u proper above) ∙ nothing) in
      let here = unnamed (name_of path) (rows_at t dir) (rows_at u dir) (fresh-listed z t u path dir since fresh) there in
      seen-is-row t path dir whole_t proper above ∙ ap (option_map seen_in) here ∙ sym nothing

pub fresh-seen : FreshSeen
fresh-seen z t u path dir whole_t whole_u proper above since fresh = fresh-seen-by z t u path dir whole_t whole_u proper above since fresh (at_path u.nodes path) refl

-- ## worked trees

other-byte : (x y : ℕ) → x < y → x ∷ [] ≡ y ∷ [] → ⊥
other-byte x y less same = let one : x ≡ y = cc in omega arith

pub undated-bytes-are-not-later : UndatedBytesAreNotLater
undated-bytes-are-not-later number later =
    let old : Node = record root_node { path = codes "/a"; bytes = 1 ∷ [] } in
    let new : Node = record root_node { path = codes "/a"; bytes = 2 ∷ [] } in
    let was = (later.since 0 (omega arith)).bytes (codes "/a") new refl (omega arith) in
    let shown : seen_of old ≡ seen_of new = ap seen_of (some_same was.1) ∙ was.3 in
    other-byte 1 2 (omega arith) (ap (λ (s : Seen). s.bytes) shown)

pub undated-loss-is-not-later : UndatedLossIsNotLater
undated-loss-is-not-later number later =
    let was = (later.since 0 (omega arith)).list root root_node refl (omega arith) in
    let tag : Tag = record { name = codes "a"; owner = None } in
    let none : tag ∷ [] ≡ [] = was.3 in
    cc

-- # room for a given number of parts

-- ## what room implies

found-below : {most : ℕ} (count : Node → ℕ) (nodes : List Node) (path : List ℕ) (value more : ℕ) → option_map count (at_path nodes path) ≡ Some value → AllByRecursion (λ n. count n + (more + 1) ≤ most) nodes → value + (more + 1) ≤ most
found-below {most = most} count nodes path value more is all =
    let n = from-map_some count (at_path nodes path) value is in
    subst (λ (k : ℕ). k + (more + 1) ≤ most) n.2 (all-find (λ (m : Node). count m + (more + 1) ≤ most) (is_at path) nodes n.0 all n.1)

pub room-gives : RoomGives
room-gives t more room = record {
  change = room.change;
  version = λ path version is. let low = found-below (λ (n : Node). n.facts.version) t.nodes path version more is room.versions in omega arith;
  counter = λ dir counter is. let low = found-below (λ (n : Node). n.facts.counter) t.nodes dir counter more is room.counters in omega arith;
  few = λ dir. let low = room.rows dir in omega arith;
}

-- ## the nodes alone

pub record NodesHaveRoom (more : ℕ) (nodes : List Node) : Type 0 where
  pub versions : AllByRecursion (λ n. n.facts.version + more ≤ 18_446_744_073_709_551_615) nodes
  pub counters : AllByRecursion (λ n. n.facts.counter + more ≤ 2_147_483_648) nodes
  pub rows : (dir : List ℕ) → length (rows_in dir nodes) + more ≤ 4_294_967_295

-- the change raises neither number by more than one
record RaisesLittle (f : Node → Node) : Type 0 where
  path : KeepsPath f
  version : (n : Node) → (f n).facts.version ≤ n.facts.version + 1
  counter : (n : Node) → (f n).facts.counter ≤ n.facts.counter + 1

rows-change : (dir path : List ℕ) (f : Node → Node) → KeepsPath f → (nodes : List Node) → length (rows_in dir (change_node path f nodes)) ≡ length (rows_in dir nodes)
rows-change dir path f keeps nodes =
    length-map (children_of (change_node path f nodes) dir) row_of
    ∙ length-children-paths dir (change_node path f nodes) nodes (paths_of-change_node path f keeps nodes)
    ∙ sym (length-map (children_of nodes dir) row_of)

-- a change at a path, with the count of rows that is left
change-falls : (more : ℕ) (path : List ℕ) (f : Node → Node) (nodes : List Node) → RaisesLittle f → NodesHaveRoom (more + 1) nodes → NodesHaveRoom more (change_node path f nodes)
change-falls more path f nodes little room = record {
  versions = all-change_first_to (λ (n : Node). n.facts.version + (more + 1) ≤ 18_446_744_073_709_551_615) (λ (n : Node). n.facts.version + more ≤ 18_446_744_073_709_551_615) (λ n low. omega arith) (is_at path) f nodes
      (λ n low. let raised = little.version n in omega arith) room.versions;
  counters = all-change_first_to (λ (n : Node). n.facts.counter + (more + 1) ≤ 2_147_483_648) (λ (n : Node). n.facts.counter + more ≤ 2_147_483_648) (λ n low. omega arith) (is_at path) f nodes
      (λ n low. let raised = little.counter n in omega arith) room.counters;
  rows = λ dir. let low = room.rows dir in let same = rows-change dir path f little.path nodes in omega arith;
}

all-fall : (more : ℕ) (nodes : List Node) → NodesHaveRoom (more + 1) nodes → NodesHaveRoom more nodes
all-fall more nodes room = record {
  versions = all-weaker (λ (n : Node). n.facts.version + (more + 1) ≤ 18_446_744_073_709_551_615) (λ (n : Node). n.facts.version + more ≤ 18_446_744_073_709_551_615) (λ n low. omega arith) nodes room.versions;
  counters = all-weaker (λ (n : Node). n.facts.counter + (more + 1) ≤ 2_147_483_648) (λ (n : Node). n.facts.counter + more ≤ 2_147_483_648) (λ n low. omega arith) nodes room.counters;
  rows = λ dir. let low = room.rows dir in omega arith;
}

-- ## one node more

rows-insert : (dir : List ℕ) (new : Node) (nodes : List Node) → length (rows_in dir (insert_node new nodes)) ≤ length (rows_in dir nodes) + 1
rows-insert dir new [] = grind (arith, nat_tests)
rows-insert dir new (n ∷ nodes) = grind (arith, nat_tests, rows-insert dir new nodes)

insert-falls : (more z session : ℕ) (above path bytes : List ℕ) (mode : Mode) (nodes : List Node) → more ≤ 2_147_483_648 → NodesHaveRoom (more + 1) nodes → NodesHaveRoom more (insert_node (new_node z session path bytes mode) (change_node above (with_child z mode) nodes))
insert-falls more z session above path bytes mode nodes few room =
    let new : Node = new_node z session path bytes mode in
    let changed = change-falls more above (with_child z mode) nodes (record { path = λ _. refl; version = λ n. omega arith; counter = λ n. grind (arith, nat_tests) }) room in
    record {
      versions = all-insert_before (λ (n : Node). n.facts.version + more ≤ 18_446_744_073_709_551_615) (λ m. path_before path m.path) new (change_node above (with_child z mode) nodes) (omega arith) changed.versions;
      counters = all-insert_before (λ (n : Node). n.facts.counter + more ≤ 2_147_483_648) (λ m. path_before path m.path) new (change_node above (with_child z mode) nodes) (omega arith) changed.counters;
      rows = λ dir. let low = room.rows dir in let one = rows-insert dir new (change_node above (with_child z mode) nodes) in let same = rows-change dir above (with_child z mode) (λ _. refl) nodes in omega arith;
    }

-- ## one node fewer

pub rows-without : (dir path : List ℕ) (nodes : List Node) → length (rows_in dir (without_node path nodes)) ≤ length (rows_in dir nodes)
rows-without dir path nodes =
    let this = length-map (children_of (without_node path nodes) dir) row_of in
    let that = length-map (children_of nodes dir) row_of in
    let fewer = length-filter-filter (is_child dir) (λ n. not (is_at path n)) nodes in
    omega arith

without-falls : (more : ℕ) (path : List ℕ) (nodes : List Node) → NodesHaveRoom more nodes → NodesHaveRoom more (without_node path nodes)
without-falls more path nodes room = record {
  versions = all-filter (λ (n : Node). n.facts.version + more ≤ 18_446_744_073_709_551_615) (λ n. not (is_at path n)) nodes room.versions;
  counters = all-filter (λ (n : Node). n.facts.counter + more ≤ 2_147_483_648) (λ n. not (is_at path n)) nodes room.counters;
  rows = λ dir. let low = room.rows dir in let fewer = rows-without dir path nodes in omega arith;
}

above-falls : (more z : ℕ) (o : Option (List ℕ)) (nodes : List Node) → NodesHaveRoom (more + 1) nodes → NodesHaveRoom more (without_child_above z o nodes)
above-falls more z None nodes room = all-fall more nodes room
above-falls more z (Some above) nodes room = change-falls more above (without_child z) nodes (record { path = λ _. refl; version = λ n. omega arith; counter = λ n. omega arith }) room

-- ## a part

under-falls : (t : TreeState) (s more : ℕ) (above name bytes : List ℕ) (mode : Mode) (o : Option Node) → more ≤ 2_147_483_648 → NodesHaveRoom (more + 1) t.nodes →
    NodesHaveRoom more (where_found o t (λ parent. record t { nodes = with_new_child (next_change t) s above name bytes mode parent t.nodes })).nodes
under-falls t s more above name bytes mode None few room = all-fall more t.nodes room
under-falls t s more above name bytes mode (Some parent) few room = insert-falls more (next_change t) s above (made_path parent name mode) bytes mode t.nodes few room

create-falls : (t : TreeState) (s more : ℕ) (path bytes : List ℕ) (mode : Mode) (o : Option (List ℕ)) → more ≤ 2_147_483_648 → NodesHaveRoom (more + 1) t.nodes → NodesHaveRoom more (where_found o t (λ above. after_create_under t s above (name_of path) bytes mode)).nodes
create-falls t s more path bytes mode None few room = all-fall more t.nodes room
create-falls t s more path bytes mode (Some above) few room = under-falls t s more above (name_of path) bytes mode (at_path t.nodes above) few room

part-falls : (t : TreeState) (s more : ℕ) (part : Op) → more ≤ 2_147_483_648 → NodesHaveRoom (more + 1) t.nodes → NodesHaveRoom more (after_part t s part).nodes
part-falls t s more (Op.Create path bytes mode) few room = create-falls t s more path bytes mode (parent_of path) few room
part-falls t s more (Op.CreateUnder parent bytes mode) few room = under-falls t s more parent [] bytes mode (at_path t.nodes parent) few room
part-falls t s more (Op.Set path bytes expect) few room = change-falls more path (with_bytes (next_change t) bytes) t.nodes (record { path = λ _. refl; version = λ n. omega arith; counter = λ n. omega arith }) room
part-falls t s more (Op.Delete path expect) few room = without-falls more path (without_child_above (next_change t) (parent_of path) t.nodes) (above-falls more (next_change t) (parent_of path) t.nodes room)
part-falls t s more (Op.Check path expect) few room = all-fall more t.nodes room

pub room-falls : RoomFalls
room-falls t s part more room =
    let low = room.few in
    let few : more ≤ 2_147_483_648 = omega arith in
    let nodes = part-falls t s more part few (record { versions = room.versions; counters = room.counters; rows = room.rows }) in
    record {
      change = subst (λ (u : TreeState). u.changes < 18_446_744_073_709_551_615) (sym (parts-change_nodes_alone t s part)) room.change;
      versions = nodes.versions;
      counters = nodes.counters;
      rows = nodes.rows;
      few = few;
    }
