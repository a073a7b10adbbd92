-- what an accepted operation implies about the tree, and that each one leaves a whole tree with room
use Rattle.np_tree.proofs.Prelude.{AllByRecursion, AllPaths-change_node, AllPaths-filter, AllPaths-insert_node, AllPaths-map, AllPaths-without_node, AllStand, AtPart, CallsKeepWhole, Err, Expect, HasParent, HasRoom, HasRoom-filter, HasRoom-insert, HasRoom-paths, HasRoot, IsMade-made_path, IsPart, IsSorted-change_node, IsSorted-filter, IsSorted-insert_node, IsSorted-map, IsSorted-without_node, IsWhole, KeepsOwner, KeepsPath, List, MakesName, MakesName-child, Mode, Node, None, Ok, Op, OpDone, Option, RaisesKeepWhole, Result, Some, Stand, TreeRefusal, TreeState, [], after_create_under, after_loss, after_part, after_parts, all-change_first, all-filter, all-find, all-insert_before, all-mapped, all-weaker, and_then, answers_from, ap, arith, at_path, at_path-change_here, at_path-change_other, at_path-paths-none, bind-ok, by_bool, bytes_eq, bytes_eq-apart, bytes_eq-from, bytes_eq-is, change_node, child_answer, children_of, cond, create_answer, create_under_answer, delete_answer, dir_of, eqb-true, false, filter, filter-nothing, find-filter, find-insert_before, find-map, find-passes, found, found-ok, insert_node, insert_node-at, is_at, is_check, is_child, is_expected, is_in, is_none, is_owned, is_owner, is_parent, is_path, is_sequential, leb-true, length, length-children-paths, list_any, ltb-true, made_path, name_of, nat_le, nat_lt, need-ok, new_node, new_tree, next_change, nodes_after_end, none-is, not, not-true, option_map, parent_of, part_answer, path_before, paths_of-change_node, paths_of-map, place_of, refl, root, root-of, root_node, subst, sym, then-ok, there, true, where_found, with_bytes, with_child, with_counter, with_new_child, with_next_number, without_child, without_child_above, without_node, ℕ, ◌+◌, ◌<◌, ◌==◌, ◌>>=◌, ◌||◌, ◌∙◌, ◌∷◌, ◌≡◌, ◌≤◌}

-- # what an accepted operation implies about the tree

-- what is true if a child may be made
pub record MayMake (t : TreeState) (above name bytes : List ℕ) (mode : Mode) (made : List ℕ) : Type 0 where
  pub parent : Node
  pub found : at_path t.nodes above ≡ Some parent
  pub free : parent.facts.owner ≡ None
  pub fits : length bytes ≤ 65536
  pub counter : (not (is_sequential mode) || nat_le parent.facts.counter 2_147_483_647) ≡ true
  pub new : at_path t.nodes (made_path parent name mode) ≡ None
  pub change : t.changes < 18_446_744_073_709_551_615
  pub room : length (children_of t.nodes above) < 4_294_967_295
  pub path : made_path parent name mode ≡ made

pub child_answer-passed : (t : TreeState) (above name bytes : List ℕ) (mode : Mode) (made : List ℕ) → child_answer t above name bytes mode ≡ Ok made → MayMake t above name bytes mode made
child_answer-passed t above name bytes mode made is =
    let parent = found-ok (at_path t.nodes above) TreeRefusal.NoNode _ made is in
    let p : Node = parent.0 in
    let free = need-ok (is_none p.facts.owner) TreeRefusal.NoChildrenForEphemerals _ made parent.2 in
    let fit = need-ok (nat_le (length bytes) 65536) TreeRefusal.TooLarge _ made free.1 in
    let counter = need-ok (not (is_sequential mode) || nat_le p.facts.counter 2_147_483_647) TreeRefusal.SequenceSpent _ made fit.1 in
    let new = need-ok (is_none (at_path t.nodes (made_path p name mode))) TreeRefusal.NodeExists _ made counter.1 in
    let change = need-ok (nat_lt t.changes 18_446_744_073_709_551_615) TreeRefusal.ChangesSpent _ made new.1 in
    let room = need-ok (nat_lt (length (children_of t.nodes above)) 4_294_967_295) TreeRefusal.ChangesSpent _ made change.1 in
    record {
      parent = p;
      found = parent.1;
      free = none-is p.facts.owner free.0;
      fits = leb-true (length bytes) 65536 fit.0;
      counter = counter.0;
      new = none-is (at_path t.nodes (made_path p name mode)) new.0;
      change = ltb-true t.changes 18_446_744_073_709_551_615 change.0;
      room = ltb-true (length (children_of t.nodes above)) 4_294_967_295 room.0;
      path = let last = room.1 in cc;
    }

-- what is true if a node may be deleted
pub record MayDelete (t : TreeState) (path : List ℕ) : Type 0 where
  pub other : bytes_eq path root ≡ false
  pub none : length (children_of t.nodes path) ≡ 0

pub delete_answer-passed : (t : TreeState) (session : ℕ) (path : List ℕ) (expect : Expect) → delete_answer t session path expect ≡ Ok tt → MayDelete t path
delete_answer-passed t session path expect is =
    let live = need-ok (is_in t.live session) TreeRefusal.SessionExpired _ tt is in
    let other = need-ok (not (bytes_eq path root)) TreeRefusal.RootKept _ tt live.1 in
    let node = found-ok (at_path t.nodes path) TreeRefusal.NoNode _ tt other.1 in
    let right = need-ok (is_expected expect node.0.facts.version) (TreeRefusal.BadVersion node.0.facts.version) _ tt node.2 in
    let none = need-ok (length (children_of t.nodes path) == 0) (TreeRefusal.NotEmpty (length (children_of t.nodes path))) _ tt right.1 in
    record { other = not-true (bytes_eq path root) other.0; none = eqb-true (length (children_of t.nodes path)) 0 none.0 }

-- # each node except the root is below a node that no session owns, and so would be one below the root

as-root : (nodes : List Node) → HasParent nodes (Some root) → HasRoot nodes
as-root nodes has = record { node = has.0; there = has.1; free = has.2 }

as-parent : (nodes : List Node) → HasRoot nodes → HasParent nodes (Some root)
as-parent nodes has = (has.node, has.there, has.free)

-- ## a change at a path

change-parent : (p : List ℕ) (f : Node → Node) → KeepsPath f → KeepsOwner f → (nodes : List Node) (o : Option (List ℕ)) → HasParent nodes o → HasParent (change_node p f nodes) o
change-parent p f path owner nodes None has = tt
change-parent p f path owner nodes (Some above) has =
    by_bool (λ b. HasParent (change_node p f nodes) (Some above)) (bytes_eq p above) (λ is. (f has.0, rw (bytes_eq-is p above is) (at_path-change_here above f path nodes has.0 has.1), owner has.0 ∙ has.2))
    (λ is. (has.0, at_path-change_other p above f path (λ same. let here = bytes_eq-from p above same in absurd cc) nodes ∙ has.1, has.2))

Stand-change_node : (p : List ℕ) (f : Node → Node) → KeepsPath f → KeepsOwner f → (nodes : List Node) → Stand nodes → Stand (change_node p f nodes)
Stand-change_node p f path owner nodes all =
    all-weaker (λ n. HasParent nodes (parent_of n.path)) (λ n. HasParent (change_node p f nodes) (parent_of n.path))
    (λ n has. change-parent p f path owner nodes (parent_of n.path) has) (change_node p f nodes)
    (all-change_first (λ n. HasParent nodes (parent_of n.path)) (is_at p) f nodes (λ n has. subst (λ (q : List ℕ). HasParent nodes (parent_of q)) (sym (path n)) has) all)

-- ## a node made

with-parent : (n : Node) (nodes : List Node) (o : Option (List ℕ)) → at_path nodes n.path ≡ None → HasParent nodes o → HasParent (insert_node n nodes) o
with-parent n nodes None new has = tt
with-parent n nodes (Some above) new has = (
  has.0,
  find-insert_before (is_at above) (λ m. path_before n.path m.path) n nodes (bytes_eq-apart n.path above (λ same. let e : None ≡ Some has.0 = sym new ∙ (ap (at_path nodes) same ∙ has.1) in absurd cc)) ∙ has.1,
  has.2,
)

Stand-insert_node : (n : Node) (nodes : List Node) → at_path nodes n.path ≡ None → HasParent nodes (parent_of n.path) → Stand nodes → Stand (insert_node n nodes)
Stand-insert_node n nodes new own all =
    all-weaker (λ m. HasParent nodes (parent_of m.path)) (λ m. HasParent (insert_node n nodes) (parent_of m.path))
    (λ m has. with-parent n nodes (parent_of m.path) new has) (insert_node n nodes)
    (all-insert_before (λ m. HasParent nodes (parent_of m.path)) (λ m. path_before n.path m.path) n nodes own all)

-- ## a node gone that has no children

childless : (path : List ℕ) (nodes : List Node) → length (children_of nodes path) ≡ 0 → AllByRecursion (λ n. is_child path n ≡ false) nodes
childless path [] none = tt
childless path (n ∷ nodes) none = (grind (arith, none), childless path nodes (grind (arith, none)))

without-parent : (path : List ℕ) (nodes : List Node) (o : Option (List ℕ)) → is_parent path o ≡ false → HasParent nodes o → HasParent (without_node path nodes) o
without-parent path nodes None other has = tt
without-parent path nodes (Some above) other has =
    let away : is_at path has.0 ≡ false = bytes_eq-apart has.0.path path (λ same.
    let at = bytes_eq-is has.0.path above (find-passes (is_at above) nodes has.0 has.1) in
    let here = bytes_eq-from above path (sym at ∙ same) in absurd cc) in
    (has.0, find-filter (is_at above) (λ n. not (is_at path n)) has.0 nodes (ap not away) has.1, has.2)

without-each : (path : List ℕ) (nodes some : List Node) → AllByRecursion (λ n. is_child path n ≡ false) some → AllStand nodes some → AllStand (without_node path nodes) some
without-each path nodes [] none all = tt
without-each path nodes (n ∷ some) none all = (without-parent path nodes (parent_of n.path) none.0 all.0, without-each path nodes some none.1 all.1)

-- ## the end of a session

after_end-parent : (z session : ℕ) (nodes : List Node) (o : Option (List ℕ)) → HasParent nodes o → HasParent (nodes_after_end z session nodes) o
after_end-parent z session nodes None has = tt
after_end-parent z session nodes (Some above) has =
    let kept : at_path (filter (λ n. not (is_owned session n)) nodes) above ≡ Some has.0 = find-filter (is_at above) (λ n. not (is_owned session n)) has.0 nodes (ap (λ (o : Option ℕ). not (is_owner session o)) has.2) has.1 in (
      after_loss nodes z session has.0,
      find-map (is_at above) (after_loss nodes z session) (λ _. refl) (filter (λ n. not (is_owned session n)) nodes) ∙ ap (option_map (after_loss nodes z session)) kept,
      has.2,
    )

Stand-after_end : (z session : ℕ) (nodes : List Node) → Stand nodes → Stand (nodes_after_end z session nodes)
Stand-after_end z session nodes all =
    all-mapped (λ n. HasParent nodes (parent_of n.path)) (λ n. HasParent (nodes_after_end z session nodes) (parent_of n.path)) (after_loss nodes z session) (filter (λ n. not (is_owned session n)) nodes)
    (λ n has. after_end-parent z session nodes (parent_of n.path) has)
    (all-filter (λ n. HasParent nodes (parent_of n.path)) (λ n. not (is_owned session n)) nodes all)

-- ## no node is below a path where there is none, or one that a session owns

not_child : (nodes : List Node) (path : List ℕ) (o : Option (List ℕ)) → ((n : Node) → at_path nodes path ≡ Some n → n.facts.owner ≡ None → ⊥) → HasParent nodes o → is_parent path o ≡ false
not_child nodes path None barren has = refl
not_child nodes path (Some above) barren has = bytes_eq-apart above path (λ same. barren has.0 (ap (at_path nodes) (sym same) ∙ has.1) has.2)

pub children_of-barren : (nodes : List Node) (path : List ℕ) → ((n : Node) → at_path nodes path ≡ Some n → n.facts.owner ≡ None → ⊥) → Stand nodes → children_of nodes path ≡ []
children_of-barren nodes path barren all =
    filter-nothing (is_child path) nodes
    (all-weaker (λ m. HasParent nodes (parent_of m.path)) (λ m. is_child path m ≡ false) (λ m has. not_child nodes path (parent_of m.path) barren has) nodes all)

pub children_of-ephemeral : (nodes : List Node) (path : List ℕ) (n : Node) (session : ℕ) → Stand nodes → at_path nodes path ≡ Some n → n.facts.owner ≡ Some session → children_of nodes path ≡ []
children_of-ephemeral nodes path n session all there owned =
    children_of-barren nodes path (λ m at free. let same : n ≡ m = let e : Some n ≡ Some m = sym there ∙ at in cc in let e : Some session ≡ None = sym owned ∙ ap (λ (k : Node). k.facts.owner) same ∙ free in cc) all

-- # each accepted operation, and each session's end, leaves a whole tree

pub IsWhole-new_tree : IsWhole new_tree.nodes
IsWhole-new_tree = record { sorted = (tt, tt); paths = (refl, tt); root = record { node = root_node; there = refl; free = refl }; stand = (tt, tt) }

pub IsWhole-change_node : (path : List ℕ) (f : Node → Node) → KeepsPath f → KeepsOwner f → (nodes : List Node) → IsWhole nodes → IsWhole (change_node path f nodes)
IsWhole-change_node path f keeps owner nodes whole = record {
  sorted = IsSorted-change_node path f keeps nodes whole.sorted;
  paths = AllPaths-change_node path f keeps nodes whole.paths;
  root = as-root (change_node path f nodes) (change-parent path f keeps owner nodes (Some root) (as-parent nodes whole.root));
  stand = Stand-change_node path f keeps owner nodes whole.stand;
}

pub IsWhole-after_end : (z session : ℕ) (nodes : List Node) → IsWhole nodes → IsWhole (nodes_after_end z session nodes)
IsWhole-after_end z session nodes whole = record {
  sorted = IsSorted-map (after_loss nodes z session) (λ _. refl) (filter (λ n. not (is_owned session n)) nodes) (IsSorted-filter (λ n. not (is_owned session n)) nodes whole.sorted);
  paths = AllPaths-map (after_loss nodes z session) (λ _. refl) (filter (λ n. not (is_owned session n)) nodes) (AllPaths-filter (λ n. not (is_owned session n)) nodes whole.paths);
  root = as-root (nodes_after_end z session nodes) (after_end-parent z session nodes (Some root) (as-parent nodes whole.root));
  stand = Stand-after_end z session nodes whole.stand;
}

pub IsWhole-after_raise : RaisesKeepWhole
IsWhole-after_raise t path to whole = IsWhole-change_node path (with_counter to) (λ _. refl) (λ _. refl) t.nodes whole

-- ## a child made

-- the path that is made is a path, and the parent's child
pub record IsChildPath (path parent : List ℕ) : Type 0 where
  pub is : is_path path ≡ true
  pub above : parent_of path ≡ Some parent

module _ (t : TreeState) (z session : ℕ) (dir name bytes made : List ℕ) (mode : Mode) (makes : MakesName name mode) (may : MayMake t dir name bytes mode made) where
  abbrev touched : List Node
  touched = change_node dir (with_child z mode) t.nodes

  abbrev new : Node
  new = new_node z session (made_path may.parent name mode) bytes mode

  pub parent-path : IsWhole t.nodes → is_path may.parent.path ≡ true
  parent-path whole = all-find (λ (m : Node). is_path m.path ≡ true) (is_at dir) t.nodes may.parent whole.paths may.found

  pub made-below : IsWhole t.nodes → IsChildPath new.path dir
  made-below whole =
      let made = IsMade-made_path may.parent name mode (parent-path whole) makes in
      record { is = made.is; above = made.above ∙ ap Some (bytes_eq-is may.parent.path dir (find-passes (is_at dir) t.nodes may.parent may.found)) }

  -- its path is free, also when its parent has changed
  pub made-free : at_path touched new.path ≡ None
  made-free = at_path-paths-none new.path t.nodes touched (sym (paths_of-change_node dir (with_child z mode) (λ _. refl) t.nodes)) may.new

  IsWhole-made : IsWhole t.nodes → IsWhole (insert_node new touched)
  IsWhole-made whole =
      let below = made-below whole in
      let still = IsWhole-change_node dir (with_child z mode) (λ _. refl) (λ _. refl) t.nodes whole in
      record {
        sorted = IsSorted-insert_node new touched below.is still.paths made-free still.sorted;
        paths = AllPaths-insert_node new touched below.is still.paths;
        root = as-root (insert_node new touched) (with-parent new touched (Some root) made-free (as-parent touched still.root));
        stand = Stand-insert_node new touched made-free (rw below.above (change-parent dir (with_child z mode) (λ _. refl) (λ _. refl) t.nodes (Some dir) (may.parent, may.found, may.free))) still.stand;
      }

  HasRoom-made : IsWhole t.nodes → HasRoom t.nodes → HasRoom (insert_node new touched)
  HasRoom-made whole room =
      let same = paths_of-change_node dir (with_child z mode) (λ _. refl) t.nodes in
      let below = made-below whole in
      let still = IsWhole-change_node dir (with_child z mode) (λ _. refl) (λ _. refl) t.nodes whole in
      let few : length (children_of touched dir) < 4_294_967_295 = rw (length-children-paths dir touched t.nodes same) may.room in
      rw (insert_node-at new touched below.is still.paths made-free still.sorted) (HasRoom-insert new dir (place_of new.path touched) touched below.above few (HasRoom-paths t.nodes touched (sym same) room))

-- an empty prefix makes a sequence node's name
pub empty-makes : (mode : Mode) → is_sequential mode ≡ true → MakesName [] mode
empty-makes mode proper = rw proper refl

-- ## a node gone

IsWhole-gone : (t : TreeState) (z : ℕ) (path dir : List ℕ) → MayDelete t path → IsWhole t.nodes → IsWhole (without_node path (change_node dir (without_child z) t.nodes))
IsWhole-gone t z path dir may whole =
    let ms : List Node = change_node dir (without_child z) t.nodes in
    let still = IsWhole-change_node dir (without_child z) (λ _. refl) (λ _. refl) t.nodes whole in
    let none : length (children_of ms path) ≡ 0 = length-children-paths path ms t.nodes (paths_of-change_node dir (without_child z) (λ _. refl) t.nodes) ∙ may.none in
    record {
      sorted = IsSorted-without_node path ms still.sorted;
      paths = AllPaths-without_node path ms still.paths;
      root = as-root (without_node path ms) (without-parent path ms (Some root) (bytes_eq-apart root path (λ same. let here = bytes_eq-from path root (sym same) in let other = may.other in absurd cc)) (as-parent ms still.root));
      stand = all-filter (λ n. HasParent (without_node path ms) (parent_of n.path)) (λ n. not (is_at path n)) ms (without-each path ms ms (childless path ms none) still.stand);
    }

-- ## each operation

-- what is true of the nodes after each part that is accepted, by what it does to them, and of the directory whose rows it changes
pub record Steps (t : TreeState) (s : ℕ) (P : Option (List ℕ) → List Node → Type 0) : Type 0 where
  pub made : (dir name bytes made : List ℕ) (mode : Mode) → MakesName name mode → (may : MayMake t dir name bytes mode made) → P (Some dir) (with_new_child (next_change t) s dir name bytes mode may.parent t.nodes)
  pub other_bytes : (path bytes : List ℕ) → P (parent_of path) (change_node path (with_bytes (next_change t) bytes) t.nodes)
  pub gone : (path dir : List ℕ) → parent_of path ≡ Some dir → MayDelete t path → P (Some dir) (without_node path (change_node dir (without_child (next_change t)) t.nodes))
  pub same : P None t.nodes

module _ (t : TreeState) (s : ℕ) (P : Option (List ℕ) → List Node → Type 0) (steps : Steps t s P) where
  made-step : (dir name bytes made : List ℕ) (mode : Mode) → MakesName name mode → child_answer t dir name bytes mode ≡ Ok made → P (Some dir) (after_create_under t s dir name bytes mode).nodes
  made-step dir name bytes made mode makes is = let may = child_answer-passed t dir name bytes mode made is in rw may.found (steps.made dir name bytes made mode makes may)

  create-step : (path bytes made : List ℕ) (mode : Mode) (o : Option (List ℕ)) → is_path path ≡ true → parent_of path ≡ o → (found o TreeRefusal.NodeExists >>= (λ above. child_answer t above (name_of path) bytes mode)) ≡ Ok made →
      P o (where_found o t (λ above. after_create_under t s above (name_of path) bytes mode)).nodes
  create-step path bytes made mode None proper above is = absurd cc
  create-step path bytes made mode (Some dir) proper above is = made-step dir (name_of path) bytes made mode (MakesName-child path dir mode proper above) is

  gone-step : (path : List ℕ) (o : Option (List ℕ)) → is_path path ≡ true → parent_of path ≡ o → MayDelete t path → P o (without_node path (without_child_above (next_change t) o t.nodes))
  gone-step path None proper above may = let here = bytes_eq-from path root (root-of path proper above) in let other = may.other in absurd cc
  gone-step path (Some dir) proper above may = steps.gone path dir above may

  pub by-part : (part : Op) (d : OpDone) → IsPart part → part_answer t s part ≡ Ok d → P (dir_of part) (after_part t s part).nodes
  by-part (Op.Create path bytes mode) d proper is =
      let made = bind-ok (create_answer t s path bytes mode) (λ (p : List ℕ). Ok (OpDone.Created p)) d is in
      create-step path bytes made.0 mode (parent_of path) proper.path refl (need-ok (is_in t.live s) TreeRefusal.SessionExpired _ made.0 made.1).1
  by-part (Op.CreateUnder dir bytes mode) d proper is =
      let made = bind-ok (create_under_answer t s dir bytes mode) (λ (p : List ℕ). Ok (OpDone.Created p)) d is in
      made-step dir [] bytes made.0 mode (empty-makes mode proper.numbered) (need-ok (is_in t.live s) TreeRefusal.SessionExpired _ made.0 made.1).1
  by-part (Op.Set path bytes expect) d proper is = steps.other_bytes path bytes
  by-part (Op.Delete path expect) d proper is = gone-step path (parent_of path) proper.path refl (delete_answer-passed t s path expect (then-ok (delete_answer t s path expect) (Ok OpDone.Deleted) d is))
  by-part (Op.Check path expect) d proper is = steps.same

pub IsWhole-after_part : (t : TreeState) (session : ℕ) (part : Op) (d : OpDone) → IsPart part → part_answer t session part ≡ Ok d → IsWhole t.nodes → IsWhole (after_part t session part).nodes
IsWhole-after_part t s part d proper is whole = by-part t s (λ o nodes. IsWhole nodes) (record {
  made = λ dir name bytes made mode makes may. IsWhole-made t (next_change t) s dir name bytes made mode makes may whole;
  other_bytes = λ path bytes. IsWhole-change_node path (with_bytes (next_change t) bytes) (λ _. refl) (λ _. refl) t.nodes whole;
  gone = λ path dir above may. IsWhole-gone t (next_change t) path dir may whole;
  same = whole;
}) part d proper is

-- ## all parts of a call

pub and_then-ok : (at : ℕ) (r : Result OpDone TreeRefusal) (others : Result (List OpDone) AtPart) (told : List OpDone) → and_then at r others ≡ Ok told → (d : OpDone) × (r ≡ Ok d) × ((later : List OpDone) × (others ≡ Ok later) × (d ∷ later ≡ told))
and_then-ok at (Err refusal) others told is = absurd cc
and_then-ok at (Ok d) (Err later) told is = absurd cc
and_then-ok at (Ok d) (Ok later) told is = (d, refl, (later, refl, cc))

-- what each part keeps, all of them keep
pub parts-keep : (P : TreeState → Type 0) (s : ℕ) → ((t : TreeState) (part : Op) (d : OpDone) → IsPart part → part_answer t s part ≡ Ok d → P t → P (after_part t s part)) →
    (at : ℕ) (t : TreeState) (parts : List Op) (told : List OpDone) → AllByRecursion IsPart parts → answers_from at t s parts ≡ Ok told → P t → P (after_parts t s parts)
parts-keep P s keeps at t [] told proper is has = has
parts-keep P s keeps at t (part ∷ parts) told proper is has =
    let both = and_then-ok at (part_answer t s part) (answers_from (at + 1) (after_part t s part) s parts) told is in
    parts-keep P s keeps (at + 1) (after_part t s part) parts both.2.0 proper.1 both.2.1 (keeps t part both.0 proper.0 both.1 has)

pub IsWhole-after_multi : CallsKeepWhole
IsWhole-after_multi t s parts told proper is whole =
    by_bool (λ b. IsWhole (cond b (with_next_number (after_parts t s parts)) t).nodes) (list_any (λ part. not (is_check part)) parts)
    (λ _. parts-keep (λ u. IsWhole u.nodes) s (λ u part d. IsWhole-after_part u s part d) 0 t parts told proper is whole) (λ _. whole)

-- # no node has more children than its stat can count

pub HasRoom-change_node : (p : List ℕ) (f : Node → Node) → KeepsPath f → (nodes : List Node) → HasRoom nodes → HasRoom (change_node p f nodes)
HasRoom-change_node p f path nodes room = HasRoom-paths nodes (change_node p f nodes) (sym (paths_of-change_node p f path nodes)) room

pub HasRoom-after_part : (t : TreeState) (session : ℕ) (part : Op) (d : OpDone) → IsPart part → part_answer t session part ≡ Ok d → IsWhole t.nodes → HasRoom t.nodes → HasRoom (after_part t session part).nodes
HasRoom-after_part t s part d proper is whole room = by-part t s (λ o nodes. HasRoom nodes) (record {
  made = λ dir name bytes made mode makes may. HasRoom-made t (next_change t) s dir name bytes made mode makes may whole room;
  other_bytes = λ path bytes. HasRoom-change_node path (with_bytes (next_change t) bytes) (λ _. refl) t.nodes room;
  gone = λ path dir above may. HasRoom-filter (λ n. not (is_at path n)) (change_node dir (without_child (next_change t)) t.nodes) (HasRoom-change_node dir (without_child (next_change t)) (λ _. refl) t.nodes room);
  same = room;
}) part d proper is

pub HasRoom-after_end : (z session : ℕ) (nodes : List Node) → HasRoom nodes → HasRoom (nodes_after_end z session nodes)
HasRoom-after_end z session nodes room =
    let kept : List Node = filter (λ n. not (is_owned session n)) nodes in
    HasRoom-paths kept (nodes_after_end z session nodes) (sym (paths_of-map (after_loss nodes z session) (λ _. refl) kept)) (HasRoom-filter (λ n. not (is_owned session n)) nodes room)
