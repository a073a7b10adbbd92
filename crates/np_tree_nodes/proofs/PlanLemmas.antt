-- planned edits: those that make, remove and change nodes, and what undoing the last one leaves
use Rattle.np_tree_nodes.proofs.Prelude.{AfterLast-name, AllPaths, AtKept, Bool, CanStep, CanTakeBack, CanTouch, CanUndo, Edit, EndsOne, Facts, HasParts-below, HasRoom, IsChild-of, IsKept, IsNameAt-below, IsPlace, IsSorted, IsSpot, List, MakesName, Mark, Mode, Node, None, Nothing, Option, Plans, Put, Some, Spot, Step, Swap, Take, TakesMark, Touch, after_removal, after_step, after_undo, all-at, and_false, and_parts, ap, append-nil, arith, at_path, before_last-last, before_of, below, by_bool, change_at, change_at-back, change_at-same, change_node, cond, eqb-true, false, false_from_ne_true, half_of, insert, insert_node, is_at, is_element, is_element-numbered, is_ephemeral, is_kept, is_owned, is_owner, is_path, is_path-below, is_sequential, is_slash-is, kept_of, length, length-append, length-change_at, length-remove, list_all, made_path, mark_before, mark_place, mark_step, marks_before, name_of, new_mark, new_node, nodes_after_end, nodes_before, option_map, parent_of, path_before, place_of, prefix_len-le-length, refl, remove, slashed, slice_get, slice_get-change_first, slice_get_within, subst, sym, take, ten_digits_of, then_some, true, with_child, with_new_child, with_swap, with_touch, without_child, without_child_above, ℕ, [], ◌++◌, ◌-◌, ◌<◌, ◌==◌, ◌∙◌, ◌∷◌, ◌≡◌}
use Rattle.np_tree_nodes.proofs.KeptLemmas.{AllPaths-change_node, IsKept-insert, IsKept-remove, IsSorted-change_node, KeepsOwner, KeepsPath, MarkEphemerals-change_node, MayStand, at_path-paths-none, length-children-paths, length-paths, mark-owned, no_marks, nodes_after_end-none, nodes_after_end-step, nodes_after_end-top, not_owned, paths_of, paths_of-change_node, place_of-change_node, step_for}
use Rattle.np_tree_nodes.proofs.PlaceLemmas.{bytes_eq-from, insert_node-at, without_node-there, change_node-there, bytes_eq-is, change_node-none}

-- # what planned edits do, and that everything is kept

-- ## a change at a path

pub HasRoom-paths : (ns ms : List Node) → paths_of ns ≡ paths_of ms → HasRoom ns → HasRoom ms
HasRoom-paths ns ms same room path = let room_here = room path in rw (sym (length-children-paths path ns ms same)) room_here

pub IsKept-change_node : (p : List ℕ) (f : Node → Node) → KeepsPath f → KeepsOwner f → (nodes : List Node) (marks : List Mark) → IsKept nodes marks → IsKept (change_node p f nodes) marks
IsKept-change_node p f path owner nodes marks kept = record {
  sorted = IsSorted-change_node p f path nodes kept.sorted;
  paths = AllPaths-change_node p f path nodes kept.paths;
  room = HasRoom-paths nodes (change_node p f nodes) (sym (paths_of-change_node p f path nodes)) kept.room;
  ranked = kept.ranked;
  marked = MarkEphemerals-change_node marks p f path owner nodes kept.marked;
}

-- ## a node gone

pub paths_of-without_child_above : (z : ℕ) (o : Option (List ℕ)) (nodes : List Node) → paths_of (without_child_above z o nodes) ≡ paths_of nodes
paths_of-without_child_above z None nodes = refl
paths_of-without_child_above z (Some above) nodes = paths_of-change_node above (without_child z) (λ _. refl) nodes

IsKept-without_child_above : (z : ℕ) (o : Option (List ℕ)) (nodes : List Node) (marks : List Mark) → IsKept nodes marks → IsKept (without_child_above z o nodes) marks
IsKept-without_child_above z None nodes marks kept = kept
IsKept-without_child_above z (Some above) nodes marks kept = IsKept-change_node above (without_child z) (λ _. refl) (λ _. refl) nodes marks kept

-- what neither a touch nor a loss changes of a node
abbrev path_and_owner : Node → List ℕ × Option ℕ
path_and_owner n = (n.path, n.facts.owner)

-- it is at the place where it was
still-there : (z : ℕ) (o : Option (List ℕ)) (k : ℕ) (n : Node) (nodes : List Node) → slice_get nodes k ≡ Some n → AtKept path_and_owner (without_child_above z o nodes) k n
still-there z None k n nodes there = record { member = n; there = there; same = refl }
still-there z (Some above) k n nodes there = slice_get-change_first path_and_owner (is_at above) (without_child z) (λ _. refl) nodes k n there

pub after_removal-at : (z k : ℕ) (n : Node) (nodes : List Node) (marks : List Mark) → IsKept nodes marks → slice_get nodes k ≡ Some n →
    after_removal z n.path nodes ≡ remove (without_child_above z (parent_of n.path) nodes) k
after_removal-at z k n nodes marks kept there =
    let still = still-there z (parent_of n.path) k n nodes there in
    without_node-there n.path (without_child_above z (parent_of n.path) nodes) k still.member (IsKept-without_child_above z (parent_of n.path) nodes marks kept).sorted still.there
    (bytes_eq-from still.member.path n.path (ap (λ (x : List ℕ × Option ℕ). x.0) still.same))

-- ## a step of a session's end

removal-end-by : (z session k : ℕ) (n : Node) (nodes : List Node) (o : Option (List ℕ)) → IsSorted nodes → slice_get nodes k ≡ Some n → is_owned session n ≡ true → parent_of n.path ≡ o →
    nodes_after_end z session (remove (without_child_above z o nodes) k) ≡ nodes_after_end z session nodes
removal-end-by z session k n nodes None sorted there owned top = nodes_after_end-top z session k nodes n there owned top
removal-end-by z session k n nodes (Some above) sorted there owned top = nodes_after_end-step z session above k nodes n sorted (record { there = there; owned = owned; parent = top })

pub nodes_after_end-removal : (z session k : ℕ) (n : Node) (nodes : List Node) (marks : List Mark) → IsKept nodes marks → slice_get nodes k ≡ Some n → is_owned session n ≡ true →
    nodes_after_end z session (after_removal z n.path nodes) ≡ nodes_after_end z session nodes
nodes_after_end-removal z session k n nodes marks kept there owned =
    ap (nodes_after_end z session) (after_removal-at z k n nodes marks kept there) ∙ removal-end-by z session k n nodes (parent_of n.path) kept.sorted there owned refl

-- ## a node made

pub made-at : (above : List ℕ) (f : Node → Node) → KeepsPath f → (n : Node) (nodes : List Node) → IsSorted nodes → AllPaths nodes → is_path n.path ≡ true → at_path nodes n.path ≡ None →
    insert_node n (change_node above f nodes) ≡ insert (change_node above f nodes) (place_of n.path nodes) n
made-at above f keeps n nodes sorted paths is none =
    insert_node-at n (change_node above f nodes) is (AllPaths-change_node above f keeps nodes paths) (at_path-paths-none n.path nodes (change_node above f nodes) (sym (paths_of-change_node above f keeps nodes)) none) (IsSorted-change_node above f keeps nodes sorted)
    ∙ ap (λ (place : ℕ). insert (change_node above f nodes) place n) (place_of-change_node n.path above f keeps nodes)

-- with its mark, if it is an ephemeral
pub IsKept-child : (ephemeral : Bool) (session : ℕ) (above : List ℕ) (f : Node → Node) → KeepsPath f → KeepsOwner f → (n : Node) (parent : List ℕ) (nodes : List Node) (marks : List Mark) → n.facts.owner ≡ cond ephemeral (Some session) None → MayStand n parent nodes → IsKept nodes marks →
    IsKept (insert_node n (change_node above f nodes)) (after_step (step_for ephemeral session n.path marks) marks)
IsKept-child ephemeral session above f path owner n parent nodes marks owned may kept =
    let same = paths_of-change_node above f path nodes in
    let still : at_path (change_node above f nodes) n.path ≡ None = at_path-paths-none n.path nodes (change_node above f nodes) (sym same) may.new in
    let kept_above = IsKept-change_node above f path owner nodes marks kept in
    let may_still : MayStand n parent (change_node above f nodes) = record {
      path = may.path;
      new = still;
      parent = may.parent;
      room = let room = may.room in rw (length-children-paths parent (change_node above f nodes) nodes same) room;
    } in
    subst (λ (ns : List Node). IsKept ns (after_step (step_for ephemeral session n.path marks) marks)) (sym (insert_node-at n (change_node above f nodes) may.path kept_above.paths still kept_above.sorted))
    (IsKept-insert ephemeral session n parent (change_node above f nodes) marks owned may_still kept_above)

-- # the two halves of the path that is made

front : (xs : List ℕ) (y : ℕ) (zs : List ℕ) → take (length xs) ((xs ++ y ∷ []) ++ zs) ≡ xs
front [] y zs = refl
front (x ∷ xs) y zs = ap (λ rest. x ∷ rest) (front xs y zs)

before-below : (path name : List ℕ) → is_path path ≡ true → take (length (slashed path) - 1) (slashed path ++ name) ≡ half_of path
before-below [] name is = absurd cc
before-below (b ∷ []) name is = rw (is_slash-is b is) refl
before-below (b ∷ c ∷ bs) name is =
    let text = b ∷ c ∷ bs in
    let long : length (text ++ 47 ∷ []) - 1 ≡ length text = omega (arith, length-append text (47 ∷ [])) in
    rw (long, and_false (b == 47)) (front text 47 name)

pub before_of-below : (path name : List ℕ) → is_path path ≡ true → is_element name ≡ true → before_of (below path name) ≡ half_of path
before_of-below path name is element =
    before_last-last (slashed path ++ name) (length (slashed path)) (AfterLast-name _ _ (IsNameAt-below path name is element)) ∙ before-below path name is

-- a path that is made
pub record IsMade (path parent before name : List ℕ) : Type 0 where
  pub is : is_path path ≡ true
  pub above : parent_of path ≡ Some parent
  pub half : before_of path ≡ before
  pub last : name_of path ≡ name

IsMade-below : (path name : List ℕ) → is_path path ≡ true → is_element name ≡ true → IsMade (below path name) path (half_of path) name
IsMade-below path name is element =
    record { is = is_path-below path name is element; above = (HasParts-below path name is element).above; half = before_of-below path name is element; last = (HasParts-below path name is element).last }

made-by : (b : Bool) (path name : List ℕ) (n : ℕ) → is_path path ≡ true → cond b (list_all is_kept name) (is_element name) ≡ true →
    IsMade (below path (cond b (name ++ ten_digits_of n) name)) path (half_of path) (name ++ cond b (ten_digits_of n) [])
made-by true path name n is makes = IsMade-below path (name ++ ten_digits_of n) is (is_element-numbered name n makes)
made-by false path name n is makes = rw (append-nil name) (IsMade-below path name is makes)

pub IsMade-made_path : (parent : Node) (name : List ℕ) (mode : Mode) → is_path parent.path ≡ true → MakesName name mode →
    IsMade (made_path parent name mode) parent.path (half_of parent.path) (name ++ cond (is_sequential mode) (ten_digits_of parent.facts.counter) [])
IsMade-made_path parent name mode is makes = made-by (is_sequential mode) parent.path name parent.facts.counter is makes

-- an element may be a name, and may begin one
pub MakesName-child : (path above : List ℕ) (mode : Mode) → is_path path ≡ true → parent_of path ≡ Some above → MakesName (name_of path) mode
MakesName-child path above mode is top =
    let named = (IsChild-of path above is top).named in
    by_bool (λ (b : Bool). cond b (list_all is_kept (name_of path)) (is_element (name_of path)) ≡ true) (is_sequential mode) (λ _. (and_parts _ _ named).1) (λ _. named)

-- # the edit that makes a child

can-mark : (b : Bool) (session : ℕ) (path : List ℕ) (marks : List Mark) → length marks < 18_446_744_073_709_551_615 → CanStep (step_for b session path marks) marks
can-mark true session path marks small = (prefix_len-le-length (mark_before session path) marks, small)
can-mark false session path marks small = tt

pub Plans-creation : (z session : ℕ) (name bytes : List ℕ) (mode : Mode) (spot : Spot) (nodes : List Node) (marks : List Mark) (s : Swap) → IsKept nodes marks → MakesName name mode → IsSpot nodes spot.parent.node.now.path name mode spot →
    with_swap s spot.parent.node.now ≡ with_child z mode spot.parent.node.now → length nodes < 18_446_744_073_709_551_615 → length marks < 18_446_744_073_709_551_615 →
    Plans nodes marks (with_new_child z session spot.parent.node.now.path name bytes mode spot.parent.node.now nodes)
    (record { touch = Some (record { place = spot.parent.place; swap = s }); node = Put spot.place (new_node z session (made_path spot.parent.node.now name mode) bytes mode); mark = mark_step mode session (made_path spot.parent.node.now name mode) marks })
Plans-creation z session name bytes mode spot nodes marks s kept names is_spot swap few_nodes few_marks =
    let k = spot.parent.place in
    let parent = spot.parent.node.now in
    let path = made_path parent name mode in
    let new = new_node z session path bytes mode in
    let made = IsMade-made_path parent name mode (all-at (λ n. is_path n.path ≡ true) nodes k parent kept.paths is_spot.parent.item) names in
    let long = length-change_at k (with_swap s) nodes in
    let place = prefix_len-le-length (λ n. path_before n.path path) nodes in
    let there = is_spot.place in
    let touched_is = change_at-same (with_swap s) (with_child z mode) k nodes parent is_spot.parent.item swap
    ∙ sym (change_node-there parent.path (with_child z mode) nodes k parent kept.sorted is_spot.parent.item is_spot.parent.at) in
    record {
      can = record { touch = is_spot.parent.within; node = (omega arith, omega arith); mark = can-mark (is_ephemeral mode) session path marks few_marks };
      made = rw (touched_is, there) (sym (made-at parent.path (with_child z mode) (λ _. refl) new nodes kept.sorted kept.paths made.is is_spot.free));
      kept = IsKept-child (is_ephemeral mode) session parent.path (with_child z mode) (λ _. refl) (λ _. refl) new parent.path nodes marks refl
          (record { path = made.is; new = is_spot.free; parent = made.above; room = is_spot.room }) kept;
    }

-- the new node, by its parts
pub new_node-parts : (z session : ℕ) (path made bytes copy : List ℕ) (mode : Mode) (facts : Facts) (owner : Option ℕ) → made ≡ path → copy ≡ bytes →
    facts ≡ record { version = 0; czxid = z; mzxid = z; pzxid = z; owner = owner; counter = 0 } → owner ≡ cond (is_ephemeral mode) (Some session) None →
    let node : Node = record { path = made; bytes = copy; facts = facts } in node ≡ new_node z session path bytes mode
new_node-parts z session path made bytes copy mode facts owner is_path is_bytes is_facts is_owner = rw (is_path, is_bytes, is_facts, is_owner) refl

pub then_some-cond : (b : Bool) (session : ℕ) → then_some b session ≡ cond b (Some session) None
then_some-cond b session = grind arith

-- # the edits that remove nodes

-- ## the node above

pub without_child_above-none : (z : ℕ) (path above : List ℕ) (nodes : List Node) → parent_of path ≡ Some above → at_path nodes above ≡ None → nodes ≡ without_child_above z (parent_of path) nodes
without_child_above-none z path above nodes top none = rw top (sym (change_node-none above (without_child z) nodes none))

pub without_child_above-some : (z : ℕ) (path above : List ℕ) (nodes : List Node) (k : ℕ) (n : Node) (s : Swap) → parent_of path ≡ Some above → IsSorted nodes → IsPlace nodes above k n → with_swap s n ≡ without_child z n →
    change_at k (with_swap s) nodes ≡ without_child_above z (parent_of path) nodes
without_child_above-some z path above nodes k n s top sorted place same =
    rw top (change_at-same (with_swap s) (without_child z) k nodes n place.item same ∙ sym (change_node-there above (without_child z) nodes k n sorted place.item place.at))

-- ## a node and its mark

can-take : (owner : Option ℕ) (path : List ℕ) (marks : List Mark) (mark : Step Mark) → TakesMark owner path marks mark → CanStep mark marks
can-take owner path marks Nothing takes = tt
can-take owner path marks (Take j) takes = slice_get_within marks j (new_mark takes.0 path) takes.2
can-take owner path marks (Put j mark) takes = absurd takes

pub Plans-removal : (z k : ℕ) (n : Node) (nodes : List Node) (marks : List Mark) (touch : Option Touch) (mark : Step Mark) → IsKept nodes marks → slice_get nodes k ≡ Some n → TakesMark n.facts.owner n.path marks mark →
    with_touch touch nodes ≡ without_child_above z (parent_of n.path) nodes → CanTouch touch nodes → Plans nodes marks (after_removal z n.path nodes) (record { touch = touch; node = Take k; mark = mark })
Plans-removal z k n nodes marks touch mark kept there takes above can =
    let left = without_child_above z (parent_of n.path) nodes in
    let long = length-paths left nodes (paths_of-without_child_above z (parent_of n.path) nodes) in
    let within = slice_get_within nodes k n there in
    let still = still-there z (parent_of n.path) k n nodes there in
    let takes_still = subst (λ (x : List ℕ × Option ℕ). TakesMark x.1 x.0 marks mark) (sym still.same) takes in
    let gone = after_removal-at z k n nodes marks kept there in
    record {
      can = record { touch = can; node = rw above (omega arith); mark = can-take n.facts.owner n.path marks mark takes };
      made = rw above (sym gone);
      kept = rw gone (IsKept-remove k still.member left marks mark still.there takes_still (IsKept-without_child_above z (parent_of n.path) nodes marks kept));
    }

-- ## a session's end

-- there is a node where the mark says
pub mark-not_absent : (j : ℕ) (mark : Mark) (nodes : List Node) (marks : List Mark) → IsKept nodes marks → slice_get marks j ≡ Some mark → at_path nodes mark.path ≡ None → ⊥
mark-not_absent j mark nodes marks kept there none = let has = mark-owned marks j mark nodes there kept.marked in let found = has.1 in cc

owner-some : (session : ℕ) (o : Option ℕ) → is_owner session o ≡ true → o ≡ Some session
owner-some session None is = absurd cc
owner-some session (Some owner) is = ap (λ (s : ℕ). Some s) (eqb-true owner session is)

pub mark-owner : (j : ℕ) (mark : Mark) (n : Node) (nodes : List Node) (marks : List Mark) → IsKept nodes marks → slice_get marks j ≡ Some mark → at_path nodes mark.path ≡ Some n → is_owned mark.session n ≡ true
mark-owner j mark n nodes marks kept there found =
    let has = mark-owned marks j mark nodes there kept.marked in
    let same : has.0 ≡ n = let e : Some has.0 ≡ Some n = sym has.1 ∙ found in cc in
    subst (λ (m : Node). is_owned mark.session m ≡ true) same has.2

pub TakesMark-first : (j : ℕ) (mark : Mark) (n : Node) (nodes : List Node) (marks : List Mark) → IsKept nodes marks → slice_get marks j ≡ Some mark → at_path nodes mark.path ≡ Some n → is_at mark.path n ≡ true → TakesMark n.facts.owner n.path marks (Take j)
TakesMark-first j mark n nodes marks kept there found here = (
  mark.session,
  owner-some mark.session n.facts.owner (mark-owner j mark n nodes marks kept there found),
  there ∙ ap (λ (q : List ℕ). Some (new_mark mark.session q)) (sym (bytes_eq-is n.path mark.path here)),
)

pub EndsOne-removal : (z session j k : ℕ) (n : Node) (mark : Mark) (nodes : List Node) (marks : List Mark) (e : Edit) → IsKept nodes marks → slice_get marks j ≡ Some mark → slice_get nodes k ≡ Some n → is_owned session n ≡ true →
    Plans nodes marks (after_removal z n.path nodes) e → e.mark ≡ Take j → EndsOne z session nodes marks e
EndsOne-removal z session j k n mark nodes marks e kept mark_there there owned plan takes =
    record {
      can = plan.can;
      ended = ap (nodes_after_end z session) plan.made ∙ nodes_after_end-removal z session k n nodes marks kept there owned;
      kept = rw plan.made plan.kept;
      fewer = let within = slice_get_within marks j mark mark_there in rw takes (omega (arith, length-remove marks j within));
    }

-- no mark of the session is left
pub nodes_after_end-all : (z session : ℕ) (nodes : List Node) (marks : List Mark) → IsKept nodes marks → ((m : Mark) → slice_get marks (mark_place session [] marks) ≡ Some m → (m.session == session) ≡ false) → nodes_after_end z session nodes ≡ nodes
nodes_after_end-all z session nodes marks kept other = nodes_after_end-none z session nodes (not_owned session marks nodes (no_marks session marks kept.ranked other) kept.sorted kept.marked)

-- a mark of another session
pub session-not : (session : ℕ) (mark m : Mark) → mark ≡ m → (mark.session ≡ session → ⊥) → (m.session == session) ≡ false
session-not session mark m same other = rw (← same) (false_from_ne_true (mark.session == session) (λ is. other (eqb-true mark.session session is)))

-- # the edit that changes one node

pub Plans-touch : (k : ℕ) (n : Node) (s : Swap) (f : Node → Node) (nodes : List Node) (marks : List Mark) → IsKept nodes marks → slice_get nodes k ≡ Some n → KeepsPath f → KeepsOwner f → with_swap s n ≡ f n →
    Plans nodes marks (change_node n.path f nodes) (record { touch = Some (record { place = k; swap = s }); node = Nothing; mark = Nothing })
Plans-touch k n s f nodes marks kept there path owner same =
    record {
      can = record { touch = slice_get_within nodes k n there; node = tt; mark = tt };
      made = change_at-same (with_swap s) f k nodes n there same ∙ sym (change_node-there n.path f nodes k n kept.sorted there (bytes_eq-from n.path n.path refl));
      kept = IsKept-change_node n.path f path owner nodes marks kept;
    }

-- # what undoing the last edit leaves

-- the node gets back what the swap kept
with_swap-back-by : (bytes : Option (List ℕ)) (s : Swap) (n : Node) → s.bytes ≡ bytes → with_swap (kept_of s n) (with_swap s n) ≡ n
with_swap-back-by None s n is = rw is refl
with_swap-back-by (Some bytes) s n is = rw is refl

pub with_swap-back : (s : Swap) (n : Node) → with_swap (kept_of s n) (with_swap s n) ≡ n
with_swap-back s n = with_swap-back-by s.bytes s n refl

pub nodes_before-push : (es : List Edit) (e : Edit) (nodes : List Node) → nodes_before (es ++ e ∷ []) nodes ≡ nodes_before es (after_undo e nodes)
nodes_before-push [] e nodes = refl
nodes_before-push (d ∷ es) e nodes = ap (after_undo d) (nodes_before-push es e nodes)

pub marks_before-push : (es : List Edit) (e : Edit) (marks : List Mark) → marks_before (es ++ e ∷ []) marks ≡ marks_before es (after_step e.mark marks)
marks_before-push [] e marks = refl
marks_before-push (d ∷ es) e marks = ap (after_step d.mark) (marks_before-push es e marks)

pub CanUndo-push : (es : List Edit) (e : Edit) (nodes : List Node) (marks : List Mark) → CanTakeBack e nodes marks → CanUndo es (after_undo e nodes) (after_step e.mark marks) → CanUndo (es ++ e ∷ []) nodes marks
CanUndo-push [] e nodes marks last others = (last, tt)
CanUndo-push (d ∷ es) e nodes marks last others =
    rw (nodes_before-push es e nodes, marks_before-push es e marks) (others.0, CanUndo-push es e nodes marks last others.1)

pub CanUndo-last : (es : List Edit) (e : Edit) (nodes : List Node) (marks : List Mark) → CanUndo (es ++ e ∷ []) nodes marks → CanTakeBack e nodes marks
CanUndo-last [] e nodes marks can = can.0
CanUndo-last (d ∷ es) e nodes marks can = CanUndo-last es e nodes marks can.1

pub CanUndo-others : (es : List Edit) (e : Edit) (nodes : List Node) (marks : List Mark) → CanUndo (es ++ e ∷ []) nodes marks → CanUndo es (after_undo e nodes) (after_step e.mark marks)
CanUndo-others [] e nodes marks can = tt
CanUndo-others (d ∷ es) e nodes marks can =
    (rw (nodes_before-push es e nodes, marks_before-push es e marks) at can.0, CanUndo-others es e nodes marks can.1)

-- a touch is undone by what its swap became
pub with_touch-back : (nodes : List Node) (k : ℕ) (s after : Swap) → option_map (kept_of s) (slice_get nodes k) ≡ Some after → change_at k (with_swap after) (change_at k (with_swap s) nodes) ≡ nodes
with_touch-back nodes k s after kept = with_touch-back-by nodes k s after (slice_get nodes k) refl kept where
  with_touch-back-by : (nodes : List Node) (k : ℕ) (s after : Swap) (o : Option Node) → slice_get nodes k ≡ o → option_map (kept_of s) o ≡ Some after → change_at k (with_swap after) (change_at k (with_swap s) nodes) ≡ nodes
  with_touch-back-by nodes k s after None at kept = absurd cc
  with_touch-back-by nodes k s after (Some n) at kept =
      let same : kept_of s n ≡ after = cc in
      rw (← same) (change_at-back (with_swap s) (with_swap (kept_of s n)) k nodes n at (with_swap-back s n))
