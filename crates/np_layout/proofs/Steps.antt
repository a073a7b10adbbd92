-- one set, create or delete at a good place, and of a wait in a queue
use Rattle.np_layout.proofs.Prelude.{AllByRecursion, AllZip, Any, AreDistinct, Bool, CanCreate, Creates, Deletes, HasLeaves, HasQueue, HasRoom, HasRoomFor, IsChild-of, IsGood, IsOk, IsPart, IsWait, IsWhole, IsWhole-after_part, List, MayDelete, Mode, None, NonePass, Ok, Op, OpDone, Option, Place, Result, Rises, Row, Seen, SessionId, Some, State, TreeRefusal, TreeState, [], above, after_part, all-at, all-filter_to, all-find, all-insert_before, all-mapped, all-weaker, ap, apart-below, arith, at_path, below, bytes_eq, bytes_eq-apart, bytes_eq-from, bytes_eq-is, change_first, child-above, children_of-ephemeral, cond, counter_after, counter_at, create_answer, create_under_answer, creates-go, creates-show, creates-under-go, creates-under-show, delete, delete_answer, deletes-go, deletes-show, false, filter, find, find-none, find-passes, find_named, found-change_first, is_at, is_child, is_in, is_named, is_owner, is_path, is_queued, is_sequential, is_session, le-leb, left, length, list_any, map, name_given, name_of, nat_le, nat_tests, next_change, next_under, not, ok-then, option_map, or_left, or_right, other-name, other-name_back, owner_at, parent_of, part_answer, parts-change_nodes_alone, path_of, place_name, refl, room-gives, row_before, row_given, row_of, row_with, rows-changed, rows-changed_other, rows-rise, rows_at, seen-is-row, seen-node, seen-none, seen_at, seen_in, seen_of, session-equal, set, set_answer, sets-go, slice_get, subst, suc, sym, true, under, wait_row, with_bytes, with_row, zero, ℕ, ◌+◌, ◌<◌, ◌>>=◌, ◌>>◌, ◌∙◌, ◌∷◌, ◌≡◌, ◌≤◌}
use Rattle.np_tree.specs.Prelude.{Node}
use Rattle.std.proofs.lemmas.Bool.{or_parts}
use Rattle.np_layout.proofs.Names.{Above, IsGood-above, above-is_good, is_path-of, parts-of, path_of-joined, same_names, same_paths}
use Rattle.np_layout.proofs.Elsewhere.{IsApart, Stays, has_leaves, has_counter}
use Rattle.np_layout.proofs.Rows.{any-found, owner-none, put-first, put-name, put_bytes, zip-filter}

-- # one set of the bytes of a good place

-- ## names

-- siblings have different names
pub named-other : (p q : Place) → IsGood p → IsGood q → above q ≡ above p → (q ≡ p → ⊥) → bytes_eq (place_name q) (place_name p) ≡ false
named-other p q p_good q_good over apart = bytes_eq-apart (place_name q) (place_name p) (λ same. apart (same_names q p q_good p_good over same))

-- a place has its name
pub named-here : (p : Place) → bytes_eq (place_name p) (place_name p) ≡ true
named-here p = bytes_eq-from (place_name p) (place_name p) refl

-- what is seen at a good place is its row in its directory
pub seen-named : (t : TreeState) (dir p : Place) → IsWhole t.nodes → IsGood p → above p ≡ Some dir → seen_at t (path_of p) ≡ option_map seen_in (find_named (place_name p) (under dir t))
seen-named t dir p whole good over =
    seen-is-row t (path_of p) (path_of dir) whole (is_path-of p good) ((parts-of p good).0 ∙ ap (option_map path_of) over)
    ∙ ap (λ (name : List ℕ). option_map seen_in (find_named name (under dir t))) (parts-of p good).1

-- ## what is set

-- in one directory the row of a name has other bytes, and everything else is as it was
pub record SetsRow (dir p : Place) (bytes : List ℕ) (t u : TreeState) : Type 0 where
  pub live : u.live ≡ t.live
  pub begun : u.begun ≡ t.begun
  pub stays : Stays (dir ∷ []) t u
  pub first : under dir u ≡ change_first (is_named (place_name p)) (row_with bytes) (under dir t)
  pub each : under dir u ≡ map (put_bytes (place_name p) bytes) (under dir t)
  pub leaves : HasLeaves dir t → HasLeaves dir u
  pub counter : next_under dir u ≡ next_under dir t

-- no rows stay no rows
pub empty-by : (dir path : List ℕ) (t u : TreeState) (change : List Row → List Row) (b : Bool) → bytes_eq path dir ≡ b → change [] ≡ [] → rows_at u dir ≡ change (rows_at t dir) → ((path ≡ dir → ⊥) → rows_at u path ≡ rows_at t path) → rows_at t path ≡ [] → rows_at u path ≡ []
empty-by dir path t u change true is none here others empty =
    let same = bytes_eq-is path dir is in
    ap (rows_at u) same ∙ here ∙ ap (λ (d : List ℕ). change (rows_at t d)) (sym same) ∙ ap change empty ∙ none
empty-by dir path t u change false is none here others empty = others (λ same. let both = bytes_eq-from path dir same in absurd cc) ∙ empty

-- a set of the bytes of a good place does that
pub sets-row : (t : TreeState) (w : ℕ) (dir p : Place) (bytes : List ℕ) → IsGood p → above p ≡ Some dir → IsWhole t.nodes → SetsRow dir p bytes t (after_part t w (set bytes p))
sets-row t w dir p bytes good over whole =
    let u : TreeState = after_part t w (set bytes p) in
    let f : Node → Node = with_bytes (next_change t) bytes in
    let name : List ℕ = place_name p in
    let parent : parent_of (path_of p) ≡ Some (path_of dir) = (parts-of p good).0 ∙ ap (option_map path_of) over in
    let dir_good = IsGood-above p dir good over in
    let others : (other : List ℕ) → (other ≡ path_of dir → ⊥) → rows_at u other ≡ rows_at t other = λ other apart. rows-changed_other other (path_of dir) (path_of p) apart parent f (λ _. refl) t.nodes in
    let other_rows : (other : Place) → IsGood other → IsApart other (dir ∷ []) → under other u ≡ under other t =
    λ other other_good apart. others (path_of other) (λ same. apart.0 (same_paths other dir other_good dir_good same)) in
    let counters : (path : List ℕ) → counter_at u path ≡ counter_at t path =
    λ path. found-change_first (option_map (λ (n : Node). n.facts.counter)) (is_at (path_of p)) (is_at path) f (λ _. refl) (λ _. refl) t.nodes in
    let first : under dir u ≡ change_first (is_named name) (row_with bytes) (under dir t) =
    rows-changed (path_of dir) (path_of p) (is_path-of p good) parent f (row_with bytes) (λ _. refl) (λ _. refl) t.nodes whole.paths
    ∙ ap (λ (last : List ℕ). change_first (is_named last) (row_with bytes) (under dir t)) (parts-of p good).1 in
    let empty : (path : List ℕ) → rows_at t path ≡ [] → rows_at u path ≡ [] =
    λ path. empty-by (path_of dir) path t u (change_first (is_named name) (row_with bytes)) (bytes_eq path (path_of dir)) refl refl first (others path) in
    let each : under dir u ≡ map (put_bytes name bytes) (under dir t) = first ∙ put-first name bytes (under dir t) (rows-rise t (path_of dir) whole) in
    record {
      live = refl;
      begun = refl;
      stays = record {
        rows = other_rows;
        leaves = λ other other_good has apart leaves.
            subst (λ (rows : List Row). AllByRecursion (λ row. rows_at u (below (path_of other) row.name) ≡ []) rows) (sym (other_rows other other_good apart))
            (all-weaker (λ (row : Row). rows_at t (below (path_of other) row.name) ≡ []) (λ (row : Row). rows_at u (below (path_of other) row.name) ≡ []) (λ row none. empty (below (path_of other) row.name) none) (under other t) leaves);
        counters = λ other next other_good has apart is. counters (path_of other) ∙ is;
      };
      counter = counters (path_of dir);
      first = first;
      each = each;
      leaves = λ leaves. subst (λ (rows : List Row). AllByRecursion (λ row. rows_at u (below (path_of dir) row.name) ≡ []) rows) (sym each)
          (all-mapped (λ (row : Row). rows_at t (below (path_of dir) row.name) ≡ []) (λ (row : Row). rows_at u (below (path_of dir) row.name) ≡ []) (put_bytes name bytes) (under dir t)
          (λ row none. ap (λ (n : List ℕ). rows_at u (below (path_of dir) n)) (put-name name bytes row) ∙ empty (below (path_of dir) row.name) none) leaves);
    }

-- ## what is accepted

ok-then_done : {A : Type 0} (done : A → OpDone) (r : Result A TreeRefusal) (a : A) → r ≡ Ok a → IsOk (r >>= λ x. Ok (done x))
ok-then_done done r a is = grind arith

-- the set of a good place whose row is there
pub set-goes : (t : TreeState) (dir p : Place) (bytes : List ℕ) → IsGood p → above p ≡ Some dir → IsWhole t.nodes → list_any (is_named (place_name p)) (under dir t) ≡ true →
    (w : ℕ) → is_in t.live w ≡ true → length bytes ≤ 65_536 → HasRoomFor 1 t → IsOk (part_answer t w (set bytes p))
set-goes t dir p bytes good over whole any w live short room =
    let row = any-found (is_named (place_name p)) (under dir t) any in
    let seen : seen_at t (path_of p) ≡ Some (seen_in row.0) = seen-named t dir p whole good over ∙ ap (option_map seen_in) row.1 in
    let node = seen-node (at_path t.nodes (path_of p)) (seen_in row.0) seen in
    let version = ap (option_map (λ (n : Node). n.facts.version)) node.1 in
    let has = room-gives t 0 room in
    ok-then_done OpDone.Set (set_answer t w (path_of p) bytes Any) (node.0.facts.version + 1)
    (sets-go t w (path_of p) bytes node.0.facts.version live version short has.change (has.version (path_of p) node.0.facts.version version))

-- # one create of a good place

-- ## what is created

-- a directory has one row more, with nothing below it, and everything else is as it was
pub record CreatesRow (dir p : Place) (mode : Mode) (row : Row) (t u : TreeState) : Type 0 where
  pub live : u.live ≡ t.live
  pub begun : u.begun ≡ t.begun
  pub stays : Stays (dir ∷ []) t u
  pub whole : IsWhole u.nodes
  pub rows : under dir u ≡ with_row row (under dir t)
  pub leaves : HasLeaves dir t → HasLeaves dir u
  pub counter : next_under dir u ≡ option_map (counter_after mode) (next_under dir t)
  pub empty : under p u ≡ []
  pub new : next_under p u ≡ Some 0
  pub seen : seen_at u (path_of p) ≡ Some (seen_in row)
  pub other_seen : (other : Place) → IsGood other → (other ≡ p → ⊥) → seen_at u (path_of other) ≡ seen_at t (path_of other)

-- the rows of a directory are its children
rows-below : (t : TreeState) (dir : List ℕ) → IsWhole t.nodes → AllByRecursion (λ row. parent_of (below dir row.name) ≡ Some dir) (rows_at t dir)
rows-below t dir whole =
    all-mapped (λ (n : Node). parent_of (below dir (name_of n.path)) ≡ Some dir) (λ (row : Row). parent_of (below dir row.name) ≡ Some dir) row_of (filter (is_child dir) t.nodes) (λ n is. is)
    (all-filter_to (λ (n : Node). is_path n.path ≡ true) (λ (n : Node). parent_of (below dir (name_of n.path)) ≡ Some dir) (is_child dir) t.nodes
    (λ n child proper. let over = child-above dir n child in ap parent_of (IsChild-of n.path dir proper over).whole ∙ over) whole.paths)

-- nothing is below some children, if what is empty stays so
still-none : (t u : TreeState) (dir : List ℕ) (rows : List Row) → ((path : List ℕ) → parent_of path ≡ Some dir → rows_at t path ≡ [] → rows_at u path ≡ []) → AllByRecursion (λ row. parent_of (below dir row.name) ≡ Some dir) rows →
    AllByRecursion (λ row. rows_at t (below dir row.name) ≡ []) rows → AllByRecursion (λ row. rows_at u (below dir row.name) ≡ []) rows
still-none t u dir [] stays over none = tt
still-none t u dir (row ∷ rows) stays over none = (stays (below dir row.name) over.0 none.0, still-none t u dir rows stays over.1 none.1)

-- the place above has leaves
abbrev pub over_leaves : Option Place → Bool
over_leaves None = false
over_leaves (Some over) = has_leaves over

over-is : (q : Place) (o : Option Place) → IsGood q → Above IsGood o → option_map path_of o ≡ Some (path_of q) → over_leaves o ≡ false → has_leaves q ≡ true → ⊥
over-is q None good o_good same none has = absurd cc
over-is q (Some over) good o_good same none has =
    let paths : path_of over ≡ path_of q = cc in
    let is = ap has_leaves (same_paths over q o_good good paths) in
    absurd cc

no-counter : (o : Option Node) (next : ℕ) → o ≡ None → option_map (λ (n : Node). n.facts.counter) o ≡ Some next → ⊥
no-counter o next none is = grind arith

done-part : (r : Result (List ℕ) TreeRefusal) (made : List ℕ) → r ≡ Ok made → (r >>= λ path. Ok (OpDone.Created path)) ≡ Ok (OpDone.Created made)
done-part r made is = ap (λ (x : Result (List ℕ) TreeRefusal). x >>= λ path. Ok (OpDone.Created path)) is

-- a create that is accepted creates the row of its place
created : (t : TreeState) (w : ℕ) (part : Op) (dir p : Place) (mode : Mode) (row : Row) (made : List ℕ) → IsGood p → above p ≡ Some dir → over_leaves (above dir) ≡ false → row.name ≡ place_name p → IsWhole t.nodes → IsPart part → seen_at t (path_of p) ≡ None →
    part_answer t w part ≡ Ok (OpDone.Created made) → Creates mode (path_of dir) row t (after_part t w part) → CreatesRow dir p mode row t (after_part t w part)
created t w part dir p mode row made good over top named whole is_part free answer shows =
    let u : TreeState = after_part t w part in
    let dir_good = IsGood-above p dir good over in
    let joined : below (path_of dir) row.name ≡ path_of p = ap (below (path_of dir)) named ∙ sym (path_of-joined p dir over) in
    let alone = parts-change_nodes_alone t w part in
    let other_rows : (other : Place) → IsGood other → IsApart other (dir ∷ []) → under other u ≡ under other t =
    λ other other_good apart. shows.other_rows (path_of other) (λ same. apart.0 (same_paths other dir other_good dir_good same)) in
    let dir_over : parent_of (path_of dir) ≡ option_map path_of (above dir) = (parts-of dir dir_good).0 in
    record {
      live = ap (λ (v : TreeState). v.live) alone;
      begun = ap (λ (v : TreeState). v.begun) alone;
      stays = record {
        rows = other_rows;
        leaves = λ other other_good has apart leaves.
            subst (λ (rows : List Row). AllByRecursion (λ row. rows_at u (below (path_of other) row.name) ≡ []) rows) (sym (other_rows other other_good apart))
            (still-none t u (path_of other) (under other t)
            (λ path path_over none. shows.other_rows path (λ same. over-is other (above dir) other_good (above-is_good dir dir_good) (sym dir_over ∙ ap parent_of (sym same) ∙ path_over) top has) ∙ none)
            (rows-below t (path_of other) whole) leaves);
        counters = λ other next other_good has apart is.
            shows.other_counter (path_of other) (λ same. apart.0 (same_paths other dir other_good dir_good same))
            (λ same. no-counter (at_path t.nodes (path_of other)) next (ap (at_path t.nodes) (same ∙ joined) ∙ seen-none (at_path t.nodes (path_of p)) free) is)
            ∙ is;
      };
      whole = IsWhole-after_part t w part (OpDone.Created made) is_part answer whole;
      rows = shows.rows;
      leaves = λ leaves.
          subst (λ (rows : List Row). AllByRecursion (λ row. rows_at u (below (path_of dir) row.name) ≡ []) rows) (sym shows.rows)
          (all-insert_before (λ (row : Row). rows_at u (below (path_of dir) row.name) ≡ []) (λ other. row_before row other) row (under dir t) shows.empty
          (still-none t u (path_of dir) (under dir t)
          (λ path path_over none. shows.other_rows path (λ same. apart-below (path_of dir) (path_of dir) (is_path-of dir dir_good) (ap parent_of (sym same) ∙ path_over) refl) ∙ none)
          (rows-below t (path_of dir) whole) leaves));
      counter = shows.counter;
      empty = sym (ap (rows_at u) joined) ∙ shows.empty;
      new = sym (ap (counter_at u) joined) ∙ shows.new;
      seen = sym (ap (seen_at u) joined) ∙ shows.seen;
      other_seen = λ other other_good apart. shows.other_seen (path_of other) (λ same. apart (same_paths other p other_good good (same ∙ joined)));
    }

-- ## what is accepted

-- a directory in which a place can be made
pub record CanMake (t : TreeState) (w : ℕ) (dir p : Place) (counter : ℕ) : Type 0 where
  pub whole : IsWhole t.nodes
  pub live : is_in t.live w ≡ true
  pub owner : owner_at t (path_of dir) ≡ Some None
  pub gives : next_under dir t ≡ Some counter
  pub free : seen_at t (path_of p) ≡ None
  pub room : HasRoom t

can-create : (t : TreeState) (w : ℕ) (dir p : Place) (name bytes : List ℕ) (mode : Mode) (counter : ℕ) → above p ≡ Some dir → name_given mode counter name ≡ place_name p → length bytes ≤ 65536 → CanMake t w dir p counter → CanCreate t w (path_of dir) name bytes mode counter
can-create t w dir p name bytes mode counter over named short can =
    let unspent = or_right (not (is_sequential mode)) (nat_le counter 2_147_483_647) (le-leb counter 2_147_483_647 (can.room.counter (path_of dir) counter can.gives)) in
    let free = ap (seen_at t) (ap (below (path_of dir)) named ∙ sym (path_of-joined p dir over)) ∙ can.free in
    assumption (can, can.room, can.room.few (path_of dir))

-- the create is accepted, and creates the row
pub record Step (dir p : Place) (mode : Mode) (row : Row) (t : TreeState) (w : ℕ) (part : Op) : Type 0 where
  pub ok : IsOk (part_answer t w part)
  pub creates : CreatesRow dir p mode row t (after_part t w part)

-- of a path in the directory, with the place's name or a prefix of it
pub create-step : (t : TreeState) (w : ℕ) (dir p : Place) (path name bytes : List ℕ) (mode : Mode) (counter : ℕ) → IsGood p → above p ≡ Some dir → over_leaves (above dir) ≡ false → is_path path ≡ true → parent_of path ≡ Some (path_of dir) → name_of path ≡ name →
    name_given mode counter name ≡ place_name p → length bytes ≤ 65536 → CanMake t w dir p counter → Step dir p mode (row_given mode counter w name bytes) t w (Op.Create path bytes mode)
create-step t w dir p path name bytes mode counter good over top proper parent last named short can =
    let made : List ℕ = below (path_of dir) (name_given mode counter (name_of path)) in
    let go : create_answer t w path bytes mode ≡ Ok made =
    creates-go t w path (path_of dir) bytes mode counter parent (can-create t w dir p (name_of path) bytes mode counter over (ap (name_given mode counter) last ∙ named) short can) in
    let shows : Creates mode (path_of dir) (row_given mode counter w name bytes) t (after_part t w (Op.Create path bytes mode)) =
    subst (λ (n : List ℕ). Creates mode (path_of dir) (row_given mode counter w n bytes) t (after_part t w (Op.Create path bytes mode))) last
    (creates-show t w path (path_of dir) bytes made mode counter can.whole proper parent can.gives go) in
    record {
      ok = ok-then_done OpDone.Created (create_answer t w path bytes mode) made go;
      creates = created t w (Op.Create path bytes mode) dir p mode (row_given mode counter w name bytes) made good over top named can.whole (record { path = proper; numbered = refl }) can.free (done-part (create_answer t w path bytes mode) made go) shows;
    }

-- of the place itself
pub make-step : (t : TreeState) (w : ℕ) (dir p : Place) (bytes : List ℕ) (mode : Mode) (counter : ℕ) → IsGood p → above p ≡ Some dir → over_leaves (above dir) ≡ false → name_given mode counter (place_name p) ≡ place_name p → length bytes ≤ 65536 → CanMake t w dir p counter →
    Step dir p mode (row_given mode counter w (place_name p) bytes) t w (Op.Create (path_of p) bytes mode)
make-step t w dir p bytes mode counter good over top named short can =
    create-step t w dir p (path_of p) (place_name p) bytes mode counter good over top (is_path-of p good) ((parts-of p good).0 ∙ ap (option_map path_of) over) (parts-of p good).1 named short can

-- of a number in the directory
pub create_under-step : (t : TreeState) (w : ℕ) (dir p : Place) (bytes : List ℕ) (mode : Mode) (counter : ℕ) → IsGood p → above p ≡ Some dir → over_leaves (above dir) ≡ false → is_sequential mode ≡ true → name_given mode counter [] ≡ place_name p → length bytes ≤ 65536 → CanMake t w dir p counter →
    Step dir p mode (row_given mode counter w [] bytes) t w (Op.CreateUnder (path_of dir) bytes mode)
create_under-step t w dir p bytes mode counter good over top numbered named short can =
    let made : List ℕ = below (path_of dir) (name_given mode counter []) in
    let go : create_under_answer t w (path_of dir) bytes mode ≡ Ok made = creates-under-go t w (path_of dir) bytes mode counter (can-create t w dir p [] bytes mode counter over named short can) in
    record {
      ok = ok-then_done OpDone.Created (create_under_answer t w (path_of dir) bytes mode) made go;
      creates = created t w (Op.CreateUnder (path_of dir) bytes mode) dir p mode (row_given mode counter w [] bytes) made good over top named can.whole
          (record { path = is_path-of dir (IsGood-above p dir good over); numbered = numbered }) can.free (done-part (create_under_answer t w (path_of dir) bytes mode) made go)
          (creates-under-show t w (path_of dir) bytes made mode counter can.whole numbered can.gives go);
    }

-- ## what is there

-- a good place is free if no row of its directory has its name
pub free-named : (t : TreeState) (dir p : Place) → IsWhole t.nodes → IsGood p → above p ≡ Some dir → NonePass (is_named (place_name p)) (under dir t) → seen_at t (path_of p) ≡ None
free-named t dir p whole good over none =
    seen-named t dir p whole good over ∙ ap (option_map seen_in) (find-none (is_named (place_name p)) (under dir t) none)

-- a good place whose row is there has no owner if no row of its directory has one
pub owner-there : (t : TreeState) (dir p : Place) (rows : List Row) → IsWhole t.nodes → IsGood p → above p ≡ Some dir → under dir t ≡ rows → list_any (is_named (place_name p)) rows ≡ true → AllByRecursion (λ row. row.owner ≡ None) rows → owner_at t (path_of p) ≡ Some None
owner-there t dir p rows whole good over same any none =
    ap (option_map (λ (seen : Seen). seen.owner)) (seen-named t dir p whole good over)
    ∙ ap (λ (list : List Row). option_map (λ (seen : Seen). seen.owner) (option_map seen_in (find_named (place_name p) list))) same
    ∙ owner-none (place_name p) rows any none

-- what is there has a counter
counter-of : (o : Option Node) → option_map (λ (seen : Seen). seen.owner) (option_map seen_of o) ≡ Some None → (counter : ℕ) × (option_map (λ (n : Node). n.facts.counter) o ≡ Some counter)
counter-of None owner = absurd cc
counter-of (Some n) owner = (n.facts.counter, refl)

pub counter-there : (t : TreeState) (dir : Place) → owner_at t (path_of dir) ≡ Some None → (counter : ℕ) × (next_under dir t ≡ Some counter)
counter-there t dir owner = counter-of (at_path t.nodes (path_of dir)) owner

-- a place whose row is not there can be made in a directory that no session owns
pub make-new : (t : TreeState) (w : ℕ) (dir p : Place) (rows : List Row) (bytes : List ℕ) (mode : Mode) (owner : owner_at t (path_of dir) ≡ Some None) → IsGood p → above p ≡ Some dir → over_leaves (above dir) ≡ false →
    ((counter : ℕ) → name_given mode counter (place_name p) ≡ place_name p) → length bytes ≤ 65536 → IsWhole t.nodes → is_in t.live w ≡ true → HasRoom t → under dir t ≡ rows → NonePass (is_named (place_name p)) rows →
    Step dir p mode (row_given mode (counter-there t dir owner).0 w (place_name p) bytes) t w (Op.Create (path_of p) bytes mode)
make-new t w dir p rows bytes mode owner good over top named short whole live room same none =
    let counter = counter-there t dir owner in
    make-step t w dir p bytes mode counter.0 good over top (named counter.0) short
    (assumption (counter.1, free-named t dir p whole good over (subst (λ (list : List Row). NonePass (is_named (place_name p)) list) (sym same) none)))

-- # one delete of the node of a good place

-- the other rows than those of a name
abbrev pub is_other : List ℕ → Row → Bool
is_other name row = not (is_named name row)

-- the directory, and the place that is gone from it with its counter
abbrev pub places_without : Place → Place → List Place
places_without dir p = dir ∷ cond (has_counter p) (p ∷ []) []

-- in one directory the row of a name is gone, and everything else is as it was
pub record DeletesRow (dir p : Place) (t u : TreeState) : Type 0 where
  pub whole : IsWhole u.nodes
  pub live : u.live ≡ t.live
  pub begun : u.begun ≡ t.begun
  pub stays : Stays (places_without dir p) t u
  pub rows : under dir u ≡ filter (is_other (place_name p)) (under dir t)
  pub leaves : HasLeaves dir t → HasLeaves dir u
  pub counter : next_under dir u ≡ next_under dir t

-- and the delete is accepted
pub record DeleteGoes (t : TreeState) (w : ℕ) (dir p : Place) : Type 0 where
  pub goes : IsOk (part_answer t w (delete p))
  pub row : DeletesRow dir p t (after_part t w (delete p))

-- there is nothing below a row of a directory of leaves
pub bare-leaf : (t : TreeState) (dir p : Place) (row : Row) → above p ≡ Some dir → HasLeaves dir t → find_named (place_name p) (under dir t) ≡ Some row → rows_at t (path_of p) ≡ []
bare-leaf t dir p row over leaves found =
    let named : row.name ≡ place_name p = bytes_eq-is row.name (place_name p) (find-passes (is_named (place_name p)) (under dir t) row found) in
    ap (rows_at t) (path_of-joined p dir over ∙ sym (ap (below (path_of dir)) named))
    ∙ all-find (λ (r : Row). rows_at t (below (path_of dir) r.name) ≡ []) (is_named (place_name p)) (under dir t) row leaves found

-- a place with a counter that is not the one that is gone
apart-by : (p other : Place) (b : Bool) → has_counter p ≡ b → has_counter other ≡ true → IsApart other (cond b (p ∷ []) []) → other ≡ p → ⊥
apart-by p other true is has apart same = apart.0 same
apart-by p other false is has apart same = absurd (let both = sym (ap has_counter same) ∙ has in cc)

-- the node of a good place with nothing below it can be deleted
pub delete-goes : (t : TreeState) (w : ℕ) (dir p : Place) (row : Row) → IsGood p → above p ≡ Some dir → IsWhole t.nodes → is_in t.live w ≡ true → t.changes < 18_446_744_073_709_551_615 → find_named (place_name p) (under dir t) ≡ Some row → rows_at t (path_of p) ≡ [] → DeleteGoes t w dir p
delete-goes t w dir p row good over whole live change there bare =
    let u : TreeState = after_part t w (delete p) in
    let dir_good = IsGood-above p dir good over in
    let parent : parent_of (path_of p) ≡ Some (path_of dir) = (parts-of p good).0 ∙ ap (option_map path_of) over in
    let named : name_of (path_of p) ≡ place_name p = (parts-of p good).1 in
    let joined : path_of p ≡ below (path_of dir) (place_name p) = path_of-joined p dir over in
    let seen : seen_at t (path_of p) ≡ Some (seen_in row) = seen-named t dir p whole good over ∙ ap (option_map seen_in) there in
    let go : delete_answer t w (path_of p) Any ≡ Ok tt = deletes-go t w (path_of p) (path_of dir) (seen_in row) live parent seen bare change in
    let shows : Deletes (path_of dir) (place_name p) t u = subst (λ (name : List ℕ). Deletes (path_of dir) name t u) named (deletes-show t w (path_of p) (path_of dir) Any whole (is_path-of p good) parent go) in
    let other_rows : (other : Place) → IsGood other → IsApart other (places_without dir p) → under other u ≡ under other t =
    λ other other_good apart. shows.other_rows (path_of other) (λ same. apart.0 (same_paths other dir other_good dir_good same)) in
    let empty : (path : List ℕ) → rows_at t path ≡ [] → rows_at u path ≡ [] =
    λ path. empty-by (path_of dir) path t u (filter (is_other (place_name p))) (bytes_eq path (path_of dir)) refl refl shows.rows (shows.other_rows path) in
    record {
      goes = ok-then (delete_answer t w (path_of p) Any) go;
      row = record {
        whole = IsWhole-after_part t w (delete p) OpDone.Deleted (record { path = is_path-of p good; numbered = refl }) (ap (λ (r : Result (Unit {0}) TreeRefusal). r >> Ok OpDone.Deleted) go) whole;
        live = refl;
        begun = refl;
        stays = record {
          rows = other_rows;
          leaves = λ other other_good has apart leaves.
              subst (λ (rows : List Row). AllByRecursion (λ r. rows_at u (below (path_of other) r.name) ≡ []) rows) (sym (other_rows other other_good apart))
              (all-weaker (λ (r : Row). rows_at t (below (path_of other) r.name) ≡ []) (λ (r : Row). rows_at u (below (path_of other) r.name) ≡ []) (λ r none. empty (below (path_of other) r.name) none) (under other t) leaves);
          counters = λ other next other_good has apart is.
              shows.other_counter (path_of other) (λ same. apart-by p other (has_counter p) refl has apart.1 (same_paths other p other_good good (same ∙ sym joined))) ∙ is;
        };
        rows = shows.rows;
        leaves = λ leaves. subst (λ (rows : List Row). AllByRecursion (λ r. rows_at u (below (path_of dir) r.name) ≡ []) rows) (sym shows.rows)
            (all-filter_to (λ (r : Row). rows_at t (below (path_of dir) r.name) ≡ []) (λ (r : Row). rows_at u (below (path_of dir) r.name) ≡ []) (is_other (place_name p)) (under dir t) (λ r kept none. empty (below (path_of dir) r.name) none) leaves);
        counter = shows.other_counter (path_of dir) (λ same. apart-below (path_of dir) (path_of p) (is_path-of p good) parent (joined ∙ sym same));
      };
    }

-- # one wait of a queue is deleted

-- ## sessions

session-self : (a : SessionId) → is_session a a ≡ true
session-self a = grind (arith, nat_tests)

-- rows of one owner are waits of one session
waits-same : (number other : ℕ) (a b : SessionId) → wait_row number a ≡ wait_row other b → a ≡ b
waits-same number other a b same =
    let owners : Some (a.0 + 1) ≡ Some (b.0 + 1) = ap (λ (row : Row). row.owner) same in
    let numbers : a.0 + 1 ≡ b.0 + 1 = cc in
    let plain : a.0 ≡ b.0 = omega arith in
    ap (λ (n : ℕ). record { 0 = n }) plain

-- ## the queue without a session

module _ (next number : ℕ) (session : SessionId) where
  abbrev wait : Row
  wait = wait_row number session

  -- a session whose wait is there is in the queue
  queued : (rows : List Row) (queue : List SessionId) (at : ℕ) → AllZip (IsWait next) rows queue → slice_get rows at ≡ Some wait → is_queued session queue ≡ true
  queued [] queue at all there = absurd cc
  queued (row ∷ rows) [] at all there = absurd all
  queued (row ∷ rows) (other ∷ queue) zero all there =
      let is : row ≡ wait = cc in
      let same : other ≡ session = waits-same all.0.number number other session (sym all.0.is ∙ is) in
      or_left (is_session other session) (is_queued session queue) (subst (λ (x : SessionId). is_session x session ≡ true) (sym same) (session-self session))
  queued (row ∷ rows) (other ∷ queue) (suc at) all there = or_right (is_session other session) (is_queued session queue) (queued rows queue at all.1 there)

  later-other : (other : SessionId) (queue : List SessionId) → is_queued other queue ≡ false → is_queued session queue ≡ true → is_session other session ≡ false
  later-other other queue none some = grind (arith, session-equal other session)

  -- no later member of a queue is its first
  none-queued : (rows : List Row) (queue : List SessionId) → AllByRecursion (λ row. row_before wait row ≡ true) rows → is_queued session queue ≡ false → AllZip (IsWait next) rows queue → AllZip (λ row other. is_named wait.name row ≡ is_session other session) rows queue
  none-queued [] [] before none all = tt
  none-queued (row ∷ rows) (other ∷ queue) before none all =
      let parts = or_parts (is_session other session) (is_queued session queue) none in
      (other-name_back wait row before.0 ∙ sym parts.0, none-queued rows queue before.1 parts.1 all.1)
  none-queued _ _ before none all = absurd all

  -- the rows of the name are those of the session
  tells : (rows : List Row) (queue : List SessionId) (at : ℕ) → Rises row_before rows → AreDistinct queue → AllZip (IsWait next) rows queue → slice_get rows at ≡ Some wait → AllZip (λ row other. is_named wait.name row ≡ is_session other session) rows queue
  tells [] queue at rises distinct all there = absurd cc
  tells (row ∷ rows) [] at rises distinct all there = absurd all
  tells (row ∷ rows) (other ∷ queue) zero rises distinct all there =
      let is : row ≡ wait = cc in
      let same : other ≡ session = waits-same all.0.number number other session (sym all.0.is ∙ is) in (
        bytes_eq-from row.name wait.name (ap (λ (x : Row). x.name) is) ∙ sym (subst (λ (x : SessionId). is_session x session ≡ true) (sym same) (session-self session)),
        none-queued rows queue (subst (λ (x : Row). AllByRecursion (λ y. row_before x y ≡ true) rows) is rises.0) (subst (λ (x : SessionId). is_queued x queue ≡ false) same distinct.0) all.1,
      )
  tells (row ∷ rows) (other ∷ queue) (suc at) rises distinct all there = (
    other-name row wait (all-at (λ (y : Row). row_before row y ≡ true) rows at wait rises.0 there)
        ∙ sym (later-other other queue distinct.0 (queued rows queue at all.1 there)),
    tells rows queue at rises.1 distinct.1 all.1 there,
  )

-- ## the wait is there, with nothing below it

-- a row at its place is found by its name
pub found-at : (row : Row) (rows : List Row) (at : ℕ) → Rises row_before rows → slice_get rows at ≡ Some row → find_named row.name rows ≡ Some row
found-at row [] at rises there = absurd cc
found-at row (other ∷ rows) zero rises there =
    let is : other ≡ row = cc in
    ap (λ (b : Bool). cond b (Some other) (find (is_named row.name) rows)) (bytes_eq-from other.name row.name (ap (λ (x : Row). x.name) is)) ∙ ap Some is
found-at row (other ∷ rows) (suc at) rises there =
    let apart : is_named row.name other ≡ false = other-name other row (all-at (λ (y : Row). row_before other y ≡ true) rows at row rises.0 there) in
    ap (λ (b : Bool). cond b (Some other) (find (is_named row.name) rows)) apart ∙ found-at row rows at rises.1 there

owner-seen : (n : Node) (seen : Seen) → Some (seen_of n) ≡ Some seen → n.facts.owner ≡ seen.owner
owner-seen n seen same = let is : seen_of n ≡ seen = cc in ap (λ (x : Seen). x.owner) is

-- nothing is below a node of a session
pub bare-owned : (t : TreeState) (dir p : Place) (row : Row) (session : ℕ) → IsGood p → above p ≡ Some dir → IsWhole t.nodes → find_named (place_name p) (under dir t) ≡ Some row → row.owner ≡ Some session → rows_at t (path_of p) ≡ []
bare-owned t dir p row session good over whole there owned =
    let seen : seen_at t (path_of p) ≡ Some (seen_in row) = seen-named t dir p whole good over ∙ ap (option_map seen_in) there in
    let node = seen-node (at_path t.nodes (path_of p)) (seen_in row) seen in
    let is_owner = owner-seen node.0 (seen_in row) (sym (ap (option_map seen_of) node.1) ∙ seen) in
    ap (map row_of) (children_of-ephemeral t.nodes (path_of p) node.0 session whole.stand node.1 (is_owner ∙ owned))

-- a wait can be deleted
pub wait-goes : (s : State) (t : TreeState) (w : ℕ) (lock p : Place) (session : SessionId) (number at : ℕ) → MayDelete s t w → IsGood p → above p ≡ Some lock → place_name p ≡ (wait_row number session).name → slice_get (under lock t) at ≡ Some (wait_row number session) → DeleteGoes t w lock p
wait-goes s t w lock p session number at may good over named there =
    let row : Row = wait_row number session in
    let found : find_named (place_name p) (under lock t) ≡ Some row = ap (λ (name : List ℕ). find_named name (under lock t)) named ∙ found-at row (under lock t) at (rows-rise t (path_of lock) may.whole) there in
    delete-goes t w lock p row good over may.whole may.live may.room.change found (bare-owned t lock p row (session.0 + 1) good over may.whole found refl)

-- and its queue is without the session
pub queue-left : (s : State) (t u : TreeState) (w : ℕ) (lock p : Place) (session : SessionId) (number at : ℕ) (queue : List SessionId) → MayDelete s t w → place_name p ≡ (wait_row number session).name → AreDistinct queue → HasQueue lock queue t → slice_get (under lock t) at ≡ Some (wait_row number session) → DeletesRow lock p t u → HasQueue lock (left session queue) u
queue-left s t u w lock p session number at queue may named distinct is there deletes = record {
  next = is.next;
  gives = deletes.counter ∙ is.gives;
  waits = subst (λ (rows : List Row). AllZip (IsWait is.next) rows (left session queue)) (sym (deletes.rows ∙ ap (λ (name : List ℕ). filter (is_other name) (under lock t)) named))
      (zip-filter (λ other. is_session other session) (IsWait is.next) (is_named (wait_row number session).name) (under lock t) queue
      (tells is.next number session (under lock t) queue at (rows-rise t (path_of lock) may.whole) distinct is.waits there) is.waits);
}
