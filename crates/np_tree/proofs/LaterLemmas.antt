-- each call leaves a later tree, in which what lacks the call's number was there before
use Rattle.np_tree.proofs.Prelude.{AllByRecursion, BeginsLater, Bool, CallsLater, Elsewhere, EndsLater, Goes, GoesWhole, IsLater, IsPart, IsSorted, IsWhole, KeepsPath, LaterJoined, LaterThanItself, List, Node, None, NonePass, Ok, Op, OpDone, Option, RaisesLater, ReservesLater, Row, Since, Some, Tag, TreeState, [], after_end, after_loss, after_multi, after_part, all-filter_to, all-mapped, and-apart, ap, arith, at_path, at_path-change_other, by_bool, bytes_eq, bytes_eq-from, bytes_eq-is, change_node, cond, dir_of, false, filter, filter-not_none, find-insert_before, find-passes, from-map_some, insert_node, is_at, is_check, is_child, is_owned, is_owner, list_any, made_path, map, new_node, new_tree, next_change, nodes_after_end, none-find, none-list_any, not, option_map, parent_of, part_answer, path_before, refl, row_of, rows_at, seen_of, subst, sym, tag_of, there, true, with_bytes, with_child, with_counter, with_next_number, without_child, without_node, ℕ, ◌&&◌, ◌+◌, ◌<◌, ◌∙◌, ◌∷◌, ◌≡◌, ◌≤◌}
use Rattle.np_tree.proofs.WholeLemmas.{IsWhole-after_part, by-part, made-below, made-free}
use Rattle.np_tree.proofs.RowLemmas.{at_path-changed, at_path-without_other, find-filter_gone, find-insert_here, kept_by, other-child, rows-changed_apart, rows-ended, rows-gone_other, rows-more_other, rows-touch, rows_in, some_same}
use Rattle.np_tree.proofs.CallLemmas.{after_parts-nodes, checks-leave-the-tree, goes-after, goes-under-one-number, ok-by}
use Rattle.np_tree.proofs.RelationLemmas.{Creates-left, at_path-ended, parts-change_nodes_alone}

-- # what a change of the nodes leaves from an earlier change was there before

abbrev pub tags_in : List ℕ → List Node → List Tag
tags_in dir nodes = map tag_of (rows_in dir nodes)

-- what the new nodes have from a change up to a number, the old ones have too
abbrev pub Dated : ℕ → List Node → List Node → Type 0
Dated z old new = Since z (record new_tree { nodes = old }) (record new_tree { nodes = new })

pub Dated-itself : (z : ℕ) (nodes : List Node) → Dated z nodes nodes
Dated-itself z nodes = record { bytes = λ path n there early. (n, there, early, refl); list = λ dir n there early. (n, there, early, refl) }

Since-joined : (z : ℕ) (t u v : TreeState) → Since z t u → Since z u v → Since z t v
Since-joined z t u v first second = record {
  bytes = λ path n there early.
      let one = second.bytes path n there early in
      let two = first.bytes path one.0 one.1 one.2 in
      (two.0, two.1, two.2, two.3 ∙ one.3);
  list = λ dir n there early.
      let one = second.list dir n there early in
      let two = first.list dir one.0 one.1 one.2 in
      (two.0, two.1, two.2, two.3 ∙ one.3);
}

-- ## one node changed

module _ (path : List ℕ) (f : Node → Node) (keeps : KeepsPath f) (nodes : List Node) where
  -- the node at the path is the changed one
  pub changed-here : (n : Node) → at_path (change_node path f nodes) path ≡ Some n → (m : Node) × (at_path nodes path ≡ Some m) × (f m ≡ n)
  changed-here n there = from-map_some f (at_path nodes path) n (sym (at_path-changed path f keeps nodes) ∙ there)

  -- what is true of a changed node and of one that is as it was, is true of the node at any path
  pub changed-at : (P : Node → Node → Type 0) → ((m : Node) → P m (f m)) → ((m : Node) → P m m) → (other : List ℕ) (n : Node) → at_path (change_node path f nodes) other ≡ Some n → (m : Node) × (at_path nodes other ≡ Some m) × P m n
  changed-at P new same other n there =
      by_bool (λ _. (m : Node) × (at_path nodes other ≡ Some m) × P m n) (bytes_eq path other) (λ is.
      let one : path ≡ other = bytes_eq-is path other is in
      let here = changed-here n (ap (at_path (change_node path f nodes)) one ∙ there) in
      (here.0, ap (at_path nodes) (sym one) ∙ here.1, subst (P here.0) here.2 (new here.0)))
      (λ is. (n, sym (at_path-change_other path other f keeps (λ same. let e = bytes_eq-from path other same in absurd cc) nodes) ∙ there, same n))

-- the change keeps what is listed of a node
abbrev pub KeepsTag : (Node → Node) → Type 0
KeepsTag f = (n : Node) → tag_of (row_of (f n)) ≡ tag_of (row_of n)

pub tags-changed : (dir path : List ℕ) (f : Node → Node) → KeepsPath f → KeepsTag f → (nodes : List Node) → tags_in dir (change_node path f nodes) ≡ tags_in dir nodes
tags-changed dir path f keeps tag [] = refl
tags-changed dir path f keeps tag (n ∷ nodes) = grind (arith, keeps n, tag n, tags-changed dir path f keeps tag nodes)

-- a changed node that is from an earlier change is as it was
pub Dated-changed : (z : ℕ) (path : List ℕ) (f : Node → Node) → KeepsPath f → KeepsTag f → ((n : Node) → (f n).facts.mzxid ≤ z → (n.facts.mzxid ≤ z) × (seen_of n ≡ seen_of (f n))) → ((n : Node) → (f n).facts.pzxid ≤ z → n.facts.pzxid ≤ z) → (nodes : List Node) →
    Dated z nodes (change_node path f nodes)
Dated-changed z path f keeps tag bytes list nodes = record {
  bytes = λ other n there early.
      let was = changed-at path f keeps nodes (λ m k. k.facts.mzxid ≤ z → (m.facts.mzxid ≤ z) × (seen_of m ≡ seen_of k)) bytes (λ m low. (low, refl)) other n there in
      (was.0, was.1, (was.2 early).0, (was.2 early).1);
  list = λ dir n there early.
      let was = changed-at path f keeps nodes (λ m k. k.facts.pzxid ≤ z → m.facts.pzxid ≤ z) list (λ m low. low) dir n there in
      (was.0, was.1, was.2 early, sym (tags-changed dir path f keeps tag nodes));
}

-- ## one node more

module _ (z : ℕ) (dir : List ℕ) (new : Node) (nodes : List Node) (bytes : z < new.facts.mzxid) (list : z < new.facts.pzxid) (above : parent_of new.path ≡ Some dir) (free : at_path nodes new.path ≡ None) (told : (n : Node) → at_path nodes dir ≡ Some n → z < n.facts.pzxid) where
  old-at : (path : List ℕ) (n : Node) → at_path (insert_node new nodes) path ≡ Some n → (new ≡ n → ⊥) → at_path nodes path ≡ Some n
  old-at path n there apart =
      by_bool (λ _. at_path nodes path ≡ Some n) (bytes_eq new.path path) (λ is.
      let here = find-insert_here (is_at new.path) (λ m. path_before new.path m.path) new nodes (bytes_eq-from new.path new.path refl) (none-find (is_at new.path) nodes free) in
      absurd (apart (some_same (sym here ∙ ap (at_path (insert_node new nodes)) (bytes_eq-is new.path path is) ∙ there))))
      (λ is. sym (find-insert_before (is_at path) (λ m. path_before new.path m.path) new nodes is) ∙ there)

  pub Dated-more : Dated z nodes (insert_node new nodes)
  Dated-more = record {
    bytes = λ path n there early. (n, old-at path n there (λ is. let date = ap (λ (k : Node). k.facts.mzxid) is in omega arith), early, refl);
    list = λ other n there early.
        let old = old-at other n there (λ is. let date = ap (λ (k : Node). k.facts.pzxid) is in omega arith) in
        let away = other-child other dir new (λ same. let late = told n (ap (at_path nodes) (sym same) ∙ old) in omega arith) above in
        (n, old, early, ap (map tag_of) (sym (rows-more_other other new nodes away)));
  }

-- ## one node fewer

module _ (z : ℕ) (dir path : List ℕ) (nodes : List Node) (above : parent_of path ≡ Some dir) (told : (n : Node) → at_path nodes dir ≡ Some n → z < n.facts.pzxid) where
  still : (other : List ℕ) (n : Node) → at_path (without_node path nodes) other ≡ Some n → at_path nodes other ≡ Some n
  still other n there =
      by_bool (λ _. at_path nodes other ≡ Some n) (bytes_eq other path)
      (λ is. absurd (let e : None ≡ Some n = sym (find-filter_gone (is_at path) nodes) ∙ ap (at_path (without_node path nodes)) (sym (bytes_eq-is other path is)) ∙ there in cc))
      (λ is. sym (at_path-without_other other path (λ same. let e = bytes_eq-from other path same in absurd cc) nodes) ∙ there)

  pub Dated-fewer : Dated z nodes (without_node path nodes)
  Dated-fewer = record {
    bytes = λ other n there early. (n, still other n there, early, refl);
    list = λ other n there early.
        let old = still other n there in
        let rows = rows-gone_other other dir path (λ same. let late = told n (ap (at_path nodes) (sym same) ∙ old) in omega arith) above nodes in
        (n, old, early, ap (map tag_of) (sym rows));
  }

-- ## a session's nodes gone

kept-some : (keep : Node → Bool) (o : Option Node) (m : Node) → kept_by keep o ≡ Some m → o ≡ Some m
kept-some keep None m is = is
kept-some keep (Some a) m is = grind (arith, is)

module _ (z next session : ℕ) (low : z < next) (nodes : List Node) (sorted : IsSorted nodes) where
  abbrev ended : List Node
  ended = nodes_after_end next session nodes

  abbrev loss : Node → Node
  loss = after_loss nodes next session

  ended-at : (path : List ℕ) (n : Node) → at_path ended path ≡ Some n → (m : Node) × (at_path nodes path ≡ Some m) × (loss m ≡ n)
  ended-at path n there =
      let was = from-map_some loss (kept_by (λ k. not (is_owned session k)) (at_path nodes path)) n (sym (at_path-ended next session nodes path sorted) ∙ there) in
      (was.0, kept-some (λ k. not (is_owned session k)) (at_path nodes path) was.0 was.1, was.2)

  -- no child of the directory goes
  none-goes : (dir : List ℕ) → NonePass (λ m. is_owned session m && is_child dir m) nodes → NonePass (λ row. is_owner session row.owner) (rows_in dir nodes)
  none-goes dir none =
      all-mapped (λ m. is_owned session m ≡ false) (λ (row : Row). is_owner session row.owner ≡ false) row_of (filter (is_child dir) nodes) (λ m free. free)
      (all-filter_to (λ m. (is_owned session m && is_child dir m) ≡ false) (λ m. is_owned session m ≡ false) (is_child dir) nodes (λ m child free. and-apart (is_owned session m) (is_child dir m) free child) none)

  loss-list : (m : Node) (b : Bool) → list_any (λ k. is_owned session k && is_child m.path k) nodes ≡ b → cond b next m.facts.pzxid ≤ z → (m.facts.pzxid ≤ z) × (tags_in m.path nodes ≡ tags_in m.path ended)
  loss-list m true any early = absurd (omega arith)
  loss-list m false any early =
      let rows = rows-ended m.path session loss (λ _. refl) (λ _. refl) nodes ∙ filter-not_none (λ row. is_owner session row.owner) (rows_in m.path nodes) (none-goes m.path (none-list_any (λ k. is_owned session k && is_child m.path k) nodes any)) in
      (early, ap (map tag_of) (sym rows))

  pub Dated-ended : Dated z nodes ended
  Dated-ended = record {
    bytes = λ path n there early. let was = ended-at path n there in (was.0, was.1, subst (λ (k : Node). k.facts.mzxid ≤ z) (sym was.2) early, ap seen_of was.2);
    list = λ dir n there early.
        let was = ended-at dir n there in
        let here = bytes_eq-is was.0.path dir (find-passes (is_at dir) nodes was.0 was.1) in
        let same = loss-list was.0 (list_any (λ k. is_owned session k && is_child was.0.path k) nodes) refl (subst (λ (k : Node). k.facts.pzxid ≤ z) (sym was.2) early) in
        (was.0, was.1, same.0, subst (λ (p : List ℕ). tags_in p nodes ≡ tags_in p ended) here same.1);
  }

-- # parts that change the rows of other directories

part-elsewhere : (t : TreeState) (s : ℕ) (part : Op) (d : OpDone) (other : List ℕ) → IsWhole t.nodes → IsPart part → part_answer t s part ≡ Ok d → (dir_of part ≡ Some other → ⊥) → rows_at (after_part t s part) other ≡ rows_at t other
part-elsewhere t s part d other whole proper is = by-part t s (λ o nodes. (o ≡ Some other → ⊥) → rows_in other nodes ≡ rows_in other t.nodes) (record {
  made = λ dir name bytes made mode makes may apart. (Creates-left t s dir name bytes made mode may.parent.facts.counter whole makes (ap (option_map (λ (n : Node). n.facts.counter)) may.found) may).other_rows other (λ same. apart (ap Some (sym same)));
  other_bytes = λ path bytes apart. rows-changed_apart other path apart (with_bytes (next_change t) bytes) (λ _. refl) t.nodes;
  gone = λ path dir above may apart. rows-gone_other other dir path (λ same. apart (ap Some (sym same))) above (change_node dir (without_child (next_change t)) t.nodes) ∙ rows-touch other (is_at dir) (without_child (next_change t)) (λ _. refl) (λ _. refl) t.nodes;
  same = λ apart. refl;
}) part d proper is

pub elsewhere : Elsewhere
elsewhere t u s [] other whole proper same apart = ap (λ (v : TreeState). rows_at v other) (sym same)
elsewhere t u s (part ∷ parts) other whole proper goes apart =
    let d = ok-by (part_answer t s part) goes.0 in
    elsewhere (after_part t s part) u s parts other (IsWhole-after_part t s part d.0 proper.0 d.1 whole) proper.1 goes.1 apart.1
    ∙ part-elsewhere t s part d.0 other whole proper.0 d.1 apart.0

pub goes-whole : GoesWhole
goes-whole t u s [] whole proper same = subst (λ (v : TreeState). IsWhole v.nodes) same whole
goes-whole t u s (part ∷ parts) whole proper goes =
    let d = ok-by (part_answer t s part) goes.0 in
    goes-whole (after_part t s part) u s parts (IsWhole-after_part t s part d.0 proper.0 d.1 whole) proper.1 goes.1

-- # each call leaves a later tree

IsLater-dated : (t u : TreeState) → t.changes ≤ u.changes → ((z : ℕ) → z ≤ t.changes → Dated z t.nodes u.nodes) → IsLater t u
IsLater-dated t u changes dated = record { changes = changes; since = λ z early. record { bytes = (dated z early).bytes; list = (dated z early).list } }

-- ## reflexive and transitive

pub later-than-itself : LaterThanItself
later-than-itself t = IsLater-dated t t (omega arith) (λ z early. Dated-itself z t.nodes)

pub later-joined : LaterJoined
later-joined t u v first second = record {
  changes = let one = first.changes in let two = second.changes in omega arith;
  since = λ z early. Since-joined z t u v (first.since z early) (second.since z (let one = first.changes in omega arith));
}

-- ## sessions, and a counter raised

pub reserves-later : ReservesLater
reserves-later t spare = IsLater-dated t _ (omega arith) (λ z early. Dated-itself z t.nodes)

pub begins-later : BeginsLater
begins-later t = IsLater-dated t _ (omega arith) (λ z early. Dated-itself z t.nodes)

pub raises-later : RaisesLater
raises-later t path to = IsLater-dated t _ (omega arith) (λ z early. Dated-changed z path (with_counter to) (λ _. refl) (λ _. refl) (λ n low. (low, refl)) (λ n low. low) t.nodes)

next-is : (t : TreeState) → t.changes < 18_446_744_073_709_551_615 → next_change t ≡ t.changes + 1
next-is t low = omega arith

pub ends-later : EndsLater
ends-later t session whole low =
    let next = next-is t low in
    IsLater-dated t (after_end t session) (omega arith) (λ z early. Dated-ended z (next_change t) session (omega arith) t.nodes whole.sorted)

-- ## parts

-- a parent that lost or got a child has the number
told-by : (z next : ℕ) → z < next → (dir : List ℕ) (f : Node → Node) → KeepsPath f → ((n : Node) → (f n).facts.pzxid ≡ next) → (nodes : List Node) (n : Node) → at_path (change_node dir f nodes) dir ≡ Some n → z < n.facts.pzxid
told-by z next low dir f keeps dates nodes n there =
    let was = changed-here dir f keeps nodes n there in
    let late = dates was.0 in
    subst (λ (k : Node). z < k.facts.pzxid) was.2 (omega arith)

part-dated : (t : TreeState) (s z : ℕ) → z < next_change t → (part : Op) (d : OpDone) → IsWhole t.nodes → IsPart part → part_answer t s part ≡ Ok d → Dated z t.nodes (after_part t s part).nodes
part-dated t s z low part d whole proper is = by-part t s (λ o nodes. Dated z t.nodes nodes) (record {
  made = λ dir name bytes made mode makes may.
      let child : Node → Node = with_child (next_change t) mode in
      Since-joined z _ _ _ (Dated-changed z dir child (λ _. refl) (λ _. refl) (λ n early. (early, refl)) (λ n early. absurd (omega arith)) t.nodes)
      (Dated-more z dir (new_node (next_change t) s (made_path may.parent name mode) bytes mode) (change_node dir child t.nodes) low low (made-below t (next_change t) s dir name bytes made mode makes may whole).above (made-free t (next_change t) s dir name bytes made mode makes may) (told-by z (next_change t) low dir child (λ _. refl) (λ _. refl) t.nodes));
  other_bytes = λ path bytes. Dated-changed z path (with_bytes (next_change t) bytes) (λ _. refl) (λ _. refl) (λ n early. absurd (omega arith)) (λ n early. early) t.nodes;
  gone = λ path dir above may.
      let less : Node → Node = without_child (next_change t) in
      Since-joined z _ _ _ (Dated-changed z dir less (λ _. refl) (λ _. refl) (λ n early. (early, refl)) (λ n early. absurd (omega arith)) t.nodes)
      (Dated-fewer z dir path (change_node dir less t.nodes) above (told-by z (next_change t) low dir less (λ _. refl) (λ _. refl) t.nodes));
  same = Dated-itself z t.nodes;
}) part d proper is

goes-dated : (t u : TreeState) (s z : ℕ) (parts : List Op) → z < next_change t → IsWhole t.nodes → AllByRecursion IsPart parts → Goes t s parts u → Dated z t.nodes u.nodes
goes-dated t u s z [] low whole proper same = subst (λ (v : TreeState). Dated z t.nodes v.nodes) same (Dated-itself z t.nodes)
goes-dated t u s z (part ∷ parts) low whole proper goes =
    let d = ok-by (part_answer t s part) goes.0 in
    let same = ap next_change (parts-change_nodes_alone t s part) in
    Since-joined z _ _ _ (part-dated t s z low part d.0 whole proper.0 d.1) (goes-dated (after_part t s part) u s z parts (rw same low) (IsWhole-after_part t s part d.0 proper.0 d.1 whole) proper.1 goes.1)

pub calls-later : CallsLater
calls-later t u s parts whole proper low goes =
    by_bool (λ _. IsLater t (after_multi t s parts)) (list_any (λ part. not (is_check part)) parts) (λ changes.
    let same : u.changes ≡ t.changes = ap (λ (v : TreeState). v.changes) (sym (goes-after t u s parts goes)) ∙ ap (λ (v : TreeState). v.changes) (after_parts-nodes t s parts).is in
    let next = next-is u (omega arith) in
    subst (IsLater t) (sym (goes-under-one-number t u s parts goes changes)) (IsLater-dated t (with_next_number u) (omega arith) (λ z early. goes-dated t u s z parts (omega arith) whole proper goes)))
    (λ checks. subst (IsLater t) (sym (checks-leave-the-tree t u s parts goes checks).0) (later-than-itself t))
