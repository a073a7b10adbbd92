-- the ids of the rows in whose queues a session is: in order, after a change, and made session by session
use Rattle.np_lookups.proofs.Prelude.{AllByRecursion, AreLookupsOf, AreNodesOf, AreRequestsOf, Bool, Changes, Configuration, DistinctSessions, Growth, GrowthPremise, IfSome, Invariant, IsLive, IsLiveQueue, IsMade, IsNumbered, IsQueued, IsReached, IsTaken, JobId, List, Locked, LookupsOf, Maker, NodeEntry, NodeId, NodeRecord, NodesChange, None, NonePass, Option, RequestEntry, RequestId, RequestsChange, Rises, Rises-filter, SessionId, SessionsChange, Some, State, TenantId, Wait, all-at, all-filter, all-find, all-from_at, all-mapped, all-weaker, all_in_use, allocated, ap, append-nil, arith, below-apart, by_bool, cases_lt, change_at, change_at-back, change_at-set, change_first, change_first-same, cond, edited, ending, eq-eqb, eqb-true, false, filter, filter-append, filter-nothing, find, find-passes, freed-id, freed-queue, freed_from, get_or, grown, ids-in_order, ids_of, in_use, inl, inr, insert_before, insert_before-end, invariant-Runs, is_id_before, is_node_before, is_queued, is_session, is_some, joined, joins_node, joins_request, leaves_node, leaves_request, left, length, length-append, length-change_at, length-filter_at_most, length-map, list_any, list_any-append, list_any-none, list_at, lists_ended, lists_joined, lists_left, lists_removed, lists_without, map, map-append, nat_lt, nat_tests, new_record, next_id, node_entry, node_equal, node_one_way, nodes_changed, nodes_left, none-after, none-list_any, not, not-past, option_map, option_map_or, or_false, owners_grown, owners_taken_back, queued_nodes, queued_requests, refl, remove_first, remove_first-none, removed_node, removed_request, request_entry, request_equal, request_one_way, requests_changed, requests_left, row-of, row-passes, same_node, same_request, session-low, slice_get, slice_get-change_at, slice_get-change_at_other, slice_get-get_or, slice_get_past, slice_set, subst, suc, sym, take, take_there, true, unwrap_or, with_id, without_id, zero, ℕ, [], ◌&&◌, ◌++◌, ◌+◌, ◌<◌, ◌==◌, ◌||◌, ◌∙◌, ◌∷◌, ◌≡◌, ◌≤◌, ◌⊎◌}
pub use Rattle.np_lookups.proofs.Prelude.{apart, same-itself as itself}

-- # lists of the ids of the rows that pass a test, after a change of the rows

-- ## rows in any order

module _ {E I : Type 0} (id : E → I) where
  -- what is true of the id of each row
  all-ids : (P : I → Type 0) (p : E → Bool) (rows : List E) → AllByRecursion (λ e. P (id e)) rows → AllByRecursion P (ids_of id p rows)
  all-ids P p rows all = all-mapped (λ e. P (id e)) P id (filter p rows) (λ e holds. holds) (all-filter (λ e. P (id e)) p rows all)

  -- each row changed, with a test that says of the new row what another says of the old one
  pub ids-map : (p q : E → Bool) (f : E → E) (rows : List E) → ((e : E) → id (f e) ≡ id e) → ((e : E) → p (f e) ≡ q e) → ids_of id p (map f rows) ≡ ids_of id q rows
  ids-map p q f [] keeps passes = refl
  ids-map p q f (x ∷ xs) keeps passes = grind (arith, keeps x, passes x, ids-map p q f xs keeps passes)

  -- one row changed, in nothing that the list shows
  pub ids-change_first : (p at : E → Bool) (f : E → E) (rows : List E) → ((e : E) → id (f e) ≡ id e) → ((e : E) → p (f e) ≡ p e) → ids_of id p (change_first at f rows) ≡ ids_of id p rows
  ids-change_first p at f [] keeps passes = refl
  ids-change_first p at f (x ∷ xs) keeps passes = grind (arith, keeps x, passes x, ids-change_first p at f xs keeps passes)

  -- a new row that does not pass, at its place
  pub ids-insert_out : (p at : E → Bool) (new : E) (rows : List E) → p new ≡ false → ids_of id p (insert_before at new rows) ≡ ids_of id p rows
  ids-insert_out p at new [] fails = rw fails refl
  ids-insert_out p at new (x ∷ xs) fails = grind (arith, fails, ids-insert_out p at new xs fails)

  -- a new row at the end
  push : (p : E → Bool) (new : E) (rows : List E) → ids_of id p (rows ++ new ∷ []) ≡ ids_of id p rows ++ ids_of id p (new ∷ [])
  push p new rows = ap (map id) (filter-append p rows (new ∷ [])) ∙ map-append id (filter p rows) (filter p (new ∷ []))

  -- a new row that does not pass, at the end
  pub ids-push_out : (p : E → Bool) (new : E) (rows : List E) → p new ≡ false → ids_of id p (rows ++ new ∷ []) ≡ ids_of id p rows
  ids-push_out p new rows fails = push p new rows ∙ rw fails (append-nil (ids_of id p rows))

  -- no row passes
  pub ids-none : (p : E → Bool) (rows : List E) → AllByRecursion (λ e. p e ≡ false) rows → ids_of id p rows ≡ []
  ids-none p rows none = ap (map id) (filter-nothing p rows none)

-- ## a list of ids

-- an id that is not there
pub without_id-absent : {I : Type 0} (same : I → I → Bool) (i : I) (list : List I) → list_any (λ other. same other i) list ≡ false → without_id same i list ≡ list
without_id-absent same i list absent = remove_first-none (λ other. same other i) list (none-list_any (λ other. same other i) list absent)

-- an id left out right after it is put in
undo : {I : Type 0} (p q : I → Bool) (new : I) (list : List I) → p new ≡ true → NonePass p list → remove_first p (insert_before q new list) ≡ list
undo p q new [] is none = rw is refl
undo p q new (k ∷ ks) is none = grind (arith, is, none.0, undo p q new ks is none.1)

-- ## an id in a list in the order

module _ {I : Type 0} (before same : I → I → Bool)
    (one_way : (a b : I) → before a b ≡ true → before b a ≡ false)
    (equal : (a b : I) → same a b ≡ true → a ≡ b) where
  -- nor is the other the same as it
  turned : (a b : I) → before a b ≡ true → same b a ≡ false
  turned a b first = (none-list_any (λ other. same other a) (b ∷ []) (none-after before same one_way equal a (b ∷ []) (first, tt))).0

  -- the ids of those of the rows that pass
  ids-rise : {E : Type 0} (id : E → I) (p : E → Bool) (rows : List E) → Rises (λ a b. before (id a) (id b)) rows → Rises before (ids_of id p rows)
  ids-rise id p rows rises = ids-in_order before same id equal turned (filter p rows) (Rises-filter (λ a b. before (id a) (id b)) p rows rises)

  -- an id before all goes to the front
  with_id-front : (i : I) (list : List I) → AllByRecursion (λ other. before i other ≡ true) list → with_id before same i list ≡ i ∷ list
  with_id-front i [] all = refl
  with_id-front i (k ∷ ks) all = rw (none-after before same one_way equal i (k ∷ ks) all, all.0) refl

  -- an id after the first goes among the rest
  with_id-skip : (i k : I) (ks : List I) → before k i ≡ true → with_id before same i (k ∷ ks) ≡ k ∷ with_id before same i ks
  with_id-skip i k ks first = rw (apart before same one_way equal k i first, one_way k i first)
      (by_bool (λ (b : Bool). cond b (k ∷ ks) (k ∷ insert_before (λ other. before i other) i ks) ≡ k ∷ cond b ks (insert_before (λ other. before i other) i ks)) (list_any (λ other. same other i) ks) (λ _. refl) (λ _. refl))

  -- an id after all goes to the end
  pub with_id-last : (i : I) (list : List I) → AllByRecursion (λ other. before other i ≡ true) list → with_id before same i list ≡ list ++ i ∷ []
  with_id-last i [] all = refl
  with_id-last i (k ∷ ks) all = with_id-skip i k ks all.0 ∙ ap (λ (rest : List I). k ∷ rest) (with_id-last i ks all.1)

-- ## one row of an order

module _ {E I : Type 0} (id : E → I) (before same : I → I → Bool)
    (one_way : (a b : I) → before a b ≡ true → before b a ≡ false)
    (equal : (a b : I) → same a b ≡ true → a ≡ b) (p : E → Bool) where
  -- an id is before those of the rows after its row
  all-after : (i : I) (x : E) (xs : List E) → same (id x) i ≡ true → AllByRecursion (λ y. before (id x) (id y) ≡ true) xs
      → AllByRecursion (λ other. before i other ≡ true) (ids_of id p xs)
  all-after i x xs is all =
      subst (λ (k : I). AllByRecursion (λ other. before k other ≡ true) (ids_of id p xs)) (equal (id x) i is)
      (all-ids id (λ other. before (id x) other ≡ true) p xs all)

  -- so it is none of them
  absent : (i : I) (x : E) (xs : List E) → AllByRecursion (λ y. before (id x) (id y) ≡ true) xs → same (id x) i ≡ true → without_id same i (ids_of id p xs) ≡ ids_of id p xs
  absent i x xs all is = without_id-absent same i (ids_of id p xs) (none-after before same one_way equal i (ids_of id p xs) (all-after i x xs is all))

  -- the row of an id passes after a change, whether it did before or not
  pub ids-joined : (i : I) (f : E → E) (rows : List E) → Rises (λ a b. before (id a) (id b)) rows → ((e : E) → id (f e) ≡ id e) → ((e : E) → p (f e) ≡ true)
      → (e0 : E) → find (λ e. same (id e) i) rows ≡ Some e0 → ids_of id p (change_first (λ e. same (id e) i) f rows) ≡ with_id before same i (ids_of id p rows)
  ids-joined i f [] rises keeps passes e0 found = absurd cc
  ids-joined i f (x ∷ xs) rises keeps passes e0 found = grind (arith, keeps x, passes x, equal (id x) i, front, skip, ids-joined i f xs rises.1 keeps passes e0) where
    front : same (id x) i ≡ true → with_id before same i (ids_of id p xs) ≡ i ∷ ids_of id p xs
    front is = with_id-front before same one_way equal i (ids_of id p xs) (all-after i x xs is rises.0)

    skip : find (λ e. same (id e) i) xs ≡ Some e0 → with_id before same i (id x ∷ ids_of id p xs) ≡ id x ∷ with_id before same i (ids_of id p xs)
    skip there =
        let alike : id e0 ≡ i = equal (id e0) i (find-passes (λ e. same (id e) i) xs e0 there) in
        let first : before (id x) (id e0) ≡ true = all-find (λ y. before (id x) (id y) ≡ true) (λ e. same (id e) i) xs e0 rises.0 there in
        with_id-skip before same one_way equal i (id x) (ids_of id p xs) (rw alike at first)

  -- the row of an id is taken out
  pub ids-removed : (i : I) (rows : List E) → Rises (λ a b. before (id a) (id b)) rows → ids_of id p (remove_first (λ e. same (id e) i) rows) ≡ without_id same i (ids_of id p rows)
  ids-removed i [] rises = refl
  ids-removed i (x ∷ xs) rises = grind (arith, absent i x xs rises.0, ids-removed i xs rises.1)

  -- the row of an id does not pass after a change
  pub ids-left : (i : I) (f : E → E) (rows : List E) → Rises (λ a b. before (id a) (id b)) rows → ((e : E) → p (f e) ≡ false)
      → ids_of id p (change_first (λ e. same (id e) i) f rows) ≡ without_id same i (ids_of id p rows)
  ids-left i f [] rises fails = refl
  ids-left i f (x ∷ xs) rises fails = grind (arith, fails x, absent i x xs rises.0, ids-left i f xs rises.1 fails)

  -- a new row that passes, after all
  pub ids-pushed : (new : E) (rows : List E) → AllByRecursion (λ e. before (id e) (id new) ≡ true) rows → p new ≡ true
      → ids_of id p (rows ++ new ∷ []) ≡ with_id before same (id new) (ids_of id p rows)
  ids-pushed new rows all passes =
      push id p new rows
      ∙ rw passes refl
      ∙ sym (with_id-last before same one_way equal (id new) (ids_of id p rows) (all-ids id (λ other. before other (id new) ≡ true) p rows all))

-- # the ids of a list in an order, copied one by one into a table

-- ## one id more

module _ {I : Type 0} (before : I → I → Bool) where
  -- the ids up to a place come before the one there
  pub earlier : (xs : List I) (i : ℕ) (x : I) → Rises before xs → slice_get xs i ≡ Some x → AllByRecursion (λ other. before other x ≡ true) (take i xs)
  earlier [] i x rises there = absurd cc
  earlier (y ∷ xs) zero x rises there = tt
  earlier (y ∷ xs) (suc i) x rises there = (all-at (λ other. before y other ≡ true) xs i x rises.0 there, earlier xs i x rises.1 there)

module _ {I : Type 0} (before same : I → I → Bool)
    (one_way : (a b : I) → before a b ≡ true → before b a ≡ false)
    (equal : (a b : I) → same a b ≡ true → a ≡ b)
    (xs : List I) (rises : Rises before xs) (i : ℕ) (x : I) (there : slice_get xs i ≡ Some x) (list : List I) (copied : list ≡ take i xs) where
  -- each id in the table comes before the one at the place
  all-before : AllByRecursion (λ other. before other x ≡ true) list
  all-before = subst (AllByRecursion (λ other. before other x ≡ true)) (sym copied) (earlier before xs i x rises there)

  -- so that one is not in the table
  pub copied-other : NonePass (λ other. same other x) list
  copied-other =
      all-weaker (λ other. before other x ≡ true) (λ other. same other x ≡ false)
      (λ other first. apart before same one_way equal other x first) list all-before

  -- and goes to the end
  pub copied-next : (later : List I) → later ≡ insert_before (λ other. before x other) x list → later ≡ take (i + 1) xs
  copied-next later new =
      let none : NonePass (λ other. before x other) list =
      all-weaker (λ other. before other x ≡ true) (λ other. before x other ≡ false) (λ other first. one_way other x first) list all-before in
      new
      ∙ insert_before-end (λ other. before x other) x list none
      ∙ ap (λ (ids : List I). ids ++ x ∷ []) copied
      ∙ sym (take_there xs i x there)

-- ## the ids that a session waits at

module _ (c : Configuration) (s : State) (reached : IsReached c s) (session : SessionId) where
  -- what holds of every state that a run leads to
  abbrev holds : Invariant c s
  holds = invariant-Runs c reached.journal s reached.runs

  pub requests-rise : Rises is_id_before (queued_requests session s)
  requests-rise = ids-rise is_id_before same_request request_one_way request_equal (λ e. e.id) (λ e. is_queued session e.queue) s.requests holds.numbered.requests_rise

  pub nodes-rise : Rises is_node_before (queued_nodes session s)
  nodes-rise = ids-rise is_node_before same_node node_one_way node_equal (λ e. e.id) (λ e. is_queued session e.queue) s.nodes holds.numbered.nodes_rise

-- # rows in the order of their keys: a row is put in and left out, in one list or in that at a place

module _ {K X : Type 0} (key : X → K) (before same : K → K → Bool)
    (one_way : (a b : K) → before a b ≡ true → before b a ≡ false) where
  -- a row that was not there is left out again
  pub row-undo : (some_way : (a b : K) → before a b ≡ false → same a b ≡ false → before b a ≡ true) (row : X) (rows later : List X)
      → list_any (λ other. same (key other) (key row)) rows ≡ false → later ≡ insert_before (λ other. before (key row) (key other)) row rows
      → without_id (λ a b. same (key a) (key b)) row later ≡ rows
  row-undo some_way row rows later absent added =
      rw added (undo (λ other. same (key other) (key row)) (λ other. before (key row) (key other)) row rows (itself before same one_way some_way (key row)) (none-list_any (λ other. same (key other) (key row)) rows absent))

  -- a row after all others is before none of them
  pub none-later : (row : X) (rows : List X)
      → AllByRecursion (λ other. before (key other) (key row) ≡ true) rows → NonePass (λ other. before (key row) (key other)) rows
  none-later row rows all =
      all-weaker (λ other. before (key other) (key row) ≡ true) (λ other. before (key row) (key other) ≡ false)
      (λ other first. one_way (key other) (key row) first) rows all

-- ## a member at its place, set to a new one

module _ {X : Type 0} (at : ℕ) (xs : List X) (old new : X) (within : at < length xs) (was : old ≡ get_or xs at old) where
  pub set-changed : (f : X → X) → new ≡ f old → slice_set xs at new ≡ change_at at f xs
  set-changed f made = ap (slice_set xs at) (made ∙ ap f was) ∙ sym (change_at-set at f xs old within)

  -- a change of the new member to the old one
  pub set-back : (back : X → X) → back new ≡ old → change_at at back (slice_set xs at new) ≡ xs
  set-back back undo =
      let there : slice_get xs at ≡ Some old = slice_get-get_or xs at old within ∙ ap (λ (x : X). Some x) (sym was) in
      ap (change_at at back) (set-changed (λ _. new) refl)
      ∙ change_at-back (λ _. new) back at xs old there undo

-- what is true of the list at a place is true of the one found there
pub list-found : {I : Type 0} (P : List I → Type 0) (at : ℕ) (lists : List (List I)) (old : List I) → at < length lists → old ≡ get_or lists at old → P (list_at at lists) → P old
list-found P at lists old within was here =
    let there : slice_get lists at ≡ Some old = slice_get-get_or lists at old within ∙ ap (λ (list : List _). Some list) (sym was) in
    subst (λ (o : Option (List _)). P (unwrap_or o [])) there here

-- # one of the lists by place, changed, and the lists of sessions

-- ## one list

module _ {I : Type 0} where
  changed-or : (f : List I → List I) (o : Option (List I)) → (o ≡ None → f [] ≡ []) → unwrap_or (option_map f o) [] ≡ f (unwrap_or o [])
  changed-or f None none = sym (none refl)
  changed-or f (Some list) none = refl

  -- a list after a change of one that is there, or that adds nothing to an empty one
  pub at-changed : (at place : ℕ) (f : List I → List I) (lists : List (List I)) → (slice_get lists at ≡ None → f [] ≡ [])
      → list_at place (change_at at f lists) ≡ cond (at == place) (f (list_at place lists)) (list_at place lists)
  at-changed at place f lists none =
      by_bool (λ (b : Bool). list_at place (change_at at f lists) ≡ cond b (f (list_at place lists)) (list_at place lists)) (at == place)
      (λ is. subst (λ (i : ℕ). list_at i (change_at at f lists) ≡ f (list_at i lists)) (eqb-true at place is)
      (ap (λ (o : Option (List I)). unwrap_or o []) (slice_get-change_at at f lists) ∙ changed-or f (slice_get lists at) none))
      (λ other. ap (λ (o : Option (List I)). unwrap_or o [])
      (slice_get-change_at_other at place f lists (λ same. let is : (at == place) ≡ true = eq-eqb at place (sym same) in cc)))

-- what is found past the end of a list is there if it is put at the end
pub at-push : {X : Type 0} (x : X) (at : ℕ) (xs : List X) → unwrap_or (slice_get (xs ++ x ∷ []) at) x ≡ unwrap_or (slice_get xs at) x
at-push x zero [] = refl
at-push x (suc at) [] = refl
at-push x zero (y ∷ ys) = refl
at-push x (suc at) (y ∷ ys) = at-push x at ys

-- ## what a change makes of the list of one session

abbrev pub list_joined : {I : Type 0} → (I → I → Bool) → (I → I → Bool) → SessionId → Option (Wait I) → List I → List I
list_joined before same x wait list = option_map_or (λ w. cond (is_session w.session x) (with_id before same w.id list) list) wait list

abbrev pub list_left : {I : Type 0} → (I → I → Bool) → SessionId → Option (Wait I) → List I → List I
list_left same x wait list = option_map_or (λ w. cond (is_session w.session x) (without_id same w.id list) list) wait list

abbrev pub list_removed : {I : Type 0} → (I → I → Bool) → Option I → List I → List I
list_removed same id list = option_map_or (λ i. without_id same i list) id list

abbrev pub list_ended : {I : Type 0} → SessionId → Option SessionId → List I → List I
list_ended x ending list = option_map_or (λ e. cond (is_session e x) [] list) ending list

-- the session has a list
abbrev pub HasList : {I : Type 0} → Option (Wait I) → List (List I) → Type 0
HasList wait lists = IfSome wait (λ w. w.session.0 < length lists)

same-session : (y x : SessionId) → is_session y x ≡ true → y ≡ x
same-session y x is = ap (λ (n : ℕ). record { 0 = n }) (eqb-true y.0 x.0 is)

module _ {I : Type 0} (same : I → I → Bool) (x : SessionId) where
  pub at-joined : (before : I → I → Bool) (wait : Option (Wait I)) (lists : List (List I)) → HasList wait lists → list_at x.0 (lists_joined before same wait lists) ≡ list_joined before same x wait (list_at x.0 lists)
  at-joined before None lists has = refl
  at-joined before (Some w) lists has = at-changed w.session.0 x.0 (with_id before same w.id) lists (λ none. absurd (not-past lists w.session.0 has none))

  pub at-left : (wait : Option (Wait I)) (lists : List (List I)) → list_at x.0 (lists_left same wait lists) ≡ list_left same x wait (list_at x.0 lists)
  at-left None lists = refl
  at-left (Some w) lists = at-changed w.session.0 x.0 (without_id same w.id) lists (λ _. refl)

  -- the list of each session of the queue, which has none twice
  pub at-without : (i : I) (queue : List SessionId) (lists : List (List I)) → DistinctSessions queue → list_at x.0 (lists_without same i queue lists) ≡ cond (is_queued x queue) (without_id same i (list_at x.0 lists)) (list_at x.0 lists)
  at-without i [] lists once = refl
  at-without i (y ∷ queue) lists once =
      at-without i queue (change_at y.0 (without_id same i) lists) once.1
      ∙ grind (arith, at-changed y.0 x.0 (without_id same i) lists (λ _. refl), same-session y x, once.0)

pub at-ended : {I : Type 0} (x : SessionId) (ending : Option SessionId) (lists : List (List I)) → list_at x.0 (lists_ended ending lists) ≡ list_ended x ending (list_at x.0 lists)
at-ended x None lists = refl
at-ended x (Some e) lists = at-changed e.0 x.0 (λ _. []) lists (λ _. refl)

-- ## no list more and none less

-- one list changed, if any is
pub length-changed : {A I : Type 0} (at : A → ℕ) (f : A → List I → List I) (o : Option A) (lists : List (List I)) → length (option_map_or (λ a. change_at (at a) (f a) lists) o lists) ≡ length lists
length-changed at f None lists = refl
length-changed at f (Some a) lists = length-change_at (at a) (f a) lists

module _ {I : Type 0} (same : I → I → Bool) where
  length-without : (i : I) (queue : List SessionId) (lists : List (List I)) → length (lists_without same i queue lists) ≡ length lists
  length-without i [] lists = refl
  length-without i (y ∷ queue) lists = length-without i queue (change_at y.0 (without_id same i) lists) ∙ length-change_at y.0 (without_id same i) lists

  pub length-removed : (id : Option I) (queue : List SessionId) (lists : List (List I)) → length (lists_removed same id queue lists) ≡ length lists
  length-removed None queue lists = refl
  length-removed (Some i) queue lists = length-without i queue lists

-- # what a change of the queues of rows makes of the rows in whose queues one session is

-- ## one queue

queued-push : (x y : SessionId) (queue : List SessionId) → is_queued x (queue ++ y ∷ []) ≡ (is_queued x queue || is_session y x)
queued-push x y queue = list_any-append (λ (z : SessionId). is_session z x) queue (y ∷ []) ∙ ap (λ (b : Bool). is_queued x queue || b) (or_false (is_session y x))

-- a session that joins is in the queue, and the others are where they were
queued-joined : (x y : SessionId) (queue : List SessionId) → is_queued x (joined y queue) ≡ (is_session y x || is_queued x queue)
queued-joined x y queue = grind (arith, queued-push x y queue, same-session y x)

-- a session that leaves is not in the queue, and the others are where they were
queued-left : (x y : SessionId) (queue : List SessionId) → is_queued x (left y queue) ≡ (not (is_session y x) && is_queued x queue)
queued-left x y [] = grind arith
queued-left x y (z ∷ queue) = grind (arith, nat_tests, queued-left x y queue)

-- ## the rows that a session waits at

module _ {I K : Type 0} where
  abbrev pub id_of : Locked I K → I
  id_of e = e.id

  abbrev pub has : SessionId → Locked I K → Bool
  has x e = is_queued x e.queue

  -- their ids, in order
  abbrev pub waiting : SessionId → List (Locked I K) → List I
  waiting x rows = ids_of id_of (has x) rows

  -- the row with another queue
  abbrev pub with_queue : List SessionId → Locked I K → Locked I K
  with_queue queue e = record e { queue = queue }

  -- a session leaves all queues
  pub rows-ended : (x y : SessionId) (rows : List (Locked I K)) → waiting x (map (λ e. with_queue (left y e.queue) e) rows) ≡ list_ended x (Some y) (waiting x rows)
  rows-ended x y rows =
      ids-map id_of (has x) (λ (e : Locked I K). not (is_session y x) && has x e) (λ (e : Locked I K). with_queue (left y e.queue) e) rows (λ e. refl) (λ e. queued-left x y e.queue)
      ∙ by_bool (λ (b : Bool). ids_of id_of (λ (e : Locked I K). not b && has x e) rows ≡ cond b [] (waiting x rows)) (is_session y x)
      (λ _. ids-none id_of (λ (_ : Locked I K). false) rows (all-from_at (λ _. false ≡ false) rows (λ i e there. refl))) (λ _. refl)

module _ {I K : Type 0} (same : I → I → Bool) where
  -- the queue of the row with the id
  abbrev pub queue_in : I → List (Locked I K) → List SessionId
  queue_in i rows = option_map_or (λ e. e.queue) (find (λ e. same e.id i) rows) []

  -- the same row, with its queue changed
  queue_at_found : (f : List SessionId → List SessionId) (i : I) (rows : List (Locked I K)) → change_first (λ e. same e.id i) (with_queue (f (queue_in i rows))) rows ≡ change_first (λ e. same e.id i) (λ e. with_queue (f e.queue) e) rows
  queue_at_found f i rows =
      change_first-same (λ (e : Locked I K). same e.id i) (with_queue (f (queue_in i rows))) (λ (e : Locked I K). with_queue (f e.queue) e) rows
      (λ e found. rw found refl)

module _ {I K : Type 0} (before same : I → I → Bool)
    (one_way : (a b : I) → before a b ≡ true → before b a ≡ false)
    (equal : (a b : I) → same a b ≡ true → a ≡ b) (x : SessionId) (rows : List (Locked I K)) (rises : Rises (λ a b. before a.id b.id) rows) where
  -- a session joins the queue of a row that is there, by any change that keeps the id
  pub rows-joined_by : (y : SessionId) (i : I) (f : Locked I K → Locked I K) (e0 : Locked I K) → ((e : Locked I K) → (f e).id ≡ e.id) → ((e : Locked I K) → (f e).queue ≡ joined y e.queue) → find (λ e. same e.id i) rows ≡ Some e0
      → waiting x (change_first (λ e. same e.id i) f rows) ≡ list_joined before same x (Some (record { session = y; id = i })) (waiting x rows)
  rows-joined_by y i f e0 keeps joins found =
      by_bool (λ (b : Bool). waiting x (change_first (λ (e : Locked I K). same e.id i) f rows) ≡ cond b (with_id before same i (waiting x rows)) (waiting x rows)) (is_session y x)
      (λ is. ids-joined id_of before same one_way equal (has x) i f rows rises keeps (λ e. joined_is e ∙ rw is refl) e0 found)
      (λ is. ids-change_first id_of (has x) (λ (e : Locked I K). same e.id i) f rows keeps (λ e. joined_is e ∙ rw is refl))
    where
      joined_is : (e : Locked I K) → is_queued x (f e).queue ≡ (is_session y x || is_queued x e.queue)
      joined_is e = ap (is_queued x) (joins e) ∙ queued-joined x y e.queue

  pub rows-joined : (y : SessionId) (i : I) (e0 : Locked I K) → find (λ e. same e.id i) rows ≡ Some e0
      → waiting x (change_first (λ e. same e.id i) (with_queue (joined y (queue_in same i rows))) rows) ≡ list_joined before same x (Some (record { session = y; id = i })) (waiting x rows)
  rows-joined y i e0 found =
      ap (waiting x) (queue_at_found same (joined y) i rows)
      ∙ rows-joined_by y i (λ (e : Locked I K). with_queue (joined y e.queue) e) e0 (λ e. refl) (λ e. refl) found

  -- a session leaves the queue of a row
  pub rows-left : (y : SessionId) (i : I)
      → waiting x (change_first (λ e. same e.id i) (with_queue (left y (queue_in same i rows))) rows) ≡ list_left same x (Some (record { session = y; id = i })) (waiting x rows)
  rows-left y i =
      by_bool (λ (b : Bool). waiting x (change_first (λ (e : Locked I K). same e.id i) (with_queue (left y (queue_in same i rows))) rows) ≡ cond b (without_id same i (waiting x rows)) (waiting x rows)) (is_session y x)
      (λ is. ids-left id_of before same one_way equal (has x) i (with_queue (left y (queue_in same i rows))) rows rises (λ e. queued-left x y (queue_in same i rows) ∙ rw is refl))
      (λ is. ap (waiting x) (queue_at_found same (left y) i rows)
      ∙ ids-change_first id_of (has x) (λ (e : Locked I K). same e.id i) (λ (e : Locked I K). with_queue (left y e.queue) e) rows (λ e. refl) (λ e. queued-left x y e.queue ∙ rw is refl))

  -- the session is not in the row's queue
  pub rows-absent : (i : I) → is_queued x (queue_in same i rows) ≡ false → without_id same i (waiting x rows) ≡ waiting x rows
  rows-absent i out = without_id-absent same i (waiting x rows) (row-passes before same id_of equal (turned before same one_way equal) (has x) i rows rises ∙ by (find (λ (e : Locked I K). same e.id i) rows) refl) where
    by : (o : Option (Locked I K)) → find (λ (e : Locked I K). same e.id i) rows ≡ o → option_map_or (has x) o false ≡ false
    by None is = refl
    by (Some e) is = let there : is_queued x (queue_in same i rows) ≡ is_queued x e.queue = rw is refl in sym there ∙ out

-- # what the changes of an event make of the nodes in whose queues one session is

-- ## what grows

-- a node that is allocated is there, since none is made then
allocated-there : (c : Configuration) (s : State) (ch : Changes) (n : NodeId) (r : RequestId) (tenant : Option TenantId) → ch.grows ≡ Growth.Allocate n r tenant → GrowthPremise c s ch (Growth.Allocate n r tenant)
    → (e : NodeEntry) × (node_entry n s.nodes ≡ Some e)
allocated-there c s ch n r tenant is premise = by premise.from where
  by : IsTaken c s ch premise.pool r premise.request premise.label n ⊎ IsMade c s ch premise.pool r premise.request premise.label n → (e : NodeEntry) × (node_entry n s.nodes ≡ Some e)
  by (inl taken) = row-of (λ (e : NodeEntry). e.kept) (node_entry n s.nodes) taken.node taken.stands
  by (inr made) = let node = sym is ∙ made.grows in absurd cc

below : (next : ℕ) (e : NodeEntry) → e.id.0 < next → is_node_before e.id (record { 0 = next }) ≡ true
below next e low = grind (arith, nat_tests)

-- a new node that the session holds
abbrev made : State → NodeRecord → SessionId → NodeEntry
made s kept session = record { id = record { 0 = s.next_node }; kept = kept; queue = session ∷ [] }

pub nodes-grown : (c : Configuration) (x : SessionId) (s : State) (ch : Changes) (maker : Option Maker) (growth : Growth) → ch.grows ≡ growth → IsNumbered s → GrowthPremise c s ch growth
    → waiting x (grown c maker growth s).nodes ≡ list_joined is_node_before same_node x (joins_node maker growth s.next_node) (waiting x s.nodes)
nodes-grown c x s ch None (Growth.Node kept) is numbered premise = ids-push_out id_of (has x) (record { id = record { 0 = s.next_node }; kept = kept; queue = [] }) s.nodes refl
nodes-grown c x s ch (Some m) (Growth.Node kept) is numbered premise =
    by_bool (λ (b : Bool). waiting x (s.nodes ++ made s kept m.session ∷ []) ≡ cond b (with_id is_node_before same_node (record { 0 = s.next_node }) (waiting x s.nodes)) (waiting x s.nodes)) (is_session m.session x)
    (λ is. ids-pushed id_of is_node_before same_node node_one_way node_equal (has x) (made s kept m.session) s.nodes
    (all-weaker (λ (e : NodeEntry). e.id.0 < s.next_node) (λ (e : NodeEntry). is_node_before e.id (record { 0 = s.next_node }) ≡ true) (below s.next_node) s.nodes numbered.nodes_below)
    (rw is refl))
    (λ is. ids-push_out id_of (has x) (made s kept m.session) s.nodes (rw is refl))
nodes-grown c x s ch (Some m) (Growth.JoinNode n) is numbered premise =
    let there = row-of (λ (e : NodeEntry). e.kept) (node_entry n s.nodes) premise.node premise.stands in
    rows-joined is_node_before same_node node_one_way node_equal x s.nodes numbered.nodes_rise m.session n there.0 there.1
nodes-grown c x s ch (Some m) (Growth.Allocate n r tenant) is numbered premise =
    let there = allocated-there c s ch n r tenant is premise in
    rows-joined_by is_node_before same_node node_one_way node_equal x s.nodes numbered.nodes_rise m.session n (allocated r tenant m.session) there.0 (λ e. refl) (λ e. refl) there.1
nodes-grown c x s ch None growth is numbered premise = refl
nodes-grown c x s ch (Some m) growth is numbered premise = refl

-- ## what happens to nodes

in-use : (x : SessionId) (tick : ℕ) (numbers : List NodeId) (rows : List NodeEntry) → waiting x (all_in_use tick numbers rows) ≡ waiting x rows
in-use x tick [] rows = refl
in-use x tick (n ∷ numbers) rows =
    in-use x tick numbers (change_first (λ e. e.id.0 == n.0) (in_use tick) rows)
    ∙ ids-change_first id_of (has x) (λ (e : NodeEntry). e.id.0 == n.0) (in_use tick) rows (λ e. refl) (λ e. refl)

pub nodes-changed : (x : SessionId) (maker : Option Maker) (tick : ℕ) (change : NodesChange) (rows : List NodeEntry) → Rises (λ a b. nat_lt a.id.0 b.id.0) rows
    → waiting x (nodes_changed maker tick change rows) ≡ list_removed same_node (removed_node change) (list_left same_node x (leaves_node maker change) (waiting x rows))
nodes-changed x maker tick NodesChange.Same rows rises = refl
nodes-changed x maker tick (NodesChange.Put n kept) rows rises = ids-change_first id_of (has x) (λ (e : NodeEntry). e.id.0 == n.0) (λ (e : NodeEntry). record e { kept = kept }) rows (λ e. refl) (λ e. refl)
nodes-changed x maker tick (NodesChange.Remove n) rows rises = ids-removed id_of is_node_before same_node node_one_way node_equal (has x) n rows rises
nodes-changed x None tick (NodesChange.Leave n) rows rises = refl
nodes-changed x (Some m) tick (NodesChange.Leave n) rows rises = rows-left is_node_before same_node node_one_way node_equal x rows rises m.session n
nodes-changed x maker tick (NodesChange.FreeAll r) rows rises = ids-map id_of (has x) (has x) (freed_from r) rows (freed-id r) (λ e. rw (freed-queue r e) refl)
nodes-changed x maker tick (NodesChange.TakeOver numbers) rows rises = in-use x tick numbers rows

pub nodes-left : (x : SessionId) (change : SessionsChange) (rows : List NodeEntry) → waiting x (nodes_left change rows) ≡ list_ended x (ending change) (waiting x rows)
nodes-left x (SessionsChange.End session) rows = rows-ended x session rows
nodes-left x _ rows = refl

-- # what the changes of an event make of the requests in whose queues one session is

-- ## what grows

pub requests-grown : (c : Configuration) (x : SessionId) (s : State) (ch : Changes) (maker : Option Maker) (growth : Growth) → IsNumbered s → GrowthPremise c s ch growth
    → waiting x (grown c maker growth s).requests ≡ list_joined is_id_before same_request x (joins_request maker growth) (waiting x s.requests)
requests-grown c x s ch maker (Growth.Request priority asked) numbered premise =
    ids-insert_out id_of (has x) (λ (e : RequestEntry). is_id_before (next_id priority s) e.id) (record { id = next_id priority s; kept = new_record asked; queue = [] }) s.requests refl
requests-grown c x s ch (Some m) (Growth.JoinRequest r) numbered premise =
    let there = row-of (λ (e : RequestEntry). e.kept) (request_entry r s.requests) premise.request premise.stands in
    rows-joined is_id_before same_request request_one_way request_equal x s.requests numbered.requests_rise m.session r there.0 there.1
requests-grown c x s ch None growth numbered premise = refl
requests-grown c x s ch (Some m) growth numbered premise = refl

-- ## what happens to requests

pub requests-changed : (x : SessionId) (maker : Option Maker) (change : RequestsChange) (rows : List RequestEntry) → Rises (λ a b. is_id_before a.id b.id) rows
    → waiting x (requests_changed maker change rows) ≡ list_removed same_request (removed_request change) (list_left same_request x (leaves_request maker change None) (waiting x rows))
requests-changed x maker RequestsChange.Same rows rises = refl
requests-changed x maker (RequestsChange.Edit r change) rows rises = ids-change_first id_of (has x) (λ (e : RequestEntry). same_request e.id r) (λ (e : RequestEntry). record e { kept = edited change e.kept }) rows (λ e. refl) (λ e. refl)
requests-changed x maker (RequestsChange.Remove r) rows rises = ids-removed id_of is_id_before same_request request_one_way request_equal (has x) r rows rises
requests-changed x None (RequestsChange.Leave r) rows rises = refl
requests-changed x (Some m) (RequestsChange.Leave r) rows rises = rows-left is_id_before same_request request_one_way request_equal x rows rises m.session r

pub requests-left : (x : SessionId) (change : SessionsChange) (rows : List RequestEntry) → waiting x (requests_left change rows) ≡ list_ended x (ending change) (waiting x rows)
requests-left x (SessionsChange.End session) rows = rows-ended x session rows
requests-left x _ rows = refl

-- # only sessions that were begun have a number up to that of the last one, and only they wait in queues

-- a session with a number past that of the last one is in no queue
pub past-out : (x : SessionId) (s : State) (queue : List SessionId) → length s.sessions < x.0 → AllByRecursion (IsLive s) queue → is_queued x queue ≡ false
past-out x s queue past live =
    list_any-none (λ other. is_session other x) queue
    (all-weaker (IsLive s) (λ other. is_session other x ≡ false) (λ other is. below-apart other.0 x.0 (omega (arith, session-low other s is.facts is.begun))) queue live)

-- # a session is in the queues of some of the rows

pub few-requests : (x : SessionId) (s : State) → length (queued_requests x s) ≤ length s.requests
few-requests x s = omega (arith, length-map (λ (e : RequestEntry). e.id) (filter (λ e. is_queued x e.queue) s.requests), length-filter_at_most (λ (e : RequestEntry). is_queued x e.queue) s.requests)

pub few-nodes : (x : SessionId) (s : State) → length (queued_nodes x s) ≤ length s.nodes
few-nodes x s = omega (arith, length-map (λ (e : NodeEntry). e.id) (filter (λ e. is_queued x e.queue) s.nodes), length-filter_at_most (λ (e : NodeEntry). is_queued x e.queue) s.nodes)

-- # where the queue of a request is joined, nothing else grows

pub alone : (maker : Option Maker) (growth : Growth) (next : ℕ) (owners : List (Option JobId)) → is_some (joins_request maker growth) ≡ true
    → (joins_node maker growth next ≡ None) × (owners_grown growth owners ≡ owners) × (owners_taken_back growth owners ≡ owners)
alone maker (Growth.JoinRequest r) next owners is = (refl, refl, refl)
alone maker growth next owners is = absurd cc

-- # lookups with one list more, which is empty: they are those of the same states

module _ (c : Configuration) (s : State) (l : LookupsOf) (is : AreLookupsOf c s l) where
  pub requests-more : (lists : List (List RequestId)) (list : List RequestId) → lists ≡ l.requests ++ list ∷ [] → list ≡ [] → AreLookupsOf c s (record l { requests = lists })
  requests-more lists list more empty = record {
    unfinished = is.unfinished;
    requests = record {
      each = λ x. rw (more, empty) (at-push [] x.0 l.requests ∙ is.requests.each x);
      many = omega (arith, is.requests.many, simp length-append at (ap length more));
    };
    nodes = is.nodes;
    owners = is.owners;
  }

  pub nodes-more : (lists : List (List NodeId)) (list : List NodeId) → lists ≡ l.nodes ++ list ∷ [] → list ≡ [] → AreLookupsOf c s (record l { nodes = lists })
  nodes-more lists list more empty = record {
    unfinished = is.unfinished;
    requests = is.requests;
    nodes = record {
      each = λ x. rw (more, empty) (at-push [] x.0 l.nodes ∙ is.nodes.each x);
      many = omega (arith, is.nodes.many, simp length-append at (ap length more));
    };
    owners = is.owners;
  }

-- # lists by session, made session by session

-- the lists of the sessions below a number
pub record AreBelow {I : Type 0} (of : SessionId → List I) (number : ℕ) (lists : List (List I)) : Type 0 where
  pub many : length lists ≡ number
  pub each : (x : SessionId) → x.0 < number → list_at x.0 lists ≡ of x

-- if no session from this number on has anything, these are the lists of all
each-of : {I : Type 0} (of : SessionId → List I) (number : ℕ) (lists : List (List I)) → AreBelow of number lists → ((x : SessionId) → number ≤ x.0 → of x ≡ [])
    → (x : SessionId) → list_at x.0 lists ≡ of x
each-of {I = I} of number lists made none x = by (cases_lt x.0 number) where
  by : (x.0 < number) ⊎ (number ≤ x.0) → list_at x.0 lists ≡ of x
  by (inl below) = made.each x below
  by (inr past) = ap (λ (o : Option (List I)). unwrap_or o []) (slice_get_past lists x.0 (omega (arith, made.many))) ∙ sym (none x past)

module _ (c : Configuration) (s : State) (reached : IsReached c s) where
  abbrev queued : IsQueued s
  queued = (invariant-Runs c reached.journal s reached.runs).queued

  -- a session with a number past that of the last one waits at no row
  none-past : {I K : Type 0} (rows : List (Locked I K)) → AllByRecursion (λ e. IsLiveQueue s e.queue) rows → (x : SessionId) → length s.sessions < x.0 → waiting x rows ≡ []
  none-past {I} {K} rows live x past =
      ids-none id_of (has x) rows (all-weaker (λ (e : Locked I K). IsLiveQueue s e.queue) (λ (e : Locked I K). has x e ≡ false) (λ e queue. past-out x s e.queue past queue.live) rows live)

  pub requests-by_session : (number : ℕ) (lists : List (List RequestId)) → length s.sessions < number → AreBelow (λ x. queued_requests x s) number lists → AreRequestsOf s lists
  requests-by_session number lists past made = record {
    each = each-of (λ x. queued_requests x s) number lists made (λ x later. none-past s.requests queued.at_requests x (omega arith));
    many = omega (arith, made.many);
  }

  pub nodes-by_session : (number : ℕ) (lists : List (List NodeId)) → length s.sessions < number → AreBelow (λ x. queued_nodes x s) number lists → AreNodesOf s lists
  nodes-by_session number lists past made = record {
    each = each-of (λ x. queued_nodes x s) number lists made (λ x later. none-past s.nodes queued.at_nodes x (omega arith));
    many = omega (arith, made.many);
  }
