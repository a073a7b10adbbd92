-- nodes that janitors lock and clean up: it is enough to try those that are due first
use Rattle.np_janitor.proofs.Prelude.{AllByRecursion, Bool, ChoosesOf, Configuration, Event, EventKind, IsFirst, IsFirstThatPasses, IsNumbered, IsReached, IsUseful, Janitor, List, NodeEntry, NodeId, NodeKind, NodeRecord, NodeState, None, Ok, Option, PoolId, RequestEntry, RequestId, Rises, Role, SessionFacts, SessionId, Some, StandsIn, State, UnheldKind, [], all-at, all-filter_to, all-find, all-from_at, and_from, and_parts, ap, arith, by_bool, cond, current-speaks, due_after, due_at, due_of, eq-eqb, false, filter, find, find-passes, first_due, fold, holder, if◌then◌else◌, invariant-Runs, is_cleanable, is_cleanable_as, is_current, is_id_before, is_maker_of, is_node_of, is_none, is_old_hold, is_old_ready, is_past, is_paused, is_some, is_unclaimed, is_unheld, is_unheld_as, length, lock_due_at, made-by, maker, maker_of, most, nat_lt, nat_tests, node-apart, node_entry, none-find, not, not-zero, option_and_then, option_map, option_map_or, or_left, or_right, passes, passes-useful, passing, passing-is, passing-none, ready_age, refl, request-apart, request-itself, request_entry, same-role, same_kind, same_pool, same_request, same_role, session_of, slice_get, some-unless, sooner, soonest, subst, suc, sym, tried_kinds, true, true≢false, unheld_kind, unheld_kind_as, zero, ℕ, ◌&&◌, ◌<◌, ◌==◌, ◌||◌, ◌∙◌, ◌∷◌, ◌≡◌, ◌≤◌}

-- # rows by their ids, of which no two are the same

-- a member that passes is the first that does, if none that comes before it does
module _ {X : Type 0} (before : X → X → Bool) (p : X → Bool) (x : X) (passes : p x ≡ true) (earlier : (y : X) → before y x ≡ true → p y ≡ false) where
  found-at : (xs : List X) (i : ℕ) → slice_get xs i ≡ Some x → Rises before xs → find p xs ≡ Some x
  found-at [] i there rises = absurd cc
  found-at (y ∷ xs) zero there rises = let same : y ≡ x = cc in rw (ap p same, passes) (ap Some same)
  found-at (y ∷ xs) (suc i) there rises =
      let fails : p y ≡ false = earlier y (all-at (λ (z : X). before y z ≡ true) xs i x rises.0 there) in
      rw fails (found-at xs i there rises.1)

module _ (c : Configuration) (s : State) (reached : IsReached c s) where
  numbered : IsNumbered s
  numbered = (invariant-Runs c reached.journal s reached.runs).numbered

  -- in a state that a run reaches each node and each request is found by its id
  pub each-node : AllByRecursion (λ e. node_entry e.id s.nodes ≡ Some e) s.nodes
  each-node =
      all-from_at (λ (e : NodeEntry). node_entry e.id s.nodes ≡ Some e) s.nodes
      (λ i e there. found-at (λ (a b : NodeEntry). nat_lt a.id.0 b.id.0) (λ x. x.id.0 == e.id.0) e (eq-eqb e.id.0 e.id.0 refl) (λ y order. node-apart y.id e.id order) s.nodes i there numbered.nodes_rise)

  pub each-request : AllByRecursion (λ e. request_entry e.id s.requests ≡ Some e) s.requests
  each-request =
      all-from_at (λ (e : RequestEntry). request_entry e.id s.requests ≡ Some e) s.requests
      (λ i e there. found-at (λ (a b : RequestEntry). is_id_before a.id b.id) (λ x. same_request x.id e.id) e (request-itself e.id) (λ y order. request-apart y.id e.id order) s.requests i there numbered.requests_rise)

  -- the first request that passes the test, with its row
  pub record IsFirstRequest (such : RequestEntry → Bool) : Type 0 where
    pub row : RequestEntry
    pub is : find such s.requests ≡ Some row
    pub there : request_entry row.id s.requests ≡ Some row
    pub passes : such row ≡ true

  -- if a request passes, there is a first that does
  pub first-request : (such : RequestEntry → Bool) (r : RequestId) (e : RequestEntry) → request_entry r s.requests ≡ Some e → such e ≡ true → IsFirstRequest such
  first-request such r e there passes =
      let first = some-unless (find such s.requests) (λ none. true≢false (sym passes ∙ all-find (λ (x : RequestEntry). such x ≡ false) (λ x. same_request x.id r) s.requests e (none-find such s.requests none) there)) in
      record {
        row = first.0;
        is = first.1;
        there = all-find (λ (x : RequestEntry). request_entry x.id s.requests ≡ Some x) such s.requests first.0 each-request first.1;
        passes = find-passes such s.requests first.0 first.1;
      }

-- # the node that is due first: a row, and no row is due before it

-- what is true of those that pass is true of each that passes
passing-all : {X : Type 0} (P : X → Type 0) (p : X → Bool) (xs : List X) → AllByRecursion P (filter p xs) → AllByRecursion (λ x. p x ≡ true → P x) xs
passing-all P p [] all = tt
passing-all P p (x ∷ xs) all =
    by_bool (λ b. AllByRecursion P (cond b (x ∷ filter p xs) (filter p xs)) → AllByRecursion (λ y. p y ≡ true → P y) (x ∷ xs)) (p x)
    (λ is kept. ((λ passes. kept.0), passing-all P p xs kept.1)) (λ is kept. ((λ passes. absurd cc), passing-all P p xs kept)) all

module _ (c : Configuration) (kind : UnheldKind) (P : NodeEntry → Type 0) where
  -- the node is due no later than the other
  abbrev NoLater : NodeEntry → NodeEntry → Type 0
  NoLater e other = due_of c kind e.kept ≤ due_of c kind other.kept

  -- what the walk ends with, from the best so far
  record IsBest (best : NodeEntry) (rows : List NodeEntry) : Type 0 where
    row : NodeEntry
    is : fold (sooner c kind) (Some best) rows ≡ Some row
    such : P row
    least : AllByRecursion (NoLater row) (best ∷ rows)

  best-by : (best e : NodeEntry) (rows : List NodeEntry) (b : Bool) → nat_lt (due_of c kind e.kept) (due_of c kind best.kept) ≡ b → IsBest e rows → IsBest best rows → IsBest best (e ∷ rows)
  best-by best e rows true less from_row from_best =
      record { row = from_row.row; is = rw less from_row.is; such = from_row.such; least = (grind (arith, nat_tests, less, from_row.least.0), from_row.least) }
  best-by best e rows false more from_row from_best =
      record { row = from_best.row; is = rw more from_best.is; such = from_best.such; least = (from_best.least.0, (grind (arith, nat_tests, more, from_best.least.0), from_best.least.1)) }

  best-of : (best : NodeEntry) (rows : List NodeEntry) → P best → AllByRecursion P rows → IsBest best rows
  best-of best [] good all = record { row = best; is = refl; such = good; least = (omega arith, tt) }
  best-of best (e ∷ rows) good all = best-by best e rows (nat_lt (due_of c kind e.kept) (due_of c kind best.kept)) refl (best-of e rows all.0 all.1) (best-of best rows good all.1)

  -- the soonest of those that pass, if one does
  pub record IsDueFirst (p : NodeEntry → Bool) (rows : List NodeEntry) (other : NodeEntry) : Type 0 where
    pub row : NodeEntry
    pub is : soonest c kind (filter p rows) ≡ Some row
    pub such : P row
    pub no_later : NoLater row other

  first-by : (p q : NodeEntry → Bool) (rows kept : List NodeEntry) (other : NodeEntry) → filter p rows ≡ kept → AllByRecursion P kept → find q rows ≡ Some other → p other ≡ true → IsDueFirst p rows other
  first-by p q rows [] other same all there passes =
      absurd (all-find (λ (e : NodeEntry). p e ≡ true → ⊥) q rows other (passing-all (λ (e : NodeEntry). ⊥) p rows (subst (λ (xs : List NodeEntry). AllByRecursion (λ e. ⊥) xs) (sym same) tt)) there passes)
  first-by p q rows (e ∷ kept) other same all there passes =
      let best = best-of e kept all.0 all.1 in
      record {
        row = best.row;
        is = ap (λ (xs : List NodeEntry). soonest c kind xs) same ∙ best.is;
        such = best.such;
        no_later =
            all-find (λ (x : NodeEntry). p x ≡ true → NoLater best.row x) q rows other
            (passing-all (NoLater best.row) p rows (subst (λ (xs : List NodeEntry). AllByRecursion (NoLater best.row) xs) (sym same) best.least)) there passes;
      }

  pub due-first : (p q : NodeEntry → Bool) (rows : List NodeEntry) (other : NodeEntry) → AllByRecursion P (filter p rows) → find q rows ≡ Some other → p other ≡ true → IsDueFirst p rows other
  due-first p q rows other all there passes = first-by p q rows (filter p rows) other refl all there passes

-- # if a node can be cleaned up, so can the one of its kind that is due first

-- ## tests

or-cases : {P : Type 0} (t u : Bool) → (t || u) ≡ true → (t ≡ true → P) → (u ≡ true → P) → P
or-cases true u is one other = one refl
or-cases false u is one other = other is

-- ## past an age, and the tick from which on

-- what is due no later is past its age, if the other is
past-still : (age since other_age other_since tick : ℕ) → tick ≤ most → due_after other_age other_since ≤ due_after age since → is_past age since tick ≡ true → is_past other_age other_since tick ≡ true
past-still zero since other_age other_since tick low no_later past = absurd cc
past-still (suc age) since zero other_since tick low no_later past = grind (arith, nat_tests, low, no_later, past)
past-still (suc age) since (suc other_age) other_since tick low no_later past = grind (arith, nat_tests, no_later, past)

-- ## kinds

kind-self : (kind : UnheldKind) → same_kind kind kind ≡ true
kind-self kind = grind arith

kind-of : (kind : UnheldKind) (o : Option UnheldKind) → option_map_or (same_kind kind) o false ≡ true → o ≡ Some kind
kind-of kind o is = grind (arith, nat_tests)

-- the kind of a ready node
abbrev ready_kind : Option RequestId → Bool → Option UnheldKind
ready_kind request unclaimed = if unclaimed then (if is_none request then Some UnheldKind.Free else Some UnheldKind.LeftOver) else None

ready-of : (request : Option RequestId) (unclaimed go : Bool) → (is_some request ≡ false → unclaimed ≡ true) → ((is_some request && unclaimed) || (is_none request && go)) ≡ true → (kind : UnheldKind) × (ready_kind request unclaimed ≡ Some kind)
ready-of None unclaimed go free is = (UnheldKind.Free, rw (free refl) refl)
ready-of (Some r) true go free is = (UnheldKind.LeftOver, refl)
ready-of (Some r) false go free is = absurd cc

module _ (c : Configuration) (s : State) where
  -- a node that can be cleaned up is of a kind
  kind-as : (k : NodeRecord) (state : NodeState) → is_cleanable_as c s k state ≡ true → (kind : UnheldKind) × (unheld_kind_as state (is_unclaimed s k) k ≡ Some kind)
  kind-as k NodeState.Ready is = ready-of k.allocated_to (is_unclaimed s k) (is_old_ready c s k || is_paused c s k.pool) (λ none. grind (arith, nat_tests, none)) is
  kind-as k NodeState.Hold is = (UnheldKind.Hold, refl)
  kind-as k _ is = (UnheldKind.Abandoned, refl)

  -- ## whether a node of a kind can be cleaned up

  abbrev is_ripe : UnheldKind → NodeRecord → Bool
  is_ripe UnheldKind.Free k = is_old_ready c s k || is_paused c s k.pool
  is_ripe UnheldKind.LeftOver k = true
  is_ripe UnheldKind.Hold k = is_old_hold c s k
  is_ripe UnheldKind.Abandoned k = true

  ready-ripe : (k : NodeRecord) (kind : UnheldKind) (request : Option RequestId) (unclaimed : Bool) → ready_kind request unclaimed ≡ Some kind → ((is_some request && unclaimed) || (is_none request && (is_old_ready c s k || is_paused c s k.pool))) ≡ is_ripe kind k
  ready-ripe k kind None true is = let same : UnheldKind.Free ≡ kind = cc in ap (λ (x : UnheldKind). is_ripe x k) same
  ready-ripe k kind (Some r) true is = let same : UnheldKind.LeftOver ≡ kind = cc in ap (λ (x : UnheldKind). is_ripe x k) same
  ready-ripe k kind request false is = absurd cc

  ripe-as : (k : NodeRecord) (kind : UnheldKind) (state : NodeState) → unheld_kind_as state (is_unclaimed s k) k ≡ Some kind → is_cleanable_as c s k state ≡ is_ripe kind k
  ripe-as k kind NodeState.Ready is = ready-ripe k kind k.allocated_to (is_unclaimed s k) is
  ripe-as k kind NodeState.Hold is = let same : UnheldKind.Hold ≡ kind = cc in ap (λ (x : UnheldKind). is_ripe x k) same
  ripe-as k kind _ is = let same : UnheldKind.Abandoned ≡ kind = cc in ap (λ (x : UnheldKind). is_ripe x k) same

  -- one of the same pool that is due no later can be, too
  ripe-still : s.tick ≤ most → (kind : UnheldKind) (k other : NodeRecord) → due_of c kind other ≤ due_of c kind k → other.pool ≡ k.pool → is_ripe kind k ≡ true → is_ripe kind other ≡ true
  ripe-still low UnheldKind.Free k other no_later pool is =
      or-cases (is_old_ready c s k) (is_paused c s k.pool) is
      (λ old. or_left (is_old_ready c s other) (is_paused c s other.pool) (past-still (ready_age c k.label) k.since (ready_age c other.label) other.since s.tick low no_later old))
      (λ paused. or_right (is_old_ready c s other) (is_paused c s other.pool) (ap (is_paused c s) pool ∙ paused))
  ripe-still low UnheldKind.Hold k other no_later pool is = past-still c.max_hold_age k.since c.max_hold_age other.since s.tick low no_later is
  ripe-still low _ k other no_later pool is = refl

  -- ## the first of a kind

  module _ (p : PoolId) where
    -- the row of a node of the pool that nobody holds and that can be cleaned up
    pub record IsToClean (n : NodeId) (e : NodeEntry) : Type 0 where
      pub there : node_entry n s.nodes ≡ Some e
      pub free : is_unheld p e ≡ true
      pub clean : is_cleanable c s e.kept ≡ true

    -- a node of the pool that is due first among those of its kind, and can be cleaned up
    pub record IsFirstToClean : Type 0 where
      pub kind : UnheldKind
      pub row : NodeEntry
      pub is : first_due c p kind s ≡ Some row.id
      pub to_clean : IsToClean row.id row

    -- a row of the kind, found by its id
    record IsRow (kind : UnheldKind) (e : NodeEntry) : Type 0 where
      there : node_entry e.id s.nodes ≡ Some e
      passes : is_unheld_as s p kind e ≡ true

    abbrev of_kind : UnheldKind → NodeEntry → Bool
    of_kind kind e = option_map_or (same_kind kind) (unheld_kind (is_unclaimed s e.kept) e.kept) false

    pool-of : (e : NodeEntry) → is_unheld p e ≡ true → e.kept.pool ≡ p
    pool-of e free = same_pool e.kept.pool p (and_parts (e.kept.pool.0 == p.0) (is_none (holder e.queue)) free).0

    module _ (low : s.tick ≤ most) where
      row-cleans : (kind : UnheldKind) (n : NodeId) (e row : NodeEntry) → unheld_kind (is_unclaimed s e.kept) e.kept ≡ Some kind → IsToClean n e → IsRow kind row → due_of c kind row.kept ≤ due_of c kind e.kept → IsToClean row.id row
      row-cleans kind n e row kind_is to_clean is no_later =
          let parts = and_parts (is_unheld p row) (of_kind kind row) is.passes in
          let ripe : is_ripe kind e.kept ≡ true = sym (ripe-as e.kept kind e.kept.state kind_is) ∙ to_clean.clean in
          let also : unheld_kind (is_unclaimed s row.kept) row.kept ≡ Some kind = kind-of kind (unheld_kind (is_unclaimed s row.kept) row.kept) parts.1 in
          record {
            there = is.there;
            free = parts.0;
            clean = ripe-as row.kept kind row.kept.state also ∙ ripe-still low kind e.kept row.kept no_later (pool-of row parts.0 ∙ sym (pool-of e to_clean.free)) ripe;
          }

      module _ (reached : IsReached c s) where
        -- if a node is to be cleaned up, so is one that is due first
        pub first-to_clean : (n : NodeId) (e : NodeEntry) → IsToClean n e → IsFirstToClean
        first-to_clean n e to_clean =
            let of = kind-as e.kept e.kept.state to_clean.clean in
            let kind = of.0 in
            let passes : is_unheld_as s p kind e ≡ true = and_from (is_unheld p e) (of_kind kind e) to_clean.free (ap (λ (o : Option UnheldKind). option_map_or (same_kind kind) o false) of.1 ∙ kind-self kind) in
            let rows : AllByRecursion (IsRow kind) (filter (is_unheld_as s p kind) s.nodes) =
            all-filter_to (λ (x : NodeEntry). node_entry x.id s.nodes ≡ Some x) (IsRow kind) (is_unheld_as s p kind) s.nodes (λ x is there. record { there = there; passes = is }) (each-node c s reached) in
            let first = due-first c kind (IsRow kind) (is_unheld_as s p kind) (λ x. x.id.0 == n.0) s.nodes e rows to_clean.there passes in
            record {
              kind = kind;
              row = first.row;
              is = ap (option_map (λ (x : NodeEntry). x.id)) first.is;
              to_clean = row-cleans kind n e first.row of.1 to_clean first.such first.no_later;
            }

-- # a role's current session, and that the machine takes its events for the role's

module _ (s : State) (role : Role) (session : SessionId) where
  -- a session that is live and not mute, and of the role
  pub record IsOf : Type 0 where
    pub facts : SessionFacts
    pub known : session_of session s ≡ Some facts
    pub same : facts.role ≡ role
    pub live : facts.live ≡ true
    pub speaks : not facts.mute ≡ true

  pub is-of : is_current role session s ≡ true → IsOf
  is-of current =
      let who = current-speaks role s session current in
      let parts = and_parts (same_role who.facts.role role && who.facts.live) (not who.facts.mute) who.speaks in
      let first = and_parts (same_role who.facts.role role) who.facts.live parts.0 in
      record {
        facts = who.facts;
        known = rw (not-zero session.0 who.begun) who.there;
        same = same-role who.facts.role role first.0;
        live = first.1;
        speaks = parts.1;
      }

  -- the machine takes its events for the role's
  pub maker-is : is_current role session s ≡ true → maker s session ≡ Ok role
  maker-is current = let who = is-of current in rw (who.known, who.live, who.speaks, who.same) refl

-- # if a janitor may lock a node, it may lock one of those that are due first

module _ (c : Configuration) (s : State) (p : PoolId) (session : SessionId) (current : is_current (Janitor p) session s ≡ true) where
  -- ## what passes at a place is useful

  lock-maker : (o : Option NodeId) (e : Event) → option_map (λ n. Event.LockNode session n) o ≡ Some e → maker_of e ≡ Some session
  lock-maker o e is = grind (arith, is)

  lock-useful : (e : Event) → IsFirst c s (Janitor p) (length tried_kinds) (lock_due_at c s session p) e → IsUseful c s (Janitor p) e
  lock-useful e first =
      let parts = passing-is c s (Janitor p) (lock_due_at c s session p first.at) e first.there in
      passes-useful c s (Janitor p) e parts.1 (ap (is_maker_of (Janitor p) s) (lock-maker (due_at c s p first.at) e parts.0) ∙ current)

  -- ## if a lock is useful, one passes at a place

  -- one that passes is at a place
  record IsNamed : Type 0 where
    at : ℕ
    within : at < length tried_kinds
    id : NodeId
    there : due_at c s p at ≡ Some id
    passes : passes c s (Janitor p) (Event.LockNode session id) ≡ true

  -- the place of each kind
  place-of : (kind : UnheldKind) → StandsIn kind tried_kinds
  place-of UnheldKind.Abandoned = record { at = 0; within = omega arith; there = refl }
  place-of UnheldKind.LeftOver = record { at = 1; within = omega arith; there = refl }
  place-of UnheldKind.Hold = record { at = 2; within = omega arith; there = refl }
  place-of UnheldKind.Free = record { at = 3; within = omega arith; there = refl }

  -- the row that a useful lock names
  row-by : (n : NodeId) (o : Option NodeEntry) → node_entry n s.nodes ≡ o →
      (option_map_or (λ (k : NodeRecord). is_node_of p k && is_cleanable c s k) (option_map (λ (e : NodeEntry). e.kept) o) false && is_none (holder (option_map_or (λ (e : NodeEntry). e.queue) o []))) ≡ true → (e : NodeEntry) × IsToClean c s p n e
  row-by n None there is = absurd cc
  row-by n (Some e) there is =
      let parts = and_parts (is_node_of p e.kept && is_cleanable c s e.kept) (is_none (holder e.queue)) is in
      let own = and_parts (is_node_of p e.kept) (is_cleanable c s e.kept) parts.0 in
      (e, record { there = there; free = and_from (is_node_of p e.kept) (is_none (holder e.queue)) own.0 parts.1; clean = own.1 })

  -- a lock of such a row passes
  lock-passes : (n : NodeId) (e : NodeEntry) → IsToClean c s p n e → passes c s (Janitor p) (Event.LockNode session n) ≡ true
  lock-passes n e is =
      let parts = and_parts (is_node_of p e.kept) (is_none (holder e.queue)) is.free in
      rw (maker-is s (Janitor p) session current, is.there, parts.0, is.clean, parts.1) refl

  module _ (reached : IsReached c s) (low : s.tick ≤ most) where
    lock-named : (n : NodeId) → IsUseful c s (Janitor p) (Event.LockNode session n) → IsNamed
    lock-named n useful =
        let row = row-by n (node_entry n s.nodes) refl useful.row in
        let first = first-to_clean c s p low reached n row.0 row.1 in
        let place = place-of first.kind in
        record {
          at = place.at;
          within = place.within;
          id = first.row.id;
          there = ap (λ (o : Option UnheldKind). option_and_then (λ kind. first_due c p kind s) o) place.there ∙ first.is;
          passes = lock-passes first.row.id first.row first.to_clean;
        }

    none-useful : ((at : ℕ) → at < length tried_kinds → passing c s (Janitor p) (lock_due_at c s session p at) ≡ None) → (other : SessionId) (n : NodeId) → IsUseful c s (Janitor p) (Event.LockNode other n) → ⊥
    none-useful none other n useful =
        let same : other ≡ session = made-by c s (Janitor p) session current other (Event.LockNode other n) refl useful in
        let found = lock-named n (subst (λ (x : SessionId). IsUseful c s (Janitor p) (Event.LockNode x n)) same useful) in
        passing-none c s (Janitor p) (lock_due_at c s session p found.at) (Event.LockNode session found.id) (ap (option_map (λ n. Event.LockNode session n)) found.there) found.passes (none found.at found.within)

    pub due-choose : (o : Option Event) → IsFirstThatPasses c s (Janitor p) (length tried_kinds) (lock_due_at c s session p) o → ChoosesOf c s (Janitor p) (EventKind.Node NodeKind.Lock) o
    due-choose None none = none-useful none
    due-choose (Some e) first = lock-useful e first
