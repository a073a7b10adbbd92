-- what a look at the rows of a state finds is what the definitions say, by walks over the rows
use Rattle.np_look.proofs.Prelude.{Amount, Bool, Configuration, Fits, IsFew, JobId, JobRecord, LabelId, Limit, List, NodeEntry, NodeFits, NodeId, None, Option, PoolId, RequestEntry, RequestRecord, RequestView, Role, SessionFacts, SessionId, Some, State, TenantId, UnheldKind, ahead_of, all-find, amount_of_all, ap, arith, blocking, by_bool, comes_first, cond, count_by, count_of, count_of_tenant, drop, drop-past, drop-there, earlier, false, filter, filter-append, find, fits, fold, fold-append, get_or, get_or_from_slice_get, has_limit, held_by, holder, if◌then◌else◌, is_candidate, is_none, is_open_to, is_pending_by, is_session, is_short, is_short_of, is_some, is_sooner, is_spare, is_stuck, is_unclaimed, is_unheld_as, is_unheld_by, is_unheld_pending, jobs_from, least, length, length-filter, length-map, limit_of_tenant, limited_tenant, list_all, list_any, map, map-append, may_fit, most, mute_from, nat_lt, nat_tests, next_label, node_entry, node_queue, node_seen, node_view, not, nothing, nothing-plus, option_and_then, option_map, option_map_or, plus, plus-comm, position, position_or_len, position_or_len_is, refl, request_seen, request_view, session_of, short_label, slice_get, slice_get-map, slice_get_past, slice_get_within, sooner, speaker_from, speaks_for, suc, sum_by-cons, sym, take, take_more, tenant_of_request, total, total-append, true, zero, ℕ, [], ◌&&◌, ◌++◌, ◌+◌, ◌-◌, ◌<◌, ◌==◌, ◌||◌, ◌∙◌, ◌∷◌, ◌≡◌, ◌≤◌}

-- # a list from a place on, and up to a place

-- what is there, and the rest
pub step : {X : Type 0} (xs : List X) (i : ℕ) → drop i xs ≡ option_map_or (λ x. x ∷ drop (i + 1) xs) (slice_get xs i) []
step [] zero = refl
step [] (suc i) = refl
step (x ∷ xs) zero = refl
step (x ∷ xs) (suc i) = grind (arith, step xs i)

-- what a walk over rows wants
pub ruleset walks = (step, slice_get_past, nat_tests)

-- what is seen of an option is seen of what it has
there : {X Y : Type 0} (f : X → Y) (o : Option X) (y : Y) → option_map f o ≡ Some y → (x : X) × (o ≡ Some x) × (f x ≡ y)
there f None y is = absurd cc
there f (Some x) y is = (x, refl, cc)

pub shown : {X Y I : Type 0} (f : X → Y) (id : Y → I) (o : Option X) (y : Y) → option_map f o ≡ Some y → option_map (λ x. id (f x)) o ≡ Some (id y)
shown f id o y is = let x = there f o y is in rw (x.1, x.2) refl

-- ## from a place on, by what is seen there

module _ {X Y : Type 0} (p : Y → Bool) (f : X → Y) (q : X → Bool) (same : (x : X) → q x ≡ p (f x)) where
  any_here : (xs : List X) (i : ℕ) (y : Y) → option_map f (slice_get xs i) ≡ Some y → list_any q (drop i xs) ≡ (p y || list_any q (drop (suc i) xs))
  any_here xs i y is = let x = there f (slice_get xs i) y is in rw (drop-there xs i x.0 x.1, same x.0, x.2) refl

  pub any_found : (xs : List X) (i : ℕ) (y : Y) → option_map f (slice_get xs i) ≡ Some y → p y ≡ true → list_any q (drop i xs) ≡ true
  any_found xs i y is passes = any_here xs i y is ∙ rw passes refl

  pub any_later : (xs : List X) (i : ℕ) (y : Y) → option_map f (slice_get xs i) ≡ Some y → p y ≡ false → list_any q (drop i xs) ≡ list_any q (drop (suc i) xs)
  any_later xs i y is fails = any_here xs i y is ∙ rw fails refl

  pub count_here : (xs : List X) (i : ℕ) (y : Y) → option_map f (slice_get xs i) ≡ Some y → count_by q (drop i xs) ≡ cond (p y) 1 0 + count_by q (drop (suc i) xs)
  count_here xs i y is = let x = there f (slice_get xs i) y is in rw (drop-there xs i x.0 x.1) (sum_by-cons (λ z. cond (q z) 1 0) x.0 (drop (suc i) xs) ∙ rw (same x.0, x.2) refl)

  -- the first that passes is here, or later
  pub found_here : {I : Type 0} (id : Y → I) (xs : List X) (i : ℕ) (y : Y) → option_map f (slice_get xs i) ≡ Some y → p y ≡ true → option_map (λ x. id (f x)) (find q (drop i xs)) ≡ Some (id y)
  found_here id xs i y is passes = let x = there f (slice_get xs i) y is in rw (drop-there xs i x.0 x.1, same x.0, x.2, passes) (ap (λ (z : Y). Some (id z)) x.2)

  pub found_later : (xs : List X) (i : ℕ) (y : Y) → option_map f (slice_get xs i) ≡ Some y → p y ≡ false → find q (drop i xs) ≡ find q (drop (suc i) xs)
  found_later xs i y is fails = let x = there f (slice_get xs i) y is in rw (drop-there xs i x.0 x.1, same x.0, x.2, fails) refl

  -- the ones that pass, by their place among them
  pub passed_here : (xs : List X) (i : ℕ) (y : Y) → option_map f (slice_get xs i) ≡ Some y → p y ≡ true → option_map f (slice_get (filter q (drop i xs)) 0) ≡ Some y
  passed_here xs i y is passes = let x = there f (slice_get xs i) y is in rw (drop-there xs i x.0 x.1, same x.0, x.2, passes) (ap Some x.2)

  pub passed_later : (xs : List X) (i : ℕ) (y : Y) (left : ℕ) → option_map f (slice_get xs i) ≡ Some y → p y ≡ true → (left ≡ 0 → ⊥) → slice_get (filter q (drop i xs)) left ≡ slice_get (filter q (drop (suc i) xs)) (left - 1)
  passed_later xs i y zero is passes some = absurd (some refl)
  passed_later xs i y (suc left) is passes some =
      let x = there f (slice_get xs i) y is in
      let minus : suc left - 1 ≡ left = omega arith in
      rw (drop-there xs i x.0 x.1, same x.0, x.2, passes, minus) refl

  pub passed_over : (xs : List X) (i : ℕ) (y : Y) (left : ℕ) → option_map f (slice_get xs i) ≡ Some y → p y ≡ false → slice_get (filter q (drop i xs)) left ≡ slice_get (filter q (drop (suc i) xs)) left
  passed_over xs i y left is fails = let x = there f (slice_get xs i) y is in rw (drop-there xs i x.0 x.1, same x.0, x.2, fails) refl

pub any_past : {X : Type 0} (p : X → Bool) (xs : List X) (i : ℕ) → slice_get xs i ≡ None → list_any p (drop i xs) ≡ false
any_past p xs i is = rw (drop-past xs i is) refl

pub all_here : {X : Type 0} (p : X → Bool) (xs : List X) (i : ℕ) (x : X) → slice_get xs i ≡ Some x → list_all p (drop i xs) ≡ (p x && list_all p (drop (suc i) xs))
all_here p xs i x is = rw (drop-there xs i x is) refl

-- ## up to a place

pub take_there : {X : Type 0} (xs : List X) (i : ℕ) (x : X) → slice_get xs i ≡ Some x → take (i + 1) xs ≡ take i xs ++ x ∷ []
take_there xs i x is = take_more xs i x (slice_get_within xs i x is) ∙ ap (λ y. take i xs ++ y ∷ []) (get_or_from_slice_get xs i x x is)

-- what is seen as it is
pub as_it_is : {X : Type 0} (o : Option X) (x : X) → o ≡ Some x → option_map (λ (y : X). y) o ≡ Some x
as_it_is o x is = rw is refl

-- before the end there is one
pub none_there : {X Y : Type 0} (f : X → Y) (xs : List X) (i : ℕ) → i < length xs → option_map f (slice_get xs i) ≡ None → ⊥
none_there f [] i within is = omega arith
none_there f (x ∷ xs) zero within is = cc
none_there f (x ∷ xs) (suc i) within is = none_there f xs i (omega arith) is

-- ## the ones that pass, by their place among them

pub passed_past : {X : Type 0} (q : X → Bool) (xs : List X) (i left : ℕ) → slice_get xs i ≡ None → slice_get (filter q (drop i xs)) left ≡ None
passed_past q xs i left is = rw (drop-past xs i is) refl

-- at the end all that pass are counted
pub counted : {X I : Type 0} (q : X → Bool) (id : X → I) (xs : List X) (i count : ℕ) → length xs ≤ i → count + count_by q (drop i xs) ≡ count_by q xs → count ≡ length (map id (filter q xs))
counted q id xs i count past all =
    let none : count_by q (drop i xs) ≡ 0 = rw (drop-past xs i (slice_get_past xs i past)) refl in
    let every : count ≡ count_by q xs = omega (arith, none, all) in
    every ∙ sym (length-map (filter q xs) id ∙ length-filter q xs)

-- the one sought is what the view shows
pub listed_here : {X Y I : Type 0} (p : Y → Bool) (f : X → Y) (q : X → Bool) → ((x : X) → q x ≡ p (f x)) → (id : Y → I) (xs : List X) (i left at : ℕ) (y : Y) → option_map f (slice_get xs i) ≡ Some y → p y ≡ true → left ≡ 0 → slice_get (filter q (drop i xs)) left ≡ slice_get (filter q xs) at → Some (id y) ≡ slice_get (map (λ x. id (f x)) (filter q xs)) at
listed_here p f q same id xs i left at y is passes last kept =
    sym (slice_get-map (λ x. id (f x)) (filter q xs) at ∙ shown f id _ y (ap (option_map f) (sym kept ∙ ap (slice_get (filter q (drop i xs))) last) ∙ passed_here p f q same xs i y is passes))

-- past the end there is none
pub listed_past : {X I : Type 0} (q : X → Bool) (id : X → I) (xs : List X) (i left at : ℕ) → length xs ≤ i → slice_get (filter q (drop i xs)) left ≡ slice_get (filter q xs) at → None ≡ slice_get (map id (filter q xs)) at
listed_past q id xs i left at past kept =
    sym (slice_get-map id (filter q xs) at ∙ ap (option_map id) (sym kept ∙ passed_past q xs i left (slice_get_past xs i past)))

-- # who blocks a request: a tenant without a limit blocks nothing

fits_all : (a : Amount) (limit : Limit) → has_limit limit ≡ false → not (fits a limit) ≡ false
fits_all a limit is = grind arith

by_tenant : (short limited : TenantId → Bool) (bare fit : Bool) (o : Option TenantId) → ((t : TenantId) → limited t ≡ false → short t ≡ false)
    → (if bare && fit then option_and_then (λ x. if short x then Some x else None) o else None) ≡ option_and_then (λ x. if short x then Some x else None) (option_and_then (λ t. if bare && limited t && fit then Some t else None) o)
by_tenant short limited bare fit None free = grind arith
by_tenant short limited bare fit (Some t) free = grind (arith, free t)

-- what blocks the request is its limited tenant, if that is short of room
blocking-limited : (c : Configuration) (s : State) (p : PoolId) (request : RequestRecord) → blocking c s p request ≡ option_and_then (λ t. if is_short_of c s p request t then Some t else None) (limited_tenant c p request)
blocking-limited c s p request =
    by_tenant (is_short_of c s p request) (λ t. has_limit (limit_of_tenant c t)) (is_none request.pinned) (may_fit c p request) (tenant_of_request c request)
    (λ t is. fits_all _ (limit_of_tenant c t) is)

module _ (c : Configuration) (s : State) (p : PoolId) (request : RequestRecord) (t : TenantId) (used : Amount) (limited : Some t ≡ limited_tenant c p request) (all : used ≡ count_of_tenant c s t) where
  by_room : (b : Bool) → not (fits (plus used (amount_of_all c p request.labels)) (limit_of_tenant c t)) ≡ b → (if b then Some t else None) ≡ blocking c s p request
  by_room b is =
      let short : is_short_of c s p request t ≡ b = ap (λ (a : Amount). not (fits (plus a (amount_of_all c p request.labels)) (limit_of_tenant c t))) (sym all) ∙ is in
      sym (blocking-limited c s p request ∙ ap (λ (o : Option TenantId). option_and_then (λ x. if is_short_of c s p request x then Some x else None) o) (sym limited) ∙ ap (λ (b : Bool). if b then Some t else None) short)

  pub blocks : not (fits (plus used (amount_of_all c p request.labels)) (limit_of_tenant c t)) ≡ true → Some t ≡ blocking c s p request
  blocks is = by_room true is

  pub has_room : not (fits (plus used (amount_of_all c p request.labels)) (limit_of_tenant c t)) ≡ false → None ≡ blocking c s p request
  has_room is = by_room false is

-- # the best of the rows that pass, by a walk

module _ {X Y : Type 0} (better : Option X → X → Option X) (q : X → Bool) (seen : X → Y) (passes : Y → Bool) (comes : Option Y → Y → Bool)
    (same : (e : X) → q e ≡ passes (seen e)) (takes : (o : Option X) (e : X) → option_map seen (better o e) ≡ (if comes (option_map seen o) (seen e) then Some (seen e) else option_map seen o)) where
  -- the best of the rows, as it is seen
  abbrev best_of : List X → Option Y
  best_of rows = option_map seen (fold better None (filter q rows))

  one_more : (rows : List X) (e : X) → best_of (rows ++ e ∷ []) ≡ (if passes (seen e) && comes (best_of rows) (seen e) then Some (seen e) else best_of rows)
  one_more rows e =
      ap (λ (kept : List X). option_map seen (fold better None kept)) (filter-append q rows (e ∷ []))
      ∙ ap (λ (b : Bool). option_map seen (fold better None (filter q rows ++ cond b (e ∷ []) []))) (same e)
      ∙ by_bool (λ (b : Bool). option_map seen (fold better None (filter q rows ++ cond b (e ∷ []) [])) ≡ (if b && comes (best_of rows) (seen e) then Some (seen e) else best_of rows)) (passes (seen e))
      (λ _. ap (option_map seen) (fold-append better None (filter q rows) (e ∷ [])) ∙ takes (fold better None (filter q rows)) e)
      (λ _. ap (option_map seen) (fold-append better None (filter q rows) []))

  -- the one at this place takes the place of the best so far, or changes nothing
  pub best_at : (rows : List X) (i : ℕ) (y : Y) (best : Option Y) → option_map seen (slice_get rows i) ≡ Some y → best ≡ best_of (take i rows) → (b : Bool) → (passes y && comes best y) ≡ b
      → (if b then Some y else best) ≡ best_of (take (i + 1) rows)
  best_at rows i y best is so_far b test =
      let e = there seen (slice_get rows i) y is in
      rw (take_there rows i e.0 e.1, one_more (take i rows) e.0, e.2, ← so_far, test) refl

-- what is held by whom, as a view shows it
held : (queue : List SessionId) → holder (held_by (holder queue)) ≡ holder queue
held [] = refl
held (session ∷ queue) = refl

-- ## the node that nobody holds and that is due first

pub sooner-seen : (c : Configuration) (kind : UnheldKind) (o : Option NodeEntry) (e : NodeEntry) → option_map node_view (sooner c kind o e) ≡ (if is_sooner c kind (option_map node_view o) (node_view e) then Some (node_view e) else option_map node_view o)
sooner-seen c kind None e = refl
sooner-seen c kind (Some best) e = grind arith

pub unheld-seen : (s : State) (p : PoolId) (kind : UnheldKind) (e : NodeEntry) → is_unheld_as s p kind e ≡ is_unheld_by p kind (is_unclaimed s e.kept) (node_seen (node_view e))
unheld-seen s p kind e = rw (held e.queue) refl

-- ## the first candidate

earlier-seen : (o : Option RequestEntry) (e : RequestEntry) → option_map request_view (earlier o e) ≡ (if comes_first (option_map request_view o) (request_view e) then Some (request_view e) else option_map request_view o)
earlier-seen None e = refl
earlier-seen (Some best) e = grind arith

candidate-seen : (c : Configuration) (s : State) (p : PoolId) (e : RequestEntry) → is_candidate c s p e ≡ (is_open_to p (request_seen (request_view e)) && is_none (blocking c s p e.kept))
candidate-seen c s p e = rw (held e.queue) refl

-- a request takes the place of the best so far if it is open and comes before it, and its tenant has room
by_tests : (is_open is_first : Bool) (o : Option TenantId) (a b : Bool) → (is_open && is_first) ≡ a → is_some o ≡ b → ((is_open && is_none o) && is_first) ≡ (a && not b)
by_tests is_open is_first o a b first room = grind arith

pub candidate_at : (c : Configuration) (s : State) (p : PoolId) (rows : List RequestEntry) (i : ℕ) (v : RequestView) (best : Option RequestView) → option_map request_view (slice_get rows i) ≡ Some v → best ≡ option_map request_view (least (filter (is_candidate c s p) (take i rows)))
    → (o : Option TenantId) → o ≡ blocking c s p v.kept → (a b : Bool) → (is_open_to p (request_seen v) && comes_first best v) ≡ a → is_some o ≡ b
    → (if a && not b then Some v else best) ≡ option_map request_view (least (filter (is_candidate c s p) (take (i + 1) rows)))
candidate_at c s p rows i v best is so_far o blocked a b first room =
    best_at earlier (is_candidate c s p) request_view (λ w. is_open_to p (request_seen w) && is_none (blocking c s p w.kept)) comes_first (candidate-seen c s p) earlier-seen rows i v best is so_far (a && not b)
    (by_tests (is_open_to p (request_seen v)) (comes_first best v) (blocking c s p v.kept) a b first (ap (λ (x : Option TenantId). is_some x) (sym blocked) ∙ room))

-- # the owner of a node, by its place among the jobs

-- ## the place of the first that passes, one member more

pub position-here : {X : Type 0} (p : X → Bool) (x : X) (xs : List X) → p x ≡ true → position p (x ∷ xs) ≡ Some 0
position-here p x xs is = rw is (grind (arith, nat_tests))

pub position-later : {X : Type 0} (p : X → Bool) (x : X) (xs : List X) → p x ≡ false → position p (x ∷ xs) ≡ option_map (λ (i : ℕ). suc i) (position p xs)
position-later p x xs is = rw is (grind (arith, nat_tests))

pub position-at : {X : Type 0} (p : X → Bool) (xs : List X) (i : ℕ) (d : X) → i < length xs → ((k : ℕ) → k < i → p (get_or xs k d) ≡ false) → p (get_or xs i d) ≡ true → position p xs ≡ Some i
position-at p xs i d within before here =
    let at : position_or_len p xs ≡ i = position_or_len_is p xs i d (omega arith) before (λ _. here) in
    let test : nat_lt i (length xs) ≡ true = grind (arith, nat_tests) in
    rw (at, test) refl

pub position-nowhere : {X : Type 0} (p : X → Bool) (xs : List X) (d : X) → ((k : ℕ) → k < length xs → p (get_or xs k d) ≡ false) → position p xs ≡ None
position-nowhere p xs d before =
    let at : position_or_len p xs ≡ length xs = position_or_len_is p xs (length xs) d (omega arith) before (λ past. absurd (omega arith)) in
    let test : nat_lt (length xs) (length xs) ≡ false = grind (arith, nat_tests) in
    rw (at, test) refl

-- # the jobs that pass, from a place on

module _ (passes : JobId → JobRecord → Bool) (jobs : List JobRecord) (i : ℕ) (kept : JobRecord) (is : slice_get jobs i ≡ Some kept) where
  pub job-later : (left : ℕ) → passes (record { 0 = i }) kept ≡ true → (left ≡ 0 → ⊥) → slice_get (jobs_from passes i (drop i jobs)) left ≡ slice_get (jobs_from passes (suc i) (drop (suc i) jobs)) (left - 1)
  job-later zero in-it some = absurd (some refl)
  job-later (suc left) in-it some = let minus : suc left - 1 ≡ left = omega arith in rw (drop-there jobs i kept is, in-it, minus) refl

  pub job-over : (left : ℕ) → passes (record { 0 = i }) kept ≡ false → slice_get (jobs_from passes i (drop i jobs)) left ≡ slice_get (jobs_from passes (suc i) (drop (suc i) jobs)) left
  job-over left out-of-it = rw (drop-there jobs i kept is, out-of-it) refl

-- # rows as their views show them

pub spare-seen : (p : PoolId) (l : LabelId) (e : NodeEntry) → is_spare p l e ≡ is_spare p l (node_seen (node_view e))
spare-seen p l e = rw (held e.queue) refl

pub unheld-pending-seen : (p : PoolId) (e : RequestEntry) → is_unheld_pending p e ≡ is_unheld_pending p (request_seen (request_view e))
unheld-pending-seen p e = rw (held e.queue) refl

-- ## a request that waits for room

stuck_by : (other short : LabelId → Bool) (b : Bool) (o : Option LabelId) → (b && option_map_or (λ l. short l && other l) o false) ≡ option_map_or other (if b then option_and_then (λ l. if short l then Some l else None) o else None) false
stuck_by other short b o = grind arith

stuck-short : (c : Configuration) (s : State) (p : PoolId) (e : RequestEntry) → is_stuck c s p e ≡ option_map_or (λ l. is_some e.kept.pinned || not (list_any (is_spare p l) s.nodes)) (short_label c p (count_of c s p) e.kept) false
stuck-short c s p e = stuck_by (λ l. is_some e.kept.pinned || not (list_any (is_spare p l) s.nodes)) (is_short c s p) (is_pending_by p e.kept) (next_label e.kept)

pub stuck_at : (c : Configuration) (s : State) (p : PoolId) (v : RequestView) (used : Amount) → used ≡ count_of c s p → (o : Option LabelId) → o ≡ short_label c p used v.kept
    → is_stuck c s p (request_seen v) ≡ option_map_or (λ l. is_some v.kept.pinned || not (list_any (is_spare p l) s.nodes)) o false
stuck_at c s p v used all o is = stuck-short c s p (request_seen v) ∙ ap (λ (x : Option LabelId). option_map_or (λ l. is_some v.kept.pinned || not (list_any (is_spare p l) s.nodes)) x false) (ap (λ (a : Amount). short_label c p a v.kept) (sym all) ∙ sym is)

-- ## sessions and queues

pub is-session : (a b : SessionId) → a.0 ≡ b.0 → is_session a b ≡ true
is-session a b same = grind (arith, nat_tests)

pub not-session : (a b : SessionId) → (a.0 ≡ b.0 → ⊥) → is_session a b ≡ false
not-session a b other = grind (arith, nat_tests)

pub session-there : (s : State) (at : ℕ) (facts : SessionFacts) → session_of (record { 0 = at + 1 }) s ≡ Some facts → slice_get s.sessions at ≡ Some facts
session-there s at facts is = grind (arith, nat_tests)

pub session-at : (s : State) (n : ℕ) (facts : SessionFacts) → session_of (record { 0 = n }) s ≡ Some facts → slice_get s.sessions (n - 1) ≡ Some facts
session-at s n facts is = grind (arith, nat_tests)

queue_by : (s : State) (o : Option NodeEntry) → ((e : NodeEntry) → o ≡ Some e → NodeFits s e) → length (option_map_or (λ (e : NodeEntry). e.queue) o []) ≤ most
queue_by s None fits = omega arith
queue_by s (Some e) fits = (fits e refl).queue

pub queue-fits : (c : Configuration) (s : State) (n : NodeId) → Fits c s → length (node_queue n s.nodes) ≤ most
queue-fits c s n fits = queue_by s (node_entry n s.nodes) (λ e is. all-find (NodeFits s) (λ other. other.id.0 == n.0) s.nodes e fits.each_node is)

pub ahead-here : (session : SessionId) (queue : List SessionId) (i : ℕ) (other : SessionId) → slice_get queue i ≡ Some other → ahead_of session (drop i queue) ≡ (if is_session other session then 0 else suc (ahead_of session (drop (suc i) queue)))
ahead-here session queue i other is = rw (drop-there queue i other is) refl

pub ahead-past : (session : SessionId) (queue : List SessionId) (i : ℕ) → slice_get queue i ≡ None → ahead_of session (drop i queue) ≡ 0
ahead-past session queue i is = rw (drop-past queue i is) refl

-- # the last session that speaks for a role, by a walk from the newest, and the first that is mute

-- what is found from a place on is found in all
pub speaker-beyond : (role : Role) (sessions : List SessionFacts) (number i : ℕ) (x : SessionId) → speaker_from role (i + number) (drop i sessions) ≡ Some x → speaker_from role number sessions ≡ Some x
speaker-beyond role sessions number zero x is =
    let first : number ≡ 0 + number = omega arith in
    ap (λ (n : ℕ). speaker_from role n sessions) first ∙ is
speaker-beyond role [] number (suc i) x is = absurd cc
speaker-beyond role (facts ∷ sessions) number (suc i) x is =
    let next : i + suc number ≡ suc i + number = omega arith in
    let later : speaker_from role (suc number) sessions ≡ Some x = speaker-beyond role sessions (suc number) i x (ap (λ (n : ℕ). speaker_from role n (drop i sessions)) next ∙ is) in
    rw later refl

module _ (role : Role) (sessions : List SessionFacts) where
  speaker_at : (i : ℕ) (facts : SessionFacts) (b : Bool) → slice_get sessions (suc i - 1) ≡ Some facts → speaks_for role facts ≡ b → speaker_from role (suc (suc i)) (drop (suc i) sessions) ≡ None
      → speaker_from role (suc i) (drop i sessions) ≡ (if b then Some (record { 0 = suc i }) else None)
  speaker_at i facts b is speaks none =
      let at : suc i - 1 ≡ i = omega arith in
      rw (drop-there sessions i facts (ap (λ (n : ℕ). slice_get sessions n) (sym at) ∙ is), none, speaks) refl

  pub speaker-here : (left : ℕ) (facts : SessionFacts) → 0 < left → slice_get sessions (left - 1) ≡ Some facts → speaks_for role facts ≡ true → speaker_from role (suc left) (drop left sessions) ≡ None → speaker_from role 1 sessions ≡ Some (record { 0 = left })
  speaker-here zero facts some is speaks none = absurd (omega (arith, some))
  speaker-here (suc i) facts some is speaks none =
      let number : i + 1 ≡ suc i = omega arith in
      speaker-beyond role sessions 1 i (record { 0 = suc i }) (ap (λ (n : ℕ). speaker_from role n (drop i sessions)) number ∙ speaker_at i facts true is speaks none)

  pub speaker-not : (left : ℕ) (facts : SessionFacts) → 0 < left → slice_get sessions (left - 1) ≡ Some facts → speaks_for role facts ≡ false → speaker_from role (suc left) (drop left sessions) ≡ None → speaker_from role (suc (left - 1)) (drop (left - 1) sessions) ≡ None
  speaker-not zero facts some is fails none = absurd (omega (arith, some))
  speaker-not (suc i) facts some is fails none =
      let at : suc i - 1 ≡ i = omega arith in
      ap (λ (n : ℕ). speaker_from role (suc n) (drop n sessions)) at ∙ speaker_at i facts false is fails none

-- ## the first that is mute

module _ (sessions : List SessionFacts) (i : ℕ) (facts : SessionFacts) (is : slice_get sessions i ≡ Some facts) where
  pub mute-here : (facts.live && facts.mute) ≡ true → mute_from (suc i) (drop i sessions) ≡ Some (record { 0 = suc i })
  mute-here mute = rw (drop-there sessions i facts is, mute) refl

  pub mute-later : (facts.live && facts.mute) ≡ false → mute_from (suc i) (drop i sessions) ≡ mute_from (suc (suc i)) (drop (suc i) sessions)
  mute-later other = rw (drop-there sessions i facts is, other) refl

-- # what the members that pass a test take together, one member more

plus-nothing : (a : Amount) → plus a nothing ≡ a
plus-nothing a = plus-comm a nothing ∙ nothing-plus a

module _ {X Y : Type 0} (f : X → Amount) (test : X → Bool) (seen : X → Y) (takes : Y → Amount) (same : (x : X) → takes (seen x) ≡ (if test x then f x else nothing)) where
  alone : (x : X) → total (map f (filter test (x ∷ []))) ≡ takes (seen x)
  alone x = rw (same x) (by_bool (λ (b : Bool). total (map f (cond b (x ∷ []) [])) ≡ cond b (f x) nothing) (test x) (λ _. plus-nothing (f x)) (λ _. refl))

  pushed : (xs : List X) (x : X) → total (map f (filter test (xs ++ x ∷ []))) ≡ plus (total (map f (filter test xs))) (takes (seen x))
  pushed xs x =
      ap (λ (ys : List X). total (map f ys)) (filter-append test xs (x ∷ []))
      ∙ ap total (map-append f (filter test xs) (filter test (x ∷ [])))
      ∙ total-append (map f (filter test xs)) (map f (filter test (x ∷ [])))
      ∙ ap (plus (total (map f (filter test xs)))) (alone x)

  pub total_seen : (xs : List X) (i : ℕ) (y : Y) → option_map seen (slice_get xs i) ≡ Some y → total (map f (filter test (take (i + 1) xs))) ≡ plus (total (map f (filter test (take i xs)))) (takes y)
  total_seen xs i y is = let x = there seen (slice_get xs i) y is in rw (← x.2, take_there xs i x.0 x.1) (pushed (take i xs) x.0)

-- the bounds of two amounts add up
pub few-plus : (a b : Amount) (m n k : ℕ) → k ≡ m + n → IsFew a m → IsFew b n → IsFew (plus a b) k
few-plus a b m n k both one two = record {
  instances = omega (arith, both, one.instances, two.instances);
  cores = omega (arith, both, one.cores, two.cores);
  ram = omega (arith, both, one.ram, two.ram);
}
