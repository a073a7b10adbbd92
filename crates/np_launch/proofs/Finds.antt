-- what is found and counted in lists: the first spare node, the request that lists a node, and a request in hand
use Rattle.np_launch.proofs.Prelude.{AllByRecursion, Bool, Configuration, Done, Err, Invariant, IsReached, IsServed, LabelId, List, NodeEntry, NodeId, NodeRecord, None, Ok, Option, PoolId, Refusal, RequestEntry, RequestId, RequestRecord, RequestState, Result, Rises, SessionId, Some, StandsIn, State, [], all-at, all-from_at, and_parts, any-place, ap, arith, both_true, both_ways, by_bool, cond, count_by, false, filter, find, find-none, find-place, first_free, first_takable, free_ready_of, from-map_some, has_failed_node, holder, holder-queued, if◌then◌else◌, invariant-Runs, is_declined_by, is_id_before, is_in_hand, is_in_hand_at, is_kind, is_listed, is_none, is_ok, is_pending, is_pending_by, is_pool, is_queued, is_ready, is_request, is_requested, is_session_of, is_some, is_spare, is_takable, is_to_launch, is_wanted_by, launcher, launcher-heard, length, list_any, list_any-there, map, map-some, may_take_ready, member-there, nat_lt, nat_tests, need, next_label, node-apart, node-itself, node-place, node_entry, node_in, node_is, none-find, not, option_and_then, option_and_then_some, option_map, option_map_or, pool_of, pool_of_role, queued_requests, refl, registered, request-apart, request-equal, request-itself, request_entry, request_holder, request_in, same_request, served_request, slice_get, slice_get_within, some-unless, suc, sum_by-cons, sym, true, true≢false, vacant, wrong_node, wrong_request, zero, ℕ, ◌&&◌, ◌+◌, ◌<◌, ◌==◌, ◌>>◌, ◌||◌, ◌∙◌, ◌∷◌, ◌≡◌}

-- # what an option has

-- what passes is there
pub such-one : {X : Type 0} (such : X → Bool) (o : Option X) → option_map_or such o false ≡ true → (x : X) × ((o ≡ Some x) × (such x ≡ true))
such-one such None is = absurd cc
such-one such (Some x) is = (x, (refl, is))

if-some : {X : Type 0} (b : Bool) (x y : X) → (if b then Some x else None) ≡ Some y → (b ≡ true) × (x ≡ y)
if-some true x y is = (refl, cc)
if-some false x y is = absurd cc

-- # the first member that passes a test

-- some member passes if there is a first one
pub any-find : {X : Type 0} (q : X → Bool) (xs : List X) → list_any q xs ≡ is_some (find q xs)
any-find q [] = refl
any-find q (x ∷ xs) = by_bool (λ b. (b || list_any q xs) ≡ is_some (cond b (Some x) (find q xs))) (q x) (λ is. refl) (λ is. any-find q xs)

-- there is a first one if a member passes
pub find-some : {X : Type 0} (q : X → Bool) (xs : List X) (i : ℕ) (x : X) → slice_get xs i ≡ Some x → q x ≡ true → (y : X) × (find q xs ≡ Some y)
find-some q xs i x there passes = some-unless (find q xs) (λ none. true≢false (sym passes ∙ all-at (λ y. q y ≡ false) xs i x (none-find q xs none) there))

-- by names: one of the members that are kept passes if some member does, as each that passes is kept
pub any-named : {X I : Type 0} (name : X → I) (keep q : X → Bool) (t : I → Bool) (xs : List X) → AllByRecursion (λ x. keep x ≡ true → t (name x) ≡ q x) xs → ((x : X) → q x ≡ true → keep x ≡ true) → list_any t (map name (filter keep xs)) ≡ list_any q xs
any-named name keep q t [] all kept = refl
any-named name keep q t (x ∷ xs) all kept = grind (arith, all.0, kept x, any-named name keep q t xs all.1 kept)

-- ## by an order

-- in an order, the member at a place is the one that is found, if no earlier one passes
pub find-there : {X : Type 0} (before : X → X → Bool) (p : X → Bool) (xs : List X) (i : ℕ) (x : X) → Rises before xs → slice_get xs i ≡ Some x → ((y : X) → before y x ≡ true → p y ≡ false) → p x ≡ true → find p xs ≡ Some x
find-there before p [] i x rise there earlier passes = absurd cc
find-there before p (y ∷ xs) zero x rise there earlier passes = let same : y ≡ x = cc in rw (ap p same, passes) (ap Some same)
find-there before p (y ∷ xs) (suc i) x rise there earlier passes =
    let fails : p y ≡ false = earlier y (all-at (λ z. before y z ≡ true) xs i x rise.0 there) in
    rw fails (find-there before p xs i x rise.1 there earlier passes)

-- ## one test that does not depend on the member, and one that does

module _ {X I : Type 0} (name : X → I) (q : I → Bool) (p : X → Bool) where
  -- the name, if it passes
  abbrev tested : Option I → Option I
  tested o = option_and_then (λ i. if q i then Some i else None) o

  none-tested : (xs : List X) → AllByRecursion (λ x. q (name x) ≡ false) xs → tested (option_map name (slice_get (filter p xs) 0)) ≡ None
  none-tested [] all = refl
  none-tested (x ∷ xs) all = grind (arith, all.0, none-tested xs all.1)

  -- the first that passes both is the first that passes the second, if that passes
  pub first-tested : (t : Bool) (xs : List X) → AllByRecursion (λ x. q (name x) ≡ (t && p x)) xs → option_map name (find (λ x. q (name x)) xs) ≡ option_and_then (λ i. if q i then Some i else None) (option_map name (slice_get (filter p xs) 0))
  first-tested false xs all = ap (option_map name) (find-none (λ x. q (name x)) xs all) ∙ sym (none-tested xs all)
  first-tested true [] all = refl
  first-tested true (x ∷ xs) all = grind (arith, all.0, first-tested true xs all.1)

-- # how many members of a list pass a test

-- 1 if it is true
abbrev pub one : Bool → ℕ
one b = cond b 1 0

pub count-cons : {X : Type 0} (p : X → Bool) (x : X) (xs : List X) → count_by p (x ∷ xs) ≡ one (p x) + count_by p xs
count-cons p x xs = sum_by-cons (λ y. one (p y)) x xs

-- tests that agree on each member count as many
pub count-same : {X : Type 0} (p q : X → Bool) (xs : List X) → AllByRecursion (λ x. p x ≡ q x) xs → count_by p xs ≡ count_by q xs
count-same p q [] all = refl
count-same p q (x ∷ xs) all = omega (arith, count-cons p x xs, count-cons q x xs, ap one all.0, count-same p q xs all.1)

-- what passes is what passes one of two other tests, none both of them
pub count-either : {X : Type 0} (p q either : X → Bool) (xs : List X) → ((x : X) → one (either x) ≡ one (p x) + one (q x)) → count_by either xs ≡ count_by p xs + count_by q xs
count-either p q either [] each = refl
count-either p q either (x ∷ xs) each = omega (arith, count-cons p x xs, count-cons q x xs, count-cons either x xs, each x, count-either p q either xs each)

pub count-none : {X : Type 0} (p : X → Bool) (xs : List X) → ((x : X) → p x ≡ false) → count_by p xs ≡ 0
count-none p xs none = omega (arith, count-either p p p xs (λ x. rw (none x) refl))

-- by names: of the members that are kept, as many names pass as members
pub count-named : {X I : Type 0} (name : X → I) (keep q : X → Bool) (t : I → Bool) (xs : List X) → AllByRecursion (λ x. keep x ≡ true → t (name x) ≡ q x) xs → count_by t (map name (filter keep xs)) ≡ count_by (λ x. keep x && q x) xs
count-named name keep q t [] all = refl
count-named name keep q t (x ∷ xs) all = grind (arith, nat_tests, all.0, count-named name keep q t xs all.1, count-cons (λ y. keep y && q y) x xs, count-cons t (name x) (map name (filter keep xs)))

-- # the first node that may be allocated to a request is the first spare one of its next label, if that one may be

-- ## nodes, each number once

-- the node at a place is the node with its number
node-there : (rows : List NodeEntry) (i : ℕ) (e : NodeEntry) → Rises (λ a b. nat_lt a.id.0 b.id.0) rows → slice_get rows i ≡ Some e → node_entry e.id rows ≡ Some e
node-there rows i e rise there =
    find-there (λ (a b : NodeEntry). nat_lt a.id.0 b.id.0) (λ (x : NodeEntry). x.id.0 == e.id.0) rows i e rise there (λ y order. node-apart y.id e.id order) (node-itself e.id)

-- ## the tests of an allocation

-- the tests of the request, and those of the node
tests : (known held pending free ready kind : Bool) (o : Option RequestId) (h : Option SessionId) (wrong late : Refusal) (label : Refusal) →
    is_ok (need known Refusal.NotRegistered >> (need held Refusal.NotHeld >> (need pending wrong >> (need free Refusal.NotOwner >> (need ready late >> (vacant o Refusal.Allocated >> (need kind label >> (vacant h Refusal.Busy >> Ok Done.Held))))))))
    ≡ ((known && (held && (pending && free))) && (((ready && is_none o) && is_none h) && kind))
tests known held pending free ready kind o h wrong late label = grind arith

-- the pool of the launcher that makes the event is the session's
pool-is : (s : State) (session : SessionId) (p : PoolId) → launcher s session ≡ Ok p → pool_of s session ≡ Some p
pool-is s session p by = let heard = launcher-heard s session p by in rw heard.begun (ap pool_of_role heard.role)

module _ (c : Configuration) (s : State) (session : SessionId) (r : RequestId) where
  -- the node, if it may be allocated
  abbrev taken : Option NodeId → Option NodeId
  taken o = option_and_then (λ n. if is_takable c s session r n then Some n else None) o

  -- the first of all nodes that may be allocated
  abbrev first : Option NodeId
  first = option_map (λ (e : NodeEntry). e.id) (find (λ (e : NodeEntry). is_takable c s session r e.id) s.nodes)

  -- if none may be, none is found
  refused : ((n : NodeId) → is_takable c s session r n ≡ false) → (o : Option NodeId) → first ≡ taken o
  refused none o =
      ap (λ (x : Option NodeEntry). option_map (λ (e : NodeEntry). e.id) x) (find-none (λ (e : NodeEntry). is_takable c s session r e.id) s.nodes (all-from_at (λ (e : NodeEntry). is_takable c s session r e.id ≡ false) s.nodes (λ i e there. none e.id))) ∙ by o
    where
      by : (o : Option NodeId) → None ≡ taken o
      by None = refl
      by (Some n) = rw (none n) refl

  module _ (p : PoolId) (by : launcher s session ≡ Ok p) where
    module _ (rise : Rises (λ a b. nat_lt a.id.0 b.id.0) s.nodes) where
      -- of the request, whatever the node
      abbrev asked : RequestRecord → Bool
      asked k = is_session_of session (registered p s.registrations) && (is_session_of session (request_holder r s.requests) && (is_pending_by p k && is_none k.pinned))

      split : (k : RequestRecord) (l : LabelId) → request_in r s.requests ≡ Some k → next_label k ≡ Some l → (i : ℕ) (e : NodeEntry) → slice_get s.nodes i ≡ Some e → is_takable c s session r e.id ≡ (asked k && is_spare p l e)
      split k l request label i e there =
          let node : node_entry e.id s.nodes ≡ Some e = node-there s.nodes i e rise there in
          rw (by, request, node, label) (tests (is_session_of session (registered p s.registrations)) (is_session_of session (request_holder r s.requests)) (is_pending_by p k) (is_none k.pinned) (is_ready e.kept.state) (is_kind p l e) e.kept.allocated_to (holder e.queue) (wrong_request k) (wrong_node e.kept) (Refusal.NoLabel l))

      by-label : (k : RequestRecord) (o : Option LabelId) → request_in r s.requests ≡ Some k → next_label k ≡ o → first ≡ first_takable c s session r
      by-label k None request none = refused (λ n. grind (arith, nat_tests, by, request, none)) (option_and_then (first_free s r) (pool_of s session))
      by-label k (Some l) request label =
          let free : option_and_then (first_free s r) (pool_of s session) ≡ free_ready_of p l 0 s = rw (pool-is s session p by, request, label) refl in
          first-tested (λ (e : NodeEntry). e.id) (is_takable c s session r) (is_spare p l) (asked k) s.nodes (all-from_at (λ (e : NodeEntry). is_takable c s session r e.id ≡ (asked k && is_spare p l e)) s.nodes (split k l request label))
          ∙ ap taken (sym free)

      by-request : (o : Option RequestRecord) → request_in r s.requests ≡ o → first ≡ first_takable c s session r
      by-request None none = refused (λ n. rw (by, none) refl) (option_and_then (first_free s r) (pool_of s session))
      by-request (Some k) request = by-label k (next_label k) request refl

  by-launcher : Rises (λ a b. nat_lt a.id.0 b.id.0) s.nodes → (o : Result PoolId Refusal) → launcher s session ≡ o → first ≡ first_takable c s session r
  by-launcher rise (Err why) none = refused (λ n. rw none refl) (option_and_then (first_free s r) (pool_of s session))
  by-launcher rise (Ok p) by = by-request p by rise (request_in r s.requests) refl

  -- the first of all nodes that may be allocated is the one that is computed
  pub first-is : IsReached c s → first ≡ first_takable c s session r
  first-is reached = by-launcher (invariant-Runs c reached.journal s reached.runs).numbered.nodes_rise (launcher s session) refl

  -- some node may be allocated if there is a first one
  pub may-take : IsReached c s → may_take_ready c s session r ≡ is_some (first_takable c s session r)
  may-take reached =
      any-find (λ (e : NodeEntry). is_takable c s session r e.id) s.nodes
      ∙ sym (map-some (λ (e : NodeEntry). e.id) (find (λ (e : NodeEntry). is_takable c s session r e.id) s.nodes))
      ∙ ap (λ (o : Option NodeId). is_some o) (first-is reached)

-- # a node is allocated to the request that lists it, if the pool serves that request; and what is true of a request by its number is true of its row

-- ## requests, each number once

-- the request at a place is the request with its id
pub entry-there : (rows : List RequestEntry) (i : ℕ) (e : RequestEntry) → Rises (λ a b. is_id_before a.id b.id) rows → slice_get rows i ≡ Some e → request_entry e.id rows ≡ Some e
entry-there rows i e rise there =
    find-there (λ (a b : RequestEntry). is_id_before a.id b.id) (λ (x : RequestEntry). same_request x.id e.id) rows i e rise there (λ y order. request-apart y.id e.id order) (request-itself e.id)

pub named : (r : RequestId) (o : Option RequestId) → is_request r o ≡ true → o ≡ Some r
named r None is = absurd cc
named r (Some other) is = ap (λ (x : RequestId). Some x) (request-equal other r is)

-- ## the node's request

module _ (c : Configuration) (s : State) (holds : Invariant c s) (p : PoolId) (n : NodeId) (k : NodeRecord) (stands : node_in n s.nodes ≡ Some k) where
  -- a pending request that lists the node is the one it is allocated to
  allocated : (r : RequestId) (q : RequestRecord) → request_in r s.requests ≡ Some q → is_pending_by p q ≡ true → is_listed n q ≡ true → k.allocated_to ≡ Some r
  allocated r q found pending listed = by q.state ((and_parts (is_pending q.state) (is_pool p q.pool) pending).0) (holds.owned.requests r q found) where
    of_served : IsServed s r q → k.allocated_to ≡ Some r
    of_served served =
        let place = node-place n q.nodes listed in
        let within : place.0 < length q.labels = omega (arith, served.few, slice_get_within q.nodes place.0 n place.1) in
        let label = member-there q.labels place.0 within in
        named r k.allocated_to ((served.each place.0 n label.0 k place.1 label.1 stands).allocated)

    by : (state : RequestState) → is_pending state ≡ true → StandsIn s r q state → k.allocated_to ≡ Some r
    by RequestState.Pending is served = of_served served
    by _ is rests = absurd cc

  -- a test of pending requests that list the node, and what is left to test of the one it is allocated to
  module _ (wants such : RequestRecord → Bool) (parts : (q : RequestRecord) → wants q ≡ true → ((is_pending_by p q && is_listed n q) ≡ true) × (such q ≡ true)) (whole : (q : RequestRecord) → (is_pending_by p q && is_listed n q) ≡ true → such q ≡ true → wants q ≡ true) where
    there : list_any (λ e. wants e.kept) s.requests ≡ true → option_map_or such (served_request p s k) false ≡ true
    there is =
        let at = any-place (λ (e : RequestEntry). wants e.kept) s.requests is in
        let of_both = parts at.member.kept at.passes in
        let of_listed = and_parts (is_pending_by p at.member.kept) (is_listed n at.member.kept) of_both.0 in
        let found : request_in at.member.id s.requests ≡ Some at.member.kept = ap (option_map (λ (x : RequestEntry). x.kept)) (entry-there s.requests at.place at.member holds.numbered.requests_rise at.there) in
        rw (allocated at.member.id at.member.kept found of_listed.0 of_listed.1, found, of_listed.0) of_both.1

    back : option_map_or such (served_request p s k) false ≡ true → list_any (λ x. wants x.kept) s.requests ≡ true
    back is =
        let served = such-one such (served_request p s k) is in
        option_and_then_some _ k.allocated_to served.0 served.1.0 (λ r some rest.
        option_and_then_some _ (request_in r s.requests) served.0 rest (λ q found rest.
        let such_q = if-some (is_pending_by p q) q served.0 rest in
        let row = from-map_some (λ (x : RequestEntry). x.kept) (request_entry r s.requests) q found in
        let listed : is_listed n row.0.kept ≡ true = (holds.owned.allocations n k r stands some).listed row.0.kept (ap (option_map (λ (x : RequestEntry). x.kept)) row.1) in
        let place = find-place (λ (x : RequestEntry). same_request x.id r) s.requests row.0 row.1 in
        list_any-there (λ (x : RequestEntry). wants x.kept) s.requests place.at row.0 place.there (whole row.0.kept (both_true (rw row.2 such_q.0) listed) (rw (row.2, such_q.1) served.1.1))))

    wanted-is : list_any (λ e. wants e.kept) s.requests ≡ option_map_or such (served_request p s k) false
    wanted-is = both_ways (list_any (λ e. wants e.kept) s.requests) (option_map_or such (served_request p s k) false) there back

-- none is there if not some is
pub none-is : (b : Bool) (o : Option RequestRecord) → is_some o ≡ not b → b ≡ is_none o
none-is b o is = grind (arith, nat_tests)

-- ## a reached state

module _ (c : Configuration) (s : State) (reached : IsReached c s) (p : PoolId) (n : NodeId) (k : NodeRecord) (stands : node_in n s.nodes ≡ Some k) where
  wanted-by : (wants such : RequestRecord → Bool) → ((q : RequestRecord) → wants q ≡ true → ((is_pending_by p q && is_listed n q) ≡ true) × (such q ≡ true)) → ((q : RequestRecord) → (is_pending_by p q && is_listed n q) ≡ true → such q ≡ true → wants q ≡ true) → list_any (λ e. wants e.kept) s.requests ≡ option_map_or such (served_request p s k) false
  wanted-by wants such parts whole = wanted-is c s (invariant-Runs c reached.journal s reached.runs) p n k stands wants such parts whole

  some-request-by : (o : Option RequestRecord) → not (option_map_or (λ q. true) o false) ≡ is_none o
  some-request-by o = grind arith

  -- the launcher is done with a node without a launch if the pool serves no request of the node's
  pub done-is : k.in_flight ≡ false → (node_is n s (λ m. not m.in_flight) && not (is_wanted_by p s n)) ≡ is_none (served_request p s k)
  done-is idle =
      let wanted : is_wanted_by p s n ≡ option_map_or (λ q. true) (served_request p s k) false = wanted-by (λ q. is_pending_by p q && is_listed n q) (λ q. true) (λ q is. (is, refl)) (λ q is such. is) in
      rw (stands, idle) (ap not wanted ∙ some-request-by (served_request p s k))

  -- the node is to be launched if the pool serves its request, and no node of that one failed
  pub launch-is : is_to_launch p s n ≡ option_map_or (λ q. not (has_failed_node s q)) (served_request p s k) false
  launch-is =
      wanted-by (λ q. is_pending_by p q && is_listed n q && not (has_failed_node s q)) (λ q. not (has_failed_node s q))
      (λ q is. and_parts (is_pending_by p q && is_listed n q) (not (has_failed_node s q)) is) (λ q both such. both_true both such)

-- # a request in hand is one of those in whose queues the session is

module _ (c : Configuration) (s : State) (reached : IsReached c s) where
  -- the request at a place is the request with its id
  pub row-there : (i : ℕ) (e : RequestEntry) → slice_get s.requests i ≡ Some e → request_entry e.id s.requests ≡ Some e
  row-there i e there = entry-there s.requests i e (invariant-Runs c reached.journal s reached.runs).numbered.requests_rise there

  -- ## in hand

  module _ (p : PoolId) (session : SessionId) where
    pub any-in_hand : list_any (is_in_hand_at p session s) (queued_requests session s) ≡ list_any (is_in_hand p session) s.requests
    any-in_hand =
        any-named (λ (e : RequestEntry). e.id) (λ (e : RequestEntry). is_queued session e.queue) (is_in_hand p session) (is_in_hand_at p session s) s.requests
        (all-from_at (λ (e : RequestEntry). is_queued session e.queue ≡ true → is_in_hand_at p session s e.id ≡ is_in_hand p session e) s.requests (λ i e there queued. rw (row-there i e there) refl))
        (λ e is. holder-queued session e.queue (and_parts (is_requested e.kept.state && not (is_declined_by p e.kept.declined)) _ is).1)
