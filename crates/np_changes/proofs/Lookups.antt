-- what a look-up of a request or a node finds after changes, and the order of their numbers
use Rattle.np_changes.proofs.Prelude.{None, Option, Some, arith, nat_tests, ◌≡◌, LabelId, PoolId, SemId, ap, eqb-true, option_map, refl, sym, true, ℕ, ◌==◌, ◌∙◌, RequestId, request-equal, same_request, ◌+◌, ◌<◌, ◌≤◌, AllByRecursion, Bool, List, Rises, [], all-insert_before, all-push, all-remove_first, all-weaker, cond, false, insert_before, remove_first, ◌++◌, ◌∷◌, Locked, SessionId, all-find, change_first, find, find-insert_before, find-map, find-none, find-passes, map, option_map_or, subst, NodeEntry, NodeId, NodeRecord, NodeState, RequestEntry, RequestRecord, TenantId, all_freed, all_in_use, allocated, freed, freed_from, in_use, insert_request, is_id_before, is_request, joined, left, list_any, nat_lt, node_in, node_left, node_queue, put_node, put_node_queue, put_request_queue, remove_node, remove_request, request_in, request_left, request_queue, Changes, Configuration, Growth, IsNumbered, Maker, NodesChange, RequestsChange, Rises-keys, SessionsChange, State, all-keys, changed, grown, map-keys, nodes_changed, nodes_left, requests_changed, requests_left, Amount, IsFew, RequestsPremise, SessionFacts, filter, length, session_of, slice_get_within, total, ◌*◌, ◌-◌, Asked, by_maker, next_id, registers, EmptiesRequest, NodesPremise, Premises, inl, inr, ◌⊎◌}
use Rattle.np_lists.proofs.Plain.{by_bool}

-- # whether an option has something

-- an option that has nothing is `None`
pub none-unless : {A : Type 0} (o : Option A) → ((a : A) → o ≡ Some a → ⊥) → o ≡ None
none-unless x0 never = grind (arith, nat_tests)

-- # ids with one number are one id, and the row of a record that was found

-- ## ids

pub same_pool : (a b : PoolId) → (a.0 == b.0) ≡ true → a ≡ b
same_pool a b same = ap (λ (n : ℕ). record { 0 = n }) (eqb-true a.0 b.0 same)

pub same_label : (a b : LabelId) → (a.0 == b.0) ≡ true → a ≡ b
same_label a b same = ap (λ (n : ℕ). record { 0 = n }) (eqb-true a.0 b.0 same)

pub same_semaphore : (a b : SemId) → a.0 ≡ b.0 → a ≡ b
same_semaphore a b same = ap (λ (n : ℕ). record { 0 = n }) same

-- ## rows

-- a record that was found has a row
pub row-of : {X Y : Type 0} (kept : X → Y) (o : Option X) (k : Y) → option_map kept o ≡ Some k → (e : X) × (o ≡ Some e)
row-of kept None k has = absurd cc
row-of kept (Some e) k has = (e, refl)

-- the row that was found has that record
pub kept-is : {X Y : Type 0} (kept : X → Y) (o : Option X) (k : Y) (e : X) → option_map kept o ≡ Some k → o ≡ Some e → kept e ≡ k
kept-is kept o k e has is = grind (arith, nat_tests)

-- # the next numbers of requests and nodes: none has them, and each is below them

pub same-seq : (a b : RequestId) → same_request a b ≡ true → a.seq ≤ b.seq
same-seq a b same = let is : a.seq ≡ b.seq = ap (λ (x : RequestId). x.seq) (request-equal a b same) in omega arith

-- # a list in order, with one member less or more

module _ {X : Type 0} (before : X → X → Bool) where
  pub rises-remove_first : (p : X → Bool) (xs : List X) → Rises before xs → Rises before (remove_first p xs)
  rises-remove_first p [] rises = tt
  rises-remove_first p (x ∷ xs) rises = grind (arith, nat_tests, all-remove_first (λ y. before x y ≡ true) p xs rises.0, rises-remove_first p xs rises.1, rises.1)

  -- inserted before the first member that it is before, if each other one is before it
  pub rises-insert_before : ((a b k : X) → before a b ≡ true → before b k ≡ true → before a k ≡ true) → (new : X) (xs : List X) → AllByRecursion (λ x. before new x ≡ false → before x new ≡ true) xs → Rises before xs → Rises before (insert_before (λ x. before new x) new xs)
  rises-insert_before through new [] apart rises = (tt, tt)
  rises-insert_before through new (x ∷ xs) apart rises =
      by_bool (λ b. Rises before (cond b (new ∷ x ∷ xs) (x ∷ insert_before (λ y. before new y) new xs))) (before new x)
      (λ first. ((first, all-weaker (λ y. before x y ≡ true) (λ y. before new y ≡ true) (λ y order. through new x y first order) xs rises.0), rises))
      (λ later. (all-insert_before (λ y. before x y ≡ true) (λ y. before new y) new xs (apart.0 later) rises.0, rises-insert_before through new xs apart.1 rises.1))

  -- added at the end, after all others
  pub rises-push : (new : X) (xs : List X) → AllByRecursion (λ x. before x new ≡ true) xs → Rises before xs → Rises before (xs ++ new ∷ [])
  rises-push new [] all rises = (tt, tt)
  rises-push new (x ∷ xs) all rises = (all-push (λ y. before x y ≡ true) xs new rises.0 all.0, rises-push new xs all.1 rises.1)

-- # what a look-up finds of rows under a lock, after one of them or all have changed

-- ## the first that passes

module _ {X : Type 0} (q : X → Bool) where
  -- a member that passes is changed
  pub find-one : (p : X → Bool) (f : X → X) → ((x : X) → q (f x) ≡ q x) → ((x : X) → p x ≡ q x) → (xs : List X) → find q (change_first p f xs) ≡ option_map f (find q xs)
  find-one p f keeps alike [] = refl
  find-one p f keeps alike (x ∷ xs) = grind (arith, nat_tests, keeps x, alike x, find-one p f keeps alike xs)

  -- a member that does not pass is changed
  pub find-others : (p : X → Bool) (f : X → X) → ((x : X) → q (f x) ≡ q x) → ((x : X) → p x ≡ true → q x ≡ false) → (xs : List X) → find q (change_first p f xs) ≡ find q xs
  find-others p f keeps apart [] = refl
  find-others p f keeps apart (x ∷ xs) = grind (arith, nat_tests, keeps x, apart x, find-others p f keeps apart xs)

  -- a member that does not pass is removed
  pub find-without : (p : X → Bool) → ((x : X) → p x ≡ true → q x ≡ false) → (xs : List X) → find q (remove_first p xs) ≡ find q xs
  find-without p apart [] = refl
  find-without p apart (x ∷ xs) = grind (arith, nat_tests, apart x, find-without p apart xs)

  -- a member that passes is removed, and no two pass
  pub find-gone : (p : X → Bool) (before : X → X → Bool) → ((x : X) → p x ≡ q x) → ((x y : X) → before x y ≡ true → q x ≡ true → q y ≡ false) → (xs : List X) → Rises before xs → find q (remove_first p xs) ≡ None
  find-gone p before alike once [] rises = refl
  find-gone p before alike once (x ∷ xs) rises =
      let none : q x ≡ true → find q xs ≡ None = λ is. find-none q xs (all-weaker (λ y. before x y ≡ true) (λ y. q y ≡ false) (λ y order. once x y order is) xs rises.0) in
      grind (arith, nat_tests, alike x, none, find-gone p before alike once xs rises.1)

  -- a member that passes is added, and no other passes
  pub find-new : (before : X → Bool) (new : X) (xs : List X) → q new ≡ true → find q xs ≡ None → find q (insert_before before new xs) ≡ Some new
  find-new before new [] is none = rw is refl
  find-new before new (x ∷ xs) is none = grind (arith, nat_tests, find-new before new xs)

  pub find-push : (new : X) (x : X) (xs : List X) → find q xs ≡ Some x → find q (xs ++ new ∷ []) ≡ Some x
  find-push new x [] is = absurd cc
  find-push new x (y ∷ xs) is = grind (arith, nat_tests, find-push new x xs)

  pub find-push_other : (new : X) (xs : List X) → q new ≡ false → find q (xs ++ new ∷ []) ≡ find q xs
  find-push_other new [] other = rw other refl
  find-push_other new (x ∷ xs) other = ap (λ (o : Option X). cond (q x) (Some x) o) (find-push_other new xs other)

  pub find-push_new : (new : X) (xs : List X) → q new ≡ true → find q xs ≡ None → find q (xs ++ new ∷ []) ≡ Some new
  find-push_new new [] is none = rw is refl
  find-push_new new (x ∷ xs) is none = grind (arith, nat_tests, find-push_new new xs)

-- ## rows by their ids

module _ {I : Type 0} (same : I → I → Bool) (equal : (a b : I) → same a b ≡ true → a ≡ b) where
  alike : (a b k : I) → same a b ≡ true → same k a ≡ same k b
  alike a b k is = ap (λ (x : I). same k x) (equal a b is)

  parted : (a b k : I) → same a b ≡ false → same k a ≡ true → same k b ≡ false
  parted a b k is passes = let here : k ≡ a = equal k a passes in subst (λ (x : I). same x b ≡ false) (sym here) is

module _ {I K : Type 0} (same : I → I → Bool) (equal : (a b : I) → same a b ≡ true → a ≡ b) where
  abbrev pub row_of : I → List (Locked I K) → Option (Locked I K)
  row_of r rows = find (λ e. same e.id r) rows

  abbrev pub kept_of : I → List (Locked I K) → Option K
  kept_of r rows = option_map (λ e. e.kept) (row_of r rows)

  abbrev pub queue_of : I → List (Locked I K) → List SessionId
  queue_of r rows = option_map_or (λ e. e.queue) (row_of r rows) []

  -- ### one changed

  pub row-changed : (a r : I) (f : Locked I K → Locked I K) → ((e : Locked I K) → (f e).id ≡ e.id) → (rows : List (Locked I K)) → row_of r (change_first (λ e. same e.id a) f rows) ≡ option_map (λ e. cond (same a r) (f e) e) (row_of r rows)
  row-changed a r f keeps rows = grind (arith, nat_tests, find-one, alike, find-others, parted)

  pub kept-changed : (a r : I) (f : Locked I K → Locked I K) (g : K → K) → ((e : Locked I K) → (f e).id ≡ e.id) → ((e : Locked I K) → (f e).kept ≡ g e.kept) → (rows : List (Locked I K)) →
      kept_of r (change_first (λ e. same e.id a) f rows) ≡ option_map (λ k. cond (same a r) (g k) k) (kept_of r rows)
  kept-changed a r f g ids keeps rows = grind (arith, nat_tests, row-changed a r f ids rows, keeps)

  -- a change that keeps records keeps what is found
  pub kept-same : (a r : I) (f : Locked I K → Locked I K) → ((e : Locked I K) → (f e).id ≡ e.id) → ((e : Locked I K) → (f e).kept ≡ e.kept) → (rows : List (Locked I K)) → kept_of r (change_first (λ e. same e.id a) f rows) ≡ kept_of r rows
  kept-same a r f ids keeps rows = grind (arith, nat_tests, row-changed a r f ids rows, keeps)

  pub queue-changed : (a r : I) (f : Locked I K → Locked I K) (g : List SessionId → List SessionId) (k : K) → ((e : Locked I K) → (f e).id ≡ e.id) → ((e : Locked I K) → (f e).queue ≡ g e.queue) → (rows : List (Locked I K)) → kept_of r rows ≡ Some k →
      queue_of r (change_first (λ e. same e.id a) f rows) ≡ cond (same a r) (g (queue_of r rows)) (queue_of r rows)
  queue-changed a r f g k ids keeps rows is = grind (arith, nat_tests, row-changed a r f ids rows, keeps)

  -- a change that keeps queues keeps what is found
  pub queue-same : (a r : I) (f : Locked I K → Locked I K) → ((e : Locked I K) → (f e).id ≡ e.id) → ((e : Locked I K) → (f e).queue ≡ e.queue) → (rows : List (Locked I K)) → queue_of r (change_first (λ e. same e.id a) f rows) ≡ queue_of r rows
  queue-same a r f ids keeps rows = grind (arith, nat_tests, row-changed a r f ids rows, keeps)

  pub queue-nowhere : (r : I) (rows : List (Locked I K)) → kept_of r rows ≡ None → queue_of r rows ≡ []
  queue-nowhere r rows is = grind (arith, nat_tests)

  -- a row is found if its record is
  pub row-there : (r : I) (k : K) (rows : List (Locked I K)) → kept_of r rows ≡ Some k → (e : Locked I K) × ((row_of r rows ≡ Some e) × ((e.kept ≡ k) × (e.id ≡ r)))
  row-there r k rows is = by (row_of r rows) refl is where
    by : (o : Option (Locked I K)) → row_of r rows ≡ o → option_map (λ (e : Locked I K). e.kept) o ≡ Some k → (e : Locked I K) × ((row_of r rows ≡ Some e) × ((e.kept ≡ k) × (e.id ≡ r)))
    by None at none = absurd cc
    by (Some e) at there = (e, (at, (let same_kept : e.kept ≡ k = cc in same_kept, equal e.id r (find-passes (λ (x : Locked I K). same x.id r) rows e at))))

  -- no row is found if no record is
  pub row-nowhere : (r : I) (rows : List (Locked I K)) → kept_of r rows ≡ None → row_of r rows ≡ None
  row-nowhere r rows is = grind (arith, nat_tests)

  -- ### all changed

  pub row-mapped : (r : I) (f : Locked I K → Locked I K) → ((e : Locked I K) → (f e).id ≡ e.id) → (rows : List (Locked I K)) → row_of r (map f rows) ≡ option_map f (row_of r rows)
  row-mapped r f ids rows = find-map (λ (e : Locked I K). same e.id r) f (λ e. ap (λ (x : I). same x r) (ids e)) rows

  pub kept-mapped : (r : I) (f : Locked I K → Locked I K) (g : K → K) → ((e : Locked I K) → (f e).id ≡ e.id) → ((e : Locked I K) → (f e).kept ≡ g e.kept) → (rows : List (Locked I K)) → kept_of r (map f rows) ≡ option_map g (kept_of r rows)
  kept-mapped r f g ids keeps rows = grind (arith, nat_tests, row-mapped r f ids rows, keeps)

  pub kept-mapped_same : (r : I) (f : Locked I K → Locked I K) → ((e : Locked I K) → (f e).id ≡ e.id) → ((e : Locked I K) → (f e).kept ≡ e.kept) → (rows : List (Locked I K)) → kept_of r (map f rows) ≡ kept_of r rows
  kept-mapped_same r f ids keeps rows = grind (arith, nat_tests, row-mapped r f ids rows, keeps)

  pub queue-mapped : (r : I) (f : Locked I K → Locked I K) (g : List SessionId → List SessionId) → ((e : Locked I K) → (f e).id ≡ e.id) → ((e : Locked I K) → (f e).queue ≡ g e.queue) → g [] ≡ [] → (rows : List (Locked I K)) → queue_of r (map f rows) ≡ g (queue_of r rows)
  queue-mapped r f g ids keeps none rows = grind (arith, nat_tests, row-mapped r f ids rows, keeps)

  -- ### one more

  pub row-pushed : (new : Locked I K) (r : I) (k : K) (rows : List (Locked I K)) → kept_of r rows ≡ Some k → row_of r (rows ++ new ∷ []) ≡ row_of r rows
  row-pushed new r k rows is = let there = row-there r k rows is in find-push (λ (e : Locked I K). same e.id r) new there.0 rows there.1.0 ∙ sym there.1.0

  -- ### one less

  pub row-removed_other : (a r : I) (rows : List (Locked I K)) → same a r ≡ false → row_of r (remove_first (λ e. same e.id a) rows) ≡ row_of r rows
  row-removed_other a r rows other = find-without (λ (e : Locked I K). same e.id r) (λ e. same e.id a) (λ e passes. parted same equal a r e.id other passes) rows

  pub row-removed : (before : I → I → Bool) → ((a b : I) → before a b ≡ true → same b a ≡ false) → (a r : I) (rows : List (Locked I K)) → Rises (λ x y. before x.id y.id) rows → same a r ≡ true → row_of r (remove_first (λ e. same e.id a) rows) ≡ None
  row-removed before apart a r rows rises is =
      find-gone (λ (e : Locked I K). same e.id r) (λ e. same e.id a) (λ x y. before x.id y.id) (λ e. alike same equal a r e.id is)
      (λ x y order passes. let here : x.id ≡ r = equal x.id r passes in subst (λ (k : I). same y.id k ≡ false) here (apart x.id y.id order)) rows rises

  -- ### numbers below

  module _ (number : I → ℕ) (next : ℕ) (rows : List (Locked I K)) (all : AllByRecursion (λ e. number e.id < next) rows) where
    pub kept-later : (r : I) → next ≤ number r → kept_of r rows ≡ None
    kept-later r late =
        let none : find (λ (e : Locked I K). same e.id r) rows ≡ None = find-none _ rows (all-weaker (λ (e : Locked I K). number e.id < next) (λ e. same e.id r ≡ false) (λ e low. grind (arith, nat_tests, equal e.id r)) rows all) in
        rw none refl

    pub kept-below : (r : I) (k : K) → kept_of r rows ≡ Some k → number r < next
    kept-below r k is =
        let there = row-there r k rows is in
        let low : number there.0.id < next = all-find (λ (e : Locked I K). number e.id < next) (λ e. same e.id r) rows there.0 all there.1.0 in
        subst (λ (x : I). number x < next) there.1.1.1 low

-- # what a look-up finds after a change of requests or nodes

-- ## ids

pub later-request-apart : (a b : RequestId) → is_id_before a b ≡ true → same_request b a ≡ false
later-request-apart a b order = grind (arith, nat_tests)

abbrev pub same_node : NodeId → NodeId → Bool
same_node a b = a.0 == b.0

pub same_node-is : (a b : NodeId) → same_node a b ≡ true → a ≡ b
same_node-is a b same = let number : a.0 ≡ b.0 = grind (arith, nat_tests) in ap (λ (n : ℕ). record { 0 = n }) number

abbrev is_node_before : NodeId → NodeId → Bool
is_node_before a b = nat_lt a.0 b.0

pub later-node-apart : (a b : NodeId) → is_node_before a b ≡ true → same_node b a ≡ false
later-node-apart a b order = grind (arith, nat_tests)

-- ## requests

pub request_in-edit : (r0 r : RequestId) (f : RequestRecord → RequestRecord) (rows : List RequestEntry) → request_in r (change_first (λ e. same_request e.id r0) (λ e. record e { kept = f e.kept }) rows) ≡ option_map (λ q. cond (same_request r0 r) (f q) q) (request_in r rows)
request_in-edit r0 r f rows = kept-changed same_request request-equal r0 r (λ e. record e { kept = f e.kept }) f (λ e. refl) (λ e. refl) rows

pub request_in-queue : (r0 r : RequestId) (queue : List SessionId) (rows : List RequestEntry) → request_in r (put_request_queue r0 queue rows) ≡ request_in r rows
request_in-queue r0 r queue rows = kept-same same_request request-equal r0 r (λ e. record e { queue = queue }) (λ e. refl) (λ e. refl) rows

pub request_in-left : (session : SessionId) (r : RequestId) (rows : List RequestEntry) → request_in r (map (request_left session) rows) ≡ request_in r rows
request_in-left session r rows = kept-mapped_same same_request request-equal r (request_left session) (λ e. refl) (λ e. refl) rows

pub request_in-insert : (new : RequestEntry) (r : RequestId) (rows : List RequestEntry) → same_request new.id r ≡ false → request_in r (insert_request new rows) ≡ request_in r rows
request_in-insert new r rows other = ap (λ (o : Option RequestEntry). option_map (λ e. e.kept) o) (find-insert_before (λ e. same_request e.id r) (λ e. is_id_before new.id e.id) new rows other)

pub request_in-new : (new : RequestEntry) (r : RequestId) (rows : List RequestEntry) → same_request new.id r ≡ true → request_in r rows ≡ None → request_in r (insert_request new rows) ≡ Some new.kept
request_in-new new r rows same none = ap (λ (o : Option RequestEntry). option_map (λ e. e.kept) o) (find-new (λ e. same_request e.id r) (λ e. is_id_before new.id e.id) new rows same (row-nowhere same_request request-equal r rows none))

pub request_in-remove : (r0 r : RequestId) (rows : List RequestEntry) → same_request r0 r ≡ false → request_in r (remove_request r0 rows) ≡ request_in r rows
request_in-remove r0 r rows other = ap (λ (o : Option RequestEntry). option_map (λ e. e.kept) o) (row-removed_other same_request request-equal r0 r rows other)

pub request_in-removed : (r0 r : RequestId) (rows : List RequestEntry) → Rises (λ a b. is_id_before a.id b.id) rows → same_request r0 r ≡ true → request_in r (remove_request r0 rows) ≡ None
request_in-removed r0 r rows rises same = ap (λ (o : Option RequestEntry). option_map (λ e. e.kept) o) (row-removed same_request request-equal is_id_before later-request-apart r0 r rows rises same)

pub request_in-later : (r : RequestId) (next : ℕ) (rows : List RequestEntry) → AllByRecursion (λ e. e.id.seq < next) rows → next ≤ r.seq → request_in r rows ≡ None
request_in-later r next rows all late = kept-later same_request request-equal (λ (x : RequestId). x.seq) next rows all r late

pub request_in-below : (r : RequestId) (next : ℕ) (q : RequestRecord) (rows : List RequestEntry) → AllByRecursion (λ e. e.id.seq < next) rows → request_in r rows ≡ Some q → r.seq < next
request_in-below r next q rows all is = kept-below same_request request-equal (λ (x : RequestId). x.seq) next rows all r q is

-- ## queues of requests

pub request_queue-edit : (r0 r : RequestId) (f : RequestRecord → RequestRecord) (rows : List RequestEntry) → request_queue r (change_first (λ e. same_request e.id r0) (λ e. record e { kept = f e.kept }) rows) ≡ request_queue r rows
request_queue-edit r0 r f rows = queue-same same_request request-equal r0 r (λ e. record e { kept = f e.kept }) (λ e. refl) (λ e. refl) rows

pub request_queue-queue : (r0 r : RequestId) (queue : List SessionId) (q : RequestRecord) (rows : List RequestEntry) → request_in r rows ≡ Some q → request_queue r (put_request_queue r0 queue rows) ≡ cond (same_request r0 r) queue (request_queue r rows)
request_queue-queue r0 r queue q rows is = queue-changed same_request request-equal r0 r (λ e. record e { queue = queue }) (λ _. queue) q (λ e. refl) (λ e. refl) rows is

pub request_queue-nowhere : (r : RequestId) (rows : List RequestEntry) → request_in r rows ≡ None → request_queue r rows ≡ []
request_queue-nowhere r rows none = queue-nowhere same_request request-equal r rows none

pub request_queue-left : (session : SessionId) (r : RequestId) (rows : List RequestEntry) → request_queue r (map (request_left session) rows) ≡ left session (request_queue r rows)
request_queue-left session r rows = queue-mapped same_request request-equal r (request_left session) (left session) (λ e. refl) (λ e. refl) refl rows

pub request_queue-insert : (new : RequestEntry) (r : RequestId) (rows : List RequestEntry) → same_request new.id r ≡ false → request_queue r (insert_request new rows) ≡ request_queue r rows
request_queue-insert new r rows other = ap (λ (o : Option RequestEntry). option_map_or (λ e. e.queue) o []) (find-insert_before (λ e. same_request e.id r) (λ e. is_id_before new.id e.id) new rows other)

pub request_queue-new : (new : RequestEntry) (r : RequestId) (rows : List RequestEntry) → same_request new.id r ≡ true → request_in r rows ≡ None → request_queue r (insert_request new rows) ≡ new.queue
request_queue-new new r rows same none = ap (λ (o : Option RequestEntry). option_map_or (λ e. e.queue) o []) (find-new (λ e. same_request e.id r) (λ e. is_id_before new.id e.id) new rows same (row-nowhere same_request request-equal r rows none))

pub request_queue-remove : (r0 r : RequestId) (rows : List RequestEntry) → same_request r0 r ≡ false → request_queue r (remove_request r0 rows) ≡ request_queue r rows
request_queue-remove r0 r rows other = ap (λ (o : Option RequestEntry). option_map_or (λ e. e.queue) o []) (row-removed_other same_request request-equal r0 r rows other)

pub request_queue-removed : (r0 r : RequestId) (rows : List RequestEntry) → Rises (λ a b. is_id_before a.id b.id) rows → same_request r0 r ≡ true → request_queue r (remove_request r0 rows) ≡ []
request_queue-removed r0 r rows rises same = ap (λ (o : Option RequestEntry). option_map_or (λ e. e.queue) o []) (row-removed same_request request-equal is_id_before later-request-apart r0 r rows rises same)

-- ## nodes

pub node_in-put : (n0 n : NodeId) (kept : NodeRecord) (nodes : List NodeEntry) → node_in n (put_node n0 kept nodes) ≡ option_map (λ k. cond (n0.0 == n.0) kept k) (node_in n nodes)
node_in-put n0 n kept nodes = kept-changed same_node same_node-is n0 n (λ e. record e { kept = kept }) (λ _. kept) (λ e. refl) (λ e. refl) nodes

pub node_in-allocated : (n0 n : NodeId) (r : RequestId) (tenant : Option TenantId) (session : SessionId) (nodes : List NodeEntry) → node_in n (change_first (λ e. e.id.0 == n0.0) (allocated r tenant session) nodes) ≡ option_map (λ k. cond (n0.0 == n.0) (record k { allocated_to = Some r; tenant = tenant }) k) (node_in n nodes)
node_in-allocated n0 n r tenant session nodes = kept-changed same_node same_node-is n0 n (allocated r tenant session) (λ k. record k { allocated_to = Some r; tenant = tenant }) (λ e. refl) (λ e. refl) nodes

pub node_in-queue : (n0 n : NodeId) (queue : List SessionId) (nodes : List NodeEntry) → node_in n (put_node_queue n0 queue nodes) ≡ node_in n nodes
node_in-queue n0 n queue nodes = kept-same same_node same_node-is n0 n (λ e. record e { queue = queue }) (λ e. refl) (λ e. refl) nodes

pub node_in-left : (session : SessionId) (n : NodeId) (nodes : List NodeEntry) → node_in n (map (node_left session) nodes) ≡ node_in n nodes
node_in-left session n nodes = kept-mapped_same same_node same_node-is n (node_left session) (λ e. refl) (λ e. refl) nodes

pub freed-id : (r : RequestId) (e : NodeEntry) → (freed_from r e).id ≡ e.id
freed-id r e = grind (arith, nat_tests)

pub freed-queue : (r : RequestId) (e : NodeEntry) → (freed_from r e).queue ≡ e.queue
freed-queue r e = grind (arith, nat_tests)

pub node_in-freed : (r : RequestId) (n : NodeId) (nodes : List NodeEntry) → node_in n (all_freed r nodes) ≡ option_map (λ k. cond (is_request r k.allocated_to) (freed k) k) (node_in n nodes)
node_in-freed r n nodes = kept-mapped same_node same_node-is n (freed_from r) (λ k. cond (is_request r k.allocated_to) (freed k) k) (freed-id r) (λ e. grind (arith, nat_tests)) nodes

-- in use from the tick
abbrev pub used_from : ℕ → NodeRecord → NodeRecord
used_from tick k = record k { since = tick; state = NodeState.InUse }

pub node_in-in_use : (tick : ℕ) (numbers : List NodeId) (n : NodeId) (nodes : List NodeEntry) → node_in n (all_in_use tick numbers nodes) ≡ option_map (λ k. cond (list_any (λ m. m.0 == n.0) numbers) (used_from tick k) k) (node_in n nodes)
node_in-in_use tick [] n nodes = grind (arith, nat_tests)
node_in-in_use tick (m ∷ numbers) n nodes =
    grind (arith, nat_tests, node_in-in_use tick numbers n (change_first (λ e. e.id.0 == m.0) (in_use tick) nodes), kept-changed same_node same_node-is m n (in_use tick) (used_from tick) (λ e. refl) (λ e. refl) nodes)

pub node_in-other : (new : NodeEntry) (n : NodeId) (nodes : List NodeEntry) → (new.id.0 == n.0) ≡ false → node_in n (nodes ++ new ∷ []) ≡ node_in n nodes
node_in-other new n nodes other = ap (λ (o : Option NodeEntry). option_map (λ e. e.kept) o) (find-push_other (λ e. same_node e.id n) new nodes other)

pub node_in-new : (new : NodeEntry) (n : NodeId) (nodes : List NodeEntry) → (new.id.0 == n.0) ≡ true → node_in n nodes ≡ None → node_in n (nodes ++ new ∷ []) ≡ Some new.kept
node_in-new new n nodes same none = ap (λ (o : Option NodeEntry). option_map (λ e. e.kept) o) (find-push_new (λ e. same_node e.id n) new nodes same (row-nowhere same_node same_node-is n nodes none))

pub node_in-remove : (n0 n : NodeId) (nodes : List NodeEntry) → (n0.0 == n.0) ≡ false → node_in n (remove_node n0 nodes) ≡ node_in n nodes
node_in-remove n0 n nodes other = ap (λ (o : Option NodeEntry). option_map (λ e. e.kept) o) (row-removed_other same_node same_node-is n0 n nodes other)

pub node_in-removed : (n0 n : NodeId) (nodes : List NodeEntry) → Rises (λ a b. nat_lt a.id.0 b.id.0) nodes → (n0.0 == n.0) ≡ true → node_in n (remove_node n0 nodes) ≡ None
node_in-removed n0 n nodes rises same = ap (λ (o : Option NodeEntry). option_map (λ e. e.kept) o) (row-removed same_node same_node-is is_node_before later-node-apart n0 n nodes rises same)

pub node_in-later : (n : NodeId) (next : ℕ) (nodes : List NodeEntry) → AllByRecursion (λ e. e.id.0 < next) nodes → next ≤ n.0 → node_in n nodes ≡ None
node_in-later n next nodes all late = kept-later same_node same_node-is (λ (x : NodeId). x.0) next nodes all n late

pub node_in-below : (n : NodeId) (next : ℕ) (k : NodeRecord) (nodes : List NodeEntry) → AllByRecursion (λ e. e.id.0 < next) nodes → node_in n nodes ≡ Some k → n.0 < next
node_in-below n next k nodes all is = kept-below same_node same_node-is (λ (x : NodeId). x.0) next nodes all n k is

-- ## queues of nodes

pub node_queue-put : (n0 n : NodeId) (kept : NodeRecord) (nodes : List NodeEntry) → node_queue n (put_node n0 kept nodes) ≡ node_queue n nodes
node_queue-put n0 n kept nodes = queue-same same_node same_node-is n0 n (λ e. record e { kept = kept }) (λ e. refl) (λ e. refl) nodes

pub node_queue-freed : (r : RequestId) (n : NodeId) (nodes : List NodeEntry) → node_queue n (all_freed r nodes) ≡ node_queue n nodes
node_queue-freed r n nodes = queue-mapped same_node same_node-is n (freed_from r) (λ queue. queue) (freed-id r) (freed-queue r) refl nodes

pub node_queue-in_use : (tick : ℕ) (numbers : List NodeId) (n : NodeId) (nodes : List NodeEntry) → node_queue n (all_in_use tick numbers nodes) ≡ node_queue n nodes
node_queue-in_use tick [] n nodes = refl
node_queue-in_use tick (m ∷ numbers) n nodes =
    node_queue-in_use tick numbers n (change_first (λ e. e.id.0 == m.0) (in_use tick) nodes)
    ∙ queue-same same_node same_node-is m n (in_use tick) (λ e. refl) (λ e. refl) nodes

pub node_queue-allocated : (n0 n : NodeId) (r : RequestId) (tenant : Option TenantId) (session : SessionId) (k : NodeRecord) (nodes : List NodeEntry) → node_in n nodes ≡ Some k → node_queue n (change_first (λ e. e.id.0 == n0.0) (allocated r tenant session) nodes) ≡ cond (n0.0 == n.0) (joined session (node_queue n nodes)) (node_queue n nodes)
node_queue-allocated n0 n r tenant session k nodes is = queue-changed same_node same_node-is n0 n (allocated r tenant session) (joined session) k (λ e. refl) (λ e. refl) nodes is

pub node_queue-queue : (n0 n : NodeId) (queue : List SessionId) (k : NodeRecord) (nodes : List NodeEntry) → node_in n nodes ≡ Some k → node_queue n (put_node_queue n0 queue nodes) ≡ cond (n0.0 == n.0) queue (node_queue n nodes)
node_queue-queue n0 n queue k nodes is = queue-changed same_node same_node-is n0 n (λ e. record e { queue = queue }) (λ _. queue) k (λ e. refl) (λ e. refl) nodes is

pub node_queue-nowhere : (n : NodeId) (nodes : List NodeEntry) → node_in n nodes ≡ None → node_queue n nodes ≡ []
node_queue-nowhere n nodes none = queue-nowhere same_node same_node-is n nodes none

pub node_queue-left : (session : SessionId) (n : NodeId) (nodes : List NodeEntry) → node_queue n (map (node_left session) nodes) ≡ left session (node_queue n nodes)
node_queue-left session n nodes = queue-mapped same_node same_node-is n (node_left session) (left session) (λ e. refl) (λ e. refl) refl nodes

pub node_queue-push : (new : NodeEntry) (n : NodeId) (k : NodeRecord) (nodes : List NodeEntry) → node_in n nodes ≡ Some k → node_queue n (nodes ++ new ∷ []) ≡ node_queue n nodes
node_queue-push new n k nodes is = ap (λ (o : Option NodeEntry). option_map_or (λ e. e.queue) o []) (row-pushed same_node same_node-is new n k nodes is)

pub node_queue-other : (new : NodeEntry) (n : NodeId) (nodes : List NodeEntry) → (new.id.0 == n.0) ≡ false → node_queue n (nodes ++ new ∷ []) ≡ node_queue n nodes
node_queue-other new n nodes other = ap (λ (o : Option NodeEntry). option_map_or (λ e. e.queue) o []) (find-push_other (λ e. same_node e.id n) new nodes other)

pub node_queue-new : (new : NodeEntry) (n : NodeId) (nodes : List NodeEntry) → (new.id.0 == n.0) ≡ true → node_in n nodes ≡ None → node_queue n (nodes ++ new ∷ []) ≡ new.queue
node_queue-new new n nodes same none = ap (λ (o : Option NodeEntry). option_map_or (λ e. e.queue) o []) (find-push_new (λ e. same_node e.id n) new nodes same (row-nowhere same_node same_node-is n nodes none))

pub node_queue-remove : (n0 n : NodeId) (nodes : List NodeEntry) → (n0.0 == n.0) ≡ false → node_queue n (remove_node n0 nodes) ≡ node_queue n nodes
node_queue-remove n0 n nodes other = ap (λ (o : Option NodeEntry). option_map_or (λ e. e.queue) o []) (row-removed_other same_node same_node-is n0 n nodes other)

pub node_queue-removed : (n0 n : NodeId) (nodes : List NodeEntry) → Rises (λ a b. nat_lt a.id.0 b.id.0) nodes → (n0.0 == n.0) ≡ true → node_queue n (remove_node n0 nodes) ≡ []
node_queue-removed n0 n nodes rises same = ap (λ (o : Option NodeEntry). option_map_or (λ e. e.queue) o []) (row-removed same_node same_node-is is_node_before later-node-apart n0 n nodes rises same)

-- # the requests and the nodes stay in the order of their numbers, below the next ones

-- ## the same ids

pub ids-change_first : {I K : Type 0} (p : Locked I K → Bool) (f : Locked I K → Locked I K) → ((e : Locked I K) → (f e).id ≡ e.id) → (rows : List (Locked I K)) → map (λ e. e.id) rows ≡ map (λ e. e.id) (change_first p f rows)
ids-change_first p f keeps [] = refl
ids-change_first p f keeps (e ∷ rows) = grind (arith, nat_tests, keeps e, ids-change_first p f keeps rows)

-- ## rows in the order of their ids

module _ {I K : Type 0} (before : I → I → Bool) (number : I → ℕ) where
  pub record IsOrdered (next : ℕ) (rows : List (Locked I K)) : Type 0 where
    pub rise : Rises (λ a b. before a.id b.id) rows
    pub below : AllByRecursion (λ e. number e.id < next) rows

  -- the same ids
  pub ordered-ids : (next : ℕ) (rows later : List (Locked I K)) → map (λ e. e.id) rows ≡ map (λ e. e.id) later → IsOrdered next rows → IsOrdered next later
  ordered-ids next rows later same old = record {
    rise = Rises-keys before (λ (e : Locked I K). e.id) rows later same old.rise;
    below = all-keys (λ (e : Locked I K). e.id) (λ (i : I). number i < next) rows later same old.below;
  }

  pub ordered-removed : (next : ℕ) (p : Locked I K → Bool) (rows : List (Locked I K)) → IsOrdered next rows → IsOrdered next (remove_first p rows)
  ordered-removed next p rows old = record {
    rise = rises-remove_first (λ a b. before a.id b.id) p rows old.rise;
    below = all-remove_first (λ (e : Locked I K). number e.id < next) p rows old.below;
  }

  -- one row changed
  pub ordered-changed : (next : ℕ) (p : Locked I K → Bool) (f : Locked I K → Locked I K) → ((e : Locked I K) → (f e).id ≡ e.id) → (rows : List (Locked I K)) → IsOrdered next rows → IsOrdered next (change_first p f rows)
  ordered-changed next p f keeps rows old = ordered-ids next rows (change_first p f rows) (ids-change_first p f keeps rows) old

  -- all rows changed
  pub ordered-mapped : (next : ℕ) (f : Locked I K → Locked I K) → ((e : Locked I K) → (f e).id ≡ e.id) → (rows : List (Locked I K)) → IsOrdered next rows → IsOrdered next (map f rows)
  ordered-mapped next f keeps rows old = ordered-ids next rows (map f rows) (map-keys (λ (e : Locked I K). e.id) f rows keeps) old

  -- a new row at its place
  pub ordered-inserted : ((a b k : I) → before a b ≡ true → before b k ≡ true → before a k ≡ true) → ((a b : I) → number a < number b → before b a ≡ false → before a b ≡ true)
      → (next : ℕ) (new : Locked I K) (rows : List (Locked I K)) → number new.id ≡ next → IsOrdered next rows → IsOrdered (next + 1) (insert_before (λ e. before new.id e.id) new rows)
  ordered-inserted through past next new rows id old = record {
    rise = rises-insert_before (λ a b. before a.id b.id) (λ a b k. through a.id b.id k.id) new rows (all-weaker (λ (e : Locked I K). number e.id < next) (λ (e : Locked I K). before new.id e.id ≡ false → before e.id new.id ≡ true) (λ e low out. past e.id new.id (omega arith) out) rows old.below) old.rise;
    below = all-insert_before (λ (e : Locked I K). number e.id < next + 1) (λ e. before new.id e.id) new rows (omega arith) (all-weaker (λ (e : Locked I K). number e.id < next) (λ (e : Locked I K). number e.id < next + 1) (λ e low. omega arith) rows old.below);
  }

  -- a new row at the end
  pub ordered-pushed : ((a b : I) → number a < number b → before a b ≡ true) → (next : ℕ) (new : Locked I K) (rows : List (Locked I K)) → number new.id ≡ next → IsOrdered next rows → IsOrdered (next + 1) (rows ++ new ∷ [])
  ordered-pushed up next new rows id old = record {
    rise = rises-push (λ a b. before a.id b.id) new rows (all-weaker (λ (e : Locked I K). number e.id < next) (λ (e : Locked I K). before e.id new.id ≡ true) (λ e low. up e.id new.id (omega arith)) rows old.below) old.rise;
    below = all-push (λ (e : Locked I K). number e.id < next + 1) rows new (all-weaker (λ (e : Locked I K). number e.id < next) (λ (e : Locked I K). number e.id < next + 1) (λ e low. omega arith) rows old.below) (omega arith);
  }

-- ## requests

abbrev RequestsOrdered : ℕ → List RequestEntry → Type 0
RequestsOrdered next rows = IsOrdered is_id_before (λ (r : RequestId). r.seq) next rows

requests-grown : (c : Configuration) (maker : Option Maker) (growth : Growth) (s : State) → RequestsOrdered s.next_request s.requests → RequestsOrdered (grown c maker growth s).next_request (grown c maker growth s).requests
requests-grown c None (Growth.Registration p) s old = old
requests-grown c (Some maker) (Growth.Registration p) s old = old
requests-grown c maker (Growth.Request priority asked) s old =
    ordered-inserted is_id_before (λ (r : RequestId). r.seq) (λ a b k first second. grind (arith, nat_tests)) (λ a b low out. grind (arith, nat_tests)) s.next_request _ s.requests refl old
requests-grown c (Some maker) (Growth.JoinRequest r) s old = ordered-changed _ _ _ _ _ (λ e. refl) _ old
requests-grown c maker _ s old = old

requests-settled : (next : ℕ) (maker : Option Maker) (change : RequestsChange) (rows : List RequestEntry) → RequestsOrdered next rows → RequestsOrdered next (requests_changed maker change rows)
requests-settled next maker (RequestsChange.Edit r edit) rows old = ordered-changed _ _ _ _ _ (λ e. refl) _ old
requests-settled next maker (RequestsChange.Remove r) rows old = ordered-removed _ _ _ _ _ old
requests-settled next (Some maker) (RequestsChange.Leave r) rows old = ordered-changed _ _ _ _ _ (λ e. refl) _ old
requests-settled next maker _ rows old = old

requests-after_end : (next : ℕ) (change : SessionsChange) (rows : List RequestEntry) → RequestsOrdered next rows → RequestsOrdered next (requests_left change rows)
requests-after_end next (SessionsChange.End session) rows old = ordered-mapped _ _ _ _ (λ e. refl) _ old
requests-after_end next _ rows old = old

-- ## nodes

abbrev NodesOrdered : ℕ → List NodeEntry → Type 0
NodesOrdered next rows = IsOrdered is_node_before (λ (n : NodeId). n.0) next rows

nodes-grown : (c : Configuration) (maker : Option Maker) (growth : Growth) (s : State) → NodesOrdered s.next_node s.nodes → NodesOrdered (grown c maker growth s).next_node (grown c maker growth s).nodes
nodes-grown c None (Growth.Registration p) s old = old
nodes-grown c (Some maker) (Growth.Registration p) s old = old
nodes-grown c maker (Growth.Node kept) s old = ordered-pushed is_node_before (λ (n : NodeId). n.0) (λ a b low. grind (arith, nat_tests)) s.next_node _ s.nodes refl old
nodes-grown c (Some maker) (Growth.JoinNode n) s old = ordered-changed _ _ _ _ _ (λ e. refl) _ old
nodes-grown c (Some maker) (Growth.Allocate n r tenant) s old = ordered-changed _ _ _ _ _ (λ e. refl) _ old
nodes-grown c maker _ s old = old

nodes-in_use : (next tick : ℕ) (numbers : List NodeId) (rows : List NodeEntry) → NodesOrdered next rows → NodesOrdered next (all_in_use tick numbers rows)
nodes-in_use next tick [] rows old = old
nodes-in_use next tick (n ∷ numbers) rows old = nodes-in_use next tick numbers _ (ordered-changed _ _ _ _ _ (λ e. refl) _ old)

nodes-settled : (next : ℕ) (maker : Option Maker) (tick : ℕ) (change : NodesChange) (rows : List NodeEntry) → NodesOrdered next rows → NodesOrdered next (nodes_changed maker tick change rows)
nodes-settled next maker tick (NodesChange.Put n kept) rows old = ordered-changed _ _ _ _ _ (λ e. refl) _ old
nodes-settled next maker tick (NodesChange.Remove n) rows old = ordered-removed _ _ _ _ _ old
nodes-settled next (Some maker) tick (NodesChange.Leave n) rows old = ordered-changed _ _ _ _ _ (λ e. refl) _ old
nodes-settled next maker tick (NodesChange.FreeAll r) rows old = ordered-mapped _ _ _ _ (freed-id r) _ old
nodes-settled next maker tick (NodesChange.TakeOver numbers) rows old = nodes-in_use next tick numbers rows old
nodes-settled next maker tick _ rows old = old

nodes-after_end : (next : ℕ) (change : SessionsChange) (rows : List NodeEntry) → NodesOrdered next rows → NodesOrdered next (nodes_left change rows)
nodes-after_end next (SessionsChange.End session) rows old = ordered-mapped _ _ _ _ (λ e. refl) _ old
nodes-after_end next _ rows old = old

-- ## all of it

-- whatever grows
pub grown-numbered : (c : Configuration) (s : State) (maker : Option Maker) (growth : Growth) → IsNumbered s → IsNumbered (grown c maker growth s)
grown-numbered c s maker growth old = grind (arith, nat_tests, grown, requests-grown, nodes-grown)

-- whatever changes
pub numbered : (c : Configuration) (s : State) (ch : Changes) → IsNumbered s → IsNumbered (changed c ch s)
numbered c s ch old = grind (arith, nat_tests, grown, requests_left, requests-after_end, requests-settled, requests-grown, nodes_left, nodes-after_end, nodes-settled, nodes-grown)

-- # What changes leave as it is: what proofs of several crates need.

pub node-apart : (a b : NodeId) → nat_lt a.0 b.0 ≡ true → (a.0 == b.0) ≡ false
node-apart a b order = grind (arith, nat_tests)

pub request-apart : (a b : RequestId) → is_id_before a b ≡ true → same_request a b ≡ false
request-apart a b order = grind (arith, nat_tests)

pub rows-few : {X : Type 0} (f : X → Amount) (test : X → Bool) (xs : List X) → AllByRecursion (λ x. IsFew (f x) 32) xs → IsFew (total (map f (filter test xs))) (length xs * 32)
rows-few f test [] all = record { instances = omega arith; cores = omega arith; ram = omega arith }
rows-few f test (x ∷ xs) all = grind (arith, nat_tests, all.0, rows-few f test xs all.1)

pub remove-alone : (c : Configuration) (s : State) (ch : Changes) (r : RequestId) → RequestsPremise c s ch (RequestsChange.Remove r) → ch.grows ≡ Growth.Nothing
remove-alone c s ch r x4 = grind (arith, nat_tests)

pub session-low : (x : SessionId) (s : State) (facts : SessionFacts) → session_of x s ≡ Some facts → x.0 ≤ length s.sessions
session-low x s facts begun = grind (arith, nat_tests, slice_get_within s.sessions (x.0 - 1) facts)

-- # what a look-up finds after all the changes of an event: by the maker, by what grows, and by what happens to requests and nodes

-- a look that no session's change affects
pub made-look : {A B : Type 0} (look : A → B) (maker : Option Maker) (change : SessionId → A → A) (a : A) → ((session : SessionId) (x : A) → look (change session x) ≡ look x) → look (by_maker maker change a) ≡ look a
made-look look None change a same = refl
made-look look (Some by) change a same = same by.session a

-- ## what grows

-- no request grows
abbrev pub NoRequest : Growth → Type 0
NoRequest (Growth.Request priority asked) = ⊥
NoRequest _ = Unit {0}

-- no node grows, and none is allocated
abbrev pub NoNode : Growth → Type 0
NoNode (Growth.Node kept) = ⊥
NoNode (Growth.Allocate n r tenant) = ⊥
NoNode _ = Unit {0}

-- a request that is not the new one is found after the growth as before it
request-grown : (c : Configuration) (maker : Option Maker) (g : Growth) (s : State) (r : RequestId) → ((priority : ℕ) (asked : Asked) → g ≡ Growth.Request priority asked → same_request (next_id priority s) r ≡ false) → request_in r (grown c maker g s).requests ≡ request_in r s.requests
request-grown c maker (Growth.Request priority asked) s r other = request_in-insert _ r s.requests (other priority asked refl)
request-grown c maker (Growth.Registration p) s r other = made-look (λ (t : State). request_in r t.requests) maker (λ session t. registers t session p) s (λ session t. refl)
request-grown c maker (Growth.JoinRequest r0) s r other = made-look (λ (rows : List RequestEntry). request_in r rows) maker _ s.requests (λ session rows. request_in-queue r0 r (joined session (request_queue r0 rows)) rows)
request-grown c maker _ s r other = refl

pub grown-request : (c : Configuration) (maker : Option Maker) (g : Growth) (s : State) (r : RequestId) → NoRequest g → request_in r (grown c maker g s).requests ≡ request_in r s.requests
grown-request c maker g s r none = request-grown c maker g s r (λ priority asked is. absurd (subst (λ (x : Growth). NoRequest x) is none))

-- the same for a request with an earlier number
pub found-grown : (c : Configuration) (s : State) (maker : Option Maker) (growth : Growth) (r : RequestId) → r.seq < s.next_request → request_in r (grown c maker growth s).requests ≡ request_in r s.requests
found-grown c s maker growth r low = request-grown c maker growth s r (λ priority asked is. grind (arith, nat_tests))

pub grown-node : (c : Configuration) (maker : Option Maker) (g : Growth) (s : State) (n : NodeId) → NoNode g → node_in n (grown c maker g s).nodes ≡ node_in n s.nodes
grown-node c maker (Growth.Node kept) s n none = absurd none
grown-node c maker (Growth.Allocate n0 r tenant) s n none = absurd none
grown-node c maker (Growth.Registration p) s n none = made-look (λ (t : State). node_in n t.nodes) maker (λ session t. registers t session p) s (λ session t. refl)
grown-node c maker (Growth.JoinNode n0) s n none = made-look (λ (rows : List NodeEntry). node_in n rows) maker _ s.nodes (λ session rows. node_in-queue n0 n (joined session (node_queue n0 rows)) rows)
grown-node c maker _ s n none = refl

-- the next number of a node does not fall
pub next-more : (c : Configuration) (maker : Option Maker) (g : Growth) (s : State) → s.next_node ≤ (grown c maker g s).next_node
next-more c maker x2 s = grind (arith, nat_tests)

-- neither does that of a request
pub next-grown : (c : Configuration) (maker : Option Maker) (g : Growth) (s : State) → s.next_request ≤ (grown c maker g s).next_request
next-grown c maker x2 s = grind (arith, nat_tests)

-- ## what happens to requests

-- no request changes: nothing happens, or a session leaves a queue
abbrev pub IsCalm : RequestsChange → Type 0
IsCalm RequestsChange.Same = Unit {0}
IsCalm (RequestsChange.Leave r) = Unit {0}
IsCalm _ = ⊥

pub calm-request : (maker : Option Maker) (change : RequestsChange) (r : RequestId) (rows : List RequestEntry) → IsCalm change → request_in r (requests_changed maker change rows) ≡ request_in r rows
calm-request maker RequestsChange.Same r rows calm = refl
calm-request maker (RequestsChange.Leave r0) r rows calm = made-look (λ (old : List RequestEntry). request_in r old) maker _ rows (λ session old. request_in-queue r0 r (left session (request_queue r0 old)) old)
calm-request maker _ r rows calm = absurd calm

-- a session leaves a node's queue
pub leave-node : (maker : Option Maker) (n0 n : NodeId) (rows : List NodeEntry) → node_in n (by_maker maker (λ session old. put_node_queue n0 (left session (node_queue n0 old)) old) rows) ≡ node_in n rows
leave-node maker n0 n rows = made-look (λ (old : List NodeEntry). node_in n old) maker _ rows (λ session old. node_in-queue n0 n (left session (node_queue n0 old)) old)

-- ## all of it

pub left-request : (ended : SessionsChange) (r : RequestId) (rows : List RequestEntry) → request_in r (requests_left ended rows) ≡ request_in r rows
left-request (SessionsChange.End session) r rows = request_in-left session r rows
left-request _ r rows = refl

pub left-node : (ended : SessionsChange) (n : NodeId) (rows : List NodeEntry) → node_in n (nodes_left ended rows) ≡ node_in n rows
left-node (SessionsChange.End session) n rows = node_in-left session n rows
left-node _ n rows = refl

module _ (c : Configuration) (s : State) (ch : Changes) (maker : Option Maker) (g : Growth) where
  pub requests-after : (change : RequestsChange) → ch.maker ≡ maker → ch.grows ≡ g → ch.requests ≡ change → (r : RequestId)
      → request_in r (changed c ch s).requests ≡ request_in r (requests_changed maker change (grown c maker g s).requests)
  requests-after change made grows to r = rw (sym made, sym grows, sym to) (left-request ch.sessions r (requests_changed ch.maker ch.requests (grown c ch.maker ch.grows s).requests))

  pub nodes-after : (change : NodesChange) → ch.maker ≡ maker → ch.grows ≡ g → ch.nodes ≡ change → (n : NodeId)
      → node_in n (changed c ch s).nodes ≡ node_in n (nodes_changed maker (grown c maker g s).tick change (grown c maker g s).nodes)
  nodes-after change made grows to n = rw (sym made, sym grows, sym to) (left-node ch.sessions n (nodes_changed ch.maker (grown c ch.maker ch.grows s).tick ch.nodes (grown c ch.maker ch.grows s).nodes))

  pub next-after : ch.maker ≡ maker → ch.grows ≡ g → (changed c ch s).next_node ≡ (grown c maker g s).next_node
  next-after made grows = rw (sym made, sym grows) refl

-- # how a look-up of a node after the changes of an event differs from one before it

-- ## steps

-- a record is put, freed, taken over by a job, or allocated
pub data NodeChange (s : State) (ch : Changes) (n : NodeId) (old k : NodeRecord) : Type 0 where
  IsPut : ch.nodes ≡ NodesChange.Put n k → NodeChange s ch n old k
  IsFreed : (r : RequestId) → ch.nodes ≡ NodesChange.FreeAll r → is_request r old.allocated_to ≡ true → k ≡ freed old → NodeChange s ch n old k
  IsUsed : (numbers : List NodeId) → ch.nodes ≡ NodesChange.TakeOver numbers → list_any (λ m. m.0 == n.0) numbers ≡ true → k ≡ used_from s.tick old → NodeChange s ch n old k
  IsAllocated : (r : RequestId) (tenant : Option TenantId) → ch.grows ≡ Growth.Allocate n r tenant → k ≡ record old { allocated_to = Some r; tenant = tenant } → NodeChange s ch n old k

-- a node is as before, or is changed, new or gone
pub data NodeStep (s : State) (ch : Changes) (n : NodeId) (before after : Option NodeRecord) : Type 0 where
  Stays : after ≡ before → NodeStep s ch n before after
  Altered : (old k : NodeRecord) → before ≡ Some old → after ≡ Some k → NodeChange s ch n old k → NodeStep s ch n before after
  Added : (k : NodeRecord) → before ≡ None → after ≡ Some k → ch.grows ≡ Growth.Node k → n ≡ record { 0 = s.next_node } → NodeStep s ch n before after
  Removed : (old : NodeRecord) → before ≡ Some old → after ≡ None → ch.nodes ≡ NodesChange.Remove n → NodeStep s ch n before after

module _ (c : Configuration) (s : State) (ch : Changes) (numbered : IsNumbered s) (n : NodeId) where
  abbrev Step : List NodeEntry → Type 0
  Step rows = NodeStep s ch n (node_in n s.nodes) (node_in n rows)

  step-mapped : (rows : List NodeEntry) (p : NodeRecord → Bool) (f : NodeRecord → NodeRecord) → node_in n rows ≡ option_map (λ k. cond (p k) (f k) k) (node_in n s.nodes) → ((old : NodeRecord) → p old ≡ true → NodeChange s ch n old (f old)) → Step rows
  step-mapped rows p f looks how = by (node_in n s.nodes) refl where
    by : (o : Option NodeRecord) → node_in n s.nodes ≡ o → Step rows
    by None none = Stays (looks ∙ ap (λ (o : Option NodeRecord). option_map (λ k. cond (p k) (f k) k) o) none ∙ sym none)
    by (Some old) is =
        let now = looks ∙ ap (λ (o : Option NodeRecord). option_map (λ k. cond (p k) (f k) k) o) is in
        by_bool (λ _. Step rows) (p old) (λ passes. Altered old (f old) is (now ∙ ap (λ (b : Bool). Some (cond b (f old) old)) passes) (how old passes))
        (λ fails. Stays (now ∙ ap (λ (b : Bool). Some (cond b (f old) old)) fails ∙ sym is))

  step-grown : (g : Growth) → ch.grows ≡ g → Step (grown c ch.maker g s).nodes
  step-grown (Growth.Node kept) at = by (s.next_node == n.0) refl where
    by : (b : Bool) → (s.next_node == n.0) ≡ b → Step (grown c ch.maker (Growth.Node kept) s).nodes
    by true same =
        let none : node_in n s.nodes ≡ None = node_in-later n s.next_node s.nodes numbered.nodes_below (grind (arith, nat_tests)) in
        Added kept none (node_in-new _ n s.nodes same none) at (sym (same_node-is (record { 0 = s.next_node }) n same))
    by false other = Stays (node_in-other _ n s.nodes other)
  step-grown (Growth.Allocate m r tenant) at = by ch.maker where
    by : (maker : Option Maker) → Step (grown c maker (Growth.Allocate m r tenant) s).nodes
    by None = Stays refl
    by (Some maker) =
        step-mapped (change_first (λ e. e.id.0 == m.0) (allocated r tenant maker.session) s.nodes) (λ _. m.0 == n.0) (λ k. record k { allocated_to = Some r; tenant = tenant }) (node_in-allocated m n r tenant maker.session s.nodes)
        (λ old same. IsAllocated r tenant (at ∙ ap (λ (x : NodeId). Growth.Allocate x r tenant) (same_node-is m n same)) refl)
  step-grown g at = Stays (grown-node c ch.maker g s n tt)

  step-changed : (change : NodesChange) → ch.nodes ≡ change → Step (nodes_changed ch.maker s.tick change s.nodes)
  step-changed (NodesChange.Put m kept) at =
      step-mapped (put_node m kept s.nodes) (λ _. m.0 == n.0) (λ _. kept) (node_in-put m n kept s.nodes) (λ old same. IsPut (at ∙ ap (λ (x : NodeId). NodesChange.Put x kept) (same_node-is m n same)))
  step-changed (NodesChange.Remove m) at = by (m.0 == n.0) refl (node_in n s.nodes) refl where
    by : (b : Bool) → (m.0 == n.0) ≡ b → (o : Option NodeRecord) → node_in n s.nodes ≡ o → Step (remove_node m s.nodes)
    by false other o is = Stays (node_in-remove m n s.nodes other)
    by true same None none = Stays (node_in-removed m n s.nodes numbered.nodes_rise same ∙ sym none)
    by true same (Some old) is = Removed old is (node_in-removed m n s.nodes numbered.nodes_rise same) (at ∙ ap (λ (x : NodeId). NodesChange.Remove x) (same_node-is m n same))
  step-changed (NodesChange.Leave m) at = Stays (leave-node ch.maker m n s.nodes)
  step-changed (NodesChange.FreeAll r) at = step-mapped (all_freed r s.nodes) (λ k. is_request r k.allocated_to) freed (node_in-freed r n s.nodes) (λ old mine. IsFreed r at mine refl)
  step-changed (NodesChange.TakeOver numbers) at =
      step-mapped (all_in_use s.tick numbers s.nodes) (λ _. list_any (λ m. m.0 == n.0) numbers) (used_from s.tick) (node_in-in_use s.tick numbers n s.nodes) (λ old among. IsUsed numbers at among refl)
  step-changed _ at = Stays refl

  -- where nodes change, nothing grows
  emptied-alone : (r : RequestId) (x : RequestsChange) → RequestsPremise c s ch x → EmptiesRequest r x → ch.grows ≡ Growth.Nothing
  emptied-alone r x premise empties = grind (arith, nat_tests, remove-alone)

  alone : Premises c s ch → (change : NodesChange) → NodesPremise c s ch change → (change ≡ NodesChange.Same) ⊎ (ch.grows ≡ Growth.Nothing)
  alone pre NodesChange.Same premise = inl refl
  alone pre (NodesChange.FreeAll r) premise = inr (emptied-alone r ch.requests pre.requests premise)
  alone pre (NodesChange.TakeOver numbers) premise = inr premise.1.same_size
  alone pre _ premise = inr premise.same_size

  pub node-step : Premises c s ch → NodeStep s ch n (node_in n s.nodes) (node_in n (changed c ch s).nodes)
  node-step pre = by (alone pre ch.nodes pre.nodes) where
    by : (ch.nodes ≡ NodesChange.Same) ⊎ (ch.grows ≡ Growth.Nothing) → NodeStep s ch n (node_in n s.nodes) (node_in n (changed c ch s).nodes)
    by (inl same) = subst (λ (o : Option NodeRecord). NodeStep s ch n (node_in n s.nodes) o) (sym (nodes-after c s ch ch.maker ch.grows NodesChange.Same refl refl same n)) (step-grown ch.grows refl)
    by (inr none) = subst (λ (o : Option NodeRecord). NodeStep s ch n (node_in n s.nodes) o) (sym (nodes-after c s ch ch.maker Growth.Nothing ch.nodes refl none refl n)) (step-changed ch.nodes refl)
