-- who holds, waits and is registered in a stored state, as its tree shows it
use Rattle.np_tree_rows.proofs.Prelude.{AllByRecursion, AllZip, AreHolders, Bool, Configuration, Handle, HasHandles, HasNodeLock, HasQueue, HasText, IfSome, IsGood, IsStored, IsWait, IsWhole, Job, JobId, Launcher, Launchers, List, NodeEntry, NodeId, NodeLock, None, Option, Place, PoolId, Registration, RequestEntry, RequestId, RequestLock, Rises, Row, SemId, Semaphore, Semaphores, SessionId, Some, Stat, State, Swept, SweptPair, SweptPairs, TreeState, above, add-one, all-at, all-find, all-numbered, all-weaker, any-by_name, any-mapped, ap, arith, at-range, by_bool, by_name, bytes_eq, bytes_eq-from, cond, drop, drop_all, false, filter, find, find-passes, find_named, handle_row, handles_of, has_handle, is_among, is_named, is_owner, is_pair, is_queued, is_session, is_some, is_swept, launcher_row, length, length-map, list_any, list_any-none, map, map-some, named-other, nat_le, nat_lt, nat_tests, node_if_queued, option_and_then, option_map, option_map_or, or_parts, path_of, place_name, places, refl, registered, request_if_queued, request_of, request_of-spelled, semaphore_row, slice_get, slice_get_past, stat_at, subst, suc, swept_row, sym, tree_session, true, under, unwrap_or, zero, ℕ, [], ◌+◌, ◌-◌, ◌<◌, ◌==◌, ◌||◌, ◌∙◌, ◌∷◌, ◌≡◌, ◌≤◌}
use Rattle.np_tree_rows.proofs.Shown.{owner-named, rows-none, IsOnly, find-ordered}
use Rattle.np_tree_rows.proofs.Stored.{length-by_name}
use Rattle.np_layout.proofs.Creates.{named-by}
use Rattle.np_layout.proofs.Deletes.{named-as}

-- # the members that pass a test, counted and found by a walk over all

module _ {A B : Type 0} (p : A → Bool) (f : A → B) where
  -- a member's value if it passes
  abbrev pub if_passes : A → Option B
  if_passes a = cond (p a) (Some (f a)) None

  -- the values of those that pass, from a place on
  abbrev pub passing_from : ℕ → List A → List B
  passing_from at list = map f (filter p (drop at list))

  abbrev with_first : Option B → List B → List B
  with_first None rest = rest
  with_first (Some b) rest = b ∷ rest

  step : (list : List A) (at : ℕ) → passing_from at list ≡ with_first (option_and_then if_passes (slice_get list at)) (passing_from (suc at) list)
  step [] zero = refl
  step [] (suc at) = refl
  step (a ∷ list) zero = grind arith
  step (a ∷ list) (suc at) = step list at

  step-by : (list : List A) (at : ℕ) (o : Option B) → o ≡ option_and_then if_passes (slice_get list at) → passing_from at list ≡ with_first o (passing_from (suc at) list)
  step-by list at o is = step list at ∙ ap (λ (x : Option B). with_first x (passing_from (suc at) list)) (sym is)

  -- one that passes is counted, another is not
  pub count-step : (list : List A) (at : ℕ) (o : Option B) → o ≡ option_and_then if_passes (slice_get list at) → length (passing_from at list) ≡ cond (is_some o) 1 0 + length (passing_from (at + 1) list)
  count-step list at o is = rw add-one (ap length (step-by list at o is) ∙ by o) where
    by : (x : Option B) → length (with_first x (passing_from (suc at) list)) ≡ cond (is_some x) 1 0 + length (passing_from (suc at) list)
    by x = grind arith

  -- one that passes is the first of those from its place on
  pub first-here : (list : List A) (at left : ℕ) (b : B) → Some b ≡ option_and_then if_passes (slice_get list at) → left ≡ 0 → slice_get (passing_from at list) left ≡ Some b
  first-here list at left b is first = ap (slice_get (passing_from at list)) first ∙ ap (λ (xs : List B). slice_get xs 0) (step-by list at (Some b) is)

  pub first-later : (list : List A) (at left : ℕ) (b : B) → Some b ≡ option_and_then if_passes (slice_get list at) → (left ≡ 0 → ⊥) → slice_get (passing_from at list) left ≡ slice_get (passing_from (suc at) list) (left - 1)
  first-later list at zero b is later = absurd (later refl)
  first-later list at (suc left) b is later =
      let minus : suc left - 1 ≡ left = omega arith in
      ap (λ (xs : List B). slice_get xs (suc left)) (step-by list at (Some b) is) ∙ ap (slice_get (passing_from (suc at) list)) (sym minus)

  -- another is passed over
  pub first-over : (list : List A) (at left : ℕ) → None ≡ option_and_then if_passes (slice_get list at) → slice_get (passing_from at list) left ≡ slice_get (passing_from (suc at) list) left
  first-over list at left is = ap (λ (xs : List B). slice_get xs left) (step-by list at None is)

  -- none is left past the end
  pub passing-past : (list : List A) (at : ℕ) → length list ≤ at → passing_from at list ≡ []
  passing-past list at past = ap (λ (xs : List A). map f (filter p xs)) (drop_all at list past)

-- # the handles and the swept pairs of a stored state, as its tree has them

-- ## whether a place is there

find-any : {X : Type 0} (p : X → Bool) (xs : List X) → is_some (find p xs) ≡ list_any p xs
find-any p [] = refl
find-any p (x ∷ xs) = grind (arith, find-any p xs)

-- there is a stat at a good place if a row of its directory has its name
pub there-named : (t : TreeState) (p dir : Place) → IsWhole t.nodes → IsGood p → above p ≡ Some dir → is_some (stat_at t (path_of p)) ≡ list_any (is_named (place_name p)) (under dir t)
there-named t p dir whole good over =
    sym (map-some (λ (stat : Stat). stat.owner) (stat_at t (path_of p)))
    ∙ ap is_some (owner-named t p dir whole good over)
    ∙ map-some (λ (row : Row). row.owner) (find_named (place_name p) (under dir t))
    ∙ find-any (is_named (place_name p)) (under dir t)

-- there is none if there is no stat
is-none : (o : Option Stat) → is_some o ≡ false → o ≡ None
is-none o is = grind arith

-- ## handles

-- what is true of no jobs and of each semaphore's is true of any semaphore's
pub of-handles : (P : List JobId → Type 0) (handles : List (List JobId)) (x : SemId) → P [] → AllByRecursion P handles → P (handles_of x handles)
of-handles P handles x none all = each handles x.0 all where
  each : (list : List (List JobId)) (at : ℕ) → AllByRecursion P list → P (unwrap_or (slice_get list at) [])
  each [] at all = none
  each (jobs ∷ list) zero all = all.0
  each (jobs ∷ list) (suc at) all = each list at all.1

abbrev semaphore_of : Place → ℕ
semaphore_of (Semaphore x) = x.0
semaphore_of other = 0

module _ (c : Configuration) (s : State) (t : TreeState) (stored : IsStored c s t) where
  -- there is no node of a semaphore that is none of the site's
  no-semaphore : (x : SemId) → IsGood (Semaphore x) → length s.handles ≤ x.0 → stat_at t (path_of (Semaphore x)) ≡ None
  no-semaphore x good past =
      is-none (stat_at t (path_of (Semaphore x)))
      (there-named t (Semaphore x) Semaphores stored.whole good refl
      ∙ ap (list_any (is_named (place_name (Semaphore x)))) stored.lays.semaphores.rows
      ∙ any-by_name (is_named (place_name (Semaphore x))) (map semaphore_row (places s.handles))
      ∙ list_any-none (is_named (place_name (Semaphore x))) (map semaphore_row (places s.handles))
      (all-numbered (λ (row : Row). is_named (place_name (Semaphore x)) row ≡ false) semaphore_row (length s.handles) 0 (length s.handles) (omega arith)
      (λ n low. named-other (Semaphore x) (Semaphore (record { 0 = n })) good (let few = stored.carried.good.semaphores in omega arith) refl
      (λ equal. let number : n ≡ x.0 = ap semaphore_of equal in omega arith))))

  -- the rows below a semaphore are those of its handles, of which there are none if it is none of the site's
  pub handles-under : (x : SemId) → IsGood (Semaphore x) → under (Semaphore x) t ≡ by_name (map (handle_row x) (handles_of x s.handles))
  handles-under x good = by (nat_lt x.0 (length s.handles)) refl where
    by : (b : Bool) → nat_lt x.0 (length s.handles) ≡ b → under (Semaphore x) t ≡ by_name (map (handle_row x) (handles_of x s.handles))
    by true is =
        let low : x.0 < length s.handles = grind (arith, nat_tests) in
        (at-range (λ n. HasHandles s.handles t (record { 0 = n })) (length s.handles) 0 x.0 (omega arith) (omega arith) stored.lays.semaphores.each).rows
    by false is =
        let past : length s.handles ≤ x.0 = grind (arith, nat_tests) in
        rows-none t (path_of (Semaphore x)) stored.whole (no-semaphore x good past)
        ∙ sym (ap (λ (o : Option (List JobId)). by_name (map (handle_row x) (unwrap_or o []))) (slice_get_past s.handles x.0 past))

  -- there are as many as handles
  pub handles-counted : (x : SemId) → IsGood (Semaphore x) → length (under (Semaphore x) t) ≡ length (handles_of x s.handles)
  handles-counted x good =
      ap length (handles-under x good) ∙ length-by_name (map (handle_row x) (handles_of x s.handles)) ∙ length-map (handles_of x s.handles) (handle_row x)

-- ## the names of handles

-- there is a node of a job's handle if the job has it
pub handle-there : (c : Configuration) (s : State) (t : TreeState) (x : SemId) (j : JobId) → IsStored c s t → IsGood (Handle x j) → is_some (stat_at t (path_of (Handle x j))) ≡ has_handle j s.handles x
handle-there c s t x j stored good =
    there-named t (Handle x j) (Semaphore x) stored.whole good refl
    ∙ ap (list_any (is_named (place_name (Handle x j)))) (handles-under c s t stored x good.0)
    ∙ any-by_name (is_named (place_name (Handle x j))) (map (handle_row x) (handles_of x s.handles))
    ∙ any-mapped (handle_row x) (is_named (place_name (Handle x j))) (λ other. other.0 == j.0) (handles_of x s.handles)
    (all-weaker (λ (other : JobId). IsGood (Job other)) (λ (other : JobId). is_named (place_name (Handle x j)) (handle_row x other) ≡ (other.0 == j.0))
    (λ other other_good. named-by x j other (other.0 == j.0) refl good (good.0, other_good)) (handles_of x s.handles)
    (of-handles (λ jobs. AllByRecursion (λ other. IsGood (Job other)) jobs) s.handles x tt stored.carried.good.handles))

-- ## swept pairs

pair-is : (n : NodeId) (server : ℕ) (pair : SweptPair) → is_pair n server pair ≡ true → pair ≡ record { node = n; server = server }
pair-is n server pair is =
    let number : pair.node.0 ≡ n.0 = grind (arith, nat_tests) in
    let other : pair.server ≡ server = grind (arith, nat_tests) in
    λ i. record { node = record { 0 = number i }; server = other i }

pair-self : (pair : SweptPair) → is_pair pair.node pair.server pair ≡ true
pair-self pair = grind (arith, nat_tests)

pair-named : (n : NodeId) (server : ℕ) (pair : SweptPair) (b : Bool) → is_pair n server pair ≡ b → IsGood (Swept n server) → IsGood (Swept pair.node pair.server) → bytes_eq (place_name (Swept pair.node pair.server)) (place_name (Swept n server)) ≡ b
pair-named n server pair =
    named-as (λ (p : SweptPair). Swept p.node p.server) (λ a b. is_pair b.node b.server a) (λ a b one. let nodes : a.node ≡ b.node = cc in let servers : a.server ≡ b.server = cc in λ i. record { node = nodes i; server = servers i }) (λ a b. refl)
    (λ a b is. pair-is b.node b.server a is) pair-self pair (record { node = n; server = server })

-- there is a node of a pair if it was swept
pub swept-there : (c : Configuration) (s : State) (t : TreeState) (n : NodeId) (server : ℕ) → IsStored c s t → IsGood (Swept n server) → is_some (stat_at t (path_of (Swept n server))) ≡ is_swept n server s.swept
swept-there c s t n server stored good =
    there-named t (Swept n server) SweptPairs stored.whole good refl
    ∙ ap (list_any (is_named (place_name (Swept n server)))) stored.lays.swept.rows
    ∙ any-by_name (is_named (place_name (Swept n server))) (map swept_row s.swept)
    ∙ any-mapped swept_row (is_named (place_name (Swept n server))) (is_pair n server) s.swept
    (all-weaker (λ (pair : SweptPair). IsGood (Swept pair.node pair.server)) (λ (pair : SweptPair). is_named (place_name (Swept n server)) (swept_row pair) ≡ is_pair n server pair)
    (λ pair pair_good. pair-named n server pair (is_pair n server pair) refl good pair_good) s.swept stored.carried.good.swept)

-- # the members of a list that rises by number, from a number on

past-first : {A : Type 0} (a : A) (list : List A) (at : ℕ) → (at ≡ 0 → ⊥) → slice_get (a ∷ list) at ≡ slice_get list (at - 1)
past-first a list zero later = absurd (later refl)
past-first a list (suc at) later = let minus : at ≡ suc at - 1 = omega arith in ap (slice_get list) minus

module _ {A : Type 0} (key : A → ℕ) where
  -- by number
  abbrev pub is_before : A → A → Bool
  is_before a b = nat_lt (key a) (key b)

  abbrev has_number : ℕ → A → Bool
  has_number n a = key a == n

  -- those whose numbers are not below this one
  abbrev pub from_number : ℕ → List A → List A
  from_number n list = filter (λ a. nat_le n (key a)) list

  -- they are all, from the first number on
  pub from-zero : (list : List A) → from_number 0 list ≡ list
  from-zero [] = refl
  from-zero (a ∷ list) = grind (arith, nat_tests, from-zero list)

  -- a number that is none of theirs is passed over
  pub from-over : (n : ℕ) (list : List A) → list_any (has_number n) list ≡ false → from_number n list ≡ from_number (suc n) list
  from-over n [] none = refl
  from-over n (a ∷ list) none =
      let parts = or_parts (key a == n) (list_any (has_number n) list) none in
      grind (arith, nat_tests, parts.0, from-over n list parts.1)

  none-after : (n : ℕ) (a : A) (list : List A) → n ≤ key a → AllByRecursion (λ b. is_before a b ≡ true) list → list_any (has_number n) list ≡ false
  none-after n a [] low all = refl
  none-after n a (b ∷ list) low all = grind (arith, nat_tests, all.0, none-after n a list low all.1)

  -- one of that number is the first of them
  pub from-here : (n : ℕ) (a : A) (list : List A) → Rises is_before list → find (has_number n) list ≡ Some a → from_number n list ≡ a ∷ from_number (suc n) list
  from-here n a [] rises is = absurd cc
  from-here n a (b ∷ list) rises is =
      by_bool (λ (found : Bool). cond found (Some b) (find (has_number n) list) ≡ Some a → from_number n (b ∷ list) ≡ a ∷ from_number (suc n) (b ∷ list)) (key b == n)
      (λ here told.
      let same : b ≡ a = cc in
      let over = from-over n list (none-after n b list (grind (arith, nat_tests)) rises.0) in
      grind (arith, nat_tests, over))
      (λ other told.
      let past = all-find (λ (c : A). is_before b c ≡ true) (has_number n) list a rises.0 told in
      let at = find-passes (has_number n) list a told in
      grind (arith, nat_tests, from-here n a list rises.1 told))
      is

  -- there are none from a number on that is past all
  pub from-end : (n : ℕ) (list : List A) → AllByRecursion (λ a. key a < n) list → from_number n list ≡ []
  from-end n [] all = refl
  from-end n (a ∷ list) all = grind (arith, nat_tests, all.0, from-end n list all.1)

  module _ (n at : ℕ) (a : A) (list : List A) (rises : Rises is_before list) (is : find (has_number n) list ≡ Some a) where
    -- it is at the first place
    pub at-first : at ≡ 0 → slice_get (from_number n list) at ≡ Some a
    at-first first = ap (slice_get (from_number n list)) first ∙ ap (λ (those : List A). slice_get those 0) (from-here n a list rises is)

    -- and the others are at the places after it
    pub at-later : (at ≡ 0 → ⊥) → slice_get (from_number n list) at ≡ slice_get (from_number (suc n) list) (at - 1)
    at-later later = ap (λ (those : List A). slice_get those at) (from-here n a list rises is) ∙ past-first a (from_number (suc n) list) at later

-- the number of a job
abbrev pub number_of_job : JobId → ℕ
number_of_job j = j.0

-- a job among others is found
pub job-found : (k : ℕ) (jobs : List JobId) → is_among (record { 0 = k }) jobs ≡ true → find (λ j. j.0 == k) jobs ≡ Some (record { 0 = k })
job-found k [] is = absurd cc
job-found k (j ∷ jobs) is =
    by_bool (λ (b : Bool). (b || is_among (record { 0 = k }) jobs) ≡ true → cond b (Some j) (find (λ (other : JobId). other.0 == k) jobs) ≡ Some (record { 0 = k })) (j.0 == k)
    (λ here any. let number : j.0 ≡ k = grind (arith, nat_tests) in ap (λ (n : ℕ). Some (record { 0 = n })) number) (λ other any. job-found k jobs any) is

-- what is found for a pool is its registration
pub registration-found : (p : PoolId) (session : SessionId) (list : List Registration) → Some session ≡ registered p list → find (λ g. g.pool.0 == p.0) list ≡ Some (record { pool = p; session = session })
registration-found p session list is = by (find (λ g. g.pool.0 == p.0) list) refl is where
  by : (o : Option Registration) → find (λ g. g.pool.0 == p.0) list ≡ o → Some session ≡ option_map (λ (g : Registration). g.session) o → o ≡ Some (record { pool = p; session = session })
  by None there told = absurd cc
  by (Some g) there told =
      let at = find-passes (λ (x : Registration). x.pool.0 == p.0) list g there in
      let number : g.pool.0 ≡ p.0 = grind (arith, nat_tests) in
      let who : g.session ≡ session = cc in
      λ i. Some (record { pool = record { 0 = number i }; session = who i })

-- and there is none of a pool for which nobody is registered
pub registration-none : (p : PoolId) (list : List Registration) → None ≡ registered p list → list_any (λ g. g.pool.0 == p.0) list ≡ false
registration-none p [] is = refl
registration-none p (g ∷ list) is = grind (arith, registration-none p list)

-- the handles of each semaphore of a stored state rise, and their jobs exist
pub are-holders : (c : Configuration) (s : State) (t : TreeState) (x : SemId) → IsStored c s t → AreHolders (length c.jobs) (handles_of x s.handles)
are-holders c s t x stored = of-handles (AreHolders (length c.jobs)) s.handles x (record { rise = tt; exist = tt }) stored.carried.ordered.handles

-- # the queues that a session is in, in a stored state and in its tree

-- the ids of those in whose queues a session is, from a place on
abbrev pub requests_from : SessionId → ℕ → State → List RequestId
requests_from session at s = passing_from (λ (e : RequestEntry). is_queued session e.queue) (λ (e : RequestEntry). e.id) at s.requests

abbrev pub nodes_from : SessionId → ℕ → State → List NodeId
nodes_from session at s = passing_from (λ (e : NodeEntry). is_queued session e.queue) (λ (e : NodeEntry). e.id) at s.nodes

-- ## whether a session waits

-- the rows of a lock that are a session's
abbrev pub is_waiting : SessionId → Row → Bool
is_waiting session row = is_owner (tree_session session) row.owner

same-number : (m n : ℕ) → (m + 1 == n + 1) ≡ (m == n)
same-number m n = grind (arith, nat_tests)

-- a session waits at a lock if it is in its queue
pub lock-any : (next : ℕ) (session : SessionId) (rows : List Row) (queue : List SessionId) → AllZip (IsWait next) rows queue → list_any (is_waiting session) rows ≡ is_queued session queue
lock-any next session [] [] zip = refl
lock-any next session (row ∷ rows) (other ∷ queue) zip =
    ap (λ (b : Bool). b || list_any (is_waiting session) rows) (ap (is_waiting session) zip.0.is ∙ same-number other.0 session.0)
    ∙ ap (λ (b : Bool). is_session other session || b) (lock-any next session rows queue zip.1)
lock-any next session _ _ zip = absurd zip

-- one more member
pub any-step : {X : Type 0} (p : X → Bool) (xs : List X) (i : ℕ) → list_any p (drop i xs) ≡ (option_map_or p (slice_get xs i) false || list_any p (drop (suc i) xs))
any-step p [] zero = refl
any-step p [] (suc i) = refl
any-step p (x ∷ xs) zero = refl
any-step p (x ∷ xs) (suc i) = any-step p xs i

-- the member at a place, if the session is in its queue
queued-by : {E I : Type 0} (id_of : E → I) (queue_of : E → List SessionId) (lock : I → Place) (t : TreeState) (session : SessionId) (o : Option E) →
    ((e : E) → o ≡ Some e → list_any (is_waiting session) (under (lock (id_of e)) t) ≡ is_queued session (queue_of e)) → (id : I) (b : Bool) → Some id ≡ option_map id_of o → list_any (is_waiting session) (under (lock id) t) ≡ b →
    cond b (Some id) None ≡ option_and_then (λ (e : E). cond (is_queued session (queue_of e)) (Some (id_of e)) None) o
queued-by id_of queue_of lock t session None waits id b found is = absurd cc
queued-by id_of queue_of lock t session (Some e) waits id b found is =
    let same : id ≡ id_of e = cc in
    let queued : b ≡ is_queued session (queue_of e) = sym is ∙ ap (λ (x : _). list_any (is_waiting session) (under (lock x) t)) same ∙ waits e refl in
    rw (queued, same) refl

-- ## the names of requests and nodes

pub has-text : (text : List ℕ) (o : Option RequestId) → o ≡ request_of text → IfSome o HasText
has-text text None is = tt
has-text text (Some id) is = (request_of-spelled id text (sym is)).0

module _ (c : Configuration) (s : State) (t : TreeState) (stored : IsStored c s t) where
  -- a session waits at the lock of a request if it is in its queue
  pub request-waits : (at : ℕ) (session : SessionId) (e : RequestEntry) → slice_get s.requests at ≡ Some e → list_any (is_waiting session) (under (RequestLock e.id) t) ≡ is_queued session e.queue
  request-waits at session e there =
      let queue = all-at (λ (x : RequestEntry). HasQueue (RequestLock x.id) x.queue t) s.requests at e stored.lays.request_locks.queues there in
      lock-any queue.next session (under (RequestLock e.id) t) e.queue queue.waits

  -- the request at a place, if the session is in its queue
  pub request-queued : (at : ℕ) (session : SessionId) (request : RequestId) (b : Bool) → Some request ≡ option_map (λ (e : RequestEntry). e.id) (slice_get s.requests at) → list_any (is_waiting session) (under (RequestLock request) t) ≡ b →
      cond b (Some request) None ≡ option_and_then (request_if_queued session) (slice_get s.requests at)
  request-queued at session = queued-by (λ (e : RequestEntry). e.id) (λ (e : RequestEntry). e.queue) RequestLock t session (slice_get s.requests at) (request-waits at session)

  -- ## the same of nodes

  -- a session waits at the lock of a node if it is in its queue
  pub node-waits : (at : ℕ) (session : SessionId) (e : NodeEntry) → slice_get s.nodes at ≡ Some e → list_any (is_waiting session) (under (NodeLock e.id) t) ≡ is_queued session e.queue
  node-waits at session e there =
      let lock = all-at (HasNodeLock t) s.nodes at e stored.lays.node_locks there in
      lock-any lock.queue.next session (under (NodeLock e.id) t) e.queue lock.queue.waits

  -- the node at a place, if the session is in its queue
  pub node-queued : (at : ℕ) (session : SessionId) (node : NodeId) (b : Bool) → Some node ≡ option_map (λ (e : NodeEntry). e.id) (slice_get s.nodes at) → list_any (is_waiting session) (under (NodeLock node) t) ≡ b →
      cond b (Some node) None ≡ option_and_then (node_if_queued session) (slice_get s.nodes at)
  node-queued at session = queued-by (λ (e : NodeEntry). e.id) (λ (e : NodeEntry). e.queue) NodeLock t session (slice_get s.nodes at) (node-waits at session)

-- # who is registered for each pool, as the tree shows it, and the registrations in the order of pools

-- ## the row of a registration

-- the name of a registration is its pool's alone
named-pool : (p q : PoolId) (b : Bool) → (q.0 == p.0) ≡ b → IsGood (Launcher p) → IsGood (Launcher q) → bytes_eq (place_name (Launcher q)) (place_name (Launcher p)) ≡ b
named-pool p q =
    named-as Launcher (λ a b. a.0 == b.0) (λ a b one. cc) (λ a b. refl) (λ a b same. let number : a.0 ≡ b.0 = grind (arith, nat_tests) in ap (λ (n : ℕ). record { 0 = n }) number) (λ a. let itself : (a.0 == a.0) ≡ true = grind (arith, nat_tests) in itself) q p

-- by pool
abbrev pub pool_before : Registration → Registration → Bool
pool_before a b = nat_lt a.pool.0 b.pool.0

module _ (p : PoolId) (p_good : IsGood (Launcher p)) where
  abbrev is_of : Registration → Bool
  is_of g = g.pool.0 == p.0

  abbrev name : List ℕ
  name = place_name (Launcher p)

  apart-only : (g : Registration) (o : Option Row) → IsGood (Launcher g.pool) → is_of g ≡ false → is_named name (launcher_row g) ≡ true → Some (launcher_row g) ≡ o
  apart-only g o good apart is = absurd (let other = named-pool p g.pool false apart p_good good in cc)

  -- those after the pool's
  later-only : (g : Registration) (o : Option Row) (list : List Registration) → is_of g ≡ true → AllByRecursion (λ h. pool_before g h ≡ true) list → AllByRecursion (λ h. IsGood (Launcher h.pool)) list → IsOnly name o (map launcher_row list)
  later-only g o [] is after good = tt
  later-only g o (h ∷ list) is after good =
      (apart-only h o good.0 (let past = after.0 in grind (arith, nat_tests)), later-only g o list is after.1 good.1)

  only-by : (g : Registration) (list : List Registration) (b : Bool) → is_of g ≡ b → IsGood (Launcher g.pool) → AllByRecursion (λ h. pool_before g h ≡ true) list → AllByRecursion (λ h. IsGood (Launcher h.pool)) list →
      IsOnly name (option_map launcher_row (find is_of list)) (map launcher_row list) → IsOnly name (option_map launcher_row (cond b (Some g) (find is_of list))) (map launcher_row (g ∷ list))
  only-by g list true is g_good after good rest = ((λ named. refl), later-only g (Some (launcher_row g)) list is after good)
  only-by g list false is g_good after good rest = (apart-only g (option_map launcher_row (find is_of list)) g_good is, rest)

  registered-only : (list : List Registration) → AllByRecursion (λ g. IsGood (Launcher g.pool)) list → Rises pool_before list → IsOnly name (option_map launcher_row (find is_of list)) (map launcher_row list)
  registered-only [] good rises = tt
  registered-only (g ∷ list) good rises = only-by g list (is_of g) refl good.0 rises.0 good.1 (registered-only list good.1 rises.1)

  registered-any : (list : List Registration) → AllByRecursion (λ g. IsGood (Launcher g.pool)) list → list_any (is_named name) (map launcher_row list) ≡ is_some (option_map launcher_row (find is_of list))
  registered-any [] good = refl
  registered-any (g ∷ list) good = grind (arith, named-pool p g.pool (is_of g) refl p_good good.0, registered-any list good.1)

-- ## the owner of its node

owner-is : (o : Option Stat) (f : Option Registration) → option_map (λ (stat : Stat). stat.owner) o ≡ option_map (λ (row : Row). row.owner) (option_map launcher_row f) → option_and_then (λ (stat : Stat). stat.owner) o ≡ option_map (λ (g : Registration). g.session.0 + 1) f
owner-is o f is = grind arith

-- the tree's session that owns the registration's node is the one that is registered
pub registered-owner : (c : Configuration) (s : State) (t : TreeState) → IsStored c s t → (p : PoolId) → IsGood (Launcher p) → option_and_then (λ (stat : Stat). stat.owner) (stat_at t (path_of (Launcher p))) ≡ option_map (λ (g : Registration). g.session.0 + 1) (find (λ (g : Registration). g.pool.0 == p.0) s.registrations)
registered-owner c s t stored p good =
    owner-is (stat_at t (path_of (Launcher p))) (find (λ (g : Registration). g.pool.0 == p.0) s.registrations)
    (owner-named t (Launcher p) Launchers stored.whole good refl
    ∙ ap (λ (rows : List Row). option_map (λ (row : Row). row.owner) (find_named (place_name (Launcher p)) rows)) stored.lays.launchers
    ∙ ap (option_map (λ (row : Row). row.owner)) (find-ordered (place_name (Launcher p)) (map launcher_row s.registrations) (option_map launcher_row (find (λ (g : Registration). g.pool.0 == p.0) s.registrations))
    (registered-only p good s.registrations stored.carried.good.registrations stored.carried.ordered.registrations)
    (registered-any p good s.registrations stored.carried.good.registrations)))

-- nobody is registered if no session owns the node
pub nobody-owns : (f : Option Registration) → None ≡ option_map (λ (g : Registration). g.session.0 + 1) f → None ≡ option_map (λ (g : Registration). g.session) f
nobody-owns f is = grind arith

-- no session of the tree has the number 0
pub owner-nothing : (owner : ℕ) (f : Option Registration) → owner ≡ 0 → Some owner ≡ option_map (λ (g : Registration). g.session.0 + 1) f → None ≡ option_map (λ (g : Registration). g.session) f
owner-nothing owner f zero_is is = grind arith

-- the session that is registered is the one before the owner
pub owner-session : (owner : ℕ) (f : Option Registration) → Some owner ≡ option_map (λ (g : Registration). g.session.0 + 1) f → Some (record { 0 = owner - 1 }) ≡ option_map (λ (g : Registration). g.session) f
owner-session owner None is = absurd cc
owner-session owner (Some g) is = let same : owner ≡ g.session.0 + 1 = cc in let less : owner - 1 ≡ g.session.0 = omega arith in ap (λ (n : ℕ). Some (record { 0 = n })) less

-- ## the walk of the pools

abbrev pub pool_of : Registration → ℕ
pool_of g = g.pool.0

module _ (c : Configuration) (s : State) (t : TreeState) (stored : IsStored c s t) (at left : ℕ) where
  -- after the last pool
  pub walk-over : (n : ℕ) → length c.pools ≤ n → slice_get s.registrations at ≡ slice_get (from_number pool_of n s.registrations) left → None ≡ slice_get s.registrations at
  walk-over n past is =
      sym (is ∙ ap (λ (list : List Registration). slice_get list left) (from-end pool_of n s.registrations
      (all-weaker (λ (g : Registration). g.pool.0 < length c.pools) (λ g. g.pool.0 < n) (λ g low. omega arith) s.registrations stored.carried.ordered.pools)))

  module _ (p : PoolId) (is : slice_get s.registrations at ≡ slice_get (from_number pool_of p.0 s.registrations) left) where
    -- past a pool for which nobody is registered
    pub walk-next : None ≡ registered p s.registrations → slice_get s.registrations at ≡ slice_get (from_number pool_of (p.0 + 1) s.registrations) left
    walk-next none = rw add-one (is ∙ ap (λ (list : List Registration). slice_get list left) (from-over pool_of p.0 s.registrations (registration-none p s.registrations none)))

    -- at a pool's registration
    pub walk-here : (session : SessionId) → Some session ≡ registered p s.registrations → left ≡ 0 → Some (record { pool = p; session = session }) ≡ slice_get s.registrations at
    walk-here session there last =
        sym (is ∙ at-first pool_of p.0 left (record { pool = p; session = session }) s.registrations stored.carried.ordered.registrations (registration-found p session s.registrations there) last)

    -- past it
    pub walk-later : (session : SessionId) → Some session ≡ registered p s.registrations → (left ≡ 0 → ⊥) → slice_get s.registrations at ≡ slice_get (from_number pool_of (p.0 + 1) s.registrations) (left - 1)
    walk-later session there more =
        rw add-one (is ∙ at-later pool_of p.0 left (record { pool = p; session = session }) s.registrations stored.carried.ordered.registrations (registration-found p session s.registrations there) more)
