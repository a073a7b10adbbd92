-- the rows of a tree read into the lists of a state
use Rattle.np_keeper.proofs.Prelude.{AllByRecursion, AreHolders, Bool, Configuration, Fits, Invariant, IsCountable, IsReached, JobId, List, NodeEntry, NodeView, None, NonePass, Option, RequestEntry, RequestFits, RequestId, RequestView, Rises, Row, SemId, SessionId, Some, State, Swept, add-one, all-at, all-find, all-weaker, ap, apart, arith, cond, digits_within, drop, false, false_from_ne_true, find, get_or, get_or_from_slice_get, handles_of, insert_before, invariant-Runs, is_id_before, is_node_before, is_pair_before, itself, length, map, most, nat_lt, nat_tests, node_equal, node_one_way, node_queue, node_some_way, node_view, number_of, option_map, option_map_or, pair_equal, pair_named, pair_one_way, put_all, refl, request_entry, request_equal, request_from, request_of, request_one_way, request_queue, request_some_way, request_view, same_node, same_pair, same_request, sequence_of, slice_get, slice_get_within, subst, suc, sym, take, take_more, true, unwrap_or, zero, ℕ, [], ◌++◌, ◌+◌, ◌<◌, ◌==◌, ◌^◌, ◌∙◌, ◌∷◌, ◌≡◌, ◌≤◌}

-- # a list that is copied item by item

module _ {X : Type 0} where
  -- one more is copied
  pub take_there : (xs : List X) (i : ℕ) (x : X) → slice_get xs i ≡ Some x → take (i + 1) xs ≡ take i xs ++ x ∷ []
  take_there xs i x is = take_more xs i x (slice_get_within xs i x is) ∙ ap (λ (y : X). take i xs ++ y ∷ []) (get_or_from_slice_get xs i x x is)

  pub copied_next : (whole list later : List X) (i : ℕ) (x : X) → Some x ≡ slice_get whole i → list ≡ take i whole → later ≡ list ++ x ∷ [] → later ≡ take (i + 1) whole
  copied_next whole list later i x there copied added =
      added ∙ ap (λ (xs : List X). xs ++ x ∷ []) copied ∙ sym (take_there whole i x (sym there))

  -- there is an item at each place
  pub none_missing : (xs : List X) (i : ℕ) → i < length xs → None ≡ slice_get xs i → ⊥
  none_missing [] i within none = omega arith
  none_missing (x ∷ xs) zero within none = cc
  none_missing (x ∷ xs) (suc i) within none = none_missing xs i (omega arith) none

  -- all are copied
  pub take_whole : (xs : List X) (n : ℕ) → length xs ≡ n → take n xs ≡ xs
  take_whole [] zero is = refl
  take_whole [] (suc n) is = refl
  take_whole (x ∷ xs) zero is = absurd (let none = is in omega arith)
  take_whole (x ∷ xs) (suc n) is = ap (λ (ys : List X). x ∷ ys) (take_whole xs n (omega arith))

  -- past the end there is nothing more to copy
  pub take_past : (xs : List X) (i : ℕ) → None ≡ slice_get xs i → take i xs ≡ xs
  take_past [] zero none = refl
  take_past [] (suc i) none = refl
  take_past (x ∷ xs) zero none = absurd cc
  take_past (x ∷ xs) (suc i) none = ap (λ (ys : List X). x ∷ ys) (take_past xs i none)

-- what is copied is seen by a part of it
module _ {X Y : Type 0} (f : X → Y) where
  seen-push : (xs : List X) (x : X) → map f (xs ++ x ∷ []) ≡ map f xs ++ f x ∷ []
  seen-push [] x = refl
  seen-push (y ∷ xs) x = ap (λ (ys : List Y). f y ∷ ys) (seen-push xs x)

  there-by : (o : Option Y) (d y : Y) → (None ≡ o → ⊥) → y ≡ unwrap_or o d → Some y ≡ o
  there-by None d y some is = absurd (some refl)
  there-by (Some z) d y some is = ap Some is

  pub seen_next : (whole : List Y) (list later : List X) (i : ℕ) (x : X) (d : Y) → i < length whole → f x ≡ unwrap_or (slice_get whole i) d → map f list ≡ take i whole → later ≡ list ++ x ∷ [] → map f later ≡ take (i + 1) whole
  seen_next whole list later i x d within is copied added =
      copied_next whole (map f list) (map f later) i (f x) (there-by (slice_get whole i) d (f x) (none_missing whole i within) is) copied (ap (map f) added ∙ seen-push list x)

-- # a state that fits has lists that can be counted

pub fits-countable : (c : Configuration) (s : State) → Fits c s → length s.jobs ≡ length c.jobs → length c.jobs ≤ 4096 → IsCountable s
fits-countable c s fits jobs few = record {
  sessions = omega (arith, fits.sessions);
  registrations = omega (arith, fits.registrations);
  requests = omega (arith, fits.requests);
  nodes = omega (arith, fits.nodes);
  jobs = omega (arith, jobs, few);
  handles = all-weaker (λ (list : List JobId). length list ≤ most) (λ (list : List JobId). length list < 2 ^ 32) (λ list short. omega arith) s.handles fits.handles;
}

-- # a row that comes after all rows of a table

module _ {X : Type 0} (before : X → X → Bool) where
  ahead : (xs : List X) (i : ℕ) (x : X) → Rises before xs → slice_get xs i ≡ Some x → AllByRecursion (λ other. before other x ≡ true) (take i xs)
  ahead [] i x rises there = absurd cc
  ahead (y ∷ xs) zero x rises there = tt
  ahead (y ∷ xs) (suc i) x rises there = (all-at (λ other. before y other ≡ true) xs i x rises.0 there, ahead xs i x rises.1 there)

  -- the rows that are copied come before the one at the next place
  pub all_ahead : (xs list : List X) (i : ℕ) (x : X) → Rises before xs → list ≡ take i xs → Some x ≡ slice_get xs i → AllByRecursion (λ other. before other x ≡ true) list
  all_ahead xs list i x rises copied there = subst (AllByRecursion (λ other. before other x ≡ true)) (sym copied) (ahead xs i x rises (sym there))

-- the first that passes is the row at the place, if none before it does
found : {X : Type 0} (p : X → Bool) (xs : List X) (i : ℕ) (x : X) → slice_get xs i ≡ Some x → p x ≡ true → NonePass p (take i xs) → find p xs ≡ Some x
found p [] i x there passes none = absurd cc
found p (y ∷ xs) zero x there passes none = let same : y ≡ x = cc in rw (same, passes) refl
found p (y ∷ xs) (suc i) x there passes none = rw (none.0) (found p xs i x there passes none.1)

module _ {K X : Type 0} (key : X → K) (before same : K → K → Bool)
    (one_way : (a b : K) → before a b ≡ true → before b a ≡ false)
    (equal : (a b : K) → same a b ≡ true → a ≡ b) where
  -- no row has the key of one that comes after it
  pub not_there : (row : X) (rows : List X) → AllByRecursion (λ other. before (key other) (key row) ≡ true) rows → NonePass (λ other. same (key other) (key row)) rows
  not_there row rows all =
      all-weaker (λ other. before (key other) (key row) ≡ true) (λ other. same (key other) (key row) ≡ false)
      (λ other first. apart before same one_way equal (key other) (key row) first) rows all

  -- a row at its place is the one that is found by its key
  pub found_there : ((a b : K) → before a b ≡ false → same a b ≡ false → before b a ≡ true) → (rows : List X) (i : ℕ) (row : X) → Rises (λ a b. before (key a) (key b)) rows → slice_get rows i ≡ Some row
      → find (λ other. same (key other) (key row)) rows ≡ Some row
  found_there some_way rows i row rises there =
      found (λ other. same (key other) (key row)) rows i row there (itself before same one_way some_way (key row))
      (not_there row (take i rows) (ahead (λ a b. before (key a) (key b)) rows i row rises there))

-- # pairs put at their places: none is put twice if the last list rises

abbrev put : Swept → List Swept → List Swept
put pair sorted = insert_before (is_pair_before pair) pair sorted

-- ## all of a list but one

all_but : (P : Swept → Type 0) (pair : Swept) (list : List Swept) → AllByRecursion P (put pair list) → P pair × AllByRecursion P list
all_but P pair [] all = all
all_but P pair (other ∷ list) all = by (is_pair_before pair other) (all_but P pair list) all where
  by : (b : Bool) → (AllByRecursion P (put pair list) → P pair × AllByRecursion P list) → AllByRecursion P (cond b (pair ∷ other ∷ list) (other ∷ put pair list)) → P pair × AllByRecursion P (other ∷ list)
  by true later all = all
  by false later all = let rest = later all.1 in (rest.0, (all.0, rest.1))

-- ## the list before a pair was put in

-- none is the same as a pair that is before all
none_same : (pair : Swept) (list : List Swept) → AllByRecursion (λ other. is_pair_before pair other ≡ true) list → NonePass (λ other. same_pair other pair) list
none_same pair list all =
    all-weaker (λ (other : Swept). is_pair_before pair other ≡ true) (λ (other : Swept). same_pair other pair ≡ false)
    (λ other first. false_from_ne_true (same_pair other pair) (λ is.
    let alike : other ≡ pair = pair_equal other pair is in
    let itself : is_pair_before pair pair ≡ true = subst (λ (x : Swept). is_pair_before pair x ≡ true) alike first in
    let not : is_pair_before pair pair ≡ false = pair_one_way pair pair itself in
    cc)) list all

put_rises : (pair : Swept) (list : List Swept) → Rises is_pair_before (put pair list) → Rises is_pair_before list × NonePass (λ other. same_pair other pair) list
put_rises pair [] rises = (tt, tt)
put_rises pair (other ∷ list) rises = by (is_pair_before pair other) (put_rises pair list) rises where
  by : (b : Bool) → (Rises is_pair_before (put pair list) → Rises is_pair_before list × NonePass (λ x. same_pair x pair) list) → Rises is_pair_before (cond b (pair ∷ other ∷ list) (other ∷ put pair list))
      → Rises is_pair_before (other ∷ list) × NonePass (λ x. same_pair x pair) (other ∷ list)
  by true later rises = (rises.1, none_same pair (other ∷ list) rises.0)
  by false later rises =
      let parts = all_but (λ (x : Swept). is_pair_before other x ≡ true) pair list rises.0 in
      let rest = later rises.1 in
      ((parts.1, rest.0), (apart is_pair_before same_pair pair_one_way pair_equal other pair parts.0, rest.1))

-- what rises after all are put in rose before
all_rises : (sorted pairs : List Swept) → Rises is_pair_before (put_all sorted pairs) → Rises is_pair_before sorted
all_rises sorted [] rises = rises
all_rises sorted (pair ∷ pairs) rises = (put_rises pair sorted (all_rises (put pair sorted) pairs rises)).0

-- the next pair is not there yet
pub next_is_new : (sorted pairs : List Swept) (pair : Swept) → Rises is_pair_before (put_all sorted (pair ∷ pairs)) → NonePass (λ other. same_pair other pair) sorted
next_is_new sorted pairs pair rises = (put_rises pair sorted (all_rises (put pair sorted) pairs rises)).1

-- # the pairs of a directory's rows, put one after another

abbrev pub pair_in : Row → Swept
pair_in row = pair_named row.name

-- the pairs of the rows from a place on
abbrev pub pairs_from : ℕ → List Row → List Swept
pairs_from i rows = map pair_in (drop i rows)

pairs_here : (rows : List Row) (i : ℕ) (pair : Swept) → Some pair ≡ option_map pair_in (slice_get rows i) → pairs_from i rows ≡ pair ∷ pairs_from (suc i) rows
pairs_here [] i pair there = absurd cc
pairs_here (row ∷ rows) zero pair there = let same : pair ≡ pair_in row = cc in rw same refl
pairs_here (row ∷ rows) (suc i) pair there = pairs_here rows i pair there

pairs_past : (rows : List Row) (i : ℕ) → length rows ≡ i → pairs_from i rows ≡ []
pairs_past [] zero is = refl
pairs_past [] (suc i) is = refl
pairs_past (row ∷ rows) zero is = absurd (let none = is in omega arith)
pairs_past (row ∷ rows) (suc i) is = pairs_past rows i (omega arith)

module _ (rows : List Row) (i : ℕ) (sorted whole : List Swept) (so_far : put_all sorted (pairs_from i rows) ≡ whole) where
  -- the next pair is not there yet
  pub pair_is_new : (pair : Swept) → Some pair ≡ option_map pair_in (slice_get rows i) → Rises is_pair_before whole → NonePass (λ other. same_pair other pair) sorted
  pair_is_new pair there rises =
      next_is_new sorted (pairs_from (suc i) rows) pair
      (subst (Rises is_pair_before) (sym so_far ∙ ap (put_all sorted) (pairs_here rows i pair there)) rises)

  -- and then it is
  pub pair_put : (pair : Swept) (later : List Swept) → Some pair ≡ option_map pair_in (slice_get rows i) → later ≡ insert_before (is_pair_before pair) pair sorted → put_all later (pairs_from (i + 1) rows) ≡ whole
  pair_put pair later there is = rw (add-one, is) (sym (ap (put_all sorted) (pairs_here rows i pair there)) ∙ so_far)

  -- at the end all are put
  pub all_put : length rows ≡ i → sorted ≡ whole
  all_put is = sym (ap (put_all sorted) (pairs_past rows i is)) ∙ so_far

-- # the rows under locks, read with their queues

-- ## queues are short

queue_by : (c : Configuration) (s : State) (o : Option RequestEntry) → ((e : RequestEntry) → o ≡ Some e → RequestFits c s e) → length (option_map_or (λ e. e.queue) o []) ≤ most
queue_by c s None fits = omega arith
queue_by c s (Some e) fits = (fits e refl).queue

pub request_queue-fits : (c : Configuration) (s : State) (r : RequestId) → Fits c s → length (request_queue r s.requests) ≤ most
request_queue-fits c s r fits =
    queue_by c s (request_entry r s.requests) (λ e is. all-find (RequestFits c s) (λ (other : RequestEntry). same_request other.id r) s.requests e fits.each_request is)

-- ## a row and its queue

row-there : {E V : Type 0} (view : E → V) (row : V → List SessionId → E) (waits : V → List SessionId) (v : V) (queue : List SessionId) (o : Option E) → ((e : E) → o ≡ Some e → row (view e) (waits (view e)) ≡ e) → Some v ≡ option_map view o → queue ≡ waits v → Some (row v queue) ≡ o
row-there view row waits v queue None rows is same = absurd cc
row-there view row waits v queue (Some e) rows is same = let seen : v ≡ view e = cc in rw (same, seen) (ap Some (rows e refl))

module _ (c : Configuration) (s : State) (reached : IsReached c s) where
  -- what holds of every state that a run leads to
  abbrev holds : Invariant c s
  holds = invariant-Runs c reached.journal s reached.runs

  pub requests_ahead : (list : List RequestEntry) (i : ℕ) (e : RequestEntry) → list ≡ take i s.requests → Some e ≡ slice_get s.requests i → AllByRecursion (λ other. is_id_before other.id e.id ≡ true) list
  requests_ahead list i e copied there = all_ahead (λ (a b : RequestEntry). is_id_before a.id b.id) s.requests list i e holds.numbered.requests_rise copied there

  pub nodes_ahead : (list : List NodeEntry) (i : ℕ) (e : NodeEntry) → list ≡ take i s.nodes → Some e ≡ slice_get s.nodes i → AllByRecursion (λ other. is_node_before other.id e.id ≡ true) list
  nodes_ahead list i e copied there = all_ahead (λ (a b : NodeEntry). is_node_before a.id b.id) s.nodes list i e holds.numbered.nodes_rise copied there

  request-queue : (i : ℕ) (e : RequestEntry) → slice_get s.requests i ≡ Some e → request_queue e.id s.requests ≡ e.queue
  request-queue i e there =
      ap (λ (o : Option RequestEntry). option_map_or (λ (x : RequestEntry). x.queue) o [])
      (found_there (λ (x : RequestEntry). x.id) is_id_before same_request request_one_way request_equal request_some_way s.requests i e holds.numbered.requests_rise there)

  node-queue : (i : ℕ) (e : NodeEntry) → slice_get s.nodes i ≡ Some e → node_queue e.id s.nodes ≡ e.queue
  node-queue i e there =
      ap (λ (o : Option NodeEntry). option_map_or (λ (x : NodeEntry). x.queue) o [])
      (found_there (λ (x : NodeEntry). x.id) is_node_before same_node node_one_way node_equal node_some_way s.nodes i e holds.numbered.nodes_rise there)

  -- what a view shows, with the queue of its id, is the row
  pub request_there : (i : ℕ) (view : RequestView) (queue : List SessionId) → Some view ≡ option_map request_view (slice_get s.requests i) → queue ≡ request_queue view.id s.requests
      → Some (record { id = view.id; kept = view.kept; queue = queue }) ≡ slice_get s.requests i
  request_there i view queue is same =
      row-there request_view (λ (v : RequestView) (q : List SessionId). record { id = v.id; kept = v.kept; queue = q }) (λ (v : RequestView). request_queue v.id s.requests) view queue (slice_get s.requests i)
      (λ e at. let waits : request_queue e.id s.requests ≡ e.queue = request-queue i e at in rw waits refl) is same

  pub node_there : (i : ℕ) (view : NodeView) (queue : List SessionId) → Some view ≡ option_map node_view (slice_get s.nodes i) → queue ≡ node_queue view.id s.nodes
      → Some (record { id = view.id; kept = view.kept; queue = queue }) ≡ slice_get s.nodes i
  node_there i view queue is same =
      row-there node_view (λ (v : NodeView) (q : List SessionId). record { id = v.id; kept = v.kept; queue = q }) (λ (v : NodeView). node_queue v.id s.nodes) view queue (slice_get s.nodes i)
      (λ e at. let waits : node_queue e.id s.nodes ≡ e.queue = node-queue i e at in rw waits refl) is same

-- past the last row there is none
pub none_seen : {X V : Type 0} (view : X → V) (o : Option X) → None ≡ option_map view o → None ≡ o
none_seen view None is = refl
none_seen view (Some x) is = absurd cc

-- # the jobs with a handle of a semaphore stand in order

holders_rise : (jobs : ℕ) (handles : List (List JobId)) (x : SemId) → AllByRecursion (AreHolders jobs) handles → Rises (λ a b. nat_lt a.0 b.0) (handles_of x handles)
holders_rise jobs handles x all = by (slice_get handles x.0) refl where
  by : (o : Option (List JobId)) → slice_get handles x.0 ≡ o → Rises (λ a b. nat_lt a.0 b.0) (unwrap_or o [])
  by None is = tt
  by (Some list) is = (all-at (AreHolders jobs) handles x.0 list all is).rise

-- those that are copied come before the next one
pub holders_ahead : (jobs : ℕ) (handles : List (List JobId)) (x : SemId) → AllByRecursion (AreHolders jobs) handles → (list : List JobId) (i : ℕ) (j : JobId) → list ≡ take i (handles_of x handles) → Some j ≡ slice_get (handles_of x handles) i
    → AllByRecursion (λ other. nat_lt other.0 j.0 ≡ true) list
holders_ahead jobs handles x all list i j copied there = all_ahead (λ (a b : JobId). nat_lt a.0 b.0) (handles_of x handles) list i j (holders_rise jobs handles x all) copied there

-- # ten digits, read as the sequence number of a request's text

-- no other number of digits is one
pub ten_none : (digits : List ℕ) → (length digits ≡ 10 → ⊥) → None ≡ sequence_of digits
unfolding sequence_of
ten_none digits other = let no : (length digits == 10) ≡ false = grind (arith, nat_tests) in rw no refl

from_by : (o : Option ℕ) → option_map (λ (r : RequestId). r.seq) (request_from (Some 100) o) ≡ o
from_by None = refl
from_by (Some n) = refl

-- the sequence number of a request of priority 100
pub ten_read : (digits : List ℕ) → option_map (λ (r : RequestId). r.seq) (request_of (49 ∷ 48 ∷ 48 ∷ 45 ∷ digits)) ≡ sequence_of digits
unfolding request_of number_of digits_within
ten_read digits = from_by (sequence_of digits)

-- ten digits one by one
abbrev pub ten_items : List ℕ → List ℕ
ten_items digits = get_or digits 0 0 ∷ get_or digits 1 0 ∷ get_or digits 2 0 ∷ get_or digits 3 0 ∷ get_or digits 4 0 ∷ get_or digits 5 0 ∷ get_or digits 6 0 ∷ get_or digits 7 0 ∷ get_or digits 8 0 ∷ get_or digits 9 0 ∷ []

ten_of : (digits : List ℕ) → length digits ≡ 10 → ten_items digits ≡ digits
ten_of (a ∷ b ∷ c ∷ d ∷ e ∷ f ∷ g ∷ h ∷ i ∷ j ∷ []) is = refl
ten_of (a ∷ b ∷ c ∷ d ∷ e ∷ f ∷ g ∷ h ∷ i ∷ j ∷ k ∷ rest) is = absurd (let long = is in omega arith)
ten_of other is = absurd (let short = is in omega arith)

-- what is told of the request is the number
pub ten_told : (digits : List ℕ) (o : Option RequestId) → length digits ≡ 10 → o ≡ request_of (49 ∷ 48 ∷ 48 ∷ 45 ∷ ten_items digits) → option_map (λ (r : RequestId). r.seq) o ≡ sequence_of digits
ten_told digits o ten told =
    ap (option_map (λ (r : RequestId). r.seq)) told
    ∙ ap (λ (ds : List ℕ). option_map (λ (r : RequestId). r.seq) (request_of (49 ∷ 48 ∷ 48 ∷ 45 ∷ ds))) (ten_of digits ten)
    ∙ ten_read digits
