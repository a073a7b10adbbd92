-- the jobs of a requester by their place in its window: which are to begin, which were given their nodes, and which an accepted event can be of
use Rattle.np_jobs.proofs.Prelude.{Bool, Configuration, Done, Err, Event, IsAmong, Job, JobId, JobRecord, List, None, Ok, Option, Phase, Refusal, RequestRecord, Requester, RequesterId, Result, SemId, SessionId, Some, State, among, and-first, and-second, ap, arith, before-end, by_bool, count-cons, count_by, drop, eqb-true, false, false_from_ne_true, find, finishable-by, first_full, has_fulfilled_request, has_handle, if◌then◌else◌, is_asked, is_finishable, is_fulfilled, is_full, is_in_window, is_job_to_acquire, is_job_to_begin, is_job_to_finish, is_job_to_take, is_new, is_none, is_over, is_own, is_supplied, is_unfinished, is_unfinished_job, job_is, jobs_from, jobs_of, judge, length, list_any, maker, may_acquire, may_begin, may_finish, may_release, may_take, missing_handles, nat_le, nat_lt, nat_tests, needed, none-is, none_missing, not, not-true, on-check, on-found, on-given, on-need, on-vacant, one, option_and_then, option_map, option_map_or, own_job, phase_is, refl, request_in, request_state_of, requester_or_janitor, row_holds, slice_get, subst, suc, such-one, sym, take, then-ok, true, unfinished_from, unheld, waits_for_handles, was_given, window_of, zero, zip, ℕ, [], ◌&&◌, ◌+◌, ◌<◌, ◌==◌, ◌>>=◌, ◌||◌, ◌∙◌, ◌∷◌, ◌≡◌, ◌≤◌}

-- # the jobs that pass a test: each is one of the jobs, and their numbers rise

module _ (passes : JobId → JobRecord → Bool) where
  -- ## a job that is listed

  -- the job's number, from the first number on, and its record, which passes
  pub record IsListed (number : ℕ) (jobs : List JobRecord) (j : JobId) : Type 0 where
    pub place : ℕ
    pub number_is : j.0 ≡ number + place
    pub kept : JobRecord
    pub there : slice_get jobs place ≡ Some kept
    pub passed : passes j kept ≡ true

  later_listed : (number : ℕ) (first : JobRecord) (jobs : List JobRecord) (j : JobId) → IsListed (suc number) jobs j → IsListed number (first ∷ jobs) j
  later_listed number first jobs j later = record { place = suc later.place; number_is = omega (arith, later.number_is); kept = later.kept; there = later.there; passed = later.passed }

  listed-by : (number at : ℕ) (first : JobRecord) (jobs : List JobRecord) (j : JobId) (b : Bool) → passes (record { 0 = number }) first ≡ b → ((k : ℕ) → slice_get (jobs_from passes (suc number) jobs) k ≡ Some j → IsListed (suc number) jobs j) → slice_get (jobs_from passes number (first ∷ jobs)) at ≡ Some j → IsListed number (first ∷ jobs) j
  listed-by number zero first jobs j true in-it rest found =
      let told : Some (record { 0 = number }) ≡ Some j = rw in-it at found in
      let same : record { 0 = number } ≡ j = cc in
      let here : number ≡ j.0 = ap (λ (x : JobId). x.0) same in
      record { place = 0; number_is = omega (arith, here); kept = first; there = refl; passed = subst (λ (x : JobId). passes x first ≡ true) same in-it }
  listed-by number (suc at) first jobs j true in-it rest found = later_listed number first jobs j (rest at (rw in-it at found))
  listed-by number at first jobs j false out-of-it rest found = later_listed number first jobs j (rest at (rw out-of-it at found))

  -- a job among those that pass is one of the jobs, and passes
  pub listed : (number : ℕ) (jobs : List JobRecord) (at : ℕ) (j : JobId) → slice_get (jobs_from passes number jobs) at ≡ Some j → IsListed number jobs j
  listed number [] at j found = absurd cc
  listed number (first ∷ jobs) at j found = listed-by number at first jobs j (passes (record { 0 = number }) first) refl (λ k is. listed (suc number) jobs k j is) found

  -- ## two jobs that are listed

  -- each place further on adds one at least to the number
  far : (number : ℕ) (jobs : List JobRecord) (at : ℕ) (j : JobId) → slice_get (jobs_from passes number jobs) at ≡ Some j → number + at ≤ j.0
  far number [] at j found = absurd cc
  far number (first ∷ jobs) zero j found = grind (arith, nat_tests, found, far (suc number) jobs zero j)
  far number (first ∷ jobs) (suc at) j found = grind (arith, nat_tests, found, far (suc number) jobs at j, far (suc number) jobs (suc at) j)

  -- of two of them the one at the later place has the larger number, by as much at least
  pub apart : (number : ℕ) (jobs : List JobRecord) (one other : ℕ) (x y : JobId) → one ≤ other → slice_get (jobs_from passes number jobs) one ≡ Some x → slice_get (jobs_from passes number jobs) other ≡ Some y → x.0 + other ≤ y.0 + one
  apart number [] one other x y order left right = absurd cc
  apart number (first ∷ jobs) zero other x y order left right = grind (arith, nat_tests, left, right, far number (first ∷ jobs) other y right, apart (suc number) jobs zero other x y)
  apart number (first ∷ jobs) (suc one) zero x y order left right = absurd (omega (arith, order))
  apart number (first ∷ jobs) (suc one) (suc other) x y order left right =
      let low : one ≤ other = omega (arith, order) in
      grind (arith, nat_tests, left, right, order, low, apart (suc number) jobs one other x y low, apart (suc number) jobs (suc one) (suc other) x y order)

  -- of two of them the one with the larger number is at the later place
  pub in-order : (number : ℕ) (jobs : List JobRecord) (one other : ℕ) (x y : JobId) → slice_get (jobs_from passes number jobs) one ≡ Some x → slice_get (jobs_from passes number jobs) other ≡ Some y → x.0 ≤ y.0 → one ≤ other
  in-order number jobs one other x y left right order = by_bool (λ b. one ≤ other) (nat_le one other) (λ test. grind (arith, nat_tests, test)) (λ test.
      let past : other < one = grind (arith, nat_tests, test) in
      absurd (omega (arith, order, past, apart number jobs other one y x (omega (arith, past)) right left)))

-- # the jobs of a requester that are not over, by their place among them

-- ## the configuration's rows from a number on

-- the row at a number, and the rows after it
from_number : {X : Type 0} (xs : List X) (i : ℕ) → (slice_get xs i ≡ slice_get (drop i xs) 0) × (drop (suc i) xs ≡ drop 1 (drop i xs))
from_number [] zero = (refl, refl)
from_number [] (suc i) = (refl, refl)
from_number (x ∷ xs) zero = (refl, refl)
from_number (x ∷ xs) (suc i) = from_number xs i

-- ## the place of a job

-- the row at place i is the requester's and not over, and so are `at` rows before it
pub record IsPlaced (q : RequesterId) (rows : List (Job × JobRecord)) (i at : ℕ) : Type 0 where
  pub passes : option_map_or (is_unfinished q) (slice_get rows i) false ≡ true
  pub count : count_by (is_unfinished q) (take i rows) ≡ at

-- the job's number, from the first number on
pub record IsFrom (q : RequesterId) (number : ℕ) (rows : List Job) (jobs : List JobRecord) (at : ℕ) (j : JobId) : Type 0 where
  pub place : ℕ
  pub number_is : j.0 ≡ number + place
  pub placed : IsPlaced q (zip rows jobs) place at

-- a list counts one more than what follows its first member, if that one passes
pub counted : {X : Type 0} (p : X → Bool) (x : X) (xs : List X) (b : Bool) → p x ≡ b → count_by p (x ∷ xs) ≡ (if b then suc (count_by p xs) else count_by p xs)
counted p x xs true is = let more : count_by p (x ∷ xs) ≡ suc (count_by p xs) = omega (arith, count-cons p x xs, ap one is) in more
counted p x xs false is = let same : count_by p (x ∷ xs) ≡ count_by p xs = omega (arith, count-cons p x xs, ap one is) in same

-- one place further
one_on : (q : RequesterId) (number : ℕ) (job : Job) (rows : List Job) (kept : JobRecord) (jobs : List JobRecord) (at : ℕ) (j : JobId) (b : Bool) → is_unfinished q (job, kept) ≡ b → IsFrom q (suc number) rows jobs at j → IsFrom q number (job ∷ rows) (kept ∷ jobs) (if b then suc at else at) j
one_on q number job rows kept jobs at j b is later = record {
  place = suc later.place;
  number_is = omega (arith, later.number_is);
  placed = record { passes = later.placed.passes; count = counted (is_unfinished q) (job, kept) (take later.place (zip rows jobs)) b is ∙ ap (λ (n : ℕ). if b then suc n else n) later.placed.count };
}

module _ (c : Configuration) (q : RequesterId) where
  -- the job is the requester's and not over, by its row
  by_row : (number : ℕ) (job : Job) (kept : JobRecord) → slice_get c.jobs number ≡ Some job → is_unfinished_job c q (record { 0 = number }) kept ≡ is_unfinished q (job, kept)
  by_row number job kept is = rw is refl

  without_row : (number : ℕ) (kept : JobRecord) → slice_get c.jobs number ≡ None → is_unfinished_job c q (record { 0 = number }) kept ≡ false
  without_row number kept is = rw is refl

  module _ (number : ℕ) (job : Job) (rows : List Job) (kept : JobRecord) (jobs : List JobRecord) (j : JobId) (row : slice_get c.jobs number ≡ Some job) (rest : (at : ℕ) → slice_get (unfinished_from c q (suc number) jobs) at ≡ Some j → IsFrom q (suc number) rows jobs at j) where
    from_here : (b : Bool) (at : ℕ) → is_unfinished q (job, kept) ≡ b → slice_get (unfinished_from c q number (kept ∷ jobs)) at ≡ Some j → IsFrom q number (job ∷ rows) (kept ∷ jobs) at j
    from_here true zero passes found =
        let first : Some (record { 0 = number }) ≡ Some j = rw (by_row number job kept row, passes) at found in
        let here : number ≡ j.0 = cc in
        record { place = 0; number_is = omega (arith, here); placed = record { passes = passes; count = refl } }
    from_here true (suc at) passes found = one_on q number job rows kept jobs at j true passes (rest at (rw (by_row number job kept row, passes) at found))
    from_here false at fails found = one_on q number job rows kept jobs at j false fails (rest at (rw (by_row number job kept row, fails) at found))

  -- the job at a place among them is such a job, and the place is the number of such jobs before it
  pub from : (number : ℕ) (rows : List Job) (jobs : List JobRecord) (at : ℕ) (j : JobId) → drop number c.jobs ≡ rows → slice_get (unfinished_from c q number jobs) at ≡ Some j → IsFrom q number rows jobs at j
  from number rows [] at j is found = absurd cc
  from number [] (kept ∷ jobs) at j is found =
      let row = from_number c.jobs number in
      let later = from (suc number) [] jobs at j (row.1 ∙ ap (drop 1) is) (rw (without_row number kept (row.0 ∙ ap (λ (xs : List Job). slice_get xs 0) is)) at found) in
      absurd (let no : false ≡ true = later.placed.passes in cc)
  from number (job ∷ rows) (kept ∷ jobs) at j is found =
      let row = from_number c.jobs number in
      from_here number job rows kept jobs j (row.0 ∙ ap (λ (xs : List Job). slice_get xs 0) is) (λ later told. from (suc number) rows jobs later j (row.1 ∙ ap (drop 1) is) told) (is_unfinished q (job, kept)) at refl found

-- ## the window

zip-at : {X Y : Type 0} (xs : List X) (ys : List Y) (i : ℕ) (x : X) (y : Y) → slice_get (zip xs ys) i ≡ Some (x, y) → (slice_get xs i ≡ Some x) × (slice_get ys i ≡ Some y)
zip-at [] ys i x y is = absurd cc
zip-at (a ∷ xs) [] i x y is = absurd cc
zip-at {X = X} {Y = Y} (a ∷ xs) (b ∷ ys) zero x y is = let same : (a, b) ≡ (x, y) = cc in (ap (λ (p : X × Y). Some p.0) same, ap (λ (p : X × Y). Some p.1) same)
zip-at (a ∷ xs) (b ∷ ys) (suc i) x y is = zip-at xs ys i x y is

module _ (c : Configuration) (s : State) (q : RequesterId) where
  -- the job at a place among them is in the window if and only if the place is
  pub in-window : (at : ℕ) (j : JobId) → slice_get (unfinished_from c q 0 s.jobs) at ≡ Some j → is_in_window c s q j ≡ nat_lt at (window_of c q)
  in-window at j found =
      let is : IsFrom q 0 c.jobs s.jobs at j = from c q 0 c.jobs s.jobs at j refl found in
      let number : j.0 ≡ is.place = omega (arith, is.number_is) in
      rw (number, is.placed.passes, is.placed.count) refl

  window_row : (j : JobId) (o : Option (Job × JobRecord)) → slice_get (jobs_of c s) j.0 ≡ o → is_in_window c s q j ≡ true → (kept : JobRecord) × ((slice_get s.jobs j.0 ≡ Some kept) × (is_unfinished_job c q j kept ≡ true))
  window_row j None there is = absurd (let no : false ≡ true = rw there at is in cc)
  window_row j (Some pair) there is =
      let rows = zip-at c.jobs s.jobs j.0 pair.0 pair.1 there in
      let passes : is_unfinished q pair ≡ true = and-first _ _ (rw there at is) in
      (pair.1, (rows.1, rw rows.0 passes))

  -- a job in the window is at a place of it
  window-place : (j : JobId) → is_in_window c s q j ≡ true → (at : ℕ) × ((at < window_of c q) × (slice_get (unfinished_from c q 0 s.jobs) at ≡ Some j))
  window-place j is =
      let row = window_row j (slice_get (jobs_of c s) j.0) refl is in
      let place = among (is_unfinished_job c q) 0 s.jobs j.0 row.0 j (omega arith) row.1.0 row.1.1 in
      let within : nat_lt place.at (window_of c q) ≡ true = sym (in-window place.at j place.there) ∙ is in
      (place.at, (grind (arith, nat_tests), place.there))

  unfinished_place : (j : JobId) (o : Option JobRecord) → slice_get s.jobs j.0 ≡ o → option_map_or (is_unfinished_job c q j) o false ≡ true → IsAmong (is_unfinished_job c q) 0 s.jobs j
  unfinished_place j None there is = absurd cc
  unfinished_place j (Some kept) there is = among (is_unfinished_job c q) 0 s.jobs j.0 kept j (omega arith) there is

  -- the requester's own, and not over
  abbrev pub IsOpen : JobId → Type 0
  IsOpen j = option_map_or (is_unfinished_job c q j) (slice_get s.jobs j.0) false ≡ true

  -- a job that is over, or of another requester, is in no window
  pub over-outside : (j : JobId) → option_map_or (is_unfinished_job c q j) (slice_get s.jobs j.0) false ≡ false → is_in_window c s q j ≡ false
  over-outside j is = false_from_ne_true (is_in_window c s q j) (λ within.
      let row = window_row j (slice_get (jobs_of c s) j.0) refl within in
      let no : true ≡ false = sym row.1.1 ∙ rw row.1.0 at is in
      cc)

  module _ (j : JobId) (own : IsOpen j) (last : ℕ) (width : last + 1 ≡ window_of c q) where
    -- if the window's last place is past the end, each job that is not over is in the window
    pub last-none : slice_get (unfinished_from c q 0 s.jobs) last ≡ None → is_in_window c s q j ≡ true
    last-none none =
        let place = unfinished_place j (slice_get s.jobs j.0) refl own in
        let low : place.at < last = before-end (unfinished_from c q 0 s.jobs) last place.at j none place.there in
        let test : nat_lt place.at (window_of c q) ≡ true = grind (arith, nat_tests) in
        in-window place.at j place.there ∙ test

    by_place : (end : JobId) → slice_get (unfinished_from c q 0 s.jobs) last ≡ Some end → (at : ℕ) → slice_get (unfinished_from c q 0 s.jobs) at ≡ Some j → (b : Bool) → nat_lt at (window_of c q) ≡ b → nat_lt at (window_of c q) ≡ nat_le j.0 end.0
    by_place end found at there true test =
        let low : at ≤ last = grind (arith, nat_tests) in
        let order : j.0 + last ≤ end.0 + at = apart (is_unfinished_job c q) 0 s.jobs at last j end low there found in
        grind (arith, nat_tests, test, low, order)
    by_place end found at there false test =
        let past : last < at = grind (arith, nat_tests) in
        let order : end.0 + at ≤ j.0 + last = apart (is_unfinished_job c q) 0 s.jobs last at end j (omega (arith, past)) found there in
        grind (arith, nat_tests, test, past, order)

    -- if there is a job at the last place, just those up to it are in the window
    pub last-some : (end : JobId) → slice_get (unfinished_from c q 0 s.jobs) last ≡ Some end → is_in_window c s q j ≡ nat_le j.0 end.0
    last-some end found =
        let place = unfinished_place j (slice_get s.jobs j.0) refl own in
        in-window place.at j place.there ∙ by_place end found place.at place.there (nat_lt place.at (window_of c q)) refl

  -- a job that is not over and comes before one in the window is in the window
  pub earlier-within : (x j : JobId) → IsOpen x → x.0 ≤ j.0 → is_in_window c s q j ≡ true → is_in_window c s q x ≡ true
  earlier-within x j stays order within =
      let place = unfinished_place x (slice_get s.jobs x.0) refl stays in
      let later = window-place j within in
      let low : place.at ≤ later.0 = in-order (is_unfinished_job c q) 0 s.jobs place.at later.0 x j place.there later.1.1 order in
      let first : place.at < window_of c q = omega (arith, low, later.1.0) in
      let test : nat_lt place.at (window_of c q) ≡ true = grind (arith, nat_tests) in
      in-window place.at x place.there ∙ test

-- a new job is not over
pub new-open : (p : Phase) → is_new p ≡ true → not (is_over p) ≡ true
new-open p is = grind (arith, nat_tests)

-- # a job of a requester is to begin if it is new and need not wait for semaphores

-- ## semaphores that are not missing

-- if a list counts none, none is found in it that also passes a second test
uncounted : {X : Type 0} (p full : X → Bool) (xs : List X) → count_by p xs ≡ 0 → find (λ y. p y && full y) xs ≡ None
uncounted p full [] none = refl
uncounted p full (x ∷ xs) none = grind (arith, nat_tests, counted p x xs true, counted p x xs false, uncounted p full xs)

module _ (c : Configuration) (s : State) (j : JobId) (row : Job) where
  -- a job that has all its handles lacks no full semaphore
  none-full : missing_handles s j row ≡ 0 → first_full c s j row ≡ None
  none-full none = uncounted (λ (x : SemId). not (has_handle j s.handles x)) (is_full c s) row.semaphores none

  -- a job that asks for its nodes first, or has all its handles, need not wait
  pub ready-may : (row.resources_first || (missing_handles s j row == 0)) ≡ true → may_begin c s j row ≡ true
  ready-may ready = by_bool (λ b. (b || (missing_handles s j row == 0)) ≡ true → (b || is_none (first_full c s j row)) ≡ true) row.resources_first
      (λ _ _. refl) (λ _ none. rw (none-full (eqb-true (missing_handles s j row) 0 none)) refl) ready

  -- nor need a job that lacks no full semaphore
  pub room-may : first_full c s j row ≡ None → may_begin c s j row ≡ true
  room-may room = by_bool (λ b. (b || is_none (first_full c s j row)) ≡ true) row.resources_first (λ first. refl) (λ first. rw room refl)

-- ## the job

-- the requester's own and new, as the configuration has it and as the machine keeps it, and it need
-- not wait for semaphores
pub record IsToBegin (c : Configuration) (s : State) (q : RequesterId) (j : JobId) : Type 0 where
  pub row : Job
  pub stands : slice_get c.jobs j.0 ≡ Some row
  pub own : (row.requester.0 == q.0) ≡ true
  pub may : may_begin c s j row ≡ true
  pub kept : JobRecord
  pub there : slice_get s.jobs j.0 ≡ Some kept
  pub new : is_new kept.phase ≡ true

module _ (c : Configuration) (s : State) (q : RequesterId) (j : JobId) where
  pub begins-listed : (is : IsToBegin c s q j) → is_job_to_begin c s q j is.kept ≡ true
  begins-listed is = rw (is.stands, is.own, is.may, is.new) refl

  pub listed-begins : (kept : JobRecord) → slice_get s.jobs j.0 ≡ Some kept → is_job_to_begin c s q j kept ≡ true → IsToBegin c s q j
  listed-begins kept there is =
      let own = such-one (λ (row : Job). (row.requester.0 == q.0) && may_begin c s j row) (slice_get c.jobs j.0) (and-first (is_own c q j (may_begin c s j)) _ is) in
      record { row = own.0; stands = own.1.0; own = and-first (own.0.requester.0 == q.0) _ own.1.1; may = and-second (own.0.requester.0 == q.0) _ own.1.1; kept = kept; there = there; new = and-second (is_own c q j (may_begin c s j)) _ is }

-- # a job that was given its nodes is to take them if it need not wait for handles, and else to acquire handles if its semaphores have room

-- ## handles

-- if a list counts none that lacks something, it is empty or one of its members has it
supplied : {X : Type 0} (has : X → Bool) (xs : List X) → count_by (λ y. not (has y)) xs ≡ 0 → ((length xs == 0) || list_any has xs) ≡ true
supplied has [] none = refl
supplied has (x ∷ xs) none = grind (arith, nat_tests, counted (λ (y : _). not (has y)) x xs true)

module _ (s : State) (j : JobId) (row : Job) where
  -- a job that has all its handles need not wait for them
  pub all-supplied : missing_handles s j row ≡ 0 → is_supplied s j row ≡ true
  all-supplied none = supplied (λ (x : SemId). has_handle j s.handles x) row.semaphores none

  -- so one that waits for handles lacks some
  pub unsupplied-missing : is_supplied s j row ≡ false → (missing_handles s j row == 0) ≡ false
  unsupplied-missing waits = false_from_ne_true (missing_handles s j row == 0) (λ none. let no : true ≡ false = sym (all-supplied (eqb-true (missing_handles s j row) 0 none)) ∙ waits in cc)

-- ## the job

-- the requester's own, it has asked for its nodes, and its request is fulfilled
pub record WasGiven (c : Configuration) (s : State) (q : RequesterId) (j : JobId) : Type 0 where
  pub row : Job
  pub stands : slice_get c.jobs j.0 ≡ Some row
  pub own : (row.requester.0 == q.0) ≡ true
  pub kept : JobRecord
  pub there : slice_get s.jobs j.0 ≡ Some kept
  pub asked : is_asked kept.phase ≡ true
  pub given : has_fulfilled_request s kept ≡ true

state-same : (o : Option RequestRecord) → option_map_or is_fulfilled (option_map (λ (request : RequestRecord). request.state) o) false ≡ option_map_or (λ (request : RequestRecord). is_fulfilled request.state) o false
state-same o = grind arith

module _ (s : State) (kept : JobRecord) where
  same_state : option_map_or is_fulfilled (request_state_of kept.request s) false ≡ has_fulfilled_request s kept
  same_state = state-same (option_and_then (λ r. request_in r s.requests) kept.request)

  given-listed : is_asked kept.phase ≡ true → has_fulfilled_request s kept ≡ true → was_given kept.phase (request_state_of kept.request s) ≡ true
  given-listed asked given = rw asked (same_state ∙ given)

  listed-given : was_given kept.phase (request_state_of kept.request s) ≡ true → has_fulfilled_request s kept ≡ true
  listed-given is = sym same_state ∙ and-second (is_asked kept.phase) (option_map_or is_fulfilled (request_state_of kept.request s) false) is

module _ (c : Configuration) (s : State) (q : RequesterId) (j : JobId) where
  pub take-listed : (is : WasGiven c s q j) → is_supplied s j is.row ≡ true → is_job_to_take c s q j is.kept ≡ true
  take-listed is supplies = rw (is.stands, is.own, supplies) (given-listed s is.kept is.asked is.given)

  pub acquire-listed : (is : WasGiven c s q j) → is_supplied s j is.row ≡ false → first_full c s j is.row ≡ None → is_job_to_acquire c s q j is.kept ≡ true
  acquire-listed is waits room = rw (is.stands, is.own, waits, room) (given-listed s is.kept is.asked is.given)

  -- it waits for handles, and finds room
  pub record IsToAcquire : Type 0 where
    pub job : WasGiven c s q j
    pub waits : is_supplied s j job.row ≡ false
    pub room : first_full c s j job.row ≡ None

  pub listed-acquire : (kept : JobRecord) → slice_get s.jobs j.0 ≡ Some kept → is_job_to_acquire c s q j kept ≡ true → IsToAcquire
  listed-acquire kept there is =
      let own = such-one (λ (row : Job). (row.requester.0 == q.0) && may_acquire c s j row) (slice_get c.jobs j.0) (and-first (is_own c q j (may_acquire c s j)) _ is) in
      let was : was_given kept.phase (request_state_of kept.request s) ≡ true = and-second (is_own c q j (may_acquire c s j)) _ is in
      let may : may_acquire c s j own.0 ≡ true = and-second (own.0.requester.0 == q.0) _ own.1.1 in
      record {
        job = record { row = own.0; stands = own.1.0; own = and-first (own.0.requester.0 == q.0) _ own.1.1; kept = kept; there = there; asked = and-first (is_asked kept.phase) _ was; given = listed-given s kept was };
        waits = not-true (is_supplied s j own.0) (and-first (not (is_supplied s j own.0)) _ may);
        room = none-is (first_full c s j own.0) (and-second (not (is_supplied s j own.0)) _ may);
      }

-- # an accepted event of a requester's session on a job: which jobs it can be of

-- a job waits for its semaphores if it is new and in the window, or has asked and its request is
-- fulfilled
waits : {P : Type 0} (new first within asked given : Bool) → ((new && first && within) || (asked && given)) ≡ true → (new ≡ true → within ≡ true → P) → (asked ≡ true → given ≡ true → P) → P
waits true true true asked given is begins goes_on = begins refl refl
waits true true false asked given is begins goes_on = goes_on (and-first asked given is) (and-second asked given is)
waits true false within asked given is begins goes_on = goes_on (and-first asked given is) (and-second asked given is)
waits false first within asked given is begins goes_on = goes_on (and-first asked given is) (and-second asked given is)

-- new, and in the window
pub record IsNewInWindow (c : Configuration) (s : State) (q : RequesterId) (j : JobId) : Type 0 where
  pub new : phase_is j s is_new ≡ true
  pub within : is_in_window c s q j ≡ true

module _ (c : Configuration) (s : State) (by : SessionId) (q : RequesterId) (who : maker s by ≡ Ok (Requester q)) (j : JobId) where
  -- what an accepted event on an own job has found
  record Own (rest : Job × JobRecord → Result Done Refusal) (what : Done) : Type 0 where
    job : Job
    kept : JobRecord
    row : slice_get c.jobs j.0 ≡ Some job
    there : slice_get s.jobs j.0 ≡ Some kept
    own : (job.requester.0 == q.0) ≡ true
    goes : rest (job, kept) ≡ Ok what

  found_own : (rest : Job × JobRecord → Result Done Refusal) (what : Done) → (own_job c s by j >>= rest) ≡ Ok what → Own rest what
  found_own rest what is = opened (slice_get c.jobs j.0) (slice_get s.jobs j.0) refl refl is where
    opened : (o : Option Job) (p : Option JobRecord) → slice_get c.jobs j.0 ≡ o → slice_get s.jobs j.0 ≡ p → (own_job c s by j >>= rest) ≡ Ok what → Own rest what
    opened None p row there is = absurd (let no : Err Refusal.NoJob ≡ Ok what = rw (who, row) at is in cc)
    opened (Some job) None row there is = absurd (let no : Err Refusal.NoJob ≡ Ok what = rw (who, row, there) at is in cc)
    opened (Some job) (Some kept) row there is = tested (job.requester.0 == q.0) refl where
      tested : (b : Bool) → (job.requester.0 == q.0) ≡ b → Own rest what
      tested true own = record { job = job; kept = kept; row = row; there = there; own = own; goes = rw (who, row, there, own) at is }
      tested false other = absurd (let no : Err Refusal.NotOwner ≡ Ok what = rw (who, row, there, other) at is in cc)

  own_by : (job : Job) → slice_get c.jobs j.0 ≡ Some job → (job.requester.0 == q.0) ≡ true → job_is j c (λ row. row.requester.0 == q.0) ≡ true
  own_by job row own = rw (row, own) refl

  -- a job is to begin if its submit is accepted, or if it is new and its acquire is accepted
  pub submit-begins : (what : Done) → judge c s (Event.Submit by j) ≡ Ok what → IsToBegin c s q j
  submit-begins what is =
      let found = found_own _ what is in
      on-need (is_new found.kept.phase) _ _ what found.goes (λ new rest.
      on-need (found.job.resources_first || (missing_handles s j found.job == 0)) _ _ what rest (λ ready _.
      record {
        row = found.job;
        stands = found.row;
        own = found.own;
        may = ready-may c s j found.job ready;
        kept = found.kept;
        there = found.there;
        new = new;
      }))

  pub acquire-begins : (what : Done) → judge c s (Event.Acquire by j) ≡ Ok what → phase_is j s is_new ≡ true → IsToBegin c s q j
  acquire-begins what is new =
      let found = found_own _ what is in
      on-need (not (is_over found.kept.phase)) _ _ what found.goes (λ _ rest.
      on-vacant (first_full c s j found.job) _ _ what rest (λ room _.
      record {
        row = found.job;
        stands = found.row;
        own = found.own;
        may = room-may c s j found.job room;
        kept = found.kept;
        there = found.there;
        new = rw found.there at new;
      }))

  pub submit-new : (what : Done) → judge c s (Event.Submit by j) ≡ Ok what → row_holds c s (Requester q) (Event.Submit by j) ≡ true → IsNewInWindow c s q j
  submit-new what is within = let begin = submit-begins what is in record { new = rw (begin.there, begin.new) refl; within = within }

  -- a job whose release is accepted is the requester's
  pub release-own : (what : Done) → judge c s (Event.Release by j) ≡ Ok what → job_is j c (λ row. row.requester.0 == q.0) ≡ true
  release-own what is =
      on-given (maker s by) _ what is (λ role made rest.
      on-check (requester_or_janitor role) _ what rest (λ _ rest.
      on-found (slice_get c.jobs j.0) _ _ what rest (λ job row rest.
      on-found (slice_get s.jobs j.0) _ _ what rest (λ _ _ rest.
      on-check (may_release job role) _ what rest (λ may _.
      let same : role ≡ Requester q = (let told : Ok role ≡ Ok (Requester q) = sym made ∙ who in cc) in
      own_by job row (needed (job.requester.0 == q.0) _ (rw same at may)))))))

  -- an acquire is of a new job, or of one that was given its nodes and whose semaphores have room
  pub acquire-either : {P : Type 0} (what : Done) → judge c s (Event.Acquire by j) ≡ Ok what → row_holds c s (Requester q) (Event.Acquire by j) ≡ true → ((is : WasGiven c s q j) → first_full c s j is.row ≡ None → P) → (IsNewInWindow c s q j → P) → P
  acquire-either what is holds goes_on begins =
      let found = found_own _ what is in
      on-need (not (is_over found.kept.phase)) _ _ what found.goes (λ _ rest.
      on-vacant (first_full c s j found.job) _ _ what rest (λ room _.
      let both : (not (missing_handles s j found.job == 0) && waits_for_handles c s q j found.job found.kept) ≡ true = rw (found.row, found.there) at holds in
      let waiting : waits_for_handles c s q j found.job found.kept ≡ true = and-second (not (missing_handles s j found.job == 0)) _ both in
      waits (is_new found.kept.phase) (not found.job.resources_first) (is_in_window c s q j) (is_asked found.kept.phase) (has_fulfilled_request s found.kept) waiting
      (λ new within. begins (record { new = rw (found.there, new) refl; within = within }))
      (λ asked given. goes_on (record { row = found.job; stands = found.row; own = found.own; kept = found.kept; there = found.there; asked = asked; given = given }) room)))

  -- a take is of a job that was given its nodes and has all its handles
  pub take-given : {P : Type 0} (what : Done) → judge c s (Event.Take by j) ≡ Ok what → ((is : WasGiven c s q j) → missing_handles s j is.row ≡ 0 → P) → P
  take-given what is takes =
      let found = found_own _ what is in
      let passed : may_take s by j found.job found.kept ≡ Ok tt = then-ok _ _ what found.goes in
      on-need (is_asked found.kept.phase) _ _ tt passed (λ asked rest.
      on-found found.kept.request _ _ tt rest (λ r named rest.
      on-found (request_in r s.requests) _ _ tt rest (λ request stands rest.
      on-need (is_fulfilled request.state) _ _ tt rest (λ fulfilled rest.
      on-check (none_missing (unheld s by request.nodes)) _ tt rest (λ _ rest.
      let given : has_fulfilled_request s found.kept ≡ true = rw (named, stands, fulfilled) refl in
      let all : missing_handles s j found.job ≡ 0 = eqb-true (missing_handles s j found.job) 0 (needed (missing_handles s j found.job == 0) _ rest) in
      takes (record { row = found.job; stands = found.row; own = found.own; kept = found.kept; there = found.there; asked = asked; given = given }) all)))))

  -- a finish is of a job that uses its nodes or whose request failed
  pub finish-listed : (what : Done) → judge c s (Event.Finish by j) ≡ Ok what → (kept : JobRecord) × ((slice_get s.jobs j.0 ≡ Some kept) × (is_job_to_finish c s q j kept ≡ true))
  finish-listed what is =
      on-given (maker s by) _ what is (λ role made rest.
      on-check (requester_or_janitor role) _ what rest (λ _ rest.
      on-found (slice_get c.jobs j.0) _ _ what rest (λ job row rest.
      on-found (slice_get s.jobs j.0) _ _ what rest (λ kept there rest.
      on-check (may_finish s job role) _ what rest (λ may rest.
      on-need (is_finishable s job kept) _ _ what rest (λ ready _.
      let same : role ≡ Requester q = (let told : Ok role ≡ Ok (Requester q) = sym made ∙ who in cc) in
      let own : (job.requester.0 == q.0) ≡ true = needed (job.requester.0 == q.0) _ (rw same at may) in
      (kept, (there, rw (row, own) (finishable-by kept.phase (option_and_then (λ r. request_in r s.requests) kept.request) _ ready)))))))))
