-- searches for the first job that passes, where jobs wait in lines for semaphores
use Rattle.np_active.proofs.Prelude.{ActiveOf, AllByRecursion, AreActive, Bool, Configuration, Decides, Group, IsBest, Job, JobId, JobKind, JobRecord, List, Member, None, Option, RequesterId, Rises, SemId, Some, State, all-weaker, and_parts, ap, arith, at_line, by_bool, cases_order, comes_first, cond, earlier_job, equal-numbers, false, filter-nothing, find, find-passes, first_full, first_line, first_of_line, group-apart, group-equal, group-one_way, group-turned, has_handle, ids-has, ids-rise, ids_in, inl, inr, is_free, is_full, is_group_before, is_job_before, is_job_in, is_job_to_acquire, is_job_to_begin, is_member_before, is_none, is_supplied, job_equal, job_group, job_one_way, job_some_way, job_to_acquire, job_to_begin, jobs_from, lacking_group, lacking_ones, length, line_after, line_if, line_of, list_any, map, may_begin_of, nat_tests, not, not-true, option_map, option_map_or, or_parts, prompt_group, prompt_ones, refl, same-itself, same_group, same_job, same_number, same_semaphore, same_semaphores, slice_eq-Decides, slice_get, subst, sym, true, waiting_group, waiting_ones, ℕ, [], ◌&&◌, ◌-◌, ◌<◌, ◌==◌, ◌^◌, ◌∙◌, ◌∷◌, ◌≡◌, ◌⊎◌}
use Rattle.np_active.specs.Given.{IsPast}
use Rattle.np_active.proofs.KindLemmas.{jobs-have, jobs-rise}

-- # lines in which jobs wait, one after another

-- how far the next line is from the greatest number of a line; 0 if there is no next
abbrev pub lines_left : Option ℕ → ℕ
lines_left next = option_map_or (λ line. 2 ^ 64 - line) next 0

-- a search for the first group from one on, before the line's or the line's own, of which each that is not a line's is after the line's
module _ (lines : Group) (from : Group → Bool) (n : ℕ) (starts : from (at_line lines n) ≡ true)
    (beyond : (g : Group) → from g ≡ true → same_group (at_line lines g.third) g ≡ false → is_group_before (at_line lines n) g ≡ true) where
  -- no member is in the line's group if the first one found is after it
  none-of_line : (ms : List (Member JobId)) → Rises (is_member_before is_job_before) ms
      → option_map_or (λ m. is_group_before (at_line lines n) m.group) (find (λ m. from m.group) ms) true ≡ true
      → AllByRecursion (λ m. same_group m.group (at_line lines n) ≡ false) ms
  none-of_line [] rises past = tt
  none-of_line (m ∷ ms) rises past =
      by_bool (λ b. option_map_or (λ m. is_group_before (at_line lines n) m.group) (cond b (Some m) (find (λ m. from m.group) ms)) true ≡ true
      → AllByRecursion (λ m. same_group m.group (at_line lines n) ≡ false) (m ∷ ms)) (from m.group)
      (λ is after. (
        group-turned (at_line lines n) m.group false (group-apart (at_line lines n) m.group after),
        all-weaker (λ k. is_member_before is_job_before m k ≡ true) (λ k. same_group k.group (at_line lines n) ≡ false)
            (λ k more. grind (arith, group-equal m.group k.group, group-equal k.group (at_line lines n), group-one_way (at_line lines n) m.group, group-apart (at_line lines n) m.group)) ms rises.0,
      ))
      (λ out later. (grind (arith, group-equal m.group (at_line lines n)), none-of_line ms rises.1 later)) past

  -- so no job waits in a line that the search is past
  none-waits : (ms : List (Member JobId)) → Rises (is_member_before is_job_before) ms → IsPast (line_if lines (option_map (λ m. m.group) (find (λ m. from m.group) ms))) n → first_of_line lines n ms ≡ None
  none-waits ms rises past =
      ap (λ (found : List (Member JobId)). slice_get (map (λ m. m.id) found) 0)
      (filter-nothing (λ m. same_group m.group (at_line lines n)) ms (none-of_line ms rises (by (find (λ m. from m.group) ms) refl past)))
    where
      by : (o : Option (Member JobId)) → find (λ m. from m.group) ms ≡ o → IsPast (line_if lines (option_map (λ m. m.group) o)) n → option_map_or (λ m. is_group_before (at_line lines n) m.group) o true ≡ true
      by None none past = refl
      by (Some m) found past =
          by_bool (λ b. IsPast (cond b (Some m.group.third) None) n → is_group_before (at_line lines n) m.group ≡ true) (same_group (at_line lines m.group.third) m.group)
          (λ here less. grind (arith, nat_tests)) (λ other _. beyond m.group (find-passes (λ m. from m.group) ms m found) other) past

-- each next line is above, whatever the members
next-above : (lines : Group) (line next : ℕ) (ms : List (Member JobId)) → line_after lines line ms ≡ Some next → line < next
next-above lines line next ms is = let passes = find-passes (λ (m : Member JobId). is_group_before (at_line lines line) m.group) ms in grind (arith, nat_tests)

-- so it is nearer to the greatest number of a line
pub lines-fall : (lines : Group) (line : ℕ) (next now : Option ℕ) (ms : List (Member JobId)) → now ≡ Some line → next ≡ line_after lines line ms → line < 2 ^ 64 → lines_left next < lines_left now
lines-fall lines line next now ms here is small = rw here (by next is) where
  by : (o : Option ℕ) → o ≡ line_after lines line ms → lines_left o < 2 ^ 64 - line
  by None none = omega arith
  by (Some other) found = omega (arith, next-above lines line other ms (sym found))

-- # the earliest of the jobs that a search through lines has come to

-- what does not come before a job does not come before an earlier one
beaten-earlier : (o : Option JobId) (f i : JobId) → comes_first o f ≡ true → comes_first o i ≡ false → is_job_before i f ≡ false
beaten-earlier o f i first out = grind (arith, nat_tests)

-- nor does what does not come before a later one
beaten-later : (o : Option JobId) (f i : JobId) → comes_first o f ≡ false → is_job_before i f ≡ false → comes_first o i ≡ false
beaten-later o f i past out = grind (arith, nat_tests)

module _ (c : Configuration) (s : State) where
  -- what does not come before the old one does not come before the new one
  stays-beaten : (best first : Option JobId) (i : JobId) → comes_first best i ≡ false → comes_first (earlier_job c s best first) i ≡ false
  stays-beaten best None i out = out
  stays-beaten best (Some f) i out = grind (arith, beaten-earlier best f i)

  -- nor does the first job of the line, where none of its semaphores blocks it
  first-beaten : (best : Option JobId) (f : JobId) → is_free c s f ≡ true → comes_first (earlier_job c s best (Some f)) f ≡ false
  first-beaten best f free = grind (arith, nat_tests)

module _ (c : Configuration) (s : State) (members : List (Member JobId)) (lines : Group) (rises : Rises (is_member_before is_job_before) members) where
  -- before the first line the best is the job that the search begins with
  pub best-first : (old : Option JobId) (next : Option ℕ) → next ≡ first_line lines members → IsBest c s members lines old next old
  best-first old next is = record {
    one = λ b here. inl here;
    keeps = λ i out. out;
    leads = λ line i past there free.
        let none = none-waits lines (λ g. not (is_group_before g (at_line lines 0))) line (grind (arith, nat_tests)) (λ g from out. grind (arith, nat_tests)) members rises (subst (λ (o : Option ℕ). IsPast o line) is past) in
        absurd cc;
  }

  -- a line more
  module _ (line : ℕ) (next : Option ℕ) (is : next ≡ line_after lines line members) (old best : Option JobId) (was : IsBest c s members lines old (Some line) best) where
    one : (first : Option JobId) → first_of_line lines line members ≡ first → (b : JobId) → earlier_job c s best first ≡ Some b
        → (old ≡ Some b) ⊎ ((n : ℕ) × (first_of_line lines n members ≡ Some b) × (is_free c s b ≡ true))
    one None at b here = was.one b here
    one (Some f) at b here =
        by_bool (λ x. cond x (Some f) best ≡ Some b → (old ≡ Some b) ⊎ ((n : ℕ) × (first_of_line lines n members ≡ Some b) × (is_free c s b ≡ true))) (comes_first best f && is_free c s f)
        (λ ok first. inr (line, at ∙ first, let same : f ≡ b = cc in grind arith)) (λ _ same. was.one b same) here

    leads : (other : ℕ) (i : JobId) → IsPast next other → first_of_line lines other members ≡ Some i → is_free c s i ≡ true → (other ≡ line) ⊎ ((other < line) ⊎ (line < other))
        → comes_first (earlier_job c s best (first_of_line lines line members)) i ≡ false
    leads other i past there free (inl same) =
        let here : Some i ≡ first_of_line lines line members = sym (subst (λ (n : ℕ). first_of_line lines n members ≡ Some i) same there) in
        subst (λ (o : Option JobId). comes_first (earlier_job c s best o) i ≡ false) here (first-beaten c s best i free)
    leads other i past there free (inr (inl less)) = stays-beaten c s best (first_of_line lines line members) i (was.leads other i less there free)
    leads other i past there free (inr (inr more)) =
        let none = none-waits lines (λ g. is_group_before (at_line lines line) g) other (grind (arith, nat_tests)) (λ g from out. grind (arith, nat_tests)) members rises (subst (λ (o : Option ℕ). IsPast o other) is past) in
        absurd cc

    pub best-next : (found : Option JobId) → found ≡ earlier_job c s best (first_of_line lines line members) → IsBest c s members lines old next found
    best-next found earlier = subst (IsBest c s members lines old next) (sym earlier) (record {
      one = one (first_of_line lines line members) refl;
      keeps = λ i out. stays-beaten c s best (first_of_line lines line members) i (was.keeps i out);
      leads = λ other i past there free. leads other i past there free (cases_order other line);
    })

-- # which jobs a full semaphore blocks: of a line it blocks all

-- of the semaphores of a job that has no handle, none is found if none is full
free-any : (c : Configuration) (s : State) (j : JobId) (xs : List SemId) → list_any (has_handle j s.handles) xs ≡ false
    → is_none (find (λ x. not (has_handle j s.handles x) && is_full c s x) xs) ≡ not (list_any (is_full c s) xs)
free-any c s j [] none = refl
free-any c s j (x ∷ xs) none = grind (arith, free-any c s j xs)

semaphore-decides : (a b : SemId) → Decides (a.0 == b.0) (a ≡ b)
semaphore-decides a b = (λ is. same_semaphore a b (equal-numbers a.0 b.0 is), λ is. same_number a.0 b.0 (ap (λ (x : SemId). x.0) is))

-- the job with the number of a line has the semaphores of those that wait there
line-row : (c : Configuration) (lines : List JobId) (j : JobId) (row : Job) → slice_get c.jobs j.0 ≡ Some row
    → option_map (λ other. other.semaphores) (slice_get c.jobs (line_of c lines j row)) ≡ Some row.semaphores
line-row c lines j row is =
    let same = λ (other : Job). (slice_eq-Decides semaphore-decides other.semaphores row.semaphores (same_semaphores other.semaphores row.semaphores) refl).0 in
    grind arith

-- the line of the job, by its row
abbrev line_at : Configuration → List JobId → JobId → ℕ
line_at c lines j = option_map_or (line_of c lines j) (slice_get c.jobs j.0) 0

-- the job waits for handles in this line
abbrev is_in_line : Configuration → State → List JobId → ℕ → JobId → Bool
is_in_line c s lines line j = option_map_or (λ row. not (is_supplied s j row) && (line_of c lines j row == line)) (slice_get c.jobs j.0) false

module _ (c : Configuration) (s : State) (lines : List JobId) (line : ℕ) where
  -- none of its semaphores blocks it if none of those of the job with the number of the line is full
  line-free : (j : JobId) → is_in_line c s lines line j ≡ true
      → is_free c s j ≡ option_map_or (λ xs. not (list_any (is_full c s) xs)) (option_map (λ (other : Job). other.semaphores) (slice_get c.jobs line)) false
  line-free j is = by (slice_get c.jobs j.0) refl is where
    by : (o : Option Job) → slice_get c.jobs j.0 ≡ o → option_map_or (λ row. not (is_supplied s j row) && (line_of c lines j row == line)) o false ≡ true
        → option_map_or (λ row. is_none (first_full c s j row)) o false ≡ option_map_or (λ xs. not (list_any (is_full c s) xs)) (option_map (λ (other : Job). other.semaphores) (slice_get c.jobs line)) false
    by None none is = absurd cc
    by (Some row) at is =
        let parts = and_parts (not (is_supplied s j row)) (line_of c lines j row == line) is in
        let lacks = or_parts (length row.semaphores == 0) (list_any (has_handle j s.handles) row.semaphores) (not-true (is_supplied s j row) parts.0) in
        let free = free-any c s j row.semaphores lacks.1 in
        let number = equal-numbers (line_of c lines j row) line parts.1 in
        let same = line-row c lines j row at in
        cc

  -- so a semaphore that is full blocks all jobs of a line
  line-alike : (j i : JobId) → is_in_line c s lines line j ≡ true → is_in_line c s lines line i ≡ true → is_free c s j ≡ is_free c s i
  line-alike j i is also = line-free j is ∙ sym (line-free i also)

-- # the first of a list in order that passes

-- the first of all is the first that passes a test that each passes
pub find-always : {X : Type 0} (xs : List X) → slice_get xs 0 ≡ find (λ x. true) xs
find-always [] = refl
find-always (x ∷ xs) = refl

module _ {K : Type 0} (before same : K → K → Bool)
    (one_way : (a b : K) → before a b ≡ true → before b a ≡ false)
    (equal : (a b : K) → same a b ≡ true → a ≡ b)
    (itself : (a : K) → same a a ≡ true) where
  abbrev pub has : K → List K → Bool
  has k xs = list_any (λ x. same x k) xs

  -- what is true of each is true of one that is there
  pub has-each : (P : K → Type 0) (xs : List K) (k : K) → AllByRecursion P xs → has k xs ≡ true → P k
  has-each P [] k all there = absurd cc
  has-each P (x ∷ xs) k all there =
      let later = has-each P xs k all.1 in
      let here = equal x k in
      grind arith

  module _ (p : K → Bool) where
    -- what `find` returns is there
    pub found-there : (xs : List K) (k : K) → find p xs ≡ Some k → has k xs ≡ true
    found-there [] k is = absurd cc
    found-there (x ∷ xs) k is = grind (arith, itself, found-there xs k)

    -- where `find` returns nothing, none passes
    pub none-found : (xs : List K) (k : K) → find p xs ≡ None → has k xs ≡ true → p k ≡ false
    none-found [] k none there = absurd cc
    none-found (x ∷ xs) k none there = grind (arith, equal, none-found xs k)

    -- none that passes comes before what it returns
    pub found-least : (xs : List K) (k i : K) → Rises before xs → find p xs ≡ Some k → has i xs ≡ true → p i ≡ true → before i k ≡ false
    found-least [] k i rises is there passes = absurd cc
    found-least (x ∷ xs) k i rises is there passes =
        let after = has-each (λ z. before x z ≡ true) xs i rises.0 in
        let rest = λ (past : find p xs ≡ Some k). λ (found : has i xs ≡ true). found-least xs k i rises.1 past found passes in
        grind (arith, one_way, equal)

-- # the first of the jobs that pass, where some of them wait in lines: it is the earliest that the search finds

-- ## the first that passes

-- the job passes, if there is one, and none that passes comes before it
record IsFirst (p : JobId → Bool) (o : Option JobId) : Type 0 where
  one : (b : JobId) → o ≡ Some b → p b ≡ true
  leads : (i : JobId) → p i ≡ true → comes_first o i ≡ false

-- there is only one
first-same : (p : JobId → Bool) (a b : Option JobId) → IsFirst p a → IsFirst p b → a ≡ b
first-same p None None a_is b_is = refl
first-same p (Some x) None a_is b_is = absurd (let no : true ≡ false = b_is.leads x (a_is.one x refl) in cc)
first-same p None (Some y) a_is b_is = absurd (let no : true ≡ false = a_is.leads y (b_is.one y refl) in cc)
first-same p (Some x) (Some y) a_is b_is = ap (λ (i : JobId). Some i) (grind (arith, job_equal x y, job_some_way x y, a_is.leads y (b_is.one y refl), b_is.leads x (a_is.one x refl)))

module _ (want : JobId → Bool) (xs : List JobId) (rises : Rises is_job_before xs) (each : (j : JobId) → list_any (λ k. same_job k j) xs ≡ want j) where
  itself : (j : JobId) → same_job j j ≡ true
  itself j = same-itself is_job_before same_job job_one_way job_some_way j

  -- the first of a list in order that passes
  found-first : (p : JobId → Bool) → IsFirst (λ j. p j && want j) (find p xs)
  found-first p = record {
    one = λ b is. grind (arith, each b, find-passes p xs b is, found-there is_job_before same_job job_one_way job_equal itself p xs b is);
    leads = λ i ok. let parts = and_parts (p i) (want i) ok in by i parts.0 (each i ∙ parts.1) (find p xs) refl;
  } where
    by : (i : JobId) → p i ≡ true → list_any (λ k. same_job k i) xs ≡ true → (o : Option JobId) → find p xs ≡ o → comes_first o i ≡ false
    by i passes there None none = let out = none-found is_job_before same_job job_one_way job_equal itself p xs i none there in absurd cc
    by i passes there (Some b) found = found-least is_job_before same_job job_one_way job_equal itself p xs b i rises found there passes

  -- the first of all
  list-first : IsFirst want (slice_get xs 0)
  list-first = subst (IsFirst want) (sym (find-always xs)) (found-first (λ j. true))

-- ## by the lines

-- the job is there, and passes
abbrev is_passed : State → (JobId → JobRecord → Bool) → JobId → Bool
is_passed s passes j = option_map_or (passes j) (slice_get s.jobs j.0) false

module _ (c : Configuration) (s : State) (active : ActiveOf) (are : AreActive c s active) where
  abbrev is_in : JobKind → JobId → Bool
  is_in kind j = is_job_in c s active.lines kind j

  kind-has : (kind : JobKind) (j : JobId) → list_any (λ k. same_job k j) (ids_in (job_group kind) active.jobs) ≡ is_in kind j
  kind-has kind j = ids-has same_job (job_group kind) j active.jobs ∙ are.jobs.each kind j

  kind-rises : (kind : JobKind) → Rises is_job_before (ids_in (job_group kind) active.jobs)
  kind-rises kind = ids-rise (job_group kind) is_job_before active.jobs are.jobs.rises

  -- a job of a kind waits in its line, and passes if none of its semaphores blocks it; so does the old one, and each other one that passes
  -- and comes before it is of the kind of its line
  module _ (passes : JobId → JobRecord → Bool) (lines : Group) (of_line : ℕ → JobKind) (groups : (line : ℕ) → at_line lines line ≡ job_group (of_line line))
      (waits : (line : ℕ) (j : JobId) → is_in (of_line line) j ≡ true → (is_in_line c s active.lines line j ≡ true) × (is_passed s passes j ≡ is_free c s j))
      (old : Option JobId) (ahead : (b : JobId) → old ≡ Some b → is_passed s passes b ≡ true)
      (others : (i : JobId) → is_passed s passes i ≡ true → comes_first old i ≡ true → is_in (of_line (line_at c active.lines i)) i ≡ true)
      (best : Option JobId) (is : IsBest c s active.jobs lines old None best) where
    -- the first of a line is the first of those that wait in it
    line-first : (line : ℕ) → IsFirst (is_in (of_line line)) (first_of_line lines line active.jobs)
    line-first line =
        subst (λ (g : Group). IsFirst (is_in (of_line line)) (slice_get (ids_in g active.jobs) 0)) (sym (groups line))
        (list-first (is_in (of_line line)) (ids_in (job_group (of_line line)) active.jobs) (kind-rises (of_line line)) (kind-has (of_line line)))

    best-passes : (b : JobId) → (old ≡ Some b) ⊎ ((line : ℕ) × (first_of_line lines line active.jobs ≡ Some b) × (is_free c s b ≡ true)) → is_passed s passes b ≡ true
    best-passes b (inl same) = ahead b same
    best-passes b (inr (line, there, free)) = (waits line b ((line-first line).one b there)).1 ∙ free

    -- none of them comes before the best
    best-leads : (i : JobId) → is_passed s passes i ≡ true → comes_first best i ≡ false
    best-leads i ok =
        by_bool (λ _. comes_first best i ≡ false) (comes_first old i)
        (λ before. let line = line_at c active.lines i in let there = others i ok before in by line there (first_of_line lines line active.jobs) refl ((line-first line).leads i there)) (is.keeps i)
      where
        by : (line : ℕ) → is_in (of_line line) i ≡ true → (o : Option JobId) → first_of_line lines line active.jobs ≡ o → comes_first o i ≡ false → comes_first best i ≡ false
        by line there None none past = absurd cc
        by line there (Some f) first past =
            let also = waits line i there in
            let free = line-alike c s active.lines line f i (waits line f ((line-first line).one f first)).0 also.0 ∙ sym also.1 ∙ ok in
            beaten-later best f i (is.leads line f tt first free) past

    -- once the search is past all lines, the best is the first of all that pass
    best-all : best ≡ slice_get (jobs_from passes 0 s.jobs) 0
    best-all =
        first-same (is_passed s passes) best (slice_get (jobs_from passes 0 s.jobs) 0) (record { one = λ b this. best-passes b (is.one b this); leads = best-leads })
        (list-first (is_passed s passes) (jobs_from passes 0 s.jobs) (jobs-rise passes s.jobs) (jobs-have passes s.jobs))

  module _ (q : RequesterId) where
    -- the first that may begin is the earliest of those that wait for no semaphore and of the first jobs of lines
    pub first-begins : (old : Option JobId) → old ≡ find (may_begin_of c s) (ids_in (prompt_group q) active.jobs) → (best : Option JobId)
        → IsBest c s active.jobs (waiting_group q 0) old None best → best ≡ job_to_begin c q s
    first-begins old found best best_is =
        let first : IsFirst (λ j. may_begin_of c s j && is_in (prompt_ones q) j) old =
        subst (IsFirst (λ j. may_begin_of c s j && is_in (prompt_ones q) j)) (sym found)
        (found-first (is_in (prompt_ones q)) (ids_in (prompt_group q) active.jobs) (kind-rises (prompt_ones q)) (kind-has (prompt_ones q)) (may_begin_of c s)) in
        best-all (is_job_to_begin c s q) (waiting_group q 0) (λ line. waiting_ones q line) (λ line. refl) (λ line j waits. (grind arith, grind arith)) old
        (λ b this. let ok = first.one b this in grind arith) (λ i ok before. let past = first.leads i in grind (arith, nat_tests)) best best_is

    -- the first that may acquire its handles is the earliest of the first jobs of lines
    pub first-acquires : (best : Option JobId) → IsBest c s active.jobs (lacking_group q 0) None None best → best ≡ job_to_acquire c q s
    first-acquires best best_is =
        best-all (is_job_to_acquire c s q) (lacking_group q 0) (λ line. lacking_ones q line) (λ line. refl) (λ line j waits. (grind arith, grind arith)) None
        (λ b this. absurd cc) (λ i ok before. grind (arith, nat_tests)) best best_is
