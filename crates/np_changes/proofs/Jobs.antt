-- each job is as its phase says, with its handles of semaphores and its one request
use Rattle.np_changes.proofs.Prelude.{AllByRecursion, Bool, Changes, Configuration, Growth, GrowthPremise, HandlesChange, HasRoom, Invariant, Job, JobId, List, NoRepeat, None, Option, Premises, Sem, SemId, Some, State, WithinMax, [], all-filter, all-from_at, all-weaker, ap, arith, change_at, changed, cond, false, filter, first_full, fold, grown, handles_changed, handles_of, has_handle, inl, inr, insert_before, is_among, is_full, length, length-filter_at_most, length-insert_before, kept-change_at, list_any-insert_before, list_any-none, map, nat_lt, nat_tests, none-find, none-list_any, not, option_map_or, refl, semaphores_of, slice_get, start, subst, suc, sym, true, unwrap_or, with_handle, without_handle, zero, ℕ, ◌&&◌, ◌<◌, ◌==◌, ◌∙◌, ◌∷◌, ◌≡◌, ◌≤◌, ◌⊎◌, JobRecord, JobsChange, JobsPremise, Maker, NodeId, PutsJob, jobs_changed, option_map, registers, set-here, set-other, slice_set, with_mark, Asked, AsksForJob, AsksToKeep, FinishesJob, IsAsking, IsNumbered, JobIn, JobsOrPinned, JobsStand, Phase, RequestEdit, RequestEntry, RequestId, RequestRecord, RequestsChange, RequestsPremise, RequestsStand, TakesOver, Withdraws, edited, is_asked, is_new, is_none, is_some, left, new_record, next_id, request-equal, request-itself, request_after_withdraw, request_in, request_queue, requests_changed, same_request, ◌||◌}
use Rattle.np_changes.proofs.Lookups.{found-grown, left-request, made-look, request_in-below, request_in-edit, request_in-later, request_in-new, request_in-queue, request_in-remove, same_semaphore}
use Rattle.np_changes.proofs.Shapes.{among-insert}
use Rattle.np_changes.proofs.Turns.{CameBy, came}
use Rattle.np_lists.proofs.Plain.{by_bool}

-- # no semaphore exceeds its max, and no job has two handles of one

-- ## a job more, a job less

NoRepeat-insert_before : (p : JobId → Bool) (j : JobId) (jobs : List JobId) → is_among j jobs ≡ false → NoRepeat jobs → NoRepeat (insert_before p j jobs)
NoRepeat-insert_before p j [] out apart = (refl, tt)
NoRepeat-insert_before p j (k ∷ jobs) out apart = grind (arith, nat_tests, list_any-insert_before (λ (other : JobId). other.0 == k.0) p j jobs, NoRepeat-insert_before p j jobs, apart.0, apart.1)

is_among-filter : (p : JobId → Bool) (k : JobId) (jobs : List JobId) → is_among k jobs ≡ false → is_among k (filter p jobs) ≡ false
is_among-filter p k jobs out =
    list_any-none (λ (other : JobId). other.0 == k.0) (filter p jobs)
    (all-filter (λ (other : JobId). (other.0 == k.0) ≡ false) p jobs (none-list_any (λ (other : JobId). other.0 == k.0) jobs out))

NoRepeat-filter : (p : JobId → Bool) (jobs : List JobId) → NoRepeat jobs → NoRepeat (filter p jobs)
NoRepeat-filter p [] apart = tt
NoRepeat-filter p (k ∷ jobs) apart = grind (arith, nat_tests, is_among-filter p k jobs, NoRepeat-filter p jobs, apart.0, apart.1)

-- ## the jobs of one semaphore, when jobs of some change

change-at : (P : List JobId → Type 0) (f : List JobId → List JobId) (i j : ℕ) (rows : List (List JobId)) → (i ≡ j → (jobs : List JobId) → P jobs → P (f jobs))
    → P (unwrap_or (slice_get rows j) []) → P (unwrap_or (slice_get (change_at i f rows) j) [])
change-at P f i j [] each old = old
change-at P f zero zero (jobs ∷ rows) each old = each refl jobs old
change-at P f zero (suc j) (jobs ∷ rows) each old = old
change-at P f (suc i) zero (jobs ∷ rows) each old = old
change-at P f (suc i) (suc j) (jobs ∷ rows) each old = change-at P f i j rows (λ same. each (ap suc same)) old

changed-all : (P : List JobId → Type 0) (f : List JobId → List JobId) (x : SemId) (semaphores : List SemId) (rows : List (List JobId))
    → AllByRecursion (λ y. y.0 ≡ x.0 → (jobs : List JobId) → P jobs → P (f jobs)) semaphores → P (handles_of x rows) → P (handles_of x (fold (λ hs y. change_at y.0 f hs) rows semaphores))
changed-all P f x [] rows each old = old
changed-all P f x (y ∷ semaphores) rows each old = changed-all P f x semaphores (change_at y.0 f rows) each.1 (change-at P f y.0 x.0 rows each.0 old)

-- each job once, and no more jobs than allowed
abbrev AreFew : ℕ → List JobId → Type 0
AreFew most jobs = NoRepeat jobs × (length jobs ≤ most)

-- ## a job gives its handles back

without-within : (most : ℕ) (j : JobId) (jobs : List JobId) → AreFew most jobs → AreFew most (without_handle j jobs)
without-within most j jobs within =
    (NoRepeat-filter (λ (other : JobId). not (other.0 == j.0)) jobs within.0, let fewer = length-filter_at_most (λ (other : JobId). not (other.0 == j.0)) jobs in omega (arith, fewer, within.1))

settled-within : (c : Configuration) (x : SemId) (most : ℕ) (change : HandlesChange) (rows : List (List JobId)) → AreFew most (handles_of x rows) → AreFew most (handles_of x (handles_changed c change rows))
settled-within c x most HandlesChange.Same rows within = within
settled-within c x most (HandlesChange.Release j) rows within =
    changed-all (AreFew most) (without_handle j) x (semaphores_of c j) rows
    (all-from_at (λ (y : SemId). y.0 ≡ x.0 → (jobs : List JobId) → AreFew most jobs → AreFew most (without_handle j jobs)) (semaphores_of c j) (λ i y there same jobs old. without-within most j jobs old)) within

-- ## a job takes handles

-- the job is there already, or there is room
abbrev HasPlace : JobId → ℕ → List JobId → Type 0
HasPlace j most jobs = (is_among j jobs ≡ true) ⊎ (length jobs < most)

module _ (j : JobId) (most : ℕ) (Ready : Type 0) where
  -- within the maximum, and with a place for the job if the job may have one
  record MayTake (jobs : List JobId) : Type 0 where
    within : AreFew most jobs
    place : Ready → HasPlace j most jobs

  new-by : (jobs : List JobId) → is_among j jobs ≡ false → AreFew most jobs → HasPlace j most jobs → MayTake (insert_before (λ other. nat_lt j.0 other.0) j jobs)
  new-by jobs out within (inl there) = absurd cc
  new-by jobs out within (inr room) = record {
    within = (NoRepeat-insert_before (λ (other : JobId). nat_lt j.0 other.0) j jobs out within.0, let longer = length-insert_before (λ (other : JobId). nat_lt j.0 other.0) j jobs in omega (arith, longer, room));
    place = λ _. inl (among-insert (λ (other : JobId). nat_lt j.0 other.0) j jobs);
  }

  with-may : (jobs : List JobId) → Ready → MayTake jobs → MayTake (with_handle j jobs)
  with-may jobs ready old =
      by_bool (λ b. MayTake (cond b jobs (insert_before (λ other. nat_lt j.0 other.0) j jobs))) (is_among j jobs) (λ _. old) (λ out. new-by jobs out old.within (old.place ready))

-- a semaphore that is not full of others has a place for the job
place-by : (c : Configuration) (s : State) (j : JobId) (x : SemId) (sem : Sem) → slice_get c.semaphores x.0 ≡ Some sem → (not (has_handle j s.handles x) && is_full c s x) ≡ false → HasPlace j sem.max (handles_of x s.handles)
place-by c s j x sem row free = grind (arith, nat_tests)

-- ## all growths

module _ (c : Configuration) (s : State) (x : SemId) (sem : Sem) (row : slice_get c.semaphores x.0 ≡ Some sem) where
  taken-by : (j : JobId) (job : Job) → slice_get c.jobs j.0 ≡ Some job → first_full c s j job ≡ None → AreFew sem.max (handles_of x s.handles)
      → MayTake j sem.max (HasPlace j sem.max (handles_of x s.handles)) (handles_of x (fold (λ hs y. change_at y.0 (with_handle j) hs) s.handles job.semaphores))
  taken-by j job there none_full old =
      changed-all (MayTake j sem.max (HasPlace j sem.max (handles_of x s.handles))) (with_handle j) x job.semaphores s.handles
      (all-weaker (λ (y : SemId). (not (has_handle j s.handles y) && is_full c s y) ≡ false)
      (λ (y : SemId). y.0 ≡ x.0 → (jobs : List JobId) → MayTake j sem.max (HasPlace j sem.max (handles_of x s.handles)) jobs → MayTake j sem.max (HasPlace j sem.max (handles_of x s.handles)) (with_handle j jobs))
      (λ y free same jobs may.
      with-may j sem.max (HasPlace j sem.max (handles_of x s.handles)) jobs
      (place-by c s j x sem row (subst (λ (z : SemId). (not (has_handle j s.handles z) && is_full c s z) ≡ false) (same_semaphore y x same) free)) may)
      job.semaphores (none-find (λ (y : SemId). not (has_handle j s.handles y) && is_full c s y) job.semaphores none_full))
      (record { within = old; place = λ ready. ready })

  handles-within : (j : JobId) → HasRoom c s j → AreFew sem.max (handles_of x s.handles) → AreFew sem.max (handles_of x (fold (λ hs y. change_at y.0 (with_handle j) hs) s.handles (semaphores_of c j)))
  handles-within j room old =
      let of_job : semaphores_of c j ≡ room.job.semaphores = ap (λ (o : Option Job). option_map_or (λ (job : Job). job.semaphores) o []) room.row in
      subst (λ (semaphores : List SemId). AreFew sem.max (handles_of x (fold (λ hs y. change_at y.0 (with_handle j) hs) s.handles semaphores))) (sym of_job)
      (let all = taken-by j room.job room.row room.none_full old in all.within)

  grown-within : (ch : Changes) (g : Growth) → GrowthPremise c s ch g → AreFew sem.max (handles_of x s.handles) → AreFew sem.max (handles_of x (grown c ch.maker g s).handles)
  grown-within ch (Growth.Registration p) premise old = grind (arith, nat_tests)
  grown-within ch (Growth.Handles j) premise old = handles-within j premise old
  grown-within ch _ premise old = old

pub within-max : (c : Configuration) (s : State) (ch : Changes) → Invariant c s → Premises c s ch → WithinMax c (changed c ch s)
within-max c s ch invariant premises = λ x sem row.
    settled-within c x sem.max ch.handles (grown c ch.maker ch.grows s).handles (grown-within c s x sem row ch ch.grows premises.grows (invariant.within.max x sem row))

-- ## the first state

abbrev nobody : Sem → List JobId
nobody sem = []

first-handles : (i : ℕ) (semaphores : List Sem) → unwrap_or (slice_get (map nobody semaphores) i) [] ≡ []
first-handles i [] = refl
first-handles zero (sem ∷ semaphores) = refl
first-handles (suc i) (sem ∷ semaphores) = first-handles i semaphores

pub within-max_first : (c : Configuration) → WithinMax c (start c)
within-max_first c = λ x sem row. subst (λ (jobs : List JobId). AreFew sem.max jobs) (sym (first-handles x.0 c.semaphores)) (tt, omega arith)

-- # what a job was before the changes of an event, and what it becomes by them

-- ## one job more or less changed

-- a job without its nodes
abbrev pub bare : JobRecord → JobRecord
bare job = record job { nodes = [] }

get-marked : (n : NodeId) (rows : List JobRecord) (i j : ℕ) → option_map bare (slice_get (change_at i (with_mark n) rows) j) ≡ option_map bare (slice_get rows j)
get-marked n rows i j = kept-change_at (λ (o : Option JobRecord). option_map bare o) i j (with_mark n) rows (λ job. refl)

some-bare : (o : Option JobRecord) (job : JobRecord) → option_map bare o ≡ Some (bare job) → (x : JobRecord) × ((o ≡ Some x) × (bare x ≡ bare job))
some-bare None job is = absurd cc
some-bare (Some x) job is = (x, (refl, let same : bare x ≡ bare job = cc in same))

-- a job later: as it was except for marks, or put
abbrev pub JobLater : Configuration → State → Changes → JobId → JobRecord → JobRecord → Type 0
JobLater c s ch j job later =
    ((bare later ≡ bare job) × ((put : JobRecord) → ch.jobs ≡ JobsChange.Put j put → ⊥)) ⊎ ((put : PutsJob c s ch j later) × ((ch.jobs ≡ JobsChange.Put j later) × (put.kept ≡ job)))

number-id : (i j : JobId) → (i.0 == j.0) ≡ true → i ≡ j
number-id i j which = let number : i.0 ≡ j.0 = grind (arith, nat_tests) in ap (λ (n : ℕ). record { 0 = n }) number

module _ (c : Configuration) (s : State) (ch : Changes) where
  -- the job that is put, and one that is not
  put-later : (i : JobId) (put : JobRecord) → ch.jobs ≡ JobsChange.Put i put → (premise : PutsJob c s ch i put) (j : JobId) → i ≡ j → JobLater c s ch j premise.kept put
  put-later i put at premise j id = subst (λ (x : JobId). JobLater c s ch x premise.kept put) id (inr (premise, (at, refl)))

  not-put : (i : JobId) (put : JobRecord) → ch.jobs ≡ JobsChange.Put i put → (j : JobId) → (i.0 == j.0) ≡ false → (x : JobRecord) → ch.jobs ≡ JobsChange.Put j x → ⊥
  not-put i put at j other x puts = grind (arith, nat_tests)

  -- what a job was
  pub job-back : (change : JobsChange) → ch.jobs ≡ change → JobsPremise c s ch change → (j : JobId) (later : JobRecord) → slice_get (jobs_changed change s.jobs) j.0 ≡ Some later → (job : JobRecord) × ((slice_get s.jobs j.0 ≡ Some job) × JobLater c s ch j job later)
  job-back JobsChange.Same at premise j later is = (later, (is, inl (refl, λ put puts. let e : JobsChange.Same ≡ JobsChange.Put j put = sym at ∙ puts in absurd cc)))
  job-back (JobsChange.Put i put) at premise j later is =
      by_bool (λ _. (job : JobRecord) × ((slice_get s.jobs j.0 ≡ Some job) × JobLater c s ch j job later)) (i.0 == j.0)
      (λ which.
      let id : i ≡ j = number-id i j which in
      let both : Some put ≡ Some later = sym (set-here s.jobs i.0 put premise.kept premise.stands) ∙ ap (λ (x : JobId). slice_get (slice_set s.jobs i.0 put) x.0) id ∙ is in
      let same : put ≡ later = cc in
      (premise.kept, (ap (λ (x : JobId). slice_get s.jobs x.0) (sym id) ∙ premise.stands, subst (λ (x : JobRecord). JobLater c s ch j premise.kept x) same (put-later i put at premise j id))))
      (λ which. (later, (sym (set-other s.jobs i.0 j.0 put (λ same. absurd (grind (arith, nat_tests)))) ∙ is, inl (refl, not-put i put at j which))))
  job-back (JobsChange.EndNode i n) at premise j later is = by (some-bare (slice_get s.jobs j.0) later (sym (get-marked n s.jobs i.0 j.0) ∙ ap (λ (o : Option JobRecord). option_map bare o) is)) where
    by : (x : JobRecord) × ((slice_get s.jobs j.0 ≡ Some x) × (bare x ≡ bare later)) → (job : JobRecord) × ((slice_get s.jobs j.0 ≡ Some job) × JobLater c s ch j job later)
    by (x, (there, same)) = (x, (there, inl (sym same, λ put puts. let e : JobsChange.EndNode i n ≡ JobsChange.Put j put = sym at ∙ puts in absurd cc)))

  -- what a job becomes
  pub job-on : (change : JobsChange) → ch.jobs ≡ change → JobsPremise c s ch change → (j : JobId) (job : JobRecord) → slice_get s.jobs j.0 ≡ Some job → (later : JobRecord) × ((slice_get (jobs_changed change s.jobs) j.0 ≡ Some later) × JobLater c s ch j job later)
  job-on JobsChange.Same at premise j job is = (job, (is, inl (refl, λ put puts. let e : JobsChange.Same ≡ JobsChange.Put j put = sym at ∙ puts in absurd cc)))
  job-on (JobsChange.Put i put) at premise j job is =
      by_bool (λ _. (later : JobRecord) × ((slice_get (slice_set s.jobs i.0 put) j.0 ≡ Some later) × JobLater c s ch j job later)) (i.0 == j.0)
      (λ which.
      let id : i ≡ j = number-id i j which in
      let both : Some premise.kept ≡ Some job = sym premise.stands ∙ ap (λ (x : JobId). slice_get s.jobs x.0) id ∙ is in
      let same : premise.kept ≡ job = cc in
      (put, (subst (λ (x : JobId). slice_get (slice_set s.jobs x.0 put) j.0 ≡ Some put) (sym id) (set-here s.jobs j.0 put job is), subst (λ (x : JobRecord). JobLater c s ch j x put) same (put-later i put at premise j id))))
      (λ which. (job, (set-other s.jobs i.0 j.0 put (λ same. absurd (grind (arith, nat_tests))) ∙ is, inl (refl, not-put i put at j which))))
  job-on (JobsChange.EndNode i n) at premise j job is = by (some-bare (slice_get (change_at i.0 (with_mark n) s.jobs) j.0) job (get-marked n s.jobs i.0 j.0 ∙ ap (λ (o : Option JobRecord). option_map bare o) is)) where
    by : (x : JobRecord) × ((slice_get (change_at i.0 (with_mark n) s.jobs) j.0 ≡ Some x) × (bare x ≡ bare job)) → (later : JobRecord) × ((slice_get (change_at i.0 (with_mark n) s.jobs) j.0 ≡ Some later) × JobLater c s ch j job later)
    by (x, (there, same)) = (x, (there, inl (same, λ put puts. let e : JobsChange.EndNode i n ≡ JobsChange.Put j put = sym at ∙ puts in absurd cc)))

-- growth leaves jobs as they are
pub jobs-grown : (c : Configuration) (maker : Option Maker) (growth : Growth) (s : State) → (grown c maker growth s).jobs ≡ s.jobs
jobs-grown c maker (Growth.Registration p) s = made-look (λ (t : State). t.jobs) maker (λ session t. registers t session p) s (λ session t. refl)
jobs-grown c maker _ s = refl

-- # each job is as its phase says, and a request that names a job is its only one

-- ## which job names a request

edited-job : (e : RequestEdit) (q : RequestRecord) → (edited e q).job ≡ q.job
edited-job x0 q = grind (arith, nat_tests)

module _ (c : Configuration) (s : State) (ch : Changes) (numbered : IsNumbered s) (whose : JobsOrPinned s) (old : JobsStand s) (premises : Premises c s ch) where
  -- the request of an asked job names that job alone
  named-by : (r : RequestId) (q : RequestRecord) (j i : JobId) (kept : JobRecord) → request_in r s.requests ≡ Some q → q.job ≡ Some j → slice_get s.jobs i.0 ≡ Some kept → kept.request ≡ Some r → (is_new kept.phase || is_asked kept.phase) ≡ true → i ≡ j
  named-by r q j i kept there names stands of_job early = grind (arith, nat_tests)

  -- a request that is removed is no request of a job whose record stays
  goes-not : (r : RequestId) (q : RequestRecord) (j : JobId) → ((later : JobRecord) → ch.jobs ≡ JobsChange.Put j later → ⊥) → request_in r s.requests ≡ Some q → q.job ≡ Some j → RequestsPremise c s ch (RequestsChange.Remove r) → ⊥
  goes-not r q j stays there names (inl goes) = grind (arith, nat_tests, whose r q there, goes.pinned, goes.fulfils.worked_on.stands)
  goes-not r q j stays there names (inr (inl takes)) = grind (arith, nat_tests, stays, takes.puts, takes.stands, takes.of_job, takes.asked, named-by r q j takes.number takes.kept)
  goes-not r q j stays there names (inr (inr goes)) = grind (arith, nat_tests, stays, goes.withdraws.puts, goes.withdraws.stands, goes.of_job, goes.withdraws.unstarted, named-by r q j goes.number goes.kept)

  -- if the record of a job stays, its request stays
  request-on : (maker : Option Maker) (rows : List RequestEntry) (r : RequestId) (q : RequestRecord) (j : JobId) → ((later : JobRecord) → ch.jobs ≡ JobsChange.Put j later → ⊥) → request_in r rows ≡ request_in r s.requests → request_in r s.requests ≡ Some q → q.job ≡ Some j
      → (change : RequestsChange) → RequestsPremise c s ch change → (later : RequestRecord) × ((request_in r (requests_changed maker change rows) ≡ Some later) × (later.job ≡ Some j))
  request-on maker rows r q j stays same there names (RequestsChange.Edit x e) premise =
      let job = by_bool (λ b. (cond b (edited e q) q).job ≡ Some j) (same_request x r) (λ _. edited-job e q ∙ names) (λ _. names) in
      (cond (same_request x r) (edited e q) q, (request_in-edit x r (edited e) rows ∙ ap (λ (o : Option RequestRecord). option_map (λ k. cond (same_request x r) (edited e k) k) o) (same ∙ there), job))
  request-on maker rows r q j stays same there names (RequestsChange.Remove x) premise =
      by_bool (λ _. (later : RequestRecord) × ((request_in r (requests_changed maker (RequestsChange.Remove x) rows) ≡ Some later) × (later.job ≡ Some j))) (same_request x r)
      (λ which. absurd (goes-not r q j stays there names (subst (λ (y : RequestId). RequestsPremise c s ch (RequestsChange.Remove y)) (request-equal x r which) premise)))
      (λ which. (q, (request_in-remove x r rows which ∙ same ∙ there, names)))
  request-on (Some maker) rows r q j stays same there names (RequestsChange.Leave x) premise = (q, (request_in-queue x r (left maker.session (request_queue x rows)) rows ∙ same ∙ there, names))
  request-on maker rows r q j stays same there names _ premise = (q, (same ∙ there, names))

  -- if a request grows, nothing happens to others
  alone : (priority : ℕ) (asked : Asked) → ch.grows ≡ Growth.Request priority asked → (change : RequestsChange) → RequestsPremise c s ch change → change ≡ RequestsChange.Same
  alone priority asked grows x3 premise = grind (arith, nat_tests)

  abbrev t : State
  t = changed c ch s

  -- ## each job

  asking-on : (j : JobId) (job : JobRecord) → ((put : JobRecord) → ch.jobs ≡ JobsChange.Put j put → ⊥) → IsAsking s j job → IsAsking t j job
  asking-on j job stays is =
      let g : State = grown c ch.maker ch.grows s in
      let low : is.id.seq < s.next_request = request_in-below is.id s.next_request is.request s.requests numbered.requests_below is.stands in
      let on = request-on ch.maker g.requests is.id is.request j stays (found-grown c s ch.maker ch.grows is.id low) is.stands is.names ch.requests premises.requests in
      record { id = is.id; request = on.0; asks = is.asks; stands = left-request ch.sessions is.id (requests_changed ch.maker ch.requests g.requests) ∙ on.1.0; names = on.1.1 }

  in-on : (j : JobId) (job : JobRecord) (p : Phase) → ((put : JobRecord) → ch.jobs ≡ JobsChange.Put j put → ⊥) → JobIn s j job p → JobIn t j job p
  in-on j job p stays is = grind (arith, nat_tests, asking-on j job stays)

  -- a new request is there later
  asks-in : (priority : ℕ) (asked : Asked) → AsksForJob c s ch priority asked → ch.grows ≡ Growth.Request priority asked → request_in (next_id priority s) t.requests ≡ Some (new_record asked)
  asks-in priority asked asks grows =
      let g : State = grown c ch.maker ch.grows s in
      let id : RequestId = next_id priority s in
      let none : request_in id s.requests ≡ None = request_in-later id s.next_request s.requests numbered.requests_below (omega arith) in
      let now : request_in id g.requests ≡ Some (new_record asked) = ap (λ (x : Growth). request_in id (grown c ch.maker x s).requests) grows ∙ request_in-new (record { id = id; kept = new_record asked; queue = [] }) id s.requests (request-itself id) none in
      let same : requests_changed ch.maker ch.requests g.requests ≡ g.requests = ap (λ (x : RequestsChange). requests_changed ch.maker x g.requests) (alone priority asked grows ch.requests premises.requests) in
      left-request ch.sessions id (requests_changed ch.maker ch.requests g.requests) ∙ ap (λ (rows : List RequestEntry). request_in id rows) same ∙ now

  asked-in : (j : JobId) (later : JobRecord) (priority : ℕ) (asked : Asked) (asks : AsksForJob c s ch priority asked) → ch.grows ≡ Growth.Request priority asked → asks.number ≡ j → ch.jobs ≡ JobsChange.Put j later → JobIn t j later later.phase
  asked-in j later priority asked asks grows number at = let was = old.each asks.number asks.kept asks.stands in grind (arith, nat_tests, asks-in priority asked asks grows, was)

  later-in : RequestsStand s → (j : JobId) (job later : JobRecord) → slice_get s.jobs j.0 ≡ Some job → JobLater c s ch j job later → JobIn t j later later.phase
  later-in stand j job later there (inl (same, stays)) = let was = in-on j job job.phase stays (old.each j job there) in grind (arith, nat_tests, same, was)
  later-in stand j job later there (inr (put, (at, was))) = by put.way where
    by : ((priority : ℕ) × (asked : Asked) × (asks : AsksForJob c s ch priority asked) × ((ch.grows ≡ Growth.Request priority asked) × (asks.number ≡ j)))
        ⊎ (((r : RequestId) × (takes : TakesOver c s ch r) × ((ch.requests ≡ RequestsChange.Remove r) × (takes.number ≡ j)))
        ⊎ (FinishesJob c s ch j put.kept later
        ⊎ (Withdraws s ch j put.kept × (ch.requests ≡ request_after_withdraw put.kept.request))))
        → JobIn t j later later.phase
    by (inl (priority, asked, asks, (grows, number))) = asked-in j later priority asked asks grows number at
    by (inr (inl (r, takes, (removes, number)))) = grind (arith, nat_tests)
    by (inr (inr (inl finishes))) = grind (arith, nat_tests)
    by (inr (inr (inr (withdraws, change)))) = grind (arith, nat_tests)

  -- ## each request

  -- a job that is put keeps its request, unless it had none
  request-kept : (j : JobId) (job later : JobRecord) (r : RequestId) → slice_get s.jobs j.0 ≡ Some job → job.request ≡ Some r → JobLater c s ch j job later → later.request ≡ Some r
  request-kept j job later r there asks x6 = grind (arith, nat_tests)

  -- the job that a request names has it for its request
  abbrev HasRequest : State → JobId → RequestId → Type 0
  HasRequest u j r = (job : JobRecord) × ((slice_get u.jobs j.0 ≡ Some job) × (job.request ≡ Some r))

  has-on : (j : JobId) (r : RequestId) → HasRequest s j r → HasRequest t j r
  has-on j r (job, (there, asks)) =
      let on = job-on c s ch ch.jobs refl premises.jobs j job there in
      (on.0, (ap (λ (rows : List JobRecord). slice_get (jobs_changed ch.jobs rows) j.0) (jobs-grown c ch.maker ch.grows s) ∙ on.1.0, request-kept j job on.0 r there asks on.1.1))

  new-has : (j : JobId) (r : RequestId) (priority : ℕ) (asked : Asked) → ch.grows ≡ Growth.Request priority asked → next_id priority s ≡ r → (new_record asked).job ≡ Some j → HasRequest t j r
  new-has j r priority asked grows id names = by (subst (λ (g : Growth). GrowthPremise c s ch g) grows premises.grows) where
    by : AsksForJob c s ch priority asked ⊎ AsksToKeep c s ch priority asked → HasRequest t j r
    by (inr keeps) = absurd (let none : None ≡ Some j = sym (ap (λ (a : Asked). a.job) keeps.asks) ∙ names in cc)
    by (inl asks) =
        let both : Some asks.number ≡ Some j = sym (ap (λ (a : Asked). a.job) asks.asks) ∙ names in
        let number : asks.number ≡ j = cc in
        let put : JobRecord = record asks.kept { phase = Phase.Asked; request = Some (next_id asks.job.priority s) } in
        let here : slice_get t.jobs asks.number.0 ≡ Some put = ap (λ (rows : List JobRecord). slice_get (jobs_changed ch.jobs rows) asks.number.0) (jobs-grown c ch.maker ch.grows s) ∙ ap (λ (change : JobsChange). slice_get (jobs_changed change s.jobs) asks.number.0) asks.puts ∙ set-here s.jobs asks.number.0 put asks.kept asks.stands in
        (put, (ap (λ (k : JobId). slice_get t.jobs k.0) (sym number) ∙ here, ap (λ (p : ℕ). Some (next_id p s)) (sym asks.of_job) ∙ ap Some id))

  pub jobs-stand : RequestsStand s → JobsStand t
  jobs-stand stand = record { each = each; of_request = of_request } where
    each : (j : JobId) (later : JobRecord) → slice_get t.jobs j.0 ≡ Some later → JobIn t j later later.phase
    each j later is = let back = job-back c s ch ch.jobs refl premises.jobs j later (sym (ap (λ (rows : List JobRecord). slice_get (jobs_changed ch.jobs rows) j.0) (jobs-grown c ch.maker ch.grows s)) ∙ is) in later-in stand j back.0 later back.1.0 back.1.1

    by : (r : RequestId) (q : RequestRecord) (j : JobId) → q.job ≡ Some j → CameBy s ch r q → HasRequest t j r
    by r q j names (inl there) = has-on j r (old.of_request r q j there names)
    by r q j names (inr (inl was)) = has-on j r (old.of_request r was.old j was.stood (sym (edited-job was.how was.old) ∙ ap (λ (y : RequestRecord). y.job) (sym was.is) ∙ names))
    by r q j names (inr (inr new)) = new-has j r new.priority new.asked new.grows new.id (ap (λ (y : RequestRecord). y.job) (sym new.is) ∙ names)

    of_request : (r : RequestId) (q : RequestRecord) (j : JobId) → request_in r t.requests ≡ Some q → q.job ≡ Some j → HasRequest t j r
    of_request r q j is names = by r q j names (came c s ch numbered premises r q is)

-- # each request has a job or is pinned, after the changes of an accepted event

-- a job, or pinned to a pool
abbrev IsWhose : RequestRecord → Type 0
IsWhose q = is_some q.job ≡ is_none q.pinned

pub jobs_or_pinned : (c : Configuration) (s : State) (ch : Changes) → Invariant c s → Premises c s ch → JobsOrPinned (changed c ch s)
jobs_or_pinned c s ch inv pre r q is = by (came c s ch inv.numbered pre r q is) where
  by : CameBy s ch r q → IsWhose q
  by (inl there) = inv.owned.whose r q there
  by (inr (inl was)) = subst (λ (x : RequestRecord). IsWhose x) (sym was.is) (grind (arith, nat_tests, inv.owned.whose r was.old was.stood))
  by (inr (inr new)) = let asks = subst (λ (g : Growth). GrowthPremise c s ch g) new.grows pre.grows in grind (arith, nat_tests, new.is, asks)
