-- each entry of a run has a line: the rows of its answers and the lines of its jobs' ends
use Rattle.np_report.proofs.Prelude.{AllByRecursion, Answer, Bool, Configuration, Entry, Event, HasEntryLine, HasEventLine, HasText, IsSound, IsToldEntry, Janitor, Job, JobId, JobRecord, Launcher, List, NodeId, NodeKept, NodeRecord, NodeState, None, Ok, Option, PoolId, RequestId, RequestRecord, Role, Runs, SessionId, Some, State, all-weaker, ap, append_assoc, arith, blocking, by_registrant, cond, count_by, count_by-le-length, count_of, count_of_tenant, drop, drop-past, drop-there, fate_lines, fate_of, fate_text, first_of, found-some, if◌then◌else◌, in_requested, invariant-next, invariant-start, is_asked, is_finishable, is_pinned_away, is_told, janitor, job_at, job_text, judge, judge_free_node, judge_mark_deleting, judge_take_ready, launcher, length, line, list_all, lock_request_as, maker, map, may_delete, may_finish, nat_tests, need, next, node-found, node_at, not, not_blocked, not_declined, on-own_job, other_than, own_job, ready_age, record_of, refl, replayed, reply_of, request-found, request_at, request_holder, requester, requester_or_janitor, shape-Runs, shape-next, slice_get, sound_fits, standing, start, starts-few, state_after, subst, suc, sum_by-cons, sym, true, unlocked, vacant, wrong_job, ℕ, [], ◌++◌, ◌+◌, ◌>>=◌, ◌∙◌, ◌∷◌, ◌≡◌, ◌≢◌, ◌≤◌}
use Rattle.np_report.proofs.Named.{DoneInRange, HasIds, HasIds-next, HasIds-start, IsWide, Reached, Refuses, Says, ahead-below, allocated-text, answer-line, due-below, first_of-text, full-below, job-digits, missing-below, next_label-below, next_node-below, next_request-text, next_session-below, node_holder-below, ready-below, refuses-found, refuses-need, refuses-vacant, registered-below, request_holder-below, says-found, says-then, unfilled-few, unoffered-below, wide-count, wide-tenant}
use Rattle.np_text.specs.declared.word.Ending.{Ending}
use Rattle.np_event.specs.declared.reply.Refusal.{Refusal}

-- # the rows whose answers name no number, and the tests that rows share

-- ## the maker

pub maker-refuses : (s : State) (session : SessionId) → Refuses (maker s session)
maker-refuses s session = grind arith

launcher-refuses : (s : State) (session : SessionId) → Refuses (launcher s session)
launcher-refuses s session = grind (arith, maker-refuses s session)

janitor-refuses : (s : State) (session : SessionId) → Refuses (janitor s session)
janitor-refuses s session = grind (arith, maker-refuses s session)

requester-refuses : (s : State) (session : SessionId) → Refuses (requester s session)
requester-refuses s session = grind (arith, maker-refuses s session)

own_job-refuses : (c : Configuration) (s : State) (session : SessionId) (j : JobId) → Refuses (own_job c s session j)
own_job-refuses c s session j = grind (arith, requester-refuses s session)

row-of : (c : Configuration) (s : State) (session : SessionId) (j : JobId) (job : Job) (kept : JobRecord) → own_job c s session j ≡ Ok (job, kept) → slice_get c.jobs j.0 ≡ Some job
row-of c s session j job kept is = on-own_job c s session j (λ both. Ok both) (job, kept) (rw is refl) (λ q other later who row stands same.
    let both : (other, later) ≡ (job, kept) = cc in
    row ∙ ap (λ (x : Job × JobRecord). Some x.0) both)

-- the maker's own job, and then the rest
pub says-own : (c : Configuration) (s : State) (session : SessionId) (j : JobId) (rest : Job × JobRecord → Answer) → ((job : Job) (kept : JobRecord) → slice_get c.jobs j.0 ≡ Some job → Says DoneInRange (rest (job, kept))) → Says DoneInRange (own_job c s session j >>= rest)
says-own c s session j rest each = says-found DoneInRange (own_job c s session j) rest (own_job-refuses c s session j) by where
  by : (both : Job × JobRecord) → own_job c s session j ≡ Ok both → Says DoneInRange (rest both)
  by (job, kept) is = each job kept (row-of c s session j job kept is)

requester_or_janitor-refuses : (role : Role) → Refuses (requester_or_janitor role)
requester_or_janitor-refuses role = grind arith

may_finish-refuses : (s : State) (job : Job) (role : Role) → Refuses (may_finish s job role)
may_finish-refuses s job role = grind arith

not_withdrawn : (asked served : Bool) → cond asked Ending.Failed (cond served Ending.Served Ending.Lost) ≢ Ending.Withdrawn
not_withdrawn asked served = grind arith

-- # the numbers of each answer of a run are within the ranges that a line has for them

-- ## what a row names

-- another request that is first
another-text : (r : RequestId) (o : Option RequestId) (other : RequestId) → ((first : RequestId) → o ≡ Some first → HasText first) → other_than r o ≡ Some other → HasText other
another-text r o other each is = grind (arith, each)

standing-text : (s : State) (o : Option RequestId) (r : RequestId) → ((x : RequestId) → o ≡ Some x → HasText x) → standing s o ≡ Some r → HasText r
standing-text s o r each is = grind (arith, each)

module _ (c : Configuration) (n : ℕ) (s : State) (at : Reached c n s) where
  unlocked-refuses : (r : RequestId) → Refuses (unlocked s r)
  unlocked-refuses r = refuses-vacant (request_holder r s.requests) Refusal.Busy (λ holder is. (request_holder-below c n s at r holder is, tt))

  not_blocked-refuses : (p : PoolId) (request : RequestRecord) → Refuses (not_blocked c s p request)
  not_blocked-refuses p request = refuses-vacant (blocking c s p request) _ (λ t _.
      let wide : IsWide (count_of_tenant c s t) = wide-tenant c n s t at.site at.few at.shaped in
      (wide.instances, (wide.cores, (wide.ram, tt))))

  wide-pool : (p : PoolId) → IsWide (count_of c s p)
  wide-pool p = wide-count c n s p at.site at.few at.shaped

  lock_request_as-says : (session : SessionId) (r : RequestId) (role : Role) → Says DoneInRange (lock_request_as c s session r role)
  lock_request_as-says session r (Launcher p) =
      says-found DoneInRange (request_at s r) _ (refuses-found _ _ tt) (λ request _.
      says-then DoneInRange (by_registrant s p session) _ (refuses-need _ _ tt) (λ _.
      says-then DoneInRange (in_requested request) _ (refuses-need _ _ (tt, tt)) (λ _.
      says-then DoneInRange (not_declined p request) _ (refuses-need _ _ tt) (λ _.
      says-then DoneInRange (need (not (is_pinned_away p request)) Refusal.NotOwner) _ (refuses-need _ _ tt) (λ _.
      says-then DoneInRange (unlocked s r) _ (unlocked-refuses r) (λ _.
      says-then DoneInRange (not_blocked c s p request) _ (not_blocked-refuses p request) (λ _.
      says-then DoneInRange (vacant (other_than r (first_of c s p)) Refusal.NotFirst) _ (refuses-vacant (other_than r (first_of c s p)) Refusal.NotFirst (λ other is. (another-text r (first_of c s p) other (first_of-text c n s at p) is, tt))) (λ _. tt))))))))
  lock_request_as-says session r (Janitor p) = grind (arith, unlocked-refuses r)
  lock_request_as-says session r _ = tt

  node-kept : (number : NodeId) (k : NodeRecord) → node_at s number ≡ Ok k → NodeKept c n s.tick k
  node-kept number k stands = node-found c n s.tick s.next_node s.nodes number k at.shaped.each_node (found-some _ _ _ stands)

  may_delete-refuses : (number : NodeId) (k : NodeRecord) → node_at s number ≡ Ok k → (state : NodeState) → Refuses (may_delete c s k state)
  may_delete-refuses number k stands state =
      let kept = node-kept number k stands in
      let other = λ (r : RequestId). allocated-text c n s at number k r (found-some _ _ _ stands) in
      let since : k.since ≤ 262144 = omega (arith, kept.since, at.shaped.tick, at.few) in
      let ready = due-below (ready_age c k.label) k.since (at.site.ready_ages k.label) since in
      let hold = due-below c.max_hold_age k.since at.site.hold_age since in
      grind (arith, other, ready, hold)

  mark_deleting-says : (session : SessionId) (number : NodeId) → Says DoneInRange (judge_mark_deleting c s session number)
  mark_deleting-says session number = grind (arith, janitor-refuses s session, may_delete-refuses number)

  free_node-says : (session : SessionId) (number : NodeId) → Says DoneInRange (judge_free_node s session number)
  free_node-says session number = grind (arith, janitor-refuses s session, standing-text s, allocated-text c n s at number)

  take_ready-says : (session : SessionId) (r : RequestId) (number : NodeId) → Says DoneInRange (judge_take_ready s session r number)
  take_ready-says session r number = grind (arith, launcher-refuses s session, allocated-text c n s at number, next_label-below c n s at r, node_holder-below c n s at number)

  -- ## every event

  -- if the event has a line, each number of the answer is within its range
  pub judge-says : (e : Event) → HasEventLine e → Says DoneInRange (judge c s e)
  judge-says Event.Tick line = tt
  judge-says (Event.OpenSession role) line = grind (arith, next_session-below c n s at)
  judge-says (Event.Crash session) line = grind (arith, maker-refuses s session)
  judge-says (Event.Expire session) line = grind arith
  judge-says (Event.Register session) line = grind (arith, launcher-refuses s session, registered-below c n s at)
  judge-says (Event.Submit session j) line = says-own c s session j _ (λ job kept row. grind (arith, missing-below c n s at j job, next_request-text c n s at job.priority, job-digits c at.sound j.0 job row s.next_request))
  judge-says (Event.Revise session j relative) line = grind (arith, own_job-refuses c s session j)
  judge-says (Event.MinReady session l) line = let below = line.words.1.0 in grind (arith, launcher-refuses s session, ready-below c n s at l, wide-pool, next_request-text c n s at 400)
  judge-says (Event.LockRequest session r) line = says-found DoneInRange (maker s session) _ (maker-refuses s session) (λ role _. lock_request_as-says session r role)
  judge-says (Event.UnlockRequest session r) line = grind (arith, maker-refuses s session)
  judge-says (Event.Accept session r) line = grind (arith, launcher-refuses s session, not_blocked-refuses, unoffered-below c n s at r)
  judge-says (Event.Decline session r why) line = grind (arith, launcher-refuses s session)
  judge-says (Event.TakeReady session r number) line = take_ready-says session r number
  judge-says (Event.Create session r) line = grind (arith, launcher-refuses s session, next_node-below c n s at, wide-pool)
  judge-says (Event.Start session number) line =
      grind (arith, nat_tests, launcher-refuses s session, node-found c n s.tick s.next_node s.nodes number, at.shaped.each_node, at.site.retries, starts-few c n n s, at.shaped, at.few)
  judge-says (Event.Done session number attempt o) line =
      grind (arith, nat_tests, launcher-refuses s session, node-found c n s.tick s.next_node s.nodes number, at.shaped.each_node, at.site.retries, at.few)
  judge-says (Event.Fulfil session r) line = grind (arith, launcher-refuses s session, unfilled-few, request-found c n s.next_request s.requests r, at.shaped.each_request)
  judge-says (Event.LockNode session number) line = grind (arith, maker-refuses s session, ahead-below c n s at session number)
  judge-says (Event.UnlockNode session number) line = grind (arith, maker-refuses s session)
  judge-says (Event.Acquire session j) line = says-own c s session j _ (λ job kept row. grind (arith, full-below c n s at j job))
  judge-says (Event.Take session j) line =
      says-own c s session j _ (λ job kept row. grind (arith, missing-below c n s at j job, count_by-le-length, at.shaped.each_request, request-found c n s.next_request s.requests))
  judge-says (Event.EndNode session number as_what) line = grind (arith, requester-refuses s session)
  judge-says (Event.Finish session j) line =
      says-found DoneInRange (maker s session) _ (maker-refuses s session) (λ role _.
      says-then DoneInRange (requester_or_janitor role) _ (requester_or_janitor-refuses role) (λ _.
      says-found DoneInRange (job_at c j) _ (refuses-found _ _ tt) (λ job _.
      says-found DoneInRange (record_of s j) _ (refuses-found _ _ tt) (λ kept _.
      says-then DoneInRange (may_finish s job role) _ (may_finish-refuses s job role) (λ _.
      says-then DoneInRange (need (is_finishable s job kept) (wrong_job kept)) _ (refuses-need _ _ (tt, tt)) (λ _. (not_withdrawn (is_asked kept.phase) (list_all (λ m. m.ended) kept.nodes), tt)))))))
  judge-says (Event.Withdraw session j) line = grind (arith, own_job-refuses c s session j)
  judge-says (Event.Release session j) line = grind (arith, maker-refuses s session)
  judge-says (Event.MarkDeleting session number) line = mark_deleting-says session number
  judge-says (Event.Gone session number) line = grind (arith, janitor-refuses s session)
  judge-says (Event.Reset session r) line = grind (arith, janitor-refuses s session)
  judge-says (Event.FreeNode session number) line = free_node-says session number
  judge-says (Event.FailDeclined session r) line = grind (arith, janitor-refuses s session, count_by-le-length, at.shaped.registrations, at.few)
  judge-says (Event.Sweep session number x) line = grind (arith, janitor-refuses s session)

-- # each entry of a run has a line, and can be told, if its event has a line; and the state has a record for each job

reached-next : (c : Configuration) (n : ℕ) (s : State) (e : Event) → suc n ≤ 262144 → Reached c n s → Reached c (suc n) (next c s e)
reached-next c n s e few at = record {
  few = few;
  sound = at.sound;
  site = at.site;
  shaped = shape-next c at.site n s e at.shaped;
  invariant = invariant-next c s e at.invariant;
  ids = HasIds-next c at.sound s e at.ids;
}

-- it has a line, and can be told
abbrev IsSaid : Entry → Type 0
IsSaid e = HasEntryLine e × (is_told e.reply ≡ true)

said_from : (c : Configuration) (n : ℕ) (s : State) (journal : List Entry) → n + length journal ≤ 262144 → Reached c n s → replayed c s journal ≡ journal → AllByRecursion (λ (e : Entry). HasEventLine e.event) journal → AllByRecursion IsSaid journal
said_from c n s [] few at is lines = tt
said_from c n s (e ∷ journal) few at is lines =
    let head : record { event = e.event; reply = reply_of (judge c s e.event) } ≡ e = cc in
    let tail : replayed c (next c s e.event) journal ≡ journal = cc in
    let answer = answer-line (judge c s e.event) (judge-says c n s at e.event lines.0) in
    (subst IsSaid head (record { event = lines.0; reply = answer.0 }, answer.1), said_from c (suc n) (next c s e.event) journal (omega arith) (reached-next c n s e.event (omega arith) at) tail lines.1)

said-Runs : (c : Configuration) (journal : List Entry) (s : State) → IsSound c → Runs c journal s → AllByRecursion (λ (e : Entry). HasEventLine e.event) journal → AllByRecursion IsSaid journal
said-Runs c journal s sound runs lines = said_from c 0 (start c) journal (omega (arith, runs.short)) at runs.replies lines where
  at : Reached c 0 (start c)
  at = record {
    few = omega arith;
    sound = sound;
    site = sound_fits c sound;
    shaped = shape-Runs c [] (start c) (sound_fits c sound) (record { replies = refl; ends = refl; short = omega arith });
    invariant = invariant-start c;
    ids = HasIds-start c;
  }

pub lines-Runs : (c : Configuration) (journal : List Entry) (s : State) → IsSound c → Runs c journal s → AllByRecursion (λ (e : Entry). HasEventLine e.event) journal → AllByRecursion HasEntryLine journal
lines-Runs c journal s sound runs lines = all-weaker IsSaid HasEntryLine (λ e is. is.0) journal (said-Runs c journal s sound runs lines)

pub told-Runs : (c : Configuration) (journal : List Entry) (s : State) → IsSound c → Runs c journal s → AllByRecursion (λ (e : Entry). HasEventLine e.event) journal → AllByRecursion IsToldEntry journal
told-Runs c journal s sound runs lines = all-weaker IsSaid IsToldEntry (λ e is. record { event = is.0.event; reply = is.1 }) journal (said-Runs c journal s sound runs lines)

-- ## records of jobs

ids_after : (c : Configuration) → IsSound c → (s : State) (journal : List Entry) → HasIds c s → HasIds c (state_after c s journal)
ids_after c sound s [] ids = ids
ids_after c sound s (e ∷ journal) ids = ids_after c sound (next c s e.event) journal (HasIds-next c sound s e.event ids)

pub jobs-Runs : (c : Configuration) (journal : List Entry) (s : State) → IsSound c → Runs c journal s → length s.jobs ≡ length c.jobs
jobs-Runs c journal s sound runs = sym (ap (λ (t : State). length t.jobs) runs.ends) ∙ (ids_after c sound (start c) journal (HasIds-start c)).jobs

pub ruleset told = (lines-Runs, told-Runs, jobs-Runs)

-- # the jobs' lines, one after another

-- the lines of these jobs with these records
abbrev pub lines_from : Configuration → State → ℕ → List Job → List JobRecord → List ℕ
lines_from c s n jobs records = fate_lines c n jobs (map (fate_of s) records)

-- the job's line, and then those of the jobs after it
pub lines_from-next : (c : Configuration) (s : State) (n at : ℕ) (jobs : List Job) (records : List JobRecord) (job : Job) (kept : JobRecord) → slice_get jobs at ≡ Some job → slice_get records at ≡ Some kept →
    lines_from c s n (drop at jobs) (drop at records) ≡ line (job_text c n job ++ fate_text (fate_of s kept)) ++ lines_from c s (n + 1) (drop (suc at) jobs) (drop (suc at) records)
lines_from-next c s n at jobs records job kept is has = rw (drop-there jobs at job is, drop-there records at kept has) refl

fate_lines-none : (c : Configuration) (n : ℕ) (jobs : List Job) → fate_lines c n jobs [] ≡ []
fate_lines-none c n [] = refl
fate_lines-none c n (job ∷ jobs) = refl

-- after the last job there is no line
pub lines_from-end : (c : Configuration) (s : State) (n at : ℕ) (jobs : List Job) (records : List JobRecord) → slice_get jobs at ≡ None → lines_from c s n (drop at jobs) (drop at records) ≡ []
lines_from-end c s n at jobs records is = rw (drop-past jobs at is) refl

-- after the last record there is none
pub lines_from-short : (c : Configuration) (s : State) (n at : ℕ) (jobs : List Job) (records : List JobRecord) → slice_get records at ≡ None → lines_from c s n (drop at jobs) (drop at records) ≡ []
lines_from-short c s n at jobs records is = rw (drop-past records at is) (fate_lines-none c n (drop at jobs))

-- one more job's line was put
pub lines_from-put : (c : Configuration) (s : State) (n at next : ℕ) (jobs : List Job) (records : List JobRecord) (job : Job) (kept : JobRecord) (old put told new : List ℕ) → slice_get jobs at ≡ Some job → slice_get records at ≡ Some kept → next ≡ suc at →
    put ≡ old ++ job_text c n job → told ≡ put ++ fate_text (fate_of s kept) → new ≡ told ++ 10 ∷ [] →
    new ++ lines_from c s (n + 1) (drop next jobs) (drop next records) ≡ old ++ lines_from c s n (drop at jobs) (drop at records)
lines_from-put c s n at next jobs records job kept old put told new is has after first second last =
    rw (after, lines_from-next c s n at jobs records job kept is has, last, second, first) (simp append_assoc)

-- # counting the jobs' ends, one job after another

-- the first of the rest, and then those after it
pub count_by-next : {X Y : Type 0} (p : Y → Bool) (f : X → Y) (xs : List X) (at : ℕ) (x : X) → slice_get xs at ≡ Some x →
    count_by p (map f (drop at xs)) ≡ (if p (f x) then 1 else 0) + count_by p (map f (drop (suc at) xs))
count_by-next p f xs at x is = rw (drop-there xs at x is) (sum_by-cons (λ z. if p z then 1 else 0) (f x) (map f (drop (suc at) xs)))

-- after the last there is none
pub count_by-end : {X Y : Type 0} (p : Y → Bool) (f : X → Y) (xs : List X) (at : ℕ) → slice_get xs at ≡ None → count_by p (map f (drop at xs)) ≡ 0
count_by-end p f xs at is = rw (drop-past xs at is) refl
