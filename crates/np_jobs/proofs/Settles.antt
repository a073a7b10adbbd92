-- when no event is useful: the kinds that are tried for a requester, and the roles that have nothing to do
use Rattle.np_jobs.proofs.Prelude.{AllByRecursion, ArePoolsIdle, AreRequestersIdle, Bool, Chooses, ChoosesInWindow, ChoosesOf, ChoosesOfAny, ChoosesOfNew, ChoosesRelease, ChoosesToAcquire, ChoosesToTake, ChoosesUnderWay, Configuration, Done, EndAs, Event, EventKind, IsIdle, IsReached, IsSettled, IsSound, IsUseful, Janitor, JobId, JobKind, JobRecord, Launcher, NoNewStep, NoTake, NodeKind, None, NoneOf, NoneOpens, NoneReleased, NoneUnderWay, Ok, Option, Phase, Reaper, Requester, RequesterId, Role, SessionFacts, SessionId, Some, State, all-at, among, and-first, and-parts, ap, arith, before-end, by_bool, current-speaks, false, false-apart, false_from_ne_true, first_full, has_fulfilled_request, is_asked, is_current, is_in_window, is_job_to_acquire, is_job_to_begin, is_job_to_finish, is_job_to_take, is_maker_of, is_new, is_ok, is_over, is_role, is_some, is_supplied, job-maker, job_event, job_to_acquire, job_to_begin, job_to_finish, job_to_take, jobs_from, judge, kinds-choose, leaving, length, made-by, maker, maker-is, maker_of, missing_handles, nat_tests, none-is, not, ok-is, option_map_or, or_right, passes, passes-useful, phase_is, refl, requester_kinds, row_holds, same-role, same_role, session-at, session_of, sessions-of_site, slice_get, some-within, subst, sym, takes_part, true, true_from_ne_false, useful-passes, waits_for_handles, ℕ, ◌&&◌, ◌+◌, ◌-◌, ◌<◌, ◌==◌, ◌||◌, ◌↔◌, ◌∙◌, ◌≡◌, ◌≤◌}
use Rattle.np_jobs.proofs.Windows.{IsListed, IsNewInWindow, IsOpen, IsToAcquire, IsToBegin, WasGiven, acquire-begins, acquire-either, acquire-listed, all-supplied, apart, begins-listed, earlier-within, finish-listed, listed, listed-acquire, listed-begins, new-open, release-own, submit-begins, submit-new, take-given, take-listed, unsupplied-missing}

-- # if the first job that is to begin has no acquire and submit, no new job in the window has one

module _ (c : Configuration) (s : State) (q : RequesterId) (session : SessionId) (current : is_current (Requester q) session s ≡ true) where
  -- ## a job that is to begin and is in the window

  module _ (j : JobId) (is : IsToBegin c s q j) (within : is_in_window c s q j ≡ true) where
    submit-passes : (is.row.resources_first || (missing_handles s j is.row == 0)) ≡ true → passes c s (Requester q) (Event.Submit session j) ≡ true
    submit-passes ready = rw (maker-is s (Requester q) session current, is.stands, is.there, is.own, is.new, ready, within) refl

    acquire-passes : is.row.resources_first ≡ false → (missing_handles s j is.row == 0) ≡ false → first_full c s j is.row ≡ None → passes c s (Requester q) (Event.Acquire session j) ≡ true
    acquire-passes first missing room =
        let stays : not (is_over is.kept.phase) ≡ true = new-open is.kept.phase is.new in
        rw (maker-is s (Requester q) session current, is.stands, is.there, is.own, stays, room, missing, is.new, first, within) refl

    -- its submit passes if it asks for its nodes first or has all its handles, else its acquire
    begins : NoNewStep c s q session j → ⊥
    begins none = by_bool (λ _. ⊥) is.row.resources_first (λ first. submits (rw first refl)) (λ first. by_bool (λ _. ⊥) (missing_handles s j is.row == 0) (λ missing. submits (rw (first, missing) refl)) (λ missing.
        let room : first_full c s j is.row ≡ None = none-is (first_full c s j is.row) (rw first at is.may) in
        let no : true ≡ false = sym (acquire-passes first missing room) ∙ none.acquire in
        cc)) where
          submits : (is.row.resources_first || (missing_handles s j is.row == 0)) ≡ true → ⊥
          submits ready = let no : true ≡ false = sym (submit-passes ready) ∙ none.submit in cc

    -- so one of the two is found, and no other job is looked at
    begun : (o : Option Event) → ChoosesOfNew c s q session j o → ChoosesInWindow c s q session o
    begun None none = absurd (begins none)
    begun (Some e) useful = useful

  -- ## a new job of which an event passes

  acquired-begins : (j : JobId) → phase_is j s is_new ≡ true → passes c s (Requester q) (Event.Acquire session j) ≡ true → IsToBegin c s q j
  acquired-begins j new passed =
      let parts = and-parts c s (Requester q) _ (row_holds c s (Requester q) (Event.Acquire session j)) passed in
      let answer = ok-is (judge c s (Event.Acquire session j)) parts.0 in
      acquire-begins c s session q (maker-is s (Requester q) session current) j answer.0 answer.1 new

  submitted-begins : (j : JobId) → passes c s (Requester q) (Event.Submit session j) ≡ true → IsToBegin c s q j
  submitted-begins j passed =
      let parts = and-parts c s (Requester q) _ (row_holds c s (Requester q) (Event.Submit session j)) passed in
      let answer = ok-is (judge c s (Event.Submit session j)) parts.0 in
      submit-begins c s session q (maker-is s (Requester q) session current) j answer.0 answer.1

  -- neither passes of one that is not to begin
  neither : (j : JobId) → phase_is j s is_new ≡ true → (IsToBegin c s q j → ⊥) → NoNewStep c s q session j
  neither j new none = record {
    acquire = false_from_ne_true (passes c s (Requester q) (Event.Acquire session j)) (λ passed. none (acquired-begins j new passed));
    submit = false_from_ne_true (passes c s (Requester q) (Event.Submit session j)) (λ passed. none (submitted-begins j passed));
  }

  -- ## the first that is to begin

  first_begins : (x : JobId) → job_to_begin c q s ≡ Some x → IsToBegin c s q x
  first_begins x found =
      let is : IsListed (is_job_to_begin c s q) 0 s.jobs x = listed (is_job_to_begin c s q) 0 s.jobs 0 x found in
      let place : x.0 ≡ is.place = omega (arith, is.number_is) in
      listed-begins c s q x is.kept (ap (slice_get s.jobs) place ∙ is.there) is.passed

  -- without one, no new job in the window has such an event
  pub none-begins : job_to_begin c q s ≡ None → ChoosesInWindow c s q session None
  none-begins none = λ j new within. neither j new (λ is.
      let place = among (is_job_to_begin c s q) 0 s.jobs j.0 is.kept j (omega arith) is.there (begins-listed c s q j is) in
      let low : place.at < 0 = before-end (jobs_from (is_job_to_begin c s q) 0 s.jobs) 0 place.at j none place.there in
      absurd (omega (arith, low)))

  module _ (x : JobId) (found : job_to_begin c q s ≡ Some x) where
    first_open : IsOpen c s q x
    first_open =
        let is = first_begins x found in
        let stays : not (is_over is.kept.phase) ≡ true = new-open is.kept.phase is.new in
        rw (is.there, is.stands, is.own, stays) refl

    -- if it is past the window, so are the others, since they come after it
    pub past-begins : is_in_window c s q x ≡ false → ChoosesInWindow c s q session None
    past-begins past = λ j new within. neither j new (λ is.
        let place = among (is_job_to_begin c s q) 0 s.jobs j.0 is.kept j (omega arith) is.there (begins-listed c s q j is) in
        let order : x.0 + place.at ≤ j.0 + 0 = apart (is_job_to_begin c s q) 0 s.jobs 0 place.at x j (omega arith) found place.there in
        let inside : is_in_window c s q x ≡ true = earlier-within c s q x j first_open (omega (arith, order)) within in
        let no : true ≡ false = sym inside ∙ past in
        cc)

    -- if it is in the window, what is found for it is what is found in the window
    pub first-chooses : is_in_window c s q x ≡ true → (o : Option Event) → ChoosesOfNew c s q session x o → ChoosesInWindow c s q session o
    first-chooses within o chosen = begun x (first_begins x found) within o chosen

-- # if the events of a session on the jobs under way were tried, none is useful

-- a job that has asked for its nodes is not over, and not new
asked-open : (p : Phase) → is_asked p ≡ true → not (is_over p) ≡ true
asked-open p is = grind (arith, nat_tests)

not-both : (o : Option JobRecord) → option_map_or (λ (kept : JobRecord). is_asked kept.phase) o false ≡ true → option_map_or (λ (kept : JobRecord). is_new kept.phase) o false ≡ true → ⊥
not-both o asked new = grind (arith, nat_tests)

module _ (c : Configuration) (s : State) (q : RequesterId) (session : SessionId) (current : is_current (Requester q) session s ≡ true) where
  made : maker s session ≡ Ok (Requester q)
  made = maker-is s (Requester q) session current

  -- no event of the kind is useful, if none that is accepted and whose row is true passes
  none_of : (kind : JobKind) → ((j : JobId) (what : Done) → judge c s (job_event kind session j) ≡ Ok what → row_holds c s (Requester q) (job_event kind session j) ≡ true → passes c s (Requester q) (job_event kind session j) ≡ false) → NoneOf c s (Requester q) (EventKind.Job kind)
  none_of kind fails by j useful =
      let same : by ≡ session = made-by c s (Requester q) session current by (job_event kind by j) (job-maker kind by j) useful in
      let here : IsUseful c s (Requester q) (job_event kind session j) = subst (λ (x : SessionId). IsUseful c s (Requester q) (job_event kind x j)) same useful in
      let answer = ok-is (judge c s (job_event kind session j)) here.accepted in
      let no : passes c s (Requester q) (job_event kind session j) ≡ false = fails j answer.0 answer.1 here.row in
      let is : passes c s (Requester q) (job_event kind session j) ≡ true = useful-passes c s (Requester q) (job_event kind session j) here in
      cc

  -- ## finish

  -- a useful finish is of a job that uses its nodes or whose request failed
  pub finishes-none : ((k : ℕ) (j : JobId) → job_to_finish c q k s ≡ Some j → passes c s (Requester q) (Event.Finish session j) ≡ false) → NoneOf c s (Requester q) (EventKind.Job JobKind.Finish)
  finishes-none none = none_of JobKind.Finish (λ j what is holds.
      let kept = finish-listed c s session q made j what is in
      let place = among (is_job_to_finish c s q) 0 s.jobs j.0 kept.0 j (omega arith) kept.1.0 kept.1.1 in
      none place.at j place.there)

  -- ## take

  module _ (none : (k : ℕ) (j : JobId) → job_to_take c q k s ≡ Some j → NoTake c s q session j) where
    no_take : (j : JobId) (is : WasGiven c s q j) → is_supplied s j is.row ≡ true → NoTake c s q session j
    no_take j is supplies =
        let place = among (is_job_to_take c s q) 0 s.jobs j.0 is.kept j (omega arith) is.there (take-listed c s q j is supplies) in
        none place.at j place.there

    -- a useful take is of a job that was given its nodes and has all its handles
    pub takes-none : NoneOf c s (Requester q) (EventKind.Job JobKind.Take)
    takes-none = none_of JobKind.Take (λ j what is holds.
        take-given c s session q made j what is (λ given all. (no_take j given (all-supplied s j given.row all)).take))

    -- ## acquire

    module _ (full : job_to_acquire c q s ≡ None) where
      no_acquire : (j : JobId) (is : WasGiven c s q j) → first_full c s j is.row ≡ None → passes c s (Requester q) (Event.Acquire session j) ≡ false
      no_acquire j is room = by_bool (λ _. passes c s (Requester q) (Event.Acquire session j) ≡ false) (is_supplied s j is.row) (λ supplies. (no_take j is supplies).acquire) (λ waits.
          let place = among (is_job_to_acquire c s q) 0 s.jobs j.0 is.kept j (omega arith) is.there (acquire-listed c s q j is waits room) in
          let low : place.at < 0 = before-end (jobs_from (is_job_to_acquire c s q) 0 s.jobs) 0 place.at j full place.there in
          absurd (omega (arith, low)))

      -- the acquire of a job that has asked for its nodes fails: if the job was given them, it is one of those
      -- that were tried, or it waits for handles and its semaphores have no room
      pub acquires-fail : (j : JobId) → phase_is j s is_asked ≡ true → passes c s (Requester q) (Event.Acquire session j) ≡ false
      acquires-fail j asked = false_from_ne_true (passes c s (Requester q) (Event.Acquire session j)) (λ passed.
          let parts = and-parts c s (Requester q) _ (row_holds c s (Requester q) (Event.Acquire session j)) passed in
          let answer = ok-is (judge c s (Event.Acquire session j)) parts.0 in
          acquire-either c s session q made j answer.0 answer.1 parts.1
          (λ given room. let no : passes c s (Requester q) (Event.Acquire session j) ≡ false = no_acquire j given room in cc)
          (λ new. not-both (slice_get s.jobs j.0) asked new.new))

  -- the acquire of a job that was given its nodes, waits for handles and finds room is useful
  acquire-given-passes : (j : JobId) → IsToAcquire c s q j → passes c s (Requester q) (Event.Acquire session j) ≡ true
  acquire-given-passes j is =
      let missing : (missing_handles s j is.job.row == 0) ≡ false = unsupplied-missing s j is.job.row is.waits in
      let stays : not (is_over is.job.kept.phase) ≡ true = asked-open is.job.kept.phase is.job.asked in
      let waits : waits_for_handles c s q j is.job.row is.job.kept ≡ true = or_right (is_new is.job.kept.phase && not is.job.row.resources_first && is_in_window c s q j) (is_asked is.job.kept.phase && has_fulfilled_request s is.job.kept) (rw (is.job.asked, is.job.given) refl) in
      rw (made, is.job.stands, is.job.there, is.job.own, stays, is.room, missing, waits) refl

  pub acquire-useful : (j : JobId) → job_to_acquire c q s ≡ Some j → IsUseful c s (Requester q) (Event.Acquire session j)
  acquire-useful j found =
      let is : IsListed (is_job_to_acquire c s q) 0 s.jobs j = listed (is_job_to_acquire c s q) 0 s.jobs 0 j found in
      let place : j.0 ≡ is.place = omega (arith, is.number_is) in
      let job : IsToAcquire c s q j = listed-acquire c s q j is.kept (ap (slice_get s.jobs) place ∙ is.there) is.passed in
      passes-useful c s (Requester q) (Event.Acquire session j) (acquire-given-passes j job) current

  -- ## all of them

  -- a requester's useful release is of a job of its own
  pub releases-none : NoneReleased c s (Requester q) q → NoneOf c s (Requester q) (EventKind.Job JobKind.Release)
  releases-none none = λ by j useful.
      let same : by ≡ session = made-by c s (Requester q) session current by (Event.Release by j) refl useful in
      let mine : IsUseful c s (Requester q) (Event.Release session j) = subst (λ (x : SessionId). IsUseful c s (Requester q) (Event.Release x j)) same useful in
      let answer = ok-is (judge c s (Event.Release session j)) mine.accepted in
      none session j (release-own c s session q made j answer.0 answer.1) mine

  module _ (none : NoneUnderWay c s q session) (begins : (j : JobId) → phase_is j s is_new ≡ true → is_in_window c s q j ≡ true → NoNewStep c s q session j) where
    no_new_step : (j : JobId) → IsNewInWindow c s q j → NoNewStep c s q session j
    no_new_step j is = begins j is.new is.within

    pub acquires-none : NoneOf c s (Requester q) (EventKind.Job JobKind.Acquire)
    acquires-none = none_of JobKind.Acquire (λ j what is holds.
        acquire-either c s session q made j what is holds
        (λ given room. none.acquire j (rw (given.there, given.asked) refl))
        (λ new. (no_new_step j new).acquire))

    pub submits-none : NoneOf c s (Requester q) (EventKind.Job JobKind.Submit)
    submits-none = none_of JobKind.Submit (λ j what is holds. (no_new_step j (submit-new c s session q made j what is holds)).submit)

-- # a requester's useful events are of the kinds that are tried

pub requester-law : (c : Configuration) (s : State) (q : RequesterId) → NoneOpens c s (Requester q) → AllByRecursion (NoneOf c s (Requester q)) requester_kinds → (e : Event) → IsUseful c s (Requester q) e → ⊥
requester-law c s q opens all (Event.OpenSession role) useful = opens role useful
requester-law c s q opens all (Event.Finish session j) useful = all.0 session j useful
requester-law c s q opens all (Event.LockNode session n) useful = all.1.0 session n useful
requester-law c s q opens all (Event.Take session j) useful = all.1.1.0 session j useful
requester-law c s q opens all (Event.Acquire session j) useful = all.1.1.1.0 session j useful
requester-law c s q opens all (Event.Release session j) useful = all.1.1.1.1.0 session j useful
requester-law c s q opens all (Event.Submit session j) useful = all.1.1.1.1.1.0 session j useful
requester-law c s q opens all (Event.EndNode session n EndAs.Used) useful = all.1.1.1.1.1.1.0 session n useful
requester-law c s q opens all (Event.EndNode session n EndAs.Hold) useful = all.1.1.1.1.1.1.1.0 session n useful
requester-law c s q opens all (Event.UnlockNode session n) useful = all.1.1.1.1.1.1.1.1.0 session n useful
requester-law c s q opens all _ useful = false-apart useful.row

-- ## all passes

module _ (c : Configuration) (s : State) (q : RequesterId) (session : SessionId) (current : is_current (Requester q) session s ≡ true) where
  -- if nothing is useful on a job under way, no release, and nothing on a new job in the window, what is
  -- left decides
  pub all-choose : (found : Option Event) → ChoosesUnderWay c s q session found → is_some found ≡ false → (release : Option Event) → ChoosesRelease c s (Requester q) q release → is_some release ≡ false
      → (begun : Option Event) → ChoosesInWindow c s q session begun → is_some begun ≡ false → (o : Option Event) → ChoosesOfAny c s (Requester q) leaving o → Chooses c s (Requester q) o
  all-choose None under is None releases fails None begins stays None leaves =
      kinds-choose c s (Requester q) requester_kinds (requester-law c s q) session current None
      (under.finish, (under.lock, (under.take, (acquires-none c s q session current under begins, (releases-none c s q session current releases, (submits-none c s q session current under begins, leaves))))))
  all-choose None under is None releases fails None begins stays (Some e) leaves = leaves
  all-choose found under is release releases fails begun begins stays o leaves = absurd cc

  -- if no finish, lock and take is useful, the acquire of a job that waits for handles decides what is
  -- useful on the jobs under way
  pub under-chooses : (finish : Option Event) → ChoosesOf c s (Requester q) (EventKind.Job JobKind.Finish) finish → is_some finish ≡ false → (lock : Option Event) → ChoosesOf c s (Requester q) (EventKind.Node NodeKind.Lock) lock → is_some lock ≡ false
      → (take : Option Event) → ChoosesToTake c s q session take → is_some take ≡ false → (o : Option Event) → ChoosesToAcquire c s q o → ChoosesUnderWay c s q session o
  under-chooses None finishes is None locks fails None takes stays None full = record {
    finish = finishes;
    lock = locks;
    take = takes-none c s q session current takes;
    acquire = acquires-fail c s q session current takes full;
  }
  under-chooses None finishes is None locks fails None takes stays (Some e) useful = useful
  under-chooses finish finishes is lock locks fails take takes stays o useful = absurd cc

-- # each session of a run belongs to a role of the configuration

module _ (c : Configuration) where
  -- a session of a run
  pub role-at : (s : State) (at : ℕ) (facts : SessionFacts) → IsReached c s → slice_get s.sessions at ≡ Some facts → is_role c facts.role ≡ true
  role-at s at facts reached there = all-at (λ (f : SessionFacts). is_role c f.role ≡ true) s.sessions at facts (sessions-of_site c s reached) there

  pub role-of : (s : State) (session : SessionId) (facts : SessionFacts) → IsReached c s → session_of session s ≡ Some facts → is_role c facts.role ≡ true
  role-of s session facts reached is = role-at s (session.0 - 1) facts reached (session-at s session.0 facts is)

-- # a role that is not in the configuration has nothing to do

module _ (c : Configuration) (s : State) where
  -- a role that is neither the reaper nor in the configuration
  no-role : (role : Role) → takes_part c role ≡ false → is_role c role ≡ true → ⊥
  no-role role outside is = grind (arith, nat_tests)

  -- it has no current session
  current-of : (role : Role) (session : SessionId) → IsReached c s → is_current role session s ≡ true → is_role c role ≡ true
  current-of role session reached is =
      let who = current-speaks role s session is in
      let same : who.facts.role ≡ role = same-role who.facts.role role (and-first (same_role who.facts.role role) _ (and-first _ (not who.facts.mute) who.speaks)) in
      subst (λ (r : Role). is_role c r ≡ true) same (role-at c s _ who.facts reached who.there)

  outside-made-by : (role : Role) → IsReached c s → takes_part c role ≡ false → (o : Option SessionId) → is_some o ≡ true → is_maker_of role s o ≡ true → ⊥
  outside-made-by role reached outside None some is = absurd cc
  outside-made-by role reached outside (Some session) some is = no-role role outside (current-of role session reached is)

  -- sessions are opened for roles of the configuration
  open-of : (other : Role) → is_ok (judge c s (Event.OpenSession other)) ≡ true → is_role c other ≡ true
  open-of other accepted = true_from_ne_false (is_role c other) (λ is. let refused : is_ok (judge c s (Event.OpenSession other)) ≡ false = rw is refl in cc)

  opened : (role other : Role) → takes_part c role ≡ false → row_holds c s role (Event.OpenSession other) ≡ true → other ≡ role
  opened Reaper other outside is = absurd cc
  opened role other outside is = same-role other role (and-first _ _ is)

  opens : (role other : Role) → takes_part c role ≡ false → IsUseful c s role (Event.OpenSession other) → ⊥
  opens role other outside useful =
      let same : other ≡ role = opened role other outside useful.row in
      no-role role outside (subst (λ (r : Role). is_role c r ≡ true) same (open-of other useful.accepted))

  -- only the reaper ticks or ends sessions
  pub outside-idle : (role : Role) → IsReached c s → takes_part c role ≡ false → IsIdle c s role
  outside-idle role reached outside Event.Tick useful = grind (arith, nat_tests, outside, useful.row)
  outside-idle role reached outside (Event.OpenSession other) useful = opens role other outside useful
  outside-idle role reached outside (Event.Crash session) useful = grind (arith, nat_tests, outside, useful.row)
  outside-idle role reached outside (Event.Expire session) useful = grind (arith, nat_tests, outside, useful.row)
  outside-idle role reached outside e useful = outside-made-by role reached outside (maker_of e) refl useful.maker

-- # when no role has a useful event

module _ (c : Configuration) (s : State) where
  -- a choice returns none if and only if the role is idle
  pub none-idle : (role : Role) (o : Option Event) (none : Bool) → Chooses c s role o → is_some o ≡ not none → (none ≡ true) ↔ IsIdle c s role
  none-idle role None true chosen is = (λ yes. chosen, λ idle. refl)
  none-idle role (Some e) false chosen is = (λ no. absurd cc, λ idle. absurd (idle e chosen))
  none-idle role _ _ chosen is = absurd cc

  pub all-idle : IsSound c → ArePoolsIdle c s → AreRequestersIdle c s → IsIdle c s Reaper → IsSettled c s
  all-idle sound pools requesters reaper (Launcher p) e part useful =
      let place : p.0 < length c.pools = some-within c.pools p.0 (slice_get c.pools p.0) refl part in
      (pools p.0 (omega (arith, sound.supply.few_pools))).0 e useful
  all-idle sound pools requesters reaper (Janitor p) e part useful =
      let place : p.0 < length c.pools = some-within c.pools p.0 (slice_get c.pools p.0) refl part in
      (pools p.0 (omega (arith, sound.supply.few_pools))).1 e useful
  all-idle sound pools requesters reaper (Requester q) e part useful =
      let place : q.0 < length c.requesters = some-within c.requesters q.0 (slice_get c.requesters q.0) refl part in
      requesters q.0 (omega (arith, sound.few_requesters)) e useful
  all-idle sound pools requesters reaper Reaper e part useful = reaper e useful

  -- a role of the configuration by what is known of it, any other in every state of a run
  settled-role : (role : Role) → IsReached c s → IsSettled c s → IsIdle c s role
  settled-role role reached settled e useful = by_bool (λ b. ⊥) (takes_part c role) (λ part. settled role e part useful) (λ outside. outside-idle c s role reached outside e useful)

  pub settled-pools : IsReached c s → IsSettled c s → ArePoolsIdle c s
  settled-pools reached settled k below = (settled-role (Launcher (record { 0 = k })) reached settled, settled-role (Janitor (record { 0 = k })) reached settled)

  pub settled-requesters : IsReached c s → IsSettled c s → AreRequestersIdle c s
  settled-requesters reached settled k below = settled-role (Requester (record { 0 = k })) reached settled

  pub settled-reaper : IsReached c s → IsSettled c s → IsIdle c s Reaper
  settled-reaper reached settled = settled-role Reaper reached settled
