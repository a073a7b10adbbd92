-- the searches of janitors: one request or the jobs of requesters decide whether an event of a kind is useful
use Rattle.np_janitor.proofs.Prelude.{All-get_or, AllByRecursion, Bool, Chooses, ChoosesOf, ChoosesOfAny, Configuration, Done, Event, EventKind, IsReached, IsSound, IsUseful, Janitor, Job, JobId, JobKind, JobRecord, NodeKind, None, NoneFinished, NoneOf, NoneOpens, NoneReleased, Ok, Option, Phase, PoolId, REQUESTERS, RequestEntry, RequestId, RequestKind, RequestRecord, Requester, RequesterId, Role, SessionId, Some, State, [], among, and_from, and_parts, ap, arith, before_fail, eq-eqb, false, false-apart, first_declined_by_all, first_unheld_pending, get_or, get_or_from_slice_get, has_some_handle, holder, is_asked, is_current, is_declined_by_all, is_failed, is_finishable, is_job_to_finish, is_none, is_pending, is_pending_by, is_pool, is_requested, is_some, is_stopped, is_unheld_pending, is_using, janitor, janitor_order, job_event, job_is, job_to_finish, judge, kept-is, kinds-choose, length, lock_pending, made-by, maker, maker_of, may_finish, nat_tests, none-is, ok-is, on-check, on-found, on-given, on-need, on-not, on-vacant, option_and_then, option_map, option_map_or, passes, refl, request_entry, request_holder, request_in, request_state_of, requester_or_janitor, row-of, slice_get, slice_get_within, some-unless, subst, sym, true, undeclined, useful-passes, ℕ, ◌&&◌, ◌<◌, ◌==◌, ◌||◌, ◌∙◌, ◌≡◌}
use Rattle.np_janitor.proofs.Nodes.{first-request, maker-is}

-- # one request decides whether an event of a kind is useful

-- the event that names the first such request passes
pub record IsFirstPassing (c : Configuration) (s : State) (role : Role) (event : RequestId → Event) (first : Option RequestId) : Type 0 where
  pub id : RequestId
  pub is : first ≡ Some id
  pub passes : passes c s role (event id) ≡ true

module _ (c : Configuration) (s : State) (role : Role) (session : SessionId) (current : is_current role session s ≡ true) (event : SessionId → RequestId → Event) (makes : (by : SessionId) (r : RequestId) → maker_of (event by r) ≡ Some by) where
  module _ (first : Option RequestId) (one : (r : RequestId) → IsUseful c s role (event session r) → IsFirstPassing c s role (event session) first) where
    -- if there is no such request, or the first is refused, none of the events is useful
    pub none-passes : (o : Option RequestId) → first ≡ o → option_map_or (λ r. passes c s role (event session r)) o false ≡ false → (other : SessionId) (r : RequestId) → IsUseful c s role (event other r) → ⊥
    none-passes o is refused other r useful =
        let mine : other ≡ session = made-by c s role session current other (event other r) (makes other r) useful in
        let found = one r (subst (λ (x : SessionId). IsUseful c s role (event x r)) mine useful) in
        let same : o ≡ Some found.id = sym is ∙ found.is in
        let no : passes c s role (event session found.id) ≡ false = rw same at refused in
        let yes : passes c s role (event session found.id) ≡ true = found.passes in
        cc

-- # the first request that every registered pool declined decides whether a janitor fails one

module _ (c : Configuration) (s : State) (session : SessionId) where
  -- what the machine tests before a janitor fails the request
  pub record IsFailed (r : RequestId) : Type 0 where
    pub pool : PoolId
    pub made : janitor s session ≡ Ok pool
    pub request : RequestRecord
    pub there : request_in r s.requests ≡ Some request
    pub requested : is_requested request.state ≡ true
    pub some : (length s.registrations == 0) ≡ false
    pub none : (undeclined s.registrations request == 0) ≡ true

  pub fail-is : (r : RequestId) (what : Done) → judge c s (Event.FailDeclined session r) ≡ Ok what → IsFailed r
  fail-is r what is =
      on-given (janitor s session) _ what is (λ p made rest.
      on-found (request_in r s.requests) _ _ what rest (λ request there rest.
      on-need (is_requested request.state) _ _ what rest (λ requested rest.
      on-not (length s.registrations == 0) _ _ what rest (λ some rest.
      on-need (undeclined s.registrations request == 0) _ _ what rest (λ none rest.
      record { pool = p; made = made; request = request; there = there; requested = requested; some = some; none = none })))))

  abbrev declined_by_all : RequestEntry → Bool
  declined_by_all e = is_declined_by_all s e.kept

  module _ (p : PoolId) where
    -- the first that every registered pool declined, which the session may fail
    abbrev IsFirstDeclined : Type 0
    IsFirstDeclined = IsFirstPassing c s (Janitor p) (λ r. Event.FailDeclined session r) (first_declined_by_all s)

    first-declined : IsReached c s → (r : RequestId) → IsFailed r → IsFirstDeclined
    first-declined reached r failed =
        let row = row-of (λ (e : RequestEntry). e.kept) (request_entry r s.requests) failed.request failed.there in
        let own : row.0.kept ≡ failed.request = kept-is (λ (e : RequestEntry). e.kept) (request_entry r s.requests) failed.request row.0 failed.there row.1 in
        let passes : declined_by_all row.0 ≡ true = subst (λ (request : RequestRecord). is_declined_by_all s request ≡ true) (sym own) (and_from (is_requested failed.request.state) (undeclined s.registrations failed.request == 0) failed.requested failed.none) in
        let first = first-request c s reached declined_by_all r row.0 row.1 passes in
        let parts = and_parts (is_requested first.row.kept.state) (undeclined s.registrations first.row.kept == 0) first.passes in
        let there : request_in first.row.id s.requests ≡ Some first.row.kept = ap (option_map (λ (e : RequestEntry). e.kept)) first.there in
        record {
          id = first.row.id;
          is = rw failed.some (ap (option_map (λ (e : RequestEntry). e.id)) first.is);
          passes = rw (failed.made, there, parts.0, failed.some, parts.1) refl;
        }

    module _ (current : is_current (Janitor p) session s ≡ true) where
      module _ (reached : IsReached c s) where
        -- if there is no such request, or the first is refused, none is failed
        pub first-refused : (o : Option RequestId) → first_declined_by_all s ≡ o → option_map_or (λ r. passes c s (Janitor p) (Event.FailDeclined session r)) o false ≡ false → NoneOf c s (Janitor p) (EventKind.Request RequestKind.FailDeclined)
        first-refused o found refused =
            none-passes c s (Janitor p) session current (λ by r. Event.FailDeclined by r) (λ by r. refl) (first_declined_by_all s)
            (λ r useful. let answer = ok-is (judge c s (Event.FailDeclined session r)) useful.accepted in first-declined reached r (fail-is r answer.0 answer.1)) o found refused

-- # the first request that is pending by its pool and that nobody holds decides whether a janitor locks one

module _ (c : Configuration) (s : State) (session : SessionId) (p : PoolId) (current : is_current (Janitor p) session s ≡ true) where
  -- the row of a request that is pending by the pool and that nobody holds
  record IsUnheld (r : RequestId) (e : RequestEntry) : Type 0 where
    there : request_entry r s.requests ≡ Some e
    unheld : is_unheld_pending p e ≡ true

  made : maker s session ≡ Ok (Janitor p)
  made = maker-is s (Janitor p) session current

  -- ## a useful lock is of such a request

  -- the machine lets a janitor lock only a request that nobody holds
  unlocked-is : (r : RequestId) (what : Done) → lock_pending s r ≡ Ok what → request_holder r s.requests ≡ None
  unlocked-is r what is =
      on-found (request_in r s.requests) _ _ what is (λ request there rest.
      on-need (is_pending request.state) _ _ what rest (λ pending rest.
      on-vacant (request_holder r s.requests) _ _ what rest (λ none rest. none)))

  unheld-by : (r : RequestId) (o : Option RequestEntry) → request_entry r s.requests ≡ o → option_map_or (is_pending_by p) (option_map (λ (e : RequestEntry). e.kept) o) false ≡ true → holder (option_map_or (λ (e : RequestEntry). e.queue) o []) ≡ None → (e : RequestEntry) × IsUnheld r e
  unheld-by r None there row none = absurd cc
  unheld-by r (Some e) there row none =
      (e, record { there = there; unheld = and_from (is_pending_by p e.kept) (is_none (holder e.queue)) row (ap (λ (o : Option SessionId). is_none o) none) })

  useful-unheld : (r : RequestId) → IsUseful c s (Janitor p) (Event.LockRequest session r) → (e : RequestEntry) × IsUnheld r e
  useful-unheld r useful =
      let answer = ok-is (judge c s (Event.LockRequest session r)) useful.accepted in
      let as_janitor : judge c s (Event.LockRequest session r) ≡ lock_pending s r = rw made refl in
      unheld-by r (request_entry r s.requests) refl useful.row (unlocked-is r answer.0 (sym as_janitor ∙ answer.1))

  -- ## the lock of any such request passes

  lock-passes : (r : RequestId) (e : RequestEntry) → IsUnheld r e → passes c s (Janitor p) (Event.LockRequest session r) ≡ true
  lock-passes r e is =
      let parts = and_parts (is_pending_by p e.kept) (is_none (holder e.queue)) is.unheld in
      let pending = and_parts (is_pending e.kept.state) (is_pool p e.kept.pool) parts.0 in
      rw (made, is.there, pending.0, pending.1, none-is (holder e.queue) parts.1) refl

  -- ## the first such request

  module _ (reached : IsReached c s) where
    -- if a lock is useful, that of the first passes
    useful-lock-first : (r : RequestId) → IsUseful c s (Janitor p) (Event.LockRequest session r) → IsFirstPassing c s (Janitor p) (λ r. Event.LockRequest session r) (first_unheld_pending p s)
    useful-lock-first r useful =
        let row = useful-unheld r useful in
        let first = first-request c s reached (is_unheld_pending p) r row.0 row.1.there row.1.unheld in
        record {
          id = first.row.id;
          is = ap (option_map (λ (e : RequestEntry). e.id)) first.is;
          passes = lock-passes first.row.id first.row (record { there = first.there; unheld = first.passes });
        }

    -- if there is no such request, or the first is refused, none is locked
    pub unheld-refused : (o : Option RequestId) → first_unheld_pending p s ≡ o → option_map_or (λ r. passes c s (Janitor p) (Event.LockRequest session r)) o false ≡ false → NoneOf c s (Janitor p) (EventKind.Request RequestKind.Lock)
    unheld-refused o found refused = none-passes c s (Janitor p) session current (λ by r. Event.LockRequest by r) (λ by r. refl) (first_unheld_pending p s) useful-lock-first o found refused

-- # what a search that found nothing says

pub none-chosen : (Says : Option Event → Type 0) (o : Option Event) → is_some o ≡ false → Says o → Says None
none-chosen Says None is none = none
none-chosen Says (Some e) is none = absurd cc

-- # every job is a job of a requester, so that what is useful for none of them is useful for no job

module _ (c : Configuration) where
  few : IsSound c → (j : JobId) (job : Job) → slice_get c.jobs j.0 ≡ Some job → job.requester.0 < REQUESTERS
  few sound j job row =
      let owned : (get_or c.jobs j.0 job).requester.0 < length c.requesters = All-get_or (λ (x : Job). x.requester.0 < length c.requesters) c.jobs j.0 job (slice_get_within c.jobs j.0 job row) sound.demand.owned in
      let low : job.requester.0 < length c.requesters = subst (λ (x : Job). x.requester.0 < length c.requesters) (get_or_from_slice_get c.jobs j.0 job job row) owned in
      omega (arith, low, sound.few_requesters)

  own : (j : JobId) (job : Job) → slice_get c.jobs j.0 ≡ Some job → job_is j c (λ row. row.requester.0 == job.requester.0) ≡ true
  own j job row = rw (row, eq-eqb job.requester.0 job.requester.0 refl) refl

  -- if the row of an event of the kind says that the job exists, and for each requester none of these
  -- events on its jobs is useful, none is
  pub none-of : (s : State) (p : PoolId) (kind : JobKind) (such : JobId → Job → Bool) → IsSound c
      → ((by : SessionId) (j : JobId) → IsUseful c s (Janitor p) (job_event kind by j) → job_is j c (such j) ≡ true)
      → ((k : ℕ) → k < REQUESTERS → (by : SessionId) (j : JobId) → job_is j c (λ row. row.requester.0 == k) ≡ true → IsUseful c s (Janitor p) (job_event kind by j) → ⊥)
      → NoneOf c s (Janitor p) (EventKind.Job kind)
  none-of s p kind such sound exists none = λ by j useful.
      let row = some-unless (slice_get c.jobs j.0) (λ none. false-apart (rw none at (exists by j useful))) in
      none row.0.requester.0 (few sound j row.0 row.1) by j (own j row.0 row.1) useful

-- # if the jobs that are to be finished were tried, no finish is useful

-- a job that can be finished uses its nodes, or its request failed
pub finishable-by : (p : Phase) (o : Option RequestRecord) (busy : Bool) → ((is_asked p && option_map_or (λ request. is_failed request.state) o false) || (is_using p && busy)) ≡ true
    → (is_using p || (is_asked p && option_map_or is_failed (option_map (λ request. request.state) o) false)) ≡ true
finishable-by p o busy is = grind (arith, nat_tests)

-- a job whose finish is accepted, whoever makes it, uses its nodes, or its request failed
finish-ready : (c : Configuration) (s : State) (by : SessionId) (j : JobId) (what : Done) → judge c s (Event.Finish by j) ≡ Ok what
    → (kept : JobRecord) × ((slice_get s.jobs j.0 ≡ Some kept) × ((is_using kept.phase || (is_asked kept.phase && option_map_or is_failed (request_state_of kept.request s) false)) ≡ true))
finish-ready c s by j what is =
    on-given (maker s by) _ what is (λ role made rest.
    on-check (requester_or_janitor role) _ what rest (λ such rest.
    on-found (slice_get c.jobs j.0) _ _ what rest (λ job row rest.
    on-found (slice_get s.jobs j.0) _ _ what rest (λ kept there rest.
    on-check (may_finish s job role) _ what rest (λ may rest.
    on-need (is_finishable s job kept) _ _ what rest (λ ready rest.
    (kept, (there, finishable-by kept.phase (option_and_then (λ r. request_in r s.requests) kept.request) _ ready))))))))

module _ (c : Configuration) (s : State) (p : PoolId) where
  -- if the finish of none of the requester's jobs that are to be finished passes, no finish of a job of
  -- the requester is useful
  pub none-finished : (session : SessionId) → is_current (Janitor p) session s ≡ true → (q : RequesterId) → ((k : ℕ) (j : JobId) → job_to_finish c q k s ≡ Some j → passes c s (Janitor p) (Event.Finish session j) ≡ false) → NoneFinished c s p q
  none-finished session current q none = λ by j own useful.
      let same : by ≡ session = made-by c s (Janitor p) session current by (Event.Finish by j) refl useful in
      let mine : IsUseful c s (Janitor p) (Event.Finish session j) = subst (λ (x : SessionId). IsUseful c s (Janitor p) (Event.Finish x j)) same useful in
      let answer = ok-is (judge c s (Event.Finish session j)) mine.accepted in
      let kept = finish-ready c s session j answer.0 answer.1 in
      let is : is_job_to_finish c s q j kept.0 ≡ true = and_from (job_is j c (λ row. row.requester.0 == q.0)) (is_using kept.0.phase || (is_asked kept.0.phase && option_map_or is_failed (request_state_of kept.0.request s) false)) own kept.1.1 in
      let place = among (is_job_to_finish c s q) 0 s.jobs j.0 kept.0 j (omega arith) kept.1.0 is in
      let fails : passes c s (Janitor p) (Event.Finish session j) ≡ false = none place.at j place.there in
      let holds : passes c s (Janitor p) (Event.Finish session j) ≡ true = useful-passes c s (Janitor p) (Event.Finish session j) mine in
      cc

  -- if for no requester a finish of its jobs is useful, none is
  pub finish-none : IsSound c → ((k : ℕ) → k < REQUESTERS → NoneFinished c s p (record { 0 = k })) → NoneOf c s (Janitor p) (EventKind.Job JobKind.Finish)
  finish-none sound none = none-of c s p JobKind.Finish (λ j job. is_stopped c (Requester job.requester) s) sound (λ by j useful. useful.row) none

-- # if no release of a job of any requester is useful, none is

module _ (c : Configuration) (s : State) (p : PoolId) where
  pub release-none : IsSound c → ((k : ℕ) → k < REQUESTERS → NoneReleased c s (Janitor p) (record { 0 = k })) → NoneOf c s (Janitor p) (EventKind.Job JobKind.Release)
  release-none sound none = none-of c s p JobKind.Release (λ j job. has_some_handle s j job) sound (λ by j useful. useful.row) none

-- # a janitor's useful events are of the kinds in the order

pub janitor-law : (c : Configuration) (s : State) (p : PoolId) → NoneOpens c s (Janitor p) → AllByRecursion (NoneOf c s (Janitor p)) janitor_order → (e : Event) → IsUseful c s (Janitor p) e → ⊥
janitor-law c s p opens all (Event.OpenSession role) useful = opens role useful
janitor-law c s p opens all (Event.Gone session n) useful = all.0 session n useful
janitor-law c s p opens all (Event.FreeNode session n) useful = all.1.0 session n useful
janitor-law c s p opens all (Event.MarkDeleting session n) useful = all.1.1.0 session n useful
janitor-law c s p opens all (Event.UnlockNode session n) useful = all.1.1.1.0 session n useful
janitor-law c s p opens all (Event.Reset session r) useful = all.1.1.1.1.0 session r useful
janitor-law c s p opens all (Event.UnlockRequest session r) useful = all.1.1.1.1.1.0 session r useful
janitor-law c s p opens all (Event.FailDeclined session r) useful = all.1.1.1.1.1.1.0 session r useful
janitor-law c s p opens all (Event.Finish session j) useful = all.1.1.1.1.1.1.1.0 session j useful
janitor-law c s p opens all (Event.Release session j) useful = all.1.1.1.1.1.1.1.1.0 session j useful
janitor-law c s p opens all (Event.LockRequest session r) useful = all.1.1.1.1.1.1.1.1.1.0 session r useful
janitor-law c s p opens all (Event.LockNode session n) useful = all.1.1.1.1.1.1.1.1.1.1.0 session n useful
janitor-law c s p opens all _ useful = false-apart useful.row

-- ## one search after another

module _ (c : Configuration) (s : State) (p : PoolId) where
  module _ (session : SessionId) (current : is_current (Janitor p) session s ≡ true) (before : Option Event) (first : ChoosesOfAny c s (Janitor p) before_fail before) (no_first : is_some before ≡ false) (fail : Option Event) (declined : ChoosesOf c s (Janitor p) (EventKind.Request RequestKind.FailDeclined) fail) (no_declined : is_some fail ≡ false) (finish : Option Event) (second : ChoosesOf c s (Janitor p) (EventKind.Job JobKind.Finish) finish) (no_second : is_some finish ≡ false) (release : Option Event) (third : ChoosesOf c s (Janitor p) (EventKind.Job JobKind.Release) release) (no_third : is_some release ≡ false) (lock : Option Event) (fourth : ChoosesOf c s (Janitor p) (EventKind.Request RequestKind.Lock) lock) (no_fourth : is_some lock ≡ false) where
    -- if nothing was found before, the last search decides
    pub last-chooses : (o : Option Event) → ChoosesOf c s (Janitor p) (EventKind.Node NodeKind.Lock) o → Chooses c s (Janitor p) o
    last-chooses None last =
        let all = none-chosen (ChoosesOfAny c s (Janitor p) before_fail) before no_first first in
        kinds-choose c s (Janitor p) janitor_order (janitor-law c s p) session current None
        (all.0, (all.1.0, (all.1.1.0, (all.1.1.1.0, (all.1.1.1.1.0, (all.1.1.1.1.1.0, (none-chosen (ChoosesOf c s (Janitor p) (EventKind.Request RequestKind.FailDeclined)) fail no_declined declined, (none-chosen (ChoosesOf c s (Janitor p) (EventKind.Job JobKind.Finish)) finish no_second second, (none-chosen (ChoosesOf c s (Janitor p) (EventKind.Job JobKind.Release)) release no_third third, (none-chosen (ChoosesOf c s (Janitor p) (EventKind.Request RequestKind.Lock)) lock no_fourth fourth, (last, tt)))))))))))
    last-chooses (Some e) last = last
