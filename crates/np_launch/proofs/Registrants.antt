-- launchers in the queues of requests: each is registered for its pool, and a request counts at one pool of a provider
use Rattle.np_launch.proofs.Prelude.{AllByRecursion, Bool, Changes, Configuration, Done, Entry, Event, Growth, GrowthPremise, Invariant, IsHeard, IsLauncher, IsNotOver, IsNumbered, IsReached, Launcher, List, Maker, MakerPremise, None, Ok, Option, Pool, PoolId, Premises, Refusal, Registration, RequestEntry, RequestId, Role, SessionFacts, SessionId, SessionsChange, Some, State, [], all-at, all-filter_to, all-find, all-from_at, and_parts, ap, arith, both_true, both_ways, by_bool, changed, cond, count_by, count_by-le-length, equal-itself, facts-stay, false, filter, find, find-filter, find-insert_before, find-passes, grown, holder, holder-queued, holder-waits, invariant-Runs, invariant-next, invariant-start, is_held_near, is_near_below, is_ok, is_pending, is_pending_by, is_pool, is_queued, is_served_by_sister, is_served_near, is_session, is_session_of, is_sister, is_sister_launcher, judge, judge_lock_request, kept-is, launcher, launcher_requests, length, length-filter, length-filter_at_most, length-map, lock_request_as, maker, nat_lt, nat_tests, near_pool, next, not, not-true, ok-is, on-found, on-given, on-need, option_and_then, option_map, option_map_or, or_true, pending_requests, plan, plan-next, plan_lock_request, pool_of_role, premises, provider_of, queue-after, queued_requests, refl, registered, registrations_left, request_in, request_is, request_queue, request_queue-left, requests_changed, requests_left, requests_near, role_of, row-of, same, same_pool, served-by, session-equal, session_of, sister_requests, slice_get, slice_get_within, start, state_after, subst, suc, sym, true, unserved_requests, ℕ, ◌&&◌, ◌+◌, ◌==◌, ◌||◌, ◌∙◌, ◌∷◌, ◌≡◌, ◌≤◌}
use Rattle.np_launch.proofs.Finds.{count-either, count-named, count-none, count-same, one, row-there}

-- # a launcher joins the queue of a request only while it is registered for its pool

-- a launcher that joins the queue of a request is registered for its pool
pub record JoinsRegistered (s : State) (ch : Changes) : Type 0 where
  pub registers : (r : RequestId) (m : Maker) (p : PoolId) → ch.grows ≡ Growth.JoinRequest r → ch.maker ≡ Some m → m.role ≡ Launcher p → registered p s.registrations ≡ Some m.session

-- ## the lock of a request

module _ (c : Configuration) (s : State) (session : SessionId) (r : RequestId) (what : Done) where
  lock-registered : (role : Role) (p : PoolId) → role ≡ Launcher p → lock_request_as c s session r role ≡ Ok what → registered p s.registrations ≡ Some session
  lock-registered role p is locks =
      on-found (request_in r s.requests) Refusal.NoRequest _ what (rw is at locks) (λ request has rest.
      on-need (is_session_of session (registered p s.registrations)) Refusal.NotRegistered _ what rest (λ registers _.
      holder-waits session (registered p s.registrations) registers))

  lock-joins : judge_lock_request c s session r ≡ Ok what → JoinsRegistered s (plan_lock_request s session r)
  lock-joins ok =
      on-given (maker s session) (lock_request_as c s session r) what ok (λ role who locks.
      rw who (record {
        registers = λ q m p grows made launches.
            let by_session : session ≡ m.session = cc in
            let of_role : role ≡ m.role = cc in
            lock-registered role p (of_role ∙ launches) locks ∙ ap (λ (x : SessionId). Some x) by_session;
      }))

-- ## all events

plan-joins : (c : Configuration) (s : State) (e : Event) (what : Done) → judge c s e ≡ Ok what → JoinsRegistered s (plan c s e)
plan-joins c s (Event.LockRequest by r) what ok = lock-joins c s by r what ok
plan-joins c s _ what ok = grind (arith, nat_tests)

pub joins-registered : (c : Configuration) (s : State) (e : Event) → is_ok (judge c s e) ≡ true → JoinsRegistered s (plan c s e)
joins-registered c s e ok = let was : (what : Done) × (judge c s e ≡ Ok what) = ok-is (judge c s e) ok in plan-joins c s e was.0 was.1

-- # in a state that a run reaches, a launcher in the queue of a request is registered for its pool

-- begun, and registered for its pool if it is a launcher
pub record IsRegistrant (s : State) (session : SessionId) : Type 0 where
  pub facts : SessionFacts
  pub begun : session_of session s ≡ Some facts
  pub registers : (p : PoolId) → facts.role ≡ Launcher p → registered p s.registrations ≡ Some session

abbrev pub QueuesRegistered : State → Type 0
QueuesRegistered s = (r : RequestId) → AllByRecursion (IsRegistrant s) (request_queue r s.requests)

-- the session that ends is in no queue any more
not-over : (change : SessionsChange) (r : RequestId) (rows : List RequestEntry) → AllByRecursion (IsNotOver change) (request_queue r (requests_left change rows))
not-over (SessionsChange.End over) r rows =
    subst (λ (queue : List SessionId). AllByRecursion (λ session. is_session session over ≡ false) queue) (sym (request_queue-left over r rows))
    (all-filter_to (λ (session : SessionId). session ≡ session) (λ session. is_session session over ≡ false) (λ session. not (is_session session over)) (request_queue r rows)
    (λ session keeps is. not-true (is_session session over) keeps) (all-from_at (λ (session : SessionId). session ≡ session) (request_queue r rows) (λ i session there. refl)))
not-over change r rows = all-from_at (IsNotOver change) (request_queue r (requests_left change rows)) (λ i session there. tt)

-- ## the registrations

-- a new registration is of a pool that had none
registered-grown : (c : Configuration) (s : State) (ch : Changes) (maker : Option Maker) (growth : Growth) → GrowthPremise c s ch growth → (p : PoolId) (session : SessionId) → registered p s.registrations ≡ Some session → registered p (grown c maker growth s).registrations ≡ Some session
registered-grown c s ch None (Growth.Registration q) premise p session is = is
registered-grown c s ch (Some maker) (Growth.Registration q) premise p session is =
    by_bool (λ b. registered p (grown c (Some maker) (Growth.Registration q) s).registrations ≡ Some session) (q.0 == p.0)
    (λ same. absurd (let none : registered p s.registrations ≡ None = ap (λ (x : PoolId). registered x s.registrations) (sym (same_pool q p same)) ∙ premise.free in cc))
    (λ other.
    ap (option_map (λ (g : Registration). g.session)) (find-insert_before (λ (g : Registration). g.pool.0 == p.0) (λ g. nat_lt q.0 g.pool.0) (record { pool = q; session = maker.session }) s.registrations other) ∙ is)
registered-grown c s ch maker _ premise p session is = is

-- only the session that ends leaves its registration
registered-left : (change : SessionsChange) (session : SessionId) → IsNotOver change session → (p : PoolId) (rows : List Registration) → registered p rows ≡ Some session → registered p (registrations_left change rows) ≡ Some session
registered-left SessionsChange.Same session lives p rows is = is
registered-left (SessionsChange.Mute quiet) session lives p rows is = is
registered-left (SessionsChange.End over) session lives p rows is =
    let row = row-of (λ (g : Registration). g.session) (find (λ g. g.pool.0 == p.0) rows) session is in
    let own : row.0.session ≡ session = kept-is (λ (g : Registration). g.session) (find (λ g. g.pool.0 == p.0) rows) session row.0 is row.1 in
    let keeps : not (is_session row.0.session over) ≡ true = ap (λ (x : SessionId). not (is_session x over)) own ∙ ap not lives in
    ap (option_map (λ (g : Registration). g.session)) (find-filter (λ (g : Registration). g.pool.0 == p.0) (λ g. not (is_session g.session over)) row.0 rows keeps row.1) ∙ ap (λ (x : SessionId). Some x) own

-- ## one step

module _ (c : Configuration) (s : State) (ch : Changes) (numbered : IsNumbered s) (given : Premises c s ch) where
  registrant-stays : (session : SessionId) → IsNotOver ch.sessions session → IsRegistrant s session → IsRegistrant (changed c ch s) session
  registrant-stays session lives is =
      let stays = facts-stay c s ch given.sessions session is.facts is.begun lives in
      record {
        facts = stays.later;
        begun = stays.begun;
        registers = λ p launches.
            registered-left ch.sessions session lives p (grown c ch.maker ch.grows s).registrations
            (registered-grown c s ch ch.maker ch.grows given.grows p session (is.registers p (sym stays.role ∙ launches)));
      }

  joins-as : JoinsRegistered s ch → (r : RequestId) (m : Maker) → ch.grows ≡ Growth.JoinRequest r → ch.maker ≡ Some m → IsRegistrant s m.session
  joins-as joins r m grows made =
      let heard : IsHeard s m = subst (MakerPremise s) made given.maker in
      record { facts = heard.facts; begun = heard.begun; registers = λ p launches. joins.registers r m p grows made (sym heard.role ∙ launches) }

  queues-changed : JoinsRegistered s ch → QueuesRegistered s → QueuesRegistered (changed c ch s)
  queues-changed joins old r =
      all-from_at (IsRegistrant (changed c ch s)) (request_queue r (changed c ch s).requests) (λ i session there.
      registrant-stays session
      (all-at (IsNotOver ch.sessions) (request_queue r (changed c ch s).requests) i session (not-over ch.sessions r (requests_changed ch.maker ch.requests (grown c ch.maker ch.grows s).requests)) there)
      (all-at (IsRegistrant s) (request_queue r (changed c ch s).requests) i session (queue-after (IsRegistrant s) c s ch numbered r (old r) (λ m made grows. joins-as joins r m grows made)) there))

-- ## whole runs

queues-next : (c : Configuration) (s : State) (e : Event) → Invariant c s → QueuesRegistered s → QueuesRegistered (next c s e)
queues-next c s e holds old =
    by_bool (λ b. QueuesRegistered (next c s e)) (is_ok (judge c s e))
    (λ ok. subst QueuesRegistered (plan-next c s e ok) (queues-changed c s (plan c s e) holds.numbered (premises c s e ok) (joins-registered c s e ok) old)) (λ refused. rw refused old)

queues-after : (c : Configuration) (s : State) (journal : List Entry) → Invariant c s → QueuesRegistered s → QueuesRegistered (state_after c s journal)
queues-after c s [] holds old = old
queues-after c s (entry ∷ journal) holds old = queues-after c (next c s entry.event) journal (invariant-next c s entry.event holds) (queues-next c s entry.event holds old)

pub queues-registered : (c : Configuration) (s : State) → IsReached c s → QueuesRegistered s
queues-registered c s reached = subst QueuesRegistered reached.runs.ends (queues-after c (start c) reached.journal (invariant-start c) (λ r. tt))

-- # each request that the launchers of a provider work on counts at one pool of the provider

-- ## the session in a queue of one

queued-holds : (session : SessionId) (queue : List SessionId) → length queue ≤ 1 → is_queued session queue ≡ true → holder queue ≡ Some session
queued-holds session [] few queued = absurd cc
queued-holds session (other ∷ []) few queued =
    let same : is_session other session ≡ true = grind (arith, nat_tests) in
    ap (λ (x : SessionId). Some x) (session-equal other session same)
queued-holds session (other ∷ next ∷ queue) few queued = absurd (omega (arith, few))

launcher-of : (role : Role) (q : PoolId) → pool_of_role role ≡ Some q → role ≡ Launcher q
launcher-of (Launcher p) q is = let same : p ≡ q = cc in ap (λ (x : PoolId). Launcher x) same
launcher-of role q is = absurd cc

module _ (c : Configuration) (s : State) (p : PoolId) where
  -- the session that is registered for the pool is in the request's queue
  abbrev is_registrants : PoolId → RequestEntry → Bool
  is_registrants q e = option_map_or (λ session. is_queued session e.queue) (registered q s.registrations) false

  -- what counts at a pool of the provider
  abbrev counts_at : PoolId → RequestEntry → Bool
  counts_at q e = is_pending_by q e.kept || (is_registrants q e && not (is_served_near c p e))

  served-sister : (q : PoolId) (e : RequestEntry) → is_sister c p q ≡ true → is_pending_by q e.kept ≡ true → is_served_near c p e ≡ true
  served-sister q e sister pending =
      let both = and_parts (is_pending e.kept.state) (is_pool q e.kept.pool) pending in
      rw (both.0, served-by q e.kept.pool both.1) sister

  -- who is registered for a pool is its launcher
  registrant-role : AllByRecursion (λ g. IsLauncher s g.pool g.session) s.registrations → (q : PoolId) (session : SessionId) → registered q s.registrations ≡ Some session → role_of session s ≡ Some (Launcher q)
  registrant-role launchers q session is =
      let row = row-of (λ (g : Registration). g.session) (find (λ g. g.pool.0 == q.0) s.registrations) session is in
      let own : row.0.session ≡ session = kept-is (λ (g : Registration). g.session) (find (λ g. g.pool.0 == q.0) s.registrations) session row.0 is row.1 in
      let of_pool : row.0.pool ≡ q = same_pool row.0.pool q (find-passes (λ (g : Registration). g.pool.0 == q.0) s.registrations row.0 row.1) in
      let launcher = all-find (λ (g : Registration). IsLauncher s g.pool g.session) (λ g. g.pool.0 == q.0) s.registrations row.0 launchers row.1 in
      ap (λ (x : SessionId). role_of x s) (sym own)
      ∙ ap (option_map (λ (f : SessionFacts). f.role)) launcher.begun
      ∙ ap (λ (r : Role). Some r) (launcher.role ∙ ap (λ (x : PoolId). Launcher x) of_pool)

  -- a pool of the provider is in the configuration
  sister-below : (q : PoolId) → is_sister c p q ≡ true → true ≡ nat_lt q.0 (length c.pools)
  sister-below q sister = by (provider_of c p) (slice_get c.pools q.0) refl sister where
    by : (own : Option ℕ) (o : Option Pool) → slice_get c.pools q.0 ≡ o → option_map_or (λ a. option_map_or (λ b. b == a) (option_map (λ pool. pool.provider) o) false) own false ≡ true → true ≡ nat_lt q.0 (length c.pools)
    by (Some a) (Some pool) there is = let below = slice_get_within c.pools q.0 pool there in grind (arith, nat_tests)
    by _ _ there is = absurd cc

  -- a launcher of the provider has a pool
  unheld-by : (o : Option Role) → option_map_or (is_sister_launcher c p) o false ≡ true → option_and_then pool_of_role o ≡ None → ⊥
  unheld-by o held none = grind (arith, nat_tests)

  -- ## one request

  module _ (launchers : AllByRecursion (λ g. IsLauncher s g.pool g.session) s.registrations) (e : RequestEntry) (few : length e.queue ≤ 1) (registrants : AllByRecursion (IsRegistrant s) e.queue) where
    near-held : (q : PoolId) → is_sister c p q ≡ true → is_served_near c p e ≡ false → (o : Option SessionId) → registered q s.registrations ≡ o → option_map_or (λ session. is_queued session e.queue) o false ≡ true → near_pool c s p e ≡ Some q
    near-held q sister unserved None is queued = absurd cc
    near-held q sister unserved (Some session) is queued =
        let holds : holder e.queue ≡ Some session = queued-holds session e.queue few queued in
        let role : role_of session s ≡ Some (Launcher q) = registrant-role launchers q session is in
        rw (unserved, holds, role, sister) refl

    -- what counts at a pool of the provider is near it
    near-counts : (q : PoolId) → is_sister c p q ≡ true → counts_at q e ≡ true → near_pool c s p e ≡ Some q
    near-counts q sister counts = by (is_pending_by q e.kept) refl (is_served_near c p e) refl where
      by : (b : Bool) → is_pending_by q e.kept ≡ b → (d : Bool) → is_served_near c p e ≡ d → near_pool c s p e ≡ Some q
      by true pending true served = rw served (served-by q e.kept.pool ((and_parts (is_pending e.kept.state) (is_pool q e.kept.pool) pending).1))
      by true pending false unserved = absurd (let served : is_served_near c p e ≡ true = served-sister q e sister pending in cc)
      by false other true served = absurd (let none = rw (other, served) at counts in grind (arith, nat_tests))
      by false other false unserved =
          let queued : is_registrants q e ≡ true = grind (arith, nat_tests) in
          near-held q sister unserved (registered q s.registrations) refl queued

    -- what is near a pool counts there, and it is a pool of the provider
    counts-near : (q : PoolId) → near_pool c s p e ≡ Some q → (is_sister c p q ≡ true) × (counts_at q e ≡ true)
    counts-near q near = by (is_served_near c p e) refl (is_held_near c s p e) refl where
      by : (b : Bool) → is_served_near c p e ≡ b → (d : Bool) → is_held_near c s p e ≡ d → (is_sister c p q ≡ true) × (counts_at q e ≡ true)
      by true served d at =
          let pool : e.kept.pool ≡ Some q = rw served at near in
          let both = and_parts (is_pending e.kept.state) (option_map_or (is_sister c p) e.kept.pool false) served in
          (rw pool at both.1, rw (both.0, pool, equal-itself q.0) refl)
      by false unserved false unheld = absurd (let none = rw (unserved, unheld) at near in cc)
      by false unserved true held = held-by (holder e.queue) refl where
        held-by : (o : Option SessionId) → holder e.queue ≡ o → (is_sister c p q ≡ true) × (counts_at q e ≡ true)
        held-by None holds = absurd (let none = rw holds at held in cc)
        held-by (Some session) holds = role-by (role_of session s) refl where
          role-by : (r : Option Role) → role_of session s ≡ r → (is_sister c p q ≡ true) × (counts_at q e ≡ true)
          role-by None role = absurd (let none = rw (holds, role) at held in cc)
          role-by (Some r) role =
              let of_pool : pool_of_role r ≡ Some q = rw (unserved, held, holds, role) at near in
              let launches : r ≡ Launcher q = launcher-of r q of_pool in
              let sister : is_sister c p q ≡ true = rw (holds, role, launches) at held in
              let such : IsRegistrant s session = all-at (IsRegistrant s) e.queue 0 session registrants holds in
              let of_facts : such.facts.role ≡ Launcher q = (let both : Some such.facts.role ≡ Some r = sym (ap (option_map (λ (f : SessionFacts). f.role)) such.begun) ∙ role in cc) in
              let is : registered q s.registrations ≡ Some session = such.registers q of_facts in
              let queued : is_queued session e.queue ≡ true = holder-queued session e.queue (rw holds (grind (arith, nat_tests))) in
              (sister, (let right : (is_registrants q e && not (is_served_near c p e)) ≡ true = rw (is, queued, unserved) refl in rw right (or_true (is_pending_by q e.kept))))

    near-at : (q : PoolId) → is_pool q (near_pool c s p e) ≡ (is_sister c p q && counts_at q e)
    near-at q = both_ways (is_pool q (near_pool c s p e)) (is_sister c p q && counts_at q e) there back where
      there : is_pool q (near_pool c s p e) ≡ true → (is_sister c p q && counts_at q e) ≡ true
      there is = let counts = counts-near q (served-by q (near_pool c s p e) is) in both_true counts.0 counts.1

      back : (is_sister c p q && counts_at q e) ≡ true → is_pool q (near_pool c s p e) ≡ true
      back is = let both = and_parts (is_sister c p q) (counts_at q e) is in ap (is_pool q) (near-counts q both.0 both.1) ∙ equal-itself q.0

    -- the launchers of the provider work on it if it is near one of the pools
    near-is : (is_served_near c p e || is_held_near c s p e) ≡ is_near_below c s p (length c.pools) e
    near-is = by (near_pool c s p e) refl (is_served_near c p e) refl (is_held_near c s p e) refl where
      by : (o : Option PoolId) → near_pool c s p e ≡ o → (b : Bool) → is_served_near c p e ≡ b → (d : Bool) → is_held_near c s p e ≡ d → (b || d) ≡ option_map_or (λ other. nat_lt other.0 (length c.pools)) o false
      by (Some q) near false unserved false unheld = absurd (let none = rw (unserved, unheld) at near in cc)
      by (Some q) near true served d held = sister-below q (counts-near q near).0
      by (Some q) near false unserved true held = sister-below q (counts-near q near).0
      by None none true served d held =
          let pool : e.kept.pool ≡ None = rw served at none in
          let both = and_parts (is_pending e.kept.state) (option_map_or (is_sister c p) e.kept.pool false) served in
          absurd (let no = rw pool at both.1 in cc)
      by None none false unserved false unheld = refl
      by None none false unserved true held = absurd (unheld-by (option_and_then (λ session. role_of session s) (holder e.queue)) held (rw (unserved, held) at none))

-- ## no more than there are

pub pending-few : (s : State) (q : PoolId) → length (pending_requests q s) ≤ length s.requests
pending-few s q =
    omega (arith, length-map (filter (λ (e : RequestEntry). is_pending_by q e.kept) s.requests) (λ e. e.id), length-filter_at_most (λ (e : RequestEntry). is_pending_by q e.kept) s.requests)

pub unserved-few : (c : Configuration) (s : State) (p : PoolId) (session : SessionId) → unserved_requests c s p session ≤ length s.requests
unserved-few c s p session =
    omega (
      arith,
      count_by-le-length (λ (r : RequestId). not (request_is r s (is_served_by_sister c p))) (queued_requests session s),
      length-map (filter (λ (e : RequestEntry). is_queued session e.queue) s.requests) (λ e. e.id),
      length-filter_at_most (λ (e : RequestEntry). is_queued session e.queue) s.requests,
    )

-- ## all requests

module _ (c : Configuration) (s : State) (p : PoolId) where
  counts-apart : (q : PoolId) → is_sister c p q ≡ true → (e : RequestEntry) → one (counts_at c s p q e) ≡ one (is_pending_by q e.kept) + one (is_registrants c s p q e && not (is_served_near c p e))
  counts-apart q sister e = grind (arith, nat_tests, served-sister c s p q e sister)

  pub none-counts : count_by (is_near_below c s p 0) s.requests ≡ 0
  none-counts = count-none (is_near_below c s p 0) s.requests (λ e. by (near_pool c s p e)) where
    by : (o : Option PoolId) → option_map_or (λ q. nat_lt q.0 0) o false ≡ false
    by o = grind (arith, nat_tests)

  more-by : (q : PoolId) (e : RequestEntry) → one (is_near_below c s p (suc q.0) e) ≡ one (is_near_below c s p q.0 e) + one (is_pool q (near_pool c s p e))
  more-by q e = by (near_pool c s p e) where
    by : (o : Option PoolId) → one (option_map_or (λ other. nat_lt other.0 (suc q.0)) o false) ≡ one (option_map_or (λ other. nat_lt other.0 q.0) o false) + one (is_pool q o)
    by o = grind (arith, nat_tests)

  -- one more pool of the configuration
  more-counts : (q : PoolId) → count_by (is_near_below c s p (suc q.0)) s.requests ≡ count_by (is_near_below c s p q.0) s.requests + count_by (λ e. is_pool q (near_pool c s p e)) s.requests
  more-counts q = count-either (is_near_below c s p q.0) (λ (e : RequestEntry). is_pool q (near_pool c s p e)) (is_near_below c s p (suc q.0)) s.requests (more-by q)

  pending-counts : (q : PoolId) → count_by (λ e. is_pending_by q e.kept) s.requests ≡ length (pending_requests q s)
  pending-counts q = sym (length-map (filter (λ (e : RequestEntry). is_pending_by q e.kept) s.requests) (λ e. e.id) ∙ length-filter (λ (e : RequestEntry). is_pending_by q e.kept) s.requests)

module _ (c : Configuration) (s : State) (reached : IsReached c s) (p : PoolId) where
  holds : Invariant c s
  holds = invariant-Runs c reached.journal s reached.runs

  few-there : (i : ℕ) (e : RequestEntry) → slice_get s.requests i ≡ Some e → length e.queue ≤ 1
  few-there i e there = all-at (λ (x : RequestEntry). length x.queue ≤ 1) s.requests i e holds.queued.one_a_request there

  registrants-there : (i : ℕ) (e : RequestEntry) → slice_get s.requests i ≡ Some e → AllByRecursion (IsRegistrant s) e.queue
  registrants-there i e there =
      subst (λ (queue : List SessionId). AllByRecursion (IsRegistrant s) queue) (ap (λ (o : Option RequestEntry). option_map_or (λ (x : RequestEntry). x.queue) o []) (row-there c s reached i e there)) (queues-registered c s reached e.id)

  unserved-there : (session : SessionId) (i : ℕ) (e : RequestEntry) → slice_get s.requests i ≡ Some e → is_queued session e.queue ≡ true → not (request_is e.id s (is_served_by_sister c p)) ≡ not (is_served_near c p e)
  unserved-there session i e there queued = rw (row-there c s reached i e there) refl

  unserved-counts : (session : SessionId) → unserved_requests c s p session ≡ count_by (λ e. is_queued session e.queue && not (is_served_near c p e)) s.requests
  unserved-counts session =
      count-named (λ (e : RequestEntry). e.id) (λ e. is_queued session e.queue) (λ e. not (is_served_near c p e)) (λ r. not (request_is r s (is_served_by_sister c p))) s.requests
      (all-from_at (λ (e : RequestEntry). is_queued session e.queue ≡ true → not (request_is e.id s (is_served_by_sister c p)) ≡ not (is_served_near c p e)) s.requests (unserved-there session))

  registrant-counts : (o : Option SessionId) → count_by (λ e. option_map_or (λ session. is_queued session e.queue) o false && not (is_served_near c p e)) s.requests ≡ option_map_or (unserved_requests c s p) o 0
  registrant-counts None = count-none (λ (e : RequestEntry). false) s.requests (λ e. refl)
  registrant-counts (Some session) = sym (unserved-counts session)

  launcher-counts : (q : PoolId) → is_sister c p q ≡ true → count_by (counts_at c s p q) s.requests ≡ launcher_requests c s p q
  launcher-counts q sister =
      let parts = count-either (λ (e : RequestEntry). is_pending_by q e.kept) (λ e. is_registrants c s p q e && not (is_served_near c p e)) (counts_at c s p q) s.requests (counts-apart c s p q sister) in
      omega (arith, parts, pending-counts c s p q, registrant-counts (registered q s.registrations))

  pool-counts : (q : PoolId) → count_by (λ e. is_pool q (near_pool c s p e)) s.requests ≡ sister_requests c s p q
  pool-counts q =
      count-same (λ (e : RequestEntry). is_pool q (near_pool c s p e)) (λ e. is_sister c p q && counts_at c s p q e) s.requests
      (all-from_at (λ (e : RequestEntry). is_pool q (near_pool c s p e) ≡ (is_sister c p q && counts_at c s p q e)) s.requests (λ i e there.
      near-at c s p holds.registered.of_launcher e (few-there i e there) (registrants-there i e there) q))
      ∙ by_bool (λ b. count_by (λ e. b && counts_at c s p q e) s.requests ≡ cond b (launcher_requests c s p q) 0) (is_sister c p q) (launcher-counts q) (λ other. count-none (λ (e : RequestEntry). false) s.requests (λ e. refl))

  -- up to a pool, and to the next one
  pub pool-adds : (q : PoolId) → count_by (is_near_below c s p (suc q.0)) s.requests ≡ count_by (is_near_below c s p q.0) s.requests + sister_requests c s p q
  pool-adds q = more-counts c s p q ∙ ap (λ (n : ℕ). count_by (is_near_below c s p q.0) s.requests + n) (pool-counts q)

  -- up to the last pool
  pub pools-count : (pools : ℕ) → pools ≡ length c.pools → count_by (is_near_below c s p pools) s.requests ≡ requests_near c s p
  pools-count pools all =
      ap (λ (n : ℕ). count_by (is_near_below c s p n) s.requests) all
      ∙ sym (count-same (λ (e : RequestEntry). is_served_near c p e || is_held_near c s p e) (is_near_below c s p (length c.pools)) s.requests
      (all-from_at (λ (e : RequestEntry). (is_served_near c p e || is_held_near c s p e) ≡ is_near_below c s p (length c.pools) e) s.requests (λ i e there.
      near-is c s p holds.registered.of_launcher e (few-there i e there) (registrants-there i e there))))
