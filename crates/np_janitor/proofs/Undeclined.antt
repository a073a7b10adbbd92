-- each request that has not failed has a pool left that has not declined it, as each pool has one registration
use Rattle.np_janitor.proofs.Prelude.{AllByRecursion, Bool, CameBy, Changes, Configuration, Declined, EditPremise, Entry, Event, EventKind, Growth, GrowthPremise, Invariant, IsLauncher, IsReached, Janitor, Launcher, List, Maker, MayDecline, None, NoneOf, Option, PoolId, Premises, Reason, Registration, RequestEdit, RequestId, RequestKind, RequestRecord, RequestState, Rises, Role, SessionFacts, SessionId, SessionsChange, Some, State, [], all-at, all-change_at, all-push, all-weaker, and_parts, ap, arith, by_bool, came, changed, cond, cond-true, count_by, declined_with, edit-premise, edited, ended, eqb-true, false, grown, if◌then◌else◌, inl, inr, invariant-changed, invariant-start, is_declined_by, is_failed, is_last_pool, is_ok, is_pending, is_pool, is_requested, is_role, is_some, judge, lacks_registration, length, list_all, list_any-append, muted, nat_lt, nat_tests, next, not, not-below, ok-is, or_parts, pending-open, plan, plan-next, premises, refl, request_in, requested-open, same_Some, same_pool, session-at, session_of, sessions_changed, slice_get, slice_get_within, some-of, start, state_after, subst, suc, sum_by-cons, sym, true, true_from_ne_false, true≢false, undeclined, ℕ, ◌&&◌, ◌+◌, ◌-◌, ◌<◌, ◌==◌, ◌||◌, ◌∙◌, ◌∷◌, ◌≡◌, ◌≤◌}
use Rattle.np_janitor.proofs.Janitors.{fail-is}

-- # if as many registrations stand as there are pools, each pool has one

-- ## members of a list

-- a member for which the test fails
pub some-fails : {X : Type 0} (P : X → Type 0) (p : X → Bool) (xs : List X) → AllByRecursion P xs → list_all p xs ≡ false → (x : X) × (P x × (p x ≡ false))
some-fails P p [] all is = absurd cc
some-fails P p (x ∷ xs) all is =
    by_bool (λ b. (b && list_all p xs) ≡ false → (y : _) × (P y × (p y ≡ false))) (p x) (λ passes rest. some-fails P p xs all.1 rest) (λ fails rest. (x, (all.0, fails))) is

-- if none of those that fail is counted, all pass
pub all-pass : {X : Type 0} (p : X → Bool) (xs : List X) → count_by (λ x. not (p x)) xs ≡ 0 → AllByRecursion (λ x. p x ≡ true) xs
all-pass p [] none = tt
all-pass {X} p (x ∷ xs) none =
    let both : count_by (λ (y : X). not (p y)) (x ∷ xs) ≡ cond (not (p x)) 1 0 + count_by (λ y. not (p y)) xs = sum_by-cons (λ (y : X). cond (not (p y)) 1 0) x xs in
    (true_from_ne_false (p x) (λ fails. omega (arith, both, none, cond-true {A = ℕ} (not (p x)) 1 0 (ap not fails))), all-pass p xs (omega (arith, both, none)))

-- ## the pools of the registrations

abbrev by_pool : Registration → Registration → Bool
by_pool a b = nat_lt a.pool.0 b.pool.0

above : (g : Registration) (rows : List Registration) → AllByRecursion (λ h. by_pool g h ≡ true) rows → AllByRecursion (λ h. suc g.pool.0 ≤ h.pool.0) rows
above g rows all = all-weaker (λ (h : Registration). by_pool g h ≡ true) (λ h. suc g.pool.0 ≤ h.pool.0) (λ h is. grind (arith, nat_tests)) rows all

module _ (n : ℕ) where
  abbrev AllBelow : List Registration → Type 0
  AllBelow rows = AllByRecursion (λ g. g.pool.0 < n) rows

  few : (rows : List Registration) (low : ℕ) → low ≤ n → Rises by_pool rows → AllByRecursion (λ g. low ≤ g.pool.0) rows → AllBelow rows → length rows + low ≤ n
  few [] low least rise from below = omega (arith, least)
  few (g ∷ rows) low least rise from below =
      let rest : length rows + suc g.pool.0 ≤ n = few rows (suc g.pool.0) (omega (arith, below.0)) rise.1 (above g rows rise.0) below.1 in
      omega (arith, rest, from.0)

  -- what is true of each registered pool is true of each pool from the lowest on
  all-from : (P : PoolId → Type 0) (rows : List Registration) (low : ℕ) → Rises by_pool rows → AllByRecursion (λ g. low ≤ g.pool.0) rows → AllBelow rows → n ≤ length rows + low → AllByRecursion (λ g. P g.pool) rows
      → (p : PoolId) → low ≤ p.0 → p.0 < n → P p
  all-from P [] low rise from below many all p least less = absurd (omega (arith, many, least, less))
  all-from P (g ∷ rows) low rise from below many all p least less =
      let rest : length rows + suc g.pool.0 ≤ n = few rows (suc g.pool.0) (omega (arith, below.0)) rise.1 (above g rows rise.0) below.1 in
      let lowest : g.pool.0 ≤ low = omega (arith, rest, many) in
      by_bool (λ b. P p) (g.pool.0 == p.0) (λ same. subst P (same_pool g.pool p same) all.0)
      (λ other. all-from P rows (suc g.pool.0) rise.1 (above g rows rise.0) below.1 (omega (arith, many, from.0)) all.1 p (grind (arith, nat_tests, lowest, least, other)) less)

  pub all-pools : (P : PoolId → Type 0) (rows : List Registration) → Rises by_pool rows → AllBelow rows → n ≤ length rows → AllByRecursion (λ g. P g.pool) rows → (p : PoolId) → p.0 < n → P p
  all-pools P rows rise below many all p less =
      all-from P rows 0 rise (all-weaker (λ (g : Registration). g.pool.0 < n) (λ g. 0 ≤ g.pool.0) (λ g is. omega arith) rows below) below (omega (arith, many)) all p (omega arith) less

-- # in a state that a run reaches, each request that has not failed has a pool of the configuration left that has not declined it

-- ## what a run keeps

-- each of the sessions belongs to a role of the configuration
abbrev pub AreOfSite : Configuration → List SessionFacts → Type 0
AreOfSite c rows = AllByRecursion (λ f. is_role c f.role ≡ true) rows

-- a pool of the configuration is none of those that declined
record HasPoolLeft (c : Configuration) (declined : List Declined) : Type 0 where
  pool : PoolId
  of_site : pool.0 < length c.pools
  undeclined : is_declined_by pool declined ≡ false

-- a request that has not failed has such a pool, if there is any pool
abbrev IsUndeclined : Configuration → RequestRecord → Type 0
IsUndeclined c request = 0 < length c.pools → is_failed request.state ≡ false → HasPoolLeft c request.declined

abbrev AreUndeclined : Configuration → State → Type 0
AreUndeclined c s = (r : RequestId) (q : RequestRecord) → request_in r s.requests ≡ Some q → IsUndeclined c q

record IsKept (c : Configuration) (s : State) : Type 0 where
  holds : Invariant c s
  of_site : AreOfSite c s.sessions
  with_pool_left : AreUndeclined c s

-- ## a registered pool is one of the configuration

session-role : (c : Configuration) (s : State) (session : SessionId) (facts : SessionFacts) → AreOfSite c s.sessions → session_of session s ≡ Some facts → is_role c facts.role ≡ true
session-role c s session facts all is = all-at (λ (f : SessionFacts). is_role c f.role ≡ true) s.sessions (session.0 - 1) facts all (session-at s session.0 facts is)

launcher-pool : (c : Configuration) (s : State) (p : PoolId) (session : SessionId) → AreOfSite c s.sessions → IsLauncher s p session → p.0 < length c.pools
launcher-pool c s p session all is =
    let role : is_role c (Launcher p) ≡ true = ap (λ (x : Role). is_role c x) (sym is.role) ∙ session-role c s session is.facts all is.begun in
    let pool = some-of (slice_get c.pools p.0) role in
    slice_get_within c.pools p.0 pool.0 pool.1

pools-of_site : (c : Configuration) (s : State) → IsKept c s → AllByRecursion (λ g. g.pool.0 < length c.pools) s.registrations
pools-of_site c s kept =
    all-weaker (λ (g : Registration). IsLauncher s g.pool g.session) (λ g. g.pool.0 < length c.pools) (λ g is. launcher-pool c s g.pool g.session kept.of_site is) s.registrations kept.holds.registered.of_launcher

-- ## the sessions

sessions-grown : (c : Configuration) (s : State) (ch : Changes) (maker : Option Maker) (growth : Growth) → GrowthPremise c s ch growth → AreOfSite c s.sessions → AreOfSite c (grown c maker growth s).sessions
sessions-grown c s ch maker (Growth.Session role) premise old = all-push (λ (f : SessionFacts). is_role c f.role ≡ true) s.sessions _ old premise
sessions-grown c s ch None (Growth.Registration p) premise old = old
sessions-grown c s ch maker _ premise old = old

sessions-settled : (c : Configuration) (change : SessionsChange) (rows : List SessionFacts) → AreOfSite c rows → AreOfSite c (sessions_changed change rows)
sessions-settled c SessionsChange.Same rows old = old
sessions-settled c (SessionsChange.Mute quiet) rows old = all-change_at (λ (f : SessionFacts). is_role c f.role ≡ true) (quiet.0 - 1) muted rows (λ f is. is) old
sessions-settled c (SessionsChange.End over) rows old = all-change_at (λ (f : SessionFacts). is_role c f.role ≡ true) (over.0 - 1) ended rows (λ f is. is) old

-- ## one edit

goes-on : (b : Bool) → is_failed (if b then RequestState.Failed else RequestState.Requested) ≡ false → b ≡ false
goes-on b alive = grind arith

-- the pool is not the one that declines
undeclined-still : (p l : PoolId) (why : Reason) (request : RequestRecord) → is_declined_by l request.declined ≡ false → (p.0 == l.0) ≡ false → is_declined_by l (declined_with request p why) ≡ false
undeclined-still p l why request before other =
    list_any-append (λ (d : Declined). d.pool.0 == l.0) request.declined (record { pool = p; reason = why } ∷ []) ∙ rw (before, other) refl

module _ (c : Configuration) (s : State) (ch : Changes) (given : Premises c s ch) (kept : IsKept c s) where
  -- if the request does not fail, a registered pool is left
  declined-open : (r : RequestId) (q : RequestRecord) (p : PoolId) (why : Reason) (failed : Bool) → request_in r s.requests ≡ Some q → MayDecline c s ch r p why failed → failed ≡ false → HasPoolLeft c (declined_with q p why)
  declined-open r q p why failed stood premise alive =
      let same : premise.request ≡ q = same_Some premise.request q (sym premise.worked_on.stands ∙ stood) in
      let others : is_last_pool s.registrations premise.request p ≡ false = (or_parts (is_some premise.request.pinned) (is_last_pool s.registrations premise.request p) (sym premise.fails ∙ alive)).1 in
      let last : is_last_pool s.registrations q p ≡ false = subst (λ (x : RequestRecord). is_last_pool s.registrations x p ≡ false) same others in
      let found = some-fails (λ (g : Registration). g.pool.0 < length c.pools) (λ g. is_declined_by g.pool q.declined || (p.0 == g.pool.0)) s.registrations (pools-of_site c s kept) last in
      let parts = or_parts (is_declined_by found.0.pool q.declined) (p.0 == found.0.pool.0) found.1.1 in
      record { pool = found.0.pool; of_site = found.1.0; undeclined = undeclined-still p found.0.pool why q parts.0 parts.1 }

  edit-open : (r : RequestId) (q : RequestRecord) (how : RequestEdit) → request_in r s.requests ≡ Some q → EditPremise c s ch r how → IsUndeclined c q → IsUndeclined c (edited how q)
  edit-open r q (RequestEdit.Serve p) stood premise old = λ some alive.
      let same : premise.request ≡ q = same_Some premise.request q (sym premise.worked_on.stands ∙ stood) in
      old some (requested-open q.state (subst (λ (x : RequestRecord). is_requested x.state ≡ true) same premise.requested))
  edit-open r q (RequestEdit.Decline p why failed) stood premise old = λ some alive. declined-open r q p why failed stood premise (goes-on failed alive)
  edit-open r q RequestEdit.Fulfil stood premise old = λ some alive.
      let fulfils = premise.0 in
      let same : fulfils.request ≡ q = same_Some fulfils.request q (sym fulfils.worked_on.stands ∙ stood) in
      let pending : is_pending fulfils.request.state ≡ true = (and_parts (is_pending fulfils.request.state) (is_pool fulfils.pool fulfils.request.pool) fulfils.pending).0 in
      old some (pending-open q.state (subst (λ (x : RequestRecord). is_pending x.state ≡ true) same pending))
  edit-open r q RequestEdit.GiveBack stood premise old = λ some alive.
      let same : premise.request ≡ q = same_Some premise.request q (sym premise.stands ∙ stood) in
      old some (pending-open q.state (subst (λ (x : RequestRecord). is_pending x.state ≡ true) same premise.pending))
  edit-open r q RequestEdit.Fail stood premise old = λ some alive. absurd cc
  edit-open r q _ stood premise old = old

  -- ## all requests

  -- one that was there before, as it was or edited, and a new one
  undeclined-changed : AreUndeclined c (changed c ch s)
  undeclined-changed r q is = by (came c s ch kept.holds.numbered given r q is) where
    by : CameBy s ch r q → IsUndeclined c q
    by (inl there) = kept.with_pool_left r q there
    by (inr (inl was)) =
        subst (IsUndeclined c) (sym was.is)
        (edit-open r was.old was.how was.stood (edit-premise c s ch kept.holds.numbered given r was.how was.edits) (kept.with_pool_left r was.old was.stood))
    by (inr (inr new)) = subst (IsUndeclined c) (sym new.is) (λ some alive. record { pool = record { 0 = 0 }; of_site = some; undeclined = refl })

  kept-changed : IsKept c (changed c ch s)
  kept-changed = record {
    holds = invariant-changed c s ch kept.holds given;
    of_site = sessions-settled c ch.sessions (grown c ch.maker ch.grows s).sessions (sessions-grown c s ch ch.maker ch.grows given.grows kept.of_site);
    with_pool_left = undeclined-changed;
  }

-- ## whole runs

module _ (c : Configuration) where
  kept-next : (s : State) (e : Event) → IsKept c s → IsKept c (next c s e)
  kept-next s e old =
      by_bool (λ b. IsKept c (next c s e)) (is_ok (judge c s e)) (λ ok. subst (IsKept c) (plan-next c s e ok) (kept-changed c s (plan c s e) (premises c s e ok) old)) (λ refused. rw refused old)

  kept-after : (s : State) (journal : List Entry) → IsKept c s → IsKept c (state_after c s journal)
  kept-after s [] old = old
  kept-after s (entry ∷ journal) old = kept-after (next c s entry.event) journal (kept-next s entry.event old)

  kept-reached : (s : State) → IsReached c s → IsKept c s
  kept-reached s reached =
      subst (IsKept c) reached.runs.ends (kept-after (start c) reached.journal (record { holds = invariant-start c; of_site = tt; with_pool_left = λ r q none. absurd cc }))

-- ## nothing to fail

-- a registered pool is a pool
has-pool : (c : Configuration) (rows : List Registration) → (length rows == 0) ≡ false → AllByRecursion (λ g. g.pool.0 < length c.pools) rows → 0 < length c.pools
has-pool c [] some all = absurd cc
has-pool c (g ∷ rows) some all = omega (arith, all.0)

-- in a state that a run reaches each session belongs to a role of the configuration
pub sessions-of_site : (c : Configuration) (s : State) → IsReached c s → AreOfSite c s.sessions
sessions-of_site c s reached = (kept-reached c s reached).of_site

module _ (c : Configuration) (s : State) (reached : IsReached c s) (none_missing : lacks_registration c s ≡ false) where
  -- no request is requested and declined by each registered pool
  never : (r : RequestId) (request : RequestRecord) → request_in r s.requests ≡ Some request → is_requested request.state ≡ true → (length s.registrations == 0) ≡ false → undeclined s.registrations request ≡ 0 → ⊥
  never r request there requested some none =
      let kept : IsKept c s = kept-reached c s reached in
      let left : HasPoolLeft c request.declined = kept.with_pool_left r request there (has-pool c s.registrations some (pools-of_site c s kept)) (requested-open request.state requested) in
      let declined : is_declined_by left.pool request.declined ≡ true =
      all-pools (length c.pools) (λ p. is_declined_by p request.declined ≡ true) s.registrations kept.holds.registered.one_a_pool (pools-of_site c s kept) (not-below (length s.registrations) (length c.pools) none_missing)
      (all-pass (λ (g : Registration). is_declined_by g.pool request.declined) s.registrations none) left.pool left.of_site in
      true≢false (sym declined ∙ left.undeclined)

  -- while each pool has a registration, no janitor fails a request
  pub none-fails : (p : PoolId) → NoneOf c s (Janitor p) (EventKind.Request RequestKind.FailDeclined)
  none-fails p session r useful =
      let answer = ok-is (judge c s (Event.FailDeclined session r)) useful.accepted in
      let is = fail-is c s session r answer.0 answer.1 in
      never r is.request is.there is.requested is.some (eqb-true (undeclined s.registrations is.request) 0 is.none)
