-- what the past turns tell of requests and nodes: declines, reports, and the cause of each failure
use Rattle.np_changes.proofs.Prelude.{All-contains, AllPass-from_list_all, Any-from_list_any, Bool, Contains, List, PoolId, Registration, RequestRecord, SessionId, [], all_declined, arith, cond, cond-true, count_by, false, false≢true, is_declined_by, is_session_of, length, list_all, list_any, not, refl, registered, sum_by-cons, true, undeclined, ℕ, ◌&&◌, ◌+◌, ◌<◌, ◌==◌, ◌∷◌, ◌≡◌, EachTurn, NodeId, ReportsFailure, SomeTurn, Turn, cond-false, inl, inr, is_done, is_report_on, nat_tests, reports_on, sum_by_push, ◌++◌, AllByRecursion, Configuration, Declined, IsTrueDecline, LabelId, Launcher, NodeRecord, RequestId, SessionFacts, Some, State, is_building, is_failed, is_failed_node, is_offered, never_fits, node_in, request_in, request_queue, retries_of, session_of, start, ◌≤◌, Changes, Done, Event, Growth, NodesChange, None, Ok, Option, Outcome, Reason, Refusal, RequestEdit, RequestsChange, Result, Role, ap, is_pinned_away, judge, judge_done, launched, launcher, made_by, maker, plan, role_of, same, subst, with_found, with_given, ◌∙◌, ◌⊎◌, Asked, EditPremise, IsNumbered, Maker, Premises, RequestEntry, RequestsPremise, Rises, changed, edited, grown, is_id_before, joined, left, new_record, next_id, none-some, request-equal, requests_changed, same_Some, same_request, sym, Contains-push_cases, IsAccepted, MayDecline, is_true, AsksForJob, AsksToKeep, GrowthPremise, IsHeard, IsWorkedOn, MakerPremise, RequestState, SessionsChange, all-at, all-weaker, and_parts, change_session, ended, from-map_some, if◌then◌else◌, is_pending, is_pool, is_requested, is_some, kept-change_at, muted, option_map, request_holder, session-equal, sessions_changed, true≢false, ◌-◌, GainsNew, NodeState, NodesPremise, RunsWhileBuilding, and_left, both_ways, new_node, DeclinedByAll, FailsNow, HasCause, HasDeclined, Invariant, IsServed, LaunchesSpent, MayFail, has_failed, is_last_pool, is_pending_by, is_spent, member-there, option_map_or, or_cases, slice_get_within, ◌||◌}
use Rattle.np_changes.proofs.Accepted.{last-declines, plan-given}
use Rattle.np_changes.proofs.Lookups.{Added, Altered, IsAllocated, IsFreed, IsPut, IsUsed, NodeChange, NodeStep, Removed, Stays, found-grown, grown-numbered, left-request, next-more, node-step, node_in-below, node_in-put, nodes-after, none-unless, request_in-below, request_in-edit, request_in-insert, request_in-later, request_in-new, request_in-queue, request_in-remove, request_in-removed, request_queue-nowhere, same-seq, same_label, same_node-is, same_pool, used_from}
use Rattle.np_changes.proofs.RequestStates.{edited-by, node-place, rest-if, served-if}
use Rattle.np_changes.proofs.Queues.{facts-grown, facts_in, queue-after}
use Rattle.np_changes.specs.Plan

-- # members of lists

-- ## members

-- a member that passes
pub any-member : {X : Type 0} (p : X → Bool) (xs : List X) → list_any p xs ≡ true → (x : X) × (Contains xs x) × (p x ≡ true)
any-member p xs any = let found = Any-from_list_any p xs any in (found.1, (found.0, found.2, found.3), found.4)

-- all pass, and so each member
pub all-member : {X : Type 0} (p : X → Bool) (xs : List X) (x : X) → list_all p xs ≡ true → Contains xs x → p x ≡ true
all-member p xs x all among = All-contains (λ y. p y ≡ true) xs x (AllPass-from_list_all p xs all) among

-- if none of those that fail is counted, all pass
pub all-counted : {X : Type 0} (p : X → Bool) (xs : List X) → count_by (λ x. not (p x)) xs ≡ 0 → list_all p xs ≡ true
all-counted p [] none = refl
all-counted {X} p (x ∷ xs) none =
    let both : count_by (λ (y : X). not (p y)) (x ∷ xs) ≡ cond (not (p x)) 1 0 + count_by (λ y. not (p y)) xs = sum_by-cons (λ (y : X). cond (not (p y)) 1 0) x xs in
    grind (arith, nat_tests, both, all-counted p xs)

-- ## registrations

pub some-registered : (p : PoolId) (session : SessionId) (rows : List Registration) → is_session_of session (registered p rows) ≡ true → 0 < length rows
some-registered p session [] is = absurd (false≢true is)
some-registered p session (g ∷ rows) is = omega arith

-- if somebody is registered, not all have declined what nobody has
pub none-declined : (rows : List Registration) → 0 < length rows → all_declined rows [] ≡ true → ⊥
none-declined [] some all = omega (arith, some)
none-declined (g ∷ rows) some all = false≢true all

-- # lists of turns, with one turn more

pub some-before : (P : Turn → Type 0) (ts : List Turn) (t : Turn) → SomeTurn P ts → SomeTurn P (ts ++ t ∷ [])
some-before P [] t some = absurd some
some-before P (first ∷ ts) t (inl is) = inl is
some-before P (first ∷ ts) t (inr later) = inr (some-before P ts t later)

pub some-last : (P : Turn → Type 0) (ts : List Turn) (t : Turn) → P t → SomeTurn P (ts ++ t ∷ [])
some-last P [] t is = inl is
some-last P (first ∷ ts) t is = inr (some-last P ts t is)

pub each-push : (P : Turn → Type 0) (ts : List Turn) (t : Turn) → EachTurn P ts → P t → EachTurn P (ts ++ t ∷ [])
each-push P [] t each is = (is, tt)
each-push P (first ∷ ts) t each is = (each.0, each-push P ts t each.1 is)

-- ## reports

-- the turn is an accepted report on the node
abbrev pub reports : NodeId → Turn → Bool
reports n t = is_report_on n t.entry.event && is_done t.entry.reply

reports-push : (n : NodeId) (ts : List Turn) (t : Turn) → reports_on n (ts ++ t ∷ []) ≡ reports_on n ts + cond (reports n t) 1 0
reports-push n ts t = sum_by_push (λ (x : Turn). cond (reports n x) 1 0) ts t

pub reports-other : (n : NodeId) (ts : List Turn) (t : Turn) → reports n t ≡ false → reports_on n (ts ++ t ∷ []) ≡ reports_on n ts
reports-other n ts t other = omega (arith, reports-push n ts t, cond-false {A = ℕ} (reports n t) 1 0 other)

pub reports-more : (n : NodeId) (ts : List Turn) (t : Turn) → reports n t ≡ true → reports_on n (ts ++ t ∷ []) ≡ reports_on n ts + 1
reports-more n ts t is = omega (arith, reports-push n ts t, cond-true {A = ℕ} (reports n t) 1 0 is)

-- if there is no report, every report said that the launch failed
pub none-failed : (n : NodeId) (ts : List Turn) → reports_on n ts ≡ 0 → EachTurn (ReportsFailure n) ts
none-failed n [] none = tt
none-failed n (t ∷ ts) none =
    let both : reports_on n (t ∷ ts) ≡ cond (reports n t) 1 0 + reports_on n ts = sum_by-cons (λ (x : Turn). cond (reports n x) 1 0) t ts in
    (λ is accepted. absurd (grind (arith, nat_tests, both, none, is, accepted)), none-failed n ts (omega (arith, both, none)))

-- # what holds of the past turns and the state after them

-- ## declines

-- each decline in the list of an existing request was made by a past turn
abbrev pub DeclinesMade : Configuration → List Turn → State → Type 0
DeclinesMade c past s = (r : RequestId) (q : RequestRecord) → request_in r s.requests ≡ Some q → (d : Declined) → Contains q.declined d → SomeTurn (IsTrueDecline c r d.pool d.reason) past

-- ## pinned requests

-- a session that was begun, and is no launcher of another pool
pub record IsOwn (s : State) (p : PoolId) (session : SessionId) : Type 0 where
  pub facts : SessionFacts
  pub begun : session_of session s ≡ Some facts
  pub own : (l : PoolId) → facts.role ≡ Launcher l → l ≡ p

-- a request that is pinned to the pool asks for one label, which the pool offers and has room for
-- when it is empty; nobody has declined it while it is not failed, and no other pool serves it
pub record IsPinned (c : Configuration) (q : RequestRecord) (p : PoolId) : Type 0 where
  pub label : LabelId
  pub labels : q.labels ≡ label ∷ []
  pub offered : is_offered c p label ≡ true
  pub fits_alone : never_fits c p q ≡ false
  pub undeclined : is_failed q.state ≡ false → q.declined ≡ []
  pub served : (l : PoolId) → q.pool ≡ Some l → l ≡ p

-- each pinned request is like this, and no launcher of another pool waits at it
abbrev pub PinnedStand : Configuration → State → Type 0
PinnedStand c s = (r : RequestId) (q : RequestRecord) (p : PoolId) → request_in r s.requests ≡ Some q → q.pinned ≡ Some p → IsPinned c q p × AllByRecursion (IsOwn s p) (request_queue r s.requests)

-- ## reports

-- the launch that is running, as a number
abbrev pub flights : Bool → ℕ
flights true = 1
flights false = 0

-- each attempt of a building node except the running one was reported, and of a failed node as many
-- as the provider allows; each report was of a failure
abbrev pub IsCounted : Configuration → List Turn → NodeId → NodeRecord → Type 0
IsCounted c past n k =
    (is_building k.state ≡ true → (reports_on n past + flights k.in_flight ≡ k.attempts) × EachTurn (ReportsFailure n) past)
    × (is_failed_node k.state ≡ true → (reports_on n past ≡ retries_of c k.pool) × EachTurn (ReportsFailure n) past)

-- each node that exists is counted like this, and nobody reported on a later one
pub record ReportsCounted (c : Configuration) (past : List Turn) (s : State) : Type 0 where
  pub later : (n : NodeId) → s.next_node ≤ n.0 → reports_on n past ≡ 0
  pub each : (n : NodeId) (k : NodeRecord) → node_in n s.nodes ≡ Some k → IsCounted c past n k

-- ## all of it

pub record IsDue (c : Configuration) (past : List Turn) (s : State) : Type 0 where
  pub declines : DeclinesMade c past s
  pub pinned : PinnedStand c s
  pub reports : ReportsCounted c past s

-- before the first turn
pub due-start : (c : Configuration) → IsDue c [] (start c)
due-start c = grind (arith, nat_tests)

-- # what an event is, according to its changes: which declines, which puts a node's record, and which joins a request's queue

-- ## what is told

-- the event is the decline, by a launcher of the pool
pub record IsDecline (s : State) (e : Event) (r : RequestId) (p : PoolId) (why : Reason) : Type 0 where
  pub session : SessionId
  pub event : e ≡ Event.Decline session r why
  pub of_pool : role_of session s ≡ Some (Launcher p)

-- a session that joins the request's queue is no launcher of a pool other than the request's own
pub record IsLock (s : State) (ch : Changes) (r : RequestId) : Type 0 where
  pub session : SessionId
  pub role : Role
  pub made_by : ch.maker ≡ Some (record { session = session; role = role })
  pub own : (p : PoolId) (q : RequestRecord) → role ≡ Launcher p → request_in r s.requests ≡ Some q → is_pinned_away p q ≡ false

-- a launch of the node begins
pub record IsStart (s : State) (e : Event) (n : NodeId) (kept : NodeRecord) : Type 0 where
  pub node : NodeRecord
  pub stands : node_in n s.nodes ≡ Some node
  pub idle : (is_building node.state && not node.in_flight) ≡ true
  pub start : ℕ
  pub record_after : kept ≡ record node { attempts = node.attempts + 1; in_flight = true; start = start }
  pub silent : (m : NodeId) → is_report_on m e ≡ false

-- the event reports on the launch of the node that runs
pub record IsReport (c : Configuration) (s : State) (e : Event) (n : NodeId) (kept : NodeRecord) : Type 0 where
  pub session : SessionId
  pub attempt : ℕ
  pub outcome : Outcome
  pub event : e ≡ Event.Done session n attempt outcome
  pub node : NodeRecord
  pub stands : node_in n s.nodes ≡ Some node
  pub flies : node.in_flight ≡ true
  pub record_after : kept ≡ launched (retries_of c node.pool) s.tick outcome node

-- the node neither builds nor has failed
pub record IsPast (kept : NodeRecord) : Type 0 where
  pub building : is_building kept.state ≡ false
  pub failed : is_failed_node kept.state ≡ false

-- what an event can be that puts a node's record
abbrev pub PutBy : Configuration → State → Event → NodeId → NodeRecord → Type 0
PutBy c s e n kept = IsStart s e n kept ⊎ (IsReport c s e n kept ⊎ IsPast kept)

pub record Tells (c : Configuration) (s : State) (e : Event) (ch : Changes) : Type 0 where
  pub declines : (r : RequestId) (p : PoolId) (why : Reason) (failed : Bool) → ch.requests ≡ RequestsChange.Edit r (RequestEdit.Decline p why failed) → IsDecline s e r p why
  pub joins : (r : RequestId) → ch.grows ≡ Growth.JoinRequest r → IsLock s ch r
  pub puts : (n : NodeId) (kept : NodeRecord) → ch.nodes ≡ NodesChange.Put n kept → PutBy c s e n kept

-- ## by the event

pub plan-tells : (c : Configuration) (s : State) (e : Event) (what : Done) → judge c s e ≡ Ok what → Tells c s e (plan c s e)
plan-tells c s (Event.LockRequest session r) what ok =
    plan-given (Tells c s (Event.LockRequest session r)) (grind (arith, nat_tests)) (maker s session) _ (λ role who. record {
      declines = λ x p why failed at. absurd cc;
      joins = λ x at.
          let id : r ≡ x = cc in
          subst (λ (y : RequestId). IsLock s (made_by session role (record same { grows = Growth.JoinRequest r })) y) id
          (record { session = session; role = role; made_by = refl; own = λ p q is has. grind (arith, nat_tests) });
      puts = λ n kept at. absurd cc;
    })
plan-tells c s _ what ok = grind (arith, nat_tests)

-- ## reports

-- a report puts the record of its node, which exists
pub record IsTold (s : State) (ch : Changes) (n : NodeId) : Type 0 where
  pub node : NodeRecord
  pub stands : node_in n s.nodes ≡ Some node
  pub kept : NodeRecord
  pub puts : ch.nodes ≡ NodesChange.Put n kept

done-told : (c : Configuration) (s : State) (session : SessionId) (n : NodeId) (attempt : ℕ) (o : Outcome) (what : Done) → judge_done s session n attempt ≡ Ok what → IsTold s (Plan.plan_done c s session n o) n
done-told c s session n attempt o what ok = by (launcher s session) refl (node_in n s.nodes) refl where
  by : (g : Result PoolId Refusal) → launcher s session ≡ g → (x : Option NodeRecord) → node_in n s.nodes ≡ x
      → IsTold s (with_given g (λ p. made_by session (Launcher p) (with_found x (λ k. record same { nodes = NodesChange.Put n (launched (retries_of c k.pool) s.tick o k) })))) n
  by (Ok p) who (Some k) has = record { node = k; stands = has; kept = launched (retries_of c k.pool) s.tick o k; puts = refl }
  by _ who x has = grind (arith, nat_tests)

pub report-told : (c : Configuration) (s : State) (e : Event) (what : Done) → judge c s e ≡ Ok what → (n : NodeId) → is_report_on n e ≡ true → IsTold s (plan c s e) n
report-told c s (Event.Done session m attempt o) what ok n is =
    subst (λ (x : NodeId). IsTold s (Plan.plan_done c s session m o) x) (same_node-is m n is) (done-told c s session m attempt o what ok)
report-told c s _ what ok n is = absurd (false≢true is)

-- # how a request that is found after an event was before it

-- ## what is found

-- the request is new by this growth
pub record IsNew (s : State) (growth : Growth) (r : RequestId) (q : RequestRecord) : Type 0 where
  pub priority : ℕ
  pub asked : Asked
  pub grows : growth ≡ Growth.Request priority asked
  pub id : next_id priority s ≡ r
  pub before : request_in r s.requests ≡ None
  pub is : q ≡ new_record asked

-- the request was there, and is as an edit left it
pub record IsChanged (rows : List RequestEntry) (change : RequestsChange) (r : RequestId) (q : RequestRecord) : Type 0 where
  pub old : RequestRecord
  pub how : RequestEdit
  pub stood : request_in r rows ≡ Some old
  pub edits : change ≡ RequestsChange.Edit r how
  pub is : q ≡ edited how old

-- as it was, edited, or new
abbrev pub CameBy : State → Changes → RequestId → RequestRecord → Type 0
CameBy s ch r q = (request_in r s.requests ≡ Some q) ⊎ (IsChanged s.requests ch.requests r q ⊎ IsNew s ch.grows r q)

-- ## by the kind of change

request-grown : (c : Configuration) (s : State) (maker : Option Maker) (growth : Growth) → AllByRecursion (λ e. e.id.seq < s.next_request) s.requests → (r : RequestId) (q : RequestRecord) → request_in r (grown c maker growth s).requests ≡ Some q
    → (request_in r s.requests ≡ Some q) ⊎ IsNew s growth r q
request-grown c s maker (Growth.Registration p) below r q is = grind (arith, nat_tests)
request-grown c s maker (Growth.Request priority asked) below r q is =
    let new : RequestEntry = record { id = next_id priority s; kept = new_record asked; queue = [] } in
    grind (arith, nat_tests, request_in-later r s.next_request s.requests below, same-seq (next_id priority s) r, request_in-new new r s.requests, request-equal (next_id priority s) r, request_in-insert new r s.requests)
request-grown c s (Some maker) (Growth.JoinRequest x) below r q is = inl (sym (request_in-queue x r (joined maker.session (request_queue x s.requests)) s.requests) ∙ is)
request-grown c s maker _ below r q is = inl is

request-settled : (maker : Option Maker) (change : RequestsChange) (rows : List RequestEntry) → Rises (λ a b. is_id_before a.id b.id) rows → (r : RequestId) (q : RequestRecord) → request_in r (requests_changed maker change rows) ≡ Some q
    → (request_in r rows ≡ Some q) ⊎ IsChanged rows change r q
request-settled maker (RequestsChange.Edit x how) rows rises r q is =
    grind (arith, nat_tests, edited-by (same_request x r) (edited how) (request_in r rows) q, request_in-edit x r (edited how) rows, request-equal x r)
request-settled maker (RequestsChange.Remove x) rows rises r q is = grind (arith, nat_tests, request_in-removed x r rows rises, request_in-remove x r rows)
request-settled (Some maker) (RequestsChange.Leave x) rows rises r q is = inl (sym (request_in-queue x r (left maker.session (request_queue x rows)) rows) ∙ is)
request-settled maker _ rows rises r q is = inl is

-- ## all of it

-- what is edited was there before the event
pub edit-stands : (c : Configuration) (s : State) (ch : Changes) (r : RequestId) (how : RequestEdit) → EditPremise c s ch r how → (q : RequestRecord) × (request_in r s.requests ≡ Some q)
edit-stands c s ch r x4 premise = grind (arith, nat_tests)

module _ (c : Configuration) (s : State) (ch : Changes) (numbered : IsNumbered s) (premises : Premises c s ch) where
  pub edit-premise : (r : RequestId) (how : RequestEdit) → ch.requests ≡ RequestsChange.Edit r how → EditPremise c s ch r how
  edit-premise r how at = subst (λ (change : RequestsChange). RequestsPremise c s ch change) at premises.requests

  pub came : (r : RequestId) (q : RequestRecord) → request_in r (changed c ch s).requests ≡ Some q → CameBy s ch r q
  came r q is = grind (arith, nat_tests, request-settled, grown, grown-numbered, left-request, request-grown, edit-stands, edit-premise, request_in-below, found-grown)

-- # after one more turn, each decline in the list of an existing request was made by a past turn

module _ (c : Configuration) (past : List Turn) (t : Turn) (ch : Changes) (numbered : IsNumbered t.before) (premises : Premises c t.before ch) (tells : Tells c t.before t.entry.event ch) (accepted : IsAccepted t)
    (old : DeclinesMade c past t.before) where
  -- the turn is the decline
  turn-declines : (r : RequestId) (q : RequestRecord) (p : PoolId) (why : Reason) (failed : Bool) → request_in r t.before.requests ≡ Some q → ch.requests ≡ RequestsChange.Edit r (RequestEdit.Decline p why failed) → MayDecline c t.before ch r p why failed → IsTrueDecline c r p why t
  turn-declines r q p why failed stood at premise =
      let decline : IsDecline t.before t.entry.event r p why = tells.declines r p why failed at in
      record {
        session = decline.session;
        request = q;
        event = decline.event;
        accepted = accepted;
        of_pool = decline.of_pool;
        stood = stood;
        holds = grind (arith, nat_tests, premise.holds_true, premise.worked_on.stands);
      }

  was-made : (r : RequestId) (q : RequestRecord) (d : Declined) → request_in r t.before.requests ≡ Some q → Contains q.declined d → SomeTurn (IsTrueDecline c r d.pool d.reason) (past ++ t ∷ [])
  was-made r q d stood among = some-before (IsTrueDecline c r d.pool d.reason) past t (old r q stood d among)

  edit-made : (r : RequestId) (q : RequestRecord) (how : RequestEdit) (d : Declined) → request_in r t.before.requests ≡ Some q → ch.requests ≡ RequestsChange.Edit r how → EditPremise c t.before ch r how → Contains (edited how q).declined d → SomeTurn (IsTrueDecline c r d.pool d.reason) (past ++ t ∷ [])
  edit-made r q (RequestEdit.Decline p why failed) d stood at premise among =
      grind (arith, nat_tests, Contains-push_cases q.declined (record { pool = p; reason = why }) d among, was-made r q d stood, some-last (IsTrueDecline c r d.pool d.reason) past t, turn-declines r q p why failed stood at premise)
  edit-made r q _ d stood at premise among = was-made r q d stood among

  pub declines-made : DeclinesMade c (past ++ t ∷ []) (changed c ch t.before)
  declines-made r q is d among = by (came c t.before ch numbered premises r q is) where
    by : CameBy t.before ch r q → SomeTurn (IsTrueDecline c r d.pool d.reason) (past ++ t ∷ [])
    by (inl there) = was-made r q d there among
    by (inr (inl was)) =
        edit-made r was.old was.how d was.stood was.edits (edit-premise c t.before ch numbered premises r was.how was.edits) (subst (λ (x : RequestRecord). Contains x.declined d) was.is among)
    by (inr (inr new)) = absurd (let none : Contains [] d = subst (λ (x : RequestRecord). Contains x.declined d) new.is among in omega (arith, none.1))

-- # after an event a pinned request asks for what its pool offers, nobody has declined it, and no other pool works on it

-- ## sessions keep their roles

role-changed : (x : SessionId) (f : SessionFacts → SessionFacts) → ((y : SessionFacts) → (f y).role ≡ y.role) → (session : SessionId) (rows : List SessionFacts)
    → option_map (λ (y : SessionFacts). y.role) (facts_in session (change_session x f rows)) ≡ option_map (λ (y : SessionFacts). y.role) (facts_in session rows)
role-changed x f keeps session rows =
    grind (arith, nat_tests, kept-change_at (λ (o : Option SessionFacts). option_map (λ y. y.role) o) (x.0 - 1) (session.0 - 1) f rows (λ y. ap (λ (role : Role). Some role) (keeps y)))

roles-settled : (change : SessionsChange) (session : SessionId) (rows : List SessionFacts) → option_map (λ (y : SessionFacts). y.role) (facts_in session (sessions_changed change rows)) ≡ option_map (λ (y : SessionFacts). y.role) (facts_in session rows)
roles-settled SessionsChange.Same session rows = refl
roles-settled (SessionsChange.Mute heard) session rows = role-changed heard muted (λ y. refl) session rows
roles-settled (SessionsChange.End over) session rows = role-changed over ended (λ y. refl) session rows

own-stays : (c : Configuration) (s : State) (ch : Changes) (p : PoolId) (session : SessionId) → IsOwn s p session → IsOwn (changed c ch s) p session
own-stays c s ch p session own =
    let same : option_map (λ (y : SessionFacts). y.role) (facts_in session (changed c ch s).sessions) ≡ Some own.facts.role =
    roles-settled ch.sessions session (grown c ch.maker ch.grows s).sessions ∙ ap (λ (o : Option SessionFacts). option_map (λ y. y.role) o) (facts-grown c ch.maker ch.grows s session own.facts own.begun) in
    let later = from-map_some (λ (y : SessionFacts). y.role) (facts_in session (changed c ch s).sessions) own.facts.role same in
    record { facts = later.0; begun = later.1; own = λ l is. own.own l (sym later.2 ∙ is) }

-- ## states of requests

pub requested-open : (state : RequestState) → is_requested state ≡ true → is_failed state ≡ false
requested-open state is = grind (arith, nat_tests)

pub pending-open : (state : RequestState) → is_pending state ≡ true → is_failed state ≡ false
pending-open state is = grind (arith, nat_tests)

-- ## one edit

-- the holder is the first that waits
pub holder-waits : (session : SessionId) (o : Option SessionId) → is_session_of session o ≡ true → o ≡ Some session
holder-waits session o is = grind (arith, nat_tests, session-equal)

module _ (c : Configuration) (s : State) (ch : Changes) (premises : Premises c s ch) where
  maker-heard : (m : Maker) → ch.maker ≡ Some m → IsHeard s m
  maker-heard m made = subst (λ (o : Option Maker). MakerPremise s o) made premises.maker

  -- the pool that works on a pinned request is its own
  pub own-pool : (r : RequestId) (q : RequestRecord) (p l : PoolId) → AllByRecursion (IsOwn s p) (request_queue r s.requests) → IsWorkedOn s ch.maker l r q → l ≡ p
  own-pool r q p l waits works =
      let heard : IsHeard s (record { session = works.session; role = Launcher l }) = maker-heard (record { session = works.session; role = Launcher l }) works.made_by in
      let own : IsOwn s p works.session = all-at (IsOwn s p) (request_queue r s.requests) 0 works.session waits (holder-waits works.session (request_holder r s.requests) works.holds) in
      let same : own.facts ≡ heard.facts = same_Some own.facts heard.facts (sym own.begun ∙ heard.begun) in
      own.own l (ap (λ (x : SessionFacts). x.role) same ∙ heard.role)

  pinned-edit : (r : RequestId) (q : RequestRecord) (how : RequestEdit) (p : PoolId) → request_in r s.requests ≡ Some q → EditPremise c s ch r how → q.pinned ≡ Some p → AllByRecursion (IsOwn s p) (request_queue r s.requests) → IsPinned c q p → IsPinned c (edited how q) p
  pinned-edit r q (RequestEdit.Serve l) p stood premise pinned waits is = grind (arith, nat_tests, own-pool r premise.request p l waits premise.worked_on)
  pinned-edit r q RequestEdit.Fulfil p stood premise pinned waits is = let fulfils = premise.0 in grind (arith, nat_tests)
  pinned-edit r q _ p stood premise pinned waits is = grind (arith, nat_tests)

-- ## a new request

new-pinned : (c : Configuration) (s : State) (ch : Changes) (priority : ℕ) (asked : Asked) (p : PoolId) → AsksForJob c s ch priority asked ⊎ AsksToKeep c s ch priority asked → asked.pinned ≡ Some p → IsPinned c (new_record asked) p
new-pinned c s ch priority asked p x6 pinned = grind (arith, nat_tests)

-- ## all of it

-- the edit does not change what the request is pinned to
same-pin : (how : RequestEdit) (q : RequestRecord) → (edited how q).pinned ≡ q.pinned
same-pin x0 q = grind (arith, nat_tests)

module _ (c : Configuration) (s : State) (e : Event) (ch : Changes) (numbered : IsNumbered s) (premises : Premises c s ch) (tells : Tells c s e ch) (old : PinnedStand c s) where
  -- who joins the queue of a pinned request is no launcher of another pool
  joins-own : (r : RequestId) (q : RequestRecord) (p : PoolId) → request_in r s.requests ≡ Some q → q.pinned ≡ Some p → (m : Maker) → ch.maker ≡ Some m → ch.grows ≡ Growth.JoinRequest r → IsOwn s p m.session
  joins-own r q p stood pinned m made joins =
      let heard : IsHeard s m = maker-heard c s ch premises m made in
      let lock : IsLock s ch r = tells.joins r joins in
      let same : m ≡ record { session = lock.session; role = lock.role } = same_Some m (record { session = lock.session; role = lock.role }) (sym made ∙ lock.made_by) in
      record {
        facts = heard.facts;
        begun = heard.begun;
        own = λ l launches.
            let role : lock.role ≡ Launcher l = sym (ap (λ (x : Maker). x.role) same) ∙ sym heard.role ∙ launches in
            grind (arith, nat_tests, lock.own l q role stood, same_pool p l);
      }

  -- the queue of a pinned request that was there before
  queue-own : (r : RequestId) (q : RequestRecord) (p : PoolId) → request_in r s.requests ≡ Some q → q.pinned ≡ Some p → AllByRecursion (IsOwn s p) (request_queue r s.requests) → AllByRecursion (IsOwn (changed c ch s) p) (request_queue r (changed c ch s).requests)
  queue-own r q p stood pinned waits =
      all-weaker (IsOwn s p) (IsOwn (changed c ch s) p) (λ session own. own-stays c s ch p session own) (request_queue r (changed c ch s).requests)
      (queue-after (IsOwn s p) c s ch numbered r waits (joins-own r q p stood pinned))

  -- the queue of a new request
  queue-none : (r : RequestId) (p : PoolId) (priority : ℕ) (asked : Asked) → request_in r s.requests ≡ None → ch.grows ≡ Growth.Request priority asked → AllByRecursion (IsOwn (changed c ch s) p) (request_queue r (changed c ch s).requests)
  queue-none r p priority asked none grows =
      let empty : AllByRecursion (IsOwn (changed c ch s) p) (request_queue r s.requests) = subst (λ (xs : List SessionId). AllByRecursion (IsOwn (changed c ch s) p) xs) (sym (request_queue-nowhere r s.requests none)) tt in
      queue-after (IsOwn (changed c ch s) p) c s ch numbered r empty (λ m made joins. absurd (let both : Growth.Request priority asked ≡ Growth.JoinRequest r = sym grows ∙ joins in cc))

  pub pinned-stand : PinnedStand c (changed c ch s)
  pinned-stand r q p is pinned = by (came c s ch numbered premises r q is) where
    by : CameBy s ch r q → IsPinned c q p × AllByRecursion (IsOwn (changed c ch s) p) (request_queue r (changed c ch s).requests)
    by (inl there) = let both = old r q p there pinned in (both.0, queue-own r q p there pinned both.1)
    by (inr (inl was)) =
        let pinned_then : was.old.pinned ≡ Some p = grind (arith, nat_tests, same-pin was.how was.old, was.is) in
        let both = old r was.old p was.stood pinned_then in
        let now : IsPinned c (edited was.how was.old) p = pinned-edit c s ch premises r was.old was.how p was.stood (edit-premise c s ch numbered premises r was.how was.edits) pinned_then both.1 both.0 in
        (rw was.is now, queue-own r was.old p was.stood pinned_then both.1)
    by (inr (inr new)) =
        let asks = subst (λ (growth : Growth). GrowthPremise c s ch growth) new.grows premises.grows in
        let pinned_so : new.asked.pinned ≡ Some p = sym (ap (λ (x : RequestRecord). x.pinned) new.is) ∙ pinned in
        (subst (λ (x : RequestRecord). IsPinned c x p) (sym new.is) (new-pinned c s ch new.priority new.asked p asks pinned_so), queue-none r p new.priority new.asked new.before new.grows)

-- # after one more turn, the reports on each node are as many as its record says, and all of failures

-- ## nodes by their states

-- a node that neither builds nor has failed may have any reports
past-counted : (c : Configuration) (turns : List Turn) (n : NodeId) (k : NodeRecord) → is_building k.state ≡ false → is_failed_node k.state ≡ false → IsCounted c turns n k
past-counted c turns n k out whole = (λ building. absurd (both_ways (is_building k.state) out building), λ failed. absurd (both_ways (is_failed_node k.state) whole failed))

-- a node that nobody has launched yet
fresh-counted : (c : Configuration) (turns : List Turn) (n : NodeId) (k : NodeRecord) → k.attempts ≡ 0 → k.in_flight ≡ false → is_failed_node k.state ≡ false → reports_on n turns ≡ 0 → IsCounted c turns n k
fresh-counted c turns n k unlaunched idle whole none = (λ building. (grind (arith, nat_tests), none-failed n turns none), λ failed. absurd (both_ways (is_failed_node k.state) whole failed))

-- ## one node, with one turn more

module _ (c : Configuration) (past : List Turn) (t : Turn) where
  -- a turn that is no report on the node
  pub other-counted : (n : NodeId) (k : NodeRecord) → reports n t ≡ false → IsCounted c past n k → IsCounted c (past ++ t ∷ []) n k
  other-counted n k other old =
      let same : reports_on n (past ++ t ∷ []) ≡ reports_on n past = reports-other n past t other in
      let none : ReportsFailure n t = (λ is accepted. absurd (grind (arith, nat_tests, other, is, accepted))) in
      let pushed : EachTurn (ReportsFailure n) past → EachTurn (ReportsFailure n) (past ++ t ∷ []) = λ each. each-push (ReportsFailure n) past t each none in
      grind (arith, nat_tests, same, pushed, old.0, old.1)

  -- a launch begins
  start-counted : (n : NodeId) (k : NodeRecord) (first : ℕ) → reports n t ≡ false → is_building k.state ≡ true → k.in_flight ≡ false → IsCounted c past n k → IsCounted c (past ++ t ∷ []) n (record k { attempts = k.attempts + 1; in_flight = true; start = first })
  start-counted n k first other building idle old =
      let many : reports_on n past + flights k.in_flight ≡ k.attempts = (old.0 building).0 in
      other-counted n (record k { attempts = k.attempts + 1; in_flight = true; start = first }) other
      (λ builds. (grind (arith, nat_tests, many), (old.0 building).1), λ failed. absurd (grind (arith, nat_tests)))

  -- a launch has failed: the node has failed if it was the last launch that is allowed
  failure-counted : (n : NodeId) (k : NodeRecord) → reports_on n (past ++ t ∷ []) ≡ k.attempts → EachTurn (ReportsFailure n) (past ++ t ∷ []) → is_building k.state ≡ true → (b : Bool) → (k.attempts == retries_of c k.pool) ≡ b
      → IsCounted c (past ++ t ∷ []) n (record k { in_flight = false; state = cond b NodeState.Failed k.state })
  failure-counted n k many each building x5 last = grind (arith, nat_tests)

  report-counted : (n : NodeId) (session : SessionId) (attempt tick : ℕ) (o : Outcome) (k : NodeRecord) → t.entry.event ≡ Event.Done session n attempt o → IsAccepted t → is_building k.state ≡ true → k.in_flight ≡ true → IsCounted c past n k
      → IsCounted c (past ++ t ∷ []) n (launched (retries_of c k.pool) tick o k)
  report-counted n session attempt tick (Outcome.Launched x) k event accepted building flies old = past-counted c (past ++ t ∷ []) n (launched (retries_of c k.pool) tick (Outcome.Launched x) k) refl refl
  report-counted n session attempt tick Outcome.Failed k event accepted building flies old =
      let more : reports_on n (past ++ t ∷ []) ≡ reports_on n past + 1 = reports-more n past t (grind (arith, nat_tests)) in
      let many : reports_on n past + flights k.in_flight ≡ k.attempts = (old.0 building).0 in
      let failure : ReportsFailure n t = (λ is done. record { session = session; attempt = attempt; event = event; accepted = accepted }) in
      failure-counted n k (grind (arith, nat_tests, more, many)) (each-push (ReportsFailure n) past t (old.0 building).1 failure) building (k.attempts == retries_of c k.pool) refl

  -- the record that an event puts
  put-counted : (n : NodeId) (kept : NodeRecord) → IsAccepted t → RunsWhileBuilding t.before → ((k : NodeRecord) → node_in n t.before.nodes ≡ Some k → IsCounted c past n k) → PutBy c t.before t.entry.event n kept → IsCounted c (past ++ t ∷ []) n kept
  put-counted n kept accepted runs each (inl start) =
      subst (λ (k : NodeRecord). IsCounted c (past ++ t ∷ []) n k) (sym start.record_after)
      (start-counted n start.node start.start (grind (arith, nat_tests, start.silent n)) (grind arith) (grind arith) (each start.node start.stands))
  put-counted n kept accepted runs each (inr (inl report)) =
      subst (λ (k : NodeRecord). IsCounted c (past ++ t ∷ []) n k) (sym report.record_after)
      (report-counted n report.session report.attempt t.before.tick report.outcome report.node report.event accepted (runs n report.node report.stands report.flies) report.flies (each report.node report.stands))
  put-counted n kept accepted runs each (inr (inr gone)) = past-counted c (past ++ t ∷ []) n kept gone.building gone.failed

-- ## all of it

-- a node that grows is a request's new one
new-is : (c : Configuration) (s : State) (ch : Changes) (kept : NodeRecord) → ch.grows ≡ Growth.Node kept → (premise : GainsNew c s ch kept) → kept ≡ new_node c s premise.request premise.gains.pool premise.gains.request premise.gains.label
new-is c s ch kept at premise = grind (arith, nat_tests)

module _ (c : Configuration) (past : List Turn) (t : Turn) (ch : Changes) (numbered : IsNumbered t.before) (runs : RunsWhileBuilding t.before) (premises : Premises c t.before ch) (tells : Tells c t.before t.entry.event ch)
    (told : (n : NodeId) → is_report_on n t.entry.event ≡ true → IsTold t.before ch n) (accepted : IsAccepted t) (old : ReportsCounted c past t.before) where
  -- if the event does not report on the node
  quiet-on : (n : NodeId) → (IsTold t.before ch n → ⊥) → reports n t ≡ false
  quiet-on n none = grind (arith, nat_tests)

  fresh : (kept : NodeRecord) → ch.grows ≡ Growth.Node kept → IsCounted c past (record { 0 = t.before.next_node }) kept
  fresh kept at =
      let premise : GainsNew c t.before ch kept = subst (λ (growth : Growth). GrowthPremise c t.before ch growth) at premises.grows in
      let none : reports_on (record { 0 = t.before.next_node }) past ≡ 0 = old.later (record { 0 = t.before.next_node }) (omega arith) in
      subst (λ (x : NodeRecord). IsCounted c past (record { 0 = t.before.next_node }) x) (sym (new-is c t.before ch kept at premise))
      (fresh-counted c past (record { 0 = t.before.next_node }) (new_node c t.before premise.request premise.gains.pool premise.gains.request premise.gains.label) refl refl refl none)

  -- the record that is put is found
  put-found : (n : NodeId) (node kept : NodeRecord) → node_in n t.before.nodes ≡ Some node → ch.nodes ≡ NodesChange.Put n kept → node_in n (changed c ch t.before).nodes ≡ Some kept
  put-found n node kept stands puts =
      let size : ch.grows ≡ Growth.Nothing = (subst (λ (change : NodesChange). NodesPremise c t.before ch change) puts premises.nodes).same_size in
      grind (arith, nat_tests, size, nodes-after c t.before ch ch.maker ch.grows (NodesChange.Put n kept) refl refl puts n, node_in-put n n kept (grown c ch.maker ch.grows t.before).nodes)

  abbrev IsNow : NodeId → NodeRecord → Type 0
  IsNow n k = IsCounted c (past ++ t ∷ []) n k

  each-counted : (n : NodeId) (k : NodeRecord) → node_in n (changed c ch t.before).nodes ≡ Some k → IsNow n k
  each-counted n k is = which (reports n t) refl where
    put : (kept : NodeRecord) → ch.nodes ≡ NodesChange.Put n kept → IsNow n kept
    put kept puts = put-counted c past t n kept accepted runs (old.each n) (tells.puts n kept puts)

    how : (was now : NodeRecord) → reports n t ≡ false → node_in n t.before.nodes ≡ Some was → NodeChange t.before ch n was now → IsNow n now
    how was now other stood (IsPut puts) = put now puts
    how was now other stood (IsFreed r at mine freed_so) = subst (λ (x : NodeRecord). IsNow n x) (sym freed_so) (other-counted c past t n was other (old.each n was stood))
    how was now other stood (IsUsed numbers at among used) = subst (λ (x : NodeRecord). IsNow n x) (sym used) (past-counted c (past ++ t ∷ []) n (used_from t.before.tick was) refl refl)
    how was now other stood (IsAllocated r tenant at given) = subst (λ (x : NodeRecord). IsNow n x) (sym given) (other-counted c past t n was other (old.each n was stood))

    by : reports n t ≡ false → NodeStep t.before ch n (node_in n t.before.nodes) (node_in n (changed c ch t.before).nodes) → IsNow n k
    by other (Stays same) = other-counted c past t n k other (old.each n k (sym same ∙ is))
    by other (Altered was now stood later changes) = subst (λ (x : NodeRecord). IsNow n x) (same_Some now k (sym later ∙ is)) (how was now other stood changes)
    by other (Added new none later grows number) =
        subst (λ (x : NodeRecord). IsNow n x) (same_Some new k (sym later ∙ is))
        (other-counted c past t n new other (subst (λ (x : NodeId). IsCounted c past x new) (sym number) (fresh new grows)))
    by other (Removed was stood gone removes) = absurd (none-some k (sym gone ∙ is))

    which : (b : Bool) → reports n t ≡ b → IsNow n k
    which true reported =
        let tells_it = told n (and_parts (is_report_on n t.entry.event) (is_done t.entry.reply) reported).0 in
        subst (λ (x : NodeRecord). IsNow n x) (same_Some tells_it.kept k (sym (put-found n tells_it.node tells_it.kept tells_it.stands tells_it.puts) ∙ is)) (put tells_it.kept tells_it.puts)
    which false other = by other (node-step c t.before ch numbered n premises)

  later-none : (n : NodeId) → (changed c ch t.before).next_node ≤ n.0 → reports_on n (past ++ t ∷ []) ≡ 0
  later-none n late =
      let up : t.before.next_node ≤ (grown c ch.maker ch.grows t.before).next_node = next-more c ch.maker ch.grows t.before in
      let beyond : t.before.next_node ≤ n.0 = omega (arith, up, late) in
      reports-other n past t (quiet-on n (λ tells_it. let low : n.0 < t.before.next_node = node_in-below n t.before.next_node tells_it.node t.before.nodes numbered.nodes_below tells_it.stands in omega (arith, low, beyond)))
      ∙ old.later n beyond

  pub reports-counted : ReportsCounted c (past ++ t ∷ []) (changed c ch t.before)
  reports-counted = record { later = later-none; each = each-counted }

-- # a turn that makes a request fail has its cause

-- ## declined by all

-- a pool that is among the declines has declined
has-declined : (c : Configuration) (past : List Turn) (s : State) (r : RequestId) (q : RequestRecord) (p : PoolId) → DeclinesMade c past s → request_in r s.requests ≡ Some q → is_declined_by p q.declined ≡ true → HasDeclined c past r q p
has-declined c past s r q p due stands is =
    let found = any-member (λ (d : Declined). d.pool.0 == p.0) q.declined is in
    let same : found.0.pool ≡ p = same_pool found.0.pool p found.2 in
    let made : SomeTurn (IsTrueDecline c r found.0.pool found.0.reason) past = due r q stands found.0 found.1 in
    record {
      why = found.0.reason;
      listed = subst (λ (x : PoolId). Contains q.declined (record { pool = x; reason = found.0.reason })) same found.1;
      made = subst (λ (x : PoolId). SomeTurn (IsTrueDecline c r x found.0.reason) past) same made;
    }

-- ## launches spent

-- each node of a request that is served is of the pool that serves it
served-pool : (s : State) (r : RequestId) (q : RequestRecord) (n : NodeId) (k : NodeRecord) → (served : IsServed s r q) → list_any (λ m. m.0 == n.0) q.nodes ≡ true → node_in n s.nodes ≡ Some k → k.pool.0 ≡ served.pool.0
served-pool s r q n k served any stands =
    let place = node-place n q.nodes any in
    let within : place.0 < length q.labels = omega (arith, slice_get_within q.nodes place.0 n place.1, served.few) in
    let label = member-there q.labels place.0 within in
    (served.each place.0 n label.0 k place.1 label.1 stands).of_pool

-- a node that is there and failed
spent-node : (o : Option NodeRecord) → option_map_or (λ (k : NodeRecord). is_failed_node k.state) o false ≡ true → (k : NodeRecord) × (o ≡ Some k) × (is_failed_node k.state ≡ true)
spent-node o is = grind (arith, nat_tests)

-- ## tests

-- whether a request has failed is what its record says
pub failed-then : (s : State) (r : RequestId) (q : RequestRecord) → request_in r s.requests ≡ Some q → has_failed r s ≡ is_failed q.state
failed-then s r q stood = ap (λ (o : Option RequestRecord). option_map_or (λ (x : RequestRecord). is_failed x.state) o false) stood

-- ## the turn

module _ (c : Configuration) (past : List Turn) (t : Turn) (ch : Changes) (old : Invariant c t.before) (due : IsDue c past t.before) (premises : Premises c t.before ch) (tells : Tells c t.before t.entry.event ch)
    (leads : changed c ch t.before ≡ t.later) (made : DeclinesMade c (past ++ t ∷ []) t.later) where
  -- nobody is left who has not declined
  by-all : (r : RequestId) (q : RequestRecord) (how : RequestEdit) → ch.grows ≡ Growth.Nothing → ch.requests ≡ RequestsChange.Edit r how → request_in r t.later.requests ≡ Some q → q.pinned ≡ None → 0 < length t.before.registrations → all_declined t.before.registrations q.declined ≡ true → DeclinedByAll c (past ++ t ∷ []) t r q
  by-all r q how size at stands unpinned some all =
      let same : t.before.registrations ≡ t.later.registrations = grind (arith, nat_tests) in
      let all_later : all_declined t.later.registrations q.declined ≡ true = subst (λ (rows : List Registration). all_declined rows q.declined ≡ true) same all in
      record {
        unpinned = unpinned;
        some_registered = subst (λ (rows : List Registration). 0 < length rows) same some;
        each = λ g among. has-declined c (past ++ t ∷ []) t.later r q g.pool made stands (all-member (λ (x : Registration). is_declined_by x.pool q.declined) t.later.registrations g all_later among);
      }

  fail-cause : (r : RequestId) (q : RequestRecord) → request_in r t.before.requests ≡ Some q → ch.requests ≡ RequestsChange.Edit r RequestEdit.Fail → MayFail t.before ch r → request_in r t.later.requests ≡ Some (edited RequestEdit.Fail q) → HasCause c (past ++ t ∷ []) t r (edited RequestEdit.Fail q)
  fail-cause r q stood at premise stands =
      let some : 0 < length t.before.registrations = grind (arith, nat_tests, premise.some_pool) in
      let all : all_declined t.before.registrations q.declined ≡ true = grind (arith, nat_tests, all-counted (λ (g : Registration). is_declined_by g.pool premise.request.declined) t.before.registrations premise.all_declined) in
      let requested : is_requested q.state ≡ true = grind (arith, nat_tests) in
      let unpinned : q.pinned ≡ None = none-unless q.pinned (λ p pinned.
      let none : q.declined ≡ [] = (due.pinned r q p stood pinned).0.undeclined (requested-open q.state requested) in
      grind (arith, nat_tests, none-declined t.before.registrations some, all, none)) in
      inl (by-all r (edited RequestEdit.Fail q) RequestEdit.Fail premise.same_size at stands unpinned some all)

  -- a pinned request's own pool declines it only for a node whose launches are used up
  spent-cause : (r : RequestId) (q now : RequestRecord) (p : PoolId) (why : Reason) → request_in r t.before.requests ≡ Some q → q.pinned ≡ Some p → now.pinned ≡ Some p → IsPinned c q p → IsDecline t.before t.entry.event r p why
      → is_true c t.before p q why ≡ true → (is_requested q.state || is_pending_by p q) ≡ true → LaunchesSpent c (past ++ t ∷ []) t r now
  spent-cause r q now p (Reason.NoLabel l) stood pinned pinned_now is decline holds stands = absurd (grind (arith, nat_tests, same_label is.label l, is.labels, is.offered))
  spent-cause r q now p (Reason.Spent n) stood pinned pinned_now is decline holds stands =
      let parts = and_parts (list_any (λ (other : NodeId). other.0 == n.0) q.nodes) (is_spent n t.before) holds in
      let node = spent-node (node_in n t.before.nodes) parts.1 in
      let of_pool : node.0.pool.0 ≡ p.0 = by parts.0 node.0 node.1 (or_cases (is_requested q.state) (is_pending_by p q) stands) in
      let same : node.0.pool ≡ p = ap (λ (m : ℕ). record { 0 = m }) of_pool in
      let silent : is_report_on n t.entry.event ≡ false = ap (λ (e : Event). is_report_on n e) decline.event in
      let counted = (due.reports.each n node.0 node.1).1 node.2 in
      record {
        pool = p;
        pinned = pinned_now;
        session = decline.session;
        number = n;
        event = decline.event;
        by_launcher = decline.of_pool;
        node = node.0;
        stood = node.1;
        of_pool = of_pool;
        as_many = reports-other n past t (and_left (is_report_on n t.entry.event) (is_done t.entry.reply) silent) ∙ counted.0 ∙ ap (λ (x : PoolId). retries_of c x) same;
        all_failed = each-push (ReportsFailure n) past t counted.1 (λ told accepted. absurd (both_ways (is_report_on n t.entry.event) silent told));
      }
    where
      by : list_any (λ (other : NodeId). other.0 == n.0) q.nodes ≡ true → (k : NodeRecord) → node_in n t.before.nodes ≡ Some k → (is_requested q.state ≡ true) ⊎ (is_pending_by p q ≡ true) → k.pool.0 ≡ p.0
      by any k found (inl requested) = absurd (let empty : q.nodes ≡ [] = (rest-if t.before r q q.state requested (old.owned.requests r q stood)).no_nodes in grind (arith, nat_tests, any))
      by any k found (inr pending) =
          let served : IsServed t.before r q = served-if t.before r q q.state ((and_parts (is_pending q.state) (is_pool p q.pool) pending).0) (old.owned.requests r q stood) in
          served-pool t.before r q n k served any found ∙ ap (λ (x : PoolId). x.0) (is.served served.pool served.served_by)
  spent-cause r q now p _ stood pinned pinned_now is decline holds stands = absurd (grind (arith, nat_tests, is.fits_alone))

  decline-cause : (r : RequestId) (q : RequestRecord) (l : PoolId) (why : Reason) (failed : Bool) → request_in r t.before.requests ≡ Some q → ch.requests ≡ RequestsChange.Edit r (RequestEdit.Decline l why failed) → MayDecline c t.before ch r l why failed → request_in r t.later.requests ≡ Some (edited (RequestEdit.Decline l why failed) q) → failed ≡ true
      → HasCause c (past ++ t ∷ []) t r (edited (RequestEdit.Decline l why failed) q)
  decline-cause r q l why failed stood at premise stands fails =
      let same : premise.request ≡ q = same_Some premise.request q (sym premise.worked_on.stands ∙ stood) in
      by (rw same at (sym premise.fails ∙ fails)) (rw same at premise.holds_true) (rw same at premise.undecided) q.pinned refl
    where
      by : (is_some q.pinned || is_last_pool t.before.registrations q l) ≡ true → is_true c t.before l q why ≡ true → (is_requested q.state || is_pending_by l q) ≡ true → (o : Option PoolId) → q.pinned ≡ o → HasCause c (past ++ t ∷ []) t r (edited (RequestEdit.Decline l why failed) q)
      by last holds state None unpinned =
          let all : is_last_pool t.before.registrations q l ≡ true = grind (arith, nat_tests, last, unpinned) in
          let some : 0 < length t.before.registrations = some-registered l premise.worked_on.session t.before.registrations premise.worked_on.registers in
          inl (by-all r (edited (RequestEdit.Decline l why failed) q) (RequestEdit.Decline l why failed) premise.same_size at stands unpinned some (last-declines t.before.registrations q l why ∙ all))
      by last holds state (Some p) pinned =
          let both = due.pinned r q p stood pinned in
          let own : l ≡ p = own-pool c t.before ch premises r premise.request p l both.1 premise.worked_on in
          let decline : IsDecline t.before t.entry.event r p why = subst (λ (x : PoolId). IsDecline t.before t.entry.event r x why) own (tells.declines r l why failed at) in
          inr (spent-cause r q (edited (RequestEdit.Decline l why failed) q) p why stood pinned pinned both.0 decline (subst (λ (x : PoolId). is_true c t.before x q why ≡ true) own holds)
          (subst (λ (x : PoolId). (is_requested q.state || is_pending_by x q) ≡ true) own state))

  edit-cause : (r : RequestId) (q : RequestRecord) (how : RequestEdit) → request_in r t.before.requests ≡ Some q → ch.requests ≡ RequestsChange.Edit r how → EditPremise c t.before ch r how → is_failed q.state ≡ false → request_in r t.later.requests ≡ Some (edited how q) → is_failed (edited how q).state ≡ true
      → HasCause c (past ++ t ∷ []) t r (edited how q)
  edit-cause r q (RequestEdit.Decline l why fails) stood at premise before stands failed = decline-cause r q l why fails stood at premise stands (grind (arith, nat_tests))
  edit-cause r q RequestEdit.Fail stood at premise before stands failed = fail-cause r q stood at premise stands
  edit-cause r q _ stood at premise before stands failed = grind (arith, nat_tests)

  pub cause : (r : RequestId) (q : RequestRecord) → FailsNow t r q → HasCause c (past ++ t ∷ []) t r q
  cause r q fails = by (came c t.before ch old.numbered premises r q (subst (λ (x : State). request_in r x.requests ≡ Some q) (sym leads) fails.stands)) where
    by : CameBy t.before ch r q → HasCause c (past ++ t ∷ []) t r q
    by (inl there) = absurd (both_ways (has_failed r t.before) fails.before (failed-then t.before r q there ∙ fails.failed))
    by (inr (inl was)) =
        subst (λ (x : RequestRecord). HasCause c (past ++ t ∷ []) t r x) (sym was.is)
        (edit-cause r was.old was.how was.stood was.edits (edit-premise c t.before ch old.numbered premises r was.how was.edits) (sym (failed-then t.before r was.old was.stood) ∙ fails.before) (rw was.is at fails.stands) (rw was.is at fails.failed))
    by (inr (inr new)) =
        let asks : AsksForJob c t.before ch new.priority new.asked ⊎ AsksToKeep c t.before ch new.priority new.asked = subst (λ (growth : Growth). GrowthPremise c t.before ch growth) new.grows premises.grows in
        absurd (grind (arith, nat_tests, asks, new.is, fails.failed))
