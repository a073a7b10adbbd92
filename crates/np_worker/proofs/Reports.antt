-- which reports of a pool's launcher the machine would accept, that no launcher waits, and what a chosen event says
use Rattle.np_worker.proofs.Prelude.{AllByRecursion, AnswersAsBoard, Ask, Bool, Changes, Configuration, Done, DrivenBy, DrivenFrom, Entry, Event, Growth, Invariant, IsChosen, IsDrivenTurn, IsLive, IsLiveQueue, IsOfRole, IsOfUse, IsReportOfLaunch, IsSweepOfServer, IsTickBetween, IsTurnAs, IsUseful, Launcher, List, Maker, Move, NodeEntry, NodeId, NodeRecord, NodesChange, None, Ok, Option, Outcome, PoolId, Premises, Refusal, RequestId, Result, Rises, Role, RunsWhileBuilding, Says, SessionFacts, SessionId, SessionsChange, Sight, Some, SomeTurn, State, TenantId, Walk, WasOfUse, WasUseful, after, all-filter, all-find, all-push, all-weaker, and_parts, answers, answers_of, ap, arith, as_launcher, asked, by_bool, change_session, cond, drop, eqb-true, facts-grown, facts_in, false, false≢true, found, grown, grown-numbered, holder, inl, inr, invariant-next, invariant-start, is_by_registrant, is_first, is_maker_of, is_ok, is_planned, is_ready, is_session, is_session_of, is_up, joined, judge, judge_done, judge_start, launcher, launcher-role, left, length, list_any, muted, nat_lt, nat_tests, need, next, node_holder, node_in, node_in-allocated, node_in-later, node_in-put, node_in-queue, node_queue, node_queue-allocated, node_queue-freed, node_queue-in_use, node_queue-left, node_queue-new, node_queue-nowhere, node_queue-other, node_queue-put, node_queue-queue, node_queue-remove, node_queue-removed, nodes_changed, nodes_left, none-some, not, ok-is, one-named, option_map, plan, plan-next, premises, put_node, put_node_queue, refl, remove_node, retries_of, role_of, same_Some, same_node-is, session-equal, sessions_changed, slice_get-change_at, slice_get-change_at_other, start, started, starts_of, state_after, subst, suc, sym, take, take-append-drop, true, turns, turns_from, with_act, zero, ℕ, [], ⊎_elim, ◌++◌, ◌+◌, ◌<◌, ◌==◌, ◌>>=◌, ◌>>◌, ◌∙◌, ◌∷◌, ◌≡◌, ◌≤◌, ◌⊎◌}
use Rattle.np_changes.specs.Changes.{by_maker}
use Rattle.np_changes.specs.Prelude.{acting, ended, launched, reported, Turn}
use Rattle.np_changes.specs.Premises.{Gains, GrowthPremise}
use Rattle.np_worker.proofs.Records.{Had, IsNew, IsStarting, MayReport, came, current-role, if-accepted, is_start, reporting, role-next, role-stays, same_launcher, same_role-is, start-leads, start-of_pool, starting, useful-done, useful-tickless}
use Rattle.np_worker.proofs.Journals.{turn_of, driven-at, turn_after, some-from, turns-append}
use Rattle.np_worker.specs.declared.ask.Turn.{Turn as Answer}

-- # which reports of a pool's launcher the machine would accept: an event makes none acceptable, except a start

-- ## sessions

-- the pool whose launcher a session with these facts is, if it may make events
abbrev heard : Option SessionFacts → Result PoolId Refusal
heard o = (found o Refusal.NoSession >>= λ facts. need facts.live Refusal.Expired >> (need (not facts.mute) Refusal.Crashed >> Ok facts.role)) >>= as_launcher

muted-unheard : (live : Bool) (role : Role) (p : PoolId) → ((need live Refusal.Expired >> (need (not true) Refusal.Crashed >> Ok role)) >>= as_launcher) ≡ Ok p → ⊥
muted-unheard live role p is = grind (arith, nat_tests)

-- the facts of a session after a change of one session's
changed-facts : (other : SessionId) (g : SessionFacts → SessionFacts) (session : SessionId) (f : SessionFacts) (rows : List SessionFacts) → facts_in session rows ≡ Some f
    → (facts_in session (change_session other g rows) ≡ Some (g f)) ⊎ (facts_in session (change_session other g rows) ≡ Some f)
changed-facts other g session f rows x1 = grind (arith, nat_tests, slice_get-change_at, slice_get-change_at_other)

settled-heard : (change : SessionsChange) (session : SessionId) (f : SessionFacts) (p : PoolId) (rows : List SessionFacts) → facts_in session rows ≡ Some f → heard (facts_in session (sessions_changed change rows)) ≡ Ok p → heard (Some f) ≡ Ok p
settled-heard SessionsChange.Same session f p rows is now = ap heard (sym is) ∙ now
settled-heard (SessionsChange.Mute other) session f p rows is now = ⊎_elim
    (λ quiet. absurd (muted-unheard f.live f.role p (ap heard (sym quiet) ∙ now))) (λ same. ap heard (sym same) ∙ now) (changed-facts other muted session f rows is)
settled-heard (SessionsChange.End other) session f p rows is now = ⊎_elim
    (λ over. absurd (let none : heard (Some (ended f)) ≡ Ok p = ap heard (sym over) ∙ now in cc)) (λ same. ap heard (sym same) ∙ now) (changed-facts other ended session f rows is)

-- a session that was there, and may make events as a launcher, might before
heard-before : (c : Configuration) (s : State) (e : Event) (session : SessionId) (p : PoolId) → IsLive s session → launcher (next c s e) session ≡ Ok p → launcher s session ≡ Ok p
heard-before c s e session p live = if-accepted (λ t. launcher t session ≡ Ok p → launcher s session ≡ Ok p) c s e (λ now. now) (λ ok now.
    let ch : Changes = plan c s e in
    let later : heard (facts_in session (sessions_changed ch.sessions (grown c ch.maker ch.grows s).sessions)) ≡ Ok p = subst (λ (t : State). launcher t session ≡ Ok p) (sym (plan-next c s e ok)) now in
    ap heard live.begun ∙ settled-heard ch.sessions session live.facts p (grown c ch.maker ch.grows s).sessions (facts-grown c ch.maker ch.grows s session live.facts live.begun) later)

-- ## queues

-- what holds of each queue holds of the one that is found
queue-all : (Q : List SessionId → Type 0) → Q [] → (n : NodeId) (rows : List NodeEntry) → AllByRecursion (λ e. Q e.queue) rows → Q (node_queue n rows)
queue-all Q x1 n rows x2 = let found = all-find (λ (x : NodeEntry). Q x.queue) (λ x. x.id.0 == n.0) rows in grind (arith, nat_tests)

abbrev pub behind : List SessionId → List SessionId
behind queue = drop 1 queue

-- the first of a queue is one of it
pub first-all : (P : SessionId → Type 0) (session : SessionId) (queue : List SessionId) → is_first session queue ≡ true → AllByRecursion P queue → P session
first-all P session [] first all = absurd cc
first-all P session (other ∷ queue) first all = subst P (session-equal other session first) all.0

behind-all : (P : SessionId → Type 0) (queue : List SessionId) → AllByRecursion P queue → AllByRecursion P (behind queue)
behind-all P queue x1 = grind (arith, nat_tests)

module _ (P : SessionId → Type 0) (n : NodeId) (Idle : Type 0) (before : List SessionId) where
  -- who is first was so before, or is such, or no launch runs; and so are all that stand behind the first
  pub record IsLine (queue : List SessionId) : Type 0 where
    pub first : (session : SessionId) → is_first session queue ≡ true → (is_first session before ≡ true) ⊎ (P session ⊎ Idle)
    pub rest : AllByRecursion P (behind queue)

  line-alone : (session : SessionId) → Idle → IsLine (session ∷ [])
  line-alone session idle = record { first = λ x is. inr (inr idle); rest = tt }

  line-none : IsLine []
  line-none = record { first = λ x is. absurd cc; rest = tt }

  line-left : (gone : SessionId) (queue : List SessionId) → IsLine queue → IsLine (left gone queue)
  line-left gone [] line = line
  line-left gone (other ∷ queue) line =
      let rest : AllByRecursion P (left gone queue) = all-filter P (λ x. not (is_session x gone)) queue line.rest in
      by_bool (λ b. IsLine (cond (not b) (other ∷ left gone queue) (left gone queue))) (is_session other gone)
      (λ _. record { first = λ x is. inr (inl (first-all P x (left gone queue) is rest)); rest = behind-all P (left gone queue) rest }) (λ _. record { first = line.first; rest = rest })

  line-joined : (by : SessionId) (queue : List SessionId) → P by → IsLine queue → IsLine (joined by queue)
  line-joined by [] such line = record { first = λ x is. inr (inl (subst P (session-equal by x is) such)); rest = tt }
  line-joined by (other ∷ queue) such line =
      by_bool (λ b. IsLine (cond b (other ∷ queue) (other ∷ queue ++ by ∷ []))) (list_any (λ x. is_session x by) (other ∷ queue)) (λ _. line) (λ _. record { first = line.first; rest = all-push P queue by line.rest such })

  abbrev L : List NodeEntry → Type 0
  L rows = IsLine (node_queue n rows)

  line-same : (rows later : List NodeEntry) → node_queue n later ≡ node_queue n rows → L rows → L later
  line-same rows later same line = subst IsLine (sym same) line

  -- one queue is another from now on
  line-one : (rows later : List NodeEntry) (b : Bool) (queue : List SessionId) → (node_in n rows ≡ None → node_in n later ≡ None) → ((k : NodeRecord) → node_in n rows ≡ Some k → node_queue n later ≡ cond b queue (node_queue n rows)) → (b ≡ true → IsLine queue) → L rows → L later
  line-one rows later b queue nowhere looks new old = by (node_in n rows) refl where
    by : (o : Option NodeRecord) → node_in n rows ≡ o → L later
    by None none = subst IsLine (sym (node_queue-nowhere n later (nowhere none))) line-none
    by (Some k) is = subst IsLine (sym (looks k is)) (by_bool (λ x. IsLine (cond x queue (node_queue n rows))) b new (λ _. old))

  line-put : (rows : List NodeEntry) (m : NodeId) (f : List SessionId → List SessionId) → ((m.0 == n.0) ≡ true → IsLine (f (node_queue n rows))) → L rows → L (put_node_queue m (f (node_queue m rows)) rows)
  line-put rows m f new old = line-one rows _ (m.0 == n.0) (f (node_queue m rows)) (λ none. node_in-queue m n (f (node_queue m rows)) rows ∙ none) (λ k is. node_queue-queue m n (f (node_queue m rows)) k rows is)
      (λ here. subst (λ (x : NodeId). IsLine (f (node_queue x rows))) (sym (same_node-is m n here)) (new here)) old

  line-settled : (maker : Option Maker) (tick : ℕ) (change : NodesChange) (rows : List NodeEntry) → Rises (λ a b. nat_lt a.id.0 b.id.0) rows → L rows → L (nodes_changed maker tick change rows)
  line-settled maker tick (NodesChange.Put m kept) rows rises old = line-same rows _ (node_queue-put m n kept rows) old
  line-settled maker tick (NodesChange.Remove m) rows rises old =
      by_bool (λ _. L (remove_node m rows)) (m.0 == n.0) (λ same. subst IsLine (sym (node_queue-removed m n rows rises same)) line-none) (λ other. line-same rows _ (node_queue-remove m n rows other) old)
  line-settled (Some maker) tick (NodesChange.Leave m) rows rises old = line-put rows m (left maker.session) (λ _. line-left maker.session (node_queue n rows) old) old
  line-settled maker tick (NodesChange.FreeAll r) rows rises old = line-same rows _ (node_queue-freed r n rows) old
  line-settled maker tick (NodesChange.TakeOver numbers) rows rises old = line-same rows _ (node_queue-in_use tick numbers n rows) old
  line-settled _ tick _ rows rises old = old

  line-after_end : (over : SessionsChange) (rows : List NodeEntry) → L rows → L (nodes_left over rows)
  line-after_end (SessionsChange.End over) rows old = subst IsLine (sym (node_queue-left over n rows)) (line-left over (node_queue n rows) old)
  line-after_end _ rows old = old

  module _ (c : Configuration) (s : State) (numbered : AllByRecursion (λ e. e.id.0 < s.next_node) s.nodes) where
    -- what grows: a new node and one that is allocated have no launch, and nobody else joins who is no such
    line-grown : (maker : Option Maker) (growth : Growth) → ((m : NodeId) (by : Maker) → maker ≡ Some by → growth ≡ Growth.JoinNode m → P by.session) → ((k : NodeRecord) → growth ≡ Growth.Node k → n.0 ≡ s.next_node → Idle)
        → ((r : RequestId) (tenant : Option TenantId) → growth ≡ Growth.Allocate n r tenant → (node_queue n s.nodes ≡ []) × Idle) → L s.nodes → L (grown c maker growth s).nodes
    line-grown (Some maker) (Growth.Registration p) joins made taken old = old
    line-grown maker (Growth.Node kept) joins made taken old = by_bool (λ _. L (grown c maker (Growth.Node kept) s).nodes) (s.next_node == n.0)
        (λ same.
        let number : n.0 ≡ s.next_node = grind (arith, nat_tests) in
        let none : node_in n s.nodes ≡ None = node_in-later n s.next_node s.nodes numbered (omega arith) in
        subst IsLine (sym (node_queue-new _ n s.nodes same none)) (alone maker (made kept refl number)))
        (λ other. line-same s.nodes _ (node_queue-other _ n s.nodes other) old)
      where
        alone : (maker : Option Maker) → Idle → IsLine (by_maker maker (λ session queue. queue ++ session ∷ []) [])
        alone None idle = line-none
        alone (Some maker) idle = line-alone maker.session idle
    line-grown (Some maker) (Growth.JoinNode m) joins made taken old = line-put s.nodes m (joined maker.session) (λ _. line-joined maker.session (node_queue n s.nodes) (joins m maker refl refl) old) old
    line-grown (Some maker) (Growth.Allocate m r tenant) joins made taken old =
        line-one s.nodes _ (m.0 == n.0) (joined maker.session (node_queue n s.nodes)) (λ none. node_in-allocated m n r tenant maker.session s.nodes ∙ ap (option_map _) none) (λ k is. node_queue-allocated m n r tenant maker.session k s.nodes is)
        (λ here. let it = taken r tenant (ap (λ (x : NodeId). Growth.Allocate x r tenant) (same_node-is m n here)) in subst (λ (queue : List SessionId). IsLine (joined maker.session queue)) (sym it.0) (line-alone maker.session it.1)) old
    line-grown _ _ joins made taken old = old

joins-by : (c : Configuration) (s : State) (e : Event) (m : NodeId) (by : Maker) → (plan c s e).maker ≡ Some by → (plan c s e).grows ≡ Growth.JoinNode m → e ≡ Event.LockNode by.session m
joins-by c s e m by maker grows = grind (arith, nat_tests)

none-held : (queue : List SessionId) → holder queue ≡ None → queue ≡ []
none-held [] none = refl
none-held (first ∷ queue) none = absurd cc

allocated-free : (c : Configuration) (s : State) (ch : Changes) (n : NodeId) (r : RequestId) (tenant : Option TenantId) (gains : Gains c s ch r n) → ch.grows ≡ Growth.Allocate n r tenant → RunsWhileBuilding s → (node_queue n s.nodes ≡ []) × ((k : NodeRecord) → node_in n s.nodes ≡ Some k → k.in_flight ≡ false)
allocated-free c s ch n r tenant gains grows runs = elim gains.from [
  | inl it ↦ (none-held (node_queue n s.nodes) it.unlocked, λ k is. let ready : is_ready k.state ≡ true = subst (λ (x : NodeRecord). is_ready x.state ≡ true) (same_Some it.node k (sym it.stands ∙ is)) it.ready in let right = runs n k is in grind (arith, nat_tests))
  | inr it ↦ absurd (cc (it.grows, grows))
]

-- no launch of the node runs
abbrev IsIdle : NodeId → State → Type 0
IsIdle n t = (k : NodeRecord) → node_in n t.nodes ≡ Some k → k.in_flight ≡ false

-- who stands in the line of a node after an event that no others lock nodes by
pub line-next : (P : SessionId → Type 0) (c : Configuration) (s : State) (e : Event) → Invariant c s → ((by : SessionId) (m : NodeId) → e ≡ Event.LockNode by m → P by) → (n : NodeId) → AllByRecursion P (behind (node_queue n s.nodes)) → IsLine P n (IsIdle n (next c s e)) (node_queue n s.nodes) (node_queue n (next c s e).nodes)
line-next P c s e whole locks n all = if-accepted (λ t. IsLine P n (IsIdle n (next c s e)) (node_queue n s.nodes) (node_queue n t.nodes)) c s e old (λ ok.
    let ch : Changes = plan c s e in
    let pre : Premises c s ch = premises c s e ok in
    let t : State = grown c ch.maker ch.grows s in
    subst (λ (t : State). IsLine P n (IsIdle n (next c s e)) (node_queue n s.nodes) (node_queue n t.nodes)) (plan-next c s e ok)
    (line-after_end P n _ _ ch.sessions (nodes_changed ch.maker t.tick ch.nodes t.nodes) (line-settled P n _ _ ch.maker t.tick ch.nodes t.nodes (grown-numbered c s ch.maker ch.grows whole.numbered).nodes_rise
    (line-grown P n _ _ c s whole.numbered.nodes_below ch.maker ch.grows (λ m by maker grows. locks by.session m (joins-by c s e m by maker grows))
    (λ k grows number j is. ⊎_elim (λ had. absurd (none-some had.old (sym (node_in-later n s.next_node s.nodes whole.numbered.nodes_below (omega arith)) ∙ had.stood))) (λ new. new.idle) (came c s e whole n j is))
    (λ r tenant grows.
    let free = allocated-free c s ch n r tenant (subst (λ (g : Growth). GrowthPremise c s ch g) grows pre.grows) grows whole.owned.launches in
    (free.0, λ k is. ⊎_elim (λ had. grind (arith, nat_tests, free.1 had.old had.stood, had.comes.flies)) (λ new. new.idle) (came c s e whole n k is)))
    old))))
  where
    old : IsLine P n (IsIdle n (next c s e)) (node_queue n s.nodes) (node_queue n s.nodes)
    old = record { first = λ x is. inl is; rest = all }

-- ## who stands behind a holder

abbrev pub is_launcher : Role → Bool
is_launcher (Launcher p) = true
is_launcher _ = false

-- the session was begun, and not by a launcher
pub record IsNoLauncher (s : State) (session : SessionId) : Type 0 where
  pub role : Role
  pub begun : role_of session s ≡ Some role
  pub other : is_launcher role ≡ false

no-launcher : (s : State) (session : SessionId) (p : PoolId) → IsNoLauncher s session → launcher s session ≡ Ok p → ⊥
no-launcher s session p x1 x2 = grind (arith, nat_tests)

no-launcher-later : (c : Configuration) (s : State) (e : Event) (session : SessionId) → IsNoLauncher s session → IsNoLauncher (next c s e) session
no-launcher-later c s e session is = record { role = is.role; begun = role-next c s e session is.role is.begun; other = is.other }

-- no launcher stands behind the holder of a node
pub record NoLauncherWaits (s : State) : Type 0 where
  pub at : (n : NodeId) → AllByRecursion (IsNoLauncher s) (behind (node_queue n s.nodes))

-- if the event locks a node, no launcher makes it
pub record IsPolite (s : State) (e : Event) : Type 0 where
  pub locks : (by : SessionId) (m : NodeId) → e ≡ Event.LockNode by m → IsNoLauncher s by

-- ## reports that the machine would accept

pub may-report : (s : State) (p : PoolId) (session : SessionId) (n : NodeId) (k : ℕ) → is_ok (judge_done s session n k) ≡ true → role_of session s ≡ Some (Launcher p) → MayReport s p session n k
may-report s p session n k accepted role =
    let was = reporting s session n k accepted in
    subst (λ (x : PoolId). MayReport s x session n k) (same_launcher was.0 p (same_Some (Launcher was.0) (Launcher p) (sym (launcher-role s session was.0 was.1.who) ∙ role))) was.1

pub report-accepted : (s : State) (p : PoolId) (session : SessionId) (n : NodeId) (k : ℕ) → MayReport s p session n k → is_ok (judge_done s session n k) ≡ true
report-accepted s p session n k may = rw (may.who, may.stands, may.of_pool, may.holds, may.flies, may.attempt) refl

-- ## over one event

-- an event that is no start makes no report acceptable
pub may-before : (c : Configuration) (s : State) (e : Event) → Invariant c s → NoLauncherWaits s → IsPolite s e → is_start e ≡ false → (p : PoolId) (session : SessionId) (n : NodeId) (k : ℕ) → MayReport (next c s e) p session n k → MayReport s p session n k
may-before c s e whole waits polite no_start p session n k may = ⊎_elim
    (λ (had : Had s e n may.node).
    let who : launcher s session ≡ Ok p = heard-before c s e session p (first-all (IsLive s) session (node_queue n s.nodes) held (queue-all (IsLiveQueue s) (record { live = tt; once = tt }) n s.nodes whole.queued.at_nodes).live) may.who in
    record {
      who = who;
      node = had.old;
      stands = had.stood;
      of_pool = subst (λ (m : ℕ). (m == p.0) ≡ true) had.comes.of_pool may.of_pool;
      holds = held;
      flies = had.comes.flies no_start may.flies;
      attempt = subst (λ (m : ℕ). (m == k) ≡ true) (had.comes.attempts no_start) may.attempt;
    })
    (λ (new : IsNew s n may.node). absurd (false≢true (sym new.idle ∙ may.flies)))
    (came c s e whole n may.node may.stands)
  where
    held : is_first session (node_queue n s.nodes) ≡ true
    held = elim ((line-next (IsNoLauncher s) c s e whole polite.locks n (waits.at n)).first session may.holds) [
      | inl first ↦ first
      | inr (inl none) ↦ absurd (no-launcher (next c s e) session p (no-launcher-later c s e session none) may.who)
      | inr (inr idle) ↦ absurd (false≢true (sym (idle may.node may.stands) ∙ may.flies))
    ]

-- ## what a start and a report change: which reports the machine would accept, and which servers nodes have

-- another node's record is as it was
put-is : (s t : State) (m n : NodeId) (kept k : NodeRecord) → t.nodes ≡ put_node m kept s.nodes → node_in n t.nodes ≡ Some k → (((m.0 == n.0) ≡ false) × (node_in n s.nodes ≡ Some k)) ⊎ (((m.0 == n.0) ≡ true) × (kept ≡ k))
put-is s t m n kept k same x1 = let put = node_in-put m n kept s.nodes in grind (arith, nat_tests)

-- ## a report

module _ (c : Configuration) (s : State) (by : SessionId) (m : NodeId) (a : ℕ) (o : Outcome) where
  abbrev later : NodeRecord → NodeRecord
  later k = launched (retries_of c k.pool) s.tick o k

  done-leads : (q : PoolId) (r : MayReport s q by m a) → is_ok (judge_done s by m a) ≡ true → next c s (Event.Done by m a o) ≡ with_act (acting s (Event.Done by m a o)) (reported c s m o r.node)
  done-leads q r x1 = grind (arith, nat_tests)

  -- after an accepted report no launch of its node runs
  pub done-landed : is_ok (judge_done s by m a) ≡ true → (n : NodeId) (k : NodeRecord) → node_in n (next c s (Event.Done by m a o)).nodes ≡ Some k → k.in_flight ≡ true → (m.0 == n.0) ≡ false
  done-landed accepted n k is flies =
      let was = reporting s by m a accepted in
      ⊎_elim (λ other. other.0) (λ (here : ((m.0 == n.0) ≡ true) × (later was.1.node ≡ k)). absurd (false≢true (ap (λ (x : NodeRecord). x.in_flight) here.1 ∙ flies)))
      (put-is s (with_act (acting s (Event.Done by m a o)) (reported c s m o was.1.node)) m n (later was.1.node) k refl (subst (λ (z : State). node_in n z.nodes ≡ Some k) (done-leads was.0 was.1 accepted) is))

-- ## a start

module _ (c : Configuration) (s : State) (by : SessionId) (m : NodeId) (what : Done) (ok : judge_start s by m ≡ Ok what) where
  abbrev as-begun : IsStarting s by m what → NodeRecord
  as-begun r = record r.node { attempts = r.node.attempts + 1; in_flight = true; start = starts_of r.pool s + 1 }

  -- the report of the launch that begins
  pub record IsOfStart (p : PoolId) (session : SessionId) (n : NodeId) (k : ℕ) : Type 0 where
    pub by_maker : session ≡ by
    pub of_node : n ≡ m
    pub first : ℕ
    pub attempt : what ≡ Done.Started k first
    pub who : launcher s session ≡ Ok p

  -- after an accepted start its report is the only one that is acceptable, and was not
  pub may-before_start : (p : PoolId) (session : SessionId) (n : NodeId) (k : ℕ) → MayReport (next c s (Event.Start by m)) p session n k → MayReport s p session n k ⊎ IsOfStart p session n k
  may-before_start p session n k may =
      let r = starting s by m what ok in
      let t : State = with_act (acting s (Event.Start by m)) (started s m r.pool r.node) in
      let now : MayReport t p session n k = subst (λ (x : State). MayReport x p session n k) (start-leads c s by m what r ok) may in
      ⊎_elim
      (λ (other : ((m.0 == n.0) ≡ false) × (node_in n s.nodes ≡ Some now.node)).
      inl (record { who = now.who; node = now.node; stands = other.1; of_pool = now.of_pool; holds = held now; flies = now.flies; attempt = now.attempt }))
      (λ (here : ((m.0 == n.0) ≡ true) × (as-begun r ≡ now.node)).
      let node : m ≡ n = same_node-is m n here.0 in
      let attempts : r.node.attempts + 1 ≡ k = ap (λ (x : NodeRecord). x.attempts) here.1 ∙ eqb-true now.node.attempts k now.attempt in
      inr (record {
        by_maker = ap (λ (x : ℕ). let it : SessionId = record { 0 = x } in it) (one-named session by (node_holder m s.nodes) (subst (λ (x : NodeId). is_session_of session (node_holder x s.nodes) ≡ true) (sym node) (held now)) r.holds);
        of_node = sym node;
        first = starts_of r.pool s + 1;
        attempt = r.says ∙ ap (λ (x : ℕ). Done.Started x (starts_of r.pool s + 1)) attempts;
        who = now.who;
      }))
      (put-is s t m n (as-begun r) now.node refl now.stands)
    where
      held : (now : MayReport (with_act (acting s (Event.Start by m)) (started s m (starting s by m what ok).pool (starting s by m what ok).node)) p session n k) → is_session_of session (node_holder n s.nodes) ≡ true
      held now = subst (λ (queue : List SessionId). is_session_of session (holder queue) ≡ true) (node_queue-put m n (as-begun (starting s by m what ok)) s.nodes) now.holds

-- ## servers

-- the node had a record of this pool with this server before, and was up if it is up now
pub record KeptServer (s : State) (n : NodeId) (k : NodeRecord) : Type 0 where
  pub old : NodeRecord
  pub stood : node_in n s.nodes ≡ Some old
  pub of_pool : k.pool.0 ≡ old.pool.0
  pub server : k.server ≡ old.server
  pub up : is_up k.state ≡ true → is_up old.state ≡ true

-- the event is an accepted report of this server, by the launcher of the node's pool
pub record IsReportedBy (s : State) (e : Event) (n : NodeId) (k : NodeRecord) (x : ℕ) : Type 0 where
  pub by : SessionId
  pub attempt : ℕ
  pub event : e ≡ Event.Done by n attempt (Outcome.Launched x)
  pub accepted : is_ok (judge_done s by n attempt) ≡ true
  pub who : launcher s by ≡ Ok k.pool

kept-same : (s : State) (n : NodeId) (k : NodeRecord) → node_in n s.nodes ≡ Some k → KeptServer s n k
kept-same s n k stood = record { old = k; stood = stood; of_pool = refl; server = refl; up = λ u. u }

module _ (c : Configuration) (s : State) (by : SessionId) (m : NodeId) (a : ℕ) (accepted : is_ok (judge_done s by m a) ≡ true) where
  done-server : (o : Outcome) (q : PoolId) (r : MayReport s q by m a) (n : NodeId) (k : NodeRecord) (x : ℕ) → m ≡ n → launched (retries_of c r.node.pool) s.tick o r.node ≡ k → k.server ≡ Some x
      → KeptServer s n k ⊎ IsReportedBy s (Event.Done by m a o) n k x
  done-server o q r n k x x1 x2 x3 = grind (arith, nat_tests)

  pub server-before_done : (o : Outcome) (n : NodeId) (k : NodeRecord) (x : ℕ) → node_in n (next c s (Event.Done by m a o)).nodes ≡ Some k → k.server ≡ Some x → KeptServer s n k ⊎ IsReportedBy s (Event.Done by m a o) n k x
  server-before_done o n k x is has =
      let was = reporting s by m a accepted in
      let r = was.1 in
      let t : State = with_act (acting s (Event.Done by m a o)) (reported c s m o r.node) in
      ⊎_elim (λ old. inl (kept-same s n k old.1))
      (λ (here : ((m.0 == n.0) ≡ true) × (later c s by m a o r.node ≡ k)). done-server o was.0 r n k x (same_node-is m n here.0) here.1 has)
      (put-is s t m n (later c s by m a o r.node) k refl (subst (λ (z : State). node_in n z.nodes ≡ Some k) (done-leads c s by m a o was.0 r accepted) is))

-- a node that has a server had it before, or the event is the report of the server
pub server-before : (c : Configuration) (s : State) (e : Event) → Invariant c s → (n : NodeId) (k : NodeRecord) (x : ℕ) → node_in n (next c s e).nodes ≡ Some k → k.server ≡ Some x → KeptServer s n k ⊎ IsReportedBy s e n k x
server-before c s e whole n k x is has = of_event e is where
  of_event : (f : Event) → node_in n (next c s f).nodes ≡ Some k → KeptServer s n k ⊎ IsReportedBy s f n k x
  of_event (Event.Done by m a o) = if-accepted (λ t. node_in n t.nodes ≡ Some k → KeptServer s n k ⊎ IsReportedBy s (Event.Done by m a o) n k x) c s (Event.Done by m a o) (λ stood. inl (kept-same s n k stood)) (λ ok is. server-before_done c s by m a ok o n k x is has)
  of_event f = λ is. ⊎_elim (λ (had : Had s f n k). inl (record { old = had.old; stood = had.stood; of_pool = had.comes.of_pool; server = had.comes.server refl; up = had.comes.up refl }))
      (λ (new : IsNew s n k). absurd (none-some x (sym new.serverless ∙ has))) (came c s f whole n k is)

-- # no launcher stands behind the holder of a node, at each place of a driven journal

waits-next : (c : Configuration) (s : State) (e : Event) → Invariant c s → IsPolite s e → NoLauncherWaits s → NoLauncherWaits (next c s e)
waits-next c s e whole polite waits = record {
  at = λ n. all-weaker (IsNoLauncher s) (IsNoLauncher (next c s e)) (no-launcher-later c s e) (behind (node_queue n (next c s e).nodes)) (line-next (IsNoLauncher s) c s e whole polite.locks n (waits.at n)).rest;
}

-- ## a driven journal

useful-lock : (c : Configuration) (s : State) (role : Role) (by : SessionId) (m : NodeId) → IsUseful c s role (Event.LockNode by m) → IsNoLauncher s by
useful-lock c s (Launcher p) by m useful = absurd (false≢true ((and_parts (is_by_registrant s p (Event.LockNode by m)) false useful.row).1))
useful-lock c s role by m useful = record { role = role; begun = current-role role by s useful.maker; other = refl }

polite-turn : (says : Says) (c : Configuration) (past : List Turn) (s : State) (e : Entry) → IsDrivenTurn says c past (turn_of c s e) → IsPolite s e.event
polite-turn says c past s e h = record {
  locks = λ by m is. ⊎_elim
      (λ (t : IsOfUse c (turn_of c s e)). useful-lock c s t.role by m (subst (λ (f : Event). IsUseful c s t.role f) is t.useful))
      (λ g. ⊎_elim (λ (t : IsTickBetween past (turn_of c s e)). absurd (cc (t.event, is)))
      (λ f. ⊎_elim (λ (t : IsSweepOfServer past (turn_of c s e)). absurd (cc (t.event, is)))
      (λ (t : IsReportOfLaunch says past (turn_of c s e)). absurd (cc (t.event, is))) f) g) h;
}

waits-over : (says : Says) (c : Configuration) (past : List Turn) (s : State) (before rest : List Entry) → Invariant c s → NoLauncherWaits s → DrivenFrom says c past (turns_from c s (before ++ rest)) → NoLauncherWaits (state_after c s before)
waits-over says c past s [] rest whole waits driven = waits
waits-over says c past s (e ∷ before) rest whole waits driven =
    waits-over says c (past ++ turn_of c s e ∷ []) (next c s e.event) before rest (invariant-next c s e.event whole)
    (waits-next c s e.event whole (polite-turn says c past s e driven.0) waits) driven.1

pub waits-after : (says : Says) (c : Configuration) (journal before rest : List Entry) → DrivenBy says c journal → journal ≡ before ++ rest → NoLauncherWaits (after c before)
waits-after says c journal before rest driven is =
    waits-over says c [] (start c) before rest (invariant-start c) (record { at = λ n. tt }) (subst (DrivenBy says c) is driven)

pub polite-at : (says : Says) (c : Configuration) (journal before : List Entry) (e : Entry) (rest : List Entry) → DrivenBy says c journal → journal ≡ before ++ e ∷ rest → IsPolite (after c before) e.event
polite-at says c journal before e rest driven is = polite-turn says c (turns c before) (after c before) e (driven-at c says false journal before e rest driven is)

-- # what is known of an event that a role chose, be it useful now or when it was planned

-- ## a useful event is of its role

pub useful-of_role : (c : Configuration) (s : State) (role : Role) (e : Event) → IsUseful c s role e → IsOfRole role s e
useful-of_role c s role e useful = let row = useful.row in record {
  maker = λ session is. current-role role session s (subst (λ (o : Option SessionId). is_maker_of role s o ≡ true) is useful.maker);
  opens = λ r is. grind (arith, nat_tests, same_role-is);
  crashes = λ session is. grind (arith, nat_tests);
  expires = λ session is. grind (arith, nat_tests);
}

-- ## an event that was planned

-- no planned event opens a session or takes one away
was-of_role : (c : Configuration) (journal : List Entry) (role : Role) (e : Event) → WasUseful c journal role e → IsOfRole role (after c journal) e
was-of_role c journal role e was = record {
  maker = λ session is. subst (λ (j : List Entry). role_of session (after c j) ≡ Some role) (take-append-drop was.place journal)
      (role-stays c (take was.place journal) (drop was.place journal) session role ((useful-of_role c (after c (take was.place journal)) role e was.useful).maker session is));
  opens = λ r is. absurd (false≢true (ap is_planned (sym is) ∙ was.planned));
  crashes = λ session is. absurd (false≢true (ap is_planned (sym is) ∙ was.planned));
  expires = λ session is. absurd (false≢true (ap is_planned (sym is) ∙ was.planned));
}

-- the entry of a journal where a part of it ends, or the next one
next-at : (k : ℕ) (journal : List Entry) (e : Entry) → k ≤ length journal → (d : Entry) × (rest : List Entry) × (journal ++ e ∷ [] ≡ take k journal ++ d ∷ rest)
next-at zero [] e within = (e, [], refl)
next-at zero (d ∷ journal) e within = (d, journal ++ e ∷ [], refl)
next-at (suc k) [] e within = absurd (omega arith)
next-at (suc k) (f ∷ journal) e within =
    let h = next-at k journal e (omega arith) in
    (h.0, h.1, ap (λ (l : List Entry). f ∷ l) h.2)

-- at its place it was of use before
pub was-of_use : (c : Configuration) (journal : List Entry) (role : Role) (e : Entry) → WasUseful c journal role e.event → WasOfUse c (turns c journal) (turn_after c journal e)
was-of_use c journal role e was = record {
  role = role;
  planned = was.planned;
  useful =
      let h = next-at was.place journal e was.within in
      subst (SomeTurn (λ u. IsUseful c u.before role e.event)) (turns-append c (start c) journal (e ∷ []))
      (subst (λ (j : List Entry). SomeTurn (λ u. IsUseful c u.before role e.event) (turns c j)) (sym h.2)
      (some-from c (λ u. IsUseful c u.before role e.event) (start c) (take was.place journal) h.0 h.1 was.useful));
  accepted = was.accepted;
}

-- ## an event that was chosen

module _ (c : Configuration) (journal : List Entry) (role : Role) where
  pub chosen-accepted : (plans : Bool) (e : Event) → IsChosen plans c journal role e → is_ok (judge c (after c journal) e) ≡ true
  chosen-accepted plans e (inl useful) = useful.accepted
  chosen-accepted true e (inr was) = was.accepted
  chosen-accepted false e (inr none) = absurd none

  pub chosen-of_role : (plans : Bool) (e : Event) → IsChosen plans c journal role e → IsOfRole role (after c journal) e
  chosen-of_role plans e (inl useful) = useful-of_role c (after c journal) role e useful
  chosen-of_role true e (inr was) = was-of_role c journal role e was
  chosen-of_role false e (inr none) = absurd none

  -- it is useful now, or one that can be planned
  chosen-cases : (plans : Bool) (e : Event) → IsChosen plans c journal role e → IsUseful c (after c journal) role e ⊎ (is_planned e ≡ true)
  chosen-cases plans e (inl useful) = inl useful
  chosen-cases true e (inr was) = inr was.planned
  chosen-cases false e (inr none) = absurd none

  pub chosen-tickless : (plans : Bool) → IsChosen plans c journal role Event.Tick → ⊥
  chosen-tickless plans chosen = elim (chosen-cases plans Event.Tick chosen) [
    | inl useful ↦ useful-tickless c (after c journal) role useful
    | inr planned ↦ false≢true planned
  ]

  -- a report is of a launcher's session
  pub chosen-done : (plans : Bool) (session : SessionId) (n : NodeId) (k : ℕ) (o : Outcome) → IsChosen plans c journal role (Event.Done session n k o) → (pool : PoolId) × (role ≡ Launcher pool) × (role_of session (after c journal) ≡ Some (Launcher pool))
  chosen-done plans session n k o chosen = elim (chosen-cases plans (Event.Done session n k o) chosen) [
    | inl useful ↦ useful-done c (after c journal) role session n k o useful
    | inr planned ↦ absurd (false≢true planned)
  ]

  -- it is one of the turns that may follow
  pub chosen-turn : (plans : Bool) (says : Says) (e : Entry) → IsChosen plans c journal role e.event → IsTurnAs says plans c (turns c journal) (turn_after c journal e)
  chosen-turn false says e (inl useful) = inl (record { role = role; useful = useful })
  chosen-turn true says e (inl useful) = inl (inl (record { role = role; useful = useful }))
  chosen-turn true says e (inr was) = inr (was-of_use c journal role e was)
  chosen-turn false says e (inr none) = absurd none

-- a start that a launcher chose is of a node of its pool
pub chosen-start : (plans : Bool) (c : Configuration) (journal : List Entry) (pool : PoolId) (session : SessionId) (n : NodeId) → IsChosen plans c journal (Launcher pool) (Event.Start session n) →
    (role_of session (after c journal) ≡ Some (Launcher pool)) × ((node : NodeRecord) × (node_in n (after c journal).nodes ≡ Some node) × (node.pool.0 ≡ pool.0))
chosen-start plans c journal pool session n chosen =
    let role : role_of session (after c journal) ≡ Some (Launcher pool) = (chosen-of_role c journal (Launcher pool) plans (Event.Start session n) chosen).maker session refl in
    let was = ok-is (judge_start (after c journal) session n) (chosen-accepted c journal (Launcher pool) plans (Event.Start session n) chosen) in
    (role, start-of_pool (after c journal) session n pool was.0 was.1 role)

-- ## answers

module _ (c : Configuration) (journal : List Entry) where
  -- where nothing is planned the answers are the board's
  pub plain-answer : (a : Ask) (t : Answer) → answers_of false c journal a t → answers c journal a t
  plain-answer (Ask.Act r) (Answer.Did e) h = (⊎_elim (λ (useful : IsUseful c (after c journal) r e.event). useful) (λ none. absurd none) h.0, h.1)
  plain-answer a t h = h

  -- and the board's answers are always allowed
  pub allowed-answer : (plans : Bool) (a : Ask) (t : Answer) → answers c journal a t → answers_of plans c journal a t
  allowed-answer plans (Ask.Act r) (Answer.Did e) h = (inl h.0, h.1)
  allowed-answer plans a t h = h

-- the answers of a board
pub walk_as : {F : Type 0} (answers : F → List Entry → Ask → Answer → Type 0) (plans : Bool) (site : F → Configuration) → AnswersAsBoard plans site answers → (f : F) (ms : List Move) (v w : Sight Entry) → Walk answers f ms v w → Walk (answers_of plans) (site f) ms v w
walk_as answers plans site told f [] v w h = h
walk_as answers plans site told f (asked a t ∷ ms) v w h = (h.0, (h.1.0, h.1.1, told f h.1.0 a t h.1.2, h.1.3), walk_as answers plans site told f ms h.0 w h.2)
walk_as answers plans site told f (move ∷ ms) v w h = walk_as answers plans site told f ms v w h

pub allowed-walk : (plans : Bool) (c : Configuration) (ms : List Move) (v w : Sight Entry) → Walk answers c ms v w → Walk (answers_of plans) c ms v w
allowed-walk plans c = walk_as answers plans (λ f. f) (λ f history a t. allowed-answer f history plans a t) c
