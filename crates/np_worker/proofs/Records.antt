-- the records of nodes and the roles of sessions over a run: what stays, where a record comes from, and of which pool a node is
use Rattle.np_worker.proofs.Prelude.{Added, Altered, BeginsLaunch, Bool, Changes, Configuration, Done, Entry, Event, Growth, Invariant, IsAllocated, IsFreed, IsPut, IsUsed, IsUseful, Launcher, List, NodeChange, NodeId, NodeRecord, NodeStep, NodesChange, None, Ok, Option, Outcome, PoolId, Premises, PutsNode, Removed, Reply, RequestId, RequestsChange, Role, Runs, SessionFacts, SessionId, SessionsChange, Some, SomeTurn, StartsWith, State, Stays, Way, after, ap, append-nil, append_assoc, arith, by_bool, cases_lt, change_session, changed, cond, eq-eqb, eqb-true, facts-grown, facts_in, false, false≢true, grown, inl, inr, invariant-after, invariant-next, invariant-start, is_building, is_current, is_node_of, is_ok, is_ready, is_session_of, is_up, judge, judge_done, judge_start, kept-change_at, launcher, launcher-role, length, length-append, list_any, made, muted, nat_tests, next, next-more, node-step, node_holder, node_in, node_in-below, node_in-put, none-some, option_map, option_map_or, or_left, or_right, owned-node, owns-if, plan, plan-next, premises, put_node, refl, replied-at, reply_of, reported, reports_from, reports_of, role_of, row-of, same_Some, same_role, session_of, sessions_changed, slice_get, start, started, starts_of, state_after, subst, sym, true, turns, turns_from, was_node_of, with_act, ℕ, [], ⊎_elim, ◌++◌, ◌+◌, ◌-◌, ◌<◌, ◌==◌, ◌||◌, ◌∙◌, ◌∷◌, ◌≡◌, ◌≢◌, ◌≤◌, ◌⊎◌}
use Rattle.np_changes.specs.Prelude.{acting, ended, Turn}
use Rattle.np_changes.specs.Premises.{GrowthPremise, NodesPremise, Reports, Starts, TakesOver}
use Rattle.np_changes.specs.Parts.{IsNumbered}
use Rattle.np_worker.proofs.Walks.{same-split, split-within}
use Rattle.np_worker.proofs.Journals.{turn_of, turn_after, turns-append}

-- what holds of a state holds after an event, if it does where the machine accepts the event
pub if-accepted : (P : State → Type 0) (c : Configuration) (s : State) (e : Event) → P s → (is_ok (judge c s e) ≡ true → P (next c s e)) → P (next c s e)
if-accepted P c s e old new = by_bool (λ _. P (next c s e)) (is_ok (judge c s e)) new (λ refused. rw refused old)

-- # what an event does to the record of a node

abbrev pub is_start : Event → Bool
is_start (Event.Start session n) = true
is_start _ = false

abbrev pub is_report : Event → Bool
is_report (Event.Done session n attempt o) = true
is_report _ = false

-- the record comes from this one by the event: only a report launches, and only a start begins an attempt
pub record ComesFrom (e : Event) (old k : NodeRecord) : Type 0 where
  pub of_pool : k.pool.0 ≡ old.pool.0
  pub more : old.attempts ≤ k.attempts
  pub over : is_building old.state ≡ false → (is_building k.state ≡ false) × (k.server ≡ old.server)
  pub server : is_report e ≡ false → k.server ≡ old.server
  pub up : is_report e ≡ false → is_up k.state ≡ true → is_up old.state ≡ true
  pub attempts : is_start e ≡ false → k.attempts ≡ old.attempts
  pub flies : is_start e ≡ false → k.in_flight ≡ true → old.in_flight ≡ true

comes-same : (e : Event) (k : NodeRecord) → ComesFrom e k k
comes-same e k = grind (arith, nat_tests)

module _ (c : Configuration) (s : State) (e : Event) (n : NodeId) (old k : NodeRecord) (stood : node_in n s.nodes ≡ Some old) (runs : old.in_flight ≡ true → is_building old.state ≡ true) where
  put-start : (plan c s e).nodes ≡ NodesChange.Put n k → Starts s (plan c s e) old k → is_start e ≡ true
  put-start at starts = grind (arith, nat_tests)

  put-report : (plan c s e).nodes ≡ NodesChange.Put n k → Reports c s (plan c s e) old k → is_report e ≡ true
  put-report at reports = grind (arith, nat_tests)

  comes-put : (plan c s e).nodes ≡ NodesChange.Put n k → Way c s (plan c s e) n old k → ComesFrom e old k
  comes-put at (inl starts) = let is = put-start at starts in grind (arith, nat_tests)
  comes-put at (inr (inl reports)) = let is = put-report at reports in grind (arith, nat_tests)
  comes-put at (inr (inr way)) = grind (arith, nat_tests)

  comes-changed : Invariant c s → Premises c s (plan c s e) → NodeChange s (plan c s e) n old k → ComesFrom e old k
  comes-changed whole pre (IsPut at) =
      let put : PutsNode c s (plan c s e) n k = subst (λ (change : NodesChange). NodesPremise c s (plan c s e) change) at pre.nodes in
      comes-put at (subst (λ (x : NodeRecord). Way c s (plan c s e) n x k) (same_Some put.node old (sym put.held.stands ∙ stood)) put.way)
  comes-changed whole pre (IsFreed r at mine is) = grind (arith, nat_tests)
  comes-changed whole pre (IsUsed numbers at among is) =
      let premise : (r : RequestId) × (takes : TakesOver c s (plan c s e) r) × (((plan c s e).requests ≡ RequestsChange.Remove r) × (numbers ≡ takes.request.nodes)) = subst (λ (change : NodesChange). NodesPremise c s (plan c s e) change) at pre.nodes in
      let takes = premise.1 in
      let owns = owns-if s premise.0 takes.request takes.request.state takes.fulfilled (whole.owned.requests premise.0 takes.request takes.request_stands) in
      let ready : is_ready old.state ≡ true = (owned-node s premise.0 takes.request owns n old (subst (λ (ms : List NodeId). list_any (λ m. m.0 == n.0) ms ≡ true) premise.2.1 among) stood).0 in
      grind (arith, nat_tests)
  comes-changed whole pre (IsAllocated r tenant at is) = grind (arith, nat_tests)

-- the node had a record before, from which this one comes
pub record Had (s : State) (e : Event) (n : NodeId) (k : NodeRecord) : Type 0 where
  pub old : NodeRecord
  pub stood : node_in n s.nodes ≡ Some old
  pub comes : ComesFrom e old k

-- or it is new, and nobody launched it yet
pub record IsNew (s : State) (n : NodeId) (k : NodeRecord) : Type 0 where
  pub number : n.0 ≡ s.next_node
  pub serverless : k.server ≡ None
  pub idle : k.in_flight ≡ false

new-made : (c : Configuration) (s : State) (ch : Changes) (n : NodeId) (k : NodeRecord) → GrowthPremise c s ch (Growth.Node k) → ch.grows ≡ Growth.Node k → n ≡ record { 0 = s.next_node } → IsNew s n k
new-made c s ch n k gains grows number = grind (arith, nat_tests, gains.gains.from)

pub came : (c : Configuration) (s : State) (e : Event) → Invariant c s → (n : NodeId) (k : NodeRecord) → node_in n (next c s e).nodes ≡ Some k → Had s e n k ⊎ IsNew s n k
came c s e whole n k = if-accepted (λ t. node_in n t.nodes ≡ Some k → Had s e n k ⊎ IsNew s n k) c s e (λ is. inl (record { old = k; stood = is; comes = comes-same e k }))
    (λ ok is. by ok (node-step c s (plan c s e) whole.numbered n (premises c s e ok)) (subst (λ (t : State). node_in n t.nodes ≡ Some k) (sym (plan-next c s e ok)) is))
  where
    by : is_ok (judge c s e) ≡ true → NodeStep s (plan c s e) n (node_in n s.nodes) (node_in n (changed c (plan c s e) s).nodes) → node_in n (changed c (plan c s e) s).nodes ≡ Some k → Had s e n k ⊎ IsNew s n k
    by ok (Stays same) is = inl (record { old = k; stood = sym same ∙ is; comes = comes-same e k })
    by ok (Altered old j stood now how) is = inl (record { old = old; stood = stood; comes = subst (ComesFrom e old) (same_Some j k (sym now ∙ is)) (comes-changed c s e n old j stood (whole.owned.launches n old stood) whole (premises c s e ok) how) })
    by ok (Added j none now grows number) is =
        let made : IsNew s n j = new-made c s (plan c s e) n j (subst (λ (g : Growth). GrowthPremise c s (plan c s e) g) grows (premises c s e ok).grows) grows number in
        inr (subst (IsNew s n) (same_Some j k (sym now ∙ is)) made)
    by ok (Removed old stood none removed) is = absurd (none-some k (sym none ∙ is))

-- # what holds of a node's record over whatever follows in a run

-- no event takes it away from a record (own)
abbrev pub IsSteady : (NodeRecord → Type 0) → Type 0
IsSteady P = (e : Event) (old k : NodeRecord) → ComesFrom e old k → P old → P k

-- the number of the node was given before, and if the node exists its record is such (own)
pub record IsGiven (n : NodeId) (P : NodeRecord → Type 0) (s : State) : Type 0 where
  pub given : n.0 < s.next_node
  pub holds : (node : NodeRecord) → node_in n s.nodes ≡ Some node → P node

-- the next number of a node does not fall
next-later : (c : Configuration) (s : State) (e : Event) → s.next_node ≤ (next c s e).next_node
next-later c s e = if-accepted (λ t. s.next_node ≤ t.next_node) c s e (omega arith) (λ ok. subst (λ (t : State). s.next_node ≤ t.next_node) (plan-next c s e ok) (next-more c (plan c s e).maker (plan c s e).grows s))

module _ (n : NodeId) (P : NodeRecord → Type 0) (steady : IsSteady P) (c : Configuration) where
  pub given-next : (s : State) (e : Event) → Invariant c s → IsGiven n P s → IsGiven n P (next c s e)
  given-next s e whole old = record {
    given = omega (arith, next-later c s e, old.given);
    holds = λ node is. ⊎_elim (λ had. steady e had.old node had.comes (old.holds had.old had.stood)) (λ new. absurd (omega (arith, new.number, old.given))) (came c s e whole n node is);
  }

  -- over entries
  pub given-over : (s : State) (more : List Entry) → Invariant c s → IsGiven n P s → IsGiven n P (state_after c s more)
  given-over s [] holds old = old
  given-over s (entry ∷ more) holds old = given-over (next c s entry.event) more (invariant-next c s entry.event holds) (given-next s entry.event holds old)

-- ## over a run

-- the state after both parts of a journal
pub state_after-append : (c : Configuration) (s : State) (journal more : List Entry) → state_after c s (journal ++ more) ≡ state_after c (state_after c s journal) more
state_after-append c s [] more = refl
state_after-append c s (entry ∷ journal) more = state_after-append c (next c s entry.event) journal more

-- what holds of every state that a run leads to holds after a journal
pub holds-after : (c : Configuration) (journal : List Entry) → Invariant c (after c journal)
holds-after c journal = invariant-after c (start c) journal (invariant-start c)

-- whatever follows in a journal, the record is such
pub given-stays : (n : NodeId) (P : NodeRecord → Type 0) → IsSteady P → (c : Configuration) (journal more : List Entry) → IsGiven n P (after c journal) → IsGiven n P (after c (journal ++ more))
given-stays n P steady c journal more old = subst (IsGiven n P) (sym (state_after-append c (start c) journal more)) (given-over n P steady c (after c journal) more (holds-after c journal) old)

-- ## attempts

-- this many launches of the node were begun: if it exists, it has had as many attempts (own)
abbrev pub IsSpent : NodeId → ℕ → State → Type 0
IsSpent n k s = IsGiven n (λ node. k ≤ node.attempts) s

pub attempts-steady : (k : ℕ) → IsSteady (λ node. k ≤ node.attempts)
attempts-steady k e old node comes was = omega arith

-- ## which attempt an accepted start begins, and which one an accepted report is of

-- what the machine has tested before it accepts a start, and its reply
pub record IsStarting (s : State) (by : SessionId) (m : NodeId) (what : Done) : Type 0 where
  pub pool : PoolId
  pub who : launcher s by ≡ Ok pool
  pub node : NodeRecord
  pub stands : node_in m s.nodes ≡ Some node
  pub of_pool : (node.pool.0 == pool.0) ≡ true
  pub holds : is_session_of by (node_holder m s.nodes) ≡ true
  pub says : what ≡ Done.Started (node.attempts + 1) (starts_of pool s + 1)

pub starting : (s : State) (by : SessionId) (m : NodeId) (what : Done) → judge_start s by m ≡ Ok what → IsStarting s by m what
starting s by m what x1 = grind (arith, nat_tests)

-- the start as the machine answered it
start-begins : (c : Configuration) (s : State) (e : Entry) (session : SessionId) (n : NodeId) (k m : ℕ) → e.reply ≡ reply_of (judge c s e.event) → e.event ≡ Event.Start session n → e.reply ≡ Reply.Done (Done.Started k m) → judge_start s session n ≡ Ok (Done.Started k m)
start-begins c s e session n k m x1 x2 x3 = grind (arith, nat_tests)

-- where it leads
pub start-leads : (c : Configuration) (s : State) (session : SessionId) (n : NodeId) (what : Done) (b : IsStarting s session n what) → judge_start s session n ≡ Ok what
    → next c s (Event.Start session n) ≡ with_act (acting s (Event.Start session n)) (started s n b.pool b.node)
start-leads c s session n what b x1 = grind (arith, nat_tests)

-- the node's record that is put has had this many attempts
put-had : (s : State) (session : SessionId) (n : NodeId) (k m first : ℕ) (b : IsStarting s session n (Done.Started k m)) (node : NodeRecord) →
    node_in n (put_node n (record b.node { attempts = b.node.attempts + 1; in_flight = true; start = first }) s.nodes) ≡ Some node → k ≤ node.attempts
put-had s session n k m first b node is = let put = node_in-put n n (record b.node { attempts = b.node.attempts + 1; in_flight = true; start = first }) s.nodes in let says : Done.Started k m ≡ Done.Started (b.node.attempts + 1) (starts_of b.pool s + 1) = b.says in let one : b.node.attempts + 1 ≡ k = cc in grind (arith, nat_tests)

-- an accepted start spends the attempt that it is answered with
pub start-spends : (c : Configuration) (s : State) (e : Entry) (session : SessionId) (n : NodeId) (k m : ℕ) → IsNumbered s → e.reply ≡ reply_of (judge c s e.event) → e.event ≡ Event.Start session n → e.reply ≡ Reply.Done (Done.Started k m) → IsSpent n k (next c s e.event)
start-spends c s e session n k m numbered says event_is reply_is =
    let ok = start-begins c s e session n k m says event_is reply_is in
    let b = starting s session n (Done.Started k m) ok in
    let low : n.0 < s.next_node = node_in-below n s.next_node b.node s.nodes numbered.nodes_below b.stands in
    let later : IsSpent n k (with_act (acting s (Event.Start session n)) (started s n b.pool b.node)) = record { given = low; holds = λ node is. put-had s session n k m (starts_of b.pool s + 1) b node is } in
    subst (λ (x : Event). IsSpent n k (next c s x)) (sym event_is) (subst (IsSpent n k) (sym (start-leads c s session n (Done.Started k m) b ok)) later)

-- which was not spent before
pub start-fresh : (c : Configuration) (s : State) (e : Entry) (session : SessionId) (n : NodeId) (k m : ℕ) → e.reply ≡ reply_of (judge c s e.event) → e.event ≡ Event.Start session n → e.reply ≡ Reply.Done (Done.Started k m) → IsSpent n k s → ⊥
start-fresh c s e session n k m x1 x2 x3 x4 = grind (arith, nat_tests)

-- ## a report

-- the session may report on this attempt of the node, as the pool's launcher
pub record MayReport (s : State) (p : PoolId) (session : SessionId) (n : NodeId) (k : ℕ) : Type 0 where
  pub who : launcher s session ≡ Ok p
  pub node : NodeRecord
  pub stands : node_in n s.nodes ≡ Some node
  pub of_pool : (node.pool.0 == p.0) ≡ true
  pub holds : is_session_of session (node_holder n s.nodes) ≡ true
  pub flies : node.in_flight ≡ true
  pub attempt : (node.attempts == k) ≡ true

-- an accepted report is of a launcher that may make it
pub reporting : (s : State) (session : SessionId) (n : NodeId) (k : ℕ) → is_ok (judge_done s session n k) ≡ true → (p : PoolId) × MayReport s p session n k
reporting s session n k x1 = grind (arith, nat_tests)

-- it is of an attempt that was spent
pub done-spends : (c : Configuration) (s : State) (session : SessionId) (n : NodeId) (k : ℕ) (o : Outcome) → IsNumbered s → is_ok (judge c s (Event.Done session n k o)) ≡ true → IsSpent n k s
done-spends c s session n k o numbered accepted =
    let r = (reporting s session n k accepted).1 in
    record {
      given = node_in-below n s.next_node r.node s.nodes numbered.nodes_below r.stands;
      holds = λ other there. subst (λ (x : NodeRecord). k ≤ x.attempts) (same_Some r.node other (sym r.stands ∙ there)) (omega (arith, eqb-true r.node.attempts k r.attempt));
    }

-- ## an attempt of a node is begun once in a run, and reported only later

-- the first place comes before the second
abbrev IsBefore : List Entry → Entry → List Entry → Type 0
IsBefore a d b = (between : List Entry) × (b ≡ a ++ d ∷ between)

-- two places of one list: the same, or one before the other
abbrev Places : List Entry → Entry → List Entry → Entry → Type 0
Places a d b e = (a ≡ b) ⊎ (IsBefore a d b ⊎ IsBefore b e a)

places : (a : List Entry) (d : Entry) (x b : List Entry) (e : Entry) (y : List Entry) → a ++ d ∷ x ≡ b ++ e ∷ y → Places a d b e
places a d x b e y is = elim (cases_lt (length a) (length b)) [
  | inl less ↦ inr (inl (split-within a b x (e ∷ y) d is less))
  | inr low ↦ elim (cases_lt (length b) (length a)) [
    | inl more ↦ inr (inr (split-within b a y (d ∷ x) e (sym is) more))
    | inr high ↦ inl (same-split a b x y d e is (omega (arith, low, high))).0
  ]
]

-- ## a start, and what follows

-- after an accepted start its attempt is spent
begun-stays : (c : Configuration) (a : List Entry) (d : Entry) (more : List Entry) (session : SessionId) (n : NodeId) (k m : ℕ) → d.reply ≡ reply_of (judge c (after c a) d.event) → d.event ≡ Event.Start session n → d.reply ≡ Reply.Done (Done.Started k m) → IsSpent n k (after c (a ++ d ∷ more))
begun-stays c a d more session n k m says first_event first_reply =
    subst (IsSpent n k) (sym (state_after-append c (start c) a (d ∷ more)))
    (given-over n (λ (node : NodeRecord). k ≤ node.attempts) (attempts-steady k) c (next c (after c a) d.event) more (invariant-next c (after c a) d.event (holds-after c a)) (start-spends c (after c a) d session n k m (holds-after c a).numbered says first_event first_reply))

module _ (c : Configuration) (journal : List Entry) (t : State) (runs : Runs c journal t) where
  -- each entry has the machine's reply at its place
  says-at : (a : List Entry) (d : Entry) (x : List Entry) → journal ≡ a ++ d ∷ x → d.reply ≡ reply_of (judge c (after c a) d.event)
  says-at a d x at = let there : Runs c (a ++ d ∷ x) t = subst (λ (j : List Entry). Runs c j t) at runs in replied-at c (start c) a d x there.replies

  -- no other start after it is answered with the same attempt
  not-again : (a : List Entry) (d : Entry) (x b : List Entry) (e : Entry) (y : List Entry) → journal ≡ a ++ d ∷ x → journal ≡ b ++ e ∷ y → (s1 s2 : SessionId) (n : NodeId) (k m1 m2 : ℕ)
      → d.event ≡ Event.Start s1 n → d.reply ≡ Reply.Done (Done.Started k m1) → e.event ≡ Event.Start s2 n → e.reply ≡ Reply.Done (Done.Started k m2) → IsBefore a d b → ⊥
  not-again a d x b e y here there s1 s2 n k m1 m2 first_event first_reply second_event second_reply before =
      let spent : IsSpent n k (after c b) = subst (λ (j : List Entry). IsSpent n k (after c j)) (sym before.1) (begun-stays c a d before.0 s1 n k m1 (says-at a d x here) first_event first_reply) in
      start-fresh c (after c b) e s2 n k m2 (says-at b e y there) second_event second_reply spent

-- two starts of a node that were answered with the same attempt are the same entry
pub once : (c : Configuration) (journal : List Entry) (t : State) → Runs c journal t
    → (a : List Entry) (d : Entry) (x : List Entry) (b : List Entry) (e : Entry) (y : List Entry) → journal ≡ a ++ d ∷ x → journal ≡ b ++ e ∷ y
    → (s1 s2 : SessionId) (n : NodeId) (k m1 m2 : ℕ) → d.event ≡ Event.Start s1 n → d.reply ≡ Reply.Done (Done.Started k m1) → e.event ≡ Event.Start s2 n → e.reply ≡ Reply.Done (Done.Started k m2)
    → a ≡ b
once c journal t runs a d x b e y here there s1 s2 n k m1 m2 first_event first_reply second_event second_reply = by (places a d x b e y (sym here ∙ there)) where
  by : Places a d b e → a ≡ b
  by (inl same) = same
  by (inr (inl before)) = absurd (not-again c journal t runs a d x b e y here there s1 s2 n k m1 m2 first_event first_reply second_event second_reply before)
  by (inr (inr before)) = absurd (not-again c journal t runs b e y a d x there here s2 s1 n k m2 m1 second_event second_reply first_event first_reply before)

-- an accepted report of an attempt does not come before the start that began it
pub report-later : (c : Configuration) (journal : List Entry) (t : State) → Runs c journal t
    → (a : List Entry) (d : Entry) (x : List Entry) (b : List Entry) (e : Entry) (y : List Entry) → journal ≡ a ++ d ∷ x → journal ≡ b ++ e ∷ y
    → (s1 s2 : SessionId) (n : NodeId) (k m : ℕ) (o : Outcome) → d.event ≡ Event.Start s1 n → d.reply ≡ Reply.Done (Done.Started k m) → e.event ≡ Event.Done s2 n k o → is_ok (judge c (after c b) e.event) ≡ true
    → length a < length b
report-later c journal t runs a d x b e y here there s1 s2 n k m o first_event first_reply reports accepted = by (places a d x b e y (sym here ∙ there)) where
  spent : IsSpent n k (after c b)
  spent = done-spends c (after c b) s2 n k o (holds-after c b).numbered (subst (λ (v : Event). is_ok (judge c (after c b) v) ≡ true) reports accepted)

  fresh : IsSpent n k (after c a) → ⊥
  fresh = start-fresh c (after c a) d s1 n k m (says-at c journal t runs a d x here) first_event first_reply

  by : Places a d b e → length a < length b
  by (inl same) = absurd (fresh (subst (λ (j : List Entry). IsSpent n k (after c j)) (sym same) spent))
  by (inr (inl before)) = subst (λ (j : List Entry). length a < length j) (sym before.1) (omega (arith, length-append a (d ∷ before.0)))
  by (inr (inr before)) =
      let later : IsSpent n k (after c (b ++ e ∷ before.0)) =
      subst (IsSpent n k) (sym (state_after-append c (start c) b (e ∷ before.0))) (given-over n (λ (node : NodeRecord). k ≤ node.attempts) (attempts-steady k) c (after c b) (e ∷ before.0) (holds-after c b) spent) in
      absurd (fresh (subst (λ (j : List Entry). IsSpent n k (after c j)) (sym before.1) later))

-- # a session keeps its role over a run, and what a useful event says of its role

-- ## a session keeps its role

-- the role of the session among these
abbrev role_among : SessionId → List SessionFacts → Option Role
role_among session rows = option_map (λ (f : SessionFacts). f.role) (facts_in session rows)

role-changed : (other : SessionId) (f : SessionFacts → SessionFacts) → ((x : SessionFacts) → (f x).role ≡ x.role) → (session : SessionId) (rows : List SessionFacts) → role_among session (change_session other f rows) ≡ role_among session rows
role-changed other f keeps session rows = by_bool (λ b. option_map (λ (x : SessionFacts). x.role) (cond b None (slice_get (change_session other f rows) (session.0 - 1))) ≡ option_map (λ (x : SessionFacts). x.role) (cond b None (slice_get rows (session.0 - 1)))) (session.0 == 0)
    (λ _. refl) (λ _. kept-change_at (λ (o : Option SessionFacts). option_map (λ x. x.role) o) (other.0 - 1) (session.0 - 1) f rows (λ x. ap (λ (role : Role). Some role) (keeps x)))

roles-settled : (change : SessionsChange) (session : SessionId) (rows : List SessionFacts) → role_among session (sessions_changed change rows) ≡ role_among session rows
roles-settled SessionsChange.Same session rows = refl
roles-settled (SessionsChange.Mute heard) session rows = role-changed heard muted (λ x. refl) session rows
roles-settled (SessionsChange.End over) session rows = role-changed over ended (λ x. refl) session rows

role-grown : (c : Configuration) (s : State) (ch : Changes) (session : SessionId) (role : Role) → role_of session s ≡ Some role → role_among session (grown c ch.maker ch.grows s).sessions ≡ Some role
role-grown c s ch session role is =
    let found = row-of (λ (f : SessionFacts). f.role) (session_of session s) role is in
    ap (λ (o : Option SessionFacts). option_map (λ (f : SessionFacts). f.role) o) (facts-grown c ch.maker ch.grows s session found.0 found.1)
    ∙ sym (ap (λ (o : Option SessionFacts). option_map (λ (f : SessionFacts). f.role) o) found.1)
    ∙ is

pub role-next : (c : Configuration) (s : State) (e : Event) (session : SessionId) (role : Role) → role_of session s ≡ Some role → role_of session (next c s e) ≡ Some role
role-next c s e session role is = if-accepted (λ t. role_of session t ≡ Some role) c s e is (λ ok.
    let ch : Changes = plan c s e in
    subst (λ (t : State). role_of session t ≡ Some role) (plan-next c s e ok) (roles-settled ch.sessions session (grown c ch.maker ch.grows s).sessions ∙ role-grown c s ch session role is))

-- over entries
pub role-over : (c : Configuration) (s : State) (more : List Entry) (session : SessionId) (role : Role) → role_of session s ≡ Some role → role_of session (state_after c s more) ≡ Some role
role-over c s [] session role is = is
role-over c s (entry ∷ more) session role is = role-over c (next c s entry.event) more session role (role-next c s entry.event session role is)

-- whatever follows in a run
pub role-stays : (c : Configuration) (journal more : List Entry) (session : SessionId) (role : Role) → role_of session (after c journal) ≡ Some role → role_of session (after c (journal ++ more)) ≡ Some role
role-stays c journal more session role is =
    subst (λ (s : State). role_of session s ≡ Some role) (sym (state_after-append c (start c) journal more)) (role-over c (after c journal) more session role is)

-- ## who makes a useful event

pub same_role-is : (a b : Role) → same_role a b ≡ true → a ≡ b
same_role-is a b is = grind (arith, nat_tests)

-- the current session of a role has the role
pub current-role : (role : Role) (session : SessionId) (s : State) → is_current role session s ≡ true → role_of session s ≡ Some role
current-role role session s x1 = grind (arith, nat_tests)

-- ## useful starts and reports

pub same_launcher : (a b : PoolId) → Launcher a ≡ Launcher b → a ≡ b
same_launcher a b same = cc

-- a start that is accepted is of a node of the maker's pool
pub start-of_pool : (s : State) (session : SessionId) (n : NodeId) (pool : PoolId) (what : Done) → judge_start s session n ≡ Ok what → role_of session s ≡ Some (Launcher pool) → (node : NodeRecord) × (node_in n s.nodes ≡ Some node) × (node.pool.0 ≡ pool.0)
start-of_pool s session n pool what ok is =
    let r = starting s session n what ok in
    let same : r.pool ≡ pool = same_launcher r.pool pool (same_Some (Launcher r.pool) (Launcher pool) (sym (launcher-role s session r.pool r.who) ∙ is)) in
    (r.node, r.stands, eqb-true r.node.pool.0 r.pool.0 r.of_pool ∙ ap (λ (x : PoolId). x.0) same)

-- a report is useful for launchers alone
pub useful-done : (c : Configuration) (s : State) (role : Role) (session : SessionId) (n : NodeId) (k : ℕ) (o : Outcome) → IsUseful c s role (Event.Done session n k o) → (pool : PoolId) × (role ≡ Launcher pool) × (role_of session s ≡ Some (Launcher pool))
useful-done c s (Launcher pool) session n k o useful = (pool, refl, current-role (Launcher pool) session s useful.maker)
useful-done c s _ session n k o useful = absurd (false≢true useful.row)

-- and so is a start
pub useful-start_role : (c : Configuration) (s : State) (role : Role) (session : SessionId) (n : NodeId) → IsUseful c s role (Event.Start session n) → (pool : PoolId) × (role ≡ Launcher pool)
useful-start_role c s (Launcher pool) session n useful = (pool, refl)
useful-start_role c s _ session n useful = absurd (false≢true useful.row)

-- ## what no role finds useful

pub useful-tickless : (c : Configuration) (s : State) (role : Role) → IsUseful c s role Event.Tick → ⊥
useful-tickless c s role x1 = grind (arith, nat_tests)

-- # of which pool a node is, and what a journal reports of a pool

-- an event reports nothing of a pool if each node that it reports on was never of it
pub quiet-report : (p : PoolId) (past : List Turn) (e : Event) → ((session : SessionId) (n : NodeId) (k : ℕ) (o : Outcome) → e ≡ Event.Done session n k o → was_node_of p n past ≡ false) → reported p past e ≡ []
quiet-report p past e x1 = grind (arith, nat_tests)

-- ## a node keeps its pool

pool-steady : (q : ℕ) → IsSteady (λ node. node.pool.0 ≡ q)
pool-steady q e old node comes was = comes.of_pool ∙ was

module _ (c : Configuration) where
  -- a node that exists later is of the same pool
  same-pool : (journal more : List Entry) (n : NodeId) (j k : NodeRecord) → node_in n (after c journal).nodes ≡ Some j → node_in n (after c (journal ++ more)).nodes ≡ Some k → k.pool.0 ≡ j.pool.0
  same-pool journal more n j k first then =
      (given-stays n (λ (node : NodeRecord). node.pool.0 ≡ j.pool.0) (pool-steady j.pool.0) c journal more (record {
        given = node_in-below n (after c journal).next_node j (after c journal).nodes (holds-after c journal).numbered.nodes_below first;
        holds = λ node is. ap (λ (x : NodeRecord). x.pool.0) (same_Some node j (sym is ∙ first));
      })).holds k then

  -- ## tests of turns

  any-from : (f : Turn → Bool) (s : State) (before : List Entry) (e : Entry) (rest : List Entry) → f (turn_of c (state_after c s before) e) ≡ true → list_any f (turns_from c s (before ++ e ∷ rest)) ≡ true
  any-from f s [] e rest is = or_left (f (turn_of c s e)) (list_any f (turns_from c (next c s e.event) rest)) is
  any-from f s (d ∷ before) e rest is = or_right (f (turn_of c s d)) (list_any f (turns_from c (next c s d.event) (before ++ e ∷ rest))) (any-from f (next c s d.event) before e rest is)

  none-of : (a b : Bool) → a ≡ false → b ≡ false → (a || b) ≡ false
  none-of a b first second = rw (first, second) refl

  none-from : (f : Turn → Bool) (s : State) (journal : List Entry) → ((before : List Entry) (e : Entry) (rest : List Entry) → journal ≡ before ++ e ∷ rest → f (turn_of c (state_after c s before) e) ≡ false) → list_any f (turns_from c s journal) ≡ false
  none-from f s [] h = refl
  none-from f s (d ∷ journal) h = none-of (f (turn_of c s d)) (list_any f (turns_from c (next c s d.event) journal)) (h [] d journal refl)
      (none-from f (next c s d.event) journal (λ before e rest is. h (d ∷ before) e rest (ap (λ (es : List Entry). d ∷ es) is)))

  -- ## of which pool a node was

  is-of : (p : PoolId) (n : NodeId) (s : State) (k : NodeRecord) → node_in n s.nodes ≡ Some k → k.pool.0 ≡ p.0 → is_node_of p n s ≡ true
  is-of p n s k stands own = ap (λ (o : Option NodeRecord). option_map_or (λ (x : NodeRecord). x.pool.0 == p.0) o false) stands ∙ eq-eqb k.pool.0 p.0 own

  none-is : (p : PoolId) (o : Option NodeRecord) → ((k : NodeRecord) → o ≡ Some k → k.pool.0 ≢ p.0) → option_map_or (λ (x : NodeRecord). x.pool.0 == p.0) o false ≡ false
  none-is p o other = grind (arith, nat_tests)

  pub was-of : (p : PoolId) (n : NodeId) (journal before : List Entry) (e : Entry) (rest : List Entry) (k : NodeRecord) → journal ≡ before ++ e ∷ rest → node_in n (after c before).nodes ≡ Some k → k.pool.0 ≡ p.0 → was_node_of p n (turns c journal) ≡ true
  was-of p n journal before e rest k is stands own = subst (λ (j : List Entry). was_node_of p n (turns c j) ≡ true) (sym is)
      (any-from (λ (t : Turn). is_node_of p n t.before) (start c) before e rest (is-of p n (after c before) k stands own))

  -- a node whose launch was begun for the pool was of it
  pub begun_of : (session : SessionId) (n : NodeId) (attempt first : ℕ) (p : PoolId) (ts : List Turn) → SomeTurn (BeginsLaunch session n attempt first p) ts → was_node_of p n ts ≡ true
  begun_of session n attempt first p [] begun = absurd begun
  begun_of session n attempt first p (t ∷ ts) begun = ⊎_elim
      (λ (here : BeginsLaunch session n attempt first p t). or_left (is_node_of p n t.before) (was_node_of p n ts) (is-of p n t.before here.node here.stood here.of_pool))
      (λ (later : SomeTurn (BeginsLaunch session n attempt first p) ts). or_right (is_node_of p n t.before) (was_node_of p n ts) (begun_of session n attempt first p ts later))
      begun

  prefix-within : (x b xr br : List Entry) → x ++ xr ≡ b ++ br → length x ≤ length b → (z : List Entry) × (b ≡ x ++ z)
  prefix-within [] b xr br is less = (b, refl)
  prefix-within (d ∷ x) [] xr br is less = absurd (omega arith)
  prefix-within (d ∷ x) (e ∷ b) xr br is less =
      let head : d ≡ e = cc in
      let tail : x ++ xr ≡ b ++ br = cc in
      let short : length x ≤ length b = omega arith in
      let z = prefix-within x b xr br tail short in
      (z.0, cc (head, z.1))

  -- a node of another pool was never of this one
  pub never-of : (p q : PoolId) (n : NodeId) (journal x : List Entry) (k : NodeRecord) → StartsWith journal x → node_in n (after c x).nodes ≡ Some k → k.pool.0 ≡ q.0 → q.0 ≢ p.0 → was_node_of p n (turns c journal) ≡ false
  never-of p q n journal x k starts stands own other =
      none-from (λ (t : Turn). is_node_of p n t.before) (start c) journal (λ b u more is.
      none-is p (node_in n (after c b).nodes) (λ j there same. other (sym (pools b u more j is there) ∙ same)))
    where
      pools : (b : List Entry) (u : Entry) (more : List Entry) (j : NodeRecord) → journal ≡ b ++ u ∷ more → node_in n (after c b).nodes ≡ Some j → j.pool.0 ≡ q.0
      pools b u more j is there = ⊎_elim
          (λ (less : length b < length x).
          let z = split-within b x more starts.0 u (sym is ∙ starts.1) less in
          sym (same-pool b (u ∷ z.0) n j k there (subst (λ (l : List Entry). node_in n (after c l).nodes ≡ Some k) z.1 stands)) ∙ own)
          (λ (more_or_same : length x ≤ length b).
          let z = prefix-within x b starts.0 (u ∷ more) (sym starts.1 ∙ is) more_or_same in
          same-pool x z.0 n k j stands (subst (λ (l : List Entry). node_in n (after c l).nodes ≡ Some j) z.1 there) ∙ own)
          (cases_lt (length b) (length x))

  -- ## reports

  reports-append : (p : PoolId) (past ts us : List Turn) → reports_from p past (ts ++ us) ≡ reports_from p past ts ++ reports_from p (past ++ ts) us
  reports-append p past [] us = ap (λ (l : List Turn). reports_from p l us) (sym (append-nil past))
  reports-append p past (t ∷ ts) us =
      ap (λ (l : List Outcome). reported p past t.entry.event ++ l) (reports-append p (past ++ t ∷ []) ts us ∙ ap (λ (l : List Turn). reports_from p (past ++ t ∷ []) ts ++ reports_from p l us) (append_assoc past (t ∷ []) ts))
      ∙ sym (append_assoc (reported p past t.entry.event) (reports_from p (past ++ t ∷ []) ts) (reports_from p (past ++ t ∷ ts) us))

  -- one entry more
  pub reports-next : (p : PoolId) (journal : List Entry) (e : Entry) → reports_of c p (journal ++ e ∷ []) ≡ reports_of c p journal ++ reported p (turns c journal) e.event
  reports-next p journal e =
      ap (reports_from p []) (turns-append c (start c) journal (e ∷ []))
      ∙ (reports-append p [] (turns c journal) (turn_after c journal e ∷ [])
      ∙ ap (λ (l : List Outcome). reports_of c p journal ++ l) (append-nil (reported p (turns c journal) e.event)))

  reported-few : (p : PoolId) (past : List Turn) (e : Event) → length (reported p past e) ≤ 1
  reported-few p past e = grind (arith, nat_tests)

  reports-few : (p : PoolId) (past : List Turn) (s : State) (journal : List Entry) → length (reports_from p past (turns_from c s journal)) ≤ length journal
  reports-few p past s [] = omega arith
  reports-few p past s (e ∷ journal) =
      omega (arith, length-append (reported p past e.event) (reports_from p (past ++ turn_of c s e ∷ []) (turns_from c (next c s e.event) journal)), reported-few p past e.event, reports-few p (past ++ turn_of c s e ∷ []) (next c s e.event) journal)

  pub few-reports : (p : PoolId) (journal : List Entry) → length (reports_of c p journal) ≤ length journal
  few-reports p journal = reports-few p [] (start c) journal
