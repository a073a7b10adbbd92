-- what is known of a pool's nodes after a journal, and what each turn of the pool's worker leaves of it
use Rattle.np_worker.proofs.Prelude.{AreAloneSound, ArePresent, Ask, Bool, Configuration, Contains, DistinctNumbers, Done, Entry, Event, FailAfter, Invariant, IsAskOf, IsCutOff, IsOfServer, IsReplied, IsServerOf, IsSoundAlone, IsUseful, Janitor, Launch, Launcher, List, MayAsk, NodeEntry, NodeId, NodeRecord, None, Ok, Option, Outcome, Phase, PoolId, Role, Server, SessionId, Some, Start, State, Turn, WasLaunchedFor, WereLaunched, acting, acts, after, after_entry, after_start, after_turn, all-push, answers, answers_sweep, ap, append-nil, append_assoc, arith, by_bool, cond, ended, eq-eqb, false, false≢true, inl, inr, is_deleting, is_ok, is_remove, is_wanted, judge_done, judge_start, launcher, launcher-role, length, length-append, looks, maker_of, nat_tests, next, next-keeps, node_in, none-some, number_in, numbers_in, of_pool, ok-is, owes_due, owes_launch, owes_report, owes_swept, recorded, refl, report_of, reported, reports_of, role_of, same_pool, start, start_made, start_of, subst, suc, sweeps, sym, true, turns, ℕ, [], ⊎_elim, ◌++◌, ◌+◌, ◌∙◌, ◌∷◌, ◌≡◌, ◌≤◌, ◌⊎◌}
use Rattle.np_worker.proofs.Records.{MayReport, current-role, holds-after, if-accepted, is_start, quiet-report, reports-next, state_after-append, useful-done, useful-start_role, was-of}
use Rattle.np_worker.proofs.Reports.{IsOfStart, IsPolite, IsReportedBy, KeptServer, NoLauncherWaits, chosen-start, done-landed, may-before, may-before_start, may-report, report-accepted, server-before}
use Rattle.np_worker.proofs.Journals.{SomePlace, numbers-append, outcomes, place-more, start-parts}
use Rattle.np_worker.proofs.Steps.{goes_on}

-- # what is known of a pool's nodes after a journal, and how one entry more changes it

-- ## reports that may be made next

-- the event is an accepted start, by the pool's launcher, of this attempt
pub record Begun (s : State) (e : Event) (p : PoolId) (session : SessionId) (n : NodeId) (k : ℕ) : Type 0 where
  pub event : e ≡ Event.Start session n
  pub first : ℕ
  pub ok : judge_start s session n ≡ Ok (Done.Started k first)
  pub who : launcher s session ≡ Ok p

module _ (c : Configuration) (s : State) (whole : Invariant c s) (waits : NoLauncherWaits s) (p : PoolId) (session : SessionId) (n : NodeId) (k : ℕ) where
  abbrev Was : Event → Type 0
  Was f = MayReport s p session n k ⊎ Begun s f p session n k

  of-start : (by : SessionId) (m : NodeId) (what : Done) (ok : judge_start s by m ≡ Ok what) → IsOfStart c s by m what ok p session n k → Begun s (Event.Start by m) p session n k
  of-start by m what ok is = grind (arith, nat_tests)

  -- a report that may be made after an event might be before, or the event began its launch
  pub may-next : (e : Event) → IsPolite s e → MayReport (next c s e) p session n k → Was e
  may-next (Event.Start by m) polite = if-accepted (λ t. MayReport t p session n k → Was (Event.Start by m)) c s (Event.Start by m) (λ may. inl may) (λ ok may.
      let was : (what : Done) × (judge_start s by m ≡ Ok what) = ok-is (judge_start s by m) ok in
      ⊎_elim (λ old. inl old) (λ new. inr (of-start by m was.0 was.1 new)) (may-before_start c s by m was.0 was.1 p session n k may))
  may-next e polite = λ may. inl (may-before c s e whole waits polite refl p session n k may)

-- ## one entry more

-- which reports may be made
abbrev pub Reportable : Type 1
Reportable = SessionId → NodeId → ℕ → Type 0

module _ (c : Configuration) (p : PoolId) (never : Type 0) where
  -- no other reports may be made; the servers of nodes were launched, and those that are up are
  -- there if no number was launched twice
  pub record At (X : Reportable) (journal : List Entry) (launches : List Launch) (servers : List Server) : Type 0 where
    pub idle : (session : SessionId) (n : NodeId) (k : ℕ) → MayReport (after c journal) p session n k → X session n k
    pub launched : WereLaunched p (after c journal) launches
    pub present : never → ArePresent p (after c journal) servers

  module _ (journal : List Entry) (e : Entry) where
    abbrev now : State
    now = after c journal

    pub after-next : after c (journal ++ e ∷ []) ≡ next c now e.event
    after-next = state_after-append c (start c) journal (e ∷ [])

    pub may-last : NoLauncherWaits now → IsPolite now e.event → (session : SessionId) (n : NodeId) (k : ℕ) → MayReport (after c (journal ++ e ∷ [])) p session n k → MayReport now p session n k ⊎ Begun now e.event p session n k
    may-last waits polite session n k may = may-next c now (holds-after c journal) waits p session n k e.event polite (subst (λ (t : State). MayReport t p session n k) after-next may)

    -- where a server of the pool comes from
    came : (n : NodeId) (k : NodeRecord) (x : ℕ) → node_in n (after c (journal ++ e ∷ [])).nodes ≡ Some k → k.server ≡ Some x → KeptServer now n k ⊎ IsReportedBy now e.event n k x
    came n k x is has = server-before c now e.event (holds-after c journal) n k x (subst (λ (t : State). node_in n t.nodes ≡ Some k) after-next is) has

    module _ (launches : List Launch) (servers : List Server) where
      -- an accepted report is of a server that was launched and is there
      abbrev pub Covers : Type 0
      Covers = (n : NodeId) (k : NodeRecord) (x : ℕ) → IsReportedBy now e.event n k x → k.pool.0 ≡ p.0 → WasLaunchedFor launches n x × (never → IsServerOf servers n x)

      pub at-step : (X Y : Reportable) → At X journal launches servers → NoLauncherWaits now → IsPolite now e.event
          → ((session : SessionId) (n : NodeId) (k : ℕ) → MayReport (after c (journal ++ e ∷ [])) p session n k → (MayReport now p session n k → X session n k) → Y session n k) → Covers → At Y (journal ++ e ∷ []) launches servers
      at-step X Y at waits polite idle covers = record {
        idle = λ session n k may. idle session n k may (at.idle session n k);
        launched = λ n k x is own has. ⊎_elim
            (λ (old : KeptServer now n k). at.launched n old.old x old.stood (sym old.of_pool ∙ own) (sym old.server ∙ has))
            (λ (new : IsReportedBy now e.event n k x). (covers n k x new own).0)
            (came n k x is has);
        present = λ none n k x is own up has. ⊎_elim
            (λ (old : KeptServer now n k). at.present none n old.old x old.stood (sym old.of_pool ∙ own) (old.up up) (sym old.server ∙ has))
            (λ (new : IsReportedBy now e.event n k x). (covers n k x new own).1 none)
            (came n k x is has);
      }

      -- the usual step: nothing was begun and nothing reported
      pub at-quiet : (X : Reportable) → At X journal launches servers → NoLauncherWaits now → IsPolite now e.event
          → ((session : SessionId) (n : NodeId) (k : ℕ) → Begun now e.event p session n k → ⊥) → ((n : NodeId) (k : NodeRecord) (x : ℕ) → IsReportedBy now e.event n k x → k.pool.0 ≡ p.0 → ⊥) → At X (journal ++ e ∷ []) launches servers
      at-quiet X at waits polite none silent = at-step X X at waits polite
          (λ session n k may old. ⊎_elim (λ was. old was) (λ new. absurd (none session n k new)) (may-last waits polite session n k may))
          (λ n k x new own. absurd (silent n k x new own))

  -- ## entries of others

  -- the entry reports nothing of the pool, and its launcher does not make it
  pub record IsForeign (journal : List Entry) (e : Entry) : Type 0 where
    pub quiet : reported p (turns c journal) e.event ≡ []
    pub maker : (session : SessionId) → maker_of e.event ≡ Some session → role_of session (after c journal) ≡ Some (Launcher p) → ⊥
    pub waits : NoLauncherWaits (after c journal)
    pub polite : IsPolite (after c journal) e.event

  pub at-foreign : (X : Reportable) (journal : List Entry) (e : Entry) (launches : List Launch) (servers : List Server) → At X journal launches servers → IsForeign journal e → At X (journal ++ e ∷ []) launches servers
  at-foreign X journal e launches servers at foreign = at-quiet journal e launches servers X at foreign.waits foreign.polite
      (λ session n k new. foreign.maker session (ap maker_of new.event) (launcher-role (after c journal) session p new.who))
      (λ n k x new own. foreign.maker new.by (ap maker_of new.event) (launcher-role (after c journal) new.by p (new.who ∙ ap (λ (q : PoolId). Ok q) (same_pool k.pool p (eq-eqb k.pool.0 p.0 own)))))

  pub reports-quiet : (journal : List Entry) (e : Entry) → reported p (turns c journal) e.event ≡ [] → reports_of c p (journal ++ e ∷ []) ≡ reports_of c p journal
  reports-quiet journal e quiet = reports-next c p journal e ∙ (ap (λ (l : List Outcome). reports_of c p journal ++ l) quiet ∙ append-nil (reports_of c p journal))

  -- each of these entries is another's, at its place
  abbrev pub AreForeign : List Entry → List Entry → Type 0
  AreForeign journal [] = Unit {0}
  AreForeign journal (e ∷ more) = IsForeign journal e × AreForeign (journal ++ e ∷ []) more

  pub at-gap : (X : Reportable) (journal more : List Entry) (launches : List Launch) (servers : List Server) → At X journal launches servers → AreForeign journal more → At X (journal ++ more) launches servers
  at-gap X journal [] launches servers at foreign = subst (λ (j : List Entry). At X j launches servers) (sym (append-nil journal)) at
  at-gap X journal (e ∷ more) launches servers at foreign = subst (λ (j : List Entry). At X j launches servers) (append_assoc journal (e ∷ []) more)
      (at-gap X (journal ++ e ∷ []) more launches servers (at-foreign X journal e launches servers at foreign.0) foreign.1)

  pub reports-gap : (journal more : List Entry) → AreForeign journal more → reports_of c p (journal ++ more) ≡ reports_of c p journal
  reports-gap journal [] foreign = ap (reports_of c p) (append-nil journal)
  reports-gap journal (e ∷ more) foreign = ap (reports_of c p) (sym (append_assoc journal (e ∷ []) more)) ∙ (reports-gap (journal ++ e ∷ []) more foreign.1 ∙ reports-quiet journal e foreign.0.quiet)

-- ## what is known of a pool's journal, nodes and driver in each phase of the round of its worker

-- a failure has this many launched servers before it
abbrev pub IsLate : ℕ → Outcome → ℕ → Type 0
IsLate room (Outcome.Launched x) n = Unit {0}
IsLate room Outcome.Failed n = room ≤ n

fail-push_from : (room n : ℕ) (os : List Outcome) (o : Outcome) → FailAfter room n os → IsLate room o (n + length (numbers_in os)) → FailAfter room n (os ++ o ∷ [])
fail-push_from room n [] (Outcome.Launched x) fails late = tt
fail-push_from room n [] Outcome.Failed fails late = (omega (arith, late), tt)
fail-push_from room n (Outcome.Launched x ∷ os) o fails late =
    let same : n + length (numbers_in (Outcome.Launched x ∷ os)) ≡ suc n + length (numbers_in os) = omega arith in
    fail-push_from room (suc n) os o fails (subst (IsLate room o) same late)
fail-push_from room n (Outcome.Failed ∷ os) o fails late = (fails.0, fail-push_from room n os o fails.1 late)

-- ## reports

abbrev pub nobody : Reportable
nobody session n k = ⊥

-- it is the report of this start
pub record IsReportOf (s : Start) (session : SessionId) (n : NodeId) (k : ℕ) : Type 0 where
  pub by : session ≡ s.session
  pub node : n ≡ s.tag.node
  pub attempt : k ≡ s.tag.attempt

-- ## phases

module _ (c : Configuration) (p : PoolId) (sound : List ℕ → Bool) (room earlier : ℕ) (final : List Launch) where
  -- none of the launches was answered with the number of another
  abbrev pub Never : Type 0
  Never = DistinctNumbers (numbers_in (outcomes final))

  -- the node was of the pool before
  abbrev pub WasStarted : List Entry → NodeId → Type 0
  WasStarted journal n = SomePlace c (start c) journal (λ t. (node : NodeRecord) × (node_in n t.before.nodes ≡ Some node) × (node.pool.0 ≡ p.0))

  -- what the journal reports is sound and late enough
  pub record Tells (journal : List Entry) : Type 0 where
    pub alone : AreAloneSound sound (reports_of c p journal)
    pub failed : earlier ≡ 0 → FailAfter room 0 (reports_of c p journal)

  -- these launches, of which one may be unreported, and these servers
  pub record Held (X : Reportable) (unreported uncounted : ℕ) (journal : List Entry) (launches : List Launch) (servers : List Server) : Type 0 where
    pub at : At c p Never X journal launches servers
    pub few : length launches ≤ earlier + (length (reports_of c p journal) + unreported)
    pub fits : length servers ≤ length (numbers_in (reports_of c p journal)) + uncounted
    pub made : (s : Server) → Contains servers s → Contains launches (record { tag = s.tag; outcome = Outcome.Launched s.number })
    pub among : (l : Launch) → Contains launches l → Contains final l

  abbrev pub Calm : List Entry → List Launch → List Server → Type 0
  Calm journal launches servers = Held nobody 0 0 journal launches servers

  -- the server that was launched, if one was, is there
  abbrev pub IsThere : Start → Outcome → List Server → Type 0
  IsThere s (Outcome.Launched x) servers = Contains servers (record { tag = s.tag; number = x })
  IsThere s Outcome.Failed servers = Unit {0}

  -- a launch was answered, and is not reported yet
  pub record Reporting (s : Start) (o : Outcome) (journal : List Entry) (launches : List Launch) (servers : List Server) : Type 0 where
    pub held : Held (IsReportOf s) 1 (length (number_in o)) journal launches servers
    pub started : WasStarted journal s.tag.node
    pub answered : Contains launches (record { tag = s.tag; outcome = o })
    pub there : IsThere s o servers
    pub alone : IsSoundAlone sound o
    pub late : earlier ≡ 0 → IsLate room o (length (numbers_in (reports_of c p journal)))

  -- a node of the pool that is deleted has the server
  pub record IsGoing (journal : List Entry) (x : ℕ) : Type 0 where
    pub number : NodeId
    pub node : NodeRecord
    pub stands : node_in number (after c journal).nodes ≡ Some node
    pub own : node.pool.0 ≡ p.0
    pub deleting : is_deleting node.state ≡ true
    pub server : node.server ≡ Some x

  -- nobody wants the server, which is there
  pub record IsLeft (journal : List Entry) (servers : List Server) (x : ℕ) : Type 0 where
    pub server : Server
    pub there : Contains servers server
    pub number : server.number ≡ x
    pub unwanted : is_wanted (after c journal) server.tag.node x ≡ false

  abbrev pub Rest : Phase → List Entry → List Launch → List Server → Type 0
  Rest (owes_launch pool m s) journal launches servers = Held (IsReportOf s) 0 0 journal launches servers × WasStarted journal s.tag.node
  Rest (owes_report pool m s o) journal launches servers = Reporting s o journal launches servers
  Rest (owes_due pool m x) journal launches servers = Calm journal launches servers × IsGoing journal x
  Rest (owes_swept pool x) journal launches servers = Calm journal launches servers × IsLeft journal servers x
  Rest ended journal launches servers = Unit {0}
  Rest _ journal launches servers = Calm journal launches servers

  pub record Stands (ph : Phase) (journal : List Entry) (launches : List Launch) (servers : List Server) : Type 0 where
    pub tells : Tells journal
    pub rest : Rest ph journal launches servers

  -- what is left of it when others go on
  abbrev pub Leaves : Phase → List Entry → List Launch → List Server → Type 0
  Leaves ph journal launches servers = (IsCutOff ph → ⊥) → Calm journal launches servers

  pub leaves-of : (ph : Phase) (journal : List Entry) (launches : List Launch) (servers : List Server) → Rest ph journal launches servers → Leaves ph journal launches servers
  leaves-of (owes_launch pool m s) journal launches servers rest uncut = absurd (uncut tt)
  leaves-of (owes_report pool m s o) journal launches servers rest uncut = absurd (uncut tt)
  leaves-of ended journal launches servers rest uncut = absurd (uncut tt)
  leaves-of (owes_due pool m x) journal launches servers rest uncut = rest.0
  leaves-of (owes_swept pool x) journal launches servers rest uncut = rest.0
  leaves-of _ journal launches servers rest uncut = rest

  -- ## where nothing more is reported

  module _ (journal later : List Entry) (same : reports_of c p later ≡ reports_of c p journal) where
    pub tells-same : Tells journal → Tells later
    tells-same tells = record {
      alone = subst (AreAloneSound sound) (sym same) tells.alone;
      failed = λ none. subst (FailAfter room 0) (sym same) (tells.failed none);
    }

    pub held-same : (X Y : Reportable) (a b : ℕ) (launches : List Launch) (servers : List Server) → Held X a b journal launches servers → At c p Never Y later launches servers → Held Y a b later launches servers
    held-same X Y a b launches servers held at = record {
      at = at;
      few = subst (λ (os : List Outcome). length launches ≤ earlier + (length os + a)) (sym same) held.few;
      fits = subst (λ (os : List Outcome). length servers ≤ length (numbers_in os) + b) (sym same) held.fits;
      made = held.made;
      among = held.among;
    }

  -- ## entries of others

  module _ (journal more : List Entry) (foreign : AreForeign c p Never journal more) where
    same-reports : reports_of c p (journal ++ more) ≡ reports_of c p journal
    same-reports = reports-gap c p Never journal more foreign

    pub tells-gap : Tells journal → Tells (journal ++ more)
    tells-gap = tells-same journal (journal ++ more) same-reports

    pub held-gap : (X : Reportable) (a b : ℕ) (launches : List Launch) (servers : List Server) → Held X a b journal launches servers → Held X a b (journal ++ more) launches servers
    held-gap X a b launches servers held = held-same journal (journal ++ more) same-reports X X a b launches servers held (at-gap c p Never X journal more launches servers held.at foreign)

    reporting-gap : (s : Start) (o : Outcome) (launches : List Launch) (servers : List Server) → Reporting s o journal launches servers → Reporting s o (journal ++ more) launches servers
    reporting-gap s o launches servers r = record {
      held = held-gap (IsReportOf s) 1 (length (number_in o)) launches servers r.held;
      started = place-more journal more r.started;
      answered = r.answered;
      there = r.there;
      alone = r.alone;
      late = λ none. subst (λ (os : List Outcome). IsLate room o (length (numbers_in os))) (sym same-reports) (r.late none);
    }

    -- before a turn
    pub rest-gap : (ph : Phase) (a : Ask) (launches : List Launch) (servers : List Server) → MayAsk ph a → Rest ph journal launches servers → Rest ph (journal ++ more) launches servers
    rest-gap (acts r m) a launches servers may rest = held-gap nobody 0 0 launches servers rest
    rest-gap (owes_report pool m s o) a launches servers may rest = reporting-gap s o launches servers rest
    rest-gap (looks pool m) a launches servers may rest = held-gap nobody 0 0 launches servers rest
    rest-gap (sweeps pool) a launches servers may rest = held-gap nobody 0 0 launches servers rest
    rest-gap _ a launches servers may rest = absurd may

    pub leaves-later : (ph : Phase) (launches : List Launch) (servers : List Server) → Leaves ph journal launches servers → Leaves ph (journal ++ more) launches servers
    leaves-later ph launches servers leaves uncut = held-gap nobody 0 0 launches servers (leaves uncut)

-- # the turns of a pool's worker: what each leaves of what is known

-- the roles of a pool's worker
abbrev pub IsOwn : PoolId → Role → Type 0
IsOwn p r = (r ≡ Launcher p) ⊎ (r ≡ Janitor p)

own-launcher : (p q : PoolId) (r : Role) → IsOwn p r → r ≡ Launcher q → q ≡ p
own-launcher p q r own is = ⊎_elim (λ (h : r ≡ Launcher p). cc) (λ (h : r ≡ Janitor p). absurd cc) own

module _ (c : Configuration) (p : PoolId) (sound : List ℕ → Bool) (room earlier : ℕ) (final : List Launch) (before : List Entry) (e : Entry) (waits : NoLauncherWaits (after c before)) (polite : IsPolite (after c before) e.event) (launches : List Launch) (servers : List Server) where
  abbrev s : State
  s = after c before

  abbrev never : Type 0
  never = Never c p sound room earlier final

  abbrev calm : List Entry → Type 0
  calm journal = Calm c p sound room earlier final journal launches servers

  -- ## an entry that begins and reports nothing

  module _ (r : Role) (own : IsOwn p r) (useful : IsUseful c s r e.event) (replied : IsReplied c before e) where
    -- no report would be accepted, so it is none
    no-done : calm before → (session : SessionId) (n : NodeId) (k : ℕ) (o : Outcome) → e.event ≡ Event.Done session n k o → ⊥
    no-done held session n k o is =
        let it : IsUseful c s r (Event.Done session n k o) = subst (IsUseful c s r) is useful in
        let who = useful-done c s r session n k o it in
        let pool : who.0 ≡ p = own-launcher p who.0 r own who.1 in
        let role : role_of session s ≡ Some (Launcher p) = who.2 ∙ ap (λ (q : PoolId). Some (Launcher q)) pool in
        held.at.idle session n k (may-report s p session n k it.accepted role)

    -- nothing is reported
    quiet-act : calm before → reports_of c p (before ++ e ∷ []) ≡ reports_of c p before
    quiet-act held = reports-quiet c p never before e (quiet-report p (turns c before) e.event (λ session n k o is. absurd (no-done held session n k o is)))

    pub tells-act : calm before → Tells c p sound room earlier final before → Tells c p sound room earlier final (before ++ e ∷ [])
    tells-act held = tells-same c p sound room earlier final before (before ++ e ∷ []) (quiet-act held)

    held-act : (Y : Reportable) → calm before → At c p never Y (before ++ e ∷ []) launches servers → Held c p sound room earlier final Y 0 0 (before ++ e ∷ []) launches servers
    held-act Y held = held-same c p sound room earlier final before (before ++ e ∷ []) (quiet-act held) nobody Y 0 0 launches servers held

    no-report : calm before → (n : NodeId) (k : NodeRecord) (x : ℕ) → IsReportedBy s e.event n k x → k.pool.0 ≡ p.0 → ⊥
    no-report held n k x new mine = no-done held new.by n new.attempt (Outcome.Launched x) new.event

    -- an accepted start has such a reply
    start-is : (session : SessionId) (n : NodeId) (k first : ℕ) → e.event ≡ Event.Start session n → judge_start s session n ≡ Ok (Done.Started k first) → start_of p e ≡ Some (record { session = session; tag = record { pool = p; node = n; attempt = k; start = first } })
    start-is session n k first x1 x2 = grind (arith, nat_tests)

    -- ### no start

    module _ (none : start_made (Ask.Act r) (Turn.Did e) ≡ None) where
      no-start : (session : SessionId) (n : NodeId) (k : ℕ) → Begun s e.event p session n k → ⊥
      no-start session n k new =
          let it : IsUseful c s r (Event.Start session n) = subst (IsUseful c s r) new.event useful in
          let who = useful-start_role c s r session n it in
          let pool : who.0 ≡ p = own-launcher p who.0 r own who.1 in
          let role : r ≡ Launcher p = who.1 ∙ ap Launcher pool in
          let none-here : start_of p e ≡ None = subst (λ (q : Role). start_made (Ask.Act q) (Turn.Did e) ≡ None) role none in
          none-some _ (sym none-here ∙ start-is session n k new.first new.event new.ok)

      pub calm-act : calm before → calm (before ++ e ∷ [])
      calm-act held = held-act nobody held
          (at-quiet c p never before e launches servers nobody held.at waits polite no-start (no-report held))

    -- ### a start

    module _ (st : Start) (is : start_of p e ≡ Some st) where
      abbrev Awaits : Reportable
      Awaits = IsReportOf st

      parts-event : e.event ≡ Event.Start st.session st.tag.node
      parts-event = (start-parts p e.event e.reply st is).event

      begun-is : (session : SessionId) (n : NodeId) (k : ℕ) → Begun s e.event p session n k → Awaits session n k
      begun-is session n k new =
          let same : Event.Start session n ≡ Event.Start st.session st.tag.node = sym new.event ∙ parts-event in
          let both : Some (record { session = session; tag = record { pool = p; node = n; attempt = k; start = new.first } }) ≡ Some st = sym (start-is session n k new.first new.event new.ok) ∙ is in
          let it : ◌≡◌ {A = Start} (record { session = session; tag = record { pool = p; node = n; attempt = k; start = new.first } }) st = cc in
          record { by = ap (λ (x : Start). x.session) it; node = ap (λ (x : Start). x.tag.node) it; attempt = ap (λ (x : Start). x.tag.attempt) it }

      pub held-start : r ≡ Launcher p → calm before → Held c p sound room earlier final Awaits 0 0 (before ++ e ∷ []) launches servers × WasStarted c p sound room earlier final (before ++ e ∷ []) st.tag.node
      held-start role held =
          let it : IsUseful c s (Launcher p) (Event.Start st.session st.tag.node) = subst (λ (q : Role). IsUseful c s q (Event.Start st.session st.tag.node)) role (subst (IsUseful c s r) parts-event useful) in
          let node = (chosen-start false c before p st.session st.tag.node (inl it)).1 in (
            held-act Awaits held
                (at-step c p never before e launches servers nobody Awaits held.at waits polite
                (λ session n k may old. ⊎_elim (λ was. absurd (old was)) (λ new. begun-is session n k new) (may-last c p never before e waits polite session n k may))
                (λ n k x new mine. absurd (no-report held n k x new mine))),
            record { before = before; entry = e; rest = []; stands = refl; holds = node },
          )

  -- ## the report of a launch

  module _ (st : Start) (o : Outcome) (is : e.event ≡ report_of st o) (r : Reporting c p sound room earlier final st o before launches servers) where
    told-once : reported p (turns c before) e.event ≡ o ∷ []
    told-once = ap (reported p (turns c before)) is ∙ ap (λ (b : Bool). cond b (o ∷ []) [])
        (was-of c p st.tag.node before r.started.before r.started.entry r.started.rest r.started.holds.0 r.started.stands r.started.holds.1 r.started.holds.2)

    reports-are : reports_of c p (before ++ e ∷ []) ≡ reports_of c p before ++ o ∷ []
    reports-are = reports-next c p before e ∙ ap (λ (l : List Outcome). reports_of c p before ++ l) told-once

    -- it is not acceptable any more, and no other was
    done-idle : (session : SessionId) (n : NodeId) (k : ℕ) → MayReport (after c (before ++ e ∷ [])) p session n k → ⊥
    done-idle session n k may = by_bool (λ _. ⊥) (is_ok (judge_done s st.session st.tag.node st.tag.attempt))
        (λ ok. false≢true (sym (done-landed c s st.session st.tag.node st.tag.attempt o ok n now.node (subst (λ (f : Event). node_in n (next c s f).nodes ≡ Some now.node) is now.stands) now.flies) ∙ eq-eqb st.tag.node.0 n.0 (ap (λ (m : NodeId). m.0) (sym report.node))))
        (λ out. let accepted : is_ok (judge_done s session n k) ≡ true = report-accepted s p session n k was in cc (accepted, out, report.by, report.node, report.attempt))
      where
        now : MayReport (next c s e.event) p session n k
        now = subst (λ (t : State). MayReport t p session n k) (after-next c p never before e) may

        was : MayReport s p session n k
        was = may-before c s e.event (holds-after c before) waits polite (ap is_start is) p session n k now

        report : IsReportOf st session n k
        report = r.held.at.idle session n k was

    covers : (n : NodeId) (k : NodeRecord) (x : ℕ) → IsReportedBy s e.event n k x → k.pool.0 ≡ p.0 → WasLaunchedFor launches n x × (never → IsServerOf servers n x)
    covers n k x new mine =
        let same : Event.Done st.session st.tag.node st.tag.attempt o ≡ Event.Done new.by n new.attempt (Outcome.Launched x) = sym is ∙ new.event in
        let node : st.tag.node ≡ n = cc in
        let launched : o ≡ Outcome.Launched x = cc in (
          record { tag = st.tag; node = node; answered = subst (λ (q : Outcome). Contains launches (record { tag = st.tag; outcome = q })) launched r.answered },
          λ none. record {
            server = record { tag = st.tag; number = x };
            there = subst (λ (q : Outcome). IsThere c p sound room earlier final st q servers) launched r.there;
            node = node;
            number = refl;
          },
        )

    pub calm-report : calm (before ++ e ∷ [])
    calm-report = record {
      at = at-step c p never before e launches servers (IsReportOf st) nobody r.held.at waits polite (λ session n k may old. done-idle session n k may) covers;
      few = subst (λ (os : List Outcome). length launches ≤ earlier + (length os + 0)) (sym reports-are) (omega (arith, r.held.few, length-append (reports_of c p before) (o ∷ [])));
      fits = subst (λ (os : List Outcome). length servers ≤ length (numbers_in os) + 0) (sym reports-are)
          (omega (arith, r.held.fits, ap length (numbers-append (reports_of c p before) (o ∷ []) ∙ ap (λ (l : List ℕ). numbers_in (reports_of c p before) ++ l) (append-nil (number_in o))), length-append (numbers_in (reports_of c p before)) (number_in o)));
      made = r.held.made;
      among = r.held.among;
    }

    pub tells-report : Tells c p sound room earlier final before → Tells c p sound room earlier final (before ++ e ∷ [])
    tells-report tells = record {
      alone = subst (AreAloneSound sound) (sym reports-are) (all-push (IsSoundAlone sound) (reports_of c p before) o tells.alone r.alone);
      failed = λ none. subst (FailAfter room 0) (sym reports-are) (let same : length (numbers_in (reports_of c p before)) ≡ 0 + length (numbers_in (reports_of c p before)) = omega arith in fail-push_from room 0 (reports_of c p before) o (tells.failed none) (subst (IsLate room o) same (r.late none)));
    }

-- ## each turn of a pool's worker, by the phase that it leads to

-- what is seen after a turn
abbrev pub Sees : Option Entry → List Entry → List Entry → Type 0
Sees None before seen = seen ≡ before
Sees (Some e) before seen = seen ≡ before ++ e ∷ []

-- if the turn made an entry, no launcher waits behind a holder, and the entry makes none wait
pub record IsReady (c : Configuration) (before : List Entry) (e : Entry) : Type 0 where
  pub waits : NoLauncherWaits (after c before)
  pub polite : IsPolite (after c before) e.event

module _ (c : Configuration) (p : PoolId) (sound : List ℕ → Bool) (room earlier : ℕ) (final : List Launch) (launches : List Launch) (servers : List Server) where
  abbrev At' : Phase → List Entry → Type 0
  At' ph journal = Stands c p sound room earlier final ph journal launches servers

  abbrev calm-at : List Entry → Type 0
  calm-at journal = Calm c p sound room earlier final journal launches servers

  abbrev tells : List Entry → Type 0
  tells journal = Tells c p sound room earlier final journal

  -- what stands before a turn stands after it, in the phase that it leads to
  abbrev pub Turned : Phase → Turn → Ask → Type 0
  Turned ph t a = (before seen : List Entry) → IsAskOf (of_pool p) a → IsOfServer a servers → answers c before a t → Sees (recorded a t) before seen → ((e : Entry) → t ≡ Turn.Did e → IsReady c before e) → At' ph before → At' (after_turn ph a t) seen

  here : (ph : Phase) (before seen : List Entry) → seen ≡ before → At' ph before → At' ph seen
  here ph before seen same stands = subst (λ (j : List Entry). At' ph j) (sym same) stands

  -- the journal has no room
  ends : (ph : Phase) (before seen : List Entry) → seen ≡ before → At' ph before → At' ended seen
  ends ph before seen same stands = here ended before seen same (record { tells = stands.tells; rest = tt })

  goes : (r : Role) (m : ℕ) (journal : List Entry) → tells journal → calm-at journal → At' (acting r m) journal
  goes r m journal told held = record { tells = told; rest = goes_on (λ ph. Rest c p sound room earlier final ph journal launches servers) (λ q k. held) (λ pool k. held) (λ pool. held) held r m }

  -- ## turns in which a role acts

  module _ (before : List Entry) (e : Entry) (ready : IsReady c before e) where
    acted : (r : Role) (m : ℕ) → start_made (Ask.Act r) (Turn.Did e) ≡ None → IsOwn p r → IsUseful c (after c before) r e.event × IsReplied c before e → At' (acts r m) before → At' (acting r m) (before ++ e ∷ [])
    acted r m none own answer stands = goes r m (before ++ e ∷ [])
        (tells-act c p sound room earlier final before e ready.waits ready.polite launches servers r own answer.0 answer.1 stands.rest stands.tells)
        (calm-act c p sound room earlier final before e ready.waits ready.polite launches servers r own answer.0 answer.1 none stands.rest)

    started : (pool : PoolId) (m : ℕ) (o : Option Start) → start_of pool e ≡ o → IsOwn p (Launcher pool) → IsUseful c (after c before) (Launcher pool) e.event × IsReplied c before e → At' (acts (Launcher pool) m) before → At' (after_start pool m o) (before ++ e ∷ [])
    started pool m None is own answer stands = acted (Launcher pool) m is own answer stands
    started pool m (Some s) is own answer stands =
        let same : pool ≡ p = own-launcher p pool (Launcher pool) own refl in
        let mine : start_of p e ≡ Some s = ap (λ (q : PoolId). start_of q e) (sym same) ∙ is in
        record {
          tells = tells-act c p sound room earlier final before e ready.waits ready.polite launches servers (Launcher pool) own answer.0 answer.1 stands.rest stands.tells;
          rest = held-start c p sound room earlier final before e ready.waits ready.polite launches servers (Launcher pool) own answer.0 answer.1 s mine (ap Launcher same) stands.rest;
        }

    entered : (r : Role) (m : ℕ) → IsOwn p r → IsUseful c (after c before) r e.event × IsReplied c before e → At' (acts r m) before → At' (after_entry r m e) (before ++ e ∷ [])
    entered (Launcher pool) m own answer stands = started pool m (start_of pool e) refl own answer stands
    entered r m own answer stands = acted r m refl own answer stands

  act-turn : (r : Role) (m : ℕ) (t : Turn) → Turned (acts r m) t (Ask.Act r)
  act-turn r m (Turn.Did e) before seen own of answer sees ready stands = subst (λ (j : List Entry). At' (after_entry r m e) j) (sym sees) (entered before e (ready e refl) r m own answer stands)
  act-turn r m Turn.Full before seen own of answer sees ready stands = ends (acts r m) before seen sees stands
  act-turn r m Turn.Idle before seen own of answer sees ready stands = here (acting r 0) before seen sees (goes r 0 before stands.tells stands.rest)
  act-turn r m _ before seen own of answer sees ready stands = absurd answer

  -- ## reports

  report-turn : (pool : PoolId) (m : ℕ) (s : Start) (o : Outcome) (t : Turn) → Turned (owes_report pool m s o) t (Ask.Do (report_of s o))
  report-turn pool m s o (Turn.Did e) before seen own of answer sees ready stands =
      let it = ready e refl in
      subst (λ (j : List Entry). At' (acting (Launcher pool) m) j) (sym sees)
      (goes (Launcher pool) m (before ++ e ∷ [])
      (tells-report c p sound room earlier final before e it.waits it.polite launches servers s o answer.0 stands.rest stands.tells)
      (calm-report c p sound room earlier final before e it.waits it.polite launches servers s o answer.0 stands.rest))
  report-turn pool m s o Turn.Full before seen own of answer sees ready stands = ends (owes_report pool m s o) before seen sees stands
  report-turn pool m s o _ before seen own of answer sees ready stands = absurd answer

  -- ## due nodes

  look-turn : (pool : PoolId) (m : ℕ) (t : Turn) → Turned (looks pool m) t (Ask.Due pool)
  look-turn pool m (Turn.DueNode n (Some x)) before seen own of answer sees ready stands = here (owes_due pool m x) before seen sees (record {
    tells = stands.tells;
    rest = (stands.rest, record { number = n; node = answer.node; stands = answer.stands; own = answer.of_pool ∙ ap (λ (q : PoolId). q.0) own; deleting = answer.deleting; server = answer.server });
  })
  look-turn pool m (Turn.DueNode n None) before seen own of answer sees ready stands = here (acts (Janitor pool) m) before seen sees (record { tells = stands.tells; rest = stands.rest })
  look-turn pool m Turn.Idle before seen own of answer sees ready stands = here (acts (Janitor pool) m) before seen sees (record { tells = stands.tells; rest = stands.rest })
  look-turn pool m _ before seen own of answer sees ready stands = absurd answer

  -- ## sweeps

  -- the sweep of a janitor is as another's entry
  sweep-foreign : (before : List Entry) (e : Entry) (pool : PoolId) (n : NodeId) (x : ℕ) → answers_sweep c before pool n x (Turn.Did e) → IsReady c before e → IsForeign c p (Never c p sound room earlier final) before e
  sweep-foreign before e pool n x answer ready = record {
    quiet = ap (reported p (turns c before)) answer.2.event;
    maker = λ session makes role.
        let same : Some answer.2.session ≡ Some session = ap maker_of (sym answer.2.event) ∙ makes in
        let one : answer.2.session ≡ session = cc in
        let janitor : role_of session (after c before) ≡ Some (Janitor pool) = subst (λ (y : SessionId). role_of y (after c before) ≡ Some (Janitor pool)) one (current-role (Janitor pool) answer.2.session (after c before) answer.2.current) in
        let both : Some (Janitor pool) ≡ Some (Launcher p) = sym janitor ∙ role in
        cc;
    waits = ready.waits;
    polite = ready.polite;
  }

  swept-stands : (pool : PoolId) (before : List Entry) (e : Entry) (n : NodeId) (x : ℕ) → answers_sweep c before pool n x (Turn.Did e) → IsReady c before e → At' (sweeps pool) before → tells (before ++ e ∷ []) × calm-at (before ++ e ∷ [])
  swept-stands pool before e n x answer ready stands =
      let foreign = sweep-foreign before e pool n x answer ready in (
        tells-gap c p sound room earlier final before (e ∷ []) (foreign, tt) stands.tells,
        held-gap c p sound room earlier final before (e ∷ []) (foreign, tt) nobody 0 0 launches servers stands.rest,
      )

  -- a sweep changes no node
  still-unwanted : (pool : PoolId) (before : List Entry) (e : Entry) (n : NodeId) (x : ℕ) → answers_sweep c before pool n x (Turn.Did e) → is_wanted (after c (before ++ e ∷ [])) n x ≡ false
  still-unwanted pool before e n x answer =
      subst (λ (s : State). is_wanted s n x ≡ false) (sym (after-next c p (Never c p sound room earlier final) before e))
      (subst (λ (f : Event). is_wanted (next c (after c before) f) n x ≡ false) (sym answer.2.event)
      (ap (λ (rows : List NodeEntry). wanted_in rows) (next-keeps (λ t. t.nodes ≡ (after c before).nodes) c (after c before) (Event.Sweep answer.2.session n x) refl (λ what _. refl)) ∙ answer.0.unwanted))
    where
      wanted_in : List NodeEntry → Bool
      wanted_in rows = is_wanted (record (after c before) { nodes = rows }) n x

  left-server : (journal : List Entry) (n : NodeId) (x : ℕ) → (server : Server) × Contains servers server × (server.tag.node ≡ n) × (server.number ≡ x) → is_wanted (after c journal) n x ≡ false → IsLeft c p sound room earlier final journal servers x
  left-server journal n x there unwanted = record {
    server = there.0;
    there = there.1;
    number = there.3;
    unwanted = subst (λ (m : NodeId). is_wanted (after c journal) m x ≡ false) (sym there.2) unwanted;
  }

  sweep-turn : (pool : PoolId) (n : NodeId) (x : ℕ) (t : Turn) → Turned (sweeps pool) t (Ask.Sweep pool n x)
  sweep-turn pool n x (Turn.Did e) before seen own of answer sees ready stands =
      let it = swept-stands pool before e n x answer (ready e refl) stands in
      subst (λ (j : List Entry). At' (cond (is_remove e.reply) (owes_swept pool x) (sweeps pool)) j) (sym sees)
      (by_bool (λ b. At' (cond b (owes_swept pool x) (sweeps pool)) (before ++ e ∷ [])) (is_remove e.reply)
      (λ _. record { tells = it.0; rest = (it.1, left-server (before ++ e ∷ []) n x of (still-unwanted pool before e n x answer)) })
      (λ _. record { tells = it.0; rest = it.1 }))
  sweep-turn pool n x Turn.Swept before seen own of answer sees ready stands = here (owes_swept pool x) before seen sees (record { tells = stands.tells; rest = (stands.rest, left-server before n x of answer.0.unwanted) })
  sweep-turn pool n x Turn.Idle before seen own of answer sees ready stands = here (sweeps pool) before seen sees stands
  sweep-turn pool n x Turn.Full before seen own of answer sees ready stands = ends (sweeps pool) before seen sees stands
  sweep-turn pool n x _ before seen own of answer sees ready stands = absurd answer

  pub turn-stands : (ph : Phase) (a : Ask) (t : Turn) → MayAsk ph a → Turned ph t a
  turn-stands (acts r m) a t may = subst (Turned (acts r m) t) (sym may) (act-turn r m t)
  turn-stands (owes_report pool m s o) a t may = subst (Turned (owes_report pool m s o) t) (sym may) (report-turn pool m s o t)
  turn-stands (looks pool m) a t may = subst (Turned (looks pool m) t) (sym may) (look-turn pool m t)
  turn-stands (sweeps pool) a t may = subst (Turned (sweeps pool) t) (sym may.2) (sweep-turn pool may.0 may.1 t)
  turn-stands _ a t may = absurd may
