-- journals that are driven, place by place: what their entries and replies say, and the numbers of servers in them
use Rattle.np_worker.proofs.Prelude.{WasOfUse, All, All-contains, All-from_recursion, All-nil, All-push, All-weaker, AllByRecursion, AreNamed, AreNumbered, ArePlanned, Ask, Bool, Configuration, Contains, DistinctNumbers, Done, Driven, DrivenAs, DrivenBy, DrivenFrom, Driving, EachAfter, EachAfter-push, EachAfter-weaker, EachTurn, Entry, Event, HaveDrivenAs, IfSome, IsAskOf, IsDrivenTurn, IsPlannedTurn, IsReplied, IsReportOfLaunch, IsServerOf, IsTrue, IsTurnAs, Launch, List, NamesServer, NodeEntry, NodeId, NodeRecord, None, Option, Outcome, PlannedBy, PlannedDriven, Player, PoolId, Reply, Rises, Role, Runs, Runs-next, Runs-prefix, Says, Server, SessionId, Some, SomeTurn, Start, StartsWith, State, Tag, WasAnswered, WasLaunchedFor, WasNamed, Work, after, and_from, and_parts, ap, append-nil, append_assoc, arith, as_planned, bytes_eq-Decides, cond, drivings_of, drop, drop-there, eq-eqb, eqb-true, equal-numbers, false, false_from_ne_true, false≢true, has_replies, head-reply, inl, inr, is-at_most, is_legal, is_node, is_number, is_ok, is_report_of, is_same_reply, is_session, is_tick, is_up, judge, launch_of, length, length-append, listed, map, nat_le, nat_lt, nat_tests, next, node_in, number_in, numbers_in, numbers_of, of_pool, or_left, or_right, outcome_of, refl, replayed, replied-at, reply_numbers, reply_of, report_of, server_up, servers_up, session-equal, slice_get, start, start_in, state_after, subst, suc, sym, tail-replies, take, true, turns, turns_from, with_launched, zero, ℕ, [], ⊎_elim, ◌&&◌, ◌++◌, ◌+◌, ◌==◌, ◌∙◌, ◌∷◌, ◌≡◌, ◌≤◌, ◌⊎◌}
use Rattle.np_changes.specs.Prelude.{Turn}
use Rattle.std.proofs.lemmas.List.{take-append-drop}
use Rattle.np_worker.proofs.Walks.{member-cases, no-member}

-- # journals that are driven, place by place

-- the turn of an entry in a state, and after a journal
abbrev pub turn_of : Configuration → State → Entry → Turn
turn_of c s e = record { before = s; entry = e; later = next c s e.event }

abbrev pub turn_after : Configuration → List Entry → Entry → Turn
turn_after c journal e = turn_of c (after c journal) e

-- what holds of the turn of some entry of the journal
pub record SomePlace (c : Configuration) (s : State) (journal : List Entry) (P : Turn → Type 0) : Type 0 where
  pub before : List Entry
  pub entry : Entry
  pub rest : List Entry
  pub stands : journal ≡ before ++ entry ∷ rest
  pub holds : P (turn_of c (state_after c s before) entry)

-- that entry is one of a longer journal too
pub place-more : {c : Configuration} {s : State} {P : Turn → Type 0} (journal more : List Entry) → SomePlace c s journal P → SomePlace c s (journal ++ more) P
place-more journal more h = record {
  before = h.before;
  entry = h.entry;
  rest = h.rest ++ more;
  stands = ap (λ (j : List Entry). j ++ more) h.stands ∙ append_assoc h.before (h.entry ∷ h.rest) more;
  holds = h.holds;
}

module _ (c : Configuration) where
  -- ## turns of parts

  pub turns-append : (s : State) (journal more : List Entry) → turns_from c s (journal ++ more) ≡ turns_from c s journal ++ turns_from c (state_after c s journal) more
  turns-append s [] more = refl
  turns-append s (d ∷ journal) more = ap (λ (ts : List Turn). turn_of c s d ∷ ts) (turns-append (next c s d.event) journal more)

  module _ (P : Turn → Type 0) where
    pub some-left : (ts us : List Turn) → SomeTurn P ts → SomeTurn P (ts ++ us)
    some-left [] us h = absurd h
    some-left (t ∷ ts) us h = ⊎_elim (λ (p : P t). inl p) (λ (q : SomeTurn P ts). inr (some-left ts us q)) h

    pub some-from : (s : State) (before : List Entry) (e : Entry) (rest : List Entry) → P (turn_of c (state_after c s before) e) → SomeTurn P (turns_from c s (before ++ e ∷ rest))
    some-from s [] e rest h = inl h
    some-from s (d ∷ before) e rest h = inr (some-from (next c s d.event) before e rest h)

    pub some-place : (s : State) (journal : List Entry) → SomeTurn P (turns_from c s journal) → SomePlace c s journal P
    some-place s [] h = absurd h
    some-place s (d ∷ journal) h = ⊎_elim
        (λ (p : P (turn_of c s d)). record { before = []; entry = d; rest = journal; stands = refl; holds = p })
        (λ (q : SomeTurn P (turns_from c (next c s d.event) journal)). let found = some-place (next c s d.event) journal q in
        record { before = d ∷ found.before; entry = found.entry; rest = found.rest; stands = ap (λ (es : List Entry). d ∷ es) found.stands; holds = found.holds })
        h

    pub each-from : (s : State) (journal : List Entry) → ((before : List Entry) (e : Entry) (rest : List Entry) → journal ≡ before ++ e ∷ rest → P (turn_of c (state_after c s before) e)) → EachTurn P (turns_from c s journal)
    each-from s [] h = tt
    each-from s (d ∷ journal) h =
        (h [] d journal refl, each-from (next c s d.event) journal (λ before e rest is. h (d ∷ before) e rest (ap (λ (es : List Entry). d ∷ es) is)))

  -- ## driven at each place

  module _ (test : List Turn → Turn → Type 0) where
    part-passes : (past : List Turn) (s : State) (before : List Entry) (e : Entry) (rest : List Entry) → EachAfter test past (turns_from c s (before ++ e ∷ rest)) → test (past ++ turns_from c s before) (turn_of c (state_after c s before) e)
    part-passes past s [] e rest h = subst (λ (p : List Turn). test p (turn_of c s e)) (sym (append-nil past)) h.0
    part-passes past s (d ∷ before) e rest h =
        subst (λ (p : List Turn). test p (turn_of c (state_after c (next c s d.event) before) e)) (append_assoc past (turn_of c s d ∷ []) (turns_from c (next c s d.event) before))
        (part-passes (past ++ turn_of c s d ∷ []) (next c s d.event) before e rest h.1)

    pub each-passes : (past : List Turn) (s : State) (journal : List Entry)
        → ((before : List Entry) (e : Entry) (rest : List Entry) → journal ≡ before ++ e ∷ rest → test (past ++ turns_from c s before) (turn_of c (state_after c s before) e))
        → EachAfter test past (turns_from c s journal)
    each-passes past s [] h = tt
    each-passes past s (d ∷ journal) h = (
      subst (λ (p : List Turn). test p (turn_of c s d)) (append-nil past) (h [] d journal refl),
      each-passes (past ++ turn_of c s d ∷ []) (next c s d.event) journal
          (λ before e rest is. subst (λ (p : List Turn). test p (turn_of c (state_after c (next c s d.event) before) e)) (sym (append_assoc past (turn_of c s d ∷ []) (turns_from c (next c s d.event) before)))
          (h (d ∷ before) e rest (ap (λ (es : List Entry). d ∷ es) is))),
    )

  module _ (says : Says) where
    driven-each : (past ts : List Turn) → DrivenFrom says c past ts → EachAfter (IsDrivenTurn says c) past ts
    driven-each past [] h = tt
    driven-each past (t ∷ ts) h = (h.0, driven-each (past ++ t ∷ []) ts h.1)

    each-driven : (past ts : List Turn) → EachAfter (IsDrivenTurn says c) past ts → DrivenFrom says c past ts
    each-driven past [] h = tt
    each-driven past (t ∷ ts) h = (h.0, each-driven (past ++ t ∷ []) ts h.1)

    pub as-each : (plans : Bool) (journal : List Entry) → DrivenAs says plans c journal → EachAfter (IsTurnAs says plans c) [] (turns c journal)
    as-each false journal h = driven-each [] (turns c journal) h
    as-each true journal h = h

    pub each-as : (plans : Bool) (journal : List Entry) → EachAfter (IsTurnAs says plans c) [] (turns c journal) → DrivenAs says plans c journal
    each-as false journal h = each-driven [] (turns c journal) h
    each-as true journal h = h

    pub driven-at : (plans : Bool) (journal before : List Entry) (e : Entry) (rest : List Entry) → DrivenAs says plans c journal → journal ≡ before ++ e ∷ rest → IsTurnAs says plans c (turns c before) (turn_after c before e)
    driven-at plans journal before e rest h is = part-passes (IsTurnAs says plans c) [] (start c) before e rest (as-each plans (before ++ e ∷ rest) (subst (λ (j : List Entry). DrivenAs says plans c j) is h))

    -- what passes the stricter test passes
    pub turn-as : (plans : Bool) (past : List Turn) (t : Turn) → IsDrivenTurn says c past t → IsTurnAs says plans c past t
    turn-as false past t h = h
    turn-as true past t h = inl h

  -- a report was accepted, or it is that of a launch
  module _ (says : Says) (past : List Turn) (t : Turn) (session : SessionId) (n : NodeId) (k : ℕ) (o : Outcome) (event : t.entry.event ≡ Event.Done session n k o) where
    done-driven : IsDrivenTurn says c past t → (is_ok (judge c t.before t.entry.event) ≡ true) ⊎ IsReportOfLaunch says past t
    done-driven (inl u) = inl u.useful.accepted
    done-driven (inr (inl u)) = absurd (cc (u.event, event))
    done-driven (inr (inr (inl u))) = absurd (cc (u.event, event))
    done-driven (inr (inr (inr r))) = inr r

    pub done-turn : (plans : Bool) → IsTurnAs says plans c past t → (is_ok (judge c t.before t.entry.event) ≡ true) ⊎ IsReportOfLaunch says past t
    done-turn false h = done-driven h
    done-turn true h = ⊎_elim done-driven (λ (was : WasOfUse c past t). inl was.accepted) h

  -- ## by more answers

  module _ (says more : Says) (told : (pool : PoolId) (n : NodeId) (attempt first : ℕ) (o : Outcome) → says pool n attempt first o → more pool n attempt first o) where
    report-more : (past : List Turn) (t : Turn) → IsReportOfLaunch says past t → IsReportOfLaunch more past t
    report-more past t r = record {
      session = r.session;
      number = r.number;
      attempt = r.attempt;
      outcome = r.outcome;
      event = r.event;
      start = r.start;
      pool = r.pool;
      begun = r.begun;
      first = r.first;
      answered = told r.pool r.number r.attempt r.start r.outcome r.answered;
    }

    pub turn-more : (past : List Turn) (t : Turn) → IsDrivenTurn says c past t → IsDrivenTurn more c past t
    turn-more past t h = ⊎_elim (λ u. inl u) (λ g. inr (⊎_elim (λ u. inl u) (λ f. inr (⊎_elim (λ u. inl u) (λ r. inr (report-more past t r)) f)) g)) h

    pub turn-more_as : (plans : Bool) (past : List Turn) (t : Turn) → IsTurnAs says plans c past t → IsTurnAs more plans c past t
    turn-more_as false past t h = turn-more past t h
    turn-more_as true past t h = ⊎_elim (λ u. inl (turn-more past t u)) (λ was. inr was) h

    pub driven-more : (past ts : List Turn) → DrivenFrom says c past ts → DrivenFrom more c past ts
    driven-more past ts h = each-driven more past ts (EachAfter-weaker (IsDrivenTurn says c) (IsDrivenTurn more c) turn-more past ts (driven-each says past ts h))

-- # drivers that answer as the configuration plans

module _ (c : Configuration) where
  planned-at : (drivings : List Driving) (n k : ℕ) (d : Driving) → ArePlanned c n (map (λ (d : Driving). d.plan) drivings) → slice_get drivings k ≡ Some d → (tag : Tag) → tag.pool.0 ≡ n + k → d.plan tag ≡ Some (outcome_of c tag.pool tag.start)
  planned-at [] n k d are is tag of = absurd cc
  planned-at (first ∷ drivings) n zero d are is tag of =
      let same : first ≡ d = cc in
      let number : tag.pool.0 ≡ n = omega arith in
      subst (λ (x : Driving). x.plan tag ≡ Some (outcome_of c tag.pool tag.start)) same (are.0 tag number)
  planned-at (first ∷ drivings) n (suc k) d are is tag of = planned-at drivings (suc n) k d are.1 is tag (omega arith)

  module _ (drivings : List Driving) (are : ArePlanned c 0 (map (λ (d : Driving). d.plan) drivings)) where
    answered-planned : (pool : PoolId) (n : NodeId) (attempt first : ℕ) (o : Outcome) → WasAnswered drivings pool n attempt first o → as_planned c pool n attempt first o
    answered-planned pool n attempt first o was =
        let plan = planned-at drivings 0 pool.0 was.driving are was.of_pool (launch_of pool n attempt first o).tag (omega arith) in
        subst (λ (x : Option Outcome). IfSome x (λ planned. planned ≡ o)) plan was.planned

    -- what they drove is a driven journal
    pub planned-driven : (journal : List Entry) → DrivenBy (WasAnswered drivings) c journal → Driven c journal
    planned-driven journal h = driven-more c (WasAnswered drivings) (as_planned c) answered-planned [] (turns c journal) h

    -- so is what they drove with planned events
    pub planned-planned : (journal : List Entry) → PlannedBy (WasAnswered drivings) c journal → PlannedDriven c journal
    planned-planned journal h = EachAfter-weaker (IsPlannedTurn (WasAnswered drivings) c) (IsPlannedTurn (as_planned c) c) (turn-more_as c (WasAnswered drivings) (as_planned c) answered-planned true) [] (turns c journal) h

-- # what the events of launches say

-- the event and the reply of an accepted start
pub record StartParts (pool : PoolId) (e : Event) (r : Reply) (s : Start) : Type 0 where
  pub event : e ≡ Event.Start s.session s.tag.node
  pub reply : r ≡ Reply.Done (Done.Started s.tag.attempt s.tag.start)
  pub same_pool : s.tag.pool ≡ pool

pub start-parts : (pool : PoolId) (e : Event) (r : Reply) (s : Start) → start_in pool e r ≡ Some s → StartParts pool e r s
start-parts pool (Event.Start session n) (Reply.Done (Done.Started k m)) s is =
    let same : ◌≡◌ {A = Start} (record { session = session; tag = record { pool = pool; node = n; attempt = k; start = m } }) s = cc in
    record {
      event = ap (λ (x : Start). Event.Start x.session x.tag.node) same;
      reply = ap (λ (x : Start). Reply.Done (Done.Started x.tag.attempt x.tag.start)) same;
      same_pool = ap (λ (x : Start). x.tag.pool) (sym same);
    }
start-parts pool _ _ s is = absurd cc

-- a report of the attempt is one, with some outcome
pub report-event : (session : SessionId) (n : NodeId) (attempt : ℕ) (e : Event) → is_report_of session n attempt e ≡ true → (o : Outcome) × (e ≡ Event.Done session n attempt o)
report-event session n attempt (Event.Done by m k o) is =
    let parts = and_parts (is_session by session && is_node n m) (k == attempt) is in
    let both = and_parts (is_session by session) (is_node n m) parts.0 in
    let one : by ≡ session = session-equal by session both.0 in
    let two : m ≡ n = ap (λ (k : ℕ). let it : NodeId = record { 0 = k } in it) (equal-numbers m.0 n.0 both.1) in
    let three : k ≡ attempt = equal-numbers k attempt parts.1 in
    (o, cc)
report-event session n attempt _ is = absurd cc

pub tick-event : (e : Event) → is_tick e ≡ true → e ≡ Event.Tick
tick-event e x1 = grind (arith, nat_tests)

-- who acts for a launcher is its pool's worker
pub act-work : (work : Work) (r : Role) (pool : PoolId) → IsAskOf work (Ask.Act r) → r ≡ Role.Launcher pool → work ≡ of_pool pool
act-work work r pool x1 x2 = grind (arith, nat_tests)

-- and who sweeps for a pool is its worker
pub sweep-work : (work : Work) (pool : PoolId) (n : NodeId) (x : ℕ) → IsAskOf work (Ask.Sweep pool n x) → work ≡ of_pool pool
sweep-work work pool n x x1 = grind (arith, nat_tests)

-- # Servers that reports named: they stay so, and a launch's server is named by the report of the launch

module _ (c : Configuration) where
  -- ## names

  pub named_after : (journal more : List Entry) (server : Server) → WasNamed c journal server → WasNamed c (journal ++ more) server
  named_after journal more server h = let P = NamesServer server.tag.node server.number in
      subst (SomeTurn P) (sym (turns-append c (start c) journal more)) (some-left c P (turns c journal) (turns_from c (after c journal) more) h)

  pub named_later : (journal later : List Entry) (server : Server) → StartsWith later journal → WasNamed c journal server → WasNamed c later server
  named_later journal later server s h = subst (λ (l : List Entry). WasNamed c l server) (sym s.1) (named_after journal s.0 server h)

  pub all_named_later : (journal later : List Entry) (servers : List Server) → StartsWith later journal → All (WasNamed c journal) servers → All (WasNamed c later) servers
  all_named_later journal later servers s h = All-weaker (WasNamed c journal) (WasNamed c later) (λ server k. named_later journal later server s k) servers h

  -- the report of a launch names the server that it made, if it made one
  pub report_names : (journal : List Entry) (e : Entry) (s : Start) (o : Outcome) (servers : List Server) → e.event ≡ report_of s o → All (WasNamed c journal) servers → All (WasNamed c (journal ++ e ∷ [])) (with_launched s.tag o servers)
  report_names journal e s Outcome.Failed servers is h = all_named_later journal (journal ++ e ∷ []) servers (e ∷ [], refl) h
  report_names journal e s (Outcome.Launched x) servers is h = All-push (WasNamed c (journal ++ e ∷ [])) servers (record { tag = s.tag; number = x }) (all_named_later journal (journal ++ e ∷ []) servers (e ∷ [], refl) h)
      (some-from c (NamesServer s.tag.node x) (start c) journal e [] (record { session = s.session; attempt = s.tag.attempt; event = is }))

-- ## journals that players drove: where they begin, and a tick more

module _ (c : Configuration) where
  pub names-later : (journal more : List Entry) (driving : Driving) → AreNamed c journal driving → AreNamed c (journal ++ more) driving
  names-later journal more driving are = record {
    servers = are.servers;
    told = are.told;
    named = All-weaker (WasNamed c journal) (WasNamed c (journal ++ more)) (named_after c journal more) are.servers are.named;
  }

  -- ## one entry more

  module _ (says : Says) (plans : Bool) where
    -- a tick after an entry that is not a tick
    tick-driven : (journal : List Entry) (d e : Entry) → DrivenAs says plans c (journal ++ d ∷ []) → is_tick d.event ≡ false → e.event ≡ Event.Tick → DrivenAs says plans c ((journal ++ d ∷ []) ++ e ∷ [])
    tick-driven journal d e h other is = each-as c says plans ((journal ++ d ∷ []) ++ e ∷ [])
        (subst (EachAfter (IsTurnAs says plans c) []) (sym (turns-append c (start c) (journal ++ d ∷ []) (e ∷ [])))
        (EachAfter-push (IsTurnAs says plans c) [] (turns c (journal ++ d ∷ [])) (turn_after c (journal ++ d ∷ []) e) (as-each c says plans (journal ++ d ∷ []) h)
        (turn-as c says plans (turns c (journal ++ d ∷ [])) (turn_after c (journal ++ d ∷ []) e) (inr (inl (record {
          event = is;
          earlier = turns c journal;
          previous = turn_after c journal d;
          follows = turns-append c (start c) journal (d ∷ []);
          other = other;
        }))))))

  pub tick-have-driven : (plans : Bool) (journal : List Entry) (players : List Player) (d e : Entry) → HaveDrivenAs plans c (journal ++ d ∷ []) players → is_tick d.event ≡ false → e.event ≡ Event.Tick → HaveDrivenAs plans c ((journal ++ d ∷ []) ++ e ∷ []) players
  tick-have-driven plans journal players d e have other is = record {
    driven = tick-driven (WasAnswered (drivings_of players)) plans journal d e have.driven other is;
    named = All-weaker (AreNamed c (journal ++ d ∷ [])) (AreNamed c ((journal ++ d ∷ []) ++ e ∷ [])) (names-later (journal ++ d ∷ []) (e ∷ [])) (drivings_of players) have.named;
    numbered = have.numbered;
  }

  -- ## the start

  -- players whose drivers have no servers yet have driven the empty journal
  pub start-have-driven : (plans : Bool) (players : List Player) → AreNumbered 0 players → All (λ (driving : Driving). driving.facts.servers ≡ Some []) (drivings_of players) → HaveDrivenAs plans c [] players
  start-have-driven plans players numbered empty = record {
    driven = each-as c (WasAnswered (drivings_of players)) plans [] tt;
    named = All-weaker (λ (driving : Driving). driving.facts.servers ≡ Some []) (AreNamed c []) (λ driving is. record { servers = []; told = is; named = All-nil (WasNamed c []) }) (drivings_of players) empty;
    numbered = numbered;
  }

-- # numbers of servers: none is launched twice, and those of nodes that are up are among the driver's

-- ## numbers of launches

abbrev pub outcomes : List Launch → List Outcome
outcomes launches = map (λ (l : Launch). l.outcome) launches

-- a launched number is one of the numbers
launched-number : (launches : List Launch) (tag : Tag) (x : ℕ) → Contains launches (record { tag = tag; outcome = Outcome.Launched x }) → is_number x (numbers_in (outcomes launches)) ≡ true
launched-number [] tag x there = no-member (record { tag = tag; outcome = Outcome.Launched x }) there
launched-number (l ∷ launches) tag x there = ⊎_elim
    (λ (here : l ≡ record { tag = tag; outcome = Outcome.Launched x }).
    subst (λ (o : Outcome). is_number x (number_in o ++ numbers_in (outcomes launches)) ≡ true) (sym (ap (λ (y : Launch). y.outcome) here))
    (or_left (x == x) (is_number x (numbers_in (outcomes launches))) (eq-eqb x x refl)))
    (λ (later : Contains launches (record { tag = tag; outcome = Outcome.Launched x })). after l.outcome (launched-number launches tag x later))
    (member-cases l launches (record { tag = tag; outcome = Outcome.Launched x }) there)
  where
    after : (o : Outcome) → is_number x (numbers_in (outcomes launches)) ≡ true → is_number x (number_in o ++ numbers_in (outcomes launches)) ≡ true
    after (Outcome.Launched y) is = or_right (y == x) (is_number x (numbers_in (outcomes launches))) is
    after Outcome.Failed is = is

-- the later of two lists of numbers without repeats has none
distinct-later : (o : Outcome) (numbers : List ℕ) → DistinctNumbers (number_in o ++ numbers) → DistinctNumbers numbers
distinct-later o numbers distinct = grind (arith, nat_tests)

not-later : (l : Launch) (launches : List Launch) (tag other : Tag) (x : ℕ) → DistinctNumbers (number_in l.outcome ++ numbers_in (outcomes launches)) → l ≡ record { tag = tag; outcome = Outcome.Launched x } → Contains launches (record { tag = other; outcome = Outcome.Launched x }) → ⊥
not-later l launches tag other x distinct here later =
    let apart : DistinctNumbers (x ∷ numbers_in (outcomes launches)) = subst (λ (o : Outcome). DistinctNumbers (number_in o ++ numbers_in (outcomes launches))) (ap (λ (y : Launch). y.outcome) here) distinct in
    false≢true (sym apart.0 ∙ launched-number launches other x later)

-- a number was launched once
pub one-launch : (launches : List Launch) (a b : Tag) (x : ℕ) → DistinctNumbers (numbers_in (outcomes launches)) → Contains launches (record { tag = a; outcome = Outcome.Launched x }) → Contains launches (record { tag = b; outcome = Outcome.Launched x }) → a ≡ b
one-launch [] a b x distinct first second = no-member (record { tag = a; outcome = Outcome.Launched x }) first
one-launch (l ∷ launches) a b x distinct first second = ⊎_elim
    (λ (here : l ≡ record { tag = a; outcome = Outcome.Launched x }). ⊎_elim
    (λ (also : l ≡ record { tag = b; outcome = Outcome.Launched x }). ap (λ (y : Launch). y.tag) (sym here ∙ also))
    (λ later. absurd (not-later l launches a b x distinct here later))
    (member-cases l launches (record { tag = b; outcome = Outcome.Launched x }) second))
    (λ later. ⊎_elim
    (λ (also : l ≡ record { tag = b; outcome = Outcome.Launched x }). absurd (not-later l launches b a x distinct also later))
    (λ (both : Contains launches (record { tag = b; outcome = Outcome.Launched x })). one-launch launches a b x (distinct-later l.outcome (numbers_in (outcomes launches)) distinct) later both)
    (member-cases l launches (record { tag = b; outcome = Outcome.Launched x }) second))
    (member-cases l launches (record { tag = a; outcome = Outcome.Launched x }) first)

pub numbers-append : (first rest : List Outcome) → numbers_in (first ++ rest) ≡ numbers_in first ++ numbers_in rest
numbers-append [] rest = refl
numbers-append (o ∷ first) rest = ap (λ (l : List ℕ). number_in o ++ l) (numbers-append first rest) ∙ sym (append_assoc (number_in o) (numbers_in first) (numbers_in rest))

-- ## servers

server-number : (servers : List Server) (s : Server) → Contains servers s → is_number s.number (numbers_of servers) ≡ true
server-number [] s there = no-member s there
server-number (t ∷ servers) s there = ⊎_elim
    (λ (here : t ≡ s). or_left (t.number == s.number) (is_number s.number (numbers_of servers)) (eq-eqb t.number s.number (ap (λ (y : Server). y.number) here)))
    (λ later. or_right (t.number == s.number) (is_number s.number (numbers_of servers)) (server-number servers s later))
    (member-cases t servers s there)

-- ## rows

-- the record of each row is found under its id
pub found-rows : (rows : List NodeEntry) → Rises (λ a b. nat_lt a.id.0 b.id.0) rows → AllByRecursion (λ e. node_in e.id rows ≡ Some e.kept) rows
found-rows [] rises = tt
found-rows (e ∷ rows) rises = (here, later rows rises.0 (found-rows rows rises.1)) where
  here : node_in e.id (e ∷ rows) ≡ Some e.kept
  here = rw (eq-eqb e.id.0 e.id.0 refl) refl

  passed : (f : NodeEntry) → nat_lt e.id.0 f.id.0 ≡ true → node_in f.id rows ≡ Some f.kept → node_in f.id (e ∷ rows) ≡ Some f.kept
  passed f less is = let apart : (e.id.0 == f.id.0) ≡ false = grind (arith, nat_tests) in rw apart is

  later : (more : List NodeEntry) → AllByRecursion (λ f. nat_lt e.id.0 f.id.0 ≡ true) more → AllByRecursion (λ f. node_in f.id rows ≡ Some f.kept) more → AllByRecursion (λ f. node_in f.id (e ∷ rows) ≡ Some f.kept) more
  later [] less all = tt
  later (f ∷ more) less all = (passed f less.0 all.0, later more less.1 all.1)

-- ## nodes that are up

module _ (p : PoolId) (launches : List Launch) (servers : List Server) (distinct : DistinctNumbers (numbers_in (outcomes launches))) where
  -- what is known of a row that is up
  pub record IsKnown (e : NodeEntry) : Type 0 where
    pub launched : (x : ℕ) → e.kept.pool.0 ≡ p.0 → e.kept.server ≡ Some x → WasLaunchedFor launches e.id x
    pub present : (x : ℕ) → e.kept.pool.0 ≡ p.0 → is_up e.kept.state ≡ true → e.kept.server ≡ Some x → IsServerOf servers e.id x

  -- a number of the list is that of a row
  pub record IsRowOf (rows : List NodeEntry) (x : ℕ) : Type 0 where
    pub row : NodeEntry
    pub there : Contains rows row
    pub own : row.kept.pool.0 ≡ p.0
    pub up : is_up row.kept.state ≡ true
    pub server : row.kept.server ≡ Some x

  -- what holds of no server, and of a node's that is up, holds of the servers of one node
  server-by : (P : List ℕ → Type 0) (k : NodeRecord) → P [] → ((x : ℕ) → k.pool.0 ≡ p.0 → is_up k.state ≡ true → k.server ≡ Some x → P (x ∷ [])) → P (server_up p k)
  server-by P k none some = by ((k.pool.0 == p.0) && is_up k.state) refl where
    with_server : (o : Option ℕ) → k.server ≡ o → k.pool.0 ≡ p.0 → is_up k.state ≡ true → P (listed o)
    with_server None has own up = none
    with_server (Some x) has own up = some x own up has

    by : (b : Bool) → ((k.pool.0 == p.0) && is_up k.state) ≡ b → P (cond b (listed k.server) [])
    by true both = let parts = and_parts (k.pool.0 == p.0) (is_up k.state) both in with_server k.server refl (eqb-true k.pool.0 p.0 parts.0) parts.1
    by false neither = none

  abbrev HasUp : NodeRecord → ℕ → Type 0
  HasUp k x = (k.pool.0 ≡ p.0) × (is_up k.state ≡ true) × (k.server ≡ Some x)

  up-cases : (k : NodeRecord) (x : ℕ) (rest : List ℕ) → is_number x (server_up p k ++ rest) ≡ true → HasUp k x ⊎ (is_number x rest ≡ true)
  up-cases k x rest x1 = grind (arith, nat_tests)

  row-of_number : (rows : List NodeEntry) (x : ℕ) → is_number x (servers_up p rows) ≡ true → IsRowOf rows x
  row-of_number [] x is = absurd (false≢true is)
  row-of_number (e ∷ rows) x is = ⊎_elim
      (λ here. record { row = e; there = (0, omega arith, refl); own = here.0; up = here.1; server = here.2 })
      (λ later. let r = row-of_number rows x later in record { row = r.row; there = (suc r.there.0, omega (arith, r.there.1), r.there.2); own = r.own; up = r.up; server = r.server })
      (up-cases e.kept x (servers_up p rows) is)

  all-row : (P : NodeEntry → Type 0) (rows : List NodeEntry) (e : NodeEntry) → AllByRecursion P rows → Contains rows e → P e
  all-row P rows e all there = All-contains P rows e (All-from_recursion P rows all) there

  -- a server of a row is that of no later one
  apart : (e : NodeEntry) (rows : List NodeEntry) (x : ℕ) → AllByRecursion (λ f. nat_lt e.id.0 f.id.0 ≡ true) rows → IsKnown e → AllByRecursion IsKnown rows → e.kept.pool.0 ≡ p.0 → e.kept.server ≡ Some x → is_number x (servers_up p rows) ≡ false
  apart e rows x rises known all own has = false_from_ne_true (is_number x (servers_up p rows)) (λ is.
      let r = row-of_number rows x is in
      let first = known.launched x own has in
      let second = (all-row IsKnown rows r.row all r.there).launched x r.own r.server in
      let less : nat_lt e.id.0 r.row.id.0 ≡ true = all-row (λ (f : NodeEntry). nat_lt e.id.0 f.id.0 ≡ true) rows r.row rises r.there in
      let tags : first.tag ≡ second.tag = one-launch launches first.tag second.tag x distinct first.answered second.answered in
      let same : e.id ≡ r.row.id = sym first.node ∙ (ap (λ (t : Tag). t.node) tags ∙ second.node) in
      let number : e.id.0 ≡ r.row.id.0 = ap (λ (n : NodeId). n.0) same in
      grind (arith, nat_tests))

  up-distinct : (rows : List NodeEntry) → Rises (λ a b. nat_lt a.id.0 b.id.0) rows → AllByRecursion IsKnown rows → DistinctNumbers (servers_up p rows)
  up-distinct [] rises all = tt
  up-distinct (e ∷ rows) rises all =
      let rest = up-distinct rows rises.1 all.1 in
      server-by (λ l. DistinctNumbers (l ++ servers_up p rows)) e.kept rest (λ x own up has. (apart e rows x rises.0 all.0 all.1 own has, rest))

  abbrev Within : List ℕ → Type 0
  Within numbers = AllByRecursion (λ x. is_number x (numbers_of servers) ≡ true) numbers

  up-within : (rows : List NodeEntry) → AllByRecursion IsKnown rows → Within (servers_up p rows)
  up-within [] all = tt
  up-within (e ∷ rows) all =
      let rest = up-within rows all.1 in
      server-by (λ l. Within (l ++ servers_up p rows)) e.kept rest (λ x own up has. let is = all.0.present x own up has in (subst (λ (y : ℕ). is_number y (numbers_of servers) ≡ true) is.number (server-number servers is.server is.there), rest))

  -- the servers of the nodes that are up are sound
  pub up-sound : (sound : List ℕ → Bool) (rows : List NodeEntry) → Rises (λ a b. nat_lt a.id.0 b.id.0) rows → AllByRecursion IsKnown rows
      → ((numbers fewer : List ℕ) → IsTrue (sound numbers) → DistinctNumbers fewer → AllByRecursion (λ x. is_number x numbers ≡ true) fewer → IsTrue (sound fewer)) → IsTrue (sound (numbers_of servers)) → IsTrue (sound (servers_up p rows))
  up-sound sound rows rises all fewer is = fewer (numbers_of servers) (servers_up p rows) is (up-distinct rows rises all) (up-within rows all)

-- # the numbers of a reply determine it

-- ## the test

pub same-reply : (a b : Reply) → is_same_reply a b ≡ true → a ≡ b
same-reply a b x1 = grind (arith, nat_tests)

-- # a legal journal is one that runs

-- ## the replies

replies-by : (c : Configuration) (s : State) (journal : List Entry) → has_replies c s journal ≡ true → replayed c s journal ≡ journal
replies-by c s [] is = refl
replies-by c s (e ∷ journal) is =
    let says : is_same_reply e.reply (reply_of (judge c s e.event)) ≡ true = (and_parts (is_same_reply e.reply (reply_of (judge c s e.event))) (has_replies c (next c s e.event) journal) is).0 in
    let more : has_replies c (next c s e.event) journal ≡ true = (and_parts (is_same_reply e.reply (reply_of (judge c s e.event))) (has_replies c (next c s e.event) journal) is).1 in
    let reply : e.reply ≡ reply_of (judge c s e.event) = same-reply e.reply (reply_of (judge c s e.event)) says in
    ap (λ (r : Reply). record { event = e.event; reply = r } ∷ replayed c (next c s e.event) journal) (sym reply)
    ∙ ap (λ (j : List Entry). e ∷ j) (replies-by c (next c s e.event) journal more)

by-replies : (c : Configuration) (s : State) (journal : List Entry) → replayed c s journal ≡ journal → has_replies c s journal ≡ true
by-replies c s [] is = refl
by-replies c s (e ∷ journal) is =
    let says : is_same_reply e.reply (reply_of (judge c s e.event)) ≡ true =
    subst (λ (r : Reply). is_same_reply e.reply r ≡ true) (sym (head-reply c s e journal is)) ((bytes_eq-Decides (reply_numbers e.reply) (reply_numbers e.reply)).1 refl) in
    and_from (is_same_reply e.reply (reply_of (judge c s e.event))) (has_replies c (next c s e.event) journal) says (by-replies c (next c s e.event) journal (tail-replies c s e journal is))

-- ## the journal

at-most : (n m : ℕ) → nat_le n m ≡ true → n ≤ m
at-most n m is = grind (arith, nat_tests)

pub legal-Runs : (c : Configuration) (journal : List Entry) → is_legal c journal ≡ true → Runs c journal (after c journal)
unfolding is_legal
legal-Runs c journal is =
    let parts = and_parts (has_replies c (start c) journal) (nat_le (length journal) 262144) is in
    record { replies = replies-by c (start c) journal parts.0; ends = refl; short = at-most (length journal) 262144 parts.1 }

pub Runs-legal : (c : Configuration) (journal : List Entry) (s : State) → Runs c journal s → is_legal c journal ≡ true
unfolding is_legal
Runs-legal c journal s runs =
    and_from (has_replies c (start c) journal) (nat_le (length journal) 262144) (by-replies c (start c) journal runs.replies) (is-at_most (length journal) 262144 runs.short)

pub legal-beginning : (c : Configuration) (journal rest : List Entry) → is_legal c (journal ++ rest) ≡ true → is_legal c journal ≡ true
legal-beginning c journal rest is =
    Runs-legal c journal (after c journal) (Runs-prefix c journal rest (after c (journal ++ rest)) (legal-Runs c (journal ++ rest) is))

pub legal-next : (c : Configuration) (journal : List Entry) (e : Entry) → is_legal c journal ≡ true → IsReplied c journal e → is_legal c (journal ++ e ∷ []) ≡ true
legal-next c journal e is replied =
    Runs-legal c (journal ++ e ∷ []) (next c (after c journal) e.event) (Runs-next c journal (after c journal) e (legal-Runs c journal is) replied.room replied.reply)

-- ## its entries

pub legal_between : (c : Configuration) (before : List Entry) (e : Entry) (rest : List Entry) → is_legal c (before ++ e ∷ rest) ≡ true → IsReplied c before e
legal_between c before e rest is =
    let runs = legal-Runs c (before ++ e ∷ rest) is in
    record {
      room = omega (arith, length-append before (e ∷ rest), runs.short);
      reply = replied-at c (start c) before e rest runs.replies;
    }

pub legal_at : (c : Configuration) (journal : List Entry) (at : ℕ) (e : Entry) → is_legal c journal ≡ true → slice_get journal at ≡ Some e → IsReplied c (take at journal) e
legal_at c journal at e is there =
    let splits : journal ≡ take at journal ++ e ∷ drop (suc at) journal = sym (take-append-drop at journal) ∙ ap (λ (l : List Entry). take at journal ++ l) (drop-there journal at e there) in
    legal_between c (take at journal) e (drop (suc at) journal) (subst (λ (j : List Entry). is_legal c j ≡ true) splits is)

-- what the laws state, under names that an attribute can give
pub ruleset legal_laws = (legal-Runs, Runs-legal, legal-beginning, legal-next)

pub ruleset driven_laws = (start-have-driven, planned-driven, planned-planned)
