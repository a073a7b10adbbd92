-- whole rounds of all players: each launch is reported once, and what other workers do
use Rattle.np_worker.proofs.Prelude.{All, All-append, All-contains, All-nil, All-weaker, AreNamed, AreNumbered, AreRising, Ask, BeginsLaunch, Bool, Configuration, Contains, Contains-append_right, Done, DrivenAs, DrivenBy, DriverFacts, Driving, EachTurn, EndsAs, Entry, Event, HaveDriven, HaveDrivenAs, IsChosen, IsCutOff, IsReportOfLaunch, IsRound, IsSweepOfServer, IsTurnAs, Launch, Launcher, List, NoMemory, NodeId, NodeRecord, Option, Outcome, Part, Player, PlayerEnd, PlaysFrom, PoolId, Reply, Result, RoundEnd, Runs, Says, SessionId, Sight, Some, SomeTurn, StartsWith, Tag, Turn, WasAnswered, Work, Worker, after, ap, append-nil, append_assoc, arith, cases_lt, driving_in, driving_of, drivings_of, eq-eqb, eqb-true, false, false_from_ne_true, first_phase, inl, inr, is_ok, is_report_of, is_tick, judge, launch_of, launches_of, length, length-append, maker_of, map, node_in, of_pool, refl, reported, role_of, same_Some, same_pool, start_state, subst, subst₂, suc, sym, true, turns, was_node_of, work_of, ℕ, [], ⊎_elim, ◌++◌, ◌<◌, ◌∙◌, ◌∷◌, ◌≡◌, ◌≢◌, ◌≤◌}
use Rattle.np_worker.proofs.Reports.{chosen-accepted, chosen-done, chosen-start, chosen-tickless, chosen-turn, may-report, polite-at, waits-after}
use Rattle.np_worker.proofs.Made.{Cause, HasReported, IsActed, IsReported, IsSwept, answer-kept, answer-new, each_made, numbered-now, of-cause, one-end, player-there, player_of, round-of, servers_named, rises}
use Rattle.np_worker.proofs.Walks.{split-outer, split-within, length-split, same-split, none-between, rising_least, rising_lower}
use Rattle.np_worker.proofs.Journals.{act-work, done-turn, driven-at, each-from, names-later, report-event, some-from, some-place, start-parts, tick-event, turn-as, turn-more_as, turn_after, each-as, each-passes}
use Rattle.np_worker.proofs.Records.{never-of, once, quiet-report, report-later, role-stays}
use Rattle.np_worker.proofs.Leaving.{sweep_removes}
use Rattle.np_worker.proofs.Acts.{IsForeign}

-- # Rounds, by the kind of worker.

module _ {F : Type 0} {answers : F → List Entry → Ask → Turn → Type 0} {f : F} {D : Type 0} (facts : D → DriverFacts) (plan : D → Tag → Option Outcome) (sound : D → List ℕ → Bool) (room : D → ℕ) where
  -- the round of a worker that is this one, before and after it
  pub round_of : (w x v : Worker D) {s u : Sight Entry} (r : Result RoundEnd NoMemory) → w ≡ v → x ≡ v
      → Part answers f (first_phase (work_of v)) s u (driving_of facts plan sound room v) (driving_of facts plan sound room v) (EndsAs (work_of v) (driving_of facts plan sound room v) (driving_of facts plan sound room v) r)
      → Part answers f (first_phase (work_of w)) s u (driving_of facts plan sound room w) (driving_of facts plan sound room x) (EndsAs (work_of w) (driving_of facts plan sound room w) (driving_of facts plan sound room x) r)
  round_of w x v {s} {u} r h k p = subst₂ (λ (y z : Worker D). Part answers f (first_phase (work_of y)) s u (driving_of facts plan sound room y) (driving_of facts plan sound room z) (EndsAs (work_of y) (driving_of facts plan sound room y) (driving_of facts plan sound room z) r)) (sym h) (sym k) p

-- # a round reports a launch once

-- an accepted start of the attempt, and where it is
pub record BeginsAt (c : Configuration) (later : List Entry) (session : SessionId) (n : NodeId) (k : ℕ) (pool : PoolId) (earlier : List Entry) (begin : Entry) : Type 0 where
  pub rest : List Entry
  pub stands : later ≡ earlier ++ begin ∷ rest
  pub event : begin.event ≡ Event.Start session n
  pub first : ℕ
  pub reply : begin.reply ≡ Reply.Done (Done.Started k first)
  pub role : role_of session (after c earlier) ≡ Some (Launcher pool)
  pub node : NodeRecord
  pub stood : node_in n (after c earlier).nodes ≡ Some node
  pub same_pool : node.pool.0 ≡ pool.0

module _ (c : Configuration) (later : List Entry) (runs : Runs c later (after c later)) (session : SessionId) (n : NodeId) (k : ℕ) where
  -- the launcher's start of a report
  pub begins : (plans : Bool) (before : List Entry) (e : Entry) (rest : List Entry) → later ≡ before ++ e ∷ rest → (work : Work) (r : IsReported plans c before e work) → r.start.session ≡ session → r.start.tag.node ≡ n → r.start.tag.attempt ≡ k → BeginsAt c later session n k r.pool r.earlier r.begin
  begins plans before e rest is work r one two three =
      let parts = start-parts r.pool r.begin.event r.begin.reply r.start r.begun in
      let event : r.begin.event ≡ Event.Start session n = cc (parts.event, one, two) in
      let chosen = chosen-start plans c r.earlier r.pool session n (subst (λ (x : Event). IsChosen plans c r.earlier (Launcher r.pool) x) event r.act.0) in
      record {
        rest = r.rest ++ e ∷ rest;
        stands = split-outer before r.earlier r.rest rest e r.begin later is r.stood;
        event = event;
        first = r.start.tag.start;
        reply = cc (parts.reply, three);
        role = chosen.0;
        node = chosen.1.0;
        stood = chosen.1.1;
        same_pool = chosen.1.2;
      }

  module _ (pool : PoolId) (earlier : List Entry) (begin : Entry) (start : BeginsAt c later session n k pool earlier begin) (b : List Entry) (u : Entry) (after_u : List Entry) (is : later ≡ b ++ u ∷ after_u) (o : Outcome) (event : u.event ≡ Event.Done session n k o) where
    -- an accepted report comes after the start
    pub after-accepted : is_ok (judge c (after c b) u.event) ≡ true → length earlier < length b
    after-accepted accepted = report-later c later (after c later) runs earlier begin start.rest b u after_u start.stands is session session n k start.first o start.event start.reply event accepted

    -- so does one whose start comes before it
    pub after-begun : (x y : List Entry) (w : Entry) → b ≡ x ++ w ∷ y → (by : SessionId) (m : ℕ) → w.event ≡ Event.Start by n → w.reply ≡ Reply.Done (Done.Started k m) → (earlier ≡ x) × (length earlier < length b)
    after-begun x y w inner by m started answered =
        let outer = split-outer b x y after_u u w later is inner in
        let same = once c later (after c later) runs earlier begin start.rest x w (y ++ u ∷ after_u) start.stands outer session by n k start.first m start.event start.reply started answered in
        (same, omega (arith, ap length same, length-split x y w b inner))

    -- in a driven journal
    module _ (says : Says) where
      begun-before : IsReportOfLaunch says (turns c b) (turn_after c b u) → length earlier < length b
      begun-before r =
          let same : Event.Done r.session r.number r.attempt r.outcome ≡ Event.Done session n k o = cc (r.event, event) in
          let one : r.session ≡ session = cc in
          let two : r.number ≡ n = cc in
          let three : r.attempt ≡ k = cc in
          let found = some-place c (BeginsLaunch r.session r.number r.attempt r.start r.pool) (start_state c) b r.begun in
          (after-begun found.before found.rest found.entry found.stands r.session r.start (cc (found.holds.event, two)) (cc (found.holds.started, three))).1

      pub driven-after : (plans : Bool) → IsTurnAs says plans c (turns c b) (turn_after c b u) → length earlier < length b
      driven-after plans h = ⊎_elim after-accepted begun-before (done-turn c says (turns c b) (turn_after c b u) session n k o event plans h)

    -- made in the round: by a worker of the same pool
    acted-after : (plans : Bool) (work : Work) → IsActed plans c b u work → (work ≡ of_pool pool) × (length earlier < length b)
    acted-after plans work a =
        let less = after-accepted (chosen-accepted c b a.role plans u.event a.answer.0) in
        let chosen = chosen-done c b a.role plans session n k o (subst (λ (x : Event). IsChosen plans c b a.role x) event a.answer.0) in
        let same : earlier ++ begin ∷ start.rest ≡ b ++ u ∷ after_u = sym start.stands ∙ is in
        let within = split-within earlier b start.rest (u ∷ after_u) begin same less in
        let stays = role-stays c earlier (begin ∷ within.0) session (Launcher pool) start.role in
        let role : role_of session (after c b) ≡ Some (Launcher pool) = subst (λ (j : List Entry). role_of session (after c j) ≡ Some (Launcher pool)) (sym within.1) stays in
        let equal : Some (Launcher chosen.0) ≡ Some (Launcher pool) = sym chosen.2 ∙ role in
        let pools : chosen.0 ≡ pool = cc in
        (act-work work a.role pool a.own (chosen.1 ∙ ap Launcher pools), less)

    reported-after : (plans : Bool) (work : Work) → IsReported plans c b u work → (work ≡ of_pool pool) × (length earlier < length b)
    reported-after plans work r =
        let same : Event.Done r.start.session r.start.tag.node r.start.tag.attempt r.outcome ≡ Event.Done session n k o = cc (r.event, event) in
        let one : r.start.session ≡ session = cc in
        let two : r.start.tag.node ≡ n = cc in
        let three : r.start.tag.attempt ≡ k = cc in
        let other = begins plans b u after_u is work r one two three in
        let h = after-begun r.earlier r.rest r.begin r.stood session other.first other.event other.reply in
        let role : Some (Launcher r.pool) ≡ Some (Launcher pool) = sym other.role ∙ (ap (λ (j : List Entry). role_of session (after c j)) (sym h.0) ∙ start.role) in
        let pools : r.pool ≡ pool = cc in
        (r.own ∙ ap of_pool pools, h.1)

    pub made-after : (plans : Bool) (work : Work) (knew : Type 0) (mine : List ℕ) (launches : List Launch) → Cause plans c b u work knew mine launches → (work ≡ of_pool pool) × (length earlier < length b)
    made-after plans work knew mine launches (inl a) = acted-after plans work a
    made-after plans work knew mine launches (inr (inl s)) = absurd (cc (s.answer.2.event, event))
    made-after plans work knew mine launches (inr (inr r)) = reported-after plans work r.0

-- ## the entries of a round: who made each, and why

-- which end the entry after the journal belongs to, and why it was made
pub record NewEntry (plans : Bool) (c : Configuration) (history : List Entry) (ends : List PlayerEnd) (before : List Entry) (e : Entry) : Type 0 where
  pub end : PlayerEnd
  pub there : Contains ends end
  pub mine : Contains end.sight.mine (length before)
  pub player : Player
  pub plays : PlaysFrom plans c history player end
  pub cause : Cause plans c before e player.work (Unit {0}) end.sight.mine (launches_of plays.trace)

-- the entry that was made at the place is the one that is there
same-entry : (later seen before rest stood r1 r2 : List Entry) (e entry : Entry) → later ≡ seen ++ r1 → seen ≡ (stood ++ entry ∷ []) ++ r2 → later ≡ before ++ e ∷ rest → length stood ≡ length before → (stood ≡ before) × (entry ≡ e)
same-entry later seen before rest stood r1 r2 e entry one two three long =
    let a : (stood ++ entry ∷ []) ++ (r2 ++ r1) ≡ stood ++ (entry ∷ (r2 ++ r1)) = append_assoc stood (entry ∷ []) (r2 ++ r1) in
    let b : ((stood ++ entry ∷ []) ++ r2) ++ r1 ≡ (stood ++ entry ∷ []) ++ (r2 ++ r1) = append_assoc (stood ++ entry ∷ []) r2 r1 in
    let same : stood ++ entry ∷ (r2 ++ r1) ≡ before ++ e ∷ rest = cc in
    let h = same-split stood before (r2 ++ r1) rest entry e same long in
    (h.0, h.1)

module _ {plans : Bool} (c : Configuration) (history later : List Entry) (players now : List Player) (is_cut : Bool) (round : IsRound plans c history later players now is_cut) (have : HaveDrivenAs plans c history players) where
  pub now-numbered : AreNumbered 0 (map player_of round.ends)
  now-numbered = numbered-now plans c history 0 players round.ends round.plays have.numbered

  pub new-entry : (before : List Entry) (e : Entry) (rest : List Entry) → later ≡ before ++ e ∷ rest → length history ≤ length before → NewEntry plans c history round.ends before e
  new-entry before e rest is old =
      let below : length before < length later = omega (arith, length-append before (e ∷ rest), ap length is) in
      let m = round.made (length before) old below in
      let p = round-of c history 0 players round.ends round.plays have.numbered have.named m.end m.there in
      let seen = All-contains (λ (end : PlayerEnd). StartsWith later end.sight.seen) round.ends m.end round.seen m.there in
      let made = each_made c history p.player m.end p.plays p.driver p.named (length before) m.made in
      let same = same-entry later m.end.sight.seen before rest made.before seen.0 made.stands.0 e made.entry seen.1 made.stands.1 is made.place in
      record {
        end = m.end;
        there = m.there;
        mine = m.made;
        player = p.player;
        plays = p.plays;
        cause = subst₂ (λ (b : List Entry) (d : Entry). Cause plans c b d p.player.work (Unit {0}) m.end.sight.mine (launches_of p.plays.trace)) same.0 same.1 made.cause;
      }

  -- an entry of an earlier place is one of the history
  pub old-entry : (before : List Entry) (e : Entry) (rest : List Entry) → later ≡ before ++ e ∷ rest → length before < length history → (z : List Entry) × (history ≡ before ++ e ∷ z)
  old-entry before e rest is old =
      let goes_on = round.goes_on in
      let same : before ++ e ∷ rest ≡ history ++ goes_on.0 = cc (is, goes_on.1) in
      split-within before history rest goes_on.0 e same old

-- # a round of all players leaves a driven journal

pub numbered-after : (plans : Bool) (c : Configuration) (history later : List Entry) (players now : List Player) (is_cut : Bool) → IsRound plans c history later players now is_cut → AreNumbered 0 players → AreNumbered 0 now
numbered-after plans c history later players now is_cut round are = subst (λ (ps : List Player). AreNumbered 0 ps) round.players_now (numbered-now plans c history 0 players round.ends round.plays are)

module _ {plans : Bool} (c : Configuration) (history later : List Entry) (players now : List Player) (is_cut : Bool) (round : IsRound plans c history later players now is_cut) (runs : Runs c later (after c later)) (have : HaveDrivenAs plans c history players) where
  abbrev players-now : List Player
  players-now = map player_of round.ends

  abbrev says : Says
  says = WasAnswered (drivings_of players-now)

  module _ (before : List Entry) (e : Entry) (rest : List Entry) (is : later ≡ before ++ e ∷ rest) (new : NewEntry plans c history round.ends before e) (told : HasReported plans c before e new.player.work new.end.sight.mine (launches_of new.plays.trace)) where
    abbrev r : IsReported plans c before e new.player.work
    r = told.0

    start : BeginsAt c later r.start.session r.start.tag.node r.start.tag.attempt r.pool r.earlier r.begin
    start = begins c later runs r.start.session r.start.tag.node r.start.tag.attempt plans before e rest is new.player.work r refl refl refl

    start-new : length history ≤ length r.earlier
    start-new = rising_least (length history) (length new.end.sight.seen) new.end.sight.mine (rises c history new.player new.end new.plays).1 (length r.earlier) (subst (λ (places : List ℕ). Contains places (length r.earlier)) (sym told.1.splits) (Contains-append_right told.1.earlier (length r.earlier ∷ length before ∷ told.1.later) (length r.earlier) (0, omega arith, refl)))

    -- the worker of the pool made no entry between the start and the report
    not-between : (b : List Entry) (u : Entry) (other : NewEntry plans c history round.ends b u) → other.player.work ≡ of_pool r.pool → length r.earlier < length b → length b < length before → ⊥
    not-between b u other work above below =
        let same : other.end ≡ new.end = one-end 0 round.ends (now-numbered c history later players now is_cut round have) other.end new.end other.there new.there r.pool (other.plays.work ∙ work) (new.plays.work ∙ r.own) in
        none-between 0 told.1.earlier (length r.earlier) (length before) told.1.later (length new.end.sight.seen) (length b)
        (subst (λ (places : List ℕ). AreRising 0 places (length new.end.sight.seen)) told.1.splits (rising_lower (length history) 0 (length new.end.sight.seen) new.end.sight.mine (omega arith) (rises c history new.player new.end new.plays).1))
        (subst (λ (places : List ℕ). Contains places (length b)) told.1.splits (subst (λ (x : PlayerEnd). Contains x.sight.mine (length b)) same other.mine)) above below

    no-report : (b : List Entry) (u : Entry) (more : List Entry) → before ≡ b ++ u ∷ more → (o : Outcome) → u.event ≡ Event.Done r.start.session r.start.tag.node r.start.tag.attempt o → ⊥
    no-report b u more inner o event =
        let outer : later ≡ b ++ u ∷ (more ++ e ∷ rest) = split-outer before b more rest e u later is inner in
        let below = length-split b more u before inner in
        ⊎_elim
        (λ (old : length b < length history).
        let z = old-entry c history later players now is_cut round have b u (more ++ e ∷ rest) outer old in
        let driven = driven-at c (WasAnswered (drivings_of players)) plans history b u z.0 have.driven z.1 in
        let less = driven-after c later runs r.start.session r.start.tag.node r.start.tag.attempt r.pool r.earlier r.begin start b u (more ++ e ∷ rest) outer o event (WasAnswered (drivings_of players)) plans driven in
        omega (arith, start-new, less, old))
        (λ (young : length history ≤ length b).
        let other = new-entry c history later players now is_cut round have b u (more ++ e ∷ rest) outer young in
        let made = made-after c later runs r.start.session r.start.tag.node r.start.tag.attempt r.pool r.earlier r.begin start b u (more ++ e ∷ rest) outer o event plans other.player.work (Unit {0}) other.end.sight.mine (launches_of other.plays.trace) other.cause in
        not-between b u other made.0 made.1 below)
        (cases_lt (length b) (length history))

    first-report : EachTurn (λ u. is_report_of r.start.session r.start.tag.node r.start.tag.attempt u.entry.event ≡ false) (turns c before)
    first-report = each-from c (λ u. is_report_of r.start.session r.start.tag.node r.start.tag.attempt u.entry.event ≡ false) (start_state c) before
        (λ b u more inner. false_from_ne_true (is_report_of r.start.session r.start.tag.node r.start.tag.attempt u.event)
        (λ yes. let h = report-event r.start.session r.start.tag.node r.start.tag.attempt u.event yes in no-report b u more inner h.0 h.1))

    begun-launch : SomeTurn (BeginsLaunch r.start.session r.start.tag.node r.start.tag.attempt r.start.tag.start r.pool) (turns c before)
    begun-launch =
        subst (λ (j : List Entry). SomeTurn (BeginsLaunch r.start.session r.start.tag.node r.start.tag.attempt r.start.tag.start r.pool) (turns c j)) (sym r.stood)
        (some-from c (BeginsLaunch r.start.session r.start.tag.node r.start.tag.attempt r.start.tag.start r.pool) (start_state c) r.earlier r.begin r.rest
        (record { event = start.event; started = (start-parts r.pool r.begin.event r.begin.reply r.start r.begun).reply; node = start.node; stood = start.stood; of_pool = start.same_pool }))

    was-answered : WasAnswered (drivings_of players-now) r.pool r.start.tag.node r.start.tag.attempt r.start.tag.start r.outcome
    was-answered =
        let pool = (start-parts r.pool r.begin.event r.begin.reply r.start r.begun).same_pool in
        answer-new c history players-now (now-numbered c history later players now is_cut round have) new.player new.end new.plays (player-there round.ends new.end new.there)
        r.pool (new.plays.work ∙ r.own) r.start.tag.node r.start.tag.attempt r.start.tag.start r.outcome
        (subst (λ (p : PoolId). Contains (launches_of new.plays.trace) (launch_of p r.start.tag.node r.start.tag.attempt r.start.tag.start r.outcome)) pool told.2)

    reported-driven : IsReportOfLaunch (WasAnswered (drivings_of players-now)) (turns c before) (turn_after c before e)
    reported-driven = record {
      session = r.start.session;
      number = r.start.tag.node;
      attempt = r.start.tag.attempt;
      outcome = r.outcome;
      event = r.event;
      start = r.start.tag.start;
      pool = r.pool;
      begun = begun-launch;
      first = first-report;
      answered = was-answered;
    }

  swept-driven : (before : List Entry) (e : Entry) (work : Work) → IsSwept plans c before e work (Unit {0}) → IsSweepOfServer (turns c before) (turn_after c before e)
  swept-driven before e work s = record {
    session = s.answer.2.session;
    pool = s.pool;
    number = s.node;
    server = s.server;
    event = s.answer.2.event;
    removed = sweep_removes c before s.pool s.node s.server e s.answer;
    current = s.answer.2.current;
    named = s.named tt;
    unswept = s.answer.1;
  }

  new-driven : (before : List Entry) (e : Entry) (rest : List Entry) → later ≡ before ++ e ∷ rest → length history ≤ length before → IsTurnAs (WasAnswered (drivings_of players-now)) plans c (turns c before) (turn_after c before e)
  new-driven before e rest is young =
      let new = new-entry c history later players now is_cut round have before e rest is young in
      by new new.cause
    where
      by : (new : NewEntry plans c history round.ends before e) → Cause plans c before e new.player.work (Unit {0}) new.end.sight.mine (launches_of new.plays.trace) → IsTurnAs says plans c (turns c before) (turn_after c before e)
      by new (inl a) = chosen-turn c before a.role plans says e a.answer.0
      by new (inr (inl s)) = turn-as c says plans (turns c before) (turn_after c before e) (inr (inr (inl (swept-driven before e new.player.work s))))
      by new (inr (inr told)) = turn-as c says plans (turns c before) (turn_after c before e) (inr (inr (inr (reported-driven before e rest is new told))))

  old-driven : (before : List Entry) (e : Entry) (rest : List Entry) → later ≡ before ++ e ∷ rest → length before < length history → IsTurnAs (WasAnswered (drivings_of players-now)) plans c (turns c before) (turn_after c before e)
  old-driven before e rest is old =
      let z = old-entry c history later players now is_cut round have before e rest is old in
      turn-more_as c (WasAnswered (drivings_of players)) (WasAnswered (drivings_of players-now)) (answer-kept plans c history players round.ends round.plays have.numbered) plans (turns c before) (turn_after c before e)
      (driven-at c (WasAnswered (drivings_of players)) plans history before e z.0 have.driven z.1)

  -- the journal stays driven, by the players as they are now
  pub round-driven : DrivenAs (WasAnswered (drivings_of now)) plans c later
  round-driven = subst (λ (ps : List Player). DrivenAs (WasAnswered (drivings_of ps)) plans c later) round.players_now
      (each-as c says plans later (each-passes c (IsTurnAs says plans c) [] (start_state c) later
      (λ before e rest is. ⊎_elim (old-driven before e rest is) (new-driven before e rest is) (cases_lt (length before) (length history)))))

  -- no tick is among its entries
  pub round-no-tick : (before : List Entry) (e : Entry) (rest : List Entry) → later ≡ before ++ e ∷ rest → length history ≤ length before → is_tick e.event ≡ false
  round-no-tick before e rest is young =
      let new = new-entry c history later players now is_cut round have before e rest is young in
      false_from_ne_true (is_tick e.event) (λ yes.
      let tick = tick-event e.event yes in
      elim new.cause [
        | inl a ↦ chosen-tickless c before a.role plans (subst (λ (x : Event). IsChosen plans c before a.role x) tick a.answer.0)
        | inr (inl s) ↦ absurd (cc (s.answer.2.event, tick))
        | inr (inr told) ↦ absurd (cc (told.0.event, tick))
      ])

-- # the entries of other workers in a round

module _ (c : Configuration) (history later : List Entry) (players now : List Player) (is_cut : Bool) (round : IsRound false c history later players now is_cut) (have : HaveDriven c history players) (driven : DrivenBy (WasAnswered (drivings_of now)) c later) where
  module _ (p : PoolId) (end : PlayerEnd) (there : Contains round.ends end) (work : end.player.work ≡ of_pool p) (x : List Entry) (e : Entry) (rest : List Entry) (is : later ≡ x ++ e ∷ rest) (young : length history ≤ length x) (other : Contains end.sight.mine (length x) → ⊥) where
    new : NewEntry false c history round.ends x e
    new = new-entry c history later players now is_cut round have x e rest is young

    -- it is no entry of the pool's worker
    not-own : new.player.work ≡ of_pool p → ⊥
    not-own own =
        let same : new.end ≡ end = one-end 0 round.ends (now-numbered c history later players now is_cut round have) new.end end new.there there p (new.plays.work ∙ own) work in
        other (subst (λ (y : PlayerEnd). Contains y.sight.mine (length x)) same new.mine)

    apart : (q : PoolId) → new.player.work ≡ of_pool q → q.0 ≢ p.0
    apart q own same = not-own (own ∙ ap of_pool (same_pool q p (eq-eqb q.0 p.0 same)))

    -- ## who makes it

    other-maker : (session : SessionId) → maker_of e.event ≡ Some session → role_of session (after c x) ≡ Some (Launcher p) → ⊥
    other-maker session makes role =
        let w = of-cause false c x e new.player.work (Unit {0}) new.end.sight.mine (launches_of new.plays.trace) new.cause in
        not-own (act-work new.player.work w.role p w.own (same_Some w.role (Launcher p) (sym (w.of_role.maker session makes) ∙ role)))

    -- ## what it reports

    acted-never : IsActed false c x e new.player.work → (session : SessionId) (n : NodeId) (k : ℕ) (o : Outcome) → e.event ≡ Event.Done session n k o → was_node_of p n (turns c x) ≡ false
    acted-never a session n k o event =
        let it : IsChosen false c x a.role (Event.Done session n k o) = subst (λ (f : Event). IsChosen false c x a.role f) event a.answer.0 in
        let who = chosen-done c x a.role false session n k o it in
        let may = may-report (after c x) who.0 session n k (chosen-accepted c x a.role false (Event.Done session n k o) it) who.2 in
        never-of c p who.0 n x x may.node ([], sym (append-nil x)) may.stands (eqb-true may.node.pool.0 who.0.0 may.of_pool) (apart who.0 (act-work new.player.work a.role who.0 a.own who.1))

    reported-never : IsReported false c x e new.player.work → (session : SessionId) (n : NodeId) (k : ℕ) (o : Outcome) → e.event ≡ Event.Done session n k o → was_node_of p n (turns c x) ≡ false
    reported-never r session n k o event =
        let same : Event.Done r.start.session r.start.tag.node r.start.tag.attempt r.outcome ≡ Event.Done session n k o = sym r.event ∙ event in
        let node : r.start.tag.node ≡ n = cc in
        let parts = start-parts r.pool r.begin.event r.begin.reply r.start r.begun in
        let stood = (chosen-start false c r.earlier r.pool r.start.session r.start.tag.node (subst (λ (f : Event). IsChosen false c r.earlier (Launcher r.pool) f) parts.event r.act.0)).1 in
        never-of c p r.pool n x r.earlier stood.0 (r.begin ∷ r.rest, r.stood) (subst (λ (m : NodeId). node_in m (after c r.earlier).nodes ≡ Some stood.0) node stood.1) stood.2 (apart r.pool r.own)

    quiet : reported p (turns c x) e.event ≡ []
    quiet = quiet-report p (turns c x) e.event (λ session n k o event.
        elim new.cause [
          | inl a ↦ acted-never a session n k o event
          | inr (inl s) ↦ absurd (cc (s.answer.2.event, event))
          | inr (inr told) ↦ reported-never told.0 session n k o event
        ])

    -- the entry is another's
    pub is-foreign : (never : Type 0) → IsForeign c p never x e
    is-foreign never = record {
      quiet = quiet;
      maker = other-maker;
      waits = waits-after (WasAnswered (drivings_of now)) c later x (e ∷ rest) driven is;
      polite = polite-at (WasAnswered (drivings_of now)) c later x e rest driven is;
    }

-- # a round of players none of whom was cut off: each of their servers was named

all-drivings : (P : Driving → Type 0) (ends : List PlayerEnd) → ((end : PlayerEnd) → Contains ends end → All P (driving_in end.player.driving)) → All P (drivings_of (map player_of ends))
all-drivings P [] h = All-nil P
all-drivings P (first ∷ ends) h =
    All-append P (driving_in first.player.driving) (drivings_of (map player_of ends)) (h first (0, omega arith, refl))
    (all-drivings P ends (λ end there. let less : there.0 < length ends = there.1 in h end (suc there.0, omega arith, there.2)))

module _ {plans : Bool} (c : Configuration) (history later : List Entry) (players now : List Player) (is_cut : Bool) (round : IsRound plans c history later players now is_cut) (runs : Runs c later (after c later)) (have : HaveDrivenAs plans c history players) (whole : is_cut ≡ false) where
  end-named : (end : PlayerEnd) → Contains round.ends end → All (AreNamed c later) (driving_in end.player.driving)
  end-named end there =
      let p = round-of c history 0 players round.ends round.plays have.numbered have.named end there in
      let seen = All-contains (λ (x : PlayerEnd). StartsWith later x.sight.seen) round.ends end round.seen there in
      let owes = All-contains (λ (x : PlayerEnd). IsCutOff x.phase → ⊥) round.ends end (round.uncut whole) there in
      let named = servers_named c history p.player end p.plays p.driver p.named owes in
      subst (λ (j : List Entry). All (AreNamed c j) (driving_in end.player.driving)) (sym seen.1)
      (All-weaker (AreNamed c end.sight.seen) (AreNamed c (end.sight.seen ++ seen.0)) (names-later c end.sight.seen seen.0) (driving_in end.player.driving) named)

  pub round-have-driven : HaveDrivenAs plans c later now
  round-have-driven = record {
    driven = round-driven c history later players now is_cut round runs have;
    named = subst (λ (ps : List Player). All (AreNamed c later) (drivings_of ps)) round.players_now (all-drivings (AreNamed c later) round.ends end-named);
    numbered = numbered-after plans c history later players now is_cut round have.numbered;
  }
