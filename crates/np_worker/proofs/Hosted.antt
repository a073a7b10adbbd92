-- a pool with its driver: launches, removals, a round, a tick and the start
use Rattle.np_worker.proofs.Prelude.{All, All-contains, AreAloneSound, AreAsksOf, AreCarried, AreSoundAlone, Ask, BeginAfter, BeginsEmpty, BeginsNew, Bool, Carries, Configuration, Contains, Contains-append_left, Contains-push, Contains-push_cases, DistinctNumbers, DrivenBy, Driving, Earlier, Entry, Event, FailAfter, FailFull, FailOnlyFull, FailsFull, HaveDriven, HaveHosted, HaveSoundness, Hosts, IfSome, IsCutOff, IsHosted, IsRound, IsServerOf, IsSoundAlone, IsTrue, Janitor, Launch, Leads, List, MOST_LAUNCHES, MayAsk, MayLaunch, MayRemove, Move, NeverRepeats, NodeEntry, NodeId, NodeRecord, NodeState, None, Option, Outcome, Phase, Player, PlayerEnd, PoolId, Records, Runs, Says, Server, Sight, Some, Soundness, Start, StartsWith, SweepsServers, Tag, Turn, Walk, WasAnswered, Work, acts, after, after_launch, after_removal, after_turn, all-weaker, answers_of, ap, append-nil, append_assoc, arith, asked, cases_lt, drivings_of, eq-eqb, false, false_from_ne_true, false≢true, first_phase, fresh_sight, inl, inr, is_building, is_deleting, is_number, is_server, is_some, is_tick, is_up, is_wanted, launched, launcher-role, launches_of, length, length-append, length-filter_at_most, maker_of, map, nat_tests, node_in, none-some, not, number_in, numbers_in, numbers_of, of_pool, option_map, option_map_or, or_left, or_right, owes_due, owes_launch, owes_report, owes_swept, recorded, refl, removed, reported, reports_of, same_Some, servers_after, servers_up, slice_get, starts_on, subst, suc, sweeps, sym, true, turns, with_launch, with_launched, without_number, ℕ, [], ⊎_elim, ◌++◌, ◌+◌, ◌<◌, ◌==◌, ◌||◌, ◌∙◌, ◌∷◌, ◌≡◌, ◌≤◌, ◌⊎◌}
use Rattle.std.proofs.lemmas.List.{map-append}
use Rattle.std.proofs.lemmas.List.Elements.{All-get_or}
use Rattle.std.proofs.lemmas.List.Folds.{list_any-append}
use Rattle.std.proofs.lemmas.Option.{get_or_from_slice_get, slice_get_within}
use Rattle.np_worker.proofs.Journals.{one-launch, outcomes, IsKnown, found-rows, up-sound, numbers-append}
use Rattle.np_worker.proofs.Records.{few-reports, holds-after}
use Rattle.np_worker.proofs.Leaving.{AreBelow, below-turn, filtered-member, launched_stay, leaves_one}
use Rattle.np_worker.proofs.Reports.{may-report, plain-answer, polite-at, report-accepted, waits-after}
use Rattle.np_worker.proofs.Walks.{no-member, same-split, split-within, starts_length, turn_seen, walk_seen}
use Rattle.np_worker.proofs.Steps.{asks_of}
use Rattle.np_worker.proofs.Acts.{AreForeign, Calm, Held, IsForeign, IsGoing, IsLate, IsLeft, IsReady, IsReportOf, IsThere, Leaves, Never, Reporting, Rest, Sees, Stands, Tells, WasStarted, held-gap, leaves-later, leaves-of, nobody, tells-gap, turn-stands, rest-gap}
use Rattle.np_worker.proofs.Made.{PoolRound, at-place, player_of, told}
use Rattle.np_worker.proofs.Rounds.{is-foreign, old-entry, round-driven, round-have-driven, round-no-tick}

-- # launches and removals of a pool's worker: what each leaves of what is known

-- ## lists of servers

longer-servers : (tag : Tag) (o : Outcome) (servers : List Server) → length (with_launched tag o servers) ≡ length servers + length (number_in o)
longer-servers tag (Outcome.Launched x) servers = length-append servers (record { tag = tag; number = x } ∷ [])
longer-servers tag Outcome.Failed servers = omega arith

module _ (c : Configuration) (p : PoolId) (sound : List ℕ → Bool) (room earlier : ℕ) (final : List Launch) (journal : List Entry) (launches : List Launch) (servers : List Server) where
  -- ## a launch

  module _ (s : Start) (o : Outcome) (short : length journal ≤ 262144) (held : Held c p sound room earlier final (IsReportOf s) 0 0 journal launches servers) (started : WasStarted c p sound room earlier final journal s.tag.node) where
    abbrev more : List Launch
    more = with_launch s.tag o launches

    made-now : (q : Outcome) (x : Server) → Contains (with_launched s.tag q servers) x → Contains (with_launch s.tag q launches) (record { tag = x.tag; outcome = Outcome.Launched x.number })
    made-now (Outcome.Launched y) x h = ⊎_elim
        (λ (old : Contains servers x). Contains-append_left launches (record { tag = s.tag; outcome = Outcome.Launched y } ∷ []) (record { tag = x.tag; outcome = Outcome.Launched x.number }) (held.made x old))
        (λ (new : record { tag = s.tag; number = y } ≡ x). subst (λ (z : Server). Contains (with_launch s.tag (Outcome.Launched y) launches) (record { tag = z.tag; outcome = Outcome.Launched z.number })) new
        (Contains-push launches (record { tag = s.tag; outcome = Outcome.Launched y })))
        (Contains-push_cases servers (record { tag = s.tag; number = y }) x h)
    made-now Outcome.Failed x h = Contains-append_left launches (record { tag = s.tag; outcome = Outcome.Failed } ∷ []) (record { tag = x.tag; outcome = Outcome.Launched x.number }) (held.made x h)

    there-is : (q : Outcome) → IsThere c p sound room earlier final s q (with_launched s.tag q servers)
    there-is (Outcome.Launched x) = Contains-push servers (record { tag = s.tag; number = x })
    there-is Outcome.Failed = tt

    late-is : (q : Outcome) → FailsFull room q (Some launches) (Some servers) → earlier ≡ 0 → IsLate room q (length (numbers_in (reports_of c p journal)))
    late-is (Outcome.Launched x) full none = tt
    late-is Outcome.Failed full none = ⊎_elim
        (λ (many : room ≤ length servers). omega (arith, many, held.fits))
        (λ (most : MOST_LAUNCHES ≤ length launches). absurd (omega (arith, most, held.few, none, few-reports c p journal, short)))
        full

    pub launched-held : IsSoundAlone sound o → FailsFull room o (Some launches) (Some servers) → ((l : Launch) → Contains more l → Contains final l) → Reporting c p sound room earlier final s o journal more (with_launched s.tag o servers)
    launched-held alone full among = record {
      held = record {
        at = record {
          idle = held.at.idle;
          launched = λ n k x is own has. let old = held.at.launched n k x is own has in
              record { tag = old.tag; node = old.node; answered = Contains-append_left launches (record { tag = s.tag; outcome = o } ∷ []) (record { tag = old.tag; outcome = Outcome.Launched x }) old.answered };
          present = λ never n k x is own up has. let old = held.at.present never n k x is own up has in
              record { server = old.server; there = launched_stay s.tag o servers old.server old.there; node = old.node; number = old.number };
        };
        few = omega (arith, held.few, length-append launches (record { tag = s.tag; outcome = o } ∷ []));
        fits = omega (arith, held.fits, longer-servers s.tag o servers);
        made = made-now o;
        among = among;
      };
      started = started;
      answered = Contains-push launches (record { tag = s.tag; outcome = o });
      there = there-is o;
      alone = alone;
      late = late-is o full;
    }

  -- ## a removal

  module _ (held : Calm c p sound room earlier final journal launches servers) (x : ℕ) (unused : Never c p sound room earlier final → (n : NodeId) (k : NodeRecord) → node_in n (after c journal).nodes ≡ Some k → k.pool.0 ≡ p.0 → is_up k.state ≡ true → k.server ≡ Some x → ⊥) where
    abbrev left_now : List Server
    left_now = without_number x servers

    stays : (y : ℕ) (n : NodeId) → (y ≡ x → ⊥) → IsServerOf servers n y → IsServerOf left_now n y
    stays y n other is = record {
      server = is.server;
      there = ⊎_elim (λ there. there) (λ (goes : x ≡ is.server.number). absurd (other (sym (goes ∙ is.number)))) (leaves_one x servers is.server is.there);
      node = is.node;
      number = is.number;
    }

    pub removed-held : Calm c p sound room earlier final journal launches left_now
    removed-held = record {
      at = record {
        idle = held.at.idle;
        launched = held.at.launched;
        present = λ never n k y is own up has. stays y n (λ same. unused never n k is own up (has ∙ ap (λ (z : ℕ). Some z) same)) (held.at.present never n k y is own up has);
      };
      few = held.few;
      fits = omega (arith, held.fits, length-filter_at_most (λ (z : Server). not (z.number == x)) servers);
      made = λ s h. held.made s (filtered-member (λ (z : Server). not (z.number == x)) servers s h);
      among = held.among;
    }

  -- a node that is deleted has the server, so none that is up has
  deleting-down : (state : NodeState) → is_deleting state ≡ true → is_up state ≡ true → ⊥
  deleting-down state x1 x2 = grind (arith, nat_tests)

  pub going-unused : Calm c p sound room earlier final journal launches servers → (x : ℕ) → IsGoing c p sound room earlier final journal x → Never c p sound room earlier final → (n : NodeId) (k : NodeRecord) → node_in n (after c journal).nodes ≡ Some k → k.pool.0 ≡ p.0 → is_up k.state ≡ true → k.server ≡ Some x → ⊥
  going-unused held x going never n k is own up has =
      let first = held.at.launched going.number going.node x going.stands going.own going.server in
      let second = held.at.launched n k x is own has in
      let tags : first.tag ≡ second.tag = one-launch final first.tag second.tag x never (held.among (record { tag = first.tag; outcome = Outcome.Launched x }) first.answered) (held.among (record { tag = second.tag; outcome = Outcome.Launched x }) second.answered) in
      let same : going.number ≡ n = sym first.node ∙ (ap (λ (t : Tag). t.node) tags ∙ second.node) in
      let record_is : going.node ≡ k = same_Some going.node k (sym going.stands ∙ (ap (λ (m : NodeId). node_in m (after c journal).nodes) same ∙ is)) in
      deleting-down k.state (subst (λ (z : NodeRecord). is_deleting z.state ≡ true) record_is going.deleting) up

  -- nobody wants the server, so none that is up has it
  pub left-unused : Calm c p sound room earlier final journal launches servers → (x : ℕ) → IsLeft c p sound room earlier final journal servers x → Never c p sound room earlier final → (n : NodeId) (k : NodeRecord) → node_in n (after c journal).nodes ≡ Some k → k.pool.0 ≡ p.0 → is_up k.state ≡ true → k.server ≡ Some x → ⊥
  left-unused held x left never n k is own up has =
      let second = held.at.launched n k x is own has in
      let first : Contains launches (record { tag = left.server.tag; outcome = Outcome.Launched x }) = subst (λ (y : ℕ). Contains launches (record { tag = left.server.tag; outcome = Outcome.Launched y })) left.number (held.made left.server left.there) in
      let tags : left.server.tag ≡ second.tag = one-launch final left.server.tag second.tag x never (held.among (record { tag = left.server.tag; outcome = Outcome.Launched x }) first) (held.among (record { tag = second.tag; outcome = Outcome.Launched x }) second.answered) in
      let same : left.server.tag.node ≡ n = ap (λ (t : Tag). t.node) tags ∙ second.node in
      let unwanted : is_wanted (after c journal) n x ≡ false = subst (λ (m : NodeId). is_wanted (after c journal) m x ≡ false) same left.unwanted in
      let wanted : (is_building k.state || is_server x k.server) ≡ true = or_right (is_building k.state) (is_server x k.server) (ap (is_server x) has ∙ eq-eqb x x refl) in
      false≢true (sym unwanted ∙ (ap (λ (o : Option NodeRecord). option_map_or (λ (z : NodeRecord). is_building z.state || is_server x z.server) o false) is ∙ wanted))

-- ## the whole round of a pool's worker

-- what was seen before a turn begins what is seen after it
before-seen : (r : Option Entry) (before : List Entry) (v u : Sight Entry) → Records r before v u → StartsWith u.seen before
before-seen None before v u records = ([], records.0 ∙ sym (append-nil before))
before-seen (Some e) before v u records = (e ∷ [], records.0)

module _ {F : Type 0} (says : F → List Entry → Ask → Turn → Type 0) (f : F) where
  later-turn : (r : Option Entry) (before : List Entry) (v u : Sight Entry) (y : ℕ) → StartsWith before v.seen → Records r before v u → Contains u.mine y → Contains v.mine y ⊎ (length before ≤ y)
  later-turn None before v u y starts records there = inl (subst (λ (l : List ℕ). Contains l y) records.1 there)
  later-turn (Some e) before v u y starts records there = ⊎_elim (λ (old : Contains v.mine y). inl old) (λ (same : length before ≡ y). inr (omega (arith, same)))
      (Contains-push_cases v.mine (length before) y (subst (λ (l : List ℕ). Contains l y) records.1 there))

  -- a place that was gained after a sight is not in it
  late : (ms : List Move) (v w : Sight Entry) → Walk says f ms v w → (y : ℕ) → Contains w.mine y → Contains v.mine y ⊎ (length v.seen ≤ y)
  late [] v w walk y there = inl (subst (λ (l : List ℕ). Contains l y) walk.1 there)
  late (asked a t ∷ ms) v w walk y there = ⊎_elim
      (λ (old : Contains walk.0.mine y). ⊎_elim (λ was. inl was) (λ (new : length walk.1.0 ≤ y). inr (omega (arith, new, starts_length walk.1.0 v.seen walk.1.1))) (later-turn (recorded a t) walk.1.0 v walk.0 y walk.1.1 walk.1.3 old))
      (λ (new : length walk.0.seen ≤ y). inr (omega (arith, new, starts_length walk.0.seen v.seen (turn_seen says f a t v walk.0 walk.1))))
      (late ms walk.0 w walk.2 y there)
  late (move ∷ ms) v w walk y there = late ms v w walk y there

  -- no place before a turn that was not seen before is one's own
  none-between : (a : Ask) (t : Turn) (ms : List Move) (v w : Sight Entry) (walk : Walk says f (asked a t ∷ ms) v w) → AreBelow v → (y : ℕ) → length v.seen ≤ y → y < length walk.1.0 → Contains w.mine y → ⊥
  none-between a t ms v w walk early y least less there = ⊎_elim
      (λ (old : Contains walk.0.mine y). ⊎_elim
      (λ (was : Contains v.mine y). omega (arith, early y was, least))
      (λ (new : length walk.1.0 ≤ y). omega (arith, new, less))
      (later-turn (recorded a t) walk.1.0 v walk.0 y walk.1.1 walk.1.3 old))
      (λ (new : length walk.0.seen ≤ y). omega (arith, new, less, starts_length walk.0.seen walk.1.0 (before-seen (recorded a t) walk.1.0 v walk.0 walk.1.3)))
      (late ms walk.0 w walk.2 y there)

-- all places of one's own are of what was seen
pub walk-early : {F : Type 0} (says : F → List Entry → Ask → Turn → Type 0) (f : F) (ms : List Move) (v w : Sight Entry) → Walk says f ms v w → AreBelow v → AreBelow w
walk-early says f [] v w walk early y there = omega (arith, early y (subst (λ (l : List ℕ). Contains l y) walk.1 there), starts_length w.seen v.seen walk.0)
walk-early says f (asked a t ∷ ms) v w walk early y there = walk-early says f ms walk.0 w walk.2 (below-turn (recorded a t) walk.1.0 v walk.0 walk.1.1 walk.1.3 early) y there
walk-early says f (move ∷ ms) v w walk early y there = walk-early says f ms v w walk early y there

sees-of : (r : Option Entry) (before : List Entry) (v u : Sight Entry) → Records r before v u → Sees r before u.seen
sees-of None before v u records = records.0
sees-of (Some e) before v u records = records.0

-- ## the round

module _ (c : Configuration) (p : PoolId) (sound : List ℕ → Bool) (room earlier : ℕ) (final : List Launch) (least : ℕ) (whole : List Entry) (mine : List ℕ) where
  abbrev never : Type 0
  never = Never c p sound room earlier final

  -- the entries of others at their places, and what is known where one makes an entry
  pub record Surroundings : Type 0 where
    pub foreign : (x : List Entry) (e : Entry) → StartsWith whole (x ++ e ∷ []) → least ≤ length x → (Contains mine (length x) → ⊥) → IsForeign c p never x e
    pub ready : (x : List Entry) (e : Entry) → StartsWith whole (x ++ e ∷ []) → IsReady c x e
    pub short : length whole ≤ 262144

  module _ (around : Surroundings) where
    -- all entries of a part are others'
    pub part-foreign : (x more : List Entry) → StartsWith whole (x ++ more) → least ≤ length x → ((y : ℕ) → length x ≤ y → y < length (x ++ more) → Contains mine y → ⊥) → AreForeign c p never x more
    part-foreign x [] starts low none = tt
    part-foreign x (e ∷ more) starts low none =
        let same : (x ++ e ∷ []) ++ more ≡ x ++ (e ∷ more) = append_assoc x (e ∷ []) more in
        let next : StartsWith whole ((x ++ e ∷ []) ++ more) = subst (λ (l : List Entry). StartsWith whole l) (sym same) starts in
        let first : StartsWith whole (x ++ e ∷ []) = starts_on whole ((x ++ e ∷ []) ++ more) (x ++ e ∷ []) next (more, refl) in
        let long : length (x ++ e ∷ []) ≡ suc (length x) = omega (arith, length-append x (e ∷ [])) in (
          around.foreign x e first low (none (length x) (omega arith) (omega (arith, length-append x (e ∷ more)))),
          part-foreign (x ++ e ∷ []) more next (omega (arith, low, long)) (λ y from below. none y (omega (arith, from, long)) (omega (arith, below, ap length same))),
        )

    abbrev At' : Phase → List Entry → List Launch → List Server → Type 0
    At' ph journal launches servers = Stands c p sound room earlier final ph journal launches servers

    -- ## turns

    asked-stands : (ph : Phase) (a : Ask) (t : Turn) (ms : List Move) (v w : Sight Entry) (launches : List Launch) (servers : List Server) (walk : Walk (answers_of false) c (asked a t ∷ ms) v w) → w.mine ≡ mine → StartsWith whole w.seen → least ≤ length v.seen → AreBelow v → MayAsk ph a → AreAsksOf (of_pool p) (asked a t ∷ ms) → SweepsServers (asked a t ∷ ms) servers → At' ph v.seen launches servers
        → At' (after_turn ph a t) walk.0.seen launches servers
    asked-stands ph a t ms v w launches servers walk own all low early may asks swept stands =
        let before : List Entry = walk.1.0 in
        let upto : StartsWith walk.0.seen before = before-seen (recorded a t) before v walk.0 walk.1.3 in
        let later : StartsWith whole walk.0.seen = starts_on whole w.seen walk.0.seen all (walk_seen (answers_of false) c ms walk.0 w walk.2) in
        let there : StartsWith whole before = starts_on whole walk.0.seen before later upto in
        let gap : before ≡ v.seen ++ walk.1.1.0 = walk.1.1.1 in
        let foreign : AreForeign c p never v.seen walk.1.1.0 = part-foreign v.seen walk.1.1.0 (subst (λ (l : List Entry). StartsWith whole l) gap there) low
        (λ y from below is. none-between (answers_of false) c a t ms v w walk early y from (omega (arith, below, ap length gap)) (subst (λ (l : List ℕ). Contains l y) (sym own) is)) in
        let now : At' ph before launches servers = subst (λ (l : List Entry). At' ph l launches servers) (sym gap) (record { tells = tells-gap c p sound room earlier final v.seen walk.1.1.0 foreign stands.tells; rest = rest-gap c p sound room earlier final v.seen walk.1.1.0 foreign ph a launches servers may stands.rest }) in
        turn-stands c p sound room earlier final launches servers ph a t may before walk.0.seen asks.0 swept.0 (plain-answer c before a t walk.1.2) (sees-of (recorded a t) before v walk.0 walk.1.3)
        (λ e is. around.ready before e (starts_on whole walk.0.seen (before ++ e ∷ []) later
        (let seen : Sees (recorded a (Turn.Did e)) before walk.0.seen = subst (λ (x : Turn). Sees (recorded a x) before walk.0.seen) is (sees-of (recorded a t) before v walk.0 walk.1.3) in ([], seen ∙ sym (append-nil (before ++ e ∷ []))))))
        now

    -- ## launches and removals

    launch-stands : (ph : Phase) (tag : Tag) (o : Outcome) (journal : List Entry) (launches : List Launch) (servers : List Server) → StartsWith whole journal → MayLaunch ph tag → IsSoundAlone sound o → FailsFull room o (Some launches) (Some servers) → ((l : Launch) → Contains (with_launch tag o launches) l → Contains final l) → At' ph journal launches servers
        → At' (after_launch ph o) journal (with_launch tag o launches) (with_launched tag o servers)
    launch-stands (owes_launch pool m s) tag o journal launches servers starts may alone full among stands =
        let short : length journal ≤ 262144 = omega (arith, starts_length whole journal starts, around.short) in
        record {
          tells = stands.tells;
          rest = subst (λ (g : Tag). Rest c p sound room earlier final (owes_report pool m s o) journal (with_launch g o launches) (with_launched g o servers)) (sym may)
              (launched-held c p sound room earlier final journal launches servers s o short stands.rest.0 stands.rest.1 alone full (subst (λ (g : Tag). (l : Launch) → Contains (with_launch g o launches) l → Contains final l) may among));
        }
    launch-stands _ tag o journal launches servers starts may alone full among stands = absurd may

    removal-stands : (ph : Phase) (y : ℕ) (journal : List Entry) (launches : List Launch) (servers : List Server) → MayRemove ph y → At' ph journal launches servers → At' (after_removal ph) journal launches (without_number y servers)
    removal-stands (owes_due pool m x) y journal launches servers may stands = record {
      tells = stands.tells;
      rest = subst (λ (z : ℕ). Rest c p sound room earlier final (acts (Janitor pool) m) journal launches (without_number z servers)) (sym may)
          (removed-held c p sound room earlier final journal launches servers stands.rest.0 x (going-unused c p sound room earlier final journal launches servers stands.rest.0 x stands.rest.1));
    }
    removal-stands (owes_swept pool x) y journal launches servers may stands = record {
      tells = stands.tells;
      rest = subst (λ (z : ℕ). Rest c p sound room earlier final (sweeps pool) journal launches (without_number z servers)) (sym may)
          (removed-held c p sound room earlier final journal launches servers stands.rest.0 x (left-unused c p sound room earlier final journal launches servers stands.rest.0 x stands.rest.1));
    }
    removal-stands _ y journal launches servers may stands = absurd may

    -- ## the walk

    pub record Left (ph : Phase) (journal : List Entry) (launches : List Launch) (servers : List Server) : Type 0 where
      pub tells : Tells c p sound room earlier final journal
      pub leaves : Leaves c p sound room earlier final ph journal launches servers

    pub walk-stands : (ms : List Move) (ph q : Phase) (v w : Sight Entry) (launches : List Launch) (servers : List Server) → At' ph v.seen launches servers → Walk (answers_of false) c ms v w → Leads ph ms q → w.mine ≡ mine → StartsWith whole w.seen → least ≤ length v.seen → AreBelow v
        → AreAsksOf (of_pool p) ms → SweepsServers ms servers → AreSoundAlone sound ms → FailFull room ms (Some launches) (Some servers) → launches ++ launches_of ms ≡ final → Left q w.seen final (servers_after ms servers)
    walk-stands [] ph q v w launches servers stands walk leads own all low early asks swept alone full is =
        let gap : w.seen ≡ v.seen ++ walk.0.0 = walk.0.1 in
        let foreign : AreForeign c p never v.seen walk.0.0 = part-foreign v.seen walk.0.0 (subst (λ (l : List Entry). StartsWith whole l) gap all) low
        (λ y from below there. let old = early y (subst (λ (l : List ℕ). Contains l y) (sym own ∙ walk.1) there) in omega (arith, old, from)) in
        let same : launches ≡ final = sym (append-nil launches) ∙ is in
        subst (λ (l : List Entry). Left q l final servers) (sym gap) (record {
          tells = tells-gap c p sound room earlier final v.seen walk.0.0 foreign stands.tells;
          leaves = subst (λ (x : Phase). Leaves c p sound room earlier final x (v.seen ++ walk.0.0) final servers) leads
              (subst (λ (l : List Launch). Leaves c p sound room earlier final ph (v.seen ++ walk.0.0) l servers) same (leaves-later c p sound room earlier final v.seen walk.0.0 foreign ph launches servers (leaves-of c p sound room earlier final ph v.seen launches servers stands.rest)));
        })
    walk-stands (asked a t ∷ ms) ph q v w launches servers stands walk leads own all low early asks swept alone full is =
        walk-stands ms (after_turn ph a t) q walk.0 w launches servers (asked-stands ph a t ms v w launches servers walk own all low early leads.0 asks swept stands) walk.2 leads.1 own all
        (omega (arith, low, starts_length walk.0.seen v.seen (turn_seen (answers_of false) c a t v walk.0 walk.1))) (below-turn (recorded a t) walk.1.0 v walk.0 walk.1.1 walk.1.3 early) asks.1 swept.1 alone full is
    walk-stands (launched tag o ∷ ms) ph q v w launches servers stands walk leads own all low early asks swept alone full is =
        let more : with_launch tag o launches ++ launches_of ms ≡ final = append_assoc launches (record { tag = tag; outcome = o } ∷ []) (launches_of ms) ∙ is in
        walk-stands ms (after_launch ph o) q v w (with_launch tag o launches) (with_launched tag o servers)
        (launch-stands ph tag o v.seen launches servers (starts_on whole w.seen v.seen all (walk_seen (answers_of false) c ms v w walk)) leads.0 alone.0 full.0
        (λ l there. subst (λ (x : List Launch). Contains x l) more (Contains-append_left (with_launch tag o launches) (launches_of ms) l there)) stands)
        walk leads.1 own all low early asks swept alone.1 full.1 more
    walk-stands (removed x ∷ ms) ph q v w launches servers stands walk leads own all low early asks swept alone full is =
        walk-stands ms (after_removal ph) q v w launches (without_number x servers) (removal-stands ph x v.seen launches servers leads.0 stands) walk leads.1 own all low early asks swept alone full is

-- # a round, a tick and the start, for each pool with its driver

-- ## numbers of launches

distinct-first : (first rest : List ℕ) → DistinctNumbers (first ++ rest) → DistinctNumbers first
distinct-first [] rest distinct = tt
distinct-first (x ∷ first) rest distinct = (
  false_from_ne_true (is_number x first) (λ there. false≢true (sym distinct.0 ∙ (list_any-append (λ (y : ℕ). y == x) first rest ∙ or_left (is_number x first) (is_number x rest) there))),
  distinct-first first rest distinct.1,
)

-- fewer launches repeat no number either
fewer-distinct : (first rest : List Launch) → DistinctNumbers (numbers_in (outcomes (first ++ rest))) → DistinctNumbers (numbers_in (outcomes first))
fewer-distinct first rest distinct = distinct-first (numbers_in (outcomes first)) (numbers_in (outcomes rest))
    (subst DistinctNumbers (ap numbers_in (map-append (λ (l : Launch). l.outcome) first rest) ∙ numbers-append (outcomes first) (outcomes rest)) distinct)

-- ## from one form to the other

never-is : (d : Driving) (launches : List Launch) → d.facts.answered ≡ Some launches → NeverRepeats d → DistinctNumbers (numbers_in (outcomes launches))
never-is d launches is never = told (λ ls. DistinctNumbers (numbers_in (outcomes ls))) d.facts.answered launches is never

never-of : (d : Driving) (launches : List Launch) → d.facts.answered ≡ Some launches → DistinctNumbers (numbers_in (outcomes launches)) → NeverRepeats d
never-of d launches is distinct = subst (λ (o : Option (List Launch)). IfSome o (λ ls. DistinctNumbers (numbers_in (outcomes ls)))) (sym is) distinct

module _ (c : Configuration) (p : PoolId) (earlier : ℕ) (journal : List Entry) (d : Driving) where
  -- what a pool and its driver are known for, with more launches to come
  calm-of : (sound : List ℕ → Bool) (room : ℕ) (h : Hosts earlier c journal p d) (more : List Launch) → Calm c p sound room earlier (h.launches ++ more) journal h.launches h.servers
  calm-of sound room h more = record {
    at = record {
      idle = λ session n k may. h.idle session n k Outcome.Failed (launcher-role (after c journal) session p may.who) (report-accepted (after c journal) p session n k may);
      launched = h.launched;
      present = λ distinct. h.present (never-of d h.launches h.answered (fewer-distinct h.launches more distinct));
    };
    few = omega (arith, h.few);
    fits = omega (arith, h.fits);
    made = h.made;
    among = λ l there. Contains-append_left h.launches more l there;
  }

  tells-of : (h : Hosts earlier c journal p d) (final : List Launch) → Tells c p d.sound d.room earlier final journal
  tells-of h final = record { alone = h.carries.reports; failed = h.carries.failed }

  hosts-of : (sound : List ℕ → Bool) (room : ℕ) (launches : List Launch) (servers : List Server) → d.facts.answered ≡ Some launches → d.facts.servers ≡ Some servers → Carries earlier c journal p d → Calm c p sound room earlier launches journal launches servers → Hosts earlier c journal p d
  hosts-of sound room launches servers answered told carries calm = record {
    carries = carries;
    launches = launches;
    servers = servers;
    answered = answered;
    told = told;
    made = calm.made;
    idle = λ session n k o role accepted. calm.at.idle session n k (may-report (after c journal) p session n k accepted role);
    launched = calm.at.launched;
    present = λ never. calm.at.present (never-is d launches answered never);
    few = omega (arith, calm.few);
    fits = omega (arith, calm.fits);
  }

  -- the servers of the nodes that are up are sound for the driver
  nodes-sound : (launches : List Launch) (servers : List Server) → d.facts.answered ≡ Some launches → d.facts.servers ≡ Some servers → Soundness d.facts d.sound → Calm c p d.sound d.room earlier launches journal launches servers → NeverRepeats d → IsTrue (d.sound (servers_up p (after c journal).nodes))
  nodes-sound launches servers answered reported sound calm never =
      let rows : List NodeEntry = (after c journal).nodes in
      let rises = (holds-after c journal).numbered.nodes_rise in
      let distinct = never-is d launches answered never in
      up-sound p launches servers distinct d.sound rows rises
      (all-weaker (λ (e : NodeEntry). node_in e.id rows ≡ Some e.kept) (IsKnown p launches servers distinct)
      (λ e found. record { launched = λ x own has. calm.at.launched e.id e.kept x found own has; present = λ x own up has. calm.at.present distinct e.id e.kept x found own up has }) rows (found-rows rows rises))
      sound.fewer (told (λ some. IsTrue (d.sound (numbers_of some))) d.facts.servers servers reported sound.servers)

-- ## a round

module _ (c : Configuration) (history later : List Entry) (players now : List Player) (is_cut : Bool) (round : IsRound false c history later players now is_cut) (runs : Runs c later (after c later)) (have : HaveDriven c history players) where
  driven-now : DrivenBy (WasAnswered (drivings_of now)) c later
  driven-now = round-driven c history later players now is_cut round runs have

  module _ (p : PoolId) (earlier : ℕ) (d d' : Driving) (r : PoolRound false c history round.ends p.0 d d') (h : Hosts earlier c history p d) where
    work-is : r.player.work ≡ of_pool p
    work-is = r.work ∙ ap (λ (k : ℕ). let q : PoolId = record { 0 = k } in of_pool q) r.is_number

    abbrev final : List Launch
    final = h.launches ++ launches_of r.plays.trace

    abbrev left : List Server
    left = servers_after r.plays.trace h.servers

    answered-now : d'.facts.answered ≡ Some final
    answered-now = r.drives.answered ∙ ap (option_map (λ (ls : List Launch). ls ++ launches_of r.plays.trace)) h.answered

    seen-all : StartsWith later r.end.sight.seen
    seen-all = All-contains (λ (end : PlayerEnd). StartsWith later end.sight.seen) round.ends r.end round.seen r.there

    around : Surroundings c p d.sound d.room earlier final (length history) later r.end.sight.mine
    around = record {
      foreign = λ x e starts low other. is-foreign c history later players now is_cut round have driven-now p r.end r.there (r.plays.work ∙ work-is) x e starts.0 (starts.1 ∙ append_assoc x (e ∷ []) starts.0) low other (Never c p d.sound d.room earlier final);
      ready = λ x e starts. record {
        waits = waits-after (WasAnswered (drivings_of now)) c later x (e ∷ starts.0) driven-now (starts.1 ∙ append_assoc x (e ∷ []) starts.0);
        polite = polite-at (WasAnswered (drivings_of now)) c later x e starts.0 driven-now (starts.1 ∙ append_assoc x (e ∷ []) starts.0);
      };
      short = runs.short;
    }

    begins : Stands c p d.sound d.room earlier final (first_phase (of_pool p)) history h.launches h.servers
    begins = record { tells = tells-of c p earlier history d h final; rest = calm-of c p earlier history d d.sound d.room h (launches_of r.plays.trace) }

    walked : Left c p d.sound d.room earlier final (length history) later r.end.sight.mine around r.end.phase r.end.sight.seen final left
    walked =
        let leads : Leads (first_phase (of_pool p)) r.plays.trace r.end.phase = subst (λ (w : Work). Leads (first_phase w) r.plays.trace r.end.phase) work-is r.plays.led in
        walk-stands c p d.sound d.room earlier final (length history) later r.end.sight.mine around r.plays.trace (first_phase (of_pool p)) r.end.phase (fresh_sight history) r.end.sight h.launches h.servers begins r.plays.walked leads refl seen-all (omega arith) (λ y there. no-member y there)
        (asks_of (of_pool p) r.end.phase r.plays.trace leads)
        (told (SweepsServers r.plays.trace) d.facts.servers h.servers h.told r.drives.swept)
        (told (λ servers. AreSoundAlone d.sound r.plays.trace) d.facts.servers h.servers h.told r.drives.alone)
        (subst (λ (o : Option (List Server)). FailFull d.room r.plays.trace (Some h.launches) o) h.told (subst (λ (o : Option (List Launch)). FailFull d.room r.plays.trace o d.facts.servers) h.answered r.drives.full))
        refl

    -- nothing of one's own comes after what was seen
    early : (y : ℕ) → Contains r.end.sight.mine y → y < length r.end.sight.seen
    early = walk-early (answers_of false) c r.plays.trace (fresh_sight history) r.end.sight r.plays.walked (λ y there. no-member y there)

    long : length history ≤ length r.end.sight.seen
    long = let seen = walk_seen (answers_of false) c r.plays.trace (fresh_sight history) r.end.sight r.plays.walked in omega (arith, ap length seen.1, length-append history seen.0)

    rest-foreign : AreForeign c p (Never c p d.sound d.room earlier final) r.end.sight.seen seen-all.0
    rest-foreign = part-foreign c p d.sound d.room earlier final (length history) later r.end.sight.mine around r.end.sight.seen seen-all.0 ([], seen-all.1 ∙ sym (append-nil (r.end.sight.seen ++ seen-all.0))) long
        (λ y from below there. omega (arith, from, early y there))

    tells-now : Tells c p d.sound d.room earlier final later
    tells-now = subst (Tells c p d.sound d.room earlier final) (sym seen-all.1) (tells-gap c p d.sound d.room earlier final r.end.sight.seen seen-all.0 rest-foreign walked.tells)

    -- no tick is new
    nodes-now : NeverRepeats d' → (before rest : List Entry) (e : Entry) → later ≡ before ++ e ∷ rest → e.event ≡ Event.Tick → IsTrue (d'.sound (servers_up p (after c (before ++ e ∷ [])).nodes))
    nodes-now never before rest e is tick = ⊎_elim
        (λ (old : length before < length history).
        let z = old-entry c history later players now is_cut round have before e rest is old in
        subst (λ (f : List ℕ → Bool). IsTrue (f (servers_up p (after c (before ++ e ∷ [])).nodes))) (sym r.drives.sound) (h.carries.nodes (never-of d h.launches h.answered (fewer-distinct h.launches (launches_of r.plays.trace) (never-is d' final answered-now never))) before z.0 e z.1 tick))
        (λ (young : length history ≤ length before). absurd (false≢true (sym (round-no-tick c history later players now is_cut round runs have before e rest is young) ∙ ap is_tick tick)))
        (cases_lt (length before) (length history))

    pub round-carries : Carries earlier c later p d'
    round-carries = record {
      nodes = nodes-now;
      reports = subst (λ (f : List ℕ → Bool). AreAloneSound f (reports_of c p later)) (sym r.drives.sound) tells-now.alone;
      failed = λ none. subst (λ (k : ℕ). FailAfter k 0 (reports_of c p later)) (sym r.drives.room) (tells-now.failed none);
    }

    round-hosts : (IsCutOff r.end.phase → ⊥) → Hosts earlier c later p d'
    round-hosts uncut = hosts-of c p earlier later d' d.sound d.room final left answered-now (r.drives.servers ∙ ap (option_map (servers_after r.plays.trace)) h.told) round-carries
        (subst (λ (j : List Entry). Leaves c p d.sound d.room earlier final r.end.phase j final left) (sym seen-all.1) (leaves-later c p d.sound d.room earlier final r.end.sight.seen seen-all.0 rest-foreign r.end.phase final left walked.leaves) uncut)

  -- the pool's round, and its driver before
  round-at : (p : PoolId) (d' : Driving) → slice_get (drivings_of now) p.0 ≡ Some d' → (d : Driving) × (slice_get (drivings_of players) p.0 ≡ Some d) × PoolRound false c history round.ends p.0 d d'
  round-at p d' at = ⊎_elim
      (λ none. absurd (none-some d' (sym none.1 ∙ there)))
      (λ h. let same : 0 + p.0 ≡ p.0 = omega arith in (h.0, h.2, subst (λ (n : ℕ). PoolRound false c history round.ends n h.0 d') same (subst (PoolRound false c history round.ends (0 + p.0) h.0) (same_Some h.1 d' (sym h.3 ∙ there)) h.4)))
      (at-place false c history round.ends 0 players round.ends (λ end is. is) round.plays have.numbered p.0)
    where
      there : slice_get (drivings_of (map player_of round.ends)) p.0 ≡ Some d'
      there = subst (λ (ps : List Player). slice_get (drivings_of ps) p.0 ≡ Some d') (sym round.players_now) at

  carries-at : (earlier : Earlier) → HaveHosted earlier c history players → (p : PoolId) (d' : Driving) → slice_get (drivings_of now) p.0 ≡ Some d' → Carries (earlier p) c later p d'
  carries-at earlier hosted p d' at = let r = round-at p d' at in round-carries p (earlier p) r.0 d' r.2 (hosted.hosts p r.0 r.1)

  hosts-at : is_cut ≡ false → (earlier : Earlier) → HaveHosted earlier c history players → (p : PoolId) (d' : Driving) → slice_get (drivings_of now) p.0 ≡ Some d' → Hosts (earlier p) c later p d'
  hosts-at is earlier hosted p d' at =
      let r = round-at p d' at in
      round-hosts p (earlier p) r.0 d' r.2 (hosted.hosts p r.0 r.1) (All-contains (λ (end : PlayerEnd). IsCutOff end.phase → ⊥) round.ends r.2.end (round.uncut is) r.2.there)

-- after a round
pub round-hosted : (earlier : Earlier) (c : Configuration) (history later : List Entry) (players now : List Player) (is_cut : Bool) → IsRound false c history later players now is_cut → Runs c later (after c later) → HaveHosted earlier c history players → IsHosted earlier c is_cut later now
round-hosted earlier c history later players now true round runs hosted = carries-at c history later players now true round runs hosted.driven earlier hosted
round-hosted earlier c history later players now false round runs hosted = record {
  driven = round-have-driven c history later players now false round runs hosted.driven refl;
  hosts = hosts-at c history later players now false round runs hosted.driven refl earlier hosted;
}

-- ## a tick

-- what holds of each driver holds of a pool's
pub driver-at : (P : Driving → Type 0) (drivings : List Driving) → All P drivings → (i : ℕ) (d : Driving) → slice_get drivings i ≡ Some d → P d
driver-at P drivings all i d at = subst P (get_or_from_slice_get drivings i d d at) (All-get_or P drivings i d (slice_get_within drivings i d at) all)

module _ (c : Configuration) (journal : List Entry) (e : Entry) (tick : e.event ≡ Event.Tick) (says : Says) (driven : DrivenBy says c journal) where
  tick-foreign : (p : PoolId) (never : Type 0) → IsForeign c p never journal e
  tick-foreign p never = record {
    quiet = ap (reported p (turns c journal)) tick;
    maker = λ session makes role. absurd (none-some session (ap maker_of (sym tick) ∙ makes));
    waits = waits-after says c journal journal [] driven (sym (append-nil journal));
    polite = record { locks = λ by m locks. absurd (cc (tick, locks)) };
  }

  module _ (p : PoolId) (earlier : ℕ) (d : Driving) (sound : Soundness d.facts d.sound) (h : Hosts earlier c journal p d) where
    abbrev next-journal : List Entry
    next-journal = journal ++ e ∷ []

    tick-calm : Calm c p d.sound d.room earlier h.launches next-journal h.launches h.servers
    tick-calm = held-gap c p d.sound d.room earlier h.launches journal (e ∷ []) (tick-foreign p (Never c p d.sound d.room earlier h.launches), tt) nobody 0 0 h.launches h.servers
        (subst (λ (l : List Launch). Calm c p d.sound d.room earlier l journal h.launches h.servers) (append-nil h.launches) (calm-of c p earlier journal d d.sound d.room h []))

    tick-tells : Tells c p d.sound d.room earlier h.launches next-journal
    tick-tells = tells-gap c p d.sound d.room earlier h.launches journal (e ∷ []) (tick-foreign p (Never c p d.sound d.room earlier h.launches), tt) (tells-of c p earlier journal d h h.launches)

    tick-nodes : NeverRepeats d → (before rest : List Entry) (u : Entry) → next-journal ≡ before ++ u ∷ rest → u.event ≡ Event.Tick → IsTrue (d.sound (servers_up p (after c (before ++ u ∷ [])).nodes))
    tick-nodes never before rest u is ticks = ⊎_elim
        (λ (old : length before < length journal). let z = split-within before journal rest (e ∷ []) u (sym is) old in h.carries.nodes never before z.0 u z.1 ticks)
        (λ (young : length journal ≤ length before).
        let long : length journal ≡ length before = omega (arith, young, length-append journal (e ∷ []), length-append before (u ∷ rest), ap length is) in
        let same = same-split journal before [] rest e u is long in
        subst (λ (j : List Entry). IsTrue (d.sound (servers_up p (after c j).nodes))) (ap (λ (j : List Entry). j ++ e ∷ []) same.0 ∙ ap (λ (x : Entry). before ++ x ∷ []) same.1)
        (nodes-sound c p earlier next-journal d h.launches h.servers h.answered h.told sound tick-calm never))
        (cases_lt (length before) (length journal))

    tick-hosts : Hosts earlier c next-journal p d
    tick-hosts = hosts-of c p earlier next-journal d d.sound d.room h.launches h.servers h.answered h.told (record { nodes = tick-nodes; reports = tick-tells.alone; failed = tick-tells.failed }) tick-calm

  tick-at : (earlier : Earlier) (drivings : List Driving) → HaveSoundness drivings → ((p : PoolId) (d : Driving) → slice_get drivings p.0 ≡ Some d → Hosts (earlier p) c journal p d) → (p : PoolId) (d : Driving) → slice_get drivings p.0 ≡ Some d → Hosts (earlier p) c (journal ++ e ∷ []) p d
  tick-at earlier drivings sound hosts p d at = tick-hosts p (earlier p) d (driver-at (λ (x : Driving). Soundness x.facts x.sound) drivings sound p.0 d at) (hosts p d at)

-- after a tick
pub tick-hosted : (earlier : Earlier) (c : Configuration) (journal : List Entry) (e : Entry) (players : List Player) → e.event ≡ Event.Tick → HaveDriven c (journal ++ e ∷ []) players → HaveSoundness (drivings_of players) → HaveHosted earlier c journal players → HaveHosted earlier c (journal ++ e ∷ []) players
tick-hosted earlier c journal e players tick driven sound hosted = record {
  driven = driven;
  hosts = tick-at c journal e tick (WasAnswered (drivings_of players)) hosted.driven.driven earlier (drivings_of players) sound hosted.hosts;
}

-- without one
pub stop-hosted : (earlier : Earlier) (c : Configuration) (journal : List Entry) (players : List Player) → HaveHosted earlier c journal players → IsHosted earlier c true journal players
stop-hosted earlier c journal players hosted = λ p d at. (hosted.hosts p d at).carries

-- ## the start and the end

no-node : {P : Type 0} (c : Configuration) (n : NodeId) (k : NodeRecord) → node_in n (after c []).nodes ≡ Some k → P
no-node c n k is = absurd (none-some k is)

-- before the first launch a driver has no servers, and answered no more launches than are counted
begin-hosts : (c : Configuration) (p : PoolId) (earlier : ℕ) (d : Driving) (o : Option (List Launch)) → d.facts.answered ≡ o → IfSome o (λ launches. length launches ≤ earlier) → BeginsEmpty d.facts → Hosts earlier c [] p d
begin-hosts c p earlier d None is few b = absurd (false≢true (ap is_some (sym is) ∙ b.answered))
begin-hosts c p earlier d (Some launches) is few b = record {
  carries = record { nodes = λ never before rest e ends tick. absurd (omega (arith, ap length ends, length-append before (e ∷ rest))); reports = tt; failed = λ none. tt };
  launches = launches;
  servers = [];
  answered = is;
  told = b.servers;
  made = λ s there. no-member s there;
  idle = λ session n k o role accepted. let may = may-report (after c []) p session n k accepted role in no-node c n may.node may.stands;
  launched = λ n k x found own has. no-node c n k found;
  present = λ never n k x found own up has. no-node c n k found;
  few = omega (arith, few);
  fits = omega arith;
}

-- how many launches each driver has answered
abbrev pub count_answered : Option (List Launch) → ℕ
count_answered None = 0
count_answered (Some launches) = length launches

abbrev pub counted : List Driving → Earlier
counted drivings p = option_map_or (λ (d : Driving). count_answered d.facts.answered) (slice_get drivings p.0) 0

pub begin-counted : (drivings : List Driving) → All (λ (d : Driving). BeginsEmpty d.facts) drivings → BeginAfter (counted drivings) drivings
begin-counted drivings all p d at = (
  subst (λ (n : ℕ). IfSome d.facts.answered (λ launches. length launches ≤ n)) (sym (ap (λ (o : Option Driving). option_map_or (λ (x : Driving). count_answered x.facts.answered) o 0) at)) (few d.facts.answered),
  driver-at (λ (x : Driving). BeginsEmpty x.facts) drivings all p.0 d at,
) where
  few : (o : Option (List Launch)) → IfSome o (λ launches. length launches ≤ count_answered o)
  few None = tt
  few (Some launches) = omega arith

pub begin-new : (drivings : List Driving) → All (λ (d : Driving). BeginsNew d.facts) drivings → BeginAfter (λ p. 0) drivings
begin-new drivings all p d at =
    let b : BeginsNew d.facts = driver-at (λ (x : Driving). BeginsNew x.facts) drivings all p.0 d at in (
      subst (λ (o : Option (List Launch)). IfSome o (λ launches. length launches ≤ 0)) (sym b.answered) (omega arith),
      record { answered = ap is_some b.answered; servers = b.servers },
    )

-- before the first round
pub begin-hosted : (earlier : Earlier) (c : Configuration) (players : List Player) → HaveDriven c [] players → BeginAfter earlier (drivings_of players) → HaveHosted earlier c [] players
begin-hosted earlier c players driven begin = record {
  driven = driven;
  hosts = λ p d at. let b = begin p d at in begin-hosts c p (earlier p) d d.facts.answered refl b.0 b.1;
}

hosted-carries : (earlier : Earlier) (c : Configuration) (full : Bool) (journal : List Entry) (players : List Player) → IsHosted earlier c full journal players → (p : PoolId) (d : Driving) → slice_get (drivings_of players) p.0 ≡ Some d → Carries (earlier p) c journal p d
hosted-carries earlier c true journal players hosted p d at = hosted p d at
hosted-carries earlier c false journal players hosted p d at = (hosted.hosts p d at).carries

-- after the last
pub are-carried : (earlier : Earlier) (c : Configuration) (full : Bool) (journal : List Entry) (players : List Player) → IsHosted earlier c full journal players → AreCarried c journal (drivings_of players)
are-carried earlier c full journal players hosted = record {
  nodes = λ p d at. (hosted-carries earlier c full journal players hosted p d at).nodes;
  reports = λ p d at. (hosted-carries earlier c full journal players hosted p d at).reports;
}

pub fail-only-full : (c : Configuration) (full : Bool) (journal : List Entry) (players : List Player) → IsHosted (λ p. 0) c full journal players → FailOnlyFull c journal (drivings_of players)
fail-only-full c full journal players hosted = record { failed = λ p d at. (hosted-carries (λ q. 0) c full journal players hosted p d at).failed refl }

-- what the laws state, under a name that an attribute can give
pub ruleset hosted_laws = (are-carried, fail-only-full)
