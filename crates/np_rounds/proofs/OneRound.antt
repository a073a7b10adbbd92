-- a round of all crews is a round of their players
use Rattle.np_rounds.proofs.Prelude.{All, All-cons, All-head, All-nil, All-tail, All-weaker, Answered, AreBack, AreGiven, AreRising, Ask, Bool, Configuration, Contains, Crew, CrewEnd, CrewPlays, DeskView, DidEnd, DriverFacts, Driving, EachPlaysFrom, EndsAs, Entry, Err, Event, HaveRounds, IfOk, IfOk-weaker, IfSome, IsBack, IsCutOff, IsFull, IsMade, IsOf, IsPlayedRound, IsRound, IsRoundAtBoard, IsTick, IsUncut, Leads, List, MatchBool, Move, NoMemory, None, Ok, Option, Origin, Outcome, OwesRemoval, Pairwise, Part, PassView, Phase, Plan, Player, PlayerEnd, PlaysFrom, PoolId, Rests, Result, Role, RoundEnd, Seat, Sight, Some, Start, StartsWith, Stops, Together, TookBack, Turn, Walk, Work, Worker, acting, acts, added, after_entry, after_launch, after_removal, after_role, after_start, after_turn, allowed-walk, answers, answers_of, ap, append-nil, arith, asked, at_board, by_bool, cond, crew_players, dec_le, dite, driving_of, drop, end_players, ended, eq-eqb, eqb, false, first_phase, given_pass, inl, inr, is_full, is_full_end, is_unwanted, launched, length, length-append, length-none, length-rest, looks, map, merged, merged_ends, nat_lt, nat_tests, ne_eqb, of_pool, of_reaper, of_requester, or_cases, or_parts, owes_launch, owes_report, owes_swept, places, player_of, players_of, recorded, refl, removed, sight_of, some_full, split_pass, start_of, starts_more, starts_on, starts_same, subst, suc, sweeps, sym, times, times_merged, true, with_end, with_place, work_of, zero, ℕ, ℕ_discrete, [], ⊎_elim, ◌++◌, ◌+◌, ◌<◌, ◌||◌, ◌∙◌, ◌∷◌, ◌≡◌, ◌≤◌, ◌⊎◌}
use Rattle.np_rounds.proofs.Players.{players-push}

-- # Places of several passes together, and how long histories are.

-- ## lists

pub contains_there : {X : Type 0} (x y : X) (xs : List X) → Contains xs x → Contains (y ∷ xs) x
contains_there x y xs h = (suc h.0, omega (arith, h.1), h.2)

-- ## places

abbrev one_if : Bool → ℕ
one_if b = cond b 1 0

pub times_contains : (x : ℕ) (xs : List ℕ) → 0 < times x xs → Contains xs x
times_contains x [] h = absurd (omega (arith, h))
times_contains x (y ∷ ys) h = dite (ℕ_discrete x y)
    (λ e. (0, omega arith, sym e))
    (λ ne. contains_there x y ys (times_contains x ys (omega (arith, h, ap one_if (ne_eqb x y ne)))))

-- of the places of two passes each is one's or the other's
pub of_either : (x : ℕ) (xs ys : List ℕ) → 0 < times x (merged xs ys) → (0 < times x xs) ⊎ (0 < times x ys)
of_either x xs ys h = dite (dec_le 1 (times x ys))
    (λ some. inr (omega (arith, some)))
    (λ none. inl (omega (arith, h, none, times_merged x xs ys)))

length_with : (x : ℕ) (ys : List ℕ) → length (with_place x ys) ≡ suc (length ys)
length_with x [] = refl
length_with x (y ∷ ys) = grind (arith, length_with x ys)

pub length_merged : (xs ys : List ℕ) → length (merged xs ys) ≡ length xs + length ys
length_merged xs [] = omega arith
length_merged xs (y ∷ ys) = omega (arith, length_merged (with_place y xs) ys, length_with y xs)

-- rising places are below their end
pub below_end : (x from end : ℕ) (xs : List ℕ) → AreRising from xs end → 0 < times x xs → x < end
below_end x from end [] h some = absurd (omega (arith, some))
below_end x from end (y ∷ ys) h some = dite (ℕ_discrete x y)
    (λ e. omega (arith, e, h.1))
    (λ ne. below_end x (suc y) end ys h.2 (omega (arith, some, ap one_if (ne_eqb x y ne))))

-- ## histories

length_places : {E : Type 0} (n : ℕ) (l : List E) → length (places n l) ≡ length l
length_places n [] = refl
length_places n (e ∷ es) = ap suc (length_places (suc n) es)

-- each place of what was added is among the added ones
place_there : {E : Type 0} (x n : ℕ) (l : List E) → n ≤ x → x < n + length l → 0 < times x (places n l)
place_there x n [] from to = absurd (omega (arith, from, to))
place_there x n (e ∷ es) from to = dite (ℕ_discrete x n)
    (λ same. omega (arith, ap one_if (eq-eqb x x refl), ap (λ (k : ℕ). one_if (eqb x k)) same))
    (λ other. omega (arith, place_there x (suc n) es (omega (arith, from, other)) (omega (arith, to))))

pub no_shorter : {E : Type 0} (first later : List E) → StartsWith later first → length first ≤ length later
no_shorter first later h = omega (arith, ap length h.1, length-append first h.0)

pub length_added : {E : Type 0} (first later : List E) → StartsWith later first → length first + length (added first later) ≡ length later
length_added first later h =
    omega (arith, length_places (length first) (drop (length first) later), length-rest (length first) later (no_shorter first later h))

pub added_there : {E : Type 0} (x : ℕ) (first later : List E) → StartsWith later first → length first ≤ x → x < length later → 0 < times x (added first later)
added_there x first later h from to =
    place_there x (length first) (drop (length first) later) from (omega (arith, to, length-rest (length first) later (no_shorter first later h)))

pub same_length : {E : Type 0} (seen later : List E) → StartsWith later seen → length later ≡ length seen → later ≡ seen
same_length seen later h same =
    h.1 ∙ (ap (λ (l : List _). seen ++ l) (length-none h.0 (omega (arith, same, ap length h.1, length-append seen h.0))) ∙ append-nil seen)

-- if as many places were added, the history is the same
pub same_history : {E : Type 0} (first seen later : List E) → StartsWith seen first → StartsWith later seen → StartsWith later first → length (added first later) ≡ length (added first seen) → later ≡ seen
same_history first seen later h k j same =
    same_length seen later k (omega (arith, same, length_added first seen h, length_added first later j))

-- # A round that led to its end had a turn that found the journal full.

-- the round goes on
abbrev pub GoesOn : Phase → Type 0
GoesOn ended = ⊥
GoesOn _ = Unit {0}

role_goes : (r : Role) → GoesOn (after_role r)
role_goes (Role.Launcher p) = tt
role_goes other = tt

acting_goes : (r : Role) (n : ℕ) → GoesOn (acting r n)
acting_goes r zero = role_goes r
acting_goes (Role.Launcher p) (suc n) = tt
acting_goes other (suc n) = tt

start_goes : (p : PoolId) (n : ℕ) (o : Option Start) → GoesOn (after_start p n o)
start_goes p n None = acting_goes (Role.Launcher p) n
start_goes p n (Some s) = tt

entry_goes : (r : Role) (n : ℕ) (e : Entry) → GoesOn (after_entry r n e)
entry_goes (Role.Launcher p) n e = start_goes p n (start_of p e)
entry_goes (Role.Janitor p) n e = acting_goes (Role.Janitor p) n
entry_goes (Role.Requester q) n e = acting_goes (Role.Requester q) n
entry_goes Role.Reaper n e = acting_goes Role.Reaper n

sweep_goes : (p : PoolId) (x : ℕ) (b : Bool) → GoesOn (cond b (owes_swept p x) (sweeps p))
sweep_goes p x true = tt
sweep_goes p x false = tt

first_goes : (w : Work) → GoesOn (first_phase w)
first_goes (of_pool p) = acting_goes (Role.Launcher p) 16
first_goes (of_requester q) = acting_goes (Role.Requester q) 16
first_goes of_reaper = acting_goes Role.Reaper 16

-- a turn lets the round go on, or finds the journal full
abbrev GoesOrFull : Phase → Turn → Type 0
GoesOrFull p t = GoesOn p ⊎ (t ≡ Turn.Full)

turn_goes : (p : Phase) (a : Ask) (t : Turn) → GoesOn p → GoesOrFull (after_turn p a t) t
turn_goes (acts r n) a (Turn.Did e) g = inl (entry_goes r n e)
turn_goes (acts r n) a Turn.Full g = inr refl
turn_goes (acts r n) a t g = inl (role_goes r)
turn_goes (owes_report p n s o) a Turn.Full g = inr refl
turn_goes (owes_report p n s o) a t g = inl (acting_goes (Role.Launcher p) n)
turn_goes (looks p n) a Turn.Full g = inr refl
turn_goes (looks p n) a (Turn.DueNode node None) g = inl tt
turn_goes (looks p n) a (Turn.DueNode node (Some x)) g = inl tt
turn_goes (sweeps p) a (Turn.Did e) g = inl (sweep_goes p _ (is_unwanted (Turn.Did e)))
turn_goes (sweeps p) a Turn.Full g = inr refl
turn_goes ended a t g = absurd g
turn_goes p a t g = inl tt

launch_goes : (p : Phase) (o : Outcome) → GoesOn p → GoesOn (after_launch p o)
launch_goes ended o g = g
launch_goes p o g = tt

removal_goes : (p : Phase) → GoesOn p → GoesOn (after_removal p)
removal_goes ended g = g
removal_goes p g = tt

-- a history without room has none after it has grown
pub full_later : (later seen : List Entry) → StartsWith later seen → IsFull seen → IsFull later
full_later later seen h full = omega (arith, full, ap length h.1, length-append seen h.0)

module _ (plans : Bool) (c : Configuration) where
  -- if the answer is that there is no room, there was none
  full_answer : (before : List Entry) (a : Ask) → answers_of plans c before a Turn.Full → IsFull before
  full_answer before (Ask.Act r) h = h.1
  full_answer before (Ask.Do e) h = h
  full_answer before (Ask.Due p) h = absurd h
  full_answer before (Ask.Sweep p n x) h = h.2

  pub full_turn : (v w : Sight Entry) (a : Ask) → Answered (answers_of plans) recorded c v a Turn.Full w → IsFull w.seen
  full_turn v w a h = subst IsFull (sym h.3.0) (full_answer h.0 a h.2)

  -- what is seen of the history only grows
  pub grows_turn : (v w : Sight Entry) (a : Ask) (t : Turn) → Answered (answers_of plans) recorded c v a t w → StartsWith w.seen v.seen
  grows_turn v w a (Turn.Did e) h = subst (λ (l : List Entry). StartsWith l v.seen) (sym h.3.0) (starts_more h.0 v.seen (e ∷ []) h.1)
  grows_turn v w a other h = subst (λ (l : List Entry). StartsWith l v.seen) (sym h.3.0) h.1

  pub grows : (trace : List Move) (v w : Sight Entry) → Walk (answers_of plans) c trace v w → StartsWith w.seen v.seen
  grows [] v w h = h.0
  grows (asked a t ∷ ms) v w h = starts_on w.seen h.0.seen v.seen (grows ms h.0 w h.2) (grows_turn v h.0 a t h.1)
  grows (launched tag o ∷ ms) v w h = grows ms v w h
  grows (removed x ∷ ms) v w h = grows ms v w h

  -- only such an answer leads to the phase in which a round ends
  pub full_end : (p : Phase) (trace : List Move) (v w : Sight Entry) → GoesOn p → Leads p trace ended → Walk (answers_of plans) c trace v w → IsFull w.seen
  full_end p [] v w g l h = absurd (subst GoesOn l g)
  full_end p (asked a t ∷ ms) v w g l h = ⊎_elim
      (λ (on : GoesOn (after_turn p a t)). full_end (after_turn p a t) ms h.0 w on l.1 h.2)
      (λ (is : t ≡ Turn.Full). full_later w.seen h.0.seen (grows ms h.0 w h.2) (full_turn v h.0 a (subst (λ (x : Turn). Answered (answers_of plans) recorded c v a x h.0) is h.1)))
      (turn_goes p a t g)
  full_end p (launched tag o ∷ ms) v w g l h = full_end (after_launch p o) ms v w (launch_goes p o g) l.1 h
  full_end p (removed x ∷ ms) v w g l h = full_end (after_removal p) ms v w (removal_goes p g) l.1 h

-- # What a crew's round leaves of its pass.

matched : (full : Bool) (P Q : Type 0) → MatchBool full P Q → (full ≡ true → P) × (full ≡ false → Q)
matched true P Q h = ((λ _. h), λ is. absurd cc)
matched false P Q h = ((λ is. absurd cc), λ _. h)

module _ (plans : Bool) {D : Type 0} (facts : D → DriverFacts) (plan : D → Plan) (sound : D → List ℕ → Bool) (room : D → ℕ) where
  ends_full : (desk : DeskView Configuration Entry) (crew : Crew D Seat) (e : CrewEnd D Seat) → CrewPlays plans facts plan sound room desk crew e → (r : Result RoundEnd NoMemory) → e.end ≡ r → IfOk r (λ end. end.full ≡ true → IsFull e.crew.pass.seen)
  ends_full desk crew e h (Err fault) is = tt
  ends_full desk crew e h (Ok end) is = λ full.
      let before = driving_of facts plan sound room crew.worker in let now = driving_of facts plan sound room e.crew.worker in
      let ends = subst (λ (r : Result RoundEnd NoMemory). EndsAs (work_of crew.worker) before now r h.round.trace h.round.to) is h.round.holds in
      let to = (matched end.full (h.round.to ≡ ended) (Rests (work_of crew.worker) before now h.round.trace h.round.to) ends).0 full in
      full_end plans desk.origin.fixed (first_phase (work_of crew.worker)) h.round.trace (sight_of crew.pass) (sight_of e.crew.pass) (first_goes (work_of crew.worker))
      (subst (λ (p : Phase). Leads (first_phase (work_of crew.worker)) h.round.trace p) to h.round.led) h.round.walked

  pub with_no_places : (r : Result RoundEnd NoMemory) (mine later : List ℕ) → mine ≡ [] → IfOk r (λ end. length later ≡ length mine + end.entries) → IfOk r (λ end. length later ≡ end.entries)
  with_no_places r mine later none h = IfOk-weaker r _ _ (λ end is. omega (arith, is, ap length none)) h

  back_of : (desk : DeskView Configuration Entry) (p : PassView Configuration Entry) (n : ℕ) (crew : Crew D Seat) (e : CrewEnd D Seat) → crew.pass ≡ given_pass n p → CrewPlays plans facts plan sound room desk crew e → IsBack desk n e
  back_of desk p n crew e given h = record {
    own = h.own;
    part = h.part ∙ ap (λ (q : PassView Configuration Entry). q.part) given;
    entries = with_no_places e.end crew.pass.mine e.crew.pass.mine (ap (λ (q : PassView Configuration Entry). q.mine) given) h.entries;
    full = ends_full desk crew e h e.end refl;
  }

  pub are_back : (desk : DeskView Configuration Entry) (p : PassView Configuration Entry) (n : ℕ) (crews : List (Crew D Seat)) (ends : List (CrewEnd D Seat)) → AreGiven p n crews → Pairwise (CrewPlays plans facts plan sound room desk) crews ends → AreBack desk n ends
  are_back desk p n [] [] given h = tt
  are_back desk p n (c ∷ crews) (e ∷ ends) given h = (back_of desk p n c e given.0 h.0, are_back desk p (suc n) crews ends given.1 h.1)
  are_back desk p n _ _ given h = absurd h

-- # Crews that come back one after another.

-- ## the sum of a round

none_there : (n : ℕ) → nat_lt 0 n ≡ false → n ≡ 0
none_there n h = grind (arith, nat_tests)

some_there : (n : ℕ) → nat_lt 0 n ≡ true → 0 < n
some_there n h = grind (arith, nat_tests)

-- one round more in the sum
record OneMore (s t : Together) (r : Result RoundEnd NoMemory) : Type 0 where
  pub end : RoundEnd
  pub is : r ≡ Ok end
  pub moved : t.moved ≡ (s.moved || nat_lt 0 end.entries)
  pub full : t.full ≡ (s.full || end.full)

one_more : (s t : Together) (r : Result RoundEnd NoMemory) → Ok t ≡ with_end s r → OneMore s t r
one_more s t (Err fault) is = absurd cc
one_more s t (Ok end) is =
    let same : t ≡ record { moved = s.moved || nat_lt 0 end.entries; full = s.full || end.full } = cc in
    record { end = end; is = refl; moved = ap (λ (x : Together). x.moved) same; full = ap (λ (x : Together). x.full) same }

-- ## crews

module _ {D : Type 0} (facts : D → DriverFacts) (plan : D → Plan) (sound : D → List ℕ → Bool) (room : D → ℕ) where
  pub took_none : (p : PassView Configuration Entry) (ws : List (Worker D)) → TookBack facts plan sound room p p ws ws (record { moved = false; full = false }) []
  took_none p ws = record {
    seen = starts_same p.seen;
    told = All-nil (λ (e : CrewEnd D Seat). StartsWith p.seen e.crew.pass.seen);
    mine = refl;
    still = λ _. refl;
    moved = λ h. absurd cc;
    full = λ h. absurd cc;
    uncut = λ _. All-nil IsUncut;
    ended = All-nil DidEnd;
    whether = refl;
    players = refl;
  }

  module _ (desk : DeskView Configuration Entry) (n : ℕ) (old mid new : PassView Configuration Entry) (e : CrewEnd D Seat) (s t : Together) (back : IsBack desk n e) (mine : new.mine ≡ merged mid.mine e.crew.pass.mine) (one : OneMore s t e.end) where
    entries : length e.crew.pass.mine ≡ one.end.entries
    entries = subst (λ (r : Result RoundEnd NoMemory). IfOk r (λ end. length e.crew.pass.mine ≡ end.entries)) one.is back.entries

    more_mine : length new.mine ≡ length mid.mine + length e.crew.pass.mine
    more_mine = ap length mine ∙ length_merged mid.mine e.crew.pass.mine

    more_still : (s.moved ≡ false → mid.mine ≡ old.mine) → t.moved ≡ false → new.mine ≡ old.mine
    more_still had still =
        let parts = or_parts s.moved (nat_lt 0 one.end.entries) (sym one.moved ∙ still) in
        mine ∙ (ap (merged mid.mine) (length-none e.crew.pass.mine (entries ∙ none_there one.end.entries parts.1)) ∙ had parts.0)

    more_moved : (s.moved ≡ false → mid.mine ≡ old.mine) → (s.moved ≡ true → length old.mine < length mid.mine) → t.moved ≡ true → length old.mine < length new.mine
    more_moved same had moved = ⊎_elim
        (λ (before : s.moved ≡ true). omega (arith, had before, more_mine))
        (λ (now : nat_lt 0 one.end.entries ≡ true). by_bool (λ _. length old.mine < length new.mine) s.moved
        (λ is. omega (arith, had is, more_mine)) (λ is. omega (arith, some_there one.end.entries now, entries, more_mine, ap length (same is))))
        (or_cases s.moved (nat_lt 0 one.end.entries) (sym one.moved ∙ moved))

    more_full : StartsWith new.seen mid.seen → StartsWith new.seen e.crew.pass.seen → (s.full ≡ true → IsFull mid.seen) → t.full ≡ true → IsFull new.seen
    more_full seen told had full = ⊎_elim
        (λ (before : s.full ≡ true). full_later new.seen mid.seen seen (had before))
        (λ (now : one.end.full ≡ true). full_later new.seen e.crew.pass.seen told
        (subst (λ (r : Result RoundEnd NoMemory). IfOk r (λ end. end.full ≡ true → IsFull e.crew.pass.seen)) one.is back.full now))
        (or_cases s.full one.end.full (sym one.full ∙ full))

  -- one crew more came back
  pub took_more : (desk : DeskView Configuration Entry) (n : ℕ) (old mid new : PassView Configuration Entry) (ws ws' ws'' : List (Worker D)) (s t : Together) (ends : List (CrewEnd D Seat)) (e : CrewEnd D Seat)
      → TookBack facts plan sound room old mid ws ws' s ends → IsBack desk n e → StartsWith new.seen mid.seen → StartsWith new.seen e.crew.pass.seen → new.mine ≡ merged mid.mine e.crew.pass.mine → Ok t ≡ with_end s e.end → ws'' ≡ ws' ++ e.crew.worker ∷ []
      → TookBack facts plan sound room old new ws ws'' t (e ∷ ends)
  took_more desk n old mid new ws ws' ws'' s t ends e had back seen told mine sum more =
      let one = one_more s t e.end sum in record {
        seen = starts_on new.seen mid.seen old.seen seen had.seen;
        told = All-cons (λ (x : CrewEnd D Seat). StartsWith new.seen x.crew.pass.seen) e ends told
            (All-weaker (λ (x : CrewEnd D Seat). StartsWith mid.seen x.crew.pass.seen) (λ (x : CrewEnd D Seat). StartsWith new.seen x.crew.pass.seen)
            (λ x h. starts_on new.seen mid.seen x.crew.pass.seen seen h) ends had.told);
        mine = mine ∙ ap (λ (l : List ℕ). merged l e.crew.pass.mine) had.mine;
        still = more_still desk n old mid new e s t back mine one had.still;
        moved = more_moved desk n old mid new e s t back mine one had.still had.moved;
        full = more_full desk n old mid new e s t back mine one seen told had.full;
        uncut = λ room. let parts = or_parts s.full one.end.full (sym one.full ∙ room) in
            All-cons IsUncut e ends (one.end, one.is, parts.1) (had.uncut parts.0);
        ended = All-cons DidEnd e ends (one.end, one.is) had.ended;
        whether = one.full ∙ (ap (λ (b : Bool). b || one.end.full) had.whether ∙ ap (λ (b : Bool). some_full ends || b) (sym (ap is_full_end one.is)));
        players = ap (players_of facts plan sound room) more ∙ (players-push facts plan sound room ws' e.crew.worker ∙ ap (λ (l : List Player). player_of facts plan sound room e.crew.worker ∷ l) had.players);
      }

-- # A round of all crews is a round of their players.

-- ## reports

-- a worker that rests owes no report
no_report : (p : Phase) → OwesRemoval p → IsCutOff p → ⊥
no_report (owes_launch pool n s) owes report = owes
no_report (owes_report pool n s o) owes report = owes
no_report ended owes report = owes
no_report p owes report = report

rests_reported : (work : Work) (before now : Option Driving) (trace : List Move) (to : Phase) → Rests work before now trace to → IsCutOff to → ⊥
rests_reported (of_pool pool) before now trace to h report = ⊎_elim
    (λ done. subst IsCutOff done.0 report)
    (λ failed. no_report to failed.0 report)
    h
rests_reported (of_requester q) before now trace to h report = subst IsCutOff h report
rests_reported of_reaper before now trace to h report = subst IsCutOff h report

-- ## players

module _ (plans : Bool) {D : Type 0} (facts : D → DriverFacts) (plan : D → Plan) (sound : D → List ℕ → Bool) (room : D → ℕ) (desk : DeskView Configuration Entry) where
  abbrev player_end : (crew : Crew D Seat) (e : CrewEnd D Seat) → CrewPlays plans facts plan sound room desk crew e → PlayerEnd
  player_end crew e h = record { player = player_of facts plan sound room e.crew.worker; sight = sight_of e.crew.pass; phase = h.round.to }

  abbrev round_ends : (crews : List (Crew D Seat)) (ends : List (CrewEnd D Seat)) → Pairwise (CrewPlays plans facts plan sound room desk) crews ends → List PlayerEnd
  round_ends [] [] h = []
  round_ends [] (e ∷ ends) h = absurd h
  round_ends (crew ∷ crews) [] h = absurd h
  round_ends (crew ∷ crews) (e ∷ ends) h = player_end crew e h.0 ∷ round_ends crews ends h.1

  abbrev plays_from : (p : PassView Configuration Entry) (n : ℕ) (crew : Crew D Seat) (e : CrewEnd D Seat) → crew.pass ≡ given_pass n p → (h : CrewPlays plans facts plan sound room desk crew e) → PlaysFrom plans desk.origin.fixed p.seen (player_of facts plan sound room crew.worker) (player_end crew e h)
  plays_from p n crew e given h = record {
    trace = h.round.trace;
    walked = subst (λ (v : Sight Entry). Walk (answers_of plans) desk.origin.fixed h.round.trace v (sight_of e.crew.pass)) (ap sight_of given) h.round.walked;
    drove = h.round.drove;
    led = h.round.led;
    work = h.work;
  }

  each_plays : (p : PassView Configuration Entry) (n : ℕ) (crews : List (Crew D Seat)) (ends : List (CrewEnd D Seat)) → AreGiven p n crews → (h : Pairwise (CrewPlays plans facts plan sound room desk) crews ends) → EachPlaysFrom plans desk.origin.fixed p.seen (crew_players facts plan sound room crews) (round_ends crews ends h)
  each_plays p n [] [] given h = tt
  each_plays p n (crew ∷ crews) (e ∷ ends) given h = (plays_from p n crew e given.0 h.0, each_plays p (suc n) crews ends given.1 h.1)
  each_plays p n _ _ given h = absurd h

  -- the crew's worker played a round at the board
  one_at_board : (p : PassView Configuration Entry) (n : ℕ) (crew : Crew D Seat) (e : CrewEnd D Seat) (given : crew.pass ≡ given_pass n p) (h : CrewPlays plans facts plan sound room desk crew e) (is : RoundEnd) → e.end ≡ Ok is → IsRoundAtBoard plans desk.origin.fixed p.seen (player_of facts plan sound room crew.worker) (player_end crew e h) (Ok is)
  one_at_board p n crew e given h is came =
      let before = driving_of facts plan sound room crew.worker in let now = driving_of facts plan sound room e.crew.worker in
      at_board plans desk.origin.fixed p.seen (player_of facts plan sound room crew.worker) (player_end crew e h) (plays_from p n crew e given h) (Ok is)
      (subst (λ (r : Result RoundEnd NoMemory). EndsAs (work_of crew.worker) before now r h.round.trace h.round.to) came h.round.holds)
      (sym (subst (λ (r : Result RoundEnd NoMemory). IfOk r (λ end. length e.crew.pass.mine ≡ end.entries)) came
      (with_no_places plans facts plan sound room e.end crew.pass.mine e.crew.pass.mine (ap (λ (q : PassView Configuration Entry). q.mine) given) h.entries)))

  -- so did each of them
  have_rounds : (p : PassView Configuration Entry) (n : ℕ) (crews : List (Crew D Seat)) (ends : List (CrewEnd D Seat)) → AreGiven p n crews → (h : Pairwise (CrewPlays plans facts plan sound room desk) crews ends) → All DidEnd ends → HaveRounds plans desk.origin.fixed p.seen (crew_players facts plan sound room crews) (round_ends crews ends h) (some_full ends)
  have_rounds p n [] [] given h came = record { each = tt; some = λ full. absurd cc; none = λ _ some. some }
  have_rounds p n (crew ∷ crews) (e ∷ ends) given h came =
      let rest = have_rounds p (suc n) crews ends given.1 h.1 (All-tail DidEnd e ends came) in
      let did : DidEnd e = All-head DidEnd e ends came in
      let one = one_at_board p n crew e given.0 h.0 did.0 did.1 in
      let same : is_full_end e.end ≡ did.0.full = ap is_full_end did.1 in record {
        each = ((did.0, one), rest.each);
        some = λ full. ⊎_elim
            (λ (before : some_full ends ≡ true). inr (rest.some before))
            (λ (now : is_full_end e.end ≡ true). inl (one.ended.full (sym same ∙ now)))
            (or_cases (some_full ends) (is_full_end e.end) full);
        none = λ room some. let parts = or_parts (some_full ends) (is_full_end e.end) room in
            ⊎_elim (one.ended.room (sym same ∙ parts.1)) (rest.none parts.0) some;
      }
  have_rounds p n _ _ given h came = absurd h

  players_now : (crews : List (Crew D Seat)) (ends : List (CrewEnd D Seat)) (h : Pairwise (CrewPlays plans facts plan sound room desk) crews ends) → map (λ (end : PlayerEnd). end.player) (round_ends crews ends h) ≡ end_players facts plan sound room ends
  players_now [] [] h = refl
  players_now (crew ∷ crews) (e ∷ ends) h = ap (λ (l : List Player). player_of facts plan sound room e.crew.worker ∷ l) (players_now crews ends h.1)
  players_now _ _ h = absurd h

  all_saw : (later : List Entry) (crews : List (Crew D Seat)) (ends : List (CrewEnd D Seat)) (h : Pairwise (CrewPlays plans facts plan sound room desk) crews ends) → All (λ (e : CrewEnd D Seat). StartsWith later e.crew.pass.seen) ends → All (λ (end : PlayerEnd). StartsWith later end.sight.seen) (round_ends crews ends h)
  all_saw later [] [] h seen = All-nil (λ (end : PlayerEnd). StartsWith later end.sight.seen)
  all_saw later (crew ∷ crews) (e ∷ ends) h seen = All-cons (λ (end : PlayerEnd). StartsWith later end.sight.seen) (player_end crew e h.0) (round_ends crews ends h.1)
      (All-head (λ (x : CrewEnd D Seat). StartsWith later x.crew.pass.seen) e ends seen)
      (all_saw later crews ends h.1 (All-tail (λ (x : CrewEnd D Seat). StartsWith later x.crew.pass.seen) e ends seen))
  all_saw later _ _ h seen = absurd h

  reported : (crew : Crew D Seat) (e : CrewEnd D Seat) (h : CrewPlays plans facts plan sound room desk crew e) → IsUncut e → IsCutOff h.round.to → ⊥
  reported crew e h uncut =
      let before = driving_of facts plan sound room crew.worker in let now = driving_of facts plan sound room e.crew.worker in
      let ends = subst (λ (r : Result RoundEnd NoMemory). EndsAs (work_of crew.worker) before now r h.round.trace h.round.to) uncut.1 h.round.holds in
      rests_reported (work_of crew.worker) before now h.round.trace h.round.to ((matched uncut.0.full (h.round.to ≡ ended) (Rests (work_of crew.worker) before now h.round.trace h.round.to) ends).1 uncut.2)

  all_reported : (crews : List (Crew D Seat)) (ends : List (CrewEnd D Seat)) (h : Pairwise (CrewPlays plans facts plan sound room desk) crews ends) → All IsUncut ends → All (λ (end : PlayerEnd). IsCutOff end.phase → ⊥) (round_ends crews ends h)
  all_reported [] [] h uncut = All-nil (λ (end : PlayerEnd). IsCutOff end.phase → ⊥)
  all_reported (crew ∷ crews) (e ∷ ends) h uncut = All-cons (λ (end : PlayerEnd). IsCutOff end.phase → ⊥) (player_end crew e h.0) (round_ends crews ends h.1)
      (reported crew e h.0 (All-head IsUncut e ends uncut))
      (all_reported crews ends h.1 (All-tail IsUncut e ends uncut))
  all_reported _ _ h uncut = absurd h

  -- each place is one from before, or a player's
  made_by : (x : ℕ) (mine : List ℕ) (crews : List (Crew D Seat)) (ends : List (CrewEnd D Seat)) (h : Pairwise (CrewPlays plans facts plan sound room desk) crews ends) → 0 < times x (merged_ends mine ends) → (0 < times x mine) ⊎ IsMade (round_ends crews ends h) x
  made_by x mine [] [] h some = inl some
  made_by x mine (crew ∷ crews) (e ∷ ends) h some = ⊎_elim
      (λ (among : 0 < times x (merged_ends mine ends)). ⊎_elim
      (λ (before : 0 < times x mine). inl before)
      (λ (made : IsMade (round_ends crews ends h.1) x). inr (record { end = made.end; there = contains_there made.end (player_end crew e h.0) (round_ends crews ends h.1) made.there; made = made.made }))
      (made_by x mine crews ends h.1 among))
      (λ (own : 0 < times x e.crew.pass.mine). inr (record {
        end = player_end crew e h.0;
        there = (0, omega arith, refl);
        made = times_contains x e.crew.pass.mine own;
      }))
      (of_either x (merged_ends mine ends) e.crew.pass.mine some)
  made_by x mine _ _ h some = absurd h

-- ## what a whole pass knows

pub of_desk : (P : Origin Configuration Entry → Type 0) (desk : DeskView Configuration Entry) (p : PassView Configuration Entry) → IsOf p desk → IfSome p.origin P → P desk.origin
of_desk P desk p own h = subst (λ (o : Option (Origin Configuration Entry)). IfSome o P) own.1 h

-- a whole pass of the desk, before some turns and after them
pub record Knows (desk : DeskView Configuration Entry) (p r : PassView Configuration Entry) : Type 0 where
  pub begins : StartsWith p.seen desk.origin.history
  pub had : p.mine ≡ added desk.origin.history p.seen
  pub has : r.mine ≡ added desk.origin.history r.seen
  pub rising : AreRising 0 p.mine (length p.seen)
  pub more : StartsWith r.seen p.seen

pub knows : (desk : DeskView Configuration Entry) (p r : PassView Configuration Entry) → IsOf p desk → AreRising 0 p.mine (length p.seen)
    → IfSome p.origin (λ o. StartsWith p.seen o.history) → IfSome p.origin (λ o. p.mine ≡ added o.history p.seen)
    → r.mine ≡ added desk.origin.history r.seen → StartsWith r.seen p.seen → Knows desk p r
knows desk p r own rising begins had has more = record {
  begins = of_desk (λ o. StartsWith p.seen o.history) desk p own begins;
  had = of_desk (λ o. p.mine ≡ added o.history p.seen) desk p own had;
  has = has;
  rising = rising;
  more = more;
}

-- before a round and after it
pub round_knows : (desk : DeskView Configuration Entry) (n : ℕ) (p q r : PassView Configuration Entry) → IsOf p desk → IsOf r desk → AreRising 0 p.mine (length p.seen)
    → IfSome p.origin (λ o. StartsWith p.seen o.history) → IfSome p.origin (λ o. p.mine ≡ added o.history p.seen) → IfSome r.origin (λ o. r.mine ≡ added o.history r.seen)
    → q ≡ split_pass n p → StartsWith r.seen q.seen → Knows desk p r
round_knows desk n p q r own own' rising begins had has is more = knows desk p r own rising begins had
    (of_desk (λ o. r.mine ≡ added o.history r.seen) desk r own' has)
    (subst (λ (x : PassView Configuration Entry). StartsWith r.seen x.seen) is more)

module _ (desk : DeskView Configuration Entry) (p r : PassView Configuration Entry) (k : Knows desk p r) where
  later_begins : StartsWith r.seen desk.origin.history
  later_begins = starts_on r.seen p.seen desk.origin.history k.more k.begins

  -- what was seen grew by as much as the places
  pub grew : length p.seen + length r.mine ≡ length r.seen + length p.mine
  grew = omega (arith, ap length k.had, ap length k.has, length_added desk.origin.history p.seen k.begins, length_added desk.origin.history r.seen later_begins)

  pub still_seen : r.mine ≡ p.mine → r.seen ≡ p.seen
  still_seen same = same_length p.seen r.seen k.more (omega (arith, grew, ap length same))

  pub moved_on : length p.mine < length r.mine → length p.seen < length r.seen
  moved_on more = omega (arith, grew, more)

-- nothing was added beside a whole pass
pub closed_seen : (desk : DeskView Configuration Entry) (p : PassView Configuration Entry) (history : List Entry) → IsOf p desk
    → IfSome p.origin (λ o. p.mine ≡ added o.history p.seen) → IfSome p.origin (λ o. StartsWith p.seen o.history)
    → StartsWith history p.seen → p.mine ≡ added desk.origin.history history → history ≡ p.seen
closed_seen desk p history own all begins starts mine =
    let first = of_desk (λ o. StartsWith p.seen o.history) desk p own begins in
    same_history desk.origin.history p.seen history first starts (starts_on history p.seen desk.origin.history starts first)
    (ap length (sym mine ∙ of_desk (λ o. p.mine ≡ added o.history p.seen) desk p own all))

-- ## a round

pub is_round : (plans : Bool) {D : Type 0} (facts : D → DriverFacts) (plan : D → Plan) (sound : D → List ℕ → Bool) (room : D → ℕ) (desk : DeskView Configuration Entry) (n : ℕ) (p q r : PassView Configuration Entry) (crews : List (Crew D Seat)) (ends : List (CrewEnd D Seat)) (ws ws' ws'' : List (Worker D)) (t : Together)
    → Knows desk p r → q ≡ split_pass n p → AreGiven p 0 crews → Pairwise (CrewPlays plans facts plan sound room desk) crews ends → TookBack facts plan sound room q r ws' ws'' t ends
    → crew_players facts plan sound room crews ++ players_of facts plan sound room ws' ≡ players_of facts plan sound room ws → ws' ≡ []
    → IsPlayedRound plans desk.origin.fixed p.seen r.seen (players_of facts plan sound room ws) (players_of facts plan sound room ws'') t.full
is_round plans facts plan sound room desk n p q r crews ends ws ws' ws'' t k is given h took had none =
    let ours = subst (λ (x : PassView Configuration Entry). TookBack facts plan sound room x r ws' ws'' t ends) is took in
    let left : players_of facts plan sound room ws' ≡ [] = ap (players_of facts plan sound room) none in
    let before : crew_players facts plan sound room crews ≡ players_of facts plan sound room ws =
    sym (append-nil (crew_players facts plan sound room crews)) ∙ (ap (λ (l : List Player). crew_players facts plan sound room crews ++ l) (sym left) ∙ had) in
    let whole : IsRound plans desk.origin.fixed p.seen r.seen (players_of facts plan sound room ws) (players_of facts plan sound room ws'') t.full = record {
      ends = round_ends plans facts plan sound room desk crews ends h;
      plays = subst (λ (l : List Player). EachPlaysFrom plans desk.origin.fixed p.seen l (round_ends plans facts plan sound room desk crews ends h)) before (each_plays plans facts plan sound room desk p 0 crews ends given h);
      players_now = players_now plans facts plan sound room desk crews ends h ∙ (sym (append-nil (end_players facts plan sound room ends)) ∙ (ap (λ (l : List Player). end_players facts plan sound room ends ++ l) (sym left) ∙ sym ours.players));
      goes_on = k.more;
      seen = all_saw plans facts plan sound room desk r.seen crews ends h ours.told;
      made = λ x from to. ⊎_elim
          (λ (old : 0 < times x p.mine). absurd (omega (arith, from, below_end x 0 (length p.seen) p.mine k.rising old)))
          (λ (made : IsMade (round_ends plans facts plan sound room desk crews ends h) x). made)
          (made_by plans facts plan sound room desk x p.mine crews ends h (subst (λ (l : List ℕ). 0 < times x l) (sym k.has ∙ ours.mine)
          (added_there x desk.origin.history r.seen (later_begins desk p r k) (omega (arith, from, no_shorter desk.origin.history p.seen k.begins)) to)));
      uncut = λ free. all_reported plans facts plan sound room desk crews ends h (ours.uncut free);
    } in record {
      round = whole;
      workers = subst (λ (l : List Player). HaveRounds plans desk.origin.fixed p.seen l whole.ends t.full) before
          (subst (λ (b : Bool). HaveRounds plans desk.origin.fixed p.seen (crew_players facts plan sound room crews) whole.ends b) (sym ours.whether)
          (have_rounds plans facts plan sound room desk p 0 crews ends given h ours.ended));
    }

-- # A tick after a round.

pub tick_stops : (c : Configuration) (v w : Sight Entry) (t : Turn) → Answered answers recorded c v (Ask.Do Event.Tick) t w → Stops (is_full t) w.seen
tick_stops c v w (Turn.Did e) h = inr (record { earlier = h.0; last = e; ends = h.3.0; tick = h.2.0 })
tick_stops c v w Turn.Full h = full_turn false c v w (Ask.Do Event.Tick) h
tick_stops c v w other h = absurd h.2

-- beside a whole pass nothing else was added
pub whole_tick : (desk : DeskView Configuration Entry) (p r : PassView Configuration Entry) (t : Turn) → Knows desk p r → Answered answers recorded desk.origin.fixed (sight_of p) (Ask.Do Event.Tick) t (sight_of r) → IsTick desk.origin.fixed p.seen r.seen (is_full t)
whole_tick desk p r (Turn.Did e) k h =
    let long : length h.0 ≡ length p.seen = omega (arith, grew desk p r k, ap length h.3.0, ap length h.3.1, length-append h.0 (e ∷ []), length-append p.mine (length h.0 ∷ [])) in
    let same : h.0 ≡ p.seen = same_length p.seen h.0 h.1 long in record {
      answer = Turn.Did e;
      answered = subst (λ (l : List Entry). answers desk.origin.fixed l (Ask.Do Event.Tick) (Turn.Did e)) same h.2;
      left = h.3.0 ∙ ap (λ (l : List Entry). l ++ e ∷ []) same;
      whether = refl;
    }
whole_tick desk p r Turn.Full k h =
    let still : r.seen ≡ p.seen = still_seen desk p r k h.3.1 in record {
      answer = Turn.Full;
      answered = subst (λ (l : List Entry). answers desk.origin.fixed l (Ask.Do Event.Tick) Turn.Full) (sym h.3.0 ∙ still) h.2;
      left = still;
      whether = refl;
    }
whole_tick desk p r other k h = absurd h.2

-- # A worker's round, where launchers may also commit what they chose before.

-- the board's answers are allowed in any case
pub allowed_part : (plans : Bool) (c : Configuration) (from : Phase) (v w : Sight Entry) (before now : Option Driving) (Holds : List Move → Phase → Type 0) → Part answers c from v w before now Holds → Part (answers_of plans) c from v w before now Holds
allowed_part plans c from v w before now Holds h = record {
  trace = h.trace;
  to = h.to;
  walked = allowed-walk plans c h.trace v w h.walked;
  drove = h.drove;
  led = h.led;
  holds = h.holds;
}
