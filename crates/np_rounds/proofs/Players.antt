-- workers as players, and what they drive and host from one round to the next and at the end
use Rattle.np_rounds.proofs.Prelude.{All, All-append, All-cons, All-head, All-map, All-nil, All-same, All-tail, All-weaker, AreBack, AreCarried, AreGiven, AreNumbered, BeginAfter, BeginsEmpty, BeginsNew, Bool, Configuration, Crew, CrewEnd, DeskView, DrivenAs, DriverFacts, Driving, Drove, EachAtBoard, EachPlaysFrom, Earlier, EndsWithTick, EntriesStand, Entry, Event, FailOnlyFull, HasLaps, HaveDrivenAs, HaveHosted, HaveSoundness, IsBack, IsDriven, IsHosted, IsLap, IsOf, IsPlayedRound, IsRested, IsRound, IsSettled, IsSound, IsTick, Lap, Laps, LapsStand, Launcher, List, Move, None, Option, Pairwise, PassView, Plan, Player, PlayerEnd, Pool, PoolId, RequesterId, Role, RoleRecord, Runs, Runs-legal, Seat, Some, Soundness, StandAt, StartsWith, State, Stops, Terms, TicksAfter, Turn, WasAnswered, WasPlayed, Worker, after, ap, append_assoc, are-carried, arith, begin-counted, begin-hosted, begin-new, counted, crew_players, driving, driving_in, driving_of, drivings_of, fail-only-full, false, false≢true, filter, given_pass, inl, inr, is_full, is_full_lap, is_full_tick, is_role, is_some, legal-Runs, legal-beginning, length, length-append, length-map, list_any, list_any-append, map, map-map, map-push, may_open, no_deeds, numbered-after, option_map_or, or_false, or_parts, player_of, players_of, refl, round-driven, round-have-driven, round-hosted, round-no-tick, slice_get, slice_index_or, start, start-have-driven, starts_on, starts_same, stop-hosted, subst, suc, sym, terms_in, terms_of, tick-have-driven, tick-hosted, true, with_tick, zero, ℕ, [], ⊎_elim, ◌++◌, ◌+◌, ◌<◌, ◌||◌, ◌∙◌, ◌∷◌, ◌≡◌, ◌≤◌}

-- # Workers as players, in lists that grow and shrink at their end.

module _ {D : Type 0} (facts : D → DriverFacts) (plan : D → Plan) (sound : D → List ℕ → Bool) (room : D → ℕ) where
  pub players-push : (workers : List (Worker D)) (w : Worker D) → players_of facts plan sound room (workers ++ w ∷ []) ≡ player_of facts plan sound room w ∷ players_of facts plan sound room workers
  players-push [] w = refl
  players-push (v ∷ workers) w = ap (λ (l : List Player). l ++ player_of facts plan sound room v ∷ []) (players-push workers w)

  crew-push : (crews : List (Crew D Seat)) (c : Crew D Seat) → crew_players facts plan sound room (crews ++ c ∷ []) ≡ crew_players facts plan sound room crews ++ player_of facts plan sound room c.worker ∷ []
  crew-push [] c = refl
  crew-push (d ∷ crews) c = ap (λ (l : List Player). player_of facts plan sound room d.worker ∷ l) (crew-push crews c)

  -- a worker was given a pass
  pub handed : (crews crews' : List (Crew D Seat)) (c : Crew D Seat) (ws ws' : List (Worker D)) → crews' ≡ crews ++ c ∷ [] → ws ≡ ws' ++ c.worker ∷ [] → crew_players facts plan sound room crews' ++ players_of facts plan sound room ws' ≡ crew_players facts plan sound room crews ++ players_of facts plan sound room ws
  handed crews crews' c ws ws' more less =
      ap (λ (l : List (Crew D Seat)). crew_players facts plan sound room l ++ players_of facts plan sound room ws') more
      ∙ (ap (λ (l : List Player). l ++ players_of facts plan sound room ws') (crew-push crews c)
      ∙ (append_assoc (crew_players facts plan sound room crews) (player_of facts plan sound room c.worker ∷ []) (players_of facts plan sound room ws')
      ∙ ap (λ (l : List Player). crew_players facts plan sound room crews ++ l) (sym (players-push ws' c.worker) ∙ ap (players_of facts plan sound room) (sym less))))

  -- ## drivers

  abbrev all_drivings : List D → List (Worker D) → List Driving
  all_drivings ds ws = map (driving facts plan sound room) ds ++ drivings_of (players_of facts plan sound room ws)

  -- a driver moves from the drivers to a worker, or back
  moved_over : (ds : List D) (d : D) (p : PoolId) (ws : List (Worker D)) → all_drivings ds (ws ++ Worker.Pool p d ∷ []) ≡ all_drivings (ds ++ d ∷ []) ws
  moved_over ds d p ws =
      ap (λ (l : List Driving). map (driving facts plan sound room) ds ++ l) (ap drivings_of (players-push ws (Worker.Pool p d)))
      ∙ (sym (append_assoc (map (driving facts plan sound room) ds) (driving facts plan sound room d ∷ []) (drivings_of (players_of facts plan sound room ws)))
      ∙ ap (λ (l : List Driving). l ++ drivings_of (players_of facts plan sound room ws)) (sym (map-push (driving facts plan sound room) ds d)))

  -- a driver found its worker
  pub placed : (ds ds' : List D) (d : D) (p : PoolId) (ws ws' : List (Worker D)) → ds ≡ ds' ++ d ∷ [] → ws' ≡ ws ++ Worker.Pool p d ∷ [] → all_drivings ds' ws' ≡ all_drivings ds ws
  placed ds ds' d p ws ws' less more =
      ap (all_drivings ds') more ∙ (moved_over ds' d p ws ∙ ap (λ (l : List D). all_drivings l ws) (sym less))

  -- a worker gave its driver back
  pub released : (ds ds' : List D) (d : D) (p : PoolId) (ws ws' : List (Worker D)) → ds' ≡ ds ++ d ∷ [] → ws ≡ ws' ++ Worker.Pool p d ∷ [] → all_drivings ds' ws' ≡ all_drivings ds ws
  released ds ds' d p ws ws' more less =
      ap (λ (l : List D). all_drivings l ws') more ∙ (sym (moved_over ds d p ws') ∙ ap (all_drivings ds) (sym less))

  -- a worker had none
  pub without : (ws ws' : List (Worker D)) (w : Worker D) → driving_of facts plan sound room w ≡ None → ws ≡ ws' ++ w ∷ [] → drivings_of (players_of facts plan sound room ws') ≡ drivings_of (players_of facts plan sound room ws)
  without ws ws' w none less = sym (ap (λ (l : List (Worker D)). drivings_of (players_of facts plan sound room l)) less ∙ (ap drivings_of (players-push ws' w) ∙ ap (λ (o : Option Driving). driving_in o ++ drivings_of (players_of facts plan sound room ws')) none))

  -- a worker that is not a pool's has none
  pub no_driver : (w : Worker D) → ((p : PoolId) (d : D) → w ≡ Worker.Pool p d → ⊥) → driving_of facts plan sound room w ≡ None
  no_driver (Worker.Pool p d) other = absurd (other p d refl)
  no_driver rest other = refl

  -- ## numbers

  -- a driver's worker has the number of its place
  pub numbered : (ds ds' : List D) (d : D) (p : PoolId) (ws ws' : List (Worker D)) → ds ≡ ds' ++ d ∷ [] → ws' ≡ ws ++ Worker.Pool p d ∷ [] → p.0 ≡ length ds' → AreNumbered (length ds) (players_of facts plan sound room ws) → AreNumbered (length ds') (players_of facts plan sound room ws')
  numbered ds ds' d p ws ws' less more number had =
      let next : length ds ≡ suc (length ds') = omega (arith, ap length less, length-append ds' (d ∷ [])) in
      subst (λ (l : List Player). AreNumbered (length ds') l) (sym (ap (players_of facts plan sound room) more ∙ players-push ws (Worker.Pool p d)))
      (number, subst (λ (n : ℕ). AreNumbered n (players_of facts plan sound room ws)) next had)

  -- no worker is a pool's
  pub record NoPools (ws : List (Worker D)) : Type 0 where
    pub drivings : drivings_of (players_of facts plan sound room ws) ≡ []
    pub numbered : (n : ℕ) → AreNumbered n (players_of facts plan sound room ws)

  pub requester_more : (ws ws' : List (Worker D)) (q : RequesterId) → ws' ≡ ws ++ Worker.Requester q ∷ [] → NoPools ws → NoPools ws'
  requester_more ws ws' q more had =
      let players : players_of facts plan sound room ws' ≡ player_of facts plan sound room (Worker.Requester q) ∷ players_of facts plan sound room ws = ap (players_of facts plan sound room) more ∙ players-push ws (Worker.Requester q) in record {
        drivings = ap drivings_of players ∙ had.drivings;
        numbered = λ n. subst (AreNumbered n) (sym players) (tt, had.numbered n);
      }

  -- ## what no call changes

  abbrev pub driver_terms : D → Terms
  driver_terms d = record { plan = plan d; sound = sound d; room = room d }

  pub terms_of_drivers : (ds : List D) → map terms_of (map (driving facts plan sound room) ds) ≡ map driver_terms ds
  terms_of_drivers ds = map-map terms_of (driving facts plan sound room) ds

  -- the drivers that came back are on the same terms, so one of these is the same of each
  pub kept_term : {A : Type 0} (f : Terms → A) (players : List Player) (ds es : List D) → map (driving facts plan sound room) ds ≡ drivings_of players → terms_in players ≡ map driver_terms es → map (λ (d : D). f (driver_terms d)) ds ≡ map (λ (d : D). f (driver_terms d)) es
  kept_term f players ds es back kept =
      sym (map-map f driver_terms ds) ∙ (ap (map f) (sym (terms_of_drivers ds) ∙ (ap (map terms_of) back ∙ kept)) ∙ map-map f driver_terms es)

-- a round keeps what no call changes
terms_more : (d e : Option Driving) (ds es : List Driving) (trace : List Move) → Drove trace d e → map terms_of es ≡ map terms_of ds → map terms_of (driving_in e ++ es) ≡ map terms_of (driving_in d ++ ds)
terms_more None None ds es trace h same = same
terms_more (Some d) (Some e) ds es trace h same = λ i. record { plan = h.plan i; sound = h.sound i; room = h.room i } ∷ same i
terms_more _ _ ds es trace h same = absurd h

terms_kept : (plans : Bool) (c : Configuration) (history : List Entry) (players : List Player) (ends : List PlayerEnd) → EachPlaysFrom plans c history players ends → terms_in (map (λ (end : PlayerEnd). end.player) ends) ≡ terms_in players
terms_kept plans c history [] [] h = refl
terms_kept plans c history (player ∷ players) (end ∷ ends) h = terms_more player.driving end.player.driving (drivings_of players) (drivings_of (map (λ (e : PlayerEnd). e.player) ends)) h.0.trace h.0.drove (terms_kept plans c history players ends h.1)
terms_kept plans c history _ _ h = absurd h

pub same_terms : (plans : Bool) (c : Configuration) (history later : List Entry) (players now : List Player) (is_cut : Bool) → IsRound plans c history later players now is_cut → terms_in now ≡ terms_in players
same_terms plans c history later players now is_cut h = ap terms_in (sym h.players_now) ∙ terms_kept plans c history players h.ends h.plays

-- # Crews in lists that grow and shrink at their end.

module _ {D : Type 0} (p : PassView Configuration Entry) where
  pub given_more : (n : ℕ) (crews : List (Crew D Seat)) (crew : Crew D Seat) → AreGiven p n crews → crew.pass ≡ given_pass (n + length crews) p → AreGiven p n (crews ++ crew ∷ [])
  given_more n [] crew h is = (is ∙ ap (λ (k : ℕ). given_pass k p) (omega arith), tt)
  given_more n (c ∷ crews) crew h is = (h.0, given_more (suc n) crews crew h.1 (is ∙ ap (λ (k : ℕ). given_pass k p) (omega arith)))

  pub given_own : (desk : DeskView Configuration Entry) (n : ℕ) (crews : List (Crew D Seat)) → IsOf p desk → AreGiven p n crews → All (λ (crew : Crew D Seat). IsOf crew.pass desk) crews
  given_own desk n [] own h = All-nil (λ (crew : Crew D Seat). IsOf crew.pass desk)
  given_own desk n (c ∷ crews) own h = All-cons (λ (crew : Crew D Seat). IsOf crew.pass desk) c crews
      (ap (λ (q : PassView Configuration Entry). q.table) h.0 ∙ own.0, ap (λ (q : PassView Configuration Entry). q.origin) h.0 ∙ own.1)
      (given_own desk (suc n) crews own h.1)

module _ {D : Type 0} (desk : DeskView Configuration Entry) where
  pub back_less : (n : ℕ) (ends : List (CrewEnd D Seat)) (e : CrewEnd D Seat) → AreBack desk n (ends ++ e ∷ []) → AreBack desk n ends × IsBack desk (n + length ends) e
  back_less n [] e h = (tt, subst (λ (k : ℕ). IsBack desk k e) (omega arith) h.0)
  back_less n (f ∷ ends) e h = let r = back_less (suc n) ends e h.1 in ((h.0, r.0), subst (λ (k : ℕ). IsBack desk k e) (omega arith) r.1)

module _ {A B : Type 0} (R : A → B → Type 0) where
  pub pairwise_from : (xs : List A) (ys : List B) → length ys ≡ length xs → ((i : ℕ) (x : A) (y : B) → i < length xs → R (slice_index_or xs i x) (slice_index_or ys i y)) → Pairwise R xs ys
  pairwise_from [] [] len each = tt
  pairwise_from (x ∷ xs) (y ∷ ys) len each = (each 0 x y (omega arith), pairwise_from xs ys (omega (arith, len)) (λ i a b lt. each (suc i) a b (omega arith)))
  pairwise_from _ _ len each = absurd (omega (arith, len))

  pub pairwise_len : (xs : List A) (ys : List B) → Pairwise R xs ys → length ys ≡ length xs
  pairwise_len [] [] h = refl
  pairwise_len (x ∷ xs) (y ∷ ys) h = ap suc (pairwise_len xs ys h.1)
  pairwise_len _ _ h = absurd h

-- # Journals that the players drove, from one round to the next.

last_of : {E : Type 0} (e : E) (l : List E) → (earlier : List E) × (d : E) × (e ∷ l ≡ earlier ++ d ∷ [])
last_of e [] = ([], e, refl)
last_of e (f ∷ l) = let r = last_of f l in (e ∷ r.0, r.1, ap (λ (k : List _). e ∷ k) r.2)

some_last : {E : Type 0} (l : List E) → 0 < length l → (earlier : List E) × (d : E) × (l ≡ earlier ++ d ∷ [])
some_last [] some = absurd (omega (arith, some))
some_last (e ∷ l) some = last_of e l

-- the drivers in the end
pub driven_end : (plans : Bool) {D : Type 0} (facts : D → DriverFacts) (plan : D → Plan) (sound : D → List ℕ → Bool) (room : D → ℕ) (c : Configuration) (full : Bool) (journal : List Entry) (players : List Player) (ds : List D) → map (driving facts plan sound room) ds ≡ drivings_of players → IsDriven plans c full journal players → DrivenAs (WasAnswered (map (driving facts plan sound room) ds)) plans c journal
driven_end plans facts plan sound room c true journal players ds same h = subst (λ (l : List Driving). DrivenAs (WasAnswered l) plans c journal) (sym same) h.driven
driven_end plans facts plan sound room c false journal players ds same h = subst (λ (l : List Driving). DrivenAs (WasAnswered l) plans c journal) (sym same) h.driven

-- before the first round
pub driven_start : (plans : Bool) {D : Type 0} (facts : D → DriverFacts) (plan : D → Plan) (sound : D → List ℕ → Bool) (room : D → ℕ) (c : Configuration) (players : List Player) (ds : List D) → AreNumbered 0 players → drivings_of players ≡ map (driving facts plan sound room) ds → All (λ (d : D). (facts d).servers ≡ Some []) ds → HaveDrivenAs plans c [] players
driven_start plans facts plan sound room c players ds numbered same none = start-have-driven c plans players numbered
    (All-same (λ (d : Driving). d.facts.servers ≡ Some []) (drivings_of players) (map (driving facts plan sound room) ds) same
    (All-map (λ (d : Driving). d.facts.servers ≡ Some []) (driving facts plan sound room) ds none))

-- after a round
pub driven_round : (plans : Bool) (c : Configuration) (history later : List Entry) (players now : List Player) (full : Bool) → IsRound plans c history later players now full → Runs c later (after c later) → HaveDrivenAs plans c history players → IsDriven plans c full later now
driven_round plans c history later players now true played runs h = record {
  driven = round-driven c history later players now true played runs h;
  numbered = numbered-after plans c history later players now true played h.numbered;
}
driven_round plans c history later players now false played runs h = round-have-driven c history later players now false played runs h refl

-- after a tick that follows a round with an entry
pub driven_tick : (plans : Bool) (c : Configuration) (history later : List Entry) (players now : List Player) (e : Entry) → IsRound plans c history later players now false → Runs c later (after c later) → HaveDrivenAs plans c history players → length history < length later → e.event ≡ Event.Tick → HaveDrivenAs plans c (later ++ e ∷ []) now
driven_tick plans c history later players now e played runs h more tick =
    let whole = round-have-driven c history later players now false played runs h refl in
    let end = some_last later (omega (arith, more)) in
    let plain = round-no-tick c history later players now false played runs h end.0 end.1 [] end.2
    (omega (arith, more, ap length end.2, length-append end.0 (end.1 ∷ []))) in
    subst (λ (l : List Entry). HaveDrivenAs plans c (l ++ e ∷ []) now) (sym end.2)
    (tick-have-driven c plans end.0 now end.1 e (subst (λ (l : List Entry). HaveDrivenAs plans c l now) end.2 whole) plain tick)

-- # What drivers host, from one round to the next.

-- ## drivers

drivings-append : (players more : List Player) → drivings_of (players ++ more) ≡ drivings_of players ++ drivings_of more
drivings-append [] more = refl
drivings-append (player ∷ players) more =
    ap (λ (l : List Driving). driving_in player.driving ++ l) (drivings-append players more)
    ∙ sym (append_assoc (driving_in player.driving) (drivings_of players) (drivings_of more))

abbrev IsSoundDriving : Driving → Type 0
IsSoundDriving d = Soundness d.facts d.sound

module _ {D : Type 0} (facts : D → DriverFacts) (plan : D → Plan) (sound : D → List ℕ → Bool) (room : D → ℕ) where
  worker_sound : ((d : D) → Soundness (facts d) (sound d)) → (w : Worker D) → All IsSoundDriving (drivings_of (player_of facts plan sound room w ∷ []))
  worker_sound each (Worker.Pool p d) = All-cons IsSoundDriving (driving facts plan sound room d) [] (each d) (All-nil IsSoundDriving)
  worker_sound each other = All-nil IsSoundDriving

  -- the workers' drivers are as drivers always are
  pub workers_sound : ((d : D) → Soundness (facts d) (sound d)) → (ws : List (Worker D)) → HaveSoundness (drivings_of (players_of facts plan sound room ws))
  workers_sound each [] = All-nil IsSoundDriving
  workers_sound each (w ∷ ws) =
      let players = players_of facts plan sound room ws in
      All-same IsSoundDriving (drivings_of (players ++ player_of facts plan sound room w ∷ [])) (drivings_of players ++ drivings_of (player_of facts plan sound room w ∷ []))
      (drivings-append players (player_of facts plan sound room w ∷ []))
      (All-append IsSoundDriving (drivings_of players) (drivings_of (player_of facts plan sound room w ∷ [])) (workers_sound each ws) (worker_sound each w))

-- # Laps, one after another.

-- ## one lap more

module _ (plans : Bool) (c : Configuration) where
  laps_append : (laps more : List Lap) (history : List Entry) (players : List Player) (journal : List Entry) (now : List Player) (later : List Entry) (those : List Player)
      → list_any is_full_lap laps ≡ false → Laps plans c laps history players journal now → Laps plans c more journal now later those → Laps plans c (laps ++ more) history players later those
  laps_append [] more history players journal now later those room h k =
      subst (λ (l : List Entry). Laps plans c more l players later those) (sym h.0)
      (subst (λ (l : List Player). Laps plans c more journal l later those) (sym h.1) k)
  laps_append (lap ∷ laps) more history players journal now later those room h k =
      let parts = or_parts (is_full_lap lap) (list_any is_full_lap laps) room in
      (h.0, (λ full. absurd (false≢true (sym parts.0 ∙ full))), laps_append laps more (with_tick lap.later lap.tick) lap.now journal now later those parts.1 h.2 k)

  pub laps_none : (history : List Entry) (players : List Player) → HasLaps plans c history players history players false
  laps_none history players = record { laps = []; played = (refl, refl); whether = refl }

  -- laps that had room, and others after them
  pub laps_on : (history : List Entry) (players : List Player) (journal : List Entry) (now : List Player) (later : List Entry) (those : List Player) (full : Bool)
      → HasLaps plans c history players journal now false → HasLaps plans c journal now later those full → HasLaps plans c history players later those full
  laps_on history players journal now later those full h k = record {
    laps = h.laps ++ k.laps;
    played = laps_append h.laps k.laps history players journal now later those (sym h.whether) h.played k.played;
    whether = k.whether ∙ (ap (λ (b : Bool). b || list_any is_full_lap k.laps) h.whether ∙ sym (list_any-append is_full_lap h.laps k.laps));
  }

  one_lap : (history : List Entry) (players : List Player) (lap : Lap) → IsLap plans c history players lap → HasLaps plans c history players (with_tick lap.later lap.tick) lap.now (is_full_lap lap || false)
  one_lap history players lap is = record { laps = lap ∷ []; played = (is, (λ full. refl), (refl, refl)); whether = refl }

  module _ (history : List Entry) (players : List Player) (journal : List Entry) (now : List Player) (later : List Entry) (those : List Player) (full : Bool)
      (had : HasLaps plans c history players journal now false) (played : IsPlayedRound plans c journal later now those full) (sound : HaveSoundness (drivings_of those)) where
    more : (tick : Option Turn) → TicksAfter c journal later full tick → HasLaps plans c history players (with_tick later tick) those ((full || is_full_tick tick) || false)
    more tick ticks = laps_on history players journal now (with_tick later tick) those ((full || is_full_tick tick) || false) had
        (one_lap journal now (record { later = later; now = those; full = full; tick = tick }) (record { played = played; ticks = ticks; sound = sound }))

    -- the round found the journal full
    pub laps_full : full ≡ true → HasLaps plans c history players later those true
    laps_full is = subst (λ (b : Bool). HasLaps plans c history players later those ((b || false) || false)) is (more None (inl is))

    -- it made no entry
    pub laps_still : full ≡ false → later ≡ journal → HasLaps plans c history players later those false
    laps_still is still = subst (λ (b : Bool). HasLaps plans c history players later those ((b || false) || false)) is (more None (inr still))

    -- a tick came after it
    pub laps_tick : (ticked : List Entry) (at : Bool) → full ≡ false → length journal < length later → IsTick c later ticked at → HasLaps plans c history players ticked those at
    laps_tick ticked at is moved tick =
        let same : ((full || is_full tick.answer) || false) ≡ at = ap (λ (b : Bool). (b || is_full tick.answer) || false) is ∙ (or_false (is_full tick.answer) ∙ sym tick.whether) in
        subst (λ (b : Bool). HasLaps plans c history players ticked those b) same
        (subst (λ (l : List Entry). HasLaps plans c history players l those ((full || is_full tick.answer) || false)) (sym tick.left)
        (more (Some tick.answer) (is, moved, tick.answered)))

-- ## the journal of laps

tick_starts : (later : List Entry) (tick : Option Turn) → StartsWith (with_tick later tick) later
tick_starts later (Some (Turn.Did e)) = (e ∷ [], refl)
tick_starts later other = starts_same later

module _ (plans : Bool) (c : Configuration) where
  laps_start : (laps : List Lap) (history : List Entry) (players : List Player) (journal : List Entry) (now : List Player) → Laps plans c laps history players journal now → StartsWith journal history
  laps_start [] history players journal now h = subst (λ (l : List Entry). StartsWith l history) h.0 (starts_same history)
  laps_start (lap ∷ laps) history players journal now h =
      let rest = laps_start laps (with_tick lap.later lap.tick) lap.now journal now h.2 in
      starts_on journal lap.later history (starts_on journal (with_tick lap.later lap.tick) lap.later rest (tick_starts lap.later lap.tick)) h.0.played.round.goes_on

  -- the journal begins with that after the round
  round_starts : (lap : Lap) (laps : List Lap) (journal : List Entry) (now : List Player) → Laps plans c laps (with_tick lap.later lap.tick) lap.now journal now → StartsWith journal lap.later
  round_starts lap laps journal now h = starts_on journal (with_tick lap.later lap.tick) lap.later (laps_start laps (with_tick lap.later lap.tick) lap.now journal now h) (tick_starts lap.later lap.tick)

-- a beginning of a journal runs if the journal does
pub beginning_runs : (c : Configuration) (journal beginning : List Entry) → Runs c journal (after c journal) → StartsWith journal beginning → Runs c beginning (after c beginning)
beginning_runs c journal beginning runs starts = legal-Runs c beginning
    (legal-beginning c beginning starts.0 (Runs-legal c (beginning ++ starts.0) (after c journal) (subst (λ (l : List Entry). Runs c l (after c journal)) starts.1 runs)))

-- ## what each lap keeps

module _ (plans : Bool) (c : Configuration) (Holds : Bool → List Entry → List Player → Type 0) where
  -- a lap keeps it, if its journal runs
  abbrev pub Keeps : Type 0
  Keeps = (history : List Entry) (players : List Player) (lap : Lap) → IsLap plans c history players lap → Runs c lap.later (after c lap.later) → Holds false history players → Holds (is_full_lap lap) (with_tick lap.later lap.tick) lap.now

  lap_on : (b : Bool) (laps : List Lap) (history : List Entry) (players : List Player) (journal : List Entry) (now : List Player) → Holds b history players → (b ≡ true → laps ≡ []) → Laps plans c laps history players journal now
      → (Holds false history players → Holds (list_any is_full_lap laps) journal now) → Holds (b || list_any is_full_lap laps) journal now
  lap_on true laps history players journal now held last h on =
      let end = subst (λ (l : List Lap). Laps plans c l history players journal now) (last refl) h in
      subst (λ (l : List Entry). Holds true l now) end.0 (subst (λ (l : List Player). Holds true history l) end.1 held)
  lap_on false laps history players journal now held last h on = on held

  laps_keep : Keeps → (laps : List Lap) (history : List Entry) (players : List Player) (journal : List Entry) (now : List Player) → Runs c journal (after c journal) → Laps plans c laps history players journal now → Holds false history players → Holds (list_any is_full_lap laps) journal now
  laps_keep keeps [] history players journal now runs h held = subst (λ (l : List Entry). Holds false l now) h.0 (subst (λ (l : List Player). Holds false history l) h.1 held)
  laps_keep keeps (lap ∷ laps) history players journal now runs h held =
      lap_on (is_full_lap lap) laps (with_tick lap.later lap.tick) lap.now journal now
      (keeps history players lap h.0 (beginning_runs c journal lap.later runs (round_starts plans c lap laps journal now h.2)) held) h.1 h.2
      (λ room. laps_keep keeps laps (with_tick lap.later lap.tick) lap.now journal now runs h.2 room)

  has_kept : Keeps → (history : List Entry) (players : List Player) (journal : List Entry) (now : List Player) (full : Bool) → Runs c journal (after c journal) → HasLaps plans c history players journal now full → Holds false history players → Holds full journal now
  has_kept keeps history players journal now full runs h held = subst (λ (b : Bool). Holds b journal now) (sym h.whether) (laps_keep keeps h.laps history players journal now runs h.played held)

  -- a lap keeps it, if a round does, and a tick with an entry and one without
  lap_kept : ((history later : List Entry) (players now : List Player) (full : Bool) → IsRound plans c history later players now full → Runs c later (after c later) → Holds false history players → Holds full later now)
      → ((journal : List Entry) (now : List Player) → Holds false journal now → Holds true journal now)
      → ((history later : List Entry) (players now : List Player) (e : Entry) → IsRound plans c history later players now false → Runs c later (after c later) → HaveSoundness (drivings_of now) → length history < length later → e.event ≡ Event.Tick → Holds false history players → Holds false (later ++ e ∷ []) now)
      → (history later : List Entry) (players now : List Player) (full : Bool) (tick : Option Turn) → IsRound plans c history later players now full → TicksAfter c history later full tick → HaveSoundness (drivings_of now) → Runs c later (after c later) → Holds false history players
      → Holds (full || is_full_tick tick) (with_tick later tick) now
  lap_kept round stop ticked history later players now true None is ticks sound runs had = round history later players now true is runs had
  lap_kept round stop ticked history later players now false None is ticks sound runs had = round history later players now false is runs had
  lap_kept round stop ticked history later players now false (Some (Turn.Did e)) is ticks sound runs had = ticked history later players now e is runs sound ticks.1 ticks.2.0 had
  lap_kept round stop ticked history later players now false (Some Turn.Full) is ticks sound runs had = stop later now (round history later players now false is runs had)
  lap_kept round stop ticked history later players now false (Some other) is ticks sound runs had = absurd ticks.2
  lap_kept round stop ticked history later players now true (Some t) is ticks sound runs had = absurd (false≢true (sym ticks.0))

-- ## driven journals

pub laps_driven : (plans : Bool) (c : Configuration) (history : List Entry) (players : List Player) (journal : List Entry) (now : List Player) (full : Bool) → Runs c journal (after c journal) → HasLaps plans c history players journal now full → HaveDrivenAs plans c history players → IsDriven plans c full journal now
laps_driven plans c = has_kept plans c (IsDriven plans c) (λ history players lap is runs had. lap_kept plans c (IsDriven plans c) (driven_round plans c) (λ journal now h. record { driven = h.driven; numbered = h.numbered })
    (λ history later players now e round runs sound more tick had. driven_tick plans c history later players now e round runs had more tick) history lap.later players lap.now lap.full lap.tick is.played.round is.ticks is.sound runs had)

-- ## what drivers host

pub laps_hosted : (earlier : Earlier) (c : Configuration) (history : List Entry) (players : List Player) (journal : List Entry) (now : List Player) (full : Bool) → Runs c journal (after c journal) → HasLaps false c history players journal now full → HaveHosted earlier c history players → IsHosted earlier c full journal now
laps_hosted earlier c = has_kept false c (IsHosted earlier c) (λ history players lap is runs had. lap_kept false c (IsHosted earlier c) (round-hosted earlier c) (stop-hosted earlier c)
    (λ history later players now e round runs sound more tick had. tick-hosted earlier c later e now tick (driven_tick false c history later players now e round runs had.driven more tick) sound (round-hosted earlier c history later players now false round runs had))
    history lap.later players lap.now lap.full lap.tick is.played.round is.ticks is.sound runs had)

-- ## what no call of a driver changes

module _ (plans : Bool) (c : Configuration) where
  terms_of_laps : (laps : List Lap) (history : List Entry) (players : List Player) (journal : List Entry) (now : List Player) → Laps plans c laps history players journal now → terms_in now ≡ terms_in players
  terms_of_laps [] history players journal now h = ap terms_in (sym h.1)
  terms_of_laps (lap ∷ laps) history players journal now h =
      terms_of_laps laps (with_tick lap.later lap.tick) lap.now journal now h.2 ∙ same_terms plans c history lap.later players lap.now lap.full h.0.played.round

  pub laps_terms : (history : List Entry) (players : List Player) (journal : List Entry) (now : List Player) (full : Bool) → HasLaps plans c history players journal now full → terms_in now ≡ terms_in players
  laps_terms history players journal now full h = terms_of_laps h.laps history players journal now h.played

-- ## where the entries stand

get_more : (seen rest : List Entry) (x : ℕ) (e : Entry) → slice_get seen x ≡ Some e → slice_get (seen ++ rest) x ≡ Some e
get_more [] rest x e is = absurd cc
get_more (d ∷ seen) rest zero e is = is
get_more (d ∷ seen) rest (suc x) e is = get_more seen rest x e is

stand_more : (journal seen : List Entry) → StartsWith journal seen → (xs : List ℕ) (es : List Entry) → StandAt seen xs es → StandAt journal xs es
stand_more journal seen starts [] [] h = tt
stand_more journal seen starts (x ∷ xs) (e ∷ es) h =
    (subst (λ (l : List Entry). slice_get l x ≡ Some e) (sym starts.1) (get_more seen starts.0 x e h.0), stand_more journal seen starts xs es h.1)
stand_more journal seen starts _ _ h = absurd h

module _ (plans : Bool) (c : Configuration) where
  entries_stand : (journal later history : List Entry) → StartsWith journal later → (players : List Player) (ends : List PlayerEnd) (each : EachAtBoard plans c history players ends) → All (λ (end : PlayerEnd). StartsWith later end.sight.seen) ends → EntriesStand plans c journal history players ends each
  entries_stand journal later history starts [] [] each seen = tt
  entries_stand journal later history starts (player ∷ players) (end ∷ ends) each seen = (
    stand_more journal end.sight.seen (starts_on journal later end.sight.seen starts (All-head (λ (x : PlayerEnd). StartsWith later x.sight.seen) end ends seen)) end.sight.mine _ each.0.1.stand,
    entries_stand journal later history starts players ends each.1 (All-tail (λ (x : PlayerEnd). StartsWith later x.sight.seen) end ends seen),
  )
  entries_stand journal later history starts _ _ each seen = absurd each

  pub laps_stand : (whole : List Entry) (laps : List Lap) (history : List Entry) (players : List Player) (journal : List Entry) (now : List Player) (h : Laps plans c laps history players journal now) → StartsWith whole journal → LapsStand plans c whole laps history players journal now h
  laps_stand whole [] history players journal now h starts = tt
  laps_stand whole (lap ∷ laps) history players journal now h starts = (
    entries_stand whole lap.later history (starts_on whole journal lap.later starts (round_starts plans c lap laps journal now h.2)) players h.0.played.round.ends h.0.played.workers.each h.0.played.round.seen,
    laps_stand whole laps (with_tick lap.later lap.tick) lap.now journal now h.2 starts,
  )

-- ## the whole

pub ended_runs : (c d : Configuration) (journal : List Entry) (s : State) → d ≡ c → Runs d journal s → Runs c journal (after c journal)
ended_runs c d journal s same runs = legal-Runs c journal (Runs-legal c journal s (subst (λ (x : Configuration). Runs x journal s) same runs))

-- # What workers and their drivers leave that began at a board without entries.

module _ {D : Type 0} (facts : D → DriverFacts) (plan : D → Plan) (sound : D → List ℕ → Bool) (room : D → ℕ) (plans : Bool) (c d : Configuration) (workers later : List (Worker D)) (ds es : List D) (history journal : List Entry) (full : Bool)
    (drivings : drivings_of (players_of facts plan sound room workers) ≡ map (driving facts plan sound room) ds)
    (back : map (driving facts plan sound room) es ≡ drivings_of (players_of facts plan sound room later))
    (same : d ≡ c)
    (none : history ≡ [])
    (went : HasLaps plans d history (players_of facts plan sound room workers) journal (players_of facts plan sound room later) full) where
  abbrev players : List Player
  players = players_of facts plan sound room workers

  abbrev now : List Player
  now = players_of facts plan sound room later

  laps : HasLaps plans c [] players journal now full
  laps = subst (λ (x : Configuration). HasLaps plans x [] players journal now full) same (subst (λ (l : List Entry). HasLaps plans d l players journal now full) none went)

  -- ## drivers

  kept : terms_in now ≡ map (driver_terms facts plan sound room) ds
  kept = laps_terms plans c [] players journal now full laps ∙ (ap (map terms_of) drivings ∙ terms_of_drivers facts plan sound room ds)

  pub ended_plans : map plan es ≡ map plan ds
  ended_plans = kept_term facts plan sound room (λ (t : Terms). t.plan) now es ds back kept

  pub ended_sounds : map sound es ≡ map sound ds
  ended_sounds = kept_term facts plan sound room (λ (t : Terms). t.sound) now es ds back kept

  pub ended_rooms : map room es ≡ map room ds
  ended_rooms = kept_term facts plan sound room (λ (t : Terms). t.room) now es ds back kept

  pub ended_count : length es ≡ length ds
  ended_count = sym (length-map room es) ∙ (ap length ended_rooms ∙ length-map room ds)

  -- ## the journal

  module _ (numbered : AreNumbered 0 (players_of facts plan sound room workers)) where
    pub ended_played : WasPlayed plans c (map (driving facts plan sound room) ds) (map (driving facts plan sound room) es) journal full
    ended_played = record {
      players = players;
      now = now;
      numbered = numbered;
      drivings = drivings;
      drivings_now = sym back;
      laps = laps;
      stand = laps_stand plans c journal laps.laps [] players journal now laps.played (starts_same journal);
    }

    module _ (runs : Runs c journal (after c journal)) where
      -- with planned events, or without
      pub ended_driven : (b : Bool) → plans ≡ b → All (λ (x : D). (facts x).servers ≡ Some []) ds → DrivenAs (WasAnswered (map (driving facts plan sound room) es)) b c journal
      ended_driven b is empty = subst (λ (x : Bool). DrivenAs (WasAnswered (map (driving facts plan sound room) es)) x c journal) is
          (driven_end plans facts plan sound room c full journal now es back (laps_driven plans c [] players journal now full runs laps (driven_start plans facts plan sound room c players ds numbered drivings empty)))

      hosted : (earlier : Earlier) → plans ≡ false → All (λ (x : D). (facts x).servers ≡ Some []) ds → BeginAfter earlier (map (driving facts plan sound room) ds) → IsHosted earlier c full journal now
      hosted earlier off empty begin = laps_hosted earlier c [] players journal now full runs (subst (λ (b : Bool). HasLaps b c [] players journal now full) off laps)
          (begin-hosted earlier c players (driven_start false facts plan sound room c players ds numbered drivings empty) (subst (BeginAfter earlier) (sym drivings) begin))

      -- what drivers host is known where nothing was planned
      pub ended_carried : plans ≡ false → All (λ (x : D). BeginsEmpty (facts x)) ds → AreCarried c journal (map (driving facts plan sound room) es)
      ended_carried off empty =
          let earlier : Earlier = counted (map (driving facts plan sound room) ds) in
          subst (AreCarried c journal) (sym back) (are-carried earlier c full journal now
          (hosted earlier off (All-weaker (λ (x : D). BeginsEmpty (facts x)) (λ (x : D). (facts x).servers ≡ Some []) (λ x b. b.servers) ds empty)
          (begin-counted (map (driving facts plan sound room) ds) (All-map (λ (x : Driving). BeginsEmpty x.facts) (driving facts plan sound room) ds empty))))

      pub ended_failed : plans ≡ false → All (λ (x : D). BeginsNew (facts x)) ds → FailOnlyFull c journal (map (driving facts plan sound room) es)
      ended_failed off new =
          subst (FailOnlyFull c journal) (sym back) (fail-only-full c full journal now
          (hosted (λ p. 0) off (All-weaker (λ (x : D). BeginsNew (facts x)) (λ (x : D). (facts x).servers ≡ Some []) (λ x b. b.servers) ds new)
          (begin-new (map (driving facts plan sound room) ds) (All-map (λ (x : Driving). BeginsNew x.facts) (driving facts plan sound room) ds new))))

-- # A site that has not begun is not settled.

-- the launcher of the first pool
abbrev first : Role
first = Launcher (record { 0 = 0 })

some_pool : (such : Pool → Bool) (pools : List Pool) → 1 ≤ length (filter such pools) → is_some (slice_get pools 0) ≡ true
some_pool such [] h = absurd (omega (arith, h))
some_pool such (p ∷ pools) h = refl

no_strikes : (pools : List Pool) → option_map_or (λ (deeds : RoleRecord). deeds.strikes) (slice_get (map (λ _. no_deeds) pools) 0) 0 ≡ 0
no_strikes [] = refl
no_strikes (p ∷ pools) = refl

may_begin : (c : Configuration) → may_open c first (start c) ≡ true
may_begin c = rw (no_strikes c.pools) refl

pub start_unsettled : (c : Configuration) → IsSound c → IsSettled c (start c) → ⊥
start_unsettled c sound settled =
    let is : is_role c first ≡ true = some_pool _ c.pools (sound.supply.each_has_one 0 sound.some_provider) in
    settled first (Event.OpenSession first) is (record { accepted = rw is refl; maker = refl; row = rw (may_begin c) refl })

-- a settled site has begun
pub settled_tick : (c : Configuration) (journal : List Entry) (s : State) → IsSound c → Runs c journal s → IsSettled c s → IsRested journal → EndsWithTick journal
settled_tick c journal s sound runs settled rested = ⊎_elim
    (λ (none : journal ≡ []). absurd (start_unsettled c sound (subst (λ (j : List Entry). IsSettled c (after c j)) none (subst (IsSettled c) (sym runs.ends) settled))))
    (λ (t : EndsWithTick journal). t)
    rested

-- if the journal has room, the journal of a settled site ends with a tick
pub ended_settled : (c d : Configuration) (journal : List Entry) (s : State) (full : Bool) → IsSound c → d ≡ c → Runs d journal s → IsSettled d s → Stops full journal → full ≡ false → IsSettled c s × EndsWithTick journal
ended_settled c d journal s full sound same runs settled stops room =
    let here : IsSettled c s = subst (λ (x : Configuration). IsSettled x s) same settled in
    (here, settled_tick c journal s sound (subst (λ (x : Configuration). Runs x journal s) same runs) here (subst (λ (b : Bool). Stops b journal) room stops))
