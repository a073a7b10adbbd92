-- a site played in laps: a round of all workers, each at the board, and then a tick if the round made an entry
use Rattle.std.specs.Prelude.{◌≡◌, ◌⊎◌, ◌<◌, ◌||◌, length, List, [], ◌∷◌, ◌++◌, Bool, true, false, Option, Some, None, Ok}
use Rattle.np_rounds.specs.Played.{is_full}
use Rattle.np_rounds.specs.Lower.{AreNumbered, Ask, Configuration, Driving, Entry, Event, HaveSoundness, IsRound, IsRoundAtBoard, Player, PlayerEnd, RoundEnd, StandAt, Turn, WasFull, answers, drivings_of, entries_of, list_any}

-- ## a round of all workers

module _ (plans : Bool) (c : Configuration) where
  -- each worker played a round of its own at the board after this history, and memory sufficed (own)
  abbrev pub EachAtBoard : List Entry → List Player → List PlayerEnd → Type 0
  EachAtBoard history [] [] = Unit {0}
  EachAtBoard history [] (end ∷ ends) = ⊥
  EachAtBoard history (player ∷ players) [] = ⊥
  EachAtBoard history (player ∷ players) (end ∷ ends) =
      ((is : RoundEnd) × IsRoundAtBoard plans c history player end (Ok is)) × EachAtBoard history players ends

  -- a turn of one of them found the journal full (own)
  abbrev pub SomeFull : (history : List Entry) (players : List Player) (ends : List PlayerEnd) → EachAtBoard history players ends → Type 0
  SomeFull history [] [] each = ⊥
  SomeFull history [] (end ∷ ends) each = ⊥
  SomeFull history (player ∷ players) [] each = ⊥
  SomeFull history (player ∷ players) (end ∷ ends) each = WasFull each.0.1.plays.trace ⊎ SomeFull history players ends each.1

  -- they did, and a turn found the journal full or none did (own)
  pub record HaveRounds (history : List Entry) (players : List Player) (ends : List PlayerEnd) (full : Bool) : Type 0 where
    pub each : EachAtBoard history players ends
    pub some : full ≡ true → SomeFull history players ends each
    pub none : full ≡ false → SomeFull history players ends each → ⊥

  -- a round of all workers, and what each of them did (own)
  pub record IsPlayedRound (history later : List Entry) (players now : List Player) (full : Bool) : Type 0 where
    pub round : IsRound plans c history later players now full
    pub workers : HaveRounds history players round.ends full

-- ## laps

-- the journal and the workers after a round, whether a worker's turn found the journal full, and what the tick was answered, if one was asked for (own)
pub record Lap : Type 0 where
  pub later : List Entry
  pub now : List Player
  pub full : Bool
  pub tick : Option Turn

-- the journal after the tick (own)
abbrev pub with_turn : List Entry → Turn → List Entry
with_turn later (Turn.Did e) = later ++ e ∷ []
with_turn later _ = later

abbrev pub with_tick : List Entry → Option Turn → List Entry
with_tick later None = later
with_tick later (Some t) = with_turn later t

-- a tick at a board with this journal, which leaves that one, and whether it found the journal full (own)
pub record IsTick (c : Configuration) (old new : List Entry) (full : Bool) : Type 0 where
  pub answer : Turn
  pub answered : answers c old (Ask.Do Event.Tick) answer
  pub left : new ≡ with_turn old answer
  pub whether : full ≡ is_full answer

-- a turn of the lap found the journal full: one of a worker, or the tick (own)
abbrev pub is_full_tick : Option Turn → Bool
is_full_tick None = false
is_full_tick (Some t) = is_full t

abbrev pub is_full_lap : Lap → Bool
is_full_lap lap = lap.full || is_full_tick lap.tick

-- the tick is asked for after a round that made an entry, unless the journal is full (own)
abbrev pub TicksAfter : Configuration → List Entry → List Entry → Bool → Option Turn → Type 0
TicksAfter c history later full None = (full ≡ true) ⊎ (later ≡ history)
TicksAfter c history later full (Some t) =
    (full ≡ false) × (length history < length later) × answers c later (Ask.Do Event.Tick) t

module _ (plans : Bool) (c : Configuration) where
  pub record IsLap (history : List Entry) (players : List Player) (lap : Lap) : Type 0 where
    pub played : IsPlayedRound plans c history lap.later players lap.now lap.full
    pub ticks : TicksAfter c history lap.later lap.full lap.tick
    -- what always holds of drivers
    pub sound : HaveSoundness (drivings_of lap.now)

  -- the laps came one after another, and none after one in which the journal was full (own)
  abbrev pub Laps : List Lap → List Entry → List Player → List Entry → List Player → Type 0
  Laps [] history players journal now = (history ≡ journal) × (players ≡ now)
  Laps (lap ∷ laps) history players journal now = IsLap history players lap
      × (is_full_lap lap ≡ true → laps ≡ []) × Laps laps (with_tick lap.later lap.tick) lap.now journal now

  -- there are such laps, and a turn of one of them found the journal full, or none did (own)
  pub record HasLaps (history : List Entry) (players : List Player) (journal : List Entry) (now : List Player) (full : Bool) : Type 0 where
    pub laps : List Lap
    pub played : Laps laps history players journal now
    pub whether : full ≡ list_any is_full_lap laps

  -- ## the whole

  -- the entries of each worker stand in the journal, at the places that are its own (own)
  abbrev pub EntriesStand : (journal history : List Entry) (players : List Player) (ends : List PlayerEnd) → EachAtBoard plans c history players ends → Type 0
  EntriesStand journal history [] [] each = Unit {0}
  EntriesStand journal history [] (end ∷ ends) each = ⊥
  EntriesStand journal history (player ∷ players) [] each = ⊥
  EntriesStand journal history (player ∷ players) (end ∷ ends) each =
      StandAt journal end.sight.mine (entries_of each.0.1.plays.trace) × EntriesStand journal history players ends each.1

  -- the same in each lap (own)
  abbrev pub LapsStand : (whole : List Entry) (laps : List Lap) (history : List Entry) (players : List Player) (journal : List Entry) (now : List Player) → Laps laps history players journal now → Type 0
  LapsStand whole [] history players journal now played = Unit {0}
  LapsStand whole (lap ∷ laps) history players journal now played =
      EntriesStand whole history players played.0.played.round.ends played.0.played.workers.each
      × LapsStand whole laps (with_tick lap.later lap.tick) lap.now journal now played.2

  -- workers with these drivers played the site in laps, from the empty journal to this one, and have these drivers now; the entries of each stand in it (own)
  pub record WasPlayed (before after : List Driving) (journal : List Entry) (full : Bool) : Type 0 where
    pub players : List Player
    pub now : List Player
    pub numbered : AreNumbered 0 players
    pub drivings : drivings_of players ≡ before
    pub drivings_now : drivings_of now ≡ after
    pub laps : HasLaps [] players journal now full
    pub stand : LapsStand journal laps.laps [] players journal now laps.played
