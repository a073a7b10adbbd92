-- what rounds of all workers leave
use Rattle.std.specs.Prelude.{◌≡◌, ◌⊎◌, ◌||◌, nat_lt, List, [], ◌∷◌, ◌++◌, map, Bool, true, false, Result, Ok, Err, Option, Some, None}
use Rattle.np_rounds.specs.declared.round.Together.{Together}
use Rattle.np_rounds.specs.Crews.{Terms, terms_of}
use Rattle.np_rounds.specs.declared.plain.PlainSeries.{PlainSeries}
use Rattle.np_rounds.specs.Lower.{AreNumbered, Ask, Configuration, DrivenAs, Entry, Event, HaveDrivenAs, IsFull, NoMemory, PlanAsk, PlanTurn, Player, RoundEnd, Turn, WasAnswered, drivings_of}

-- with what one more worker's round came to; if one ran out of memory, all did (own)
abbrev pub with_end : Together → Result RoundEnd NoMemory → Result Together NoMemory
with_end sum (Ok end) = Ok (record { moved = sum.moved || nat_lt 0 end.entries; full = sum.full || end.full })
with_end sum (Err fault) = Err fault

-- the turn found no room in the journal (own)
abbrev pub is_full : Turn → Bool
is_full Turn.Full = true
is_full _ = false

-- the last entry is a tick (own)
pub record EndsWithTick (journal : List Entry) : Type 0 where
  pub earlier : List Entry
  pub last : Entry
  pub ends : journal ≡ earlier ++ last ∷ []
  pub tick : last.event ≡ Event.Tick

-- a journal between two rounds: it is empty, or its last entry is a tick (own)
abbrev pub IsRested : List Entry → Type 0
IsRested journal = (journal ≡ []) ⊎ EndsWithTick journal

-- what playing at a desk came to: the journal is full, or a round made no entry (own)
abbrev pub Stops : Bool → List Entry → Type 0
Stops true journal = IsFull journal
Stops false journal = IsRested journal

-- a tick was added, or the journal had no room for it (own)
abbrev pub Ticks : Bool → List Entry → List Entry → Type 0
Ticks true old new = new ≡ old
Ticks false old new = (e : Entry) × (e.event ≡ Event.Tick) × (new ≡ old ++ e ∷ [])

-- ## players

-- what no call changes of the players' drivers, in order (own)
abbrev pub terms_in : List Player → List Terms
terms_in players = map terms_of (drivings_of players)

-- the players drove the journal, with planned events or without; nothing is known of the servers that they have (own)
pub record WereDriven (plans : Bool) (c : Configuration) (journal : List Entry) (players : List Player) : Type 0 where
  pub driven : DrivenAs (WasAnswered (drivings_of players)) plans c journal
  pub numbered : AreNumbered 0 players

-- the players drove the journal, and each server that they have was named in it if it has room
-- (own)
abbrev pub IsDriven : Bool → Configuration → Bool → List Entry → List Player → Type 0
IsDriven plans c true journal players = WereDriven plans c journal players
IsDriven plans c false journal players = HaveDrivenAs plans c journal players

-- what is asked without a plan

-- the plain turn found no room in the journal (own)
abbrev pub is_plain_full : PlanTurn → Bool
is_plain_full (PlanTurn.Plain t) = is_full t
is_plain_full _ = false

-- ## a series

-- what it asks next, if it asks this without a plan
abbrev pub plain_ask : Option Ask → Option PlanAsk
plain_ask None = None
plain_ask (Some a) = Some (PlanAsk.Plain a)

abbrev pub asks_plain : {S : Type 0} → (S → Option Ask) → PlainSeries S → Option PlanAsk
asks_plain asks p = plain_ask (asks p.series)

-- it hears the answers to that, and no others
abbrev pub HearsPlain : {S : Type 0} → (S → Turn → S → Type 0) → PlainSeries S → PlanTurn → PlainSeries S → Type 0
HearsPlain hears p (PlanTurn.Plain t) q = hears p.series t q.series
HearsPlain hears p _ q = q ≡ p
