-- crews: workers with their passes, which are split off one after another and joined in the reverse order
use Rattle.std.specs.Prelude.{◌≡◌, ℕ, zero, suc, List, [], ◌∷◌, ◌++◌, Bool, false, Option}
use Rattle.np_rounds.specs.declared.crew.Crew.{Crew}
use Rattle.np_rounds.specs.Lower.{Configuration, DriverFacts, Driving, Entry, Outcome, PassView, Player, Tag, Worker, driving_of, second_half, work_of}

-- ## passes

-- what contracts know of a pass (own)
abbrev pub Seat : Type 0
Seat = PassView Configuration Entry

-- the word that a whole pass has left after this many splits (own)
abbrev pub zeros : ℕ → List Bool
zeros zero = []
zeros (suc n) = false ∷ zeros n

-- what a whole pass is after this many splits (own)
abbrev pub split_pass : {F E : Type 0} → ℕ → PassView F E → PassView F E
split_pass n p = record p { part = zeros n ∷ [] }

-- the pass that was split off after this many others: it has seen the same, and made nothing (own)
abbrev pub given_pass : {F E : Type 0} → ℕ → PassView F E → PassView F E
given_pass n p = record p { mine = []; part = second_half (zeros n ∷ []) }

-- each crew of the list has the pass that was split off at its place, the first after this many
-- others (own)
abbrev pub AreGiven : {D : Type 0} → PassView Configuration Entry → ℕ → List (Crew D Seat) → Type 0
AreGiven p n [] = Unit {0}
AreGiven p n (crew ∷ crews) = (crew.pass ≡ given_pass n p) × AreGiven p (suc n) crews

-- ## players

-- what a driver plans (own)
abbrev pub Plan : Type 0
Plan = Tag → Option Outcome

-- what no call of a driver changes: its plan, which lists of server numbers are sound for it, and for how many servers it has room (own)
pub record Terms : Type 0 where
  pub plan : Plan
  pub sound : List ℕ → Bool
  pub room : ℕ

abbrev pub terms_of : Driving → Terms
terms_of d = record { plan = d.plan; sound = d.sound; room = d.room }

module _ {D : Type 0} (facts : D → DriverFacts) (plan : D → Plan) (sound : D → List ℕ → Bool) (room : D → ℕ) where
  -- whose the worker is, and what it drives (own)
  abbrev pub player_of : Worker D → Player
  player_of worker = record { work = work_of worker; driving = driving_of facts plan sound room worker }

  -- the workers as players, the last worker first (own)
  abbrev pub players_of : List (Worker D) → List Player
  players_of [] = []
  players_of (worker ∷ workers) = players_of workers ++ player_of worker ∷ []

  -- the crews' workers as players, the first crew first (own)
  abbrev pub crew_players : List (Crew D Seat) → List Player
  crew_players [] = []
  crew_players (crew ∷ crews) = player_of crew.worker ∷ crew_players crews
