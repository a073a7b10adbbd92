-- crews that come back after a round
use Rattle.std.specs.Prelude.{◌≡◌, ◌<◌, ◌||◌, ℕ, suc, length, List, [], ◌∷◌, ◌++◌, All, Bool, true, false, Result, Ok, Err, IfOk}
use Rattle.np_rounds.specs.declared.crew.CrewEnd.{CrewEnd}
use Rattle.np_rounds.specs.declared.round.Together.{Together}
use Rattle.np_rounds.specs.Crews.{Seat, Plan, zeros, player_of, players_of}
use Rattle.np_rounds.specs.Lower.{Configuration, DeskView, DriverFacts, Entry, IsFull, IsOf, NoMemory, PassView, Player, RoundEnd, StartsWith, Worker, merged, second_half}

-- a crew of this desk after a round, whose pass was split off after this many others: the round
-- made all the places that the pass has, and ended full only if the journal had no room (own)
pub record IsBack {D : Type 0} (desk : DeskView Configuration Entry) (n : ℕ) (e : CrewEnd D Seat) : Type 0 where
  pub own : IsOf e.crew.pass desk
  pub part : e.crew.pass.part ≡ second_half (zeros n ∷ [])
  pub entries : IfOk e.end (λ end. length e.crew.pass.mine ≡ end.entries)
  pub full : IfOk e.end (λ end. end.full ≡ true → IsFull e.crew.pass.seen)

-- the same for each crew of the list, the first after this many others (own)
abbrev pub AreBack : {D : Type 0} → DeskView Configuration Entry → ℕ → List (CrewEnd D Seat) → Type 0
AreBack desk n [] = Unit {0}
AreBack desk n (e ∷ ends) = IsBack desk n e × AreBack desk (suc n) ends

-- the round was not cut off: it had memory and room (own)
abbrev pub IsUncut : {D : Type 0} → CrewEnd D Seat → Type 0
IsUncut e = (end : RoundEnd) × (e.end ≡ Ok end) × (end.full ≡ false)

-- the round had memory (own)
abbrev pub DidEnd : {D : Type 0} → CrewEnd D Seat → Type 0
DidEnd e = (end : RoundEnd) × (e.end ≡ Ok end)

-- a turn of the round found the journal full; and of some round of these (own)
abbrev pub is_full_end : Result RoundEnd NoMemory → Bool
is_full_end (Ok end) = end.full
is_full_end (Err fault) = false

abbrev pub some_full : {D : Type 0} → List (CrewEnd D Seat) → Bool
some_full [] = false
some_full (e ∷ ends) = some_full ends || is_full_end e.end

-- these places with those of the crews' passes, the last of which came first (own)
abbrev pub merged_ends : {D : Type 0} → List ℕ → List (CrewEnd D Seat) → List ℕ
merged_ends mine [] = mine
merged_ends mine (e ∷ ends) = merged (merged_ends mine ends) e.crew.pass.mine

module _ {D : Type 0} (facts : D → DriverFacts) (plan : D → Plan) (sound : D → List ℕ → Bool) (room : D → ℕ) where
  -- the crews' workers as players, the first crew first (own)
  abbrev pub end_players : List (CrewEnd D Seat) → List Player
  end_players [] = []
  end_players (e ∷ ends) = player_of facts plan sound room e.crew.worker ∷ end_players ends

  -- the crews came back, the last of them first: the pass has seen what they saw and made what they
  -- made, their workers come after those from before, and the sum is that of their rounds (own)
  pub record TookBack (old new : PassView Configuration Entry) (before now : List (Worker D)) (sum : Together) (ends : List (CrewEnd D Seat)) : Type 0 where
    pub seen : StartsWith new.seen old.seen
    pub told : All (λ (e : CrewEnd D Seat). StartsWith new.seen e.crew.pass.seen) ends
    pub mine : new.mine ≡ merged_ends old.mine ends
    pub still : sum.moved ≡ false → new.mine ≡ old.mine
    pub moved : sum.moved ≡ true → length old.mine < length new.mine
    pub full : sum.full ≡ true → IsFull new.seen
    pub uncut : sum.full ≡ false → All IsUncut ends
    pub ended : All DidEnd ends
    pub whether : sum.full ≡ some_full ends
    pub players : players_of facts plan sound room now ≡ end_players ends ++ players_of facts plan sound room before
