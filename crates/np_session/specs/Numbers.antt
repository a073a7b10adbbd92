-- the table of sessions as lists of numbers, for the code only
use Rattle.std.specs.Prelude.{ℕ, ◌+◌, ◌-◌, ◌==◌, Bool, true, false, List, [], ◌∷◌, length, slice_index_or, if◌then◌else◌}
use Rattle.np_session.specs.Known.{Known}
use Rattle.np_session.specs.declared.sessions.Life.{Life}
use Rattle.np_session.specs.declared.sessions.Life.TheVariants.{Live, Mute, Over}

-- whether a session in this state is live
abbrev pub is_live : Life → Bool
is_live Live = true
is_live Mute = true
is_live Over = false

-- whether a session in this state is mute
abbrev pub is_mute : Life → Bool
is_mute Live = false
is_mute Mute = true
is_mute Over = false

-- the places that pass, counted from a given number
abbrev pub numbers : (Life → Bool) → ℕ → List Life → List ℕ
numbers passes n [] = []
numbers passes n (life ∷ lives) = if passes life then n ∷ numbers passes (n + 1) lives else numbers passes (n + 1) lives

-- how far the session of a number has come; one that was never begun is over
abbrev pub life_of : List Life → ℕ → Life
life_of lives id = if id == 0 then Over else slice_index_or lives (id - 1) Over

-- what contracts see of the states of all sessions, and of the room for more
abbrev pub known_of : List Life → ℕ → Known
known_of lives spare = record { begun = length lives; live = numbers is_live 1 lives; mute = numbers is_mute 1 lives; spare = spare }
