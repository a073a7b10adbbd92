-- A worked log: the configuration `{}` and one tick (own).
use Rattle.std.specs.Prelude.{ℕ, List, [], ◌∷◌}
use Rattle.np_log.specs.Log.{Content}
use Rattle.np_log.specs.Lower.{Event}

-- `{}`
abbrev pub worked_config : List ℕ
worked_config = 123 ∷ 125 ∷ []

-- one tick
abbrev pub worked_events : List Event
worked_events = Event.Tick ∷ []

-- what a log of `{}` and these events says
abbrev pub worked_content : List Event → Content
worked_content events = record { config = worked_config; events = events }

-- the log of `{}` with no events
abbrev pub worked_start : List ℕ
worked_start = 1 ∷ 0 ∷ 0 ∷ 0 ∷ 2 ∷ 123 ∷ 125 ∷ 0 ∷ []

-- the same with this gate in place of the last one, and behind it the record of the line `tick`, with
-- this byte in place of the newline; the gate after it is missing
abbrev pub worked_tick : ℕ → ℕ → List ℕ
worked_tick gate end = 1 ∷ 0 ∷ 0 ∷ 0 ∷ 2 ∷ 123 ∷ 125 ∷ gate ∷ 0 ∷ 0 ∷ 0 ∷ 5 ∷ 116 ∷ 105 ∷ 99 ∷ 107 ∷ end ∷ []
