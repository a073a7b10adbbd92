-- whole runs: the machine over a journal
use Rattle.std.specs.Prelude.{◌≡◌, ◌≤◌, List, [], ◌∷◌, length}
use Rattle.np_machine.specs.Step.{judge, next, reply_of}
use Rattle.np_machine.specs.State.{State, start}
use Rattle.np_machine.specs.Lower.{Configuration, Entry}

-- the state after the entries' events
abbrev pub state_after : Configuration → State → List Entry → State
state_after c s [] = s
state_after c s (entry ∷ journal) = state_after c (next c s entry.event) journal

-- the entries' events with the machine's replies
abbrev pub replayed : Configuration → State → List Entry → List Entry
replayed c s [] = []
replayed c s (entry ∷ journal) =
    record { event = entry.event; reply = reply_of (judge c s entry.event) } ∷ replayed c (next c s entry.event) journal

-- the state that the journal leads to
abbrev pub after : Configuration → List Entry → State
after c journal = state_after c (start c) journal

-- the journal's replies are the machine's, one by one, and it ends in this state; the journal is
-- not longer than it may be (own: 262,144 entries)
pub record Runs (c : Configuration) (journal : List Entry) (s : State) : Type 0 where
  pub replies : replayed c (start c) journal ≡ journal
  pub ends : after c journal ≡ s
  pub short : length journal ≤ 262144
