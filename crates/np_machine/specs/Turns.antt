-- a journal as its turns: each entry with the states before and after it
use Rattle.std.specs.Prelude.{◌≡◌, Bool, true, false, List, [], ◌∷◌, ◌⊎◌}
use Rattle.np_machine.specs.Step.{next}
use Rattle.np_machine.specs.State.{State, start}
use Rattle.np_machine.specs.Lower.{Configuration, Entry, Reply}

pub record Turn : Type 0 where
  pub before : State
  pub entry : Entry
  pub later : State

abbrev pub turns_from : Configuration → State → List Entry → List Turn
turns_from c s [] = []
turns_from c s (entry ∷ journal) =
    record { before = s; entry = entry; later = next c s entry.event } ∷ turns_from c (next c s entry.event) journal

abbrev pub turns : Configuration → List Entry → List Turn
turns c journal = turns_from c (start c) journal

-- some turn has the property
abbrev pub SomeTurn : (Turn → Type 0) → List Turn → Type 0
SomeTurn P [] = ⊥
SomeTurn P (t ∷ ts) = P t ⊎ SomeTurn P ts

-- every turn has the property
abbrev pub EachTurn : (Turn → Type 0) → List Turn → Type 0
EachTurn P [] = Unit {0}
EachTurn P (t ∷ ts) = P t × EachTurn P ts

abbrev pub is_done : Reply → Bool
is_done (Reply.Done what) = true
is_done (Reply.Refused why) = false

-- the event was accepted
abbrev pub IsAccepted : Turn → Type 0
IsAccepted t = is_done t.entry.reply ≡ true
