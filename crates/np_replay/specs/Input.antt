-- the whole input, or why there is none
use Rattle.std.specs.Prelude.{◌≡◌, ◌≤◌, ◌<◌, ℕ, true, List, [], Some, IfSome, length}
use Rattle.np_replay.specs.declared.ending.Ending.{Ending}
use Rattle.np_replay.specs.Lower.{Rose, SourceFacts}

-- the most bytes of an input
abbrev pub most : ℕ
most = 67108864

-- these bytes are the input: what the source had left, if that is known, read to its end, and no
-- more than an input may have
pub record IsInput (source source_now : SourceFacts) (came : List ℕ) : Type 0 where
  pub all : IfSome source.left (λ left. came ≡ left)
  pub fits : length came ≤ most
  pub none_left : IfSome source.left (λ left. source_now.left ≡ Some [])
  pub at_end : source_now.at_end ≡ true

-- why there is no input
abbrev pub Stops : SourceFacts → SourceFacts → Ending → Type 0
Stops source source_now Ending.ReadFault = Rose source.faults source_now.faults
Stops source source_now Ending.TooLong = IfSome source.left (λ left. most < length left)
Stops source source_now Ending.NoMemory = Unit {0}
Stops source source_now _ = ⊥
