-- A walk from gate to gate in memory: what `src/walk.rt` finds, in the words of `Log`.
use Rattle.std.specs.Prelude.{◌≡◌, ◌≤◌, ℕ, ◌+◌, ◌*◌, length, Result, Ok, Err}
use Rattle.np_log.specs.declared.fault.LoadFault.{LoadFault}
use Rattle.np_log.specs.declared.walk.LogWalk.{LogWalk}
use Rattle.np_log.specs.Log.{Walk}

-- the walk as `Log` has it
abbrev pub walk_view : LogWalk → Walk
walk_view w = record { content = record { config = w.config.items; events = w.events.items }; gate = w.gate; number = w.number }

-- the numbers of a walk are small: a record and its gate take at most 2 ^ 32 + 4 bytes, and each
-- record but the first has an event
pub record IsNear (w : Walk) : Type 0 where
  pub few : length w.content.events ≤ 262144
  pub number : w.number ≤ length w.content.events + 1
  pub gate : w.gate ≤ w.number * 4294967300

-- a walk that is not done fails as is said, unless memory ran out
abbrev pub Fails : LoadFault → Result Walk ℕ → Type 0
Fails (LoadFault.Damaged number) said = said ≡ Err number
Fails LoadFault.DiskFault said = ⊥
Fails LoadFault.NoMemory said = Unit {0}

-- a walk ends as is said, unless memory ran out
abbrev pub Walks : Result LogWalk LoadFault → Result Walk ℕ → Type 0
Walks (Ok w) said = said ≡ Ok (walk_view w)
Walks (Err fault) said = Fails fault said
