-- Why a call of a log gives up, and what it leaves.
use Rattle.std.specs.Prelude.{◌≡◌, ◌≤◌, ◌<◌, ℕ, ◌+◌, List, length, take, IfSome, Err}
use Rattle.std.specs.Option.{option_map}
use Rattle.np_log.specs.declared.fault.AppendFault.{AppendFault}
use Rattle.np_log.specs.declared.fault.CreateFault.{CreateFault}
use Rattle.np_log.specs.declared.fault.LoadFault.{LoadFault}
use Rattle.np_log.specs.Log.{content_of, content_with}
use Rattle.np_log.specs.Place.{IsSettled, Place}
use Rattle.np_log.specs.Lower.{DiskFacts, Event, Rose, Stays}

-- the file has bytes, and what reads give and what a crash leaves stay; or the disk failed; or memory
-- ran out, and then the disk is as it was
abbrev pub CreateCause : {D : Type 0} → (D → DiskFacts) → D → D → CreateFault → Type 0
CreateCause facts old new CreateFault.NotEmpty = IfSome (facts old).now (λ file. 0 < length file) × Stays (facts old) (facts new)
CreateCause facts old new CreateFault.DiskFault = Rose (facts old).faults (facts new).faults
CreateCause facts old new CreateFault.NoMemory = new ≡ old

-- the bytes are damaged at this record; or the disk failed; or memory ran out
abbrev pub LoadCause : DiskFacts → DiskFacts → LoadFault → Type 0
LoadCause old new (LoadFault.Damaged number) = IfSome old.now (λ file. content_of file ≡ Err number)
LoadCause old new LoadFault.DiskFault = Rose old.faults new.faults
LoadCause old new LoadFault.NoMemory = Unit {0}

-- the file is not read: the disk failed, or memory ran out
abbrev pub ReadCause : DiskFacts → DiskFacts → LoadFault → Type 0
ReadCause old new (LoadFault.Damaged number) = ⊥
ReadCause old new LoadFault.DiskFault = Rose old.faults new.faults
ReadCause old new LoadFault.NoMemory = Unit {0}

-- the disk failed; or memory ran out, and then the log comes back and the disk is as it was
abbrev pub AppendCause : {D : Type 0} → (D → DiskFacts) → D → D → Place → AppendFault → Type 0
AppendCause facts old new log AppendFault.DiskFault = Rose (facts old).faults (facts new).faults
AppendCause facts old new log (AppendFault.NoMemory back) = (back ≡ log) × (new ≡ old)

-- a log comes back that is settled and has the first n of these events
pub record HasFirst (old new : DiskFacts) (log back : Place) (events : List Event) : Type 0 where
  pub settled : IsSettled new back
  pub n : ℕ
  pub within : n ≤ length events
  pub count : back.events ≡ log.events + n
  pub content : option_map content_of new.now ≡ option_map (λ file. content_with (content_of file) (take n events)) old.now

-- the disk failed; or memory ran out, and then a log comes back that has the first of these events
abbrev pub AppendAllCause : DiskFacts → DiskFacts → Place → List Event → AppendFault → Type 0
AppendAllCause old new log events AppendFault.DiskFault = Rose old.faults new.faults
AppendAllCause old new log events (AppendFault.NoMemory back) = HasFirst old new log back events
