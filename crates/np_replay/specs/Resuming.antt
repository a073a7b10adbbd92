-- going on with a log: what `Resume` says of it, before it is known where the lines came from
use Rattle.std.specs.Prelude.{◌≡◌, ℕ, List, ◌++◌, length, IfSome, Option, Some, None, Ok, Err}
use Rattle.np_replay.specs.declared.ending.Ending.{Ending}
use Rattle.np_replay.specs.Lines.{lines_line}
use Rattle.np_replay.specs.declared.fault.LogFault.{LogFault}
use Rattle.np_replay.specs.declared.resuming.ResumeFault.{ResumeFault}
use Rattle.np_replay.specs.Faults.{TellsFault}
use Rattle.np_replay.specs.Logged.{HoldsLog, IsDamagedAt, more_of}
use Rattle.np_replay.specs.Resume.{IsReadLogOf}
use Rattle.np_replay.specs.Lower.{Configuration, DiskFacts, Event, IsPlayable, IsPrinted, IsSettled, LineFault, LinesFault, Place, Rose, Script, canonical, played, reads}

-- the configuration whose one text these bytes are, or none if they are none's
abbrev pub IsCanonical : List ℕ → Option Configuration → Type 0
IsCanonical bytes (Some c) = (reads bytes ≡ Ok c) × (bytes ≡ canonical c)
IsCanonical bytes None = (c : Configuration) → reads bytes ≡ Ok c → bytes ≡ canonical c → ⊥

-- the disk has a log of this script, which ends at this place
pub record IsReady (disk : DiskFacts) (place : Place) (script : Script) : Type 0 where
  pub says : IfSome disk.now (IsReadLogOf script.config script.events)
  pub settled : IsSettled disk place
  pub count : place.events ≡ length script.events
  pub playable : IsPlayable script

-- ## why a step was not taken

-- the disk failed; or the log is damaged at this record; or memory ran out
abbrev pub WhyNotLoaded : DiskFacts → DiskFacts → LogFault → Type 0
WhyNotLoaded disk disk_now LogFault.Disk = Rose disk.faults disk_now.faults
WhyNotLoaded disk disk_now LogFault.NotEmpty = ⊥
WhyNotLoaded disk disk_now (LogFault.Damaged number) = IfSome disk.now (IsDamagedAt number)
WhyNotLoaded disk disk_now LogFault.NoMemory = Unit {0}

-- memory ran out; or this is the fault of the lines
abbrev pub WhyNotRead : List Event → List ℕ → ResumeFault → Type 0
WhyNotRead before came (ResumeFault.Log fault) = fault ≡ LogFault.NoMemory
WhyNotRead before came (ResumeFault.Lines fault) = more_of before came ≡ Err fault

-- the disk failed; or memory ran out
abbrev pub WhyNotAppended : DiskFacts → DiskFacts → LogFault → Type 0
WhyNotAppended disk disk_now LogFault.Disk = Rose disk.faults disk_now.faults
WhyNotAppended disk disk_now LogFault.NoMemory = Unit {0}
WhyNotAppended disk disk_now _ = ⊥

-- ## all steps

-- the disk had a log, the lines go on with it, the text is that of the run of all events, and the log is they
pub record IsPlayedOn (disk disk_now : DiskFacts) (came text : List ℕ) : Type 0 where
  pub config : Configuration
  pub before : List Event
  pub more : List Event
  pub was : IfSome disk.now (IsReadLogOf config before)
  pub read : more_of before came ≡ Ok more
  pub printed : IsPrinted config (played config (before ++ more)) text
  pub holds : HoldsLog disk_now config (before ++ more)

-- the disk had a log, a line is at fault or one too many, and no byte of the log changed
pub record IsLinesFault (disk disk_now : DiskFacts) (came : List ℕ) (fault : LinesFault LineFault) : Type 0 where
  pub config : Configuration
  pub before : List Event
  pub was : IfSome disk.now (IsReadLogOf config before)
  pub read : more_of before came ≡ Err fault
  pub same : disk_now.now ≡ disk.now

-- why a log did not go on with these lines; if it is damaged, no byte of it changed
abbrev pub WhyNotResumed : DiskFacts → DiskFacts → List ℕ → ResumeFault → Type 0
WhyNotResumed disk disk_now came (ResumeFault.Log LogFault.Disk) = Rose disk.faults disk_now.faults
WhyNotResumed disk disk_now came (ResumeFault.Log LogFault.NotEmpty) = ⊥
WhyNotResumed disk disk_now came (ResumeFault.Log (LogFault.Damaged number)) = IfSome disk.now (IsDamagedAt number) × (disk_now.now ≡ disk.now)
WhyNotResumed disk disk_now came (ResumeFault.Log LogFault.NoMemory) = Unit {0}
WhyNotResumed disk disk_now came (ResumeFault.Lines fault) = IsLinesFault disk disk_now came fault

-- the ending says so, unless memory ran out
abbrev pub TellsResumeFault : ResumeFault → Ending → Type 0
TellsResumeFault (ResumeFault.Log fault) said = TellsFault fault said
TellsResumeFault (ResumeFault.Lines fault) (Ending.Says line status) = (line.items ≡ lines_line fault) × (status ≡ 4)
TellsResumeFault (ResumeFault.Lines fault) Ending.NoMemory = Unit {0}
TellsResumeFault (ResumeFault.Lines fault) _ = ⊥
