-- keeping a script that was read: what `Keep` says of it, before it is known where the script came from
use Rattle.std.specs.Prelude.{◌≡◌, ◌⊎◌, ℕ, List, [], Result, Err}
use Rattle.np_replay.specs.declared.ending.Ending.{Ending}
use Rattle.np_replay.specs.Input.{IsInput}
use Rattle.np_replay.specs.declared.fault.LogFault.{LogFault}
use Rattle.np_replay.specs.Keep.{IsNotKept, WasEmpty, WasNotEmpty}
use Rattle.np_replay.specs.Logged.{HoldsLog, IsPartOfLog}
use Rattle.np_replay.specs.Lower.{DiskFacts, IsPrinted, Rose, Script, ScriptFault, SourceFacts, content_of, played, script_of}

-- the source was read to its end, and its bytes are this script, or have this fault
pub record HasCome (source source_now : SourceFacts) (read : Result Script ScriptFault) : Type 0 where
  pub came : List ℕ
  pub input : IsInput source source_now came
  pub reads : script_of came ≡ read

-- what a crash might have left before; or no log, damaged at record 0; or the log of the script's first events, or all
abbrev pub IsBegunBy : (List ℕ → Type 0) → Script → List ℕ → Type 0
IsBegunBy images script image = images image ⊎ ((content_of image ≡ Err 0) ⊎ IsPartOfLog script.config [] script.events image)

-- why the log of a script was not written
abbrev pub WhyNotWritten : DiskFacts → DiskFacts → LogFault → Type 0
WhyNotWritten disk disk_now LogFault.Disk = Rose disk.faults disk_now.faults
WhyNotWritten disk disk_now LogFault.NotEmpty = WasNotEmpty disk × (disk_now.now ≡ disk.now)
WhyNotWritten disk disk_now (LogFault.Damaged number) = ⊥
WhyNotWritten disk disk_now LogFault.NoMemory = Unit {0}

-- the script was played, and the log is the script
pub record IsKeptAs (disk disk_now : DiskFacts) (script : Script) (text : List ℕ) : Type 0 where
  pub printed : IsPrinted script.config (played script.config script.events) text
  pub empty : WasEmpty disk
  pub holds : HoldsLog disk_now script.config script.events

-- how keeping a script may end
abbrev pub EndsKeeping : DiskFacts → DiskFacts → Script → Ending → Type 0
EndsKeeping disk disk_now script (Ending.Prints text status) = (status ≡ 0) × IsKeptAs disk disk_now script text.items
EndsKeeping disk disk_now script (Ending.Says line status) = IsNotKept disk disk_now line.items status
EndsKeeping disk disk_now script Ending.NoMemory = Unit {0}
EndsKeeping disk disk_now script _ = ⊥
