-- why a log was not written or not read, and how a command ends then
use Rattle.std.specs.Prelude.{◌≡◌, ℕ, List}
use Rattle.np_replay.specs.declared.ending.Ending.{Ending}
use Rattle.np_replay.specs.Lines.{script_line, script_status}
use Rattle.np_replay.specs.declared.fault.LogFault.{LogFault}
use Rattle.np_replay.specs.Logged.{damaged_line, disk_line, not_empty_line}
use Rattle.np_replay.specs.Lower.{AppendFault, CreateFault, LoadFault, ScriptFault}

-- what a call of the log that gave up comes to
abbrev pub of_create : CreateFault → LogFault
of_create CreateFault.NotEmpty = LogFault.NotEmpty
of_create CreateFault.DiskFault = LogFault.Disk
of_create CreateFault.NoMemory = LogFault.NoMemory

abbrev pub of_load : LoadFault → LogFault
of_load (LoadFault.Damaged number) = LogFault.Damaged number
of_load LoadFault.DiskFault = LogFault.Disk
of_load LoadFault.NoMemory = LogFault.NoMemory

abbrev pub of_append : AppendFault → LogFault
of_append AppendFault.DiskFault = LogFault.Disk
of_append (AppendFault.NoMemory back) = LogFault.NoMemory

-- the line and the status of a fault; want of memory has none of its own here
abbrev pub IsSaidOf : LogFault → List ℕ → ℕ → Type 0
IsSaidOf LogFault.Disk line status = (line ≡ disk_line) × (status ≡ 10)
IsSaidOf LogFault.NotEmpty line status = (line ≡ not_empty_line) × (status ≡ 11)
IsSaidOf (LogFault.Damaged number) line status = (line ≡ damaged_line number) × (status ≡ 11)
IsSaidOf LogFault.NoMemory line status = ⊥

-- the ending says so, unless memory ran out
abbrev pub TellsFault : LogFault → Ending → Type 0
TellsFault fault (Ending.Says line status) = IsSaidOf fault line.items status
TellsFault fault Ending.NoMemory = Unit {0}
TellsFault fault _ = ⊥

-- the ending says the script's fault, unless memory ran out
abbrev pub TellsScript : ScriptFault → Ending → Type 0
TellsScript fault (Ending.Says line status) = (line.items ≡ script_line fault) × (status ≡ script_status fault)
TellsScript fault Ending.NoMemory = Unit {0}
TellsScript fault _ = ⊥
