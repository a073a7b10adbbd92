-- what the command `keep` does: a replay whose script is in a log before it is played
use Rattle.std.specs.Prelude.{◌≡◌, ◌⊎◌, ◌<◌, ℕ, List, [], Bool, true, false, IfSome, Result, Ok, Err, length, nat_lt}
use Rattle.np_replay.specs.declared.ending.Ending.{Ending}
use Rattle.np_replay.specs.Input.{IsInput, Stops, most}
use Rattle.np_replay.specs.Lines.{script_status}
use Rattle.np_replay.specs.Failures.{ShowsFailures}
use Rattle.np_replay.specs.Told.{IsTold, EndsSo}
use Rattle.np_replay.specs.Replay.{IsFaulty, IsReplayed}
use Rattle.np_replay.specs.Logged.{HoldsLog, IsPartOfLog, disk_line, not_empty_line}
use Rattle.np_replay.specs.Lower.{DiskFacts, IsWritten, LeavesOnly, Rose, Script, ScriptFault, SinkFacts, SourceFacts, content_of, script_of}

-- ## the file

-- it was empty, if the disk tells
abbrev pub WasEmpty : DiskFacts → Type 0
WasEmpty disk = IfSome disk.now (λ file. file ≡ [])

-- it was not
abbrev pub WasNotEmpty : DiskFacts → Type 0
WasNotEmpty disk = IfSome disk.now (λ file. 0 < length file)

-- ## how a keep may end

-- the text is that of the script's run, and the log is its script
pub record IsKept {D : Type 0} (d : D → DiskFacts) (source source_now : SourceFacts) (disk disk_now : D) (text : List ℕ) : Type 0 where
  pub replayed : IsReplayed source source_now text
  pub empty : WasEmpty (d disk)
  pub holds : HoldsLog (d disk_now) replayed.script.config replayed.script.events

-- the input is a script
pub record HasScript (source source_now : SourceFacts) : Type 0 where
  pub came : List ℕ
  pub script : Script
  pub input : IsInput source source_now came
  pub read : script_of came ≡ Ok script

-- the file was not empty, and no byte of it changed
pub record IsOccupied (disk disk_now : DiskFacts) (line : List ℕ) : Type 0 where
  pub not_empty : WasNotEmpty disk
  pub same : disk_now.now ≡ disk.now
  pub told : line ≡ not_empty_line

-- a call of the disk failed
pub record IsBroken (disk disk_now : DiskFacts) (line : List ℕ) : Type 0 where
  pub rose : Rose disk.faults disk_now.faults
  pub told : line ≡ disk_line

-- why a script was not kept
abbrev pub IsNotKept : DiskFacts → DiskFacts → List ℕ → ℕ → Type 0
IsNotKept disk disk_now line status =
    ((status ≡ 10) × IsBroken disk disk_now line) ⊎ ((status ≡ 11) × IsOccupied disk disk_now line)

-- how a keep may end, by what came from the source and what the disk had
abbrev pub EndsKeep : {D : Type 0} → (D → DiskFacts) → SourceFacts → SourceFacts → D → D → Ending → Type 0
EndsKeep d source source_now disk disk_now (Ending.Prints text status) = (status ≡ 0) × IsKept d source source_now disk disk_now text.items
EndsKeep d source source_now disk disk_now (Ending.Says line status) =
    (IsFaulty source source_now line.items status × (disk_now ≡ disk))
    ⊎ (HasScript source source_now × IsNotKept (d disk) (d disk_now) line.items status)
EndsKeep d source source_now disk disk_now Ending.ReadFault = Stops source source_now Ending.ReadFault × (disk_now ≡ disk)
EndsKeep d source source_now disk disk_now Ending.TooLong = Stops source source_now Ending.TooLong × (disk_now ≡ disk)
EndsKeep d source source_now disk disk_now Ending.NoMemory = Unit {0}
EndsKeep d source source_now disk disk_now _ = ⊥

-- ## what a crash leaves

-- what a crash might have left before; or no log, damaged at record 0; or a log of the input's
-- configuration and the first of its events, or all
abbrev pub IsBegun : (List ℕ → Type 0) → List ℕ → List ℕ → Type 0
IsBegun images came image = images image ⊎ (content_of image ≡ Err 0)
    ⊎ ((script : Script) × (script_of came ≡ Ok script) × IsPartOfLog script.config [] script.events image)

-- the disk is as it was, or at every moment a crash leaves no more than a part of the log
abbrev pub KeepsWhole : {D : Type 0} → (D → DiskFacts) → SourceFacts → SourceFacts → D → D → Type 0
KeepsWhole d source source_now disk disk_now = (disk_now ≡ disk)
    ⊎ ((came : List ℕ) × IsInput source source_now came
    × IfSome (d disk).now (λ file. LeavesOnly (d disk) (d disk_now) (IsBegun (d disk).may_leave came)))

-- ## the statuses that belong to an input and a file

-- 3 or 4 for a fault; otherwise 0 if the file was empty, 11 if it was not, 10 if the disk failed
abbrev pub IsStatusBy : DiskFacts → DiskFacts → Result Script ScriptFault → ℕ → Type 0
IsStatusBy disk disk_now (Err fault) status = status ≡ script_status fault
IsStatusBy disk disk_now (Ok script) status =
    ((status ≡ 0) × WasEmpty disk) ⊎ ((status ≡ 11) × WasNotEmpty disk) ⊎ ((status ≡ 10) × Rose disk.faults disk_now.faults)

-- 5 if the input is too long
abbrev pub IsStatusIf : DiskFacts → DiskFacts → Bool → List ℕ → ℕ → Type 0
IsStatusIf disk disk_now true came status = status ≡ 5
IsStatusIf disk disk_now false came status = IsStatusBy disk disk_now (script_of came) status

-- ## what the streams, the disk and the status show

pub record Keeps {S K E D : Type 0} (s : S → SourceFacts) (k : K → SinkFacts) (e : E → SinkFacts) (d : D → DiskFacts) (source source_now : S) (out out_now : K) (err err_now : E) (disk disk_now : D) (status : ℕ) : Type 0 where
  -- the keep ended so, and out, err and the status show it
  pub ending : Ending
  pub ends : EndsKeep d (s source) (s source_now) disk disk_now ending
  pub told : IsTold k e out out_now err err_now ending status
  -- status 0: the Text of the script's run is on out, nothing on err, and the log is the script
  pub done : status ≡ 0 → (text : List ℕ) × IsKept d (s source) (s source_now) disk disk_now text × IsWritten (k out) (k out_now) text × (err_now ≡ err)
  -- status 3 or 4: the line of the script's first fault is on err, nothing on out, and the disk is as it was
  pub fault : (status ≡ 3) ⊎ (status ≡ 4) → (line : List ℕ) × IsFaulty (s source) (s source_now) line status × IsWritten (e err) (e err_now) line
      × (out_now ≡ out) × (disk_now ≡ disk)
  -- status 10: the input is a script, and a call of the disk failed; nothing is on out
  pub broken : status ≡ 10 → HasScript (s source) (s source_now) × Rose (d disk).faults (d disk_now).faults × IsWritten (e err) (e err_now) disk_line × (out_now ≡ out)
  -- status 11: the input is a script, and the file was not empty and is as it was; nothing is on out
  pub occupied : status ≡ 11 → HasScript (s source) (s source_now) × WasNotEmpty (d disk) × ((d disk_now).now ≡ (d disk).now)
      × IsWritten (e err) (e err_now) not_empty_line × (out_now ≡ out)
  -- whatever the status: at every moment a crash leaves no more than a part of the log
  pub crash : KeepsWhole d (s source) (s source_now) disk disk_now
  -- `read`, `write` and `memory`: statuses 5, 6 and 7
  pub failures : ShowsFailures s k e source source_now out out_now err err_now status
  -- the status is the input's and the file's, unless a stream failed or memory ran out
  pub complete : IfSome (s source).left (λ left. EndsSo (IsStatusIf (d disk) (d disk_now) (nat_lt most (length left)) left status) status
      (Rose (s source).faults (s source_now).faults)
      (Rose (k out).faults (k out_now).faults ⊎ Rose (e err).faults (e err_now).faults))
