-- what the command `resume` does: the events of a log, and then those of its input
use Rattle.std.specs.Prelude.{◌≡◌, ◌⊎◌, ℕ, List, ◌++◌, Bool, true, false, IfSome, Ok, Err, length, nat_lt}
use Rattle.np_replay.specs.declared.ending.Ending.{Ending}
use Rattle.np_replay.specs.Input.{IsInput, Stops, most}
use Rattle.np_replay.specs.Lines.{lines_line}
use Rattle.np_replay.specs.Failures.{ShowsFailures}
use Rattle.np_replay.specs.Told.{IsTold, EndsSo}
use Rattle.np_replay.specs.Keep.{IsBroken}
use Rattle.np_replay.specs.Logged.{HoldsLog, IsDamagedAt, IsLogOf, IsPartOfLog, damaged_line, disk_line, more_of}
use Rattle.np_replay.specs.Lower.{Configuration, DiskFacts, Event, IsPrinted, IsWritten, LeavesOnly, LineFault, LinesFault, Rose, SinkFacts, SourceFacts, canonical, played, reads}

-- the bytes are a log of this configuration and these events, and what record 0 is read as is this configuration
abbrev pub IsReadLogOf : Configuration → List Event → List ℕ → Type 0
IsReadLogOf c events file = (reads (canonical c) ≡ Ok c) × IsLogOf c events file

-- ## how a resume may end

-- the disk has a log, the input's lines go on with it, the text is that of the run of all events, and the log is they
pub record IsResumed {D : Type 0} (d : D → DiskFacts) (source source_now : SourceFacts) (disk disk_now : D) (text : List ℕ) : Type 0 where
  pub came : List ℕ
  pub config : Configuration
  pub before : List Event
  pub more : List Event
  pub input : IsInput source source_now came
  pub was : IfSome (d disk).now (IsReadLogOf config before)
  pub read : more_of before came ≡ Ok more
  pub printed : IsPrinted config (played config (before ++ more)) text
  pub holds : HoldsLog (d disk_now) config (before ++ more)

-- the log is damaged, and no byte of it changed
pub record IsDamaged (source source_now : SourceFacts) (disk disk_now : DiskFacts) (line : List ℕ) : Type 0 where
  pub came : List ℕ
  pub number : ℕ
  pub input : IsInput source source_now came
  pub found : IfSome disk.now (IsDamagedAt number)
  pub same : disk_now.now ≡ disk.now
  pub told : line ≡ damaged_line number

-- the log was loaded, a line of the input is at fault or one too many, and no byte of the log changed
pub record IsMisread (source source_now : SourceFacts) (disk disk_now : DiskFacts) (line : List ℕ) : Type 0 where
  pub came : List ℕ
  pub config : Configuration
  pub before : List Event
  pub fault : LinesFault LineFault
  pub input : IsInput source source_now came
  pub was : IfSome disk.now (IsReadLogOf config before)
  pub read : more_of before came ≡ Err fault
  pub same : disk_now.now ≡ disk.now
  pub told : line ≡ lines_line fault

-- the input was read, and a call of the disk failed
pub record IsCutOff (source source_now : SourceFacts) (disk disk_now : DiskFacts) (line : List ℕ) : Type 0 where
  pub came : List ℕ
  pub input : IsInput source source_now came
  pub broken : IsBroken disk disk_now line

-- why a log did not go on
abbrev pub IsNotResumed : SourceFacts → SourceFacts → DiskFacts → DiskFacts → List ℕ → ℕ → Type 0
IsNotResumed source source_now disk disk_now line status =
    ((status ≡ 4) × IsMisread source source_now disk disk_now line)
    ⊎ ((status ≡ 10) × IsCutOff source source_now disk disk_now line)
    ⊎ ((status ≡ 11) × IsDamaged source source_now disk disk_now line)

-- how a resume may end, by what came from the source and what the disk had
abbrev pub EndsResume : {D : Type 0} → (D → DiskFacts) → SourceFacts → SourceFacts → D → D → Ending → Type 0
EndsResume d source source_now disk disk_now (Ending.Prints text status) = (status ≡ 0) × IsResumed d source source_now disk disk_now text.items
EndsResume d source source_now disk disk_now (Ending.Says line status) = IsNotResumed source source_now (d disk) (d disk_now) line.items status
EndsResume d source source_now disk disk_now Ending.ReadFault = Stops source source_now Ending.ReadFault × (disk_now ≡ disk)
EndsResume d source source_now disk disk_now Ending.TooLong = Stops source source_now Ending.TooLong × (disk_now ≡ disk)
EndsResume d source source_now disk disk_now Ending.NoMemory = Unit {0}
EndsResume d source source_now disk disk_now _ = ⊥

-- ## what a crash leaves

-- what a crash might have left before, or the log of the file with the first of the lines' events, or all
abbrev pub IsGoingOn : (List ℕ → Type 0) → List ℕ → List ℕ → List ℕ → Type 0
IsGoingOn images file came image = images image
    ⊎ ((c : Configuration) × (before : List Event) × (more : List Event)
    × IsReadLogOf c before file × (more_of before came ≡ Ok more) × IsPartOfLog c before more image)

-- the disk is as it was, or at every moment a crash leaves the log with a part of the events
abbrev pub ResumesWhole : {D : Type 0} → (D → DiskFacts) → SourceFacts → SourceFacts → D → D → Type 0
ResumesWhole d source source_now disk disk_now = (disk_now ≡ disk)
    ⊎ ((came : List ℕ) × IsInput source source_now came
    × IfSome (d disk).now (λ file. LeavesOnly (d disk) (d disk_now) (IsGoingOn (d disk).may_leave file came)))

-- ## the statuses that belong to an input and a file

-- 0 if the file is a log and the lines go on with it, 4 if it is a log and they do not, 11 if it is damaged, 10 if the disk failed
abbrev pub IsStatusBy : DiskFacts → DiskFacts → List ℕ → ℕ → Type 0
IsStatusBy disk disk_now came status =
    ((status ≡ 0) × IfSome disk.now (λ file. (c : Configuration) × (before : List Event) × (more : List Event) × IsReadLogOf c before file × (more_of before came ≡ Ok more)))
    ⊎ ((status ≡ 4) × IfSome disk.now (λ file. (c : Configuration) × (before : List Event) × (fault : LinesFault LineFault) × IsReadLogOf c before file × (more_of before came ≡ Err fault)))
    ⊎ ((status ≡ 11) × IfSome disk.now (λ file. (n : ℕ) × IsDamagedAt n file))
    ⊎ ((status ≡ 10) × Rose disk.faults disk_now.faults)

-- 5 if the input is too long
abbrev pub IsStatusIf : DiskFacts → DiskFacts → Bool → List ℕ → ℕ → Type 0
IsStatusIf disk disk_now true came status = status ≡ 5
IsStatusIf disk disk_now false came status = IsStatusBy disk disk_now came status

-- ## what the streams, the disk and the status show

pub record Resumes {S K E D : Type 0} (s : S → SourceFacts) (k : K → SinkFacts) (e : E → SinkFacts) (d : D → DiskFacts) (source source_now : S) (out out_now : K) (err err_now : E) (disk disk_now : D) (status : ℕ) : Type 0 where
  -- the resume ended so, and out, err and the status show it
  pub ending : Ending
  pub ends : EndsResume d (s source) (s source_now) disk disk_now ending
  pub told : IsTold k e out out_now err err_now ending status
  -- status 0: the Text of the run of the log's events and the input's is on out, nothing on err, and the log is all of them
  pub done : status ≡ 0 → (text : List ℕ) × IsResumed d (s source) (s source_now) disk disk_now text × IsWritten (k out) (k out_now) text × (err_now ≡ err)
  -- status 4: the line of the first of the input's lines at fault is on err, nothing on out, and no byte of the log changed
  pub misread : status ≡ 4 → (line : List ℕ) × IsMisread (s source) (s source_now) (d disk) (d disk_now) line × IsWritten (e err) (e err_now) line × (out_now ≡ out)
  -- status 10: a call of the disk failed; nothing is on out
  pub broken : status ≡ 10 → Rose (d disk).faults (d disk_now).faults × IsWritten (e err) (e err_now) disk_line × (out_now ≡ out)
  -- status 11: the log is damaged, err says at which record, nothing is on out, and no byte of the log changed
  pub damaged : status ≡ 11 → (line : List ℕ) × IsDamaged (s source) (s source_now) (d disk) (d disk_now) line × IsWritten (e err) (e err_now) line × (out_now ≡ out)
  -- whatever the status: at every moment a crash leaves the log with a part of the events
  pub crash : ResumesWhole d (s source) (s source_now) disk disk_now
  -- `read`, `write` and `memory`: statuses 5, 6 and 7
  pub failures : ShowsFailures s k e source source_now out out_now err err_now status
  -- the status is the input's and the file's, unless a stream failed or memory ran out
  pub complete : IfSome (s source).left (λ left. EndsSo (IsStatusIf (d disk) (d disk_now) (nat_lt most (length left)) left status) status
      (Rose (s source).faults (s source_now).faults)
      (Rose (k out).faults (k out_now).faults ⊎ Rose (e err).faults (e err_now).faults))
