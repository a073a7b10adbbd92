-- what the command `replay` does
use Rattle.std.specs.Prelude.{◌≡◌, ◌⊎◌, ℕ, List, IfSome, Result, Ok, Err, length, nat_lt, if◌then◌else◌}
use Rattle.np_replay.specs.declared.ending.Ending.{Ending}
use Rattle.np_replay.specs.Input.{IsInput, Stops, most}
use Rattle.np_replay.specs.Lines.{script_line, script_status}
use Rattle.np_replay.specs.Failures.{ShowsFailures}
use Rattle.np_replay.specs.Told.{IsTold, EndsAs}
use Rattle.np_replay.specs.Lower.{IsPrinted, IsWritten, Rose, Script, ScriptFault, SinkFacts, SourceFacts, played, script_of}

-- ## how a replay may end

-- the input is a script, and the text is that of its run
pub record IsReplayed (source source_now : SourceFacts) (text : List ℕ) : Type 0 where
  pub came : List ℕ
  pub script : Script
  pub input : IsInput source source_now came
  pub read : script_of came ≡ Ok script
  pub printed : IsPrinted script.config (played script.config script.events) text

-- the input is no script, and the line and the status are those of its first fault
pub record IsFaulty (source source_now : SourceFacts) (line : List ℕ) (status : ℕ) : Type 0 where
  pub came : List ℕ
  pub fault : ScriptFault
  pub input : IsInput source source_now came
  pub read : script_of came ≡ Err fault
  pub told : line ≡ script_line fault
  pub ends : status ≡ script_status fault

-- how a replay may end, by what came from the source
abbrev pub EndsReplay : SourceFacts → SourceFacts → Ending → Type 0
EndsReplay source source_now (Ending.Prints text status) = (status ≡ 0) × IsReplayed source source_now text.items
EndsReplay source source_now (Ending.Says line status) = IsFaulty source source_now line.items status
EndsReplay source source_now Ending.ReadFault = Stops source source_now Ending.ReadFault
EndsReplay source source_now Ending.TooLong = Stops source source_now Ending.TooLong
EndsReplay source source_now Ending.NoMemory = Unit {0}
EndsReplay source source_now _ = ⊥

-- ## the status that belongs to an input

abbrev pub status_by : Result Script ScriptFault → ℕ
status_by (Ok script) = 0
status_by (Err fault) = script_status fault

-- 5 if it is too long, otherwise by the script
abbrev pub status_of : List ℕ → ℕ
status_of came = if nat_lt most (length came) then 5 else status_by (script_of came)

-- ## what the streams and the status show

pub record Replays {S K E : Type 0} (s : S → SourceFacts) (k : K → SinkFacts) (e : E → SinkFacts) (source source_now : S) (out out_now : K) (err err_now : E) (status : ℕ) : Type 0 where
  -- the replay ended so, and out, err and the status show it
  pub ending : Ending
  pub ends : EndsReplay (s source) (s source_now) ending
  pub told : IsTold k e out out_now err err_now ending status
  -- status 0: the Text of the script's run is on out, and nothing on err
  pub done : status ≡ 0 → (text : List ℕ) × IsReplayed (s source) (s source_now) text × IsWritten (k out) (k out_now) text × (err_now ≡ err)
  -- status 3 or 4: the line of the script's first fault is on err, and nothing on out
  pub fault : (status ≡ 3) ⊎ (status ≡ 4) → (line : List ℕ) × IsFaulty (s source) (s source_now) line status × IsWritten (e err) (e err_now) line × (out_now ≡ out)
  -- `read`, `write` and `memory`: statuses 5, 6 and 7
  pub failures : ShowsFailures s k e source source_now out out_now err err_now status
  -- the status is the input's, unless a stream failed or memory ran out
  pub complete : IfSome (s source).left (λ left. EndsAs (status_of left) status
      (Rose (s source).faults (s source_now).faults)
      (Rose (k out).faults (k out_now).faults ⊎ Rose (e err).faults (e err_now).faults))
