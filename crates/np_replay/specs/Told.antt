-- what the streams show of how a command ended
use Rattle.std.specs.Prelude.{◌≡◌, ℕ, List, codes, ◌⊎◌}
use Rattle.np_replay.specs.declared.ending.Ending.{Ending}
use Rattle.np_replay.specs.Lower.{IsCutShort, IsWritten, ReadAll, SinkFacts, line}

-- ## the lines that every command shares

abbrev pub usage_line : List ℕ
usage_line = line (codes "poolsim: usage: poolsim replay | run [hosts | planned] | audit | drill N | keep FILE | resume FILE")

abbrev pub read_line : List ℕ
read_line = line (codes "poolsim: read fault")

abbrev pub long_line : List ℕ
long_line = line (codes "poolsim: input is longer than 67108864 bytes")

abbrev pub write_line : List ℕ
write_line = line (codes "poolsim: write fault")

abbrev pub memory_line : List ℕ
memory_line = line (codes "poolsim: out of memory")

abbrev pub full_line : List ℕ
full_line = line (codes "poolsim: journal is full")

-- ## what is written

-- the line is on err, whole, with the wanted status; or err failed, a beginning of the line is on it, and the status is 6
abbrev pub IsSaid : SinkFacts → SinkFacts → List ℕ → ℕ → ℕ → Type 0
IsSaid err err_now line wanted status =
    ((status ≡ wanted) × IsWritten err err_now line) ⊎ ((status ≡ 6) × IsCutShort err err_now line)

-- the text is on out, whole, with the wanted status, and err is untouched; or out failed, a
-- beginning of the text is on it, and err says so, with status 6
abbrev pub IsShown : {K E : Type 0} → (K → SinkFacts) → (E → SinkFacts) → K → K → E → E → List ℕ → ℕ → ℕ → Type 0
IsShown k e out out_now err err_now text wanted status =
    ((status ≡ wanted) × IsWritten (k out) (k out_now) text × (err_now ≡ err))
    ⊎ (IsCutShort (k out) (k out_now) text × IsSaid (e err) (e err_now) write_line 6 status)

-- the text is on out, whole, and then err says that the journal was full, with status 9; or out
-- failed, a beginning of the text is on it, and err says so, with status 6
abbrev pub IsShownFull : {K E : Type 0} → (K → SinkFacts) → (E → SinkFacts) → K → K → E → E → List ℕ → ℕ → Type 0
IsShownFull k e out out_now err err_now text status =
    (IsWritten (k out) (k out_now) text × IsSaid (e err) (e err_now) full_line 9 status)
    ⊎ (IsCutShort (k out) (k out_now) text × IsSaid (e err) (e err_now) write_line 6 status)

-- out is untouched, and the line is on err
abbrev pub IsRefused : {K E : Type 0} → (K → SinkFacts) → (E → SinkFacts) → K → K → E → E → List ℕ → ℕ → ℕ → Type 0
IsRefused k e out out_now err err_now line wanted status = (out_now ≡ out) × IsSaid (e err) (e err_now) line wanted status

-- how a command ended, as out, err and the status show it
abbrev pub IsTold : {K E : Type 0} → (K → SinkFacts) → (E → SinkFacts) → K → K → E → E → Ending → ℕ → Type 0
IsTold k e out out_now err err_now (Ending.Prints text wanted) status = IsShown k e out out_now err err_now text.items wanted status
IsTold k e out out_now err err_now (Ending.Full text) status = IsShownFull k e out out_now err err_now text.items status
IsTold k e out out_now err err_now (Ending.Says said wanted) status = IsRefused k e out out_now err err_now said.items wanted status
IsTold k e out out_now err err_now Ending.NoCommand status = IsRefused k e out out_now err err_now usage_line 2 status
IsTold k e out out_now err err_now Ending.ReadFault status = IsRefused k e out out_now err err_now read_line 5 status
IsTold k e out out_now err err_now Ending.TooLong status = IsRefused k e out out_now err err_now long_line 5 status
IsTold k e out out_now err err_now Ending.NoMemory status = IsRefused k e out out_now err err_now memory_line 7 status

-- how a command ends whose input was not read
abbrev pub ending_of : ReadAll → Ending
ending_of ReadAll.ReadFault = Ending.ReadFault
ending_of ReadAll.TooLong = Ending.TooLong
ending_of ReadAll.NoMemory = Ending.NoMemory

-- ## the status

-- what belongs to the input, or a status that a failed stream or memory that ran out puts in its place
abbrev pub EndsSo : Type 0 → ℕ → Type 0 → Type 0 → Type 0
EndsSo right status source_failed sink_failed =
    right ⊎ (status ≡ 7) ⊎ ((status ≡ 5) × source_failed) ⊎ ((status ≡ 6) × sink_failed)

-- the status that belongs to the input, or another by such a failure
abbrev pub EndsAs : ℕ → ℕ → Type 0 → Type 0 → Type 0
EndsAs wanted status source_failed sink_failed = EndsSo (status ≡ wanted) status source_failed sink_failed
