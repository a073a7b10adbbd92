-- what a transaction log says of a site and its events, and what a crash leaves of it
use Rattle.std.specs.Prelude.{◌≡◌, ◌⊎◌, ◌≤◌, ◌-◌, ◌++◌, ℕ, List, length, take, IfSome, Result, Ok, Err, codes, decimal}
use Rattle.np_replay.specs.Lower.{Configuration, Content, DiskFacts, Event, LineFault, LinesFault, Only, canonical, content_of, event_said, line, lines_of, lines_read, most_lines, reads}

-- ## what a log says

-- the bytes are a log of this configuration's one text and these events
abbrev pub IsLogOf : Configuration → List Event → List ℕ → Type 0
IsLogOf c events file = content_of file ≡ Ok (record { config = canonical c; events = events })

-- the disk's bytes, if they are known, are such a log, and a crash leaves nothing else
abbrev pub HoldsLog : DiskFacts → Configuration → List Event → Type 0
HoldsLog disk c events = IfSome disk.now (λ file. IsLogOf c events file × Only file disk.may_leave)

-- the bytes are a log of these events, and the first ones, or all, of those that come after them
abbrev pub IsPartOfLog : Configuration → List Event → List Event → List ℕ → Type 0
IsPartOfLog c before events file = (n : ℕ) × (n ≤ length events) × IsLogOf c (before ++ take n events) file

-- the bytes are no log up to this record; or they are one, but record 0 is not the one text of a configuration
abbrev pub IsDamagedAt : ℕ → List ℕ → Type 0
IsDamagedAt number file = (content_of file ≡ Err number)
    ⊎ ((number ≡ 0) × ((said : Content) × (content_of file ≡ Ok said)
    × ((c : Configuration) → reads said.config ≡ Ok c → said.config ≡ canonical c → ⊥)))

-- ## the lines of events that come after those of a log

-- the events of these lines, or the first line that is no event, or with which the events are more than a script may have
abbrev pub more_of : List Event → List ℕ → Result (List Event) (LinesFault LineFault)
more_of before came = lines_read event_said (most_lines - length before) 1 (lines_of came)

-- ## what is said of a log

abbrev pub disk_line : List ℕ
disk_line = line (codes "poolsim: log: disk fault")

abbrev pub not_empty_line : List ℕ
not_empty_line = line (codes "poolsim: log: file is not empty")

unfoldable pub damaged_line : ℕ → List ℕ
damaged_line number = line (codes "poolsim: log: damaged at record " ++ decimal number)
