-- which words are a command
use Rattle.std.specs.Prelude.{◌≤◌, ◌==◌, ℕ, List, [], ◌∷◌, codes, if◌then◌else◌, Option, Some, None}
use Rattle.std.specs.Str.{bytes_eq}
use Rattle.np_replay.specs.FileName.{is_file_name}
use Rattle.np_replay.specs.declared.command.Command.{Command}
use Rattle.np_replay.specs.Lower.{number_of}

-- the first word that is two dashes, left out
abbrev pub without_dashes : List (List ℕ) → List (List ℕ)
without_dashes [] = []
without_dashes (w ∷ ws) = if bytes_eq w (codes "--") then ws else w ∷ without_dashes ws

-- the command of a word
abbrev pub command_word : List ℕ → Option Command
command_word w =
    if bytes_eq w (codes "replay") then Some Command.Replay
    else if bytes_eq w (codes "run") then Some Command.Run
    else if bytes_eq w (codes "audit") then Some Command.Audit
    else None

-- a drill of this number of jobs, if it is a number and not 0
abbrev pub drill_of : Option ℕ → Option Command
drill_of None = None
drill_of (Some n) = if n == 0 then None else Some (Command.Drill n)

-- what is run, by the word after `run`
abbrev pub run_of : List ℕ → Option Command
run_of w =
    if bytes_eq w (codes "hosts") then Some Command.RunHosts
    else if bytes_eq w (codes "planned") then Some Command.RunPlanned
    else None

-- the command of two words: `run` and what is run, `drill` and a decimal number of at most 4,000
-- without leading zeros, or `keep` or `resume` and the name of a file
abbrev pub command_pair : List ℕ → List ℕ → Option Command
command_pair w v =
    if bytes_eq w (codes "run") then run_of v
    else if bytes_eq w (codes "drill") then drill_of (number_of 4000 v)
    else if bytes_eq w (codes "keep") then (if is_file_name v then Some (Command.Keep v) else None)
    else if bytes_eq w (codes "resume") then (if is_file_name v then Some (Command.Resume v) else None)
    else None

-- the command of words without dashes
abbrev pub bare_command : List (List ℕ) → Option Command
bare_command (w ∷ []) = command_word w
bare_command (w ∷ v ∷ []) = command_pair w v
bare_command words = None

-- the command of all words
abbrev pub command : List (List ℕ) → Option Command
command words = bare_command (without_dashes words)

-- a drill has from 1 to 4,000 jobs
abbrev pub HasJobs : Command → Type 0
HasJobs (Command.Drill jobs) = (1 ≤ jobs) × (jobs ≤ 4000)
HasJobs _ = Unit {0}
