-- what a script asks for, or the first thing that is wrong with it
use Rattle.std.specs.Prelude.{◌≤◌, ℕ, List, Option, Some, None, Result, Ok, Err, length}
use Rattle.std.specs.List.{AllByRecursion}
use Rattle.np_report.specs.declared.lines.LinesFault.{LinesFault}
use Rattle.np_report.specs.declared.script.Script.{Script}
use Rattle.np_report.specs.declared.script.ScriptFault.{ScriptFault}
use Rattle.np_report.specs.declared.script.ScriptFault.TheVariants.{Config, NoSeparator, Lines}
use Rattle.np_report.specs.Lines.{lines_read}
use Rattle.np_report.specs.Lower.{ConfigFault, Configuration, Event, HasEventLine, IsSound, LineFault, event_in, lines_of, reads, sections_of, words_of}

-- ## the event lines

-- the event of a line, or the line's first fault
abbrev pub event_said : List ℕ → Result Event LineFault
event_said line = event_in (words_of line)

-- the most event lines of a script: as many as a journal holds entries (own)
abbrev pub most_lines : ℕ
most_lines = 262144

-- the events of these lines, or the first line that is no event or is one too many
abbrev pub events_of : List (List ℕ) → Result (List Event) (LinesFault LineFault)
events_of lines = lines_read event_said most_lines 1 lines

-- ## the whole script

-- the configuration's fault first, and then what is wrong after it
abbrev pub first_fault : Result Configuration ConfigFault → (Configuration → Result Script ScriptFault) → Result Script ScriptFault
first_fault (Ok c) rest = rest c
first_fault (Err f) rest = Err (Config f)

-- a configuration with the events to play over it
abbrev pub with_events : Result (List Event) (LinesFault LineFault) → Configuration → Result Script ScriptFault
with_events (Err fault) c = Err (Lines fault)
with_events (Ok events) c = Ok (record { config = c; events = events })

-- if no line is the bar, the whole text is read as the configuration
abbrev pub script_in : List ℕ → Option (List ℕ × List ℕ) → Result Script ScriptFault
script_in bytes None = first_fault (reads bytes) (λ c. Err NoSeparator)
script_in bytes (Some parts) = first_fault (reads parts.0) (with_events (events_of (lines_of parts.1)))

unfoldable pub script_of : List ℕ → Result Script ScriptFault
script_of bytes = script_in bytes (sections_of bytes)

-- a sound configuration, and no more events than a journal holds, each of which has a line
pub record IsPlayable (script : Script) : Type 0 where
  pub sound : IsSound script.config
  pub few : length script.events ≤ most_lines
  pub lines : AllByRecursion HasEventLine script.events
