-- the lines that report the fault of a script or of a site with hosts, and its status
use Rattle.std.specs.Prelude.{ℕ, List, ◌++◌, codes, decimal}
use Rattle.np_replay.specs.Lower.{ConfigFault, ConfigKind, HostedFault, HostsFault, LineFault, LinesFault, PoolId, ScriptFault, line}

abbrev pub kind_text : ConfigKind → List ℕ
kind_text ConfigKind.NotJson = codes "not-json"
kind_text ConfigKind.Missing = codes "missing"
kind_text ConfigKind.UnknownKey = codes "unknown-key"
kind_text ConfigKind.WrongType = codes "wrong-type"
kind_text ConfigKind.OutOfRange = codes "out-of-range"
kind_text ConfigKind.BadName = codes "bad-name"
kind_text ConfigKind.Repeated = codes "repeated"
kind_text ConfigKind.UnknownName = codes "unknown-name"
kind_text ConfigKind.TooMany = codes "too-many"

-- a configuration's fault: its kind, and its place after a number sign
unfoldable pub config_line : ConfigFault → List ℕ
config_line f = line (codes "poolsim: configuration: " ++ kind_text f.kind ++ codes " #" ++ f.pointer)

abbrev pub separator_line : List ℕ
separator_line = line (codes "poolsim: script: no separator")

-- an event line's fault; a word's place counts from 1
abbrev pub fault_text : LineFault → List ℕ
fault_text LineFault.UnknownEvent = codes "unknown-event"
fault_text LineFault.WrongCount = codes "wrong-count"
fault_text (LineFault.BadArgument word) = codes "bad-argument " ++ decimal word

-- what is wrong with the line of a number, after what it is a line of
unfoldable pub numbered_line : List ℕ → ℕ → List ℕ → List ℕ
numbered_line start n what = line (start ++ decimal n ++ codes ": " ++ what)

-- what is wrong with the event line of a number
abbrev pub event_line : ℕ → List ℕ → List ℕ
event_line n what = numbered_line (codes "poolsim: script: line ") n what

-- the line that reports the first event line that is at fault, or one too many
abbrev pub lines_line : LinesFault LineFault → List ℕ
lines_line (LinesFault.Line n f) = event_line n (fault_text f)
lines_line (LinesFault.TooMany n) = event_line n (codes "too-many")

-- the line that reports a script's fault
abbrev pub script_line : ScriptFault → List ℕ
script_line (ScriptFault.Config f) = config_line f
script_line ScriptFault.NoSeparator = separator_line
script_line (ScriptFault.Lines f) = lines_line f

-- its status
abbrev pub script_status : ScriptFault → ℕ
script_status (ScriptFault.Config f) = 3
script_status _ = 4

-- ## hosts

-- what is wrong with the host line of a number
abbrev pub host_line : ℕ → List ℕ → List ℕ
host_line n what = numbered_line (codes "poolsim: hosts: line ") n what

-- the hosts of the pool carry so many servers together, and it may have more
unfoldable pub room_line : PoolId → ℕ → List ℕ
room_line p room = line (codes "poolsim: hosts: pool p" ++ decimal p.0 ++ codes " has room " ++ decimal room)

-- the line that reports the fault of host lines
abbrev pub hosts_line : HostsFault → List ℕ
hosts_line (HostsFault.Line n f) = host_line n (fault_text f)
hosts_line (HostsFault.TooMany n) = host_line n (codes "too-many")
hosts_line (HostsFault.Room p room) = room_line p room

-- the line that reports the fault of a site with hosts
abbrev pub hosted_line : HostedFault → List ℕ
hosted_line (HostedFault.Config f) = config_line f
hosted_line HostedFault.NoSeparator = line (codes "poolsim: hosts: no separator")
hosted_line (HostedFault.Hosts f) = hosts_line f

-- its status
abbrev pub hosted_status : HostedFault → ℕ
hosted_status (HostedFault.Config f) = 3
hosted_status _ = 4
