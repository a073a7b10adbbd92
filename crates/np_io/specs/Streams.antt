-- what contracts see of the real streams' adapters, and the plan of a disk in memory
use Rattle.std.specs.Prelude.{ℕ, ◌≤◌, Option, None, Some, Result, Ok, Err, Bool}
use Rattle.np_io.specs.Memory.{counted, SourceFacts, SinkFacts}
use Rattle.np_io.specs.declared.plan.Plan.{Plan}
use Rattle.np_io.specs.declared.std_source.StdSource.{StdSource}
use Rattle.np_io.specs.declared.std_sink.StdSink.{StdSink}

-- The plan of a disk in memory: which of its calls fail, and how many were made and failed.

-- the call with this number, counted from 1, is to fail: it is the first one that fails, or comes after it (own)
abbrev pub StopsAt : Option ℕ → ℕ → Type 0
StopsAt None number = ⊥
StopsAt (Some stop) number = stop ≤ number

-- the next call is to fail (own)
abbrev pub Stops : Plan → Type 0
Stops plan = StopsAt plan.stop_at (counted plan.made)

-- one more call was made (own)
abbrev pub after_count : Plan → Plan
after_count plan = record plan { made = counted plan.made }

-- one more call was made, with this result: a call that failed is a fault (own)
abbrev pub after_call : {A E : Type 0} → Plan → Result A E → Plan
after_call plan (Ok done) = after_count plan
after_call plan (Err fault) = record plan { made = counted plan.made; faults = counted plan.faults }

-- What contracts see of the real streams' adapters: the stream below, the count of its failures, and its end.

-- the reader under a source (own)
abbrev pub reader_of : {R : Type 0} → StdSource R → R
reader_of s = s.reader

-- how many reads failed (own)
abbrev pub read_faults : {R : Type 0} → StdSource R → ℕ
read_faults s = s.faults

-- whether the last read that succeeded returned no byte (own)
abbrev pub read_ended : {R : Type 0} → StdSource R → Bool
read_ended s = s.ended

-- the content of a real source is unknown
abbrev pub source_facts : {R : Type 0} → StdSource R → SourceFacts
source_facts s = record { left = None; faults = read_faults s; at_end = read_ended s }

-- the writer under a sink (own)
abbrev pub writer_of : {W : Type 0} → StdSink W → W
writer_of s = s.writer

-- how many calls failed (own)
abbrev pub write_faults : {W : Type 0} → StdSink W → ℕ
write_faults s = s.faults

-- whether the writer was flushed after the last byte (own)
abbrev pub write_finished : {W : Type 0} → StdSink W → Bool
write_finished s = s.finished

-- the content of a real sink is unknown
abbrev pub sink_facts : {W : Type 0} → StdSink W → SinkFacts
sink_facts s = record { written = None; faults = write_faults s; finished = write_finished s }
