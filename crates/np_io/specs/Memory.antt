-- what contracts know of a stream, what a call does to its bytes, and the source and the sink in memory
use Rattle.std.specs.Prelude.{◌≡◌, ℕ, List, ◌++◌, Option, ◌+◌, ◌-◌, ◌^◌, ◌≤◌, min, Bool, true, length, take, ◌==◌, false, [], drop}
use Rattle.std.specs.Option.{option_map}

-- What a call does to the bytes that a source has left, and to those that a sink has written.
-- `None` is a stream of unknown content, which stays unknown.

-- what was left begins with these bytes, and the rest is left now (own)
abbrev pub Takes : Option (List ℕ) → Option (List ℕ) → List ℕ → Type 0
Takes before now bytes = before ≡ option_map (λ rest. bytes ++ rest) now

-- what was written stays, and these bytes come after it (own)
abbrev pub Appends : Option (List ℕ) → Option (List ℕ) → List ℕ → Type 0
Appends before now bytes = now ≡ option_map (λ written. written ++ bytes) before

-- Counts of faults and of calls.

-- the count after one more, which stops at the end of `u64` (own)
abbrev pub counted : ℕ → ℕ
counted before = min (before + 1) (2 ^ 64 - 1)

-- a count rose; one at the end of `u64` is taken as risen (own)
abbrev pub Rose : ℕ → ℕ → Type 0
Rose before now = counted before ≤ now

-- What contracts know of a stream.

-- a source (own)
pub record SourceFacts : Type 0 where
  -- the bytes still to come, if they are known
  pub left : Option (List ℕ)
  -- how many reads failed; it never falls
  pub faults : ℕ
  -- the last read that succeeded returned no byte
  pub at_end : Bool

-- a sink (own)
pub record SinkFacts : Type 0 where
  -- the bytes written so far, if they are known
  pub written : Option (List ℕ)
  -- how many calls failed; it never falls
  pub faults : ℕ
  -- `finish` succeeded, and nothing was written after it
  pub finished : Bool

-- all of these bytes were written, and the sink was finished after them (own)
pub record IsWritten (before now : SinkFacts) (bytes : List ℕ) : Type 0 where
  pub all : Appends before.written now.written bytes
  pub finished : now.finished ≡ true

-- a call of the sink failed: a prefix of these bytes was written, and no more (own)
pub record IsCutShort (before now : SinkFacts) (bytes : List ℕ) : Type 0 where
  pub failed : Rose before.faults now.faults
  pub part : (n : ℕ) × (n ≤ length bytes) × Appends before.written now.written (take n bytes)

-- The source and the sink in memory, as their contracts see them.

-- a source in memory (own)
pub record Input : Type 0 where
  -- the bytes still to come
  pub left : List ℕ
  -- the most bytes that one read returns
  pub piece : ℕ
  -- the numbers of the calls that fail, counted from 1
  pub failing : List ℕ
  -- how many calls were made
  pub calls : ℕ
  -- how many of them failed
  pub faults : ℕ
  -- the last read that succeeded returned no byte
  pub at_end : Bool

-- a sink in memory (own)
pub record Output : Type 0 where
  -- the bytes written so far
  pub written : List ℕ
  -- the most bytes that one write takes
  pub piece : ℕ
  -- the numbers of the calls that fail, counted from 1, `finish` among them
  pub failing : List ℕ
  -- how many calls were made
  pub calls : ℕ
  -- how many of them failed, as planned or because memory ran out
  pub faults : ℕ
  -- `finish` succeeded, and nothing was written after it
  pub finished : Bool

-- a source of these bytes before its first call (own)
abbrev pub input_of : List ℕ → List ℕ → ℕ → Input
input_of bytes failing piece =
    record { left = bytes; piece = piece; failing = failing; calls = 0; faults = 0; at_end = false }

-- a sink before its first call (own)
abbrev pub empty_output : List ℕ → ℕ → Output
empty_output failing piece =
    record { written = []; piece = piece; failing = failing; calls = 0; faults = 0; finished = false }

-- the source after a read of n bytes (own)
abbrev pub after_read : Input → ℕ → Input
after_read s n = record s { left = drop n s.left; calls = counted s.calls; at_end = n == 0 }

-- the source after a read that failed: no byte is lost (own)
abbrev pub after_failed_read : Input → Input
after_failed_read s = record s { calls = counted s.calls; faults = counted s.faults }

-- the sink after a write that took these bytes (own)
abbrev pub after_write : Output → List ℕ → Output
after_write s bytes = record s { written = s.written ++ bytes; calls = counted s.calls; finished = false }

-- the sink after it was finished: no byte is added (own)
abbrev pub after_finish : Output → Output
after_finish s = record s { calls = counted s.calls; finished = true }

-- the sink after a call that failed: no byte is added (own)
abbrev pub after_failed_call : Output → Output
after_failed_call s = record s { calls = counted s.calls; faults = counted s.faults }
