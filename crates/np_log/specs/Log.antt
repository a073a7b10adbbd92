-- What the bytes of a log say (own).
-- They are gates and records in turn, beginning with a gate. Record 0 is the configuration, and each
-- further record is a batch of events. The log ends at the first closed gate, whatever follows it.
use Rattle.std.specs.Prelude.{ℕ, zero, suc, ◌+◌, Bool, ◌==◌, nat_le, if◌then◌else◌, List, [], ◌∷◌, ◌++◌, length, take, drop, Option, Some, None, Result, Ok, Err}
use Rattle.std.specs.Int.{w32, from_be_bytes, to_be_bytes}
use Rattle.np_lists.specs.Refusals.{◌>>=◌, ◌>>◌}
use Rattle.np_log.specs.Batch.{batch_of}
use Rattle.np_log.specs.Lower.{Event, JOURNAL_ENTRIES, found, need}

-- what a log says: the bytes of its configuration, and its events in order
pub record Content : Type 0 where
  pub config : List ℕ
  pub events : List Event

-- ## Gates and records

-- a gate is one byte: open if it is 1, and closed otherwise
abbrev pub is_open : ℕ → Bool
is_open gate = gate == 1

-- the first n bytes and what follows them, unless the bytes end early
abbrev pub first_bytes : ℕ → List ℕ → Option (List ℕ × List ℕ)
first_bytes n bytes = if nat_le n (length bytes) then Some (take n bytes, drop n bytes) else None

-- the payload of the record that the bytes begin with, and what follows the record, unless the bytes
-- end early: first come four bytes with the payload's length, its highest byte first
unfoldable pub record_in : List ℕ → Option (List ℕ × List ℕ)
record_in bytes = if nat_le 4 (length bytes) then first_bytes (from_be_bytes w32 (take 4 bytes)) (drop 4 bytes) else None

-- the bytes of a record with this payload, which are read back if it has fewer than 2 ^ 32 bytes
abbrev pub record_text : List ℕ → List ℕ
record_text payload = to_be_bytes w32 (length payload) ++ payload

-- ## From gate to gate

-- a place at a gate
pub record Walk : Type 0 where
  -- what the records before the gate say
  pub content : Content
  -- how many bytes are before the gate
  pub gate : ℕ
  -- how many records are before the gate, and so the number of the next one
  pub number : ℕ

-- the gate behind record 0, whose payload is the configuration
abbrev pub after_config : List ℕ → Walk
after_config config = record { content = record { config = config; events = [] }; gate = 5 + length config; number = 1 }

-- the gate behind one more record: its payload has this length, and these events
abbrev pub after_batch : Walk → ℕ → List Event → Walk
after_batch w size events = record {
  content = record { config = w.content.config; events = w.content.events ++ events };
  gate = w.gate + 5 + size;
  number = w.number + 1;
}

-- the gate behind a record with this payload; the record is at fault unless its payload is a batch
-- with which the log has no more events than it may have
abbrev pub after_record : Walk → List ℕ → Result Walk ℕ
after_record w payload = do
  events ← found (batch_of payload) w.number
  need (nat_le (length w.content.events + length events) JOURNAL_ENTRIES) w.number
  Ok (after_batch w (length payload) events)

-- from an open gate past the record behind it, and on from the next gate; the record is at fault if
-- the bytes end early
abbrev pub past_gate : Walk → List ℕ → (Walk → List ℕ → Result Walk ℕ) → Result Walk ℕ
past_gate w bytes go_on = do
  (payload, rest) ← found (record_in bytes) w.number
  next ← after_record w payload
  go_on next rest

-- from this gate to the first closed one, past at most this many records; or the number of the first
-- record that is missing or at fault
unfoldable pub walk : ℕ → Walk → List ℕ → Result Walk ℕ
walk steps w [] = Err w.number
walk zero w (gate ∷ bytes) = if is_open gate then Err w.number else Ok w
walk (suc steps) w (gate ∷ bytes) = if is_open gate then past_gate w bytes (walk steps) else Ok w

-- the same, past any number of records: there are fewer of them than bytes
abbrev pub go_on : Walk → List ℕ → Result Walk ℕ
go_on w bytes = walk (length bytes) w bytes

-- record 0 and what follows it: its gate must be there and open, and its bytes must not end early
abbrev pub first_record : List ℕ → Option (List ℕ × List ℕ)
first_record [] = None
first_record (gate ∷ bytes) = if is_open gate then record_in bytes else None

-- the first closed gate of a log, or the number of the first record that is missing or at fault
unfoldable pub walk_of : List ℕ → Result Walk ℕ
walk_of bytes = do
  (config, rest) ← found (first_record bytes) 0
  go_on (after_config config) rest

-- ## What it says

-- f of what is there; damage stays
abbrev pub map_ok : {A B : Type 0} → (A → B) → Result A ℕ → Result B ℕ
map_ok f (Ok a) = Ok (f a)
map_ok f (Err number) = Err number

-- what the bytes of a log say, or the number of the first record that is missing or at fault (own)
abbrev pub content_of : List ℕ → Result Content ℕ
content_of bytes = map_ok (λ w. w.content) (walk_of bytes)

-- what a log says, with these events after its own
abbrev pub add_events : List Event → Content → Content
add_events events said = record { config = said.config; events = said.events ++ events }

-- the same, where the log may be damaged
abbrev pub content_with : Result Content ℕ → List Event → Result Content ℕ
content_with said events = map_ok (add_events events) said
