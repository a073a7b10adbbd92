-- The payload of a further record: 1 to 64 event lines, each with its newline (own).
use Rattle.std.specs.Prelude.{◌≡◌, ◌≤◌, ℕ, ◌-◌, Bool, false, ◌&&◌, ◌==◌, nat_le, if◌then◌else◌, List, [], ◌∷◌, length, slice_get, Option, Some, None}
use Rattle.std.specs.List.{AllByRecursion, flat_map}
use Rattle.std.specs.Option.{option_and_then, option_map}
use Rattle.std.specs.Result.{result_ok}
use Rattle.np_log.specs.Lower.{Event, HasEventLine, event_in, event_line, line, lines_of, words_of}

-- the event of a line, if an event has this line
abbrev pub event_of_line : List ℕ → Option Event
event_of_line text = result_ok (event_in (words_of text))

-- the events of these lines, if each is an event's line
abbrev pub events_of : List (List ℕ) → Option (List Event)
events_of [] = Some []
events_of (text ∷ lines) = option_and_then (λ event. option_map (λ events. event ∷ events) (events_of lines)) (event_of_line text)

-- the byte is there, and it is a newline
abbrev pub is_newline : Option ℕ → Bool
is_newline (Some byte) = byte == 10
is_newline None = false

-- the last byte is a newline, and so each line has its own
abbrev pub ends_in_newline : List ℕ → Bool
ends_in_newline text = is_newline (slice_get text (length text - 1))

-- these events, if they are 1 to 64
abbrev pub within_batch : List Event → Option (List Event)
within_batch events = if nat_le 1 (length events) && nat_le (length events) 64 then Some events else None

-- the events of a payload, if it is 1 to 64 event lines, each with its newline (own)
abbrev pub batch_of : List ℕ → Option (List Event)
batch_of payload = if ends_in_newline payload then option_and_then within_batch (events_of (lines_of payload)) else None

-- the payload of these events: their lines, each with its newline
abbrev pub batch_text : List Event → List ℕ
batch_text events = flat_map (λ event. line (event_line event)) events

-- the payload is the lines of 1 to 64 events, each with its newline (own)
pub record IsBatch (payload : List ℕ) (events : List Event) : Type 0 where
  pub some : 1 ≤ length events
  pub few : length events ≤ 64
  pub lines : AllByRecursion HasEventLine events
  pub text : payload ≡ batch_text events
