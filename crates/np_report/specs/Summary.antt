-- what the machine makes of a text's events, and how many jobs came to which end
use Rattle.std.specs.Prelude.{ℕ, ◌+◌, List, [], ◌∷◌, Option, Some, None, take, drop, Bool, true, false, ◌++◌, codes, decimal, length, count_by}
use Rattle.np_report.specs.declared.ends.End.{End}
use Rattle.np_report.specs.Lower.{Configuration, Entry, Event, Fate, Ran, State, after, entry_in, judge, line, line_length, lines_of, next, option_map, reply_of, start}
use Rattle.np_machine.specs.Fates as fate

-- the events of the entries that a text begins with

-- the text's first line, without its newline
abbrev pub first_line : List ℕ → List ℕ
first_line text = take (line_length text) text

-- what comes after the first line and its newline
abbrev pub later_lines : List ℕ → List ℕ
later_lines text = drop (line_length text + 1) text

-- the event of a line that stands for an entry
abbrev pub event_told : List ℕ → Option Event
event_told line = option_map (λ e. e.event) (entry_in line)

-- the event, if there is one, and then those of the later lines
abbrev pub with_event : Option Event → List Event → List Event
with_event None events = []
with_event (Some e) events = e ∷ events

-- the events of these lines, up to the first that stands for no entry
abbrev pub events_told : List (List ℕ) → List Event
events_told [] = []
events_told (line ∷ lines) = with_event (event_told line) (events_told lines)

-- the events of the entries that the text begins with, as many as a journal holds
abbrev pub leading_events : List ℕ → List Event
leading_events text = take 262144 (events_told (lines_of text))

-- what the machine makes of a list of events

-- the events, each with the machine's reply in the state that those before it left
abbrev pub played_from : Configuration → State → List Event → List Entry
played_from c s [] = []
played_from c s (e ∷ events) = record { event = e; reply = reply_of (judge c s e) } ∷ played_from c (next c s e) events

-- the journal of a script's events
abbrev pub played : Configuration → List Event → List Entry
played c events = played_from c (start c) events

-- the machine that has played them
abbrev pub ran : Configuration → List Event → Ran
ran c events = record { configuration = c; journal = played c events; state = after c (played c events) }

-- how many jobs came to which end

-- the fate is of this kind
abbrev pub is_end : End → Fate → Bool
is_end End.Served (fate.served p nodes) = true
is_end End.Failed (fate.failed declined) = true
is_end End.Lost fate.lost = true
is_end End.Withdrawn fate.withdrawn = true
is_end End.Waiting (fate.waiting phase) = true
is_end _ _ = false

-- a word and a number, on a line
abbrev pub count_line : List ℕ → ℕ → List ℕ
count_line word n = line (word ++ codes " " ++ decimal n)

-- the six lines of these fates
unfoldable pub summary_of : List Fate → List ℕ
summary_of fates =
    count_line (codes "jobs") (length fates)
    ++ count_line (codes "served") (count_by (is_end End.Served) fates)
    ++ count_line (codes "failed") (count_by (is_end End.Failed) fates)
    ++ count_line (codes "lost") (count_by (is_end End.Lost) fates)
    ++ count_line (codes "withdrawn") (count_by (is_end End.Withdrawn) fates)
    ++ count_line (codes "waiting") (count_by (is_end End.Waiting) fates)
