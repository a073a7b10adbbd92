-- the lines of a text are read as events and played, or the first fault is reported
use Rattle.np_report.proofs.Prelude.{AllByRecursion, Bool, Configuration, Entry, Err, Event, HasEntryLine, HasEventLine, IsFirstFault, IsPlayable, IsPrinted, IsSound, Line, LinesFault, List, None, Ok, Option, Ran, Result, Runs, Script, Some, State, TooMany, after, and_parts, ap, append-nil, append_assoc, applied, are_read, arith, bar, caused-every_step, drop, drop_at, entry_in, entry_in-line, entry_in-told, entry_line, entry_lines, event_in-spelled, event_said, event_told, events_of, events_told, false, fenced-every_step, first_line, flat_map, from-map_some, get_or, has_room, if◌then◌else◌, inl, inr, is_line, is_line-entry, judge, kept-every_step, later_lines, leading_events, length, length-take, length_push, line, line_in, line_length, lines_of, lines_of-walk, lines_read, list_all, list_all-append, map, most_lines, nat_lt, nat_tests, next, nil_from_length, option_map, played, played_from, ran, reads, reads-takes, refl, replayed, reply_of, safe-every_step, sides_of, start, state_after, state_after-push, subst, suc, sym, take, take_all, take_at, take_more, text_of, true, with_event, with_line, zero, ℕ, [], ◌++◌, ◌+◌, ◌-◌, ◌<◌, ◌==◌, ◌∙◌, ◌∷◌, ◌≡◌, ◌≤◌, ◌⊎◌}

-- # the lines of a text are read as events and played, or the first fault is reported

-- # the lines that a text begins with

-- the length of a line that comes first
line_length-line : (bytes rest : List ℕ) → is_line bytes ≡ true → line_length (bytes ++ 10 ∷ rest) ≡ length bytes
line_length-line [] rest plain = refl
line_length-line (b ∷ bs) rest plain = grind (arith, nat_tests, line_length-line bs rest)

pub first_line-line : (bytes rest : List ℕ) → is_line bytes ≡ true → first_line (line bytes ++ rest) ≡ bytes
first_line-line bytes rest plain =
    ap first_line (append_assoc bytes (10 ∷ []) rest)
    ∙ ap (λ (n : ℕ). take n (bytes ++ 10 ∷ rest)) (line_length-line bytes rest plain)
    ∙ take_at bytes (10 ∷ rest) (length bytes) refl

pub later_lines-line : (bytes rest : List ℕ) → is_line bytes ≡ true → later_lines (line bytes ++ rest) ≡ rest
later_lines-line bytes rest plain =
    ap later_lines (append_assoc bytes (10 ∷ []) rest)
    ∙ ap (λ (n : ℕ). drop (n + 1) (bytes ++ 10 ∷ rest)) (line_length-line bytes rest plain)
    ∙ ap (drop (length bytes + 1)) (sym (append_assoc bytes (10 ∷ []) rest))
    ∙ drop_at (bytes ++ 10 ∷ []) rest (length bytes + 1) (length_push bytes 10)

-- two equal texts begin with the same line
pub line-injective : (a b x y : List ℕ) → is_line a ≡ true → is_line b ≡ true → line a ++ x ≡ line b ++ y → (a ≡ b) × (x ≡ y)
line-injective a b x y plain_a plain_b same = (
  sym (first_line-line a x plain_a) ∙ ap first_line same ∙ first_line-line b y plain_b,
  sym (later_lines-line a x plain_a) ∙ ap later_lines same ∙ later_lines-line b y plain_b,
)

-- no text begins with a line and is empty
pub line-some : (a x : List ℕ) → [] ≡ line a ++ x → ⊥
line-some [] x same = cc
line-some (b ∷ a) x same = cc

pub flat_map-push : (ls : List (List ℕ)) (l : List ℕ) → flat_map line (ls ++ l ∷ []) ≡ flat_map line ls ++ line l
flat_map-push [] l = append-nil (line l)
flat_map-push (x ∷ ls) l = ap (λ (t : List ℕ). line x ++ t) (flat_map-push ls l) ∙ sym (append_assoc (line x) (flat_map line ls) (line l))

pub are_lines-push : (ls : List (List ℕ)) (l : List ℕ) → list_all is_line ls ≡ true → is_line l ≡ true → list_all is_line (ls ++ l ∷ []) ≡ true
are_lines-push ls l plain last = rw (list_all-append is_line ls (l ∷ []), plain, last) refl

-- # the lines of a text, one after another

-- what was read before, and then the rest
abbrev pub read_before : {A F : Type 0} → List A → Result (List A) (LinesFault F) → Result (List A) (LinesFault F)
read_before before (Err fault) = Err fault
read_before before (Ok rest) = Ok (before ++ rest)

-- a line that says something
pub lines_read-said : {A F : Type 0} (said : List ℕ → Result A F) (most : ℕ) (before : List A) (n : ℕ) (line : List ℕ) (lines : List (List ℕ)) (x : A) → n ≤ most → said line ≡ Ok x →
    read_before before (lines_read said most n (line ∷ lines)) ≡ read_before (before ++ x ∷ []) (lines_read said most (n + 1) lines)
lines_read-said said most before n line lines x few is = grind (arith, nat_tests, append_assoc before (x ∷ []))

-- a line that is at fault
pub lines_read-fault : {A F : Type 0} (said : List ℕ → Result A F) (most : ℕ) (before : List A) (n : ℕ) (line : List ℕ) (lines : List (List ℕ)) (fault : F) → n ≤ most → said line ≡ Err fault →
    read_before before (lines_read said most n (line ∷ lines)) ≡ Err (Line n fault)
lines_read-fault said most before n line lines fault few is = grind (arith, nat_tests)

-- a line too many
pub lines_read-many : {A F : Type 0} (said : List ℕ → Result A F) (most : ℕ) (before : List A) (n : ℕ) (line : List ℕ) (lines : List (List ℕ)) → most < n →
    read_before before (lines_read said most n (line ∷ lines)) ≡ Err (TooMany n)
lines_read-many said most before n line lines many = grind (arith, nat_tests)

-- ## what holds of the lines that were read

-- what holds of each item that a line says holds of all that were read
pub lines_read-all : {A F : Type 0} (P : A → Type 0) (said : List ℕ → Result A F) (most n : ℕ) (lines : List (List ℕ)) (xs : List A) → ((line : List ℕ) (x : A) → said line ≡ Ok x → P x) →
    lines_read said most n lines ≡ Ok xs → AllByRecursion P xs
lines_read-all P said most n [] xs one read = grind arith
lines_read-all P said most n (line ∷ lines) xs one read = grind (arith, one line, lines_read-all P said most (n + 1) lines)

-- no more lines were read than there may be
pub lines_read-few : {A F : Type 0} (said : List ℕ → Result A F) (most n : ℕ) (lines : List (List ℕ)) (xs : List A) → n ≤ most + 1 → lines_read said most n lines ≡ Ok xs → length xs + n ≤ most + 1
lines_read-few said most n [] xs room read = grind arith
lines_read-few said most n (line ∷ lines) xs room read = grind (arith, nat_tests, lines_read-few said most (n + 1) lines)

-- # a script that is read can be played

-- a configuration and events that were read
pub playable-parts : (before after : List ℕ) (c : Configuration) (events : List Event) → reads before ≡ Ok c → events_of (lines_of after) ≡ Ok events → IsPlayable (record { config = c; events = events })
playable-parts before after c events config lines = record {
  sound = reads-takes before c config;
  few = omega (arith, lines_read-few event_said most_lines 1 (lines_of after) events (omega arith) lines);
  lines = lines_read-all HasEventLine event_said most_lines 1 (lines_of after) events (λ line e is. (event_in-spelled line e is).0) lines;
}

-- # the events of a text's lines, one line after another

-- ## one line

lines_of-split : (text : List ℕ) → 0 < length text → lines_of text ≡ first_line text ∷ lines_of (later_lines text)
lines_of-split text some =
    let other : (0 == length text) ≡ false = grind (arith, nat_tests) in
    let end : 0 + line_length text ≡ line_length text = omega arith in
    let here : line_in text 0 ≡ Some (0, line_length text) = rw other (ap (λ (n : ℕ). Some (0, n)) end) in
    let long : line_length text - 0 ≡ line_length text = omega arith in
    (lines_of-walk text 0 0 (line_length text) (omega arith) here).1
    ∙ ap (λ (n : ℕ). take n text ∷ lines_of (drop (line_length text + 1) text)) long

-- ## the loop: `events` were read, and `rest` is left of the text

pub some_left : (rest : List ℕ) → false ≡ (length rest == 0) → 0 < length rest
some_left rest some = grind (arith, nat_tests)

pub none_left : (rest : List ℕ) → true ≡ (length rest == 0) → length rest ≡ 0
none_left rest none = grind (arith, nat_tests)

-- one event more
pub few-next : (events more : List Event) (e : Event) → length events + 1 ≤ 262144 → more ≡ events ++ e ∷ [] → length more ≤ 262144
few-next events more e room push = rw push (omega (arith, length_push events e, room))

pub told-next : (text rest line later : List ℕ) (events more : List Event) (e : Event) → 0 < length rest → line ≡ first_line rest → later ≡ later_lines rest → event_told line ≡ Some e → more ≡ events ++ e ∷ [] →
    events ++ events_told (lines_of rest) ≡ events_told (lines_of text) → more ++ events_told (lines_of later) ≡ events_told (lines_of text)
told-next text rest line later events more e some first second told push so_far =
    let step : events_told (lines_of rest) ≡ with_event (event_told line) (events_told (lines_of later)) = rw (first, second) (ap events_told (lines_of-split rest some)) in
    rw push (append_assoc events (e ∷ []) (events_told (lines_of later)) ∙ rw (step, told) at so_far)

told-all : (text : List ℕ) (events : List Event) → length events ≤ 262144 → events ++ [] ≡ events_told (lines_of text) → events ≡ leading_events text
told-all text events few so_far =
    sym (take_all 262144 events few) ∙ ap (take 262144) (sym (append-nil events) ∙ so_far)

-- a line that stands for no entry
pub told-stop : (text rest line : List ℕ) (events : List Event) → 0 < length rest → line ≡ first_line rest → event_told line ≡ None → length events ≤ 262144 →
    events ++ events_told (lines_of rest) ≡ events_told (lines_of text) → events ≡ leading_events text
told-stop text rest line events some first told few so_far =
    let step : events_told (lines_of rest) ≡ with_event (event_told line) (events_told (lines_of (later_lines rest))) = rw first (ap events_told (lines_of-split rest some)) in
    told-all text events few (rw (step, told) at so_far)

-- the text's end
pub told-end : (text rest : List ℕ) (events : List Event) → length rest ≡ 0 → length events ≤ 262144 → events ++ events_told (lines_of rest) ≡ events_told (lines_of text) → events ≡ leading_events text
told-end text rest events none few so_far = told-all text events few (rw (nil_from_length rest none) at so_far)

-- as many events as a journal holds
pub told-full : (text rest : List ℕ) (events : List Event) → length events ≡ 262144 → events ++ events_told (lines_of rest) ≡ events_told (lines_of text) → events ≡ leading_events text
told-full text rest events full so_far = sym (take_at events (events_told (lines_of rest)) 262144 full) ∙ ap (take 262144) so_far

-- ## what was read can be played

HasEventLine-told : (line : List ℕ) (e : Event) → event_told line ≡ Some e → HasEventLine e
HasEventLine-told line e told =
    let entry = from-map_some (λ (x : Entry). x.event) (entry_in line) e told in
    subst HasEventLine entry.2 (entry_in-told line entry.0 entry.1).has.event

with_event-lines : (o : Option Event) (events : List Event) → ((e : Event) → o ≡ Some e → HasEventLine e) → AllByRecursion HasEventLine events → AllByRecursion HasEventLine (with_event o events)
with_event-lines None events one rest = tt
with_event-lines (Some e) events one rest = (one e refl, rest)

events_told-lines : (lines : List (List ℕ)) → AllByRecursion HasEventLine (events_told lines)
events_told-lines [] = tt
events_told-lines (line ∷ lines) = with_event-lines (event_told line) (events_told lines) (HasEventLine-told line) (events_told-lines lines)

take-lines : (n : ℕ) (events : List Event) → AllByRecursion HasEventLine events → AllByRecursion HasEventLine (take n events)
take-lines zero events all = tt
take-lines (suc n) [] all = tt
take-lines (suc n) (e ∷ events) all = (all.0, take-lines n events all.1)

pub playable-read : (config : Configuration) (entries : List ℕ) (events : List Event) → IsSound config → events ≡ leading_events entries → IsPlayable (record { config = config; events = events })
playable-read config entries events sound is = record {
  sound = sound;
  few = rw is (omega (arith, length-take 262144 (events_told (lines_of entries))));
  lines = rw is (take-lines 262144 (events_told (lines_of entries)) (events_told-lines (lines_of entries)));
}

-- # which line's fault is reported

-- the fault of the first line at fault is reported
told-first : {A F : Type 0} (said : List ℕ → Result A F) (most k n : ℕ) (before : List (List ℕ)) (line : List ℕ) (later : List (List ℕ)) (fault : F) →
    n ≡ k + length before → n ≤ most → are_read said before ≡ true → said line ≡ Err fault → lines_read said most k (before ++ line ∷ later) ≡ Err (Line n fault)
told-first said most k n [] line later fault number few read is = grind (arith, nat_tests)
told-first said most k n (b ∷ before) line later fault number few read is = grind (arith, nat_tests, told-first said most (k + 1) n before line later fault)

pub first-told : {A F : Type 0} (said : List ℕ → Result A F) (most k n : ℕ) (lines : List (List ℕ)) (fault : F) → IsFirstFault said most k lines n fault → lines_read said most k lines ≡ Err (Line n fault)
first-told said most k n lines fault first =
    ap (lines_read said most k) first.stand ∙ told-first said most k n first.before first.line first.later fault first.number first.few first.read first.unread

-- a fault that is reported is that of the first line at fault
one-first : {A F : Type 0} (said : List ℕ → Result A F) (most k n : ℕ) (line : List ℕ) (lines : List (List ℕ)) (fault : F) (many : Bool) → nat_lt most k ≡ many → (r : Result A F) → said line ≡ r →
    (later : Result (List A) (LinesFault F)) → (later ≡ Err (Line n fault) → IsFirstFault said most (k + 1) lines n fault) →
    (if many then Err (TooMany k) else with_line k r later) ≡ Err (Line n fault) → IsFirstFault said most k (line ∷ lines) n fault
one-first said most k n line lines fault true few r is later rest told = absurd cc
one-first said most k n line lines fault false few (Err f) is later rest told =
    let number : k ≡ n = cc in
    let same : f ≡ fault = cc in
    record { before = []; line = line; later = lines; stand = refl; number = omega (arith, number); few = grind (arith, nat_tests); read = refl; unread = is ∙ ap Err same }
one-first said most k n line lines fault false few (Ok x) is (Ok xs) rest told = absurd cc
one-first said most k n line lines fault false few (Ok x) is (Err f) rest told =
    let first = rest told in
    record {
      before = line ∷ first.before;
      line = first.line;
      later = first.later;
      stand = ap (λ (ls : List (List ℕ)). line ∷ ls) first.stand;
      number = omega (arith, first.number);
      few = first.few;
      read = rw is first.read;
      unread = first.unread;
    }

pub told-is_first : {A F : Type 0} (said : List ℕ → Result A F) (most k n : ℕ) (lines : List (List ℕ)) (fault : F) → lines_read said most k lines ≡ Err (Line n fault) → IsFirstFault said most k lines n fault
told-is_first said most k n [] fault told = absurd cc
told-is_first said most k n (line ∷ lines) fault told =
    one-first said most k n line lines fault (nat_lt most k) refl (said line) refl (lines_read said most (k + 1) lines) (told-is_first said most (k + 1) n lines fault) told

-- # one event more

pub length-played_from : (c : Configuration) (s : State) (events : List Event) → length (played_from c s events) ≡ length events
length-played_from c s [] = refl
length-played_from c s (e ∷ events) = ap suc (length-played_from c (next c s e) events)

pub played_from-push : (c : Configuration) (s : State) (events : List Event) (e : Event) →
    played_from c s (events ++ e ∷ []) ≡ played_from c s events ++ record { event = e; reply = reply_of (judge c (state_after c s (played_from c s events)) e) } ∷ []
played_from-push c s [] e = refl
played_from-push c s (first ∷ events) e = ap (λ (t : List Entry). record { event = first; reply = reply_of (judge c s first) } ∷ t) (played_from-push c (next c s first) events e)

-- the entry that the event adds
abbrev pub entry_of : Configuration → List Event → Event → Entry
entry_of c events e = record { event = e; reply = reply_of (judge c (after c (played c events)) e) }

pub applied-ran : (c : Configuration) (events : List Event) (e : Event) → length events < 262144 → applied (ran c events) e ≡ ran c (events ++ e ∷ [])
applied-ran c events e few =
    let same = length-played_from c (start c) events in
    let room : has_room (ran c events) ≡ true = grind (arith, nat_tests) in
    rw (room, played_from-push c (start c) events e, state_after-push c (start c) (played c events) (entry_of c events e)) refl

-- the next of the events
pub ran-next : (c : Configuration) (events : List Event) (i : ℕ) (d : Event) → i < length events → length events ≤ 262144 → applied (ran c (take i events)) (get_or events i d) ≡ ran c (take (i + 1) events)
ran-next c events i d within few =
    let short : length (take i events) < 262144 = omega (arith, length-take i events) in
    applied-ran c (take i events) (get_or events i d) short ∙ ap (ran c) (sym (take_more events i d within))

-- ## lines

-- if each event has a line, each entry's event has one
pub lines-played_from : (c : Configuration) (s : State) (events : List Event) → AllByRecursion HasEventLine events → AllByRecursion (λ (entry : Entry). HasEventLine entry.event) (played_from c s events)
lines-played_from c s [] all = tt
lines-played_from c s (e ∷ events) all = (all.0, lines-played_from c (next c s e) events all.1)

-- # a script's events make a run, which is safe after every step

-- played events have the machine's replies
replayed-played : (c : Configuration) (s : State) (events : List Event) → replayed c s (played_from c s events) ≡ played_from c s events
replayed-played c s [] = refl
replayed-played c s (e ∷ events) = ap (λ (t : List Entry). record { event = e; reply = reply_of (judge c s e) } ∷ t) (replayed-played c (next c s e) events)

pub runs-played : (c : Configuration) (events : List Event) → length events ≤ 262144 → Runs c (played c events) (after c (played c events))
runs-played c events few = record {
  replies = replayed-played c (start c) events;
  ends = refl;
  short = subst (λ (n : ℕ). n ≤ 262144) (sym (length-played_from c (start c) events)) few;
}

-- what is read of a machine that has played the events is their run
pub runs-same : (m : Ran) (c : Configuration) (events : List Event) (site : Configuration) (journal : List Entry) (s : State) → m ≡ ran c events → site ≡ m.configuration → journal ≡ m.journal → s ≡ m.state → length events ≤ 262144 → Runs site journal s
runs-same m c events site journal s is site_is journal_is state_is few = rw (site_is, journal_is, state_is, is) (runs-played c events few)

-- the Text of a run shows all that holds of it
pub printed-Runs : (c : Configuration) (journal : List Entry) (s : State) (text : List ℕ) → IsSound c → Runs c journal s → AllByRecursion (λ (e : Entry). HasEventLine e.event) journal → text ≡ text_of c journal → IsPrinted c journal text
printed-Runs c journal s text sound runs lines is = record {
  is = is;
  sound = sound;
  state = s;
  runs = runs;
  lines = lines;
  throughout = record { safe = safe-every_step c journal s runs; caused = caused-every_step c journal s runs; kept = kept-every_step c journal s runs; fenced = fenced-every_step c journal s runs };
}

-- so does that of a script's events
pub printed-script : (script : Script) → IsPlayable script → IsPrinted script.config (played script.config script.events) (text_of script.config (played script.config script.events))
printed-script script can =
    printed-Runs script.config (played script.config script.events) (after script.config (played script.config script.events)) (text_of script.config (played script.config script.events))
    can.sound (runs-played script.config script.events can.few) (lines-played_from script.config (start script.config) script.events can.lines) refl

-- # the lines that a text begins with are played into the journal that they show

-- ## the events of lines

events_told-entry : (e : Entry) (lines : List (List ℕ)) → HasEntryLine e → events_told (entry_line e ∷ lines) ≡ e.event ∷ events_told lines
events_told-entry e lines has =
    ap (λ (o : Option Entry). with_event (option_map (λ x. x.event) o) (events_told lines)) (entry_in-line e has)

events_told-bar : (lines : List (List ℕ)) → events_told (bar ∷ lines) ≡ []
unfolding entry_in sides_of
events_told-bar lines = refl

-- ## what is played

abbrev played_lines : Configuration → State → ℕ → List (List ℕ) → List Entry
played_lines c s room lines = played_from c s (take room (events_told lines))

-- an entry of the machine's, and then the rest
played_lines-entry : (c : Configuration) (s : State) (room : ℕ) (e : Entry) (journal : List Entry) (lines : List (List ℕ)) → replayed c s (e ∷ journal) ≡ e ∷ journal → HasEntryLine e →
    played_lines c s (suc room) (entry_line e ∷ lines) ≡ e ∷ played_lines c (next c s e.event) room lines
played_lines-entry c s room e journal lines is has =
    let head : record { event = e.event; reply = reply_of (judge c s e.event) } ≡ e = cc in
    ap (λ (events : List Event). played_from c s (take (suc room) events)) (events_told-entry e lines has)
    ∙ ap (λ (x : Entry). x ∷ played_lines c (next c s e.event) room lines) head

-- the bar comes after the last entry
played_lines-bar : (c : Configuration) (s : State) (room : ℕ) (lines : List (List ℕ)) → played_lines c s room (bar ∷ lines) ≡ []
played_lines-bar c s room lines =
    ap (λ (events : List Event). played_from c s (take room events)) (events_told-bar lines) ∙ by room where
      by : (n : ℕ) → played_from c s (take {A = Event} n []) ≡ []
      by zero = refl
      by (suc n) = refl

-- the lines of a whole journal
pub played_lines-whole : (c : Configuration) (s : State) (room : ℕ) (journal : List Entry) (more : List (List ℕ)) → length journal ≤ room → replayed c s journal ≡ journal → AllByRecursion HasEntryLine journal →
    played_from c s (take room (events_told (map entry_line journal ++ bar ∷ more))) ≡ journal
played_lines-whole c s room [] more few is has = played_lines-bar c s room more
played_lines-whole c s zero (e ∷ journal) more few is has = absurd (omega arith)
played_lines-whole c s (suc room) (e ∷ journal) more few is has =
    let tail : replayed c (next c s e.event) journal ≡ journal = cc in
    played_lines-entry c s room e journal (map entry_line journal ++ bar ∷ more) is has.0
    ∙ ap (λ (entries : List Entry). e ∷ entries) (played_lines-whole c (next c s e.event) room journal more (omega arith) tail has.1)

-- the entries' lines begin with these lines, or the entries are the journal
abbrev pub Shows : List Entry → List (List ℕ) → List Entry → Type 0
Shows entries lines journal = ((r : List ℕ) × (entry_lines entries ≡ flat_map line lines ++ r)) ⊎ (entries ≡ journal)

shows-entry : (c : Configuration) (s : State) (room : ℕ) (l : List ℕ) (e : Entry) (lines more : List (List ℕ)) (journal : List Entry) → replayed c s (e ∷ journal) ≡ e ∷ journal → HasEntryLine e → l ≡ entry_line e →
    Shows (played_lines c (next c s e.event) room (lines ++ more)) lines journal → Shows (played_lines c s (suc room) ((l ∷ lines) ++ more)) (l ∷ lines) (e ∷ journal)
shows-entry c s room l e lines more journal is has same later = cases later
  where
    whole : played_lines c s (suc room) ((l ∷ lines) ++ more) ≡ e ∷ played_lines c (next c s e.event) room (lines ++ more)
    whole = ap (λ (x : List ℕ). played_lines c s (suc room) (x ∷ (lines ++ more))) same ∙ played_lines-entry c s room e journal (lines ++ more) is has

    cases : Shows (played_lines c (next c s e.event) room (lines ++ more)) lines journal → Shows (played_lines c s (suc room) ((l ∷ lines) ++ more)) (l ∷ lines) (e ∷ journal)
    cases (inl begins) = inl (
      begins.0,
      ap entry_lines whole
          ∙ ap (λ (t : List ℕ). line (entry_line e) ++ t) begins.1
          ∙ sym (append_assoc (line (entry_line e)) (flat_map line lines) begins.0)
          ∙ ap (λ (x : List ℕ). (line x ++ flat_map line lines) ++ begins.0) (sym same),
    )
    cases (inr all) = inr (whole ∙ ap (λ (entries : List Entry). e ∷ entries) all)

-- lines that begin a journal's lines and the bar after them
pub shows-lines : (c : Configuration) (s : State) (room : ℕ) (journal : List Entry) (lines more : List (List ℕ)) (r behind : List ℕ) → length journal ≤ room → replayed c s journal ≡ journal →
    AllByRecursion HasEntryLine journal → list_all is_line lines ≡ true → flat_map line lines ++ r ≡ entry_lines journal ++ (line bar ++ behind) →
    Shows (played_from c s (take room (events_told (lines ++ more)))) lines journal
shows-lines c s room journal [] more r behind few is has plain same = inl (entry_lines (played_lines c s room more), refl)
shows-lines c s room [] (l ∷ lines) more r behind few is has plain same =
    let parts = and_parts (is_line l) (list_all is_line lines) plain in
    let cut = line-injective l bar (flat_map line lines ++ r) behind parts.0 refl (sym (append_assoc (line l) (flat_map line lines) r) ∙ same) in
    inr (ap (λ (x : List ℕ). played_lines c s room (x ∷ (lines ++ more))) cut.0 ∙ played_lines-bar c s room (lines ++ more))
shows-lines c s zero (e ∷ journal) (l ∷ lines) more r behind few is has plain same = absurd (omega arith)
shows-lines c s (suc room) (e ∷ journal) (l ∷ lines) more r behind few is has plain same =
    let parts = and_parts (is_line l) (list_all is_line lines) plain in
    let cut = line-injective l (entry_line e) (flat_map line lines ++ r) (entry_lines journal ++ (line bar ++ behind)) parts.0 (is_line-entry e has.0)
    (sym (append_assoc (line l) (flat_map line lines) r) ∙ same ∙ append_assoc (line (entry_line e)) (entry_lines journal) (line bar ++ behind)) in
    let tail : replayed c (next c s e.event) journal ≡ journal = cc in
    shows-entry c s room l e lines more journal is has.0 cut.0
    (shows-lines c (next c s e.event) room journal lines more r behind (omega arith) tail has.1 parts.1 cut.1)
