-- reading the log: its records, the batches in them, and the walk over all of them
use Rattle.np_log.proofs.Prelude.{AllByRecursion, Bool, Err, Event, HasEventLine, IsBatch, LineFault, List, None, Ok, Option, Result, Some, [], ap, append-nil, append_assoc, arith, batch_of, batch_text, cond, ends_in_newline, event_in, event_in-spelled, event_in-words, event_line, events_of, false, flat_map, get_or-append_seam, inside-event_line, is_line-inside, is_newline, length, length-append, line, lines_of, lines_of-line, map, nat_le, nat_tests, onto_first, option_and_then, option_map, refl, result_ok, slice_get, slice_get-get_or, some_injective, subst, suc, sym, true, within_batch, words_of, ℕ, ◌&&◌, ◌++◌, ◌-◌, ◌==◌, ◌∙◌, ◌∷◌, ◌≡◌, ◌≤◌, drop, drop_at, first_bytes, from_be_bytes, from_be_bytes-to_be_bytes_4, length-take-le, record_in, record_text, take, take-append-drop, take_at, to_be_bytes, w32, ◌<◌, ◌^◌, JOURNAL_ENTRIES, Walk, after_batch, after_config, after_record, cases_eq, by_bool, cond_some, option_and_then_some, IfSome_then, eq-eqb, found, go_on, inl, inr, is_open, ne_eqb, need, past_gate, walk, walk_of, zero, ◌+◌, ◌>>=◌, ◌>>◌, ◌≢◌, Fails, LoadFault, DiskFacts, IfSome, IsSettled, IsSettledIn, Only, Settles, Stays}

-- # The payload of events is read as these events.

-- ## Lines one by one

-- these events, and then those that are read
abbrev pub events_then : List Event → Option (List Event) → Option (List Event)
events_then events found = option_map (λ more. events ++ more) found

pub events_of-read : (events : List Event) (text : List ℕ) (lines : List (List ℕ)) (event : Event) → event_in (words_of text) ≡ Ok event
    → events_then events (events_of (text ∷ lines)) ≡ events_then (events ++ event ∷ []) (events_of lines)
events_of-read events text lines event is = rw is (cases (events_of lines))
  where
    cases : (o : Option (List Event)) → events_then events (option_map (λ es. event ∷ es) o) ≡ events_then (events ++ event ∷ []) o
    cases None = refl
    cases (Some more) = ap Some (sym (append_assoc events (event ∷ []) more))

pub events_of-fault : (events : List Event) (text : List ℕ) (lines : List (List ℕ)) (fault : LineFault) → event_in (words_of text) ≡ Err fault → events_then events (events_of (text ∷ lines)) ≡ None
events_of-fault events text lines fault is = rw is refl

-- ## Events that have lines

pub lines-append : (es fs : List Event) → AllByRecursion HasEventLine es → AllByRecursion HasEventLine fs → AllByRecursion HasEventLine (es ++ fs)
lines-append [] fs first then = then
lines-append (e ∷ es) fs first then = (first.0, lines-append es fs first.1 then)

-- ## The payload of events

lines_of-batch_text : (events : List Event) → AllByRecursion HasEventLine events → lines_of (batch_text events) ≡ map (λ event. event_line event) events
lines_of-batch_text [] each = refl
lines_of-batch_text (event ∷ events) each =
    ap lines_of (append_assoc (event_line event) (10 ∷ []) (batch_text events))
    ∙ lines_of-line (event_line event) (batch_text events) (is_line-inside (event_line event) (inside-event_line event each.0))
    ∙ ap (λ (lines : List (List ℕ)). event_line event ∷ lines) (lines_of-batch_text events each.1)

events_of-lines : (events : List Event) → AllByRecursion HasEventLine events → events_of (map (λ event. event_line event) events) ≡ Some events
events_of-lines [] each = refl
events_of-lines (event ∷ events) each = rw (event_in-words event each.0, events_of-lines events each.1) refl

ends_in_newline-append : (front : List ℕ) → ends_in_newline (front ++ 10 ∷ []) ≡ true
ends_in_newline-append front =
    let last : length (front ++ 10 ∷ []) - 1 ≡ length front = omega (arith, length-append front (10 ∷ [])) in
    ap (λ n. is_newline (slice_get (front ++ 10 ∷ []) n)) last
    ∙ ap is_newline (slice_get-get_or (front ++ 10 ∷ []) (length front) 0 (omega (arith, length-append front (10 ∷ []))))
    ∙ ap (λ byte. byte == 10) (get_or-append_seam front 10 [] 0)

ends_in_newline-batch_text : (front : List ℕ) (events : List Event) → 1 ≤ length events → ends_in_newline (front ++ batch_text events) ≡ true
ends_in_newline-batch_text front [] some = absurd (omega arith)
ends_in_newline-batch_text front (event ∷ []) some =
    ap (λ l. ends_in_newline (front ++ l)) (append-nil (line (event_line event))) ∙ ap ends_in_newline (sym (append_assoc front (event_line event) (10 ∷ []))) ∙ ends_in_newline-append (front ++ event_line event)
ends_in_newline-batch_text front (event ∷ next ∷ events) some =
    ap ends_in_newline (sym (append_assoc front (line (event_line event)) (batch_text (next ∷ events)))) ∙ ends_in_newline-batch_text (front ++ line (event_line event)) (next ∷ events) (omega arith)

pub batch_of-text : (events : List Event) → AllByRecursion HasEventLine events → 1 ≤ length events → length events ≤ 64 → batch_of (batch_text events) ≡ Some events
batch_of-text events each some few =
    let least : nat_le 1 (length events) ≡ true = grind (arith, nat_tests) in
    let most : nat_le (length events) 64 ≡ true = grind (arith, nat_tests) in
    rw (ends_in_newline-batch_text [] events some)
    (ap (option_and_then within_batch) (ap events_of (lines_of-batch_text events each) ∙ events_of-lines events each) ∙ rw (least, most) refl)

-- ## What is read is the payload of events

events_of-told : (lines : List (List ℕ)) (events : List Event) → events_of lines ≡ Some events → AllByRecursion HasEventLine events × (map (λ e. event_line e) events ≡ lines)
events_of-told [] events is =
    let none : [] ≡ events = some_injective {A = List Event} [] events is in (
      subst (λ (es : List Event). AllByRecursion HasEventLine es) none tt,
      ap (map (λ e. event_line e)) (sym none),
    )
events_of-told (text ∷ lines) events is = by_line (λ es e. events_of-told lines es e) (event_in (words_of text)) refl (events_of lines) refl is
  where
    by_line : ((es : List Event) → events_of lines ≡ Some es → AllByRecursion HasEventLine es × (map (λ e. event_line e) es ≡ lines))
        → (r : Result Event LineFault) → event_in (words_of text) ≡ r → (o : Option (List Event)) → events_of lines ≡ o → option_and_then (λ event. option_map (λ es. event ∷ es) o) (result_ok r) ≡ Some events
        → AllByRecursion HasEventLine events × (map (λ e. event_line e) events ≡ text ∷ lines)
    by_line again (Err fault) e o f is = absurd (cc)
    by_line again (Ok event) e None f is = absurd (cc)
    by_line again (Ok event) e (Some es) f is =
        let told = event_in-spelled text event e in
        let rest = again es f in
        subst (λ (xs : List Event). AllByRecursion HasEventLine xs × (map (λ e. event_line e) xs ≡ text ∷ lines)) (some_injective {A = List Event} (event ∷ es) events is) ((told.0, rest.0), (λ i. told.1 i ∷ rest.1 i))

ends_in_newline-more : (b c : ℕ) (cs : List ℕ) → ends_in_newline (b ∷ c ∷ cs) ≡ ends_in_newline (c ∷ cs)
ends_in_newline-more b c cs =
    let last : length (b ∷ c ∷ cs) - 1 ≡ suc (length (c ∷ cs) - 1) = omega arith in
    ap (λ n. is_newline (slice_get (b ∷ c ∷ cs) n)) last

-- a text that ends in a newline is its lines, each with its own
flat_map-lines_of : (text : List ℕ) → ends_in_newline text ≡ true → flat_map line (lines_of text) ≡ text
flat_map-lines_of [] ends = absurd (cc)
flat_map-lines_of (b ∷ []) ends =
    let is : b ≡ 10 = grind (arith, nat_tests) in
    rw ends (ap (λ n. n ∷ []) (sym is))
flat_map-lines_of (b ∷ c ∷ cs) ends =
    let rest = flat_map-lines_of (c ∷ cs) (sym (ends_in_newline-more b c cs) ∙ ends) in
    by_bool (λ t. flat_map line (cond t ([] ∷ lines_of (c ∷ cs)) (onto_first b (lines_of (c ∷ cs)))) ≡ b ∷ c ∷ cs) (b == 10)
    (λ here. let is : b ≡ 10 = grind (arith, nat_tests, here) in λ i. sym is i ∷ rest i) (λ _. first (lines_of (c ∷ cs)) rest)
  where
    first : (lines : List (List ℕ)) → flat_map line lines ≡ c ∷ cs → flat_map line (onto_first b lines) ≡ b ∷ c ∷ cs
    first [] rest = absurd (cc)
    first (l ∷ lines) rest = ap (λ bytes. b ∷ bytes) rest

batch_text-lines : (events : List Event) → flat_map line (map (λ e. event_line e) events) ≡ batch_text events
batch_text-lines [] = refl
batch_text-lines (event ∷ events) = ap (λ bytes. line (event_line event) ++ bytes) (batch_text-lines events)

pub batch_of-told : (payload : List ℕ) (events : List Event) → batch_of payload ≡ Some events → IsBatch payload events
batch_of-told payload events is = by_bool (λ t. cond t (option_and_then within_batch (events_of (lines_of payload))) None ≡ Some events → IsBatch payload events) (ends_in_newline payload)
    (λ ends lines. option_and_then_some within_batch (events_of (lines_of payload)) events lines
    (λ es e within. let kept = cond_some (nat_le 1 (length es) && nat_le (length es) 64) es events within in
    let told = events_of-told (lines_of payload) es e in
    subst (IsBatch payload) kept.1 record {
      some = grind (arith, nat_tests, kept.0);
      few = grind (arith, nat_tests, kept.0);
      lines = told.0;
      text = sym (flat_map-lines_of payload ends) ∙ ap (flat_map line) (sym told.1) ∙ batch_text-lines es;
    }))
    (λ _ none. absurd (cc))
    is

pub batch_of-written : (payload : List ℕ) (events : List Event) → IsBatch payload events → batch_of payload ≡ Some events
batch_of-written payload events is = ap batch_of is.text ∙ batch_of-text events is.lines is.some is.few

-- # A record's bytes.

-- a payload of the length that its four bytes say is read, whatever follows
pub record_in-header : (header payload rest : List ℕ) → length header ≡ 4 → from_be_bytes w32 header ≡ length payload
    → record_in (header ++ (payload ++ rest)) ≡ Some (payload, rest)
unfolding record_in
record_in-header header payload rest four says =
    let long : nat_le 4 (length (header ++ (payload ++ rest))) ≡ true = grind (arith, nat_tests, length-append header (payload ++ rest)) in
    let fits : nat_le (length payload) (length (payload ++ rest)) ≡ true = grind (arith, nat_tests, length-append payload rest) in
    rw (long, take_at header (payload ++ rest) 4 four, drop_at header (payload ++ rest) 4 four, says, fits, take_at payload rest (length payload) refl, drop_at payload rest (length payload) refl) refl

pub record_in-text : (payload rest : List ℕ) → length payload < 2 ^ 32 → record_in (record_text payload ++ rest) ≡ Some (payload, rest)
record_in-text payload rest short =
    ap record_in (append_assoc (to_be_bytes w32 (length payload)) payload rest)
    ∙ record_in-header (to_be_bytes w32 (length payload)) payload rest refl (from_be_bytes-to_be_bytes_4 (length payload) short)

-- what is read is a header of four bytes, the payload and what follows
pub record Parts (bytes payload more : List ℕ) : Type 0 where
  pub header : List ℕ
  pub four : length header ≡ 4
  pub says : from_be_bytes w32 header ≡ length payload
  pub split : bytes ≡ header ++ (payload ++ more)

pub record_in-parts : (bytes payload more : List ℕ) → record_in bytes ≡ Some (payload, more) → Parts bytes payload more
unfolding record_in
record_in-parts bytes payload more found = by_bool (λ t. cond t (first_bytes (from_be_bytes w32 (take 4 bytes)) (drop 4 bytes)) None ≡ Some (payload, more) → Parts bytes payload more) (nat_le 4 (length bytes))
    (λ long some. let n = from_be_bytes w32 (take 4 bytes) in
    let body = drop 4 bytes in
    let told = cond_some {A = List ℕ × List ℕ} (nat_le n (length body)) (take n body, drop n body) (payload, more) some in
    let fits : n ≤ length body = grind (arith, nat_tests, told.0) in
    record {
      header = take 4 bytes;
      four = length-take-le 4 bytes (grind (arith, nat_tests, long));
      says = sym (length-take-le n body fits) ∙ ap (λ (p : List ℕ × List ℕ). length p.0) told.1;
      split = sym (take-append-drop 4 bytes) ∙ ap (λ (l : List ℕ). take 4 bytes ++ l) (sym (take-append-drop n body) ∙ ap (λ (p : List ℕ × List ℕ). p.0 ++ p.1) told.1);
    })
    (λ _ none. absurd (cc))
    found

pub shorter : (bytes payload more : List ℕ) → record_in bytes ≡ Some (payload, more) → length more ≤ length bytes
shorter bytes payload more found =
    let parts = record_in-parts bytes payload more found in
    omega (arith, ap length parts.split, length-append parts.header (payload ++ more), length-append payload more)

-- ## Tests one after another

-- what went on was found, and what comes after it was done
found_some : {A B : Type 0} (o : Option A) (n : ℕ) (f : A → Result B ℕ) (b : B) → (found o n >>= f) ≡ Ok b → (a : A) × (o ≡ Some a) × (f a ≡ Ok b)
found_some None n f b is = absurd (cc)
found_some (Some a) n f b is = (a, refl, is)

went_ok : {A B : Type 0} (r : Result A ℕ) (f : A → Result B ℕ) (b : B) → (r >>= f) ≡ Ok b → (a : A) × (r ≡ Ok a) × (f a ≡ Ok b)
went_ok (Err number) f b is = absurd (cc)
went_ok (Ok a) f b is = (a, refl, is)

needed : {B : Type 0} (t : Bool) (n : ℕ) (a b : B) → (need t n >> Ok a) ≡ Ok b → (t ≡ true) × (a ≡ b)
needed true n a b is = (refl, cc)
needed false n a b is = absurd (cc)

goes_alike : {A B : Type 0} (r : Result A ℕ) (f g : A → Result B ℕ) → ((a : A) → r ≡ Ok a → f a ≡ g a) → (r >>= f) ≡ (r >>= g)
goes_alike (Err number) f g each = refl
goes_alike (Ok a) f g each = each a refl

found_alike : {A B : Type 0} (o : Option A) (n : ℕ) (f g : A → Result B ℕ) → ((a : A) → o ≡ Some a → f a ≡ g a) → (found o n >>= f) ≡ (found o n >>= g)
found_alike None n f g each = refl
found_alike (Some a) n f g each = each a refl

-- # Walks over a log's bytes.

-- ## More steps than bytes change nothing

pub walk-enough : (m n : ℕ) (w : Walk) (bytes : List ℕ) → length bytes ≤ m → length bytes ≤ n → walk m w bytes ≡ walk n w bytes
unfolding walk
walk-enough m n w [] p q = refl
walk-enough zero n w (gate ∷ bytes) p q = absurd (omega arith)
walk-enough (suc m) zero w (gate ∷ bytes) p q = absurd (omega arith)
walk-enough (suc m) (suc n) w (gate ∷ bytes) p q = ap (λ (r : Result Walk ℕ). cond (gate == 1) r (Ok w))
    (found_alike (record_in bytes) w.number (λ r. after_record w r.0 >>= (λ v. walk m v r.1)) (λ r. after_record w r.0 >>= (λ v. walk n v r.1))
    (λ r e. goes_alike (after_record w r.0) (λ v. walk m v r.1) (λ v. walk n v r.1)
    (λ v _. walk-enough m n v r.1 (omega (arith, shorter bytes r.0 r.1 e)) (omega (arith, shorter bytes r.0 r.1 e)))))

-- ## One step

pub gate-open : (gate : ℕ) (test : Bool) → test ≡ is_open gate → test ≡ true → gate ≡ 1
gate-open gate test is open_gate = grind (arith, nat_tests)

pub gate-shut : (gate : ℕ) (test : Bool) → test ≡ is_open gate → test ≡ false → gate ≢ 1
gate-shut gate test is shut = grind (arith, nat_tests)

pub go_on-closed : (w : Walk) (gate : ℕ) (bytes : List ℕ) → gate ≢ 1 → go_on w (gate ∷ bytes) ≡ Ok w
unfolding walk
go_on-closed w gate bytes shut = rw (ne_eqb gate 1 shut) refl

pub go_on-none : (w : Walk) → go_on w [] ≡ Err w.number
unfolding walk
go_on-none w = refl

pub go_on-short : (w : Walk) (bytes : List ℕ) → record_in bytes ≡ None → go_on w (1 ∷ bytes) ≡ Err w.number
unfolding walk
go_on-short w bytes none = rw none refl

pub go_on-fault : (w : Walk) (bytes payload more : List ℕ) (number : ℕ) → record_in bytes ≡ Some (payload, more) → after_record w payload ≡ Err number → go_on w (1 ∷ bytes) ≡ Err number
unfolding walk
go_on-fault w bytes payload more number found fault = rw (found, fault) refl

pub go_on-open : (w v : Walk) (bytes payload more : List ℕ) → record_in bytes ≡ Some (payload, more) → after_record w payload ≡ Ok v → go_on w (1 ∷ bytes) ≡ go_on v more
unfolding walk
go_on-open w v bytes payload more found is =
    let less = shorter bytes payload more found in
    rw (found, is) (walk-enough (length bytes) (length more) v more less (omega arith))

-- ## Past a record

pub record Passes (v u : Walk) (payload : List ℕ) : Type 0 where
  pub events : List Event
  pub batch : batch_of payload ≡ Some events
  pub walk : u ≡ after_batch v (length payload) events
  pub few : length v.content.events + length events ≤ JOURNAL_ENTRIES

pub after_record-parts : (v u : Walk) (payload : List ℕ) → after_record v payload ≡ Ok u → Passes v u payload
after_record-parts v u payload is =
    let read = found_some (batch_of payload) v.number (λ events. need (nat_le (length v.content.events + length events) JOURNAL_ENTRIES) v.number >> Ok (after_batch v (length payload) events)) u is in
    let room = needed (nat_le (length v.content.events + length read.0) JOURNAL_ENTRIES) v.number (after_batch v (length payload) read.0) u read.2 in
    record { events = read.0; batch = read.1; walk = sym room.1; few = grind (arith, nat_tests, room.0) }

pub after_record-batch : (v : Walk) (payload : List ℕ) (events : List Event) → batch_of payload ≡ Some events → length v.content.events + length events ≤ JOURNAL_ENTRIES
    → after_record v payload ≡ Ok (after_batch v (length payload) events)
after_record-batch v payload events batch few =
    let test : nat_le (length v.content.events + length events) JOURNAL_ENTRIES ≡ true = grind (arith, nat_tests) in
    rw (batch, test) refl

pub after_record-many : (v : Walk) (payload : List ℕ) (events : List Event) → batch_of payload ≡ Some events → JOURNAL_ENTRIES < length v.content.events + length events
    → after_record v payload ≡ Err v.number
after_record-many v payload events batch many =
    let test : nat_le (length v.content.events + length events) JOURNAL_ENTRIES ≡ false = grind (arith, nat_tests) in
    rw (batch, test) refl

-- ## Where a walk ends

regroup : (a b c d : List ℕ) → a ++ (b ++ (c ++ d)) ≡ (a ++ (b ++ c)) ++ d
regroup a b c d = simp append_assoc

-- bytes over which a walk that has this many bytes before them goes to the closed gate where it is w, whatever follows
pub record LeadsTo (start : ℕ) (had : List Event) (walks : List ℕ → Result Walk ℕ) (w : Walk) (bytes : List ℕ) : Type 0 where
  pub front : List ℕ
  pub gate : ℕ
  pub more : List ℕ
  pub split : bytes ≡ front ++ gate ∷ more
  pub closed : gate ≢ 1
  pub place : w.gate ≡ start + length front
  pub goes : (rest : List ℕ) → walks (front ++ rest) ≡ go_on w rest
  pub lines : AllByRecursion HasEventLine had → AllByRecursion HasEventLine w.content.events

-- from a walk, and from a log's start
abbrev Leads : Walk → Walk → List ℕ → Type 0
Leads v w bytes = LeadsTo v.gate v.content.events (go_on v) w bytes

abbrev pub EndsAt : Walk → List ℕ → Type 0
EndsAt w bytes = LeadsTo 0 [] walk_of w bytes

-- an open gate and a record, and then bytes over which the walk behind them goes
behind_record : (start : ℕ) (had : List Event) (walks : List ℕ → Result Walk ℕ) (u w : Walk) (gate : ℕ) (bytes payload more : List ℕ) (parts : Parts bytes payload more) → Leads u w more → u.gate ≡ start + 5 + length payload
    → ((rest : List ℕ) → walks (gate ∷ parts.header ++ (payload ++ rest)) ≡ go_on u rest) → (AllByRecursion HasEventLine had → AllByRecursion HasEventLine u.content.events) → LeadsTo start had walks w (gate ∷ bytes)
behind_record start had walks u w gate bytes payload more parts ends place goes lines = record {
  front = gate ∷ parts.header ++ (payload ++ ends.front);
  gate = ends.gate;
  more = ends.more;
  split = ap (λ (l : List ℕ). gate ∷ l) (parts.split ∙ ap (λ (l : List ℕ). parts.header ++ (payload ++ l)) ends.split ∙ regroup parts.header payload ends.front (ends.gate ∷ ends.more));
  closed = ends.closed;
  place = omega (arith, ends.place, place, parts.four, length-append parts.header (payload ++ ends.front), length-append payload ends.front);
  goes = λ rest. ap (λ (l : List ℕ). walks (gate ∷ l)) (sym (regroup parts.header payload ends.front rest)) ∙ goes (ends.front ++ rest) ∙ ends.goes rest;
  lines = λ each. ends.lines (lines each);
}

pub walk-LeadsTo : (n : ℕ) (v w : Walk) (bytes : List ℕ) → length bytes ≤ n → walk n v bytes ≡ Ok w → Leads v w bytes
unfolding walk
walk-LeadsTo n v w [] le ends = absurd (cc)
walk-LeadsTo zero v w (gate ∷ bytes) le ends = absurd (omega arith)
walk-LeadsTo (suc n) v w (gate ∷ bytes) le ends = elim (cases_eq gate 1) [
  | inl open_gate ↦
      let read = found_some (record_in bytes) v.number (λ r. after_record v r.0 >>= (λ u. walk n u r.1)) w (subst (λ t. cond t (past_gate v bytes (walk n)) (Ok v) ≡ Ok w) (eq-eqb gate 1 open_gate) ends) in
      let payload : List ℕ = read.0.0 in
      let more : List ℕ = read.0.1 in
      let next = went_ok (after_record v payload) (λ u. walk n u more) w read.2 in
      let parts = record_in-parts bytes payload more read.1 in
      let passes = after_record-parts v next.0 payload next.1 in
      behind_record v.gate v.content.events (go_on v) next.0 w gate bytes payload more parts
      (walk-LeadsTo n next.0 w more (omega (arith, shorter bytes payload more read.1)) next.2)
      (ap (λ (x : Walk). x.gate) passes.walk)
      (λ rest. ap (λ (g : ℕ). go_on v (g ∷ parts.header ++ (payload ++ rest))) open_gate ∙ go_on-open v next.0 (parts.header ++ (payload ++ rest)) payload rest (record_in-header parts.header payload rest parts.four parts.says) next.1)
      (λ had. subst (λ (x : Walk). AllByRecursion HasEventLine x.content.events) (sym passes.walk) (lines-append v.content.events passes.events had (batch_of-told payload passes.events passes.batch).lines))
  | inr shut ↦
      let same : Ok v ≡ Ok w = subst (λ t. cond t (past_gate v bytes (walk n)) (Ok v) ≡ Ok w) (ne_eqb gate 1 shut) ends in
      let is : v ≡ w = cc in
      record { front = []; gate = gate; more = bytes; split = refl; closed = shut; place = omega (arith, ap (λ (u : Walk). u.gate) is); goes = λ rest. ap (λ (u : Walk). go_on u rest) is; lines = λ had. subst (λ (u : Walk). AllByRecursion HasEventLine u.content.events) is had }
]

pub walk_of-EndsAt : (bytes : List ℕ) (w : Walk) → walk_of bytes ≡ Ok w → EndsAt w bytes
unfolding walk_of
walk_of-EndsAt [] w is = absurd (cc)
walk_of-EndsAt (gate ∷ bytes) w is = elim (cases_eq gate 1) [
  | inl open_gate ↦
      let read = found_some (record_in bytes) 0 (λ r. go_on (after_config r.0) r.1) w (subst (λ t. (found (cond t (record_in bytes) None) 0 >>= (λ r. go_on (after_config r.0) r.1)) ≡ Ok w) (eq-eqb gate 1 open_gate) is) in
      let parts = record_in-parts bytes read.0.0 read.0.1 read.1 in
      behind_record 0 [] walk_of (after_config read.0.0) w gate bytes read.0.0 read.0.1 parts (walk-LeadsTo (length read.0.1) (after_config read.0.0) w read.0.1 (omega arith) read.2) refl
      (λ rest. past_first parts.header read.0.0 rest open_gate parts.four parts.says)
      (λ none. none)
  | inr shut ↦ let none : (found {A = List ℕ × List ℕ} None 0 >>= (λ r. go_on (after_config r.0) r.1)) ≡ Ok w = subst (λ t. (found (cond t (record_in bytes) None) 0 >>= (λ r. go_on (after_config r.0) r.1)) ≡ Ok w) (ne_eqb gate 1 shut) is in absurd (cc)
]
  where
    past_first : (header config rest : List ℕ) → gate ≡ 1 → length header ≡ 4 → from_be_bytes w32 header ≡ length config → walk_of (gate ∷ header ++ (config ++ rest)) ≡ go_on (after_config config) rest
    past_first header config rest open_gate four says = rw (eq-eqb gate 1 open_gate, record_in-header header config rest four says) refl

-- a first record
pub walk_of-first : (config rest : List ℕ) → length config < 2 ^ 32 → walk_of (1 ∷ record_text config ++ rest) ≡ go_on (after_config config) rest
unfolding walk_of
walk_of-first config rest short = rw (record_in-text config rest short) refl

-- ## Damage at record 0

pub walk_of-none : walk_of [] ≡ Err 0
unfolding walk_of
walk_of-none = refl

pub walk_of-closed : (gate : ℕ) (bytes : List ℕ) → gate ≢ 1 → walk_of (gate ∷ bytes) ≡ Err 0
unfolding walk_of
walk_of-closed gate bytes shut = rw (ne_eqb gate 1 shut) refl

-- one byte is too few
pub walk_of-one : (gate : ℕ) → walk_of (gate ∷ []) ≡ Err 0
unfolding walk_of record_in
walk_of-one gate = cases (gate == 1)
  where
    cases : (t : Bool) → (found {A = List ℕ × List ℕ} (cond t None None) 0 >>= (λ r. go_on (after_config r.0) r.1)) ≡ Err 0
    cases true = refl
    cases false = refl

-- # A walk that fails.

pub fails_past : (fault : LoadFault) (w : Walk) (bytes payload more : List ℕ) (said : Result Walk ℕ) → record_in bytes ≡ Some (payload, more) → said ≡ go_on w (1 ∷ bytes)
    → Fails fault (after_record w payload) → Fails fault said
fails_past (LoadFault.Damaged number) w bytes payload more said found is fails = is ∙ go_on-fault w bytes payload more number found fails
fails_past LoadFault.DiskFault w bytes payload more said found is fails = fails
fails_past LoadFault.NoMemory w bytes payload more said found is fails = tt

-- # A log that was loaded.

-- what a crash leaves after a sync, and after calls that change nothing
pub only_kept : (a b c : DiskFacts) → Settles a b → Stays b c → IfSome a.now (λ file. Only file b.may_leave) → IfSome c.now (λ file. Only file c.may_leave)
only_kept a b c settles stays only =
    IfSome_then c.now (subst (λ now. IfSome now (λ file. Only file b.may_leave)) (sym (stays.bytes ∙ settles.bytes)) only) (λ file kept x left. kept x ((stays.images x).0 left))

settled_in : (now : Option (List ℕ)) (images : List ℕ → Type 0) (bytes : List ℕ) (w : Walk) → IfSome now (λ file. Only file images) → IfSome now (λ file. bytes ≡ file) → walk_of bytes ≡ Ok w
    → IfSome now (IsSettledIn images (record { gate = w.gate; events = length w.content.events }))
settled_in None images bytes w only read is = tt
settled_in (Some file) images bytes w only read is = record { only = only; walk = w; is = ap walk_of (sym read) ∙ is; gate = refl; events = refl }

pub load_settled : (a b : DiskFacts) (bytes : List ℕ) (w : Walk) → b.now ≡ a.now → IfSome b.now (λ file. Only file b.may_leave) → IfSome a.now (λ file. bytes ≡ file) → walk_of bytes ≡ Ok w
    → IsSettled b (record { gate = w.gate; events = length w.content.events })
load_settled a b bytes w kept only read is = settled_in b.now b.may_leave bytes w only (subst (λ now. IfSome now (λ file. bytes ≡ file)) (sym kept) read) is
