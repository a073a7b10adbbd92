-- writing the log: what a new log or one more batch leaves on the disk, also after a torn write
use Rattle.np_log.proofs.Prelude.{AllByRecursion, Event, HasEventLine, HasText, List, RequestId, HasWord, all-weaker, event_parts, event_row, field_text, [], arith, batch_text, decimal, decimal-short, event_line, flat_map, length, length-append, length-decimal-le, length-ten, lettered, line, nat_le, nat_tests, refl, request_text_of, ten_digits_of, true, ℕ, ◌*◌, ◌++◌, ◌<◌, ◌^◌, ◌∷◌, ◌≡◌, ◌≤◌, AfterTornWrite, IsSettled, IsSettledIn, JOURNAL_ENTRIES, Ok, Only, Place, SaysAllOrNone, Some, TornWrite, Walk, add_events, after_batch, after_record, ap, append_assoc, batch_of, cases_eq, content_of, content_with, drop, drop_at, drop_more, get_or, go_on, inl, inr, map_ok, put_at, record_and_gate, record_text, subst, sym, take, take-append-drop, take_at, walk_of, ⊎_elim, ◌+◌, ◌∙◌, ◌⊎◌, DiskFacts, Err, IfSome, IsDisk, LeavesOnly, LeavesOnly-stays, LeavesOnly-then, None, Option, SaysNewLog, Stays, TornFirst, after_config, append-nil, behind_gate, behind_open_gate, drop_all, option_map, LeavesOnly-weaker, TornBehindOrAt, Content, Result, SaysFirst, take-add}
use Rattle.np_text.specs.declared.id.Role.{Role}
use Rattle.np_text.specs.declared.word.Reason.{Reason}
use Rattle.np_event.specs.declared.event.Outcome.{Outcome}
use Rattle.np_log.proofs.Walks.{EndsAt, after_record-batch, batch_of-text, go_on-closed, go_on-open, record_in-text, walk_of-EndsAt, walk_of-closed, walk_of-first, walk_of-none, walk_of-one}

-- # How long an event's line can be.

-- ## A word

at_most : (n : ℕ) (text : List ℕ) → nat_le (length text) n ≡ true → length text ≤ n
at_most n text test = grind (arith, nat_tests)

lettered-short : (letter n : ℕ) → n < 2 ^ 32 → length (lettered letter n) ≤ 20
lettered-short letter n small = omega (arith, length-decimal-le 10 n (omega arith) (omega arith) (omega arith))

request_text_of-short : (id : RequestId) → HasText id → length (request_text_of id) ≤ 20
unfolding request_text_of
request_text_of-short id has =
    let digits : length (decimal id.priority) ≤ 3 = length-decimal-le 3 id.priority (omega arith) (omega (arith, has.most)) (omega (arith, has.most)) in
    omega (arith, digits, length-append (decimal id.priority) (45 ∷ ten_digits_of id.seq), length-ten id.seq has.sequence)

-- ## A line

words-short : {K : Type 0} (text : K → List ℕ) (kinds : List K) → AllByRecursion (λ kind. length (text kind) ≤ 20) kinds → length (flat_map (λ kind. 32 ∷ text kind) kinds) ≤ 21 * length kinds
words-short text [] each = omega arith
words-short text (kind ∷ kinds) each = omega (arith, each.0, words-short text kinds each.1, length-append (32 ∷ text kind) (flat_map (λ kind. 32 ∷ text kind) kinds))

-- each word of an event's line
each_short : (e : Event) → HasEventLine e → AllByRecursion (λ kind. length (field_text kind (event_parts e).1) ≤ 20) (event_row (event_parts e).0).kinds
each_short e has =
    let f = (event_parts e).1 in
    all-weaker (λ kind. HasWord kind f) (λ kind. length (field_text kind f) ≤ 20)
    (λ kind h. grind (arith, nat_tests, h, lettered-short 115 f.session.0, lettered-short 110 f.node.0, lettered-short 106 f.job.0, lettered-short 108 f.label.0, lettered-short 112 f.pool.0, lettered-short 113 f.requester.0, lettered-short 120 f.semaphore.0, request_text_of-short f.request, decimal-short f.attempt, decimal-short f.number, decimal-short f.relative, decimal-short f.server, decimal-short f.instances, decimal-short f.cores, decimal-short f.ram))
    (event_row (event_parts e).0).kinds has.words

row-short : (e : Event) → (nat_le (length (event_row (event_parts e).0).head) 14 ≡ true) × (nat_le (length (event_row (event_parts e).0).kinds) 5 ≡ true)
row-short (Event.OpenSession Role.Reaper) = (refl, refl)
row-short (Event.Decline s r Reason.NeverFits) = (refl, refl)
row-short (Event.Done s n k Outcome.Failed) = (refl, refl)
row-short e = (refl, refl)

pub event_line-short : (e : Event) → HasEventLine e → length (event_line e) ≤ 160
event_line-short e has =
    let form = event_row (event_parts e).0 in
    let head : length form.head ≤ 14 = at_most 14 form.head (row-short e).0 in
    let few : length form.kinds ≤ 5 = grind (arith, nat_tests, (row-short e).1) in
    omega (arith, head, few, words-short (λ kind. field_text kind (event_parts e).1) form.kinds (each_short e has), length-append form.head (flat_map (λ kind. 32 ∷ field_text kind (event_parts e).1) form.kinds))

pub batch_text-short : (events : List Event) → AllByRecursion HasEventLine events → length (batch_text events) ≤ 161 * length events
batch_text-short [] each = omega arith
batch_text-short (e ∷ events) each =
    omega (arith, event_line-short e each.0, batch_text-short events each.1, length-append (line (event_line e)) (batch_text events), length-append (event_line e) (10 ∷ []))

pub batch_fits : (events : List Event) → AllByRecursion HasEventLine events → length events ≤ 64 → length (batch_text events) < 2 ^ 32
batch_fits events each few = omega (arith, batch_text-short events each, few)

-- # What a crash leaves of a log while a record is content_with.

-- ## Bytes around the last gate

-- up to the gate, and the gate
upto : (front : List ℕ) (gate : ℕ) (more : List ℕ) (n : ℕ) → n ≡ length front → take (n + 1) (front ++ gate ∷ more) ≡ front ++ gate ∷ []
upto front gate more n is =
    ap (take (n + 1)) (sym (append_assoc front (gate ∷ []) more)) ∙ take_at (front ++ gate ∷ []) more (n + 1) (omega (arith, is, length-append front (gate ∷ [])))

behind : (front : List ℕ) (gate : ℕ) (more : List ℕ) (n : ℕ) → n ≡ length front → drop (n + 1) (front ++ gate ∷ more) ≡ more
behind front gate more n is =
    ap (drop (n + 1)) (sym (append_assoc front (gate ∷ []) more)) ∙ drop_at (front ++ gate ∷ []) more (n + 1) (omega (arith, is, length-append front (gate ∷ [])))

-- bytes that agree up to a closed gate say the same
same_front : (file c : List ℕ) (w : Walk) → walk_of file ≡ Ok w → take (w.gate + 1) c ≡ take (w.gate + 1) file → walk_of c ≡ Ok w
same_front file c w is same =
    let e = walk_of-EndsAt file w is in
    let front : take (w.gate + 1) c ≡ e.front ++ e.gate ∷ [] = same ∙ ap (take (w.gate + 1)) e.split ∙ upto e.front e.gate e.more w.gate (omega (arith, e.place)) in
    let whole : c ≡ e.front ++ e.gate ∷ drop (w.gate + 1) c =
    sym (take-append-drop (w.gate + 1) c) ∙ ap (λ (l : List ℕ). l ++ drop (w.gate + 1) c) front ∙ append_assoc e.front (e.gate ∷ []) (drop (w.gate + 1) c) in
    ap walk_of whole ∙ e.goes (e.gate ∷ drop (w.gate + 1) c) ∙ go_on-closed w e.gate (drop (w.gate + 1) c) e.closed

-- bytes that are written behind the gate
put_at-behind : (front : List ℕ) (gate : ℕ) (more bytes : List ℕ) (n : ℕ) → n ≡ length front
    → put_at (n + 1) bytes (front ++ gate ∷ more) ≡ front ++ gate ∷ (bytes ++ drop (n + 1 + length bytes) (front ++ gate ∷ more))
put_at-behind front gate more bytes n is =
    let junk = drop (n + 1 + length bytes) (front ++ gate ∷ more) in
    ap (λ (l : List ℕ). (l ++ bytes) ++ junk) (upto front gate more n is)
    ∙ append_assoc (front ++ gate ∷ []) bytes junk
    ∙ append_assoc front (gate ∷ []) (bytes ++ junk)

-- the gate is written
put_at-gate : (front : List ℕ) (gate : ℕ) (more : List ℕ) (n new : ℕ) → n ≡ length front → put_at n (new ∷ []) (front ++ gate ∷ more) ≡ front ++ new ∷ more
put_at-gate front gate more n new is =
    (λ i. (take_at front (gate ∷ more) n (sym is) i ++ new ∷ []) ++ behind front gate more n is i) ∙ append_assoc front (new ∷ []) more

-- a torn gate is some byte
pub TornWrite-gate : (front : List ℕ) (gate : ℕ) (more c : List ℕ) (n : ℕ) → n ≡ length front → TornWrite n 1 (front ++ gate ∷ more) c → c ≡ front ++ get_or c n 0 ∷ more
TornWrite-gate front gate more c n is torn =
    let rest : drop n c ≡ get_or c n 0 ∷ more =
    drop_more c n 0 (omega (arith, torn.no_shorter, length-append front (gate ∷ more), is)) ∙ ap (λ (l : List ℕ). get_or c n 0 ∷ l) (torn.after ∙ behind front gate more n is) in
    sym (take-append-drop n c) ∙ ap (λ (l : List ℕ). l ++ drop n c) (torn.before ∙ take_at front (gate ∷ more) n (sym is)) ∙ ap (λ (l : List ℕ). front ++ l) rest

-- ## A record behind a gate

regroup : (payload junk : List ℕ) → record_and_gate payload ++ junk ≡ record_text payload ++ (0 ∷ junk)
regroup payload junk = append_assoc (record_text payload) (0 ∷ []) junk

-- what the payload adds to a log
pub record Adds (place : Place) (payload : List ℕ) (events : List Event) : Type 0 where
  pub short : length payload < 2 ^ 32
  pub batch : batch_of payload ≡ Some events
  pub few : place.events + length events ≤ JOURNAL_ENTRIES

go_on-record : (w v : Walk) (payload junk : List ℕ) → length payload < 2 ^ 32 → after_record w payload ≡ Ok v → go_on w (1 ∷ record_and_gate payload ++ junk) ≡ Ok v
go_on-record w v payload junk short is =
    ap (λ (l : List ℕ). go_on w (1 ∷ l)) (regroup payload junk)
    ∙ go_on-open w v (record_text payload ++ (0 ∷ junk)) payload (0 ∷ junk) (record_in-text payload (0 ∷ junk) short) is
    ∙ go_on-closed v 0 junk (omega arith)

go_on-any_gate : (w v : Walk) (gate : ℕ) (payload junk : List ℕ) → length payload < 2 ^ 32 → after_record w payload ≡ Ok v → (go_on w (gate ∷ record_and_gate payload ++ junk) ≡ Ok w) ⊎ (go_on w (gate ∷ record_and_gate payload ++ junk) ≡ Ok v)
go_on-any_gate w v gate payload junk short is = elim (cases_eq gate 1) [
  | inl open_gate ↦ inr (ap (λ (g : ℕ). go_on w (g ∷ record_and_gate payload ++ junk)) open_gate ∙ go_on-record w v payload junk short is)
  | inr shut ↦ inl (go_on-closed w gate (record_and_gate payload ++ junk) shut)
]

-- ## During an append

module _ (file : List ℕ) (images : List ℕ → Type 0) (place : Place) (settled : IsSettledIn images place file) where
  ends : EndsAt settled.walk file
  ends = walk_of-EndsAt file settled.walk settled.is

  at_gate : place.gate ≡ length ends.front
  at_gate = omega (arith, settled.gate, ends.place)

  said : content_of file ≡ Ok settled.walk.content
  said = ap (map_ok (λ w. w.content)) settled.is

  pub gate_within : place.gate + 1 ≤ length file
  gate_within = omega (arith, at_gate, ap length ends.split, length-append ends.front (ends.gate ∷ ends.more))

  -- a torn write behind the gate
  pub torn_behind : (n : ℕ) (c : List ℕ) → AfterTornWrite images (place.gate + 1) n c → content_of c ≡ content_of file
  torn_behind n c torn =
      let front : take (settled.walk.gate + 1) c ≡ take (settled.walk.gate + 1) file =
      subst (λ (g : ℕ). take (g + 1) c ≡ take (g + 1) file) (sym settled.gate) (subst (λ (d : List ℕ). take (place.gate + 1) c ≡ take (place.gate + 1) d) (settled.only torn.0 torn.1) torn.2.before) in
      ap (map_ok (λ w. w.content)) (same_front file c settled.walk settled.is front ∙ sym settled.is)

  module _ (payload : List ℕ) (events : List Event) (adds : Adds place payload events) where
    passes : after_record settled.walk payload ≡ Ok (after_batch settled.walk (length payload) events)
    passes = after_record-batch settled.walk payload events adds.batch (omega (arith, adds.few, settled.events))

    behind_is : put_at (place.gate + 1) (record_and_gate payload) file ≡ ends.front ++ ends.gate ∷ (record_and_gate payload ++ drop (place.gate + 1 + length (record_and_gate payload)) (ends.front ++ ends.gate ∷ ends.more))
    behind_is = ap (put_at (place.gate + 1) (record_and_gate payload)) ends.split ∙ put_at-behind ends.front ends.gate ends.more (record_and_gate payload) place.gate at_gate

    -- a torn write of the gate
    pub torn_at : (c : List ℕ) → TornWrite place.gate 1 (put_at (place.gate + 1) (record_and_gate payload) file) c → SaysAllOrNone (content_of file) events c
    torn_at c torn =
        let tail = drop (place.gate + 1 + length (record_and_gate payload)) (ends.front ++ ends.gate ∷ ends.more) in
        let whole : c ≡ ends.front ++ get_or c place.gate 0 ∷ (record_and_gate payload ++ tail) =
        TornWrite-gate ends.front ends.gate (record_and_gate payload ++ tail) c place.gate at_gate (subst (λ (d : List ℕ). TornWrite place.gate 1 d c) behind_is torn) in
        let goes : walk_of c ≡ go_on settled.walk (get_or c place.gate 0 ∷ record_and_gate payload ++ tail) = ap walk_of whole ∙ ends.goes (get_or c place.gate 0 ∷ (record_and_gate payload ++ tail)) in
        ⊎_elim
        (λ was. inl (ap (map_ok (λ w. w.content)) (goes ∙ was) ∙ sym said))
        (λ is. inr (ap (map_ok (λ w. w.content)) (goes ∙ is) ∙ sym (ap (map_ok (add_events events)) said)))
        (go_on-any_gate settled.walk (after_batch settled.walk (length payload) events) (get_or c place.gate 0) payload tail adds.short passes)

    walk_of-after : walk_of (put_at place.gate (1 ∷ []) (put_at (place.gate + 1) (record_and_gate payload) file)) ≡ Ok (after_batch settled.walk (length payload) events)
    walk_of-after =
        let tail = drop (place.gate + 1 + length (record_and_gate payload)) (ends.front ++ ends.gate ∷ ends.more) in
        ap walk_of (ap (put_at place.gate (1 ∷ [])) behind_is ∙ put_at-gate ends.front ends.gate (record_and_gate payload ++ tail) place.gate 1 at_gate)
        ∙ ends.goes (1 ∷ (record_and_gate payload ++ tail))
        ∙ go_on-record settled.walk (after_batch settled.walk (length payload) events) payload tail adds.short passes

    pub content_of-after : content_of (put_at place.gate (1 ∷ []) (put_at (place.gate + 1) (record_and_gate payload) file)) ≡ content_with (content_of file) events
    content_of-after = ap (map_ok (λ w. w.content)) walk_of-after ∙ sym (ap (map_ok (add_events events)) said)

    pub settled_after : (after : List ℕ → Type 0) → Only (put_at place.gate (1 ∷ []) (put_at (place.gate + 1) (record_and_gate payload) file)) after
        → IsSettledIn after (record { gate = place.gate + length (record_and_gate payload); events = place.events + length events }) (put_at place.gate (1 ∷ []) (put_at (place.gate + 1) (record_and_gate payload) file))
    settled_after after only = record {
      only = only;
      walk = after_batch settled.walk (length payload) events;
      is = walk_of-after;
      gate = omega (arith, settled.gate, length-append (record_text payload) (0 ∷ []));
      events = omega (arith, settled.events, length-append settled.walk.content.events events);
    }

-- # A new log in an empty file.

-- ## The bytes

behind_first : (bytes : List ℕ) (gate : ℕ) → put_at 1 bytes (gate ∷ []) ≡ gate ∷ bytes
behind_first bytes gate = ap (λ (l : List ℕ). (gate ∷ bytes) ++ l) (drop_all (1 + length bytes) (gate ∷ []) (omega arith)) ∙ append-nil (gate ∷ bytes)

new_bytes : (bytes : List ℕ) → behind_open_gate 0 bytes (0 ∷ []) ≡ 1 ∷ bytes
new_bytes bytes = ap (put_at 0 (1 ∷ [])) (behind_first bytes 0)

new_walk : (config : List ℕ) → length config < 2 ^ 32 → walk_of (1 ∷ record_and_gate config) ≡ Ok (after_config config)
new_walk config short = walk_of-first config (0 ∷ []) short ∙ go_on-closed (after_config config) 0 [] (omega arith)

-- ## While it is made

no_gate : (image : List ℕ) → TornWrite 0 1 [] image → walk_of image ≡ Err 0
no_gate [] torn = walk_of-none
no_gate (gate ∷ []) torn = walk_of-one gate
no_gate (gate ∷ next ∷ image) torn = absurd (omega (arith, torn.no_longer))

no_record : (n : ℕ) (image : List ℕ) → TornWrite 1 n (0 ∷ []) image → walk_of image ≡ Err 0
no_record n [] torn = absurd (omega (arith, torn.no_shorter))
no_record n (gate ∷ image) torn =
    let same : gate ∷ [] ≡ 0 ∷ [] = torn.before in
    walk_of-closed gate image (λ is. absurd (cc))

either_record : (config image : List ℕ) → length config < 2 ^ 32 → TornWrite 0 1 (behind_gate 0 (record_and_gate config) (0 ∷ [])) image
    → (walk_of image ≡ Err 0) ⊎ (walk_of image ≡ Ok (after_config config))
either_record config image short torn =
    let whole : image ≡ get_or image 0 0 ∷ record_and_gate config =
    TornWrite-gate [] 0 (record_and_gate config) image 0 refl (subst (λ (d : List ℕ). TornWrite 0 1 d image) (behind_first (record_and_gate config) 0) torn) in
    elim (cases_eq (get_or image 0 0) 1) [
      | inl is ↦ inr (ap walk_of (whole ∙ ap (λ (g : ℕ). g ∷ record_and_gate config) is) ∙ new_walk config short)
      | inr shut ↦ inl (ap walk_of whole ∙ walk_of-closed (get_or image 0 0) (record_and_gate config) shut)
    ]

says : (o : Option (List ℕ)) (images : List ℕ → Type 0) (config image : List ℕ) → length config < 2 ^ 32
    → images image ⊎ IfSome o (λ _. TornWrite 0 1 [] image ⊎ (TornWrite 1 (length (record_and_gate config)) (0 ∷ []) image ⊎ TornWrite 0 1 (behind_gate 0 (record_and_gate config) (0 ∷ [])) image))
    → IfSome o (λ _. SaysNewLog images config image)
says None images config image short torn = tt
says (Some file) images config image short torn =
    ⊎_elim
    (λ old. inl old)
    (λ new. inr (⊎_elim
    (λ gate. inl (ap (map_ok (λ w. w.content)) (no_gate image gate)))
    (λ later. ⊎_elim
    (λ behind. inl (ap (map_ok (λ w. w.content)) (no_record (length (record_and_gate config)) image behind)))
    (λ at. ⊎_elim (λ lacks. inl (ap (map_ok (λ w. w.content)) lacks)) (λ whole. inr (ap (map_ok (λ w. w.content)) whole)) (either_record config image short at))
    later)
    new))
    torn

under_some : (o : Option (List ℕ)) (a b : DiskFacts) (P : List ℕ → List ℕ → Type 0) → LeavesOnly a b (λ c. IfSome o (λ file. P file c)) → IfSome o (λ file. LeavesOnly a b (P file))
under_some None a b P run = tt
under_some (Some file) a b P run = run

-- calls that change nothing, and then the first record
pub create_moment : (a b c : DiskFacts) (config bytes : List ℕ) → IsDisk a → Stays a b → length config < 2 ^ 32 → bytes ≡ record_and_gate config → LeavesOnly b c (TornFirst b bytes)
    → IfSome a.now (λ _. LeavesOnly a c (SaysNewLog a.may_leave config))
create_moment a b c config bytes lawful stays short is run =
    under_some a.now a c (λ _. SaysNewLog a.may_leave config)
    (LeavesOnly-then a b c a.may_leave (TornFirst b bytes) (λ x. IfSome a.now (λ _. SaysNewLog a.may_leave config x))
    (LeavesOnly-stays a b a.may_leave lawful stays (λ x left. left)) run
    (λ x left. says a.now a.may_leave config x short (inl left))
    (λ x torn. says a.now a.may_leave config x short
    (⊎_elim (λ left. inl ((stays.images x).0 left))
    (λ new. inr (subst (λ (o : Option (List ℕ)). IfSome o (λ _. TornWrite 0 1 [] x ⊎ (TornWrite 1 (length (record_and_gate config)) (0 ∷ []) x ⊎ TornWrite 0 1 (behind_gate 0 (record_and_gate config) (0 ∷ [])) x))) stays.bytes
    (subst (λ (l : List ℕ). IfSome b.now (λ _. TornWrite 0 1 [] x ⊎ (TornWrite 1 (length l) (0 ∷ []) x ⊎ TornWrite 0 1 (behind_gate 0 l (0 ∷ [])) x))) is new)))
    torn)))

-- ## In the end

pub create_content : (before mid now : Option (List ℕ)) (config bytes : List ℕ) → mid ≡ before → bytes ≡ record_and_gate config → now ≡ option_map (λ _. behind_open_gate 0 bytes (0 ∷ [])) mid → length config < 2 ^ 32
    → option_map content_of now ≡ option_map (λ _. Ok (record { config = config; events = [] })) before
create_content before mid now config bytes same is written short = rw (written, same, is) (made before)
  where
    made : (o : Option (List ℕ)) → option_map content_of (option_map (λ _. behind_open_gate 0 (record_and_gate config) (0 ∷ [])) o) ≡ option_map (λ _. Ok (record { config = config; events = [] })) o
    made None = refl
    made (Some file) = rw (new_bytes (record_and_gate config), new_walk config short) refl

pub create_settled : (o now : Option (List ℕ)) (after : List ℕ → Type 0) (config bytes : List ℕ) → bytes ≡ record_and_gate config → now ≡ option_map (λ _. behind_open_gate 0 bytes (0 ∷ [])) o → length config < 2 ^ 32
    → IfSome now (λ file. Only file after) → IfSome now (IsSettledIn after (record { gate = length config + 5; events = 0 }))
create_settled o now after config bytes is written short = subst (λ now. IfSome now (λ file. Only file after) → IfSome now (IsSettledIn after (record { gate = length config + 5; events = 0 }))) (sym written) (made o)
  where
    made : (o : Option (List ℕ)) → IfSome (option_map (λ _. behind_open_gate 0 bytes (0 ∷ [])) o) (λ file. Only file after) → IfSome (option_map (λ _. behind_open_gate 0 bytes (0 ∷ [])) o) (IsSettledIn after (record { gate = length config + 5; events = 0 }))
    made None only = tt
    made (Some file) only = record { only = only; walk = after_config config; is = ap walk_of (ap (λ (l : List ℕ). behind_open_gate 0 l (0 ∷ [])) is ∙ new_bytes (record_and_gate config)) ∙ new_walk config short; gate = omega arith; events = refl }

-- # What an append leaves, by what its writes leave.

-- what an append is given: a settled log, and a batch that it has room for
pub record IsGiven (disk : DiskFacts) (place : Place) (events : List Event) : Type 0 where
  pub settled : IsSettled disk place
  pub adds : Adds place (batch_text events) events

pub given : (disk : DiskFacts) (place log : Place) (events : List Event) → place ≡ log → IsSettled disk log → AllByRecursion HasEventLine events → 1 ≤ length events → length events ≤ 64 → log.events + length events ≤ JOURNAL_ENTRIES → IsGiven disk place events
given disk place log events is settled lines some few room = record {
  settled = subst (IsSettled disk) (sym is) settled;
  adds = record { short = batch_fits events lines few; batch = batch_of-text events lines some few; few = omega (arith, room, ap (λ (p : Place). p.events) is) };
}

-- every moment
either_at : (o : Option (List ℕ)) (images : List ℕ → Type 0) (place : Place) (payload : List ℕ) (events : List Event) → IfSome o (IsSettledIn images place) → Adds place payload events
    → (c : List ℕ) → AfterTornWrite images (place.gate + 1) (length (record_and_gate payload)) c ⊎ IfSome o (λ file. TornWrite place.gate 1 (behind_gate place.gate (record_and_gate payload) file) c)
    → IfSome o (λ file. SaysAllOrNone (content_of file) events c)
either_at None images place payload events settled adds c torn = tt
either_at (Some file) images place payload events settled adds c torn =
    ⊎_elim (λ before. inl (torn_behind file images place settled (length (record_and_gate payload)) c before)) (λ at. torn_at file images place settled payload events adds c at) torn

pub every_moment : (a b : DiskFacts) (place : Place) (events : List Event) (bytes : List ℕ) → IsGiven a place events → bytes ≡ record_and_gate (batch_text events) → LeavesOnly a b (TornBehindOrAt a place.gate bytes)
    → IfSome a.now (λ file. LeavesOnly a b (SaysAllOrNone (content_of file) events))
every_moment a b place events bytes known is run =
    under_some a.now a b (λ file. SaysAllOrNone (content_of file) events)
    (LeavesOnly-weaker a b (TornBehindOrAt a place.gate bytes) (λ c. IfSome a.now (λ file. SaysAllOrNone (content_of file) events c)) run
    (subst (λ (l : List ℕ). (c : List ℕ) → TornBehindOrAt a place.gate l c → IfSome a.now (λ file. SaysAllOrNone (content_of file) events c)) (sym is) (either_at a.now a.may_leave place (batch_text events) events known.settled known.adds)))

-- in the end
pub then_content : (o now : Option (List ℕ)) (images : List ℕ → Type 0) (place : Place) (payload : List ℕ) (events : List Event) → IfSome o (IsSettledIn images place) → Adds place payload events
    → now ≡ option_map (behind_open_gate place.gate (record_and_gate payload)) o → option_map content_of now ≡ option_map (λ file. content_with (content_of file) events) o
then_content None now images place payload events settled adds is = ap (option_map content_of) is
then_content (Some file) now images place payload events settled adds is = ap (option_map content_of) is ∙ ap Some (content_of-after file images place settled payload events adds)

pub then_settled : (o now : Option (List ℕ)) (images after : List ℕ → Type 0) (place : Place) (payload : List ℕ) (events : List Event) → IfSome o (IsSettledIn images place) → Adds place payload events
    → now ≡ option_map (behind_open_gate place.gate (record_and_gate payload)) o → IfSome now (λ file. Only file after)
    → IfSome now (IsSettledIn after (record { gate = place.gate + length (record_and_gate payload); events = place.events + length events }))
then_settled o None images after place payload events settled adds is only = tt
then_settled None (Some new) images after place payload events settled adds is only = absurd (cc)
then_settled (Some file) (Some new) images after place payload events settled adds is only =
    let same : new ≡ behind_open_gate place.gate (record_and_gate payload) file = cc in
    subst (IsSettledIn after (record { gate = place.gate + length (record_and_gate payload); events = place.events + length events })) (sym same)
    (settled_after file images place settled payload events adds after (subst (λ (f : List ℕ). Only f after) same only))

-- # One batch more.

pub content_with-then : (said : Result Content ℕ) (es fs : List Event) → content_with (content_with said es) fs ≡ content_with said (es ++ fs)
content_with-then (Ok said) es fs = ap (λ (xs : List Event). Ok (record { config = said.config; events = xs })) (append_assoc said.events es fs)
content_with-then (Err number) es fs = refl

one_more : (said : Result Content ℕ) (events : List Event) (at n : ℕ) → content_with (content_with said (take at events)) (take n (drop at events)) ≡ content_with said (take (at + n) events)
one_more said events at n = content_with-then said (take at events) (take n (drop at events)) ∙ ap (content_with said) (sym (take-add at n events))

pub content_more : (o mid now : Option (List ℕ)) (events : List Event) (at n : ℕ) → option_map content_of mid ≡ option_map (λ file. content_with (content_of file) (take at events)) o
    → option_map content_of now ≡ option_map (λ file. content_with (content_of file) (take n (drop at events))) mid
    → option_map content_of now ≡ option_map (λ file. content_with (content_of file) (take (at + n) events)) o
content_more None None now events at n first second = second
content_more (Some file) None now events at n first second = absurd (cc)
content_more None (Some file) now events at n first second = absurd (cc)
content_more (Some file) (Some other) now events at n first second =
    let said : content_of other ≡ content_with (content_of file) (take at events) = cc in
    second ∙ ap Some (ap (λ s. content_with s (take n (drop at events))) said ∙ one_more (content_of file) events at n)

-- one batch is part of all
part_of : (said now : Result Content ℕ) (events : List Event) (at n : ℕ) → at + n ≤ length events → now ≡ content_with said (take at events) → (c : List ℕ)
    → SaysAllOrNone now (take n (drop at events)) c → SaysFirst said events c
part_of said now events at n within is c (inl before) = (at, omega arith, before ∙ is)
part_of said now events at n within is c (inr after) = (at + n, within, after ∙ ap (λ s. content_with s (take n (drop at events))) is ∙ one_more said events at n)

pub run_more : (o mid : Option (List ℕ)) (a b c : DiskFacts) (events : List Event) (at n : ℕ) → at + n ≤ length events
    → option_map content_of mid ≡ option_map (λ file. content_with (content_of file) (take at events)) o
    → IfSome o (λ file. LeavesOnly a b (SaysFirst (content_of file) events)) → IfSome mid (λ file. LeavesOnly b c (SaysAllOrNone (content_of file) (take n (drop at events))))
    → IfSome o (λ file. LeavesOnly a c (SaysFirst (content_of file) events))
run_more None mid a b c events at n within is first second = tt
run_more (Some file) None a b c events at n within is first second = absurd (cc)
run_more (Some file) (Some other) a b c events at n within is first second =
    let said : content_of other ≡ content_with (content_of file) (take at events) = cc in
    LeavesOnly-then a b c (SaysFirst (content_of file) events) (SaysAllOrNone (content_of other) (take n (drop at events))) (SaysFirst (content_of file) events) first second
    (λ x part. part) (part_of (content_of file) (content_of other) events at n within said)
