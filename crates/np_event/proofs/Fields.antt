-- the words and fields of a line: how each kind of field is spelled and read back
use Rattle.np_event.proofs.Prelude.{All, All-weaker, AllPass-from_list_all, BadArgument, Bool, EndAs, Ending, Err, Fields, Fixed, Found, HasText, HasWord, HaveWords, IsFirstUnfit, Kind, LineFault, List, NodeState, None, Ok, OnErr, Option, Phase, ReasonKind, RequestId, RequestState, Result, RoleKind, Row, Some, StartsWith, UnknownEvent, WrongCount, all_ascii_digits, all_ascii_digits-ten, and_from, ap, append-nil, append_assoc, arith, begins_reply, behind, behind-nil, behind_behind, blank, bytes_eq, bytes_eq-Decides, codes, cond_both, decimal, digits_decimal, drop, drop-drop, drop_all, drop_more, end_as_of, end_as_word, end_as_words, ending_of, ending_word, ending_words, eq-eqb, eqb-false, eqb-true, fails_before_first, false, field_text, fields_from, find, fitting, fixed_text, flat_map, flat_map-append, found_of, found_text, get_or, if◌then◌else◌, is_ascii_digit, is_line, is_space, length, length-append, length-map, lettered, list_all, list_all-append, list_all-from_AllPass, map, model, nat_le, nat_tests, node_state_of, node_state_words, none-some, not, number_behind, number_of, number_of-decimal, number_of-spelled, option_map, option_or, phase_of, phase_words, position, position_or_len, refl, request_of, request_of-spelled, request_of-text, request_state_of, request_state_words, request_text_of, row_fields, row_line, sides_of, slice_get, slice_split_at, slice_split_first, slice_split_none, some_injective, subst, suc, sym, take, take-take, take_at, take_more, ten_digits_of, told, told_ending, told_found, true, when_found, when_some, with_field, words_of, zero, ℕ, [], ◌&&◌, ◌++◌, ◌+◌, ◌<◌, ◌==◌, ◌^◌, ◌∙◌, ◌∷◌, ◌≡◌, ◌≢◌, ◌≤◌}

-- # The bytes of words: no space, no newline, no `=`.

-- digits, `-` and small letters are such bytes
abbrev pub is_plain : ℕ → Bool
is_plain b = nat_le 45 b && not (b == 61)

pub all_pass-append : (p : ℕ → Bool) (xs ys : List ℕ) → list_all p xs ≡ true → list_all p ys ≡ true → list_all p (xs ++ ys) ≡ true
all_pass-append p xs ys front back = list_all-append p xs ys ∙ and_from (list_all p xs) (list_all p ys) front back

-- what passes one test passes a weaker one
weaker : (p q : ℕ → Bool) → ((b : ℕ) → p b ≡ true → q b ≡ true) → (xs : List ℕ) → list_all p xs ≡ true → list_all q xs ≡ true
weaker p q more xs all = list_all-from_AllPass q xs (λ k d within. more _ (AllPass-from_list_all p xs all k d within))

plain-digits : (ds : List ℕ) → all_ascii_digits ds ≡ true → list_all is_plain ds ≡ true
plain-digits = weaker is_ascii_digit is_plain (λ c digit. grind (arith, nat_tests))

plain-decimal : (n : ℕ) → n < 2 ^ 64 → list_all is_plain (decimal n) ≡ true
plain-decimal n small = plain-digits (decimal n) (digits_decimal model n small)

plain-ten : (n : ℕ) → list_all is_plain (ten_digits_of n) ≡ true
plain-ten n = plain-digits (ten_digits_of n) (all_ascii_digits-ten n)

plain-request : (id : RequestId) → HasText id → list_all is_plain (request_text_of id) ≡ true
unfolding request_text_of
plain-request id has =
    let most = has.most in
    let back : list_all is_plain (45 ∷ ten_digits_of id.seq) ≡ true = plain-ten id.seq in
    all_pass-append is_plain (decimal id.priority) (45 ∷ ten_digits_of id.seq) (plain-decimal id.priority (omega arith)) back

plain-fixed : (word : Fixed) → list_all is_plain (fixed_text word) ≡ true
plain-fixed (Fixed.Role RoleKind.Launcher) = refl
plain-fixed (Fixed.Reason ReasonKind.NoLabel) = refl
plain-fixed word = refl

plain-end : (e : EndAs) → list_all is_plain (end_as_word e) ≡ true
plain-end EndAs.Used = refl
plain-end e = refl

plain-ending : (e : Ending) → list_all is_plain (ending_word e) ≡ true
plain-ending Ending.Served = refl
plain-ending e = refl

plain-found : (s : Found) → list_all is_plain (found_text s) ≡ true
plain-found (Found.Request RequestState.Requested) = refl
plain-found (Found.Node NodeState.Building) = refl
plain-found (Found.Job Phase.New) = refl
plain-found s = refl

pub plain-field_text : (k : Kind) (f : Fields) → HasWord k f → list_all is_plain (field_text k f) ≡ true
plain-field_text (Kind.Fixed word) f has = plain-fixed word
plain-field_text Kind.Request f has = plain-request f.request has
plain-field_text Kind.End f has = plain-end f.end
plain-field_text Kind.Ending f has = plain-ending f.ending
plain-field_text Kind.Found f has = plain-found f.found
plain-field_text k f has = search (arith, plain-decimal)

-- ## Words apart

pub no_spaces : (xs : List ℕ) → list_all is_plain xs ≡ true → All (λ b. is_space b ≡ false) xs
no_spaces xs plain = All-weaker (λ b. is_plain b ≡ true) (λ b. is_space b ≡ false) (λ b is. grind (arith, nat_tests)) xs (AllPass-from_list_all is_plain xs plain)

-- the words of a row's line are its head and what follows it
pub words_of-spaced : (head : List ℕ) (kinds : List Kind) (f : Fields) → list_all is_plain head ≡ true → HaveWords kinds f
    → words_of (head ++ flat_map (λ k. 32 ∷ field_text k f) kinds) ≡ head ∷ map (λ k. field_text k f) kinds
words_of-spaced head [] f plain has = ap words_of (append-nil head) ∙ slice_split_none is_space head (no_spaces head plain)
words_of-spaced head (k ∷ ks) f plain has =
    slice_split_at is_space head 32 (field_text k f ++ flat_map (λ k. 32 ∷ field_text k f) ks) (no_spaces head plain) refl
    ∙ ap (λ words. head ∷ words) (words_of-spaced (field_text k f) ks f (plain-field_text k f has.0) has.1)

-- ## Bytes of a line

-- a byte of a row's line is no newline and no `=`
abbrev pub is_inside : ℕ → Bool
is_inside b = nat_le 32 b && not (b == 61)

inside-plain : (xs : List ℕ) → list_all is_plain xs ≡ true → list_all is_inside xs ≡ true
inside-plain = weaker is_plain is_inside (λ b plain. grind (arith, nat_tests))

inside-kinds : (kinds : List Kind) (f : Fields) → HaveWords kinds f → list_all is_inside (flat_map (λ k. 32 ∷ field_text k f) kinds) ≡ true
inside-kinds [] f has = refl
inside-kinds (k ∷ ks) f has =
    all_pass-append is_inside (field_text k f) (flat_map (λ k. 32 ∷ field_text k f) ks) (inside-plain (field_text k f) (plain-field_text k f has.0)) (inside-kinds ks f has.1)

pub inside-row_line : (row : Row) (f : Fields) → list_all is_plain row.head ≡ true → HaveWords row.kinds f → list_all is_inside (row_line row f) ≡ true
inside-row_line row f plain has =
    all_pass-append is_inside row.head (flat_map (λ k. 32 ∷ field_text k f) row.kinds) (inside-plain row.head plain) (inside-kinds row.kinds f has)

pub is_line-inside : (xs : List ℕ) → list_all is_inside xs ≡ true → is_line xs ≡ true
is_line-inside = weaker is_inside (λ b. not (b == 10)) (λ b inside. grind (arith, nat_tests))

-- # Lemmas on the rows of forms.

-- if the words run out
pub fields_from-no_word : (place : ℕ) (kinds : List Kind) (at : ℕ) (words : List (List ℕ)) (f : Fields) → at < length kinds → slice_get words 0 ≡ None
    → fields_from place (drop at kinds) words f ≡ Err WrongCount
fields_from-no_word place kinds at words f within none =
    let here = drop_more kinds at Kind.Session within in
    ap (λ rest. fields_from place rest words f) here ∙ rw none refl

pub OnErr-from : {A E : Type 0} (r : Result A E) (P : Type 0) → P → OnErr r P
OnErr-from (Ok x) P holds = tt
OnErr-from (Err e) P holds = holds

-- a list that grew twice still begins with its start
pub StartsWith-grown : (xs pushed out start more last : List ℕ) → StartsWith xs pushed → pushed ≡ out ++ last → out ≡ start ++ more → StartsWith xs start
StartsWith-grown xs pushed out start more last starts grown before =
    let whole : pushed ≡ start ++ (more ++ last) = grown ∙ ap (λ front. front ++ last) before ∙ append_assoc start more last in
    let shorter : length start ≤ length pushed = rw whole (simp length-append (omega arith)) in
    sym (take-take (length start) (length pushed) xs shorter) ∙ ap (take (length start)) (starts ∙ whole) ∙ take_at start (more ++ last) (length start) refl

-- what a row can say, each of its kinds can
pub HasWord-at : (kinds : List Kind) (at : ℕ) (other : Kind) (f : Fields) → HaveWords kinds f → at < length kinds → HasWord (get_or kinds at other) f
HasWord-at [] at other f has within = absurd (omega arith)
HasWord-at (kind ∷ kinds) zero other f has within = has.0
HasWord-at (kind ∷ kinds) (suc at) other f has within = HasWord-at kinds at other f has.1 (omega arith)

-- the text of one more kind
pub texts_more : (kinds : List Kind) (at : ℕ) (other : Kind) (f : Fields) (start out spaced said : List ℕ) → at < length kinds
    → out ≡ start ++ flat_map (λ kind. 32 ∷ field_text kind f) (take at kinds) → spaced ≡ out ++ 32 ∷ [] → said ≡ spaced ++ field_text (get_or kinds at other) f
    → said ≡ start ++ flat_map (λ kind. 32 ∷ field_text kind f) (take (at + 1) kinds)
texts_more kinds at other f start out spaced said within before space says =
    rw (says, space, before, take_more kinds at other within) (simp (flat_map-append, append_assoc, append-nil))

-- # Lemmas on the two sides of an entry's line.

pub sides_of-start : (line : List ℕ) → behind (take 0 line) (sides_of (drop 0 line)) ≡ sides_of line
sides_of-start line = behind-nil (sides_of line)

-- the three steps of a search: another byte, ` = `, the end
pub sides_of-other : (line : List ℕ) (at : ℕ) → at < length line → begins_reply (drop at line) ≡ false
    → behind (take at line) (sides_of (drop at line)) ≡ behind (take (at + 1) line) (sides_of (drop (at + 1) line))
unfolding sides_of
sides_of-other line at within other =
    let here = drop_more line at 0 within in
    let other' : begins_reply (get_or line at 0 ∷ drop (at + 1) line) ≡ false = ap begins_reply (sym here) ∙ other in
    let there = behind_behind (take at line) (get_or line at 0 ∷ []) (sides_of (drop (at + 1) line)) in
    ap (λ bytes. behind (take at line) (sides_of bytes)) here ∙ rw (other', take_more line at 0 within) there

pub sides_of-here : (line : List ℕ) (at : ℕ) → at < length line → begins_reply (drop at line) ≡ true
    → behind (take at line) (sides_of (drop at line)) ≡ Some (take at line, drop 3 (drop at line))
unfolding sides_of
sides_of-here line at within begins =
    let here = drop_more line at 0 within in
    let begins' : begins_reply (get_or line at 0 ∷ drop (at + 1) line) ≡ true = ap begins_reply (sym here) ∙ begins in
    ap (λ bytes. behind (take at line) (sides_of bytes)) here ∙ rw (begins', append-nil) (ap (λ bytes. Some (take at line, drop 3 bytes)) (sym here))

pub sides_of_end : (line : List ℕ) (at : ℕ) → length line ≤ at → behind (take at line) (sides_of (drop at line)) ≡ None
unfolding sides_of
sides_of_end line at ends = rw (drop_all at line ends) refl

pub ruleset siding = (sides_of-start, sides_of-other, sides_of-here, sides_of_end)

-- # Lemmas on the words of a line.

position-Some : (xs : List ℕ) (at : ℕ) → position is_space xs ≡ Some at → (position_or_len is_space xs ≡ at) × (at < length xs)
position-Some xs at found = grind (arith, nat_tests)

position-None : (xs : List ℕ) → position is_space xs ≡ None → length xs ≤ position_or_len is_space xs
position-None xs none = grind (arith, nat_tests)

pub words_of-split : (xs word behind rest : List ℕ) (at : ℕ) → position is_space xs ≡ Some at → word ≡ take at xs → behind ≡ drop at xs → rest ≡ drop 1 behind
    → words_of xs ≡ word ∷ words_of rest
words_of-split xs word behind rest at found is_word is_behind is_rest =
    let place = position-Some xs at found in
    let past : drop (at + 1) xs ≡ rest = sym (drop-drop 1 at xs) ∙ ap (drop 1) (sym is_behind) ∙ sym is_rest in
    slice_split_first is_space xs 0 (omega arith) ∙ ap (λ n. take n xs ∷ words_of (drop (n + 1) xs)) place.0 ∙ cc

pub words_of-last : (xs : List ℕ) → position is_space xs ≡ None → words_of xs ≡ xs ∷ []
words_of-last xs none = slice_split_none is_space xs (λ k d within. fails_before_first is_space xs k d (omega (arith, position-None xs none)))

-- # What a word says, and how it is said: each kind both ways.

-- ## The field of a kind

-- g with the field of this kind from f
abbrev pub copy : Kind → Fields → Fields → Fields
copy (Kind.Fixed word) f g = g
copy Kind.Session f g = record g { session = f.session }
copy Kind.Request f g = record g { request = f.request }
copy Kind.Node f g = record g { node = f.node }
copy Kind.Job f g = record g { job = f.job }
copy Kind.Label f g = record g { label = f.label }
copy Kind.Pool f g = record g { pool = f.pool }
copy Kind.Requester f g = record g { requester = f.requester }
copy Kind.Semaphore f g = record g { semaphore = f.semaphore }
copy Kind.Attempt f g = record g { attempt = f.attempt }
copy Kind.Number f g = record g { number = f.number }
copy Kind.Relative f g = record g { relative = f.relative }
copy Kind.Server f g = record g { server = f.server }
copy Kind.Instances f g = record g { instances = f.instances }
copy Kind.Cores f g = record g { cores = f.cores }
copy Kind.Ram f g = record g { ram = f.ram }
copy Kind.End f g = record g { end = f.end }
copy Kind.Ending f g = record g { ending = f.ending }
copy Kind.Found f g = record g { found = f.found }

-- what a kind says goes by its own field alone
pub by_own_field : (k : Kind) (f g : Fields) → copy k g blank ≡ copy k f blank → (field_text k g ≡ field_text k f) × (HasWord k f → HasWord k g)
by_own_field (Kind.Fixed word) f g same = (refl, λ has. has)
by_own_field k f g same = (ap (field_text k) same, λ has. subst (HasWord k) (sym same) has)

-- ## Reading a word

-- what is known of the fields after a word of this kind was read
pub record Said (k : Kind) (text : List ℕ) (f g : Fields) : Type 0 where
  pub says : field_text k g ≡ text
  pub word : HasWord k g
  pub rest : g ≡ copy k g f

said : {A : Type 0} (k : Kind) (text : List ℕ) (f : Fields) (set : A → Fields) (o : Option A) (g : Fields)
    → option_map set o ≡ Some g → ((x : A) → o ≡ Some x → Said k text f (set x)) → Said k text f g
said k text f set None g answer at = absurd (cc)
said k text f set (Some x) g answer at = subst (λ h. Said k text f h) (some_injective (set x) g answer) (at x refl)

-- a number, and a number after a letter
said-number : (k : Kind) (max : ℕ) (text : List ℕ) (f : Fields) (set : ℕ → Fields) (g : Fields) → option_map set (number_of max text) ≡ Some g → max < 2 ^ 64
    → ((n : ℕ) → n ≤ max → Said k (decimal n) f (set n)) → Said k text f g
said-number k max text f set g answer small made = said k text f set (number_of max text) g answer (λ n found.
    let spelled = number_of-spelled max n text small found in subst (λ t. Said k t f (set n)) spelled.1 (made n spelled.0))

said-lettered : (k : Kind) (letter max : ℕ) (text : List ℕ) (f : Fields) (set : ℕ → Fields) (g : Fields) → option_map set (number_behind letter max text) ≡ Some g → max < 2 ^ 64
    → ((n : ℕ) → n ≤ max → Said k (lettered letter n) f (set n)) → Said k text f g
said-lettered k letter max [] f set g answer small made = absurd (cc)
said-lettered k letter max (c ∷ cs) f set g answer small made = said k (c ∷ cs) f set (number_behind letter max (c ∷ cs)) g answer (λ n found.
    let told = when_found (c == letter) (number_of max cs) n found in
    let spelled = number_of-spelled max n cs small told.1 in
    let same : lettered letter n ≡ c ∷ cs = cc (eqb-true c letter told.0, spelled.1) in
    subst (λ t. Said k t f (set n)) same (made n spelled.0))

pub find-passes : {A : Type 0} (p : A → Bool) (xs : List A) (x : A) → find p xs ≡ Some x → p x ≡ true
find-passes p [] x answer = absurd (cc)
find-passes p (y ∷ ys) x answer = cond_both (p y) (Some y) (find p ys) (λ o. o ≡ Some x → p x ≡ true)
    (λ passes is. subst (λ z. p z ≡ true) (some_injective y x is) passes) (λ fails. find-passes p ys x) answer

pub same_bytes : (xs ys : List ℕ) → bytes_eq xs ys ≡ true → xs ≡ ys
same_bytes xs ys same = (bytes_eq-Decides xs ys).0 same

pub bytes_eq-refl : (xs : List ℕ) → bytes_eq xs xs ≡ true
bytes_eq-refl xs = (bytes_eq-Decides xs xs).1 refl

-- an ending that a reply reports is no withdrawn job's
told_ending-told : (o : Option Ending) (e : Ending) → told_ending o ≡ Some e → (o ≡ Some e) × (e ≢ Ending.Withdrawn)
told_ending-told None e answer = absurd (cc)
told_ending-told (Some Ending.Withdrawn) e answer = absurd (cc)
told_ending-told o e answer = (answer, λ withdrawn. cc)

told_ending-other : (e : Ending) → e ≢ Ending.Withdrawn → told_ending (Some e) ≡ Some e
told_ending-other Ending.Withdrawn other = absurd (other refl)
told_ending-other e other = refl

-- the state that a word is read as has this word
found_of-told : (text : List ℕ) (s : Found) → found_of text ≡ Some s → found_text s ≡ text
unfolding found_of
found_of-told text s = by (request_state_of text) (bytes_eq text (codes "in-flight")) (node_state_of text) (phase_of text) refl refl refl refl
  where
    says : (t : Found) → found_text t ≡ text → Some t ≡ Some s → found_text s ≡ text
    says t is answer = subst (λ x. found_text x ≡ text) (some_injective t s answer) is

    by : (r : Option RequestState) (b : Bool) (n : Option NodeState) (p : Option Phase) → request_state_of text ≡ r → bytes_eq text (codes "in-flight") ≡ b → node_state_of text ≡ n → phase_of text ≡ p
        → option_or (option_or (option_or (option_map Found.Request r) (if b then Some Found.InFlight else None)) (option_map Found.Node n)) (option_map Found.Job p) ≡ Some s → found_text s ≡ text
    by (Some r) b n p at_r at_b at_n at_p = says (Found.Request r) (request_state_words.spelled r text at_r)
    by None true n p at_r at_b at_n at_p = says Found.InFlight (sym (same_bytes text (codes "in-flight") at_b))
    by None false (Some n) p at_r at_b at_n at_p = says (Found.Node n) (node_state_words.spelled n text at_n)
    by None false None (Some p) at_r at_b at_n at_p = says (Found.Job p) (phase_words.spelled p text at_p)
    by None false None None at_r at_b at_n at_p = λ answer. absurd (cc)

pub with_field-told : (k : Kind) (text : List ℕ) (f g : Fields) → with_field k text f ≡ Some g → Said k text f g
with_field-told (Kind.Fixed word) text f g answer =
    let told = when_some (bytes_eq text (fixed_text word)) f g answer in
    record { says = sym (same_bytes text (fixed_text word) told.0); word = tt; rest = sym told.1 }
with_field-told Kind.Request text f g answer = said Kind.Request text f _ (request_of text) g answer (λ id found.
    let told = request_of-spelled id text found in record { says = told.1; word = told.0; rest = refl })
with_field-told Kind.End text f g answer = said Kind.End text f _ (end_as_of text) g answer (λ e found.
    record { says = end_as_words.spelled e text found; word = tt; rest = refl })
with_field-told Kind.Ending text f g answer = said Kind.Ending text f _ (told_ending (ending_of text)) g answer (λ e found.
    let told = told_ending-told (ending_of text) e found in record { says = ending_words.spelled e text told.0; word = told.1; rest = refl })
with_field-told Kind.Found text f g answer = said Kind.Found text f _ (found_of text) g answer (λ s found.
    record { says = found_of-told text s found; word = tt; rest = refl })
with_field-told Kind.Attempt text f g answer = said-number Kind.Attempt _ text f _ g answer (omega arith) (λ n most. record { says = refl; word = omega arith; rest = refl })
with_field-told Kind.Number text f g answer = said-number Kind.Number _ text f _ g answer (omega arith) (λ n most. record { says = refl; word = omega arith; rest = refl })
with_field-told Kind.Relative text f g answer = said-number Kind.Relative _ text f _ g answer (omega arith) (λ n most. record { says = refl; word = omega arith; rest = refl })
with_field-told Kind.Server text f g answer = said-number Kind.Server _ text f _ g answer (omega arith) (λ n most. record { says = refl; word = omega arith; rest = refl })
with_field-told Kind.Instances text f g answer = said-number Kind.Instances _ text f _ g answer (omega arith) (λ n most. record { says = refl; word = omega arith; rest = refl })
with_field-told Kind.Cores text f g answer = said-number Kind.Cores _ text f _ g answer (omega arith) (λ n most. record { says = refl; word = omega arith; rest = refl })
with_field-told Kind.Ram text f g answer = said-number Kind.Ram _ text f _ g answer (omega arith) (λ n most. record { says = refl; word = omega arith; rest = refl })
with_field-told k text f g answer = said-lettered k _ _ text f _ g answer (omega arith) (λ n most. record { says = refl; word = omega arith; rest = refl })

-- ## Saying a word

-- the fields that a line says
abbrev pub told_fields : Fields → Fields
told_fields f = record f { found = told_found f.found }

found_of-text : (s : Found) → found_of (found_text s) ≡ Some (told_found s)
unfolding found_of
found_of-text (Found.Request RequestState.Requested) = refl
found_of-text (Found.Node NodeState.Building) = refl
found_of-text (Found.Job Phase.New) = refl
found_of-text s = refl

pub with_field-text : (k : Kind) (f g : Fields) → HasWord k f → with_field k (field_text k f) g ≡ Some (copy k (told_fields f) g)
with_field-text (Kind.Fixed word) f g has = rw (bytes_eq-refl (fixed_text word)) refl
with_field-text Kind.Request f g has = ap (option_map (λ id. record g { request = id })) (request_of-text f.request has)
with_field-text Kind.End f g has = ap (option_map (λ e. record g { end = e })) (end_as_words.reads_back f.end)
with_field-text Kind.Ending f g has = ap (λ o. option_map (λ e. record g { ending = e }) (told_ending o)) (ending_words.reads_back f.ending) ∙ ap (option_map (λ e. record g { ending = e })) (told_ending-other f.ending has)
with_field-text Kind.Found f g has = ap (option_map (λ s. record g { found = s })) (found_of-text f.found)
with_field-text k f g has = search (arith, number_of-decimal)

-- ## A word fits if some value has it

pub with_field-unsaid : (k : Kind) (text : List ℕ) (f : Fields) → with_field k text f ≡ None → (g : Fields) → HasWord k g → field_text k g ≡ text → ⊥
with_field-unsaid k text f none g has says =
    let some : with_field k text f ≡ Some (copy k (told_fields g) f) = ap (λ bytes. with_field k bytes f) (sym says) ∙ with_field-text k g f has in
    none-some (copy k (told_fields g) f) (sym none ∙ some)

pub with_field-said : (k : Kind) (text : List ℕ) (f : Fields) → ((g : Fields) → HasWord k g → field_text k g ≡ text → ⊥) → with_field k text f ≡ None
with_field-said k text f unsaid = cases (with_field k text f) refl
  where
    cases : (o : Option Fields) → with_field k text f ≡ o → o ≡ None
    cases None is = refl
    cases (Some g) is = let told = with_field-told k text f g is in absurd (unsaid g told.word told.says)

-- # Fields and words, both ways.

-- what this kind says stays while these are read
abbrev pub IsAbsent : Kind → List Kind → Type 0
IsAbsent j [] = Unit {0}
IsAbsent j (k ∷ ks) = ((f g : Fields) → copy j (copy k f g) blank ≡ copy j g blank) × IsAbsent j ks

-- each kind at most once
abbrev pub AreApart : List Kind → Type 0
AreApart [] = Unit {0}
AreApart (k ∷ ks) = IsAbsent k ks × AreApart ks

-- ## From words to fields

-- what is known of fields that were read
pub record Told (kinds : List Kind) (words : List (List ℕ)) (f g : Fields) : Type 0 where
  pub says : AreApart kinds → (map (λ k. field_text k g) kinds ≡ words) × HaveWords kinds g
  pub kept : (j : Kind) → IsAbsent j kinds → copy j g blank ≡ copy j f blank

-- what is known of an answer: of its fields, or which fault the words have
abbrev pub Answers : ℕ → List Kind → List (List ℕ) → Fields → Result Fields LineFault → Type 0
Answers place kinds words f (Ok g) = Told kinds words f g
Answers place kinds words f (Err (BadArgument n)) = (length words ≡ length kinds) × ((k : ℕ) × (n ≡ k + place) × IsFirstUnfit kinds words k)
Answers place kinds words f (Err WrongCount) = length words ≢ length kinds
Answers place kinds words f (Err UnknownEvent) = ⊥

fields_from-answers : (place : ℕ) (kinds : List Kind) (words : List (List ℕ)) (f : Fields) → length words ≡ length kinds → Answers place kinds words f (fields_from place kinds words f)
fields_from-answers place [] [] f same = record { says = λ apart. (refl, tt); kept = λ j absent. refl }
fields_from-answers place (k ∷ ks) (w ∷ ws) f same = at_word (with_field k w f) refl (λ g. fields_from-answers (place + 1) ks ws g (omega arith))
  where
    more : (g : Fields) → Said k w f g → (r : Result Fields LineFault) → Answers (place + 1) ks ws g r → Answers place (k ∷ ks) (w ∷ ws) f r
    more g first (Ok h) told = record {
      says = λ apart.
          let own = by_own_field k g h (told.kept k apart.0) in
          let later = told.says apart.1 in
          (ap (λ text. text ∷ map (λ j. field_text j h) ks) (own.0 ∙ first.says) ∙ ap (λ texts. w ∷ texts) later.0, (own.1 first.word, later.1));
      kept = λ j absent. told.kept j absent.1 ∙ ap (λ x. copy j x blank) first.rest ∙ absent.0 g f;
    }
    more g first (Err (BadArgument n)) told = (same, (suc told.1.0, omega (arith, told.1.1), ((g, first.word, first.says), told.1.2)))
    more g first (Err WrongCount) other = λ is. other (omega arith)
    more g first (Err UnknownEvent) none = none

    at_word : (o : Option Fields) → with_field k w f ≡ o → ((g : Fields) → Answers (place + 1) ks ws g (fields_from (place + 1) ks ws g))
        → Answers place (k ∷ ks) (w ∷ ws) f (fitting (λ g. fields_from (place + 1) ks ws g) place (Some o))
    at_word None is later = (same, (zero, omega arith, λ says. with_field-unsaid k w f is says.0 says.1 says.2))
    at_word (Some g) is later = more g (with_field-told k w f g is) (fields_from (place + 1) ks ws g) (later g)
fields_from-answers place kinds words f same = absurd (omega arith)

-- with the count
pub row_fields-answers : (kinds : List Kind) (rest : List (List ℕ)) (answer : Result Fields LineFault) → row_fields kinds rest ≡ answer → Answers 2 kinds rest blank answer
row_fields-answers kinds rest answer is = subst (Answers 2 kinds rest blank) is
    (cond_both (length rest == length kinds) (fields_from 2 kinds rest blank) (Err WrongCount) (Answers 2 kinds rest blank)
    (λ same. fields_from-answers 2 kinds rest blank (eqb-true (length rest) (length kinds) same)) (eqb-false (length rest) (length kinds)))

-- ## From fields to words

-- g with the fields of these kinds from f
abbrev pub overlay : List Kind → Fields → Fields → Fields
overlay [] f g = g
overlay (k ∷ ks) f g = overlay ks f (copy k f g)

fields_from-texts : (place : ℕ) (kinds : List Kind) (f g : Fields) → HaveWords kinds f
    → fields_from place kinds (map (λ k. field_text k f) kinds) g ≡ Ok (overlay kinds (told_fields f) g)
fields_from-texts place [] f g has = refl
fields_from-texts place (k ∷ ks) f g has =
    ap (λ o. fitting (λ more. fields_from (place + 1) ks (map (λ j. field_text j f) ks) more) place (Some o)) (with_field-text k f g has.0)
    ∙ fields_from-texts (place + 1) ks f (copy k (told_fields f) g) has.1

pub row_fields-texts : (kinds : List Kind) (f : Fields) → HaveWords kinds f → row_fields kinds (map (λ k. field_text k f) kinds) ≡ Ok (overlay kinds (told_fields f) blank)
row_fields-texts kinds f has = rw (eq-eqb (length (map (λ k. field_text k f) kinds)) (length kinds) (length-map kinds (λ k. field_text k f))) (fields_from-texts 2 kinds f blank has)

-- ## Forms

-- what is known of a form: its row, the line of its fields, and what it takes that they have one
pub record IsForm (row : Row) (line : Fields → List ℕ) (Has : Fields → Type 0) : Type 0 where
  pub apart : AreApart row.kinds
  pub plain : list_all is_plain row.head ≡ true
  pub says : (f : Fields) → line f ≡ row_line row f
  pub has : (f : Fields) → HaveWords row.kinds f → Has f

pub form-told : (row : Row) (line : Fields → List ℕ) (Has : Fields → Type 0) (rest : List (List ℕ)) (f : Fields) → IsForm row line Has → row_fields row.kinds rest ≡ Ok f
    → Has f × (words_of (line f) ≡ row.head ∷ rest)
form-told row line Has rest f form answer =
    let told = (row_fields-answers row.kinds rest (Ok f) answer).says form.apart in
    (form.has f told.1, ap words_of (form.says f) ∙ words_of-spaced row.head row.kinds f form.plain told.1 ∙ ap (λ texts. row.head ∷ texts) told.0)
