-- how clap walks over the words of the command line, and what it makes of them
use Rattle.np_replay.proofs.Prelude.{App, ArgMatches, AsWritten, Bool, Command, CommandLine, Error, HasKind, HasMatchesOf, Held, Kinds, List, None, Option, OutOfMemory, Row, Shape, Some, Step, Text, UnknownArgument, Walk, after_step, ap, append-nil, application, ap₂, arith, bare_command, built, by_bool, bytes_eq, chars, check_fault, clap_on_literals, codes, command, command_found, command_given, command_pair, defaults_fault, digits_within, entered, entered_fault, eqb-true, false, fault_of, finished, first_of, first_value-rows, fold, found_of, idle, is_simple, is_simple_and_free, is_some, kind_of, length, matches_of, nat_eq, nothing_held, number_of, or_else, refl, rows_of, settle_fault, settled, step_fault, subst, sym, true, turn_fault, value, walk_fault, walked, without_dashes, word_fault, word_met, ℕ, [], ◌++◌, ◌+◌, ◌==◌, ◌∙◌, ◌∷◌, ◌≡◌, ◌≤◌}

-- # How `clap` walks over the words of the command line: one word at a time.

-- the application, with what `clap` adds to it
abbrev pub shape : Shape
shape = (built application).top

-- what is held after these values
abbrev pub held : List Text → Held
held [] = nothing_held
held (w ∷ []) = record { rows = []; pending = Some (codes "command", w ∷ []); skip = 0 }
held (w ∷ v ∷ vs) = record {
  rows = record { id = codes "command"; values = w ∷ []; count = None; source = Some CommandLine; reading = AsWritten } ∷ [];
  pending = Some (codes "argument", v ∷ []);
  skip = 0;
}

-- where the walk stands after these values, past the two dashes or not
abbrev pub at : Bool → List Text → Walk
at trailing vs = record { held = held vs; waiting = idle; position = length vs + 1; is_trailing = trailing; stopped = None }

-- the walk after one more word
abbrev pub step : Walk → Text → Walk
step = walked shape.rules []

-- the kinds of error that a word gives
abbrev pub fault : Walk → Text → Kinds
fault = turn_fault shape []

-- ---- what a word is

-- what is held while no flag of a bundle is to be passed over
abbrev holds : List Row → Option (Text × List Text) → Held
holds rows pending = record { rows = rows; pending = pending; skip = 0 }

-- the word is a value
abbrev pub IsValue : Bool → Text → Type 0
IsValue trailing w = (position : ℕ) (rows : List Row) (pending : Option (Text × List Text)) →
    (word_met shape.rules [] trailing idle position w (holds rows pending) ≡ (holds rows pending, value))
    × (word_fault shape [] trailing idle w (holds rows pending) ≡ [])

-- the word is a flag, and there is none
abbrev pub IsFlag : Text → Type 0
IsFlag w = (rows : List Row) (pending : Option (Text × List Text)) → word_fault shape [] false idle w (holds rows pending) ≡ UnknownArgument ∷ []

-- past the two dashes each word is a value
pub is_value-trailing : (w : Text) → IsValue true w
is_value-trailing w position rows pending = (refl, refl)

-- the two dashes
abbrev pub is_dashes : Text → Bool
is_dashes w = bytes_eq w (codes "--")

-- a word before the two dashes
pub data Word (w : Text) : Type 0 where
  dashes : w ≡ codes "--" → Word w
  a_value : is_dashes w ≡ false → IsValue false w → Word w
  flag : is_dashes w ≡ false → (rest : Text) → w ≡ 45 ∷ rest → IsFlag w → Word w

-- the word's first byte decides, and after a dash its second
plain : (x : ℕ) (xs : Text) → (x == 45) ≡ false → Word (x ∷ xs)
plain x xs e =
    let n : nat_eq x 45 ≡ false = e in
    a_value (rw n refl) (λ position rows pending. (rw (n, e) refl, rw (n, e) refl))

short : (y : ℕ) (ys : Text) → (y == 45) ≡ false → (cs : List ℕ) → chars (y ∷ ys) ≡ cs → Word (45 ∷ y ∷ ys)
unfolding clap_on_literals
short y ys e [] none =
    let n : nat_eq y 45 ≡ false = e in
    a_value (rw n refl) (λ position rows pending. (rw (n, e, none) refl, rw (n, e, none) refl))
short y ys e (c ∷ cs) some =
    let n : nat_eq y 45 ≡ false = e in
    flag (rw n refl) (y ∷ ys) refl (λ rows pending. rw (n, e, some) refl)

long : (zs : Text) → Word (45 ∷ 45 ∷ zs)
long [] = dashes refl
long (z ∷ zs) = flag refl (45 ∷ z ∷ zs) refl (λ rows pending. refl)

dash : (xs : Text) → Word (45 ∷ xs)
dash [] = a_value refl (λ position rows pending. (refl, refl))
dash (y ∷ ys) = by_bool (λ _. Word (45 ∷ y ∷ ys)) (y == 45) (λ e. subst (λ x. Word (45 ∷ x ∷ ys)) (sym (eqb-true y 45 e)) (long ys)) (λ e. short y ys e (chars (y ∷ ys)) refl)

pub word : (w : Text) → Word w
word [] = a_value refl (λ position rows pending. (refl, refl))
word (x ∷ xs) = by_bool (λ _. Word (x ∷ xs)) (x == 45) (λ e. subst (λ y. Word (y ∷ xs)) (sym (eqb-true x 45 e)) (dash xs)) (plain x xs)

-- ---- what the walk makes of a word

pub step-dashes : (vs : List Text) → step (at false vs) (codes "--") ≡ at true vs
unfolding clap_on_literals
step-dashes vs = refl

pub fault-dashes : (vs : List Text) → fault (at false vs) (codes "--") ≡ []
unfolding clap_on_literals
fault-dashes vs = refl

-- the first value is the command's, the second the argument's
pub step-first : (trailing : Bool) (w : Text) → IsValue trailing w → step (at trailing []) w ≡ at trailing (w ∷ [])
unfolding clap_on_literals
step-first true w is = refl
step-first false w is = ap (λ (p : Held × Step). after_step shape.rules w (at false []) p.0 p.1) (is 1 _ _).0

pub step-second : (trailing : Bool) (w v : Text) → IsValue trailing v → step (at trailing (w ∷ [])) v ≡ at trailing (w ∷ v ∷ [])
unfolding clap_on_literals
step-second true w v is = refl
step-second false w v is = ap (λ (p : Held × Step). after_step shape.rules v (at false (w ∷ [])) p.0 p.1) (is 2 _ _).0

pub fault-first : (trailing : Bool) (w : Text) → IsValue trailing w → fault (at trailing []) w ≡ []
unfolding clap_on_literals
fault-first true w is = refl
fault-first false w is = ap₂ (λ (f : Kinds) (p : Held × Step). or_else f (step_fault shape 1 p.0 p.1)) (is 1 _ _).1 (is 1 _ _).0

pub fault-second : (trailing : Bool) (w v : Text) → IsValue trailing v → fault (at trailing (w ∷ [])) v ≡ []
unfolding clap_on_literals
fault-second true w v is = refl
fault-second false w v is = ap₂ (λ (f : Kinds) (p : Held × Step). or_else f (step_fault shape 2 p.0 p.1)) (is 2 _ _).1 (is 2 _ _).0

-- a third value has no place
pub fault-third : (trailing : Bool) (w v u : Text) → IsValue trailing u → fault (at trailing (w ∷ v ∷ [])) u ≡ UnknownArgument ∷ []
unfolding clap_on_literals
fault-third true w v u is = refl
fault-third false w v u is = ap₂ (λ (f : Kinds) (p : Held × Step). or_else f (step_fault shape 3 p.0 p.1)) (is 3 _ _).1 (is 3 _ _).0

-- a flag is refused wherever it stands
pub fault-flag : (vs : List Text) (w : Text) → IsFlag w → fault (at false vs) w ≡ UnknownArgument ∷ []
unfolding clap_on_literals
fault-flag [] w is = rw (is _ _) refl
fault-flag (v ∷ []) w is = rw (is _ _) refl
fault-flag (v ∷ u ∷ vs) w is = rw (is _ _) refl

-- # What `clap` makes of the words is what the definition by cases says.

-- the words that are left for the definition by cases
abbrev left : Bool → List Text → List Text
left true ws = ws
left false ws = without_dashes ws

abbrev faults : Walk → List Text → Kinds
faults = walk_fault shape []

-- where a walk from these values over more words ends
data Ends (trailing : Bool) (vs ws : List Text) : Type 0 where
  reaches : (last : Bool) (us : List Text) → length us ≤ 2 → fold step (at trailing vs) ws ≡ at last us → faults (at trailing vs) ws ≡ []
      → us ≡ vs ++ left trailing ws → Ends trailing vs ws
  fails : (faults (at trailing vs) ws ≡ [] → ⊥) → bare_command (vs ++ left trailing ws) ≡ None → Ends trailing vs ws

-- ---- one more word

faults-step : (w : Walk) (x : Text) (xs : List Text) (after : Walk) → step w x ≡ after → fault w x ≡ [] → faults w (x ∷ xs) ≡ faults after xs
unfolding clap_on_literals
faults-step w x xs after is none = ap₂ (λ (f : Kinds) (v : Walk). or_else f (walk_fault shape [] v xs)) none is

faults-stop : (w : Walk) (x : Text) (xs : List Text) → fault w x ≡ UnknownArgument ∷ [] → faults w (x ∷ xs) ≡ [] → ⊥
unfolding clap_on_literals
faults-stop w x xs is none = let bad = rw is at none in cc

next : (t u : Bool) (vs us : List Text) (w : Text) (ws : List Text) → step (at t vs) w ≡ at u us → fault (at t vs) w ≡ []
    → vs ++ left t (w ∷ ws) ≡ us ++ left u ws → Ends u us ws → Ends t vs (w ∷ ws)
next t u vs us w ws is none same (reaches last xs few walk no_fault all) =
    reaches last xs few (ap (λ (v : Walk). fold step v ws) is ∙ walk) (faults-step (at t vs) w ws (at u us) is none ∙ no_fault) (all ∙ sym same)
next t u vs us w ws is none same (fails bad nothing) =
    fails (λ e. bad (sym (faults-step (at t vs) w ws (at u us) is none) ∙ e)) (ap bare_command same ∙ nothing)

stop : (t : Bool) (vs : List Text) (w : Text) (ws : List Text) → fault (at t vs) w ≡ UnknownArgument ∷ [] → bare_command (vs ++ left t (w ∷ ws)) ≡ None → Ends t vs (w ∷ ws)
stop t vs w ws is nothing = fails (faults-stop (at t vs) w ws is) nothing

-- ---- a word that begins with a dash is no part of a command

number_of-dash : (rest : Text) → number_of 4000 (45 ∷ rest) ≡ None
unfolding number_of digits_within
number_of-dash [] = refl
number_of-dash (d ∷ ds) = refl

command_pair-dash : (x rest : Text) → command_pair x (45 ∷ rest) ≡ None
command_pair-dash x rest = rw (number_of-dash rest) (grind arith)

bare_command-first_dash : (rest : Text) (ws : List Text) → bare_command ((45 ∷ rest) ∷ ws) ≡ None
bare_command-first_dash rest [] = refl
bare_command-first_dash rest (v ∷ []) = refl
bare_command-first_dash rest (v ∷ u ∷ ws) = refl

bare_command-second_dash : (x rest : Text) (ws : List Text) → bare_command (x ∷ (45 ∷ rest) ∷ ws) ≡ None
bare_command-second_dash x rest [] = command_pair-dash x rest
bare_command-second_dash x rest (v ∷ ws) = refl

without_dashes-kept : (w : Text) (ws : List Text) → is_dashes w ≡ false → left false (w ∷ ws) ≡ w ∷ left false ws
without_dashes-kept w ws e = rw e refl

-- where the values end in a word that is left
bare_command-kept : (vs : List Text) (w : Text) (ws : List Text) → is_dashes w ≡ false → bare_command (vs ++ w ∷ left false ws) ≡ None → bare_command (vs ++ left false (w ∷ ws)) ≡ None
bare_command-kept vs w ws e nothing = ap (λ (xs : List Text). bare_command (vs ++ xs)) (without_dashes-kept w ws e) ∙ nothing

-- ---- all words

values_end : (t : Bool) (vs : List Text) (w : Text) (ws : List Text) → length vs ≤ 2 → IsValue t w → left t (w ∷ ws) ≡ w ∷ left t ws
    → ((us : List Text) → length us ≤ 2 → Ends t us ws) → Ends t vs (w ∷ ws)
values_end t [] w ws few is same rest = next t t [] (w ∷ []) w ws (step-first t w is) (fault-first t w is) same (rest (w ∷ []) (omega arith))
values_end t (x ∷ []) w ws few is same rest =
    next t t (x ∷ []) (x ∷ w ∷ []) w ws (step-second t x w is) (fault-second t x w is) (ap (λ (xs : List Text). x ∷ xs) same) (rest (x ∷ w ∷ []) (omega arith))
values_end t (x ∷ y ∷ []) w ws few is same rest = stop t (x ∷ y ∷ []) w ws (fault-third t x y w is) (ap (λ (xs : List Text). bare_command (x ∷ y ∷ xs)) same)
values_end t (x ∷ y ∷ z ∷ vs) w ws few is same rest = absurd (omega arith)

bare_command-flag : (vs : List Text) (w : Text) (ws : List Text) → length vs ≤ 2 → is_dashes w ≡ false → (rest : Text) → w ≡ 45 ∷ rest → bare_command (vs ++ w ∷ left false ws) ≡ None
bare_command-flag [] w ws few e rest is = rw is (bare_command-first_dash rest (left false ws))
bare_command-flag (x ∷ []) w ws few e rest is = rw is (bare_command-second_dash x rest (left false ws))
bare_command-flag (x ∷ y ∷ []) w ws few e rest is = refl
bare_command-flag (x ∷ y ∷ z ∷ vs) w ws few e rest is = absurd (omega arith)

word_ends : (vs : List Text) (w : Text) (ws : List Text) → length vs ≤ 2 → Word w → ((t : Bool) (us : List Text) → length us ≤ 2 → Ends t us ws) → Ends false vs (w ∷ ws)
word_ends vs w ws few (dashes is) rest =
    rw is (next false true vs vs (codes "--") ws (step-dashes vs) (fault-dashes vs) refl (rest true vs few))
word_ends vs w ws few (a_value e is) rest = values_end false vs w ws few is (without_dashes-kept w ws e) (rest false)
word_ends vs w ws few (flag e tail begins is) rest =
    stop false vs w ws (fault-flag vs w is) (bare_command-kept vs w ws e (bare_command-flag vs w ws few e tail begins))

ends : (ws : List Text) (t : Bool) (vs : List Text) → length vs ≤ 2 → Ends t vs ws
unfolding clap_on_literals
ends [] true vs few = reaches true vs few refl refl (sym (append-nil vs))
ends [] false vs few = reaches false vs few refl refl (sym (append-nil vs))
ends (w ∷ ws) true vs few = values_end true vs w ws few (is_value-trailing w) refl (ends ws true)
ends (w ∷ ws) false vs few = word_ends vs w ws few (word w) (ends ws)

-- ---- what `clap` answers

-- the kinds of the whole parse, by where the walk ends and the kinds that it met
abbrev whole : Walk → Kinds → Kinds
whole w found =
    or_else found (or_else (entered_fault (built application) w.stopped) (or_else (settle_fault shape.rules shape.args_override_self w.held)
    (or_else (defaults_fault (settled shape.rules w.held).rows shape.rules) (check_fault shape (finished shape.rules w.held) (is_some (entered (built application) w.stopped))))))

abbrev walk_of : List Text → Walk
walk_of = fold step (at false [])

fault_of-whole : (words : List Text) → fault_of application words ≡ whole (walk_of words) (faults (at false []) words)
unfolding clap_on_literals
fault_of-whole words = refl

first_kinds : (a b : Kinds) → or_else a b ≡ [] → a ≡ []
first_kinds a b e = grind arith

abbrev given : List Row → Option Command
given rows = command_given (first_of (codes "command") rows) (first_of (codes "argument") rows)

given-matches : (words : List Text) → given (matches_of application words) ≡ given (finished shape.rules (walk_of words).held)
unfolding clap_on_literals
given-matches words = refl

-- what is made of the values at the end
at-end : (t : Bool) (us : List Text) → length us ≤ 2 → (whole (at t us) [] ≡ []) × (given (finished shape.rules (at t us).held) ≡ bare_command us)
unfolding clap_on_literals
at-end t [] few = (refl, refl)
at-end t (x ∷ []) few = (refl, refl)
at-end t (x ∷ y ∷ []) few = (refl, refl)
at-end t (x ∷ y ∷ z ∷ us) few = absurd (omega arith)

taken : (words : List Text) → fault_of application words ≡ [] → given (matches_of application words) ≡ command words
taken words none = elim (ends words false [] (omega arith)) [
  | reaches last us few walk no_fault all ↦
      given-matches words ∙ ap (λ (w : Walk). given (finished shape.rules w.held)) walk ∙ (at-end last us few).1 ∙ ap bare_command all
  | fails bad nothing ↦ (let met : whole (walk_of words) (faults (at false []) words) ≡ [] = sym (fault_of-whole words) ∙ none in absurd (bad (first_kinds (faults (at false []) words) _ met)))
]

refused : (words : List Text) → (fault_of application words ≡ [] → ⊥) → None ≡ command words
refused words some = elim (ends words false [] (omega arith)) [
  | reaches last us few walk no_fault all ↦ absurd (some (fault_of-whole words ∙ ap₂ whole walk no_fault ∙ (at-end last us few).0))
  | fails bad nothing ↦ sym nothing
]

is_simple_and_free-application : is_simple_and_free application ≡ true
unfolding clap_on_literals
is_simple_and_free-application = refl

is_simple-application : is_simple application ≡ true
unfolding clap_on_literals
is_simple-application = refl

-- at `Ok`
pub command_found-matches : (app : App) (words : List Text) (m : ArgMatches) → app ≡ application → HasMatchesOf app words m
    → (is_simple_and_free app ≡ true → fault_of app words ≡ []) → command_found (Some m) ≡ command words
command_found-matches app words m is has passes =
    let rows : rows_of (found_of m) ≡ matches_of application words = (subst (λ (a : App). HasMatchesOf a words m) is has is_simple-application).0 in
    let none : fault_of application words ≡ [] = subst (λ (a : App). is_simple_and_free a ≡ true → fault_of a words ≡ []) is passes is_simple_and_free-application in
    ap₂ command_given (first_value-rows (found_of m) (codes "command")) (first_value-rows (found_of m) (codes "argument")) ∙ ap given rows ∙ taken words none

HasKind-other : (kinds : Kinds) (e : Error) → HasKind kinds e → (kind_of e ≡ OutOfMemory → ⊥) → kinds ≡ [] → ⊥
HasKind-other kinds e has other none = grind (arith, other)

-- at an `Err` of any kind but want of memory
pub command_found-error : (app : App) (words : List Text) (e : Error) → app ≡ application → (is_simple_and_free app ≡ true → HasKind (fault_of app words) e)
    → (kind_of e ≡ OutOfMemory → ⊥) → None ≡ command words
command_found-error app words e is has other =
    refused words (HasKind-other _ e (subst (λ (a : App). is_simple_and_free a ≡ true → HasKind (fault_of a words) e) is has is_simple_and_free-application) other)
