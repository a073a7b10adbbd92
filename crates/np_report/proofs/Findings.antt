-- the parts of a printed text, and what the comparison of two texts finds is so
use Rattle.np_report.proofs.Prelude.{AllByRecursion, BeginsAText, ConfigFault, Configuration, Declined, EachAfter, Entry, Err, Event, Fate, Finding, HasEntryLine, IsAText, IsJob, IsNoText, IsPlayable, IsPrinted, IsRequester, IsSo, IsSound, Job, List, No, NodeId, None, Ok, Option, Reason, Requester, Script, Some, StandsByOwner, Yes, after, and_parts, ap, append-nil, append_assoc, append_cancel_left, arith, at_place, bar, by_bool, bytes_eq, bytes_eq-refl, canonical, codes, common_lines, decimal, decline_text, drop, drop_all, drop_more, entry_line, entry_lines, eq-eqb, eqb-true, events_told, false, fate_lines, fate_text, fates, finding_of, first_line, flat_map, get_or, if◌then◌else◌, inl, inr, is_line, is_line-entry, is_name_byte, is_name_text, job_text, later_lines, leading_events, length, line, lines_of, lines_of-line, lines_of-lines, list_all, list_all-append, map, nat_le, nat_tests, newline_count, newlines, node_text, not, option_map_or, played, pool_text, reads, reason_text_of, refl, replayed, requester_name, same_bytes, slice_get, start, subst, suc, sum_by-append, sum_by-cons, sym, take, text_of, true, ℕ, [], ◌&&◌, ◌++◌, ◌+◌, ◌<◌, ◌==◌, ◌∙◌, ◌∷◌, ◌≡◌, ◌≤◌}
use Rattle.np_report.proofs.Rows.{lines-Runs}
use Rattle.np_report.proofs.OwnText.{text_of-injective, is_line-append, is_line-canonical, is_line-decimal, reads-canonical}
use Rattle.np_report.proofs.PlayedLemmas.{Shows, are_lines-push, first_line-line, flat_map-push, later_lines-line, line-injective, line-some, played_lines-whole, printed-script, shows-lines}
use Rattle.np_machine.specs.Fates as fate

-- # the parts of a Text, and what is played from them

-- the second bar and the fates
abbrev pub fates_part : Configuration → List Entry → List ℕ
fates_part c journal = line bar ++ fate_lines c 0 c.jobs (fates (after c journal))

-- what comes after the first bar
abbrev pub run_part : Configuration → List Entry → List ℕ
run_part c journal = entry_lines journal ++ fates_part c journal

pub text_of-parts : (c : Configuration) (journal : List Entry) → text_of c journal ≡ line (canonical c) ++ (line bar ++ run_part c journal)
unfolding text_of
text_of-parts c journal = simp append_assoc

-- each entry of a printed run has a line
pub entries_of_a_run : (c : Configuration) (journal : List Entry) (text : List ℕ) → IsPrinted c journal text → AllByRecursion HasEntryLine journal
entries_of_a_run c journal text printed = lines-Runs c journal printed.state printed.sound printed.runs printed.lines

lines_of-entries : (journal : List Entry) (rest : List ℕ) → AllByRecursion HasEntryLine journal → lines_of (entry_lines journal ++ rest) ≡ map entry_line journal ++ lines_of rest
lines_of-entries [] rest has = refl
lines_of-entries (e ∷ journal) rest has =
    ap lines_of (append_assoc (line (entry_line e)) (entry_lines journal) rest ∙ append_assoc (entry_line e) (10 ∷ []) (entry_lines journal ++ rest))
    ∙ lines_of-line (entry_line e) (entry_lines journal ++ rest) (is_line-entry e has.0)
    ∙ ap (λ (ls : List (List ℕ)). entry_line e ∷ ls) (lines_of-entries journal rest has.1)

-- ## what is played from a text

-- the entries that the machine makes of the events in the text, from its third line on
abbrev pub entries_played : Configuration → List ℕ → List Entry
entries_played c bytes = played c (leading_events (later_lines (later_lines bytes)))

-- the Text that the bytes are compared with
abbrev pub text_played : Configuration → List ℕ → List ℕ
text_played c bytes = text_of c (entries_played c bytes)

module _ (d : Configuration) (journal : List Entry) (runs : replayed d (start d) journal ≡ journal) (short : length journal ≤ 262144) (has : AllByRecursion HasEntryLine journal) where
  lines_of-run_part : lines_of (run_part d journal) ≡ map entry_line journal ++ bar ∷ lines_of (fate_lines d 0 d.jobs (fates (after d journal)))
  lines_of-run_part =
      lines_of-entries journal (fates_part d journal) has
      ∙ ap (λ (ls : List (List ℕ)). map entry_line journal ++ ls) (lines_of-line bar (fate_lines d 0 d.jobs (fates (after d journal))) refl)

  played-run_part : played d (leading_events (run_part d journal)) ≡ journal
  played-run_part =
      ap (λ (ls : List (List ℕ)). played d (take 262144 (events_told ls))) lines_of-run_part
      ∙ played_lines-whole d (start d) 262144 journal (lines_of (fate_lines d 0 d.jobs (fates (after d journal)))) short runs has

  -- a Text is what is played from it
  pub text_played-whole : (bytes : List ℕ) → bytes ≡ text_of d journal → text_played d bytes ≡ bytes
  text_played-whole bytes is =
      let later : later_lines (later_lines bytes) ≡ run_part d journal
      = ap (λ (t : List ℕ). later_lines (later_lines t)) (is ∙ text_of-parts d journal)
      ∙ ap later_lines (later_lines-line (canonical d) (line bar ++ run_part d journal) (is_line-canonical d))
      ∙ later_lines-line bar (run_part d journal) refl in
      ap (λ (t : List ℕ). text_of d (played d (leading_events t))) later ∙ ap (text_of d) played-run_part ∙ sym is

  -- the first two lines, and what follows them
  begins_with_three : (a b : List ℕ) (ls : List (List ℕ)) (r : List ℕ) (entries : List Entry) → a ≡ canonical d → b ≡ bar → flat_map line (a ∷ b ∷ ls) ++ r ≡ text_of d journal → Shows entries ls journal →
      (r' : List ℕ) × (text_of d entries ≡ flat_map line (a ∷ b ∷ ls) ++ r')
  begins_with_three a b ls r entries first second same (inr all) = (r, ap (text_of d) all ∙ sym same)
  begins_with_three a b ls r entries first second same (inl begins) =
      (begins.0 ++ fates_part d entries, text_of-parts d entries ∙ rw (first, second, begins.1) (simp append_assoc))

  -- lines that begin both the bytes and a Text begin what is played from the bytes
  pub text_played-begins : (lines : List (List ℕ)) (bytes rest r : List ℕ) → list_all is_line lines ≡ true → bytes ≡ flat_map line lines ++ rest → flat_map line lines ++ r ≡ text_of d journal →
      (r' : List ℕ) × (text_played d bytes ≡ flat_map line lines ++ r')
  text_played-begins [] bytes rest r plain split same = (text_played d bytes, refl)
  text_played-begins (a ∷ []) bytes rest r plain split same =
      let parts = and_parts (is_line a) true plain in
      let cut = line-injective a (canonical d) ([] ++ r) (line bar ++ run_part d journal) parts.0 (is_line-canonical d) (sym (append_assoc (line a) [] r) ∙ same ∙ text_of-parts d journal) in
      let behind = line bar ++ run_part d (entries_played d bytes) in (
        behind,
        text_of-parts d (entries_played d bytes)
            ∙ ap (λ (x : List ℕ). line x ++ behind) (sym cut.0)
            ∙ ap (λ (t : List ℕ). t ++ behind) (sym (append-nil (line a))),
      )
  text_played-begins (a ∷ b ∷ ls) bytes rest r plain split same =
      let parts = and_parts (is_line a) (list_all is_line (b ∷ ls)) plain in
      let more = and_parts (is_line b) (list_all is_line ls) parts.1 in
      let cut = line-injective a (canonical d) (flat_map line (b ∷ ls) ++ r) (line bar ++ run_part d journal) parts.0 (is_line-canonical d)
      (sym (append_assoc (line a) (flat_map line (b ∷ ls)) r) ∙ same ∙ text_of-parts d journal) in
      let cut_more = line-injective b bar (flat_map line ls ++ r) (run_part d journal) more.0 refl (sym (append_assoc (line b) (flat_map line ls) r) ∙ cut.1) in
      let later : later_lines (later_lines bytes) ≡ flat_map line ls ++ rest
      = ap (λ (t : List ℕ). later_lines (later_lines t)) (split ∙ append_assoc (line a) (flat_map line (b ∷ ls)) rest)
      ∙ ap later_lines (later_lines-line a (flat_map line (b ∷ ls) ++ rest) parts.0)
      ∙ ap later_lines (append_assoc (line b) (flat_map line ls) rest)
      ∙ later_lines-line b (flat_map line ls ++ rest) more.0 in
      let events : leading_events (later_lines (later_lines bytes)) ≡ take 262144 (events_told (ls ++ lines_of rest))
      = ap leading_events later ∙ ap (λ (lines : List (List ℕ)). take 262144 (events_told lines)) (lines_of-lines ls rest more.1) in
      let shown = shows-lines d (start d) 262144 journal ls (lines_of rest) r (fate_lines d 0 d.jobs (fates (after d journal))) short runs has more.1 cut_more.1 in
      let begins = begins_with_three a b ls r (played d (take 262144 (events_told (ls ++ lines_of rest)))) cut.0 cut_more.0 same shown in
      (begins.0, ap (λ (es : List Event). text_of d (played d es)) events ∙ begins.1)

-- # a Text has fewer newlines than a number of 32 bits counts

-- ## counting

newlines-none : (bytes : List ℕ) → is_line bytes ≡ true → newlines bytes ≡ 0
newlines-none [] plain = refl
newlines-none (b ∷ bs) plain = grind (arith, nat_tests, newlines-none bs, sum_by-cons newline_count b bs)

newlines-lines : (bytes rest : List ℕ) (n : ℕ) → is_line bytes ≡ true → newlines rest ≤ n → newlines (line bytes ++ rest) ≤ n + 1
newlines-lines bytes rest n plain few =
    let one : newlines (line bytes) ≡ newlines bytes + 1 = sum_by-append newline_count bytes (10 ∷ []) in
    omega (arith, sum_by-append newline_count (line bytes) rest, one, newlines-none bytes plain, few)

-- ## entries

newlines-entries : (journal : List Entry) → AllByRecursion HasEntryLine journal → newlines (entry_lines journal) ≤ length journal
newlines-entries [] has = omega arith
newlines-entries (e ∷ journal) has =
    omega (arith, newlines-lines (entry_line e) (entry_lines journal) (length journal) (is_line-entry e has.0) (newlines-entries journal has.1))

-- ## names

name_bytes-plain : (bytes : List ℕ) → list_all is_name_byte bytes ≡ true → is_line bytes ≡ true
name_bytes-plain [] named = refl
name_bytes-plain (b ∷ bs) named = grind (arith, nat_tests, name_bytes-plain bs)

is_line-name : (text : List ℕ) → is_name_text text ≡ true → is_line text ≡ true
unfolding is_name_text
is_line-name text named =
    name_bytes-plain text (and_parts (nat_le 1 (length text) && nat_le (length text) 64) (list_all is_name_byte text) named).1

is_line-requester_name : (c : Configuration) (job : Job) → IsSound c → is_line (requester_name c job) ≡ true
is_line-requester_name c job sound = found (slice_get c.requesters job.requester.0) refl where
  found : (o : Option Requester) → slice_get c.requesters job.requester.0 ≡ o → is_line (option_map_or (λ q. q.name) o []) ≡ true
  found None there = refl
  found (Some q) there = at_place IsRequester (λ (r : Requester). is_line r.name ≡ true) (λ e r is. is_line-name r.name is.name.named) [] c.requesters job.requester.0 q sound.demand.each_requester there

-- the name of each of these jobs
abbrev HasPlainName : Job → Type 0
HasPlainName job = is_line job.name ≡ true

plain_names : (P : List Job → Job → Type 0) → ((e : List Job) (job : Job) → P e job → HasPlainName job) → (e jobs : List Job) → EachAfter P e jobs → AllByRecursion HasPlainName jobs
plain_names P says e [] each = tt
plain_names P says e (job ∷ jobs) each = (says e job each.0, plain_names P says (e ++ job ∷ []) jobs each.1)

job_names : (c : Configuration) → IsSound c → AllByRecursion HasPlainName c.jobs
job_names c sound =
    plain_names (StandsByOwner (λ (j : Job). j.requester.0) (IsJob (length c.labels) (length c.semaphores) (length c.tenants)))
    (λ e job is. is_line-name job.name is.own.name.named) [] c.jobs sound.demand.each_job

-- ## fates

is_line-job_text : (c : Configuration) (n : ℕ) (job : Job) → IsSound c → HasPlainName job → is_line (job_text c n job) ≡ true
unfolding job_text
is_line-job_text c n job sound plain =
    let append = list_all-append (λ b. not (b == 10)) in
    rw (append (codes "j" ++ decimal n ++ codes " " ++ requester_name c job ++ codes "/" ++ job.name) (codes " "), append (codes "j" ++ decimal n ++ codes " " ++ requester_name c job ++ codes "/") job.name, append (codes "j" ++ decimal n ++ codes " " ++ requester_name c job) (codes "/"), append (codes "j" ++ decimal n ++ codes " ") (requester_name c job), append (codes "j" ++ decimal n) (codes " "), append (codes "j") (decimal n), is_line-decimal n, is_line-requester_name c job sound, plain) refl

is_line-flat_map : {X : Type 0} (f : X → List ℕ) → ((x : X) → is_line (f x) ≡ true) → (xs : List X) → is_line (flat_map f xs) ≡ true
is_line-flat_map f plain [] = refl
is_line-flat_map f plain (x ∷ xs) = is_line-append (f x) (flat_map f xs) (plain x) (is_line-flat_map f plain xs)

is_line-reason : (r : Reason) → is_line (reason_text_of r) ≡ true
is_line-reason (Reason.NoLabel l) = is_line-append (codes "no-label-l") (decimal l.0) refl (is_line-decimal l.0)
is_line-reason Reason.NeverFits = refl
is_line-reason Reason.TenantNeverFits = refl
is_line-reason (Reason.Spent n) = is_line-append (codes "spent-n") (decimal n.0) refl (is_line-decimal n.0)

is_line-nodes : (nodes : List NodeId) → is_line (flat_map node_text nodes) ≡ true
is_line-nodes = is_line-flat_map node_text (λ n. is_line-append (codes " n") (decimal n.0) refl (is_line-decimal n.0))

is_line-decline : (d : Declined) → is_line (decline_text d) ≡ true
is_line-decline d =
    is_line-append (codes " p" ++ decimal d.pool.0 ++ codes ":") (reason_text_of d.reason)
    (is_line-append (codes " p" ++ decimal d.pool.0) (codes ":") (is_line-append (codes " p") (decimal d.pool.0) refl (is_line-decimal d.pool.0)) refl) (is_line-reason d.reason)

is_line-fate : (f : Fate) → is_line (fate_text f) ≡ true
is_line-fate (fate.served None nodes) = is_line-append (codes "served") (flat_map node_text nodes) refl (is_line-nodes nodes)
is_line-fate (fate.served (Some p) nodes) =
    let pool = is_line-append (codes "served p") (decimal p.0) refl (is_line-decimal p.0) in
    is_line-append (codes "served" ++ pool_text (Some p)) (flat_map node_text nodes) pool (is_line-nodes nodes)
is_line-fate (fate.failed declined) =
    is_line-append (codes "failed") (flat_map decline_text declined) refl (is_line-flat_map decline_text is_line-decline declined)
is_line-fate (fate.waiting p) = grind arith
is_line-fate _ = refl

newlines-fates : (c : Configuration) (n : ℕ) (jobs : List Job) (ends : List Fate) → IsSound c → AllByRecursion HasPlainName jobs → newlines (fate_lines c n jobs ends) ≤ length jobs
newlines-fates c n [] ends sound plain = omega arith
newlines-fates c n (job ∷ jobs) [] sound plain = omega arith
newlines-fates c n (job ∷ jobs) (end ∷ ends) sound plain =
    let one = is_line-append (job_text c n job) (fate_text end) (is_line-job_text c n job sound plain.0) (is_line-fate end) in
    omega (arith, newlines-lines (job_text c n job ++ fate_text end) (fate_lines c (n + 1) jobs ends) (length jobs) one (newlines-fates c (n + 1) jobs ends sound plain.1))

-- ## the whole Text

newlines-parts : (first second entries fates : List ℕ) (j k : ℕ) → is_line first ≡ true → is_line second ≡ true → newlines entries ≤ j → newlines fates ≤ k →
    newlines (line first ++ (line second ++ (entries ++ (line second ++ fates)))) ≤ k + 1 + j + 1 + 1
newlines-parts first second entries fates j k plain bar few_entries few_fates =
    let more : newlines (entries ++ (line second ++ fates)) ≤ k + 1 + j
    = omega (arith, sum_by-append newline_count entries (line second ++ fates), newlines-lines second fates k bar few_fates, few_entries) in
    newlines-lines first (line second ++ (entries ++ (line second ++ fates))) (k + 1 + j + 1) plain (newlines-lines second (entries ++ (line second ++ fates)) (k + 1 + j) bar more)

newlines-printed : (c : Configuration) (journal : List Entry) (text : List ℕ) → IsPrinted c journal text → newlines text ≤ 270000
newlines-printed c journal text printed =
    let has = entries_of_a_run c journal text printed in
    let parts = newlines-parts (canonical c) bar (entry_lines journal) (fate_lines c 0 c.jobs (fates (after c journal))) (length journal) (length c.jobs)
    (is_line-canonical c) refl (newlines-entries journal has) (newlines-fates c 0 c.jobs (fates (after c journal)) printed.sound (job_names c printed.sound)) in
    let same : newlines text ≡ newlines (line (canonical c) ++ (line bar ++ (entry_lines journal ++ (line bar ++ fate_lines c 0 c.jobs (fates (after c journal)))))) = ap newlines (printed.is ∙ text_of-parts c journal) in
    omega (arith, same, parts, printed.runs.short, printed.sound.demand.few_jobs)

-- as it is compared
pub few_newlines : (c : Configuration) (journal : List Entry) (text shown : List ℕ) → IsPrinted c journal text → shown ≡ text → newlines shown < 4294967295
few_newlines c journal text shown printed is = omega (arith, ap newlines is, newlines-printed c journal text printed)

-- # the lines that two texts begin with

-- the lines that both texts begin with, and what each has after them
pub record Common (x y : List ℕ) (count : ℕ) : Type 0 where
  pub lines : List (List ℕ)
  pub left : List ℕ
  pub right : List ℕ
  pub plain : list_all is_line lines ≡ true
  pub left_is : x ≡ flat_map line lines ++ left
  pub right_is : y ≡ flat_map line lines ++ right
  pub number : length lines ≡ count
  pub whole : (l p q : List ℕ) → is_line l ≡ true → left ≡ line l ++ p → right ≡ line l ++ q → ⊥

none_common : (x y : List ℕ) → ((l p q : List ℕ) → is_line l ≡ true → x ≡ line l ++ p → y ≡ line l ++ q → ⊥) → Common x y 0
none_common x y whole = record { lines = []; left = x; right = y; plain = refl; left_is = refl; right_is = refl; number = refl; whole = whole }

-- a newline more
common-newline : (x y : List ℕ) (n : ℕ) → Common x y n → Common (10 ∷ x) (10 ∷ y) (1 + n)
common-newline x y n both = record {
  lines = [] ∷ both.lines;
  left = both.left;
  right = both.right;
  plain = both.plain;
  left_is = ap (λ (t : List ℕ). 10 ∷ t) both.left_is;
  right_is = ap (λ (t : List ℕ). 10 ∷ t) both.right_is;
  number = omega (arith, both.number);
  whole = both.whole;
}

head_same : (a b : ℕ) (x y : List ℕ) → a ∷ x ≡ b ∷ y → a ≡ b
head_same a b x y same = cc

tail_same : (a b : ℕ) (x y : List ℕ) → a ∷ x ≡ b ∷ y → x ≡ y
tail_same a b x y same = cc

-- another byte more: it belongs to the first line, whose newline may be missing
common-byte : (b : ℕ) (x y : List ℕ) (n : ℕ) → (b == 10) ≡ false → Common x y n → Common (b ∷ x) (b ∷ y) n
common-byte b x y n other both = cases both.lines both.plain both.left_is both.right_is both.number
  where
    longer : (l p q : List ℕ) → is_line l ≡ true → b ∷ both.left ≡ line l ++ p → b ∷ both.right ≡ line l ++ q → ⊥
    longer [] p q plain one two = grind (arith, nat_tests, head_same b 10 both.left p one)
    longer (c ∷ l) p q plain one two =
        both.whole l p q (and_parts (not (c == 10)) (is_line l) plain).1 (tail_same b c both.left (line l ++ p) one) (tail_same b c both.right (line l ++ q) two)

    cases : (ls : List (List ℕ)) → list_all is_line ls ≡ true → x ≡ flat_map line ls ++ both.left → y ≡ flat_map line ls ++ both.right → length ls ≡ n → Common (b ∷ x) (b ∷ y) n
    cases [] plain left right number = record {
      lines = [];
      left = b ∷ both.left;
      right = b ∷ both.right;
      plain = refl;
      left_is = ap (λ (t : List ℕ). b ∷ t) left;
      right_is = ap (λ (t : List ℕ). b ∷ t) right;
      number = number;
      whole = longer;
    }
    cases (l ∷ ls) plain left right number = record {
      lines = (b ∷ l) ∷ ls;
      left = both.left;
      right = both.right;
      plain = rw other plain;
      left_is = ap (λ (t : List ℕ). b ∷ t) left;
      right_is = ap (λ (t : List ℕ). b ∷ t) right;
      number = number;
      whole = both.whole;
    }

differ : (a b : ℕ) (x y l p q : List ℕ) → (a == b) ≡ false → a ∷ x ≡ line l ++ p → b ∷ y ≡ line l ++ q → ⊥
differ a b x y [] p q other one two = grind (arith, nat_tests, head_same a 10 x p one, head_same b 10 y q two)
differ a b x y (c ∷ l) p q other one two = grind (arith, nat_tests, head_same a c x (line l ++ p) one, head_same b c y (line l ++ q) two)

-- a byte that both have
common-same : (a : ℕ) (x y : List ℕ) → Common x y (common_lines x y) → Common (a ∷ x) (a ∷ y) (newline_count a + common_lines x y)
common-same a x y both =
    let same : common_lines x y ≡ 0 + common_lines x y = omega arith in
    by_bool (λ t. Common (a ∷ x) (a ∷ y) ((if t then 1 else 0) + common_lines x y)) (a == 10)
    (λ here. subst (λ (c : ℕ). Common (c ∷ x) (c ∷ y) (1 + common_lines x y)) (sym (eqb-true a 10 here)) (common-newline x y (common_lines x y) both))
    (λ here. subst (λ (n : ℕ). Common (a ∷ x) (a ∷ y) n) same (common-byte a x y (common_lines x y) here both))

pub common : (x y : List ℕ) → Common x y (common_lines x y)
common [] y = none_common [] y (λ l p q plain one two. line-some l p one)
common (a ∷ x) [] = none_common (a ∷ x) [] (λ l p q plain one two. line-some l q two)
common (a ∷ x) (b ∷ y) =
    let both = common x y in
    by_bool (λ t. Common (a ∷ x) (b ∷ y) (if t then newline_count a + common_lines x y else 0)) (a == b)
    (λ here. subst (λ (c : ℕ). Common (a ∷ x) (c ∷ y) (newline_count a + common_lines x y)) (eqb-true a b here) (common-same a x y both))
    (λ here. none_common (a ∷ x) (b ∷ y) (λ l p q plain one two. differ a b x y l p q here one two))

-- ## one byte after another

common_lines-nil : (xs : List ℕ) → common_lines xs [] ≡ 0
common_lines-nil [] = refl
common_lines-nil (x ∷ xs) = refl

pub common_lines-more : (xs ys : List ℕ) (i : ℕ) → i < length xs → i < length ys → get_or xs i 0 ≡ get_or ys i 0 →
    common_lines (drop i xs) (drop i ys) ≡ newline_count (get_or xs i 0) + common_lines (drop (i + 1) xs) (drop (i + 1) ys)
common_lines-more xs ys i one two same =
    let test : (get_or xs i 0 == get_or ys i 0) ≡ true = eq-eqb (get_or xs i 0) (get_or ys i 0) same in
    rw (drop_more xs i 0 one, drop_more ys i 0 two, test) refl

pub common_lines-differ : (xs ys : List ℕ) (i : ℕ) → i < length xs → i < length ys → (get_or xs i 0 ≡ get_or ys i 0 → ⊥) → common_lines (drop i xs) (drop i ys) ≡ 0
common_lines-differ xs ys i one two other =
    let test : (get_or xs i 0 == get_or ys i 0) ≡ false = grind (arith, nat_tests) in
    rw (drop_more xs i 0 one, drop_more ys i 0 two, test) refl

pub common_lines-left_end : (xs ys : List ℕ) (i : ℕ) → length xs ≤ i → common_lines (drop i xs) ys ≡ 0
common_lines-left_end xs ys i past = rw (drop_all i xs past) refl

pub common_lines-right_end : (xs ys : List ℕ) (i : ℕ) → length ys ≤ i → common_lines xs (drop i ys) ≡ 0
common_lines-right_end xs ys i past = rw (drop_all i ys past) (common_lines-nil xs)

pub common_lines-le-newlines : (xs ys : List ℕ) → common_lines xs ys ≤ newlines xs
common_lines-le-newlines [] ys = omega arith
common_lines-le-newlines (x ∷ xs) [] = omega arith
common_lines-le-newlines (x ∷ xs) (y ∷ ys) = grind (arith, sum_by-cons newline_count x xs, common_lines-le-newlines xs ys)

pub ruleset agreeing = (common_lines-more, common_lines-differ, common_lines-left_end, common_lines-right_end, common_lines-le-newlines)

-- # there is one finding for the same bytes

BeginsAText-shorter : (front behind : List ℕ) → BeginsAText (front ++ behind) → BeginsAText front
BeginsAText-shorter front behind begins = record {
  rest = behind ++ begins.rest;
  whole = subst IsAText (append_assoc front behind begins.rest) begins.whole;
}

-- none begins with the bytes in front and the next whole line of the rest
abbrev Ends : List ℕ → List ℕ → Type 0
Ends front rest = (next later : List ℕ) → is_line next ≡ true → rest ≡ line next ++ later → BeginsAText (front ++ line next) → ⊥

Ends-line : (front l lines rest : List ℕ) → Ends (front ++ (line l ++ lines)) rest → Ends ((front ++ line l) ++ lines) rest
Ends-line front l lines rest ends = subst (λ (t : List ℕ). Ends t rest) (sym (append_assoc front (line l) lines)) ends

-- one more line would begin a Text
begins-more : (front l lines rest r : List ℕ) → is_line l ≡ true → r ≡ (line l ++ lines) ++ rest → Ends (front ++ []) r → BeginsAText (front ++ (line l ++ lines)) → ⊥
begins-more front l lines rest r plain is ends begins =
    let shorter = BeginsAText-shorter (front ++ line l) lines (subst BeginsAText (sym (append_assoc front (line l) lines)) begins) in
    ends l (lines ++ rest) plain (is ∙ append_assoc (line l) lines rest) (subst (λ (t : List ℕ). BeginsAText (t ++ line l)) (sym (append-nil front)) shorter)

one_count : (front : List ℕ) (ls ms : List (List ℕ)) (r s : List ℕ) → list_all is_line ls ≡ true → list_all is_line ms ≡ true → flat_map line ls ++ r ≡ flat_map line ms ++ s →
    BeginsAText (front ++ flat_map line ls) → BeginsAText (front ++ flat_map line ms) → Ends (front ++ flat_map line ls) r → Ends (front ++ flat_map line ms) s → length ls ≡ length ms
one_count front [] [] r s plain_l plain_m same begin_l begin_m ends_l ends_m = refl
one_count front [] (m ∷ ms) r s plain_l plain_m same begin_l begin_m ends_l ends_m =
    absurd (begins-more front m (flat_map line ms) s r (and_parts (is_line m) (list_all is_line ms) plain_m).0 same ends_l begin_m)
one_count front (l ∷ ls) [] r s plain_l plain_m same begin_l begin_m ends_l ends_m =
    absurd (begins-more front l (flat_map line ls) r s (and_parts (is_line l) (list_all is_line ls) plain_l).0 (sym same) ends_m begin_l)
one_count front (l ∷ ls) (m ∷ ms) r s plain_l plain_m same begin_l begin_m ends_l ends_m =
    let one = and_parts (is_line l) (list_all is_line ls) plain_l in
    let two = and_parts (is_line m) (list_all is_line ms) plain_m in
    let cut = line-injective l m (flat_map line ls ++ r) (flat_map line ms ++ s) one.0 two.0
    (sym (append_assoc (line l) (flat_map line ls) r) ∙ same ∙ append_assoc (line m) (flat_map line ms) s) in
    let first : line m ≡ line l = ap line (sym cut.0) in
    let moved_l : BeginsAText ((front ++ line l) ++ flat_map line ls) = subst BeginsAText (sym (append_assoc front (line l) (flat_map line ls))) begin_l in
    let moved_m : BeginsAText ((front ++ line m) ++ flat_map line ms) = subst BeginsAText (sym (append_assoc front (line m) (flat_map line ms))) begin_m in
    ap suc (one_count (front ++ line l) ls ms r s one.1 two.1 cut.1 moved_l
    (subst (λ (t : List ℕ). BeginsAText ((front ++ t) ++ flat_map line ms)) first moved_m)
    (Ends-line front l (flat_map line ls) r ends_l)
    (subst (λ (t : List ℕ). Ends ((front ++ t) ++ flat_map line ms) s) first (Ends-line front m (flat_map line ms) s ends_m)))

one_number : (bytes : List ℕ) (m n : ℕ) → IsNoText bytes m → IsNoText bytes n → m ≡ n
one_number bytes m n a b =
    let same = one_count [] a.lines b.lines a.rest b.rest a.whole b.whole (sym a.parts ∙ b.parts) a.begin b.begin a.ends b.ends in
    a.count ∙ ap (λ (k : ℕ). k + 1) same ∙ sym b.count

pub one_finding : (bytes : List ℕ) (a b : Finding) → IsSo a bytes → IsSo b bytes → a ≡ b
one_finding bytes Yes Yes a b = refl
one_finding bytes Yes (No n) a b = absurd (b.none a)
one_finding bytes (No m) Yes a b = absurd (a.none b)
one_finding bytes (No m) (No n) a b = ap No (one_number bytes m n a b)

pub ruleset laws = (one_finding, text_of-injective)

-- # what the comparison finds is so

-- ## the first line

first_line-text : (bytes : List ℕ) (text : IsAText bytes) → first_line bytes ≡ canonical text.configuration
first_line-text bytes text =
    let c = text.configuration in
    ap first_line (text.printed.is ∙ text_of-parts c text.journal) ∙ first_line-line (canonical c) (line bar ++ run_part c text.journal) (is_line-canonical c)

first_line-begins : (bytes rest a more : List ℕ) → is_line a ≡ true → bytes ≡ line a ++ rest → (text : IsAText (line a ++ more)) → first_line bytes ≡ canonical text.configuration
first_line-begins bytes rest a more plain split text =
    ap first_line split ∙ first_line-line a rest plain ∙ sym (first_line-line a more plain) ∙ first_line-text (line a ++ more) text

-- the first line decides the configuration
one_configuration : (c d : Configuration) (first : List ℕ) → reads first ≡ Ok c → IsSound d → first ≡ canonical d → d ≡ c
one_configuration c d first read sound is =
    let both : Ok d ≡ Ok c = sym (reads-canonical d sound) ∙ ap reads (sym is) ∙ read in
    cc

unread_configuration : (d : Configuration) (first : List ℕ) (fault : ConfigFault) → reads first ≡ Err fault → IsSound d → first ≡ canonical d → ⊥
unread_configuration d first fault read sound is =
    let both : Ok d ≡ Err fault = sym (reads-canonical d sound) ∙ ap reads (sym is) ∙ read in
    cc

-- ## what is played is the only Text that the bytes can be, and begins as any that begins as they do

text_played-text : (c : Configuration) (bytes : List ℕ) → reads (first_line bytes) ≡ Ok c → IsAText bytes → text_played c bytes ≡ bytes
text_played-text c bytes read text =
    let d = text.configuration in
    let p = text.printed in
    let same = one_configuration c d (first_line bytes) read p.sound (first_line-text bytes text) in
    let P : Configuration → Type 0 = λ x. text_played x bytes ≡ bytes in
    subst P same (text_played-whole d text.journal p.runs.replies p.runs.short (entries_of_a_run d text.journal bytes p) bytes p.is)

text_played-lines : (c : Configuration) (bytes rest : List ℕ) (lines : List (List ℕ)) → reads (first_line bytes) ≡ Ok c → list_all is_line lines ≡ true → bytes ≡ flat_map line lines ++ rest →
    BeginsAText (flat_map line lines) → (r : List ℕ) × (text_played c bytes ≡ flat_map line lines ++ r)
text_played-lines c bytes rest [] read plain split begins = (text_played c bytes, refl)
text_played-lines c bytes rest (a ∷ lines) read plain split begins =
    let parts = and_parts (is_line a) (list_all is_line lines) plain in
    let text = begins.whole in
    let d = text.configuration in
    let p = text.printed in
    let whole = flat_map line (a ∷ lines) ++ begins.rest in
    let cut = line-injective a (canonical d) (flat_map line lines ++ begins.rest) (line bar ++ run_part d text.journal) parts.0 (is_line-canonical d)
    (sym (append_assoc (line a) (flat_map line lines) begins.rest) ∙ p.is ∙ text_of-parts d text.journal) in
    let first : first_line bytes ≡ canonical d
    = ap first_line (split ∙ append_assoc (line a) (flat_map line lines) rest) ∙ first_line-line a (flat_map line lines ++ rest) parts.0 ∙ cut.0 in
    let same = one_configuration c d (first_line bytes) read p.sound first in
    let P : Configuration → Type 0 = λ x. (r : List ℕ) × (text_played x bytes ≡ flat_map line (a ∷ lines) ++ r) in
    subst P same (text_played-begins d text.journal p.runs.replies p.runs.short (entries_of_a_run d text.journal whole p) (a ∷ lines) bytes rest begins.rest plain split p.is)

-- ## if the first line is read

yes_so : (c : Configuration) (text same bytes : List ℕ) → IsPrinted c (entries_played c bytes) text → text ≡ same → IsAText same
yes_so c text same bytes printed is = record {
  configuration = c;
  journal = entries_played c bytes;
  printed = subst (λ (t : List ℕ). IsPrinted c (entries_played c bytes) t) is printed;
}

-- the next whole line of the bytes does not continue as a Text does
no_longer : (c : Configuration) (text bytes : List ℕ) (n : ℕ) → reads (first_line bytes) ≡ Ok c → text ≡ text_played c bytes → (both : Common text bytes n) → (next later : List ℕ) → is_line next ≡ true →
    both.right ≡ line next ++ later → BeginsAText (flat_map line both.lines ++ line next) → ⊥
no_longer c text bytes n read is both next later plain here begins =
    let shared = flat_map line both.lines in
    let pushed = flat_map-push both.lines next in
    let split : bytes ≡ flat_map line (both.lines ++ next ∷ []) ++ later
    = both.right_is
    ∙ ap (λ (t : List ℕ). shared ++ t) here
    ∙ sym (append_assoc shared (line next) later)
    ∙ ap (λ (t : List ℕ). t ++ later) (sym pushed) in
    let longer = text_played-lines c bytes later (both.lines ++ next ∷ []) read (are_lines-push both.lines next both.plain plain) split (subst BeginsAText (sym pushed) begins) in
    let left : shared ++ both.left ≡ shared ++ (line next ++ longer.0)
    = sym both.left_is ∙ is ∙ longer.1 ∙ ap (λ (t : List ℕ). t ++ longer.0) pushed ∙ append_assoc shared (line next) longer.0 in
    both.whole next longer.0 later plain (append_cancel_left shared both.left (line next ++ longer.0) left) here

no_so : (c : Configuration) (text bytes : List ℕ) → reads (first_line bytes) ≡ Ok c → IsPrinted c (entries_played c bytes) text → (text ≡ bytes → ⊥) → IsNoText bytes (common_lines text bytes + 1)
no_so c text bytes read printed differ =
    let both = common text bytes in
    record {
      none = λ is. differ (printed.is ∙ text_played-text c bytes read is);
      lines = both.lines;
      rest = both.right;
      parts = both.right_is;
      whole = both.plain;
      begin = record { rest = both.left; whole = yes_so c text (flat_map line both.lines ++ both.left) bytes printed both.left_is };
      ends = no_longer c text bytes (common_lines text bytes) read printed.is both;
      count = ap (λ (n : ℕ). n + 1) (sym both.number);
    }

-- what the comparison finds
finding_of-so : (c : Configuration) (text bytes : List ℕ) → reads (first_line bytes) ≡ Ok c → IsPrinted c (entries_played c bytes) text → IsSo (finding_of text bytes) bytes
finding_of-so c text bytes read printed =
    by_bool (λ b. IsSo (if b then Yes else No (common_lines text bytes + 1)) bytes) (bytes_eq text bytes) (λ same. yes_so c text bytes bytes printed (same_bytes text bytes same)) (λ other.
    no_so c text bytes read printed (λ same.
    let apart : true ≡ false = sym (bytes_eq-refl text) ∙ ap (λ (t : List ℕ). bytes_eq text t) same ∙ other in
    cc))

-- as it is compared
pub finding-so : (c : Configuration) (bytes rest text shown : List ℕ) (finding : Finding) → reads (first_line bytes) ≡ Ok c → IsPrinted c (played c (leading_events (later_lines rest))) text → rest ≡ later_lines bytes →
    shown ≡ text → finding ≡ finding_of shown bytes → IsSo finding bytes
finding-so c bytes rest text shown finding read printed behind is found =
    let own : IsPrinted c (entries_played c bytes) text = subst (λ (t : List ℕ). IsPrinted c (played c (leading_events (later_lines t))) text) behind printed in
    let same : IsSo (finding_of text bytes) bytes = finding_of-so c text bytes read own in
    subst (λ (f : Finding). IsSo f bytes) (sym (found ∙ ap (λ (t : List ℕ). finding_of t bytes) is)) same

-- ## if it is not read

pub unread_so : (bytes : List ℕ) (fault : ConfigFault) → reads (first_line bytes) ≡ Err fault → BeginsAText [] → IsNoText bytes 1
unread_so bytes fault unread some = record {
  none = λ text. unread_configuration text.configuration (first_line bytes) fault unread text.printed.sound (first_line-text bytes text);
  lines = [];
  rest = bytes;
  parts = refl;
  whole = refl;
  begin = some;
  ends = λ next later plain here begins.
      unread_configuration begins.whole.configuration (first_line bytes) fault unread begins.whole.printed.sound (first_line-begins bytes later next begins.rest plain here begins.whole);
  count = refl;
}

-- a sound configuration has a Text, which begins with nothing
pub begins-nothing : (c : Configuration) → IsSound c → BeginsAText []
begins-nothing c sound =
    let script : Script = record { config = c; events = [] } in
    let can : IsPlayable script = record { sound = sound; few = omega arith; lines = tt } in
    record { rest = text_of c (played c []); whole = record { configuration = c; journal = played c []; printed = printed-script script can } }
