-- lines of events and replies are read as they were told, or refused with the first fault
use Rattle.np_event.proofs.Prelude.{BadArgument, Bool, Done, Entry, Err, Event, EventForm, Fields, Fixed, Found, HasEntryLine, HasEventLine, HasReplyLine, IfOk, IsFirstUnfit, IsOfNoForm, Kind, LineFault, List, NodeState, None, Ok, OpensNoReaper, Option, Outcome, Reason, ReasonKind, Refusal, Reply, Result, Role, RoleKind, Row, Some, UnknownEvent, WrongCount, and_left, and_parts, ap, append_assoc, arith, bar, begins_reply, behind, blank, both_ways, bytes_eq, chosen, codes, cond-false, cond-true, cond_both, done_fields, done_forms, done_line, done_of, done_row, done_with, drop, entry_from, entry_in, entry_line, entry_with, eq-eqb, eqb-true, event_form_of, event_forms, event_in, event_line, event_of, event_parts, event_row, false, false_from_ne_true, field_text, fields_from, find, fitting, fixed_text, if◌then◌else◌, is_agreed, is_headed, is_headed_done, is_headed_refusal, is_line, is_space, join_with_byte, join_with_byte-slice_split, length, list_all, map, nat_le, nat_tests, ne_eqb, none-some, not, option_map, refl, refusal_fields, refusal_forms, refusal_in, refusal_line, refusal_of, refusal_row, refusal_with, reply_in, reply_line, result_ok, row_fields, sides_of, slice_get, slice_split_at, some_injective, stand, stands, subst, suc, sym, told, told_entry, true, undecided, with_field, with_fields, with_form, words_of, zero, ℕ, [], ◌&&◌, ◌++◌, ◌+◌, ◌<◌, ◌==◌, ◌↔◌, ◌∙◌, ◌∷◌, ◌≡◌, ◌≢◌, ◌≤◌}
use Rattle.np_event.proofs.Fields.{IsForm, all_pass-append, copy, find-passes, form-told, inside-row_line, is_inside, is_line-inside, no_spaces, overlay, row_fields-answers, row_fields-texts, same_bytes, told_fields, with_field-said, with_field-text, words_of-spaced}

-- # One line for each event.

-- ## Row by row, by computation

event_form : (F : EventForm) → IsForm (event_row F) (λ f. event_line (event_of F f)) (λ f. HasEventLine (event_of F f))
event_form EventForm.Tick = record { apart = search; plain = refl; says = λ f. refl; has = λ f has. record { role = tt; words = has } }
event_form F = record { apart = search; plain = refl; says = λ f. refl; has = λ f has. record { role = tt; words = has } }

-- an event is made again of its form and fields
event_again : (e : Event) → OpensNoReaper e → event_of (event_parts e).0 (overlay (event_row (event_parts e).0).kinds (told_fields (event_parts e).1) blank) ≡ e
event_again (Event.OpenSession Role.Reaper) no_reaper = absurd no_reaper
event_again (Event.Decline s r Reason.NeverFits) no_reaper = refl
event_again (Event.Done s n k Outcome.Failed) no_reaper = refl
event_again e no_reaper = refl

-- the words of a form choose it
form_again : (F : EventForm) (f : Fields) → event_form_of (event_row F).head (map (λ k. field_text k f) (event_row F).kinds) ≡ Ok F
unfolding event_forms
form_again EventForm.Tick f = refl
form_again F f = refl

-- ## From a line to its event

undecided-same : (H F : EventForm) (rest : List (List ℕ)) (place : Option ℕ) → undecided H rest place ≡ Ok F → H ≡ F
undecided-same H F rest None answer = cc
undecided-same H F rest (Some place) answer =
    cond_both (nat_le place (length rest)) (Err (BadArgument (place + 1))) (Err WrongCount) (λ o. o ≡ Ok F → H ≡ F) (λ _ is. cc) (λ _ is. cc) answer

form_headed : (first : List ℕ) (rest : List (List ℕ)) (F : EventForm) → event_form_of first rest ≡ Ok F → first ≡ (event_row F).head
form_headed first rest F answer = by_agreed (find (is_agreed first rest) event_forms) (find (is_headed first) event_forms) refl refl answer
  where
    by_agreed : (agreed headed : Option EventForm) → find (is_agreed first rest) event_forms ≡ agreed → find (is_headed first) event_forms ≡ headed
        → chosen rest agreed headed ≡ Ok F → first ≡ (event_row F).head
    by_agreed (Some A) headed is_a is_h answer =
        let same : A ≡ F = cc in
        let passes = and_parts (is_headed first A) (stand (event_row A).kinds rest) (find-passes (is_agreed first rest) event_forms A is_a) in
        subst (λ X. first ≡ (event_row X).head) same (same_bytes first (event_row A).head passes.0)
    by_agreed None (Some H) is_a is_h answer =
        subst (λ X. first ≡ (event_row X).head) (undecided-same H F rest (event_row H).decided_at answer) (same_bytes first (event_row H).head (find-passes (is_headed first) event_forms H is_h))
    by_agreed None None is_a is_h answer = absurd (cc)

-- lines of the same words are the same
pub same_words : (a b : List ℕ) → words_of a ≡ words_of b → a ≡ b
same_words a b same = sym (join_with_byte-slice_split 32 a) ∙ ap (join_with_byte 32) same ∙ join_with_byte-slice_split 32 b

pub event_in-words : (e : Event) → HasEventLine e → event_in (words_of (event_line e)) ≡ Ok e
unfolding event_in
event_in-words e has =
    let F = (event_parts e).0 in
    let f = (event_parts e).1 in
    let texts = map (λ k. field_text k f) (event_row F).kinds in
    ap event_in (words_of-spaced (event_row F).head (event_row F).kinds f (event_form F).plain has.words)
    ∙ ap (with_form texts) (form_again F f)
    ∙ ap (with_fields F) (row_fields-texts (event_row F).kinds f has.words)
    ∙ ap Ok (event_again e has.role)

event_in-told : (words : List (List ℕ)) (e : Event) → event_in words ≡ Ok e → HasEventLine e × (words_of (event_line e) ≡ words)
unfolding event_in
event_in-told [] e answer = absurd (cc)
event_in-told (first ∷ rest) e answer = by_form (event_form_of first rest) refl answer
  where
    by_fields : (F : EventForm) (o : Result Fields LineFault) → first ≡ (event_row F).head → row_fields (event_row F).kinds rest ≡ o → with_fields F o ≡ Ok e
        → HasEventLine e × (words_of (event_line e) ≡ first ∷ rest)
    by_fields F (Ok f) head is answer =
        let told = form-told (event_row F) (λ f. event_line (event_of F f)) (λ f. HasEventLine (event_of F f)) rest f (event_form F) is in
        let same : event_of F f ≡ e = cc in
        subst (λ x. HasEventLine x × (words_of (event_line x) ≡ first ∷ rest)) same (told.0, told.1 ∙ ap (λ h. h ∷ rest) (sym head))
    by_fields F (Err fault) head is answer = absurd (cc)

    by_form : (o : Result EventForm LineFault) → event_form_of first rest ≡ o → with_form rest o ≡ Ok e → HasEventLine e × (words_of (event_line e) ≡ first ∷ rest)
    by_form (Ok F) is answer = by_fields F (row_fields (event_row F).kinds rest) (form_headed first rest F is) refl answer
    by_form (Err fault) is answer = absurd (cc)

pub event_in-spelled : (line : List ℕ) (e : Event) → event_in (words_of line) ≡ Ok e → HasEventLine e × (event_line e ≡ line)
event_in-spelled line e answer =
    let told = event_in-told (words_of line) e answer in
    (told.0, same_words (event_line e) line told.1)

pub event_line-injective : (a b : Event) → HasEventLine a → HasEventLine b → event_line a ≡ event_line b → a ≡ b
event_line-injective a b a_has b_has same = cc (event_in-words a a_has, event_in-words b b_has, ap (λ line. event_in (words_of line)) same)

pub inside-event_line : (e : Event) → HasEventLine e → list_all is_inside (event_line e) ≡ true
inside-event_line e has = inside-row_line (event_row (event_parts e).0) (event_parts e).1 (event_form (event_parts e).0).plain has.words

-- what `read_event` makes has a line
pub HasEventLine-read : (F : EventForm) (kinds : List Kind) (rest : List (List ℕ)) (o : Result Fields LineFault) (f : Fields) (e : Event)
    → kinds ≡ (event_row F).kinds → o ≡ row_fields kinds rest → o ≡ Ok f → e ≡ event_of F f → HasEventLine e
HasEventLine-read F kinds rest o f e same read is made =
    let answer = ap (λ ks. row_fields ks rest) (sym same) ∙ sym read ∙ is in
    subst HasEventLine (sym made) (form-told (event_row F) (λ f. event_line (event_of F f)) (λ f. HasEventLine (event_of F f)) rest f (event_form F) answer).0

-- # One line for each reply.

-- ## Row by row, by computation

done_form : (F : Done) → IsForm (done_row F) (λ f. done_line (done_of F f)) (λ f. HasReplyLine (Reply.Done (done_of F f)))
done_form Done.Plain = record { apart = search; plain = refl; says = λ f. refl; has = λ f has. has }
done_form F = record { apart = search; plain = refl; says = λ f. refl; has = λ f has. has }

done_again : (d : Done) → done_of d (overlay (done_row d).kinds (told_fields (done_fields d)) blank) ≡ d
done_again Done.Plain = refl
done_again d = refl

-- the first word of a reply finds its form
done_form_again : (F : Done) (rest : List (List ℕ)) → reply_in ((done_row F).head ∷ rest) ≡ done_with rest (Some F)
unfolding done_forms reply_in
done_form_again Done.Plain rest = refl
done_form_again F rest = refl

refusal_form : (F : Refusal) → IsForm (refusal_row F) (λ f. refusal_line (refusal_of F f)) (λ f. HasReplyLine (Reply.Refused (refusal_of F f)))
refusal_form Refusal.NoSession = record { apart = search; plain = refl; says = λ f. refl; has = λ f has. has }
refusal_form F = record { apart = search; plain = refl; says = λ f. refl; has = λ f has. has }

refusal_again : (r : Refusal) → Reply.Refused (refusal_of r (overlay (refusal_row r).kinds (told_fields (refusal_fields r)) blank)) ≡ told (Reply.Refused r)
refusal_again Refusal.NoSession = refl
refusal_again r = refl

refusal_form_again : (F : Refusal) (rest : List (List ℕ)) → reply_in (codes "refused" ∷ (refusal_row F).head ∷ rest) ≡ refusal_with rest (Some F)
unfolding refusal_forms reply_in
refusal_form_again Refusal.NoSession rest = refl
refusal_form_again F rest = refl

-- ## From a reply to its line and back

words_of-refused : (line : List ℕ) → words_of (codes "refused " ++ line) ≡ codes "refused" ∷ words_of line
words_of-refused line = slice_split_at is_space (codes "refused") 32 line (no_spaces (codes "refused") refl) refl

pub reply_in-words : (r : Reply) → HasReplyLine r → reply_in (words_of (reply_line r)) ≡ Some (told r)
reply_in-words (Reply.Done d) has =
    let f = done_fields d in
    ap reply_in (words_of-spaced (done_row d).head (done_row d).kinds f (done_form d).plain has)
    ∙ done_form_again d (map (λ k. field_text k f) (done_row d).kinds)
    ∙ ap (λ o. option_map (λ g. Reply.Done (done_of d g)) (result_ok o)) (row_fields-texts (done_row d).kinds f has)
    ∙ ap (λ x. Some (Reply.Done x)) (done_again d)
reply_in-words (Reply.Refused r) has =
    let f = refusal_fields r in
    ap reply_in (words_of-refused (refusal_line r) ∙ ap (λ words. codes "refused" ∷ words) (words_of-spaced (refusal_row r).head (refusal_row r).kinds f (refusal_form r).plain has))
    ∙ refusal_form_again r (map (λ k. field_text k f) (refusal_row r).kinds)
    ∙ ap (λ o. option_map (λ g. Reply.Refused (refusal_of r g)) (result_ok o)) (row_fields-texts (refusal_row r).kinds f has)
    ∙ ap Some (refusal_again r)

-- ## From a line to its reply

-- what is known of a reply of a form's words
form_reply-told : (row : Row) (line : Fields → List ℕ) (Has : Fields → Type 0) (rest : List (List ℕ)) (set : Fields → Reply) (o : Result Fields LineFault) (r : Reply)
    → IsForm row line Has → row_fields row.kinds rest ≡ o → option_map set (result_ok o) ≡ Some r → (f : Fields) × (set f ≡ r) × Has f × (words_of (line f) ≡ row.head ∷ rest)
form_reply-told row line Has rest set (Ok f) r form is answer = let told = form-told row line Has rest f form is in (f, some_injective (set f) r answer, told.0, told.1)
form_reply-told row line Has rest set (Err fault) r form is answer = absurd (cc)

-- what is known of a reply that is read from words
pub record Tells (words : List (List ℕ)) (r : Reply) : Type 0 where
  pub has : HasReplyLine r
  pub says : words_of (reply_line r) ≡ words

done_told : (first : List ℕ) (rest : List (List ℕ)) (o : Option Done) (r : Reply) → find (is_headed_done first) done_forms ≡ o → done_with rest o ≡ Some r → Tells (first ∷ rest) r
done_told first rest None r is answer = absurd (cc)
done_told first rest (Some F) r is answer =
    let head = same_bytes first (done_row F).head (find-passes (is_headed_done first) done_forms F is) in
    let read = form_reply-told (done_row F) (λ f. done_line (done_of F f)) (λ f. HasReplyLine (Reply.Done (done_of F f))) rest (λ g. Reply.Done (done_of F g)) (row_fields (done_row F).kinds rest) r
    (done_form F) refl answer in
    subst (Tells (first ∷ rest)) read.1 (record { has = read.2; says = read.3 ∙ ap (λ h. h ∷ rest) (sym head) })

refusal_told : (first : List ℕ) (rest : List (List ℕ)) (o : Option Refusal) (r : Reply) → find (is_headed_refusal first) refusal_forms ≡ o → refusal_with rest o ≡ Some r
    → Tells (codes "refused" ∷ first ∷ rest) r
refusal_told first rest None r is answer = absurd (cc)
refusal_told first rest (Some F) r is answer =
    let head = same_bytes first (refusal_row F).head (find-passes (is_headed_refusal first) refusal_forms F is) in
    let read = form_reply-told (refusal_row F) (λ f. refusal_line (refusal_of F f)) (λ f. HasReplyLine (Reply.Refused (refusal_of F f))) rest (λ g. Reply.Refused (refusal_of F g))
    (row_fields (refusal_row F).kinds rest) r (refusal_form F) refl answer in
    subst (Tells (codes "refused" ∷ first ∷ rest)) read.1 (record {
      has = read.2;
      says = words_of-refused (refusal_line (refusal_of F read.0)) ∙ ap (λ words. codes "refused" ∷ words) (read.3 ∙ ap (λ h. h ∷ rest) (sym head));
    })

reply_in-told : (words : List (List ℕ)) (r : Reply) → reply_in words ≡ Some r → Tells words r
unfolding reply_in
reply_in-told [] r answer = absurd (cc)
reply_in-told (first ∷ rest) r answer =
    cond_both (bytes_eq first (codes "refused")) (refusal_in rest) (done_with rest (find (is_headed_done first) done_forms)) (λ o. o ≡ Some r → Tells (first ∷ rest) r)
    (λ is answer. subst (λ h. Tells (h ∷ rest) r) (sym (same_bytes first (codes "refused") is)) (refused rest answer)) (λ _. done_told first rest (find (is_headed_done first) done_forms) r refl) answer
  where
    refused : (words : List (List ℕ)) → refusal_in words ≡ Some r → Tells (codes "refused" ∷ words) r
    refused [] answer = absurd (cc)
    refused (word ∷ words) answer = refusal_told word words (find (is_headed_refusal word) refusal_forms) r refl answer

pub reply_in-spelled : (line : List ℕ) (r : Reply) → reply_in (words_of line) ≡ Some r → HasReplyLine r × (reply_line r ≡ line)
reply_in-spelled line r answer = let tells = reply_in-told (words_of line) r answer in (tells.has, same_words (reply_line r) line tells.says)

pub inside-reply_line : (r : Reply) → HasReplyLine r → list_all is_inside (reply_line r) ≡ true
inside-reply_line (Reply.Done d) has = inside-row_line (done_row d) (done_fields d) (done_form d).plain has
inside-reply_line (Reply.Refused r) has = inside-row_line (refusal_row r) (refusal_fields r) (refusal_form r).plain has

-- a reply, as its line is read, has the same line
pub reply_line-told : (r : Reply) → reply_line (told r) ≡ reply_line r
reply_line-told (Reply.Refused (Refusal.WrongState (Found.Node NodeState.Failed))) = refl
reply_line-told r = refl

-- # One line for each entry.

-- ## The two sides

no_reply : (x : ℕ) (xs back : List ℕ) → list_all is_inside xs ≡ true → begins_reply (x ∷ (xs ++ 32 ∷ 61 ∷ 32 ∷ back)) ≡ false
no_reply x [] back inside = grind (arith, nat_tests)
no_reply x (y ∷ []) back inside = grind (arith, nat_tests)
no_reply x (y ∷ z ∷ zs) back inside = grind (arith, nat_tests)

sides_of-sides : (front back : List ℕ) → list_all is_inside front ≡ true → sides_of (front ++ 32 ∷ 61 ∷ 32 ∷ back) ≡ Some (front, back)
unfolding sides_of
sides_of-sides [] back inside = refl
sides_of-sides (x ∷ xs) back inside =
    let parts = and_parts (is_inside x) (list_all is_inside xs) inside in
    let other = no_reply x xs back parts.1 in
    rw other (ap (behind (x ∷ [])) (sides_of-sides xs back parts.1))

begins_reply-told : (line : List ℕ) → begins_reply line ≡ true → 32 ∷ 61 ∷ 32 ∷ drop 3 line ≡ line
begins_reply-told (a ∷ b ∷ c ∷ rest) begins =
    let last = and_parts ((a == 32) && (b == 61)) (c == 32) begins in
    let front = and_parts (a == 32) (b == 61) last.0 in
    cc (eqb-true a 32 front.0, eqb-true b 61 front.1, eqb-true c 32 last.1)
begins_reply-told line begins = absurd (cc)

-- the line again, of its sides
abbrev joined : List ℕ × List ℕ → List ℕ
joined sides = sides.0 ++ 32 ∷ 61 ∷ 32 ∷ sides.1

behind_told : (x : ℕ) (xs : List ℕ) (o : Option (List ℕ × List ℕ)) (sides : List ℕ × List ℕ) → behind (x ∷ []) o ≡ Some sides
    → ((inner : List ℕ × List ℕ) → o ≡ Some inner → joined inner ≡ xs) → joined sides ≡ x ∷ xs
behind_told x xs None sides answer inside = absurd (cc)
behind_told x xs (Some inner) sides answer inside =
    let same = some_injective {A = List ℕ × List ℕ} (x ∷ inner.0, inner.1) sides answer in
    sym (ap joined same) ∙ ap (λ rest. x ∷ rest) (inside inner refl)

sides_of-told : (line : List ℕ) (sides : List ℕ × List ℕ) → sides_of line ≡ Some sides → joined sides ≡ line
unfolding sides_of
sides_of-told [] sides answer = absurd (cc)
sides_of-told (x ∷ xs) sides answer =
    cond_both (begins_reply (x ∷ xs)) (Some ([], drop 3 (x ∷ xs))) (behind (x ∷ []) (sides_of xs)) (λ o. o ≡ Some sides → joined sides ≡ x ∷ xs)
    (λ begins is. sym (ap joined (some_injective {A = List ℕ × List ℕ} ([], drop 3 (x ∷ xs)) sides is)) ∙ begins_reply-told (x ∷ xs) begins)
    (λ _ is. behind_told x xs (sides_of xs) sides is (sides_of-told xs)) answer

-- ## Entries

entry_line-joined : (e : Entry) → entry_line e ≡ event_line e.event ++ 32 ∷ 61 ∷ 32 ∷ reply_line e.reply
entry_line-joined e = append_assoc (event_line e.event) (codes " = ") (reply_line e.reply)

pub entry_in-line : (e : Entry) → HasEntryLine e → entry_in (entry_line e) ≡ Some (told_entry e)
unfolding entry_in
entry_in-line e has =
    ap (λ line. entry_with (sides_of line)) (entry_line-joined e)
    ∙ ap entry_with (sides_of-sides (event_line e.event) (reply_line e.reply) (inside-event_line e.event has.event))
    ∙ ap (λ o. entry_from o (reply_in (words_of (reply_line e.reply)))) (event_in-words e.event has.event)
    ∙ ap (entry_from (Ok e.event)) (reply_in-words e.reply has.reply)

-- what is known of an entry that is read from a line
pub record IsTold (line : List ℕ) (e : Entry) : Type 0 where
  pub has : HasEntryLine e
  pub says : entry_line e ≡ line
  pub told : told_entry e ≡ e

entry_from-told : (o : Result Event LineFault) (p : Option Reply) (e : Entry) → entry_from o p ≡ Some e → (o ≡ Ok e.event) × (p ≡ Some e.reply)
entry_from-told (Ok event) (Some reply) e answer =
    let same = some_injective (record { event = event; reply = reply }) e answer in
    (ap (λ (x : Entry). Ok x.event) same, ap (λ (x : Entry). Some x.reply) same)
entry_from-told o p e answer = absurd (cc)

told_reply : (text : List ℕ) (r : Reply) → reply_in (words_of text) ≡ Some r → told r ≡ r
told_reply text r answer =
    let spelled = reply_in-spelled text r answer in
    let again = reply_in-words r spelled.0 in
    some_injective (told r) r (sym again ∙ ap (λ line. reply_in (words_of line)) spelled.1 ∙ answer)

entry_with-told : (line : List ℕ) (o : Option (List ℕ × List ℕ)) (e : Entry) → sides_of line ≡ o → entry_with o ≡ Some e → IsTold line e
entry_with-told line None e is answer = absurd (cc)
entry_with-told line (Some sides) e is answer =
    let read = entry_from-told (event_in (words_of sides.0)) (reply_in (words_of sides.1)) e answer in
    let event = event_in-spelled sides.0 e.event read.0 in
    let reply = reply_in-spelled sides.1 e.reply read.1 in
    record {
      has = record { event = event.0; reply = reply.0 };
      says = entry_line-joined e ∙ ap (λ front. front ++ 32 ∷ 61 ∷ 32 ∷ reply_line e.reply) event.1 ∙ ap (λ back. sides.0 ++ 32 ∷ 61 ∷ 32 ∷ back) reply.1 ∙ sides_of-told line sides is;
      told = ap (λ (r : Reply). let made : Entry = record { event = e.event; reply = r } in made) (told_reply sides.1 e.reply read.1);
    }

pub entry_in-told : (line : List ℕ) (e : Entry) → entry_in line ≡ Some e → IsTold line e
unfolding entry_in
entry_in-told line e answer = entry_with-told line (sides_of line) e refl answer

pub entry_line-injective : (a b : Entry) → HasEntryLine a → HasEntryLine b → entry_line a ≡ entry_line b → told_entry a ≡ told_entry b
entry_line-injective a b a_has b_has same =
    some_injective (told_entry a) (told_entry b) (sym (entry_in-line a a_has) ∙ ap entry_in same ∙ entry_in-line b b_has)

-- ## No newline

pub is_line-event : (e : Event) → HasEventLine e → is_line (event_line e) ≡ true
is_line-event e has = is_line-inside (event_line e) (inside-event_line e has)

pub is_line-entry : (e : Entry) → HasEntryLine e → is_line (entry_line e) ≡ true
is_line-entry e has =
    let back : is_line (32 ∷ 61 ∷ 32 ∷ reply_line e.reply) ≡ true = is_line-inside (reply_line e.reply) (inside-reply_line e.reply has.reply) in
    ap is_line (entry_line-joined e) ∙ all_pass-append (λ b. not (b == 10)) (event_line e.event) (32 ∷ 61 ∷ 32 ∷ reply_line e.reply) (is_line-event e.event has.event) back

-- no entry's line is the line between two sections
pub entry_line-no_bar : (e : Entry) → HasEntryLine e → bytes_eq (entry_line e) bar ≡ false
unfolding entry_in sides_of
entry_line-no_bar e has = false_from_ne_true (bytes_eq (entry_line e) bar) (λ is.
    let nothing : entry_in bar ≡ None = refl in
    none-some (told_entry e) (sym nothing ∙ ap entry_in (sym (same_bytes (entry_line e) bar is)) ∙ entry_in-line e has))

-- ## What was read has a line

pub HasEntryLine-read : (o : Result Event LineFault) (p : Option Reply) (text : List ℕ) (event : Event) (reply : Reply)
    → result_ok o ≡ Some event → IfOk o HasEventLine → p ≡ reply_in (words_of text) → p ≡ Some reply → HasEntryLine (record { event = event; reply = reply })
HasEntryLine-read (Ok e) p text event reply is_event has is read =
    record { event = subst HasEventLine (some_injective e event is_event) has; reply = (reply_in-spelled text reply (sym is ∙ read)).0 }
HasEntryLine-read (Err fault) p text event reply is_event has is read = absurd (cc)

-- # Which fault a line has: by its form, by the count of its words, by the first word that does not fit.

-- ## The first word that does not fit

unfit-fields_from : (place : ℕ) (kinds : List Kind) (words : List (List ℕ)) (f : Fields) (k : ℕ) → IsFirstUnfit kinds words k
    → fields_from place kinds words f ≡ Err (BadArgument (k + place))
unfit-fields_from place (kind ∷ kinds) (text ∷ rest) f zero unfit =
    let none = with_field-said kind text f (λ g has says. unfit (g, has, says)) in
    ap (λ o. fitting (λ more. fields_from (place + 1) kinds rest more) place (Some o)) none ∙ ap (λ n. Err (BadArgument n)) (omega arith)
unfit-fields_from place (kind ∷ kinds) (text ∷ rest) f (suc k) unfit =
    let g = unfit.0.0 in
    let some : with_field kind text f ≡ Some (copy kind (told_fields g) f) = ap (λ bytes. with_field kind bytes f) (sym unfit.0.2) ∙ with_field-text kind g f unfit.0.1 in
    ap (λ o. fitting (λ more. fields_from (place + 1) kinds rest more) place (Some o)) some
    ∙ unfit-fields_from (place + 1) kinds rest (copy kind (told_fields g) f) k unfit.1 ∙ ap (λ n. Err (BadArgument n)) (omega arith)
unfit-fields_from place kinds words f k unfit = absurd unfit

-- ## By a row: the count, and then the words from the left

pub row-count : (kinds : List Kind) (rest : List (List ℕ)) → (row_fields kinds rest ≡ Err WrongCount) ↔ (length rest ≢ length kinds)
row-count kinds rest = (row_fields-answers kinds rest (Err WrongCount), λ other. cond-false (length rest == length kinds) (fields_from 2 kinds rest blank) (Err WrongCount) (ne_eqb (length rest) (length kinds) other))

pub row-word : (kinds : List Kind) (rest : List (List ℕ)) (word : ℕ)
    → (row_fields kinds rest ≡ Err (BadArgument word)) ↔ ((length rest ≡ length kinds) × ((k : ℕ) × (word ≡ k + 2) × IsFirstUnfit kinds rest k))
row-word kinds rest word = (
  row_fields-answers kinds rest (Err (BadArgument word)),
  λ told. cond-true (length rest == length kinds) (fields_from 2 kinds rest blank) (Err WrongCount) (eq-eqb (length rest) (length kinds) told.0)
      ∙ unfit-fields_from 2 kinds rest blank told.1.0 told.1.2 ∙ ap (λ n. Err (BadArgument n)) (sym told.1.1),
)

-- ## By a form

find-None : {A : Type 0} (p : A → Bool) (xs : List A) → ((x : A) → p x ≡ false) → find p xs ≡ None
find-None p [] fails = refl
find-None p (x ∷ xs) fails = rw (fails x) (find-None p xs fails)

-- an event with a fault has it from its form's row
with_fields-fault : (F : EventForm) (o : Result Fields LineFault) (fault : LineFault) → (with_fields F o ≡ Err fault) ↔ (o ≡ Err fault)
with_fields-fault F (Ok f) fault = (λ answer. absurd (cc), λ answer. absurd (cc))
with_fields-fault F (Err other) fault = (λ answer. cc, λ answer. cc)

-- a fixed word that is at its place is the word there
fixed_word : (word : Fixed) (at : Option (List ℕ)) (behind : Bool) → (stands (Kind.Fixed word) at && behind) ≡ true → at ≡ Some (fixed_text word)
fixed_word word None behind stands = absurd (cc)
fixed_word word (Some text) behind stands = ap Some (same_bytes text (fixed_text word) (and_parts (bytes_eq text (fixed_text word)) behind stands).0)

-- a line's form is the one whose first word and fixed words it has
agreed_form : (F : EventForm) (rest : List (List ℕ)) → stand (event_row F).kinds rest ≡ true → find (is_agreed (event_row F).head rest) event_forms ≡ Some F
unfolding event_forms
agreed_form EventForm.OpenLauncher rest stands = rw (fixed_word (Fixed.Role RoleKind.Launcher) (slice_get rest 0) _ stands) refl
agreed_form EventForm.OpenJanitor rest stands = rw (fixed_word (Fixed.Role RoleKind.Janitor) (slice_get rest 0) _ stands) refl
agreed_form EventForm.OpenRequester rest stands = rw (fixed_word (Fixed.Role RoleKind.Requester) (slice_get rest 0) _ stands) refl
agreed_form EventForm.DeclineNoLabel rest stands = rw (fixed_word (Fixed.Reason ReasonKind.NoLabel) (slice_get (drop 1 (drop 1 rest)) 0) _ stands) refl
agreed_form EventForm.DeclineNeverFits rest stands = rw (fixed_word (Fixed.Reason ReasonKind.NeverFits) (slice_get (drop 1 (drop 1 rest)) 0) _ stands) refl
agreed_form EventForm.DeclineTenantNeverFits rest stands = rw (fixed_word (Fixed.Reason ReasonKind.TenantNeverFits) (slice_get (drop 1 (drop 1 rest)) 0) _ stands) refl
agreed_form EventForm.DeclineSpent rest stands = rw (fixed_word (Fixed.Reason ReasonKind.Spent) (slice_get (drop 1 (drop 1 rest)) 0) _ stands) refl
agreed_form EventForm.DoneOk rest stands = rw (fixed_word Fixed.Ok (slice_get (drop 1 (drop 1 (drop 1 rest))) 0) _ stands) refl
agreed_form EventForm.DoneFailed rest stands = rw (fixed_word Fixed.Failed (slice_get (drop 1 (drop 1 (drop 1 rest))) 0) _ stands) refl
agreed_form F rest stands = refl

form_judges : (F : EventForm) (rest : List (List ℕ)) → stand (event_row F).kinds rest ≡ true
    → event_in ((event_row F).head ∷ rest) ≡ with_fields F (row_fields (event_row F).kinds rest)
unfolding event_in
form_judges F rest stands = ap (λ o. with_form rest (chosen rest o (find (is_headed (event_row F).head) event_forms))) (agreed_form F rest stands)

pub form-fault : (F : EventForm) (rest : List (List ℕ)) (fault : LineFault) → stand (event_row F).kinds rest ≡ true
    → (event_in ((event_row F).head ∷ rest) ≡ Err fault) ↔ (row_fields (event_row F).kinds rest ≡ Err fault)
form-fault F rest fault stands =
    let judged = form_judges F rest stands in
    let same = with_fields-fault F (row_fields (event_row F).kinds rest) fault in
    (λ answer. same.0 (sym judged ∙ answer), λ answer. judged ∙ same.1 answer)

-- ## By no form

-- the first form of an event's name
abbrev first_of : EventForm → EventForm
first_of EventForm.OpenJanitor = EventForm.OpenLauncher
first_of EventForm.OpenRequester = EventForm.OpenLauncher
first_of EventForm.DeclineNeverFits = EventForm.DeclineNoLabel
first_of EventForm.DeclineTenantNeverFits = EventForm.DeclineNoLabel
first_of EventForm.DeclineSpent = EventForm.DeclineNoLabel
first_of EventForm.DoneFailed = EventForm.DoneOk
first_of F = F

first_headed : (F : EventForm) → find (is_headed (event_row F).head) event_forms ≡ Some (first_of F)
unfolding event_forms
first_headed EventForm.Tick = refl
first_headed F = refl

-- forms of one name are decided by one word
first_decided : (F : EventForm) → (event_row (first_of F)).decided_at ≡ (event_row F).decided_at
first_decided EventForm.Tick = refl
first_decided F = refl

unagreed : (first : List ℕ) (rest : List (List ℕ)) → IsOfNoForm first rest → find (is_agreed first rest) event_forms ≡ None
unagreed first rest none = find-None (is_agreed first rest) event_forms (λ F. false_from_ne_true (is_agreed first rest F) (λ is.
    let parts = and_parts (is_headed first F) (stand (event_row F).kinds rest) is in
    both_ways (stand (event_row F).kinds rest) (none F (sym (same_bytes first (event_row F).head parts.0))) parts.1))

no_form_judges : (F : EventForm) (rest : List (List ℕ)) (place : Option ℕ) → (event_row F).decided_at ≡ place → IsOfNoForm (event_row F).head rest
    → event_in ((event_row F).head ∷ rest) ≡ with_form rest (undecided (first_of F) rest place)
unfolding event_in
no_form_judges F rest place decided none =
    ap (λ o. with_form rest (chosen rest o (find (is_headed (event_row F).head) event_forms))) (unagreed (event_row F).head rest none)
    ∙ ap (λ o. with_form rest (chosen rest None o)) (first_headed F)
    ∙ ap (λ p. with_form rest (undecided (first_of F) rest p)) (first_decided F ∙ decided)

pub decided-short : (F : EventForm) (rest : List (List ℕ)) (place : ℕ) → (event_row F).decided_at ≡ Some place → IsOfNoForm (event_row F).head rest
    → length rest < place → event_in ((event_row F).head ∷ rest) ≡ Err WrongCount
decided-short F rest place decided none short =
    no_form_judges F rest (Some place) decided none
    ∙ ap (with_form rest) (cond-false (nat_le place (length rest)) (Err (BadArgument (place + 1))) (Err WrongCount) (grind (arith, nat_tests)))

pub decided-unknown : (F : EventForm) (rest : List (List ℕ)) (place : ℕ) → (event_row F).decided_at ≡ Some place → IsOfNoForm (event_row F).head rest
    → place ≤ length rest → event_in ((event_row F).head ∷ rest) ≡ Err (BadArgument (place + 1))
decided-unknown F rest place decided none reached =
    no_form_judges F rest (Some place) decided none
    ∙ ap (with_form rest) (cond-true (nat_le place (length rest)) (Err (BadArgument (place + 1))) (Err WrongCount) (grind (arith, nat_tests)))

-- forms of one name that no word decides have one count of words
one_count : (F : EventForm) → (event_row F).decided_at ≡ None → length (event_row (first_of F)).kinds ≡ length (event_row F).kinds
one_count EventForm.Tick undecided = refl
one_count F undecided = cc

pub undecided-count : (F : EventForm) (rest : List (List ℕ)) → (event_row F).decided_at ≡ None → IsOfNoForm (event_row F).head rest
    → (event_in ((event_row F).head ∷ rest) ≡ Err WrongCount) ↔ (length rest ≢ length (event_row F).kinds)
undecided-count F rest decided none =
    let judged = no_form_judges F rest None decided none in
    let same = with_fields-fault (first_of F) (row_fields (event_row (first_of F)).kinds rest) WrongCount in
    let count = row-count (event_row (first_of F)).kinds rest in
    let one = one_count F decided in
    (λ answer is. count.0 (same.0 (sym judged ∙ answer)) (is ∙ sym one), λ other. judged ∙ same.1 (count.1 (λ is. other (is ∙ one))))

-- only `open` has forms of one count that a word distinguishes
no_role : (rest : List (List ℕ)) → IsOfNoForm (codes "open") rest → length rest ≡ 2 → row_fields (event_row EventForm.OpenLauncher).kinds rest ≡ Err (BadArgument 2)
no_role (w ∷ x ∷ []) none count = cases (bytes_eq w (codes "launcher")) (none EventForm.OpenLauncher refl)
  where
    cases : (b : Bool) → (b && true) ≡ false
        → fitting (λ more. fields_from 3 (drop 1 (event_row EventForm.OpenLauncher).kinds) (x ∷ []) more) 2 (Some (if b then Some blank else None)) ≡ Err (BadArgument 2)
    cases true unknown = absurd (cc)
    cases false unknown = refl
no_role rest none count = absurd (omega arith)

undecided-word : (F : EventForm) (rest : List (List ℕ)) → (event_row F).decided_at ≡ None → IsOfNoForm (event_row F).head rest
    → length rest ≡ length (event_row F).kinds → row_fields (event_row (first_of F)).kinds rest ≡ Err (BadArgument 2)
undecided-word EventForm.OpenLauncher rest decided none count = no_role rest none count
undecided-word EventForm.OpenJanitor rest decided none count = no_role rest none count
undecided-word EventForm.OpenRequester rest decided none count = no_role rest none count
undecided-word F rest decided none count = let stands = none F refl in absurd (cc)

pub undecided-unknown : (F : EventForm) (rest : List (List ℕ)) → (event_row F).decided_at ≡ None → IsOfNoForm (event_row F).head rest
    → length rest ≡ length (event_row F).kinds → event_in ((event_row F).head ∷ rest) ≡ Err (BadArgument 2)
undecided-unknown F rest decided none count =
    no_form_judges F rest None decided none
    ∙ (with_fields-fault (first_of F) (row_fields (event_row (first_of F)).kinds rest) (BadArgument 2)).1 (undecided-word F rest decided none count)

-- ## The first word that names no event

-- it is the first word of no form
pub unknown-unheaded : (first : List ℕ) (rest : List (List ℕ)) → event_in (first ∷ rest) ≡ Err UnknownEvent → (F : EventForm) → (event_row F).head ≡ first → ⊥
unfolding event_in
unknown-unheaded first rest answer F same = by_agreed (find (is_agreed first rest) event_forms) (ap (λ o. with_form rest (chosen rest (find (is_agreed first rest) event_forms) o)) (sym headed) ∙ answer)
  where
    headed : find (is_headed first) event_forms ≡ Some (first_of F)
    headed = ap (λ h. find (is_headed h) event_forms) (sym same) ∙ first_headed F

    known : (A : EventForm) → with_form rest (Ok A) ≡ Err UnknownEvent → ⊥
    known A answer = row_fields-answers (event_row A).kinds rest (Err UnknownEvent) ((with_fields-fault A (row_fields (event_row A).kinds rest) UnknownEvent).0 answer)

    late : (H : EventForm) (place : Option ℕ) → with_form rest (undecided H rest place) ≡ Err UnknownEvent → ⊥
    late H None answer = known H answer
    late H (Some place) answer = cond_both (nat_le place (length rest)) (Err (BadArgument (place + 1))) (Err WrongCount) (λ o. with_form rest o ≡ Err UnknownEvent → ⊥) (λ _ is. cc) (λ _ is. cc) answer

    by_agreed : (agreed : Option EventForm) → with_form rest (chosen rest agreed (Some (first_of F))) ≡ Err UnknownEvent → ⊥
    by_agreed (Some A) answer = known A answer
    by_agreed None answer = late (first_of F) (event_row (first_of F)).decided_at answer

pub unheaded-unknown : (first : List ℕ) (rest : List (List ℕ)) → ((F : EventForm) → (event_row F).head ≡ first → ⊥) → event_in (first ∷ rest) ≡ Err UnknownEvent
unfolding event_in
unheaded-unknown first rest unheaded =
    let other : (F : EventForm) → is_headed first F ≡ false = λ F. false_from_ne_true (is_headed first F) (λ is. unheaded F (sym (same_bytes first (event_row F).head is))) in
    ap (λ o. with_form rest (chosen rest o (find (is_headed first) event_forms))) (find-None (is_agreed first rest) event_forms (λ F. and_left (is_headed first F) (stand (event_row F).kinds rest) (other F)))
    ∙ ap (λ o. with_form rest (chosen rest None o)) (find-None (is_headed first) event_forms other)
