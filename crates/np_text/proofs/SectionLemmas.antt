-- Lemmas on a text's sections.
use Rattle.np_text.proofs.Prelude.{Bool, List, None, Option, Some, and_parts, and_right, ap, append-nil, append_assoc, arith, bar, begins_with_bar, behind, bytes_eq, drop, drop_all, drop_more, false, flat_map, get_or, has_bar, is_line, length, line, list_all, nat_tests, not, or_parts, refl, sections_from, sections_of, sym, take, take_more, true, ℕ, [], ◌&&◌, ◌++◌, ◌+◌, ◌<◌, ◌==◌, ◌∙◌, ◌∷◌, ◌≡◌, ◌≤◌}

pub behind_behind : (front next : List ℕ) (o : Option (List ℕ × List ℕ)) → behind front (behind next o) ≡ behind (front ++ next) o
behind_behind front next None = refl
behind_behind front next (Some parts) = ap (λ bytes. Some (bytes, parts.1)) (sym (append_assoc front next parts.0))

pub behind-nil : (o : Option (List ℕ × List ℕ)) → behind [] o ≡ o
behind-nil None = refl
behind-nil (Some parts) = refl

-- the three steps of a search: a byte that begins no `%%` line, the line, the end
pub sections_from-other : (text : List ℕ) (i : ℕ) (fresh : Bool) → i < length text → (fresh && begins_with_bar (drop i text)) ≡ false
    → behind (take i text) (sections_from fresh (drop i text)) ≡ behind (take (i + 1) text) (sections_from (get_or text i 0 == 10) (drop (i + 1) text))
unfolding sections_from
sections_from-other text i fresh within other =
    let here = drop_more text i 0 within in
    let other' : (fresh && begins_with_bar (get_or text i 0 ∷ drop (i + 1) text)) ≡ false = ap (λ bytes. fresh && begins_with_bar bytes) (sym here) ∙ other in
    let there = behind_behind (take i text) (get_or text i 0 ∷ []) (sections_from (get_or text i 0 == 10) (drop (i + 1) text)) in
    ap (λ bytes. behind (take i text) (sections_from fresh bytes)) here ∙ rw (other', take_more text i 0 within) there

pub sections_from-bar : (text : List ℕ) (i : ℕ) (fresh : Bool) → i < length text → (fresh && begins_with_bar (drop i text)) ≡ true
    → behind (take i text) (sections_from fresh (drop i text)) ≡ Some (take i text, drop 3 (drop i text))
unfolding sections_from
sections_from-bar text i fresh within bar =
    let here = drop_more text i 0 within in
    let bar' : (fresh && begins_with_bar (get_or text i 0 ∷ drop (i + 1) text)) ≡ true = ap (λ bytes. fresh && begins_with_bar bytes) (sym here) ∙ bar in
    ap (λ bytes. behind (take i text) (sections_from fresh bytes)) here ∙ rw (bar', append-nil) (ap (λ bytes. Some (take i text, drop 3 bytes)) (sym here))

pub sections_from_end : (text : List ℕ) (i : ℕ) (fresh : Bool) → length text ≤ i → behind (take i text) (sections_from fresh (drop i text)) ≡ None
unfolding sections_from
sections_from_end text i fresh ends = rw (drop_all i text ends) refl

pub ruleset parting = (sections_from-other, sections_from-bar, sections_from_end)

-- ## Sections and lines

and_assoc : (s t u : Bool) → ((s && t) && u) ≡ (s && (t && u))
and_assoc s t u = grind arith

and_true : (s t : Bool) → (s && t) ≡ (s && (t && true))
and_true s t = grind arith

-- a text begins with `%%` if and only if its first line is `%%`
begins_with_bar-line : (bytes rest : List ℕ) → is_line bytes ≡ true → begins_with_bar (bytes ++ 10 ∷ rest) ≡ bytes_eq bytes bar
begins_with_bar-line [] [] plain = refl
begins_with_bar-line [] (c ∷ []) plain = refl
begins_with_bar-line [] (c ∷ d ∷ rest) plain = refl
begins_with_bar-line (a ∷ []) [] plain = refl
begins_with_bar-line (a ∷ []) (c ∷ rest) plain = rw (and_right (a == 37) false refl) refl
begins_with_bar-line (a ∷ b ∷ []) rest plain = and_assoc (a == 37) (b == 37) true
begins_with_bar-line (a ∷ b ∷ c ∷ cs) rest plain =
    let parts = and_parts (not (b == 10)) (is_line (c ∷ cs)) (and_parts (not (a == 10)) (is_line (b ∷ c ∷ cs)) plain).1 in
    let other : (c == 10) ≡ false = grind (arith, nat_tests, (and_parts (not (c == 10)) (is_line cs) parts.1).0) in
    rw other (and_assoc (a == 37) (b == 37) false)

sections_from-inside : (bytes rest : List ℕ) → is_line bytes ≡ true → sections_from false (bytes ++ 10 ∷ rest) ≡ behind (line bytes) (sections_from true rest)
unfolding sections_from
sections_from-inside [] rest plain = refl
sections_from-inside (b ∷ bs) rest plain =
    let parts = and_parts (not (b == 10)) (is_line bs) plain in
    let other : (b == 10) ≡ false = grind (arith, nat_tests) in
    rw other (ap (behind (b ∷ [])) (sections_from-inside bs rest parts.1) ∙ behind_behind (b ∷ []) (line bs) (sections_from true rest))

sections_from-not_bar : (bytes : List ℕ) → begins_with_bar bytes ≡ false → sections_from true bytes ≡ sections_from false bytes
unfolding sections_from
sections_from-not_bar [] other = refl
sections_from-not_bar (b ∷ bs) other = rw other refl

sections_of-line : (bytes rest : List ℕ) → is_line bytes ≡ true → bytes_eq bytes bar ≡ false → sections_of (line bytes ++ rest) ≡ behind (line bytes) (sections_of rest)
sections_of-line bytes rest plain other =
    ap sections_of (append_assoc bytes (10 ∷ []) rest)
    ∙ sections_from-not_bar (bytes ++ 10 ∷ rest) (begins_with_bar-line bytes rest plain ∙ other)
    ∙ sections_from-inside bytes rest plain

sections_of-bar_here : (rest : List ℕ) → sections_of (line bar ++ rest) ≡ Some ([], rest)
unfolding sections_from
sections_of-bar_here rest = refl

sections_of-bar_alone : sections_of bar ≡ Some ([], [])
unfolding sections_from
sections_of-bar_alone = refl

-- a last line without its newline
begins_with_bar-last : (bytes : List ℕ) → is_line bytes ≡ true → begins_with_bar bytes ≡ bytes_eq bytes bar
begins_with_bar-last [] plain = refl
begins_with_bar-last (a ∷ []) plain = sym (and_right (a == 37) false refl)
begins_with_bar-last (a ∷ b ∷ []) plain = and_true (a == 37) (b == 37)
begins_with_bar-last (a ∷ b ∷ c ∷ cs) plain =
    let parts = and_parts (not (b == 10)) (is_line (c ∷ cs)) (and_parts (not (a == 10)) (is_line (b ∷ c ∷ cs)) plain).1 in
    let other : (c == 10) ≡ false = grind (arith, nat_tests, (and_parts (not (c == 10)) (is_line cs) parts.1).0) in
    rw other (and_assoc (a == 37) (b == 37) false)

sections_from-rest : (bytes : List ℕ) → is_line bytes ≡ true → sections_from false bytes ≡ None
unfolding sections_from
sections_from-rest [] plain = refl
sections_from-rest (b ∷ bs) plain =
    let parts = and_parts (not (b == 10)) (is_line bs) plain in
    let other : (b == 10) ≡ false = grind (arith, nat_tests) in
    rw other (ap (behind (b ∷ [])) (sections_from-rest bs parts.1))

sections_of-last : (bytes : List ℕ) → is_line bytes ≡ true → bytes_eq bytes bar ≡ false → sections_of bytes ≡ None
sections_of-last bytes plain other = sections_from-not_bar bytes (begins_with_bar-last bytes plain ∙ other) ∙ sections_from-rest bytes plain

-- lines of which none is `%%` belong to the first section
pub sections_of-lines : (lines : List (List ℕ)) (rest : List ℕ) → list_all is_line lines ≡ true → has_bar lines ≡ false
    → sections_of (flat_map line lines ++ rest) ≡ behind (flat_map line lines) (sections_of rest)
sections_of-lines [] rest plain other = sym (behind-nil (sections_of rest))
sections_of-lines (bytes ∷ more) rest plain other =
    let parts = and_parts (is_line bytes) (list_all is_line more) plain in
    let others = or_parts (bytes_eq bytes bar) (has_bar more) other in
    ap sections_of (append_assoc (line bytes) (flat_map line more) rest)
    ∙ sections_of-line bytes (flat_map line more ++ rest) parts.0 others.0
    ∙ ap (behind (line bytes)) (sections_of-lines more rest parts.1 others.1)
    ∙ behind_behind (line bytes) (flat_map line more) (sections_of rest)

pub sections_of-bar : (lines : List (List ℕ)) (rest : List ℕ) → list_all is_line lines ≡ true → has_bar lines ≡ false
    → sections_of (flat_map line lines ++ line bar ++ rest) ≡ Some (flat_map line lines, rest)
sections_of-bar lines rest plain other =
    ap sections_of (append_assoc (flat_map line lines) (line bar) rest)
    ∙ sections_of-lines lines (line bar ++ rest) plain other
    ∙ ap (behind (flat_map line lines)) (sections_of-bar_here rest)
    ∙ ap (λ front. Some (front, rest)) (append-nil (flat_map line lines))

pub sections_of-last_bar : (lines : List (List ℕ)) → list_all is_line lines ≡ true → has_bar lines ≡ false
    → sections_of (flat_map line lines ++ bar) ≡ Some (flat_map line lines, [])
sections_of-last_bar lines plain other =
    sections_of-lines lines bar plain other
    ∙ ap (behind (flat_map line lines)) sections_of-bar_alone
    ∙ ap (λ front. Some (front, [])) (append-nil (flat_map line lines))

pub sections_of-none : (lines : List (List ℕ)) (last : List ℕ) → list_all is_line lines ≡ true → has_bar lines ≡ false → is_line last ≡ true → bytes_eq last bar ≡ false
    → sections_of (flat_map line lines ++ last) ≡ None
sections_of-none lines last plain other last_plain last_other =
    sections_of-lines lines last plain other
    ∙ ap (behind (flat_map line lines)) (sections_of-last last last_plain last_other)
