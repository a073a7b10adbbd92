-- Lemmas on lines.
use Rattle.np_text.proofs.Prelude.{Bool, List, None, Option, Some, and_parts, ap, append_assoc, arith, cond, drop, drop-drop, drop_all, eqb-true, false, flat_map, is_line, length, length-drop, line, line_in, line_length, lines_of, list_all, nat_tests, not, one-add, onto_first, position, position_or_len, prefix_len-le-length, refl, suc, sym, take, true, unwrap_or, ℕ, [], ◌++◌, ◌+◌, ◌-◌, ◌<◌, ◌==◌, ◌∙◌, ◌∷◌, ◌≡◌, ◌≤◌}
use Rattle.np_text.proofs.SpellingLemmas.{some_injective}

-- where the first line ends
pub unwrap_or-position : (p : ℕ → Bool) (xs : List ℕ) → unwrap_or (position p xs) (length xs) ≡ position_or_len p xs
unwrap_or-position p xs = grind (arith, nat_tests, prefix_len-le-length (λ x. not (p x)) xs)

-- ## The lines of a text

lines_of-first : (b : ℕ) (bs : List ℕ) → lines_of (b ∷ bs) ≡ take (line_length (b ∷ bs)) (b ∷ bs) ∷ lines_of (drop (line_length (b ∷ bs) + 1) (b ∷ bs))
lines_of-first b [] = cases (b == 10) refl
  where
    cases : (t : Bool) → (b == 10) ≡ t → lines_of (b ∷ []) ≡ take (line_length (b ∷ [])) (b ∷ []) ∷ lines_of (drop (line_length (b ∷ []) + 1) (b ∷ []))
    cases true here = rw here refl
    cases false here = rw here refl
lines_of-first b (c ∷ cs) = cases (lines_of-first c cs) (b == 10) refl
  where
    cases : lines_of (c ∷ cs) ≡ take (line_length (c ∷ cs)) (c ∷ cs) ∷ lines_of (drop (line_length (c ∷ cs) + 1) (c ∷ cs))
        → (t : Bool) → (b == 10) ≡ t
        → lines_of (b ∷ c ∷ cs) ≡ take (line_length (b ∷ c ∷ cs)) (b ∷ c ∷ cs) ∷ lines_of (drop (line_length (b ∷ c ∷ cs) + 1) (b ∷ c ∷ cs))
    cases rest true here = rw here refl
    cases rest false here =
        let whole : lines_of (b ∷ c ∷ cs) ≡ onto_first b (lines_of (c ∷ cs)) = rw here refl in
        let longer : line_length (b ∷ c ∷ cs) ≡ suc (line_length (c ∷ cs)) = (rw here refl) ∙ one-add (line_length (c ∷ cs)) in
        let past : suc (line_length (c ∷ cs)) + 1 ≡ suc (line_length (c ∷ cs) + 1) = omega arith in
        whole ∙ ap (onto_first b) rest
        ∙ sym (ap (λ n. take n (b ∷ c ∷ cs) ∷ lines_of (drop (n + 1) (b ∷ c ∷ cs))) longer ∙ ap (λ n. (b ∷ take (line_length (c ∷ cs)) (c ∷ cs)) ∷ lines_of (drop n (b ∷ c ∷ cs))) past)

lines_of-next : (bs : List ℕ) → 0 < length bs → lines_of bs ≡ take (line_length bs) bs ∷ lines_of (drop (line_length bs + 1) bs)
lines_of-next [] some = absurd (omega arith)
lines_of-next (b ∷ bs) some = lines_of-first b bs

-- repeated calls of `line_at` return the lines one by one
pub lines_of-walk_end : (text : List ℕ) (from : ℕ) → from ≤ length text → line_in text from ≡ None → lines_of (drop from text) ≡ []
lines_of-walk_end text from within none = cases (from == length text) refl none
  where
    cases : (t : Bool) → (from == length text) ≡ t → cond {A = Option (ℕ × ℕ)} t None (Some (from, from + line_length (drop from text))) ≡ None → lines_of (drop from text) ≡ []
    cases true here none = ap lines_of (drop_all from text (omega (arith, eqb-true from (length text) here)))
    cases false here none = absurd (cc)

pub lines_of-walk : (text : List ℕ) (from start end : ℕ) → from ≤ length text → line_in text from ≡ Some (start, end)
    → (start ≡ from) × (lines_of (drop from text) ≡ take (end - start) (drop start text) ∷ lines_of (drop (end + 1) text))
lines_of-walk text from start end within some = cases (from == length text) refl some
  where
    cases : (t : Bool) → (from == length text) ≡ t → cond {A = Option (ℕ × ℕ)} t None (Some (from, from + line_length (drop from text))) ≡ Some (start, end)
        → (start ≡ from) × (lines_of (drop from text) ≡ take (end - start) (drop start text) ∷ lines_of (drop (end + 1) text))
    cases true here some = absurd (cc)
    cases false here some =
        let same = some_injective {A = ℕ × ℕ} (from, from + line_length (drop from text)) (start, end) some in
        let same_start : from ≡ start = ap (λ (p : ℕ × ℕ). p.0) same in
        let same_end : from + line_length (drop from text) ≡ end = ap (λ (p : ℕ × ℕ). p.1) same in
        let more : 0 < length (drop from text) = simp length-drop (grind (arith, nat_tests)) in
        let long : line_length (drop from text) ≡ end - start = omega arith in
        let past : drop (line_length (drop from text) + 1) (drop from text) ≡ drop (end + 1) text =
        drop-drop (line_length (drop from text) + 1) from text ∙ ap (λ n. drop n text) (omega arith) in (
          sym same_start,
          lines_of-next (drop from text) more
              ∙ ap (λ bytes. take (line_length (drop from text)) (drop from text) ∷ lines_of bytes) past
              ∙ ap (λ n. take n (drop from text) ∷ lines_of (drop (end + 1) text)) long
              ∙ ap (λ n. take (end - start) (drop n text) ∷ lines_of (drop (end + 1) text)) same_start,
        )

-- a line in front is the first line
pub lines_of-line : (bytes rest : List ℕ) → is_line bytes ≡ true → lines_of (bytes ++ 10 ∷ rest) ≡ bytes ∷ lines_of rest
lines_of-line [] rest plain = refl
lines_of-line (b ∷ bs) rest plain =
    let parts = and_parts (not (b == 10)) (is_line bs) plain in
    let other : (b == 10) ≡ false = grind (arith, nat_tests) in
    rw other (ap (onto_first b) (lines_of-line bs rest parts.1))

pub lines_of-lines : (lines : List (List ℕ)) (rest : List ℕ) → list_all is_line lines ≡ true → lines_of (flat_map line lines ++ rest) ≡ lines ++ lines_of rest
lines_of-lines [] rest plain = refl
lines_of-lines (bytes ∷ more) rest plain =
    let parts = and_parts (is_line bytes) (list_all is_line more) plain in
    ap lines_of (append_assoc (line bytes) (flat_map line more) rest ∙ append_assoc bytes (10 ∷ []) (flat_map line more ++ rest))
    ∙ lines_of-line bytes (flat_map line more ++ rest) parts.0
    ∙ ap (λ lines. bytes ∷ lines) (lines_of-lines more rest parts.1)

-- the last line may lack its newline
pub lines_of-last : (bytes : List ℕ) → is_line bytes ≡ true → 0 < length bytes → lines_of bytes ≡ bytes ∷ []
lines_of-last [] plain some = absurd (omega arith)
lines_of-last (b ∷ []) plain some =
    let other : (b == 10) ≡ false = grind (arith, nat_tests, (and_parts (not (b == 10)) true plain).0) in
    rw other refl
lines_of-last (b ∷ c ∷ cs) plain some =
    let parts = and_parts (not (b == 10)) (is_line (c ∷ cs)) plain in
    let other : (b == 10) ≡ false = grind (arith, nat_tests) in
    rw other (ap (onto_first b) (lines_of-last (c ∷ cs) parts.1 (omega arith)))
