-- Digits of one length are in byte order as their numbers are.
use Rattle.np_text.proofs.Prelude.{Equal, Greater, HasText, Less, List, Ordering, RequestId, all_ascii_digits, and_parts, ap, arith, cases_lt, cond_both, decimal, digit_glyph, digit_value, digits, digits_decimal, digits_onto, digits_value, digits_value-decimal, digits_value_after, false, inl, inr, is_ascii_digit, length, length-append, length-replicate, nat_cmp, nat_cmp_is, nat_tests, ordering_then, refl, request_cmp, request_text_of, slice_cmp, suc, sym, ten_digits_of, true, zero, ℕ, [], ◌%◌, ◌*◌, ◌++◌, ◌+◌, ◌-◌, ◌/◌, ◌<◌, ◌==◌, ◌^◌, ◌∙◌, ◌∷◌, ◌≡◌, ◌≤◌, ◌⊎◌}
use Rattle.np_text.proofs.NumberLemmas.{digit_value_digit}
use Rattle.np_text.proofs.SpellingLemmas.{model, length-padded, all_ascii_digits-zeros, digits_value-zeros}
use Rattle.np_text.proofs.RequestLemmas.{decimal_three}

-- ## Comparisons of lists

pub nat_cmp-less : (m n : ℕ) → m < n → nat_cmp m n ≡ Less
nat_cmp-less m n less = sym (nat_cmp_is m n Less less)

pub nat_cmp-same : (m n : ℕ) → m ≡ n → nat_cmp m n ≡ Equal
nat_cmp-same m n same = sym (nat_cmp_is m n Equal same)

pub nat_cmp-more : (m n : ℕ) → n < m → nat_cmp m n ≡ Greater
nat_cmp-more m n more = sym (nat_cmp_is m n Greater more)

pub then-assoc : (o p q : Ordering) → ordering_then o (ordering_then p q) ≡ ordering_then (ordering_then o p) q
then-assoc Less p q = refl
then-assoc o p q = refl

-- parts of one length are compared in turn
pub slice_cmp-append : (xs ys us vs : List ℕ) → length xs ≡ length ys
    → slice_cmp nat_cmp (xs ++ us) (ys ++ vs) ≡ ordering_then (slice_cmp nat_cmp xs ys) (slice_cmp nat_cmp us vs)
slice_cmp-append [] [] us vs same = refl
slice_cmp-append (x ∷ xs) (y ∷ ys) us vs same =
    ap (ordering_then (nat_cmp x y)) (slice_cmp-append xs ys us vs (omega arith))
    ∙ then-assoc (nat_cmp x y) (slice_cmp nat_cmp xs ys) (slice_cmp nat_cmp us vs)
slice_cmp-append xs ys us vs same = absurd (omega arith)

-- ## Digits of one length

digit_below : (c : ℕ) → is_ascii_digit c ≡ true → (digit_value c ≡ c - 48) × (48 ≤ c) × (c < 58)
digit_below c digit = (digit_value_digit c digit, grind (arith, nat_tests), grind (arith, nat_tests))

-- a smaller front makes a smaller number
after-less : (m n : ℕ) (xs ys : List ℕ) → m < n → length xs ≡ length ys → all_ascii_digits xs ≡ true → all_ascii_digits ys ≡ true
    → digits_value_after 10 m xs < digits_value_after 10 n ys
after-less m n [] [] less same xs_digits ys_digits = less
after-less m n (x ∷ xs) (y ∷ ys) less same xs_digits ys_digits =
    let x_parts = and_parts (is_ascii_digit x) (all_ascii_digits xs) xs_digits in
    let y_parts = and_parts (is_ascii_digit y) (all_ascii_digits ys) ys_digits in
    let x_digit = digit_below x x_parts.0 in
    after-less (m * 10 + digit_value x) (n * 10 + digit_value y) xs ys (omega (arith, x_digit)) (omega arith) x_parts.1 y_parts.1
after-less m n xs ys less same xs_digits ys_digits = absurd (omega arith)

-- digits of one length, behind one front, are in order as their numbers are
slice_cmp-after : (n : ℕ) (xs ys : List ℕ) → length xs ≡ length ys → all_ascii_digits xs ≡ true → all_ascii_digits ys ≡ true
    → slice_cmp nat_cmp xs ys ≡ nat_cmp (digits_value_after 10 n xs) (digits_value_after 10 n ys)
slice_cmp-after n [] [] same xs_digits ys_digits = sym (nat_cmp-same n n refl)
slice_cmp-after n (x ∷ xs) (y ∷ ys) same xs_digits ys_digits =
    cases (and_parts (is_ascii_digit x) (all_ascii_digits xs) xs_digits) (and_parts (is_ascii_digit y) (all_ascii_digits ys) ys_digits)
    (λ m x_rest y_rest. slice_cmp-after m xs ys (omega arith) x_rest y_rest) (cases_lt x y) (cases_lt y x)
  where
    cases : (is_ascii_digit x ≡ true) × (all_ascii_digits xs ≡ true) → (is_ascii_digit y ≡ true) × (all_ascii_digits ys ≡ true)
        → ((m : ℕ) → all_ascii_digits xs ≡ true → all_ascii_digits ys ≡ true → slice_cmp nat_cmp xs ys ≡ nat_cmp (digits_value_after 10 m xs) (digits_value_after 10 m ys))
        → (x < y) ⊎ (y ≤ x) → (y < x) ⊎ (x ≤ y)
        → slice_cmp nat_cmp (x ∷ xs) (y ∷ ys) ≡ nat_cmp (digits_value_after 10 n (x ∷ xs)) (digits_value_after 10 n (y ∷ ys))
    cases x_parts y_parts rest (inl less) other =
        let x_digit = digit_below x x_parts.0 in
        let y_digit = digit_below y y_parts.0 in
        let smaller = after-less (n * 10 + digit_value x) (n * 10 + digit_value y) xs ys (omega (arith, x_digit, y_digit)) (omega arith) x_parts.1 y_parts.1 in
        rw (nat_cmp-less x y less) (sym (nat_cmp-less _ _ smaller))
    cases x_parts y_parts rest (inr least) (inl more) =
        let x_digit = digit_below x x_parts.0 in
        let y_digit = digit_below y y_parts.0 in
        let smaller = after-less (n * 10 + digit_value y) (n * 10 + digit_value x) ys xs (omega (arith, x_digit, y_digit)) (omega arith) y_parts.1 x_parts.1 in
        rw (nat_cmp-more x y more) (sym (nat_cmp-more _ _ smaller))
    cases x_parts y_parts rest (inr least) (inr most) =
        let same_digit : x ≡ y = omega arith in
        rw (nat_cmp-same x y same_digit) (rest (n * 10 + digit_value x) x_parts.1 y_parts.1 ∙ ap (λ d. nat_cmp (digits_value_after 10 (n * 10 + digit_value x) xs) (digits_value_after 10 (n * 10 + digit_value d) ys)) same_digit)
slice_cmp-after n xs ys same xs_digits ys_digits = absurd (omega arith)

-- ## Ten digits

digit_glyph-digit : (n : ℕ) → is_ascii_digit (digit_glyph false (n % 10)) ≡ true
digit_glyph-digit n = grind (arith, nat_tests)

digits_onto-digits : (k n : ℕ) (acc : List ℕ) → all_ascii_digits acc ≡ true → all_ascii_digits (digits_onto k 10 false n acc) ≡ true
digits_onto-digits zero n acc digits = digits
digits_onto-digits (suc k) n acc digits =
    let more : all_ascii_digits (digit_glyph false (n % 10) ∷ acc) ≡ true = rw (digit_glyph-digit n) digits in
    cond_both (n / 10 == 0) _ _ (λ (ds : List ℕ). all_ascii_digits ds ≡ true) (λ _. more) (λ _. digits_onto-digits k (n / 10) (digit_glyph false (n % 10) ∷ acc) more)

pub all_ascii_digits-ten : (n : ℕ) → all_ascii_digits (ten_digits_of n) ≡ true
unfolding ten_digits_of digits
all_ascii_digits-ten n = all_ascii_digits-zeros (10 - length (decimal n)) (decimal n) ∙ digits_onto-digits 64 n [] refl

pub length-ten : (n : ℕ) → n < 2 ^ 32 → length (ten_digits_of n) ≡ 10
unfolding ten_digits_of
length-ten n small = length-padded 10 n (omega arith) (omega arith) (omega arith)

pub ten-le-length : (n : ℕ) → 10 ≤ length (ten_digits_of n)
unfolding ten_digits_of
ten-le-length n = simp (length-append, length-replicate) (omega arith)

value-ten : (n : ℕ) → n < 2 ^ 32 → digits_value 10 (ten_digits_of n) ≡ n
unfolding ten_digits_of
value-ten n small = digits_value-zeros (10 - length (decimal n)) (decimal n) ∙ digits_value-decimal model n (omega arith)

pub slice_cmp-ten : (m n : ℕ) → m < 2 ^ 32 → n < 2 ^ 32 → slice_cmp nat_cmp (ten_digits_of m) (ten_digits_of n) ≡ nat_cmp m n
slice_cmp-ten m n m_small n_small =
    slice_cmp-after 0 (ten_digits_of m) (ten_digits_of n) (length-ten m m_small ∙ sym (length-ten n n_small)) (all_ascii_digits-ten m) (all_ascii_digits-ten n)
    ∙ ap (λ v. nat_cmp v (digits_value 10 (ten_digits_of n))) (value-ten m m_small) ∙ ap (nat_cmp m) (value-ten n n_small)

-- ## The texts of requests

-- numbers of three digits
slice_cmp-three : (m n : ℕ) → 100 ≤ m → m ≤ 999 → 100 ≤ n → n ≤ 999 → slice_cmp nat_cmp (decimal m) (decimal n) ≡ nat_cmp m n
slice_cmp-three m n m_least m_most n_least n_most =
    slice_cmp-after 0 (decimal m) (decimal n) (ap length (decimal_three m m_least m_most) ∙ sym (ap length (decimal_three n n_least n_most)))
    (digits_decimal model m (omega arith)) (digits_decimal model n (omega arith))
    ∙ ap (λ v. nat_cmp v (digits_value 10 (decimal n))) (digits_value-decimal model m (omega arith)) ∙ ap (nat_cmp m) (digits_value-decimal model n (omega arith))

pub slice_cmp-request_text : (a b : RequestId) → HasText a → HasText b → slice_cmp nat_cmp (request_text_of a) (request_text_of b) ≡ request_cmp a b
unfolding request_text_of
slice_cmp-request_text a b a_has b_has =
    slice_cmp-append (decimal a.priority) (decimal b.priority) (45 ∷ ten_digits_of a.seq) (45 ∷ ten_digits_of b.seq)
    (ap length (decimal_three a.priority a_has.least a_has.most) ∙ sym (ap length (decimal_three b.priority b_has.least b_has.most)))
    ∙ ap (λ o. ordering_then o (slice_cmp nat_cmp (ten_digits_of a.seq) (ten_digits_of b.seq))) (slice_cmp-three a.priority b.priority a_has.least a_has.most b_has.least b_has.most)
    ∙ ap (ordering_then (nat_cmp a.priority b.priority)) (slice_cmp-ten a.seq b.seq a_has.sequence b_has.sequence)
