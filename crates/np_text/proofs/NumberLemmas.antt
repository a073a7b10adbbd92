-- Lemmas on numbers and their decimal spelling.
use Rattle.np_text.proofs.Prelude.{List, None, Option, Some, add-one, all_ascii_digits, and_right, ap, append-nil, append_assoc, arith, cases_lt, decimal, decimal_digit, decimal_step, digit_value, digits_value_after, digits_within, drop, drop-set, drop_all, drop_more, false, get_or, if◌then◌else◌, inl, inr, is_ascii_digit, length, length_push, nat_le, nat_tests, padded, refl, replicate, replicate_more, set, suc, sym, true, zero, ℕ, [], ◌%◌, ◌&&◌, ◌*◌, ◌++◌, ◌+◌, ◌-◌, ◌/◌, ◌<◌, ◌^◌, ◌∙◌, ◌∷◌, ◌≡◌, ◌≤◌, ◌⊎◌}

-- ## Reading from the left

-- what digits spell behind the number n, if it is at most max
unfoldable pub digits_from : ℕ → ℕ → List ℕ → Option ℕ
digits_from max n cs = if all_ascii_digits cs && nat_le (digits_value_after 10 n cs) max then Some (digits_value_after 10 n cs) else None

pub digits_from-start : (max : ℕ) (cs : List ℕ) → digits_from max 0 cs ≡ digits_within max cs
unfolding digits_from digits_within
digits_from-start max cs = refl

pub digit_value_digit : (c : ℕ) → is_ascii_digit c ≡ true → digit_value c ≡ c - 48
digit_value_digit c digit = grind (arith, nat_tests)

-- the four steps of a reading: a digit, another byte, a value past max, the end
pub digits_from-digit : (max n i : ℕ) (text : List ℕ) → i < length text → is_ascii_digit (get_or text i 0) ≡ true
    → digits_from max n (drop i text) ≡ digits_from max (n * 10 + (get_or text i 0 - 48)) (drop (i + 1) text)
unfolding digits_from
digits_from-digit max n i text within digit =
    ap (λ cs. digits_from max n cs) (drop_more text i 0 within)
    ∙ (rw digit refl)
    ∙ ap (λ v. digits_from max (n * 10 + v) (drop (i + 1) text)) (digit_value_digit (get_or text i 0) digit)

pub digits_from-other : (max n i : ℕ) (text : List ℕ) → i < length text → is_ascii_digit (get_or text i 0) ≡ false → digits_from max n (drop i text) ≡ None
unfolding digits_from
digits_from-other max n i text within other = rw (drop_more text i 0 within, other) refl

digits_value_after_ge : (n : ℕ) (cs : List ℕ) → n ≤ digits_value_after 10 n cs
digits_value_after_ge n [] = omega arith
digits_value_after_ge n (c ∷ cs) = omega (arith, digits_value_after_ge (n * 10 + digit_value c) cs)

pub digits_from_past : (max n : ℕ) (cs : List ℕ) → max < n → digits_from max n cs ≡ None
unfolding digits_from
digits_from_past max n cs past =
    let above = digits_value_after_ge n cs in
    let over : nat_le (digits_value_after 10 n cs) max ≡ false = grind (arith, nat_tests) in
    rw (and_right (all_ascii_digits cs) (nat_le (digits_value_after 10 n cs) max) over) refl

pub digits_from-more_past : (max n i : ℕ) (text : List ℕ) → i < length text → is_ascii_digit (get_or text i 0) ≡ true → max < n * 10 + (get_or text i 0 - 48)
    → digits_from max n (drop i text) ≡ None
digits_from-more_past max n i text within digit past =
    digits_from-digit max n i text within digit ∙ digits_from_past max (n * 10 + (get_or text i 0 - 48)) (drop (i + 1) text) past

pub digits_from_end : (max n i : ℕ) (text : List ℕ) → length text ≤ i → digits_from max n (drop i text) ≡ (if nat_le n max then Some n else None)
unfolding digits_from
digits_from_end max n i text ends = rw (drop_all i text ends) refl

pub ruleset reading = (digits_from-start, digits_from-digit, digits_from-other, digits_from-more_past, digits_from_end, nat_tests)

-- ## Writing from the right

-- the last k digits of n
unfoldable pub last_digits : ℕ → ℕ → List ℕ
last_digits zero n = []
last_digits (suc k) n = last_digits k (n / 10) ++ (48 + n % 10) ∷ []

last_digits-more : (k n : ℕ) → last_digits (k + 1) n ≡ last_digits k (n / 10) ++ (48 + n % 10) ∷ []
unfolding last_digits
last_digits-more k n = rw add-one refl

-- one digit written in front of those that are there
pub last_digits-write : (k n : ℕ) (out : List ℕ) → k < length out → last_digits (k + 1) n ++ drop (k + 1) out ≡ last_digits k (n / 10) ++ drop k (set out k (48 + n % 10))
last_digits-write k n out within =
    ap (λ ds. ds ++ drop (k + 1) out) (last_digits-more k n)
    ∙ append_assoc (last_digits k (n / 10)) ((48 + n % 10) ∷ []) (drop (k + 1) out)
    ∙ ap (λ rest. last_digits k (n / 10) ++ rest) (sym (drop-set out k (48 + n % 10) within))

pub last_digits-start : (n : ℕ) (out : List ℕ) → last_digits (length out) n ++ drop (length out) out ≡ last_digits (length out) n
last_digits-start n out = ap (λ rest. last_digits (length out) n ++ rest) (drop_all (length out) out (omega arith)) ∙ append-nil (last_digits (length out) n)

pub padded_digit : (k n : ℕ) → n < 10 → padded (suc k) n ≡ replicate k 48 ++ (48 + n) ∷ []
padded_digit k n one = rw (decimal_digit n one) (ap (λ j. replicate j 48 ++ (48 + n) ∷ []) (omega arith))

padded_step : (k n : ℕ) → 10 ≤ n → n < 2 ^ 64 → padded (suc k) n ≡ padded k (n / 10) ++ (48 + n % 10) ∷ []
padded_step k n many small =
    let step = decimal_step n many small in
    let longer : length (decimal n) ≡ length (decimal (n / 10)) + 1 = ap length step ∙ length_push (decimal (n / 10)) (48 + n % 10) in
    let fewer : suc k - length (decimal n) ≡ k - length (decimal (n / 10)) = omega arith in
    ap (λ j. replicate j 48 ++ decimal n) fewer
    ∙ ap (λ ds. replicate (k - length (decimal (n / 10))) 48 ++ ds) step
    ∙ sym (append_assoc (replicate (k - length (decimal (n / 10))) 48) (decimal (n / 10)) ((48 + n % 10) ∷ []))

div_small : (n k : ℕ) → n < 10 ^ suc (suc k) → n / 10 < 10 ^ suc k
div_small n k fits = grind arith

-- the last digits are the decimal spelling with zeros in front, if they are all digits
pub last_digits-padded : (k n : ℕ) → n < 10 ^ suc k → n < 2 ^ 64 → last_digits (suc k) n ≡ padded (suc k) n
unfolding last_digits
last_digits-padded zero n fits small =
    let one : n < 10 = omega arith in
    ap (λ d. (48 + d) ∷ []) (omega arith) ∙ sym (padded_digit 0 n one)
last_digits-padded (suc k) n fits small = one_more (last_digits-padded k (n / 10) (div_small n k fits) (omega arith)) (cases_lt n 10)
  where
    one_more : last_digits (suc k) (n / 10) ≡ padded (suc k) (n / 10) → (n < 10) ⊎ (10 ≤ n) → last_digits (suc (suc k)) n ≡ padded (suc (suc k)) n
    one_more front (inl one) =
        let gone : n / 10 ≡ 0 = omega arith in
        let same : n % 10 ≡ n = omega arith in
        ap (λ ds. ds ++ (48 + n % 10) ∷ []) (front ∙ ap (padded (suc k)) gone ∙ padded_digit k 0 (omega arith))
        ∙ ap (λ d. (replicate k 48 ++ 48 ∷ []) ++ (48 + d) ∷ []) same
        ∙ ap (λ zeros. zeros ++ (48 + n) ∷ []) (replicate_more k 48 ∙ ap (λ j. replicate j 48) (add-one k))
        ∙ sym (padded_digit (suc k) n one)
    one_more front (inr many) = ap (λ ds. ds ++ (48 + n % 10) ∷ []) front ∙ sym (padded_step (suc k) n many small)

pub last_digits-end : (k rest : ℕ) (out all : List ℕ) → last_digits k rest ++ drop k out ≡ all → k ≡ 0 → out ≡ all
unfolding last_digits
last_digits-end zero rest out all whole at_start = whole
last_digits-end (suc k) rest out all whole at_start = absurd (omega arith)

-- what `fill_digits` leaves
pub padded-filled : (k n : ℕ) → 0 < k → n < 10 ^ k → n < 2 ^ 64 → last_digits k n ≡ padded k n
padded-filled zero n some fits small = absurd (omega arith)
padded-filled (suc k) n some fits small = last_digits-padded k n fits small

pub ruleset writing = (last_digits-write, last_digits-start, padded-filled)
