-- One spelling for each number.
use Rattle.np_text.proofs.Prelude.{Bool, IsNumeralModel, List, None, Option, SEQUENCE, Some, all_ascii_digits, and_parts, ap, arith, begins_as_number, cases_eq, cond, decimal, decimal-digits_value, decimal_digit, decimal_nonempty, digits_decimal, digits_value, digits_value-decimal, digits_value_short, digits_within, drop, drop_at, eq-eqb, eqb-true, false, first_decimal, get_or, if◌then◌else◌, inl, inr, is_ascii_digit, length, length-append, length-decimal-le, length-replicate, nat_le, nat_lt, nat_tests, not, number_of, numerals_by_value, one-add, padded, position, position_or_len, refl, replicate, sequence_of, suc, sym, tells_all_ascii_digits, ten_digits_of, true, unwrap_or, without_zeros, zero, ℕ, [], ◌&&◌, ◌++◌, ◌+◌, ◌-◌, ◌<◌, ◌==◌, ◌^◌, ◌∙◌, ◌∷◌, ◌≡◌, ◌≢◌, ◌≤◌, ◌⊎◌}
use Rattle.np_text.proofs.NumberLemmas.{padded_digit, digit_value_digit}

-- std's words for decimal texts
pub model : IsNumeralModel (λ ds. all_ascii_digits ds ≡ true) (digits_value 10)
model = numerals_by_value (λ ds. all_ascii_digits ds ≡ true) tells_all_ascii_digits

-- what follows if a test answers `Some`
pub when_some : {A : Type 0} (b : Bool) (x y : A) → (if b then Some x else None) ≡ Some y → (b ≡ true) × (x ≡ y)
when_some true x y answer = (refl, cc)
when_some false x y answer = absurd (cc)

pub when_found : {A : Type 0} (b : Bool) (o : Option A) (y : A) → (if b then o else None) ≡ Some y → (b ≡ true) × (o ≡ Some y)
when_found true o y answer = (refl, answer)
when_found false o y answer = absurd (cc)

-- ## Digits with zeros in front

pub digits_within-told : (max n : ℕ) (text : List ℕ) → digits_within max text ≡ Some n → (all_ascii_digits text ≡ true) × (digits_value 10 text ≤ max) × (digits_value 10 text ≡ n)
unfolding digits_within
digits_within-told max n text answer =
    let told = when_some (all_ascii_digits text && nat_le (digits_value 10 text) max) (digits_value 10 text) n answer in
    let tests = and_parts (all_ascii_digits text) (nat_le (digits_value 10 text) max) told.0 in
    (tests.0, grind (arith, nat_tests), told.1)

pub digits_within-digits : (max n : ℕ) (text : List ℕ) → all_ascii_digits text ≡ true → digits_value 10 text ≡ n → n ≤ max → digits_within max text ≡ Some n
unfolding digits_within
digits_within-digits max n text digits value most =
    let within : nat_le n max ≡ true = grind (arith, nat_tests) in
    rw (digits, value, within) refl

pub all_ascii_digits-zeros : (k : ℕ) (ds : List ℕ) → all_ascii_digits (replicate k 48 ++ ds) ≡ all_ascii_digits ds
all_ascii_digits-zeros zero ds = refl
all_ascii_digits-zeros (suc k) ds = all_ascii_digits-zeros k ds

pub digits_value-zeros : (k : ℕ) (ds : List ℕ) → digits_value 10 (replicate k 48 ++ ds) ≡ digits_value 10 ds
digits_value-zeros zero ds = refl
digits_value-zeros (suc k) ds = digits_value-zeros k ds

pub digits_within-padded : (k max n : ℕ) → n ≤ max → n < 2 ^ 64 → digits_within max (padded k n) ≡ Some n
digits_within-padded k max n most small =
    let zeros = k - length (decimal n) in
    digits_within-digits max n (padded k n)
    (all_ascii_digits-zeros zeros (decimal n) ∙ digits_decimal model n small)
    (digits_value-zeros zeros (decimal n) ∙ digits_value-decimal model n small) most

pub length-padded : (k n : ℕ) → 0 < k → n < 10 ^ k → n < 2 ^ 64 → length (padded k n) ≡ k
length-padded k n some fits small =
    simp (length-append, length-replicate) (omega (arith, length-decimal-le k n some fits small))

padded-zero : (k n : ℕ) → n < 10 ^ suc k → n < 2 ^ 64 → padded (suc (suc k)) n ≡ 48 ∷ padded (suc k) n
padded-zero k n fits small =
    let short = length-decimal-le (suc k) n (omega arith) fits small in
    let one_more : suc (suc k) - length (decimal n) ≡ suc (suc k - length (decimal n)) = omega arith in
    ap (λ j. replicate j 48 ++ decimal n) one_more

padded-full : (k n : ℕ) → length (decimal n) ≡ k → padded k n ≡ decimal n
padded-full k n full = let none : k - length (decimal n) ≡ 0 = omega arith in ap (λ j. replicate j 48 ++ decimal n) none

digit_alone : (c : ℕ) → is_ascii_digit c ≡ true → padded 1 (digits_value 10 (c ∷ [])) ≡ c ∷ []
digit_alone c digit =
    let value : digits_value 10 (c ∷ []) ≡ c - 48 = omega (arith, digit_value_digit c digit) in
    let range : (48 ≤ c) × (c - 48 < 10) = grind (arith, nat_tests) in
    let back : 48 + (c - 48) ≡ c = omega arith in
    ap (padded 1) value ∙ padded_digit 0 (c - 48) range.1 ∙ ap (λ d. d ∷ []) back

zero_in_front : (k c : ℕ) (cs : List ℕ) → c ≡ 48 → length cs ≡ suc k → all_ascii_digits cs ≡ true → digits_value 10 (c ∷ cs) < 2 ^ 64
    → (digits_value 10 cs < 2 ^ 64 → padded (suc k) (digits_value 10 cs) ≡ cs) → padded (suc (suc k)) (digits_value 10 (c ∷ cs)) ≡ c ∷ cs
zero_in_front k c cs zero_byte long digits small rest =
    let value : digits_value 10 (c ∷ cs) ≡ digits_value 10 cs = ap (λ b. digits_value 10 (b ∷ cs)) zero_byte in
    let fits = digits_value_short model cs (suc k) digits (omega arith) in
    ap (padded (suc (suc k))) value ∙ padded-zero k (digits_value 10 cs) fits (omega arith) ∙ ap (λ ds. 48 ∷ ds) (rest (omega arith)) ∙ ap (λ b. b ∷ cs) (sym zero_byte)

no_zero_in_front : (k c : ℕ) (cs : List ℕ) → c ≢ 48 → length (c ∷ cs) ≡ k → all_ascii_digits (c ∷ cs) ≡ true → digits_value 10 (c ∷ cs) < 2 ^ 64 → padded k (digits_value 10 (c ∷ cs)) ≡ c ∷ cs
no_zero_in_front k c cs other long digits small =
    let same = decimal-digits_value model (c ∷ cs) digits (omega arith) (λ is_zero. absurd (other is_zero)) small in
    padded-full k (digits_value 10 (c ∷ cs)) (ap length same ∙ long) ∙ same

-- digits are the spelling of their value at their own length
pub padded-digits_value : (k : ℕ) (text : List ℕ) → length text ≡ suc k → all_ascii_digits text ≡ true → digits_value 10 text < 2 ^ 64 → padded (suc k) (digits_value 10 text) ≡ text
padded-digits_value k [] long digits small = absurd (omega arith)
padded-digits_value zero (c ∷ []) long digits small = digit_alone c (and_parts (is_ascii_digit c) true digits).0
padded-digits_value zero (c ∷ d ∷ cs) long digits small = absurd (omega arith)
padded-digits_value (suc k) (c ∷ cs) long digits small =
    one_more (and_parts (is_ascii_digit c) (all_ascii_digits cs) digits) (padded-digits_value k cs (omega arith)) (cases_eq c 48)
  where
    one_more : (is_ascii_digit c ≡ true) × (all_ascii_digits cs ≡ true)
        → (all_ascii_digits cs ≡ true → digits_value 10 cs < 2 ^ 64 → padded (suc k) (digits_value 10 cs) ≡ cs)
        → (c ≡ 48) ⊎ (c ≢ 48) → padded (suc (suc k)) (digits_value 10 (c ∷ cs)) ≡ c ∷ cs
    one_more tests rest (inl zero_byte) = zero_in_front k c cs zero_byte (omega arith) tests.1 small (rest tests.1)
    one_more tests rest (inr other) = no_zero_in_front (suc (suc k)) c cs other long digits small

-- ## The spelling of numbers

begins-first : (text : List ℕ) → 48 < get_or text 0 0 → begins_as_number text ≡ true
begins-first [] first = absurd (omega arith)
begins-first (c ∷ []) first = refl
begins-first (c ∷ d ∷ cs) first = let other : (c == 48) ≡ false = grind (arith, nat_tests) in rw other refl

begins-decimal : (n : ℕ) → n < 2 ^ 64 → begins_as_number (decimal n) ≡ true
begins-decimal zero small = ap begins_as_number (decimal_digit 0 (omega arith))
begins-decimal (suc n) small = begins-first (decimal (suc n)) (first_decimal (suc n) (omega arith) small)

begins-no_zero : (text : List ℕ) → begins_as_number text ≡ true → (0 < length text) × (get_or text 0 0 ≡ 48 → length text ≡ 1)
begins-no_zero [] begins = absurd (cc)
begins-no_zero (c ∷ []) begins = (omega arith, λ is_zero. refl)
begins-no_zero (c ∷ d ∷ cs) begins = (omega arith, λ is_zero. absurd (grind (arith, nat_tests)))

pub number_of-decimal : (max n : ℕ) → n ≤ max → max < 2 ^ 64 → number_of max (decimal n) ≡ Some n
unfolding number_of
number_of-decimal max n most small =
    let begins = begins-decimal n (omega arith) in
    rw begins (digits_within-digits max n (decimal n) (digits_decimal model n (omega arith)) (digits_value-decimal model n (omega arith)) most)

pub number_of-spelled : (max n : ℕ) (text : List ℕ) → max < 2 ^ 64 → number_of max text ≡ Some n → (n ≤ max) × (decimal n ≡ text)
unfolding number_of
number_of-spelled max n text small answer =
    let found = when_found (begins_as_number text) (digits_within max text) n answer in
    let told = digits_within-told max n text found.1 in
    let front = begins-no_zero text found.0 in
    (omega arith, ap decimal (sym told.2) ∙ decimal-digits_value model text told.0 front.0 front.1 (omega arith))

-- ## Ten digits

pub sequence_of-ten_digits_of : (n : ℕ) → n < 2 ^ 32 → sequence_of (ten_digits_of n) ≡ Some n
unfolding sequence_of ten_digits_of
sequence_of-ten_digits_of n small =
    let ten : (length (padded 10 n) == 10) ≡ true = eq-eqb (length (padded 10 n)) 10 (length-padded 10 n (omega arith) (omega arith) (omega arith)) in
    rw ten (digits_within-padded 10 SEQUENCE n (omega arith) (omega arith))

pub sequence_of-spelled : (n : ℕ) (text : List ℕ) → sequence_of text ≡ Some n → (n < 2 ^ 32) × (ten_digits_of n ≡ text)
unfolding sequence_of ten_digits_of
sequence_of-spelled n text answer =
    let found = when_found (length text == 10) (digits_within SEQUENCE text) n answer in
    let told = digits_within-told SEQUENCE n text found.1 in
    let long : length text ≡ 10 = eqb-true (length text) 10 found.0 in
    (omega arith, ap (padded 10) (sym told.2) ∙ padded-digits_value 9 text long told.0 (omega arith))

pub some_injective : {A : Type 0} (x y : A) → Some x ≡ Some y → x ≡ y
some_injective x y same = cc

pub ten_digits_of-injective : (m n : ℕ) → m < 2 ^ 32 → n < 2 ^ 32 → ten_digits_of m ≡ ten_digits_of n → m ≡ n
ten_digits_of-injective m n m_small n_small same =
    some_injective m n (sym (sequence_of-ten_digits_of m m_small) ∙ ap sequence_of same ∙ sequence_of-ten_digits_of n n_small)

-- ## Without zeros in front

zeros_passed : (k : ℕ) (ds : List ℕ) → 48 < get_or ds 0 0 → position_or_len (λ digit. not (digit == 48)) (replicate k 48 ++ ds) ≡ k
zeros_passed zero [] first = absurd (omega arith)
zeros_passed zero (c ∷ cs) first = let other : (c == 48) ≡ false = grind (arith, nat_tests) in rw other refl
zeros_passed (suc k) ds first = ap (λ n. 1 + n) (zeros_passed k ds first) ∙ one-add k

zeros_dropped : (k : ℕ) (ds : List ℕ) → 48 < get_or ds 0 0 → 0 < length ds → without_zeros (replicate k 48 ++ ds) ≡ ds
unfolding without_zeros
zeros_dropped k ds first some =
    let digits = replicate k 48 ++ ds in
    let passed = zeros_passed k ds first in
    let long : k < length digits = simp (length-append, length-replicate) (omega arith) in
    let before : nat_lt k (length digits) ≡ true = grind (arith, nat_tests) in
    let found : position (λ digit. not (digit == 48)) digits ≡ Some k =
    ap (λ n. cond (nat_lt n (length digits)) (Some n) None) passed ∙ ap (λ b. cond b (Some k) None) before in
    ap (λ o. drop (unwrap_or o (length digits - 1)) digits) found ∙ drop_at (replicate k 48) ds k (length-replicate k 48)

only_zeros : without_zeros (padded 20 0) ≡ decimal 0
unfolding without_zeros
only_zeros =
    let one = decimal_digit 0 (omega arith) in
    ap (λ ds. without_zeros (replicate (20 - length ds) 48 ++ ds)) one ∙ sym one

-- twenty digits are room for each number below 2 ^ 64
pub without_zeros-padded : (n : ℕ) → n < 2 ^ 64 → without_zeros (padded 20 n) ≡ decimal n
without_zeros-padded zero small = only_zeros
without_zeros-padded (suc n) small = zeros_dropped (20 - length (decimal (suc n))) (decimal (suc n)) (first_decimal (suc n) (omega arith) small) (decimal_nonempty (suc n) small)
