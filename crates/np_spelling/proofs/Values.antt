-- numbers and ids are read as they are spelled
use Rattle.np_spelling.proofs.Prelude.{Bool, HasText, List, None, Option, RequestId, Some, [], all_ascii_digits, all_ascii_digits-ten, and_parts, ap, append-nil, append_assoc, arith, begins, cases_eq, codes, decimal, decimal-digits_value, decimal_digit, decimal_injective, decimal_nonempty, decimal_step, decimal_three, digit_value, digit_value_digit, digits, digits_decimal, digits_value, digits_value-decimal, digits_value-zeros, digits_value_after, eqb-true, false, first_decimal, fixed, get_or, if◌then◌else◌, inl, inr, is_ascii_digit, length, length-decimal-le, length-padded, model, nat_le, nat_tests, nonzero, number, padded, padded-digits_value, priority_limits, refl, request_text_of, sequence_limits, subst, suc, sym, ten_digits_of, true, ℕ, ◌%◌, ◌&&◌, ◌*◌, ◌++◌, ◌+◌, ◌-◌, ◌/◌, ◌<◌, ◌==◌, ◌^◌, ◌∙◌, ◌∷◌, ◌≡◌, ◌≢◌, ◌≤◌, ◌⊎◌}
use Rattle.np_spelling.proofs.Readers.{Any, NoDigit, Read, Says, Told, Valued, agree_front, begins_same, behind, giving, leading, told_by, valued}

-- # Readers of numbers, with their laws.

-- ## Digits after a number

-- digits after n, which make it m, at most max
abbrev pub Longer : ℕ → ℕ → Type 0
Longer max n = (m : ℕ) × (m ≤ max) × (t : List ℕ) × (decimal n ++ t ≡ decimal m)

abbrev longer_text : (max n : ℕ) → Longer max n → List ℕ
longer_text max n t = t.2

abbrev longer_value : (max n : ℕ) → Longer max n → ℕ
longer_value max n t = t.0

pub decimal_more : (n c : ℕ) → 1 ≤ n → is_ascii_digit c ≡ true → n * 10 + (c - 48) < 2 ^ 64 → decimal (n * 10 + (c - 48)) ≡ decimal n ++ c ∷ []
decimal_more n c some digit small =
    let range : (48 ≤ c) × (c - 48 < 10) = grind (arith, nat_tests) in
    let front : (n * 10 + (c - 48)) / 10 ≡ n = omega arith in
    let last : 48 + (n * 10 + (c - 48)) % 10 ≡ c = omega arith in
    decimal_step (n * 10 + (c - 48)) (omega arith) small ∙ ap (λ x. decimal x ++ (48 + (n * 10 + (c - 48)) % 10) ∷ []) front ∙ ap (λ d. decimal n ++ d ∷ []) last

abbrev one_longer : (max n c : ℕ) → decimal (n * 10 + (c - 48)) ≡ decimal n ++ c ∷ [] → Longer max (n * 10 + (c - 48)) → Longer max n
one_longer max n c step t = (t.0, t.1, c ∷ t.2, sym (append_assoc (decimal n) (c ∷ []) t.2) ∙ ap (λ x. x ++ t.2) (sym step) ∙ t.3)

abbrev DigitsTold : ℕ → ℕ → List ℕ → Option ℕ → List ℕ → Type 0
DigitsTold max n s o left = Told (digits max n) (longer_text max n) (longer_value max n) s o left

-- no more digits
abbrev ended : (max n : ℕ) → n ≤ max → Longer max n
ended max n most = (n, most, [], append-nil (decimal n))

digits_told_at : (max n c : ℕ) (cs : List ℕ) (v : Bool) → (is_ascii_digit c && nat_le (n * 10 + (c - 48)) max) ≡ v → n ≤ max → 1 ≤ n → max < 2 ^ 64
    → (n * 10 + (c - 48) ≤ max → DigitsTold max (n * 10 + (c - 48)) cs (digits max (n * 10 + (c - 48)) cs).0 (digits max (n * 10 + (c - 48)) cs).1)
    → DigitsTold max n (c ∷ cs) (digits max n (c ∷ cs)).0 (digits max n (c ∷ cs)).1
unfolding digits
digits_told_at max n c cs true test most some small rest =
    let tests = and_parts (is_ascii_digit c) (nat_le (n * 10 + (c - 48)) max) test in
    let fits : n * 10 + (c - 48) ≤ max = grind (arith, nat_tests) in
    let step = decimal_more n c some tests.0 (omega arith) in
    rw test (told_by (digits max (n * 10 + (c - 48))) (longer_text max (n * 10 + (c - 48))) (longer_value max (n * 10 + (c - 48))) (digits max n) (longer_text max n) (longer_value max n) (one_longer max n c step) (c ∷ []) (λ t. refl) (λ t. refl) cs (λ x agree. rw test refl)
    (digits max (n * 10 + (c - 48)) cs).0 (digits max (n * 10 + (c - 48)) cs).1 (rest fits))
digits_told_at max n c cs false test most some small rest =
    rw test ([], refl, (ended max n most, refl, refl), λ x agree. rw agree.1 (rw test refl))

pub digits_told : (max n : ℕ) (s : List ℕ) → n ≤ max → 1 ≤ n → max < 2 ^ 64 → DigitsTold max n s (digits max n s).0 (digits max n s).1
unfolding digits
digits_told max n [] most some small = ([], refl, (ended max n most, refl, refl), λ x agree. absurd agree)
digits_told max n (c ∷ cs) most some small =
    digits_told_at max n c cs (is_ascii_digit c && nat_le (n * 10 + (c - 48)) max) refl most some small
    (λ fits. digits_told max (n * 10 + (c - 48)) cs fits (omega arith) small)

value_after_ge : (n : ℕ) (cs : List ℕ) → n ≤ digits_value_after 10 n cs
value_after_ge n [] = omega arith
value_after_ge n (c ∷ cs) = omega (arith, value_after_ge (n * 10 + digit_value c) cs)

value_append : (n : ℕ) (xs ys : List ℕ) → digits_value_after 10 n (xs ++ ys) ≡ digits_value_after 10 (digits_value_after 10 n xs) ys
value_append n [] ys = refl
value_append n (x ∷ xs) ys = value_append (n * 10 + digit_value x) xs ys

digit_behind : (xs : List ℕ) (c : ℕ) (t : List ℕ) → all_ascii_digits (xs ++ c ∷ t) ≡ true → is_ascii_digit c ≡ true
digit_behind [] c t all = (and_parts (is_ascii_digit c) (all_ascii_digits t) all).0
digit_behind (x ∷ xs) c t all = digit_behind xs c t (and_parts (is_ascii_digit x) (all_ascii_digits (xs ++ c ∷ t)) all).1

-- one more digit is a digit, and makes at most the whole number
part_fits : (n m c : ℕ) (t : List ℕ) → n < 2 ^ 64 → m < 2 ^ 64 → decimal n ++ c ∷ t ≡ decimal m → (is_ascii_digit c ≡ true) × (n * 10 + (c - 48) ≤ m)
part_fits n m c t n_small m_small whole =
    let digit = digit_behind (decimal n) c t (ap all_ascii_digits whole ∙ digits_decimal model m m_small) in
    let value = sym (value_append 0 (decimal n) (c ∷ t)) ∙ ap (digits_value 10) whole ∙ digits_value-decimal model m m_small in
    let value' = ap (λ v. digits_value_after 10 v (c ∷ t)) (sym (digits_value-decimal model n n_small)) ∙ value in
    let least = value_after_ge (n * 10 + digit_value c) t in
    let same = digit_value_digit c digit in
    (digit, omega arith)

digits_end : (max n : ℕ) (x : List ℕ) → NoDigit x → digits max n x ≡ (Some n, x)
unfolding digits
digits_end max n [] follows = refl
digits_end max n (c ∷ cs) follows = rw follows refl

pub digits_complete : (max n m : ℕ) (t x : List ℕ) → m ≤ max → decimal n ++ t ≡ decimal m → 1 ≤ n → n ≤ max → max < 2 ^ 64 → NoDigit x → digits max n (t ++ x) ≡ (Some m, x)
unfolding digits
digits_complete max n m [] x most whole some n_most small follows =
    let same = decimal_injective n m (omega arith) (omega arith) (sym (append-nil (decimal n)) ∙ whole) in
    digits_end max n x follows ∙ ap (λ k. (Some k, x)) same
digits_complete max n m (c ∷ t) x most whole some n_most small follows =
    let part = part_fits n m c t (omega arith) (omega arith) whole in
    let fits : nat_le (n * 10 + (c - 48)) max ≡ true = grind (arith, nat_tests) in
    let step = decimal_more n c some part.0 (omega arith) in
    let rest = digits_complete max (n * 10 + (c - 48)) m t x most (ap (λ d. d ++ t) step ∙ append_assoc (decimal n) (c ∷ []) t ∙ whole) (omega arith) (omega arith) small follows in
    rw (part.0, fits) rest

-- ## Numbers

abbrev pub Within : ℕ → Type 0
Within max = (m : ℕ) × (m ≤ max)

abbrev pub within_text : (max : ℕ) → Within max → List ℕ
within_text max t = decimal t.0

abbrev pub within_value : (max : ℕ) → Within max → ℕ
within_value max t = t.0

abbrev NumberTold : ℕ → List ℕ → Option ℕ → List ℕ → Type 0
NumberTold max s o left = Told (number max) (within_text max) (within_value max) s o left

digit_text : (c : ℕ) → is_ascii_digit c ≡ true → decimal (c - 48) ≡ c ∷ []
digit_text c digit =
    let range : (48 ≤ c) × (c - 48 < 10) = grind (arith, nat_tests) in
    let back : 48 + (c - 48) ≡ c = omega arith in
    decimal_digit (c - 48) range.1 ∙ ap (λ d. d ∷ []) back

number_told_at : (max c : ℕ) (cs : List ℕ) (v w : Bool) → is_ascii_digit c ≡ v → (c == 48) ≡ w → 9 ≤ max → max < 2 ^ 64
    → NumberTold max (c ∷ cs) (number max (c ∷ cs)).0 (number max (c ∷ cs)).1
unfolding number
number_told_at max c cs true true digit is least small =
    let zero_byte = eqb-true c 48 is in
    let text : decimal 0 ≡ c ∷ [] = decimal_digit 0 (omega arith) ∙ ap (λ d. d ∷ []) (sym zero_byte) in
    rw (digit, is) (c ∷ [], refl, ((0, omega arith), refl, text), λ x agree. rw (digit, is) refl)
number_told_at max c cs true false digit is least small =
    let range : (48 ≤ c) × (c - 48 < 10) = grind (arith, nat_tests) in
    let above : 1 ≤ c - 48 = grind (arith, nat_tests) in
    rw (digit, is) (told_by (digits max (c - 48)) (longer_text max (c - 48)) (longer_value max (c - 48)) (number max) (within_text max) (within_value max) (λ (t : Longer max (c - 48)). (t.0, t.1)) (c ∷ []) (λ t. refl)
    (λ t. sym t.3 ∙ ap (λ d. d ++ t.2) (digit_text c digit)) cs (λ x agree. rw (digit, is) refl)
    (digits max (c - 48) cs).0 (digits max (c - 48) cs).1 (digits_told max (c - 48) cs (omega arith) above small))
number_told_at max c cs false w other is least small =
    rw other ([], refl, ((0, omega arith), decimal 0, refl), λ x agree. rw agree.1 (rw other refl))

pub number_told : (max : ℕ) → 9 ≤ max → max < 2 ^ 64 → (s : List ℕ) → NumberTold max s (number max s).0 (number max s).1
unfolding number
number_told max least small [] = ([], refl, ((0, omega arith), decimal 0, refl), λ x agree. absurd agree)
number_told max least small (c ∷ cs) = number_told_at max c cs (is_ascii_digit c) (c == 48) refl refl least small

number_behind : (max m : ℕ) (text x : List ℕ) → decimal m ≡ text → 48 < get_or text 0 0 → all_ascii_digits text ≡ true → m ≤ max → 9 ≤ max → max < 2 ^ 64 → NoDigit x
    → number max (text ++ x) ≡ (Some m, x)
unfolding number
number_behind max m [] x is first all most least small follows = absurd (omega arith)
number_behind max m (c ∷ t) x is first all most least small follows =
    let digit = (and_parts (is_ascii_digit c) (all_ascii_digits t) all).0 in
    let range : (48 ≤ c) × (c - 48 < 10) = grind (arith, nat_tests) in
    let above : 48 < c = first in
    let other : (c == 48) ≡ false = grind (arith, nat_tests) in
    let whole = ap (λ d. d ++ t) (digit_text c digit) ∙ sym is in
    rw (digit, other) (digits_complete max (c - 48) m t x most whole (omega arith) (omega arith) small follows)

pub number_complete : (max : ℕ) → 9 ≤ max → max < 2 ^ 64 → (t : Within max) (x : List ℕ) → NoDigit x → number max (decimal t.0 ++ x) ≡ (Some t.0, x)
unfolding number
number_complete max least small t x follows = cases (cases_eq t.0 0)
  where
    cases : (t.0 ≡ 0) ⊎ (t.0 ≢ 0) → number max (decimal t.0 ++ x) ≡ (Some t.0, x)
    cases (inl zero_is) =
        let text = ap decimal zero_is ∙ decimal_digit 0 (omega arith) in
        rw text (ap (λ k. (Some k, x)) (sym zero_is))
    cases (inr above) =
        number_behind max t.0 (decimal t.0) x refl (first_decimal t.0 (omega arith) (omega (arith, t.1))) (digits_decimal model t.0 (omega (arith, t.1))) t.1 least small follows

abbrev pub numbering : (max : ℕ) → 9 ≤ max → max < 2 ^ 64 → Read NoDigit ℕ
numbering max least small = record {
  run = number max;
  Tree = Within max;
  text = within_text max;
  value = within_value max;
  some = (0, omega arith);
  told = number_told max least small;
  complete = number_complete max least small;
}

-- ## Numbers after fixed bytes

abbrev pub number_behind_text : (text : List ℕ) (max : ℕ) → 9 ≤ max → max < 2 ^ 64 → Read NoDigit ℕ
number_behind_text text max least small = behind (leading text) (λ _. numbering max least small)

abbrev pub u32_behind : List ℕ → Read NoDigit ℕ
u32_behind text = number_behind_text text 4294967295 (omega arith) (omega arith)

-- ## The first byte of a number

digits_first : (c : ℕ) → (c < 48) ⊎ (57 < c) → (text x : List ℕ) → 0 < length text → all_ascii_digits text ≡ true → begins c (text ++ x) ≡ false
digits_first c other [] x some all = absurd (omega arith)
digits_first c other (b ∷ t) x some all = grind (arith, nat_tests)

-- a byte that is no digit does not begin a number
pub number_first : (c n : ℕ) → (c < 48) ⊎ (57 < c) → n < 2 ^ 64 → (x : List ℕ) → begins c (decimal n ++ x) ≡ false
number_first c n other small x = digits_first c other (decimal n) x (decimal_nonempty n small) (digits_decimal model n small)

-- # Readers of request ids, with their laws.

-- ## A fixed count of digits

-- each limit is the one before it with some digit appended
abbrev pub steps : ℕ → List ℕ → Bool
steps l [] = true
steps l (m ∷ ms) = nat_le (l * 10) m && (nat_le m (l * 10 + 9) && steps m ms)

abbrev pub Steps : ℕ → List ℕ → Type 0
Steps l limits = steps l limits ≡ true

stepped : (l m : ℕ) (ms : List ℕ) → Steps l (m ∷ ms) → (l * 10 ≤ m) × (m ≤ l * 10 + 9) × Steps m ms
stepped l m ms is = grind (arith, nat_tests)

abbrev pub last_of : ℕ → List ℕ → ℕ
last_of l [] = l
last_of l (m ∷ ms) = last_of m ms

abbrev pub Fixed : ℕ → List ℕ → ℕ → Type 0
Fixed l limits n = (t : List ℕ) × (length t ≡ length limits) × (all_ascii_digits t ≡ true) × (digits_value_after 10 n t ≤ last_of l limits)

abbrev pub fixed_text : (l : ℕ) (limits : List ℕ) (n : ℕ) → Fixed l limits n → List ℕ
fixed_text l limits n t = t.0

abbrev pub fixed_value : (l : ℕ) (limits : List ℕ) (n : ℕ) → Fixed l limits n → ℕ
fixed_value l limits n t = digits_value_after 10 n t.0

abbrev FixedTold : (l : ℕ) (limits : List ℕ) (n : ℕ) → List ℕ → Option ℕ → List ℕ → Type 0
FixedTold l limits n s o left = Told (fixed limits n) (fixed_text l limits n) (fixed_value l limits n) s o left

pub zeros : (l : ℕ) (limits : List ℕ) (n : ℕ) → n ≤ l → Steps l limits → Fixed l limits n
zeros l [] n within stepping = ([], refl, refl, within)
zeros l (m ∷ ms) n within stepping =
    let rest = zeros m ms (n * 10 + digit_value 48) (omega (arith, (stepped l m ms stepping).0)) (stepped l m ms stepping).2 in
    (48 ∷ rest.0, ap suc rest.1, rest.2, rest.3)

fixed_same : (n c : ℕ) → is_ascii_digit c ≡ true → (t : List ℕ) → digits_value_after 10 (n * 10 + digit_value c) t ≡ digits_value_after 10 (n * 10 + (c - 48)) t
fixed_same n c digit t = ap (λ d. digits_value_after 10 (n * 10 + d) t) (digit_value_digit c digit)

abbrev one_fixed : (l m : ℕ) (ms : List ℕ) (n c : ℕ) → is_ascii_digit c ≡ true → Fixed m ms (n * 10 + (c - 48)) → Fixed l (m ∷ ms) n
one_fixed l m ms n c digit t = (c ∷ t.0, ap suc t.1, rw digit t.2, subst (λ v. v ≤ last_of m ms) (sym (fixed_same n c digit t.0)) t.3)

fixed_told_at : (l m : ℕ) (ms : List ℕ) (n c : ℕ) (cs : List ℕ) (v : Bool) → (is_ascii_digit c && nat_le (n * 10 + (c - 48)) m) ≡ v → n ≤ l → Steps l (m ∷ ms)
    → (n * 10 + (c - 48) ≤ m → FixedTold m ms (n * 10 + (c - 48)) cs (fixed ms (n * 10 + (c - 48)) cs).0 (fixed ms (n * 10 + (c - 48)) cs).1)
    → FixedTold l (m ∷ ms) n (c ∷ cs) (fixed (m ∷ ms) n (c ∷ cs)).0 (fixed (m ∷ ms) n (c ∷ cs)).1
unfolding fixed
fixed_told_at l m ms n c cs true test within stepping rest =
    let tests = and_parts (is_ascii_digit c) (nat_le (n * 10 + (c - 48)) m) test in
    let fits : n * 10 + (c - 48) ≤ m = grind (arith, nat_tests) in
    rw test (told_by (fixed ms (n * 10 + (c - 48))) (fixed_text m ms (n * 10 + (c - 48))) (fixed_value m ms (n * 10 + (c - 48))) (fixed (m ∷ ms) n) (fixed_text l (m ∷ ms) n) (fixed_value l (m ∷ ms) n) (one_fixed l m ms n c tests.0) (c ∷ []) (λ t. fixed_same n c tests.0 t.0) (λ t. refl)
    cs (λ x agree. rw test refl) (fixed ms (n * 10 + (c - 48)) cs).0 (fixed ms (n * 10 + (c - 48)) cs).1 (rest fits))
fixed_told_at l m ms n c cs false test within stepping rest =
    let t = zeros l (m ∷ ms) n within stepping in
    rw test ([], refl, (t, t.0, refl), λ x agree. rw agree.1 (rw test refl))

pub fixed_told : (l : ℕ) (limits : List ℕ) (n : ℕ) → n ≤ l → Steps l limits → (s : List ℕ) → FixedTold l limits n s (fixed limits n s).0 (fixed limits n s).1
unfolding fixed
fixed_told l [] n within stepping s = ([], refl, (([], refl, refl, within), refl, refl), λ x agree. refl)
fixed_told l (m ∷ ms) n within stepping [] =
    let t = zeros l (m ∷ ms) n within stepping in ([], refl, (t, t.0, refl), λ x agree. absurd agree)
fixed_told l (m ∷ ms) n within stepping (c ∷ cs) =
    fixed_told_at l m ms n c cs (is_ascii_digit c && nat_le (n * 10 + (c - 48)) m) refl within stepping
    (λ fits. fixed_told m ms (n * 10 + (c - 48)) fits (stepped l m ms stepping).2 cs)

-- what is past one limit is past all that follow
past : (l : ℕ) (limits : List ℕ) (n : ℕ) (t : List ℕ) → Steps l limits → length t ≡ length limits → l < n → last_of l limits < digits_value_after 10 n t
past l [] n [] stepping long above = above
past l [] n (c ∷ t) stepping long above = absurd (omega arith)
past l (m ∷ ms) n [] stepping long above = absurd (omega arith)
past l (m ∷ ms) n (c ∷ t) stepping long above = past m ms (n * 10 + digit_value c) t (stepped l m ms stepping).2 (omega arith) (omega (arith, (stepped l m ms stepping).1))

fits_front : (l : ℕ) (limits : List ℕ) (n : ℕ) (t : List ℕ) → Steps l limits → length t ≡ length limits → digits_value_after 10 n t ≤ last_of l limits → n ≤ l
fits_front l limits n t stepping long most = grind (arith, past l limits n t stepping long)

pub fixed_complete : (l : ℕ) (limits : List ℕ) (n : ℕ) (t x : List ℕ) → Steps l limits → length t ≡ length limits → all_ascii_digits t ≡ true
    → digits_value_after 10 n t ≤ last_of l limits → fixed limits n (t ++ x) ≡ (Some (digits_value_after 10 n t), x)
unfolding fixed
fixed_complete l [] n [] x stepping long all most = refl
fixed_complete l [] n (c ∷ t) x stepping long all most = absurd (omega arith)
fixed_complete l (m ∷ ms) n [] x stepping long all most = absurd (omega arith)
fixed_complete l (m ∷ ms) n (c ∷ t) x stepping long all most =
    let digits = and_parts (is_ascii_digit c) (all_ascii_digits t) all in
    let value = digit_value_digit c digits.0 in
    let front = fits_front m ms (n * 10 + digit_value c) t (stepped l m ms stepping).2 (omega arith) most in
    let fits : nat_le (n * 10 + (c - 48)) m ≡ true = grind (arith, nat_tests) in
    let same = ap (λ d. fixed ms (n * 10 + d) (t ++ x)) value in
    rw (digits.0, fits) (sym same ∙ fixed_complete m ms (n * 10 + digit_value c) t x (stepped l m ms stepping).2 (omega arith) digits.1 most)

abbrev pub fixing : (l : ℕ) (limits : List ℕ) (n : ℕ) → n ≤ l → Steps l limits → Read Any ℕ
fixing l limits n within stepping = record {
  run = fixed limits n;
  Tree = Fixed l limits n;
  text = fixed_text l limits n;
  value = fixed_value l limits n;
  some = zeros l limits n within stepping;
  told = fixed_told l limits n within stepping;
  complete = λ t x follows. fixed_complete l limits n t.0 x stepping t.1 t.2 t.3;
}

-- ## No leading zero

abbrev Nonzero : {F : List ℕ → Type 0} {B : Type 0} → Read F B → Type 0
Nonzero R = (t : R.Tree) × (begins 48 (R.text t) ≡ false)

abbrev nonzero_text : {F : List ℕ → Type 0} {B : Type 0} (R : Read F B) → Nonzero R → List ℕ
nonzero_text R t = R.text t.0

abbrev nonzero_value : {F : List ℕ → Type 0} {B : Type 0} (R : Read F B) → Nonzero R → B
nonzero_value R t = R.value t.0

says_nonzero : {F : List ℕ → Type 0} {B : Type 0} (R : Read F B) → Nonzero R → ((t : R.Tree) → 0 < length (R.text t)) → (o : Option B) (front s left : List ℕ)
    → s ≡ front ++ left → begins 48 s ≡ false → Says R.text R.value o front → Says (nonzero_text R) (nonzero_value R) o front
says_nonzero R some long (Some b) [] s left split first says = absurd (omega (arith, long says.0, ap length says.2))
says_nonzero R some long (Some b) (c ∷ f) s left split first says =
    ((says.0, ap (begins 48) says.2 ∙ sym (ap (begins 48) split) ∙ first), says.1, says.2)
says_nonzero R some long None [] s left split first says = (some, R.text some.0, refl)
says_nonzero R some long None (c ∷ f) s left split first says =
    ((says.0, ap (begins 48) says.2 ∙ sym (ap (begins 48) split) ∙ first), says.1, says.2)

pub nonzero_told : {F : List ℕ → Type 0} {B : Type 0} (R : Read F B) → Nonzero R → ((t : R.Tree) → 0 < length (R.text t)) → (s : List ℕ) (v : Bool) → begins 48 s ≡ v
    → Told (nonzero R.run) (nonzero_text R) (nonzero_value R) s (if v then (None, s) else R.run s).0 (if v then (None, s) else R.run s).1
nonzero_told R some long s true first =
    ([], refl, (some, R.text some.0, refl), λ x agree. let same = begins_same 48 s x agree ∙ first in rw same refl)
nonzero_told R some long s false first =
    let told = R.told s in (
      told.0,
      told.1,
      says_nonzero R some long (R.run s).0 told.0 s (R.run s).1 told.1 first told.2,
      λ x agree. let same = begins_same 48 s (told.0 ++ x) (agree_front told.0 s (R.run s).1 x told.1 agree) ∙ first in rw same (told.3 x agree),
    )

begins_front : (t x : List ℕ) → 0 < length t → begins 48 (t ++ x) ≡ begins 48 t
begins_front [] x long = absurd (omega arith)
begins_front (c ∷ t) x long = refl

pub nonzero_complete : {F : List ℕ → Type 0} {B : Type 0} (R : Read F B) → ((t : R.Tree) → 0 < length (R.text t)) → (t : Nonzero R) (x : List ℕ) → F x
    → nonzero R.run (R.text t.0 ++ x) ≡ (Some (R.value t.0), x)
nonzero_complete R long t x follows =
    let first = begins_front (R.text t.0) x (long t.0) ∙ t.1 in rw first (R.complete t.0 x follows)

abbrev pub nonzeroing : {F : List ℕ → Type 0} {B : Type 0} (R : Read F B) → Nonzero R → ((t : R.Tree) → 0 < length (R.text t)) → Read F B
nonzeroing R some long = record {
  run = nonzero R.run;
  Tree = Nonzero R;
  text = nonzero_text R;
  value = nonzero_value R;
  some = some;
  told = λ s. nonzero_told R some long s (begins 48 s) refl;
  complete = nonzero_complete R long;
}

-- ## Request ids

abbrev pub priority_digits : Read Any ℕ
priority_digits = fixing 0 priority_limits 0 (omega arith) refl

pub priority_long : (t : priority_digits.Tree) → 0 < length (priority_digits.text t)
priority_long t = omega (arith, t.1)

abbrev pub priority : Read Any ℕ
priority = nonzeroing priority_digits ((codes "100", refl, refl, omega arith), refl) priority_long

abbrev pub sequence : Read Any ℕ
sequence = fixing 0 sequence_limits 0 (omega arith) refl

abbrev pub request_parts : Read Any RequestId
request_parts =
    behind priority (λ p.
    behind (leading (codes "-")) (λ _.
    behind sequence (λ q.
    giving (record { priority = p; seq = q }))))

begins_other : (text : List ℕ) → begins 48 text ≡ false → 0 < length text → get_or text 0 0 ≢ 48
begins_other [] first long = absurd (omega arith)
begins_other (c ∷ t) first long = λ is. absurd (grind (arith, nat_tests))

first_other : (text : List ℕ) → 48 < get_or text 0 0 → begins 48 text ≡ false
first_other [] first = refl
first_other (c ∷ t) first = grind (arith, nat_tests)

least_of : (n : ℕ) → n < 2 ^ 64 → length (decimal n) ≡ 3 → 100 ≤ n
least_of n small three = grind (arith, length-decimal-le 2 n)

request_to : (p q : List ℕ) → begins 48 p ≡ false → length p ≡ 3 → all_ascii_digits p ≡ true → digits_value 10 p ≤ 999
    → length q ≡ 10 → all_ascii_digits q ≡ true → digits_value 10 q ≤ 4294967295
    → HasText (record { priority = digits_value 10 p; seq = digits_value 10 q }) × (request_text_of (record { priority = digits_value 10 p; seq = digits_value 10 q }) ≡ p ++ 45 ∷ (q ++ []))
unfolding request_text_of ten_digits_of
request_to p q first p_long p_digits p_most q_long q_digits q_most =
    let other = begins_other p first (omega arith) in
    let p_same = decimal-digits_value model p p_digits (omega arith) (λ is. absurd (other is)) (omega arith) in
    let q_same = padded-digits_value 9 q q_long q_digits (omega arith) in (
      record { least = least_of (digits_value 10 p) (omega arith) (ap length p_same ∙ p_long); most = p_most; sequence = omega arith },
      ap (λ x. x ++ 45 ∷ padded 10 (digits_value 10 q)) p_same ∙ ap (λ x. p ++ 45 ∷ x) (q_same ∙ sym (append-nil q)),
    )

ten_value : (n : ℕ) → n < 2 ^ 32 → digits_value 10 (ten_digits_of n) ≡ n
unfolding ten_digits_of
ten_value n small = digits_value-zeros (10 - length (decimal n)) (decimal n) ∙ digits_value-decimal model n (omega arith)

ten_long : (n : ℕ) → n < 2 ^ 32 → length (ten_digits_of n) ≡ 10
unfolding ten_digits_of
ten_long n small = length-padded 10 n (omega arith) (omega arith) (omega arith)

request_back : (id : RequestId) → HasText id → (t : request_parts.Tree) × (request_parts.value t ≡ id) × (request_parts.text t ≡ request_text_of id)
unfolding request_text_of
request_back id has =
    let p = decimal id.priority in
    let q = ten_digits_of id.seq in
    let p_value = digits_value-decimal model id.priority (omega (arith, has.most)) in
    let q_value = ten_value id.seq has.sequence in
    let p_long : length p ≡ 3 = ap length (decimal_three id.priority has.least has.most) in
    let first = first_other p (first_decimal id.priority (omega (arith, has.least)) (omega (arith, has.most))) in (
      (
        ((p, p_long, digits_decimal model id.priority (omega (arith, has.most)), omega (arith, has.most)), first),
        (tt, ((q, ten_long id.seq has.sequence, all_ascii_digits-ten id.seq, omega (arith, has.sequence)), tt)),
      ),
      ap (λ v. record { priority = v; seq = digits_value 10 q }) p_value ∙ ap (λ v. record { priority = id.priority; seq = v }) q_value,
      ap (λ x. p ++ 45 ∷ x) (append-nil q),
    )

pub request_valued : Valued request_parts HasText request_text_of
request_valued = record {
  to = λ t. request_to t.0.0.0 t.1.1.0.0 t.0.1 t.0.0.1 t.0.0.2 t.0.0.3 t.1.1.0.1 t.1.1.0.2 t.1.1.0.3;
  back = request_back;
}

abbrev pub request_id : Read Any RequestId
request_id = valued request_parts HasText request_text_of request_valued
