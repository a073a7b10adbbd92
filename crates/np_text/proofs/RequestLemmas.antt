-- Lemmas on the texts of requests.
use Rattle.np_text.proofs.Prelude.{HasText, List, Option, RequestId, Some, ap, append-nil, arith, cases_lt, decimal, decimal_digit, decimal_step, drop, eqb-true, inl, inr, length, length-decimal-le, number_of, padded, put_mid, refl, replicate, request_from, request_of, request_text_of, sequence_of, sym, take, ten_digits_of, ℕ, [], ◌%◌, ◌++◌, ◌+◌, ◌/◌, ◌<◌, ◌==◌, ◌^◌, ◌∙◌, ◌∷◌, ◌≡◌, ◌≤◌, ◌⊎◌}
use Rattle.np_text.proofs.SpellingLemmas.{when_found, some_injective, number_of-decimal, number_of-spelled, sequence_of-ten_digits_of, sequence_of-spelled}

-- three digits
pub decimal_three : (n : ℕ) → 100 ≤ n → n ≤ 999 → decimal n ≡ (48 + n / 10 / 10) ∷ (48 + n / 10 % 10) ∷ (48 + n % 10) ∷ []
decimal_three n least most =
    decimal_step n (omega arith) (omega arith)
    ∙ ap (λ ds. ds ++ (48 + n % 10) ∷ []) (decimal_step (n / 10) (omega arith) (omega arith))
    ∙ ap (λ ds. (ds ++ (48 + n / 10 % 10) ∷ []) ++ (48 + n % 10) ∷ []) (decimal_digit (n / 10 / 10) (omega arith))

padded_three : (n : ℕ) → 100 ≤ n → n ≤ 999 → padded 3 n ≡ decimal n
padded_three n least most = rw (decimal_three n least most) refl

request_bytes : (x y : List ℕ) → length x ≡ 3 → put_mid 4 10 (x ++ replicate 11 45) y ≡ x ++ 45 ∷ y
request_bytes (a ∷ b ∷ c ∷ []) y three = ap (λ ys. a ∷ b ∷ c ∷ 45 ∷ ys) (append-nil y)
request_bytes x y three = absurd (omega arith)

ten_behind : (x : List ℕ) → length x ≡ 3 → length (take 10 (drop 4 (x ++ replicate 11 45))) ≡ 10
ten_behind (a ∷ b ∷ c ∷ []) three = refl
ten_behind x three = absurd (omega arith)

-- what `request_text` leaves: the priority before the dash, the sequence number behind it
pub request_written : (id : RequestId) (x y : List ℕ) → 100 ≤ id.priority → id.priority ≤ 999
    → x ≡ padded 3 id.priority → y ≡ padded (length (take 10 (drop 4 (x ++ replicate 11 45)))) id.seq
    → put_mid 4 10 (x ++ replicate 11 45) y ≡ request_text_of id
unfolding request_text_of ten_digits_of
request_written id x y least most front back =
    let three = decimal_three id.priority least most in
    let same = front ∙ padded_three id.priority least most in
    let long = ap length (same ∙ three) in
    request_bytes x y long ∙ ap (λ xs. xs ++ 45 ∷ y) same ∙ ap (λ ys. decimal id.priority ++ 45 ∷ ys) (back ∙ ap (λ k. padded k id.seq) (ten_behind x long))

-- ## One spelling for each request

pub request_of-text : (id : RequestId) → HasText id → request_of (request_text_of id) ≡ Some id
unfolding request_of request_text_of
request_of-text id has =
    let three = decimal_three id.priority has.least has.most in
    let front : number_of 999 (decimal id.priority) ≡ Some id.priority = number_of-decimal 999 id.priority has.most (omega arith) in
    let front' = ap (number_of 999) (sym three) ∙ front in
    let back = sequence_of-ten_digits_of id.seq has.sequence in
    rw three (rw (front', back) refl)

three_digits : (n : ℕ) → n < 2 ^ 64 → length (decimal n) ≡ 3 → 100 ≤ n
three_digits n small three = cases (cases_lt n 100)
  where
    cases : (n < 100) ⊎ (100 ≤ n) → 100 ≤ n
    cases (inl below) = absurd (omega (arith, length-decimal-le 2 n (omega arith) (omega arith) small))
    cases (inr above) = above

pub request_of-spelled : (id : RequestId) (text : List ℕ) → request_of text ≡ Some id → HasText id × (request_text_of id ≡ text)
unfolding request_of request_text_of
request_of-spelled id (a ∷ b ∷ c ∷ dash ∷ digits) answer =
    let found = when_found (dash == 45) (request_from (number_of 999 (a ∷ b ∷ c ∷ [])) (sequence_of digits)) id answer in
    let parts = request_from-told id (number_of 999 (a ∷ b ∷ c ∷ [])) (sequence_of digits) found.1 in
    let front = number_of-spelled 999 id.priority (a ∷ b ∷ c ∷ []) (omega arith) parts.0 in
    let back = sequence_of-spelled id.seq digits parts.1 in
    let is_dash : dash ≡ 45 = eqb-true dash 45 found.0 in (
      record { least = three_digits id.priority (omega arith) (ap length front.1); most = front.0; sequence = back.0 },
      ap (λ ds. ds ++ 45 ∷ ten_digits_of id.seq) front.1 ∙ ap (λ ds. a ∷ b ∷ c ∷ 45 ∷ ds) back.1 ∙ ap (λ d. a ∷ b ∷ c ∷ d ∷ digits) (sym is_dash),
    )
  where
    request_from-told : (id : RequestId) (p s : Option ℕ) → request_from p s ≡ Some id → (p ≡ Some id.priority) × (s ≡ Some id.seq)
    request_from-told id (Some priority) (Some seq) answer =
        let told = some_injective (record { priority = priority; seq = seq }) id answer in
        (ap (λ (r : RequestId). Some r.priority) told, ap (λ (r : RequestId). Some r.seq) told)
    request_from-told id p s answer = absurd (cc)
request_of-spelled id text answer = absurd (cc)

pub request_text_of-injective : (a b : RequestId) → HasText a → HasText b → request_text_of a ≡ request_text_of b → a ≡ b
request_text_of-injective a b a_has b_has same =
    some_injective a b (sym (request_of-text a a_has) ∙ ap request_of same ∙ request_of-text b b_has)
