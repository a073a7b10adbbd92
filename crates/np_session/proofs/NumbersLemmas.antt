-- the numbers of the sessions that pass a test, as the table is read and changed
use Rattle.np_session.proofs.Prelude.{Bool, IsKnown, IsStrictlyIncreasing, Life, List, Live, Mute, Over, after_begin, after_end, after_mute, add-zero, ap, append-nil, arith, cond, eqb, eqb_tells, false, filter, get_or, get_or-set_other, get_or-set_same, get_or_past, inl, inr, is_in, is_live, is_mute, known_of, length, length-set, length_push, life_of, mute_with, nat_tests, not, numbers, refl, set, suc, sym, true, with_spare, without, zero, ℕ, [], ◌&&◌, ◌++◌, ◌+◌, ◌-◌, ◌<◌, ◌||◌, ◌∙◌, ◌∷◌, ◌≡◌, ◌≢◌, ◌≤◌, ◌⊎◌}

-- a number below the first one is not among them
is_in-below : (p : Life → Bool) (n : ℕ) (xs : List Life) (id : ℕ) → id < n → is_in (numbers p n xs) id ≡ false
is_in-below p n [] id below = refl
is_in-below p n (x ∷ xs) id below =
    let later = is_in-below p (n + 1) xs id (omega arith) in
    grind (arith, nat_tests, later)

-- a number is among them if its state passes
is_in-at : (p : Life → Bool) → p Over ≡ false → (n : ℕ) (xs : List Life) (i id : ℕ) → id ≡ n + i → is_in (numbers p n xs) id ≡ p (get_or xs i Over)
is_in-at p over n [] i id is = sym over
is_in-at p over n (x ∷ xs) zero id is = let below = is_in-below p (n + 1) xs id (omega arith) in grind (arith, nat_tests, below)
is_in-at p over n (x ∷ xs) (suc i) id is = let later = is_in-at p over (n + 1) xs i id (omega arith) in grind (arith, nat_tests, later)

life_of-begun : (xs : List Life) (k : ℕ) → life_of xs (suc k) ≡ get_or xs k Over
life_of-begun xs k =
    let other : eqb (suc k) 0 ≡ false = grind (arith, nat_tests) in
    let place : suc k - 1 ≡ k = omega arith in
    rw (other, place) refl

-- the same by number; no session gets the number 0
is_in-life_of : (p : Life → Bool) → p Over ≡ false → (xs : List Life) (id : ℕ) → is_in (numbers p 1 xs) id ≡ p (life_of xs id)
is_in-life_of p over xs zero = is_in-below p 1 xs 0 (omega arith) ∙ sym over
is_in-life_of p over xs (suc k) = rw life_of-begun (is_in-at p over 1 xs k (suc k) (omega arith))

-- the place of a session that passes
pub record HasPlace (p : Life → Bool) (xs : List Life) (id i : ℕ) : Type 0 where
  pub number : 1 + i ≡ id
  pub within : i < length xs
  pub passes : p (get_or xs i Over) ≡ true

pub HasPlace-passes : (p : Life → Bool) → p Over ≡ false → (xs : List Life) (id : ℕ) → p (life_of xs id) ≡ true → HasPlace p xs id (id - 1)
HasPlace-passes p over xs zero is = absurd (cc)
HasPlace-passes p over xs (suc k) is =
    let past = get_or_past xs k Over in
    let place : suc k - 1 ≡ k = omega arith in
    let there = rw life_of-begun at is in
    rw place (record { number = omega arith; within = grind (arith, nat_tests, past); passes = there })

-- the numbers after a change, by what the test says at each place
changed : (p q : Life → Bool) (u : ℕ → Bool) (n : ℕ) (xs ys : List Life) → length ys ≡ length xs → ((j : ℕ) → p (get_or ys j Over) ≡ (q (get_or xs j Over) && u (n + j))) → numbers p n ys ≡ filter u (numbers q n xs)
changed p q u n [] [] long same = refl
changed p q u n (x ∷ xs) (y ∷ ys) long same =
    let here : p y ≡ (q x && u n) = same 0 ∙ rw add-zero refl in
    let later = changed p q u (n + 1) xs ys (omega arith) (λ j. same (suc j) ∙ ap (λ k. q (get_or xs j Over) && u k) (omega arith)) in
    grind (arith, nat_tests, here, later)
changed p q u n _ _ long same = absurd (omega arith)

cases_same : (i j : ℕ) → (j ≡ i) ⊎ (j ≢ i)
cases_same i j = grind (arith, nat_tests, eqb_tells j i)

-- a session that is over is in no list
numbers-over : (p : Life → Bool) → p Over ≡ false → (xs : List Life) (i : ℕ) → i < length xs → numbers p 1 (set xs i Over) ≡ without (numbers p 1 xs) (1 + i)
numbers-over p over xs i within = changed p p (λ s. not (eqb s (1 + i))) 1 xs (set xs i Over) (length-set xs i Over) (λ j. elim (cases_same i j) [
  | inl here ↦ rw (here, get_or-set_same xs i Over Over within) (grind (arith, nat_tests))
  | inr other ↦ rw (get_or-set_other xs i j Over Over other) (grind (arith, nat_tests))
])

-- a session that goes mute stays live
pub numbers-mute : (n : ℕ) (xs : List Life) (i : ℕ) → is_live (get_or xs i Over) ≡ true → numbers is_live n (set xs i Mute) ≡ numbers is_live n xs
numbers-mute n [] i live = refl
numbers-mute n (x ∷ xs) zero live = rw live refl
numbers-mute n (x ∷ xs) (suc i) live = let later = numbers-mute (n + 1) xs i live in rw later refl

mute_is_live : (x : Life) → is_mute x ≡ (is_live x && (is_mute x || false))
mute_is_live x = grind arith

-- and the mute ones are those that were, and it
mute_with-mute : (xs : List Life) (i : ℕ) → i < length xs → is_live (get_or xs i Over) ≡ true → numbers is_mute 1 (set xs i Mute) ≡ mute_with (numbers is_live 1 xs) (numbers is_mute 1 xs) (1 + i)
mute_with-mute xs i within live = changed is_mute is_live (λ s. is_in (numbers is_mute 1 xs) s || (eqb s (1 + i))) 1 xs (set xs i Mute) (length-set xs i Mute) (λ j. elim (cases_same i j) [
  | inl here ↦ rw (here, get_or-set_same xs i Mute Over within, live) (grind (arith, nat_tests))
  | inr other ↦ rw (get_or-set_other xs i j Mute Over other, is_in-at is_mute refl 1 xs j (1 + j) refl) (grind (arith, nat_tests, mute_is_live))
])

-- one number fewer
pub length-over : (p : Life → Bool) → p Over ≡ false → (n : ℕ) (xs : List Life) (i : ℕ) → p (get_or xs i Over) ≡ true → length (numbers p n (set xs i Over)) + 1 ≡ length (numbers p n xs)
length-over p over n [] i passes = absurd (cc)
length-over p over n (x ∷ xs) zero passes = rw (over, passes) (omega arith)
length-over p over n (x ∷ xs) (suc i) passes = let later = length-over p over (n + 1) xs i passes in grind (arith, nat_tests, later)

-- no more numbers than sessions
pub length-numbers : (p : Life → Bool) (n : ℕ) (xs : List Life) → length (numbers p n xs) ≤ length xs
length-numbers p n [] = omega arith
length-numbers p n (x ∷ xs) = let later = length-numbers p (n + 1) xs in grind (arith, nat_tests, later)

-- the next session is the last number
numbers-push : (p : Life → Bool) (n k : ℕ) (xs : List Life) (y : Life) → n + length xs ≡ k → numbers p n (xs ++ y ∷ []) ≡ numbers p n xs ++ cond (p y) (k ∷ []) []
numbers-push p n k [] y is = let first : n ≡ k = omega arith in rw first refl
numbers-push p n k (x ∷ xs) y is = let later = numbers-push p (n + 1) k xs y (omega arith) in grind (arith, nat_tests, later)

-- what contracts see after each change
pub known_of-over : (lives : List Life) (spare id : ℕ) → is_live (life_of lives id) ≡ true → known_of (set lives (id - 1) Over) spare ≡ after_end (known_of lives spare) id
known_of-over lives spare id live =
    let there = HasPlace-passes is_live refl lives id live in
    rw (length-set lives (id - 1) Over, numbers-over is_live refl lives (id - 1) there.within, numbers-over is_mute refl lives (id - 1) there.within, there.number) refl

pub known_of-mute : (lives : List Life) (spare id : ℕ) → is_live (life_of lives id) ≡ true → known_of (set lives (id - 1) Mute) spare ≡ after_mute (known_of lives spare) id
known_of-mute lives spare id live =
    let there = HasPlace-passes is_live refl lives id live in
    rw (length-set lives (id - 1) Mute, numbers-mute 1 lives (id - 1) there.passes, mute_with-mute lives (id - 1) there.within there.passes, there.number) refl

pub known_of-push : (lives : List Life) (before after : ℕ) → known_of (lives ++ Live ∷ []) after ≡ with_spare (after_begin (known_of lives before)) after
known_of-push lives before after =
    let live-is = numbers-push is_live 1 (length lives + 1) lives Live (omega arith) in
    let mute-is = numbers-push is_mute 1 (length lives + 1) lives Live (omega arith) ∙ append-nil (numbers is_mute 1 lives) in
    rw (live-is, mute-is, length_push lives Live) refl

-- what is read in the table is what contracts see
pub is_in-live : (lives : List Life) (id : ℕ) → is_in (numbers is_live 1 lives) id ≡ is_live (life_of lives id)
is_in-live = is_in-life_of is_live refl

pub is_in-mute : (lives : List Life) (id : ℕ) → is_in (numbers is_mute 1 lives) id ≡ is_mute (life_of lives id)
is_in-mute = is_in-life_of is_mute refl

pub ruleset seen = (is_in-live, is_in-mute)

pub length-push_live : (lives : List Life) → length (numbers is_live 1 (lives ++ Live ∷ [])) ≡ length (numbers is_live 1 lives) + 1
length-push_live lives = ap length (numbers-push is_live 1 (1 + length lives) lives Live refl) ∙ length_push (numbers is_live 1 lives) (1 + length lives)

-- the numbers are in rising order
first_number : (p : Life → Bool) (n : ℕ) (xs : List Life) → 0 < length (numbers p n xs) → n ≤ get_or (numbers p n xs) 0 0
first_number p n [] some = absurd (omega arith)
first_number p n (x ∷ xs) some = let later = first_number p (n + 1) xs in grind (arith, nat_tests, later)

rising_first : (t : Bool) (n : ℕ) (ns : List ℕ) → (0 < length ns → n < get_or ns 0 0) → IsStrictlyIncreasing ns → IsStrictlyIncreasing (cond t (n ∷ ns) ns)
rising_first true n ns above rising zero below = above (omega arith)
rising_first true n ns above rising (suc k) below = let step : suc k + 1 ≡ suc (k + 1) = omega arith in rw step (rising k (omega arith))
rising_first false n ns above rising k below = rising k below

numbers-rise : (p : Life → Bool) (n : ℕ) (xs : List Life) → IsStrictlyIncreasing (numbers p n xs)
numbers-rise p n [] = λ k below. absurd (omega arith)
numbers-rise p n (x ∷ xs) = rising_first (p x) n (numbers p (n + 1) xs) (λ some. let least = first_number p (n + 1) xs some in omega arith) (numbers-rise p (n + 1) xs)

mute_live : (x : Life) → is_mute x ≡ true → is_live x ≡ true
mute_live x is = grind arith

-- what is always true of what contracts see: a live one was begun, a mute one is live
pub IsKnown-known_of : (lives : List Life) (spare : ℕ) → IsKnown (known_of lives spare)
IsKnown-known_of lives spare = record {
  begun = λ id is.
      let there = HasPlace-passes is_live refl lives id (sym (is_in-life_of is_live refl lives id) ∙ is) in
      let within = there.within in
      let number = there.number in
      (omega arith, omega arith);
  live = λ id is. is_in-life_of is_live refl lives id ∙ mute_live (life_of lives id) (sym (is_in-life_of is_mute refl lives id) ∙ is);
  rising = numbers-rise is_live 1 lives;
}
