-- histories that grow, and the turns of a series in them
use Rattle.np_desk.proofs.Prelude.{Answered, AnsweredAtOnce, AreRising, Asked, Bool, Err, Heard, IfOk, IsOver, List, MatchResult, NoMemory, None, Ok, Records, Result, Sight, Some, StartsWith, Took, TookAtOnce, Turned, Unturned, Walk, ap, append-nil, append_assoc, arith, nat_tests, cond, drop, entries_of, false, grown, length, length-append, merged, nat_lt, places, refl, subst, suc, sym, times, true, whole_sight, with_place, zero, zero-add, ℕ, [], ◌++◌, ◌+◌, ◌<◌, ◌∙◌, ◌∷◌, ◌≡◌, ◌≤◌, ◌⊎◌}
use Rattle.std.specs.Prelude.{Option}

-- # Histories that grow, and rising places in them.

module _ {E : Type 0} where
  pub starts_same : (log : List E) → StartsWith log log
  starts_same log = ([], sym (append-nil log))

  pub starts_more : (log seen more : List E) → StartsWith log seen → StartsWith (log ++ more) seen
  starts_more log seen more h = (h.0 ++ more, ap (λ (l : List E). l ++ more) h.1 ∙ append_assoc seen h.0 more)

  pub starts_on : (log seen first : List E) → StartsWith log seen → StartsWith seen first → StartsWith log first
  starts_on log seen first h k = subst (λ (l : List E). StartsWith l first) (sym h.1) (starts_more seen first h.0 k)

  drop-more : (n : ℕ) (l m : List E) → n ≤ length l → drop n (l ++ m) ≡ drop n l ++ m
  drop-more zero l m h = refl
  drop-more (suc n) [] m h = absurd (omega arith)
  drop-more (suc n) (x ∷ xs) m h = drop-more n xs m (omega arith)

  pub drop-all : (l m : List E) → drop (length l) (l ++ m) ≡ m
  drop-all [] m = refl
  drop-all (x ∷ xs) m = drop-all xs m

  pub length-rest : (n : ℕ) (l : List E) → n ≤ length l → n + length (drop n l) ≡ length l
  length-rest zero l h = omega arith
  length-rest (suc n) [] h = absurd (omega arith)
  length-rest (suc n) (x ∷ xs) h = omega (arith, length-rest n xs (omega arith))

  pub places-append : (n : ℕ) (l m : List E) → places n (l ++ m) ≡ places n l ++ places (n + length l) m
  places-append n [] m = ap (λ (k : ℕ). places k m) (omega arith)
  places-append n (x ∷ xs) m = ap (λ (ps : List ℕ). n ∷ ps) (places-append (suc n) xs m ∙ ap (λ (k : ℕ). places (suc n) xs ++ places k m) (omega arith))

  -- the places since n, after some more entries
  pub places_grow : (n : ℕ) (l m : List E) → n ≤ length l → places n (drop n (l ++ m)) ≡ places n (drop n l) ++ places (length l) m
  places_grow n l m h = ap (places n) (drop-more n l m h) ∙ (places-append n (drop n l) m ∙ ap (λ (k : ℕ). places n (drop n l) ++ places k m) (length-rest n l h))

pub times-append : (x : ℕ) (l m : List ℕ) → times x (l ++ m) ≡ times x l + times x m
times-append x [] m = omega arith
times-append x (y ∷ ys) m = omega (arith, times-append x ys m)

pub by_bool : (P : Bool → Type 0) (b : Bool) → (b ≡ true → P true) → (b ≡ false → P false) → P b
by_bool P true t f = t refl
by_bool P false t f = f refl

times_with : (k x : ℕ) (ys : List ℕ) → times k (with_place x ys) ≡ times k (x ∷ ys)
times_with k x [] = refl
times_with k x (y ∷ ys) = grind (arith, times_with k x ys)

pub times_merged : (k : ℕ) (xs ys : List ℕ) → times k (merged xs ys) ≡ times k xs + times k ys
times_merged k xs [] = omega arith
times_merged k xs (y ∷ ys) = omega (arith, times_merged k (with_place y xs) ys, times_with k y xs)

none_below : (k a n : ℕ) (xs : List ℕ) → k < a → AreRising a xs n → times k xs ≡ 0
none_below k a n [] lt h = refl
none_below k a n (x ∷ xs) lt h = grind (arith, nat_tests, h.0, none_below k (suc x) n xs (omega (arith, h.0)) h.2)

-- a rising list has no place twice
pub once : (a n : ℕ) (xs : List ℕ) → AreRising a xs n → (k : ℕ) → times k xs ≤ 1
once a n [] h k = omega arith
once a n (x ∷ xs) h k = grind (arith, nat_tests, none_below k (suc x) n xs, h.2, once (suc x) n xs h.2 k)

pub rising_more : (a n m : ℕ) (xs : List ℕ) → n ≤ m → AreRising a xs n → AreRising a xs m
rising_more a n m [] le h = tt
rising_more a n m (x ∷ xs) le h = (h.0, omega (arith, h.1), rising_more (suc x) n m xs le h.2)

pub rising_places : {E : Type 0} (a n : ℕ) (es : List E) → a ≤ n → AreRising a (places n es) (n + length es)
rising_places a n [] le = tt
rising_places a n (e ∷ es) le = (le, omega arith, rising_more (suc n) (suc n + length es) (n + suc (length es)) (places (suc n) es) (omega arith) (rising_places (suc n) (suc n) es (omega arith)))

pub rising_append : {E : Type 0} (a n : ℕ) (xs : List ℕ) (es : List E) → a ≤ n → AreRising a xs n → AreRising a (xs ++ places n es) (n + length es)
rising_append a n [] es le h = rising_places a n es le
rising_append a n (x ∷ xs) es le h = (h.0, omega (arith, h.1), rising_append (suc x) n xs es (omega (arith, h.1)) h.2)

rising_with : (a n x : ℕ) (xs : List ℕ) → a ≤ x → x < n → times x xs ≡ 0 → AreRising a xs n → AreRising a (with_place x xs) n
rising_with a n x [] from to new h = (from, to, tt)
rising_with a n x (y ∷ ys) from to new h = by_bool (λ b. AreRising a (cond b (x ∷ y ∷ ys) (y ∷ with_place x ys)) n) (nat_lt x y)
    (λ is. (from, to, (grind (arith, nat_tests, is), h.1, h.2)))
    (λ is. (h.0, h.1, rising_with (suc y) n x ys (grind (arith, nat_tests, is, new)) to (omega (arith, new)) h.2))

pub rising_merged : (n : ℕ) (xs : List ℕ) (a : ℕ) (ys : List ℕ) → AreRising 0 xs n → AreRising a ys n → ((k : ℕ) → times k xs + times k ys ≤ 1) → AreRising 0 (merged xs ys) n
rising_merged n xs a [] h k one = h
rising_merged n xs a (y ∷ ys) h k one = rising_merged n (with_place y xs) (suc y) ys
    (rising_with 0 n y xs (omega arith) k.1 (grind (arith, nat_tests, one y)) h) k.2 (λ j. omega (arith, times_with j y xs, one j))

-- rising lists with the same places are the same
pub same_places : (a b n : ℕ) (xs ys : List ℕ) → AreRising a xs n → AreRising b ys n → ((k : ℕ) → times k xs ≡ times k ys) → xs ≡ ys
same_places a b n [] [] h k same = refl
same_places a b n [] (y ∷ ys) h k same = grind (arith, nat_tests, same y)
same_places a b n (x ∷ xs) [] h k same = grind (arith, nat_tests, same x)
same_places a b n (x ∷ xs) (y ∷ ys) h k same =
    let e : x ≡ y = grind (arith, nat_tests, same x, same y, none_below x (suc y) n ys, k.2, none_below y (suc x) n xs, h.2) in
    λ i. e i ∷ same_places (suc x) (suc y) n xs ys h.2 k.2 (λ j. grind (arith, e, same j)) i

-- if every place is one's own, a turn adds the place of its entry
alone_records : {E : Type 0} (entry : Option E) (old new : List E) → new ≡ old ++ entries_of entry → Records entry old (whole_sight old) (whole_sight new)
alone_records None old new e = let same = e ∙ append-nil old in (same, ap (places 0) same)
alone_records (Some x) old new e = (e, ap (places 0) e ∙ (places-append 0 old (x ∷ []) ∙ ap (λ (k : ℕ). places 0 old ++ k ∷ []) (zero-add (length old))))

module _ {F E A T : Type 0} (answers : F → List E → A → T → Type 0) (recorded : A → T → Option E) where
  pub alone_turned : (f : F) (ask : A) (r : Result T NoMemory) (old new : List E) → IfOk r (λ t. answers f old ask t) → MatchResult r (λ t. new ≡ old ++ entries_of (recorded ask t)) (λ _. new ≡ old)
      → Turned answers recorded f (whole_sight old) ask r (whole_sight new)
  alone_turned f ask (Ok t) old new answer is = (old, starts_same old, answer, alone_records (recorded ask t) old new is)
  alone_turned f ask (Err _) old new answer is = (subst (λ (l : List E). StartsWith l old) (sym is) (starts_same old), ap (places 0) is)

-- # Turns of a series, one after another.

module _ {E : Type 0} where
  nothing_grown : (h : List E) → places (length h) (drop (length h) h) ≡ []
  nothing_grown h = ap (places (length h)) (ap (drop (length h)) (sym (append-nil h)) ∙ drop-all h [])

  grown_same : (mine : List ℕ) (h : List E) → (grown mine h h).mine ≡ mine
  grown_same mine h = ap (λ (ps : List ℕ). mine ++ ps) (nothing_grown h) ∙ append-nil mine

  -- a history that was seen whole, after it has grown
  pub grown_whole : (before after : List E) → StartsWith after before → grown (places 0 before) before after ≡ whole_sight after
  grown_whole before after h = ap (λ (ps : List ℕ). let s : Sight E = record { seen = after; mine = ps } in s)
      (ap (λ (l : List E). places 0 before ++ places (length before) l) (ap (drop (length before)) h.1 ∙ drop-all before h.0)
      ∙ (ap (λ (k : ℕ). places 0 before ++ places k h.0) (sym (zero-add (length before)))
      ∙ (sym (places-append 0 before h.0) ∙ ap (places 0) (sym h.1))))

  grown_records : (mine : List ℕ) (before mid after : List E) (entry : Option E) → StartsWith mid before → after ≡ mid ++ entries_of entry → Records entry mid (grown mine before mid) (grown mine before after)
  grown_records mine before mid after None h e = let same = e ∙ append-nil mid in (same, ap (λ (l : List E). mine ++ places (length before) (drop (length before) l)) same)
  grown_records mine before mid after (Some x) h e = (
    e,
    ap (λ (l : List E). mine ++ places (length before) (drop (length before) l)) e
        ∙ (ap (λ (ps : List ℕ). mine ++ ps) (places_grow (length before) mid (x ∷ []) (omega (arith, ap length h.1, length-append before h.0)))
        ∙ sym (append_assoc mine (places (length before) (drop (length before) mid)) (length mid ∷ []))),
  )

  pub begins_on : (before mid after more : List E) → StartsWith mid before → after ≡ mid ++ more → StartsWith after before
  begins_on before mid after more h e = subst (λ (l : List E). StartsWith l before) (sym e) (starts_more mid before more h)

  pub unturned-same : (v : Sight E) → Unturned v v
  unturned-same v = (starts_same v.seen, refl)

  pub unturned_on : (u v w : Sight E) → Unturned u v → Unturned v w → Unturned u w
  unturned_on u v w h k = (starts_on w.seen v.seen u.seen k.0 h.0, k.1 ∙ h.1)

  pub unturned_grown : (v : Sight E) (h : List E) → StartsWith h v.seen → Unturned v (grown v.mine h h)
  unturned_grown v h s = (s, grown_same v.mine h)

module _ {E A T : Type 0} (step : Sight E → A → T → Sight E → Type 0) where
  pub walk-append : (v u w : Sight E) (xs ys : List (Asked A T)) → Walk step v xs u → Walk step u ys w → Walk step v (xs ++ ys) w
  walk-append v u w [] ys h k = subst (λ (z : Sight E). Walk step z ys w) (sym h) k
  walk-append v u w (x ∷ xs) ys h k = (h.0, h.1, walk-append h.0 u w xs ys h.2 k)

module _ {S A T : Type 0} (asks : S → Option A) (hears : S → T → S → Type 0) where
  pub heard-append : (p q r : S) (xs ys : List (Asked A T)) → Heard asks hears p xs q → Heard asks hears q ys r → Heard asks hears p (xs ++ ys) r
  heard-append p q r [] ys h k = subst (λ (z : S). Heard asks hears z ys r) (sym h) k
  heard-append p q r (x ∷ xs) ys h k = (h.0, h.1, h.2, heard-append h.1 q r xs ys h.3 k)

module _ {E A T S : Type 0} (step : Sight E → A → T → Sight E → Type 0) (asks : S → Option A) (hears : S → T → S → Type 0) where
  -- so many turns of the series were taken
  pub record Went (v : Sight E) (p : S) (n : ℕ) (w : Sight E) (q : S) : Type 0 where
    pub turns : List (Asked A T)
    pub walked : Walk step v turns w
    pub heard : Heard asks hears p turns q
    pub count : length turns ≡ n

  pub none-went : (v : Sight E) (p : S) → Went v p 0 v p
  none-went v p = record { turns = []; walked = refl; heard = refl; count = refl }

  pub one-more : (v u w : Sight E) (p q r : S) (n : ℕ) (a : A) (t : T) → Went v p n u q → asks q ≡ Some a → step u a t w → hears q t r → Went v p (n + 1) w r
  one-more v u w p q r n a t went e k heard = let x : Asked A T = record { ask = a; turn = t } in record {
    turns = went.turns ++ x ∷ [];
    walked = walk-append step v u w went.turns (x ∷ []) went.walked (w, k, refl);
    heard = heard-append asks hears p q r went.turns (x ∷ []) went.heard (e, r, heard, refl);
    count = omega (arith, length-append went.turns (x ∷ []), went.count);
  }

module _ {F E A T S : Type 0} (answers : F → List E → A → T → Type 0) (recorded : A → T → Option E) (asks : S → Option A) (hears : S → T → S → Type 0) where
  -- so many turns of the series were taken at once
  abbrev pub WentAtOnce : F → Sight E → S → ℕ → Sight E → S → Type 0
  WentAtOnce f v p n w q = Went (AnsweredAtOnce answers recorded f) asks hears v p n w q

  pub went_on : (f : F) (mine : List ℕ) (before mid after : List E) (p q r : S) (n : ℕ) (a : A) (t : T) → WentAtOnce f (grown mine before before) p n (grown mine before mid) q
      → asks q ≡ Some a → hears q t r → StartsWith mid before → answers f mid a t → after ≡ mid ++ entries_of (recorded a t)
      → WentAtOnce f (grown mine before before) p (n + 1) (grown mine before after) r
  went_on f mine before mid after p q r n a t h e k s y g = one-more (AnsweredAtOnce answers recorded f) asks hears (grown mine before before) (grown mine before mid) (grown mine before after) p q r n a t h e (y, grown_records mine before mid after (recorded a t) s g) k

  pub took_so : {R : Type 0} (f : F) (v : Sight E) (p : S) (most n : ℕ) (result : Result R NoMemory) (w : Sight E) (q : S) → WentAtOnce f v p n w q → n ≤ most → IfOk result (λ _. (asks q ≡ None) ⊎ (n ≡ most)) → TookAtOnce answers recorded asks hears f v p most result w q
  took_so f v p most n result w q h few over = record {
    turns = h.turns;
    first = v;
    saw = unturned-same v;
    walked = h.walked;
    heard = h.heard;
    few = omega (arith, h.count);
    over = subst (λ (m : ℕ). IfOk result (λ _. (asks q ≡ None) ⊎ (m ≡ most))) (sym h.count) over;
  }

  walked-loosely : (f : F) (v w : Sight E) (xs : List (Asked A T)) → Walk (AnsweredAtOnce answers recorded f) v xs w → Walk (Answered answers recorded f) v xs w
  walked-loosely f v w [] h = h
  walked-loosely f v w (x ∷ xs) h = (h.0, (v.seen, starts_same v.seen, h.1.0, h.1.1), walked-loosely f h.0 w xs h.2)

  over-loosely : {R : Type 0} (result : Result R NoMemory) (w : Sight E) (most : ℕ) (xs : List (Asked A T)) (q : S) → IfOk result (λ _. IsOver asks most xs q) → MatchResult result (λ _. (w ≡ w) × IsOver asks most xs q) (λ _. Unturned w w)
  over-loosely (Ok y) w most xs q h = (refl, h)
  over-loosely (Err y) w most xs q h = unturned-same w

  -- turns that were taken at once were taken, also if less had been seen before
  pub took_later : {R : Type 0} (f : F) (u v : Sight E) (p : S) (most : ℕ) (result : Result R NoMemory) (w : Sight E) (q : S) → Unturned u v → TookAtOnce answers recorded asks hears f v p most result w q → Took answers recorded asks hears f u p most result w q
  took_later f u v p most result w q less h = record {
    turns = h.turns;
    first = h.first;
    last = w;
    saw = unturned_on u v h.first less h.saw;
    walked = walked-loosely f h.first w h.turns h.walked;
    heard = h.heard;
    few = h.few;
    over = over-loosely result w most h.turns q h.over;
  }

  pub took-loosely : {R : Type 0} (f : F) (v : Sight E) (p : S) (most : ℕ) (result : Result R NoMemory) (w : Sight E) (q : S) → TookAtOnce answers recorded asks hears f v p most result w q → Took answers recorded asks hears f v p most result w q
  took-loosely f v p most result w q h = took_later f v v p most result w q (unturned-same v) h

  -- turns that were taken one after another
  took : {R : Type 0} (f : F) (v u w : Sight E) (p q : S) (most n : ℕ) (result : Result R NoMemory) → Went (Answered answers recorded f) asks hears v p n u q → n ≤ most
      → MatchResult result (λ _. (w ≡ u) × ((asks q ≡ None) ⊎ (n ≡ most))) (λ _. Unturned u w) → Took answers recorded asks hears f v p most result w q
  took f v u w p q most n result went few over = record {
    turns = went.turns;
    first = v;
    last = u;
    saw = unturned-same v;
    walked = went.walked;
    heard = went.heard;
    few = omega (arith, went.count);
    over = subst (λ (m : ℕ). MatchResult result (λ _. (w ≡ u) × ((asks q ≡ None) ⊎ (m ≡ most))) (λ _. Unturned u w)) (sym went.count) over;
  }

  -- all of them, or so many before memory ran out
  pub took-whole : {R : Type 0} (f : F) (v w : Sight E) (p q : S) (most n : ℕ) (y : R) → Went (Answered answers recorded f) asks hears v p n w q → n ≤ most → (asks q ≡ None) ⊎ (n ≡ most) → Took answers recorded asks hears f v p most (Ok y) w q
  took-whole f v w p q most n y went few over = took f v w w p q most n (Ok y) went few (refl, over)

  pub took-part : {R : Type 0} (f : F) (v u w : Sight E) (p q : S) (most n : ℕ) (result : Result R NoMemory) (y : NoMemory) → result ≡ Err y → Went (Answered answers recorded f) asks hears v p n u q → n ≤ most → Unturned u w → Took answers recorded asks hears f v p most result w q
  took-part f v u w p q most n result y is went few rest = took f v u w p q most n result went few (subst (λ z. MatchResult z (λ _. (w ≡ u) × ((asks q ≡ None) ⊎ (n ≡ most))) (λ _. Unturned u w)) (sym is) rest)
