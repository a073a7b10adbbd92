-- the rows and cells of a listing, place by place
use Rattle.np_listing.proofs.Prelude.{Bool, List, Some, State, add-one, ap, append-nil, append_assoc, arith, cell_text, cells_text, cond, count_by, drop, drop-there, drop_more, false, flat_map, from-map_some, get_or, get_or_from_slice_get, length, map, nat_tests, numbered, option_map, range_with_len, refl, session_of, slice_get, slice_get_within, suc, sum_by, sum_by-append, sym, take, take_more, width_at, zero, ℕ, [], ◌++◌, ◌+◌, ◌-◌, ◌<◌, ◌==◌, ◌∙◌, ◌∷◌, ◌≡◌}

-- # a walk over a list, place by place, that makes a row of each

-- what was made, and what is left to be made
pub pushed : {A : Type 0} (old new made rest next whole : List A) → rest ≡ made ++ next → new ≡ old ++ made → old ++ rest ≡ whole → new ++ next ≡ whole
pushed old new made rest next whole opened put before = rw put (append_assoc old made next ∙ sym (ap (λ xs. old ++ xs) opened) ∙ before)

-- one row more, by what is seen
pub put : {X V W : Type 0} (view : X → V) (row : V → W) (xs : List X) (i : ℕ) (v : V) (w : W) (old new whole : List W) → option_map view (slice_get xs i) ≡ Some v → w ≡ row v → new ≡ old ++ w ∷ []
    → old ++ map (λ x. row (view x)) (drop i xs) ≡ whole → new ++ map (λ x. row (view x)) (drop (i + 1) xs) ≡ whole
put view row xs i v w old new whole seen made push before =
    let there = from-map_some view (slice_get xs i) v seen in
    pushed old new (w ∷ []) (map (λ x. row (view x)) (drop i xs)) (map (λ x. row (view x)) (drop (i + 1) xs)) whole
    (rw (drop-there xs i there.0 there.1, there.2, made, add-one) refl) push before

-- and with its number
pub numbered-put : {X W : Type 0} (row : ℕ → X → W) (xs : List X) (i n : ℕ) (x : X) (w : W) (old new whole : List W) → slice_get xs i ≡ Some x → w ≡ row n x → new ≡ old ++ w ∷ []
    → old ++ numbered row n (drop i xs) ≡ whole → new ++ numbered row (n + 1) (drop (i + 1) xs) ≡ whole
numbered-put row xs i n x w old new whole seen made push before =
    let next : suc i ≡ i + 1 = omega arith in
    pushed old new (w ∷ []) (numbered row n (drop i xs)) (numbered row (n + 1) (drop (i + 1) xs)) whole (rw (drop-there xs i x seen, made) (ap (λ (k : ℕ). row n x ∷ numbered row (n + 1) (drop k xs)) next)) push before

-- ## lists of rows, one for each number

more_by : {W : Type 0} (rows : ℕ → List W) (n a j : ℕ) → a + n ≡ j → flat_map rows (range_with_len a (suc n)) ≡ flat_map rows (range_with_len a n) ++ rows j
more_by rows zero a j is = append-nil (rows a) ∙ ap rows (omega arith)
more_by {W} rows (suc n) a j is = ap (λ (rest : List W). rows a ++ rest) (more_by rows n (a + 1) j (omega arith)) ∙ sym (append_assoc (rows a) (flat_map rows (range_with_len (a + 1) n)) (rows j))

pub more : {W : Type 0} (rows : ℕ → List W) (n : ℕ) → flat_map rows (range_with_len 0 (n + 1)) ≡ flat_map rows (range_with_len 0 n) ++ rows n
more rows n = rw add-one (more_by rows n 0 n (omega arith))

-- # lists, place by place

-- one more that may be counted
pub count-take : {X : Type 0} (p : X → Bool) (xs : List X) (i : ℕ) (x : X) → slice_get xs i ≡ Some x → count_by p (take (i + 1) xs) ≡ count_by p (take i xs) + cond (p x) 1 0
count-take {X} p xs i x is =
    let longer : take (i + 1) xs ≡ take i xs ++ x ∷ [] = take_more xs i x (slice_get_within xs i x is) ∙ ap (λ (y : X). take i xs ++ y ∷ []) (get_or_from_slice_get xs i x x is) in
    let last : sum_by (λ y. cond (p y) 1 0) (x ∷ []) ≡ cond (p x) 1 0 = omega arith in
    ap (count_by p) longer ∙ sum_by-append (λ y. cond (p y) 1 0) (take i xs) (x ∷ []) ∙ ap (λ (n : ℕ). count_by p (take i xs) + n) last

-- the text of one more
pub texts-more : {X : Type 0} (words : X → List ℕ) (xs : List X) (i : ℕ) (x : X) (gap old mid new whole : List ℕ) → i < length xs → x ≡ get_or xs i x → mid ≡ old ++ gap → new ≡ mid ++ words x
    → old ++ flat_map (λ y. gap ++ words y) (drop i xs) ≡ whole → new ++ flat_map (λ y. gap ++ words y) (drop (i + 1) xs) ≡ whole
texts-more {X} words xs i x gap old mid new whole within at first second before =
    pushed old new (gap ++ words x) (flat_map (λ y. gap ++ words y) (drop i xs)) (flat_map (λ y. gap ++ words y) (drop (i + 1) xs)) whole
    (ap (flat_map (λ y. gap ++ words y)) (drop_more xs i x within ∙ ap (λ (y : X). y ∷ drop (i + 1) xs) (sym at))) (second ∙ rw first (append_assoc old gap (words x))) before

-- # one cell more of a row

pub cells_text-put : (ws : List ℕ) (row : List (List ℕ)) (i : ℕ) (cell old new whole : List ℕ) → i < length row → cell ≡ get_or row i cell → new ≡ old ++ cell_text (width_at ws i) cell (drop (i + 1) row)
    → old ++ cells_text ws i (drop i row) ≡ whole → new ++ cells_text ws (i + 1) (drop (i + 1) row) ≡ whole
cells_text-put ws row i cell old new whole within is put before =
    pushed old new (cell_text (width_at ws i) cell (drop (i + 1) row)) (cells_text ws i (drop i row)) (cells_text ws (i + 1) (drop (i + 1) row)) whole
    (ap (cells_text ws i) (drop_more row i cell within ∙ ap (λ (c : List ℕ). c ∷ drop (i + 1) row) (sym is))) put before

-- # sessions by their numbers

-- the next session after this many
pub session_of-next : (s : State) (at : ℕ) → session_of (record { 0 = at + 1 }) s ≡ slice_get s.sessions at
session_of-next s at =
    let some : (at + 1 == 0) ≡ false = grind (arith, nat_tests) in
    let before : at + 1 - 1 ≡ at = omega arith in
    rw (some, before) refl
