-- each step at a desk keeps its rule, by the accounts of places and parts
use Rattle.np_desk.proofs.Prelude.{Act, Allows, AreRising, AreShort, Bool, Final, Fits, Has, Idle, IfSome, IfSome_then, IsFair, IsHome, IsOut, IsPass, IsWhole, Joins, Kept, KnowsMine, List, Me, None, Option, Origin, PassView, SeatView, Seen, Shared, Some, Splits, Stage, Stands, StartsWith, State, TableId, Valid, Waits, added, after_turn, ap, append-nil, arith, at_longer, at_set, at_snoc, at_stage, both_views, carried_after, cond, dite, drew, drop, either, eq-eqb, eqb, exchanged, false, first_half, first_view, get_elem?, get_or, gives, has_word, inl, inr, is_same, joined, keeps, learned, left_half, length, length-append, looked, ne_eqb, none, not, opening, origin_of, pass_view, places, posted, pow-suc, refl, right_half, rung, seat_view, second_half, set, set-get_or, set_again, set_else, set_here, share, some, some-injective, some-ne-none, spent, step, stepped, subst, suc, sym, takes, times, total, true, with_word, without, zero, ℕ, ℕ_discrete, [], ⊎_elim, ◌++◌, ◌+◌, ◌-◌, ◌<◌, ◌^◌, ◌∙◌, ◌∷◌, ◌≡◌, ◌≢◌, ◌≤◌}
use Rattle.np_desk.proofs.HistoryLemmas.{by_bool, length-rest, places_grow, times-append, times_merged, once, rising_more, rising_places, rising_append, rising_merged, same_places, starts_same, starts_more, drop-all, starts_on}
use Rattle.std.specs.Prelude as std

-- # Parts: halves, what joins them, and their shares of a whole.

share_twice : (depth : ℕ) (w : List Bool) → length w ≤ depth → share (suc depth) w ≡ share depth w + share depth w
share_twice depth w h = let e : suc depth - length w ≡ suc (depth - length w) = omega arith in ap (λ (k : ℕ). 2 ^ k) e ∙ (pow-suc 2 (depth - length w) ∙ omega arith)

share_half : (depth : ℕ) (b : Bool) (w : List Bool) → share (suc depth) (b ∷ w) ≡ share depth w
share_half depth b w = let e : suc depth - suc (length w) ≡ depth - length w = omega arith in ap (λ (k : ℕ). 2 ^ k) e

power_some : (k : ℕ) → 0 < 2 ^ k
power_some zero = omega arith
power_some (suc k) = omega (arith, pow-suc 2 k, power_some k)

pub share_all : (depth : ℕ) → share depth [] ≡ 2 ^ depth
share_all depth = let e : depth - 0 ≡ depth = omega arith in ap (λ (k : ℕ). 2 ^ k) e

pub no_share : (depth : ℕ) (ws : List (List Bool)) → total (share depth) ws ≡ 0 → ws ≡ []
no_share depth [] nothing = refl
no_share depth (w ∷ ws) nothing = absurd (omega (arith, power_some (depth - length w)))

shares_twice : (depth : ℕ) (ws : List (List Bool)) → AreShort depth ws → total (share (suc depth)) ws ≡ total (share depth) ws + total (share depth) ws
shares_twice depth [] h = refl
shares_twice depth (w ∷ ws) h = omega (arith, share_twice depth w h.0, shares_twice depth ws h.1)

pub short_more : (depth : ℕ) (ws : List (List Bool)) → AreShort depth ws → AreShort (suc depth) ws
short_more depth [] h = tt
short_more depth (w ∷ ws) h = (omega (arith, h.0), short_more depth ws h.1)

pub all_twice : {A : Type 0} (part : A → List (List Bool)) (depth : ℕ) (l : List A) → ((j : ℕ) (u : A) → get_elem? l j ≡ some u → AreShort depth (part u))
    → total (λ u. total (share (suc depth)) (part u)) l ≡ total (λ u. total (share depth) (part u)) l + total (λ u. total (share depth) (part u)) l
all_twice part depth [] each = refl
all_twice part depth (x ∷ xs) each = omega (arith, shares_twice depth (part x) (each 0 x refl), all_twice part depth xs (λ j u e. each (suc j) u e))

pub halved : (depth : ℕ) (ws : List (List Bool)) → AreShort depth ws → total (share (suc depth)) (first_half ws) + total (share (suc depth)) (second_half ws) ≡ total (share (suc depth)) ws
halved depth [] h = refl
halved depth (w ∷ ws) h = omega (arith, share_half depth false w, share_half depth true w, share_twice depth w h.0)

pub short_halves : (depth : ℕ) (ws : List (List Bool)) → AreShort depth ws → AreShort (suc depth) (first_half ws) × AreShort (suc depth) (second_half ws)
short_halves depth [] h = (tt, tt)
short_halves depth (w ∷ ws) h = ((omega (arith, h.0), short_more depth ws h.1), (omega (arith, h.0), tt))

pub half_some : (ws : List (List Bool)) → 0 < length ws → (0 < length (first_half ws)) × (0 < length (second_half ws))
half_some [] h = absurd (omega arith)
half_some (w ∷ ws) h = (omega arith, omega arith)

abbrev bit : Bool → ℕ
bit true = 1
bit false = 0

same_word : (v w : List Bool) → is_same v w ≡ true → v ≡ w
same_word [] [] e = refl
same_word (true ∷ v) (true ∷ w) e = ap (λ (z : List Bool). true ∷ z) (same_word v w e)
same_word (false ∷ v) (false ∷ w) e = ap (λ (z : List Bool). false ∷ z) (same_word v w e)
same_word v w e = absurd (omega (arith, ap bit e))

same_self : (w : List Bool) → is_same w w ≡ true
same_self [] = refl
same_self (true ∷ w) = same_self w
same_self (false ∷ w) = same_self w

taken_out : (g : List Bool → ℕ) (w : List Bool) (vs : List (List Bool)) → has_word w vs ≡ true → total g (without w vs) + g w ≡ total g vs
taken_out g w [] e = absurd (omega (arith, ap bit e))
taken_out g w (v ∷ vs) e = grind (arith, e, same_word v w, taken_out g w vs)

short_without : (depth : ℕ) (w : List Bool) (vs : List (List Bool)) → AreShort depth vs → AreShort depth (without w vs)
short_without depth w [] h = tt
short_without depth w (v ∷ vs) h = by_bool (λ b. AreShort depth (cond b vs (v ∷ without w vs))) (is_same v w) (λ _. h.1) (λ _. (h.0, short_without depth w vs h.1))

share_pair : (depth : ℕ) (a b : Bool) (w : List Bool) → suc (length w) ≤ depth → share depth (a ∷ w) + share depth (b ∷ w) ≡ share depth w
share_pair depth a b w h = let e : depth - length w ≡ suc (depth - suc (length w)) = omega arith in let p = ap (λ (k : ℕ). 2 ^ k) e ∙ pow-suc 2 (depth - suc (length w)) in omega (arith, p)

with_share : (depth : ℕ) (w : List Bool) (ws : List (List Bool)) → length w ≤ depth → total (share depth) (with_word w ws) ≡ share depth w + total (share depth) ws
with_share depth [] ws h = refl
with_share depth (b ∷ w) ws h = by_bool (λ c. total (share depth) (cond c (with_word w (without (not b ∷ w) ws)) ((b ∷ w) ∷ ws)) ≡ share depth (b ∷ w) + total (share depth) ws) (has_word (not b ∷ w) ws)
    (λ has. omega (arith, with_share depth w (without (not b ∷ w) ws) (omega arith), taken_out (share depth) (not b ∷ w) ws has, share_pair depth b (not b) w h))
    (λ _. refl)

with_short : (depth : ℕ) (w : List Bool) (ws : List (List Bool)) → length w ≤ depth → AreShort depth ws → AreShort depth (with_word w ws)
with_short depth [] ws h s = (h, s)
with_short depth (b ∷ w) ws h s = by_bool (λ c. AreShort depth (cond c (with_word w (without (not b ∷ w) ws)) ((b ∷ w) ∷ ws))) (has_word (not b ∷ w) ws)
    (λ _. with_short depth w (without (not b ∷ w) ws) (omega arith) (short_without depth (not b ∷ w) ws s))
    (λ _. (h, s))

with_some : (w : List Bool) (ws : List (List Bool)) → 0 < length (with_word w ws)
with_some [] ws = omega arith
with_some (b ∷ w) ws = by_bool (λ c. 0 < length (cond c (with_word w (without (not b ∷ w) ws)) ((b ∷ w) ∷ ws))) (has_word (not b ∷ w) ws) (λ _. with_some w (without (not b ∷ w) ws)) (λ _. omega arith)

pub joined_share : (depth : ℕ) (ws vs : List (List Bool)) → AreShort depth vs → total (share depth) (joined ws vs) ≡ total (share depth) ws + total (share depth) vs
joined_share depth ws [] h = omega arith
joined_share depth ws (v ∷ vs) h = omega (arith, joined_share depth (with_word v ws) vs h.1, with_share depth v ws h.0)

pub joined_short : (depth : ℕ) (ws vs : List (List Bool)) → AreShort depth ws → AreShort depth vs → AreShort depth (joined ws vs)
joined_short depth ws [] s h = s
joined_short depth ws (v ∷ vs) s h = joined_short depth (with_word v ws) vs (with_short depth v ws h.0 s) h.1

pub joined_some : (ws vs : List (List Bool)) → 0 < length ws → 0 < length (joined ws vs)
joined_some ws [] h = h
joined_some ws (v ∷ vs) h = joined_some (with_word v ws) vs (with_some v ws)

with_none : (w : List Bool) → with_word w [] ≡ w ∷ []
with_none [] = refl
with_none (b ∷ w) = refl

-- a join puts the halves of a split together again
pub joined_back : (w : List Bool) (part other new : List (List Bool)) → new ≡ joined part other → part ≡ first_half (w ∷ []) → other ≡ second_half (w ∷ []) → new ≡ w ∷ []
joined_back w part other new is left right = is ∙ rw (left, right, same_self w) (with_none w)

pub half_not_whole : (ws : List (List Bool)) → (IsWhole (first_half ws) → ⊥) × (IsWhole (second_half ws) → ⊥)
half_not_whole [] = ((λ e. absurd (omega (arith, ap length e))), (λ e. absurd (omega (arith, ap length e))))
half_not_whole (w ∷ ws) = ((λ e. absurd (omega (arith, ap (total length) e))), (λ e. absurd (omega (arith, ap (total length) e))))

-- # Sums over lists that change at one place.

module _ {A : Type 0} where
  pub inside : (l : List A) (i : ℕ) (a : A) → get_elem? l i ≡ some a → i < length l
  inside [] i a e = absurd (some-ne-none a (sym e))
  inside (x ∷ xs) zero a e = omega arith
  inside (x ∷ xs) (suc i) a e = omega (arith, inside xs i a e)

  pub total-append : (g : A → ℕ) (l m : List A) → total g (l ++ m) ≡ total g l + total g m
  total-append g [] m = omega arith
  total-append g (x ∷ xs) m = omega (arith, total-append g xs m)

  pub total-set : (g : A → ℕ) (l : List A) (j : ℕ) (v w : A) → get_elem? l j ≡ some v → total g (set l j w) + g v ≡ total g l + g w
  total-set g [] j v w e = absurd (some-ne-none v (sym e))
  total-set g (x ∷ xs) zero v w e = omega (arith, ap g (some-injective x v e))
  total-set g (x ∷ xs) (suc j) v w e = omega (arith, total-set g xs j v w e)

  pub term_le : (g : A → ℕ) (l : List A) (j : ℕ) (v : A) → get_elem? l j ≡ some v → g v ≤ total g l
  term_le g [] j v e = absurd (some-ne-none v (sym e))
  term_le g (x ∷ xs) zero v e = omega (arith, ap g (some-injective x v e))
  term_le g (x ∷ xs) (suc j) v e = omega (arith, term_le g xs j v e)

  all_zero : (g h : A → ℕ) (l : List A) → ((j : ℕ) (u : A) → get_elem? l j ≡ some u → h u ≡ 0 → g u ≡ 0) → total h l ≡ 0 → total g l ≡ 0
  all_zero g h [] each nothing = refl
  all_zero g h (x ∷ xs) each nothing = omega (arith, each 0 x refl (omega arith), all_zero g h xs (λ j u e. each (suc j) u e) (omega arith))

  -- if one member has all the weight by h, and each member with no weight by h has none by g, that
  -- member has all the weight by g
  pub all_one's : (g h : A → ℕ) (l : List A) (i : ℕ) (v : A) → get_elem? l i ≡ some v → ((j : ℕ) (u : A) → get_elem? l j ≡ some u → h u ≡ 0 → g u ≡ 0) → total h l ≡ h v → total g l ≡ g v
  all_one's g h [] i v e each all = absurd (some-ne-none v (sym e))
  all_one's g h (x ∷ xs) zero v e each all = let same = some-injective x v e in omega (arith, ap g same, ap h same, all_zero g h xs (λ j u e. each (suc j) u e) (omega (arith, ap h same)))
  all_one's g h (x ∷ xs) (suc i) v e each all = let part = term_le h xs i v e in omega (arith, each 0 x refl (omega arith), all_one's g h xs i v e (λ j u e. each (suc j) u e) (omega arith))

  -- what holds of each member, after one is put into its place, and after one more
  at_each : (P : ℕ → A → Type 0) (l : List A) (i : ℕ) (w : A) → P i w → ((j : ℕ) (u : A) → j ≢ i → get_elem? l j ≡ some u → P j u) → (j : ℕ) (u : A) → get_elem? (set l i w) j ≡ some u → P j u
  at_each P l i w here rest j u e = ⊎_elim
      (λ (q : (j ≡ i) × (w ≡ u)). subst (λ (z : ℕ × A). P z.0 z.1) (λ k. (sym q.0 k, q.1 k)) here) (λ q. rest j u q.0 q.1) (at_set l i j w u e)

  at_end : (P : ℕ → A → Type 0) (l : List A) (w : A) → ((j : ℕ) (u : A) → get_elem? l j ≡ some u → P j u) → ((j : ℕ) → P j w) → (j : ℕ) (u : A) → get_elem? (l ++ w ∷ []) j ≡ some u → P j u
  at_end P l w rest here j u e = ⊎_elim (λ q. rest j u q) (λ (q : w ≡ u). subst (P j) q (here j)) (at_snoc l w u j e)

-- # The accounts of places and parts, over each kind of step.

module _ {F E : Type 0} where
  abbrev pub weight : ℕ → SeatView F E → ℕ
  weight depth u = total (share depth) u.part

  abbrev count : ℕ → SeatView F E → ℕ
  count x u = times x u.mine

  -- one seat keeps its places and its part
  pub shared_same : (n : ℕ) (log : List E) (views : List (SeatView F E)) (id : ℕ) (v w : SeatView F E) → get_elem? views id ≡ some v → w.mine ≡ v.mine → w.part ≡ v.part → (w.part ≡ [] → w.stage ≡ Idle) → Shared n log views → Shared n log (set views id w)
  shared_same n log views id v w at mine part idle h = record {
    depth = h.depth;
    long = h.long;
    counted = λ x. omega (arith, total-set (count x) views id v w at, ap (times x) mine, h.counted x);
    whole = omega (arith, total-set (weight h.depth) views id v w at, ap (total (share h.depth)) part, h.whole);
    each_part = let old = h.each_part id v at in at_each (λ _. IsFair h.depth log) views id w
        (rw part old.0, (λ none-left. (mine ∙ (old.1 (sym part ∙ none-left)).0, idle none-left)), rw mine old.2) (λ j u _. h.each_part j u);
  }

  -- the seat adds the places of new entries
  pub shared_more : (n : ℕ) (log more : List E) (views : List (SeatView F E)) (id : ℕ) (v w : SeatView F E) → get_elem? views id ≡ some v → w.mine ≡ v.mine ++ places (length log) more → w.part ≡ v.part → 0 < length v.part
      → Shared n log views → Shared n (log ++ more) (set views id w)
  shared_more n log more views id v w at mine part some_part h = record {
    depth = h.depth;
    long = omega (arith, h.long, length-append log more);
    counted = λ x. omega (arith, total-set (count x) views id v w at, ap (times x) mine, times-append x v.mine (places (length log) more), h.counted x, ap (times x) (places_grow n log more h.long), times-append x (places n (drop n log)) (places (length log) more));
    whole = omega (arith, total-set (weight h.depth) views id v w at, ap (total (share h.depth)) part, h.whole);
    each_part = let old = h.each_part id v at in at_each (λ _. IsFair h.depth (log ++ more)) views id w
        (rw part old.0, (λ none-left. absurd (omega (arith, ap length (sym part ∙ none-left)))), rw (mine, length-append log more) (rising_append 0 (length log) v.mine more (omega arith) old.2))
        (λ j u _ e. let old = h.each_part j u e in (old.0, old.1, rising_more 0 (length log) (length (log ++ more)) u.mine (omega (arith, length-append log more)) old.2));
  }

  pub shared_split : (n : ℕ) (log : List E) (views : List (SeatView F E)) (id : ℕ) (v : SeatView F E) → get_elem? views id ≡ some v → 0 < length v.part → Shared n log views → Shared n log (set views id (left_half v) ++ right_half v ∷ [])
  shared_split n log views id v at some_part h = let l : SeatView F E = left_half v in let r : SeatView F E = right_half v in
      let mine = h.each_part id v at in let halves = short_halves h.depth v.part mine.0 in let some = half_some v.part some_part in record {
        depth = suc h.depth;
        long = h.long;
        counted = λ x. omega (arith, total-append (count x) (set views id l) (r ∷ []), total-set (count x) views id v l at, h.counted x);
        whole = omega (
          arith,
          total-append (weight (suc h.depth)) (set views id l) (r ∷ []),
          total-set (weight (suc h.depth)) views id v l at,
          halved h.depth v.part mine.0,
          all_twice (λ (u : SeatView F E). u.part) h.depth views (λ j u e. (h.each_part j u e).0),
          h.whole,
          pow-suc 2 h.depth,
        );
        each_part = at_end (λ _. IsFair (suc h.depth) log) (set views id l) r
            (at_each (λ _. IsFair (suc h.depth) log) views id l
            (halves.0, (λ none-left. absurd (omega (arith, some.0, ap length none-left))), mine.2)
            (λ j u _ e. let old = h.each_part j u e in (short_more h.depth u.part old.0, old.1, old.2)))
            (λ _. (halves.1, (λ _. (refl, refl)), tt));
      }

  pub shared_join : (n : ℕ) (log : List E) (views : List (SeatView F E)) (id : ℕ) (v : SeatView F E) (other : ℕ) (w : SeatView F E) → get_elem? views id ≡ some v → ¬ (other ≡ id) → get_elem? (set views id (both_views v w)) other ≡ some w → get_elem? views other ≡ some w → 0 < length v.part
      → Shared n log views → Shared n log (set (set views id (both_views v w)) other spent)
  shared_join n log views id v other w at apart them there some_part h = let b : SeatView F E = both_views v w in let vs : List (SeatView F E) = set views id b in
      let mine = h.each_part id v at in let theirs = h.each_part other w there in
      let counted' : (x : ℕ) → total (count x) (set vs other spent) ≡ times x (places n (drop n log)) = λ x. omega (arith, total-set (count x) vs other w spent them, total-set (count x) views id v b at, times_merged x v.mine w.mine, h.counted x) in
      let here : get_elem? (set vs other spent) id ≡ some b = set_else vs other id spent (λ e. apart (sym e)) ∙ set_here views id b (inside views id v at) in
      let one : (x : ℕ) → times x v.mine + times x w.mine ≤ 1 = λ x. omega (arith, term_le (count x) (set vs other spent) id b here, times_merged x v.mine w.mine, counted' x, once n (n + length (drop n log)) (places n (drop n log)) (rising_places n n (drop n log) (omega arith)) x) in record {
        depth = h.depth;
        long = h.long;
        counted = counted';
        whole = omega (arith, total-set (weight h.depth) vs other w spent them, total-set (weight h.depth) views id v b at, joined_share h.depth v.part w.part theirs.0, h.whole);
        each_part = at_each (λ _. IsFair h.depth log) vs other spent (tt, (λ _. (refl, refl)), tt)
            (λ j u _. at_each (λ _. IsFair h.depth log) views id b
            (joined_short h.depth v.part w.part mine.0 theirs.0, (λ none-left. absurd (omega (arith, joined_some v.part w.part some_part, ap length none-left))), rising_merged (length log) v.mine 0 w.mine mine.2 theirs.2 one)
            (λ j u _. h.each_part j u) j u);
      }

  -- beside a whole part the others have nothing
  pub nothing_else : (n : ℕ) (log : List E) (views : List (SeatView F E)) (id : ℕ) (v : SeatView F E) → get_elem? views id ≡ some v → v.part ≡ [] ∷ [] → (h : Shared n log views)
      → (total (weight h.depth) views ≡ weight h.depth v) × ((j : ℕ) (u : SeatView F E) → get_elem? views j ≡ some u → weight h.depth u ≡ 0 → (u.mine ≡ []) × (u.stage ≡ Idle))
  nothing_else n log views id v at whole h = (
    h.whole ∙ sym (ap (total (share h.depth)) whole ∙ omega (arith, share_all h.depth)),
    λ j u e none-left. (h.each_part j u e).1 (no_share h.depth u.part none-left),
  )

  -- a whole seat made every place that was added
  pub all_mine : (n : ℕ) (log : List E) (views : List (SeatView F E)) (id : ℕ) (v : SeatView F E) → get_elem? views id ≡ some v → v.part ≡ [] ∷ [] → Shared n log views → v.mine ≡ places n (drop n log)
  all_mine n log views id v at whole h = let t = nothing_else n log views id v at whole h in
      same_places 0 0 (length log) v.mine (places n (drop n log)) (h.each_part id v at).2
      (subst (λ (z : ℕ). AreRising 0 (places n (drop n log)) z) (length-rest n log h.long) (rising_places 0 n (drop n log) (omega arith)))
      (λ k. sym (all_one's (count k) (weight h.depth) views id v at (λ j u e z. ap (times k) (t.1 j u e z).0) t.0) ∙ h.counted k)

  -- what a seat knows that has seen the whole history
  pub knows_mine : (o : Origin F E) (log : List E) (views : List (SeatView F E)) (id : ℕ) (w : SeatView F E) → get_elem? views id ≡ some w → IfSome w.origin (λ g. g ≡ o) → w.seen ≡ log → Shared (length o.history) log views → KnowsMine w
  knows_mine o log views id w at same all h = (
    subst (λ (l : List E). AreRising 0 w.mine (length l)) (sym all) (h.each_part id w at).2,
    λ whole. IfSome_then w.origin same (λ g e. all_mine (length o.history) log views id w at whole h ∙ (ap (λ (l : List E). added o.history l) (sym all) ∙ ap (λ (z : Origin F E). added z.history w.seen) (sym e))),
  )

-- # The steps of a turn keep the rule.

abbrev pub kind : Stage → ℕ
kind Idle = 0
kind (Waits t) = 1
kind (Has t) = 2

abbrev number : Stage → ℕ
number Idle = 0
number (Waits t) = t
number (Has t) = t

module _ {E : Type 0} where
  -- what the stages of the other seats say, after one drew a ticket
  stands_drawn : (next now id : ℕ) (drawer : ℕ → ℕ) (log : List E) (seat : ℕ) (seen : List E) (s : Stage) → Stands next now drawer log seat seen s → Stands (suc next) now (λ t. cond (eqb t next) id (drawer t)) log seat seen s
  stands_drawn next now id drawer log seat seen Idle h = tt
  stands_drawn next now id drawer log seat seen (Waits t) h = (h.0, omega (arith, h.1), ap (λ b. cond b id (drawer t)) (ne_eqb t next (λ e. omega (arith, h.1))) ∙ h.2)
  stands_drawn next now id drawer log seat seen (Has t) h = (h.0, omega (arith, h.1), ap (λ b. cond b id (drawer t)) (ne_eqb t next (λ e. omega (arith, h.1))) ∙ h.2, h.3)

  -- the same, after another seat's ticket was served and the next one is
  stands_called : (next now id : ℕ) (drawer : ℕ → ℕ) (log more : List E) (seat : ℕ) (seen : List E) (s : Stage) → drawer now ≡ id → seat ≢ id → Stands next now drawer log seat seen s → Stands next (suc now) drawer (log ++ more) seat seen s
  stands_called next now id drawer log more seat seen Idle mine other h = tt
  stands_called next now id drawer log more seat seen (Waits t) mine other h =
      (dite (ℕ_discrete t now) (λ e. absurd (other (sym h.2 ∙ (ap drawer e ∙ mine)))) (λ ne. omega (arith, h.0)), h.1, h.2)
  stands_called next now id drawer log more seat seen (Has t) mine other h = absurd (other (sym h.2 ∙ (ap drawer (sym h.0) ∙ mine)))

module _ {M F E : Type 0} (history : M → List E) (fixed : M → F) (legal : F → List E → Bool) (o : Origin F E) where
  abbrev St : Type 0
  St = State M (SeatView F E)

  abbrev Rule : St → Type 0
  Rule = Kept history fixed legal o

  abbrev Sat : Type 0
  Sat = Me M (SeatView F E)

  -- the seats and the bells change, and the tickets and slots stay
  reseated : (s : St) (r : Rule s) (words bells : List ℕ) (views : List (SeatView F E)) → words ≡ r.next ∷ r.now ∷ bells → (IsOut r.now r.drawer s.views → IsOut r.now r.drawer views) → ((j : ℕ) (u : SeatView F E) → get_elem? views j ≡ some u → Fits o r.next r.now r.drawer r.log j u)
      → Shared (length o.history) r.log views → Rule record { words = words; homes = s.homes; views = views }
  reseated s r words bells views are out each shared = record {
    log = r.log;
    next = r.next;
    now = r.now;
    drawer = r.drawer;
    home = r.home;
    bells = bells;
    words = are;
    homes = r.homes;
    order = r.order;
    lawful = r.lawful;
    object = ⊎_elim (λ h. inl h) (λ h. inr (out h)) r.object;
    each_seat = each;
    shared = shared;
  }

  -- a step that changes nothing
  unmoved : (s : St) (r : Rule s) (i id : ℕ) (m : Sat) → get_elem? s.views id ≡ some m.0 → Rule (stepped s i (get_or s.words i 0) id m.1 m.0 keeps)
  unmoved s r i id m at = subst (λ (z : List ℕ × List (SeatView F E)). Rule record { words = z.0; homes = s.homes; views = z.1 }) (λ k. (sym (set-get_or s.words i 0) k, sym (set_again s.views id m.0 at) k)) r

  pub rings : (slots id : ℕ) (m : Sat) (word i new : ℕ) → word ≡ suc (suc i) → Allows Rule slots id m word (λ _. new) (rung (step slots word new 0 none) m)
  rings slots id m word i new is s r deep at small = (
    m.0,
    keeps,
    tt,
    subst (λ (z : ℕ × List (SeatView F E)). Rule record { words = set s.words z.0 new; homes = s.homes; views = z.1 }) (λ k. (sym is k, sym (set_again s.views id m.0 at) k))
        (reseated s r (set s.words (suc (suc i)) new) (set r.bells i new) s.views (ap (λ (ws : List ℕ). set ws (suc (suc i)) new) r.words) (λ h. h) r.each_seat r.shared),
    refl,
  )

  pub draws : (slots id : ℕ) (m : Sat) (old new : ℕ) → new ≡ suc old → m.0.stage ≡ Idle → 0 < length m.0.part
      → Allows Rule slots id m 0 (λ x. either (eqb x old) new x) (drew (step slots 0 old new none) m)
  draws slots id m old new up idle some_part s r deep at small = exchanged (get_or s.words 0 0) old new
      (λ x. (w : SeatView F E) × (a : Act M) × Valid s.homes m.1 a × Rule (stepped s 0 x id m.1 w a) × drew (step slots 0 old new none) m (get_or s.words 0 0) (w, carried_after m.1 a))
      (λ hit. let found : r.next ≡ old = sym (ap (λ (ws : List ℕ). get_or ws 0 0) r.words) ∙ hit in
      let w : SeatView F E = at_stage m.0 (Waits (get_or s.words 0 0)) in
      let drawer : ℕ → ℕ = λ t. cond (eqb t r.next) id (r.drawer t) in
      let mine : drawer r.next ≡ id = ap (λ b. cond b id (r.drawer r.next)) (eq-eqb r.next r.next refl) in
      let me = r.each_seat id m.0 at in (
        w,
        keeps,
        tt,
        record {
          log = r.log;
          next = suc r.next;
          now = r.now;
          drawer = drawer;
          home = r.home;
          bells = r.bells;
          words = ap (λ (ws : List ℕ). set ws 0 new) r.words ∙ ap (λ (k : ℕ). k ∷ r.now ∷ r.bells) (omega (arith, up, found));
          homes = r.homes;
          order = omega (arith, r.order);
          lawful = r.lawful;
          object = ⊎_elim (λ h. inl h)
              (λ (h : IsOut r.now r.drawer s.views). let theirs = r.each_seat (r.drawer r.now) h.0 h.1 in
              let they : Stands r.next r.now r.drawer r.log (r.drawer r.now) h.0.seen (Has r.now) = subst (Stands r.next r.now r.drawer r.log (r.drawer r.now) h.0.seen) h.2 theirs.3 in
              let same : drawer r.now ≡ r.drawer r.now = ap (λ b. cond b id (r.drawer r.now)) (ne_eqb r.now r.next (λ e. omega (arith, they.1))) in
              let other : r.drawer r.now ≢ id = λ e. let u : h.0 ≡ m.0 = some-injective h.0 m.0 (sym h.1 ∙ (ap (get_elem? s.views) e ∙ at)) in omega (arith, ap kind (sym h.2), ap (λ (z : SeatView F E). kind z.stage) u, ap kind idle) in
              inr (h.0, ap (get_elem? (set s.views id w)) same ∙ (set_else s.views id (r.drawer r.now) w other ∙ h.1), h.2))
              r.object;
          each_seat = at_each (Fits o (suc r.next) r.now drawer r.log) s.views id w
              (me.0, me.1, me.2, (omega (arith, r.order, found, hit), omega (arith, found, hit), ap drawer (hit ∙ sym found) ∙ mine))
              (λ j u _ e. let old = r.each_seat j u e in (old.0, old.1, old.2, stands_drawn r.next r.now id r.drawer r.log j u.seen u.stage old.3));
          shared = shared_same (length o.history) r.log s.views id m.0 w at refl refl (λ none-left. absurd (omega (arith, ap length none-left))) r.shared;
        },
        ((λ _. refl), λ miss. absurd (miss hit)),
      ))
      (λ miss. (m.0, keeps, tt, unmoved s r 0 id m at, ((λ hit. absurd (miss hit)), λ _. refl)))

  pub looks : (slots id : ℕ) (m : Sat) (t : ℕ) → m.0.stage ≡ Waits t → 0 < length m.0.part → Allows Rule slots id m 1 (λ x. x) (looked history fixed legal (step slots 1 0 0 none) m)
  looks slots id m t waits some_part s r deep at small = let me = r.each_seat id m.0 at in
      let mine : Stands r.next r.now r.drawer r.log id m.0.seen (Waits t) = subst (Stands r.next r.now r.drawer r.log id m.0.seen) waits me.3 in
      let found : get_or s.words 1 0 ≡ r.now = ap (λ (ws : List ℕ). get_or ws 1 0) r.words in
      let same : (t' : ℕ) → m.0.stage ≡ Waits t' → t' ≡ t = λ t' is. ap number (sym is ∙ waits) in
      dite (ℕ_discrete (get_or s.words 1 0) t)
      (λ hit. let served : r.now ≡ t = sym found ∙ hit in ⊎_elim
      (λ (h : IsHome history fixed legal o.fixed r.log r.home). let x : M = h.0 in let w : SeatView F E = seat_view m.0.origin (history x) m.0.mine m.0.part m.0.told (Has t) in
      let home : s.homes ≡ some x ∷ [] = r.homes ∙ ap (λ (p : Option M). p ∷ []) h.1 in (
        w,
        takes 0 x,
        ap (λ (hs : List (Option M)). get_elem? hs 0) home,
        record {
          log = r.log;
          next = r.next;
          now = r.now;
          drawer = r.drawer;
          home = none;
          bells = r.bells;
          words = set-get_or s.words 1 0 ∙ r.words;
          homes = ap (λ (hs : List (Option M)). set hs 0 none) home;
          order = r.order;
          lawful = r.lawful;
          object = inr (w, ap (get_elem? (set s.views id w)) (ap r.drawer served ∙ mine.2) ∙ set_here s.views id w (inside s.views id m.0 at), ap Has (sym served));
          each_seat = at_each (Fits o r.next r.now r.drawer r.log) s.views id w
              (me.0, subst (StartsWith r.log) (sym h.2) (starts_same r.log), me.2, (served, mine.1, mine.2, h.2)) (λ j u _. r.each_seat j u);
          shared = shared_same (length o.history) r.log s.views id m.0 w at refl refl (λ none-left. absurd (omega (arith, ap length none-left))) r.shared;
        },
        λ t' is. let e = same t' is in (
          (λ miss. absurd (miss (hit ∙ sym e))),
          λ _. (x, ap (λ (k : ℕ). (seat_view m.0.origin (history x) m.0.mine m.0.part m.0.told (Has k), (0, x) ∷ m.1)) (sym e), subst (λ (l : List E). StartsWith l m.0.seen) (sym h.2) me.1, IfSome_then m.0.origin me.0 (λ g e'. (h.3 ∙ ap (λ (z : Origin F E). z.fixed) (sym e'), ap (λ (z : Origin F E). legal z.fixed (history x)) e' ∙ (ap (legal o.fixed) h.2 ∙ r.lawful)))),
        ),
      ))
      (λ (h : IsOut r.now r.drawer s.views). let u : h.0 ≡ m.0 = some-injective h.0 m.0 (sym h.1 ∙ (ap (get_elem? s.views) (ap r.drawer served ∙ mine.2) ∙ at)) in
      absurd (omega (arith, ap kind (sym h.2), ap (λ (z : SeatView F E). kind z.stage) u, ap kind waits)))
      r.object)
      (λ miss. (m.0, keeps, tt, unmoved s r 1 id m at, λ t' is. ((λ _. refl), λ hit. absurd (miss (hit ∙ same t' is)))))

  posts_from : (slots id : ℕ) (v : SeatView F E) (t new : ℕ) (x : M) (more : List E) → new ≡ suc t → v.stage ≡ Has t → history x ≡ v.seen ++ more → fixed x ≡ o.fixed → legal o.fixed (history x) ≡ true → 0 < length v.part
      → Allows Rule slots id (v, (0, x) ∷ []) 1 (λ _. new) (λ _. posted history (step slots 1 new 0 none) (v, (0, x) ∷ []) new)
  posts_from slots id v t new x more up has grown same_fixed lawful some_part s r deep at small = let me = r.each_seat id v at in
      let mine : Stands r.next r.now r.drawer r.log id v.seen (Has t) = subst (Stands r.next r.now r.drawer r.log id v.seen) has me.3 in
      let w : SeatView F E = after_turn v (history x) in
      let log : List E = r.log ++ more in
      let now_all : history x ≡ log = grown ∙ ap (λ (l : List E). l ++ more) mine.3 in
      let served : r.drawer r.now ≡ id = ap r.drawer mine.0 ∙ mine.2 in
      let shared = shared_more (length o.history) r.log more s.views id v w at
      (ap (λ (l : List E). v.mine ++ places (length v.seen) l) (ap (drop (length v.seen)) grown ∙ drop-all v.seen more) ∙ ap (λ (l : List E). v.mine ++ places (length l) more) mine.3)
      refl some_part r.shared in
      let known : KnowsMine w = knows_mine o log (set s.views id w) id w (set_here s.views id w (inside s.views id v at)) me.0 now_all shared in (
        w,
        gives,
        tt,
        record {
          log = log;
          next = r.next;
          now = suc r.now;
          drawer = r.drawer;
          home = some x;
          bells = r.bells;
          words = ap (λ (ws : List ℕ). set ws 1 new) r.words ∙ ap (λ (k : ℕ). r.next ∷ k ∷ r.bells) (up ∙ ap suc (sym mine.0));
          homes = ap (λ (hs : List (Option M)). set hs 0 (some x)) r.homes;
          order = omega (arith, mine.0, mine.1);
          lawful = ap (legal o.fixed) (sym now_all) ∙ lawful;
          object = inl (x, refl, now_all, same_fixed);
          each_seat = at_each (Fits o r.next (suc r.now) r.drawer log) s.views id w
              (me.0, subst (StartsWith log) (sym now_all) (starts_same log), starts_more r.log v.told more me.2, tt)
              (λ j u other e. let old = r.each_seat j u e in
              (old.0, starts_more r.log u.seen more old.1, starts_more r.log u.told more old.2, stands_called r.next r.now id r.drawer r.log more j u.seen u.stage served other old.3));
          shared = shared;
        },
        λ y is. let e : x ≡ y = ap (λ (c : List (ℕ × M)). (get_or c 0 (0, x)).1) is in
            subst (λ (z : M). let m : Sat = (w, []) in (m ≡ (after_turn v (history z), [])) × KnowsMine (after_turn v (history z))) e (refl, known),
      )

  pub posts : (slots id : ℕ) (m : Sat) (t new : ℕ) (x : M) (more : List E) → m.1 ≡ (0, x) ∷ [] → new ≡ suc t → m.0.stage ≡ Has t → history x ≡ m.0.seen ++ more → fixed x ≡ o.fixed → legal o.fixed (history x) ≡ true → 0 < length m.0.part
      → Allows Rule slots id m 1 (λ _. new) (λ _. posted history (step slots 1 new 0 none) m new)
  posts slots id m t new x more is up has grown same_fixed lawful some_part =
      subst (λ (c : List (ℕ × M)). Allows Rule slots id (m.0, c) 1 (λ _. new) (λ _. posted history (step slots 1 new 0 none) (m.0, c) new)) (sym is)
      (posts_from slots id m.0 t new x more up has grown same_fixed lawful some_part)

-- # The steps of split, join and meet keep the rule.

module _ {F E : Type 0} where
  out_stays : (now id : ℕ) (drawer : ℕ → ℕ) (views : List (SeatView F E)) (v w : SeatView F E) → get_elem? views id ≡ some v → w.stage ≡ v.stage → IsOut now drawer views → IsOut now drawer (set views id w)
  out_stays now id drawer views v w at same h = dite (ℕ_discrete (drawer now) id)
      (λ e. let u : h.0 ≡ v = some-injective h.0 v (sym h.1 ∙ (ap (get_elem? views) e ∙ at)) in
      (w, ap (get_elem? (set views id w)) e ∙ set_here views id w (inside views id v at), same ∙ (ap (λ (z : SeatView F E). z.stage) (sym u) ∙ h.2)))
      (λ ne. (h.0, set_else views id (drawer now) w ne ∙ h.1, h.2))

  out_longer : (now : ℕ) (drawer : ℕ → ℕ) (views more : List (SeatView F E)) → IsOut now drawer views → IsOut now drawer (views ++ more)
  out_longer now drawer views more h = (h.0, at_longer views more (drawer now) h.0 h.1, h.2)

module _ {M F E : Type 0} (history : M → List E) (fixed : M → F) (legal : F → List E → Bool) (o : Origin F E) where
  abbrev PassRule : State M (SeatView F E) → Type 0
  PassRule = Kept history fixed legal o

  pub learns : (slots id : ℕ) (m : Me M (SeatView F E)) → m.0.stage ≡ Idle → Allows PassRule slots id m 0 (λ x. x) (learned legal (step slots 0 0 0 none) m)
  learns slots id m idle s r deep at small = let me = r.each_seat id m.0 at in let w : SeatView F E = seat_view m.0.origin r.log m.0.mine m.0.part [] m.0.stage in
      let shared = shared_same (length o.history) r.log s.views id m.0 w at refl refl (λ _. idle) r.shared in (
        w,
        keeps,
        tt,
        reseated history fixed legal o s r (set s.words 0 (get_or s.words 0 0)) r.bells (set s.views id w) (set-get_or s.words 0 0 ∙ r.words) (out_stays r.now id r.drawer s.views m.0 w at refl)
            (at_each (Fits o r.next r.now r.drawer r.log) s.views id w
            (me.0, starts_same r.log, (r.log, refl), subst (Stands r.next r.now r.drawer r.log id r.log) (sym idle) tt) (λ j u _. r.each_seat j u))
            shared,
        (
          r.log,
          refl,
          me.1,
          me.2,
          IfSome_then m.0.origin me.0 (λ g e. ap (λ (z : Origin F E). legal z.fixed r.log) e ∙ r.lawful),
          knows_mine o r.log (set s.views id w) id w (set_here s.views id w (inside s.views id m.0 at)) me.0 refl shared,
        ),
      )

  pub splits : (id : ℕ) (v : SeatView F E) → 0 < length v.part → Splits PassRule id v (left_half v) (right_half v)
  splits id v some_part s r at = let me = r.each_seat id v at in let l : SeatView F E = left_half v in let new : SeatView F E = right_half v in
      reseated history fixed legal o s r s.words r.bells (set s.views id l ++ new ∷ []) r.words
      (λ h. out_longer r.now r.drawer (set s.views id l) (new ∷ []) (out_stays r.now id r.drawer s.views v l at refl h))
      (at_end (Fits o r.next r.now r.drawer r.log) (set s.views id l) new
      (at_each (Fits o r.next r.now r.drawer r.log) s.views id l me (λ j u _. r.each_seat j u)) (λ _. (me.0, me.1, (r.log, refl), tt)))
      (shared_split (length o.history) r.log s.views id v at some_part r.shared)

  pub joins : (id : ℕ) (v : SeatView F E) (other : ℕ) (w : SeatView F E) → 0 < length v.part → w.stage ≡ Idle → Joins PassRule id v other w (both_views v w) spent
  joins id v other w some_part idle s r at apart them = let b : SeatView F E = both_views v w in let vs : List (SeatView F E) = set s.views id b in
      let there : get_elem? s.views other ≡ some w = sym (set_else s.views id other b apart) ∙ them in
      let me = r.each_seat id v at in let they = r.each_seat other w there in
      reseated history fixed legal o s r s.words r.bells (set vs other spent) r.words
      (λ h. out_stays r.now other r.drawer vs w spent them (sym idle) (out_stays r.now id r.drawer s.views v b at refl h))
      (at_each (Fits o r.next r.now r.drawer r.log) vs other spent (tt, (r.log, refl), (r.log, refl), tt)
      (λ j u _. at_each (Fits o r.next r.now r.drawer r.log) s.views id b (me.0, me.1, they.1, me.3) (λ j u _. r.each_seat j u) j u))
      (shared_join (length o.history) r.log s.views id v other w at apart them there some_part r.shared)

module _ {F E : Type 0} where
  begins_on : (origin : std.Option (Origin F E)) (log seen : List E) → StartsWith log seen → IfSome origin (λ o. StartsWith seen o.history) → IfSome origin (λ o. StartsWith log o.history)
  begins_on None log seen h k = tt
  begins_on (Some o) log seen h k = starts_on log seen o.history h k

module _ {M F E : Type 0} (legal : F → List E → Bool) where
  -- a pass that took in another seat, and then saw the whole history
  pub rests : (m both n : Me M (SeatView F E)) (v : SeatView F E) → IsPass legal m → both ≡ (both_views m.0 v, m.1) → learned legal (step 0 0 0 0 none) both 0 n → IsPass legal n
  rests m both n v p is told = let t = subst (λ (z : Me M (SeatView F E)). learned legal (step 0 0 0 0 none) z 0 n) is told in record {
    idle = ap (λ (z : Me M (SeatView F E)). z.0.stage) t.1 ∙ p.idle;
    nothing = ap (λ (z : Me M (SeatView F E)). z.1) t.1 ∙ p.nothing;
    some_part = subst (λ (z : Me M (SeatView F E)). 0 < length z.0.part) (sym t.1) (joined_some m.0.part v.part p.some_part);
    mine = t.5;
    lawful = t.4;
    begins = subst (λ (z : Me M (SeatView F E)). IfSome z.0.origin (λ o. StartsWith z.0.seen o.history)) (sym t.1) (begins_on m.0.origin t.0 m.0.seen t.2 p.begins);
  }

  -- a seat that gave away half of its part, and the seat that has that half
  pub left_rests : (m n : Me M (SeatView F E)) → IsPass legal m → n ≡ (left_half m.0, m.1) → IsPass legal n
  left_rests m n p is = subst (IsPass legal) (sym is) record {
    idle = p.idle;
    nothing = p.nothing;
    some_part = (half_some m.0.part p.some_part).0;
    mine = (p.mine.0, λ whole. absurd ((half_not_whole m.0.part).0 whole));
    lawful = p.lawful;
    begins = p.begins;
  }

  pub right_rests : (m n : Me M (SeatView F E)) → IsPass legal m → n ≡ (right_half m.0, []) → IsPass legal n
  right_rests m n p is = subst (IsPass legal) (sym is) record {
    idle = refl;
    nothing = refl;
    some_part = (half_some m.0.part p.some_part).1;
    mine = (tt, λ whole. absurd ((half_not_whole m.0.part).1 whole));
    lawful = p.lawful;
    begins = p.begins;
  }

-- # The rule at set-up and at close.

module _ {E : Type 0} where
  nothing_added : (log : List E) → added log log ≡ []
  nothing_added log = ap (places (length log)) (ap (drop (length log)) (sym (append-nil log)) ∙ drop-all log [])

module _ {M F E : Type 0} (history : M → List E) (fixed : M → F) (legal : F → List E → Bool) where
  pub starts_at : (bells : List ℕ) (x y : M) (xs : List M) → y ≡ x → xs ≡ x ∷ [] → legal (fixed x) (history x) ≡ true → Kept history fixed legal (origin_of fixed history y) (opening (0 ∷ 0 ∷ bells) xs (first_view (origin_of fixed history y)))
  starts_at bells x y xs same is lawful = let log : List E = history x in let o : Origin F E = origin_of fixed history x in let first : SeatView F E = first_view o in
      subst (λ (z : M × List M). Kept history fixed legal (origin_of fixed history z.0) (opening (0 ∷ 0 ∷ bells) z.1 (first_view (origin_of fixed history z.0)))) (λ i. (sym same i, sym is i)) record {
        log = log;
        next = 0;
        now = 0;
        drawer = λ _. 0;
        home = some x;
        bells = bells;
        words = refl;
        homes = refl;
        order = omega arith;
        lawful = lawful;
        object = inl (x, refl, refl, refl);
        each_seat = at_end (Fits o 0 0 (λ _. 0) log) [] first (λ j u q. absurd (some-ne-none u (sym q))) (λ _. (refl, starts_same log, (log, refl), tt));
        shared = record {
          depth = 0;
          long = omega arith;
          counted = λ k. sym (ap (times k) (nothing_added log));
          whole = refl;
          each_part = at_end (λ _. IsFair 0 log) [] first (λ j u q. absurd (some-ne-none u (sym q))) (λ _. ((omega arith, tt), (λ none-left. absurd (omega (arith, ap length none-left))), tt));
        };
      }

  -- the first pass
  pub first_pass : (x y : M) (me : Me M (SeatView F E)) → y ≡ x → legal (fixed x) (history x) ≡ true → me ≡ (first_view (origin_of fixed history y), []) → IsPass legal me
  first_pass x y me same lawful is = subst (IsPass legal) (sym is) record {
    idle = refl;
    nothing = refl;
    some_part = omega arith;
    mine = (tt, λ _. sym (nothing_added (history y)));
    lawful = ap (λ (z : M). legal (fixed z) (history z)) same ∙ lawful;
    begins = starts_same (history y);
  }

  -- what the object is that a pass leaves
  abbrev pub Left : Origin F E → List E → List ℕ → M → Type 0
  Left o seen mine x = (fixed x ≡ o.fixed) × (legal o.fixed (history x) ≡ true) × StartsWith (history x) seen × (mine ≡ added o.history (history x))

  closes : (o : Origin F E) (id : ℕ) (v : SeatView F E) (ws : List ℕ) (xs : List M) → v.part ≡ [] ∷ [] → v.stage ≡ Idle → Final (Seen (Kept history fixed legal o) id v) ws xs → (x : M) × (get_elem? xs 0 ≡ some x) × Left o v.seen v.mine x
  closes o id v ws xs whole idle t = let s : State M (SeatView F E) = t.0 in let r = t.1.0 in let at = t.1.1 in let h = r.shared in
      let rest = nothing_else (length o.history) r.log s.views id v at whole h in
      let resting = all_one's (λ (u : SeatView F E). kind u.stage) (weight h.depth) s.views id v at (λ j u e z. ap kind (rest.1 j u e z).1) rest.0 in
      ⊎_elim
      (λ (p : IsHome history fixed legal o.fixed r.log r.home). (
        p.0,
        t.4 0 p.0 (ap (λ (hs : List (Option M)). get_elem? hs 0) r.homes ∙ ap some p.1),
        (
          p.3,
          ap (legal o.fixed) p.2 ∙ r.lawful,
          subst (λ (l : List E). StartsWith l v.seen) (sym p.2) (r.each_seat id v at).1,
          all_mine (length o.history) r.log s.views id v at whole h ∙ ap (λ (l : List E). added o.history l) (sym p.2),
        ),
      ))
      (λ (p : IsOut r.now r.drawer s.views). absurd (omega (arith, term_le (λ (u : SeatView F E). kind u.stage) s.views (r.drawer r.now) p.0 p.1, resting, ap kind idle, ap kind p.2)))
      r.object

  pub leaves : (o o' : Origin F E) (id : ℕ) (v : SeatView F E) (ws : List ℕ) (xs : List M) (z : TableId) (p : PassView F E) (y : M) → o ≡ o' → pass_view z v ≡ p → IsWhole p.part → v.stage ≡ Idle → Final (Seen (Kept history fixed legal o) id v) ws xs → get_elem? xs 0 ≡ some y → Left o' p.seen p.mine y
  leaves o o' id v ws xs z p y same is whole idle t there = let c = closes o id v ws xs (ap (λ (q : PassView F E). q.part) is ∙ whole) idle t in
      let left : Left o v.seen v.mine y = subst (Left o v.seen v.mine) (some-injective c.0 y (sym c.1 ∙ there)) c.2 in
      subst (λ (q : Origin F E × PassView F E). Left q.0 q.1.seen q.1.mine y) (λ i. (same i, is i)) left
