-- rows in the order of their owners
use Rattle.std.proofs.Common.{◌≡◌, ℕ, ◌+◌, ◌<◌, ◌≤◌, List, [], ◌∷◌, ◌++◌, Bool, true, false, cond, refl, sym, ap, ◌∙◌, subst, append_assoc, append-nil, arith}
use Rattle.std.specs.Prelude.{All, filter, nat_lt, ◌==◌}
use Rattle.std.proofs.lemmas.Bool.Decides.{nat_tests}
use Rattle.std.proofs.lemmas.List.Elements.{filter-append, All-nil, All-cons, All-head, All-tail, All-append, All-weaker}
use Rattle.np_lists.proofs.Changes.{filter-keeps_all, filter-keeps_none}
use Rattle.np_lists.specs.EachAfter.{EachAfter}
use Rattle.np_config.specs.Configuration.{StandsByOwner}
use Rattle.np_lists.proofs.Plain.{same_number, below-apart}

module _ {T : Type 0} (owner : T → ℕ) (P : List T → T → Type 0) where
  abbrev pub of : ℕ → List T → List T
  of k xs = filter (λ y. owner y == k) xs

  -- the rows of a next owner
  pub after_earlier : (k : ℕ) (old e xs : List T) → All (λ y. owner y < k) old → All (λ y. owner y ≡ k) e → All (λ y. owner y ≡ k) xs
      → EachAfter P e xs → EachAfter (StandsByOwner owner P) (old ++ e) xs
  after_earlier k old e [] less same mine each = tt
  after_earlier k old e (x ∷ xs) less same mine each =
      let this : owner x ≡ k = All-head (λ (y : T). owner y ≡ k) x xs mine in
      let none : of (owner x) old ≡ [] = filter-keeps_none (λ y. owner y == owner x) old (All-weaker (λ (y : T). owner y < k) (λ (y : T). (owner y == owner x) ≡ false) (λ y h. below-apart (owner y) (owner x) (omega arith)) old less) in
      let all : of (owner x) e ≡ e = filter-keeps_all (λ y. owner y == owner x) e (All-weaker (λ (y : T). owner y ≡ k) (λ (y : T). (owner y == owner x) ≡ true) (λ y h. same_number (owner y) (owner x) (h ∙ sym this)) e same) in
      let own : of (owner x) (old ++ e) ≡ e = filter-append (λ y. owner y == owner x) old e ∙ ap (λ zs. zs ++ of (owner x) e) none ∙ all in
      let before : All (λ y. owner y ≤ owner x) (old ++ e) = All-append (λ (y : T). owner y ≤ owner x) old e
      (All-weaker (λ (y : T). owner y < k) (λ (y : T). owner y ≤ owner x) (λ y h. omega arith) old less)
      (All-weaker (λ (y : T). owner y ≡ k) (λ (y : T). owner y ≤ owner x) (λ y h. omega arith) e same) in
      let e' : All (λ y. owner y ≡ k) (e ++ x ∷ []) = All-append (λ (y : T). owner y ≡ k) e (x ∷ []) same (All-cons (λ (y : T). owner y ≡ k) x [] this (All-nil (λ (y : T). owner y ≡ k))) in
      let rest = after_earlier k old (e ++ x ∷ []) xs less e' (All-tail (λ (y : T). owner y ≡ k) x xs mine) each.1 in (
        record { in_order = before; own = subst (λ (zs : List T). P zs x) (sym own) each.0 },
        subst (λ (zs : List T). EachAfter (StandsByOwner owner P) zs xs) (sym (append_assoc old e (x ∷ []))) rest,
      )

  -- the rows of one owner
  pub rows_of : (k : ℕ) (e xs : List T) → EachAfter (StandsByOwner owner P) e xs → EachAfter P (of k e) (of k xs)
  rows_of k e [] each = tt
  rows_of k e (x ∷ xs) each = by (owner x == k) refl (rows_of k (e ++ x ∷ []) xs each.1)
    where
      by : (b : Bool) → (owner x == k) ≡ b → EachAfter P (of k (e ++ x ∷ [])) (of k xs) → EachAfter P (of k e) (cond b (x ∷ of k xs) (of k xs))
      by true is rest =
          let same : owner x ≡ k = grind (arith, nat_tests) in
          let longer : of k (e ++ x ∷ []) ≡ of k e ++ x ∷ [] = filter-append (λ y. owner y == k) e (x ∷ []) ∙ rw is refl in
          (subst (λ (n : ℕ). P (of n e) x) same each.0.own, subst (λ (zs : List T). EachAfter P zs (of k xs)) longer rest)
      by false is rest =
          let stays : of k (e ++ x ∷ []) ≡ of k e = filter-append (λ y. owner y == k) e (x ∷ []) ∙ rw is (append-nil (of k e)) in
          subst (λ (zs : List T). EachAfter P zs (of k xs)) stays rest

  abbrev pub below : ℕ → List T → List T
  below k xs = filter (λ y. nat_lt (owner y) k) xs

  none_below : (k : ℕ) (e xs : List T) → ((y : T) → All (λ z. owner z ≤ owner y) e → k ≤ owner y) → EachAfter (StandsByOwner owner P) e xs → below k xs ≡ []
  none_below k e [] floor each = refl
  none_below k e (x ∷ xs) floor each =
      let high : k ≤ owner x = floor x each.0.in_order in
      let not_below : nat_lt (owner x) k ≡ false = grind (arith, nat_tests) in
      rw not_below (none_below k (e ++ x ∷ []) xs (λ y all. floor y (front (λ (z : T). owner z ≤ owner y) e (x ∷ []) all)) each.1)
    where
      front : (Q : T → Type 0) (us vs : List T) → All Q (us ++ vs) → All Q us
      front Q [] vs all = All-nil Q
      front Q (u ∷ us) vs all = All-cons Q u us (All-head Q u (us ++ vs) all) (front Q us vs (All-tail Q u (us ++ vs) all))

  last_of : (Q : T → Type 0) (us : List T) (v : T) → All Q (us ++ v ∷ []) → Q v
  last_of Q [] v all = All-head Q v [] all
  last_of Q (u ∷ us) v all = last_of Q us v (All-tail Q u (us ++ v ∷ []) all)

  -- the rows of the owners up to one are those below it and its own
  pub below-more : (k : ℕ) (e xs : List T) → EachAfter (StandsByOwner owner P) e xs → below (k + 1) xs ≡ below k xs ++ of k xs
  below-more k e [] each = refl
  below-more k e (x ∷ xs) each =
      by (nat_lt (owner x) k) (owner x == k) refl refl (below-more k (e ++ x ∷ []) xs each.1)
    where
      by : (less same : Bool) → nat_lt (owner x) k ≡ less → (owner x == k) ≡ same → below (k + 1) xs ≡ below k xs ++ of k xs
          → below (k + 1) (x ∷ xs) ≡ cond less (x ∷ below k xs) (below k xs) ++ cond same (x ∷ of k xs) (of k xs)
      by true true less same rest = absurd (grind (arith, nat_tests))
      by true false less same rest =
          let more : nat_lt (owner x) (k + 1) ≡ true = grind (arith, nat_tests) in
          rw more (ap (λ zs. x ∷ zs) rest)
      by false true less same rest =
          let here : owner x ≡ k = grind (arith, nat_tests) in
          let more : nat_lt (owner x) (k + 1) ≡ true = grind (arith, nat_tests) in
          let empty : below k xs ≡ [] = none_below k (e ++ x ∷ []) xs (λ y all. let h : owner x ≤ owner y = last_of (λ (z : T). owner z ≤ owner y) e x all in omega arith) each.1 in
          rw more (ap (λ zs. x ∷ zs) (rest ∙ ap (λ zs. zs ++ of k xs) empty) ∙ sym (ap (λ zs. zs ++ x ∷ of k xs) empty))
      by false false less same rest =
          let more : nat_lt (owner x) (k + 1) ≡ false = grind (arith, nat_tests) in
          rw more rest

  pub below-none : (xs : List T) → below 0 xs ≡ []
  below-none [] = refl
  below-none (x ∷ xs) = let not_below : nat_lt (owner x) 0 ≡ false = grind (arith, nat_tests) in rw not_below (below-none xs)

  pub below-all : (k : ℕ) (xs : List T) → All (λ y. owner y < k) xs → below k xs ≡ xs
  below-all k xs each = filter-keeps_all (λ y. nat_lt (owner y) k) xs (All-weaker (λ (y : T). owner y < k) (λ (y : T). nat_lt (owner y) k ≡ true) (λ y h. grind (arith, nat_tests)) xs each)
