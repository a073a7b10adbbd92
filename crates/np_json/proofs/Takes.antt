-- what holds of what was read without a fault
use Rattle.np_json.proofs.Prelude.{BadName, Bool, ConfigFault, Data, IfSome, Items, Length, List, None, Ok, Option, OutOfRange, ReadsItem, Repeated, Result, Some, TooMany, WrongType, ap, arith, as_array, as_number, as_u64, below, bind-ok, bytes_eq, codes, decimal, false, fault, found, get, in_range, is_name_text, item, items_from, items_len, list_any, list_at, list_maybe, list_required, list_value, name_at, named_at, nat_le, nat_tests, need, need-ok, new_name, no_items, not, not-true, object_at, of_length, option_and_then, option_map_or, required, rest-ok, subst, suc, text_value, true, whole_maybe, whole_or, whole_required, whole_value, ℕ, ◌&&◌, ◌+◌, ◌>>=◌, ◌>>◌, ◌≡◌, ◌≤◌}

abbrev pub ok : {A : Type 0} → A → Result A ConfigFault
ok x = Ok x

pub same_ok : {A : Type 0} (x y : A) → ok x ≡ ok y → x ≡ y
same_ok x y e = cc

-- ## Numbers

pub whole_value-takes : (at : List ℕ) (least most : ℕ) (d : Data) (n : ℕ) → whole_value at least most d ≡ Ok n → (least ≤ n) × (n ≤ most)
whole_value-takes at least most d n e =
    let t = bind-ok (found (option_and_then as_u64 (as_number d)) (fault WrongType at)) (in_range at least most) n e in
    let r = need-ok (nat_le least t.0 && nat_le t.0 most) (fault OutOfRange at) (ok t.0) n t.2 in
    let same : t.0 ≡ n = same_ok t.0 n r.1 in
    let test : (nat_le least t.0 && nat_le t.0 most) ≡ true = r.0 in
    (grind (arith, nat_tests), grind (arith, nat_tests))

pub whole_required-takes : (at key : List ℕ) (least most : ℕ) (d : Data) (n : ℕ) → whole_required at key least most d ≡ Ok n → (least ≤ n) × (n ≤ most)
unfolding whole_required
whole_required-takes at key least most d n e =
    let t = bind-ok (required at key d) (whole_value (below at key) least most) n e in
    whole_value-takes (below at key) least most t.0 n t.2

pub whole_or-takes : (at key : List ℕ) (least most absent : ℕ) (d : Data) (n : ℕ) → least ≤ absent → absent ≤ most → whole_or at key least most absent d ≡ Ok n → (least ≤ n) × (n ≤ most)
whole_or-takes at key least most absent d n low high e = by (get key d) e
  where
    by : (o : Option Data) → option_map_or (whole_value (below at key) least most) o (ok absent) ≡ Ok n → (least ≤ n) × (n ≤ most)
    by None e = let same : absent ≡ n = same_ok absent n e in (omega arith, omega arith)
    by (Some v) e = whole_value-takes (below at key) least most v n e

pub whole_maybe-takes : (at key : List ℕ) (least most : ℕ) (d : Data) (o : Option ℕ) → whole_maybe at key least most d ≡ Ok o → IfSome o (λ n. (least ≤ n) × (n ≤ most))
whole_maybe-takes at key least most d o e = by (get key d) e
  where
    by : (v : Option Data) → option_map_or (λ w. whole_value (below at key) least most w >>= λ n. ok (Some n)) v (ok None) ≡ Ok o → IfSome o (λ n. (least ≤ n) × (n ≤ most))
    by None e = let same : None ≡ o = same_ok None o e in subst (λ (p : Option ℕ). IfSome p (λ n. (least ≤ n) × (n ≤ most))) same tt
    by (Some w) e =
        let t = bind-ok (whole_value (below at key) least most w) (λ n. ok (Some n)) o e in
        let same : Some t.0 ≡ o = same_ok (Some t.0) o t.2 in
        subst (λ (p : Option ℕ). IfSome p (λ n. (least ≤ n) × (n ≤ most))) same (whole_value-takes (below at key) least most w t.0 t.1)

-- ## Names

name_at-takes : {T : Type 0} (name : T → List ℕ) (at : List ℕ) (earlier : List T) (d : Data) (n : List ℕ) → name_at name at earlier d ≡ Ok n
    → (is_name_text n ≡ true) × (list_any (λ row. bytes_eq n (name row)) earlier ≡ false)
unfolding name_at new_name
name_at-takes {T} name at earlier d n e =
    let here = below at (codes "name") in
    let v = bind-ok (required at (codes "name") d) (λ v. text_value here v >>= new_name name here earlier) n e in
    let t = bind-ok (text_value here v.0) (new_name name here earlier) n v.2 in
    let unused : List ℕ → Bool = λ m. not (list_any (λ row. bytes_eq m (name row)) earlier) in
    let good = need-ok (is_name_text t.0) (fault BadName here) (need (unused t.0) (fault Repeated here) >> ok t.0) n t.2 in
    let new = need-ok (unused t.0) (fault Repeated here) (ok t.0) n good.1 in
    let same : t.0 ≡ n = same_ok t.0 n new.1 in
    (subst (λ (m : List ℕ). is_name_text m ≡ true) same good.0, not-true _ (subst (λ (m : List ℕ). unused m ≡ true) same new.0))

pub named_at-takes : {T : Type 0} (name : T → List ℕ) (keys : List (List ℕ)) (at : List ℕ) (earlier : List T) (d : Data) (n : List ℕ) → named_at name keys at earlier d ≡ Ok n
    → (is_name_text n ≡ true) × (list_any (λ row. bytes_eq n (name row)) earlier ≡ false)
unfolding named_at
named_at-takes name keys at earlier d n e = name_at-takes name at earlier d n (rest-ok (object_at at keys d) (name_at name at earlier d) n e)

-- ## Lists

module _ {S : Type 0} (read : ReadsItem S) (P : ℕ → S → Type 0) (step : (at : List ℕ) (n : ℕ) (s t : S) (d : Data) → P n s → read at s d ≡ Ok t → P (n + 1) t) where
  -- what each item keeps, the whole list keeps
  items_from-keeps : (at : List ℕ) (n m : ℕ) (s t : S) (ds : Items) → P m s → items_from read at n s ds ≡ Ok t → P (m + items_len ds) t
  unfolding items_from
  items_from-keeps at n m s t no_items so_far e =
      let same : s ≡ t = same_ok s t e in
      let none : m + 0 ≡ m = omega arith in
      rw (none, ← same) so_far
  items_from-keeps at n m s t (item d ds) so_far e =
      let x = bind-ok (read (below at (decimal n)) s d) (λ after. items_from read at (n + 1) after ds) t e in
      let more : m + 1 + items_len ds ≡ m + suc (items_len ds) = omega arith in
      subst (λ (k : ℕ). P k t) more (items_from-keeps at (n + 1) (m + 1) x.0 t ds (step (below at (decimal n)) m s x.0 d so_far x.1) x.2)

  -- the number of items is within the limits, and what each item keeps holds after that many
  list_at-takes : (at : List ℕ) (l : Length) (s t : S) (d : Data) → P 0 s → list_at read at l s d ≡ Ok t → (n : ℕ) × (l.before + n ≤ l.most) × (l.least ≤ n) × P n t
  unfolding list_at
  list_at-takes at l s t d start e =
      let v = bind-ok (list_value at l d) (items_from read at 0 s) t e in
      let a = bind-ok (found (as_array d) (fault WrongType at)) (of_length at l) v.0 v.1 in
      let most = need-ok (nat_le (l.before + items_len a.0) l.most) (fault TooMany at) (need (nat_le l.least (items_len a.0)) (fault OutOfRange at) >> ok a.0) v.0 a.2 in
      let least = need-ok (nat_le l.least (items_len a.0)) (fault OutOfRange at) (ok a.0) v.0 most.1 in
      let same : a.0 ≡ v.0 = same_ok a.0 v.0 least.1 in
      let high : nat_le (l.before + items_len a.0) l.most ≡ true = most.0 in
      let low : nat_le l.least (items_len a.0) ≡ true = least.0 in
      let count : 0 + items_len v.0 ≡ items_len a.0 = omega (arith, ap items_len same) in
      (items_len a.0, grind (arith, nat_tests), grind (arith, nat_tests), subst (λ (k : ℕ). P k t) count (items_from-keeps at 0 0 s t v.0 start v.2))

  pub list_required-takes : (at key : List ℕ) (l : Length) (s t : S) (d : Data) → P 0 s → list_required read at key l s d ≡ Ok t → (n : ℕ) × (l.before + n ≤ l.most) × (l.least ≤ n) × P n t
  unfolding list_required
  list_required-takes at key l s t d start e =
      let v = bind-ok (required at key d) (list_at read (below at key) l s) t e in
      list_at-takes (below at key) l s t v.0 start v.2

  pub list_maybe-takes : (at key : List ℕ) (l : Length) (s t : S) (d : Data) → l.before ≤ l.most → l.least ≡ 0 → P 0 s → list_maybe read at key l s d ≡ Ok t → (n : ℕ) × (l.before + n ≤ l.most) × P n t
  unfolding list_maybe
  list_maybe-takes at key l s t d room none start e = by (get key d) e
    where
      by : (o : Option Data) → option_map_or (list_at read (below at key) l s) o (ok s) ≡ Ok t → (n : ℕ) × (l.before + n ≤ l.most) × P n t
      by None e = (0, omega arith, subst (P 0) (same_ok s t e) start)
      by (Some v) e = let r = list_at-takes (below at key) l s t v start e in (r.0, r.1, r.3)
