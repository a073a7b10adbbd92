-- lists of rows in the order of their names, of which some are put in, left out or get other bytes
use Rattle.np_lists.proofs.Plain.{by_bool}
use Rattle.np_layout.proofs.Prelude.{or_false, or_left, or_right, AllByRecursion, AllZip, Bool, JobId, List, None, NonePass, Option, Rises, Row, Seen, Some, Swept, all-filter, all-find, all-insert_before, all-weaker, ap, arith, by_name, bytes_eq-from, bytes_eq-is, change_at, change_first, cond, eqb-false, exact_bytes, false, filter, filter-not_none, find, find_named, fold, if◌then◌else◌, inl, inr, insert_before, is_named, is_pair_before, length, list_any, list_any-insert_before, lt-neither, lt-one_way, lt-trans, map, name_before, nat_list_cmp_total, nat_tests, not, option_map, other-name_back, range_with_len, refl, remove_first, row_before, row_with, rows_from, seen_in, slice_get, subst, suc, sym, true, unwrap_or, with_row, zero, ℕ, [], ◌++◌, ◌+◌, ◌<◌, ◌==◌, ◌||◌, ◌∙◌, ◌∷◌, ◌≡◌, ◌≤◌, ◌⊎◌}

-- # rows that are put one after another

-- the rows put one after another at their places among some rows
abbrev pub rows_put : List Row → List Row → List Row
rows_put sorted rows = fold (λ before row. with_row row before) sorted rows

-- # lists of rows that are put in order, and of equal records

-- what is true of some rows and of those put among them is true of all
pub all-put : (P : Row → Type 0) (rows sorted : List Row) → AllByRecursion P sorted → AllByRecursion P rows → AllByRecursion P (rows_put sorted rows)
all-put P [] sorted there new = there
all-put P (row ∷ rows) sorted there new = all-put P rows (with_row row sorted) (all-insert_before P (λ other. row_before row other) row sorted new.0 there) new.1

-- what is true of two lists' members is true of both together
pub all-both : {A : Type 0} (P : A → Type 0) (xs ys : List A) → AllByRecursion P xs → AllByRecursion P ys → AllByRecursion P (xs ++ ys)
all-both P [] ys all more = more
all-both P (x ∷ xs) ys all more = (all.0, all-both P xs ys all.1 more)

-- what is true of the row of each number is true of the rows
pub all-numbered : (P : Row → Type 0) (row : ℕ → Row) (count at limit : ℕ) → at + count ≡ limit → ((n : ℕ) → n < limit → P (row n)) → AllByRecursion P (map row (range_with_len at count))
all-numbered P row zero at limit within each = tt
all-numbered P row (suc count) at limit within each = (each at (omega arith), all-numbered P row count (at + 1) limit (omega arith) each)

-- what is true of each number is true of a range
pub all-range : (P : ℕ → Type 0) (count at limit : ℕ) → at + count ≡ limit → ((n : ℕ) → n < limit → P n) → AllByRecursion P (range_with_len at count)
all-range P zero at limit within each = tt
all-range P (suc count) at limit within each = (each at (omega arith), all-range P count (at + 1) limit (omega arith) each)

-- the rows of a list of equal records
pub rows_from-equal : {A B : Type 0} (row : ℕ → A → Row) (a : A) (list : List B) (at : ℕ) → map (λ n. row n a) (range_with_len at (length list)) ≡ rows_from row at (map (λ _. a) list)
rows_from-equal row a [] at = refl
rows_from-equal row a (b ∷ list) at = ap (λ rows. row at a ∷ rows) (rows_from-equal row a list (at + 1))

-- no jobs
abbrev pub no_jobs : List JobId
no_jobs = []

-- each member of a list of empty lists is empty
pub get-empty : {B : Type 0} (list : List B) (at : ℕ) → unwrap_or (slice_get (map (λ _. no_jobs) list) at) [] ≡ []
get-empty [] at = grind arith
get-empty (b ∷ list) zero = refl
get-empty (b ∷ list) (suc at) = get-empty list at

-- # the rows of a directory of which some are left out

-- ## rows in the order of their names

-- a row that is before all others is put first
with_row-first : (row : Row) (rows : List Row) → AllByRecursion (λ other. row_before row other ≡ true) rows → with_row row rows ≡ row ∷ rows
with_row-first row [] before = refl
with_row-first row (other ∷ rows) before = ap (λ (b : Bool). cond b (row ∷ other ∷ rows) (other ∷ with_row row rows)) before.0

-- what is true of rows with one more is true of them
all-without : (P : Row → Type 0) (row : Row) (rows : List Row) → AllByRecursion P (with_row row rows) → AllByRecursion P rows
all-without P row [] all = tt
all-without P row (other ∷ rows) all =
    by_bool (λ (b : Bool). AllByRecursion P (cond b (row ∷ other ∷ rows) (other ∷ with_row row rows)) → AllByRecursion P (other ∷ rows)) (row_before row other) (λ _ all. all.1) (λ _ all. (all.0, all-without P row rows all.1)) all

-- rows that rise with one more rise without it
rises-without : (row : Row) (rows : List Row) → Rises row_before (with_row row rows) → Rises row_before rows
rises-without row [] rises = tt
rises-without row (other ∷ rows) rises =
    by_bool (λ (b : Bool). Rises row_before (cond b (row ∷ other ∷ rows) (other ∷ with_row row rows)) → Rises row_before (other ∷ rows)) (row_before row other) (λ _ rises. rises.1)
    (λ _ rises. (all-without (λ (y : Row). row_before other y ≡ true) row rows rises.0, rises-without row rows rises.1)) rises

rises-back : (rows sorted : List Row) → Rises row_before (rows_put sorted rows) → Rises row_before sorted
rises-back [] sorted rises = rises
rises-back (row ∷ rows) sorted rises = rises-without row sorted (rises-back rows (with_row row sorted) rises)

module _ (keep : Row → Bool) where
  skip-by : (row other : Row) (with some : List Row) (o r : Bool) → row_before row other ≡ false → with ≡ cond r (with_row row some) some → cond o (other ∷ with) with ≡ cond r (with_row row (cond o (other ∷ some) some)) (cond o (other ∷ some) some)
  skip-by row other with some o r is same = grind (arith, nat_tests)

  -- one row more is kept at its place, or left out
  filter-with_row : (row : Row) (rows : List Row) → Rises row_before (with_row row rows) → filter keep (with_row row rows) ≡ cond (keep row) (with_row row (filter keep rows)) (filter keep rows)
  filter-with_row row [] rises = refl
  filter-with_row row (other ∷ rows) rises =
      by_bool (λ (b : Bool). Rises row_before (cond b (row ∷ other ∷ rows) (other ∷ with_row row rows)) → filter keep (cond b (row ∷ other ∷ rows) (other ∷ with_row row rows)) ≡ cond (keep row) (with_row row (filter keep (other ∷ rows))) (filter keep (other ∷ rows))) (row_before row other)
      (λ _ rises. ap (λ (list : List Row). cond (keep row) list (filter keep (other ∷ rows))) (sym (with_row-first row (filter keep (other ∷ rows)) (all-filter (λ (y : Row). row_before row y ≡ true) keep (other ∷ rows) rises.0))))
      (λ is rises. skip-by row other (filter keep (with_row row rows)) (filter keep rows) (keep other) (keep row) is (filter-with_row row rows rises.1)) rises

  filter-put : (rows sorted : List Row) → Rises row_before (rows_put sorted rows) → filter keep (rows_put sorted rows) ≡ rows_put (filter keep sorted) (filter keep rows)
  filter-put [] sorted rises = refl
  filter-put (row ∷ rows) sorted rises = grind (arith, nat_tests, filter-put rows (with_row row sorted) rises, filter-with_row row sorted (rises-back rows (with_row row sorted) rises))

  -- rows that are left out of those in order are left out before
  pub by_name-kept : (rows : List Row) → Rises row_before (by_name rows) → filter keep (by_name rows) ≡ by_name (filter keep rows)
  by_name-kept rows rises = filter-put rows [] rises

-- ## the rows of a list

module _ {A : Type 0} (row : A → Row) (test : Row → Bool) (own : A → Bool) where
  -- rows are left out with the members of the list
  pub filter-mapped : (list : List A) → AllByRecursion (λ a. test (row a) ≡ own a) list → filter test (map row list) ≡ map row (filter own list)
  filter-mapped [] all = refl
  filter-mapped (a ∷ list) all = grind (arith, all.0, filter-mapped list all.1)

  -- a row is there if its member is
  pub any-mapped : (list : List A) → AllByRecursion (λ a. test (row a) ≡ own a) list → list_any test (map row list) ≡ list_any own list
  any-mapped [] all = refl
  any-mapped (a ∷ list) all = rw (all.0, any-mapped list all.1) refl

-- ## a member that is found

-- one that is found passes
pub found-any : {A : Type 0} (p : A → Bool) (x : A) (list : List A) → find p list ≡ Some x → list_any p list ≡ true
found-any p x [] there = absurd cc
found-any p x (a ∷ list) there = grind (arith, found-any p x list)

-- # the rows of a directory when one of them gets other bytes

-- ## each row of a name gets other bytes

abbrev pub put_bytes : List ℕ → List ℕ → Row → Row
put_bytes name bytes row = if is_named name row then row_with bytes row else row

-- no name changes
pub put-name : (name bytes : List ℕ) (row : Row) → (put_bytes name bytes row).name ≡ row.name
put-name name bytes row = grind arith

-- rows of other names are as they were
pub put-others : (name bytes : List ℕ) (rows : List Row) → NonePass (is_named name) rows → map (put_bytes name bytes) rows ≡ rows
put-others name bytes [] none = refl
put-others name bytes (row ∷ rows) none = rw (none.0, put-others name bytes rows none.1) refl

-- among rows in order, the first of a name is the only one
pub put-first : (name bytes : List ℕ) (rows : List Row) → Rises row_before rows → change_first (is_named name) (row_with bytes) rows ≡ map (put_bytes name bytes) rows
put-first name bytes [] rises = refl
put-first name bytes (row ∷ rows) rises =
    by_bool (λ (b : Bool). cond b (row_with bytes row ∷ rows) (row ∷ change_first (is_named name) (row_with bytes) rows) ≡ cond b (row_with bytes row) row ∷ map (put_bytes name bytes) rows) (is_named name row)
    (λ is. ap (λ (list : List Row). row_with bytes row ∷ list) (sym (put-others name bytes rows
    (all-weaker (λ (other : Row). row_before row other ≡ true) (λ (other : Row). is_named name other ≡ false)
    (λ other before. subst (λ (n : List ℕ). is_named n other ≡ false) (bytes_eq-is row.name name is) (other-name_back row other before)) rows rises.0))))
    (λ is. ap (λ (list : List Row). row ∷ list) (put-first name bytes rows rises.1))

-- ## rows in the order of their names

module _ (f : Row → Row) (keeps : (row : Row) → (f row).name ≡ row.name) where
  before-keeps : (this that : Row) → row_before (f this) (f that) ≡ row_before this that
  before-keeps this that = ap (λ (name : List ℕ). name_before name (f that).name) (keeps this) ∙ ap (name_before this.name) (keeps that)

  -- a change that keeps names keeps the place of a row
  with_row-each : (row : Row) (rows : List Row) → map f (with_row row rows) ≡ with_row (f row) (map f rows)
  with_row-each row [] = refl
  with_row-each row (other ∷ rows) = grind (arith, before-keeps row other, with_row-each row rows)

  put-each : (rows sorted : List Row) → map f (rows_put sorted rows) ≡ rows_put (map f sorted) (map f rows)
  put-each [] sorted = refl
  put-each (row ∷ rows) sorted = put-each rows (with_row row sorted) ∙ ap (λ (list : List Row). rows_put list (map f rows)) (with_row-each row sorted)

  -- and so the order of all
  pub by_name-each : (rows : List Row) → map f (by_name rows) ≡ by_name (map f rows)
  by_name-each rows = put-each rows []

-- ## a row is there

module _ (test : Row → Bool) where
  any-put : (rows sorted : List Row) → list_any test (rows_put sorted rows) ≡ (list_any test sorted || list_any test rows)
  any-put [] sorted = sym (or_false (list_any test sorted))
  any-put (row ∷ rows) sorted = grind (arith, nat_tests, any-put rows (with_row row sorted), list_any-insert_before test (λ other. row_before row other) row sorted)

  -- the order of rows does not matter
  pub any-by_name : (rows : List Row) → list_any test (by_name rows) ≡ list_any test rows
  any-by_name rows = any-put rows []

  -- one that passes is found
  pub any-found : (rows : List Row) → list_any test rows ≡ true → (row : Row) × (find test rows ≡ Some row)
  any-found [] any = absurd cc
  any-found (row ∷ rows) any = by_bool (λ (b : Bool). (b || list_any test rows) ≡ true → (other : Row) × (cond b (Some row) (find test rows) ≡ Some other)) (test row) (λ _ any. (row, refl)) (λ _ any. any-found rows any) any

-- ## the rows of a list

module _ {A : Type 0} (row : ℕ → A → Row) (name bytes : List ℕ) (limit k : ℕ) (others : (n : ℕ) (a : A) → n < limit → (n ≡ k → ⊥) → is_named name (row n a) ≡ false) where
  -- none is the row of the name
  pub rows_from-others : (list : List A) (at : ℕ) → at + length list ≤ limit → (k < at) ⊎ (at + length list ≤ k) → map (put_bytes name bytes) (rows_from row at list) ≡ rows_from row at list
  rows_from-others list at within apart = put-others name bytes (rows_from row at list) (none list at within apart) where
    none : (list : List A) (at : ℕ) → at + length list ≤ limit → (k < at) ⊎ (at + length list ≤ k) → NonePass (is_named name) (rows_from row at list)
    none [] at within apart = tt
    none (a ∷ list) at within (inl past) = (others at a (omega arith) (λ same. omega arith), none list (at + 1) (omega arith) (inl (omega arith)))
    none (a ∷ list) at within (inr early) = (others at a (omega arith) (λ same. omega arith), none list (at + 1) (omega arith) (inr (omega arith)))

  -- the row of the name is that of one member, which changes with it
  pub rows_from-change : (change : A → A) (list : List A) (at j : ℕ) (old : A) → at + length list ≤ limit → at + j ≡ k → slice_get list j ≡ Some old → put_bytes name bytes (row k old) ≡ row k (change old) →
      map (put_bytes name bytes) (rows_from row at list) ≡ rows_from row at (change_at j change list)
  rows_from-change change [] at j old within same there here = absurd cc
  rows_from-change change (a ∷ list) at zero old within same there here =
      let at_k : k ≡ at = omega arith in
      let is : old ≡ a = cc in
      ap (λ (first : Row). first ∷ map (put_bytes name bytes) (rows_from row (at + 1) list)) (subst (λ (x : A). put_bytes name bytes (row at x) ≡ row at (change x)) is (subst (λ (n : ℕ). put_bytes name bytes (row n old) ≡ row n (change old)) at_k here))
      ∙ ap (λ (rows : List Row). row at (change a) ∷ rows) (rows_from-others list (at + 1) (omega arith) (inl (omega arith)))
  rows_from-change change (a ∷ list) at (suc j) old within same there here =
      ap (λ (b : Bool). cond b (row_with bytes (row at a)) (row at a) ∷ map (put_bytes name bytes) (rows_from row (at + 1) list)) (others at a (omega arith) (λ is. omega arith))
      ∙ ap (λ (rows : List Row). row at a ∷ rows) (rows_from-change change list (at + 1) j old (omega arith) (omega arith) there here)

-- the row of a member is there
pub rows_from-any : {A : Type 0} (row : ℕ → A → Row) (test : Row → Bool) (list : List A) (at j k : ℕ) (old : A) → at + j ≡ k → slice_get list j ≡ Some old → test (row k old) ≡ true → list_any test (rows_from row at list) ≡ true
rows_from-any row test [] at j k old same there passes = absurd cc
rows_from-any row test (a ∷ list) at zero k old same there passes = grind arith
rows_from-any row test (a ∷ list) at (suc j) k old same there passes = grind (arith, rows_from-any row test list (at + 1) j k old)

-- ## ranges

-- what is true of a range is true of each number in it
pub at-range : (P : ℕ → Type 0) (count at k : ℕ) → at ≤ k → k < at + count → AllByRecursion P (range_with_len at count) → P k
at-range P zero at k low high all = absurd (omega arith)
at-range P (suc count) at k low high all = by_bool (λ (b : Bool). P k) (at == k) (λ is. let same : at ≡ k = grind (arith, nat_tests) in subst P same all.0)
    (λ is. let apart = eqb-false at k is in at-range P count (at + 1) k (omega arith) (omega arith) all.1)

-- # the rows of a list with one member more, in the order of their names

-- ## the order of two rows does not matter

-- of two other names one is before the other
other-order : (a b : Row) → is_named a.name b ≡ false → row_before a b ≡ false → row_before b a ≡ true
other-order a b other not_before = by_bool (λ (c : Bool). c ≡ true) (row_before b a) (λ is. refl) (λ is.
    let tied = lt-neither nat_list_cmp_total a.name b.name not_before is in
    let named = bytes_eq-from b.name a.name (sym (exact_bytes a.name b.name tied)) in
    absurd cc)

module _ {X : Type 0} (before : X → X → Bool) (one_way : (a b : X) → before a b ≡ true → before b a ≡ false) (trans : (a b c : X) → before a b ≡ true → before b c ≡ true → before a c ≡ true) where
  -- a member at its place among those before it
  abbrev placed : X → List X → List X
  placed x sorted = insert_before (before x) x sorted

  placed-by : (a b other : X) (list : List X) (over_a over_b : Bool) → before a b ≡ true → before b a ≡ false → before a other ≡ over_a → before b other ≡ over_b → placed a (placed b list) ≡ placed b (placed a list) →
      placed a (cond over_b (b ∷ other ∷ list) (other ∷ placed b list)) ≡ placed b (cond over_a (a ∷ other ∷ list) (other ∷ placed a list))
  placed-by a b other list over_a over_b first not_first is_a is_b later = grind (arith, nat_tests, trans a b other)

  -- of two members either may be put first
  placed-both : (a b : X) → before a b ≡ true → (list : List X) → placed a (placed b list) ≡ placed b (placed a list)
  placed-both a b first [] = let not_first : before b a ≡ false = one_way a b first in rw (first, not_first) refl
  placed-both a b first (other ∷ list) = placed-by a b other list (before a other) (before b other) first (one_way a b first) refl refl (placed-both a b first list)

put-before : (a b : Row) → row_before a b ≡ true → (rows : List Row) → with_row a (with_row b rows) ≡ with_row b (with_row a rows)
put-before = placed-both row_before (λ a b less. lt-one_way nat_list_cmp_total a.name b.name less) (λ a b c less more. lt-trans nat_list_cmp_total a.name b.name c.name less more)

-- two rows of other names are put in either order
put-both : (a b : Row) → is_named a.name b ≡ false → (rows : List Row) → with_row a (with_row b rows) ≡ with_row b (with_row a rows)
put-both a b other rows =
    by_bool (λ (c : Bool). with_row a (with_row b rows) ≡ with_row b (with_row a rows)) (row_before a b) (λ is. put-before a b is rows) (λ is. sym (put-before b a (other-order a b other is) rows))

-- so a row may be put last
put-last : (new : Row) (rows sorted : List Row) → NonePass (is_named new.name) rows → rows_put (with_row new sorted) rows ≡ with_row new (rows_put sorted rows)
put-last new [] sorted others = refl
put-last new (row ∷ rows) sorted others =
    ap (λ (list : List Row). rows_put list rows) (sym (put-both new row others.0 sorted)) ∙ put-last new rows (with_row row sorted) others.1

-- ## one member more

module _ {A : Type 0} (row : A → Row) (p : A → Bool) (new : A) where
  insert-put : (list : List A) (sorted : List Row) → NonePass (is_named (row new).name) (map row list) → rows_put sorted (map row (insert_before p new list)) ≡ rows_put (with_row (row new) sorted) (map row list)
  insert-put [] sorted others = refl
  insert-put (a ∷ list) sorted others = grind (arith, nat_tests, insert-put list (with_row (row a) sorted) others.1, put-both (row new) (row a) others.0 sorted)

  -- the rows of a list with a member more have its row more, wherever it is in the list
  pub by_name-insert : (list : List A) → NonePass (is_named (row new).name) (map row list) → by_name (map row (insert_before p new list)) ≡ with_row (row new) (by_name (map row list))
  by_name-insert list others = insert-put list [] others ∙ put-last (row new) (map row list) [] others

-- if no member passes, the rows of none do
pub none-mapped : {A : Type 0} (P : A → Type 0) (row : A → Row) (test : Row → Bool) (own : A → Bool) → ((a : A) → P a → own a ≡ false → test (row a) ≡ false) → (list : List A) → AllByRecursion P list → NonePass own list → NonePass test (map row list)
none-mapped P row test own each [] all none = tt
none-mapped P row test own each (a ∷ list) all none = (each a all.0 none.0, none-mapped P row test own each list all.1 none.1)

-- ## what is found among rows

-- the row of a name that is there has no owner if none has
pub owner-none : (name : List ℕ) (rows : List Row) → list_any (is_named name) rows ≡ true → AllByRecursion (λ row. row.owner ≡ None) rows → option_map (λ (seen : Seen). seen.owner) (option_map seen_in (find_named name rows)) ≡ Some None
owner-none name rows any none =
    let found = any-found (is_named name) rows any in
    ap (λ (o : Option Row). option_map (λ (seen : Seen). seen.owner) (option_map seen_in o)) found.1 ∙ ap Some (all-find (λ (row : Row). row.owner ≡ None) (is_named name) rows found.0 none found.1)

-- # lists in which at most one member passes a test: it is changed or left out, and the others stay

-- no member after one that passes does
abbrev pub IsOnce : {A : Type 0} → (A → Bool) → List A → Type 0
IsOnce p [] = Unit {0}
IsOnce p (a ∷ list) = (p a ≡ true → NonePass p list) × IsOnce p list

-- the row of each member has the name if the member passes
abbrev pub Tells : {A : Type 0} → List ℕ → (A → Bool) → List Row → List A → Type 0
Tells name p rows list = AllZip (λ row a. is_named name row ≡ p a) rows list

-- the rows of members, one by one
pub zip-mapped : {A : Type 0} (row : A → Row) (list : List A) → AllZip (λ r a. r ≡ row a) (map row list) list
zip-mapped row [] = tt
zip-mapped row (a ∷ list) = (refl, zip-mapped row list)

pub mapped-zip : {A : Type 0} (row : A → Row) (rows : List Row) (list : List A) → AllZip (λ r a. r ≡ row a) rows list → rows ≡ map row list
mapped-zip row [] [] all = refl
mapped-zip row (r ∷ rows) (a ∷ list) all = rw (all.0, mapped-zip row rows list all.1) refl
mapped-zip row _ _ all = absurd all

-- ## from rows in order

-- the rows of members have the name as these tell
pub tells-mapped : {A : Type 0} (name : List ℕ) (p : A → Bool) (row : A → Row) (list : List A) → AllByRecursion (λ a. is_named name (row a) ≡ p a) list → Tells name p (map row list) list
tells-mapped name p row [] all = tt
tells-mapped name p row (a ∷ list) all = (all.0, tells-mapped name p row list all.1)

-- a row of the name is there if a member passes
pub any-told : {A : Type 0} (name : List ℕ) (p : A → Bool) (rows : List Row) (list : List A) → Tells name p rows list → list_any (is_named name) rows ≡ list_any p list
any-told name p [] [] tells = refl
any-told name p (row ∷ rows) (a ∷ list) tells = rw (tells.0, any-told name p rows list tells.1) refl
any-told name p _ _ tells = absurd tells

module _ {A : Type 0} (name : List ℕ) (p : A → Bool) where
  none-after : (row : Row) (rows : List Row) (list : List A) → is_named name row ≡ true → AllByRecursion (λ other. row_before row other ≡ true) rows → Tells name p rows list → NonePass p list
  none-after row [] [] is before tells = tt
  none-after row (other ∷ rows) (a ∷ list) is before tells = (
    sym tells.0 ∙ subst (λ (n : List ℕ). is_named n other ≡ false) (bytes_eq-is row.name name is) (other-name_back row other before.0),
    none-after row rows list is before.1 tells.1,
  )
  none-after row _ _ is before tells = absurd tells

  -- among rows in order a name is there once
  pub once-told : (rows : List Row) (list : List A) → Rises row_before rows → Tells name p rows list → IsOnce p list
  once-told [] [] rises tells = tt
  once-told (row ∷ rows) (a ∷ list) rises tells = ((λ passes. none-after row rows list (tells.0 ∙ passes) rises.0 tells.1), once-told rows list rises.1 tells.1)
  once-told _ _ rises tells = absurd tells

-- ## the one is changed or left out

module _ {A : Type 0} (p : A → Bool) where
  -- all that do not pass are all but the first that does
  pub filter-removed : (list : List A) → IsOnce p list → filter (λ x. not (p x)) list ≡ remove_first p list
  filter-removed [] once = refl
  filter-removed (a ∷ list) once = grind (arith, nat_tests, once.0, filter-not_none p list, filter-removed list once.1)

  module _ (f : A → A) where
    module _ (G P Q : A → Type 0) (one : (a : A) → p a ≡ true → G a → P a → Q (f a)) (others : (a : A) → p a ≡ false → G a → P a → Q a) where
      all-others : (list : List A) → NonePass p list → AllByRecursion G list → AllByRecursion P list → AllByRecursion Q list
      all-others [] none good all = tt
      all-others (a ∷ list) none good all = (others a none.0 good.0 all.0, all-others list none.1 good.1 all.1)

      -- one thing is true of the one when it is changed, another of the others
      pub change-one : (list : List A) → IsOnce p list → AllByRecursion G list → AllByRecursion P list → AllByRecursion Q (change_first p f list)
      change-one [] once good all = tt
      change-one (a ∷ list) once good all =
          by_bool (λ (b : Bool). AllByRecursion Q (cond b (f a ∷ list) (a ∷ change_first p f list))) (p a)
          (λ is. (one a is good.0 all.0, all-others list (once.0 is) good.1 all.1)) (λ is. (others a is good.0 all.0, change-one list once.1 good.1 all.1))

    -- a change that keeps rows keeps all of them
    pub map-change_first : (row : A → Row) → ((a : A) → row (f a) ≡ row a) → (list : List A) → map row (change_first p f list) ≡ map row list
    map-change_first row same [] = refl
    map-change_first row same (a ∷ list) = grind (arith, same a, map-change_first row same list)

    module _ (R : Row → A → Type 0) (keeps : (row : Row) (a : A) → R row a → R row (f a)) where
      pub zip-change_first : (rows : List Row) (list : List A) → AllZip R rows list → AllZip R rows (change_first p f list)
      zip-change_first [] [] all = tt
      zip-change_first (row ∷ rows) (a ∷ list) all =
          by_bool (λ (b : Bool). AllZip R (row ∷ rows) (cond b (f a ∷ list) (a ∷ change_first p f list))) (p a) (λ is. (keeps row a all.0, all.1)) (λ is. (all.0, zip-change_first rows list all.1))
      zip-change_first _ _ all = absurd all

  -- the row of a name and the member that is found are changed together
  module _ (f : A → A) (g : Row → Row) (test : Row → Bool) (R : Row → A → Type 0) where
    pub zip-change_found : (rows : List Row) (list : List A) → AllZip (λ row a. test row ≡ p a) rows list → AllZip R rows list → ((x : A) → find p list ≡ Some x → (r : Row) → R r x → R (g r) (f x)) → AllZip R (change_first test g rows) (change_first p f list)
    zip-change_found [] [] tells all turns = tt
    zip-change_found (row ∷ rows) (a ∷ list) tells all turns =
        rw tells.0 (by_bool (λ (b : Bool). ((x : A) → cond b (Some a) (find p list) ≡ Some x → (r : Row) → R r x → R (g r) (f x)) → AllZip R (cond b (g row ∷ rows) (row ∷ change_first test g rows)) (cond b (f a ∷ list) (a ∷ change_first p f list))) (p a)
        (λ _ turns. (turns a refl row all.0, all.1)) (λ _ turns. (all.0, zip-change_found rows list tells.1 all.1 turns)) turns)
    zip-change_found _ _ tells all turns = absurd all

  -- rows and members are left out together
  module _ (R : Row → A → Type 0) (test : Row → Bool) where
    pub zip-filter : (rows : List Row) (list : List A) → AllZip (λ row a. test row ≡ p a) rows list → AllZip R rows list → AllZip R (filter (λ row. not (test row)) rows) (filter (λ a. not (p a)) list)
    zip-filter [] [] tells all = tt
    zip-filter (row ∷ rows) (a ∷ list) tells all =
        let some = filter (λ (r : Row). not (test r)) rows in
        let more = filter (λ (x : A). not (p x)) list in
        let later = zip-filter rows list tells.1 all.1 in
        rw tells.0 (by_bool (λ (b : Bool). AllZip R (cond (not b) (row ∷ some) some) (cond (not b) (a ∷ more) more)) (p a) (λ is. later) (λ is. (all.0, later)))
    zip-filter _ _ tells all = absurd all

-- # the order of swept pairs, and lists whose members are put one after another at their places

-- ## pairs

pair-same : (a b : Swept) → a.node.0 ≡ b.node.0 → a.server ≡ b.server → a ≡ b
pair-same a b nodes servers = λ i. record { node = record { 0 = nodes i }; server = servers i }

-- of two pairs one is before the other, or they are the same
pair-total : (a b : Swept) → is_pair_before a b ≡ false → is_pair_before b a ≡ false → a ≡ b
pair-total a b not_before not_after = pair-same a b (grind (arith, nat_tests)) (grind (arith, nat_tests))

-- and not both
pair-one_way : (a b : Swept) → is_pair_before a b ≡ true → is_pair_before b a ≡ false
pair-one_way a b before = grind (arith, nat_tests)

-- what is before a pair is before those after it
pub pair-trans : (a b c : Swept) → is_pair_before a b ≡ true → is_pair_before b c ≡ true → is_pair_before a c ≡ true
pair-trans a b c before after = grind (arith, nat_tests)

-- ## pairs put at their places

abbrev put : Swept → List Swept → List Swept
put pair sorted = insert_before (is_pair_before pair) pair sorted

-- each is put among those before it
abbrev pub put_all : List Swept → List Swept → List Swept
put_all sorted pairs = fold (λ before pair. insert_before (is_pair_before pair) pair before) sorted pairs

swap-before : (a b : Swept) → is_pair_before a b ≡ true → (list : List Swept) → put a (put b list) ≡ put b (put a list)
swap-before = placed-both is_pair_before pair-one_way pair-trans

-- two pairs are put in either order
swap : (a b : Swept) (list : List Swept) → put a (put b list) ≡ put b (put a list)
swap a b list = by (is_pair_before a b) (is_pair_before b a) refl refl where
  by : (there back : Bool) → is_pair_before a b ≡ there → is_pair_before b a ≡ back → put a (put b list) ≡ put b (put a list)
  by true back before is = swap-before a b before list
  by false true not_before after = sym (swap-before b a after list)
  by false false not_before not_after = subst (λ (x : Swept). put a (put x list) ≡ put x (put a list)) (pair-total a b not_before not_after) refl

-- so the first may be put last
order-put-last : (a : Swept) (pairs sorted : List Swept) → put_all (put a sorted) pairs ≡ put a (put_all sorted pairs)
order-put-last a [] sorted = refl
order-put-last a (b ∷ pairs) sorted = ap (λ (list : List Swept). put_all list pairs) (swap b a sorted) ∙ order-put-last a pairs (put b sorted)

order-put-first : (a : Swept) (pairs : List Swept) → AllByRecursion (λ b. is_pair_before a b ≡ true) pairs → put a pairs ≡ a ∷ pairs
order-put-first a [] before = refl
order-put-first a (b ∷ pairs) before = ap (λ (is : Bool). cond is (a ∷ b ∷ pairs) (b ∷ put a pairs)) before.0

-- pairs in order stay as they are
pub put_all-rises : (pairs : List Swept) → Rises is_pair_before pairs → put_all [] pairs ≡ pairs
put_all-rises [] rises = refl
put_all-rises (a ∷ pairs) rises = order-put-last a pairs [] ∙ ap (put a) (put_all-rises pairs rises.1) ∙ order-put-first a pairs rises.0

-- ## pairs of rows

module _ (f : Row → Swept) where
  -- it does not matter where a row is
  put_all-with : (row : Row) (rows : List Row) (sorted : List Swept) → put_all sorted (map f (with_row row rows)) ≡ put_all (put (f row) sorted) (map f rows)
  put_all-with row [] sorted = refl
  put_all-with row (other ∷ rows) sorted = grind (arith, nat_tests, put_all-with row rows (put (f other) sorted), swap (f row) (f other) sorted)

  -- nor in what order the rows are
  pub put_all-rows : (rows sorted : List Row) → put_all [] (map f (rows_put sorted rows)) ≡ put_all (put_all [] (map f sorted)) (map f rows)
  put_all-rows [] sorted = refl
  put_all-rows (row ∷ rows) sorted =
      put_all-rows rows (with_row row sorted)
      ∙ ap (λ (list : List Swept). put_all list (map f rows)) (put_all-with row sorted [] ∙ order-put-last (f row) (map f sorted) [])

-- # two things that a test tells apart are not equal

pub refute : {A : Type 0} (test : A → Bool) {x y : A} → x ≡ y → test x ≡ true → test y ≡ false → ⊥
refute test same passes fails = absurd (let both : true ≡ false = sym passes ∙ ap test same ∙ fails in cc)
