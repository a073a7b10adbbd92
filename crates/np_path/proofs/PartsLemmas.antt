-- how parent, name and child are related
use Rattle.np_path.proofs.Prelude.{All-from_get_or, AllPass, AllPass-from_list_all, IsCharBoundary, IsCharBoundary-after_ascii, IsNameAt, IsUtf8, List, Some, all_ascii_digits, all_ascii_digits-ten, and_from, and_parts, ap, append_assoc, arith, before_last, below, drop, elements, false, get_or, get_or-append_right, get_or_at, is_ascii_digit, is_dots, is_element, is_kept, is_path, is_slash, length, length-append, length-take-le, list_all, list_all-append, list_any, list_any_none, name_of, nat_tests, not, or_root, parent_of, refl, slashed, slice_split-cons_yes, slice_split_none, subst, suc, suffix_len, suffix_len_is, take, ten-le-length, ten_digits_of, true, zero, ℕ, [], ◌++◌, ◌+◌, ◌-◌, ◌<◌, ◌∙◌, ◌∷◌, ◌≡◌, ◌≤◌}
use Rattle.np_path.proofs.Walk.{no_slash, some_elements}

-- the place after the last slash of a text that has one
pub record AfterLast (text : List ℕ) (at : ℕ) : Type 0 where
  pub after : 0 < at
  pub within : at ≤ length text
  pub slash : get_or text (at - 1) 0 ≡ 47
  pub name : (k : ℕ) → at ≤ k → k < length text → is_slash (get_or text k 0) ≡ false

pub AfterLast-name : (path : List ℕ) (at : ℕ) → IsNameAt path at → AfterLast path at
AfterLast-name path at is = record { after = is.after; within = is.within; slash = is.slash; name = is.name }

-- how much comes after the last slash
suffix_len-last : (text : List ℕ) (at : ℕ) → AfterLast text at → suffix_len (λ b. not (is_slash b)) text ≡ length text - at
suffix_len-last text at is =
    suffix_len_is (λ b. not (is_slash b)) text at 0 is.within (λ k over below. ap not (is.name k over below)) (λ _. ap (λ b. not (is_slash b)) is.slash)

-- what is after the last slash, and before it
pub name_of-last : (text : List ℕ) (at : ℕ) → AfterLast text at → name_of text ≡ drop at text
name_of-last text at is = rw (suffix_len-last text at is) (ap (λ k. drop k text) (let within = is.within in omega arith))

pub before_last-last : (text : List ℕ) (at : ℕ) → AfterLast text at → before_last is_slash text ≡ take (at - 1) text
before_last-last text at is = rw (suffix_len-last text at is) (ap (λ k. take k text) (let within = is.within in omega arith))

-- the parent of a path of two bytes and more
pub parent_of-at : (path : List ℕ) (at : ℕ) → AfterLast path at → 1 < length path → parent_of path ≡ Some (or_root (take (at - 1) path))
parent_of-at [] at is long = absurd (omega arith)
parent_of-at (b ∷ []) at is long = absurd (omega arith)
parent_of-at (b ∷ c ∷ bs) at is long = ap (λ before. Some (or_root before)) (before_last-last (b ∷ c ∷ bs) at is)

or_root-some : (bs : List ℕ) → 0 < length bs → or_root bs ≡ bs
or_root-some [] some = absurd (omega arith)
or_root-some (b ∷ bs) some = refl

pub parent_of-deeper : (path : List ℕ) (at : ℕ) → AfterLast path at → 1 < at → parent_of path ≡ Some (take (at - 1) path)
parent_of-deeper path at is deep =
    let within = is.within in
    parent_of-at path at is (omega arith) ∙ ap Some (or_root-some (take (at - 1) path) (let long = length-take-le (at - 1) path (omega arith) in omega arith))

-- a path begins with a slash, and one of one byte is the root
pub is_slash-is : (b : ℕ) → is_slash b ≡ true → b ≡ 47
is_slash-is b is = grind (arith, nat_tests)

pub begins_with_slash : (path : List ℕ) → is_path path ≡ true → path ≡ 47 ∷ drop 1 path
begins_with_slash [] is = absurd (cc)
begins_with_slash (b ∷ []) is = ap (λ x. x ∷ []) (is_slash-is b is)
begins_with_slash (b ∷ c ∷ bs) is = ap (λ x. x ∷ c ∷ bs) (is_slash-is b (and_parts _ _ is).0)

-- each byte of an element is one that an element may have
each_kept : (name : List ℕ) → is_element name ≡ true → AllPass is_kept name
each_kept name named = AllPass-from_list_all is_kept name (and_parts _ _ named).1

elements-element : (name : List ℕ) → is_element name ≡ true → elements name ≡ name ∷ []
elements-element name named = slice_split_none is_slash name (no_slash name (each_kept name named))

-- the elements on both sides of a slash
pub elements-append : (xs ys : List ℕ) → elements (xs ++ 47 ∷ ys) ≡ elements xs ++ elements ys
elements-append [] ys = slice_split-cons_yes is_slash 47 ys refl
elements-append (b ∷ xs) ys =
    let later = elements-append xs ys in
    let some = some_elements xs in
    rw (later, some.2) (grind arith)

-- the elements of what comes after the first slash, with one name more
more_elements : (bs name : List ℕ) → list_all is_element (elements bs) ≡ true → is_element name ≡ true → list_all is_element (elements (bs ++ 47 ∷ name)) ≡ true
more_elements bs name all named =
    ap (list_all is_element) (elements-append bs name ∙ ap (λ names. elements bs ++ names) (elements-element name named))
    ∙ list_all-append is_element (elements bs) (name ∷ [])
    ∙ and_from _ _ all (and_from _ _ named refl)

pub is_path-below : (path name : List ℕ) → is_path path ≡ true → is_element name ≡ true → is_path (below path name) ≡ true
is_path-below [] name is named = absurd (cc)
is_path-below (b ∷ []) [] is named = absurd (cc)
is_path-below (b ∷ []) (c ∷ bs) is named = ap (list_all is_element) (elements-element (c ∷ bs) named) ∙ and_from _ _ named refl
is_path-below (b ∷ c ∷ bs) name is named =
    ap (λ rest. is_path (b ∷ c ∷ rest)) (append_assoc bs (47 ∷ []) name)
    ∙ and_from _ _ (and_parts _ _ is).0 (more_elements (c ∷ bs) name (and_parts _ _ is).1 named)

-- there is a slash at the end, before the name
slashed-ends : (path : List ℕ) → (before : List ℕ) × (slashed path ≡ before ++ 47 ∷ [])
slashed-ends [] = ([], refl)
slashed-ends (b ∷ []) = ([], refl)
slashed-ends (b ∷ c ∷ bs) = (b ∷ c ∷ bs, refl)

IsNameAt-after_slash : (before name : List ℕ) → is_path ((before ++ 47 ∷ []) ++ name) ≡ true → is_element name ≡ true → IsNameAt ((before ++ 47 ∷ []) ++ name) (length (before ++ 47 ∷ []))
IsNameAt-after_slash before name is named =
    let long : length (before ++ 47 ∷ []) ≡ length before + 1 = length-append before (47 ∷ []) in
    record {
      is = is;
      after = omega arith;
      within = simp length-append (omega arith);
      slash = rw append_assoc (get_or_at before 47 name 0 (length (before ++ 47 ∷ []) - 1) (omega arith));
      name = λ k over below.
          ap is_slash (get_or-append_right (before ++ 47 ∷ []) name (length (before ++ 47 ∷ [])) k 0 refl over)
          ∙ no_slash name (each_kept name named) (k - length (before ++ 47 ∷ [])) 0 (omega (arith, length-append (before ++ 47 ∷ []) name));
    }

pub IsNameAt-below : (path name : List ℕ) → is_path path ≡ true → is_element name ≡ true → IsNameAt (slashed path ++ name) (length (slashed path))
IsNameAt-below path name is named =
    let ends = slashed-ends path in
    let whole = rw ends.1 at (is_path-below path name is named) in
    rw ends.1 (IsNameAt-after_slash ends.0 name whole named)

-- a path may be cut after its last slash, and before it
pub name_boundary : (path : List ℕ) (at : ℕ) → IsUtf8 path → IsNameAt path at → IsCharBoundary path at
name_boundary path at text is =
    let after = is.after in
    let within = is.within in
    let ascii : get_or path (at - 1) 0 < 128 = rw is.slash (omega arith) in
    let step : at - 1 + 1 ≡ at = omega arith in
    subst (λ (k : ℕ). IsCharBoundary path k) step (IsCharBoundary-after_ascii path (at - 1) text (omega arith) ascii)

pub root_boundary : (path : List ℕ) → IsUtf8 path → is_path path ≡ true → IsCharBoundary path 1
root_boundary path text is =
    let begun = begins_with_slash path is in
    let first : get_or path 0 0 ≡ 47 = ap (λ p. get_or p 0 0) begun in
    IsCharBoundary-after_ascii path 0 text (omega (arith, ap length begun)) (omega arith)

-- a prefix and ten digits are a name if each byte of the prefix may be in one
is_dots-long : (bs : List ℕ) → 2 < length bs → is_dots bs ≡ false
is_dots-long [] long = absurd (omega arith)
is_dots-long (b ∷ []) long = absurd (omega arith)
is_dots-long (b ∷ c ∷ []) long = absurd (omega arith)
is_dots-long (b ∷ c ∷ d ∷ bs) long = refl

are_kept-digits : (ds : List ℕ) → all_ascii_digits ds ≡ true → list_all is_kept ds ≡ true
are_kept-digits [] digits = refl
are_kept-digits (d ∷ ds) digits = let later = are_kept-digits ds in grind (arith, nat_tests, later)

pub is_element-numbered : (prefix : List ℕ) (n : ℕ) → list_all is_kept prefix ≡ true → is_element (prefix ++ ten_digits_of n) ≡ true
is_element-numbered prefix n kept =
    and_from _ _
    (ap not (is_dots-long (prefix ++ ten_digits_of n) (simp length-append (omega (arith, ten-le-length n)))))
    (list_all-append is_kept prefix (ten_digits_of n) ∙ and_from _ _ kept (are_kept-digits (ten_digits_of n) (all_ascii_digits-ten n)))

digits_are_ascii : (ds : List ℕ) (k : ℕ) → all_ascii_digits ds ≡ true → get_or ds k 0 < 128
digits_are_ascii [] k digits = omega arith
digits_are_ascii (d ∷ ds) zero digits = let parts = and_parts (is_ascii_digit d) (all_ascii_digits ds) digits in grind (arith, nat_tests)
digits_are_ascii (d ∷ ds) (suc k) digits = digits_are_ascii ds k (and_parts (is_ascii_digit d) (all_ascii_digits ds) digits).1

-- each of the ten digits is one byte of text
pub ten_are_ascii : (ds : List ℕ) (n k : ℕ) → ds ≡ ten_digits_of n → get_or ds k 0 < 128
ten_are_ascii ds n k are = rw are (digits_are_ascii (ten_digits_of n) k (all_ascii_digits-ten n))

pub ruleset numbered_names = (is_element-numbered)

-- a search from the end has passed no slash
pub record IsPassed (text : List ℕ) (at : ℕ) : Type 0 where
  pub within : at ≤ length text
  pub others : (k : ℕ) → at ≤ k → k < length text → is_slash (get_or text k 0) ≡ false

pub AfterLast-passed : (text : List ℕ) (at : ℕ) → IsPassed text at → 0 < at → get_or text (at - 1) 0 ≡ 47 → AfterLast text at
AfterLast-passed text at passed some slash = record { after = some; within = passed.within; slash = slash; name = passed.others }

pub none_passed : (text : List ℕ) → IsPassed text 0 → list_any is_slash text ≡ false
none_passed text passed = list_any_none is_slash text (All-from_get_or (λ b. is_slash b ≡ false) text 0 (λ k below. passed.others k (omega arith) below))
