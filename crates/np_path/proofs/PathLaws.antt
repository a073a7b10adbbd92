-- each path is its parent and its name
use Rattle.np_path.proofs.Prelude.{All-from_get_or, Bool, List, None, Some, and_from, and_parts, ap, append_assoc, arith, before_last, below, cases_lt, drop, drop_at, drop_more, elements, false, get_or, get_or-drop, inl, inr, is_element, is_path, is_slash, length, length-append, length-drop, list_all, list_all-append, list_any, name_of, or_root, parent_of, refl, root, slashed, slice_split_none, suc, sym, take, take-append-drop, take_at, true, zero, ℕ, [], ◌&&◌, ◌++◌, ◌+◌, ◌-◌, ◌<◌, ◌∙◌, ◌∷◌, ◌≡◌}
use Rattle.np_path.proofs.PartsLemmas.{AfterLast, AfterLast-name, AfterLast-passed, IsNameAt-below, IsPassed, before_last-last, begins_with_slash, elements-append, is_slash-is, name_of-last, none_passed, parent_of-at}

-- a text with a slash has a last one: a search from the end finds it
last_at : (text : List ℕ) (n : ℕ) (t : Bool) → is_slash (get_or text n 0) ≡ t → IsPassed text (suc n) → (IsPassed text n → (at : ℕ) × AfterLast text at) → (at : ℕ) × AfterLast text at
last_at text n true is passed later =
    let step : suc n - 1 ≡ n = omega arith in
    (suc n, AfterLast-passed text (suc n) passed (omega arith) (rw step (is_slash-is (get_or text n 0) is)))
last_at text n false is passed later = later (record {
  within = let within = passed.within in omega arith;
  others = λ k over below. elim (cases_lt n k) [
    | inl past ↦ passed.others k (omega arith) below
    | inr here ↦ (let same : k ≡ n = omega arith in rw same is)
  ];
})

last_before : (text : List ℕ) (n : ℕ) → IsPassed text n → list_any is_slash text ≡ true → (at : ℕ) × AfterLast text at
last_before text zero passed has = let none = none_passed text passed in absurd (cc)
last_before text (suc n) passed has = last_at text n (is_slash (get_or text n 0)) refl passed (λ before. last_before text n before has)

last_slash : (text : List ℕ) → list_any is_slash text ≡ true → (at : ℕ) × AfterLast text at
last_slash text has = last_before text (length text) (record { within = omega arith; others = λ k over below. absurd (omega arith) }) has

-- the parts of a child's path
pub record HasParts (path parent name : List ℕ) : Type 0 where
  pub above : parent_of path ≡ Some parent
  pub last : name_of path ≡ name

length-below : (path name : List ℕ) → is_path path ≡ true → is_element name ≡ true → 1 < length (slashed path ++ name)
length-below [] name is named = absurd (cc)
length-below (b ∷ []) [] is named = absurd (cc)
length-below (b ∷ []) (n ∷ name) is named = omega arith
length-below (b ∷ c ∷ bs) name is named = omega arith

or_root-before : (path name : List ℕ) → is_path path ≡ true → or_root (take (length (slashed path) - 1) (slashed path ++ name)) ≡ path
or_root-before [] name is = absurd (cc)
or_root-before (b ∷ []) name is = ap (λ x. x ∷ []) (sym (is_slash-is b is))
or_root-before (b ∷ c ∷ bs) name is =
    let long : length ((b ∷ c ∷ bs) ++ 47 ∷ []) - 1 ≡ length (b ∷ c ∷ bs) = omega (arith, length-append (b ∷ c ∷ bs) (47 ∷ [])) in
    ap or_root (ap (λ n. take n (((b ∷ c ∷ bs) ++ 47 ∷ []) ++ name)) long ∙ ap (take (length (b ∷ c ∷ bs))) (append_assoc (b ∷ c ∷ bs) (47 ∷ []) name) ∙ take_at (b ∷ c ∷ bs) (47 ∷ name) (length (b ∷ c ∷ bs)) refl)

pub HasParts-below : (path name : List ℕ) → is_path path ≡ true → is_element name ≡ true → HasParts (below path name) path name
HasParts-below path name is named =
    let there = AfterLast-name _ _ (IsNameAt-below path name is named) in
    record {
      above = parent_of-at (below path name) (length (slashed path)) there (length-below path name is named) ∙ ap Some (or_root-before path name is);
      last = name_of-last (below path name) (length (slashed path)) there ∙ drop_at (slashed path) name (length (slashed path)) refl;
    }

-- what is on both sides of a path's last slash
record AreParts (before name : List ℕ) : Type 0 where
  is : is_path (or_root before) ≡ true
  named : is_element name ≡ true
  whole : below (or_root before) name ≡ before ++ 47 ∷ name

AreParts-of : (before name : List ℕ) → 1 < length (before ++ 47 ∷ name) → elements name ≡ name ∷ [] → is_path (before ++ 47 ∷ name) ≡ true → AreParts before name
AreParts-of [] [] long one is = absurd (omega arith)
AreParts-of [] (n ∷ name) long one is = let all = rw one at is in record { is = refl; named = (and_parts _ _ all).0; whole = refl }
AreParts-of (b ∷ []) name long one is = let split = (and_parts (is_slash b) (list_all is_element (elements (47 ∷ name))) is).1 in absurd (cc)
AreParts-of (b ∷ x ∷ xs) name long one is =
    let all = rw (elements-append (x ∷ xs) name, list_all-append is_element (elements (x ∷ xs)) (elements name), one) at is in
    let parts = and_parts (is_slash b) (list_all is_element (elements (x ∷ xs)) && (is_element name && true)) all in
    let names = and_parts (list_all is_element (elements (x ∷ xs))) (is_element name && true) parts.1 in
    record { is = and_from _ _ parts.0 names.0; named = (and_parts (is_element name) true names.1).0; whole = append_assoc (b ∷ x ∷ xs) (47 ∷ []) name }

-- a path that has a parent is that parent's child of its name
pub record IsChild (path parent : List ℕ) : Type 0 where
  pub is : is_path parent ≡ true
  pub named : is_element (name_of path) ≡ true
  pub whole : below parent (name_of path) ≡ path

has_parent-long : (path parent : List ℕ) → parent_of path ≡ Some parent → 1 < length path
has_parent-long [] parent above = absurd (cc)
has_parent-long (b ∷ []) parent above = absurd (cc)
has_parent-long (b ∷ c ∷ bs) parent above = omega arith

-- without a slash a name is one element
name-one : (text : List ℕ) (at : ℕ) → AfterLast text at → elements (drop at text) ≡ drop at text ∷ []
name-one text at is =
    slice_split_none is_slash (drop at text) (All-from_get_or (λ b. is_slash b ≡ false) (drop at text) 0 (λ k below.
    let inside : at + k < length text = omega (arith, length-drop at text) in
    ap is_slash (get_or-drop at text k 0) ∙ is.name (at + k) (omega arith) inside))

around_slash : (text : List ℕ) (at : ℕ) → AfterLast text at → text ≡ take (at - 1) text ++ 47 ∷ drop at text
around_slash text at is =
    let after = is.after in
    let within = is.within in
    let step : at - 1 + 1 ≡ at = omega arith in
    sym (take-append-drop (at - 1) text) ∙ ap (λ rest. take (at - 1) text ++ rest) (drop_more text (at - 1) 0 (omega arith) ∙ rw (is.slash, step) refl)

pub IsChild-of : (path parent : List ℕ) → is_path path ≡ true → parent_of path ≡ Some parent → IsChild path parent
IsChild-of path parent is above =
    let there = last_slash path (ap (list_any is_slash) (begins_with_slash path is)) in
    let long = has_parent-long path parent above in
    let around = around_slash path there.0 there.1 in
    let parts = AreParts-of (take (there.0 - 1) path) (drop there.0 path) (rw around at long) (name-one path there.0 there.1) (rw around at is) in
    let parent-is : or_root (take (there.0 - 1) path) ≡ parent = cc (parent_of-at path there.0 there.1 long) in
    let name-is : name_of path ≡ drop there.0 path = name_of-last path there.0 there.1 in
    record {
      is = ap is_path (sym parent-is) ∙ parts.is;
      named = ap is_element name-is ∙ parts.named;
      whole = ap (λ p. below p (name_of path)) (sym parent-is) ∙ ap (below (or_root (take (there.0 - 1) path))) name-is ∙ parts.whole ∙ sym around;
    }

-- only the root has no parent
pub root-of : (path : List ℕ) → is_path path ≡ true → parent_of path ≡ None → path ≡ root
root-of [] is above = absurd (cc)
root-of (b ∷ []) is above = begins_with_slash (b ∷ []) is
root-of (b ∷ c ∷ bs) is above = absurd (cc)

-- a text is what is before its last slash, the slash, and what is after it
pub halves-whole : (text : List ℕ) → list_any is_slash text ≡ true → text ≡ before_last is_slash text ++ 47 ∷ name_of text
halves-whole text has =
    let there = last_slash text has in
    rw (before_last-last text there.0 there.1, name_of-last text there.0 there.1) (around_slash text there.0 there.1)
