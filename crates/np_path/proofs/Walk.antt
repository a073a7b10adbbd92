use Rattle.np_path.proofs.Prelude.{All, All-from_get_or, All-weaker, AllPass, Bool, IsNameAt, List, None, Some, ap, arith, cases_lt, cond, drop, drop_more, drop_split, elements, false, false_from_ne_true, fault_in, first_fault, get_or, get_or-drop, get_or-take, inl, inr, is_control, is_dots, is_kept, is_none, is_slash, length, length-append, length-drop, length-slice_split, length-take, length-take-le, nat_tests, onto_first, path_fault, position_or_len, position_or_len_is, refl, slice_range, slice_split-cons_no, slice_split_at, slice_split_none, subst, suc, sym, take_rest, true, ℕ, [], ◌++◌, ◌+◌, ◌-◌, ◌<◌, ◌∙◌, ◌∷◌, ◌≡◌, ◌≢◌, ◌≤◌}
use Rattle.np_path.proofs.GrammarLemmas.{is_path-no_fault}

-- how far a walk is: in the element that begins at start, with nothing at fault before at
pub record IsWalked (text : List ℕ) (start at : ℕ) : Type 0 where
  pub after : 0 < start
  pub order : start ≤ at
  pub slash : get_or text (start - 1) 0 ≡ 47
  pub kept : (k : ℕ) → start ≤ k → k < at → is_kept (get_or text k 0) ≡ true
  pub rest : path_fault text ≡ first_fault start (elements (drop start text))

pub kept_no_slash : (b : ℕ) → is_kept b ≡ true → is_slash b ≡ false
kept_no_slash b kept = grind (arith, nat_tests)

-- bytes that an element may have are no slash
pub no_slash : (bs : List ℕ) → AllPass is_kept bs → All (λ b. is_slash b ≡ false) bs
no_slash bs kept = All-weaker (λ b. is_kept b ≡ true) (λ b. is_slash b ≡ false) kept_no_slash bs kept

-- what is read of the element has only such bytes
read_kept : (text : List ℕ) (start at : ℕ) → IsWalked text start at → AllPass is_kept (slice_range text start at)
read_kept text start at walked =
    All-from_get_or (λ b. is_kept b ≡ true) (slice_range text start at) 0 (λ k below.
    let order = walked.order in
    let inside : k < at - start = omega (arith, length-take (at - start) (drop start text)) in
    rw (get_or-take (at - start) (drop start text) k 0 inside, get_or-drop start text k 0) (walked.kept (start + k) (omega arith) (omega arith)))

-- an element ends at a slash, and the last one ends with the text
elements-walked : (text : List ℕ) (start at : ℕ) → IsWalked text start at → at < length text → get_or text at 0 ≡ 47 → elements (drop start text) ≡ slice_range text start at ∷ elements (drop (at + 1) text)
elements-walked text start at walked within slash =
    ap elements (drop_split text start at walked.order ∙ ap (λ rest. slice_range text start at ++ rest) (drop_more text at 0 within ∙ ap (λ b. b ∷ drop (at + 1) text) slash))
    ∙ slice_split_at is_slash (slice_range text start at) 47 (drop (at + 1) text) (no_slash _ (read_kept text start at walked)) refl

elements-last : (text : List ℕ) (start : ℕ) → IsWalked text start (length text) → elements (drop start text) ≡ slice_range text start (length text) ∷ []
elements-last text start walked =
    ap elements (sym (take_rest text start)) ∙ slice_split_none is_slash (slice_range text start (length text)) (no_slash _ (read_kept text start (length text) walked))

kept_no_control : (b : ℕ) → is_kept b ≡ true → is_control b ≡ false
kept_no_control b kept = grind (arith, nat_tests)

-- an element that is empty, `.` or `..` is the first fault, and any other is passed
fault-walked : (text : List ℕ) (start at : ℕ) (more : List (List ℕ)) (t : Bool) → IsWalked text start at → elements (drop start text) ≡ slice_range text start at ∷ more → is_dots (slice_range text start at) ≡ t
    → path_fault text ≡ cond t (Some start) (first_fault (start + length (slice_range text start at) + 1) more)
fault-walked text start at more true walked are dots = walked.rest ∙ rw (are, dots) (ap Some (omega arith))
fault-walked text start at more false walked are named =
    let kept = read_kept text start at walked in
    let good = position_or_len_is is_control (slice_range text start at) (length (slice_range text start at)) 0 (omega arith) (λ k below. kept_no_control (get_or (slice_range text start at) k 0) (kept k 0 below)) (λ below. absurd (omega arith)) in
    let clean : fault_in (slice_range text start at) ≡ None = grind (arith, nat_tests, good) in
    walked.rest ∙ rw (are, clean) refl

pub fault-dots : (text : List ℕ) (start at : ℕ) → IsWalked text start at → at < length text → get_or text at 0 ≡ 47 → is_dots (slice_range text start at) ≡ true → path_fault text ≡ Some start
fault-dots text start at walked within slash dots = fault-walked text start at _ true walked (elements-walked text start at walked within slash) dots

pub IsWalked-slash : (text : List ℕ) (start at : ℕ) → IsWalked text start at → at < length text → get_or text at 0 ≡ 47 → is_dots (slice_range text start at) ≡ false → IsWalked text (at + 1) (at + 1)
IsWalked-slash text start at walked within slash named =
    let order = walked.order in
    let long : length (slice_range text start at) ≡ at - start = length-take-le (at - start) (drop start text) (omega (arith, length-drop start text)) in
    record {
      after = omega arith;
      order = omega arith;
      slash = ap (λ k. get_or text k 0) (omega arith) ∙ slash;
      kept = λ k over under. absurd (omega arith);
      rest = fault-walked text start at _ false walked (elements-walked text start at walked within slash) named ∙ ap (λ k. first_fault k (elements (drop (at + 1) text))) (omega arith);
    }

-- `.` and `..` have no bad byte
dots-good : (bs : List ℕ) → is_dots bs ≡ true → position_or_len is_control bs ≡ length bs
dots-good [] is = refl
dots-good (b ∷ []) is = grind (arith, nat_tests)
dots-good (b ∷ c ∷ []) is = grind (arith, nat_tests)
dots-good (b ∷ c ∷ d ∷ bs) is = absurd (cc)

position-control : (xs : List ℕ) (b : ℕ) (ys : List ℕ) → AllPass is_kept xs → is_control b ≡ true → position_or_len is_control (xs ++ b ∷ ys) ≡ length xs
position-control [] b ys kept bad = rw bad refl
position-control (x ∷ xs) b ys kept bad =
    rw (kept_no_control x (kept 0 x (omega arith)), position-control xs b ys (λ k d below. kept (suc k) d (omega arith)) bad) (omega arith)

fault_in-control : (xs : List ℕ) (b : ℕ) (ys : List ℕ) → AllPass is_kept xs → is_control b ≡ true → fault_in (xs ++ b ∷ ys) ≡ Some (length xs)
fault_in-control xs b ys kept bad =
    let there = position-control xs b ys kept bad in
    let long = length-append xs (b ∷ ys) in
    let named = false_from_ne_true (is_dots (xs ++ b ∷ ys)) (λ is. absurd (omega (arith, dots-good (xs ++ b ∷ ys) is))) in
    grind (arith, nat_tests, named, there, long)

-- there is a first element
nonempty : (xs : List (List ℕ)) → 0 < length xs → (first : List ℕ) × (others : List (List ℕ)) × (xs ≡ first ∷ others)
nonempty [] some = absurd (omega arith)
nonempty (x ∷ xs) some = (x, xs, refl)

pub some_elements : (bs : List ℕ) → (first : List ℕ) × (others : List (List ℕ)) × (elements bs ≡ first ∷ others)
some_elements bs = nonempty (elements bs) (omega (arith, length-slice_split is_slash bs))

elements-begun : (xs ys first : List ℕ) (others : List (List ℕ)) → All (λ b. is_slash b ≡ false) xs → elements ys ≡ first ∷ others → elements (xs ++ ys) ≡ (xs ++ first) ∷ others
elements-begun [] ys first others none are = are
elements-begun (x ∷ xs) ys first others none are =
    slice_split-cons_no is_slash x (xs ++ ys) (none 0 x (omega arith)) ∙ ap (onto_first x) (elements-begun xs ys first others (λ k d below. none (suc k) d (omega arith)) are)

control_no_slash : (b : ℕ) → is_control b ≡ true → is_slash b ≡ false
control_no_slash b bad = grind (arith, nat_tests)

-- a bad byte is the first fault
pub fault-control : (text : List ℕ) (start at : ℕ) → IsWalked text start at → at < length text → is_control (get_or text at 0) ≡ true → path_fault text ≡ Some at
fault-control text start at walked within bad =
    let order = walked.order in
    let kept = read_kept text start at walked in
    let later = some_elements (drop (at + 1) text) in
    let from = drop_more text at 0 within in
    let first = slice_split-cons_no is_slash (get_or text at 0) (drop (at + 1) text) (control_no_slash _ bad) ∙ ap (onto_first (get_or text at 0)) later.2 in
    let are =
    ap elements (drop_split text start at order ∙ ap (λ rest. slice_range text start at ++ rest) from)
    ∙ elements-begun (slice_range text start at) (get_or text at 0 ∷ drop (at + 1) text) (get_or text at 0 ∷ later.0) later.1 (no_slash _ kept) first in
    let long : length (slice_range text start at) ≡ at - start = length-take-le (at - start) (drop start text) (omega (arith, length-drop start text)) in
    walked.rest ∙ rw (are, fault_in-control (slice_range text start at) (get_or text at 0) later.0 kept bad) (ap Some (omega arith))

kept_byte : (b : ℕ) → b ≢ 47 → is_control b ≡ false → is_kept b ≡ true
kept_byte b other good = grind (arith, nat_tests)

-- any other byte is passed
pub IsWalked-kept : (text : List ℕ) (start at : ℕ) → IsWalked text start at → get_or text at 0 ≢ 47 → is_control (get_or text at 0) ≡ false → IsWalked text start (at + 1)
IsWalked-kept text start at walked other good = record {
  after = walked.after;
  order = let order = walked.order in omega arith;
  slash = walked.slash;
  kept = λ k over under. elim (cases_lt k at) [
    | inl before ↦ walked.kept k over before
    | inr here ↦ (let is : k ≡ at = omega arith in rw is (kept_byte (get_or text at 0) other good))
  ];
  rest = walked.rest;
}

-- the last element ends with the text
pub fault-last : (text : List ℕ) (start at : ℕ) (t : Bool) → IsWalked text start at → at ≡ length text → is_dots (slice_range text start (length text)) ≡ t → path_fault text ≡ cond t (Some start) None
fault-last text start at t walked end dots =
    let whole = subst (λ (n : ℕ). IsWalked text start n) end walked in
    fault-walked text start (length text) [] t whole (elements-last text start whole) dots

-- where it begins is where the name begins
pub IsNameAt-walked : (text : List ℕ) (start at : ℕ) → IsWalked text start at → at ≡ length text → is_dots (slice_range text start (length text)) ≡ false → IsNameAt text start
IsNameAt-walked text start at walked end named = record {
  is = is_path-no_fault text ∙ ap (is_none {T = ℕ}) (fault-last text start at false walked end named);
  after = walked.after;
  within = let order = walked.order in omega arith;
  slash = walked.slash;
  name = λ k over below. kept_no_slash _ (walked.kept k over (omega arith));
}
