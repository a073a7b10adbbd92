-- a text with no fault is a path
use Rattle.np_path.proofs.Prelude.{Bool, List, and_parts, arith, elements, false, fault_in, first_fault, is_control, is_element, is_kept, is_none, is_path, is_slash, length, list_all, nat_lt, nat_tests, not, onto_first, path_fault, position, position_or_len, refl, true, ℕ, [], ◌+◌, ◌∷◌, ◌≡◌}

-- no byte is a slash
abbrev has_no_slash : List ℕ → Bool
has_no_slash bs = list_all (λ b. not (is_slash b)) bs

onto_first-no_slash : (b : ℕ) (parts : List (List ℕ)) → is_slash b ≡ false → list_all has_no_slash parts ≡ true → list_all has_no_slash (onto_first b parts) ≡ true
onto_first-no_slash b [] other all = grind (arith, nat_tests)
onto_first-no_slash b (part ∷ parts) other all = grind (arith, nat_tests)

-- the elements of a text have no slash
elements-no_slash : (bs : List ℕ) → list_all has_no_slash (elements bs) ≡ true
elements-no_slash [] = refl
elements-no_slash (b ∷ bs) =
    let later = elements-no_slash bs in
    grind (arith, nat_tests, later, onto_first-no_slash b (elements bs))

-- the byte at a place before the end is bad
position-or_len_kept : (bs : List ℕ) → has_no_slash bs ≡ true → nat_lt (position_or_len is_control bs) (length bs) ≡ not (list_all is_kept bs)
position-or_len_kept [] none = refl
position-or_len_kept (b ∷ bs) none =
    let first : is_slash b ≡ false = grind (arith, nat_tests) in
    let others : has_no_slash bs ≡ true = grind (arith, nat_tests) in
    let later = position-or_len_kept bs others in
    grind (arith, nat_tests, later)

is_none-position : (bs : List ℕ) → has_no_slash bs ≡ true → is_none (position is_control bs) ≡ list_all is_kept bs
is_none-position bs none = grind (arith, position-or_len_kept bs none)

is_none-fault_in : (name : List ℕ) → has_no_slash name ≡ true → is_none (fault_in name) ≡ is_element name
is_none-fault_in name none = grind (arith, is_none-position name none)

is_none-first_fault : (at : ℕ) (names : List (List ℕ)) → list_all has_no_slash names ≡ true → is_none (first_fault at names) ≡ list_all is_element names
is_none-first_fault at [] none = refl
is_none-first_fault at (name ∷ names) none =
    let parts = and_parts (has_no_slash name) (list_all has_no_slash names) none in
    grind (arith, is_none-fault_in name parts.0, is_none-first_fault (at + length name + 1) names parts.1)

-- a text is a path if and only if it has no fault
pub is_path-no_fault : (text : List ℕ) → is_path text ≡ is_none (path_fault text)
is_path-no_fault [] = refl
is_path-no_fault (b ∷ []) = grind arith
is_path-no_fault (b ∷ c ∷ bs) =
    let later = is_none-first_fault 1 (elements (c ∷ bs)) (elements-no_slash (c ∷ bs)) in
    grind (arith, later)
