use Rattle.np_check.proofs.Prelude.{Bool, List, ap, append_assoc, filter, filter-append, flat_map, map, refl, sym, [], ◌++◌, ◌∙◌, ◌∷◌, ◌≡◌}

-- what passes of two lists, behind another list
pub joined : {A : Type 0} (p : A → Bool) (before xs ys : List A) → (before ++ filter p xs) ++ filter p ys ≡ before ++ filter p (xs ++ ys)
joined p before xs ys = append_assoc before (filter p xs) (filter p ys) ∙ ap (λ zs. before ++ zs) (sym (filter-append p xs ys))

pub ruleset joins = (joined, append_assoc)

-- what passes of a list, one item after another
pub filter-flat : {A B : Type 0} (p : B → Bool) (f : A → B) (xs : List A) → filter p (map f xs) ≡ flat_map (λ x. filter p (f x ∷ [])) xs
filter-flat p f [] = refl
filter-flat p f (x ∷ xs) = filter-append p (f x ∷ []) (map f xs) ∙ ap (λ zs. filter p (f x ∷ []) ++ zs) (filter-flat p f xs)

-- what passes of five lists, the last of which is added last
pub five : {A : Type 0} (p : A → Bool) (first second third fourth fifth a b c d e empty : List A) →
    e ≡ d ++ filter p fifth → d ≡ c ++ filter p fourth → c ≡ b ++ filter p third → b ≡ a ++ filter p second → a ≡ empty ++ filter p first → empty ≡ [] →
    e ≡ filter p (first ++ second ++ third ++ fourth ++ fifth)
five p first second third fourth fifth a b c d e empty to_e to_d to_c to_b to_a none =
    rw (to_e, to_d, to_c, to_b, to_a, none, joined p [] first second, joined p [] (first ++ second) third, joined p [] (first ++ second ++ third) fourth, joined p [] (first ++ second ++ third ++ fourth) fifth) refl
