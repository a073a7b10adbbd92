-- lists that were mapped
use Rattle.np_json.proofs.Prelude.{Bool, List, None, Some, ap, cond, items_len-items_view, length, length-map, list_any, ltb, map, not, position, position_or_len, prefix_len, refl, sym, [], ◌+◌, ◌||◌, ◌∙◌, ◌∷◌, ◌≡◌}

pub list_any-map : {A B : Type 0} (p : B → Bool) (f : A → B) (xs : List A) → list_any p (map f xs) ≡ list_any (λ x. p (f x)) xs
list_any-map p f [] = refl
list_any-map p f (x ∷ xs) = ap (λ b. p (f x) || b) (list_any-map p f xs)

-- the same of two lists that are mapped to one
pub list_any-same : {A B C : Type 0} (p : C → Bool) (f : A → C) (g : B → C) (xs : List A) (ys zs : List B) → map f xs ≡ map g ys → ys ≡ zs → list_any (λ x. p (f x)) xs ≡ list_any (λ z. p (g z)) zs
list_any-same p f g xs ys zs same is = sym (list_any-map p f xs) ∙ ap (list_any p) same ∙ list_any-map p g ys ∙ ap (list_any (λ z. p (g z))) is

pub ruleset list_any_mapped = (list_any-map)

-- how many items a list of values has
pub ruleset counts = (items_len-items_view)

prefix_len-map : {A B : Type 0} (p : B → Bool) (f : A → B) (xs : List A) → prefix_len p (map f xs) ≡ prefix_len (λ x. p (f x)) xs
prefix_len-map p f [] = refl
prefix_len-map p f (x ∷ xs) = ap (λ n. cond (p (f x)) (1 + n) 0) (prefix_len-map p f xs)

pub position-map : {A B : Type 0} (p : B → Bool) (f : A → B) (xs : List A) → position p (map f xs) ≡ position (λ x. p (f x)) xs
position-map p f xs =
    ap (λ n. cond (ltb n (length (map f xs))) (Some n) None) (prefix_len-map (λ y. not (p y)) f xs)
    ∙ ap (λ n. cond (ltb (position_or_len (λ x. p (f x)) xs) n) (Some (position_or_len (λ x. p (f x)) xs)) None) (length-map xs f)

pub position-same : {A B C : Type 0} (p : C → Bool) (f : A → C) (g : B → C) (xs : List A) (ys zs : List B) → map f xs ≡ map g ys → ys ≡ zs → position (λ x. p (f x)) xs ≡ position (λ z. p (g z)) zs
position-same p f g xs ys zs same is = sym (position-map p f xs) ∙ ap (position p) same ∙ position-map p g ys ∙ ap (position (λ z. p (g z))) is
