-- Bytes that are taken or appended in several calls.
use Rattle.np_io.proofs.Prelude.{Appends, IfSome, List, None, Option, Some, Takes, ap, append_assoc, arith, drop, drop_at, length, length-append, option_map, subst, sym, take, take-add, take_rest, ℕ, ◌++◌, ◌+◌, ◌-◌, ◌<◌, ◌∙◌, ◌≡◌}

-- two calls take what they took, one after the other
pub Takes-trans : (a b c : Option (List ℕ)) (xs ys : List ℕ)
    → Takes a b xs → Takes b c ys → Takes a c (xs ++ ys)
Takes-trans a b None xs ys p q = p ∙ ap (option_map (λ rest. xs ++ rest)) q
Takes-trans a b (Some z) xs ys p q =
    p ∙ ap (option_map (λ rest. xs ++ rest)) q ∙ ap Some (sym (append_assoc xs ys z))

-- two calls append what they appended, one after the other
pub Appends-trans : (a b c : Option (List ℕ)) (xs ys : List ℕ)
    → Appends a b xs → Appends b c ys → Appends a c (xs ++ ys)
Appends-trans None b c xs ys p q = q ∙ ap (option_map (λ written. written ++ ys)) p
Appends-trans (Some x) b c xs ys p q =
    q ∙ ap (option_map (λ written. written ++ ys)) p ∙ ap Some (append_assoc x xs ys)

-- one more write of a loop
pub Appends-next : (a b c : Option (List ℕ)) (bytes : List ℕ) (at n : ℕ)
    → Appends a b (take at bytes)
    → Appends b c (take n (take (length bytes - at) (drop at bytes)))
    → Appends a c (take (at + n) bytes)
Appends-next a b c bytes at n p q =
    let next : Appends b c (take n (drop at bytes)) =
    subst (λ (rest : List ℕ). Appends b c (take n rest)) (take_rest bytes at) q in
    subst (Appends a c) (sym (take-add at n bytes))
    (Appends-trans a b c (take at bytes) (take n (drop at bytes)) p next)

-- if two calls together take `limit + 1` bytes, the source had more than `limit`
pub Takes-too_long : (a b c : Option (List ℕ)) (limit : ℕ) (xs ys : List ℕ)
    → Takes a b xs → Takes b c ys → length xs + length ys ≡ limit + 1
    → IfSome a (λ came. (limit < length came) × (c ≡ Some (drop (limit + 1) came)))
Takes-too_long None b c limit xs ys p q e = tt
Takes-too_long (Some x) b None limit xs ys p q e = let r = Takes-trans (Some x) b None xs ys p q in cc
Takes-too_long (Some x) b (Some z) limit xs ys p q e =
    let whole : Some x ≡ Some ((xs ++ ys) ++ z) = Takes-trans (Some x) b (Some z) xs ys p q in
    let is : x ≡ (xs ++ ys) ++ z = cc in
    let long : length (xs ++ ys) ≡ limit + 1 = length-append xs ys ∙ e in (
      omega (arith, ap length is ∙ length-append (xs ++ ys) z, long),
      ap Some (sym (ap (drop (limit + 1)) is ∙ drop_at (xs ++ ys) z (limit + 1) long)),
    )
