-- sums of amounts over a list, part by part
use Rattle.std.proofs.Common.{◌≡◌, ℕ, zero, suc, ◌+◌, ◌<◌, ◌≤◌, take, map, filter, replicate, add-one, List, [], ◌∷◌, ◌++◌, Bool, true, false, length, get_or, set, refl, sym, ap, subst, ◌∙◌, arith, Option, Some, None}
use Rattle.std.specs.Prelude.{All, sum_by, remove, insert, ◌&&◌}
use Rattle.std.proofs.lemmas.Bool.Decides.{nat_tests}
use Rattle.std.proofs.Math.Nat.{suc-mul}
use Rattle.std.proofs.lemmas.Nat.{mul-le}
use Rattle.std.proofs.lemmas.List.{take_more, map-append}
use Rattle.std.proofs.lemmas.List.Sums.{sum_by-cons, sum_by-remove, sum_by-insert, sum_by-set, sum_by-le}
use Rattle.std.proofs.lemmas.List.Elements.{All-weaker}
use Rattle.np_amount.specs.declared.amount.Amount.{Amount}
use Rattle.np_amount.specs.declared.amount.Limit.{Limit}
use Rattle.np_amount.specs.Amounts.{nothing, plus, minus, times, is_within, fits, total, IsAtMost}

abbrev amount_of : ℕ → ℕ → ℕ → Amount
amount_of i c r = record { instances = i; cores = c; ram = r }

-- amounts with equal parts are equal
pub same_amount : (a b : Amount) → a.instances ≡ b.instances → a.cores ≡ b.cores → a.ram ≡ b.ram → a ≡ b
same_amount a b instances cores ram =
    ap (λ n. amount_of n a.cores a.ram) instances ∙ ap (λ n. amount_of b.instances n a.ram) cores ∙ ap (λ n. amount_of b.instances b.cores n) ram

pub plus-assoc : (a b c : Amount) → plus (plus a b) c ≡ plus a (plus b c)
plus-assoc a b c = same_amount _ _ (omega arith) (omega arith) (omega arith)

pub plus-comm : (a b : Amount) → plus a b ≡ plus b a
plus-comm a b = same_amount _ _ (omega arith) (omega arith) (omega arith)

pub nothing-plus : (a : Amount) → plus nothing a ≡ a
nothing-plus a = same_amount _ _ (omega arith) (omega arith) (omega arith)

pub minus-plus : (a b : Amount) → minus (plus a b) b ≡ a
minus-plus a b = same_amount _ _ (omega arith) (omega arith) (omega arith)

pub IsAtMost-refl : (a : Amount) → IsAtMost a a
IsAtMost-refl a = record { instances = omega arith; cores = omega arith; ram = omega arith }

pub IsAtMost-trans : (a b c : Amount) → IsAtMost a b → IsAtMost b c → IsAtMost a c
IsAtMost-trans a b c low high = record { instances = omega arith; cores = omega arith; ram = omega arith }

pub IsAtMost-part : (a b : Amount) → IsAtMost a (plus a b)
IsAtMost-part a b = record { instances = omega arith; cores = omega arith; ram = omega arith }

pub IsAtMost-plus : (a b c d : Amount) → IsAtMost a b → IsAtMost c d → IsAtMost (plus a c) (plus b d)
IsAtMost-plus a b c d one two = record { instances = omega arith; cores = omega arith; ram = omega arith }

-- a number that is at most one within a limit is within it too
is_within-less : (limit : Option ℕ) (a b : ℕ) → a ≤ b → is_within limit b ≡ true → is_within limit a ≡ true
is_within-less None a b less within = refl
is_within-less (Some most) a b less within = grind (arith, nat_tests)

all_three : (p q r s t u : Bool) → (p ≡ true → s ≡ true) → (q ≡ true → t ≡ true) → (r ≡ true → u ≡ true) → (p && q && r) ≡ true → (s && t && u) ≡ true
all_three true true true s t u one two three h = rw (one refl, two refl, three refl) refl
all_three true true false s t u one two three h = absurd (cc)
all_three true false r s t u one two three h = absurd (cc)
all_three false q r s t u one two three h = absurd (cc)

pub fits-less : (a b : Amount) (limit : Limit) → IsAtMost a b → fits b limit ≡ true → fits a limit ≡ true
fits-less a b limit less within =
    all_three _ _ _ _ _ _ (is_within-less limit.instances a.instances b.instances less.instances) (is_within-less limit.cores a.cores b.cores less.cores)
    (is_within-less limit.ram a.ram b.ram less.ram) within

-- the parts of a total are the sums of the parts
pub total-instances : (xs : List Amount) → (total xs).instances ≡ sum_by (λ a. a.instances) xs
total-instances [] = refl
total-instances (a ∷ xs) = omega (arith, total-instances xs, sum_by-cons (λ (a : Amount). a.instances) a xs)

pub total-cores : (xs : List Amount) → (total xs).cores ≡ sum_by (λ a. a.cores) xs
total-cores [] = refl
total-cores (a ∷ xs) = omega (arith, total-cores xs, sum_by-cons (λ (a : Amount). a.cores) a xs)

pub total-ram : (xs : List Amount) → (total xs).ram ≡ sum_by (λ a. a.ram) xs
total-ram [] = refl
total-ram (a ∷ xs) = omega (arith, total-ram xs, sum_by-cons (λ (a : Amount). a.ram) a xs)

pub total-append : (xs ys : List Amount) → total (xs ++ ys) ≡ plus (total xs) (total ys)
total-append [] ys = sym (nothing-plus (total ys))
total-append (x ∷ xs) ys = ap (plus x) (total-append xs ys) ∙ sym (plus-assoc x (total xs) (total ys))

pub total_push : (xs : List Amount) (y : Amount) → total (xs ++ y ∷ []) ≡ plus (total xs) y
total_push xs y = total-append xs (y ∷ []) ∙ ap (plus (total xs)) (plus-comm y nothing ∙ nothing-plus y)

pub total-remove : (xs : List Amount) (i : ℕ) (d : Amount) → i < length xs → plus (total (remove xs i)) (get_or xs i d) ≡ total xs
total-remove xs i d within =
    same_amount _ _
    (omega (arith, total-instances xs, total-instances (remove xs i), sum_by-remove (λ (a : Amount). a.instances) xs i d within))
    (omega (arith, total-cores xs, total-cores (remove xs i), sum_by-remove (λ (a : Amount). a.cores) xs i d within))
    (omega (arith, total-ram xs, total-ram (remove xs i), sum_by-remove (λ (a : Amount). a.ram) xs i d within))

-- the total of what members take, with one member more
pub total_more : {X : Type 0} (f : X → Amount) (xs : List X) (i : ℕ) (d : X) → i < length xs → total (map f (take (i + 1) xs)) ≡ plus (total (map f (take i xs))) (f (get_or xs i d))
total_more f xs i d within =
    ap (λ ys. total (map f ys)) (take_more xs i d within)
    ∙ ap total (map-append f (take i xs) (get_or xs i d ∷ []))
    ∙ total_push (map f (take i xs)) (f (get_or xs i d))

pub total-insert : (xs : List Amount) (i : ℕ) (y : Amount) → total (insert xs i y) ≡ plus (total xs) y
total-insert xs i y =
    same_amount _ _
    (omega (arith, total-instances xs, total-instances (insert xs i y), sum_by-insert (λ (a : Amount). a.instances) xs i y))
    (omega (arith, total-cores xs, total-cores (insert xs i y), sum_by-insert (λ (a : Amount). a.cores) xs i y))
    (omega (arith, total-ram xs, total-ram (insert xs i y), sum_by-insert (λ (a : Amount). a.ram) xs i y))

pub total-set : (xs : List Amount) (i : ℕ) (y d : Amount) → i < length xs → plus (total (set xs i y)) (get_or xs i d) ≡ plus (total xs) y
total-set xs i y d within =
    same_amount _ _
    (omega (arith, total-instances xs, total-instances (set xs i y), sum_by-set (λ (a : Amount). a.instances) xs i y d within))
    (omega (arith, total-cores xs, total-cores (set xs i y), sum_by-set (λ (a : Amount). a.cores) xs i y d within))
    (omega (arith, total-ram xs, total-ram (set xs i y), sum_by-set (λ (a : Amount). a.ram) xs i y d within))

pub total-at_most : (xs : List Amount) (most : Amount) → All (λ a. IsAtMost a most) xs → IsAtMost (total xs) (times (length xs) most)
total-at_most xs most each = record {
  instances = omega (arith, total-instances xs, sum_by-le (λ (a : Amount). a.instances) most.instances xs (All-weaker (λ (a : Amount). IsAtMost a most) (λ (a : Amount). a.instances ≤ most.instances) (λ a h. h.instances) xs each));
  cores = omega (arith, total-cores xs, sum_by-le (λ (a : Amount). a.cores) most.cores xs (All-weaker (λ (a : Amount). IsAtMost a most) (λ (a : Amount). a.cores ≤ most.cores) (λ a h. h.cores) xs each));
  ram = omega (arith, total-ram xs, sum_by-le (λ (a : Amount). a.ram) most.ram xs (All-weaker (λ (a : Amount). IsAtMost a most) (λ (a : Amount). a.ram ≤ most.ram) (λ a h. h.ram) xs each));
}

-- ## The same for each of n

pub times-suc : (n : ℕ) (a : Amount) → times (suc n) a ≡ plus a (times n a)
times-suc n a = same_amount _ _ (omega (arith, suc-mul n a.instances)) (omega (arith, suc-mul n a.cores)) (omega (arith, suc-mul n a.ram))

pub times_more : (n : ℕ) (a : Amount) → times (n + 1) a ≡ plus a (times n a)
times_more n a = ap (λ m. times m a) (add-one n) ∙ times-suc n a

pub times-total : (n : ℕ) (a : Amount) → times n a ≡ total (replicate n a)
times-total zero a = same_amount _ _ (omega arith) (omega arith) (omega arith)
times-total (suc n) a = times-suc n a ∙ ap (plus a) (times-total n a)

pub IsAtMost-times : (m n : ℕ) (a b : Amount) → m ≤ n → IsAtMost a b → IsAtMost (times m a) (times n b)
IsAtMost-times m n a b few most = record {
  instances = mul-le m a.instances n b.instances few most.instances;
  cores = mul-le m a.cores n b.cores few most.cores;
  ram = mul-le m a.ram n b.ram few most.ram;
}

-- the members that pass a test take together at most `most` for each member
pub total-filter_at_most : {X : Type 0} (f : X → Amount) (most : Amount) → ((x : X) → IsAtMost (f x) most) → (test : X → Bool) (xs : List X)
    → IsAtMost (total (map f (filter test xs))) (times (length xs) most)
total-filter_at_most f most each test [] = record { instances = omega arith; cores = omega arith; ram = omega arith }
total-filter_at_most f most each test (x ∷ xs) =
    subst (IsAtMost (total (map f (filter test (x ∷ xs))))) (sym (times-suc (length xs) most)) (cases (test x) refl (total-filter_at_most f most each test xs))
  where
    cases : (b : Bool) → test x ≡ b → IsAtMost (total (map f (filter test xs))) (times (length xs) most)
        → IsAtMost (total (map f (filter test (x ∷ xs)))) (plus most (times (length xs) most))
    cases true passes rest = rw passes (IsAtMost-plus (f x) most (total (map f (filter test xs))) (times (length xs) most) (each x) rest)
    cases false fails rest = rw fails (IsAtMost-trans _ _ _ rest (rw (plus-comm most (times (length xs) most)) (IsAtMost-part (times (length xs) most) most)))
