-- a row that has room keeps its form when an item joins it
use Rattle.std.proofs.Common.{◌≡◌, ℕ, suc, ◌+◌, ◌-◌, ◌<◌, List, [], ◌∷◌, ◌++◌, length, take, drop, replicate, sym, ◌∙◌, ap, arith, append_assoc, length-append, length-take, add-one}
use Rattle.std.proofs.lemmas.List.{take_more_set, set_split, drop-replicate}
use Rattle.std.proofs.Math.ListN.{set}
use Rattle.std.proofs.Math.Seq.{drop-append-add}
use Rattle.np_record.specs.Rows.{padded}

-- what follows the items is blank
rest : {X : Type 0} (blank : X) (room : ℕ) (items : List X) (i : ℕ) → i < length items → padded blank room (take i items) ≡ items → drop (suc i) items ≡ replicate (room - suc i) blank
rest {X = X} blank room items i within same =
    let count : length (take i items) ≡ i = length-take i items ∙ omega arith in
    let whole : take i items ++ replicate (room - i) blank ≡ items = rw count at same in
    let behind : drop (length (take i items) + 1) (take i items ++ replicate (room - i) blank) ≡ drop 1 (replicate (room - i) blank) = drop-append-add (take i items) (replicate (room - i) blank) 1 in
    let here : drop (i + 1) items ≡ drop 1 (replicate (room - i) blank) = rw (whole, count) at behind in
    let fewer : (room - i) - 1 ≡ room - suc i = omega arith in
    rw (← add-one) (here ∙ drop-replicate 1 (room - i) blank ∙ ap (λ (n : ℕ). replicate n blank) (fewer ∙ ap (λ (n : ℕ). room - n) (sym (add-one i))))

pub padded-push : {X : Type 0} (blank : X) (room : ℕ) (items : List X) (i : ℕ) (x : X) → i < length items → padded blank room (take i items) ≡ items → padded blank room (take (i + 1) (set items i x)) ≡ set items i x
padded-push {X = X} blank room items i x within same =
    let items_then : take (i + 1) (set items i x) ≡ take i items ++ x ∷ [] = take_more_set items i x within in
    let count : length (take i items ++ x ∷ []) ≡ suc i = simp (length-append, length-take) (omega arith) in
    rw (items_then, count) (append_assoc (take i items) (x ∷ []) (replicate (room - suc i) blank) ∙ ap (λ (ys : List X). take i items ++ x ∷ ys) (sym (rest blank room items i within same)) ∙ sym (set_split items i x within))
