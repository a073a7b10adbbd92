-- the items of a list, one after another
use Rattle.np_json.proofs.Prelude.{ConfigFault, ConfigRead, Fails, List, Ok, ReadsItem, Result, Value, add-one, ap, below, decimal, drop, drop-cons, drop_all, fault_of, get_or, item, items_from, items_view, length, refl, subst, suc, sym, view, ℕ, ◌+◌, ◌<◌, ◌∙◌, ◌∷◌, ◌≡◌, ◌≤◌}
use Rattle.np_json.proofs.Binds.{binds}

-- the items from a place on
items_view-drop : (vs : List Value) (i : ℕ) (v : Value) → i < length vs → v ≡ get_or vs i v → items_view (drop i vs) ≡ item (view v) (items_view (drop (i + 1) vs))
items_view-drop vs i v within is =
    let front : drop i vs ≡ v ∷ drop (i + 1) vs = drop-cons vs i v within ∙ ap (λ x. x ∷ drop (suc i) vs) (sym is) ∙ rw add-one refl in
    ap items_view front

module _ {S : Type 0} (read : ReadsItem S) (at : List ℕ) where
  -- one more item was read
  pub items_more : (all : Result S ConfigFault) (vs : List Value) (i : ℕ) (v : Value) (before after : S) → i < length vs → v ≡ get_or vs i v
      → read (below at (decimal i)) before (view v) ≡ Ok after
      → items_from read at i before (items_view (drop i vs)) ≡ all → items_from read at (i + 1) after (items_view (drop (i + 1) vs)) ≡ all
  unfolding items_from
  items_more all vs i v before after within is step so_far =
      sym (ap (items_from read at i before) (items_view-drop vs i v within is) ∙ rw step refl) ∙ so_far

  -- one has a fault
  pub items_fail : (all : Result S ConfigFault) (vs : List Value) (i : ℕ) (v : Value) (before : S) (e : ConfigRead) → i < length vs → v ≡ get_or vs i v
      → Fails e (fault_of (read (below at (decimal i)) before (view v)))
      → items_from read at i before (items_view (drop i vs)) ≡ all → Fails e (fault_of all)
  unfolding items_from
  items_fail all vs i v before e within is fails so_far =
      let step = ap (items_from read at i before) (items_view-drop vs i v within is) in
      subst (λ (r : Result S ConfigFault). Fails e (fault_of r)) (sym step ∙ so_far)
      (binds e (read (below at (decimal i)) before (view v)) (λ after. items_from read at (i + 1) after (items_view (drop (i + 1) vs))) fails)

  -- there are no more
  pub items_end : (all : Result S ConfigFault) (vs : List Value) (i : ℕ) (before : S) → length vs ≤ i
      → items_from read at i before (items_view (drop i vs)) ≡ all → all ≡ Ok before
  unfolding items_from
  items_end all vs i before end so_far = sym so_far ∙ rw (drop_all i vs end) refl
