-- whether some item passes a test, one item after another
use Rattle.np_explain.proofs.Prelude.{Bool, List, Some, add-one, drop, drop-there, false, list_any, refl, slice_get, suc, sym, true, ℕ, ◌+◌, ◌∙◌, ◌≡◌}

module _ {X : Type 0} (p : X → Bool) (xs : List X) (i : ℕ) (x : X) (all : Bool) (there : slice_get xs i ≡ Some x) (so_far : list_any p (drop i xs) ≡ all) where
  -- this one does
  pub any-here : p x ≡ true → true ≡ all
  any-here is =
      let here : list_any p (drop i xs) ≡ true = rw (drop-there xs i x there, is) refl in
      sym here ∙ so_far

  -- this one does not
  pub any-later : p x ≡ false → list_any p (drop (i + 1) xs) ≡ all
  any-later is =
      let later : list_any p (drop i xs) ≡ list_any p (drop (suc i) xs) = rw (drop-there xs i x there, is) refl in
      rw add-one (sym later ∙ so_far)
