-- watches in their order, and the first that passes a test
use Rattle.np_watch.proofs.Prelude.{AreWatches, Bool, List, None, NonePass, Option, Rises, Some, Watch, all-find, all-insert_before, all-remove_first, all-weaker, ap, arith, by_bool, cond, false, filter, find, has_key, key_before, key_transitive, length, length-insert_before, length-remove_first, nat_tests, not, option_map, refl, remove_first, suc, true, with_watch, ℕ, [], ◌<◌, ◌∷◌, ◌≡◌}

-- ## one more

-- a later watch comes after what comes before its forerunner
rise-by : (new x : Watch) (xs : List Watch) (first same : Bool) → key_before new x ≡ first → has_key new.key x ≡ same → (same ≡ false) → Rises key_before (x ∷ xs) → Rises key_before (with_watch new xs) → Rises key_before (cond first (new ∷ x ∷ xs) (x ∷ with_watch new xs))
rise-by new x xs true same before is other rises later =
    ((before, all-weaker (λ y. key_before x y ≡ true) (λ y. key_before new y ≡ true) (λ y next. key_transitive new.key x.key y.key before next) xs rises.0), rises)
rise-by new x xs false same past is other rises later =
    let behind : key_before x new ≡ true = grind (arith, nat_tests) in
    (all-insert_before (λ y. key_before x y ≡ true) (key_before new) new xs behind rises.0, later)

-- watches with one of a new key are in order
rise-with : (new : Watch) (xs : List Watch) → NonePass (has_key new.key) xs → Rises key_before xs → Rises key_before (with_watch new xs)
rise-with new [] none rises = (tt, tt)
rise-with new (x ∷ xs) none rises = rise-by new x xs (key_before new x) (has_key new.key x) refl refl none.0 rises (rise-with new xs none.1 rises.1)

pub watches-with : (new : Watch) (xs : List Watch) → NonePass (has_key new.key) xs → length xs < 4_294_967_295 → AreWatches xs → AreWatches (with_watch new xs)
watches-with new xs none room are =
    let more = length-insert_before (key_before new) new xs in
    record { rise = rise-with new xs none are.rise; few = omega arith }

-- ## one fewer

rises-without : (p : Watch → Bool) (xs : List Watch) → Rises key_before xs → Rises key_before (remove_first p xs)
rises-without p [] rises = tt
rises-without p (x ∷ xs) rises = by_bool (λ b. Rises key_before (cond b xs (x ∷ remove_first p xs))) (p x) (λ _. rises.1)
    (λ _. (all-remove_first (λ y. key_before x y ≡ true) p xs rises.0, rises-without p xs rises.1))

pub watches-without : (p : Watch → Bool) (xs : List Watch) → AreWatches xs → AreWatches (remove_first p xs)
watches-without p xs are =
    let fewer = length-remove_first p xs in
    let few = are.few in
    record { rise = rises-without p xs are.rise; few = omega arith }

-- ## the first that passes

-- a watch whose key was found
pub record Found (o : Option Watch) (key : ℕ) : Type 0 where
  pub watch : Watch
  pub there : o ≡ Some watch
  pub keyed : watch.key ≡ key

found-key : (o : Option Watch) (key : ℕ) → option_map (λ (w : Watch). w.key) o ≡ Some key → Found o key
found-key None key is = absurd cc
found-key (Some watch) key is = record { watch = watch; there = refl; keyed = cc }

module _ (p : Watch → Bool) where
  taken-by : (x watch : Watch) (xs : List Watch) (b : Bool) → p x ≡ b → Rises key_before (x ∷ xs) → cond b (Some x) (find p xs) ≡ Some watch → (find p xs ≡ Some watch → remove_first (has_key watch.key) xs ≡ remove_first p xs) → cond (has_key watch.key x) xs (x ∷ remove_first (has_key watch.key) xs) ≡ cond b xs (x ∷ remove_first p xs)
  taken-by x watch xs true is rises found later =
      let one : x ≡ watch = cc in
      let key : x.key ≡ watch.key = ap (λ (w : Watch). w.key) one in
      let same : has_key watch.key x ≡ true = grind (arith, nat_tests) in
      rw same refl
  taken-by x watch xs false is rises found later =
      let behind : key_before x watch ≡ true = all-find (λ y. key_before x y ≡ true) p xs watch rises.0 found in
      let other : has_key watch.key x ≡ false = grind (arith, nat_tests) in
      rw other (ap (λ ys. x ∷ ys) (later found))

  taken-found : (xs : List Watch) (watch : Watch) → Rises key_before xs → find p xs ≡ Some watch → remove_first (has_key watch.key) xs ≡ remove_first p xs
  taken-found [] watch rises found = refl
  taken-found (x ∷ xs) watch rises found = taken-by x watch xs (p x) refl rises found (taken-found xs watch rises.1)

  -- to take out the watch of the first key that passes is to take out the first that passes
  pub taken : (xs : List Watch) (key : ℕ) → Rises key_before xs → option_map (λ (w : Watch). w.key) (find p xs) ≡ Some key → remove_first (has_key key) xs ≡ remove_first p xs
  taken xs key rises is =
      let found = found-key (find p xs) key is in
      rw (← found.keyed) (taken-found xs found.watch rises found.there)

  -- those that don't pass stay
  pub rest-same : (xs : List Watch) → filter (λ y. not (p y)) (remove_first p xs) ≡ filter (λ y. not (p y)) xs
  rest-same [] = refl
  rest-same (x ∷ xs) = by_bool (λ b. filter (λ y. not (p y)) (cond b xs (x ∷ remove_first p xs)) ≡ cond (not b) (x ∷ filter (λ y. not (p y)) xs) (filter (λ y. not (p y)) xs)) (p x)
      (λ _. refl) (λ fails. rw fails (ap (λ ys. x ∷ ys) (rest-same xs)))

  shorter-found : (xs : List Watch) (watch : Watch) → find p xs ≡ Some watch → suc (length (remove_first p xs)) ≡ length xs
  shorter-found [] watch found = absurd cc
  shorter-found (x ∷ xs) watch found = grind (arith, shorter-found xs watch)

  pub shorter : (xs : List Watch) (key : ℕ) → option_map (λ (w : Watch). w.key) (find p xs) ≡ Some key → suc (length (remove_first p xs)) ≡ length xs
  shorter xs key is =
      let found = found-key (find p xs) key is in
      shorter-found xs found.watch found.there

  pub none-found : (xs : List Watch) → option_map (λ (w : Watch). w.key) (find p xs) ≡ None → find p xs ≡ None
  none-found xs is = by (find p xs) is where
    by : (o : Option Watch) → option_map (λ (w : Watch). w.key) o ≡ None → o ≡ None
    by None is = refl
    by (Some watch) is = absurd cc
