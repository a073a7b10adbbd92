-- The simulated clouds of the first pools.
use Rattle.std.proofs.Common.{◌≡◌, ◌≤◌, ◌<◌, ◌∙◌, refl, sym, ap, subst, arith, true, ℕ, zero, suc, ◌+◌, List, [], ◌∷◌, ◌++◌, length, length-append}
use Rattle.std.specs.Prelude.{map, All, Option, Some, None, is_some, slice_get}
use Rattle.np_machine.specs.Prelude.{Configuration, Outcome, PoolId, option_map, outcome_of}
use Rattle.std.proofs.lemmas.Option.{slice_get_within}
use Rattle.std.proofs.lemmas.List.{map-append}
use Rattle.std.proofs.lemmas.List.Elements.{All-nil, All-cons, All-append}
use Rattle.np_cloud.specs.declared.driver.Tag.{Tag}
use Rattle.np_cloud.specs.Inventory.{Simulation, simulation_of, simulation_facts, simulation_plan, ArePlanned, simulations}

abbrev IsPlannedFor : Configuration → ℕ → (Tag → Option Outcome) → Type 0
IsPlannedFor c n plan = (tag : Tag) → tag.pool.0 ≡ n → plan tag ≡ Some (outcome_of c tag.pool tag.start)

module _ (c : Configuration) where
  planned-push : (n : ℕ) (plans : List (Tag → Option Outcome)) (plan : Tag → Option Outcome) → ArePlanned c n plans → IsPlannedFor c (n + length plans) plan → ArePlanned c n (plans ++ plan ∷ [])
  planned-push n [] plan h is = (subst (λ (k : ℕ). IsPlannedFor c k plan) (omega arith) is, tt)
  planned-push n (p ∷ plans) plan h is = (h.0, planned-push (suc n) plans plan h.1 (subst (λ (k : ℕ). IsPlannedFor c k plan) (omega arith) is))

  simulation-planned : (n : ℕ) → IsPlannedFor c n (simulation_plan (simulation_of c (record { 0 = n })))
  simulation-planned n tag is = let same : record { 0 = n } ≡ tag.pool = ap (λ (k : ℕ). let p : PoolId = record { 0 = k } in p) (sym is) in ap (λ (p : PoolId). Some (outcome_of c p tag.start)) same

  length-simulations : (n : ℕ) → length (simulations c n) ≡ n
  length-simulations zero = refl
  length-simulations (suc n) = length-append (simulations c n) (simulation_of c (record { 0 = n }) ∷ []) ∙ (ap (λ (k : ℕ). k + 1) (length-simulations n) ∙ omega arith)

  length-map : (clouds : List Simulation) → length (map simulation_plan clouds) ≡ length clouds
  length-map [] = refl
  length-map (x ∷ xs) = ap suc (length-map xs)

  pub simulations-planned : (n : ℕ) → ArePlanned c 0 (map simulation_plan (simulations c n))
  simulations-planned zero = tt
  simulations-planned (suc n) =
      let x : Simulation = simulation_of c (record { 0 = n }) in
      let many : length (map simulation_plan (simulations c n)) ≡ n = length-map (simulations c n) ∙ length-simulations n in
      let last : n ≡ 0 + length (map simulation_plan (simulations c n)) = omega (arith, many) in
      subst (ArePlanned c 0) (sym (map-append simulation_plan (simulations c n) (x ∷ [])))
      (planned-push 0 (map simulation_plan (simulations c n)) (simulation_plan x) (simulations-planned n)
      (subst (λ (k : ℕ). IsPlannedFor c k (simulation_plan x)) last (simulation-planned n)))

  pub simulations-push : (clouds now : List Simulation) (x : Simulation) (p : PoolId) → clouds ≡ simulations c (length clouds) → p.0 ≡ length clouds → x ≡ simulation_of c p → now ≡ clouds ++ x ∷ [] → now ≡ simulations c (length now)
  simulations-push clouds now x p h at is grown =
      let many : length now ≡ suc (length clouds) = ap length grown ∙ (length-append clouds (x ∷ []) ∙ omega arith) in
      grown
      ∙ (ap (λ (l : List Simulation). l ++ x ∷ []) h
      ∙ (ap (λ (y : Simulation). simulations c (length clouds) ++ y ∷ []) (is ∙ ap (λ (n : ℕ). simulation_of c (record { 0 = n })) at)
      ∙ sym (ap (simulations c) many)))

  -- with one more cloud there are still no more clouds than pools
  pub few-push : {X Y : Type 0} (f : Y → X) (pools : List X) (o : Option Y) (k : ℕ) (clouds now : List Simulation) (x : Simulation) → slice_get pools k ≡ option_map f o → is_some o ≡ true → k ≡ length clouds → now ≡ clouds ++ x ∷ [] → length now ≤ length pools
  few-push f pools None k clouds now x at some same grown = absurd cc
  few-push f pools (Some y) k clouds now x at some same grown =
      let within : k < length pools = slice_get_within pools k (f y) at in
      omega (arith, within, same, ap length grown, length-append clouds (x ∷ []))

  abbrev pub IsFresh : Simulation → Type 0
  IsFresh cloud = (simulation_facts cloud).servers ≡ Some []

  pub simulations-fresh : (n : ℕ) → All IsFresh (simulations c n)
  simulations-fresh zero = All-nil IsFresh
  simulations-fresh (suc n) = All-append IsFresh (simulations c n) (simulation_of c (record { 0 = n }) ∷ []) (simulations-fresh n) (All-cons IsFresh (simulation_of c (record { 0 = n })) [] refl (All-nil IsFresh))
