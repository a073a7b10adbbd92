use Rattle.std.proofs.Common.{◌≡◌, ◌∙◌, refl, ap, subst, true, ℕ, List, Contains}
use Rattle.np_io.specs.Memory.{counted}
use Rattle.np_cloud.specs.Inventory.{Script}
use Rattle.np_cloud.proofs.script.ScriptDriverDriver.remove.Goals as goal

-- what is planned of the fields is planned of the script
planned : (fields failing : List ℕ) (made number : ℕ) → Contains fields made → fields ≡ failing → made ≡ number → (true ≡ true → Contains failing number) × (Contains failing number → true ≡ true)
planned fields failing made number there same counts =
    (λ yes. subst (λ (n : ℕ). Contains failing n) counts (subst (λ (l : List ℕ). Contains l made) same there), λ found. refl)

pub returns-then-is_planned-clause-planned : goal.returns-then-is_planned-clause-planned
returns-then-is_planned-clause-planned c =
    let says = c.if-is_planned.ensures in
    planned _ _ _ _ (says.0 refl)
    (c.deref.ensures.value ∙ ap (λ (script : Script). script.failing) c.self.view_is)
    (c.saturating_add-self-inside.ensures ∙ ap (λ (script : Script). counted script.removals) c.self.view_is)
