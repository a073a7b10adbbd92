use Rattle.np_check.proofs.Prelude.{any_below, is_offered, ◌≡◌}
use Rattle.np_check.proofs.ready.some_offers.Given as goal

abbrev pub invariant-loop-at : goal.invariant-loop-at
invariant-loop-at l = l.found ≡ any_below (λ n. is_offered l.config (record { 0 = n }) l.label) l.at
