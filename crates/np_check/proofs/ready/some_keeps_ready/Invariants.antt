use Rattle.np_check.proofs.Prelude.{any_below, keeps_ready, ◌≡◌}
use Rattle.np_check.proofs.ready.some_keeps_ready.Given as goal

abbrev pub invariant-loop-at : goal.invariant-loop-at
invariant-loop-at l = l.found ≡ any_below (λ n. keeps_ready l.config l.label (record { 0 = n })) l.at
