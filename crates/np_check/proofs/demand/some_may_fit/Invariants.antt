use Rattle.np_check.proofs.Prelude.{any_below, may_fit, request_of, ◌≡◌}
use Rattle.np_check.proofs.demand.some_may_fit.Given as goal

abbrev pub invariant-loop-at : goal.invariant-loop-at
invariant-loop-at l = l.found ≡ any_below (λ n. may_fit l.config (record { 0 = n }) (request_of l.job l.row)) l.at
