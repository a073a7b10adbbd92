use Rattle.np_check.proofs.Prelude.{any_below, offers_all, request_of, ◌≡◌}
use Rattle.np_check.proofs.demand.some_offers_all.Given as goal

abbrev pub invariant-loop-at : goal.invariant-loop-at
invariant-loop-at l = l.found ≡ any_below (λ n. offers_all l.config (request_of l.job l.row) (record { 0 = n })) l.at
