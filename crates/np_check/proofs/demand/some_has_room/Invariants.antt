use Rattle.np_check.proofs.Prelude.{any_below, has_room, request_of, ◌≡◌}
use Rattle.np_check.proofs.demand.some_has_room.Given as goal

abbrev pub invariant-loop-at : goal.invariant-loop-at
invariant-loop-at l = l.found ≡ any_below (λ n. has_room l.config (request_of l.job l.row) (record { 0 = n })) l.at
