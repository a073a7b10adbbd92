use Rattle.np_board.proofs.Prelude.{None, replicate, ◌≡◌}
use Rattle.np_board.proofs.board.plans.Plans.none.Given as goal

abbrev pub invariant-loop : goal.invariant-loop
invariant-loop l = l.places.items ≡ replicate l.counter None
