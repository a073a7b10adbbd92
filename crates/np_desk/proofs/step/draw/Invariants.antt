use Rattle.np_desk.proofs.Prelude.{◌≡◌}
use Rattle.np_desk.proofs.step.draw.Given as goal

abbrev pub invariant-loop : goal.invariant-loop
invariant-loop g l = (l.seat.table_id ≡ l.initial.seat.table_id) × (l.seat.me ≡ l.initial.seat.me)
