use Rattle.np_desk.proofs.Prelude.{rules}
use Rattle.np_desk.proofs.DeskRule.{splits, left_rests, right_rests}
use Rattle.np_desk.proofs.pass.Pass.split.Goals as goal

pub split_seat-seat-requires : goal.split_seat-seat-requires
split_seat-seat-requires g c = (search rules, search rules, splits _ _ _ _ _ _ c.self.invariant.some_part)

pub invariant_of-self : goal.invariant_of-self
invariant_of-self g c = left_rests g.M.SeqObject.legal c.self.inside.seat.me c.split_seat-seat.new.seat.me c.self.invariant c.split_seat-seat.ensures.2

pub invariant_of-result : goal.invariant_of-result
invariant_of-result g c = right_rests g.M.SeqObject.legal c.self.inside.seat.me c.split_seat-seat.result.me c.self.invariant c.split_seat-seat.ensures.4
