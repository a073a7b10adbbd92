use Rattle.np_desk.proofs.Prelude.{ap, rules, ◌∙◌}
use Rattle.np_desk.proofs.DeskRule.{joined_back, joins, learns, rests}
use Rattle.np_desk.proofs.pass.Pass.join.Goals as goal

pub join_seat-requires : goal.join_seat-requires
join_seat-requires g c = (search rules, search rules, search rules, search rules, joins _ _ _ _ _ _ _ _ c.self.invariant.some_part c.other.invariant.idle)

pub load-requires : goal.load-requires
load-requires g c = (search rules, search rules, learns _ _ _ _ _ _ _ (search rules))

pub invariant_of-self : goal.invariant_of-self
invariant_of-self g c = rests g.M.SeqObject.legal c.self.inside.seat.me c.join_seat.new.seat.me c.load.new.seat.me c.other.inside.seat.me.0 c.self.invariant c.join_seat.ensures.2 c.load.ensures.2

pub returns-clause-back : goal.returns-clause-back
returns-clause-back g c w left right = joined_back w c.self.inside.seat.me.0.part c.other.inside.seat.me.0.part c.load.new.seat.me.0.part
    (ap (λ m. m.0.part) c.load.ensures.2.1 ∙ ap (λ m. m.0.part) c.join_seat.ensures.2)
    (ap (λ p. p.part) c.self.view_is ∙ left)
    (ap (λ p. p.part) c.other.view_is ∙ right)
