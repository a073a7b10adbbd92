use Rattle.np_board.proofs.Prelude.{planning_of, refl, ◌∙◌}
use Rattle.np_board.proofs.BoardTurns.{planning-same, planning-taken}
use Rattle.np_board.proofs.board.Board.plain.Goals as goal

pub invariant_of-self : goal.invariant_of-self
invariant_of-self c = (
  c.in_err-turn.ensures.earlier ∙ c.self.invariant.0,
  planning-same (planning_of c.self.inside.machine c.self.inside.commits c.self.inside.plans) (planning_of c.take_turn.new.machine c.self.inside.commits c.self.inside.plans) c.self.invariant.1 c.take_turn.ensures.later c.in_err-turn.ensures.err refl refl,
)

pub invariant_of-self-2 : goal.invariant_of-self-2
invariant_of-self-2 c = (
  c.in_ok-turn.ensures.earlier ∙ c.self.invariant.0,
  planning-taken (planning_of c.self.inside.machine c.self.inside.commits c.self.inside.plans) (planning_of c.take_turn.new.machine c.self.inside.commits c.self.inside.plans) c.self.invariant.1 c.take_turn.ensures.later c.args.ask c.take_turn.result c.take_turn.ensures.turn c.take_turn.ensures.err refl refl,
)
