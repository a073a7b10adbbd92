use Rattle.np_board.proofs.Prelude.{None, planning_of}
use Rattle.np_board.proofs.BoardTurns.{planning-with}
use Rattle.np_board.proofs.board.Board.drop_plan.Goals as goal

pub invariant_of-self : goal.invariant_of-self
invariant_of-self c = (
  c.self.invariant.0,
  rw c.put.ensures (planning-with (planning_of c.self.inside.machine c.self.inside.commits c.self.inside.plans) c.args.pool None c.self.invariant.1 (λ x is. absurd cc)),
)
