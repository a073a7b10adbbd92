use Rattle.np_board.proofs.Prelude.{ℕ, ◌<◌}
use Rattle.np_board.proofs.BoardTurns.{IsNotDueAt}
use Rattle.np_board.proofs.due.due_node.Given as goal

abbrev pub invariant-loop-at : goal.invariant-loop-at
invariant-loop-at g l = (k : ℕ) → k < l.at → IsNotDueAt (g.L.Look.state l.look) l.pool l.session k
