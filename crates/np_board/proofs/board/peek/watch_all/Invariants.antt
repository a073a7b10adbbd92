use Rattle.np_board.proofs.Prelude.{take, watches_of, ◌≡◌}
use Rattle.np_board.proofs.board.peek.watch_all.Given as goal

abbrev pub invariant-loop-place : goal.invariant-loop-place
invariant-loop-place l = l.watches ≡ watches_of l.tree.changes (take l.place l.paths)
