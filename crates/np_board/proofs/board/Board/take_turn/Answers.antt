use Rattle.np_board.proofs.BoardTurns.{err-before}
use Rattle.np_board.proofs.board.Board.take_turn.Goals as goal

pub returns-in-Peek-clause-err : goal.returns-in-Peek-clause-err
returns-in-Peek-clause-err c = err-before c.args.self.now c.peek.new.self c.peek.result c.peek.ensures.err
