use Rattle.np_board.proofs.Prelude.{ran_of}
use Rattle.np_board.proofs.BoardTurns.{due-taken}
use Rattle.np_board.proofs.turns.take_turn.Goals as goal

pub returns-in-Due-clause-turn : goal.returns-in-Due-clause-turn
returns-in-Due-clause-turn c = rw c.in-Due.is (due-taken (ran_of c.args.machine.now) c.in-Due.pool c.due.result c.due.ensures)
