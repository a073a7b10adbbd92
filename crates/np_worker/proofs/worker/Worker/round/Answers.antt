use Rattle.np_worker.proofs.Prelude.{work_of}
use Rattle.np_worker.proofs.Board.{has_round_at_board}
use Rattle.np_worker.proofs.Walks.{has_moves}
use Rattle.np_worker.proofs.worker.Worker.round.Goals as goal

pub returns-clause-moves : goal.returns-clause-moves
returns-clause-moves g c = has_moves (work_of c.args.self.now) c.play.ensures.round

pub returns-clause-board : goal.returns-clause-board
returns-clause-board g c = λ plans site told. has_round_at_board plans site told (work_of c.args.self.now) c.play.result c.play.ensures.round c.play.ensures.entries
