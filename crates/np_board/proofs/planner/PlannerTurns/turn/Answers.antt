use Rattle.np_board.proofs.Prelude.{sight_of}
use Rattle.np_board.proofs.SeriesTurns.{turned-wider}
use Rattle.np_board.proofs.planner.PlannerTurns.turn.Goals as goal

pub returns-clause-turn : goal.returns-clause-turn
returns-clause-turn g c = turned-wider c.args.self.now.desk.now.origin.fixed (sight_of c.args.self.now.pass) (sight_of c.take_turn.new.self.pass) c.args.ask c.take_turn.result c.take_turn.ensures.turn
