use Rattle.np_board.proofs.Prelude.{sight_of}
use Rattle.np_board.proofs.SeriesTurns.{took-wider}
use Rattle.np_board.proofs.planner.PlannerTurns.turns.Goals as goal

pub returns-clause-turns : goal.returns-clause-turns
returns-clause-turns g c = took-wider g.S.Series.asks g.S.Series.hears c.args.self.now.desk.now.origin.fixed (sight_of c.args.self.now.pass) (sight_of c.take_turns.new.self.pass) c.args.series.now c.take_turns.new.series c.args.most c.take_turns.result c.take_turns.ensures.turns
