use Rattle.np_board.proofs.Prelude.{sight_of}
use Rattle.np_board.proofs.SeriesTurns.{any-tickets}
use Rattle.np_board.proofs.planner.Planner.take_turns.Goals as goal

pub returns-clause-turns : goal.returns-clause-turns
returns-clause-turns g c = any-tickets g.S.Series.asks g.S.Series.hears c.args.self.now.desk.now.origin.fixed (sight_of c.args.self.now.pass) (sight_of c.tickets.new.self.pass) c.args.series.now c.tickets.new.series c.args.most c.tickets.new.left c.tickets.result c.tickets.ensures.turns c.tickets.ensures.ended
