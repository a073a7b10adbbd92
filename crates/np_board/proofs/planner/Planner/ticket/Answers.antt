use Rattle.np_board.proofs.Prelude.{sight_of}
use Rattle.np_board.proofs.SeriesTurns.{after-ticket}
use Rattle.np_board.proofs.planner.Planner.ticket.Goals as goal

pub returns-clause-turns : goal.returns-clause-turns
returns-clause-turns g c = after-ticket g.S.Series.asks g.S.Series.hears c.args.self.now.desk.now.origin.fixed (sight_of c.args.self.now.pass) (sight_of c.turns-end.new.self) _ c.turns-end.new.series _ c.turns-end.result c.turns-end.ensures.turns
