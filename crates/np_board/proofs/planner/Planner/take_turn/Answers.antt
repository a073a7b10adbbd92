use Rattle.np_board.proofs.Prelude.{sight_of}
use Rattle.np_board.proofs.SeriesTurns.{has-heard, never-heard, once-heard}
use Rattle.np_board.proofs.planner.Planner.take_turn.Goals as goal

pub unreachable-requires : goal.unreachable-requires
unreachable-requires g c = has-heard c.args.self.now.desk.now.origin.fixed (sight_of c.args.self.now.pass) (sight_of c.tickets-end.new.self.pass) c.args.ask c.tickets-end.new.series c.tickets-end.new.left c.tickets-end.ensures.turns c.in-Ok.ensures.ended c.in-None.is

pub returns-in-Some-clause-turn : goal.returns-in-Some-clause-turn
returns-in-Some-clause-turn g c = once-heard c.args.self.now.desk.now.origin.fixed (sight_of c.args.self.now.pass) (sight_of c.tickets-end.new.self.pass) c.args.ask c.tickets-end.new.series c.tickets-end.new.left c.in-Some.turn c.tickets-end.ensures.turns c.in-Some.is

pub returns-in-Err-clause-turn : goal.returns-in-Err-clause-turn
returns-in-Err-clause-turn g c = never-heard c.args.self.now.desk.now.origin.fixed (sight_of c.args.self.now.pass) (sight_of c.tickets-end.new.self.pass) c.args.ask c.tickets-end.new.series c.tickets-end.new.left c.tickets-end.ensures.turns c.in-None.is
