use Rattle.np_desk.proofs.HistoryLemmas.{alone_turned}
use Rattle.np_desk.proofs.alone.AloneTurns.turn.Goals as goal

pub returns-clause-turn : goal.returns-clause-turn
returns-clause-turn g c = alone_turned g.M.SeqObject.answers g.M.SeqObject.recorded (g.M.SeqObject.fixed c.args.self.now.object) c.args.ask c.turn.result (g.M.SeqObject.history c.args.self.now.object) (g.M.SeqObject.history c.turn.new.self) c.turn.ensures.answer c.turn.ensures.history
