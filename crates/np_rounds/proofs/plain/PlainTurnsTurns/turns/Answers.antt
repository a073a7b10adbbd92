use Rattle.np_rounds.proofs.Prelude.{sight_of}
use Rattle.np_rounds.proofs.PlainLemmas.{took_plainly}
use Rattle.np_rounds.proofs.plain.PlainTurnsTurns.turns.Goals as goal

pub returns-clause-turns : goal.returns-clause-turns
returns-clause-turns g c = took_plainly g.S.Series.asks g.S.Series.hears c.args.self.now.desk.now.origin.fixed (sight_of c.args.self.now.pass) (sight_of c.turns-end.new.self) _ c.turns-end.new.series c.args.most c.turns-end.result c.turns-end.ensures.turns
