use Rattle.np_desk.proofs.HistoryLemmas.{took-loosely}
use Rattle.np_desk.proofs.on_desk.OnDeskTurns.turns.Goals as goal

pub returns-clause-turns : goal.returns-clause-turns
returns-clause-turns g c = took-loosely g.M.SeqObject.answers g.M.SeqObject.recorded g.S.Series.asks g.S.Series.hears _ _ _ _ _ _ _ c.turns.ensures.turns
