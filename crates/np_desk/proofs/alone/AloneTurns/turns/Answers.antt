use Rattle.np_desk.proofs.Prelude.{Sight, TookAtOnce, grown, places, subst, whole_sight}
use Rattle.np_desk.proofs.HistoryLemmas.{grown_whole, starts_same, took_later, unturned_grown}
use Rattle.np_desk.proofs.alone.AloneTurns.turns.Goals as goal

pub returns-clause-turns : goal.returns-clause-turns
returns-clause-turns g c = let old = g.M.SeqObject.history c.args.self.now.object in
    took_later g.M.SeqObject.answers g.M.SeqObject.recorded g.S.Series.asks g.S.Series.hears _ _ _ _ _ _ _ _ (unturned_grown (whole_sight old) old (starts_same old))
    (subst (λ (s : Sight g.row.M-Entry.Denot). TookAtOnce g.M.SeqObject.answers g.M.SeqObject.recorded g.S.Series.asks g.S.Series.hears (g.M.SeqObject.fixed c.args.self.now.object) (grown (places 0 old) old old) c.args.series.now c.args.most c.take_turns.result s c.take_turns.new.series) (grown_whole old (g.M.SeqObject.history c.take_turns.new.object) c.take_turns.ensures.begins) (c.take_turns.ensures.turns (places 0 old)))
