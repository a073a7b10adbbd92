use Rattle.np_desk.proofs.Prelude.{List, StartsWith, grown, true, ℕ, ◌≡◌}
use Rattle.np_desk.proofs.HistoryLemmas.{WentAtOnce}
use Rattle.np_desk.proofs.row.take_turns.Given as goal

abbrev pub invariant-loop-turn : goal.invariant-loop-turn
invariant-loop-turn g l = record {
  fixed : g.M.SeqObject.fixed l.object ≡ g.M.SeqObject.fixed l.fn.object;
  legal : g.M.SeqObject.legal (g.M.SeqObject.fixed l.fn.object) (g.M.SeqObject.history l.object) ≡ true;
  begins : StartsWith (g.M.SeqObject.history l.object) (g.M.SeqObject.history l.fn.object);
  went : (mine : List ℕ) → WentAtOnce g.M.SeqObject.answers g.M.SeqObject.recorded g.S.Series.asks g.S.Series.hears (g.M.SeqObject.fixed l.fn.object) (grown mine (g.M.SeqObject.history l.fn.object) (g.M.SeqObject.history l.fn.object)) l.fn.series l._turn (grown mine (g.M.SeqObject.history l.fn.object) (g.M.SeqObject.history l.object)) l.series;
}
