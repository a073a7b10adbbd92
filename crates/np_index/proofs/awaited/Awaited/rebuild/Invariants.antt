use Rattle.np_index.proofs.AmountLemmas.{AreUpTo}
use Rattle.np_index.proofs.awaited.Awaited.rebuild.Given as goal

abbrev pub invariant-loop-at : goal.invariant-loop-at
invariant-loop-at g l = AreUpTo (g.R.Rows.site l.rows) (g.R.Rows.state l.rows) l.at l.amounts.items
