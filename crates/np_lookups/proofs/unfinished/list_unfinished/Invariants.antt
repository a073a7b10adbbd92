use Rattle.np_lookups.proofs.LookupLemmas.{IsMadeTo}
use Rattle.np_lookups.proofs.unfinished.list_unfinished.Given as goal

abbrev pub invariant-loop-number : goal.invariant-loop-number
invariant-loop-number g l = IsMadeTo (g.R.Rows.site l.rows) (g.R.Rows.state l.rows) l.number l.lists.items
