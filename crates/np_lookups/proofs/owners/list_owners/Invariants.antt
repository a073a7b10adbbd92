use Rattle.np_lookups.proofs.OwnerLemmas.{AreOwnersBelow}
use Rattle.np_lookups.proofs.owners.list_owners.Given as goal

abbrev pub invariant-loop-number : goal.invariant-loop-number
invariant-loop-number g l = AreOwnersBelow (g.R.Rows.state l.rows) l.number l.owners.items
