use Rattle.np_index.proofs.Nodes.{IsSoFar, groups_left}
use Rattle.np_index.proofs.tenant.taken.Given as goal

abbrev pub invariant-loop-next : goal.invariant-loop-next
invariant-loop-next g l = IsSoFar (g.R.Rows.site l.rows) (g.R.Rows.state l.rows) l.fn.tenant l.next l.sum

abbrev pub decreases-loop-next : goal.decreases-loop-next
decreases-loop-next g l = groups_left l.next
