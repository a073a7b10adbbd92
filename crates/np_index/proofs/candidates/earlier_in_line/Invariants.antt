use Rattle.np_index.proofs.Prelude.{◌-◌}
use Rattle.np_index.proofs.Firsts.{IsWalked}
use Rattle.np_index.proofs.candidates.earlier_in_line.Given as goal

abbrev pub invariant-loop-place : goal.invariant-loop-place
invariant-loop-place g l = IsWalked (g.R.Rows.site l.rows) (g.R.Rows.state l.rows) l.pool l.requested.members l.line l.fn.after l.place

abbrev pub decreases-loop-place : goal.decreases-loop-place
decreases-loop-place g l = l.end - l.place
