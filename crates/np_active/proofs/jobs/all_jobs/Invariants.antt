use Rattle.np_active.proofs.Changes.{AreJobsBelow}
use Rattle.np_active.proofs.jobs.all_jobs.Given as goal

abbrev pub invariant-loop-number : goal.invariant-loop-number
invariant-loop-number g l = AreJobsBelow (g.R.Rows.site l.rows) (g.R.Rows.state l.rows) l.lines l.number l.groups.members
