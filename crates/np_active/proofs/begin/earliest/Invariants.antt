use Rattle.np_active.proofs.Prelude.{IsBest, Rises, is_job_before, is_member_before}
use Rattle.np_active.proofs.Searches.{lines_left}
use Rattle.np_active.proofs.begin.earliest.Given as goal

abbrev pub invariant-loop-next : goal.invariant-loop-next
invariant-loop-next g l = Rises (is_member_before is_job_before) l.jobs.members → IsBest (g.R.Rows.site l.rows) (g.R.Rows.state l.rows) l.jobs.members l.lines l.fn.old l.next l.best

abbrev pub decreases-loop-next : goal.decreases-loop-next
decreases-loop-next g l = lines_left l.next
