use Rattle.np_look.proofs.Prelude.{drop, is_job_to_begin, jobs_from, slice_get, ◌≡◌}
use Rattle.np_look.proofs.scan.ScanLook.job_to_begin.Given as goal

abbrev pub invariant-loop-number : goal.invariant-loop-number
invariant-loop-number g l = slice_get (jobs_from (is_job_to_begin (g.R.Rows.site l.self.rows.now) (g.R.Rows.state l.self.rows.now) l.requester) l.number (drop l.number (g.R.Rows.state l.self.rows.now).jobs)) 0 ≡ slice_get (jobs_from (is_job_to_begin (g.R.Rows.site l.self.rows.now) (g.R.Rows.state l.self.rows.now) l.requester) 0 (g.R.Rows.state l.self.rows.now).jobs) 0
