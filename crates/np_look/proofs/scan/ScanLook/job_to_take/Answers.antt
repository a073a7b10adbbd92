use Rattle.np_look.proofs.Prelude.{add-one, false, is_job_to_take, sym, true, ◌∙◌, ◌≡◌}
use Rattle.np_look.proofs.Looks.{job-later, job-over}
use Rattle.np_look.proofs.scan.ScanLook.job_to_take.Goals as goal

pub loop-number-preserved : goal.loop-number-preserved
loop-number-preserved g c =
    let passes : is_job_to_take (g.R.Rows.site c.args.self.now.rows.now) (g.R.Rows.state c.args.self.now.rows.now) c.args.requester (record { 0 = c.loop-number.number }) c.in-Some.kept ≡ true = cc in
    rw add-one (sym (job-later (is_job_to_take (g.R.Rows.site c.args.self.now.rows.now) (g.R.Rows.state c.args.self.now.rows.now) c.args.requester) (g.R.Rows.state c.args.self.now.rows.now).jobs c.loop-number.number c.in-Some.kept (sym c.in-Some.ensures) c.loop-number.left passes c.if-left-eq0.false) ∙ c.loop-number.invariant)

pub loop-number-preserved-then-not-is_job_to_take : goal.loop-number-preserved-then-not-is_job_to_take
loop-number-preserved-then-not-is_job_to_take g c =
    let fails : is_job_to_take (g.R.Rows.site c.args.self.now.rows.now) (g.R.Rows.state c.args.self.now.rows.now) c.args.requester (record { 0 = c.loop-number.number }) c.in-Some.kept ≡ false = cc in
    rw add-one (sym (job-over (is_job_to_take (g.R.Rows.site c.args.self.now.rows.now) (g.R.Rows.state c.args.self.now.rows.now) c.args.requester) (g.R.Rows.state c.args.self.now.rows.now).jobs c.loop-number.number c.in-Some.kept (sym c.in-Some.ensures) c.loop-number.left fails) ∙ c.loop-number.invariant)
