use Rattle.np_look.proofs.Prelude.{add-one, false, is_job_to_acquire, sym, ◌∙◌, ◌≡◌}
use Rattle.np_look.proofs.Looks.{job-over}
use Rattle.np_look.proofs.scan.ScanLook.job_to_acquire.Goals as goal

pub loop-number-preserved : goal.loop-number-preserved
loop-number-preserved g c =
    let fails : is_job_to_acquire (g.R.Rows.site c.args.self.now.rows.now) (g.R.Rows.state c.args.self.now.rows.now) c.args.requester (record { 0 = c.loop-number.number }) c.in_ok-kept.kept ≡ false = cc in
    rw add-one (sym (job-over (is_job_to_acquire (g.R.Rows.site c.args.self.now.rows.now) (g.R.Rows.state c.args.self.now.rows.now) c.args.requester) (g.R.Rows.state c.args.self.now.rows.now).jobs c.loop-number.number c.in_ok-kept.kept (sym c.in_ok-kept.ensures) 0 fails) ∙ c.loop-number.invariant)
