use Rattle.np_look.proofs.Prelude.{add-one, false, is_unfinished_job, sym, true, ◌∙◌, ◌≡◌}
use Rattle.np_look.proofs.Looks.{job-later, job-over}
use Rattle.np_look.proofs.scan.ScanLook.unfinished.Goals as goal

pub loop-number-preserved : goal.loop-number-preserved
loop-number-preserved g c =
    let passes : is_unfinished_job (g.R.Rows.site c.args.self.now.rows.now) c.args.requester (record { 0 = c.loop-number.number }) c.in-Some.kept ≡ true = cc in
    rw add-one (sym (job-later (is_unfinished_job (g.R.Rows.site c.args.self.now.rows.now) c.args.requester) (g.R.Rows.state c.args.self.now.rows.now).jobs c.loop-number.number c.in-Some.kept (sym c.in-Some.ensures) c.loop-number.left passes c.if-left-eq0.false) ∙ c.loop-number.invariant)

pub loop-number-preserved-then-not-is_unfinished_job : goal.loop-number-preserved-then-not-is_unfinished_job
loop-number-preserved-then-not-is_unfinished_job g c =
    let fails : is_unfinished_job (g.R.Rows.site c.args.self.now.rows.now) c.args.requester (record { 0 = c.loop-number.number }) c.in-Some.kept ≡ false = cc in
    rw add-one (sym (job-over (is_unfinished_job (g.R.Rows.site c.args.self.now.rows.now) c.args.requester) (g.R.Rows.state c.args.self.now.rows.now).jobs c.loop-number.number c.in-Some.kept (sym c.in-Some.ensures) c.loop-number.left fails) ∙ c.loop-number.invariant)
