use Rattle.np_decision.proofs.Prelude.{Some, arith, found-is, slice_get, ◌≡◌}
use Rattle.np_decision.proofs.request.decide_submit.Goals as goal

pub overflow_cast-result : goal.overflow_cast-result
overflow_cast-result g c =
    let row : slice_get (g.R.Rows.site c.args.rows.now).jobs c.args.job.0 ≡ Some c.in_ok-row.row.now = found-is _ _ _ c.in_ok-row.ensures in
    omega (arith, (c.requires.job_rows c.args.job c.in_ok-row.row.now row).semaphores)
