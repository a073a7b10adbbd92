use Rattle.np_decision.proofs.Prelude.{Some, arith, found-is, slice_get, ◌≡◌}
use Rattle.np_decision.proofs.semaphore.decide_take.Goals as goal

pub none_missing-requires-2 : goal.none_missing-requires-2
none_missing-requires-2 g c =
    let row : slice_get (g.R.Rows.site c.args.rows.now).jobs c.args.job.0 ≡ Some c.in_ok-row.row.now = found-is _ _ _ c.in_ok-row.ensures in
    omega (arith, (c.requires.job_rows c.args.job c.in_ok-row.row.now row).semaphores)
