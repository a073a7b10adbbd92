use Rattle.np_steps.proofs.Prelude.{Ok, append-nil, false, sym, true}
use Rattle.np_steps.proofs.RecordRows.{released-by}
use Rattle.np_steps.proofs.records.push_release.Goals as goal

pub returns-then-has_handle : goal.returns-then-has_handle
returns-then-has_handle g c =
    let s = g.R.Rows.state c.args.rows.now in
    released-by c.args.job c.args.semaphore s.handles true _ _ _ c.if-has_handle.ensures c.push_delete.ensures

pub returns-else-has_handle : goal.returns-else-has_handle
returns-else-has_handle g c =
    let s = g.R.Rows.state c.args.rows.now in
    released-by c.args.job c.args.semaphore s.handles false (Ok tt) _ _ c.if-has_handle.ensures (sym (append-nil _))
