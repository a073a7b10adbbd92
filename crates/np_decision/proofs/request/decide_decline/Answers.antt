use Rattle.np_decision.proofs.Prelude.{err_from_is_err_and, sym}
use Rattle.np_decision.proofs.Reasons.{decline-state}
use Rattle.np_decision.proofs.request.decide_decline.Goals as goal

pub returns-in_err-in_state_for-clause-answer : goal.returns-in_err-in_state_for-clause-answer
returns-in_err-in_state_for-clause-answer g c =
    let out = err_from_is_err_and c.from_residual-in_err-in_state_for.result c.from_residual-in_err-in_state_for.ensures.1 in
    rw (out.1, out.2) (sym (decline-state (g.R.Rows.site c.args.rows.now) (g.R.Rows.state c.args.rows.now) c.args.session c.args.request c.args.reason c.in_ok-pool.pool c.in_ok-asked.asked _ c.in_ok-pool.ensures c.in_ok-asked.ensures c.in_ok-by_registrant.ensures c.in_ok-by_request_holder.ensures c.in_err-in_state_for.ensures))
