use Rattle.np_index.proofs.Prelude.{is_stuck}
use Rattle.np_index.proofs.Requests.{either-first, either-second}
use Rattle.np_index.proofs.pool.is_paused.Goals as goal

pub returns-then-has_stuck_request : goal.returns-then-has_stuck_request
returns-then-has_stuck_request g c =
    either-first (is_stuck (g.R.Rows.site c.args.rows.now) (g.R.Rows.state c.args.rows.now) c.args.pool) (g.R.Rows.state c.args.rows.now).requests
    c.has_stuck_request.result c.has_stuck_request.ensures c.if-has_stuck_request.true

pub returns-else-has_stuck_request : goal.returns-else-has_stuck_request
returns-else-has_stuck_request g c =
    either-second (is_stuck (g.R.Rows.site c.args.rows.now) (g.R.Rows.state c.args.rows.now) c.args.pool) (g.R.Rows.state c.args.rows.now).requests
    c.has_stuck_request.result c.has_stuck_request-else-has_stuck_request.result
    c.has_stuck_request.ensures c.if-has_stuck_request.false c.has_stuck_request-else-has_stuck_request.ensures
