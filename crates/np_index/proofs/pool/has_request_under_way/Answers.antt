use Rattle.np_index.proofs.Prelude.{RequestEntry, is_under_way_by}
use Rattle.np_index.proofs.Requests.{either-first, either-second}
use Rattle.np_index.proofs.pool.has_request_under_way.Goals as goal

pub returns-then-has_under_way : goal.returns-then-has_under_way
returns-then-has_under_way c site state are =
    either-first (λ (e : RequestEntry). is_under_way_by c.args.pool e.kept) state.requests
    c.has_under_way.result (c.has_under_way.ensures site state are) c.if-has_under_way.true

pub returns-else-has_under_way : goal.returns-else-has_under_way
returns-else-has_under_way c site state are =
    either-second (λ (e : RequestEntry). is_under_way_by c.args.pool e.kept) state.requests
    c.has_under_way.result c.has_under_way-else-has_under_way.result
    (c.has_under_way.ensures site state are) c.if-has_under_way.false (c.has_under_way-else-has_under_way.ensures site state are)
