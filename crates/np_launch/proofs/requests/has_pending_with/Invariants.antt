use Rattle.np_launch.proofs.Prelude.{RequestEntry, drop, has_failed_node, is_listed, is_pending_by, is_to_launch, list_any, not, ◌&&◌, ◌≡◌}
use Rattle.np_launch.proofs.requests.has_pending_with.Given as goal

abbrev pub invariant-loop-at : goal.invariant-loop-at
invariant-loop-at g l =
    list_any (λ (e : RequestEntry). is_pending_by l.pool e.kept && is_listed l.node e.kept && not (has_failed_node (g.R.Rows.state l.rows) e.kept)) (drop l.at (g.R.Rows.state l.rows).requests) ≡ is_to_launch l.pool (g.R.Rows.state l.rows) l.node
