use Rattle.np_index.proofs.Prelude.{option_map_or, ◌-◌}
use Rattle.np_index.proofs.Requests.{IsLeft}
use Rattle.np_index.proofs.pool.has_stuck_request.Given as goal

abbrev pub invariant-loop-next : goal.invariant-loop-next
invariant-loop-next g l = IsLeft (g.R.Rows.site l.rows) (g.R.Rows.state l.rows) l.pool l.is_pinned l.classes.requests l.next

abbrev pub decreases-loop-next : goal.decreases-loop-next
decreases-loop-next g l = option_map_or (λ label. 65536 - label.0) l.next 0
