use Rattle.np_look.proofs.Prelude.{RequestEntry, drop, has_request_under_way, is_under_way_by, list_any, ◌≡◌}
use Rattle.np_look.proofs.scan.ScanLook.has_request_under_way.Given as goal

abbrev pub invariant-loop-at : goal.invariant-loop-at
invariant-loop-at g l = list_any (λ (e : RequestEntry). is_under_way_by l.pool e.kept) (drop l.at (g.R.Rows.state l.self.rows.now).requests) ≡ has_request_under_way l.pool (g.R.Rows.state l.self.rows.now)
