use Rattle.np_look.proofs.Prelude.{drop, is_spent_min_ready, list_any, ◌≡◌}
use Rattle.np_look.proofs.scan.ScanLook.has_spent_min_ready.Given as goal

abbrev pub invariant-loop-at : goal.invariant-loop-at
invariant-loop-at g l = list_any (is_spent_min_ready l.pool l.label) (drop l.at (g.R.Rows.state l.self.rows.now).requests) ≡ list_any (is_spent_min_ready l.pool l.label) (g.R.Rows.state l.self.rows.now).requests
