use Rattle.np_look.proofs.Prelude.{drop, is_stuck, list_any, ◌≡◌}
use Rattle.np_look.proofs.scan.ScanLook.is_paused.Given as goal

abbrev pub invariant-loop-at : goal.invariant-loop-at
invariant-loop-at g l = list_any (is_stuck (g.R.Rows.site l.self.rows.now) (g.R.Rows.state l.self.rows.now) l.pool) (drop l.at (g.R.Rows.state l.self.rows.now).requests) ≡ list_any (is_stuck (g.R.Rows.site l.self.rows.now) (g.R.Rows.state l.self.rows.now) l.pool) (g.R.Rows.state l.self.rows.now).requests
