use Rattle.np_look.proofs.Prelude.{drop, find, is_unheld_pending, ◌≡◌}
use Rattle.np_look.proofs.scan.ScanLook.first_unheld_pending.Given as goal

abbrev pub invariant-loop-at : goal.invariant-loop-at
invariant-loop-at g l = find (is_unheld_pending l.pool) (drop l.at (g.R.Rows.state l.self.rows.now).requests) ≡ find (is_unheld_pending l.pool) (g.R.Rows.state l.self.rows.now).requests
