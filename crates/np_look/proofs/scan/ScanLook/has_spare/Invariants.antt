use Rattle.np_look.proofs.Prelude.{drop, is_spare, list_any, ◌≡◌}
use Rattle.np_look.proofs.scan.ScanLook.has_spare.Given as goal

abbrev pub invariant-loop-at : goal.invariant-loop-at
invariant-loop-at g l = list_any (is_spare l.pool l.label) (drop l.at (g.R.Rows.state l.self.rows.now).nodes) ≡ list_any (is_spare l.pool l.label) (g.R.Rows.state l.self.rows.now).nodes
