use Rattle.np_look.proofs.Prelude.{drop, filter, is_spare, slice_get, ◌≡◌}
use Rattle.np_look.proofs.scan.ScanLook.free_ready.Given as goal

abbrev pub invariant-loop-place : goal.invariant-loop-place
invariant-loop-place g l = slice_get (filter (is_spare l.pool l.label) (drop l.place (g.R.Rows.state l.self.rows.now).nodes)) l.left ≡ slice_get (filter (is_spare l.pool l.label) (g.R.Rows.state l.self.rows.now).nodes) l.at
