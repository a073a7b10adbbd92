use Rattle.np_look.proofs.Prelude.{drop, filter, is_to_leave, slice_get, ◌≡◌}
use Rattle.np_look.proofs.scan.ScanLook.node_to_leave.Given as goal

abbrev pub invariant-loop-place : goal.invariant-loop-place
invariant-loop-place g l = slice_get (filter (is_to_leave (g.R.Rows.site l.self.rows.now) (g.R.Rows.state l.self.rows.now) l.requester l.session) (drop l.place (g.R.Rows.state l.self.rows.now).nodes)) l.left ≡ slice_get (filter (is_to_leave (g.R.Rows.site l.self.rows.now) (g.R.Rows.state l.self.rows.now) l.requester l.session) (g.R.Rows.state l.self.rows.now).nodes) l.at
