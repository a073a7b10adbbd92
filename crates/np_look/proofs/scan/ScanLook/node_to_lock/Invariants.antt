use Rattle.np_look.proofs.Prelude.{drop, find, is_to_lock, ◌≡◌}
use Rattle.np_look.proofs.scan.ScanLook.node_to_lock.Given as goal

abbrev pub invariant-loop-at : goal.invariant-loop-at
invariant-loop-at g l = find (is_to_lock (g.R.Rows.site l.self.rows.now) (g.R.Rows.state l.self.rows.now) l.requester l.session) (drop l.at (g.R.Rows.state l.self.rows.now).nodes) ≡ find (is_to_lock (g.R.Rows.site l.self.rows.now) (g.R.Rows.state l.self.rows.now) l.requester l.session) (g.R.Rows.state l.self.rows.now).nodes
