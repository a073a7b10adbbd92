use Rattle.np_look.proofs.Prelude.{RequestEntry, drop, find, is_declined_by_all, ◌≡◌}
use Rattle.np_look.proofs.scan.ScanLook.first_declined_by_all.Given as goal

abbrev pub invariant-loop-at : goal.invariant-loop-at
invariant-loop-at g l = find (λ (e : RequestEntry). is_declined_by_all (g.R.Rows.state l.self.rows.now) e.kept) (drop l.at (g.R.Rows.state l.self.rows.now).requests) ≡ find (λ (e : RequestEntry). is_declined_by_all (g.R.Rows.state l.self.rows.now) e.kept) (g.R.Rows.state l.self.rows.now).requests
