use Rattle.np_look.proofs.Prelude.{false, get_or, is_marked, new_job, ℕ, ◌<◌, ◌≡◌}
use Rattle.np_look.proofs.scan.ScanLook.owner.Given as goal

abbrev pub invariant-loop-at : goal.invariant-loop-at
invariant-loop-at g l = (k : ℕ) → k < l.at → is_marked l.node (get_or (g.R.Rows.state l.self.rows.now).jobs k new_job) ≡ false
