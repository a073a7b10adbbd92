use Rattle.np_look.proofs.Prelude.{None, drop, length, speaker_from, suc, ◌≡◌, ◌≤◌}
use Rattle.np_look.proofs.scan.ScanLook.current_session.Given as goal

abbrev pub invariant-loop-left : goal.invariant-loop-left
invariant-loop-left g l = record {
  within : l.left ≤ length (g.R.Rows.state l.self.rows.now).sessions;
  none : speaker_from l.role (suc l.left) (drop l.left (g.R.Rows.state l.self.rows.now).sessions) ≡ None;
}

abbrev pub decreases-loop-left : goal.decreases-loop-left
decreases-loop-left g l = l.left
