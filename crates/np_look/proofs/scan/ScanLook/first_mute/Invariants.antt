use Rattle.np_look.proofs.Prelude.{drop, first_mute, mute_from, suc, ◌≡◌}
use Rattle.np_look.proofs.scan.ScanLook.first_mute.Given as goal

abbrev pub invariant-loop-at : goal.invariant-loop-at
invariant-loop-at g l = mute_from (suc l.at) (drop l.at (g.R.Rows.state l.self.rows.now).sessions) ≡ first_mute (g.R.Rows.state l.self.rows.now)
