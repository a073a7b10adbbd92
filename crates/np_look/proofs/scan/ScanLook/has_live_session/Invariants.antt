use Rattle.np_look.proofs.Prelude.{Some, drop, is_requesters, list_any, ◌&&◌, ◌≡◌}
use Rattle.np_look.proofs.scan.ScanLook.has_live_session.Given as goal

abbrev pub invariant-loop-at : goal.invariant-loop-at
invariant-loop-at g l = list_any (λ f. f.live && is_requesters l.requester (Some f.role)) (drop l.at (g.R.Rows.state l.self.rows.now).sessions) ≡ list_any (λ f. f.live && is_requesters l.requester (Some f.role)) (g.R.Rows.state l.self.rows.now).sessions
