use Rattle.np_look.proofs.Prelude.{RequestEntry, count_by, drop, is_pending_by, ◌+◌, ◌≡◌, ◌≤◌}
use Rattle.np_look.proofs.scan.ScanLook.pending_requests.Given as goal

abbrev pub invariant-loop-at : goal.invariant-loop-at
invariant-loop-at g l = record {
  few : l.count ≤ l.at;
  all : l.count + count_by (λ (e : RequestEntry). is_pending_by l.pool e.kept) (drop l.at (g.R.Rows.state l.self.rows.now).requests) ≡ count_by (λ (e : RequestEntry). is_pending_by l.pool e.kept) (g.R.Rows.state l.self.rows.now).requests;
}
