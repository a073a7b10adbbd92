use Rattle.np_look.proofs.Prelude.{IsFew, amount_of, filter, map, take, total, ◌==◌, ◌≡◌}
use Rattle.np_look.proofs.scan.ScanLook.used.Given as goal

abbrev pub invariant-loop-at : goal.invariant-loop-at
invariant-loop-at g l = record {
  sum : l.sum ≡ total (map (λ e. amount_of (g.R.Rows.site l.self.rows.now) l.pool e.kept.label) (filter (λ e. e.kept.pool.0 == l.pool.0) (take l.at (g.R.Rows.state l.self.rows.now).nodes)));
  few : IsFew l.sum l.at;
}
