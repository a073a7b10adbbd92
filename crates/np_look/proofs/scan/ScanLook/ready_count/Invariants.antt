use Rattle.np_look.proofs.Prelude.{count_by, drop, is_coming, is_free_ready, ready_count, ◌+◌, ◌≡◌, ◌≤◌}
use Rattle.np_look.proofs.scan.ScanLook.ready_count.Given as goal

abbrev pub invariant-loop-at : goal.invariant-loop-at
invariant-loop-at g l = record {
  few : l.count ≤ l.at;
  all : l.count + count_by (is_free_ready l.label) (drop l.at (g.R.Rows.state l.self.rows.now).nodes) ≡ count_by (is_free_ready l.label) (g.R.Rows.state l.self.rows.now).nodes;
}

abbrev pub invariant-loop-at-2 : goal.invariant-loop-at-2
invariant-loop-at-2 g l = record {
  few : l.count ≤ 262144 + l.at;
  all : l.count + count_by (is_coming l.label) (drop l.at (g.R.Rows.state l.self.rows.now).requests) ≡ ready_count l.label (g.R.Rows.state l.self.rows.now);
}
