use Rattle.np_look.proofs.Prelude.{IsFew, amount_of_node, filter, is_pending_of, is_tenant, map, rest_of_request, take, total, ◌*◌, ◌≡◌}
use Rattle.np_look.proofs.scan.ScanLook.used_by.Given as goal

abbrev pub invariant-loop-at : goal.invariant-loop-at
invariant-loop-at g l = record {
  sum : l.of_nodes ≡ total (map (amount_of_node (g.R.Rows.site l.self.rows.now)) (filter (λ e. is_tenant l.tenant e.kept.tenant) (take l.at (g.R.Rows.state l.self.rows.now).nodes)));
  few : IsFew l.of_nodes l.at;
}

abbrev pub invariant-loop-at-2 : goal.invariant-loop-at-2
invariant-loop-at-2 g l = record {
  sum : l.of_requests ≡ total (map (rest_of_request (g.R.Rows.site l.self.rows.now)) (filter (is_pending_of (g.R.Rows.site l.self.rows.now) l.tenant) (take l.at (g.R.Rows.state l.self.rows.now).requests)));
  few : IsFew l.of_requests (l.at * 32);
}
