use Rattle.np_launch.proofs.Prelude.{count_by, drop, is_served_by_sister, not, queued_requests, request_is, unserved_requests, ◌+◌, ◌≡◌, ◌≤◌}
use Rattle.np_launch.proofs.near.unserved_requests.Given as goal

abbrev pub invariant-loop-at : goal.invariant-loop-at
invariant-loop-at g l = record {
  few : l.count ≤ l.at;
  all : l.count + count_by (λ r. not (request_is r (g.L.Look.state l.look) (is_served_by_sister (g.L.Look.site l.look) l.pool))) (drop l.at (queued_requests l.session (g.L.Look.state l.look))) ≡ unserved_requests (g.L.Look.site l.look) (g.L.Look.state l.look) l.pool l.session;
}
