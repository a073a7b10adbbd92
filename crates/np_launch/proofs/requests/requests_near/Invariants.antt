use Rattle.np_launch.proofs.Prelude.{count_by, is_near_below, length, ◌-◌, ◌≡◌, ◌≤◌}
use Rattle.np_launch.proofs.requests.requests_near.Given as goal

abbrev pub invariant-loop-count : goal.invariant-loop-count
invariant-loop-count g l = record {
  within : l.at ≤ length (g.L.Look.site l.look).pools;
  all : l.count ≡ count_by (is_near_below (g.L.Look.site l.look) (g.L.Look.state l.look) l.pool l.at) (g.L.Look.state l.look).requests;
}

abbrev pub decreases-loop-count : goal.decreases-loop-count
decreases-loop-count g l = length (g.L.Look.site l.look).pools - l.at
