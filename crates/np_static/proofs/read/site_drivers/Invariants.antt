use Rattle.np_static.proofs.Prelude.{HOSTS, drop, length, map, site_of, sites_from, ◌-◌, ◌≡◌, ◌≤◌}
use Rattle.np_static.proofs.Sites.{sites_before}
use Rattle.np_static.proofs.read.site_drivers.Given as goal

abbrev pub invariant-loop-row : goal.invariant-loop-row
invariant-loop-row l = record {
  few : length l.drivers.items ≤ length l.config.pools;
  small : length l.config.pools ≤ 64;
  room : length l.lines ≤ HOSTS;
  said : sites_before (map site_of l.drivers.items) (sites_from l.config l.lines (length l.drivers.items) (drop (length l.drivers.items) l.config.pools)) ≡ sites_from l.config l.lines 0 l.config.pools;
}

abbrev pub decreases-loop-row : goal.decreases-loop-row
decreases-loop-row l = length l.config.pools - length l.drivers.items
