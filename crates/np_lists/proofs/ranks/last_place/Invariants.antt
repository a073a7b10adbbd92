use Rattle.np_lists.proofs.Prelude.{AreRanked, length, outside, take, ◌-◌, ◌<◌, ◌≤◌}
use Rattle.np_lists.proofs.ranks.last_place.Given as goal

abbrev pub invariant-loop-high : goal.invariant-loop-high
invariant-loop-high g l = record {
  order : l.low ≤ l.high;
  within : l.high ≤ length (g.I.Ids.ids l.ids);
  some : l.low < length (g.I.Ids.ids l.ids) → l.low < l.high;
  most :
      AreRanked g.O.Order.before g.O.Order.same l.inner l.groups.members (g.I.Ids.ids l.ids)
      → length (outside g.O.Order.same l.inner l.groups.members (take l.low (g.I.Ids.ids l.ids))) ≤ l.at;
  last :
      AreRanked g.O.Order.before g.O.Order.same l.inner l.groups.members (g.I.Ids.ids l.ids)
      → l.high < length (g.I.Ids.ids l.ids)
      → l.at < length (outside g.O.Order.same l.inner l.groups.members (take l.high (g.I.Ids.ids l.ids)));
}

abbrev pub decreases-loop-high : goal.decreases-loop-high
decreases-loop-high g l = l.high - l.low
