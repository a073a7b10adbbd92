use Rattle.np_lists.proofs.Prelude.{drop, with_groups, ◌+◌, ◌≡◌, ◌≤◌}
use Rattle.np_lists.proofs.moves.put_all.Given as goal

abbrev pub invariant-loop-group : goal.invariant-loop-group
invariant-loop-group g l = record {
  members : with_groups g.O.Order.before g.O.Order.same l.id l.there (drop l.group-index l.places) l.groups.members ≡ with_groups g.O.Order.before g.O.Order.same l.id l.there l.places l.initial.groups.members;
  room : l.initial.groups.room ≤ l.groups.room + l.group-index;
}
