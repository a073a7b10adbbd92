use Rattle.np_lists.proofs.Prelude.{drop, without_groups, ◌≡◌, ◌≤◌}
use Rattle.np_lists.proofs.moves.take_all.Given as goal

abbrev pub invariant-loop-group : goal.invariant-loop-group
invariant-loop-group g l = record {
  members : without_groups g.O.Order.same l.id l.staying (drop l.group-index l.places) l.groups.members ≡ without_groups g.O.Order.same l.id l.staying l.places l.initial.groups.members;
  room : l.initial.groups.room ≤ l.groups.room;
}
