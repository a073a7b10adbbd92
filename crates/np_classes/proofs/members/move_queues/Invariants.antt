use Rattle.np_classes.proofs.Prelude.{drop, is_id_before, map, queue_before, same_request, unheld_groups, with_all_moved, ◌+◌, ◌≡◌, ◌≤◌}
use Rattle.np_classes.proofs.members.move_queues.Given as goal

abbrev pub invariant-loop-past : goal.invariant-loop-past
invariant-loop-past g l = record {
  members :
      with_all_moved is_id_before same_request (unheld_groups (g.R.Rows.state l.rows)) (map queue_before (drop l.past-index l.moved)) l.groups.members
      ≡ with_all_moved is_id_before same_request (unheld_groups (g.R.Rows.state l.rows)) (map queue_before l.moved) l.initial.groups.members;
  room : l.initial.groups.room ≤ l.groups.room + l.past-index;
}
