use Rattle.np_classes.proofs.Prelude.{drop, groups_of_request, is_id_before, map, request_before, same_request, with_all_moved, ◌*◌, ◌+◌, ◌≡◌, ◌≤◌}
use Rattle.np_classes.proofs.members.move_requests.Given as goal

abbrev pub invariant-loop-past : goal.invariant-loop-past
invariant-loop-past g l = record {
  members :
      with_all_moved is_id_before same_request (groups_of_request (g.R.Rows.state l.rows)) (map request_before (drop l.past-index l.moved)) l.groups.members
      ≡ with_all_moved is_id_before same_request (groups_of_request (g.R.Rows.state l.rows)) (map request_before l.moved) l.initial.groups.members;
  room : l.initial.groups.room ≤ l.groups.room + 7 * l.past-index;
}
