use Rattle.np_active.proofs.Prelude.{drop, groups_of_session, is_session_before, map, same_session, session_before, with_all_moved, ◌*◌, ◌+◌, ◌≡◌, ◌≤◌}
use Rattle.np_active.proofs.sessions.move_sessions.Given as goal

abbrev pub invariant-loop-past : goal.invariant-loop-past
invariant-loop-past g l = record {
  members :
      with_all_moved is_session_before same_session (groups_of_session (g.R.Rows.state l.rows)) (map session_before (drop l.past-index l.moved)) l.groups.members
      ≡ with_all_moved is_session_before same_session (groups_of_session (g.R.Rows.state l.rows)) (map session_before l.moved) l.initial.groups.members;
  room : l.initial.groups.room ≤ l.groups.room + 2 * l.past-index;
}
