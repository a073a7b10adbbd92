use Rattle.np_active.proofs.Prelude.{drop, groups_of_job, is_job_before, job_before, map, same_job, with_all_moved, ◌+◌, ◌≡◌, ◌≤◌}
use Rattle.np_active.proofs.jobs.move_jobs.Given as goal

abbrev pub invariant-loop-past : goal.invariant-loop-past
invariant-loop-past g l = record {
  members :
      with_all_moved is_job_before same_job (groups_of_job (g.R.Rows.site l.rows) (g.R.Rows.state l.rows) l.lines) (map job_before (drop l.past-index l.moved)) l.groups.members
      ≡ with_all_moved is_job_before same_job (groups_of_job (g.R.Rows.site l.rows) (g.R.Rows.state l.rows) l.lines) (map job_before l.moved) l.initial.groups.members;
  room : l.initial.groups.room ≤ l.groups.room + l.past-index;
}
