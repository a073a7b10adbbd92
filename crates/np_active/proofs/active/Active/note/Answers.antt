use Rattle.np_active.proofs.Prelude.{JobId, List, ap, groups_of_job, groups_of_session, is_job_before, is_session_before, job_before, map, moved-by, same_job, same_session, session_before, with_all_moved, ◌∙◌}
use Rattle.np_active.proofs.Changes.{active-noted}
use Rattle.np_active.proofs.active.Active.note.Goals as goal

pub returns : goal.returns
returns g c site s ch touched reached all past same_site after was =
    active-noted site (g.R.Rows.site c.args.rows.now) s (g.R.Rows.state c.args.rows.now) ch touched c.args.past.now c.args.self.now _
    (ap (λ (x : _). x.lines) c.self.view_is)
    (moved-by is_job_before same_job (groups_of_job (g.R.Rows.site c.args.rows.now) (g.R.Rows.state c.args.rows.now) c.args.self.now.lines) job_before _ _ _ _ _ _
    (ap (λ (x : _). x.jobs) c.self.view_is) (ap (λ (x : _). x.jobs) c.past.view_is) c.as_slice-2.ensures.value
    (c.move_jobs.ensures ∙ ap (λ (lines : List JobId). with_all_moved is_job_before same_job (groups_of_job (g.R.Rows.site c.args.rows.now) (g.R.Rows.state c.args.rows.now) lines) (map job_before c.as_slice-2.result.now) c.self.inside.jobs.members) (c.as_slice.ensures.value ∙ ap (λ (x : _). x.lines) c.self.view_is)))
    (moved-by is_session_before same_session (groups_of_session (g.R.Rows.state c.args.rows.now)) session_before _ _ _ _ _ _
    (ap (λ (x : _). x.sessions) c.self.view_is) (ap (λ (x : _). x.sessions) c.past.view_is) c.as_slice-3.ensures.value c.move_sessions.ensures)
    reached all past same_site after was
