use Rattle.np_active.proofs.Prelude.{JobId, arith, below-next, below-none, groups_of_job, is_job_before, jobs-in_order, length, refl, same_job, subst, sym, ◌≤◌}
use Rattle.np_active.proofs.Changes.{AreJobsBelow, jobs-all}
use Rattle.np_active.proofs.jobs.all_jobs.Goals as goal

pub loop-number-init : goal.loop-number-init
loop-number-init g c =
    subst (AreJobsBelow (g.R.Rows.site c.args.rows.now) (g.R.Rows.state c.args.rows.now) c.args.lines.now 0) (sym c.new-groups.ensures)
    (below-none is_job_before same_job jobs-in_order (λ (j : JobId). j.0) (λ i j out. out) (groups_of_job (g.R.Rows.site c.args.rows.now) (g.R.Rows.state c.args.rows.now) c.args.lines.now))

pub loop-number-preserved : goal.loop-number-preserved
loop-number-preserved g c =
    below-next is_job_before same_job jobs-in_order (λ (j : JobId). j.0) (λ i j out. out) (groups_of_job (g.R.Rows.site c.args.rows.now) (g.R.Rows.state c.args.rows.now) c.args.lines.now)
    c.loop-number.number (record { 0 = c.loop-number.number }) c.loop-number.groups.members _ refl c.loop-number.invariant c.in_ok-add_job.ensures

pub returns : goal.returns
returns g c =
    let all : length (g.R.Rows.state c.args.rows.now).jobs ≤ c.loop-number.number = omega (arith, c.jobs-number-end.ensures, c.loop-number-test.false) in
    jobs-all (g.R.Rows.site c.args.rows.now) (g.R.Rows.state c.args.rows.now) c.args.lines.now c.loop-number.number c.loop-number.groups.members all c.loop-number.invariant
