use Rattle.np_jobs.proofs.Prelude.{ChoosesToTakeOne, JobId, NoTake, Some, arith, before-end, below-jobs, below_more, is_job_to_take, job_to_take, jobs_from, none-chosen, same-there, sym, ◌≡◌}
use Rattle.np_jobs.proofs.step.first_step_to_take.Goals as goal

pub returns-in_default : goal.returns-in_default
returns-in_default g c = λ k j found.
    c.loop-at.invariant k (before-end (jobs_from (is_job_to_take (g.L.Look.site c.args.look.now) (g.L.Look.state c.args.look.now) c.args.rows.now.requester) 0 (g.L.Look.state c.args.look.now).jobs) c.loop-at.at k j (sym c.in_default.ensures) found) j found

pub loop-at-preserved : goal.loop-at-preserved
loop-at-preserved g c =
    below_more (λ k. (j : JobId) → job_to_take (g.L.Look.site c.args.look.now) c.args.rows.now.requester k (g.L.Look.state c.args.look.now) ≡ Some j → NoTake (g.L.Look.site c.args.look.now) (g.L.Look.state c.args.look.now) c.args.rows.now.requester c.args.session j) c.loop-at.at c.loop-at.invariant
    (λ j found. same-there (NoTake (g.L.Look.site c.args.look.now) (g.L.Look.state c.args.look.now) c.args.rows.now.requester c.args.session) c.in-Some.job j _ (sym c.in-Some.ensures) found
    (none-chosen (ChoosesToTakeOne (g.L.Look.site c.args.look.now) (g.L.Look.state c.args.look.now) c.args.rows.now.requester c.args.session c.in-Some.job) c.step_to_take-found.result (sym c.if-is_some.ensures) c.step_to_take-found.ensures))

pub returns : goal.returns
returns g c = λ k j found.
    c.loop-at.invariant k (omega (arith, below-jobs (is_job_to_take (g.L.Look.site c.args.look.now) (g.L.Look.state c.args.look.now) c.args.rows.now.requester) (g.L.Look.state c.args.look.now).jobs k j found, c.loop-at-test.false, rw c.rows.ensures.state at c.jobs-at-end.ensures)) j found
