use Rattle.np_jobs.proofs.Prelude.{ChoosesToFinish, Event, JobId, Requester, Some, arith, before-end, below-jobs, below_more, false, is_job_to_finish, job_to_finish, jobs_from, none-chosen, passes, same-there, sym, ◌≡◌}
use Rattle.np_jobs.proofs.Settles.{finishes-none}
use Rattle.np_jobs.proofs.step.first_step_to_finish.Goals as goal

pub returns-in_default : goal.returns-in_default
returns-in_default g c =
    finishes-none (g.L.Look.site c.args.look.now) (g.L.Look.state c.args.look.now) c.args.rows.now.requester c.args.session c.requires.current
    (λ k j found. c.loop-at.invariant k (before-end (jobs_from (is_job_to_finish (g.L.Look.site c.args.look.now) (g.L.Look.state c.args.look.now) c.args.rows.now.requester) 0 (g.L.Look.state c.args.look.now).jobs) c.loop-at.at k j (sym c.in_default.ensures) found) j found)

pub loop-at-preserved : goal.loop-at-preserved
loop-at-preserved g c =
    below_more (λ k. (j : JobId) → job_to_finish (g.L.Look.site c.args.look.now) c.args.rows.now.requester k (g.L.Look.state c.args.look.now) ≡ Some j → passes (g.L.Look.site c.args.look.now) (g.L.Look.state c.args.look.now) (Requester c.args.rows.now.requester) (Event.Finish c.args.session j) ≡ false) c.loop-at.at c.loop-at.invariant
    (λ j found. same-there (λ (x : JobId). passes (g.L.Look.site c.args.look.now) (g.L.Look.state c.args.look.now) (Requester c.args.rows.now.requester) (Event.Finish c.args.session x) ≡ false) c.in-Some.job j _ (sym c.in-Some.ensures) found
    (none-chosen (ChoosesToFinish (g.L.Look.site c.args.look.now) (g.L.Look.state c.args.look.now) c.args.rows.now.requester c.args.session c.in-Some.job) c.step_to_finish-found.result (sym c.if-is_some.ensures) c.step_to_finish-found.ensures))

pub returns : goal.returns
returns g c =
    finishes-none (g.L.Look.site c.args.look.now) (g.L.Look.state c.args.look.now) c.args.rows.now.requester c.args.session c.requires.current
    (λ k j found. c.loop-at.invariant k (omega (arith, below-jobs (is_job_to_finish (g.L.Look.site c.args.look.now) (g.L.Look.state c.args.look.now) c.args.rows.now.requester) (g.L.Look.state c.args.look.now).jobs k j found, c.loop-at-test.false, rw c.rows.ensures.state at c.jobs-at-end.ensures)) j found)
