use Rattle.np_janitor.proofs.Prelude.{Event, Janitor, JobId, Some, arith, before-end, below-jobs, below_more, false, is_job_to_finish, job_to_finish, jobs_from, passes, same-there, sym, ◌≡◌}
use Rattle.np_janitor.proofs.Janitors.{none-finished}
use Rattle.np_janitor.proofs.janitor.finish_for.Goals as goal

pub returns-in_default : goal.returns-in_default
returns-in_default g c =
    none-finished (g.L.Look.site c.args.look.now) (g.L.Look.state c.args.look.now) c.args.rows.now.known.pool c.args.session c.requires.current c.args.requester
    (λ k j found. c.loop-at.invariant k (before-end (jobs_from (is_job_to_finish (g.L.Look.site c.args.look.now) (g.L.Look.state c.args.look.now) c.args.requester) 0 (g.L.Look.state c.args.look.now).jobs) c.loop-at.at k j (sym c.in_default.ensures) found) j found)

pub loop-at-preserved : goal.loop-at-preserved
loop-at-preserved g c =
    below_more (λ k. (j : JobId) → job_to_finish (g.L.Look.site c.args.look.now) c.args.requester k (g.L.Look.state c.args.look.now) ≡ Some j → passes (g.L.Look.site c.args.look.now) (g.L.Look.state c.args.look.now) (Janitor c.args.rows.now.known.pool) (Event.Finish c.args.session j) ≡ false) c.loop-at.at c.loop-at.invariant
    (λ j found. same-there (λ (x : JobId). passes (g.L.Look.site c.args.look.now) (g.L.Look.state c.args.look.now) (Janitor c.args.rows.now.known.pool) (Event.Finish c.args.session x) ≡ false) c.in-Some.job j _ (sym c.in-Some.ensures) found (sym c.if-passes.ensures))

pub returns : goal.returns
returns g c =
    none-finished (g.L.Look.site c.args.look.now) (g.L.Look.state c.args.look.now) c.args.rows.now.known.pool c.args.session c.requires.current c.args.requester
    (λ k j found. c.loop-at.invariant k (omega (arith, below-jobs (is_job_to_finish (g.L.Look.site c.args.look.now) (g.L.Look.state c.args.look.now) c.args.requester) (g.L.Look.state c.args.look.now).jobs k j found, c.loop-at-test.false, rw c.rows-2.ensures.state at c.jobs-at-end.ensures)) j found)
