use Rattle.np_useful.proofs.Prelude.{Event, JobId, Some, arith, below_more, false, is_job_to_release, job_to_release, jobs_from, passes, sym, ◌≡◌}
use Rattle.np_useful.proofs.Useful.{before-end, below-jobs, none-released, same-there}
use Rattle.np_useful.proofs.release.first_release.Goals as goal

pub returns-in_default : goal.returns-in_default
returns-in_default g c =
    none-released (g.L.Look.site c.args.look.now) (g.L.Look.state c.args.look.now) (g.R.RoleRows.role c.args.rows.now) c.args.session c.requires.current c.args.requester
    (λ k j found. c.loop-at.invariant k (before-end (jobs_from (is_job_to_release (g.L.Look.site c.args.look.now) (g.L.Look.state c.args.look.now) c.args.requester) 0 (g.L.Look.state c.args.look.now).jobs) c.loop-at.at k j (sym c.in_default.ensures) found) j found)

pub loop-at-preserved : goal.loop-at-preserved
loop-at-preserved g c =
    below_more (λ k. (j : JobId) → job_to_release (g.L.Look.site c.args.look.now) c.args.requester k (g.L.Look.state c.args.look.now) ≡ Some j → passes (g.L.Look.site c.args.look.now) (g.L.Look.state c.args.look.now) (g.R.RoleRows.role c.args.rows.now) (Event.Release c.args.session j) ≡ false) c.loop-at.at c.loop-at.invariant
    (λ j found. same-there (λ (x : JobId). passes (g.L.Look.site c.args.look.now) (g.L.Look.state c.args.look.now) (g.R.RoleRows.role c.args.rows.now) (Event.Release c.args.session x) ≡ false) c.in-Some.job j _ (sym c.in-Some.ensures) found (sym c.if-passes.ensures))

pub returns : goal.returns
returns g c =
    none-released (g.L.Look.site c.args.look.now) (g.L.Look.state c.args.look.now) (g.R.RoleRows.role c.args.rows.now) c.args.session c.requires.current c.args.requester
    (λ k j found. c.loop-at.invariant k (omega (arith, below-jobs (is_job_to_release (g.L.Look.site c.args.look.now) (g.L.Look.state c.args.look.now) c.args.requester) (g.L.Look.state c.args.look.now).jobs k j found, c.loop-at-test.false, rw c.rows.ensures.state at c.jobs-at-end.ensures)) j found)
