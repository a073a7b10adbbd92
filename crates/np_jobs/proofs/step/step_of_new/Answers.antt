use Rattle.np_jobs.proofs.Prelude.{Event, Requester, passes, passes-useful, true, ◌≡◌}
use Rattle.np_jobs.proofs.step.step_of_new.Goals as goal

pub returns-then-passes : goal.returns-then-passes
returns-then-passes g c =
    let is : passes (g.L.Look.site c.args.look.now) (g.L.Look.state c.args.look.now) (Requester c.args.rows.now.requester) (Event.Acquire c.args.session c.args.job) ≡ true = cc in
    passes-useful (g.L.Look.site c.args.look.now) (g.L.Look.state c.args.look.now) (Requester c.args.rows.now.requester) (Event.Acquire c.args.session c.args.job) is c.requires.current
