use Rattle.np_jobs.proofs.Prelude.{Event, Requester, passes, passes-useful, true, ◌≡◌}
use Rattle.np_jobs.proofs.step.step_to_take.Goals as goal

pub returns-then-passes-2 : goal.returns-then-passes-2
returns-then-passes-2 g c =
    let is : passes (g.L.Look.site c.args.look.now) (g.L.Look.state c.args.look.now) (Requester c.args.rows.now.requester) (Event.Acquire c.args.session c.args.job) ≡ true = cc in
    passes-useful (g.L.Look.site c.args.look.now) (g.L.Look.state c.args.look.now) (Requester c.args.rows.now.requester) (Event.Acquire c.args.session c.args.job) is c.requires.current
