use Rattle.np_jobs.proofs.Prelude.{sym}
use Rattle.np_jobs.proofs.Settles.{acquire-useful}
use Rattle.np_jobs.proofs.step.first_acquire.Goals as goal

pub returns-in-None : goal.returns-in-None
returns-in-None g c = sym c.in-None.ensures

pub returns-in-Some : goal.returns-in-Some
returns-in-Some g c =
    acquire-useful (g.L.Look.site c.args.look.now) (g.L.Look.state c.args.look.now) c.args.rows.now.requester c.args.session c.requires.current c.in-Some.job (sym c.in-Some.ensures)
