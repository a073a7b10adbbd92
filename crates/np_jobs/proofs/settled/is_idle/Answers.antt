use Rattle.np_jobs.proofs.Settles.{none-idle}
use Rattle.np_jobs.proofs.settled.is_idle.Goals as goal

pub returns : goal.returns
returns g c =
    none-idle (g.L.Look.site c.args.look.now) (g.L.Look.state c.args.look.now) c.args.role c.choose.result c.is_none.result c.choose.ensures c.is_none.ensures
