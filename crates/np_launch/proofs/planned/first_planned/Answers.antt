use Rattle.np_launch.proofs.Launchers.{planned-chooses}
use Rattle.np_launch.proofs.planned.first_planned.Goals as goal

pub returns : goal.returns
returns g c =
    planned-chooses (g.L.Look.site c.args.look.now) (g.L.Look.state c.args.look.now) c.requires.reached c.args.rows.now.pool c.args.session c.requires.current c.args.kind c.first_that_passes.result c.first_that_passes.ensures
