use Rattle.np_launch.proofs.Launchers.{computed-chooses}
use Rattle.np_launch.proofs.launcher.first_of_computed.Goals as goal

pub returns : goal.returns
returns g c =
    computed-chooses (g.L.Look.site c.args.look.now) (g.L.Look.state c.args.look.now) c.requires.reached c.args.rows.now.pool c.args.session c.requires.current c.args.kind c.first_that_passes.result c.first_that_passes.ensures
