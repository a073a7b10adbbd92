use Rattle.np_launch.proofs.Launchers.{opening-launches, launches-choose}
use Rattle.np_launch.proofs.launcher.choose_launcher.Goals as goal

pub returns-in_default : goal.returns-in_default
returns-in_default g c =
    opening-launches (g.L.Look.site c.args.look.now) (g.L.Look.state c.args.look.now) c.args.pool c.in_default.ensures c.choose_opening.result c.choose_opening.ensures

pub returns : goal.returns
returns g c =
    launches-choose (g.L.Look.site c.args.look.now) (g.L.Look.state c.args.look.now) c.args.pool c.in-Some.session c.in-Some.ensures c.first_of_any.result c.first_of_any.ensures
