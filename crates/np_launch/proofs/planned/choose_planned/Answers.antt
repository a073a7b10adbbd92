use Rattle.np_launch.proofs.Launchers.{none-without, plans-choose}
use Rattle.np_launch.proofs.planned.choose_planned.Goals as goal

pub returns-in_default : goal.returns-in_default
returns-in_default g c = none-without (g.L.Look.site c.args.look.now) (g.L.Look.state c.args.look.now) c.args.pool c.in_default.ensures

pub returns : goal.returns
returns g c =
    plans-choose (g.L.Look.site c.args.look.now) (g.L.Look.state c.args.look.now) c.args.pool c.first_planned_of_any.result c.first_planned_of_any.ensures
