use Rattle.np_useful.proofs.Useful.{first-chooses}
use Rattle.np_useful.proofs.of_kind.first_of_kind.Goals as goal

pub returns : goal.returns
returns g c =
    first-chooses (g.L.Look.site c.args.look.now) (g.L.Look.state c.args.look.now) (g.R.RoleRows.role c.args.rows.now) c.args.session c.requires.current c.args.kind c.first_that_passes.result c.first_that_passes.ensures
