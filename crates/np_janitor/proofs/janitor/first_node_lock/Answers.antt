use Rattle.np_janitor.proofs.Nodes.{due-choose}
use Rattle.np_janitor.proofs.janitor.first_node_lock.Goals as goal

pub returns : goal.returns
returns g c =
    due-choose (g.L.Look.site c.args.look.now) (g.L.Look.state c.args.look.now) c.args.rows.now.known.pool c.args.session c.requires.current
    c.requires.reached c.requires.fits.tick c.first_that_passes.result c.first_that_passes.ensures
