use Rattle.np_cost_tests.proofs.Same.{fits-same, reached-same}
use Rattle.np_cost_tests.proofs.costs.know_look_soundness.Goals as goal

pub returns-clause-reached : goal.returns-clause-reached
returns-clause-reached g c =
    reached-same (g.L.Look.site c.args.look.now) c.args.machine.now.configuration (g.L.Look.state c.args.look.now) c.args.machine.now.state
    c.requires.site c.requires.state c.know_soundness.ensures.reached

pub returns-clause-fits : goal.returns-clause-fits
returns-clause-fits g c =
    fits-same (g.L.Look.site c.args.look.now) c.args.machine.now.configuration (g.L.Look.state c.args.look.now) c.args.machine.now.state
    c.requires.site c.requires.state c.know_soundness.ensures.fits
