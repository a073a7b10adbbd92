use Rattle.np_cost_tests.proofs.Same.{fits-same, reached-same}
use Rattle.np_cost_tests.proofs.costs.know_rows_soundness.Goals as goal

pub returns-clause-reached : goal.returns-clause-reached
returns-clause-reached g c =
    reached-same (g.R.Rows.site c.args.rows.now) c.args.machine.now.configuration (g.R.Rows.state c.args.rows.now) c.args.machine.now.state
    c.requires.site c.requires.state c.know_soundness.ensures.reached

pub returns-clause-fits : goal.returns-clause-fits
returns-clause-fits g c =
    fits-same (g.R.Rows.site c.args.rows.now) c.args.machine.now.configuration (g.R.Rows.state c.args.rows.now) c.args.machine.now.state
    c.requires.site c.requires.state c.know_soundness.ensures.fits
