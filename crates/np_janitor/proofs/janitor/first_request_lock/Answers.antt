use Rattle.np_janitor.proofs.Prelude.{None, Some, passes-useful, refl, sym}
use Rattle.np_janitor.proofs.Janitors.{unheld-refused}
use Rattle.np_janitor.proofs.janitor.first_request_lock.Goals as goal

pub returns-in_err-request : goal.returns-in_err-request
returns-in_err-request g c =
    rw c.from_residual.ensures (unheld-refused (g.L.Look.site c.args.look.now) (g.L.Look.state c.args.look.now) c.args.session c.args.rows.now.known.pool c.requires.current c.requires.reached
    None (sym c.in_err-request.ensures) refl)

pub returns-then-passes : goal.returns-then-passes
returns-then-passes g c = passes-useful (g.L.Look.site c.args.look.now) (g.L.Look.state c.args.look.now) _ _ (sym c.if-passes.ensures) c.requires.current

pub returns-else-passes : goal.returns-else-passes
returns-else-passes g c =
    unheld-refused (g.L.Look.site c.args.look.now) (g.L.Look.state c.args.look.now) c.args.session c.args.rows.now.known.pool c.requires.current c.requires.reached
    (Some c.in_ok-request.request) (sym c.in_ok-request.ensures) (sym c.if-passes.ensures)
