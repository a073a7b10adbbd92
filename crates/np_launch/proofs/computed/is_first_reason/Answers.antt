use Rattle.np_launch.proofs.Prelude.{request_in, sym, ◌∙◌}
use Rattle.np_launch.proofs.Launchers.{found-reason}
use Rattle.np_launch.proofs.computed.is_first_reason.Goals as goal

pub returns-in-Some : goal.returns-in-Some
returns-in-Some g c =
    c.is_reason.ensures
    ∙ found-reason (g.R.Rows.site c.args.rows.now) (g.R.Rows.state c.args.rows.now) c.args.pool c.args.reason (request_in c.args.request (g.R.Rows.state c.args.rows.now).requests) c.in-Some.asked c.first_reason.result (sym c.in-Some.ensures) c.first_reason.ensures
