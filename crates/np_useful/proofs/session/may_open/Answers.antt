use Rattle.np_useful.proofs.Prelude.{◌∙◌}
use Rattle.np_useful.proofs.Useful.{has-some}
use Rattle.np_useful.proofs.session.may_open.Goals as goal

pub returns-else-is_none : goal.returns-else-is_none
returns-else-is_none g c =
    c.if-is_none.false
    ∙ has-some (g.L.Look.site c.args.look.now) c.args.role (g.L.Look.state c.args.look.now) c.current_session.result c.current_session.ensures c.if-is_none.ensures
