use Rattle.np_useful.proofs.Prelude.{NamesCurrent, subst, sym}
use Rattle.np_useful.proofs.Useful.{current-names}
use Rattle.np_useful.proofs.session.current_session.Goals as goal

pub returns : goal.returns
returns g c =
    subst (NamesCurrent c.args.role (g.L.Look.state c.args.look.now)) (sym c.current_session.ensures) (current-names c.args.role (g.L.Look.state c.args.look.now))
