use Rattle.np_launch.proofs.Prelude.{None, Some, passes-useful, refl, sym}
use Rattle.np_launch.proofs.Launchers.{first-useless}
use Rattle.np_launch.proofs.launcher.first_lock.Goals as goal

pub returns-in_default : goal.returns-in_default
returns-in_default g c =
    first-useless (g.L.Look.site c.args.look.now) (g.L.Look.state c.args.look.now) c.args.rows.now.pool c.args.session c.requires.current None (sym c.in_default.ensures) refl

pub returns-then-passes : goal.returns-then-passes
returns-then-passes g c = passes-useful (g.L.Look.site c.args.look.now) (g.L.Look.state c.args.look.now) _ _ (sym c.if-passes.ensures) c.requires.current

pub returns-else-passes : goal.returns-else-passes
returns-else-passes g c =
    first-useless (g.L.Look.site c.args.look.now) (g.L.Look.state c.args.look.now) c.args.rows.now.pool c.args.session c.requires.current
    (Some c.in-Some.request) (sym c.in-Some.ensures) (sym c.if-passes.ensures)
