use Rattle.np_janitor.proofs.Prelude.{None, Some, arith, false, lacks_registration, nat_tests, passes-useful, refl, sym, ◌≡◌}
use Rattle.np_janitor.proofs.Janitors.{first-refused}
use Rattle.np_janitor.proofs.Undeclined.{none-fails}
use Rattle.np_janitor.proofs.janitor.first_fail.Goals as goal

pub returns-then-not-lacks_registration : goal.returns-then-not-lacks_registration
returns-then-not-lacks_registration g c =
    let none_missing : lacks_registration (g.L.Look.site c.args.look.now) (g.L.Look.state c.args.look.now) ≡ false = grind (arith, nat_tests, c.lacks_registration.ensures, c.if-not-lacks_registration.ensures) in
    none-fails (g.L.Look.site c.args.look.now) (g.L.Look.state c.args.look.now) c.requires.reached none_missing c.args.rows.now.known.pool

pub returns-in_default : goal.returns-in_default
returns-in_default g c =
    first-refused (g.L.Look.site c.args.look.now) (g.L.Look.state c.args.look.now) c.args.session c.args.rows.now.known.pool c.requires.current c.requires.reached
    None (sym c.in_default.ensures) refl

pub returns-then-passes : goal.returns-then-passes
returns-then-passes g c = passes-useful (g.L.Look.site c.args.look.now) (g.L.Look.state c.args.look.now) _ _ (sym c.if-passes.ensures) c.requires.current

pub returns-else-passes : goal.returns-else-passes
returns-else-passes g c =
    first-refused (g.L.Look.site c.args.look.now) (g.L.Look.state c.args.look.now) c.args.session c.args.rows.now.known.pool c.requires.current c.requires.reached
    (Some c.in-Some.request) (sym c.in-Some.ensures) (sym c.if-passes.ensures)
