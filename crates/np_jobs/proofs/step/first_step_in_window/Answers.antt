use Rattle.np_jobs.proofs.Prelude.{sym}
use Rattle.np_jobs.proofs.Settles.{none-begins, past-begins, first-chooses}
use Rattle.np_jobs.proofs.step.first_step_in_window.Goals as goal

pub returns-in_default : goal.returns-in_default
returns-in_default g c =
    none-begins (g.L.Look.site c.args.look.now) (g.L.Look.state c.args.look.now) c.args.rows.now.requester c.args.session c.requires.current (sym c.in_default.ensures)

pub returns-then-not-is_in_window : goal.returns-then-not-is_in_window
returns-then-not-is_in_window g c =
    past-begins (g.L.Look.site c.args.look.now) (g.L.Look.state c.args.look.now) c.args.rows.now.requester c.args.session c.requires.current
    c.in-Some.job (sym c.in-Some.ensures) (sym c.if-not-is_in_window.ensures)

pub returns : goal.returns
returns g c =
    first-chooses (g.L.Look.site c.args.look.now) (g.L.Look.state c.args.look.now) c.args.rows.now.requester c.args.session c.requires.current
    c.in-Some.job (sym c.in-Some.ensures) (sym c.if-not-is_in_window.ensures) c.step_of_new.result c.step_of_new.ensures
