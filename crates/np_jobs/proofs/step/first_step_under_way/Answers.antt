use Rattle.np_jobs.proofs.Prelude.{sym}
use Rattle.np_jobs.proofs.Settles.{under-chooses}
use Rattle.np_jobs.proofs.step.first_step_under_way.Goals as goal

pub returns : goal.returns
returns g c =
    under-chooses (g.L.Look.site c.args.look.now) (g.L.Look.state c.args.look.now) c.args.rows.now.requester c.args.session c.requires.current
    c.first_step_to_finish-finish.result c.first_step_to_finish-finish.ensures (sym c.if-is_some.ensures)
    c.first_lock-lock.result c.first_lock-lock.ensures (sym c.if-is_some-2.ensures)
    c.first_step_to_take-take.result c.first_step_to_take-take.ensures (sym c.if-is_some-3.ensures)
    c.first_acquire.result c.first_acquire.ensures
