use Rattle.np_keeper.proofs.Prelude.{Configuration, JobId, Roomy, ap, arith, length, [], ◌<◌}
use Rattle.np_keeper.proofs.Queued.{seen_next}
use Rattle.np_keeper.proofs.handles.all_handles.Goals as goal

pub loop-number-preserved : goal.loop-number-preserved
loop-number-preserved g c =
    let handles = (g.R.Rows.state c.args.rows.now).handles in
    let within : c.loop-number.number < length handles =
    omega (arith, c.loop-number-test.true, ap length c.semaphores-number-end.ensures, ap (λ (x : Configuration). length x.semaphores) c.config-config.ensures, c.requires.semaphores) in
    seen_next (λ (table : Roomy JobId). table.rows) handles c.loop-number.tables.items c.push.new.self.items c.loop-number.number c.in_ok-handles_of.field-0 []
    within c.in_ok-handles_of.ensures c.loop-number.invariant c.in_ok-push.ensures.items
