use Rattle.np_keeper.proofs.Prelude.{Semaphore, sym, []}
use Rattle.np_keeper.proofs.Enacted.{made-all, made-next}
use Rattle.np_keeper.proofs.start.push_semaphores.Goals as goal

pub loop-ops-preserved : goal.loop-ops-preserved
loop-ops-preserved c = made-next [] (λ n. Semaphore (record { 0 = n })) c.args.config.now.semaphores c.args.ops.now.items c.loop-ops.ops.items c.push_make.new.ops.items c.loop-ops.at c.in-Some.field-0.now (sym c.in-Some.ensures) c.loop-ops.invariant c.in_ok-push_make.ensures

pub returns : goal.returns
returns c = made-all [] (λ n. Semaphore (record { 0 = n })) c.args.config.now.semaphores c.args.ops.now.items c.loop-ops.ops.items c.loop-ops.at (sym c.in_default.ensures) c.loop-ops.invariant
