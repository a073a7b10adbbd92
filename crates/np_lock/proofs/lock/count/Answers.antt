use Rattle.np_lock.proofs.WaitLemmas.{count-none, count-some}
use Rattle.np_lock.proofs.lock.count.Goals as goal

pub returns-in-Some : goal.returns-in-Some
returns-in-Some c = count-some c.args.tree.now c.args.dir.now c.in-Some.stat c.requires c.in-Some.ensures

pub returns-in-None : goal.returns-in-None
returns-in-None c = count-none c.args.tree.now c.args.dir.now c.changes.ensures.tree c.in-None.ensures
