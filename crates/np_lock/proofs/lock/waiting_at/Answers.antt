use Rattle.np_lock.proofs.WaitLemmas.{waiting-none, waiting-some}
use Rattle.np_lock.proofs.lock.waiting_at.Goals as goal

pub returns-in_default : goal.returns-in_default
returns-in_default c = waiting-none c.args.tree.now c.args.dir.now c.args.at c.requires c.in_default.ensures

pub returns : goal.returns
returns c = waiting-some c.args.tree.now c.args.dir.now c.args.at c.in-Some.stat c.requires c.in-Some.ensures
