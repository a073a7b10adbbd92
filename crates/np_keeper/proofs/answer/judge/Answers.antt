use Rattle.np_keeper.proofs.Prelude.{ap, reply_of}
use Rattle.np_keeper.proofs.Enacted.{reply-laid}
use Rattle.np_keeper.proofs.answer.judge.Goals as goal

pub returns-in-Err-clause-laid : goal.returns-in-Err-clause-laid
returns-in-Err-clause-laid c s stored =
    reply-laid c.args.config.now c.args.event s c.args.tree.now _ stored (ap reply_of c.in-Err.ensures.answer)

pub returns-in-Ok-clause-laid : goal.returns-in-Ok-clause-laid
returns-in-Ok-clause-laid c s stored =
    reply-laid c.args.config.now c.args.event s c.args.tree.now _ stored (ap reply_of c.in-Ok.ensures.answer)
