use Rattle.np_lock.proofs.Prelude.{after_delete}
use Rattle.np_lock.proofs.LeaveLemmas.{Leaves-path, leave-refused}
use Rattle.np_lock.proofs.WaitLemmas.{IsLock-number}
use Rattle.np_lock.proofs.lock.leave.Goals as goal

pub returns-in-Ok-clause-queue : goal.returns-in-Ok-clause-queue
returns-in-Ok-clause-queue c =
    let leaves = Leaves-path c.args.tree.now c.args.session c.args.dir.now c.args.path.now c.text.ensures.path c.changes.ensures.tree c.requires.lock c.requires.path in
    rw c.in-Ok.ensures.ok (leaves.queue c.in-Ok.ensures.answer)

pub returns-in-Ok-clause-lock : goal.returns-in-Ok-clause-lock
returns-in-Ok-clause-lock c =
    let leaves = Leaves-path c.args.tree.now c.args.session c.args.dir.now c.args.path.now c.text.ensures.path c.changes.ensures.tree c.requires.lock c.requires.path in
    rw c.in-Ok.ensures.ok (IsLock-number (after_delete c.args.tree.now c.args.path.now) c.args.dir.now (leaves.lock c.in-Ok.ensures.answer))

pub returns-in-Err-clause-answer : goal.returns-in-Err-clause-answer
returns-in-Err-clause-answer c =
    let leaves = Leaves-path c.args.tree.now c.args.session c.args.dir.now c.args.path.now c.text.ensures.path c.changes.ensures.tree c.requires.lock c.requires.path in
    rw c.from.ensures (leave-refused c.args.tree.now c.args.session c.args.dir.now c.args.path.now c.in-Err.fault c.changes.ensures.tree leaves c.in-Err.ensures.answer)
