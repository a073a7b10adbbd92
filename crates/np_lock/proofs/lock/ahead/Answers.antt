use Rattle.np_lock.proofs.Prelude.{length, queue_at, sym, ◌≤◌}
use Rattle.np_lock.proofs.PlaceLemmas.{IsAsked-more, IsAsked-none, ahead-here, ahead-none}
use Rattle.np_lock.proofs.lock.ahead.Goals as goal

pub loop-at-init : goal.loop-at-init
loop-at-init c = IsAsked-none c.args.session (queue_at c.args.tree.now c.args.dir.now)

pub loop-at-preserved : goal.loop-at-preserved
loop-at-preserved c = IsAsked-more c.args.session (queue_at c.args.tree.now c.args.dir.now) c.loop-at.at (sym c.if-waits_at.ensures) c.loop-at.invariant

pub returns-then-waits_at : goal.returns-then-waits_at
returns-then-waits_at c = sym (ahead-here c.args.session (queue_at c.args.tree.now c.args.dir.now) c.loop-at.at (sym c.if-waits_at.ensures) c.loop-at.invariant)

pub returns : goal.returns
returns c =
    let long : length (queue_at c.args.tree.now c.args.dir.now) ≤ c.loop-at.at = rw c.count-at-end.ensures at c.loop-at-test.false in
    sym (ahead-none c.args.session (queue_at c.args.tree.now c.args.dir.now) c.loop-at.at long c.loop-at.invariant)
