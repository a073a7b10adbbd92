use Rattle.np_lock.proofs.Prelude.{queue_at}
use Rattle.np_lock.proofs.PlaceLemmas.{IsAsked}
use Rattle.np_lock.proofs.lock.ahead.Given as goal

abbrev pub invariant-loop-at : goal.invariant-loop-at
invariant-loop-at l = IsAsked l.session (queue_at l.tree l.dir) l.at
