use Rattle.np_lock.specs.Calls.{IsLock}
use Rattle.np_low_tests.proofs.locks.enqueues_all.Given as goal

abbrev pub invariant-loop-ahead : goal.invariant-loop-ahead
invariant-loop-ahead l = IsLock l.tree l.dir
