use Rattle.np_lock.specs.Calls.{IsLock}
use Rattle.np_low_tests.proofs.locks.tell_all.Given as goal

abbrev pub invariant-loop-session : goal.invariant-loop-session
invariant-loop-session l = IsLock l.tree l.dir
