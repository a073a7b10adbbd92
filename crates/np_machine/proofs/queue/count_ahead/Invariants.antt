use Rattle.np_machine.proofs.Prelude.{ahead_of, drop, ◌+◌, ◌≡◌, ◌≤◌}
use Rattle.np_machine.proofs.queue.count_ahead.Given as goal

abbrev pub invariant-loop-other : goal.invariant-loop-other
invariant-loop-other l = (l.ahead ≤ l.other-index) × (l.ahead + ahead_of l.session (drop l.other-index l.queue) ≡ ahead_of l.session l.queue)
