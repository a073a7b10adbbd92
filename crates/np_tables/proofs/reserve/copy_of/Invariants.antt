use Rattle.np_tables.proofs.Prelude.{take, ◌≡◌}
use Rattle.np_tables.proofs.reserve.copy_of.Given as goal

abbrev pub invariant-loop-session : goal.invariant-loop-session
invariant-loop-session l = l.queue ≡ take l.session-index l.sessions
