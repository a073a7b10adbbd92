use Rattle.np_active.proofs.Prelude.{◌+◌}
use Rattle.np_active.proofs.Changes.{AreSessionsBelow}
use Rattle.np_active.proofs.sessions.all_sessions.Given as goal

abbrev pub invariant-loop-at : goal.invariant-loop-at
invariant-loop-at g l = AreSessionsBelow (g.R.Rows.state l.rows) (l.at + 1) l.groups.members
