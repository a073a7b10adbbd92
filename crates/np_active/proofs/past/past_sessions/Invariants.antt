use Rattle.np_active.proofs.Prelude.{drop, map, past_session, ◌++◌, ◌≡◌}
use Rattle.np_active.proofs.past.past_sessions.Given as goal

abbrev pub invariant-loop-session : goal.invariant-loop-session
invariant-loop-session g l =
    l.list.items ++ map (past_session (g.R.Rows.state l.rows)) (drop l.session-index l.sessions) ≡ map (past_session (g.R.Rows.state l.rows)) l.sessions
