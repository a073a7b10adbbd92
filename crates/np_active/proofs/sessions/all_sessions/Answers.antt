use Rattle.np_active.proofs.Prelude.{SessionId, arith, below-next, groups_of_session, is_session_before, length, refl, same_session, sessions-in_order, subst, sym, ◌+◌, ◌<◌}
use Rattle.np_active.proofs.Changes.{AreSessionsBelow, sessions-all, sessions-none}
use Rattle.np_active.proofs.sessions.all_sessions.Goals as goal

pub loop-at-init : goal.loop-at-init
loop-at-init g c = subst (AreSessionsBelow (g.R.Rows.state c.args.rows.now) 1) (sym c.new-groups.ensures) (sessions-none (g.R.Rows.state c.args.rows.now))

pub loop-at-preserved : goal.loop-at-preserved
loop-at-preserved g c =
    below-next is_session_before same_session sessions-in_order (λ (x : SessionId). x.0) (λ i j out. out) (groups_of_session (g.R.Rows.state c.args.rows.now))
    (c.loop-at.at + 1) (record { 0 = c.loop-at.at + 1 }) c.loop-at.groups.members _ refl c.loop-at.invariant c.in_ok-add_session.ensures

pub returns : goal.returns
returns g c =
    let all : length (g.R.Rows.state c.args.rows.now).sessions < c.loop-at.at + 1 = omega (arith, c.sessions-at-end.ensures, c.loop-at-test.false) in
    sessions-all (g.R.Rows.state c.args.rows.now) (c.loop-at.at + 1) c.loop-at.groups.members all c.loop-at.invariant
