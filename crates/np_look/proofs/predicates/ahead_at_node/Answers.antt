use Rattle.np_look.proofs.Prelude.{None, add-one, arith, false, is_session, length, node_queue, slice_get, slice_get_within, sym, true, ◌<◌, ◌≡◌}
use Rattle.np_look.proofs.Looks.{is-session, not-session, queue-fits, ahead-here, ahead-past}
use Rattle.np_look.proofs.predicates.ahead_at_node.Goals as goal

pub returns-then-other-session : goal.returns-then-other-session
returns-then-other-session g c =
    let here : is_session c.in-Some.other c.args.session ≡ true = is-session c.in-Some.other c.args.session c.if-other-session.true in
    let step = ahead-here c.args.session (node_queue c.args.node (g.R.Rows.state c.args.rows.now).nodes) c.loop-other.ahead c.in-Some.other (sym c.in-Some.ensures) in
    omega (arith, rw here at step, c.loop-other.invariant.all)

pub overflow_add-ahead : goal.overflow_add-ahead
overflow_add-ahead g c =
    omega (arith, slice_get_within _ c.loop-other.ahead c.in-Some.other (sym c.in-Some.ensures), queue-fits (g.R.Rows.site c.args.rows.now) (g.R.Rows.state c.args.rows.now) c.args.node c.requires)

pub loop-other-smaller : goal.loop-other-smaller
loop-other-smaller g c =
    omega (arith, slice_get_within _ c.loop-other.ahead c.in-Some.other (sym c.in-Some.ensures))

pub loop-other-preserved : goal.loop-other-preserved
loop-other-preserved g c =
    let within : c.loop-other.ahead < length (node_queue c.args.node (g.R.Rows.state c.args.rows.now).nodes) = slice_get_within _ c.loop-other.ahead c.in-Some.other (sym c.in-Some.ensures) in
    let other : is_session c.in-Some.other c.args.session ≡ false = not-session c.in-Some.other c.args.session c.if-other-session.false in
    let step = ahead-here c.args.session (node_queue c.args.node (g.R.Rows.state c.args.rows.now).nodes) c.loop-other.ahead c.in-Some.other (sym c.in-Some.ensures) in
    record {
      within = omega (arith, within);
      all = rw add-one (omega (arith, rw other at step, c.loop-other.invariant.all));
    }

pub returns : goal.returns
returns g c =
    let none : slice_get (node_queue c.args.node (g.R.Rows.state c.args.rows.now).nodes) c.loop-other.ahead ≡ None = sym c.in_default.ensures in
    omega (arith, ahead-past c.args.session (node_queue c.args.node (g.R.Rows.state c.args.rows.now).nodes) c.loop-other.ahead none, c.loop-other.invariant.all)
