use Rattle.np_look.proofs.Prelude.{None, SessionId, add-one, arith, is_session, length, node_queue, refl, slice_get, slice_get_within, sym, ◌<◌, ◌∙◌, ◌≡◌}
use Rattle.np_look.proofs.Looks.{any_found, any_later, any_past, as_it_is, is-session, not-session, queue-fits}
use Rattle.np_look.proofs.predicates.waits_at_node.Goals as goal

pub returns-then-other-session : goal.returns-then-other-session
returns-then-other-session g c =
    sym (any_found (λ (other : SessionId). is_session other c.args.session) (λ (other : SessionId). other) (λ (other : SessionId). is_session other c.args.session) (λ other. refl) (node_queue c.args.node (g.R.Rows.state c.args.rows.now).nodes) c.loop-other.at c.in-Some.other (as_it_is _ c.in-Some.other (sym c.in-Some.ensures)) (is-session c.in-Some.other c.args.session c.if-other-session.true))
    ∙ c.loop-other.invariant.all

pub overflow_add-at : goal.overflow_add-at
overflow_add-at g c =
    omega (arith, slice_get_within _ c.loop-other.at c.in-Some.other (sym c.in-Some.ensures), queue-fits (g.R.Rows.site c.args.rows.now) (g.R.Rows.state c.args.rows.now) c.args.node c.requires)

pub loop-other-smaller : goal.loop-other-smaller
loop-other-smaller g c =
    omega (arith, slice_get_within _ c.loop-other.at c.in-Some.other (sym c.in-Some.ensures))

pub loop-other-preserved : goal.loop-other-preserved
loop-other-preserved g c =
    let within : c.loop-other.at < length (node_queue c.args.node (g.R.Rows.state c.args.rows.now).nodes) = slice_get_within _ c.loop-other.at c.in-Some.other (sym c.in-Some.ensures) in
    record {
      within = omega (arith, within);
      all = rw add-one (sym (any_later (λ (x : SessionId). is_session x c.args.session) (λ (x : SessionId). x) (λ (x : SessionId). is_session x c.args.session) (λ x. refl) (node_queue c.args.node (g.R.Rows.state c.args.rows.now).nodes) c.loop-other.at c.in-Some.other (as_it_is _ c.in-Some.other (sym c.in-Some.ensures)) (not-session c.in-Some.other c.args.session c.if-other-session.false)) ∙ c.loop-other.invariant.all);
    }

pub returns : goal.returns
returns g c =
    let none : slice_get (node_queue c.args.node (g.R.Rows.state c.args.rows.now).nodes) c.loop-other.at ≡ None = sym c.in_default.ensures in
    sym (any_past (λ (x : SessionId). is_session x c.args.session) (node_queue c.args.node (g.R.Rows.state c.args.rows.now).nodes) c.loop-other.at none) ∙ c.loop-other.invariant.all
