use Rattle.np_launch.proofs.Prelude.{RequestId, add-one, any_found, any_later, ap, arith, as_it_is, drop-past, is_in_hand_at, length, list_any, not-past, queued_requests, refl, sym, ◌<◌, ◌∙◌, ◌≤◌}
use Rattle.np_launch.proofs.Finds.{any-in_hand}
use Rattle.np_launch.proofs.requests.has_request_in_hand.Goals as goal

pub returns-in_default : goal.returns-in_default
returns-in_default g c =
    let low : c.loop-at.at < length (queued_requests c.args.session (g.L.Look.state c.args.look.now)) = omega (arith, c.queued_requests-at-end.ensures, c.loop-at-test.true) in
    absurd (not-past (queued_requests c.args.session (g.L.Look.state c.args.look.now)) c.loop-at.at low (sym c.in_default.ensures))

pub returns-then-is_in_hand : goal.returns-then-is_in_hand
returns-then-is_in_hand g c =
    let such = is_in_hand_at c.args.pool c.args.session (g.L.Look.state c.args.look.now) in
    sym (any_found such (λ (r : RequestId). r) such (λ r. refl) (queued_requests c.args.session (g.L.Look.state c.args.look.now)) c.loop-at.at c.in-Some.request (as_it_is _ c.in-Some.request (sym c.in-Some.ensures)) (sym (rw c.rows.ensures.state at c.if-is_in_hand.ensures)))
    ∙ c.loop-at.invariant
    ∙ any-in_hand (g.L.Look.site c.args.look.now) (g.L.Look.state c.args.look.now) c.requires c.args.pool c.args.session

pub loop-at-preserved : goal.loop-at-preserved
loop-at-preserved g c =
    let such = is_in_hand_at c.args.pool c.args.session (g.L.Look.state c.args.look.now) in
    rw add-one (sym (any_later such (λ (r : RequestId). r) such (λ r. refl) (queued_requests c.args.session (g.L.Look.state c.args.look.now)) c.loop-at.at c.in-Some.request (as_it_is _ c.in-Some.request (sym c.in-Some.ensures)) (sym (rw c.rows.ensures.state at c.if-is_in_hand.ensures))) ∙ c.loop-at.invariant)

pub returns : goal.returns
returns g c =
    let past : length (queued_requests c.args.session (g.L.Look.state c.args.look.now)) ≤ c.loop-at.at = omega (arith, c.queued_requests-at-end.ensures, c.loop-at-test.false) in
    sym (ap (list_any (is_in_hand_at c.args.pool c.args.session (g.L.Look.state c.args.look.now))) (drop-past (queued_requests c.args.session (g.L.Look.state c.args.look.now)) c.loop-at.at past))
    ∙ c.loop-at.invariant
    ∙ any-in_hand (g.L.Look.site c.args.look.now) (g.L.Look.state c.args.look.now) c.requires c.args.pool c.args.session
