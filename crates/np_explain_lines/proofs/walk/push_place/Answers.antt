use Rattle.np_explain_lines.proofs.Prelude.{IsPending, Some, Thing, ap, inl, inr, ⊎_elim, ◌≡◌}
use Rattle.np_explain_lines.proofs.Pending.{push_pending, push_stays, pushed_alone}
use Rattle.np_explain_lines.proofs.walk.push_place.Goals as goal

pub returns-clause-stay : goal.returns-clause-stay
returns-clause-stay c = λ it has. rw c.in_ok-push.ensures.items (push_stays c.args.pending.now.items _ it has)

pub returns-clause-told : goal.returns-clause-told
returns-clause-told c =
    λ it is. let both : Some (Some c.in-Some-found.thing) ≡ Some (Some it) = rw (c.in-Some.is, c.in-Some-found.is) at is in
    rw c.in_ok-push.ensures.items (push_pending c.args.pending.now.items _ it cc)

pub returns-clause-alone : goal.returns-clause-alone
returns-clause-alone c = λ it has. rw (c.in-Some.is, c.in-Some-found.is) (⊎_elim (λ (old : IsPending c.args.pending.now.items it). inl old)
    (λ (same : c.in-Some-found.thing ≡ it). inr (ap (λ (t : Thing). Some (Some t)) same)) (pushed_alone c.args.pending.now.items _ it (rw c.in_ok-push.ensures.items at has)))
