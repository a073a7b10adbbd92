use Rattle.np_explain_lines.proofs.Prelude.{IsPending, Thing, inl, inr, refl, sym, ⊎_elim, ◌≡◌}
use Rattle.np_explain_lines.proofs.Pending.{push_pending, push_stays, pushed_alone}
use Rattle.np_explain_lines.proofs.walk.push_waiting.Goals as goal

pub returns-clause-stay : goal.returns-clause-stay
returns-clause-stay g c = λ it has. rw c.in_ok-push.ensures.items (push_stays c.args.pending.now.items _ it has)

pub returns-clause-told : goal.returns-clause-told
returns-clause-told g c = λ is. rw c.in_ok-push.ensures.items (push_pending c.args.pending.now.items _ (Thing.Job c.args.job) refl)

pub returns-clause-alone : goal.returns-clause-alone
returns-clause-alone g c = λ it has. ⊎_elim (λ (old : IsPending c.args.pending.now.items it). inl old)
    (λ (same : Thing.Job c.args.job ≡ it). inr (c.args.job, sym same, (let waits = c.waits.ensures in cc))) (pushed_alone c.args.pending.now.items _ it (rw c.in_ok-push.ensures.items at has))
