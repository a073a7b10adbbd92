use Rattle.np_tree_rows.proofs.Prelude.{List, None, RequestEntry, Some, ap, arith, is_queued, length, rows_at, ℕ, ◌∙◌, ◌≡◌, ◌≤◌}
use Rattle.np_tree_rows.proofs.Shown.{requests-counted}
use Rattle.np_tree_rows.proofs.Registered.{count-step, passing-past}
use Rattle.np_tree_rows.proofs.queues.queued_requests.Goals as goal

pub loop-at-preserved-in_default : goal.loop-at-preserved-in_default
loop-at-preserved-in_default c = record {
  few = omega arith;
  all = λ config s stored.
      let step = count-step (λ (e : RequestEntry). is_queued c.args.session e.queue) (λ (e : RequestEntry). e.id) s.requests c.loop-at.at None (c.in_default.ensures config s stored) in
      let before = c.loop-at.invariant.all config s stored in
      omega (arith, step, before);
}

pub loop-at-preserved : goal.loop-at-preserved
loop-at-preserved c = record {
  few = omega arith;
  all = λ config s stored.
      let step = count-step (λ (e : RequestEntry). is_queued c.args.session e.queue) (λ (e : RequestEntry). e.id) s.requests c.loop-at.at (Some c.in-Some.field-0) (c.in-Some.ensures config s stored) in
      let before = c.loop-at.invariant.all config s stored in
      omega (arith, step, before);
}

pub returns : goal.returns
returns c config s stored =
    let counted : c.children-at-end.result ≡ length s.requests = c.children-at-end.ensures ∙ ap (λ (p : List ℕ). length (rows_at c.args.tree.now p)) (c.text.ensures ∙ c.of.ensures) ∙ requests-counted config s c.args.tree.now stored in
    let past : length s.requests ≤ c.loop-at.at = (let end = c.loop-at-test.false in omega (arith, counted, end)) in
    let none = ap length (passing-past (λ (e : RequestEntry). is_queued c.args.session e.queue) (λ (e : RequestEntry). e.id) s.requests c.loop-at.at past) in
    let before = c.loop-at.invariant.all config s stored in
    omega (arith, none, before)
