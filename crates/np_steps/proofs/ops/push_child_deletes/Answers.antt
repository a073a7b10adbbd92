use Rattle.np_steps.proofs.Prelude.{List, Op, Some, add-one, ap, child_name, delete_parts, drop, rows_at, suc, ℕ, ◌++◌, ◌∙◌, ◌≡◌}
use Rattle.np_steps.proofs.RecordRows.{deletes-step}
use Rattle.np_steps.proofs.ops.push_child_deletes.Goals as goal

pub loop-at-preserved : goal.loop-at-preserved
loop-at-preserved c =
    let t = c.args.tree.now in
    let dir = c.args.dir.now in
    let named : Some c.in-Some.name.now ≡ child_name t dir c.loop-at.at = c.in-Some.ensures ∙ ap (λ (p : List ℕ). child_name t p c.loop-at.at) c.text-in-loop-at.ensures.text in
    rw add-one (ap (λ (items : List Op). items ++ delete_parts dir (drop (suc c.loop-at.at) (rows_at t dir))) c.in_ok-push_child_delete.ensures
    ∙ deletes-step c.loop-at.ops.items dir t c.loop-at.at c.in-Some.name.now named
    ∙ c.loop-at.invariant)
