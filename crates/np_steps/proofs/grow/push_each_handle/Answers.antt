use Rattle.np_steps.proofs.Prelude.{List, Op, SemId, add-one, ap, append-nil, arith, drop, drop-cons, drop_all, get_or, has_handle, length, refl, suc, sym, ◌++◌, ◌<◌, ◌∙◌, ◌≤◌}
use Rattle.np_steps.proofs.RecordRows.{handle_parts, handles-step}
use Rattle.np_steps.proofs.grow.push_each_handle.Goals as goal

pub loop-semaphore-preserved : goal.loop-semaphore-preserved
loop-semaphore-preserved g c =
    let s = g.R.Rows.state c.args.rows.now in
    let i = c.loop-semaphore.semaphore-index in
    let j = c.args.job in
    let xs = c.args.semaphores.now in
    let items = c.loop-semaphore.ops.items in
    let x = get_or xs i (record { 0 = 0 }) in
    let within : i < length xs = omega arith in
    rw add-one (ap (λ (made : List Op). made ++ handle_parts j (drop (suc i) xs) s.handles) c.in_ok-push_handle.ensures
    ∙ handles-step items j x (has_handle j s.handles x) s.handles (drop (suc i) xs) refl
    ∙ ap (λ (rest : List SemId). items ++ handle_parts j rest s.handles) (sym (drop-cons xs i (record { 0 = 0 }) within))
    ∙ c.loop-semaphore.invariant)

pub returns : goal.returns
returns g c =
    let s = g.R.Rows.state c.args.rows.now in
    let i = c.loop-semaphore.semaphore-index in
    let xs = c.args.semaphores.now in
    let items = c.loop-semaphore.ops.items in
    let past : length xs ≤ i = omega arith in
    sym (append-nil items)
    ∙ ap (λ (rest : List SemId). items ++ handle_parts c.args.job rest s.handles) (sym (drop_all i xs past))
    ∙ c.loop-semaphore.invariant
