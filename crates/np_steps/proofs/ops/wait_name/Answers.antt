use Rattle.np_steps.proofs.Prelude.{Bool, Row, add-one, ap, cond, drop, false, find, is_waiting, name-at, option_map, option_map_or, rows_at, slice_get, suc, sym, true, ◌∙◌, ◌≡◌}
use Rattle.np_steps.proofs.RecordRows.{find-step}
use Rattle.np_steps.proofs.ops.wait_name.Goals as goal

pub returns-then-waits_at : goal.returns-then-waits_at
returns-then-waits_at c =
    let rows = rows_at c.args.tree.now c.args.lock.now in
    let here : option_map_or (is_waiting c.args.session) (slice_get rows c.loop-at.at) false ≡ true = sym c.waits_at.ensures ∙ c.if-waits_at.true in
    let found = find-step (is_waiting c.args.session) rows c.loop-at.at ∙ ap (λ (b : Bool). cond b (slice_get rows c.loop-at.at) (find (is_waiting c.args.session) (drop (suc c.loop-at.at) rows))) here in
    c.child_at.ensures ∙ name-at c.args.tree.now c.args.lock.now c.loop-at.at ∙ ap (option_map (λ (row : Row). row.name)) (sym found ∙ c.loop-at.invariant)

pub loop-at-preserved : goal.loop-at-preserved
loop-at-preserved c =
    let rows = rows_at c.args.tree.now c.args.lock.now in
    let other : option_map_or (is_waiting c.args.session) (slice_get rows c.loop-at.at) false ≡ false = sym c.waits_at.ensures ∙ c.if-waits_at.false in
    let later = find-step (is_waiting c.args.session) rows c.loop-at.at ∙ ap (λ (b : Bool). cond b (slice_get rows c.loop-at.at) (find (is_waiting c.args.session) (drop (suc c.loop-at.at) rows))) other in
    rw add-one (sym later ∙ c.loop-at.invariant)
