use Rattle.np_tree_rows.proofs.Prelude.{Bool, add-one, ap, drop, false, list_any, option_map_or, rows_at, slice_get, suc, sym, true, ◌||◌, ◌∙◌, ◌≡◌}
use Rattle.np_tree_rows.proofs.Registered.{any-step, is_waiting}
use Rattle.np_tree_rows.proofs.queues.waits.Goals as goal

pub returns-then-waits_at : goal.returns-then-waits_at
returns-then-waits_at c =
    let rows = rows_at c.args.tree.now c.args.lock.now in
    let here : option_map_or (is_waiting c.args.session) (slice_get rows c.loop-at.at) false ≡ true = sym c.waits_at.ensures ∙ c.if-waits_at.true in
    sym (any-step (is_waiting c.args.session) rows c.loop-at.at ∙ ap (λ (b : Bool). b || list_any (is_waiting c.args.session) (drop (suc c.loop-at.at) rows)) here) ∙ c.loop-at.invariant

pub loop-at-preserved : goal.loop-at-preserved
loop-at-preserved c =
    let rows = rows_at c.args.tree.now c.args.lock.now in
    let other : option_map_or (is_waiting c.args.session) (slice_get rows c.loop-at.at) false ≡ false = sym c.waits_at.ensures ∙ c.if-waits_at.false in
    rw add-one (sym (any-step (is_waiting c.args.session) rows c.loop-at.at ∙ ap (λ (b : Bool). b || list_any (is_waiting c.args.session) (drop (suc c.loop-at.at) rows)) other) ∙ c.loop-at.invariant)
