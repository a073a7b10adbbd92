use Rattle.np_lists.proofs.Prelude.{ap, slice_set, sym, ◌∙◌}
use Rattle.np_lists.proofs.Searches.{change_first-first, change_first-none, first-within}
use Rattle.np_lists.proofs.Changes.{Rises-keys, keys-set}
use Rattle.np_lists.proofs.roomy.RoomyTable.edit.Goals as goal

pub place_of-requires : goal.place_of-requires
place_of-requires g c = rw c.as_slice.ensures.value c.self.invariant

pub returns-in_default : goal.returns-in_default
returns-in_default g c = rw (← c.self.view_is) (sym (change_first-none _ _ _ (rw c.as_slice.ensures.value at c.in_default.ensures.place)))

pub invariant_of-self : goal.invariant_of-self
invariant_of-self g c =
    let first = rw c.as_slice.ensures.value at c.in-Some.ensures.place in
    Rises-keys g.O.Order.before g.O.Order.key c.self.inside.rows.items _
    (keys-set g.O.Order.before g.O.Order.key c.self.inside.rows.items c.in-Some.at _ c.index_mut-row.result.now (first-within _ _ _ first)
    (ap g.O.Order.key (sym c.index_mut-row.ensures.value) ∙ sym (c.requires c.index_mut-row.result.now) ∙ ap g.O.Order.key (sym c.make.ensures)))
    c.self.invariant

pub returns : goal.returns
returns g c =
    let first = rw c.as_slice.ensures.value at c.in-Some.ensures.place in
    rw (c.make.ensures, ← c.self.view_is) (
    ap (λ row. slice_set c.self.inside.rows.items c.in-Some.at (g.E.RowEdit.after c.args.edit row)) c.index_mut-row.ensures.value
    ∙ sym (change_first-first _ (g.E.RowEdit.after c.args.edit) c.self.inside.rows.items c.in-Some.at c.index_mut-row.result.now first))
