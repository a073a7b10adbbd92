use Rattle.np_lists.proofs.Prelude.{ap, change_first, slice_set, sym, ◌∙◌}
use Rattle.np_lists.proofs.Searches.{change_first-first, change_first-none, first-within}
use Rattle.np_lists.proofs.Changes.{Rises-keys, keys-set}
use Rattle.np_lists.proofs.table.KeyTable.change.Goals as goal

pub returns-in_default-clause-ok : goal.returns-in_default-clause-ok
returns-in_default-clause-ok g c = sym (change_first-none _ _ _ c.in_default.ensures.place)

pub invariant_of-self : goal.invariant_of-self
invariant_of-self g c =
    let first = rw (← c.self.view_is) at c.in-Some.ensures.place in
    Rises-keys g.O.Order.before g.O.Order.key c.self.inside.rows.items _
    (keys-set g.O.Order.before g.O.Order.key c.self.inside.rows.items c.in-Some.at _ c.index_mut-row.result.now (first-within _ _ _ first)
    (ap g.O.Order.key (sym c.index_mut-row.ensures.value) ∙ ap g.O.Order.key (sym c.in_err-make.ensures.err)))
    c.self.invariant

pub invariant_of-self-2 : goal.invariant_of-self-2
invariant_of-self-2 g c =
    let first = rw (← c.self.view_is) at c.in-Some.ensures.place in
    Rises-keys g.O.Order.before g.O.Order.key c.self.inside.rows.items _
    (keys-set g.O.Order.before g.O.Order.key c.self.inside.rows.items c.in-Some.at _ c.index_mut-row.result.now (first-within _ _ _ first)
    (ap g.O.Order.key (sym c.index_mut-row.ensures.value) ∙ sym (c.requires c.index_mut-row.result.now) ∙ ap g.O.Order.key (sym c.in_ok-make.ensures.ok)))
    c.self.invariant

pub returns-clause-ok : goal.returns-clause-ok
returns-clause-ok g c =
    let first = rw (← c.self.view_is) at c.in-Some.ensures.place in
    rw c.in_ok-make.ensures.ok (
    ap (λ row. slice_set c.self.inside.rows.items c.in-Some.at (g.C.RowChange.after c.args.change.now row)) c.index_mut-row.ensures.value
    ∙ sym (change_first-first _ (g.C.RowChange.after c.args.change.now) c.self.inside.rows.items c.in-Some.at c.index_mut-row.result.now first)
    ∙ ap (change_first (λ row. g.O.Order.same (g.O.Order.key row) c.args.key) (g.C.RowChange.after c.args.change.now)) c.self.view_is)
