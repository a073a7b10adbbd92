use Rattle.np_lists.proofs.Prelude.{sym, ◌∙◌}
use Rattle.np_lists.proofs.Searches.{remove_first-first, remove_first-none}
use Rattle.np_lists.proofs.Changes.{Rises-remove}
use Rattle.np_lists.proofs.rows.remove_row.Goals as goal

pub place_of-requires : goal.place_of-requires
place_of-requires g c = rw c.as_slice.ensures.value c.requires

pub returns-in_default-clause-rows : goal.returns-in_default-clause-rows
returns-in_default-clause-rows g c = sym (remove_first-none _ _ (rw c.as_slice.ensures.value at c.in_default.ensures.place))

pub returns-clause-rows : goal.returns-clause-rows
returns-clause-rows g c =
    let first = rw c.as_slice.ensures.value at c.in-Some.ensures.place in
    c.remove-row.ensures.items ∙ sym (remove_first-first _ c.args.rows.now.items c.in-Some.at first)

pub returns-clause-rises : goal.returns-clause-rises
returns-clause-rises g c = rw c.remove-row.ensures.items (Rises-remove (λ a b. g.O.Order.before (g.O.Order.key a) (g.O.Order.key b)) c.args.rows.now.items c.in-Some.at c.requires)
