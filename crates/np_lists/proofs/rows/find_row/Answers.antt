use Rattle.np_lists.proofs.Prelude.{Some, ap, slice_get-get_or, sym, ◌∙◌}
use Rattle.np_lists.proofs.Searches.{find-first, find-none, first-within}
use Rattle.np_lists.proofs.rows.find_row.Goals as goal

pub returns-in-Some : goal.returns-in-Some
returns-in-Some g c =
    let first = c.in-Some.ensures.place in
    ap Some c.index-rows-at.is
    ∙ sym (slice_get-get_or c.args.rows.now c.in-Some.at c.index-rows-at.result (first-within _ _ _ first))
    ∙ sym (find-first _ _ _ first)

pub returns-in-None : goal.returns-in-None
returns-in-None g c = sym (find-none _ _ c.in-None.ensures.place)
