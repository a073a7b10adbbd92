use Rattle.np_listing.proofs.Prelude.{List, ap, arith, map, map-range_with_len_more, range_with_len, sym, width, ℕ, [], ◌++◌, ◌∙◌, ◌∷◌}
use Rattle.np_listing.proofs.columns.widths.Goals as goal

pub loop-column-preserved : goal.loop-column-preserved
loop-column-preserved c =
    let rows = c.args.rows.now in
    let at = c.loop-column.column in
    let before = map (width rows) (range_with_len 0 at) in
    c.in_ok-push.ensures.items
    ∙ ap (λ (ws : List ℕ). ws ++ c.width.result ∷ []) c.loop-column.invariant
    ∙ ap (λ (n : ℕ). before ++ n ∷ []) c.width.ensures
    ∙ sym (map-range_with_len_more (width rows) 0 at at (omega arith))
