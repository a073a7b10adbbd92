use Rattle.np_listing.proofs.Prelude.{List, ap, cell_text, drop, length, width_at, ℕ, ◌++◌, ◌+◌, ◌<◌, ◌∙◌, ◌≡◌}
use Rattle.np_listing.proofs.Walks.{cells_text-put}
use Rattle.np_listing.proofs.columns.put_cells.Goals as goal

pub loop-column-preserved : goal.loop-column-preserved
loop-column-preserved c =
    let at = c.loop-column.column in
    let old = c.loop-column.out.items in
    let cell = c.index-cells-column.result in
    let within : at < length c.args.row.now = rw c.items-cells.ensures at c.loop-column-test.true in
    let next : c.split_at.result.1.now ≡ drop (at + 1) c.args.row.now = c.split_at.ensures.back ∙ ap (drop (at + 1)) c.items-cells.ensures in
    let put : c.put_cell.new.out.items ≡ old ++ cell_text (width_at c.args.widths.now at) cell (drop (at + 1) c.args.row.now) =
    c.in_ok-put_cell.ensures
    ∙ ap (λ (width : ℕ). old ++ cell_text width cell c.split_at.result.1.now) c.width_at.ensures
    ∙ ap (λ (rest : List (List ℕ)). old ++ cell_text (width_at c.args.widths.now at) cell rest) next in
    cells_text-put c.args.widths.now c.args.row.now at cell old c.put_cell.new.out.items _ within (rw c.items-cells.ensures at c.index-cells-column.is) put
    c.loop-column.invariant
