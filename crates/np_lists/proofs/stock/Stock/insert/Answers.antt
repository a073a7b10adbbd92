use Rattle.np_lists.proofs.Prelude.{Some, StockOf, ap, arith, insert, length, length-drop, length-insert, ◌∙◌}
use Rattle.np_lists.proofs.Changes.{length-change_at}
use Rattle.np_lists.proofs.Searches.{length-items_of, row-put}
use Rattle.np_lists.proofs.stock.Stock.insert.Goals as goal

pub insert-requires-clause-within : goal.insert-requires-clause-within
insert-requires-clause-within g c = omega (arith, length-items_of c.self.inside.rows c.self.invariant.filled, ap (λ (stock : StockOf _). length stock.items) c.self.view_is)

pub change-requires : goal.change-requires
change-requires g c =
    let many = length-items_of c.self.inside.rows c.self.invariant.filled in
    let same = ap (λ (stock : StockOf _). length stock.items) c.self.view_is in
    let more = length-insert c.self.inside.rows c.args.place c.remove-piece.result (omega arith) in
    rw c.insert.ensures (omega arith)

pub invariant_of-self : goal.invariant_of-self
invariant_of-self g c =
    let many = length-items_of c.self.inside.rows c.self.invariant.filled in
    let view = ap (λ (stock : StockOf _). length stock.items) c.self.view_is in
    let spare = ap (λ (stock : StockOf _). stock.room) c.self.view_is in
    let more = length-insert c.self.inside.rows c.args.place c.remove-piece.result (omega arith) in
    let same = length-change_at c.args.place (λ _. Some c.args.item) (insert c.self.inside.rows c.args.place c.remove-piece.result) in
    let fewer = length-drop 1 c.self.inside.spare in
    rw (c.change.ensures.items, c.insert.ensures, c.remove-piece.ensures.rest)
    (record { filled = (row-put c.args.item c.self.inside.rows c.args.place c.remove-piece.result c.self.invariant.filled (omega arith)).0; count = omega (arith, c.self.invariant.count) })

pub returns-clause-items : goal.returns-clause-items
returns-clause-items g c =
    let many = length-items_of c.self.inside.rows c.self.invariant.filled in
    let same = ap (λ (stock : StockOf _). length stock.items) c.self.view_is in
    rw (c.change.ensures.items, c.insert.ensures) (row-put c.args.item c.self.inside.rows c.args.place c.remove-piece.result c.self.invariant.filled (omega arith)).1
    ∙ ap (λ (stock : StockOf _). insert stock.items c.args.place c.args.item) c.self.view_is
