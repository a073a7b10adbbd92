use Rattle.np_lists.proofs.Prelude.{StockOf, ap, arith, length, length-remove, remove, ◌∙◌}
use Rattle.np_lists.proofs.Searches.{length-items_of, row-taken}
use Rattle.np_lists.proofs.stock.Stock.remove.Goals as goal

pub remove-piece-requires : goal.remove-piece-requires
remove-piece-requires g c = omega (arith, length-items_of c.self.inside.rows c.self.invariant.filled, ap (λ (stock : StockOf _). length stock.items) c.self.view_is)

pub invariant_of-self : goal.invariant_of-self
invariant_of-self g c =
    let many = length-items_of c.self.inside.rows c.self.invariant.filled in
    let view = ap (λ (stock : StockOf _). length stock.items) c.self.view_is in
    let fewer = length-remove c.self.inside.rows c.args.place (omega arith) in
    rw (c.remove-piece.ensures.rest, c.insert.ensures) (record { filled = (row-taken c.self.inside.rows c.args.place c.self.invariant.filled).0; count = omega (arith, c.self.invariant.count) })

pub returns-clause-items : goal.returns-clause-items
returns-clause-items g c =
    rw (c.remove-piece.ensures.rest) (row-taken c.self.inside.rows c.args.place c.self.invariant.filled).1
    ∙ ap (λ (stock : StockOf _). remove stock.items c.args.place) c.self.view_is
