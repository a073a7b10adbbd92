use Rattle.np_lists.proofs.Prelude.{ap, length, sym, ◌∙◌}
use Rattle.np_lists.proofs.Searches.{length-items_of}
use Rattle.np_lists.proofs.stock.Stock.len.Goals as goal

pub returns : goal.returns
returns g c =
    c.len.ensures ∙ sym (length-items_of c.self.inside.rows c.self.invariant.filled) ∙ ap (λ stock. length stock.items) c.self.view_is
