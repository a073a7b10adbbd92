use Rattle.np_lists.proofs.Prelude.{IsSplit, StockOf, ap, prefix_len, subst, sym, ◌∙◌}
use Rattle.np_lists.proofs.Searches.{prefix_len-items_of, IsSplit-items_of}
use Rattle.np_lists.proofs.stock.Stock.place.Goals as goal

pub place-requires : goal.place-requires
place-requires g c =
    let before = g.P.Probe.before c.args.probe.now in
    let split = subst (λ (stock : StockOf _). IsSplit before stock.items) (sym c.self.view_is) c.requires.split in
    record { split = IsSplit-items_of before c.self.inside.rows c.self.invariant.filled split }

pub returns : goal.returns
returns g c =
    let before = g.P.Probe.before c.args.probe.now in
    c.place.ensures
    ∙ prefix_len-items_of before c.self.inside.rows c.self.invariant.filled
    ∙ ap (λ (stock : StockOf _). prefix_len before stock.items) c.self.view_is
