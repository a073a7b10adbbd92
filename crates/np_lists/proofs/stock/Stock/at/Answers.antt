use Rattle.np_lists.proofs.Prelude.{None, Some, ap, option_copied, slice_get, sym, ◌∙◌, ◌≡◌}
use Rattle.np_lists.proofs.Searches.{row-at}
use Rattle.np_lists.proofs.stock.Stock.at.Goals as goal

pub returns-in_err-at : goal.returns-in_err-at
returns-in_err-at g c =
    let none : slice_get c.self.inside.rows c.args.place ≡ None = sym c.at.ensures ∙ ap option_copied c.in_err-at.was in
    let row = row-at c.self.inside.rows c.args.place c.self.invariant.filled in
    c.from_residual.ensures ∙ (rw none at row) ∙ ap (λ stock. slice_get stock.items c.args.place) c.self.view_is

pub returns : goal.returns
returns g c =
    let there : slice_get c.self.inside.rows c.args.place ≡ Some c.in_ok-at.field-0.now = sym c.at.ensures ∙ ap option_copied c.in_ok-at.was in
    let row = row-at c.self.inside.rows c.args.place c.self.invariant.filled in
    (rw there at row) ∙ ap (λ stock. slice_get stock.items c.args.place) c.self.view_is
