use Rattle.np_listing.proofs.Prelude.{State, after, ap, sym, text_of, ◌∙◌}
use Rattle.np_listing.proofs.tally.Tally.summary.Goals as goal

pub returns : goal.returns
returns g c = λ journal runs same.
    let site = g.R.Rows.site c.args.rows.now in
    c.in_ok-text.ensures
    ∙ ap (λ (s : State). text_of site s c.args.self.now) (sym runs.ends)
    ∙ ap (text_of site (after site journal)) same
