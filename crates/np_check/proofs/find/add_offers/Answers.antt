use Rattle.np_check.proofs.Prelude.{IfOk-equal, OfferTooLarge, ap, filter, flat_map, is_true, offers_of, sym, [], ◌++◌, ◌∙◌, ◌∷◌}
use Rattle.np_check.proofs.Joined.{filter-flat}
use Rattle.np_check.proofs.find.add_offers.Goals as goal

pub returns : goal.returns
returns c =
    IfOk-equal _ _ _ _ c.add_each.ensures
    (ap (λ ys. c.args.out.now.items ++ ys)
    (ap (flat_map (λ o. filter (is_true c.args.config.now) (OfferTooLarge c.args.pool o.label ∷ []))) c.offers.ensures
    ∙ sym (filter-flat (is_true c.args.config.now) (λ o. OfferTooLarge c.args.pool o.label) (offers_of c.args.config.now c.args.pool))))
